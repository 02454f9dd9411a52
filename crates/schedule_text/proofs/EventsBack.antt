-- The line that is printed of an event says that event.
use Rattle.std.proofs.Common.{◌≡◌, ◌≢◌, ℕ, suc, ◌<◌, ◌≤◌, ◌^◌, ◌==◌, Bool, true, false, ◌||◌, List, [], ◌∷◌, ◌++◌, length, slice_index_or, Result, Ok, refl, sym, ap, ◌∙◌, append_assoc, append-nil, arith}
use Rattle.std.specs.Prelude.{codes, map}
use Rattle.std.specs.List.{All, AllPairs, flat_map, list_all, list_any}
use Rattle.std.proofs.lemmas.List.Folds.{list_any-append}
use Rattle.std.specs.Fmt.{decimal}
use Rattle.std.proofs.lemmas.Bool.{and_from, lt-ltb, false_from_ne_true, eqb-true}
use Rattle.std.proofs.lemmas.List.Elements.{All-head, All-tail}
use Rattle.std.proofs.lemmas.List.{length-map}
use Rattle.run_marks.specs.declared.mark.Work.{Work}
use Rattle.run_marks.specs.declared.mark.Work.TheVariants as work
use Rattle.run_marks.specs.Text.{value_text}
use Rattle.epoch_directory.specs.declared.table.SetPolicy.{SetPolicy}
use Rattle.epoch_directory.specs.Tables.{is_line_of}
use Rattle.world_core.specs.declared.event.Header.{Header}
use Rattle.world_core.specs.declared.event.Event.{Event}
use Rattle.world_core.specs.declared.event.Event.TheVariants as event
use Rattle.world_core.specs.Run.{IsHeader}
use Rattle.schedule_text.specs.declared.flaw.Flaw.{Flaw}
use Rattle.schedule_text.specs.declared.setting.Form.{Form}
use Rattle.schedule_text.specs.declared.setting.Form.TheVariants as form
use Rattle.schedule_text.specs.declared.setting.Mode.{Mode}
use Rattle.schedule_text.specs.declared.setting.Setting.{Setting}
use Rattle.schedule_text.specs.Flaws.{judged}
use Rattle.schedule_text.specs.Words.{words_of, entries_of, is_joint}
use Rattle.schedule_text.specs.Events.{plain_call, call_says, write_says, put_says, stop_says, give_up_says, deliver_says, event_by, by_words, event_says}
use Rattle.schedule_text.specs.Tables.{mode_of, setting_of, entry_says, with_entry, entries_from, fits_set, fitting, table_says}
use Rattle.schedule_text.specs.Printed.{joined, line_text, entry_words, table_words, call_words, event_words, event_text}
use Rattle.schedule_text.specs.Spellable.{IsSpelledPolicy, IsSpelledWork, IsSpelledTable, IsSpelledEvent}
use Rattle.schedule_text.proofs.Joining.{AllFree, split_joined}
use Rattle.schedule_text.proofs.Bytes.{AllHave, is_print, is_inked, all_inked, all_free, print_digits, print_value, no_joints, have_both}
use Rattle.schedule_text.proofs.NumbersBack.{count_back, value_back}
use Rattle.schedule_text.proofs.PoliciesBack.{policy_back, policy_print}

-- a line falls into its words
pub words_back : (word : List ℕ) (words : List (List ℕ)) → AllHave is_inked (word ∷ words) → words_of (line_text (word ∷ words)) ≡ word ∷ words
words_back word words have = split_joined (λ c. c == 32) 32 word words refl (all_free is_inked 32 (word ∷ words) refl have)

print_count : (n : ℕ) → n < 2 ^ 32 → AllHave is_print (decimal n ∷ [])
print_count n low = (print_digits n (omega (arith, low)), tt)

print_counts : (n m : ℕ) → n < 2 ^ 32 → m < 2 ^ 32 → AllHave is_print (decimal n ∷ decimal m ∷ [])
print_counts n m low small = (print_digits n (omega (arith, low)), print_count m small)

-- ---- calls

call_back : (setting : Setting) (proxy key : ℕ) (work : Work) → proxy < 2 ^ 32 → key < 2 ^ 32 → IsSpelledWork work → by_words setting (call_words proxy key work) ≡ Ok (event.Start proxy key work)
unfolding call_words event_by plain_call call_says write_says put_says
call_back setting proxy key work.Read p k is = rw (count_back proxy p) (rw (count_back key k) refl)
call_back setting proxy key (work.Write value) p k is = rw (count_back proxy p) (rw (count_back key k) (rw (value_back value is) refl))
call_back setting proxy key work.Get p k is = rw (count_back proxy p) (rw (count_back key k) refl)
call_back setting proxy key work.GetAny p k is = rw (count_back proxy p) (rw (count_back key k) refl)
call_back setting proxy key (work.Put value) p k is = rw (count_back proxy p) (rw (count_back key k) (rw (value_back value is) refl))
call_back setting proxy key work.Move p k is = rw (count_back proxy p) (rw (count_back key k) refl)

call_print : (proxy key : ℕ) (work : Work) → proxy < 2 ^ 32 → key < 2 ^ 32 → IsSpelledWork work → AllHave is_print (call_words proxy key work)
unfolding call_words
call_print proxy key work.Read p k is = (refl, print_counts proxy key p k)
call_print proxy key (work.Write value) p k is = (refl, have_both is_print (decimal proxy ∷ decimal key ∷ []) (value_text value ∷ []) (print_counts proxy key p k) (print_value value is.bytes, tt))
call_print proxy key work.Get p k is = (refl, print_counts proxy key p k)
call_print proxy key work.GetAny p k is = (refl, print_counts proxy key p k)
call_print proxy key (work.Put value) p k is = (refl, have_both is_print (decimal proxy ∷ decimal key ∷ []) (value_text value ∷ []) (print_counts proxy key p k) (print_value value is.bytes, tt))
call_print proxy key work.Move p k is = (refl, print_counts proxy key p k)

-- ---- tables

-- what holds of the entries of a table, entry by entry
record IsEntry (replicas sets : ℕ) (entry : SetPolicy) : Type 0 where
  exists : entry.set.0 < sets
  spelled : IsSpelledPolicy replicas entry.policy

entry_back : (setting : Setting) (entry : SetPolicy) → setting.replicas ≤ 16 → length setting.modes ≤ 64 → IsEntry setting.replicas (length setting.modes) entry → entry_says setting (entry_words entry) ≡ Ok entry
unfolding entry_says entry_words
entry_back setting entry few small is =
    let low = is.exists in
    rw (count_back entry.set.0 (omega (arith, small, low))) (rw (lt-ltb entry.set.0 (length setting.modes) is.exists) (rw (policy_back setting.replicas entry.policy few is.spelled) refl))

-- no entry of a table has the set of one of these
abbrev AreNew : List SetPolicy → List SetPolicy → Type 0
AreNew done table = All (λ entry. list_any (is_line_of entry.set.0) done ≡ false) table

abbrev AreOnce : List SetPolicy → Type 0
AreOnce table = AllPairs (λ entry other. entry.set.0 ≢ other.set.0) table

new_behind : (done table : List SetPolicy) (entry : SetPolicy) → AreNew done (entry ∷ table) → AreOnce (entry ∷ table) → AreNew (done ++ entry ∷ []) table
new_behind done table entry new once =
    λ k d within. let other = slice_index_or table k d in
    list_any-append (is_line_of other.set.0) done (entry ∷ [])
    ∙ ap (λ (b : Bool). b || ((entry.set.0 == other.set.0) || false)) (new (suc k) d (omega (arith, within)))
    ∙ ap (λ (b : Bool). b || false) (false_from_ne_true (entry.set.0 == other.set.0) (λ h. once 0 (suc k) d (omega arith) (omega (arith, within)) (eqb-true entry.set.0 other.set.0 h)))

entries_back : (setting : Setting) (done table : List SetPolicy) → setting.replicas ≤ 16 → length setting.modes ≤ 64 → All (IsEntry setting.replicas (length setting.modes)) table → AreNew done table → AreOnce table
    → entries_from setting (Ok done) (map entry_words table) ≡ Ok (done ++ table)
unfolding entries_from
entries_back setting done [] few small all new once = ap Ok (sym (append-nil done))
entries_back setting done (entry ∷ table) few small all new once =
    let is = IsEntry setting.replicas (length setting.modes) in
    ap (λ (r : Result (List SetPolicy) Flaw). entries_from setting r (map entry_words table)) (added (entry_back setting entry few small (All-head is entry table all)) (All-head (λ entry. list_any (is_line_of entry.set.0) done ≡ false) entry table new))
    ∙ entries_back setting (done ++ entry ∷ []) table few small (All-tail is entry table all) (new_behind done table entry new once) (λ i j d before within. once (suc i) (suc j) d (omega (arith, before)) (omega (arith, within)))
    ∙ ap Ok (append_assoc done (entry ∷ []) table)
  where
    added : entry_says setting (entry_words entry) ≡ Ok entry → list_any (is_line_of entry.set.0) done ≡ false → with_entry (Ok done) (entry_says setting (entry_words entry)) ≡ Ok (done ++ entry ∷ [])
    added says none = rw says (rw none refl)

all_fit : (modes : List Mode) (table : List SetPolicy) → All (λ entry. fits_set modes entry ≡ true) table → list_all (fits_set modes) table ≡ true
all_fit modes [] all = refl
all_fit modes (entry ∷ table) all = and_from _ _ (All-head (λ entry. fits_set modes entry ≡ true) entry table all) (all_fit modes table (All-tail (λ entry. fits_set modes entry ≡ true) entry table all))

entry_print : (replicas sets : ℕ) (entry : SetPolicy) → replicas ≤ 16 → sets ≤ 64 → IsEntry replicas sets entry → AllHave is_print (entry_words entry)
unfolding entry_words
entry_print replicas sets entry few small is = let low = is.exists in (print_digits entry.set.0 (omega (arith, small, low)), policy_print replicas entry.policy few is.spelled)

-- entries without the word that joins them
entries_free : (replicas sets : ℕ) (table : List SetPolicy) → replicas ≤ 16 → sets ≤ 64 → All (IsEntry replicas sets) table → AllFree is_joint (map entry_words table)
entries_free replicas sets [] few small all = tt
entries_free replicas sets (entry ∷ table) few small all =
    (no_joints (entry_words entry) (entry_print replicas sets entry few small (All-head (IsEntry replicas sets) entry table all)), entries_free replicas sets table few small (All-tail (IsEntry replicas sets) entry table all))

entry_inked : (replicas sets : ℕ) (entry : SetPolicy) → replicas ≤ 16 → sets ≤ 64 → IsEntry replicas sets entry → AllHave is_inked (entry_words entry)
entry_inked replicas sets entry few small is = all_inked (entry_words entry) (entry_print replicas sets entry few small is)

table_print : (replicas sets : ℕ) (table : List SetPolicy) → replicas ≤ 16 → sets ≤ 64 → All (IsEntry replicas sets) table → AllHave is_inked (table_words table)
unfolding joined
table_print replicas sets [] few small all = tt
table_print replicas sets (entry ∷ table) few small all =
    have_both is_inked (entry_words entry) (flat_map (λ next. codes ";" ∷ next) (map entry_words table)) (entry_inked replicas sets entry few small (All-head is entry table all)) (later table (All-tail is entry table all))
  where
    is : SetPolicy → Type 0
    is = IsEntry replicas sets

    later : (table : List SetPolicy) → All (IsEntry replicas sets) table → AllHave is_inked (flat_map (λ next. codes ";" ∷ next) (map entry_words table))
    later [] all = tt
    later (entry ∷ table) all =
        have_both is_inked (codes ";" ∷ entry_words entry) (flat_map (λ next. codes ";" ∷ next) (map entry_words table))
        (refl, entry_inked replicas sets entry few small (All-head (IsEntry replicas sets) entry table all)) (later table (All-tail (IsEntry replicas sets) entry table all))

-- the words of a table that has an entry
some_words : (setting : Setting) (entry : SetPolicy) (table : List SetPolicy)
    → table_says setting (table_words (entry ∷ table)) ≡ judged (entries_from setting (Ok []) (entries_of (table_words (entry ∷ table)))) (fitting setting.modes)
unfolding joined entry_words table_says
some_words setting entry table = refl

table_back : (setting : Setting) (table : List SetPolicy) → setting.replicas ≤ 16 → length setting.modes ≤ 64 → All (IsEntry setting.replicas (length setting.modes)) table → AreOnce table
    → list_all (fits_set setting.modes) table ≡ true → table_says setting (table_words table) ≡ Ok table
unfolding joined table_says
table_back setting [] few small all once fit = refl
table_back setting (entry ∷ table) few small all once fit =
    some_words setting entry table
    ∙ ap (λ (entries : List (List (List ℕ))). judged (entries_from setting (Ok []) entries) (fitting setting.modes))
    (split_joined is_joint (codes ";") (entry_words entry) (map entry_words table) refl (entries_free setting.replicas (length setting.modes) (entry ∷ table) few small all))
    ∙ ap (λ (r : Result (List SetPolicy) Flaw). judged r (fitting setting.modes)) (entries_back setting [] (entry ∷ table) few small all (λ k d within. refl) once)
    ∙ rw fit refl

-- the entries of a table that is spelled
are_entries : (form : Form) (header : Header) (table : List SetPolicy) → IsSpelledTable header table → All (IsEntry header.replicas (length (map mode_of header.sets))) table
are_entries form header table is =
    λ k d within. record { exists = let e = length-map header.sets mode_of in let low = is.exist k d within in omega (arith, e, low); spelled = is.policies k d within }

-- ---- events

modes_few : (header : Header) → IsHeader header → length (map mode_of header.sets) ≤ 64
modes_few header is = let few = is.sets.1 in let e = length-map header.sets mode_of in omega (arith, few, e)

event_by_words : (form : Form) (header : Header) (event : Event) → IsHeader header → IsSpelledEvent form header event → by_words (setting_of form header) (event_words event) ≡ Ok event
unfolding event_words event_by deliver_says stop_says give_up_says
event_by_words form header (event.Start proxy key work) opens is = call_back (setting_of form header) proxy key work is.0 is.1 is.2
event_by_words form.Plain header (event.Deliver message) opens is = rw (count_back message is) refl
event_by_words form.Script header (event.Deliver message) opens is = absurd is
event_by_words form header (event.StopReplica replica) opens is = rw (count_back replica is) refl
event_by_words form header (event.StopProxy proxy) opens is = rw (count_back proxy is) refl
event_by_words form header (event.GiveUp proxy seq) opens is = rw (count_back proxy is.0) (rw (count_back seq is.1) refl)
event_by_words form header (event.Publish table) opens is =
    rw (table_back (setting_of form header) table opens.replicas.1 (modes_few header opens) (are_entries form header table is) is.once (all_fit (map mode_of header.sets) table is.fit)) refl

pub event_inked : (form : Form) (header : Header) (event : Event) → IsHeader header → IsSpelledEvent form header event → AllHave is_inked (event_words event)
unfolding event_words
event_inked form header (event.Start proxy key work) opens is = all_inked (call_words proxy key work) (call_print proxy key work is.0 is.1 is.2)
event_inked form.Plain header (event.Deliver message) opens is = (refl, all_inked (decimal message ∷ []) (print_count message is))
event_inked form.Script header (event.Deliver message) opens is = absurd is
event_inked form header (event.StopReplica replica) opens is = (refl, (refl, all_inked (decimal replica ∷ []) (print_count replica is)))
event_inked form header (event.StopProxy proxy) opens is = (refl, (refl, all_inked (decimal proxy ∷ []) (print_count proxy is)))
event_inked form header (event.GiveUp proxy seq) opens is = (refl, all_inked (decimal proxy ∷ decimal seq ∷ []) (print_counts proxy seq is.0 is.1))
event_inked form header (event.Publish table) opens is = (refl, table_print header.replicas (length (map mode_of header.sets)) table opens.replicas.1 (modes_few header opens) (are_entries form header table is))

-- a line of words
pub words_say : (setting : Setting) (words : List (List ℕ)) (event : Event) → AllHave is_inked words → by_words setting words ≡ Ok event → event_says setting (line_text words) ≡ Ok event
unfolding event_says
words_say setting [] event have says = absurd (cc)
words_say setting (word ∷ words) event have says = ap (by_words setting) (words_back word words have) ∙ says

pub event_back : (form : Form) (header : Header) (event : Event) → IsHeader header → IsSpelledEvent form header event → event_says (setting_of form header) (event_text event) ≡ Ok event
event_back form header event opens is = words_say (setting_of form header) (event_words event) event (event_inked form header event opens is) (event_by_words form header event opens is)
