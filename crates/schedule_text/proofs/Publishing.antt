-- The events of a schedule may happen in every state with the modes of its header.
use Rattle.std.proofs.Common.{◌≡◌, ◌≢◌, ℕ, zero, suc, ◌<◌, ◌==◌, Bool, true, false, cond, ◌&&◌, ◌||◌, List, [], ◌∷◌, ◌++◌, length, get_or, Result, Ok, Err, refl, sym, subst, ap, ◌∙◌, arith}
use Rattle.std.specs.Prelude.{nat_lt, map, IfOk}
use Rattle.std.specs.List.{All, AllPairs, list_all, list_any}
use Rattle.std.proofs.Math.ListN.{get_or-map}
use Rattle.std.proofs.lemmas.Bool.{ltb-true}
use Rattle.std.proofs.lemmas.Bool.Decides.{nat_tests}
use Rattle.std.proofs.lemmas.List.Elements.{All-nil, All-cons, All-push, All-weaker}
use Rattle.std.proofs.lemmas.List.Quantifiers.{all_pairs_push}
use Rattle.std.proofs.lemmas.List.{length-map}
use Rattle.span_base.specs.Policy.{IsSoundPolicy}
use Rattle.span_base.specs.declared.policy.Policy.{Policy}
use Rattle.span_base.specs.declared.policy.Policy.TheVariants as policy
use Rattle.wire_msg.proofs.SoundTest.{decide_sound}
use Rattle.epoch_directory.specs.declared.table.SetPolicy.{SetPolicy}
use Rattle.epoch_directory.specs.Tables.{is_line_of, IsNextTable}
use Rattle.epoch_directory.specs.State as directory
use Rattle.world_core.specs.declared.event.Header.{Header}
use Rattle.schedule_text.specs.declared.setting.Mode.{Mode}
use Rattle.schedule_text.specs.declared.setting.Mode.TheVariants as mode
use Rattle.schedule_text.specs.declared.setting.Setting.{Setting}
use Rattle.schedule_text.specs.declared.flaw.Flaw.{Flaw}
use Rattle.schedule_text.specs.declared.flaw.Flaw.TheVariants.{Syntax, Range}
use Rattle.schedule_text.specs.declared.flaw.Flaw.TheVariants as flaw
use Rattle.schedule_text.specs.Flaws.{both, judged}
use Rattle.schedule_text.specs.Words.{entries_of}
use Rattle.schedule_text.specs.Numbers.{count_says, one_of}
use Rattle.schedule_text.specs.Policies.{policy_says}
use Rattle.schedule_text.specs.Tables.{mode_of, entry_says, with_new, with_entry, entries_from, is_mode, may_publish, fits_set, fitting, table_says}
use Rattle.schedule_text.specs.Laws.{HasModes}
use Rattle.schedule_text.proofs.Read.{made_ok, judged_ok, both_ok, test_ok}

-- the sets of a table are there, each once
pub record Lists (sets : ℕ) (table : List SetPolicy) : Type 0 where
  pub exist : All (λ line. line.set.0 < sets) table
  pub once : AllPairs (λ line other. line.set.0 ≢ other.set.0) table

abbrev ListsIf : ℕ → Result (List SetPolicy) Flaw → Type 0
ListsIf sets table = IfOk table (Lists sets)

entry_exists : (setting : Setting) (words : List (List ℕ)) (entry : SetPolicy) → entry_says setting words ≡ Ok entry → entry.set.0 < length setting.modes
unfolding entry_says
entry_exists setting [] entry h = absurd (cc)
entry_exists setting (set ∷ words) entry h =
    let number = judged (count_says set) (one_of (length setting.modes)) in
    let line = λ (it : ℕ × Policy). (let line : SetPolicy = record { set = record { 0 = it.0 }; policy = it.1 } in line) in
    let it = made_ok line (both number (policy_says setting.replicas words)) entry h in
    let parts = both_ok number (policy_says setting.replicas words) it.0 it.1 in
    let n = judged_ok (count_says set) (one_of (length setting.modes)) it.0.0 parts.0 in
    let test = test_ok (nat_lt n.0 (length setting.modes)) (Ok n.0) Range it.0.0 n.2 in
    let below : n.0 < length setting.modes = ltb-true n.0 (length setting.modes) test.0 in
    let same : n.0 ≡ it.0.0 = cc in
    subst (λ (line : SetPolicy). line.set.0 < length setting.modes) it.2 (subst (λ (x : ℕ). x < length setting.modes) same below)

-- a set that isn't listed is none of those that are
not_listed : (set : ℕ) (table : List SetPolicy) → list_any (is_line_of set) table ≡ false → (k : ℕ) (d : SetPolicy) → k < length table → (get_or table k d).set.0 ≢ set
not_listed set [] none k d within = absurd (omega arith)
not_listed set (line ∷ table) none zero d within = λ same. absurd (grind (arith, nat_tests))
not_listed set (line ∷ table) none (suc k) d within = not_listed set table (rest (line.set.0 == set) none) k d (omega arith)
  where
    rest : (b : Bool) → (b || list_any (is_line_of set) table) ≡ false → list_any (is_line_of set) table ≡ false
    rest true h = absurd (cc)
    rest false h = h

entry_added : (sets : ℕ) (table : List SetPolicy) (entry : SetPolicy) → Lists sets table → entry.set.0 < sets → ListsIf sets (with_new table entry)
entry_added sets table entry so below = by_test (list_any (is_line_of entry.set.0) table) refl
  where
    by_test : (b : Bool) → list_any (is_line_of entry.set.0) table ≡ b → ListsIf sets (cond {A = Result (List SetPolicy) Flaw} b (Err Range) (Ok (table ++ entry ∷ [])))
    by_test true is = tt
    by_test false is = record {
      exist = All-push (λ (line : SetPolicy). line.set.0 < sets) table entry so.exist below;
      once = all_pairs_push (λ (line other : SetPolicy). line.set.0 ≢ other.set.0) table entry so.once (not_listed entry.set.0 table is);
    }

added_lists : (sets : ℕ) (table : Result (List SetPolicy) Flaw) (entry : Result SetPolicy Flaw) → ListsIf sets table → IfOk entry (λ line. line.set.0 < sets) → ListsIf sets (with_entry table entry)
added_lists sets (Ok table) (Ok entry) so below = entry_added sets table entry so below
added_lists sets (Ok table) (Err flaw) so below = tt
added_lists sets (Err flaw) (Ok entry) so below = tt
added_lists sets (Err flaw) (Err right) so below = tt

entries_list : (setting : Setting) (table : Result (List SetPolicy) Flaw) (entries : List (List (List ℕ))) → ListsIf (length setting.modes) table → ListsIf (length setting.modes) (entries_from setting table entries)
unfolding entries_from
entries_list setting table [] so = so
entries_list setting table (words ∷ entries) so =
    entries_list setting (with_entry table (entry_says setting words)) entries (added_lists (length setting.modes) table (entry_says setting words) so (below (entry_says setting words) refl))
  where
    below : (said : Result SetPolicy Flaw) → entry_says setting words ≡ said → IfOk said (λ line. line.set.0 < length setting.modes)
    below (Ok entry) is = entry_exists setting words entry is
    below (Err flaw) is = tt

all_fit : (modes : List Mode) (table : List SetPolicy) → list_all (fits_set modes) table ≡ true → All (λ line. fits_set modes line ≡ true) table
all_fit modes [] h = All-nil (λ line. fits_set modes line ≡ true)
all_fit modes (line ∷ table) h =
    let it = parts (fits_set modes line) (list_all (fits_set modes) table) h in
    All-cons (λ line. fits_set modes line ≡ true) line table it.0 (all_fit modes table it.1)
  where
    parts : (a b : Bool) → (a && b) ≡ true → (a ≡ true) × (b ≡ true)
    parts true b h = (refl, h)
    parts false b h = absurd (cc)

-- what is read of a table
pub record Fits (modes : List Mode) (table : List SetPolicy) : Type 0 where
  pub lists : Lists (length modes) table
  pub fits : All (λ line. fits_set modes line ≡ true) table

pub table_fits : (setting : Setting) (words : List (List ℕ)) (table : List SetPolicy) → table_says setting words ≡ Ok table → Fits setting.modes table
unfolding table_says
table_fits setting [] table h = subst (Fits setting.modes) none (record {
  lists = record { exist = λ k d within. absurd (omega arith); once = λ i j d order within. absurd (omega arith) };
  fits = λ k d within. absurd (omega arith);
})
  where
    none : [] ≡ table
    none = cc
table_fits setting (word ∷ words) table h =
    let entries = entries_from setting (Ok []) (entries_of (word ∷ words)) in
    let it = judged_ok entries (fitting setting.modes) table h in
    let test = test_ok (list_all (fits_set setting.modes) it.0) (Ok it.0) flaw.Policy table it.2 in
    let none : ListsIf (length setting.modes) (Ok []) = record { exist = λ k d within. absurd (omega arith); once = λ i j d order within. absurd (omega arith) } in
    let lists : ListsIf (length setting.modes) (Ok it.0) = subst (ListsIf (length setting.modes)) it.1 (entries_list setting (Ok []) (entries_of (word ∷ words)) none) in
    let same : it.0 ≡ table = cc in
    subst (Fits setting.modes) same (record { lists = lists; fits = all_fit setting.modes it.0 test.0 })

is_same_mode : (one other : Policy) → is_mode (mode_of one) (mode_of other) ≡ true → directory.HasSameMode one other
is_same_mode (policy.Direct f replicas primary) (policy.Direct g others near) h = tt
is_same_mode (policy.Direct f replicas primary) (policy.Relay g others near hops) h = absurd (cc)
is_same_mode (policy.Direct f replicas primary) (policy.Strong g others members) h = absurd (cc)
is_same_mode (policy.Relay f replicas primary parent) (policy.Direct g others near) h = absurd (cc)
is_same_mode (policy.Relay f replicas primary parent) (policy.Relay g others near hops) h = tt
is_same_mode (policy.Relay f replicas primary parent) (policy.Strong g others members) h = absurd (cc)
is_same_mode (policy.Strong f replicas members) (policy.Direct g others near) h = absurd (cc)
is_same_mode (policy.Strong f replicas members) (policy.Relay g others near hops) h = absurd (cc)
is_same_mode (policy.Strong f replicas members) (policy.Strong g others quorums) h = tt

-- an eventual policy that may be published is sound
is_sound_listed : (one other : Policy) → is_mode (mode_of one) (mode_of other) ≡ true → may_publish other ≡ true → directory.is_strong one ≡ false → IsSoundPolicy other
is_sound_listed one (policy.Direct g others near) h may eventual = (decide_sound (policy.Direct g others near)).0 may
is_sound_listed one (policy.Relay g others near hops) h may eventual = (decide_sound (policy.Relay g others near hops)).0 may
is_sound_listed (policy.Direct f replicas primary) (policy.Strong g others members) h may eventual = absurd (cc)
is_sound_listed (policy.Relay f replicas primary parent) (policy.Strong g others members) h may eventual = absurd (cc)
is_sound_listed (policy.Strong f replicas quorums) (policy.Strong g others members) h may eventual = absurd (cc)

-- a table that was read may be published
pub table_may : (header : Header) (table : List SetPolicy) (state : directory.State) → Fits (map mode_of header.sets) table → HasModes header state → IsNextTable state table
table_may header table state so modes = record {
  exist = All-weaker (λ (line : SetPolicy). line.set.0 < length (map mode_of header.sets)) (λ (line : SetPolicy). line.set.0 < directory.set_count state) (λ line below. omega (arith, below, count)) table so.lists.exist;
  once = so.lists.once;
  modes = All-weaker (λ (line : SetPolicy). fits_set (map mode_of header.sets) line ≡ true) (λ (line : SetPolicy). directory.HasSameMode (directory.policy_in state 1 line.set.0) line.policy)
      (λ line fits. is_same_mode (directory.policy_in state 1 line.set.0) line.policy (its_mode line fits).0) table so.fits;
  sound = All-weaker (λ (line : SetPolicy). fits_set (map mode_of header.sets) line ≡ true) (λ (line : SetPolicy). directory.is_strong_set state line.set.0 ≡ false → IsSoundPolicy line.policy)
      (λ line fits. is_sound_listed (directory.policy_in state 1 line.set.0) line.policy (its_mode line fits).0 (its_mode line fits).1) table so.fits;
}
  where
    count : directory.set_count state ≡ length (map mode_of header.sets)
    count = sym (length-map (directory.table_in state 1) mode_of) ∙ ap length modes

    mode_is : (set : ℕ) → get_or (map mode_of header.sets) set mode.Direct ≡ mode_of (directory.policy_in state 1 set)
    mode_is set = ap (λ (ms : List Mode). get_or ms set mode.Direct) (sym modes) ∙ get_or-map mode_of (directory.table_in state 1) set directory.no_policy

    parts : (a b : Bool) → (a && b) ≡ true → (a ≡ true) × (b ≡ true)
    parts true b h = (refl, h)
    parts false b h = absurd (cc)

    its_mode : (line : SetPolicy) → fits_set (map mode_of header.sets) line ≡ true → (is_mode (mode_of (directory.policy_in state 1 line.set.0)) (mode_of line.policy) ≡ true) × (may_publish line.policy ≡ true)
    its_mode line fits =
        let it = parts (is_mode (get_or (map mode_of header.sets) line.set.0 mode.Direct) (mode_of line.policy)) (may_publish line.policy) fits in
        (subst (λ (m : Mode). is_mode m (mode_of line.policy) ≡ true) (mode_is line.set.0) it.0, it.1)
