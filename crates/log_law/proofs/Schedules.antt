-- The values in a schedule that is read are values.
use Rattle.std.proofs.Common.{◌≡◌, inl, inr, ℕ, ◌+◌, ◌≤◌, Bool, true, false, cond, ◌&&◌, List, [], ◌∷◌, length, Option, Some, None, Result, Ok, Err, refl, sym, subst, arith}
use Rattle.register_law.proofs.Words.{and_right}
use Rattle.std.specs.Prelude.{◌⊎◌, nat_le, codes, IfOk, Contains}
use Rattle.std.specs.List.{list_all}
use Rattle.std.proofs.lemmas.Bool.{leb-true}
use Rattle.hex.specs.declared.error.FromHexError.{FromHexError}
use Rattle.hex.specs.Hex.{decode_of}
use Rattle.hex.proofs.HexLemmas.{decode_of-ok}
use Rattle.run_marks.specs.declared.mark.Work.{Work}
use Rattle.run_marks.specs.declared.mark.Work.TheVariants as work
use Rattle.register_order.proofs.Members.{among, none_among}
use Rattle.epoch_directory.specs.declared.table.SetPolicy.{SetPolicy}
use Rattle.world_core.specs.declared.event.Event.{Event}
use Rattle.world_core.specs.declared.event.Event.TheVariants as event
use Rattle.schedule_text.specs.declared.setting.Form.{Form}
use Rattle.schedule_text.specs.declared.setting.Setting.{Setting}
use Rattle.schedule_text.specs.declared.fault.ScheduleFault.{ScheduleFault}
use Rattle.schedule_text.specs.Flaws.{both, made, formed}
use Rattle.schedule_text.specs.Words.{words_of, is_word, one, two, three, lines_of}
use Rattle.schedule_text.specs.Numbers.{is_lower_digit, decoded, count_says, value_says}
use Rattle.schedule_text.specs.Headers.{Opened, header_says, begin_line}
use Rattle.schedule_text.specs.Tables.{setting_of, table_says}
use Rattle.schedule_text.specs.Events.{plain_call, call_says, write_says, put_says, stop_of, stop_says, give_up_says, delivers, deliver_says, event_by, by_words, event_says}
use Rattle.schedule_text.specs.Schedules.{Schedule, schedule_of, first_fault, events_of, ahead_of, unless_fault, with_events}
use Rattle.history_audit.specs.Ranges.{FitsValue, FitsWork}
use Rattle.log_law.specs.Fits.{FitsEvent}
use Rattle.log_law.proofs.Basics.{empty_fits}

decoded_is : (read : Result (List ℕ) FromHexError) (value : List ℕ) → decoded read ≡ Ok value → read ≡ Ok value
decoded_is (Ok bytes) value h = let same : bytes ≡ value = cc in subst (λ (x : List ℕ). let r : Result (List ℕ) FromHexError = Ok bytes in r ≡ Ok x) same refl
decoded_is (Err fault) value h = absurd (cc)

bytes_fit : (text value : List ℕ) → length text ≤ 8192 → decode_of text ≡ Ok value → FitsValue value
bytes_fit text value few h =
    let read = decode_of-ok text value h in
    let twice = read.2 in
    record { few = omega (arith, few, twice); bytes = read.3 }

first_of : (a b : Bool) → (a && b) ≡ true → a ≡ true
first_of true b h = refl
first_of false b h = absurd (cc)

-- one of two ways
one_way : {X : Type 0} → (b : Bool) (x y z : X) → cond b x y ≡ z → ((b ≡ true) × (x ≡ z)) ⊎ ((b ≡ false) × (y ≡ z))
one_way {X} true x y z h = inl (refl, h)
one_way {X} false x y z h = inr (refl, h)

value_fits : (text value : List ℕ) → value_says text ≡ Ok value → FitsValue value
unfolding value_says
value_fits text value h = elim (one_way (is_word text (codes "-")) _ _ (Ok value) h) as (λ _. FitsValue value) [
  | inl e ↦ (let same : [] ≡ value = cc e.1 in subst FitsValue same empty_fits)
  | inr e ↦ elim (one_way (nat_le 2 (length text) && (nat_le (length text) 8192 && list_all is_lower_digit text)) _ _ (Ok value) e.1) as (λ _. FitsValue value) [
    | inl small ↦
        bytes_fit text value (leb-true (length text) 8192 (first_of (nat_le (length text) 8192) (list_all is_lower_digit text) (and_right (nat_le 2 (length text)) (nat_le (length text) 8192 && list_all is_lower_digit text) small.0)))
        (decoded_is (decode_of text) value small.1)
    | inr long ↦ absurd (cc long.1)
  ]
]

-- where an event was read its value is one
abbrev Fits : {F : Type 0} → Result Event F → Type 0
Fits {F} said = IfOk said FitsEvent

-- one of two
either : {F : Type 0} → (b : Bool) (x y : Result Event F) → Fits x → Fits y → Fits (cond b x y)
either {F} true x y p q = p
either {F} false x y p q = q

plain_fits : (w : Work) (words : List (List ℕ)) → FitsWork w → Fits (plain_call w words)
unfolding plain_call
plain_fits w words f = by_parts (two words)
  where
    by_numbers : (said : Result (ℕ × ℕ) _) → Fits (made (λ n. event.Start n.0 n.1 w) said)
    by_numbers (Ok n) = f
    by_numbers (Err flaw) = tt

    by_parts : (parts : Option (List ℕ × List ℕ)) → Fits (formed parts (λ it. made (λ n. event.Start n.0 n.1 w) (both (count_says it.0) (count_says it.1))))
    by_parts None = tt
    by_parts (Some it) = by_numbers (both (count_says it.0) (count_says it.1))

called_fits : (words : List (List ℕ)) (read : (ℕ × ℕ) × List ℕ) → call_says words ≡ Ok read → FitsValue read.1
unfolding call_says
called_fits words read h = by_parts (three words) h
  where
    by_value : (text : List ℕ) (numbers : Result (ℕ × ℕ) _) (value : Result (List ℕ) _) → value_says text ≡ value → both numbers value ≡ Ok read → FitsValue read.1
    by_value text (Ok n) (Ok v) is e = let same : (n, v) ≡ read = cc in subst (λ (x : (ℕ × ℕ) × List ℕ). FitsValue x.1) same (value_fits text v is)
    by_value text (Ok n) (Err flaw) is e = absurd (cc)
    by_value text (Err flaw) (Ok v) is e = absurd (cc)
    by_value text (Err left) (Err right) is e = absurd (cc)

    by_parts : (parts : Option (List ℕ × List ℕ × List ℕ)) → formed parts (λ it. both (both (count_says it.0) (count_says it.1)) (value_says it.2)) ≡ Ok read → FitsValue read.1
    by_parts None e = absurd (cc)
    by_parts (Some it) e = by_value it.2 (both (count_says it.0) (count_says it.1)) (value_says it.2) refl e

write_fits : (words : List (List ℕ)) → Fits (write_says words)
unfolding write_says
write_fits words = by_said (call_says words) refl
  where
    by_said : (said : Result ((ℕ × ℕ) × List ℕ) _) → call_says words ≡ said → Fits (made (λ n. event.Start n.0.0 n.0.1 (work.Write n.1)) said)
    by_said (Ok n) is = called_fits words n is
    by_said (Err flaw) is = tt

put_fits : (words : List (List ℕ)) → Fits (put_says words)
unfolding put_says
put_fits words = by_said (call_says words) refl
  where
    by_said : (said : Result ((ℕ × ℕ) × List ℕ) _) → call_says words ≡ said → Fits (made (λ n. event.Start n.0.0 n.0.1 (work.Put n.1)) said)
    by_said (Ok n) is = called_fits words n is
    by_said (Err flaw) is = tt

stop_fits : (words : List (List ℕ)) → Fits (stop_says words)
unfolding stop_says
stop_fits words = by_parts (two words)
  where
    replica : (said : Result ℕ _) → Fits (made event.StopReplica said)
    replica (Ok n) = tt
    replica (Err flaw) = tt

    proxy : (said : Result ℕ _) → Fits (made event.StopProxy said)
    proxy (Ok n) = tt
    proxy (Err flaw) = tt

    by_parts : (parts : Option (List ℕ × List ℕ)) → Fits (formed parts stop_of)
    by_parts None = tt
    by_parts (Some it) = either (is_word it.0 (codes "replica")) _ _ (replica (count_says it.1)) (either (is_word it.0 (codes "proxy")) _ _ (proxy (count_says it.1)) tt)

given_up_fits : (words : List (List ℕ)) → Fits (give_up_says words)
unfolding give_up_says
given_up_fits words = by_parts (two words)
  where
    by_numbers : (said : Result (ℕ × ℕ) _) → Fits (made (λ n. event.GiveUp n.0 n.1) said)
    by_numbers (Ok n) = tt
    by_numbers (Err flaw) = tt

    by_parts : (parts : Option (List ℕ × List ℕ)) → Fits (formed parts (λ it. made (λ n. event.GiveUp n.0 n.1) (both (count_says it.0) (count_says it.1))))
    by_parts None = tt
    by_parts (Some it) = by_numbers (both (count_says it.0) (count_says it.1))

delivered_fits : (words : List (List ℕ)) → Fits (deliver_says words)
unfolding deliver_says
delivered_fits words = by_part (one words)
  where
    by_number : (said : Result ℕ _) → Fits (made event.Deliver said)
    by_number (Ok n) = tt
    by_number (Err flaw) = tt

    by_part : (part : Option (List ℕ)) → Fits (formed part (λ text. made event.Deliver (count_says text)))
    by_part None = tt
    by_part (Some text) = by_number (count_says text)

published_fits : (said : Result (List SetPolicy) _) → Fits (made event.Publish said)
published_fits (Ok table) = tt
published_fits (Err flaw) = tt

fits_by : (setting : Setting) (word : List ℕ) (words : List (List ℕ)) → Fits (event_by setting word words)
unfolding event_by
fits_by setting word words =
    either (is_word word (codes "read")) (plain_call work.Read words) _ (plain_fits work.Read words tt)
    (either (is_word word (codes "write")) (write_says words) _ (write_fits words)
    (either (is_word word (codes "get")) (plain_call work.Get words) _ (plain_fits work.Get words tt)
    (either (is_word word (codes "getany")) (plain_call work.GetAny words) _ (plain_fits work.GetAny words tt)
    (either (is_word word (codes "put")) (put_says words) _ (put_fits words)
    (either (is_word word (codes "move")) (plain_call work.Move words) _ (plain_fits work.Move words tt)
    (either (is_word word (codes "deliver") && delivers setting.form) (deliver_says words) _ (delivered_fits words)
    (either (is_word word (codes "stop")) (stop_says words) _ (stop_fits words)
    (either (is_word word (codes "give-up")) (give_up_says words) _ (given_up_fits words)
    (either (is_word word (codes "publish")) (made event.Publish (table_says setting words)) _ (published_fits (table_says setting words)) tt)))))))))

line_fits : (setting : Setting) (text : List ℕ) → Fits (event_says setting text)
unfolding event_says
line_fits setting text = by_pieces (words_of text)
  where
    by_pieces : (pieces : List (List ℕ)) → Fits (by_words setting pieces)
    by_pieces [] = tt
    by_pieces (word ∷ words) = fits_by setting word words

-- each of the events
abbrev pub AllFit : List Event → Type 0
AllFit events = (event : Event) → Contains events event → FitsEvent event

ahead_fits : (said : Result Event _) (events : List Event) → Fits said → AllFit events → AllFit (ahead_of said events)
ahead_fits (Ok first) events f all e c = elim (among first events e c) as (λ _. FitsEvent e) [ inl is ↦ subst FitsEvent (sym is) f | inr more ↦ all e more ]
ahead_fits (Err flaw) events f all e c = absurd (none_among e c)

events_fit : (setting : Setting) (lines : List (List ℕ)) → AllFit (events_of setting lines)
unfolding events_of
events_fit setting [] e c = absurd (none_among e c)
events_fit setting (text ∷ texts) e c = ahead_fits (event_says setting text) (events_of setting texts) (line_fits setting text) (events_fit setting texts) e c

pub schedule_fits : (form : Form) (text : List ℕ) (schedule : Schedule) → schedule_of form text ≡ Ok schedule → AllFit schedule.events
schedule_fits form text schedule h = by_header (header_says (lines_of text)) h
  where
    by_fault : (it : Opened) (fault : Option ScheduleFault)
        → unless_fault (record { header = it.header; events = events_of (setting_of form it.header) it.lines }) fault ≡ Ok schedule → AllFit schedule.events
    by_fault it None is =
        let read : Schedule = record { header = it.header; events = events_of (setting_of form it.header) it.lines } in
        let same : read ≡ schedule = cc in
        subst (λ (x : Schedule). AllFit x.events) same (events_fit (setting_of form it.header) it.lines)
    by_fault it (Some fault) is = absurd (cc)

    by_header : (said : Result Opened ScheduleFault) → with_events form said ≡ Ok schedule → AllFit schedule.events
    by_header (Err fault) is = absurd (cc)
    by_header (Ok it) is = by_fault it (first_fault (setting_of form it.header) (begin_line it.header + 1) 1 it.lines) is
