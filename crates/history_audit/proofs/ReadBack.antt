-- The line that is written of a mark says that mark.
use Rattle.std.proofs.Common.{◌≡◌, ℕ, suc, ◌+◌, ◌/◌, ◌%◌, ◌^◌, ◌<◌, ◌≤◌, ◌==◌, Bool, true, false, ◌&&◌, cond, List, [], ◌∷◌, ◌++◌, length, Some, None, append_assoc, refl, sym, ap, subst, ◌∙◌, arith}
use Rattle.std.specs.Prelude.{codes, slice_index}
use Rattle.std.specs.List.{list_all}
use Rattle.std.specs.Fmt.{decimal}
use Rattle.std.proofs.lemmas.Bool.{and_from, eqb-true, eq-eqb, false_from_ne_true, le-leb}
use Rattle.std.proofs.lemmas.Fmt.{decimal_by_steps_wide}
use Rattle.std.proofs.lemmas.List.Sums.{AllPass-from_list_all}
use Rattle.hex.specs.Hex.{encode_lower, encode_with, lower_digits, IsBytes}
use Rattle.hex.proofs.HexLemmas.{decode_of-encode_lower, length-encode_with}
use Rattle.span_base.specs.declared.ids.Call.{Call}
use Rattle.span_base.specs.declared.ids.KeyId.{KeyId}
use Rattle.span_base.specs.declared.ids.SetId.{SetId}
use Rattle.span_base.proofs.Spelling.{decimal_reads}
use Rattle.ticket_rules.specs.declared.stamp.Stamp.{Stamp}
use Rattle.wire_msg.specs.declared.outputs.Reply.{Reply}
use Rattle.wire_msg.specs.declared.outputs.Reply.TheVariants as r
use Rattle.run_marks.specs.declared.mark.Work.{Work}
use Rattle.run_marks.specs.declared.mark.Work.TheVariants as w
use Rattle.run_marks.specs.declared.mark.NoEpochCause.{NoEpochCause}
use Rattle.run_marks.specs.declared.mark.NoEpochCause.TheVariants.{MissingSet, NotQuorum}
use Rattle.run_marks.specs.declared.mark.Mark.TheVariants as k
use Rattle.run_marks.specs.Text.{call_text, cause_text, mark_text, reply_text, stamp_text, value_text, work_text}
use Rattle.history_audit.specs.Words.{call_says, count_says, cut, is_lower_digit, is_word, number_up_to, proxy_says, stamp_says, value_says}
use Rattle.history_audit.specs.Lines.{answer_says, begin_says, cause_by, cause_says, end_says, key_says, keyed_says, line_by, line_says, mark_by, reply_by, reply_says, set_says, ticket_says, word_reply, work_by, work_says}
use Rattle.history_audit.specs.Ranges.{FitsCall, FitsCause, FitsReply, FitsStamp, FitsValue, FitsWork, MarksAreReadBack}

-- the text has no such byte
abbrev pub IsFree : ℕ → List ℕ → Type 0
IsFree byte [] = Unit {0}
IsFree byte (c ∷ cs) = ((c == byte) ≡ false) × IsFree byte cs

pub free_append : (byte : ℕ) (xs ys : List ℕ) → IsFree byte xs → IsFree byte ys → IsFree byte (xs ++ ys)
free_append byte [] ys h i = i
free_append byte (x ∷ xs) ys h i = (h.0, free_append byte xs ys h.1 i)

-- a text is cut at its first such byte, or nowhere
cut_here : (byte : ℕ) (front rest : List ℕ) → IsFree byte front → cut byte (front ++ byte ∷ rest) ≡ Some (front, rest)
unfolding cut
cut_here byte [] rest free = rw (eq-eqb byte byte refl) refl
cut_here byte (c ∷ cs) rest free = rw free.0 (rw (cut_here byte cs rest free.1) refl)

cut_nowhere : (byte : ℕ) (text : List ℕ) → IsFree byte text → cut byte text ≡ None
unfolding cut
cut_nowhere byte [] free = refl
cut_nowhere byte (c ∷ cs) free = rw free.0 (rw (cut_nowhere byte cs free.1) refl)

-- the same, where the byte is a text of its own
cut_word : (byte : ℕ) (front rest : List ℕ) → IsFree byte front → cut byte (front ++ (byte ∷ []) ++ rest) ≡ Some (front, rest)
cut_word byte front rest free = ap (cut byte) (append_assoc front (byte ∷ []) rest) ∙ cut_here byte front rest free

-- a number has digits alone
apart_digit : (byte n : ℕ) → byte < 48 → ((48 + n) == byte) ≡ false
apart_digit byte n low = false_from_ne_true ((48 + n) == byte) (λ h. let e = eqb-true (48 + n) byte h in omega (arith, e, low))

pub free_number : (byte : ℕ) → byte < 48 → (n : ℕ) → n < 10 ^ 64 → IsFree byte (decimal n)
free_number byte low =
    decimal_by_steps_wide (λ n ds. IsFree byte ds) (λ n small. (apart_digit byte n low, tt)) (λ n ds high free. free_append byte ds ((48 + n % 10) ∷ []) free (apart_digit byte (n % 10) low, tt))

number_read : (most n : ℕ) → most < 10 ^ 38 → n ≤ most → number_up_to most (decimal n) ≡ Some n
unfolding number_up_to
number_read most n wide low = let it = decimal_reads n (omega (arith, wide, low)) in rw it.0 (rw it.1 (rw (le-leb n most low) refl))

pub count_read : (n : ℕ) → n ≤ 4294967295 → count_says (decimal n) ≡ Some n
unfolding count_says
count_read n low = number_read 4294967295 n (omega arith) low

proxy_read : (n : ℕ) → n ≤ 63 → proxy_says (decimal n) ≡ Some n
unfolding proxy_says
proxy_read n low = number_read 63 n (omega arith) low

key_read : (key : KeyId) → key.0 ≤ 999 → key_says (decimal key.0) ≡ Some key
unfolding key_says
key_read key low = rw (number_read 999 key.0 (omega arith) low) refl

set_read : (set : SetId) → set.0 ≤ 63 → set_says (decimal set.0) ≡ Some set
unfolding set_says
set_read set low = rw (number_read 63 set.0 (omega arith) low) refl

call_read : (call : Call) → FitsCall call → call_says (call_text call) ≡ Some call
unfolding call_says
call_read call fits =
    let e : cut 46 (call_text call) ≡ Some (decimal call.proxy, decimal call.seq) = cut_word 46 (decimal call.proxy) (decimal call.seq) (free_number 46 (omega arith) call.proxy (let p = fits.proxy in omega (arith, p))) in
    rw e (rw (proxy_read call.proxy fits.proxy) (rw (count_read call.seq fits.seq) refl))

-- the call that a stamp ends with
abbrev pub ends_with : Stamp → Call
ends_with stamp = record { proxy = stamp.proxy; seq = stamp.seq }

regroup : (a b c d : List ℕ) → ((a ++ b) ++ c) ++ d ≡ a ++ ((b ++ c) ++ d)
regroup a b c d = append_assoc (a ++ b) c d ∙ append_assoc a b (c ++ d) ∙ ap (λ (t : List ℕ). a ++ t) (sym (append_assoc b c d))

-- a stamp: its epoch, then its number, then its call
pub stamp_parts : (stamp : Stamp) → stamp_text stamp ≡ (decimal stamp.epoch ++ codes ".") ++ ((decimal stamp.number ++ codes ".") ++ call_text (ends_with stamp))
stamp_parts stamp =
    let a = decimal stamp.epoch ++ codes "." in
    let b = decimal stamp.number in
    let c = decimal stamp.proxy in
    regroup ((a ++ b) ++ codes ".") c (codes ".") (decimal stamp.seq) ∙ append_assoc (a ++ b) (codes ".") (call_text (ends_with stamp)) ∙ append_assoc a b (codes "." ++ call_text (ends_with stamp))
    ∙ ap (λ (t : List ℕ). a ++ t) (sym (append_assoc b (codes ".") (call_text (ends_with stamp))))

cut_stamp : (stamp : Stamp) → FitsStamp stamp → cut 46 (stamp_text stamp) ≡ Some (decimal stamp.epoch, (decimal stamp.number ++ codes ".") ++ call_text (ends_with stamp))
cut_stamp stamp fits = ap (cut 46) (stamp_parts stamp) ∙ cut_word 46 (decimal stamp.epoch) ((decimal stamp.number ++ codes ".") ++ call_text (ends_with stamp)) (free_number 46 (omega arith) stamp.epoch (let p = fits.epoch in omega (arith, p)))

stamp_read : (stamp : Stamp) → FitsStamp stamp → stamp_says (stamp_text stamp) ≡ Some stamp
unfolding stamp_says
stamp_read stamp fits =
    let e : cut 46 ((decimal stamp.number ++ codes ".") ++ call_text (ends_with stamp)) ≡ Some (decimal stamp.number, call_text (ends_with stamp)) = cut_word 46 (decimal stamp.number) (call_text (ends_with stamp)) (free_number 46 (omega arith) stamp.number (let p = fits.number in omega (arith, p))) in
    rw (cut_stamp stamp fits) (rw e (rw (count_read stamp.epoch fits.epoch) (rw (number_read 18446744073709551615 stamp.number (omega arith) fits.number) (rw (call_read (ends_with stamp) (record { proxy = fits.proxy; seq = fits.seq })) refl))))

-- a value's digits
pub lower_at : (d : ℕ) → d < 16 → is_lower_digit (slice_index lower_digits d) ≡ true
lower_at d small = AllPass-from_list_all is_lower_digit lower_digits refl d 0 small

all_lower : (bytes : List ℕ) → IsBytes bytes → list_all is_lower_digit (encode_lower bytes) ≡ true
unfolding encode_with
all_lower [] h = refl
all_lower (b ∷ bs) h =
    let small : b < 256 = h 0 in
    and_from (is_lower_digit (slice_index lower_digits (b / 16))) (is_lower_digit (slice_index lower_digits (b % 16)) && list_all is_lower_digit (encode_lower bs)) (lower_at (b / 16) (omega arith))
    (and_from (is_lower_digit (slice_index lower_digits (b % 16))) (list_all is_lower_digit (encode_lower bs)) (lower_at (b % 16) (omega arith)) (all_lower bs (λ i. h (suc i))))

-- digits are no hyphen
no_hyphen : (bytes : List ℕ) → is_word (encode_lower bytes) (codes "-") ≡ false
unfolding encode_with
no_hyphen [] = refl
no_hyphen (c ∷ cs) = by_test (slice_index lower_digits (c / 16) == 45)
  where
    by_test : (t : Bool) → (t && false) ≡ false
    by_test true = refl
    by_test false = refl

value_read : (value : List ℕ) → FitsValue value → value_says (value_text value) ≡ Some value
unfolding value_says
value_read [] fits = refl
value_read (b ∷ bs) fits =
    let n = length-encode_with lower_digits (b ∷ bs) in
    let few = fits.few in
    rw (no_hyphen (b ∷ bs)) (rw (le-leb 2 (length (encode_lower (b ∷ bs))) (omega (arith, n))) (rw (le-leb (length (encode_lower (b ∷ bs))) 8192 (omega (arith, n, few)))
    (rw (all_lower (b ∷ bs) fits.bytes) (rw (decode_of-encode_lower (b ∷ bs) fits.bytes) refl))))

-- a text without the byte, by a test
abbrev pub is_free : ℕ → List ℕ → Bool
is_free byte [] = true
is_free byte (c ∷ cs) = cond (c == byte) false (is_free byte cs)

pub free_from : (byte : ℕ) (text : List ℕ) → is_free byte text ≡ true → IsFree byte text
free_from byte [] h = tt
free_from byte (c ∷ cs) h = by_test (λ i. free_from byte cs i) (c == byte) refl h
  where
    by_test : (is_free byte cs ≡ true → IsFree byte cs) → (t : Bool) → (c == byte) ≡ t → cond t false (is_free byte cs) ≡ true → ((c == byte) ≡ false) × IsFree byte cs
    by_test on true e i = absurd (cc i)
    by_test on false e i = (e, on i)

free_call : (call : Call) → FitsCall call → IsFree 32 (call_text call)
free_call call fits =
    let p = fits.proxy in
    let s = fits.seq in
    free_append 32 (decimal call.proxy ++ codes ".") (decimal call.seq) (free_append 32 (decimal call.proxy) (codes ".") (free_number 32 (omega arith) call.proxy (omega (arith, p))) (refl, tt)) (free_number 32 (omega arith) call.seq (omega (arith, s)))

free_stamp : (stamp : Stamp) → FitsStamp stamp → IsFree 32 (stamp_text stamp)
free_stamp stamp fits =
    let e = fits.epoch in
    let n = fits.number in
    subst (λ (t : List ℕ). IsFree 32 t) (sym (stamp_parts stamp))
    (free_append 32 (decimal stamp.epoch ++ codes ".") ((decimal stamp.number ++ codes ".") ++ call_text (ends_with stamp)) (free_append 32 (decimal stamp.epoch) (codes ".") (free_number 32 (omega arith) stamp.epoch (omega (arith, e))) (refl, tt))
    (free_append 32 (decimal stamp.number ++ codes ".") (call_text (ends_with stamp)) (free_append 32 (decimal stamp.number) (codes ".") (free_number 32 (omega arith) stamp.number (omega (arith, n))) (refl, tt)) (free_call (ends_with stamp) (record { proxy = fits.proxy; seq = fits.seq }))))

free_count : (n : ℕ) → n ≤ 4294967295 → (byte : ℕ) → byte < 48 → IsFree byte (decimal n)
free_count n low byte small = free_number byte small n (omega (arith, low))

keyed_read : (key : KeyId) (value : List ℕ) → key.0 ≤ 999 → FitsValue value → keyed_says (decimal key.0 ++ codes " " ++ value_text value) ≡ Some (key, value)
unfolding keyed_says
keyed_read key value low fits =
    let e : cut 32 (decimal key.0 ++ codes " " ++ value_text value) ≡ Some (decimal key.0, value_text value) = cut_word 32 (decimal key.0) (value_text value) (free_number 32 (omega arith) key.0 (omega (arith, low))) in
    rw e (rw (key_read key low) (rw (value_read value fits) refl))

-- the word that a text begins with
pub word_cut : (word rest : List ℕ) → is_free 32 word ≡ true → cut 32 (word ++ 32 ∷ rest) ≡ Some (word, rest)
word_cut word rest free = cut_here 32 word rest (free_from 32 word free)

work_read : (key : KeyId) (work : Work) → key.0 ≤ 999 → FitsWork work → work_says (work_text key.0 work) ≡ Some (key, work)
unfolding work_says work_by
work_read key w.Read low fits = let e : cut 32 (codes "read " ++ decimal key.0) ≡ Some (codes "read", decimal key.0) = word_cut (codes "read") (decimal key.0) refl in rw e (rw (key_read key low) refl)
work_read key (w.Write value) low fits =
    let e : cut 32 (codes "write " ++ decimal key.0 ++ codes " " ++ value_text value) ≡ Some (codes "write", decimal key.0 ++ codes " " ++ value_text value) = word_cut (codes "write") (decimal key.0 ++ codes " " ++ value_text value) refl in
    rw e (rw (keyed_read key value low fits) refl)
work_read key w.Get low fits = let e : cut 32 (codes "get " ++ decimal key.0) ≡ Some (codes "get", decimal key.0) = word_cut (codes "get") (decimal key.0) refl in rw e (rw (key_read key low) refl)
work_read key w.GetAny low fits = let e : cut 32 (codes "getany " ++ decimal key.0) ≡ Some (codes "getany", decimal key.0) = word_cut (codes "getany") (decimal key.0) refl in rw e (rw (key_read key low) refl)
work_read key (w.Put value) low fits =
    let e : cut 32 (codes "put " ++ decimal key.0 ++ codes " " ++ value_text value) ≡ Some (codes "put", decimal key.0 ++ codes " " ++ value_text value) = word_cut (codes "put") (decimal key.0 ++ codes " " ++ value_text value) refl in
    rw e (rw (keyed_read key value low fits) refl)
work_read key w.Move low fits = let e : cut 32 (codes "move " ++ decimal key.0) ≡ Some (codes "move", decimal key.0) = word_cut (codes "move") (decimal key.0) refl in rw e (rw (key_read key low) refl)

answer_of_value : (stamp : Stamp) (value : List ℕ) → FitsStamp stamp → FitsValue value → answer_says (stamp_text stamp ++ codes " " ++ value_text value) ≡ Some (r.Value stamp value)
unfolding answer_says
answer_of_value stamp value fits fits_value =
    let e : cut 32 (stamp_text stamp ++ codes " " ++ value_text value) ≡ Some (stamp_text stamp, value_text value) = cut_word 32 (stamp_text stamp) (value_text value) (free_stamp stamp fits) in
    rw e (rw (stamp_read stamp fits) (rw (value_read value fits_value) refl))

answer_of_stamp : (stamp : Stamp) → FitsStamp stamp → answer_says (stamp_text stamp) ≡ Some (r.Stored stamp)
unfolding answer_says
answer_of_stamp stamp fits = rw (cut_nowhere 32 (stamp_text stamp) (free_stamp stamp fits)) (rw (cut_stamp stamp fits) (rw (stamp_read stamp fits) refl))

answer_of_epoch : (epoch : ℕ) → epoch ≤ 4294967295 → answer_says (decimal epoch) ≡ Some (r.At epoch)
unfolding answer_says
answer_of_epoch epoch low = rw (cut_nowhere 32 (decimal epoch) (free_count epoch low 32 (omega arith))) (rw (cut_nowhere 46 (decimal epoch) (free_count epoch low 46 (omega arith))) (rw (count_read epoch low) refl))

unsure_read : reply_says (codes "unsure") ≡ Some r.Unsure
unfolding reply_says word_reply cut
unsure_read = refl

outside_read : reply_says (codes "outside") ≡ Some r.Outside
unfolding reply_says word_reply cut
outside_read = refl

full_read : reply_says (codes "full") ≡ Some r.Full
unfolding reply_says word_reply cut
full_read = refl

numbers_out_read : reply_says (codes "numbers-out") ≡ Some r.NumbersOut
unfolding reply_says word_reply cut
numbers_out_read = refl

given_up_read : reply_says (codes "given-up") ≡ Some r.GivenUp
unfolding reply_says word_reply cut
given_up_read = refl

reply_read : (reply : Reply) → FitsReply reply → reply_says (reply_text reply) ≡ Some reply
unfolding reply_says reply_by
reply_read (r.Value stamp value) fits =
    let e : cut 32 (codes "ok " ++ stamp_text stamp ++ codes " " ++ value_text value) ≡ Some (codes "ok", stamp_text stamp ++ codes " " ++ value_text value) = word_cut (codes "ok") (stamp_text stamp ++ codes " " ++ value_text value) refl in
    rw e (answer_of_value stamp value fits.0 fits.1)
reply_read (r.Stored stamp) fits = let e : cut 32 (codes "ok " ++ stamp_text stamp) ≡ Some (codes "ok", stamp_text stamp) = word_cut (codes "ok") (stamp_text stamp) refl in rw e (answer_of_stamp stamp fits)
reply_read (r.At epoch) fits = let e : cut 32 (codes "ok " ++ decimal epoch) ≡ Some (codes "ok", decimal epoch) = word_cut (codes "ok") (decimal epoch) refl in rw e (answer_of_epoch epoch fits)
reply_read (r.Moved epoch) fits = let e : cut 32 (codes "moved " ++ decimal epoch) ≡ Some (codes "moved", decimal epoch) = word_cut (codes "moved") (decimal epoch) refl in rw e (rw (count_read epoch fits) refl)
reply_read (r.Fenced held) fits = let e : cut 32 (codes "fenced " ++ stamp_text held) ≡ Some (codes "fenced", stamp_text held) = word_cut (codes "fenced") (stamp_text held) refl in rw e (rw (stamp_read held fits) refl)
reply_read r.Unsure fits = unsure_read
reply_read (r.Current epoch) fits = let e : cut 32 (codes "current " ++ decimal epoch) ≡ Some (codes "current", decimal epoch) = word_cut (codes "current") (decimal epoch) refl in rw e (rw (count_read epoch fits) refl)
reply_read (r.Stale epoch) fits = let e : cut 32 (codes "stale " ++ decimal epoch) ≡ Some (codes "stale", decimal epoch) = word_cut (codes "stale") (decimal epoch) refl in rw e (rw (count_read epoch fits) refl)
reply_read r.Outside fits = outside_read
reply_read r.Full fits = full_read
reply_read r.NumbersOut fits = numbers_out_read
reply_read r.GivenUp fits = given_up_read

cause_read : (cause : NoEpochCause) → FitsCause cause → cause_says (cause_text cause) ≡ Some cause
unfolding cause_says cause_by
cause_read (MissingSet set) fits = let e : cut 32 (codes "missing " ++ decimal set.0) ≡ Some (codes "missing", decimal set.0) = word_cut (codes "missing") (decimal set.0) refl in rw e (rw (set_read set fits) refl)
cause_read (NotQuorum set) fits = let e : cut 32 (codes "quorum " ++ decimal set.0) ≡ Some (codes "quorum", decimal set.0) = word_cut (codes "quorum") (decimal set.0) refl in rw e (rw (set_read set fits) refl)

begin_read : (call : Call) (key : KeyId) (work : Work) → FitsCall call → key.0 ≤ 999 → FitsWork work → begin_says (call_text call ++ codes " " ++ work_text key.0 work) ≡ Some (k.Begin call key work)
unfolding begin_says
begin_read call key work fits low fits_work =
    let e : cut 32 (call_text call ++ codes " " ++ work_text key.0 work) ≡ Some (call_text call, work_text key.0 work) = cut_word 32 (call_text call) (work_text key.0 work) (free_call call fits) in
    rw e (rw (call_read call fits) (rw (work_read key work low fits_work) refl))

ticket_read : (call : Call) (stamp : Stamp) → FitsCall call → FitsStamp stamp → ticket_says (call_text call ++ codes " " ++ stamp_text stamp) ≡ Some (k.Ticket call stamp)
unfolding ticket_says
ticket_read call stamp fits fits_stamp =
    let e : cut 32 (call_text call ++ codes " " ++ stamp_text stamp) ≡ Some (call_text call, stamp_text stamp) = cut_word 32 (call_text call) (stamp_text stamp) (free_call call fits) in
    rw e (rw (call_read call fits) (rw (stamp_read stamp fits_stamp) refl))

end_read : (call : Call) (reply : Reply) → FitsCall call → FitsReply reply → end_says (call_text call ++ codes " " ++ reply_text reply) ≡ Some (k.End call reply)
unfolding end_says
end_read call reply fits fits_reply =
    let e : cut 32 (call_text call ++ codes " " ++ reply_text reply) ≡ Some (call_text call, reply_text reply) = cut_word 32 (call_text call) (reply_text reply) (free_call call fits) in
    rw e (rw (call_read call fits) (rw (reply_read reply fits_reply) refl))

pub marks_are_read_back : MarksAreReadBack
unfolding line_says line_by mark_by
marks_are_read_back (k.Begin call key work) fits =
    let e : cut 32 (mark_text (k.Begin call key work)) ≡ Some (codes "begin", call_text call ++ codes " " ++ work_text key.0 work) = word_cut (codes "begin") (call_text call ++ codes " " ++ work_text key.0 work) refl in
    rw e (rw (begin_read call key work fits.0 fits.1 fits.2) refl)
marks_are_read_back (k.Ticket call stamp) fits =
    let e : cut 32 (mark_text (k.Ticket call stamp)) ≡ Some (codes "ticket", call_text call ++ codes " " ++ stamp_text stamp) = word_cut (codes "ticket") (call_text call ++ codes " " ++ stamp_text stamp) refl in
    rw e (rw (ticket_read call stamp fits.0 fits.1) refl)
marks_are_read_back (k.End call reply) fits =
    let e : cut 32 (mark_text (k.End call reply)) ≡ Some (codes "end", call_text call ++ codes " " ++ reply_text reply) = word_cut (codes "end") (call_text call ++ codes " " ++ reply_text reply) refl in
    rw e (rw (end_read call reply fits.0 fits.1) refl)
marks_are_read_back (k.Epoch epoch) fits = let e : cut 32 (mark_text (k.Epoch epoch)) ≡ Some (codes "epoch", decimal epoch) = word_cut (codes "epoch") (decimal epoch) refl in rw e (rw (count_read epoch fits) refl)
marks_are_read_back (k.NoEpoch cause) fits = let e : cut 32 (mark_text (k.NoEpoch cause)) ≡ Some (codes "no-epoch", cause_text cause) = word_cut (codes "no-epoch") (cause_text cause) refl in rw e (rw (cause_read cause fits) refl)
