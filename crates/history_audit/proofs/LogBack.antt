-- A whole log that is written says its marks.
use Rattle.std.proofs.Common.{◌≡◌, ℕ, suc, ◌+◌, ◌<◌, ◌≤◌, ◌/◌, ◌%◌, ◌^◌, ◌==◌, true, false, List, [], ◌∷◌, ◌++◌, length, Some, Ok, append_assoc, refl, sym, ap, subst, ◌∙◌, arith}
use Rattle.std.specs.Prelude.{codes, slice_index, Contains}
use Rattle.std.specs.Fmt.{decimal}
use Rattle.std.proofs.lemmas.Bool.{eqb-true, false_from_ne_true, le-ltb}
use Rattle.hex.specs.Hex.{encode_lower, encode_with, lower_digits, IsBytes}
use Rattle.span_base.specs.declared.ids.Call.{Call}
use Rattle.ticket_rules.specs.declared.stamp.Stamp.{Stamp}
use Rattle.wire_msg.specs.declared.outputs.Reply.{Reply}
use Rattle.wire_msg.specs.declared.outputs.Reply.TheVariants as r
use Rattle.run_marks.specs.declared.mark.Work.{Work}
use Rattle.run_marks.specs.declared.mark.Work.TheVariants as w
use Rattle.run_marks.specs.declared.mark.NoEpochCause.{NoEpochCause}
use Rattle.run_marks.specs.declared.mark.NoEpochCause.TheVariants.{MissingSet, NotQuorum}
use Rattle.run_marks.specs.declared.mark.Mark.{Mark}
use Rattle.run_marks.specs.declared.mark.Mark.TheVariants as k
use Rattle.run_marks.specs.Text.{call_text, cause_text, mark_text, marks_text, messages_line, reply_text, stamp_text, value_text, work_text}
use Rattle.register_order.proofs.Members.{Contains-here, Contains-there}
use Rattle.history_audit.specs.declared.line.LogLine.TheVariants as l
use Rattle.history_audit.specs.Words.{cut, is_lower_digit}
use Rattle.history_audit.specs.Lines.{line_by, line_says}
use Rattle.history_audit.specs.Texts.{lines_of, lines_say}
use Rattle.history_audit.specs.Ranges.{FitsCall, FitsCause, FitsMark, FitsReply, FitsStamp, FitsValue, FitsWork, LogsAreReadBack}
use Rattle.history_audit.proofs.ReadBack.{ends_with, count_read, free_append, free_from, free_number, lower_at, marks_are_read_back, stamp_parts, word_cut, IsFree}

-- no text of a mark has a line feed
free_count : (n : ℕ) → n < 10 ^ 64 → IsFree 10 (decimal n)
free_count n low = free_number 10 (omega arith) n low

free_call : (call : Call) → FitsCall call → IsFree 10 (call_text call)
free_call call fits =
    let p = fits.proxy in
    let s = fits.seq in
    free_append 10 (decimal call.proxy ++ codes ".") (decimal call.seq) (free_append 10 (decimal call.proxy) (codes ".") (free_count call.proxy (omega (arith, p))) (refl, tt)) (free_count call.seq (omega (arith, s)))

free_stamp : (stamp : Stamp) → FitsStamp stamp → IsFree 10 (stamp_text stamp)
free_stamp stamp fits =
    let e = fits.epoch in
    let n = fits.number in
    subst (λ (t : List ℕ). IsFree 10 t) (sym (stamp_parts stamp))
    (free_append 10 (decimal stamp.epoch ++ codes ".") ((decimal stamp.number ++ codes ".") ++ call_text (ends_with stamp)) (free_append 10 (decimal stamp.epoch) (codes ".") (free_count stamp.epoch (omega (arith, e))) (refl, tt))
    (free_append 10 (decimal stamp.number ++ codes ".") (call_text (ends_with stamp)) (free_append 10 (decimal stamp.number) (codes ".") (free_count stamp.number (omega (arith, n))) (refl, tt)) (free_call (ends_with stamp) (record { proxy = fits.proxy; seq = fits.seq }))))

free_digit : (d : ℕ) → d < 16 → (slice_index lower_digits d == 10) ≡ false
free_digit d small = false_from_ne_true (slice_index lower_digits d == 10) (λ h. let e = subst (λ (c : ℕ). is_lower_digit c ≡ true) (eqb-true (slice_index lower_digits d) 10 h) (lower_at d small) in cc e)

free_digits : (bytes : List ℕ) → IsBytes bytes → IsFree 10 (encode_lower bytes)
unfolding encode_with
free_digits [] h = tt
free_digits (b ∷ bs) h = let small : b < 256 = h 0 in (free_digit (b / 16) (omega arith), (free_digit (b % 16) (omega arith), free_digits bs (λ i. h (suc i))))

free_value : (value : List ℕ) → FitsValue value → IsFree 10 (value_text value)
free_value [] fits = (refl, tt)
free_value (b ∷ bs) fits = free_digits (b ∷ bs) fits.bytes

free_keyed : (word : List ℕ) (key : ℕ) (value : List ℕ) → IsFree 10 word → key ≤ 999 → FitsValue value → IsFree 10 (word ++ decimal key ++ codes " " ++ value_text value)
free_keyed word key value free low fits =
    free_append 10 ((word ++ decimal key) ++ codes " ") (value_text value) (free_append 10 (word ++ decimal key) (codes " ") (free_append 10 word (decimal key) free (free_count key (omega (arith, low)))) (refl, tt)) (free_value value fits)

free_work : (key : ℕ) (work : Work) → key ≤ 999 → FitsWork work → IsFree 10 (work_text key work)
free_work key w.Read low fits = free_append 10 (codes "read ") (decimal key) (free_from 10 (codes "read ") refl) (free_count key (omega (arith, low)))
free_work key (w.Write value) low fits = free_keyed (codes "write ") key value (free_from 10 (codes "write ") refl) low fits
free_work key w.Get low fits = free_append 10 (codes "get ") (decimal key) (free_from 10 (codes "get ") refl) (free_count key (omega (arith, low)))
free_work key w.GetAny low fits = free_append 10 (codes "getany ") (decimal key) (free_from 10 (codes "getany ") refl) (free_count key (omega (arith, low)))
free_work key (w.Put value) low fits = free_keyed (codes "put ") key value (free_from 10 (codes "put ") refl) low fits
free_work key w.Move low fits = free_append 10 (codes "move ") (decimal key) (free_from 10 (codes "move ") refl) (free_count key (omega (arith, low)))

free_reply : (reply : Reply) → FitsReply reply → IsFree 10 (reply_text reply)
free_reply (r.Value stamp value) fits =
    free_append 10 ((codes "ok " ++ stamp_text stamp) ++ codes " ") (value_text value)
    (free_append 10 (codes "ok " ++ stamp_text stamp) (codes " ") (free_append 10 (codes "ok ") (stamp_text stamp) (free_from 10 (codes "ok ") refl) (free_stamp stamp fits.0)) (refl, tt)) (free_value value fits.1)
free_reply (r.Stored stamp) fits = free_append 10 (codes "ok ") (stamp_text stamp) (free_from 10 (codes "ok ") refl) (free_stamp stamp fits)
free_reply (r.At epoch) fits = free_append 10 (codes "ok ") (decimal epoch) (free_from 10 (codes "ok ") refl) (free_count epoch (omega (arith, fits)))
free_reply (r.Moved epoch) fits = free_append 10 (codes "moved ") (decimal epoch) (free_from 10 (codes "moved ") refl) (free_count epoch (omega (arith, fits)))
free_reply (r.Fenced held) fits = free_append 10 (codes "fenced ") (stamp_text held) (free_from 10 (codes "fenced ") refl) (free_stamp held fits)
free_reply r.Unsure fits = free_from 10 (codes "unsure") refl
free_reply (r.Current epoch) fits = free_append 10 (codes "current ") (decimal epoch) (free_from 10 (codes "current ") refl) (free_count epoch (omega (arith, fits)))
free_reply (r.Stale epoch) fits = free_append 10 (codes "stale ") (decimal epoch) (free_from 10 (codes "stale ") refl) (free_count epoch (omega (arith, fits)))
free_reply r.Outside fits = free_from 10 (codes "outside") refl
free_reply r.Full fits = free_from 10 (codes "full") refl
free_reply r.NumbersOut fits = free_from 10 (codes "numbers-out") refl
free_reply r.GivenUp fits = free_from 10 (codes "given-up") refl

free_cause : (cause : NoEpochCause) → FitsCause cause → IsFree 10 (cause_text cause)
free_cause (MissingSet set) fits = free_append 10 (codes "missing ") (decimal set.0) (free_from 10 (codes "missing ") refl) (free_count set.0 (omega (arith, fits)))
free_cause (NotQuorum set) fits = free_append 10 (codes "quorum ") (decimal set.0) (free_from 10 (codes "quorum ") refl) (free_count set.0 (omega (arith, fits)))

-- a word, a call, and what is behind a space
free_of_call : (word : List ℕ) (call : Call) (rest : List ℕ) → IsFree 10 word → FitsCall call → IsFree 10 rest → IsFree 10 (word ++ call_text call ++ codes " " ++ rest)
free_of_call word call rest free fits free_rest =
    free_append 10 ((word ++ call_text call) ++ codes " ") rest (free_append 10 (word ++ call_text call) (codes " ") (free_append 10 word (call_text call) free (free_call call fits)) (refl, tt)) free_rest

free_mark : (mark : Mark) → FitsMark mark → IsFree 10 (mark_text mark)
free_mark (k.Begin call key work) fits = free_of_call (codes "begin ") call (work_text key.0 work) (free_from 10 (codes "begin ") refl) fits.0 (free_work key.0 work fits.1 fits.2)
free_mark (k.Ticket call stamp) fits = free_of_call (codes "ticket ") call (stamp_text stamp) (free_from 10 (codes "ticket ") refl) fits.0 (free_stamp stamp fits.1)
free_mark (k.End call reply) fits = free_of_call (codes "end ") call (reply_text reply) (free_from 10 (codes "end ") refl) fits.0 (free_reply reply fits.1)
free_mark (k.Epoch epoch) fits = free_append 10 (codes "epoch ") (decimal epoch) (free_from 10 (codes "epoch ") refl) (free_count epoch (omega (arith, fits)))
free_mark (k.NoEpoch cause) fits = free_append 10 (codes "no-epoch ") (cause_text cause) (free_from 10 (codes "no-epoch ") refl) (free_cause cause fits)

-- a line that is ended by a line feed
line_of : (line rest : List ℕ) → IsFree 10 line → lines_of (line ++ 10 ∷ rest) ≡ line ∷ lines_of rest
unfolding lines_of
line_of [] rest free = refl
line_of (c ∷ cs) rest free = rw free.0 (rw (line_of cs rest free.1) refl)

messages_read : (sent : ℕ) → sent ≤ 4294967295 → line_says (codes "messages " ++ decimal sent) ≡ Some (l.Messages sent)
unfolding line_says line_by
messages_read sent low = let e : cut 32 (codes "messages " ++ decimal sent) ≡ Some (codes "messages", decimal sent) = word_cut (codes "messages") (decimal sent) refl in rw e (rw (count_read sent low) refl)

nothing_left : lines_of [] ≡ []
unfolding lines_of
nothing_left = refl

ends : (line sent : ℕ) → line ≤ 4000000 → sent ≤ 4294967295 → lines_say line (lines_of (messages_line sent)) ≡ Ok []
unfolding lines_say
ends line sent few low =
    let free = free_append 10 (codes "messages ") (decimal sent) (free_from 10 (codes "messages ") refl) (free_count sent (omega (arith, low))) in
    let e : lines_of (messages_line sent) ≡ (codes "messages " ++ decimal sent) ∷ [] = line_of (codes "messages " ++ decimal sent) [] free ∙ ap (λ (ls : List (List ℕ)). (codes "messages " ++ decimal sent) ∷ ls) nothing_left in
    rw e (rw (le-ltb 4000000 line few) (rw (messages_read sent low) refl))

one_line : (line : ℕ) (mark : Mark) (texts : List (List ℕ)) (marks : List Mark) → line ≤ 4000000 → FitsMark mark → lines_say (line + 1) texts ≡ Ok marks → lines_say line (mark_text mark ∷ texts) ≡ Ok (mark ∷ marks)
unfolding lines_say
one_line line mark texts marks few fits rest = rw (le-ltb 4000000 line few) (rw (marks_are_read_back mark fits) (rw rest refl))

read_on : (line : ℕ) (marks : List Mark) (sent : ℕ) → ((mark : Mark) → Contains marks mark → FitsMark mark) → line + length marks ≤ 4000000 → sent ≤ 4294967295 → lines_say line (lines_of (marks_text marks ++ messages_line sent)) ≡ Ok marks
read_on line [] sent fits few low = ends line sent (omega (arith, few)) low
read_on line (mark ∷ marks) sent fits few low =
    let here = fits mark (Contains-here mark marks) in
    let e : marks_text (mark ∷ marks) ++ messages_line sent ≡ mark_text mark ++ 10 ∷ (marks_text marks ++ messages_line sent) =
    append_assoc (mark_text mark ++ codes "\n") (marks_text marks) (messages_line sent) ∙ append_assoc (mark_text mark) (codes "\n") (marks_text marks ++ messages_line sent) in
    let lines = ap lines_of e ∙ line_of (mark_text mark) (marks_text marks ++ messages_line sent) (free_mark mark here) in
    ap (lines_say line) lines
    ∙ one_line line mark (lines_of (marks_text marks ++ messages_line sent)) marks (omega (arith, few)) here (read_on (line + 1) marks sent (λ m c. fits m (Contains-there mark marks m c)) (omega (arith, few)) low)

pub logs_are_read_back : LogsAreReadBack
logs_are_read_back marks sent fits few low = read_on 1 marks sent fits (omega (arith, few)) low
