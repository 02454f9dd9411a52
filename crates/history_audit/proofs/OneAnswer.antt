-- But for want of memory a text has one answer.
use Rattle.std.proofs.Common.{◌≡◌, inl, inr, ℕ, ◌+◌, List, [], ◌∷◌, ◌++◌, length, Result, Ok, Err, refl, sym, ap, subst, ◌∙◌}
use Rattle.run_marks.specs.declared.mark.Mark.{Mark}
use Rattle.register_order.specs.Clauses.{BreaksNone, KeepsClauses}
use Rattle.register_order.proofs.Lines.{where_split}
use Rattle.register_order.proofs.Members.{two_splits, HasBefore}
use Rattle.history_audit.specs.declared.fault.Clause.{Clause}
use Rattle.history_audit.specs.declared.fault.Clause.TheVariants as clause
use Rattle.history_audit.specs.declared.fault.AuditFault.{AuditFault}
use Rattle.history_audit.specs.declared.fault.AuditFault.TheVariants as fault
use Rattle.history_audit.specs.declared.summary.Summary.{Summary}
use Rattle.history_audit.specs.Texts.{LogFault, log_says}
use Rattle.history_audit.specs.Judging.{BreaksFirst}
use Rattle.history_audit.specs.Summed.{SumsUp}
use Rattle.history_audit.specs.Audited.{IsBroken, IsFirstBreak, IsUnbroken, OneAnswer}

-- a line that keeps the clauses breaks none
breaks_none : (before : List Mark) (mark : Mark) → KeepsClauses before mark → (broken : Clause) → BreaksFirst before mark broken → ⊥
breaks_none before mark keeps clause.Call b = b keeps.call
breaks_none before mark keeps clause.Kind b = b.1 keeps.kind
breaks_none before mark keeps clause.Stamp b = b.2 keeps.stamp
breaks_none before mark keeps clause.Value b = b.1 keeps.value
breaks_none before mark keeps clause.Dead b = b.1 keeps.dead
breaks_none before mark keeps clause.Order b = b.2 keeps.order

-- it breaks one first
one_clause : (before : List Mark) (mark : Mark) (one other : Clause) → BreaksFirst before mark one → BreaksFirst before mark other → one ≡ other
one_clause before mark clause.Call clause.Call a b = refl
one_clause before mark clause.Call clause.Kind a b = absurd (a b.0)
one_clause before mark clause.Call clause.Stamp a b = absurd (a b.0)
one_clause before mark clause.Call clause.Value a b = absurd (a b.0.call)
one_clause before mark clause.Call clause.Dead a b = absurd (a b.0.form.call)
one_clause before mark clause.Call clause.Order a b = absurd (a b.0.form.call)
one_clause before mark clause.Kind clause.Call a b = absurd (b a.0)
one_clause before mark clause.Kind clause.Kind a b = refl
one_clause before mark clause.Kind clause.Stamp a b = absurd (a.1 b.1)
one_clause before mark clause.Kind clause.Value a b = absurd (a.1 b.0.kind)
one_clause before mark clause.Kind clause.Dead a b = absurd (a.1 b.0.form.kind)
one_clause before mark clause.Kind clause.Order a b = absurd (a.1 b.0.form.kind)
one_clause before mark clause.Stamp clause.Call a b = absurd (b a.0)
one_clause before mark clause.Stamp clause.Kind a b = absurd (b.1 a.1)
one_clause before mark clause.Stamp clause.Stamp a b = refl
one_clause before mark clause.Stamp clause.Value a b = absurd (a.2 b.0.stamp)
one_clause before mark clause.Stamp clause.Dead a b = absurd (a.2 b.0.form.stamp)
one_clause before mark clause.Stamp clause.Order a b = absurd (a.2 b.0.form.stamp)
one_clause before mark clause.Value clause.Call a b = absurd (b a.0.call)
one_clause before mark clause.Value clause.Kind a b = absurd (b.1 a.0.kind)
one_clause before mark clause.Value clause.Stamp a b = absurd (b.2 a.0.stamp)
one_clause before mark clause.Value clause.Value a b = refl
one_clause before mark clause.Value clause.Dead a b = absurd (a.1 b.0.value)
one_clause before mark clause.Value clause.Order a b = absurd (a.1 b.0.value)
one_clause before mark clause.Dead clause.Call a b = absurd (b a.0.form.call)
one_clause before mark clause.Dead clause.Kind a b = absurd (b.1 a.0.form.kind)
one_clause before mark clause.Dead clause.Stamp a b = absurd (b.2 a.0.form.stamp)
one_clause before mark clause.Dead clause.Value a b = absurd (b.1 a.0.value)
one_clause before mark clause.Dead clause.Dead a b = refl
one_clause before mark clause.Dead clause.Order a b = absurd (a.1 b.1)
one_clause before mark clause.Order clause.Call a b = absurd (b a.0.form.call)
one_clause before mark clause.Order clause.Kind a b = absurd (b.1 a.0.form.kind)
one_clause before mark clause.Order clause.Stamp a b = absurd (b.2 a.0.form.stamp)
one_clause before mark clause.Order clause.Value a b = absurd (b.1 a.0.value)
one_clause before mark clause.Order clause.Dead a b = absurd (b.1 a.1)
one_clause before mark clause.Order clause.Order a b = refl

-- a log has one first break
no_earlier : (marks : List Mark) (line other_line : ℕ) (broken other : Clause) (h : IsFirstBreak marks line broken) (i : IsFirstBreak marks other_line other) → HasBefore h.before h.mark i.before → ⊥
no_earlier marks line other_line broken other h i b = breaks_none h.before h.mark (where_split KeepsClauses i.before h.before b.between h.mark i.kept b.is) broken h.breaks

record SameBreak (line other_line : ℕ) (broken other : Clause) : Type 0 where
  line_is : line ≡ other_line
  clause_is : broken ≡ other

one_break : (marks : List Mark) (line other_line : ℕ) (broken other : Clause) → IsFirstBreak marks line broken → IsFirstBreak marks other_line other → SameBreak line other_line broken other
one_break marks line other_line broken other h i = elim (two_splits h.before h.after i.before i.after h.mark i.mark (sym h.split ∙ i.split)) as (λ _. SameBreak line other_line broken other) [
  | inl b ↦ absurd (no_earlier marks other_line line other broken i h b)
  | inr rest ↦ elim rest as (λ _. SameBreak line other_line broken other) [
    | inl same ↦
        let mark_is = mark_in h.before h.mark i.mark h.after i.after (sym h.split ∙ i.split ∙ ap (λ (ms : List Mark). ms ++ i.mark ∷ i.after) (sym same)) in
        let b = subst (λ (m : Mark). BreaksFirst h.before m other) (sym mark_is) (subst (λ (ms : List Mark). BreaksFirst ms i.mark other) (sym same) i.breaks) in
        record { line_is = h.line_is ∙ ap (λ (ms : List Mark). length ms + 1) same ∙ sym i.line_is; clause_is = one_clause h.before h.mark broken other h.breaks b }
    | inr b ↦ absurd (no_earlier marks line other_line broken other h i b)
  ]
]
  where
    mark_in : (front : List Mark) (a b : Mark) (xs ys : List Mark) → front ++ a ∷ xs ≡ front ++ b ∷ ys → a ≡ b
    mark_in [] a b xs ys e = cc
    mark_in (m ∷ ms) a b xs ys e = mark_in ms a b xs ys (cc e)

never_both : (marks : List Mark) (line : ℕ) (broken : Clause) → BreaksNone marks → IsFirstBreak marks line broken → ⊥
never_both marks line broken kept h = breaks_none h.before h.mark (where_split KeepsClauses marks h.before h.after h.mark kept h.split) broken h.breaks

marks_in : (a b : List Mark) → (let x : Result (List Mark) LogFault = Ok a in x) ≡ Ok b → a ≡ b
marks_in a b e = cc

same_marks : (text : List ℕ) (a b : List Mark) → log_says text ≡ Ok a → log_says text ≡ Ok b → a ≡ b
same_marks text a b e f = marks_in a b (sym e ∙ f)

same_summary : (calls counted keys calls_ counted_ keys_ : ℕ) → calls ≡ calls_ → counted ≡ counted_ → keys ≡ keys_ → (let s : Summary = record { calls = calls; counted = counted; keys = keys } in s) ≡ record { calls = calls_; counted = counted_; keys = keys_ }
same_summary calls counted keys calls_ counted_ keys_ a b c = cc

one_summary : (marks : List Mark) (s t : Summary) → SumsUp marks s → SumsUp marks t → s ≡ t
one_summary marks s t a b = same_summary s.calls s.counted s.keys t.calls t.counted t.keys (a.calls ∙ sym b.calls) (a.counted ∙ sym b.counted) (a.keys ∙ sym b.keys)

same_fault : (line other_line : ℕ) (broken other : Clause) → SameBreak line other_line broken other → (let x : Result Summary AuditFault = Err (fault.Broken line broken) in x) ≡ Err (fault.Broken other_line other)
same_fault line other_line broken other s = let a = s.line_is in let b = s.clause_is in cc (a, b)

unbroken_or_broken : (text : List ℕ) (summary : Summary) (line : ℕ) (broken : Clause) → IsUnbroken text summary → IsBroken text line broken → ⊥
unbroken_or_broken text summary line broken u b = never_both b.marks line broken (subst BreaksNone (same_marks text u.marks b.marks u.says b.says) u.kept) b.first

pub one_answer : OneAnswer
one_answer text (Ok s) (Ok t) a b m n = ap (λ (x : Summary). let r : Result Summary AuditFault = Ok x in r) (one_summary a.marks s t a.sums (subst (λ (ms : List Mark). SumsUp ms t) (same_marks text b.marks a.marks b.says a.says) b.sums))
one_answer text (Ok s) (Err (fault.Bad line)) a b m n = absurd (let e = sym a.says ∙ b in cc e)
one_answer text (Ok s) (Err (fault.Limit line)) a b m n = absurd (let e = sym a.says ∙ b in cc e)
one_answer text (Ok s) (Err (fault.Broken line broken)) a b m n = absurd (unbroken_or_broken text s line broken a b)
one_answer text (Err (fault.Bad line)) (Ok t) a b m n = absurd (let e = sym a ∙ b.says in cc e)
one_answer text (Err (fault.Bad line)) (Err (fault.Bad other)) a b m n = let e = sym a ∙ b in cc e
one_answer text (Err (fault.Bad line)) (Err (fault.Limit other)) a b m n = absurd (let e = sym a ∙ b in cc e)
one_answer text (Err (fault.Bad line)) (Err (fault.Broken other broken)) a b m n = absurd (let e = sym a ∙ b.says in cc e)
one_answer text (Err (fault.Limit line)) (Ok t) a b m n = absurd (let e = sym a ∙ b.says in cc e)
one_answer text (Err (fault.Limit line)) (Err (fault.Bad other)) a b m n = absurd (let e = sym a ∙ b in cc e)
one_answer text (Err (fault.Limit line)) (Err (fault.Limit other)) a b m n = let e = sym a ∙ b in cc e
one_answer text (Err (fault.Limit line)) (Err (fault.Broken other broken)) a b m n = absurd (let e = sym a ∙ b.says in cc e)
one_answer text (Err (fault.Broken line broken)) (Ok t) a b m n = absurd (unbroken_or_broken text t line broken b a)
one_answer text (Err (fault.Broken line broken)) (Err (fault.Bad other)) a b m n = absurd (let e = sym a.says ∙ b in cc e)
one_answer text (Err (fault.Broken line broken)) (Err (fault.Limit other)) a b m n = absurd (let e = sym a.says ∙ b in cc e)
one_answer text (Err (fault.Broken line broken)) (Err (fault.Broken other_line other)) a b m n =
    same_fault line other_line broken other (one_break a.marks line other_line broken other a.first (subst (λ (ms : List Mark). IsFirstBreak ms other_line other) (same_marks text b.marks a.marks b.says a.says) b.first))
one_answer text (Err (fault.NoMemory error)) other a b m n = absurd m
one_answer text (Ok s) (Err (fault.NoMemory error)) a b m n = absurd n
one_answer text (Err (fault.Bad line)) (Err (fault.NoMemory error)) a b m n = absurd n
one_answer text (Err (fault.Limit line)) (Err (fault.NoMemory error)) a b m n = absurd n
one_answer text (Err (fault.Broken line broken)) (Err (fault.NoMemory error)) a b m n = absurd n
