-- Where a text leaves a grammar.
use Rattle.std.proofs.Common.{ap, ◌∙◌, append_assoc, ◌≤◌, ◌++◌, ◌≡◌, ℕ, ◌<◌, ◌+◌, List, length, take, drop, arith, subst, sym}
use Rattle.std.proofs.lemmas.List.{take-append-drop, take_all, take-take}
use Rattle.std.proofs.Math.Nat.{le_antisymm}
use Rattle.span_base.specs.Grammar.{CanGoOn, BreaksAt}

-- a text whose front can go on, and with the next byte can't
pub breaks_inside : (Grammar : List ℕ → Type 0) (text : List ℕ) (place : ℕ) → place < length text → CanGoOn Grammar (take place text) → ¬ CanGoOn Grammar (take (place + 1) text) → BreaksAt Grammar text place
breaks_inside Grammar text place inside front stop = record {
  faulty = λ whole. stop (drop (place + 1) text, subst Grammar (sym (take-append-drop (place + 1) text)) whole);
  within = omega arith;
  before = front;
  there = λ _. stop;
}

-- a text that ends too early
pub breaks_at_end : (Grammar : List ℕ → Type 0) (text : List ℕ) → ¬ Grammar text → CanGoOn Grammar text → BreaksAt Grammar text (length text)
breaks_at_end Grammar text faulty front = record {
  faulty = faulty;
  within = omega arith;
  before = subst (CanGoOn Grammar) (sym (take_all (length text) text (omega arith))) front;
  there = λ h. absurd (omega arith);
}

le_by_cases : (p q : ℕ) → (p < q → ⊥) → q ≤ p
le_by_cases p q never = omega arith

-- what can go on longer can go on to an earlier place
pub earlier : (Grammar : List ℕ → Type 0) (text : List ℕ) (a b : ℕ) → a + 1 ≤ b → CanGoOn Grammar (take b text) → CanGoOn Grammar (take (a + 1) text)
earlier Grammar text a b low more =
    let rest : List ℕ = drop (a + 1) (take b text) in
    let parts : take (a + 1) text ++ rest ≡ take b text = ap (λ xs. xs ++ rest) (sym (take-take (a + 1) b text low)) ∙ take-append-drop (a + 1) (take b text) in
    (rest ++ more.0, subst Grammar (ap (λ xs. xs ++ more.0) (sym parts) ∙ append_assoc (take (a + 1) text) rest more.0) more.1)

-- a text leaves a grammar at one place only
pub BreaksAt-unique : (Grammar : List ℕ → Type 0) (text : List ℕ) (a b : ℕ) → BreaksAt Grammar text a → BreaksAt Grammar text b → a ≡ b
BreaksAt-unique Grammar text a b here there =
    le_antisymm (not_later b a there here) (not_later a b here there)
  where
    not_later : (p q : ℕ) → BreaksAt Grammar text p → BreaksAt Grammar text q → q ≤ p
    not_later p q first second = le_by_cases p q (λ late.
        let within : q ≤ length text = second.within in
        first.there (omega arith) (earlier Grammar text p q (omega arith) second.before))
