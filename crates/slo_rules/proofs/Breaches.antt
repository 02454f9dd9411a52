-- How a loop finds the first breach of a list.
use Rattle.std.proofs.Common.{◌≡◌, ℕ, ◌+◌, ◌<◌, ◌≤◌, List, Option, Some, None, length, drop, get_or, ap, ◌∙◌, sym}
use Rattle.std.proofs.lemmas.List.{at_drop_more, at_drop_all}
use Rattle.slo_rules.specs.declared.rules.Rule.{Rule}
use Rattle.slo_rules.specs.Rules.{first_breach, or_else}

-- the list has the first breach that its rest has from a place on
abbrev pub ComesAfter : {X : Type 0} → (X → Option Rule) → List X → ℕ → Type 0
ComesAfter breach xs i = first_breach breach xs ≡ first_breach breach (drop i xs)

-- an item without a breach is passed over
pub passes_over : {X : Type 0} (breach : X → Option Rule) (xs : List X) (i : ℕ) (d : X) → i < length xs → ComesAfter breach xs i → breach (get_or xs i d) ≡ None → ComesAfter breach xs (i + 1)
passes_over breach xs i d h so none = so ∙ at_drop_more (first_breach breach) xs i d h ∙ ap (λ o. or_else o (first_breach breach (drop (i + 1) xs))) none

-- an item with a breach has the first
pub stops_at : {X : Type 0} (breach : X → Option Rule) (xs : List X) (i : ℕ) (d : X) (broken : Rule) → i < length xs → ComesAfter breach xs i → breach (get_or xs i d) ≡ Some broken → Some broken ≡ first_breach breach xs
stops_at breach xs i d broken h so some = sym (so ∙ at_drop_more (first_breach breach) xs i d h ∙ ap (λ o. or_else o (first_breach breach (drop (i + 1) xs))) some)

-- past the last item there is none
pub passes_all : {X : Type 0} (breach : X → Option Rule) (xs : List X) (i : ℕ) → length xs ≤ i → ComesAfter breach xs i → None ≡ first_breach breach xs
passes_all breach xs i h so = sym (so ∙ at_drop_all (first_breach breach) xs i h)
