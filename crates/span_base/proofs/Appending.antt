-- Pieces appended one after another.
use Rattle.std.proofs.Common.{rules, refl, [], arith, length, length-drop, ◌-◌, ℕ, ◌≡◌, ◌+◌, List, ◌++◌, take, drop, ◌∙◌, ap, append_assoc}
use Rattle.std.proofs.lemmas.List.{take_all}
use Rattle.std.proofs.Math.Seq.{take-add}
use Rattle.std.specs.Prelude.{Option, Some, None, option_map}
use Rattle.span_base.specs.Taken.{Appends}

-- two pieces one after another are one
pub Appends-append : (old mid new : Option (List ℕ)) (p q : List ℕ) → Appends old mid p → Appends mid new q → Appends old new (p ++ q)
Appends-append None mid new p q first second = second ∙ ap (option_map (λ (t : List ℕ). t ++ q)) first
Appends-append (Some taken) mid new p q first second =
    second ∙ ap (option_map (λ (t : List ℕ). t ++ q)) first ∙ ap (λ (t : List ℕ). Some t) (append_assoc taken p q)

-- a front of a piece, and then a front of the rest
pub Appends-take : (old mid new : Option (List ℕ)) (piece : List ℕ) (n m : ℕ)
    → Appends old mid (take n piece) → Appends mid new (take m (take (length piece - n) (drop n piece)))
    → Appends old new (take (n + m) piece)
Appends-take old mid new piece n m first second =
    let all : take (length piece - n) (drop n piece) ≡ drop n piece = take_all _ _ (omega (arith, length-drop n piece)) in
    rw take-add (Appends-append old mid new _ _ first (rw all at second))

-- no bytes at all
pub Appends-nothing : (old : Option (List ℕ)) → Appends old old []
Appends-nothing None = refl
Appends-nothing (Some taken) = search rules
