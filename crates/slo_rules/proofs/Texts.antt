-- Texts that grow centre by centre.
use Rattle.std.proofs.Common.{◌≡◌, ℕ, ◌+◌, ◌<◌, ◌≤◌, Bool, true, false, cond, List, ◌∷◌, ◌++◌, sym, ap, ◌∙◌, append_assoc, append-nil}
use Rattle.std.specs.List.{flat_map}
use Rattle.span_base.specs.declared.dc_set.DcSet.{DcSet}
use Rattle.span_base.specs.DcSet.{has, centres_of}
use Rattle.slo_rules.specs.Centres.{centres_from}
use Rattle.slo_rules.proofs.Centres.{centres_of_is, centres_from-end, centres_from-next}

-- the pieces of the centres that are left, where the next one is in the set
pub centres_with : (f : ℕ → List ℕ) (s : DcSet) (d : ℕ) (before after all : List ℕ) → d < 16 → has s d ≡ true → before ++ flat_map f (centres_from s d) ≡ all → after ≡ before ++ f d → after ++ flat_map f (centres_from s (d + 1)) ≡ all
centres_with f s d before after all below there so_far grown =
    let next : centres_from s d ≡ d ∷ centres_from s (d + 1) = centres_from-next s d below ∙ ap (λ (b : Bool). cond b (d ∷ centres_from s (d + 1)) (centres_from s (d + 1))) there in
    ap (λ (t : List ℕ). t ++ flat_map f (centres_from s (d + 1))) grown
    ∙ append_assoc before (f d) (flat_map f (centres_from s (d + 1)))
    ∙ ap (λ (cs : List ℕ). before ++ flat_map f cs) (sym next) ∙ so_far

-- and where it isn't
pub centres_without : (f : ℕ → List ℕ) (s : DcSet) (d : ℕ) (before all : List ℕ) → d < 16 → has s d ≡ false → before ++ flat_map f (centres_from s d) ≡ all → before ++ flat_map f (centres_from s (d + 1)) ≡ all
centres_without f s d before all below absent so_far =
    let next : centres_from s d ≡ centres_from s (d + 1) = centres_from-next s d below ∙ ap (λ (b : Bool). cond b (d ∷ centres_from s (d + 1)) (centres_from s (d + 1))) absent in
    ap (λ (cs : List ℕ). before ++ flat_map f cs) (sym next) ∙ so_far

-- at first all pieces are left
pub centres_first : (f : ℕ → List ℕ) (s : DcSet) (text : List ℕ) → text ++ flat_map f (centres_from s 0) ≡ text ++ flat_map f (centres_of s)
centres_first f s text = ap (λ (cs : List ℕ). text ++ flat_map f cs) (sym (centres_of_is s))

-- at the end none is
pub centres_last : (f : ℕ → List ℕ) (s : DcSet) (d : ℕ) (text all : List ℕ) → 16 ≤ d → text ++ flat_map f (centres_from s d) ≡ all → text ≡ all
centres_last f s d text all past so_far =
    sym (append-nil text) ∙ ap (λ (cs : List ℕ). text ++ flat_map f cs) (sym (centres_from-end s d past)) ∙ so_far
