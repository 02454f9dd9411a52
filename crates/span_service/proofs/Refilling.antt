-- A read behind the bytes that were read ahead.
use Rattle.std.proofs.Common.{ℕ, ◌≡◌, ◌<◌, ◌≤◌, ◌+◌, Bool, true, false, nat_lt, List, [], ◌++◌, length, take, drop, Option, Some, None, Ok, refl, sym, ◌∙◌, ap, subst, arith, append_assoc, length-append, length-take}
use Rattle.std.specs.Prelude.{option_map}
use Rattle.std.proofs.Math.Seq.{take-add}
use Rattle.std.proofs.lemmas.List.{append-nil, take_at, take-append-le, drop_at}
use Rattle.std.proofs.lemmas.Bool.{ltb-true, ltb-false}
use Rattle.span_service.specs.Coming.{Gives}
use Rattle.span_service.specs.Inputs.{ahead, Reads}

same : (coming coming' : Option (List ℕ)) (old piece : List ℕ) (n : ℕ) → Gives coming coming' piece (Ok n) → ahead (old ++ take n piece) coming' ≡ ahead old coming
same None coming' old piece n gives = ap (ahead (old ++ take n piece)) gives
same (Some all) coming' old piece n gives =
    ap (ahead (old ++ take n piece)) gives.1
    ∙ ap (λ (l : List ℕ). Some l) (append_assoc old (take n piece) gives.0 ∙ ap (λ (l : List ℕ). old ++ l) (sym gives.2.bytes))

ended : (coming coming' : Option (List ℕ)) (piece : List ℕ) → Gives coming coming' piece (Ok 0) → (coming' ≡ coming) × (coming ≡ option_map (λ rest. []) coming)
ended None coming' piece gives = (gives, refl)
ended (Some all) coming' piece gives = (
  gives.1 ∙ ap (λ (l : List ℕ). Some l) (sym gives.2.bytes),
  ap (λ (l : List ℕ). Some l) (gives.2.some refl),
)

module _ (coming coming' : Option (List ℕ)) (old piece post new : List ℕ) (is : new ≡ old ++ (piece ++ post)) where
  front : (n : ℕ) → n ≤ length piece → take (length old + n) new ≡ old ++ take n piece
  front n fits =
      ap (take (length old + n)) is
      ∙ take-add (length old) n (old ++ (piece ++ post))
      ∙ ap (λ (l : List ℕ). l ++ take n (drop (length old) (old ++ (piece ++ post)))) (take_at old (piece ++ post) (length old) refl)
      ∙ ap (λ (l : List ℕ). old ++ take n l) (drop_at old (piece ++ post) (length old) refl)
      ∙ ap (λ (l : List ℕ). old ++ l) (take-append-le n piece post fits)

  pub read_more : (kept n : ℕ) (some : Bool) → kept ≡ length old → n ≤ length piece → Gives coming coming' piece (Ok n) → (some ≡ true → 0 < n) → (some ≡ false → n ≡ 0)
      → Reads coming coming' old (take (kept + n) new) some
  read_more kept n some size fits gives grew none =
      let at : take (kept + n) new ≡ old ++ take n piece = ap (λ (k : ℕ). take (k + n) new) size ∙ front n fits in
      record {
        same = ap (λ (l : List ℕ). ahead l coming') at ∙ same coming coming' old piece n gives;
        more = λ is. omega (arith, grew is, ap length at, length-append old (take n piece), length-take n piece, fits);
        none = λ is.
            let zero_is = none is in
            let ends = ended coming coming' piece (subst (λ (k : ℕ). Gives coming coming' piece (Ok k)) zero_is gives) in
            (at ∙ ap (λ (k : ℕ). old ++ take k piece) zero_is ∙ append-nil old, ends.0, ends.1);
      }

pub longer : (kept n : ℕ) → (nat_lt kept (kept + n) ≡ true → 0 < n) × (nat_lt kept (kept + n) ≡ false → n ≡ 0)
longer kept n = (λ is. omega (arith, ltb-true kept (kept + n) is), λ is. omega (arith, ltb-false kept (kept + n) is))
