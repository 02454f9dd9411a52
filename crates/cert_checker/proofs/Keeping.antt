-- One line more: what the lines leave with it.
use Rattle.std.proofs.Common.{◌≡◌, ℕ, ◌+◌, inl, inr, Bool, true, false, cond, Option, Some, None, Result, Ok, Err, List, [], ◌∷◌, ◌++◌, length, refl, sym, ap, ◌∙◌, subst, arith, length-append}
use Rattle.std.proofs.lemmas.Bool.{cases_lt}
use Rattle.zero_one.specs.Contents.{Contents}
use Rattle.bound_cert.specs.declared.leaves.Line.{Line}
use Rattle.bound_cert.specs.declared.leaves.Line.TheVariants.{Branch, Close}
use Rattle.bound_cert.specs.Leaves.{leaf_bound}
use Rattle.cert_checker.specs.declared.ceilings.Ceilings.{Ceilings}
use Rattle.cert_checker.specs.declared.faults.CertFault.{CertFault}
use Rattle.cert_checker.specs.declared.faults.CertFault.TheVariants.{TooLong}
use Rattle.cert_checker.specs.declared.faults.Step.{Step}
use Rattle.cert_checker.specs.declared.faults.Step.TheVariants.{More, Whole}
use Rattle.cert_checker.specs.declared.turns.Turn.{Turn}
use Rattle.cert_checker.specs.Paths.{path_after, path_past, fixed_by, fixed_over}
use Rattle.cert_checker.specs.Lines.{IsTaken, IsTakenAt, IsRefusedAt, IsRefusedUnder, IsTakenUnder}
use Rattle.cert_checker.specs.Ceilings.{IsCeiling, AreCeilingsOf}
use Rattle.cert_checker.specs.Kept.{Kept, path_of, StandsFor}
use Rattle.cert_checker.specs.Fed.{Feeds}
use Rattle.cert_checker.specs.Moves.{HasLine, Moves, MovesOrStays}
use Rattle.cert_checker.proofs.Parsing.{path_after-push, whole_from_none, none_from_whole}
use Rattle.cert_checker.proofs.Places.{AreTaken-push}
use Rattle.cert_checker.proofs.Raising.{ceilings_stay, ceilings_more}

-- ---- what is kept with one line more

ceilings_push : (program : Contents) (lines : List Line) (path : List Turn) (before : Kept) (line : Line) (after : Option Ceilings) → path_after lines ≡ Some path → before.count ≡ length lines → fixed_over before.variables before.turns ≡ fixed_by program path → HasLine program before line after → AreCeilingsOf program lines before.ceilings → AreCeilingsOf program (lines ++ line ∷ []) after
ceilings_push program lines path before (Branch var) after below count fixed has are =
    let P : Option Ceilings → Type 0 = λ c. AreCeilingsOf program (lines ++ Branch var ∷ []) c in
    subst P (sym has) (ceilings_stay program lines (Branch var) before.ceilings (λ h. h) are)
ceilings_push program lines path before (Close end) after below count fixed has are =
    elim (cases_lt 0 end.s) [
      | inl positive ↦
          let (height, is, e) = has.bounding positive in
          let P : Option Ceilings → Type 0 = λ c. AreCeilingsOf program (lines ++ Close end ∷ []) c in
          let Q : List (Option Bool) → Type 0 = λ f. IsCeiling (leaf_bound program f end) end.s height in
          subst P (sym e) (ceilings_more program lines end path (before.count + 1) height before.ceilings (omega (arith, count)) positive below (subst Q fixed is) are)
      | inr none ↦
          let e = has.unbounding (omega (arith, none)) in
          let P : Option Ceilings → Type 0 = λ c. AreCeilingsOf program (lines ++ Close end ∷ []) c in
          subst P (sym e) (ceilings_stay program lines (Close end) before.ceilings (λ h. omega (arith, h, none)) are)
    ]

-- before a whole tree the path stands in what is kept
path_kept : (kept : Kept) → kept.whole ≡ false → path_of kept ≡ Some kept.turns
path_kept kept unfinished = ap (λ (b : Bool). cond b None (Some kept.turns)) unfinished

StandsFor-push : (program : Contents) (lines : List Line) (before after : Kept) (line : Line) → StandsFor program lines before → before.whole ≡ false → IsTakenUnder program (fixed_over before.variables before.turns) line → Moves program before line after → StandsFor program (lines ++ line ∷ []) after
StandsFor-push program lines before after line stands unfinished taken moves =
    let below : path_after lines ≡ Some before.turns = sym stands.left.path ∙ path_kept before unfinished in
    let fixed : fixed_over before.variables before.turns ≡ fixed_by program before.turns = ap (λ n. fixed_over n before.turns) stands.left.variables in
    let here : IsTakenUnder program (fixed_by program before.turns) line = (let P : List (Option Bool) → Type 0 = λ f. IsTakenUnder program f line in subst P fixed taken) in
    let P : Option (List Turn) → Type 0 = λ p. IsTakenAt program p line in
    let next : IsTaken program lines line = subst P (sym below) here in
    record {
      taken = AreTaken-push program lines line stands.taken next;
      left = record {
        variables = moves.variables ∙ stands.left.variables;
        path = moves.path ∙ ap (λ p. path_past p line) (sym below) ∙ sym (path_after-push lines line);
        count = omega (arith, moves.count, stands.left.count, length-append lines (line ∷ []));
        ceilings = ceilings_push program lines before.turns before line after.ceilings below stands.left.count fixed moves.ceilings stands.left.ceilings;
      };
    }

whole_step : (kept : Kept) (step : Step) → step ≡ cond kept.whole Whole More → ((step ≡ Whole → path_of kept ≡ None) × (path_of kept ≡ None → step ≡ Whole))
whole_step kept step e = by_flag kept.whole kept.turns e
  where
    by_flag : (b : Bool) (turns : List Turn) → step ≡ cond b Whole More → ((step ≡ Whole → cond b None (Some turns) ≡ None) × (cond b None (Some turns) ≡ None → step ≡ Whole))
    by_flag true turns e = (λ _. refl, λ _. e)
    by_flag false turns e = (λ h. absurd (cc), λ h. absurd (cc))

pub feeds_from_moves : (program : Contents) (lines : List Line) (line : Line) (before after : Kept) (result : Result Step CertFault) → before.whole ≡ false → MovesOrStays program before line after result → StandsFor program lines before → Feeds program lines line before after result
feeds_from_moves program lines line before after (Ok step) unfinished moves stands =
    let below : path_after lines ≡ Some before.turns = sym stands.left.path ∙ path_kept before unfinished in
    let fixed : fixed_over before.variables before.turns ≡ fixed_by program before.turns = ap (λ n. fixed_over n before.turns) stands.left.variables in
    let here : IsTakenUnder program (fixed_by program before.turns) line = (let P : List (Option Bool) → Type 0 = λ f. IsTakenUnder program f line in subst P fixed moves.0) in
    let P : Option (List Turn) → Type 0 = λ p. IsTakenAt program p line in
    let next : IsTaken program lines line = subst P (sym below) here in
    let now = StandsFor-push program lines before after line stands unfinished moves.0 moves.1 in
    let told = whole_step after step moves.2 in (
      next,
      now,
      (
        λ is_whole. whole_from_none program (lines ++ line ∷ []) now.taken (sym now.left.path ∙ told.0 is_whole),
        λ whole. told.1 (now.left.path ∙ none_from_whole program (lines ++ line ∷ []) whole),
      ),
    )
feeds_from_moves program lines line before after (Err fault) unfinished moves stands =
    let below : path_after lines ≡ Some before.turns = sym stands.left.path ∙ path_kept before unfinished in
    let fixed : fixed_over before.variables before.turns ≡ fixed_by program before.turns = ap (λ n. fixed_over n before.turns) stands.left.variables in
    let P : List (Option Bool) → Type 0 = λ f. IsRefusedUnder program f (before.count + 1) line fault in
    let Q : ℕ → Type 0 = λ n. IsRefusedUnder program (fixed_by program before.turns) n line fault in
    let R : Option (List Turn) → Type 0 = λ p. IsRefusedAt program p (length lines + 1) line fault in
    let here = subst P fixed moves.0 in
    let counted = subst Q (ap (λ n. n + 1) stands.left.count) here in
    (subst R (sym below) counted, moves.1)

-- past a whole tree any line is one too many
pub feeds_past_whole : (program : Contents) (lines : List Line) (line : Line) (kept : Kept) → kept.whole ≡ true → StandsFor program lines kept → Feeds program lines line kept kept (Err TooLong)
feeds_past_whole program lines line kept whole stands =
    let none : path_after lines ≡ None = sym stands.left.path ∙ ap (λ (b : Bool). cond b None (Some kept.turns)) whole in
    let R : Option (List Turn) → Type 0 = λ p. IsRefusedAt program p (length lines + 1) line TooLong in
    (subst R (sym none) refl, refl)
