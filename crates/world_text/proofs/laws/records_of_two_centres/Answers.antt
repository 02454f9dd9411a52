use Rattle.std.proofs.Common.{◌≡◌, ◌∷◌, [], refl, ◌∙◌, lit<, lit≤}
use Rattle.std.specs.Fmt.{decimal}
use Rattle.std.proofs.lemmas.Fmt.{decimal_digit, decimal_step}
use Rattle.world_text.proofs.laws.records_of_two_centres.Goals as goal

ten : decimal 10 ≡ 49 ∷ 48 ∷ []
ten = decimal_step 10 (lit≤ tt) (lit< tt) ∙ rw (decimal_digit 1 (lit< tt)) refl

twenty : decimal 20 ≡ 50 ∷ 48 ∷ []
twenty = decimal_step 20 (lit≤ tt) (lit< tt) ∙ rw (decimal_digit 2 (lit< tt)) refl

thirty : decimal 30 ≡ 51 ∷ 48 ∷ []
thirty = decimal_step 30 (lit≤ tt) (lit< tt) ∙ rw (decimal_digit 3 (lit< tt)) refl

hundred : decimal 100 ≡ 49 ∷ 48 ∷ 48 ∷ []
hundred = decimal_step 100 (lit≤ tt) (lit< tt) ∙ rw ten refl

pub returns : goal.returns
returns c =
    rw (ten, twenty, thirty, hundred, decimal_digit 0 (lit< tt), decimal_digit 1 (lit< tt), decimal_digit 2 (lit< tt), decimal_digit 3 (lit< tt), decimal_digit 4 (lit< tt), decimal_digit 5 (lit< tt), decimal_digit 7 (lit< tt)) refl
