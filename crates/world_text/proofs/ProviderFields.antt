-- The field of a set's providers.
use Rattle.std.proofs.Common.{◌≡◌, ◌≢◌, ℕ, ◌+◌, ◌<◌, ◌≤◌, List, [], ◌∷◌, ◌++◌, ◌∙◌, length, refl, ap, arith}
use Rattle.std.specs.Prelude.{codes}
use Rattle.world_text.specs.declared.kinds.Version.{Version}
use Rattle.world_text.specs.declared.kinds.Version.TheVariants as version
use Rattle.world_text.specs.Records.{Record}
use Rattle.world_text.specs.Judged.{with_providers}

-- it is one field more at most
pub providers_length : (v : Version) (fields : Record) → length (with_providers v fields) ≤ length fields + 1
providers_length version.One fields = one fields
  where
    one : (fs : Record) → length (fs ++ codes "1" ∷ []) ≤ length fs + 1
    one [] = omega arith
    one (f ∷ fs) = omega (arith, one fs)
providers_length version.Two fields = omega arith

-- seven fields, and those after them
pub after_seven : (v : Version) (a b c d e f g : List ℕ) (rest : Record)
    → with_providers v (a ∷ b ∷ c ∷ d ∷ e ∷ f ∷ g ∷ rest) ≡ a ∷ b ∷ c ∷ d ∷ e ∷ f ∷ g ∷ with_providers v rest
after_seven version.One a b c d e f g rest = refl
after_seven version.Two a b c d e f g rest = refl

-- eight fields with that of the providers
pub eight_fields : (v : Version) (r rest : Record) (a b c d e f g p : List ℕ) → r ≡ a ∷ b ∷ c ∷ d ∷ e ∷ f ∷ g ∷ rest → with_providers v rest ≡ p ∷ []
    → with_providers v r ≡ a ∷ b ∷ c ∷ d ∷ e ∷ f ∷ g ∷ p ∷ []
eight_fields v r rest a b c d e f g p all last = ap (with_providers v) all ∙ after_seven v a b c d e f g rest ∙ ap (λ l. a ∷ b ∷ c ∷ d ∷ e ∷ f ∷ g ∷ l) last

-- another number of fields
pub other_fields : (v : Version) (r rest : Record) (a b c d e f g : List ℕ) → r ≡ a ∷ b ∷ c ∷ d ∷ e ∷ f ∷ g ∷ rest → length (with_providers v rest) ≢ 1
    → length (with_providers v r) ≢ 8
other_fields v r rest a b c d e f g all other = λ same.
    let counted : length (with_providers v r) ≡ length (a ∷ b ∷ c ∷ d ∷ e ∷ f ∷ g ∷ with_providers v rest) = ap length (ap (with_providers v) all ∙ after_seven v a b c d e f g rest) in
    other (omega arith)

pub few_fields : (v : Version) (r : Record) → length r < 7 → length (with_providers v r) ≢ 8
few_fields v r few = λ same. absurd (omega (arith, providers_length v r))
