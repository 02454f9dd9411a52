-- Pieces that are left over.
use Rattle.std.proofs.Common.{◌≡◌, ℕ, true, List, ◌∷◌, Option, Some, None, Result, Err, Bor, refl, ◌∙◌}
use Rattle.std.specs.Prelude.{is_some}
use Rattle.span_base.specs.declared.policy.Near.{Near}
use Rattle.schedule_text.specs.declared.flaw.Flaw.{Flaw}
use Rattle.schedule_text.specs.declared.flaw.Flaw.TheVariants.{Syntax}
use Rattle.schedule_text.specs.declared.lanes.Lanes.{Lanes}
use Rattle.schedule_text.specs.Words.{split_at, one}
use Rattle.schedule_text.specs.Pieces.{pieces}
use Rattle.schedule_text.specs.Policies.{hops_from}
use Rattle.schedule_text.proofs.Cuts.{split_is}

-- two pieces aren't one
pub not_one : (byte : ℕ) (text : Option (Bor (List ℕ))) (whole first : Bor (List ℕ)) (rest : Option (Bor (List ℕ))) → text ≡ Some whole → split_at byte whole.now ≡ first.now ∷ pieces byte rest → true ≡ is_some rest
    → None ≡ one (pieces byte text)
not_one byte text whole first None is split some = absurd (cc)
not_one byte text whole first (Some rest) is split some =
    rw (is, split, split_is (λ c. Rattle.std.specs.Prelude.nat_eq c byte) rest.now) refl

-- a parent too many
pub parents_left : (replicas : ℕ) (near : Result Near Flaw) (lanes : Result Lanes Flaw) (to from : Option (Bor (List ℕ))) (whole : Result Lanes Flaw) → to ≡ None → true ≡ is_some from
    → hops_from replicas near lanes (pieces 44 to) (pieces 44 from) ≡ whole → Err Syntax ≡ whole
unfolding hops_from
parents_left replicas near lanes to None whole none some so = absurd (cc)
parents_left replicas near lanes to (Some from) whole none some so =
    (rw (none, split_is (λ c. Rattle.std.specs.Prelude.nat_eq c 44) from.now) refl) ∙ so
