-- The order of stamps is total.
use Rattle.std.proofs.Common.{◌≡◌, ◌⊎◌, arith}
use Rattle.std.specs.Cmp.{IsTotalOrder}
use Rattle.std.proofs.lemmas.Cmp.{nat_cmp_total, on_total, then_total}
use Rattle.std.proofs.lemmas.Grind.{common_steps}
use Rattle.ticket_rules.specs.declared.stamp.Stamp.{Stamp}
use Rattle.ticket_rules.specs.Stamp.{stamp_cmp, IsAbove, IsAtMost}

pub stamp_cmp_total : IsTotalOrder stamp_cmp
stamp_cmp_total =
    then_total (on_total (λ s. s.epoch) nat_cmp_total)
    (then_total (on_total (λ s. s.number) nat_cmp_total)
    (then_total (on_total (λ s. s.proxy) nat_cmp_total) (on_total (λ s. s.seq) nat_cmp_total)))

pub IsAbove-irrefl : (a : Stamp) → IsAbove a a → ⊥
IsAbove-irrefl a h = grind (arith, common_steps)

pub IsAbove-trans : (a b c : Stamp) → IsAbove a b → IsAbove b c → IsAbove a c
IsAbove-trans a b c ab bc = grind (arith, common_steps)

pub IsAtMost-refl : (a : Stamp) → IsAtMost a a
IsAtMost-refl a h = IsAbove-irrefl a h

-- of two stamps one is above the other, or they are one
pub stamps_apart : (a b : Stamp) → IsAbove a b ⊎ (a ≡ b) ⊎ IsAbove b a
stamps_apart a b = grind (arith, common_steps)

pub IsAtMost-cases : (a b : Stamp) → IsAtMost a b → (a ≡ b) ⊎ IsAbove b a
IsAtMost-cases a b h = grind (arith, common_steps)
