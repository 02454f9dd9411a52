-- Ids of one number are one.
use Rattle.std.proofs.Common.{◌≡◌, ap}
use Rattle.span_base.specs.declared.ids.KeyId.{KeyId}

pub same_key : (a b : KeyId) → a.0 ≡ b.0 → a ≡ b
same_key a b e = ap (λ n. let k : KeyId = record { 0 = n } in k) e
