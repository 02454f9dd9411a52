use Rattle.std.proofs.Common.{rules, ap, ◌∙◌, ◌≡◌, ◌*◌, ◌%◌, ◌^◌, bit_or, ℕ}
use Rattle.span_base.specs.DcSet.{DcSet, has}
use Rattle.span_base.proofs.Sets.{has-insert_same, has-insert_other}
use Rattle.span_base.proofs.dc_set.DcSet.with.Goals as goal

pub returns-clause-same : goal.returns-clause-same
returns-clause-same c =
    let bit : 1 * 2 ^ c.args.dc.0 % 65536 ≡ 2 ^ c.args.dc.0 = search rules in
    let s : ℕ → DcSet = λ n. record { bits = bit_or c.args.self.bits n } in
    ap (λ n. has (s n) c.args.dc.0) bit ∙ has-insert_same c.args.self c.args.dc.0 (search rules)

pub returns-clause-other : goal.returns-clause-other
returns-clause-other c =
    let bit : 1 * 2 ^ c.args.dc.0 % 65536 ≡ 2 ^ c.args.dc.0 = search rules in
    let s : ℕ → DcSet = λ n. record { bits = bit_or c.args.self.bits n } in
    λ d ne. ap (λ n. has (s n) d) bit ∙ has-insert_other c.args.self c.args.dc.0 d ne
