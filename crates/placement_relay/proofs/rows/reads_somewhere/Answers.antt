use Rattle.std.proofs.Common.{refl, arith}
use Rattle.span_base.specs.DcSet.{centres_of}
use Rattle.placement_relay.specs.Reading.{h}
use Rattle.placement_rows.proofs.SumRows.{sum_is}
use Rattle.placement_relay.proofs.rows.reads_somewhere.Goals as goal

pub returns : goal.returns
returns c =
    let w = c.args.world.now in
    sum_is (h w c.args.a) c.first_read.result 1 1 1 (centres_of c.args.near.now) (centres_of c.args.near.now) refl (λ d. omega (arith, c.first_read.ensures.variable)) refl c.sum_row.result c.sum_row.ensures
