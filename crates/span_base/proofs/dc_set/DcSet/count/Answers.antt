use Rattle.span_base.proofs.Sets.{ones-bits_of, count_le}
use Rattle.span_base.specs.DcSet.{bits_of}
use Rattle.std.proofs.Common.{rules, ◌<◌, ◌^◌}
use Rattle.span_base.proofs.dc_set.DcSet.count.Goals as goal

pub returns-clause-count : goal.returns-clause-count
returns-clause-count c = ones-bits_of c.args.self.now (search rules)

pub returns-clause-limit : goal.returns-clause-limit
returns-clause-limit c =
    let bits : bits_of c.args.self.now < 2 ^ 16 = search rules in
    rw (ones-bits_of c.args.self.now bits) (count_le c.args.self.now)
