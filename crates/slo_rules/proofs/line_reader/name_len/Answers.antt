use Rattle.std.proofs.Common.{◌≡◌, sym, false, rules, arith, slice_index}
use Rattle.span_base.specs.Name.{is_name_byte}
use Rattle.slo_rules.specs.PolicyLines.{name_len}
use Rattle.slo_rules.proofs.NameLens.{len_stops}
use Rattle.slo_rules.proofs.line_reader.name_len.Goals as goal

pub returns-then-not-fits_name-clause-len : goal.returns-then-not-fits_name-clause-len
returns-then-not-fits_name-clause-len c =
    let stops : is_name_byte (slice_index c.args.text.now c.loop-at.at) ≡ false = search rules in
    sym (len_stops c.args.text.now c.loop-at.at (name_len c.args.text.now) (omega arith) (omega arith) stops c.loop-at.invariant.so_far)
