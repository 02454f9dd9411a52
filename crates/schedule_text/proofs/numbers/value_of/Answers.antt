use Rattle.std.proofs.Common.{arith}
use Rattle.hex.proofs.HexLemmas.{decode_of-ok}
use Rattle.schedule_text.proofs.numbers.value_of.Goals as goal

pub from_vec-requires : goal.from_vec-requires
from_vec-requires c = let it = decode_of-ok c.args.text.now c.in-Ok.bytes.items c.in-Ok.ensures.ok in omega (arith, it.2)
