use Rattle.std.proofs.Common.{arith}
use Rattle.wire_msg.proofs.MessageLaws.{fault_within, read_is, not_read, place_is}
use Rattle.wire_msg.proofs.decoding.decode.Goals as goal

pub overflow_sub-result : goal.overflow_sub-result
overflow_sub-result c = fault_within c.args.frame.now c.in-Err-Wrong.left (λ i. omega (arith, c.type_inv.frame i)) (rw c.in-Err-Wrong.field-0-is at c.in-Err-Wrong.ensures)

pub returns-in-Ok : goal.returns-in-Ok
returns-in-Ok c = read_is c.args.frame.now c.in-Ok.message (λ i. omega (arith, c.type_inv.frame i)) c.in-Ok.ensures

pub returns-in-Err-Wrong : goal.returns-in-Err-Wrong
returns-in-Err-Wrong c =
    let stops = rw c.in-Err-Wrong.field-0-is at c.in-Err-Wrong.ensures in
    (place_is c.args.frame.now c.in-Err-Wrong.left stops, not_read c.args.frame.now c.in-Err-Wrong.left stops)
