use Rattle.machine_text.proofs.FirstRecords.{taken, none_taken}
use Rattle.machine_text.proofs.rows.next_row.Goals as goal

pub returns-in-None-clause-row : goal.returns-in-None-clause-row
returns-in-None-clause-row c =
    let step = rw c.in-None.is at ((c.next.ensures.steps c.requires.turns c.requires.plain).0 c.requires.ready) in
    none_taken c.args.rows.now c.next.new.self c.requires step

pub returns-in-Some-Ok-clause-row : goal.returns-in-Some-Ok-clause-row
returns-in-Some-Ok-clause-row c =
    let step = rw (c.in-Some-Ok.is, c.in-Some-Ok.field-0-is) at ((c.next.ensures.steps c.requires.turns c.requires.plain).0 c.requires.ready) in
    (taken c.args.rows.now c.next.new.self c.in-Some-Ok.row c.requires step).0

pub returns-in-Some-Ok-clause-reading : goal.returns-in-Some-Ok-clause-reading
returns-in-Some-Ok-clause-reading c =
    let step = rw (c.in-Some-Ok.is, c.in-Some-Ok.field-0-is) at ((c.next.ensures.steps c.requires.turns c.requires.plain).0 c.requires.ready) in
    (taken c.args.rows.now c.next.new.self c.in-Some-Ok.row c.requires step).1
