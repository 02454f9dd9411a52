use Rattle.span_cli.proofs.run.Goals as goal

pub returns : goal.returns
returns c = record { status = c.span-status.result; code_is = c.end-code.ensures; ends = c.span-status.ensures.ends }
