use Rattle.std.proofs.Common.{map}
use Rattle.world_text.proofs.Printing.{record_added}
use Rattle.world_text.proofs.print.add.Goals as goal
use Rattle.world_text.proofs.print.add.Goals.{in-Ok, in-Err}

pub returns : goal.returns
returns c = elim c.match-write_fields.branch [
  | in-Ok w ↦
      let wrote = w.in-Ok.ensures in
      rw w.result-is
      (record_added c.args.text.now c.write_fields.new.self (map (λ f. f.now) c.args.fields.now) c.requires
      (wrote.bytes c.requires.no_field c.requires.nothing_shown) wrote.ended wrote.clean wrote.setup)
  | in-Err w ↦ rw w.result-is tt
]
