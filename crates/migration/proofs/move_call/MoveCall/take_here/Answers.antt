use Rattle.std.proofs.Common.{◌≤◌, None, refl, ◌∙◌, arith}
use Rattle.wire_msg.specs.declared.message.Message.{Message}
use Rattle.wire_msg.specs.declared.message.Message.TheVariants as m
use Rattle.wire_msg.specs.Lawful.{IsLawful}
use Rattle.wire_msg.specs.Sizes.{frame_size}
use Rattle.call_phase.specs.Counting.{opened}
use Rattle.migration.specs.declared.stage.Stage.TheVariants.{Freezing}
use Rattle.migration.specs.Move.{Moving}
use Rattle.migration.proofs.Outs.{next_lawful, puts_each}
use Rattle.migration.proofs.move_call.MoveCall.take_here.Goals as goal

pub returns-clause-out : goal.returns-clause-out
returns-clause-out g c =
    let call : Moving = record {
      key = c.self.inside.key;
      phase = opened c.next_tag-next.result c.replicas-asked.result;
      stage = Freezing c.in_ok-old.old c.in_ok-new.new None;
    } in
    let message : Message = m.Freeze c.next_tag-next.result c.self.inside.key c.args.current.number in
    let lawful : IsLawful message = (rw c.next_tag-next.ensures (next_lawful _ c.self.invariant.tag), (c.self.invariant.key, (c.requires.current, tt))) in
    let small : frame_size message ≤ 4133 = omega arith in
    rw (c.open-self-inside.ensures, c.from_vec.ensures ∙ c.in_ok-posts.ensures, c.requires.empty) (puts_each call message lawful refl small)
