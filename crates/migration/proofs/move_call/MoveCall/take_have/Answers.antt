use Rattle.std.proofs.Common.{◌≡◌, ◌+◌, ◌≤◌, length, Some, refl, ap, sym, ◌∙◌, subst, arith}
use Rattle.wire_msg.specs.declared.message.Message.{Message}
use Rattle.wire_msg.specs.declared.message.Message.TheVariants as m
use Rattle.wire_msg.specs.Lawful.{IsLawful}
use Rattle.wire_msg.specs.Sizes.{frame_size}
use Rattle.call_phase.specs.declared.phase.Phase.{Phase}
use Rattle.call_phase.specs.Counting.{opened}
use Rattle.migration.specs.declared.stage.Stage.TheVariants.{Freezing}
use Rattle.migration.specs.Move.{Moving, on_have}
use Rattle.migration.specs.Sound.{IsLawfulFound, IsSoundStage}
use Rattle.migration.proofs.Outs.{next_lawful, puts_each}
use Rattle.migration.proofs.Steps.{have_waits, kept_sound, lawful_better}
use Rattle.migration.proofs.move_call.MoveCall.take_have.Goals as goal

pub invariant_of-self-then-not-is_frozen : goal.invariant_of-self-then-not-is_frozen
invariant_of-self-then-not-is_frozen g c =
    let k = c.in-Freezing in
    let kept = c.in_ok-keep_better.ensures.ok k.old k.new k.best k.is in
    rw (c.take_good.ensures, kept) (kept_sound _ k.old k.new k.best c.args.replica c.args.stamp.now c.args.value.now k.is c.self.invariant c.requires.stamp c.requires.value)

pub returns-then-not-is_frozen-clause-ok : goal.returns-then-not-is_frozen-clause-ok
returns-then-not-is_frozen-clause-ok g c =
    let k = c.in-Freezing in
    let rule = g.R.MoveRule.rule in
    let kept = c.in_ok-keep_better.ensures.ok k.old k.new k.best k.is in
    let few = ap (λ (p : Phase). rule.is_frozen k.old.policy p) (sym c.take_good.ensures) ∙ sym c.is_frozen.ensures ∙ c.if-not-is_frozen.true in
    let after : Moving = record { key = c.self.inside.key; phase = c.take_good.new.self; stage = c.keep_better.new.self } in
    let before : Moving = record { key = c.self.inside.key; phase = c.self.inside.phase; stage = c.self.inside.stage } in
    let waits = have_waits rule before k.old k.new k.best c.args.tag.now c.args.replica c.args.stamp.now c.args.value.now k.is (sym c.counts.ensures.counts ∙ c.if-not-counts.false) few in
    subst (λ (call : Moving).
    (after ≡ (on_have rule call call.stage c.args.tag.now c.args.replica c.args.stamp.now c.args.value.now).state)
    × (c.args.out.now ≡ (on_have rule call call.stage c.args.tag.now c.args.replica c.args.stamp.now c.args.value.now).out)) c.self.view_is
    (rw (c.take_good.ensures, kept, waits) (refl, c.requires.empty))

pub returns-clause-out : goal.returns-clause-out
returns-clause-out g c =
    let k = c.in-Freezing in
    let found = c.greatest-found.result in
    let was : IsSoundStage (Freezing k.old k.new k.best) = subst IsSoundStage k.is c.self.invariant.stage in
    let kept : IsLawfulFound (Some (record { stamp = found.stamp; value = found.value.now })) =
    subst IsLawfulFound (sym c.greatest-found.ensures.better) (lawful_better k.best c.args.stamp.now c.args.value.now was.2 c.requires.stamp c.requires.value) in
    let call : Moving = record {
      key = c.self.inside.key;
      phase = opened c.next_tag-next.result c.seed_set-asked.result;
      stage = c.begin_seeding.new.self;
    } in
    let message : Message = m.Seed c.next_tag-next.result c.self.inside.key k.new.number found.stamp found.value.now in
    let lawful : IsLawful message = (rw c.next_tag-next.ensures (next_lawful _ c.self.invariant.tag), (c.self.invariant.key, (was.1.number, (kept.0, (kept.1, tt))))) in
    let size : frame_size message ≡ 37 + length found.value.now = omega arith in
    let small : frame_size message ≤ 4133 = omega (arith, size, kept.1) in
    rw (c.open-self-inside.ensures, c.from_vec.ensures ∙ c.in_ok-send_to_each.ensures, c.requires.empty) (puts_each call message lawful refl small)
