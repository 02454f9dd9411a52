use Rattle.std.proofs.Common.{◌++◌, ◌∙◌, refl, ap, subst, arith, List}
use Rattle.run_marks.specs.declared.mark.Mark.{Mark}
use Rattle.run_generator.specs.Standing.{IsLogOf}
use Rattle.run_generator.proofs.Standing.{on_ok, on_both, took, stays, stopped, refused_as, ready_after}
use Rattle.world_core.specs.Ends.{Seen}
use Rattle.world_core.specs.Step.{step}
use Rattle.run_generator.specs.declared.generator.Generator.{Generator}
use Rattle.run_generator.proofs.generator.Generator.happen.Goals as goal

pub returns-then-self-clause-stands : goal.returns-then-self-clause-stands
returns-then-self-clause-stands c = λ d is. stays c.args.self.now d c.args.event.now c.if-self.true is

pub returns-in-Ok-clause-stands : goal.returns-in-Ok-clause-stands
returns-in-Ok-clause-stands c =
    let h = c.in-Ok.ensures in
    on_ok c.add_all.result (λ log d is. took c.args.self.now _ d c.args.event.now h.happening is c.if-self.false h.taken refl h.store_is c.if-self.false
    (λ before was. subst (IsLogOf c.add_all.new.self) (ap (λ (xs : List Mark). before ++ xs) h.marks_are) (log before was))) c.add_all.ensures.marks

pub returns-in-Ok-clause-goes : goal.returns-in-Ok-clause-goes
returns-in-Ok-clause-goes c =
    let h = c.in-Ok.ensures in
    let more = h.events_are in
    let was = c.requires.sound.few in
    on_ok c.add_all.result (λ few. record {
      sound = record { few = omega (arith, few, more, was); ready = ready_after c.args.self.now.cloud c.step_in_memory.new.self c.args.event.now h.happening h.taken h.store_is c.requires.sound.ready };
      few = omega (arith, more);
    }) c.add_all.ensures.few

pub returns-in-Err-clause-stands : goal.returns-in-Err-clause-stands
returns-in-Err-clause-stands c =
    on_both c.end_by.result (λ over refused d is.
    let ends = refused_as c.args.self.now.cloud c.step_in_memory.new.self (step c.args.self.now.cloud.store c.args.event.now) c.in-Err.fault refused c.in-Err.ensures in
    stopped c.args.self.now c.end_by.new.self d c.args.event.now c.in-Err.fault is c.if-self.false ends.0
    (ap (λ (g : Generator). g.state) over) (ap (λ (g : Generator). g.cloud.store) over ∙ ap (λ (x : Seen). x.store) ends.1) (ap (λ (g : Generator). g.over) over) (ap (λ (g : Generator). g.log) over))
    c.end_by.ensures.over c.end_by.ensures.refused
