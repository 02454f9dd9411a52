use Rattle.std.proofs.Common.{◌≡◌, refl, sym, subst}
use Rattle.std.specs.Prelude.{Some, None}
use Rattle.span_base.specs.declared.ids.Call.{Call}
use Rattle.history_audit.specs.Calls.{look}
use Rattle.history_audit.specs.Tables.{last_of, was_drawn}
use Rattle.history_audit.proofs.Writers.{never_drawn, unknown_writer, other_writer, writer_found}
use Rattle.history_audit.proofs.judge.Judge.written.Goals as goal

pub returns-then-not-has : goal.returns-then-not-has
returns-then-not-has c = λ marks h drew. never_drawn marks (look c.args.self.now.calls) (last_of c.args.self.now.lasts) (was_drawn c.args.self.now.tickets) h.tells c.args.key c.args.stamp c.args.value.now (sym c.if-not-has.ensures) drew

pub returns-in_default : goal.returns-in_default
returns-in_default c = λ marks h drew.
    unknown_writer marks (look c.args.self.now.calls) (last_of c.args.self.now.lasts) (was_drawn c.args.self.now.tickets) h.tells c.args.key c.args.stamp c.args.value.now (subst (λ (d : Call). look c.args.self.now.calls d ≡ None) c.drawer.ensures (sym c.in_default.ensures)) drew

pub returns-then-not-is_write_of : goal.returns-then-not-is_write_of
returns-then-not-is_write_of c = λ marks h drew.
    other_writer marks (look c.args.self.now.calls) (last_of c.args.self.now.lasts) (was_drawn c.args.self.now.tickets) h.tells c.in-Some.state.now c.args.key c.args.stamp c.args.value.now (subst (λ (d : Call). look c.args.self.now.calls d ≡ Some c.in-Some.state.now) c.drawer.ensures (sym c.in-Some.ensures))
    (λ is. let no_ = c.if-not-is_write_of.ensures.1 is in cc no_) drew

pub returns : goal.returns
returns c = λ marks h.
    let it = c.if-not-is_write_of.ensures.0 refl in
    writer_found marks (look c.args.self.now.calls) (last_of c.args.self.now.lasts) (was_drawn c.args.self.now.tickets) h.tells c.in-Some.state.now c.args.key c.args.stamp c.args.value.now (subst (λ (d : Call). look c.args.self.now.calls d ≡ Some c.in-Some.state.now) c.drawer.ensures (sym c.in-Some.ensures))
    (sym c.if-not-has.ensures) it.0 it.1
