use Rattle.std.proofs.Common.{◌≡◌, ◌+◌, cond, refl, subst}
use Rattle.std.specs.Prelude.{min}
use Rattle.history_audit.specs.Summed.{is_counted}
use Rattle.span_base.specs.declared.ids.Call.{Call}
use Rattle.history_audit.specs.Calls.{counting, look}
use Rattle.history_audit.proofs.Changing.{Changes}
use Rattle.history_audit.proofs.Ending.{tells_after_count, kept_after_count}
use Rattle.history_audit.proofs.judge.count_given.Goals as goal

pub returns-then-is_zero-clause-given : goal.returns-then-is_zero-clause-given
returns-then-is_zero-clause-given c = record { none = λ e other. refl; one = λ not_ other. absurd (not_ (c.if-is_zero.ensures.0 refl)) }

pub returns-clause-tells : goal.returns-clause-tells
returns-clause-tells c = λ marks last drawn h. tells_after_count marks c.drawer.result c.args.stamp (look c.args.calls.now) (look c.count.new.calls) last drawn c.count.ensures.calls h

pub returns-clause-given : goal.returns-clause-given
returns-clause-given c = record {
  none = λ e. absurd (let no_ = c.if-is_zero.ensures.1 e in cc no_);
  one = λ not_. subst (λ (d : Call). Changes d (counting c.args.stamp) (look c.args.calls.now) (look c.count.new.calls)) c.drawer.ensures c.count.ensures.calls;
}

pub returns-clause-kept : goal.returns-clause-kept
returns-clause-kept c = λ other key work h. kept_after_count c.drawer.result c.args.stamp (look c.args.calls.now) (look c.count.new.calls) c.count.ensures.calls other key work h

pub returns-clause-none : goal.returns-clause-none
returns-clause-none c = λ e. absurd (let no_ = c.if-is_zero.ensures.1 e in cc no_)

pub returns-clause-one : goal.returns-clause-one
returns-clause-one c = λ not_. subst (λ (d : Call). c.count.new.counted ≡ cond (is_counted (look c.args.calls.now d)) c.args.counted.now (min (c.args.counted.now + 1) 4294967295)) c.drawer.ensures c.count.ensures.counted

pub returns-then-is_zero-clause-one : goal.returns-then-is_zero-clause-one
returns-then-is_zero-clause-one c = λ not_. absurd (not_ (c.if-is_zero.ensures.0 refl))
