use Rattle.std.proofs.Common.{[], refl}
use Rattle.run_marks.specs.declared.mark.Mark.TheVariants as k
use Rattle.history_audit.specs.Calls.{look}
use Rattle.history_audit.specs.Tables.{has_key, last_of, top_at, was_drawn}
use Rattle.history_audit.proofs.Telling.{epoch_is_of_none, no_epoch_is_of_none, tells_after_none}
use Rattle.history_audit.proofs.Summing.{epoch_begins_none, no_epoch_begins_none, sums_after_other}
use Rattle.history_audit.specs.Told.{KeepsFirst}
use Rattle.history_audit.proofs.Events.{each_push}
use Rattle.history_audit.proofs.Effective.{counted_with_line}
use Rattle.history_audit.proofs.Counting.{counted_after_none}
use Rattle.history_audit.proofs.judge.Judge.take.Goals as goal

pub returns-in-Epoch : goal.returns-in-Epoch
returns-in-Epoch c = λ marks h. rw c.in-Epoch.is (
  record { form = record { call = tt; kind = tt; stamp = tt }; value = tt },
  record {
    kept = each_push KeepsFirst [] marks (k.Epoch c.in-Epoch.epoch) h.kept (record { form = record { call = tt; kind = tt; stamp = tt }; value = tt });
    effects = counted_with_line marks (k.Epoch c.in-Epoch.epoch) (look c.args.self.now.calls) (look c.args.self.now.calls) c.args.self.now.summary.counted refl (λ other key work begun. refl) h.effects;
    tells = tells_after_none marks (k.Epoch c.in-Epoch.epoch) (look c.args.self.now.calls) (last_of c.args.self.now.lasts) (was_drawn c.args.self.now.tickets) (epoch_is_of_none c.in-Epoch.epoch) h.tells;
    counted = counted_after_none marks (k.Epoch c.in-Epoch.epoch) (look c.args.self.now.calls) (last_of c.args.self.now.lasts) (was_drawn c.args.self.now.tickets) (top_at c.args.self.now.tops) h.tells tt (epoch_is_of_none c.in-Epoch.epoch) h.counted;
    sums = sums_after_other marks (k.Epoch c.in-Epoch.epoch) c.args.self.now.summary c.args.self.now.summary (has_key c.args.self.now.tops) (has_key c.args.self.now.tops) (epoch_begins_none c.in-Epoch.epoch) refl refl (λ key. refl) h.sums;
  },
)

pub returns-in-NoEpoch : goal.returns-in-NoEpoch
returns-in-NoEpoch c = λ marks h. rw c.in-NoEpoch.is (
  record { form = record { call = tt; kind = tt; stamp = tt }; value = tt },
  record {
    kept = each_push KeepsFirst [] marks (k.NoEpoch c.in-NoEpoch.cause) h.kept (record { form = record { call = tt; kind = tt; stamp = tt }; value = tt });
    effects = counted_with_line marks (k.NoEpoch c.in-NoEpoch.cause) (look c.args.self.now.calls) (look c.args.self.now.calls) c.args.self.now.summary.counted refl (λ other key work begun. refl) h.effects;
    tells = tells_after_none marks (k.NoEpoch c.in-NoEpoch.cause) (look c.args.self.now.calls) (last_of c.args.self.now.lasts) (was_drawn c.args.self.now.tickets) (no_epoch_is_of_none c.in-NoEpoch.cause) h.tells;
    counted = counted_after_none marks (k.NoEpoch c.in-NoEpoch.cause) (look c.args.self.now.calls) (last_of c.args.self.now.lasts) (was_drawn c.args.self.now.tickets) (top_at c.args.self.now.tops) h.tells tt (no_epoch_is_of_none c.in-NoEpoch.cause) h.counted;
    sums = sums_after_other marks (k.NoEpoch c.in-NoEpoch.cause) c.args.self.now.summary c.args.self.now.summary (has_key c.args.self.now.tops) (has_key c.args.self.now.tops) (no_epoch_begins_none c.in-NoEpoch.cause) refl refl (λ key. refl) h.sums;
  },
)
