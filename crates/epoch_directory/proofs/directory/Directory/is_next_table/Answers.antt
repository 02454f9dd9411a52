use Rattle.std.proofs.Common.{refl}
use Rattle.epoch_directory.proofs.NextTables.{good_more, may_stand}
use Rattle.epoch_directory.proofs.directory.Directory.is_next_table.Goals as goal

pub returns-then-not-may_list : goal.returns-then-not-may_list
returns-then-not-may_list c =
    (λ t. absurd (cc), λ next. c.if-not-may_list.ensures.1 (may_stand c.args.self.now c.args.table.now c.loop-place.place c.index-table-place.result c.loop-place-test.true c.index-table-place.is next))

pub loop-place-preserved : goal.loop-place-preserved
loop-place-preserved c =
    good_more c.args.self.now c.args.table.now c.loop-place.place c.index-table-place.result c.loop-place-test.true c.index-table-place.is c.loop-place.invariant (c.if-not-may_list.ensures.0 refl)
