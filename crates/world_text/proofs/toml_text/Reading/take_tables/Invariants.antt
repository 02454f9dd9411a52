use Rattle.std.proofs.Common.{◌≡◌, ◌+◌, List, ◌++◌, map, drop}
use Rattle.price_tables.specs.Tables.{count_of}
use Rattle.workload.specs.Gaps.{AreInCentres}
use Rattle.world_text.specs.ReadWorld.{Entry, read_from}
use Rattle.world_text.specs.Taken.{entry_of}
use Rattle.world_text.proofs.toml_text.Reading.take_tables.Given as goal

abbrev pub invariant-loop-table : goal.invariant-loop-table
invariant-loop-table l = record {
  in_centres : AreInCentres (count_of l.self.draft.tables) l.self.draft.load;
  line : l.self.line ≡ l.fn.self.line + l.table-index;
  leads : (more : List Entry) → read_from l.fn.self.line l.fn.self.draft (map (entry_of l.version l.kind) l.tables ++ more)
      ≡ read_from l.self.line l.self.draft (map (entry_of l.version l.kind) (drop l.table-index l.tables) ++ more);
}
