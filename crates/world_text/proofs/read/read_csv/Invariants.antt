use Rattle.std.proofs.Common.{List, ◌≡◌, ℕ, ◌+◌, ◌^◌, ◌<◌, ◌≤◌, Some}
use Rattle.csv.specs.Reading.{Ready, default_config, source_of}
use Rattle.csv.specs.declared.reader.Trim.TheVariants as trim
use Rattle.price_tables.specs.Tables.{count_of}
use Rattle.workload.specs.Gaps.{AreInCentres}
use Rattle.world_text.proofs.Readings.{GoesOn}
use Rattle.world_text.proofs.read.read_csv.Given as goal

abbrev pub invariant-loop-row : goal.invariant-loop-row
invariant-loop-row l = record {
  trim : l.row-iterator.rdr.trim ≡ trim.None;
  ready : Ready l.row-iterator.rdr;
  left : 0 < l.row-iterator.left;
  config : l.row-iterator.rdr.config ≡ default_config;
  lines : l.line + l.row-iterator.left ≤ 2 ^ 64;
  in_centres : AreInCentres (count_of l.draft.tables) l.draft.load;
  goes : (y : List ℕ) × (source_of (λ s. Some s.now) l.row-iterator.rdr ≡ Some y) × GoesOn l.fn.text y l.row-iterator.rdr.state l.line l.draft;
}
