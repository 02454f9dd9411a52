use Rattle.std.proofs.Common.{◌≡◌, ℕ, All, map, false, IsTrue}
use Rattle.std.specs.List.{range_with_len}
use Rattle.replica_core.specs.Rule.{opening_state}
use Rattle.replica_journal.specs.Calls.{is_calm}
use Rattle.restart_replay.proofs.fresh.kept_replicas.Given as goal

abbrev pub invariant-loop-number : goal.invariant-loop-number
invariant-loop-number l = record {
  states : map (λ kept. kept.state) l.made.items ≡ map (λ (number : ℕ). opening_state number l.keys) (range_with_len 0 l.number);
  fresh : All (λ kept. (kept.shut ≡ false) × IsTrue (is_calm kept.disk.calls) × (kept.place.gate ≡ 0)) l.made.items;
}
