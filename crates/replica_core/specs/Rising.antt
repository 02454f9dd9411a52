use Rattle.std.specs.Prelude.{◌≡◌, ◌≤◌}
use Rattle.ticket_rules.specs.Stamp.{IsAtMost}
use Rattle.replica_core.specs.declared.kept.Kept.{Kept}

-- nothing that is kept of a key falls, and the value changes only with its version
pub record Rises (old new : Kept) : Type 0 where
  pub version : IsAtMost old.version new.version
  pub value : new.version ≡ old.version → new.value ≡ old.value
  pub mark : IsAtMost old.mark new.mark
  pub fence : IsAtMost old.fence new.fence
  pub frozen : old.frozen ≤ new.frozen
