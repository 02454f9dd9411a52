-- What is kept of proxies, tickets and keys.
use Rattle.std.specs.Prelude.{ℕ, ◌==◌, Bool, is_some, unwrap_or}
use Rattle.std.specs.BTreeSet.{contains}
use Rattle.indexmap.specs.IndexMap.{get_by}
use Rattle.ticket_rules.specs.declared.stamp.Stamp.{Stamp}
use Rattle.ticket_rules.specs.Stamp.{stamp_cmp, stamp_zero}
use Rattle.history_audit.specs.declared.tables.LastCalls.{LastCalls}
use Rattle.history_audit.specs.declared.tables.Tickets.{Tickets}
use Rattle.history_audit.specs.declared.tables.Tops.{Tops}

-- the number of the proxy's last call, 0 where it began none
abbrev pub last_of : LastCalls → ℕ → ℕ
last_of table proxy = unwrap_or (get_by (λ at. proxy == at) table.by_proxy) 0

-- the ticket was drawn
abbrev pub was_drawn : Tickets → Stamp → Bool
was_drawn table stamp = contains stamp_cmp table.drawn stamp

-- a read or a write of the key has begun
abbrev pub has_key : Tops → ℕ → Bool
has_key table key = is_some (get_by (λ at. key == at) table.by_key)

-- the greatest stamp that a read or a write of the key was answered with, zero where none was
abbrev pub top_at : Tops → ℕ → Stamp
top_at table key = unwrap_or (get_by (λ at. key == at) table.by_key) stamp_zero
