-- What is kept of each call.
use Rattle.std.specs.Prelude.{ℕ, ◌==◌, ◌&&◌, Option, Some}
use Rattle.indexmap.specs.IndexMap.{get_by}
use Rattle.span_base.specs.declared.ids.Call.{Call}
use Rattle.history_audit.specs.declared.calls.CallState.{CallState}
use Rattle.history_audit.specs.declared.calls.CallTable.{CallTable}
use Rattle.history_audit.specs.declared.calls.Ending.{Ending}
use Rattle.ticket_rules.specs.declared.stamp.Stamp.{Stamp}

-- what is kept of a call, where it has begun
abbrev pub look : CallTable → Call → Option CallState
look table call = get_by (λ (at : ℕ × ℕ). (call.proxy == at.0) && (call.seq == at.1)) table.calls

-- the call draws a ticket, counts with a stamp, is over
abbrev pub drawing : Stamp → CallState → CallState
drawing stamp state = record state { latest = Some stamp }

abbrev pub counting : Stamp → CallState → CallState
counting stamp state = record state { counted = Some stamp }

abbrev pub ending_so : Ending → CallState → CallState
ending_so ending state = record state { ending = ending }
