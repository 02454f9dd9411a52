-- Which answers a call counts, and what it keeps of them.
use Rattle.std.specs.Prelude.{max, Bool, true, false, ◌&&◌, Option}
use Rattle.ticket_rules.specs.declared.stamp.Stamp.{Stamp}
use Rattle.ticket_rules.specs.Stamp.{greater}
use Rattle.wire_msg.specs.declared.message.Message.{Message}
use Rattle.wire_msg.specs.declared.message.Message.TheVariants.{Have, Yes, Held, Gone, Here}
use Rattle.call_phase.specs.declared.best.Found.{Found}
use Rattle.call_phase.specs.Best.{better}
use Rattle.call_phase.specs.Counting.{counts, counts_without_replica, with_good, with_bad}
use Rattle.strong_proxy.specs.declared.progress.Stage.{Stage}
use Rattle.strong_proxy.specs.declared.progress.Stage.TheVariants.{First, Second, Looking}
use Rattle.strong_proxy.specs.declared.progress.Progress.{Progress}
use Rattle.strong_proxy.specs.declared.state.Work.{Work}
use Rattle.strong_proxy.specs.declared.state.Work.TheVariants.{ToRead, ToWrite}
use Rattle.strong_proxy.specs.declared.state.CallState.{CallState}

-- Have answers the first phase of a read
abbrev pub takes_have : Work → Stage → Bool
takes_have ToRead First = true
takes_have _ _ = false

-- Yes answers the first phase of a write, and the second one of each call
abbrev pub takes_yes : Work → Stage → Bool
takes_yes (ToWrite value) First = true
takes_yes _ Second = true
takes_yes _ _ = false

-- Held answers both phases of a write
abbrev pub takes_held : Work → Stage → Bool
takes_held (ToWrite value) First = true
takes_held (ToWrite value) Second = true
takes_held _ _ = false

-- Gone answers both phases of each call
abbrev pub takes_gone : Stage → Bool
takes_gone First = true
takes_gone Second = true
takes_gone _ = false

-- Here answers a call that looks up
abbrev pub takes_here : Stage → Bool
takes_here Looking = true
takes_here _ = false

-- the message is an answer that counts: its kind answers the phase, and the phase counts it
abbrev pub is_counted : CallState → Message → Bool
is_counted call (Have tag replica version mark value) = takes_have call.work call.progress.stage && counts call.progress.phase tag replica
is_counted call (Yes tag replica) = takes_yes call.work call.progress.stage && counts call.progress.phase tag replica
is_counted call (Held tag replica stamp) = takes_held call.work call.progress.stage && counts call.progress.phase tag replica
is_counted call (Gone tag replica epoch) = takes_gone call.progress.stage && counts call.progress.phase tag replica
is_counted call (Here tag key epoch policy latest_epoch latest_policy) = takes_here call.progress.stage && counts_without_replica call.progress.phase tag
is_counted call _ = false

-- the greatest Held stamp of the first phase
abbrev pub held_after : Stage → Stamp → Stamp → Stamp
held_after First top stamp = greater top stamp
held_after _ top stamp = top

-- what is kept of an answer, but for a version's value
abbrev pub progress_after : Progress → Message → Progress
progress_after p (Have tag replica version mark value) = record p { phase = with_good p.phase replica; top_mark = greater p.top_mark mark }
progress_after p (Yes tag replica) = record p { phase = with_good p.phase replica }
progress_after p (Held tag replica stamp) = record p { phase = with_bad p.phase replica; top_held = held_after p.stage p.top_held stamp }
progress_after p (Gone tag replica epoch) = record p { phase = with_bad p.phase replica; had_gone = true; top_gone = max p.top_gone epoch }
progress_after p _ = p

-- the greatest version so far
abbrev pub best_after : Option Found → Message → Option Found
best_after best (Have tag replica version mark value) = better best version value
best_after best _ = best

-- the call with the answer counted
abbrev pub counted : CallState → Message → CallState
counted call message = record { work = call.work; best = best_after call.best message; progress = progress_after call.progress message }
