-- An eventual call stays within the ranges of a log, with all that it puts out.
use Rattle.std.proofs.Common.{ℕ, List}
use Rattle.std.specs.Prelude.{max, Some}
use Rattle.span_base.specs.declared.ids.DcId.{DcId}
use Rattle.ticket_rules.specs.declared.stamp.Stamp.{Stamp}
use Rattle.wire_msg.specs.declared.tag.Tag.{Tag}
use Rattle.wire_msg.specs.declared.actor.Actor.TheVariants as to
use Rattle.wire_msg.specs.declared.message.Message.{Message}
use Rattle.wire_msg.specs.declared.message.Message.TheVariants as m
use Rattle.wire_msg.specs.declared.outputs.Reply.{Reply}
use Rattle.wire_msg.specs.declared.outputs.Reply.TheVariants as r
use Rattle.wire_msg.specs.Outputs.{Step}
use Rattle.call_phase.specs.Counting.{counts, with_good, with_bad}
use Rattle.relay_proxy.specs.declared.stage.Stage.{Stage as Doing}
use Rattle.relay_proxy.specs.declared.stage.Stage.TheVariants as doing
use Rattle.relay_proxy.specs.Rule as eventual
use Rattle.relay_proxy.specs.State as relay
use Rattle.register_law.proofs.Basics.{each_one}
use Rattle.history_audit.specs.Ranges.{FitsStamp, FitsValue, FitsReply}
use Rattle.log_law.specs.Fits.{FitsEpoch, FitsMessage, FitsDoing, FitsEventual}
use Rattle.log_law.proofs.Basics.{chosen, max_fits, FitsOut, nothing_fits, end_fits}

-- what a step makes of the call
pub record StepFits (step : (Step relay.State)) : Type 0 where
  pub state : FitsEventual step.state
  pub out : FitsOut step.out

still : (call : relay.State) → FitsEventual call → StepFits (eventual.stays call)
still call c = record { state = c; out = nothing_fits }

over : (call : relay.State) (reply : Reply) → FitsReply reply → FitsEventual call → StepFits (eventual.ends call reply)
over call reply f c = record { state = record { doing = tt; gone = c.gone }; out = end_fits (Some reply) f }

moved : (call : relay.State) (epoch : ℕ) → FitsEpoch epoch → FitsEventual call → StepFits (eventual.moves call epoch)
moved call epoch f c = record {
  state = record { doing = tt; gone = c.gone };
  out = record { posts = each_one FitsMessage (record { to = to.Directory; message = eventual.look_up call }) tt; ticket = tt; shown = tt; end = f };
}

have_fits : (at : Doing) (call : relay.State) (tag : Tag) (replica : DcId) (version : Stamp) (value : List ℕ) → FitsStamp version → FitsValue value → FitsEventual call → StepFits (eventual.on_have at call tag replica version value)
have_fits doing.Getting call tag replica version value s v c =
    chosen StepFits (counts call.phase tag replica) (eventual.ends call (r.Value version value)) (eventual.stays call) (over call (r.Value version value) (s, v) c) (still call c)
have_fits (doing.Putting stamp) call tag replica version value s v c = still call c
have_fits doing.Ended call tag replica version value s v c = still call c

yes_fits : (at : Doing) (call : relay.State) (tag : Tag) (replica : DcId) → FitsDoing at → FitsEventual call → StepFits (eventual.on_yes at call tag replica)
yes_fits doing.Getting call tag replica d c = still call c
yes_fits (doing.Putting stamp) call tag replica d c =
    chosen StepFits (counts call.phase tag replica) (eventual.stored_at call replica stamp) (eventual.stays call)
    (chosen StepFits (eventual.is_stored call.f (with_good call.phase replica)) (eventual.ends call (r.Stored stamp)) (eventual.goes_on call (with_good call.phase replica) call.gone)
    (over call (r.Stored stamp) d c) (record { state = record { doing = c.doing; gone = c.gone }; out = nothing_fits }))
    (still call c)
yes_fits doing.Ended call tag replica d c = still call c

gone_fits : (at : Doing) (call : relay.State) (tag : Tag) (replica : DcId) (epoch : ℕ) → FitsEpoch epoch → FitsEventual call → StepFits (eventual.on_gone at call tag replica epoch)
gone_fits doing.Getting call tag replica epoch f c =
    let most = max_fits call.gone epoch c.gone f in
    chosen StepFits (counts call.phase tag replica) (eventual.refused_at call replica epoch) (eventual.stays call)
    (chosen StepFits (eventual.all_refused (with_bad call.phase replica)) (eventual.moves call (max call.gone epoch)) (eventual.goes_on call (with_bad call.phase replica) (max call.gone epoch))
    (moved call (max call.gone epoch) most c) (record { state = record { doing = c.doing; gone = most }; out = nothing_fits }))
    (still call c)
gone_fits (doing.Putting stamp) call tag replica epoch f c = chosen StepFits (counts call.phase tag replica) (eventual.moves call epoch) (eventual.stays call) (moved call epoch f c) (still call c)
gone_fits doing.Ended call tag replica epoch f c = still call c

pub eventual_fits : (call : relay.State) (message : Message) → FitsMessage message → FitsEventual call → StepFits (eventual.step call message)
eventual_fits call (m.Have tag replica version mark value) f c = have_fits call.stage call tag replica version value f.0 f.2 c
eventual_fits call (m.Yes tag replica) f c = yes_fits call.stage call tag replica c.doing c
eventual_fits call (m.Gone tag replica epoch) f c = gone_fits call.stage call tag replica epoch f c
eventual_fits call message f c = still call c
