-- What a live call does with a message, whatever its kind.
use Rattle.std.specs.Prelude.{ℕ}
use Rattle.span_base.specs.declared.ids.KeyId.{KeyId}
use Rattle.wire_msg.specs.declared.tag.Tag.{Tag}
use Rattle.wire_msg.specs.declared.message.Message.{Message}
use Rattle.wire_msg.specs.declared.outputs.View.{View}
use Rattle.wire_msg.specs.Outputs.{Step}
use Rattle.strong_proxy.specs.declared.state.CallState.{CallState}
use Rattle.strong_proxy.specs.Rule as strong_call
use Rattle.relay_proxy.specs.State.{State as Eventually}
use Rattle.relay_proxy.specs.Rule as eventual_call
use Rattle.migration.specs.Move.{Moving, step as move_step}
use Rattle.migration.specs.Strong.{strong}
use Rattle.migration.specs.Eventual.{eventual}
use Rattle.world_core.specs.declared.live.LiveCall.{LiveCall}
use Rattle.world_core.specs.declared.live.LiveCall.TheVariants.{Strong, Eventual, StrongMove, EventualMove}

-- a call, and what is put out
abbrev pub Taken : Type 0
Taken = Step LiveCall

abbrev pub of_strong : Step CallState → Taken
of_strong step = record { state = Strong step.state; out = step.out }

abbrev pub of_eventual : Step Eventually → Taken
of_eventual step = record { state = Eventual step.state; out = step.out }

abbrev pub of_strong_move : Step Moving → Taken
of_strong_move step = record { state = StrongMove step.state; out = step.out }

abbrev pub of_eventual_move : Step Moving → Taken
of_eventual_move step = record { state = EventualMove step.state; out = step.out }

-- the call takes a message; the view is what the proxy knows of the call's key, the number the greatest that it saw
abbrev pub take : LiveCall → Message → View → ℕ → Taken
take (Strong call) message view seen = of_strong (strong_call.step call message view seen)
take (Eventual call) message view seen = of_eventual (eventual_call.step call message)
take (StrongMove call) message view seen = of_strong_move (move_step strong call message)
take (EventualMove call) message view seen = of_eventual_move (move_step eventual call message)

-- the tag of the call's present phase
abbrev pub tag_of_call : LiveCall → Tag
tag_of_call (Strong call) = call.progress.phase.tag
tag_of_call (Eventual call) = call.phase.tag
tag_of_call (StrongMove call) = call.phase.tag
tag_of_call (EventualMove call) = call.phase.tag

-- the key of a call
abbrev pub key_of_call : LiveCall → KeyId
key_of_call (Strong call) = call.progress.key
key_of_call (Eventual call) = call.key
key_of_call (StrongMove call) = call.key
key_of_call (EventualMove call) = call.key
