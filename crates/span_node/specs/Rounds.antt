-- The events of a loop over a link: those of a script, and behind each the deliveries of what arrives.
use Rattle.std.specs.Prelude.{ℕ, ◌<◌, List, [], ◌∷◌, ◌++◌, map, Option, Some, None}
use Rattle.std.specs.List.{flat_map, fold}
use Rattle.run_marks.specs.declared.mark.Mark.{Mark}
use Rattle.world_core.specs.declared.event.Header.{Header}
use Rattle.world_core.specs.declared.event.Event.{Event}
use Rattle.world_core.specs.declared.event.Event.TheVariants.{Deliver}
use Rattle.world_core.specs.Ends.{Seen}
use Rattle.world_core.specs.Run.{Run, run_of}
use Rattle.frame_link.specs.Frames.{Sent}
use Rattle.span_node.specs.Carried.{carried, first_same}

-- an event of the script, and the frames that arrived before nothing did
pub record Round : Type 0 where
  pub event : Event
  pub arrived : List Sent

-- the events so far, and then the delivery of the first message sent that an arrived frame can be
unfoldable pub with_delivery : Header → List Event → Sent → List Event
with_delivery header events sent = events ++ Deliver (first_same (carried (run_of header events).store.sent) sent) ∷ []

-- the events so far, and then those of a round
unfoldable pub with_round : Header → List Event → Round → List Event
with_round header events round = fold (with_delivery header) (events ++ round.event ∷ []) round.arrived

-- the events of the rounds
unfoldable pub loop_events : Header → List Round → List Event
loop_events header rounds = fold (with_round header) [] rounds

-- what a link answers in a round: the frames, and then nothing
unfoldable pub answers_in : Round → List (Option Sent)
answers_in round = map Some round.arrived ++ None ∷ []

-- what it answers in the rounds
unfoldable pub answers_of : List Round → List (Option Sent)
answers_of rounds = flat_map answers_in rounds

-- the events of the script in the rounds
unfoldable pub script_of : List Round → List Event
script_of rounds = map (λ round. round.event) rounds

-- the event delivers no message
abbrev pub DeliversNothing : Event → Type 0
DeliversNothing (Deliver message) = ⊥
DeliversNothing _ = Unit {0}

-- where the event delivers a message, that is one of so many
abbrev pub IsKnown : Event → ℕ → Type 0
IsKnown (Deliver message) sent = message < sent
IsKnown _ sent = Unit {0}

-- a run with no refusal so far, by its store
abbrev pub so_far : Seen → List Mark → Run
so_far cloud marks = record { store = cloud.store; marks = marks; taken = cloud.events; refused = None }
