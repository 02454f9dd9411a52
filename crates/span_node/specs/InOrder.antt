-- The loop over a link that gives each frame once, in the order in which they were sent.
use Rattle.std.specs.Prelude.{ℕ, zero, suc, ◌≡◌, ◌+◌, List, [], ◌∷◌, ◌++◌, length, slice_get, Option, Some, None}
use Rattle.world_core.specs.declared.event.Header.{Header}
use Rattle.world_core.specs.declared.event.Event.{Event}
use Rattle.world_core.specs.Run.{run_of}
use Rattle.frame_link.specs.Frames.{Sent, arrived}
use Rattle.span_node.specs.Carried.{carried}
use Rattle.span_node.specs.Rounds.{with_delivery}

-- how far such a loop has come: its events, how many frames have arrived, and the script's events that are left
pub record Turn : Type 0 where
  pub events : List Event
  pub come : ℕ
  pub left : List Event

-- the script's next event happens, where one is left
abbrev pub with_next : List Event → ℕ → List Event → Turn
with_next events come [] = record { events = events; come = come; left = [] }
with_next events come (event ∷ left) = record { events = events ++ event ∷ []; come = come; left = left }

-- a frame arrives and is delivered; or none does, and the script goes on
abbrev pub turned_by : Header → Turn → Option Sent → Turn
turned_by header turn (Some frame) = record { events = with_delivery header turn.events frame; come = turn.come + 1; left = turn.left }
turned_by header turn None = with_next turn.events turn.come turn.left

-- the frames sent so far
abbrev pub frames_so_far : Header → List Event → List Sent
frames_so_far header events = carried (run_of header events).store.sent

-- the first frame sent that hasn't arrived does; where each has, none does
unfoldable pub turned : Header → Turn → Turn
turned header turn = turned_by header turn (slice_get (frames_so_far header turn.events) turn.come)

-- the loop of a script after so many events
unfoldable pub in_order : Header → List Event → ℕ → Turn
in_order header script zero = record { events = []; come = 0; left = script }
in_order header script (suc n) = turned header (in_order header script n)

-- these are all events of a script's loop: no event is left, and each frame has arrived
pub record AreInOrder (header : Header) (script events : List Event) : Type 0 where
  pub come : ℕ
  pub all : in_order header script (length events) ≡ record { events = events; come = come; left = [] }
  pub none_due : slice_get (frames_so_far header events) come ≡ None

-- these are the first events of a script's loop, by the answers that the link gave, and this is left of the script
abbrev pub IsInStep : Header → List Event → List Event → List (Option Sent) → List Event → Type 0
IsInStep header script events given left = in_order header script (length events) ≡ record { events = events; come = length (arrived given); left = left }

-- and each frame sent has arrived
pub record IsDone (header : Header) (script events : List Event) (given : List (Option Sent)) (left : List Event) : Type 0 where
  pub step : IsInStep header script events given left
  pub none_due : slice_get (frames_so_far header events) (length (arrived given)) ≡ None
