-- What a link was given, and what it answers.
use Rattle.std.specs.Prelude.{ℕ, ◌≡◌, ◌≤◌, Bool, true, List, [], ◌∷◌, ◌++◌, length, take, filter_map, slice_get, Contains, Option, Some, None, option_map, Result, Ok, Err, ⊤}
use Rattle.span_base.specs.declared.sink.DeviceFault.{DeviceFault}
use Rattle.frame_link.specs.declared.link.Arrival.{Arrival}
use Rattle.frame_link.specs.declared.link.Arrival.TheVariants.{Nothing, Frame}

-- a frame with the node that it goes to
pub record Sent : Type 0 where
  pub to : ℕ
  pub frame : List ℕ

-- the frames with this one behind them
abbrev pub with_frame : List Sent → ℕ → List ℕ → List Sent
with_frame sent to frame = sent ++ record { to = to; frame = frame } ∷ []

-- what was sent, where it is told: the old frames, and then this one where the call was well
abbrev pub Sends : Option (List Sent) → Option (List Sent) → ℕ → List ℕ → Result Unit DeviceFault → Type 0
Sends old new to frame (Ok done) = new ≡ option_map (λ sent. with_frame sent to frame) old
Sends old new to frame (Err fault) = new ≡ old

-- a frame has at most 8,192 bytes
abbrev pub IsShort : Arrival → Type 0
IsShort Nothing = ⊤
IsShort (Frame to len) = len ≤ 8192

-- what an arrival gives: nothing, or the frame in the front of the buffer with its destination
abbrev pub answer_of : List ℕ → Arrival → Option Sent
answer_of buf Nothing = None
answer_of buf (Frame to len) = Some (record { to = to; frame = take len buf })

-- what was answered, where it is told: the old answers, and then this one where the call was well
abbrev pub Answers : Option (List (Option Sent)) → Option (List (Option Sent)) → List ℕ → Result Arrival DeviceFault → Type 0
Answers old new buf (Ok arrival) = new ≡ option_map (λ answers. answers ++ answer_of buf arrival ∷ []) old
Answers old new buf (Err fault) = new ≡ old

-- an honest link answers with no frame but one of those sent, where these are told
abbrev pub IsHonest : Option Bool → Option (List Sent) → Option Sent → Type 0
IsHonest honest sent answer = (frames : List Sent) (frame : Sent) → honest ≡ Some true → sent ≡ Some frames → answer ≡ Some frame → Contains frames frame

-- the frames among answers
abbrev pub arrived : List (Option Sent) → List Sent
arrived answers = filter_map (λ answer. answer) answers

-- a faithful link answers with the first frame sent that hasn't come yet, and with nothing where each has come, where what was sent and answered is told
abbrev pub IsFaithful : Option Bool → Option (List Sent) → Option (List (Option Sent)) → Option Sent → Type 0
IsFaithful faithful sent answers answer =
    (frames : List Sent) (before : List (Option Sent)) → faithful ≡ Some true → sent ≡ Some frames → answers ≡ Some before → answer ≡ slice_get frames (length (arrived before))
