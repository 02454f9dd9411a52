-- How a service ends.
use Rattle.std.specs.Prelude.{ℕ, ◌≡◌, ◌<◌, ◌+◌, ◌⊎◌, ⊤, Bool, true, false, List, [], ◌++◌, length, take, Option, Result, Ok, Err, IfSome, option_map}
use Rattle.std.specs.List.{AllByRecursion}
use Rattle.span_base.specs.Taken.{Appends}
use Rattle.wire_msg.specs.declared.message.Message.{Message}
use Rattle.replica_core.specs.declared.journal.TakeFault.{TakeFault}
use Rattle.replica_core.specs.declared.journal.TakeFault.TheVariants as taker
use Rattle.replica_core.specs.Rule.{State, step}
use Rattle.replica_core.specs.Taking.{IsTooMuch, is_disk_fault}
use Rattle.replica_journal.specs.Records.{state_after, body_of}
use Rattle.span_service.specs.declared.serve_fault.ServeFault.{ServeFault}
use Rattle.span_service.specs.declared.serve_fault.ServeFault.TheVariants.{Bad, Torn, Limit, ReadFault, WriteFault, Taker, NoMemory}
use Rattle.span_service.specs.Asking.{IsMore}
use Rattle.span_service.specs.Requests.{IsRequest, IsBad, IsTorn}
use Rattle.span_service.specs.Service.{request_bytes, service_bytes, answer_bytes}

-- What a service has at a moment: the replica's state, and the bytes not used yet and the bytes taken,
-- where the stream tells them.
pub record Moment : Type 0 where
  pub state : State
  pub coming : Option (List ℕ)
  pub taken : Option (List ℕ)

-- so many requests were taken, and answered in order with nothing but the frames of the replica's answers
pub record Served (keys : ℕ) (start now : Moment) (count : ℕ) : Type 0 where
  pub requests : List Message
  pub number : length requests ≡ count
  pub sound : AllByRecursion (IsRequest keys) requests
  pub state : now.state ≡ state_after start.state requests
  pub read : start.coming ≡ option_map (λ rest. request_bytes requests ++ rest) now.coming
  pub answered : Appends start.taken now.taken (service_bytes start.state requests)

-- so many requests were answered, and then one more was taken, of whose answer a front was written
pub record IsPartly (keys : ℕ) (start : Moment) (state : State) (taken : Option (List ℕ)) (count : ℕ) : Type 0 where
  pub before : Moment
  pub served : Served keys start before count
  pub request : Message
  pub sound : IsRequest keys request
  pub stands : IfSome before.coming (λ bytes. (rest : List ℕ) × (bytes ≡ body_of request ++ rest))
  pub state_is : state ≡ (step before.state request).state
  pub size : ℕ
  pub front : Appends before.taken taken (take size (answer_bytes (step before.state request).out.posts))

-- so many requests were answered, and this holds of the bytes behind them, where they are told
pub record IsLeft (keys : ℕ) (start : Moment) (state : State) (taken : Option (List ℕ)) (count : ℕ) (P : List ℕ → Type 0) : Type 0 where
  pub left : Option (List ℕ)
  pub served : Served keys start (record { state = state; coming = left; taken = taken }) count
  pub holds : IfSome left P

-- the taker refused a request for this cause, where its journal has so many bytes
abbrev pub IsRefused : ℕ → Message → TakeFault → Type 0
IsRefused size request (taker.NoMemory error) = ⊥
IsRefused size request taker.DiskFault = ⊤
IsRefused size request taker.Shut = ⊤
IsRefused size request (taker.Full bytes) = IsTooMuch size request bytes

-- the request that the taker refused
pub record IsRefusedAt (keys size : ℕ) (start : Moment) (state : State) (taken : Option (List ℕ)) (fault : TakeFault) : Type 0 where
  pub count : ℕ
  pub request : Message
  pub sound : IsRequest keys request
  pub refused : IsRefused size request fault
  pub left : IsLeft keys start state taken count (λ bytes. (rest : List ℕ) × (bytes ≡ body_of request ++ rest))

-- how a service ends, in this state and with these bytes taken
abbrev pub Ends : ℕ → ℕ → Moment → State → Option (List ℕ) → Result ℕ ServeFault → Type 0
Ends keys size start state taken (Ok count) = IsLeft keys start state taken count (λ bytes. bytes ≡ [])
Ends keys size start state taken (Err (Bad frame at)) = (count : ℕ) × (frame ≡ count + 1) × IsLeft keys start state taken count (λ bytes. IsBad keys bytes at)
Ends keys size start state taken (Err (Torn frame)) = (count : ℕ) × (frame ≡ count + 1) × IsLeft keys start state taken count IsTorn
Ends keys size start state taken (Err (Limit number)) = (number ≡ 1000001) × IsLeft keys start state taken 1000000 (λ bytes. 0 < length bytes)
Ends keys size start state taken (Err (ReadFault count)) = IsLeft keys start state taken count (λ bytes. ⊤)
Ends keys size start state taken (Err (WriteFault count)) = IsPartly keys start state taken count
Ends keys size start state taken (Err (Taker fault)) = IsRefusedAt keys size start state taken fault
Ends keys size start state taken (Err (NoMemory error)) = (count : ℕ) × (IsLeft keys start state taken count (λ bytes. ⊤) ⊎ IsPartly keys start state taken count)

-- one more request was answered, or the service ended, where so many were answered before
abbrev pub GoesOn : ℕ → ℕ → Moment → Moment → ℕ → Result Bool ServeFault → Type 0
GoesOn keys size start now count (Ok true) = Served keys start now (count + 1)
GoesOn keys size start now count (Ok false) = Ends keys size start now.state now.taken (Ok count)
GoesOn keys size start now count (Err fault) = Ends keys size start now.state now.taken (Err fault)

-- the taker's disk failed
abbrev pub disk_failed : {T : Type 0} → Result T ServeFault → Bool
disk_failed (Ok value) = false
disk_failed (Err (Bad frame at)) = false
disk_failed (Err (Torn frame)) = false
disk_failed (Err (Limit number)) = false
disk_failed (Err (ReadFault count)) = false
disk_failed (Err (WriteFault count)) = false
disk_failed {T = T} (Err (Taker fault)) = is_disk_fault {T = T} (Err fault)
disk_failed (Err (NoMemory error)) = false

-- whether there is one more byte, where so many requests were answered
abbrev pub TellsMore : Option (List ℕ) → Option (List ℕ) → List ℕ → List ℕ → ℕ → Result Bool ServeFault → Type 0
TellsMore coming coming' old new count (Ok some) = IsMore coming coming' old new some
TellsMore coming coming' old new count (Err fault) = fault ≡ ReadFault count

-- the next request, where so many were answered, or why there is none
abbrev pub AsksNext : ℕ → Option (List ℕ) → Option (List ℕ) → ℕ → Result Message ServeFault → Type 0
AsksNext keys before after count (Ok request) = IsRequest keys request × (before ≡ option_map (λ rest. body_of request ++ rest) after)
AsksNext keys before after count (Err (Bad frame at)) = (frame ≡ count + 1) × IfSome before (λ bytes. IsBad keys bytes at)
AsksNext keys before after count (Err (Torn frame)) = (frame ≡ count + 1) × IfSome before IsTorn
AsksNext keys before after count (Err (Limit number)) = ⊥
AsksNext keys before after count (Err (ReadFault answered)) = answered ≡ count
AsksNext keys before after count (Err (WriteFault answered)) = ⊥
AsksNext keys before after count (Err (Taker fault)) = ⊥
AsksNext keys before after count (Err (NoMemory error)) = ⊤

-- the taker took the request, and a front of its answer was written
pub record IsFrontOut (old new : State) (taken taken' : Option (List ℕ)) (request : Message) : Type 0 where
  pub state : new ≡ (step old request).state
  pub size : ℕ
  pub front : Appends taken taken' (take size (answer_bytes (step old request).out.posts))

-- nothing came of the request
pub record IsNothing (old new : State) (taken taken' : Option (List ℕ)) : Type 0 where
  pub state : new ≡ old
  pub taken_is : taken' ≡ taken

-- the request is answered, or why not, where so many were answered before
abbrev pub Replies : ℕ → State → State → Option (List ℕ) → Option (List ℕ) → Message → ℕ → Result (Unit {0}) ServeFault → Type 0
Replies size old new taken taken' request count (Ok done) = (new ≡ (step old request).state) × Appends taken taken' (answer_bytes (step old request).out.posts)
Replies size old new taken taken' request count (Err (Bad frame at)) = ⊥
Replies size old new taken taken' request count (Err (Torn frame)) = ⊥
Replies size old new taken taken' request count (Err (Limit number)) = ⊥
Replies size old new taken taken' request count (Err (ReadFault answered)) = ⊥
Replies size old new taken taken' request count (Err (WriteFault answered)) = (answered ≡ count) × IsFrontOut old new taken taken' request
Replies size old new taken taken' request count (Err (Taker fault)) = IsRefused size request fault × IsNothing old new taken taken'
Replies size old new taken taken' request count (Err (NoMemory error)) = IsNothing old new taken taken' ⊎ IsFrontOut old new taken taken' request
