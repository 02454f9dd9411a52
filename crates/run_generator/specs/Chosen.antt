-- The events that a generator chooses, one after another, by what the run of those before came to.
use Rattle.std.specs.Prelude.{ℕ, zero, suc, ◌+◌, ◌-◌, ◌*◌, ◌/◌, ◌%◌, min, nat_lt, ◌==◌, Bool, ◌&&◌, if◌then◌else◌, List, [], ◌∷◌, ◌++◌, length, Option, Some, None, is_some}
use Rattle.std.specs.Option.{option_map_or}
use Rattle.std.specs.Int.{w32, to_be_bytes}
use Rattle.run_marks.specs.declared.mark.Work.{Work}
use Rattle.run_marks.specs.declared.mark.Work.TheVariants as w
use Rattle.world_core.specs.declared.event.Event.{Event}
use Rattle.world_core.specs.declared.event.Event.TheVariants.{Start, Deliver, GiveUp, Publish}
use Rattle.world_core.specs.State.{Proxy, proxy_at}
use Rattle.world_core.specs.Step.{handle_of_call}
use Rattle.world_core.specs.Run.{Run, run_of}
use Rattle.run_generator.specs.Header.{header, table}

-- how the drawing goes on, modulo 2^64
unfoldable pub next : ℕ → ℕ
next x = (x * 6364136223846793005 + 1442695040888963407) % 18446744073709551616

-- the number below m that a state of the drawing tells: its bits from 33 on, modulo m
unfoldable pub below : ℕ → ℕ → ℕ
below m x = (x / 8589934592) % m

-- the state of the drawing, and the events that were chosen
pub record Chosen : Type 0 where
  pub state : ℕ
  pub events : List Event

-- the run of the chosen events; where one is refused, those chosen after it do nothing
abbrev pub made : Chosen → Run
made c = run_of header c.events

-- the drawing goes on
abbrev pub draws : Chosen → Chosen
draws c = record { state = next c.state; events = c.events }

-- one event more
abbrev pub chooses : Chosen → Event → Chosen
chooses c event = record { state = c.state; events = c.events ++ event ∷ [] }

-- one of the latest 64 of so many messages is delivered
abbrev pub delivers_of : ℕ → Chosen → Chosen
delivers_of sent c = if sent == 0 then c else chooses (draws c) (Deliver (sent - 1 - below (min sent 64) (next c.state)))

unfoldable pub delivers : Chosen → Chosen
delivers c = delivers_of (length (made c).store.sent) c

-- so many deliveries
unfoldable pub deliveries : ℕ → Chosen → Chosen
deliveries zero c = c
deliveries (suc n) c = delivers (deliveries n c)

-- the call of this number comes with a new epoch, and is a move
abbrev pub is_500th : ℕ → Bool
is_500th k = k % 500 == 0

unfoldable pub publishes : ℕ → Chosen → Chosen
publishes k c = if is_500th k then chooses c (Publish table) else c

-- the call that the proxy began seven before its last one, if it is still live
abbrev pub late_call : Proxy → Option ℕ
late_call proxy = if nat_lt 7 proxy.begun && is_some (handle_of_call proxy.calls (proxy.begun - 7)) then Some (proxy.begun - 7) else None

-- it is given up
unfoldable pub gives_up : ℕ → Chosen → Chosen
gives_up p c = option_map_or (λ seq. chooses c (GiveUp p seq)) (late_call (proxy_at (made c).store p)) c

-- a read, or a write of the number of the call in four bytes, the greatest first
abbrev pub read_or_write : ℕ → ℕ → Work
read_or_write k x = if below 2 x == 0 then w.Read else w.Write (to_be_bytes w32 k)

-- what the call of this number does; and how the drawing stands then
abbrev pub work_drawn : ℕ → ℕ → Work × ℕ
work_drawn k x = if is_500th k then (w.Move, x) else (read_or_write k (next x), next x)

-- a call at the proxy, of a key that is drawn
unfoldable pub starts : ℕ → ℕ → Chosen → Chosen
starts k p c =
    chooses (record { state = (work_drawn k (next c.state)).1; events = c.events })
    (Start p (below 8 (next c.state)) (work_drawn k (next c.state)).0)

-- the proxy is drawn; its late call is given up, and then it begins a call
unfoldable pub calls : ℕ → Chosen → Chosen
calls k c = starts k (below 6 (next c.state)) (gives_up (below 6 (next c.state)) (draws c))

-- what is chosen for the call of this number
abbrev pub turn : ℕ → Chosen → Chosen
turn k c = calls k (publishes k (deliveries 24 c))

-- what is chosen of this number, up to the call of that one
unfoldable pub chosen : ℕ → ℕ → Chosen
chosen n zero = record { state = n; events = [] }
chosen n (suc k) = turn (suc k) (chosen n k)

-- the events of a generated run of so many calls
abbrev pub events_of : ℕ → List Event
events_of n = (chosen n n).events
