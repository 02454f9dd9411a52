-- What a part of the decoder answers.
use Rattle.std.specs.Prelude.{ℕ, ◌≡◌, ◌++◌, ⊤, List, Result, Ok, Err}
use Rattle.wire_msg.specs.declared.fault.Fault.{Fault}
use Rattle.wire_msg.specs.declared.fault.Fault.TheVariants.{Wrong, NoMemory}
use Rattle.wire_msg.specs.declared.message.Message.{Message}
use Rattle.span_base.specs.declared.policy.Near.{Near}
use Rattle.span_base.specs.declared.policy.Hop.{Hop}
use Rattle.wire_msg.specs.Fields.{kind_of, fields_of}
use Rattle.wire_msg.specs.Faults.{nears_of, hops_of, Reading, sorts_of, kind_at, frame_at}

-- the fault is the one that reading gives, unless memory ran out
abbrev pub Fails : {Y : Type 0} → Fault → Result Y ℕ → Type 0
Fails (Wrong left) reading = reading ≡ Err left
Fails (NoMemory e) reading = ⊤

-- what was read, and the bytes that are left, are what reading gives
abbrev pub Gives : {X : Type 0} → Result X Fault → List ℕ → Reading X → Type 0
Gives (Ok x) rest reading = reading ≡ Ok (x, rest)
Gives (Err e) rest reading = Fails e reading

-- a message of this kind was read, and its fields are what reading gives
abbrev pub GivesKind : ℕ → Result Message Fault → List ℕ → List ℕ → Type 0
GivesKind kind (Ok m) rest bytes = (kind_of m ≡ kind) × (kind_at (sorts_of kind) bytes ≡ Ok (fields_of m, rest))
GivesKind kind (Err e) rest bytes = Fails e (kind_at (sorts_of kind) bytes)

-- the message that the frame is
abbrev pub GivesMessage : Result Message Fault → List ℕ → Type 0
GivesMessage (Ok m) frame = frame_at frame ≡ Ok (kind_of m, fields_of m)
GivesMessage (Err e) frame = Fails e (frame_at frame)

-- what was read stands behind what there was, and the bytes that are left are what reading gives
abbrev pub GivesMore : {X : Type 0} → List X → List X → Result (Unit {0}) Fault → List ℕ → Reading (List X) → Type 0
GivesMore {X} old new (Ok u) rest reading = (more : List X) × (reading ≡ Ok (more, rest)) × (new ≡ old ++ more)
GivesMore old new (Err e) rest reading = Fails e reading

-- the members were read, and their hops stand behind what there was
abbrev pub GivesLanes : List Hop → List Hop → Result (List Near) Fault → List ℕ → Reading (List (Near × List Hop)) → Type 0
GivesLanes old new (Ok nears) rest reading = (lanes : List (Near × List Hop)) × (reading ≡ Ok (lanes, rest)) × (nears ≡ nears_of lanes) × (new ≡ old ++ hops_of lanes)
GivesLanes old new (Err e) rest reading = Fails e reading
