-- Connections that were served one after another.
use Rattle.std.specs.Prelude.{ℕ, ◌≡◌, ◌-◌, ⊤, List, [], ◌∷◌, ◌++◌, codes, length, map, Option, Some, None, Result, Ok, Err, IsErrOf}
use Rattle.std.specs.List.{AllByRecursion, flat_map}
use Rattle.std.specs.Fmt.{decimal}
use Rattle.span_base.specs.Counts.{Rose}
use Rattle.span_base.specs.Taken.{Appends}
use Rattle.replica_core.specs.Rule.{State}
use Rattle.span_service.specs.declared.serve_fault.ServeFault.{ServeFault}
use Rattle.span_service.specs.declared.serve_fault.ServeFault.TheVariants.{Bad, Torn, Limit, ReadFault, WriteFault, Taker, NoMemory}
use Rattle.span_service.specs.Doors.{Visit, Told, visits_of}
use Rattle.span_service.specs.Serving.{Ends}

-- a served connection: the bytes that it had to give, those taken when it came and when it was served, where they
-- are told, the count of faults at either time, and how its service ended
pub record Connection : Type 0 where
  pub had : Option (List ℕ)
  pub began : Option (List ℕ)
  pub took : Option (List ℕ)
  pub before : ℕ
  pub after : ℕ
  pub answer : Result ℕ ServeFault

abbrev pub visit_of : Connection → Visit
visit_of c = record { had = c.had; took = c.took; before = c.before; after = c.after }

-- how many requests were answered whole, and the word for the end
pub record Line : Type 0 where
  pub answered : ℕ
  pub word : List ℕ

-- the line of a service, unless the replica or memory ended it
abbrev pub line_of : Result ℕ ServeFault → Option Line
line_of (Ok count) = Some (record { answered = count; word = codes "end" })
line_of (Err (Bad frame at)) = Some (record { answered = frame - 1; word = codes "bad" })
line_of (Err (Torn frame)) = Some (record { answered = frame - 1; word = codes "torn" })
line_of (Err (Limit number)) = Some (record { answered = number - 1; word = codes "limit" })
line_of (Err (ReadFault count)) = Some (record { answered = count; word = codes "read" })
line_of (Err (WriteFault count)) = Some (record { answered = count; word = codes "write" })
line_of (Err (Taker fault)) = None
line_of (Err (NoMemory error)) = None

-- the line `served N WORD`
unfoldable pub served_line : ℕ → List ℕ → List ℕ
served_line answered word = codes "served " ++ decimal answered ++ codes " " ++ word ++ codes "\n"

-- the line `replica R records N`
unfoldable pub opening_line : ℕ → ℕ → List ℕ
opening_line number records = codes "replica " ++ decimal number ++ codes " records " ++ decimal records ++ codes "\n"

abbrev pub line_text : Option Line → List ℕ
line_text None = []
line_text (Some line) = served_line line.answered line.word

abbrev pub connection_line : Connection → List ℕ
connection_line c = line_text (line_of c.answer)

-- a connection was served from one state of the replica to another: its end is that of a service of its bytes, which
-- has a line, and the words `read` and `write` stand only where the count of faults rose
pub record IsService (keys : ℕ) (state state' : State) (c : Connection) : Type 0 where
  pub size : ℕ
  pub ends : Ends keys size (record { state = state; coming = c.had; taken = c.began }) state' c.took c.answer
  pub line : Line
  pub told : line_of c.answer ≡ Some line
  pub read : (n : ℕ) → IsErrOf c.answer (ReadFault n) → Rose c.before c.after
  pub written : (n : ℕ) → IsErrOf c.answer (WriteFault n) → Rose c.before c.after

-- the connections were served in their order, each from the state that the last one left
abbrev pub AreServed : ℕ → State → State → List Connection → Type 0
AreServed keys state state' [] = state' ≡ state
AreServed keys state state' (c ∷ rest) = (middle : State) × IsService keys state middle c × AreServed keys middle state' rest

-- what a door tells at a moment, the bytes that the present connection took, and the count of faults
pub record Scene : Type 0 where
  pub told : Option Told
  pub taken : Option (List ℕ)
  pub faults : ℕ

-- these connections came, of which nothing was taken before, and they are the visits since then
pub record HaveCome (told : Told) (old : Scene) (told' : Told) (new : Scene) (connections : List Connection) : Type 0 where
  pub bytes : List (List ℕ)
  pub came : told.waiting ≡ bytes ++ told'.waiting
  pub had : map (λ (b : List ℕ). Some b) bytes ≡ map (λ (c : Connection). c.had) connections
  pub fresh : AllByRecursion (λ (c : Connection). c.began ≡ Some []) connections
  pub visits : visits_of told' new.taken new.faults ≡ visits_of told old.taken old.faults ++ map visit_of connections

abbrev pub Come : Option Told → Scene → Scene → List Connection → Type 0
Come None old new connections = ⊤
Come (Some told) old new connections = (told' : Told) × (new.told ≡ Some told') × HaveCome told old told' new connections

-- what serving connections made, from a scene of the door and bytes that the sink had taken to those now
pub record AreVisited (keys : ℕ) (state state' : State) (old new : Scene) (out out' : Option (List ℕ)) (count : ℕ) : Type 0 where
  pub connections : List Connection
  pub number : length connections ≡ count
  pub served : AreServed keys state state' connections
  pub come : Come old.told old new connections
  pub lines : Appends out out' (flat_map connection_line connections)

-- the present connection was served, and this is its line
pub record IsPresentServed (keys : ℕ) (state state' : State) (coming taken taken' : Option (List ℕ)) (faults faults' : ℕ) (line : Line) : Type 0 where
  pub answer : Result ℕ ServeFault
  pub service : IsService keys state state' (record { had = coming; began = taken; took = taken'; before = faults; after = faults'; answer = answer })
  pub told : line_of answer ≡ Some line
