-- What a door in memory holds.
use Rattle.std.specs.Prelude.{ℕ, ◌≡◌, List, [], ◌∷◌, ◌++◌, map, Option, Some, None}
use Rattle.std.specs.List.{concat}
use Rattle.span_service.specs.declared.mem_door.Here.{Here}
use Rattle.span_service.specs.declared.mem_door.Past.{Past}
use Rattle.span_service.specs.Memory.{HeldStream}
use Rattle.span_service.specs.Doors.{Visit, Present, Told}

-- nothing was read from the stream, and nothing was taken
pub record IsUnused (stream : HeldStream) : Type 0 where
  pub unread : stream.left ≡ stream.all
  pub untaken : stream.taken ≡ []

abbrev pub had_of : HeldStream → List ℕ
had_of stream = concat stream.all

-- the present connection: what is to come of it, what it took, and how it is told; before the first one nothing comes
abbrev pub coming_here : Option Here → List ℕ
coming_here None = []
coming_here (Some here) = concat here.stream.left

abbrev pub taken_here : Option Here → List ℕ
taken_here None = []
taken_here (Some here) = here.stream.taken

abbrev pub present_here : Option Here → Option Present
present_here None = None
present_here (Some here) = Some (record { had = had_of here.stream; before = here.before })

abbrev pub count_here : Option Here → ℕ
count_here None = 0
count_here (Some here) = 1

abbrev pub visit_past : Past → Visit
visit_past past = record { had = Some (had_of past.stream); took = Some past.stream.taken; before = past.before; after = past.after }

abbrev pub tells : List HeldStream → List Past → Option Here → Told
tells waiting ended here = record { waiting = map had_of waiting; ended = map visit_past ended; present = present_here here }

-- the connections that ended, with the present one, which ends with so many faults
abbrev pub past_with : List Past → Option Here → ℕ → List Past
past_with ended None faults = ended
past_with ended (Some here) faults = ended ++ record { stream = here.stream; before = here.before; after = faults } ∷ []
