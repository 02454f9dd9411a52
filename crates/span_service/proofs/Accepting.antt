-- A door in memory accepts its next connection.
use Rattle.std.proofs.Common.{ℕ, ◌≡◌, List, [], ◌∷◌, map, Option, Some, None, sym, ◌∙◌, ap}
use Rattle.std.specs.List.{concat}
use Rattle.std.proofs.lemmas.List.{append-nil, map-append}
use Rattle.span_service.specs.declared.mem_door.Here.{Here}
use Rattle.span_service.specs.declared.mem_door.Past.{Past}
use Rattle.span_service.specs.Memory.{HeldStream}
use Rattle.span_service.specs.Doors.{Visit, IsNext, visits_of}
use Rattle.span_service.specs.MemDoors.{IsUnused, had_of, taken_here, tells, past_with, visit_past}

-- the present connection is the last visit
visits_past : (waiting : List HeldStream) (ended : List Past) (here : Option Here) (faults : ℕ) → map visit_past (past_with ended here faults) ≡ visits_of (tells waiting ended here) (Some (taken_here here)) faults
visits_past waiting ended None faults = sym (append-nil (map visit_past ended))
visits_past waiting ended (Some here) faults = map-append visit_past ended (record { stream = here.stream; before = here.before; after = faults } ∷ [])

pub next_is : (waiting rest : List HeldStream) (ended ended' : List Past) (here : Option Here) (faults : ℕ) (stream : HeldStream) → waiting ≡ stream ∷ rest → IsUnused stream → ended' ≡ past_with ended here faults
    → IsNext (tells waiting ended here) (Some (taken_here here)) faults (Some (concat stream.left)) (Some stream.taken) (Some (tells rest ended' (Some (record { stream = stream; before = faults }))))
next_is waiting rest ended ended' here faults stream is unused past = record {
  first = had_of stream;
  rest = map had_of rest;
  came = ap (map had_of) is;
  coming = ap (λ (l : List (List ℕ)). Some (concat l)) unused.unread;
  fresh = ap (λ (l : List ℕ). Some l) unused.untaken;
  now = ap (λ (v : List Visit). Some (record { waiting = map had_of rest; ended = v; present = Some (record { had = had_of stream; before = faults }) })) (ap (map visit_past) past ∙ visits_past waiting ended here faults);
}
