-- The events of rounds, one after another.
use Rattle.std.proofs.Common.{◌≡◌, ℕ, ◌+◌, List, [], ◌∷◌, ◌++◌, length, map, sym, ap, ◌∙◌}
use Rattle.std.specs.Prelude.{Option, Some, None, Err}
use Rattle.std.proofs.lemmas.List.{append_assoc, append-nil, map-append, length-append}
use Rattle.std.proofs.lemmas.List.Sums.{fold_push}
use Rattle.std.proofs.lemmas.Grind.{flat_map-append}
use Rattle.run_marks.specs.declared.mark.Mark.{Mark}
use Rattle.world_core.specs.declared.event.Header.{Header}
use Rattle.world_core.specs.declared.event.Event.{Event}
use Rattle.world_core.specs.declared.event.Event.TheVariants.{Deliver}
use Rattle.world_core.specs.declared.event.StepFault.{StepFault}
use Rattle.world_core.specs.State.{Store, opening}
use Rattle.world_core.specs.Step.{Happening, step}
use Rattle.world_core.specs.Ends.{Seen}
use Rattle.world_core.specs.InMemory.{Happens}
use Rattle.world_core.specs.Run.{Run, run_of}
use Rattle.world_core.proofs.Runs.{going_on, one_more, run_more}
use Rattle.frame_link.specs.Frames.{Sent}
use Rattle.span_node.specs.Carried.{carried, first_same}
use Rattle.span_node.specs.Rounds.{Round, with_delivery, with_round, loop_events, answers_in, answers_of, script_of, so_far}

-- a round that has just begun
abbrev pub opened : Event → Round
opened event = record { event = event; arrived = [] }

-- a round in which a frame arrived
abbrev pub with_frame : Round → Sent → Round
with_frame last frame = record { event = last.event; arrived = last.arrived ++ frame ∷ [] }

-- ---- the events

pub events_begun : (header : Header) (rounds : List Round) (event : Event) → loop_events header (rounds ++ opened event ∷ []) ≡ loop_events header rounds ++ event ∷ []
unfolding loop_events with_round
events_begun header rounds event = fold_push (with_round header) [] rounds (opened event)

pub events_brought : (header : Header) (before : List Round) (last : Round) (frame : Sent) → loop_events header (before ++ with_frame last frame ∷ []) ≡ with_delivery header (loop_events header (before ++ last ∷ [])) frame
unfolding loop_events with_round
events_brought header before last frame =
    let events : List Event = loop_events header before in
    fold_push (with_round header) [] before (with_frame last frame)
    ∙ fold_push (with_delivery header) (events ++ last.event ∷ []) last.arrived frame
    ∙ ap (λ (es : List Event). with_delivery header es frame) (sym (fold_push (with_round header) [] before last))

-- the delivery, by its number
pub delivery_is : (header : Header) (events : List Event) (frame : Sent) (number : ℕ) → first_same (carried (run_of header events).store.sent) frame ≡ number
    → with_delivery header events frame ≡ events ++ Deliver number ∷ []
unfolding with_delivery
delivery_is header events frame number is = ap (λ n. events ++ Deliver n ∷ []) is

-- ---- the script and the answers

pub script_more : (rounds : List Round) (last : Round) → script_of (rounds ++ last ∷ []) ≡ script_of rounds ++ last.event ∷ []
unfolding script_of
script_more rounds last = map-append (λ (r : Round). r.event) rounds (last ∷ [])

pub script_same : (before : List Round) (last : Round) (frame : Sent) → script_of (before ++ with_frame last frame ∷ []) ≡ script_of (before ++ last ∷ [])
script_same before last frame = script_more before (with_frame last frame) ∙ sym (script_more before last)

pub count_more : (rounds : List Round) (last : Round) → length (rounds ++ last ∷ []) ≡ length rounds + 1
count_more rounds last = length-append rounds (last ∷ [])

pub count_same : (before : List Round) (last : Round) (frame : Sent) → length (before ++ with_frame last frame ∷ []) ≡ length (before ++ last ∷ [])
count_same before last frame = count_more before (with_frame last frame) ∙ sym (count_more before last)

-- what the last round's nothing makes of its answers
pub answers_closed : (before : List Round) (last : Round) → (answers_of before ++ map Some last.arrived) ++ None ∷ [] ≡ answers_of (before ++ last ∷ [])
unfolding answers_of answers_in
answers_closed before last =
    append_assoc (answers_of before) (map Some last.arrived) (None ∷ [])
    ∙ ap (λ (gs : List (Option Sent)). answers_of before ++ gs) (sym (append-nil (map Some last.arrived ++ None ∷ [])))
    ∙ sym (flat_map-append answers_in before (last ∷ []))

-- what one frame more makes of them
pub answers_more : (before : List Round) (last : Round) (frame : Sent) → (answers_of before ++ map Some last.arrived) ++ Some frame ∷ [] ≡ answers_of before ++ map Some (last.arrived ++ frame ∷ [])
answers_more before last frame =
    append_assoc (answers_of before) (map Some last.arrived) (Some frame ∷ [])
    ∙ ap (λ (gs : List (Option Sent)). answers_of before ++ gs) (sym (map-append Some last.arrived (frame ∷ [])))

-- ---- the run

pub ran_more : (header : Header) (events events' : List Event) (event : Event) (cloud : Seen) (marks : List Mark) → events' ≡ events ++ event ∷ [] → run_of header events ≡ so_far cloud marks
    → run_of header events' ≡ going_on (so_far cloud marks) (step cloud.store event)
ran_more header events events' event cloud marks more is =
    ap (run_of header) more ∙ run_more events event (opening header) ∙ ap (λ (r : Run). one_more r event) is

-- the run goes on with an event that is taken
pub ran_on : (header : Header) (events events' : List Event) (event : Event) (old new : Seen) (marks more : List Mark) → events' ≡ events ++ event ∷ [] → run_of header events ≡ so_far old marks
    → Happens old new (step old.store event) more → run_of header events' ≡ so_far new (marks ++ more)
ran_on header events events' event old new marks more one is happens =
    let h : Happening = happens.happening in
    ran_more header events events' event old marks one is
    ∙ ap (going_on (so_far old marks)) happens.taken
    ∙ ap (λ (s : Store). let r : Run = record { store = s; marks = marks ++ h.marks; taken = old.events + 1; refused = None } in r) (sym happens.store_is)
    ∙ ap (λ (ms : List Mark). let r : Run = record { store = new.store; marks = marks ++ ms; taken = old.events + 1; refused = None } in r) (sym happens.marks_are)
    ∙ ap (λ (n : ℕ). let r : Run = record { store = new.store; marks = marks ++ more; taken = n; refused = None } in r) (sym happens.events_are)

-- the run refuses the event
pub ran_into : (header : Header) (events events' : List Event) (event : Event) (old : Seen) (marks : List Mark) (fault : StepFault) → events' ≡ events ++ event ∷ [] → run_of header events ≡ so_far old marks
    → step old.store event ≡ Err fault → run_of header events' ≡ record { store = old.store; marks = marks; taken = old.events; refused = Some fault }
ran_into header events events' event old marks fault one is refuses =
    ran_more header events events' event old marks one is ∙ ap (going_on (so_far old marks)) refuses
