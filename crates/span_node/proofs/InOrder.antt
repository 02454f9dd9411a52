-- Over a faithful link the frames arrive in order.
use Rattle.std.proofs.Common.{◌≡◌, suc, ◌+◌, List, [], ◌∷◌, ◌++◌, length, slice_get, refl, sym, ap, ◌∙◌, subst, arith}
use Rattle.std.specs.Prelude.{Option, Some, None, option_map}
use Rattle.std.proofs.lemmas.List.{append-nil, length-append}
use Rattle.world_core.specs.declared.event.Header.{Header}
use Rattle.world_core.specs.declared.event.Event.{Event}
use Rattle.world_core.specs.declared.event.Event.TheVariants.{Deliver}
use Rattle.world_core.specs.Run.{run_of}
use Rattle.frame_link.specs.Frames.{Sent, arrived, IsFaithful}
use Rattle.span_node.specs.Traffic.{Traffic, Carries, IsFresh}
use Rattle.span_node.specs.Carried.{carried, first_same}
use Rattle.span_node.specs.Rounds.{with_delivery}
use Rattle.span_node.specs.InOrder.{Turn, turned_by, turned, frames_so_far, in_order, AreInOrder, IsInStep, IsDone}

-- ---- the frames among answers

pub arrived_more : (xs ys : List (Option Sent)) → arrived (xs ++ ys) ≡ arrived xs ++ arrived ys
arrived_more [] ys = refl
arrived_more (None ∷ xs) ys = arrived_more xs ys
arrived_more (Some frame ∷ xs) ys = ap (λ (fs : List Sent). frame ∷ fs) (arrived_more xs ys)

-- one frame more
one_come : (given : List (Option Sent)) (frame : Sent) → length (arrived (given ++ Some frame ∷ [])) ≡ length (arrived given) + 1
one_come given frame = ap length (arrived_more given (Some frame ∷ [])) ∙ length-append (arrived given) (frame ∷ [])

-- nothing
none_come : (given : List (Option Sent)) → arrived (given ++ None ∷ []) ≡ arrived given
none_come given = arrived_more given (None ∷ []) ∙ append-nil (arrived given)

-- the answer that is due, by the frames that were sent and the answers given
pub due : (from link : Traffic) (frames : List Sent) (given : List (Option Sent)) (answer : Option Sent) → IsFresh from → Carries from link frames given
    → IsFaithful link.faithful link.sent link.answers answer → answer ≡ slice_get frames (length (arrived given))
due from link frames given answer fresh carries faithfully =
    let sent : link.sent ≡ Some frames = carries.sent ∙ ap (option_map (λ (b : List Sent). b ++ frames)) fresh.sent in
    let answers : link.answers ≡ Some (fresh.before ++ given) = carries.answers ∙ ap (option_map (λ (b : List (Option Sent)). b ++ given)) fresh.answers in
    let none : arrived (fresh.before ++ given) ≡ arrived given = arrived_more fresh.before given ∙ ap (λ (fs : List Sent). fs ++ arrived given) fresh.none in
    faithfully frames (fresh.before ++ given) (carries.faithful ∙ fresh.faithful) sent answers ∙ ap (λ (fs : List Sent). slice_get frames (length fs)) none

-- ---- the loop

longer : (header : Header) (events : List Event) (frame : Sent) → length (with_delivery header events frame) ≡ suc (length events)
unfolding with_delivery
longer header events frame = length-append events (Deliver (first_same (carried (run_of header events).store.sent) frame) ∷ []) ∙ omega arith

-- the frame that is due arrives
pub step_frame : (header : Header) (script events : List Event) (given : List (Option Sent)) (left : List Event) (frame : Sent) → IsInStep header script events given left
    → Some frame ≡ slice_get (frames_so_far header events) (length (arrived given)) → IsInStep header script (with_delivery header events frame) (given ++ Some frame ∷ []) left
unfolding in_order turned
step_frame header script events given left frame is at =
    let turn : Turn = record { events = events; come = length (arrived given); left = left } in
    ap (in_order header script) (longer header events frame)
    ∙ ap (turned header) is
    ∙ ap (turned_by header turn) (sym at)
    ∙ ap (λ n. let t : Turn = record { events = with_delivery header events frame; come = n; left = left } in t) (sym (one_come given frame))

-- none is due: the round is over
pub step_none : (header : Header) (script events : List Event) (given given' : List (Option Sent)) (left : List Event) → IsInStep header script events given left
    → None ≡ slice_get (frames_so_far header events) (length (arrived given)) → given ++ None ∷ [] ≡ given' → IsDone header script events given' left
step_none header script events given given' left is none closed =
    let same : arrived given ≡ arrived given' = sym (none_come given) ∙ ap arrived closed in
    record {
      step = is ∙ ap (λ (fs : List Sent). let t : Turn = record { events = events; come = length fs; left = left } in t) same;
      none_due = sym (none ∙ ap (λ (fs : List Sent). slice_get (frames_so_far header events) (length fs)) same);
    }

-- the script's next event
pub step_event : (header : Header) (script events : List Event) (given : List (Option Sent)) (event : Event) (left : List Event) → IsDone header script events given (event ∷ left)
    → IsInStep header script (events ++ event ∷ []) given left
unfolding in_order turned
step_event header script events given event left is =
    let turn : Turn = record { events = events; come = length (arrived given); left = event ∷ left } in
    let one : length (events ++ event ∷ []) ≡ suc (length events) = length-append events (event ∷ []) ∙ omega arith in
    ap (in_order header script) one ∙ ap (turned header) is.step ∙ ap (turned_by header turn) is.none_due

-- the end
pub step_end : (header : Header) (script events : List Event) (given : List (Option Sent)) → IsDone header script events given [] → AreInOrder header script events
step_end header script events given is = record { come = length (arrived given); all = is.step; none_due = is.none_due }

-- the beginning
pub step_first : (header : Header) (script events : List Event) (given : List (Option Sent)) → events ≡ [] → given ≡ [] → frames_so_far header events ≡ [] → IsDone header script events given script
unfolding in_order
step_first header script events given none nothing unsent =
    subst (λ (es : List Event). IsDone header script es given script) (sym none) (subst (λ (gs : List (Option Sent)). IsDone header script [] gs script) (sym nothing) (record {
      step = refl;
      none_due = ap (λ (fs : List Sent). slice_get fs 0) (subst (λ (es : List Event). frames_so_far header es ≡ []) none unsent);
    }))
