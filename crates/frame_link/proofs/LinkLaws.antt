-- What a link that goes by deals keeps, as frames are sent and answered.
use Rattle.std.proofs.Common.{◌≡◌, ℕ, zero, suc, ◌+◌, ◌<◌, true, List, [], ◌∷◌, ◌++◌, length, drop, map, slice_get, All, Option, Some, None, refl, sym, ap, subst, ◌∙◌, arith, inl, inr, add-zero, if◌then◌else◌}
use Rattle.std.proofs.lemmas.List.{length-append, map-append}
use Rattle.std.proofs.lemmas.List.Elements.{All-append, All-cons, All-nil, All-head, All-tail, All-weaker, filter_map-append}
use Rattle.std.proofs.lemmas.Option.{slice_get_cases, same_Some}
use Rattle.std.proofs.lemmas.Bool.{lt-ltb, le-ltb}
use Rattle.frame_link.specs.Frames.{Sent, IsFaithful, arrived, with_frame}
use Rattle.frame_link.specs.Deals.{dealt, pass_one, IsShortDeal, are_honest, are_faithful}
use Rattle.frame_link.specs.Memory.{HeldDeals, next_of, after_dealt}
use Rattle.frame_link.specs.Turns.{IsTurn, IsKnown, answer_from, answers_from}
use Rattle.frame_link.specs.DealtLinks.{held_by, IsDealtLink}
use Rattle.frame_link.specs.declared.deal.Deal.{Deal}
use Rattle.frame_link.specs.declared.turn.Origin.{Origin}
use Rattle.frame_link.specs.declared.turn.Origin.TheVariants.{Nowhere, Carried, Forged}
use Rattle.frame_link.specs.declared.turn.Turn.{Turn}
use Rattle.frame_link.proofs.TurnLaws.{IsOldest, faithful_gives_oldest}

-- ---- nothing was sent

no_answers : (sent : List Sent) (deals : List Deal) (origins : List Origin) → origins ≡ [] → answers_from sent deals origins ≡ []
unfolding answers_from
no_answers sent deals origins none = ap (map (answer_from sent deals)) none

pub new_link : (sent : List Sent) (origins : List Origin) (deals : List Deal) → origins ≡ [] → All IsShortDeal deals → IsDealtLink sent origins 0 deals 0
new_link sent origins deals none short = record {
  short = short;
  known = subst (All (IsKnown (length sent))) (sym none) (All-nil (IsKnown (length sent)));
  within = omega arith;
  in_order = λ faithful. sym (ap (λ (answers : List (Option Sent)). length (arrived answers)) (no_answers sent deals origins none));
}

pub new_holds : (sent : List Sent) (origins : List Origin) (deals : List Deal) → sent ≡ [] → origins ≡ []
    → held_by sent origins 0 deals 0 ≡ record { sent = []; answers = []; passed = 0; left = deals; honest = are_honest deals; faithful = are_faithful deals }
new_holds sent origins deals no-frames none =
    ap (λ (answers : List (Option Sent)). record { sent = sent; answers = answers; passed = 0; left = deals; honest = are_honest deals; faithful = are_faithful deals }) (no_answers sent deals origins none)
    ∙ ap (λ (frames : List Sent). record { sent = frames; answers = []; passed = 0; left = deals; honest = are_honest deals; faithful = are_faithful deals }) no-frames

-- ---- a frame is sent

get_stays : (sent more : List Sent) (n : ℕ) → n < length sent → slice_get (sent ++ more) n ≡ slice_get sent n
get_stays [] more n within = absurd (omega arith)
get_stays (s ∷ sent) more zero within = refl
get_stays (s ∷ sent) more (suc n) within = get_stays sent more n (omega arith)

answer_stays : (sent more : List Sent) (deals : List Deal) (origin : Origin) → IsKnown (length sent) origin → answer_from (sent ++ more) deals origin ≡ answer_from sent deals origin
answer_stays sent more deals Nowhere known = refl
answer_stays sent more deals (Carried n) known = get_stays sent more n known
answer_stays sent more deals (Forged n) known = refl

answers_stay : (sent more : List Sent) (deals : List Deal) (origins : List Origin) → All (IsKnown (length sent)) origins
    → answers_from (sent ++ more) deals origins ≡ answers_from sent deals origins
unfolding answers_from
answers_stay sent more deals [] known = refl
answers_stay sent more deals (origin ∷ origins) known =
    let Known : Origin → Type 0 = IsKnown (length sent) in
    let here : answer_from (sent ++ more) deals origin ≡ answer_from sent deals origin = answer_stays sent more deals origin (All-head Known origin origins known) in
    let others : answers_from (sent ++ more) deals origins ≡ answers_from sent deals origins = answers_stay sent more deals origins (All-tail Known origin origins known) in
    ap (λ (a : Option Sent). a ∷ answers_from (sent ++ more) deals origins) here ∙ ap (λ (all : List (Option Sent)). answer_from sent deals origin ∷ all) others

known_stays : (sent more : List Sent) (origin : Origin) → IsKnown (length sent) origin → IsKnown (length (sent ++ more)) origin
known_stays sent more Nowhere known = tt
known_stays sent more (Carried n) known = omega (arith, length-append sent more, known)
known_stays sent more (Forged n) known = tt

pub link_sends : (sent : List Sent) (origins : List Origin) (passed : ℕ) (deals : List Deal) (used to : ℕ) (frame : List ℕ) → IsDealtLink sent origins passed deals used
    → IsDealtLink (with_frame sent to frame) origins passed deals used
link_sends sent origins passed deals used to frame is =
    let more : List Sent = record { to = to; frame = frame } ∷ [] in
    record {
      short = is.short;
      known = All-weaker (IsKnown (length sent)) (IsKnown (length (sent ++ more))) (known_stays sent more) origins is.known;
      within = is.within;
      in_order = λ faithful. is.in_order faithful ∙ sym (ap (λ (answers : List (Option Sent)). length (arrived answers)) (answers_stay sent more deals origins is.known));
    }

pub holds_sent : (sent : List Sent) (origins : List Origin) (passed : ℕ) (deals : List Deal) (used to : ℕ) (frame : List ℕ) → IsDealtLink sent origins passed deals used
    → held_by (with_frame sent to frame) origins passed deals used ≡ record (held_by sent origins passed deals used) { sent = with_frame sent to frame }
holds_sent sent origins passed deals used to frame is =
    ap (λ (answers : List (Option Sent)). record (held_by (with_frame sent to frame) origins passed deals used) { answers = answers })
    (answers_stay sent (record { to = to; frame = frame } ∷ []) deals origins is.known)

-- ---- an answer is given

answers_more : (sent : List Sent) (deals : List Deal) (origins : List Origin) (origin : Origin)
    → answers_from sent deals (origins ++ origin ∷ []) ≡ answers_from sent deals origins ++ answer_from sent deals origin ∷ []
unfolding answers_from
answers_more sent deals origins origin = map-append (answer_from sent deals) origins (origin ∷ [])

-- how many frames an answer is
count_of : Option Sent → ℕ
count_of None = 0
count_of (Some frame) = 1

arrived_one : (answer : Option Sent) → length (arrived (answer ∷ [])) ≡ count_of answer
unfolding count_of
arrived_one None = refl
arrived_one (Some frame) = refl

arrived_more : (answers : List (Option Sent)) (answer : Option Sent) → length (arrived (answers ++ answer ∷ [])) ≡ length (arrived answers) + count_of answer
arrived_more answers answer =
    ap length (filter_map-append (λ (a : Option Sent). a) answers (answer ∷ []))
    ∙ length-append (arrived answers) (arrived (answer ∷ []))
    ∙ ap (λ n. length (arrived answers) + n) (arrived_one answer)

passes_count : (sent : List Sent) (passed : ℕ) → pass_one sent passed ≡ passed + count_of (slice_get sent passed)
unfolding count_of
passes_count sent passed = elim (slice_get_cases sent passed).1 [
  | inl found ↦ ap (λ b. if b then passed + 1 else passed) (lt-ltb passed (length sent) found.1) ∙ ap (λ (a : Option Sent). passed + count_of a) (sym found.2)
  | inr none ↦ ap (λ b. if b then passed + 1 else passed) (le-ltb passed (length sent) none.0) ∙ sym (add-zero passed) ∙ ap (λ (a : Option Sent). passed + count_of a) (sym none.1)
]

-- the frames that came after an answer
order_stays : (sent : List Sent) (origins : List Origin) (passed : ℕ) (deals : List Deal) (used : ℕ) (turn : Turn) → IsDealtLink sent origins passed deals used
    → IsTurn sent deals (dealt sent passed (drop used deals)) turn → are_faithful deals ≡ true
    → turn.passed ≡ length (arrived (answers_from sent deals (origins ++ turn.origin ∷ [])))
order_stays sent origins passed deals used turn is given faithful =
    let oldest : IsOldest sent passed (dealt sent passed (drop used deals)) = faithful_gives_oldest sent passed used deals faithful in
    let answer : answer_from sent deals turn.origin ≡ slice_get sent passed = given.answer ∙ oldest.first in
    given.passed ∙ oldest.behind ∙ passes_count sent passed
    ∙ ap (λ n. n + count_of (slice_get sent passed)) (is.in_order faithful)
    ∙ ap (λ (a : Option Sent). length (arrived (answers_from sent deals origins)) + count_of a) (sym answer)
    ∙ sym (ap (λ (answers : List (Option Sent)). length (arrived answers)) (answers_more sent deals origins turn.origin)
    ∙ arrived_more (answers_from sent deals origins) (answer_from sent deals turn.origin))

pub link_answers : (sent : List Sent) (origins : List Origin) (passed : ℕ) (deals : List Deal) (used : ℕ) (turn : Turn) (origins' : List Origin) → IsDealtLink sent origins passed deals used
    → IsTurn sent deals (dealt sent passed (drop used deals)) turn → origins' ≡ origins ++ turn.origin ∷ [] → IsDealtLink sent origins' turn.passed deals turn.used
link_answers sent origins passed deals used turn origins' is given more =
    let Known : Origin → Type 0 = IsKnown (length sent) in
    subst (λ (os : List Origin). IsDealtLink sent os turn.passed deals turn.used) (sym more) (record {
      short = is.short;
      known = All-append Known origins (turn.origin ∷ []) is.known (All-cons Known turn.origin [] given.known (All-nil Known));
      within = given.used;
      in_order = order_stays sent origins passed deals used turn is given;
    })

pub holds_answer : (sent : List Sent) (origins : List Origin) (passed : ℕ) (deals : List Deal) (used : ℕ) (turn : Turn) (origins' : List Origin)
    → IsTurn sent deals (dealt sent passed (drop used deals)) turn → origins' ≡ origins ++ turn.origin ∷ []
    → held_by sent origins' turn.passed deals turn.used ≡ after_dealt (held_by sent origins passed deals used) (next_of (held_by sent origins passed deals used))
holds_answer sent origins passed deals used turn origins' given more =
    let answers : answers_from sent deals origins' ≡ answers_from sent deals origins ++ (dealt sent passed (drop used deals)).answer ∷ [] =
    ap (answers_from sent deals) more ∙ answers_more sent deals origins turn.origin ∙ ap (λ (a : Option Sent). answers_from sent deals origins ++ a ∷ []) given.answer in
    let held : List (Option Sent) → ℕ → List Deal → HeldDeals = λ all n left. record { sent = sent; answers = all; passed = n; left = left; honest = are_honest deals; faithful = are_faithful deals } in
    let given-all : List (Option Sent) = answers_from sent deals origins ++ (dealt sent passed (drop used deals)).answer ∷ [] in
    ap (λ (all : List (Option Sent)). held all turn.passed (drop turn.used deals)) answers
    ∙ ap (λ n. held given-all n (drop turn.used deals)) given.passed
    ∙ ap (λ (left : List Deal). held given-all (dealt sent passed (drop used deals)).passed left) given.left

pub is_faithful_answer : (sent : List Sent) (origins : List Origin) (passed : ℕ) (deals : List Deal) (used : ℕ) (answer : Option Sent) → IsDealtLink sent origins passed deals used
    → answer ≡ (dealt sent passed (drop used deals)).answer → IsFaithful (Some (are_faithful deals)) (Some sent) (Some (answers_from sent deals origins)) answer
is_faithful_answer sent origins passed deals used answer is given frames before faithful told answered =
    let all : are_faithful deals ≡ true = same_Some (are_faithful deals) true faithful in
    given ∙ (faithful_gives_oldest sent passed used deals all).first
    ∙ ap (slice_get sent) (is.in_order all)
    ∙ ap (λ (answers : List (Option Sent)). slice_get sent (length (arrived answers))) (same_Some (answers_from sent deals origins) before answered)
    ∙ ap (λ (all-sent : List Sent). slice_get all-sent (length (arrived before))) (same_Some sent frames told)
