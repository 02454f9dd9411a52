-- After every event each live read or write of the key waits: it leaves its phase once that is decided, or as it is given up.
use Rattle.std.proofs.Common.{◌≡◌, ℕ, Bool, refl, sym, ap, ◌∙◌, subst, None, true, false, if◌then◌else◌, option_map, Option, Some}
use Rattle.register_law.proofs.Words.{DcId, KeyId, Stamp, Step, Message, View, Tag, counted, best_stamp, done, next_of, Next, Enter, Look, Repair, Value, Wait, Stage, Ended, First, CallState, Taken, Happening, handle_in, LiveCall, Strong, CallTook, Happened, Ghost, noted_of, Inv, HasPolicy, IsStrongRequest, LiveCallsWait, Waits, CallBacked, StrongWork as Work, StoreNext as Store, Work as Asked, Store as World, Reply, next_tag, Found, is_counted, value_reply, Handle, run_of, opening, first_ghost, history, IsLiveAt}
use Rattle.strong_proxy.specs.Rule.{step}
use Rattle.strong_proxy.proofs.Endings.{progress_after-key}
use Rattle.strong_proxy.specs.Rule as strong
use Rattle.register_law.proofs.Next.{RestsOn, rests_on}
use Rattle.register_law.proofs.CallsOthers.{StrongStep, counts_it, ignores_it, strong_step}
use Rattle.register_law.proofs.CallsLive.{view_by, seen_by}
use Rattle.register_law.proofs.TagsCalls.{taken_of, LiveIs, was_live, begins, went_on, live_after, started_as}
use Rattle.register_law.proofs.CallsAnswers.{PhaseRequest}
use Rattle.register_law.proofs.CallsStrong.{never_silent, no_best, TookCounted, took_counted, done_key, strong_is}
use Rattle.register_law.proofs.WaitingPhase.{new_waits, still_waits, decided_by, looking_never_waits, open_at}
use Rattle.register_law.specs.WaitingPhases.{goes_on, ends, Counted, stays, decides, Passes, unchanged, counts, is_given_up, PhasesLast, AnswersCount, Leaves}
use Rattle.register_law.proofs.Happened.{happened}
use Rattle.register_law.proofs.MovesStep.{counted_tag, counted_is_own}
use Rattle.register_law.proofs.Induction.{holds_at_end}
use Rattle.register_law.proofs.WaitingMeets.{under, tags_are_handles, takes_it, Meets, untouched, takes, given_up, meets, takes_and_lives}
use Rattle.register_law.proofs.WaitingLive.{end_is_marked}
use Rattle.register_law.proofs.CallsStart.{BeginsAs, begins_as}

pub not_ended : (work : Work) (stage : Stage) (call : CallState) (request : Message) → IsStrongRequest work stage call request → stage ≡ Ended → ⊥
not_ended work Ended call request h is = h
not_ended work stage call request h is = cc

-- a call keeps its key
step_key : (call : CallState) (message : Message) (view : View) (seen : ℕ) → (step call message view seen).state.progress.key ≡ call.progress.key
step_key call message view seen = by (step call message view seen) (strong_step call message view seen)
  where
    by : (made : (Step CallState)) → StrongStep call message view seen made → made.state.progress.key ≡ call.progress.key
    by made (counts_it count own is) = ap (λ (x : (Step CallState)). x.state.progress.key) is ∙ done_key (next_of (counted call message) view seen) (counted call message) ∙ progress_after-key call.progress message
    by made (ignores_it is) = ap (λ (x : (Step CallState)). x.state.progress.key) is

-- what became of a call that took an answer, where it lives on: it waits for more answers of its phase, or for those of a new one
goes : (key : KeyId) (s : World) (g : Ghost) (z : World) (n : Ghost) (now : CallState) (view : View) (seen : ℕ) (next : Next) → Inv key s g → Inv key z n → CallBacked key s g now → PhaseRequest s now → (done next now).out.end ≡ None
    → RestsOn now.progress.stage now.work (best_stamp now.best) now.progress view seen next → HasPolicy key z n (done next now).state → Waits (done next now).state.progress.stage (done next now).state.progress
goes key s g z n now view seen Wait inv after backed asked end rests policy =
    still_waits key s g now inv.openings backed.policy backed.counted rests (λ e. not_ended now.work now.progress.stage now asked.request asked.is e)
goes key s g z n now view seen Value inv after backed asked end rests policy = absurd (never_silent s now now.progress.stage now.work rests refl refl asked (no_best now.best end))
goes key s g z n now view seen Repair inv after backed asked end rests policy = new_waits key z n (done Repair now).state after.openings policy refl refl (λ e. absurd (cc))
goes key s g z n now view seen Store inv after backed asked end rests policy = new_waits key z n (done Store now).state after.openings policy refl refl (λ e. absurd (cc))
goes key s g z n now view seen Look inv after backed asked end rests policy = tt
goes key s g z n now view seen (Enter leg) inv after backed asked end rests policy = new_waits key z n (done (Enter leg) now).state after.openings policy refl refl (λ e. absurd (cc))
goes key s g z n now view seen next inv after backed asked end rests policy = absurd (cc)

-- the step of a call that lives on
step_waits : (key : KeyId) (s : World) (g : Ghost) (h : Happening) (p : ℕ) (message : Message) (was : CallState) (made : (Step CallState)) → Happened s h → Inv key s g → Inv key h.store (noted_of key s h g) → LiveCallsWait key s
    → CallTook s p message (Strong was) h → StrongStep was message (view_by s p message was) (seen_by s p message) made → made.out.end ≡ None → was.progress.key ≡ key → HasPolicy key h.store (noted_of key s h g) made.state
    → Waits made.state.progress.stage made.state.progress
step_waits key s g h p message was made is inv after all took (counts_it count own made_is) end at_key policy =
    let t : TookCounted key s g h p message was = took_counted key s g h p message was is inv took at_key count in
    let next : Next = next_of (counted was message) (view_by s p message was) (seen_by s p message) in
    subst (λ (x : (Step CallState)). Waits x.state.progress.stage x.state.progress) (sym made_is)
    (goes key s g h.store (noted_of key s h g) (counted was message) (view_by s p message was) (seen_by s p message) next inv after t.event.backed t.asked (sym (ap (λ (x : (Step CallState)). x.out.end) made_is) ∙ end)
    (rests_on (counted was message) (view_by s p message was) (seen_by s p message) next refl)
    (subst (λ (x : (Step CallState)). HasPolicy key h.store (noted_of key s h g) x.state) made_is policy))
step_waits key s g h p message was made is inv after all took (ignores_it made_is) end at_key policy =
    subst (λ (x : (Step CallState)). Waits x.state.progress.stage x.state.progress) (sym made_is) (all p (handle_in message) was (record { live = took.live; at_key = at_key }))

begun_waits : (key : KeyId) (z : World) (n : Ghost) (tag : Tag) (at : DcId) (view : View) (ticket : Stamp) (asked : Asked) (taken : Taken) (call : CallState) → Inv key z n → BeginsAs tag at view ticket asked taken call → HasPolicy key z n call → Waits call.progress.stage call.progress
begun_waits key z n tag at view ticket asked taken call after o policy =
    new_waits key z n call after.openings policy (ap (λ (c : CallState). c.progress.phase.good) o.is) (ap (λ (c : CallState). c.progress.phase.bad) o.is) (λ ended. (let first : call.progress.stage ≡ First = ap (λ (c : CallState). c.progress.stage) o.is in cc))

pub live_calls_wait_after : (key : KeyId) (s : World) (g : Ghost) (h : Happening) → Happened s h → Inv key s g → Inv key h.store (noted_of key s h g) → LiveCallsWait key s → LiveCallsWait key h.store
live_calls_wait_after key s g h is inv after all p handle call live = by (live_after s h is p handle (Strong call) live.live)
  where
    policy : HasPolicy key h.store (noted_of key s h g) call
    policy = (after.strong p handle call live).policy

    took : (message : Message) (was : LiveCall) → CallTook s p message was h → Strong call ≡ (taken_of s p message was).state → (taken_of s p message was).out.end ≡ None → Waits call.progress.stage call.progress
    took message (Strong was) t e end =
        let same : call ≡ (step was message (view_by s p message was) (seen_by s p message)).state = strong_is call (step was message (view_by s p message was) (seen_by s p message)).state e in
        subst (λ (c : CallState). Waits c.progress.stage c.progress) (sym same)
        (step_waits key s g h p message was (step was message (view_by s p message was) (seen_by s p message)) is inv after all t (strong_step was message (view_by s p message was) (seen_by s p message)) end
        (sym (step_key was message (view_by s p message was) (seen_by s p message)) ∙ ap (λ (c : CallState). c.progress.key) (sym same) ∙ live.at_key)
        (subst (HasPolicy key h.store (noted_of key s h g)) same policy))
    took message live_one t e end = absurd (cc)

    by : LiveIs s h p handle (Strong call) → Waits call.progress.stage call.progress
    by (was_live old) = all p handle call (record { live = old; at_key = live.at_key })
    by (begins at asked st e f) =
        begun_waits key h.store (noted_of key s h g) _ _ _ _ asked st.taken call after (begins_as _ _ _ _ _ asked st.taken call (started_as s p at asked h st) f) policy
    by (went_on message was t e f end) = took message was t f end

-- ---- a read or a write counts each answer that is to count, and leaves its phase only once that is decided, or as it is given up

-- a read or a write that took a message
record Took (key : KeyId) (s : World) (g : Ghost) (h : Happening) (p : ℕ) (message : Message) (call : CallState) : Type 0 where
  pub inv : Inv key s g
  pub took : CallTook s p message (Strong call) h
  pub counts : is_counted call message ≡ true
  pub backed : CallBacked key s g (counted call message)
  pub asked : PhaseRequest s (counted call message)
  pub next : Next
  pub is_next : strong.next_of (counted call message) (view_by s p message call) (seen_by s p message) ≡ next
  pub made : strong.step call message (view_by s p message call) (seen_by s p message) ≡ strong.done next (counted call message)

counted_now : (key : KeyId) (s : World) (g : Ghost) (h : Happening) (p : ℕ) (message : Message) (call : CallState) (t : Took key s g h p message call) → (strong.done t.next (counted call message)).out.end ≡ None
    → IsLiveAt h.store p (handle_in message) (Strong (strong.done t.next (counted call message)).state)
counted_now key s g h p message call t end =
    subst (λ (x : (Step CallState)). IsLiveAt h.store p (handle_in message) (Strong x.state)) t.made (takes_and_lives s h p message (Strong call) t.took (ap (λ (x : (Step CallState)). x.out.end) t.made ∙ end))

some_value : (best : Option Found) → (best ≡ None → ⊥) → (reply : Reply) × (option_map value_reply best ≡ Some reply)
some_value None some = absurd (some refl)
some_value (Some found) some = (value_reply found, refl)

-- what else than waiting is done next: a new phase, or the call's end
data Turns (now : CallState) (next : Next) : Type 0 where
  new_phase : (strong.done next now).out.end ≡ None → (strong.done next now).state.progress.phase.tag ≡ next_tag now.progress.phase.tag → Turns now next
  last_reply : (reply : Reply) → (strong.done next now).out.end ≡ Some reply → Turns now next

turned : (now : CallState) (next : Next) → (next ≡ Wait → ⊥) → (next ≡ Value → now.best ≡ None → ⊥) → Turns now next
turned now Wait unwaited some = absurd (unwaited refl)
turned now Value unwaited some = let reply = some_value now.best (some refl) in last_reply reply.0 reply.1
turned now Repair unwaited some = new_phase refl refl
turned now Store unwaited some = new_phase refl refl
turned now Look unwaited some = new_phase refl refl
turned now (Enter leg) unwaited some = new_phase refl refl
turned now next unwaited some = last_reply _ refl

leaves : (key : KeyId) (s : World) (g : Ghost) (h : Happening) (p : ℕ) (message : Message) (call : CallState) (t : Took key s g h p message call) → Turns (counted call message) t.next → Leaves h p (handle_in message) call
leaves key s g h p message call t (new_phase end tag) = goes_on (strong.done t.next (counted call message)).state (counted_now key s g h p message call t end) (tag ∙ ap next_tag (counted_tag call.progress message))
leaves key s g h p message call t (last_reply reply end) = ends reply (end_is_marked s h p message (Strong call) t.took reply (ap (λ (x : (Step CallState)). x.out.end) t.made ∙ end))

-- by what the call does next
passes_by : (key : KeyId) (s : World) (g : Ghost) (h : Happening) (p : ℕ) (message : Message) (call : CallState) (t : Took key s g h p message call) (next : Next) → t.next ≡ next
    → RestsOn (counted call message).progress.stage (counted call message).work (strong.best_stamp (counted call message).best) (counted call message).progress (view_by s p message call) (seen_by s p message) next → Counted h p (handle_in message) call message
passes_by key s g h p message call t Wait is r =
    let now : CallState = counted call message in
    stays
    (open_at now.progress.stage now.progress
    (still_waits key s g now t.inv.openings t.backed.policy t.backed.counted r (λ e. not_ended now.work now.progress.stage now t.asked.request t.asked.is e))
    (λ looks. looking_never_waits now.progress.stage now.work (strong.best_stamp now.best) now.progress (view_by s p message call) (seen_by s p message) looks (t.is_next ∙ is)))
    (subst (λ (n : Next). IsLiveAt h.store p (handle_in message) (Strong (strong.done n now).state)) is (counted_now key s g h p message call t (ap (λ (n : Next). (strong.done n now).out.end) is)))
passes_by key s g h p message call t next is r =
    let now : CallState = counted call message in
    decides (decided_by now.progress.stage now.work (strong.best_stamp now.best) now.progress (view_by s p message call) (seen_by s p message) next (λ e. cc) r)
    (leaves key s g h p message call t (subst (Turns now) (sym is) (turned now next (λ e. cc)
    (λ e none. never_silent s now now.progress.stage now.work (subst (RestsOn now.progress.stage now.work (strong.best_stamp now.best) now.progress (view_by s p message call) (seen_by s p message)) e r) refl refl t.asked none))))

-- a call of the key that took an answer that counts
counted_so : (key : KeyId) (s : World) (g : Ghost) (h : Happening) (p : ℕ) (message : Message) (call : CallState) → Happened s h → Inv key s g → call.progress.key ≡ key → CallTook s p message (Strong call) h → is_counted call message ≡ true
    → strong.step call message (view_by s p message call) (seen_by s p message) ≡ strong.done (strong.next_of (counted call message) (view_by s p message call) (seen_by s p message)) (counted call message) → Counted h p (handle_in message) call message
counted_so key s g h p message call is inv at_key took count made =
    let c : TookCounted key s g h p message call = took_counted key s g h p message call is inv took at_key count in
    let next : Next = strong.next_of (counted call message) (view_by s p message call) (seen_by s p message) in
    let t : Took key s g h p message call = record { inv = inv; took = took; counts = count; backed = c.event.backed; asked = c.asked; next = next; is_next = refl; made = made } in
    passes_by key s g h p message call t next refl (rests_on (counted call message) (view_by s p message call) (seen_by s p message) next refl)

-- a call of the key that took a message
passes : (key : KeyId) (s : World) (g : Ghost) (h : Happening) (p : ℕ) (message : Message) (call : CallState) → Happened s h → Inv key s g → call.progress.key ≡ key → CallTook s p message (Strong call) h → Passes s h p (handle_in message) call
passes key s g h p message call is inv at_key took = by (strong_step call message (view_by s p message call) (seen_by s p message))
  where
    by : StrongStep call message (view_by s p message call) (seen_by s p message) (strong.step call message (view_by s p message call) (seen_by s p message)) → Passes s h p (handle_in message) call
    by (ignores_it made) =
        unchanged (subst (λ (x : (Step CallState)). IsLiveAt h.store p (handle_in message) (Strong x.state)) made (takes_and_lives s h p message (Strong call) took (ap (λ (x : (Step CallState)). x.out.end) made)))
    by (counts_it count own made) = counts message took.sent count (counted_so key s g h p message call is inv at_key took count made)

pub phases_last : PhasesLast
phases_last header events ok may key strong_key e h taken p handle call live = by (meets s h is p handle (Strong call) live.live)
  where
    s : World
    s = (run_of header events).store

    g : Ghost
    g = history key events (opening header) first_ghost

    is : Happened (run_of header events).store h
    is = happened (run_of header events).store e h taken

    inv : Inv key (run_of header events).store (history key events (opening header) first_ghost)
    inv = holds_at_end header key events ok strong_key may

    by : Meets (run_of header events).store h p handle (Strong call) → Passes (run_of header events).store h p handle call
    by (untouched now) = unchanged now
    by (takes message took same) = subst (λ (x : Handle). Passes (run_of header events).store h p x call) (sym same) (passes key (run_of header events).store g h p message call is inv live.at_key took)
    by (given_up c) = is_given_up c

-- the step of a message that counts
counting_step : (call : CallState) (message : Message) (view : View) (seen : ℕ) → is_counted call message ≡ true → strong.step call message view seen ≡ strong.done (strong.next_of (counted call message) view seen) (counted call message)
unfolding strong.step
counting_step call message view seen count = by (is_counted call message) count
  where
    by : (b : Bool) → b ≡ true → (if b then strong.done (strong.next_of (counted call message) view seen) (counted call message) else strong.nothing_done call) ≡ strong.done (strong.next_of (counted call message) view seen) (counted call message)
    by true is = refl
    by false is = absurd (cc)

pub answers_count : AnswersCount
answers_count header events ok may key strong_key e h taken p handle call live message delivered count =
    let s : World = (run_of header events).store in
    let g : Ghost = history key events (opening header) first_ghost in
    let is : Happened (run_of header events).store h = happened (run_of header events).store e h taken in
    let inv : Inv key (run_of header events).store (history key events (opening header) first_ghost) = holds_at_end header key events ok strong_key may in
    let own : handle_in message ≡ handle = ap under (sym (counted_is_own call message count)) ∙ tags_are_handles header events may p handle (Strong call) live.live in
    let took : CallTook (run_of header events).store p message (Strong call) h = takes_it (run_of header events).store e h p message (Strong call) taken delivered (subst (λ (x : Handle). IsLiveAt (run_of header events).store p x (Strong call)) (sym own) live.live) in
    subst (λ (x : Handle). Counted h p x call message) own
    (counted_so key (run_of header events).store (history key events (opening header) first_ghost) h p message call is inv live.at_key took count
    (counting_step call message (view_by (run_of header events).store p message call) (seen_by (run_of header events).store p message) count))
