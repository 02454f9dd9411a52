-- After every run the reads and the writes that are unanswered are those that wait.
use Rattle.std.proofs.Common.{◌≡◌, true, List, ◌∷◌, ◌++◌, refl, sym, ◌∙◌, subst, Some, IsSome, Contains}
use Rattle.register_law.proofs.Words.{Call, KeyId, ToRead, ToWrite, Handle, is_register_work, Mark, key_of_call, tag_of_call, IsStrongKey, IsHeader, MayRun, run_of, Store, opening, Event, Header, LiveCall, Strong, BegunAfter, Ghost, first_ghost, history, noted_of, Inv, IsLiveStrong, IsWork, IsLiveAt, IsKindOf, IsLiveCall, IsWaiting, LiveCallsWait, OpenCallsLive, StrongWork as Work, Work as Asked, none_among}
use Rattle.run_marks.specs.declared.mark.Mark.TheVariants as k
use Rattle.register_law.specs.Waiting.{IsUnanswered, UnansweredWait}
use Rattle.register_law.proofs.Induction.{Keeps, all_along, every_event_keeps, marks_noted}
use Rattle.register_law.proofs.Happened.{happened}
use Rattle.register_law.proofs.Opening.{none_live}
use Rattle.register_law.proofs.MarksOfKey.{in_between}
use Rattle.register_law.proofs.WaitingLive.{open_calls_live_after}
use Rattle.register_law.proofs.WaitingPhase.{asks_quorum}
use Rattle.register_law.proofs.WaitingPasses.{live_calls_wait_after}
use Rattle.register_law.proofs.Basics.{register_noted, some_begun}
use Rattle.register_law.proofs.OpeningHolds.{opening_holds}

-- what holds of a strong key and of the calls of every key after each event
record Watched (key : KeyId) (s : Store) (g : Ghost) : Type 0 where
  pub holds : Inv key s g
  pub wait : LiveCallsWait key s
  pub live : OpenCallsLive s g.marks

every_event_keeps_waiting : (key : KeyId) → Keeps key (Watched key)
every_event_keeps_waiting key s g e h taken may o =
    let is = happened s e h taken in
    let after : Inv key h.store (noted_of key s h g) = every_event_keeps key s g e h taken may o.holds in
    record {
      holds = after;
      wait = live_calls_wait_after key s g h is o.holds after o.wait;
      live = open_calls_live_after s g.marks h is o.live;
    }

watched_at_end : (header : Header) (key : KeyId) (events : List Event) → IsHeader header → IsStrongKey header key.0 → MayRun events (opening header) → Watched key (run_of header events).store (history key events (opening header) first_ghost)
watched_at_end header key events h strong may =
    all_along (Watched key) key (every_event_keeps_waiting key) events (opening header) first_ghost may (record {
      holds = opening_holds header key h strong;
      wait = λ p handle call live. absurd (none_live header p handle (Strong call) live.live);
      live = λ call at asked c _. absurd (none_among (k.Begin call at asked) c);
    })

-- a read or a write that was begun, and has no end, waits
open_waits : (key : KeyId) (s : Store) (g : Ghost) (call : Call) (asked : Asked) → Watched key s g → is_register_work asked ≡ true → IsUnanswered g.marks key call asked → IsWaiting key s call asked
open_waits key s g call asked o register u = by (o.live call key asked u.begun u.no_end)
  where
    inv : Inv key s g
    inv = o.holds

    strong : (handle : Handle) (live : LiveCall) → IsLiveAt s call.proxy handle live → (tag_of_call live).call ≡ call → IsKindOf live asked → key_of_call live ≡ key → IsWaiting key s call asked
    strong handle (Strong state) there of kind at_key =
        let live : IsLiveStrong key s call.proxy handle state = record { live = there; at_key = at_key } in
        record {
          handle = handle;
          state = state;
          live = live;
          of = of;
          work = kind;
          quorum = asks_quorum key s g state ((inv.strong call.proxy handle state live).policy);
          waits = o.wait call.proxy handle state live;
        }
    strong handle live_one there of kind at_key = absurd (cc)

    by : IsLiveCall s call asked → IsWaiting key s call asked
    by l =
        let begun : IsSome (g.begun call) = inv.ends.noted call asked u.begun (register_noted asked register) in
        strong l.handle l.live l.is l.of l.kind (inv.requests.begun_live call.proxy l.handle l.live l.is (subst (λ (x : Call). IsSome (g.begun x)) (sym l.of) begun))

-- a work is that of one kind of begin
one_work : (work : Work) (one other : Asked) → IsWork work one → IsWork work other → one ≡ other
one_work ToRead one other a b = a ∙ sym b
one_work (ToWrite value) one other a b = a ∙ sym b

-- one that lives was begun, and has no end
waiting_is_open : (key : KeyId) (s : Store) (g : Ghost) (call : Call) (asked : Asked) → Watched key s g → IsWaiting key s call asked → IsUnanswered g.marks key call asked
waiting_is_open key s g call asked o l =
    let inv : Inv key s g = o.holds in
    let b = some_begun (g.begun l.state.progress.phase.tag.call) (inv.requests.live_begun call.proxy l.handle (Strong l.state) l.live.live l.live.at_key) in
    let same : b.0.work ≡ asked = one_work l.state.work b.0.work asked ((inv.strong call.proxy l.handle l.state l.live).begun b.0 b.1) l.work in
    let at : BegunAfter g call b.0 key = inv.ends.begins call b.0 (subst (λ (x : Call). g.begun x ≡ Some b.0) l.of b.1) in
    let there : Contains g.marks (k.Begin call key b.0.work) = subst (λ (x : List Mark). Contains x (k.Begin call key b.0.work)) (sym at.split) (in_between (at.earlier ++ k.Begin call key b.0.work ∷ at.later) at.earlier (k.Begin call key b.0.work) at.later refl) in
    record {
      begun = subst (λ (x : Asked). Contains g.marks (k.Begin call key x)) same there;
      no_end = λ reply e. inv.ends.ended call reply call.proxy l.handle (Strong l.state) e l.live.live l.of;
    }

pub unanswered_wait : UnansweredWait
unanswered_wait header events h may key strong call asked register =
    let o = watched_at_end header key events h strong may in
    let marks : (history key events (opening header) first_ghost).marks ≡ (run_of header events).marks = marks_noted key events (opening header) first_ghost in (
      (λ u. open_waits key (run_of header events).store (history key events (opening header) first_ghost) call asked o register (subst (λ (x : List Mark). IsUnanswered x key call asked) (sym marks) u)),
      (λ l. subst (λ (x : List Mark). IsUnanswered x key call asked) marks (waiting_is_open key (run_of header events).store (history key events (opening header) first_ghost) call asked o l)),
    )
