-- The chosen events may happen where their run comes to them.
use Rattle.std.proofs.Common.{◌≡◌, ℕ, zero, suc, ◌-◌, min, ◌==◌, Bool, true, false, cond, List, [], ◌∷◌, ◌++◌, refl}
use Rattle.std.specs.Prelude.{Option, Some, None, length, Ok, Err}
use Rattle.std.specs.Option.{option_map_or}
use Rattle.run_marks.specs.declared.mark.Work.{Work}
use Rattle.world_core.specs.declared.event.Event.{Event}
use Rattle.world_core.specs.declared.event.Event.TheVariants.{Start, Deliver, GiveUp, Publish}
use Rattle.world_core.specs.State.{Store, opening, proxy_at}
use Rattle.world_core.specs.Step.{Outcome, step}
use Rattle.world_core.specs.Run.{Run, run, ran, store_after, MayHappen, GoingOn, MayRun}
use Rattle.run_generator.specs.Header.{header, table}
use Rattle.run_generator.specs.Chosen.{Chosen, made, draws, chooses, next, below, delivers, delivers_of, deliveries, is_500th, publishes, late_call, gives_up, work_drawn, starts, calls, chosen, events_of}
use Rattle.run_generator.specs.Standing.{IsReady}
use Rattle.run_generator.proofs.Header.{opens_ready, may_publish}
use Rattle.run_generator.proofs.Keeps.{keeps}

-- a run leaves the directory ready where the run of what comes after its first event does
ready_by : (event : Event) (store : Store) (outcome : Outcome) (rest : Run) → step store event ≡ outcome → IsReady store.directory
    → (IsReady (store_after store outcome).directory → IsReady rest.store.directory) → IsReady (ran store outcome rest).store.directory
ready_by event store (Ok happening) rest is ready more = more (keeps store event happening is ready)
ready_by event store (Err fault) rest is ready more = ready

-- every run leaves the directory ready
ready_run : (events : List Event) (store : Store) → IsReady store.directory → IsReady (run events store).store.directory
unfolding run
ready_run [] store ready = ready
ready_run (event ∷ events) store ready =
    ready_by event store (step store event) (run events (store_after store (step store event))) refl ready (ready_run events (store_after store (step store event)))

nothing_more : (outcome : Outcome) → GoingOn outcome (Unit {0})
nothing_more (Ok happening) = tt
nothing_more (Err fault) = tt

more_by : (store : Store) (outcome : Outcome) (rest : Run) (event : Event) (before after : Type 0)
    → GoingOn outcome before → MayHappen (ran store outcome rest).store event → (before → MayHappen rest.store event → after) → GoingOn outcome after
more_by store (Ok happening) rest event before after may there more = more may there
more_by store (Err fault) rest event before after may there more = tt

-- one event more may happen
may_more : (events : List Event) (event : Event) (store : Store) → MayRun events store → MayHappen (run events store).store event → MayRun (events ++ event ∷ []) store
unfolding run MayRun
may_more [] event store may here = (here, nothing_more (step store event))
may_more (first ∷ events) event store may here =
    let outcome : Outcome = step store first in
    let next_store : Store = store_after store outcome in
    (may.0, more_by store outcome (run events next_store) event (MayRun events next_store) (MayRun (events ++ event ∷ []) next_store) may.1 here (may_more events event next_store))

-- the chosen events may happen
abbrev May : Chosen → Type 0
May c = MayRun c.events (opening header)

may_choose : (c : Chosen) (event : Event) → May c → MayHappen (made c).store event → May (chooses c event)
may_choose c event may here = may_more c.events event (opening header) may here

may_deliver : (sent : ℕ) (c : Chosen) → May c → May (delivers_of sent c)
may_deliver sent c may = by (sent == 0)
  where
    by : (b : Bool) → May (cond b c (chooses (draws c) (Deliver (sent - 1 - below (min sent 64) (next c.state)))))
    by true = may
    by false = may_choose (draws c) (Deliver (sent - 1 - below (min sent 64) (next c.state))) may tt

may_deliver_some : (n : ℕ) (c : Chosen) → May c → May (deliveries n c)
unfolding deliveries delivers
may_deliver_some zero c may = may
may_deliver_some (suc n) c may = may_deliver (length (made (deliveries n c)).store.sent) (deliveries n c) (may_deliver_some n c may)

may_publish_at : (k : ℕ) (c : Chosen) → May c → May (publishes k c)
unfolding publishes
may_publish_at k c may = by (is_500th k)
  where
    by : (b : Bool) → May (cond b (chooses c (Publish table)) c)
    by true = may_choose c (Publish table) may (may_publish (made c).store.directory (ready_run c.events (opening header) opens_ready))
    by false = may

may_give_up : (p : ℕ) (c : Chosen) → May c → May (gives_up p c)
unfolding gives_up
may_give_up p c may = by (late_call (proxy_at (made c).store p))
  where
    by : (late : Option ℕ) → May (option_map_or (λ seq. chooses c (GiveUp p seq)) late c)
    by None = may
    by (Some seq) = may_choose c (GiveUp p seq) may tt

may_start : (k p : ℕ) (c : Chosen) → May c → May (starts k p c)
unfolding starts
may_start k p c may =
    let drawn : Work × ℕ = work_drawn k (next c.state) in
    may_choose (record { state = drawn.1; events = c.events }) (Start p (below 8 (next c.state)) drawn.0) may tt

may_call : (k : ℕ) (c : Chosen) → May c → May (calls k c)
unfolding calls
may_call k c may =
    may_start k (below 6 (next c.state)) (gives_up (below 6 (next c.state)) (draws c)) (may_give_up (below 6 (next c.state)) (draws c) may)

may_choose_all : (n k : ℕ) → May (chosen n k)
unfolding chosen MayRun
may_choose_all n zero = tt
may_choose_all n (suc k) = may_call (suc k) (publishes (suc k) (deliveries 24 (chosen n k))) (may_publish_at (suc k) (deliveries 24 (chosen n k)) (may_deliver_some 24 (chosen n k) (may_choose_all n k)))

pub may_run : (n : ℕ) → MayRun (events_of n) (opening header)
may_run n = may_choose_all n n
