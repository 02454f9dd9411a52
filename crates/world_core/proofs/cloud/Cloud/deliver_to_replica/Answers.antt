use Rattle.std.proofs.Common.{◌≡◌, ℕ, ◌+◌, ◌<◌, Bool, false, cond, List, [], length, map, get_or, refl, sym, ap, ◌∙◌, subst, arith}
use Rattle.std.specs.Prelude.{slice_set, None, Some, Ok, Err}
use Rattle.std.proofs.lemmas.List.{map-set, set-get_or}
use Rattle.wire_msg.specs.declared.message.Message.{Message}
use Rattle.wire_msg.specs.declared.outputs.Post.{Post}
use Rattle.replica_core.specs.Rule as replica
use Rattle.world_core.specs.declared.seat.Seat.{Seat}
use Rattle.world_core.specs.State.{Replica, Store, no_replica, replica_at}
use Rattle.world_core.specs.Starting.{Done}
use Rattle.world_core.specs.Step.{nothing, replica_takes, with_replica}
use Rattle.world_core.specs.Proxies.{IsOfKeyBelow}
use Rattle.world_core.specs.Stores.{AreSent, IsStore}
use Rattle.world_core.specs.Ends.{Seen, Journal, no_journal, Journals, Takes, EndsAs, TakerEnds}
use Rattle.world_core.proofs.Outcomes.{took, replica_refused}
use Rattle.world_core.proofs.Seats.{seat_there, seat_fits, seat_same}
use Rattle.world_core.proofs.StoresKept.{store_replica}
use Rattle.world_core.proofs.cloud.Cloud.deliver_to_replica.Goals as goal

pub hand_to_replica-requires-clause-key : goal.hand_to_replica-requires-clause-key
hand_to_replica-requires-clause-key g c =
    let X : Type 0 = Seat g.row.T.Denot in
    let f : X → Replica = λ x. record { stopped = x.stopped; state = g.T.Taker.state x.taker } in
    let place : ℕ = c.from-place.result in
    let seats : List X = c.self.inside.replicas.items in
    let was : X = c.index_mut.result.now in
    let keys : ℕ = length c.self.inside.directory.sets in
    let within : place < length seats = omega (arith, c.if-place-len.false, c.len.ensures) in
    let kept : length (g.T.Taker.state was.taker).kept ≡ keys = seat_fits f seats place was keys within c.index_mut.ensures.value c.self.invariant.replicas in
    let keys_are : keys ≡ length c.args.self.now.store.directory.sets = ap (λ (x : Seen). length x.store.directory.sets) c.self.view_is in
    subst (λ n. IsOfKeyBelow n c.args.message.now) (sym (kept ∙ keys_are)) c.requires.key

pub hand_to_replica-requires-clause-sent : goal.hand_to_replica-requires-clause-sent
hand_to_replica-requires-clause-sent g c =
    let X : Type 0 = Seat g.row.T.Denot in
    let f : X → Replica = λ x. record { stopped = x.stopped; state = g.T.Taker.state x.taker } in
    let place : ℕ = c.from-place.result in
    let seats : List X = c.self.inside.replicas.items in
    let was : X = c.index_mut.result.now in
    let keys : ℕ = length c.self.inside.directory.sets in
    let within : place < length seats = omega (arith, c.if-place-len.false, c.len.ensures) in
    let kept : length (g.T.Taker.state was.taker).kept ≡ keys = seat_fits f seats place was keys within c.index_mut.ensures.value c.self.invariant.replicas in
    subst (λ n. AreSent n (g.W.Wire.pushed c.self.inside.wire)) (sym kept) c.self.invariant.sent

pub invariant_of-self-in-Ok : goal.invariant_of-self-in-Ok
invariant_of-self-in-Ok g c =
    let X : Type 0 = Seat g.row.T.Denot in
    let f : X → Replica = λ x. record { stopped = x.stopped; state = g.T.Taker.state x.taker } in
    let place : ℕ = c.from-place.result in
    let seats : List X = c.self.inside.replicas.items in
    let was : X = c.index_mut.result.now in
    let keys : ℕ = length c.self.inside.directory.sets in
    let within : place < length seats = omega (arith, c.if-place-len.false, c.len.ensures) in
    let kept : length (g.T.Taker.state was.taker).kept ≡ keys = seat_fits f seats place was keys within c.index_mut.ensures.value c.self.invariant.replicas in
    let is : X = record { stopped = was.stopped; taker = c.hand_to_replica.new.taker } in
    let now : List Post = g.W.Wire.pushed c.hand_to_replica.new.wire in
    subst (λ (rs : List Replica). IsStore (record { replicas = rs; proxies = c.self.inside.proxies.items; directory = c.self.inside.directory; sent = now }) (c.self.inside.events + 1)) (sym (map-set f seats place is))
    (store_replica _ c.self.inside.events (c.self.inside.events + 1) c.self.invariant (omega arith) (omega (arith, ap (λ (x : Seen). x.events) c.self.view_is, c.requires.few)) place (f is) now (c.hand_to_replica.ensures.keys ∙ kept) (subst (λ n. AreSent n now) kept c.hand_to_replica.ensures.sent))

pub invariant_of-self-in-Err : goal.invariant_of-self-in-Err
invariant_of-self-in-Err g c =
    let X : Type 0 = Seat g.row.T.Denot in
    let f : X → Replica = λ x. record { stopped = x.stopped; state = g.T.Taker.state x.taker } in
    let place : ℕ = c.from-place.result in
    let seats : List X = c.self.inside.replicas.items in
    let was : X = c.index_mut.result.now in
    let keys : ℕ = length c.self.inside.directory.sets in
    let within : place < length seats = omega (arith, c.if-place-len.false, c.len.ensures) in
    let kept : length (g.T.Taker.state was.taker).kept ≡ keys = seat_fits f seats place was keys within c.index_mut.ensures.value c.self.invariant.replicas in
    let is : X = record { stopped = was.stopped; taker = c.hand_to_replica.new.taker } in
    let now : List Post = g.W.Wire.pushed c.hand_to_replica.new.wire in
    subst (λ (rs : List Replica). IsStore (record { replicas = rs; proxies = c.self.inside.proxies.items; directory = c.self.inside.directory; sent = now }) c.self.inside.events) (sym (map-set f seats place is))
    (store_replica _ c.self.inside.events c.self.inside.events c.self.invariant (omega arith) c.self.invariant.few_events place (f is) now (c.hand_to_replica.ensures.keys ∙ kept) (subst (λ n. AreSent n now) kept c.hand_to_replica.ensures.sent))

pub returns-in-Ok : goal.returns-in-Ok
returns-in-Ok g c =
    let X : Type 0 = Seat g.row.T.Denot in
    let f : X → Replica = λ x. record { stopped = x.stopped; state = g.T.Taker.state x.taker } in
    let h : X → Journal = λ x. record { faults = g.T.Taker.faults x.taker; shut = g.T.Taker.shut x.taker; calm = g.T.Taker.calm x.taker; size = g.T.Taker.size x.taker } in
    let s : Store = c.args.self.now.store in
    let n : ℕ = c.args.number in
    let m : Message = c.args.message.now in
    let place : ℕ = c.from-place.result in
    let place_is : place ≡ n = c.from-place.ensures in
    let seats : List X = c.self.inside.replicas.items in
    let was : X = c.index_mut.result.now in
    let is : X = record { stopped = was.stopped; taker = c.hand_to_replica.new.taker } in
    let state : replica.State = g.T.Taker.state was.taker in
    let new : replica.State = g.T.Taker.state c.hand_to_replica.new.taker in
    let now : List Post = g.W.Wire.pushed c.hand_to_replica.new.wire in
    let done : Done replica.State = record { actor = (replica.step state m).state; posts = (replica.step state m).out.posts; marks = [] } in
    let put : replica.State → Store = λ a. with_replica s n (record { stopped = false; state = a }) in
    let within : place < length seats = omega (arith, c.if-place-len.false, c.len.ensures) in
    let runs : was.stopped ≡ false = ap (λ (x : X). x.stopped) (seat_same seats place was c.index.result.now within c.index_mut.ensures.value c.index.ensures) ∙ c.if-index.false in
    let replicas_are : map f seats ≡ s.replicas = ap (λ (x : Seen). x.store.replicas) c.self.view_is in
    let journals_are : map h seats ≡ c.args.self.now.journals = ap (λ (x : Seen). x.journals) c.self.view_is in
    let sent_is : g.W.Wire.pushed c.self.inside.wire ≡ s.sent = ap (λ (x : Seen). x.store.sent) c.self.view_is in
    let there : get_or (map f seats) place no_replica ≡ f was = seat_there f seats place was no_replica within c.index_mut.ensures.value in
    let here : record { stopped = false; state = state } ≡ replica_at s n =
    ap (λ (b : Bool). let r : Replica = record { stopped = b; state = state } in r) (sym runs) ∙ sym there ∙ ap (λ (xs : List Replica). get_or xs place no_replica) replicas_are ∙ ap (λ i. get_or s.replicas i no_replica) place_is in
    let set_replicas : map f (slice_set seats place is) ≡ slice_set s.replicas n (record { stopped = false; state = new }) =
    map-set f seats place is ∙ ap (λ (b : Bool). slice_set (map f seats) place (record { stopped = b; state = new })) runs
    ∙ ap (λ (xs : List Replica). slice_set xs place (record { stopped = false; state = new })) replicas_are ∙ ap (λ i. slice_set s.replicas i (record { stopped = false; state = new })) place_is in
    let set_journals : map h (slice_set seats place is) ≡ slice_set c.args.self.now.journals n (h is) =
    map-set h seats place is ∙ ap (λ (xs : List Journal). slice_set xs place (h is)) journals_are ∙ ap (λ i. slice_set c.args.self.now.journals i (h is)) place_is in
    let journal_there : get_or c.args.self.now.journals n no_journal ≡ h was =
    sym (ap (λ (xs : List Journal). get_or xs place no_journal) journals_are ∙ ap (λ i. get_or c.args.self.now.journals i no_journal) place_is) ∙ seat_there h seats place was no_journal within c.index_mut.ensures.value in
    let store_is : record { replicas = map f (slice_set seats place is); proxies = c.self.inside.proxies.items; directory = c.self.inside.directory; sent = now } ≡ record (put new) { sent = now } =
    ap (λ (rs : List Replica). let z : Store = record { replicas = rs; proxies = c.self.inside.proxies.items; directory = c.self.inside.directory; sent = now } in z) set_replicas
    ∙ ap (λ (x : Seen). let z : Store = record { replicas = slice_set s.replicas n (record { stopped = false; state = new }); proxies = x.store.proxies; directory = x.store.directory; sent = now } in z) c.self.view_is in
    let ends : TakerEnds done state new (h was) (h is) m s.sent now (Ok c.in-Ok.marks) = subst (λ (sent : List Post). TakerEnds done state new (h was) (h is) m sent now (Ok c.in-Ok.marks)) sent_is c.in-Ok.ensures.ends in
    subst (λ (r : Replica). Takes c.args.self.now (record { store = record { replicas = map f (slice_set seats place is); proxies = c.self.inside.proxies.items; directory = c.self.inside.directory; sent = now }; journals = map h (slice_set seats place is); events = c.self.inside.events + 1 }) (cond r.stopped None (Some (n, m))) (cond r.stopped (nothing s) (replica_takes s n m (replica.step r.state m))) c.in-Ok.marks) here
    (took c.args.self.now _ (Some (n, m)) done put (replica_takes s n m (replica.step state m)) state new now c.in-Ok.marks refl refl ends.0 store_is
    (ap (λ (x : Seen). x.events + 1) c.self.view_is)
    (h is, set_journals, subst (λ (j : Journal). Journals j (h is) m None) (sym journal_there) ends.1))

pub returns-in-Err : goal.returns-in-Err
returns-in-Err g c =
    let X : Type 0 = Seat g.row.T.Denot in
    let f : X → Replica = λ x. record { stopped = x.stopped; state = g.T.Taker.state x.taker } in
    let h : X → Journal = λ x. record { faults = g.T.Taker.faults x.taker; shut = g.T.Taker.shut x.taker; calm = g.T.Taker.calm x.taker; size = g.T.Taker.size x.taker } in
    let s : Store = c.args.self.now.store in
    let n : ℕ = c.args.number in
    let m : Message = c.args.message.now in
    let place : ℕ = c.from-place.result in
    let place_is : place ≡ n = c.from-place.ensures in
    let seats : List X = c.self.inside.replicas.items in
    let was : X = c.index_mut.result.now in
    let is : X = record { stopped = was.stopped; taker = c.hand_to_replica.new.taker } in
    let state : replica.State = g.T.Taker.state was.taker in
    let new : replica.State = g.T.Taker.state c.hand_to_replica.new.taker in
    let now : List Post = g.W.Wire.pushed c.hand_to_replica.new.wire in
    let done : Done replica.State = record { actor = (replica.step state m).state; posts = (replica.step state m).out.posts; marks = [] } in
    let put : replica.State → Store = λ a. with_replica s n (record { stopped = false; state = a }) in
    let within : place < length seats = omega (arith, c.if-place-len.false, c.len.ensures) in
    let runs : was.stopped ≡ false = ap (λ (x : X). x.stopped) (seat_same seats place was c.index.result.now within c.index_mut.ensures.value c.index.ensures) ∙ c.if-index.false in
    let replicas_are : map f seats ≡ s.replicas = ap (λ (x : Seen). x.store.replicas) c.self.view_is in
    let journals_are : map h seats ≡ c.args.self.now.journals = ap (λ (x : Seen). x.journals) c.self.view_is in
    let sent_is : g.W.Wire.pushed c.self.inside.wire ≡ s.sent = ap (λ (x : Seen). x.store.sent) c.self.view_is in
    let there : get_or (map f seats) place no_replica ≡ f was = seat_there f seats place was no_replica within c.index_mut.ensures.value in
    let here : record { stopped = false; state = state } ≡ replica_at s n =
    ap (λ (b : Bool). let r : Replica = record { stopped = b; state = state } in r) (sym runs) ∙ sym there ∙ ap (λ (xs : List Replica). get_or xs place no_replica) replicas_are ∙ ap (λ i. get_or s.replicas i no_replica) place_is in
    let set_replicas : map f (slice_set seats place is) ≡ slice_set s.replicas n (record { stopped = false; state = new }) =
    map-set f seats place is ∙ ap (λ (b : Bool). slice_set (map f seats) place (record { stopped = b; state = new })) runs
    ∙ ap (λ (xs : List Replica). slice_set xs place (record { stopped = false; state = new })) replicas_are ∙ ap (λ i. slice_set s.replicas i (record { stopped = false; state = new })) place_is in
    let set_journals : map h (slice_set seats place is) ≡ slice_set c.args.self.now.journals n (h is) =
    map-set h seats place is ∙ ap (λ (xs : List Journal). slice_set xs place (h is)) journals_are ∙ ap (λ i. slice_set c.args.self.now.journals i (h is)) place_is in
    let journal_there : get_or c.args.self.now.journals n no_journal ≡ h was =
    sym (ap (λ (xs : List Journal). get_or xs place no_journal) journals_are ∙ ap (λ i. get_or c.args.self.now.journals i no_journal) place_is) ∙ seat_there h seats place was no_journal within c.index_mut.ensures.value in
    let store_is : record { replicas = map f (slice_set seats place is); proxies = c.self.inside.proxies.items; directory = c.self.inside.directory; sent = now } ≡ record (put new) { sent = now } =
    ap (λ (rs : List Replica). let z : Store = record { replicas = rs; proxies = c.self.inside.proxies.items; directory = c.self.inside.directory; sent = now } in z) set_replicas
    ∙ ap (λ (x : Seen). let z : Store = record { replicas = slice_set s.replicas n (record { stopped = false; state = new }); proxies = x.store.proxies; directory = x.store.directory; sent = now } in z) c.self.view_is in
    let ends : TakerEnds done state new (h was) (h is) m s.sent now (Err c.in-Err.fault) = subst (λ (sent : List Post). TakerEnds done state new (h was) (h is) m sent now (Err c.in-Err.fault)) sent_is c.in-Err.ensures.ends in
    let back : record (put state) { sent = s.sent } ≡ s =
    ap (λ (r : Replica). let z : Store = record s { replicas = slice_set s.replicas n r } in z) here ∙ ap (λ (rs : List Replica). let z : Store = record s { replicas = rs } in z) (set-get_or s.replicas n no_replica) in
    let stays : slice_set c.args.self.now.journals n (h was) ≡ c.args.self.now.journals = ap (slice_set c.args.self.now.journals n) (sym journal_there) ∙ set-get_or c.args.self.now.journals n no_journal in
    subst (λ (r : Replica). EndsAs c.args.self.now (record { store = record { replicas = map f (slice_set seats place is); proxies = c.self.inside.proxies.items; directory = c.self.inside.directory; sent = now }; journals = map h (slice_set seats place is); events = c.self.inside.events }) (cond r.stopped None (Some (n, m))) (cond r.stopped (nothing s) (replica_takes s n m (replica.step r.state m))) (Err c.in-Err.fault)) here
    (replica_refused c.args.self.now _ n m done put (replica_takes s n m (replica.step state m)) state new now (h was) (h is) c.in-Err.fault refl refl ends store_is back
    (ap (λ (x : Seen). x.events) c.self.view_is) set_journals journal_there stays)
