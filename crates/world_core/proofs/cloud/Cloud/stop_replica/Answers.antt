use Rattle.std.proofs.Common.{◌≡◌, ℕ, ◌+◌, ◌<◌, true, List, [], length, map, get_or, refl, sym, ap, ◌∙◌, subst, arith}
use Rattle.std.specs.Prelude.{slice_set}
use Rattle.std.proofs.lemmas.List.{map-set, length-map}
use Rattle.replica_core.specs.Rule as replica
use Rattle.world_core.specs.declared.seat.Seat.{Seat}
use Rattle.world_core.specs.declared.event.Event.TheVariants.{StopReplica}
use Rattle.world_core.specs.State.{Replica, Store, no_replica, replica_at}
use Rattle.world_core.specs.Step.{step, with_replica}
use Rattle.world_core.specs.Stores.{IsStore}
use Rattle.world_core.specs.Ends.{Seen, Journal, no_journal}
use Rattle.world_core.proofs.Outcomes.{quiet}
use Rattle.world_core.proofs.Seats.{seat_there, seat_back, seat_fits}
use Rattle.world_core.proofs.Started.{replica_absent, replica_goes}
use Rattle.world_core.proofs.StoresKept.{store_replica}
use Rattle.world_core.proofs.cloud.Cloud.stop_replica.Goals as goal

pub returns-then-place-len : goal.returns-then-place-len
returns-then-place-len g c =
    let f : Seat g.row.T.Denot → Replica = λ x. record { stopped = x.stopped; state = g.T.Taker.state x.taker } in
    let count : length (map f c.self.inside.replicas.items) ≡ length c.args.self.now.store.replicas = ap (λ (x : Seen). length x.store.replicas) c.self.view_is in
    (replica_absent c.args.self.now.store c.args.number (omega (arith, count, length-map c.self.inside.replicas.items f, c.if-place-len.true, c.len.ensures)), refl)

pub invariant_of-self : goal.invariant_of-self
invariant_of-self g c =
    let X : Type 0 = Seat g.row.T.Denot in
    let f : X → Replica = λ x. record { stopped = x.stopped; state = g.T.Taker.state x.taker } in
    let n : ℕ = c.args.number in
    let seats : List X = c.self.inside.replicas.items in
    let was : X = c.index_mut.result.now in
    let is : X = record { stopped = true; taker = was.taker } in
    let keys : ℕ = length c.self.inside.directory.sets in
    let within : n < length seats = omega (arith, c.if-place-len.false, c.len.ensures) in
    let kept : length (g.T.Taker.state was.taker).kept ≡ keys = seat_fits f seats n was keys within c.index_mut.ensures.value c.self.invariant.replicas in
    subst (λ (rs : List Replica). IsStore (record { replicas = rs; proxies = c.self.inside.proxies.items; directory = c.self.inside.directory; sent = g.W.Wire.pushed c.self.inside.wire }) (c.self.inside.events + 1)) (sym (map-set f seats n is))
    (store_replica _ c.self.inside.events (c.self.inside.events + 1) c.self.invariant (omega arith) (omega (arith, ap (λ (x : Seen). x.events) c.self.view_is, c.requires)) n (f is) (g.W.Wire.pushed c.self.inside.wire) kept c.self.invariant.sent)

pub returns : goal.returns
returns g c =
    let X : Type 0 = Seat g.row.T.Denot in
    let f : X → Replica = λ x. record { stopped = x.stopped; state = g.T.Taker.state x.taker } in
    let h : X → Journal = λ x. record { faults = g.T.Taker.faults x.taker; shut = g.T.Taker.shut x.taker; calm = g.T.Taker.calm x.taker; size = g.T.Taker.size x.taker } in
    let s : Store = c.args.self.now.store in
    let n : ℕ = c.args.number in
    let seats : List X = c.self.inside.replicas.items in
    let was : X = c.index_mut.result.now in
    let is : X = record { stopped = true; taker = was.taker } in
    let within : n < length seats = omega (arith, c.if-place-len.false, c.len.ensures) in
    let replicas_are : map f seats ≡ s.replicas = ap (λ (x : Seen). x.store.replicas) c.self.view_is in
    let there : n < length s.replicas = omega (arith, within, length-map seats f, ap length replicas_are) in
    let here : replica_at s n ≡ f was = ap (λ (xs : List Replica). get_or xs n no_replica) (sym replicas_are) ∙ seat_there f seats n was no_replica within c.index_mut.ensures.value in
    let set_replicas : map f (slice_set seats n is) ≡ slice_set s.replicas n (record { stopped = true; state = (replica_at s n).state }) =
    map-set f seats n is ∙ ap (λ (xs : List Replica). slice_set xs n (f is)) replicas_are
    ∙ ap (λ (x : replica.State). slice_set s.replicas n (record { stopped = true; state = x })) (ap (λ (r : Replica). r.state) (sym here)) in
    quiet c.args.self.now _ (step s (StopReplica n)) (record { store = with_replica s n (record { stopped = true; state = (replica_at s n).state }); marks = []; posts = [] }) c.none.result (replica_goes s n there) c.none.ensures
    (ap (λ (rs : List Replica). let z : Store = record { replicas = rs; proxies = c.self.inside.proxies.items; directory = c.self.inside.directory; sent = g.W.Wire.pushed c.self.inside.wire } in z) set_replicas
    ∙ ap (λ (x : Seen). let z : Store = record { replicas = slice_set s.replicas n (record { stopped = true; state = (replica_at s n).state }); proxies = x.store.proxies; directory = x.store.directory; sent = x.store.sent } in z) c.self.view_is)
    (map-set h seats n is ∙ seat_back h seats n was no_journal within c.index_mut.ensures.value ∙ ap (λ (x : Seen). x.journals) c.self.view_is)
    (ap (λ (x : Seen). x.events + 1) c.self.view_is)
