use Rattle.std.proofs.Common.{◌≡◌, ℕ, ◌<◌, Bool, List, length, map, get_or, sym, ap, ◌∙◌, subst, arith}
use Rattle.std.specs.Prelude.{slice_set}
use Rattle.std.proofs.lemmas.List.{map-set, length-map}
use Rattle.world_core.specs.declared.seat.Seat.{Seat}
use Rattle.world_core.specs.State.{Replica, Store, no_replica, replica_at}
use Rattle.world_core.specs.Stores.{IsStore}
use Rattle.world_core.specs.Ends.{Seen, Journal}
use Rattle.world_core.proofs.Seats.{seat_there}
use Rattle.world_core.proofs.StoresKept.{store_replica}
use Rattle.world_core.proofs.cloud.Cloud.swap.Goals as goal

pub invariant_of-self : goal.invariant_of-self
invariant_of-self g c =
    let X : Type 0 = Seat g.row.T.Denot in
    let f : X → Replica = λ x. record { stopped = x.stopped; state = g.T.Taker.state x.taker } in
    let h : X → Journal = λ x. record { faults = g.T.Taker.faults x.taker; shut = g.T.Taker.shut x.taker; calm = g.T.Taker.calm x.taker; size = g.T.Taker.size x.taker } in
    let s : Store = c.args.self.now.store in
    let n : ℕ = c.args.replica in
    let place : ℕ = c.from.result in
    let place_is : place ≡ n = c.from.ensures in
    let seats : List X = c.self.inside.replicas.items in
    let was : X = c.index_mut.result.now in
    let is : X = record { stopped = was.stopped; taker = c.replace.new.dest } in
    let replicas_are : map f seats ≡ s.replicas = ap (λ (x : Seen). x.store.replicas) c.self.view_is in
    let within : place < length seats = omega (arith, place_is, c.requires.there, ap length replicas_are, length-map seats f) in
    let kept : length (g.T.Taker.state c.replace.new.dest).kept ≡ length c.self.inside.directory.sets =
    ap (λ t. length (g.T.Taker.state t).kept) c.replace.ensures.after ∙ c.requires.keys ∙ sym (ap (λ (x : Seen). length x.store.directory.sets) c.self.view_is) in
    subst (λ (rs : List Replica). IsStore (record { replicas = rs; proxies = c.self.inside.proxies.items; directory = c.self.inside.directory; sent = g.W.Wire.pushed c.self.inside.wire }) c.self.inside.events) (sym (map-set f seats place is))
    (store_replica _ c.self.inside.events c.self.inside.events c.self.invariant (omega arith) c.self.invariant.few_events place (f is) (g.W.Wire.pushed c.self.inside.wire) kept c.self.invariant.sent)

pub returns-clause-store : goal.returns-clause-store
returns-clause-store g c =
    let X : Type 0 = Seat g.row.T.Denot in
    let f : X → Replica = λ x. record { stopped = x.stopped; state = g.T.Taker.state x.taker } in
    let h : X → Journal = λ x. record { faults = g.T.Taker.faults x.taker; shut = g.T.Taker.shut x.taker; calm = g.T.Taker.calm x.taker; size = g.T.Taker.size x.taker } in
    let s : Store = c.args.self.now.store in
    let n : ℕ = c.args.replica in
    let place : ℕ = c.from.result in
    let place_is : place ≡ n = c.from.ensures in
    let seats : List X = c.self.inside.replicas.items in
    let was : X = c.index_mut.result.now in
    let is : X = record { stopped = was.stopped; taker = c.replace.new.dest } in
    let replicas_are : map f seats ≡ s.replicas = ap (λ (x : Seen). x.store.replicas) c.self.view_is in
    let within : place < length seats = omega (arith, place_is, c.requires.there, ap length replicas_are, length-map seats f) in
    let here : replica_at s n ≡ f was = sym (ap (λ (xs : List Replica). get_or xs place no_replica) replicas_are ∙ ap (λ i. get_or s.replicas i no_replica) place_is) ∙ seat_there f seats place was no_replica within c.index_mut.ensures.value in
    let new : Replica = record { stopped = (replica_at s n).stopped; state = g.T.Taker.state c.args.taker } in
    let is_new : f is ≡ new =
    ap (λ t. let r : Replica = record { stopped = was.stopped; state = g.T.Taker.state t } in r) c.replace.ensures.after
    ∙ ap (λ (b : Bool). let r : Replica = record { stopped = b; state = g.T.Taker.state c.args.taker } in r) (ap (λ (r : Replica). r.stopped) (sym here)) in
    let set_replicas : map f (slice_set seats place is) ≡ slice_set s.replicas n new =
    map-set f seats place is ∙ ap (slice_set (map f seats) place) is_new ∙ ap (λ (xs : List Replica). slice_set xs place new) replicas_are ∙ ap (λ i. slice_set s.replicas i new) place_is in
    ap (λ (rs : List Replica). let z : Store = record { replicas = rs; proxies = c.self.inside.proxies.items; directory = c.self.inside.directory; sent = g.W.Wire.pushed c.self.inside.wire } in z) set_replicas
    ∙ ap (λ (x : Seen). let z : Store = record { replicas = slice_set s.replicas n new; proxies = x.store.proxies; directory = x.store.directory; sent = x.store.sent } in z) c.self.view_is

pub returns-clause-journals : goal.returns-clause-journals
returns-clause-journals g c =
    let X : Type 0 = Seat g.row.T.Denot in
    let f : X → Replica = λ x. record { stopped = x.stopped; state = g.T.Taker.state x.taker } in
    let h : X → Journal = λ x. record { faults = g.T.Taker.faults x.taker; shut = g.T.Taker.shut x.taker; calm = g.T.Taker.calm x.taker; size = g.T.Taker.size x.taker } in
    let s : Store = c.args.self.now.store in
    let n : ℕ = c.args.replica in
    let place : ℕ = c.from.result in
    let place_is : place ≡ n = c.from.ensures in
    let seats : List X = c.self.inside.replicas.items in
    let was : X = c.index_mut.result.now in
    let is : X = record { stopped = was.stopped; taker = c.replace.new.dest } in
    let replicas_are : map f seats ≡ s.replicas = ap (λ (x : Seen). x.store.replicas) c.self.view_is in
    let within : place < length seats = omega (arith, place_is, c.requires.there, ap length replicas_are, length-map seats f) in
    let journals_are : map h seats ≡ c.args.self.now.journals = ap (λ (x : Seen). x.journals) c.self.view_is in
    let new : Journal = record { faults = g.T.Taker.faults c.args.taker; shut = g.T.Taker.shut c.args.taker; calm = g.T.Taker.calm c.args.taker; size = g.T.Taker.size c.args.taker } in
    let is_new : h is ≡ new = ap (λ t. let j : Journal = record { faults = g.T.Taker.faults t; shut = g.T.Taker.shut t; calm = g.T.Taker.calm t; size = g.T.Taker.size t } in j) c.replace.ensures.after in
    map-set h seats place is ∙ ap (slice_set (map h seats) place) is_new ∙ ap (λ (xs : List Journal). slice_set xs place new) journals_are ∙ ap (λ i. slice_set c.args.self.now.journals i new) place_is
