use Rattle.std.proofs.Common.{◌≡◌, ℕ, ◌<◌, List, length, map, sym, ap, ◌∙◌, subst}
use Rattle.std.specs.List.{All, range_with_len}
use Rattle.std.proofs.lemmas.Simd.{map-map}
use Rattle.span_base.specs.declared.ids.SetId.{SetId}
use Rattle.span_base.specs.declared.policy.Policy.{Policy}
use Rattle.epoch_directory.specs.State as directory
use Rattle.epoch_directory.specs.declared.table.KeySet.{KeySet}
use Rattle.world_core.specs.declared.seat.Seat.{Seat}
use Rattle.world_core.specs.declared.event.Header.{Header}
use Rattle.world_core.specs.State.{Store, Replica, opening_replica, key_set, opening}
use Rattle.world_core.specs.Stores.{IsStore}
use Rattle.world_core.specs.Ends.{Journal}
use Rattle.world_core.proofs.NewStore.{opening_is_store, opens, seats_open, seated, sets_exist}
use Rattle.world_core.proofs.cloud.Cloud.make_with.Goals as goal

pub make-requires-clause-sets : goal.make-requires-clause-sets
make-requires-clause-sets g c =
    let listed : c.as_slice.result.now ≡ c.args.header.keys = c.as_slice.ensures in
    let keys_are : c.in_ok-keys.keys.items ≡ map key_set c.args.header.keys = c.in_ok-keys.ensures ∙ ap (map key_set) listed in
    let sets_are : c.into_vec.result.items ≡ c.args.header.sets = c.into_vec.ensures in
    subst (λ (keys : List KeySet). All (λ (key : KeySet). key.set.0 < length c.into_vec.result.items) keys) (sym keys_are)
    (sets_exist c.args.header.keys (length c.into_vec.result.items) (subst (λ (n : ℕ). All (λ (set : SetId). set.0 < n) c.args.header.keys) (ap length (sym sets_are)) c.requires.header.key_sets))

pub invariant_of-result : goal.invariant_of-result
invariant_of-result g c =
    let X : Type 0 = Seat g.row.T.Denot in
    let header : Header = c.args.header in
    let f : X → Replica = λ x. record { stopped = x.stopped; state = g.T.Taker.state x.taker } in
    let replicas_are : map f c.in_ok-seats.seats.items ≡ map (opening_replica (length header.keys)) (range_with_len 0 header.replicas) = seats_open g.T.Taker.state c.args.replicas.items c.in_ok-seats.seats.items (length header.keys) header.replicas c.in_ok-seats.ensures c.requires.states in
    let listed : c.as_slice.result.now ≡ header.keys = c.as_slice.ensures in
    let keys_are : c.in_ok-keys.keys.items ≡ map key_set header.keys = c.in_ok-keys.ensures ∙ ap (map key_set) listed in
    let sets_are : c.into_vec.result.items ≡ header.sets = c.into_vec.ensures in
    let made : c.in_ok-make.field-0 ≡ directory.opening c.in_ok-keys.keys.items c.into_vec.result.items = c.in_ok-make.ensures in
    let directory_is : c.in_ok-make.field-0 ≡ directory.opening (map key_set header.keys) header.sets =
    made ∙ ap (λ (keys : List KeySet). directory.opening keys c.into_vec.result.items) keys_are ∙ ap (λ (sets : List Policy). directory.opening (map key_set header.keys) sets) sets_are in
    let is : record { replicas = map f c.in_ok-seats.seats.items; proxies = c.in_ok-proxies.proxies.items; directory = c.in_ok-make.field-0; sent = g.W.Wire.pushed c.args.wire } ≡ opening header =
    opens header (map f c.in_ok-seats.seats.items) c.in_ok-proxies.proxies.items c.in_ok-make.field-0 (g.W.Wire.pushed c.args.wire) replicas_are c.in_ok-proxies.ensures directory_is c.requires.empty in
    subst (λ (s : Store). IsStore s 0) (sym is) (opening_is_store header c.requires.header)

pub returns-clause-store : goal.returns-clause-store
returns-clause-store g c =
    let X : Type 0 = Seat g.row.T.Denot in
    let header : Header = c.args.header in
    let f : X → Replica = λ x. record { stopped = x.stopped; state = g.T.Taker.state x.taker } in
    let replicas_are : map f c.in_ok-seats.seats.items ≡ map (opening_replica (length header.keys)) (range_with_len 0 header.replicas) = seats_open g.T.Taker.state c.args.replicas.items c.in_ok-seats.seats.items (length header.keys) header.replicas c.in_ok-seats.ensures c.requires.states in
    let listed : c.as_slice.result.now ≡ header.keys = c.as_slice.ensures in
    let keys_are : c.in_ok-keys.keys.items ≡ map key_set header.keys = c.in_ok-keys.ensures ∙ ap (map key_set) listed in
    let sets_are : c.into_vec.result.items ≡ header.sets = c.into_vec.ensures in
    let made : c.in_ok-make.field-0 ≡ directory.opening c.in_ok-keys.keys.items c.into_vec.result.items = c.in_ok-make.ensures in
    let directory_is : c.in_ok-make.field-0 ≡ directory.opening (map key_set header.keys) header.sets =
    made ∙ ap (λ (keys : List KeySet). directory.opening keys c.into_vec.result.items) keys_are ∙ ap (λ (sets : List Policy). directory.opening (map key_set header.keys) sets) sets_are in
    let is : record { replicas = map f c.in_ok-seats.seats.items; proxies = c.in_ok-proxies.proxies.items; directory = c.in_ok-make.field-0; sent = g.W.Wire.pushed c.args.wire } ≡ opening header =
    opens header (map f c.in_ok-seats.seats.items) c.in_ok-proxies.proxies.items c.in_ok-make.field-0 (g.W.Wire.pushed c.args.wire) replicas_are c.in_ok-proxies.ensures directory_is c.requires.empty in
    is

pub returns-clause-journals : goal.returns-clause-journals
returns-clause-journals g c =
    let h : Seat g.row.T.Denot → Journal = λ x. record { faults = g.T.Taker.faults x.taker; shut = g.T.Taker.shut x.taker; calm = g.T.Taker.calm x.taker; size = g.T.Taker.size x.taker } in
    ap (map h) c.in_ok-seats.ensures ∙ map-map h seated c.args.replicas.items
