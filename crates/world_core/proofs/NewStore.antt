-- What is true of every store is true of one that a header opens.
use Rattle.std.proofs.Common.{◌≡◌, ℕ, ◌<◌, false, List, [], length, map, refl, sym, ap, ◌∙◌, arith}
use Rattle.std.specs.List.{All, range_with_len}
use Rattle.std.proofs.lemmas.List.{length-map, length-replicate}
use Rattle.std.proofs.lemmas.List.Elements.{All-map, All-nil}
use Rattle.std.proofs.lemmas.List.FromFn.{length-map-range_with_len}
use Rattle.std.proofs.lemmas.Simd.{map-map}
use Rattle.span_base.specs.declared.ids.SetId.{SetId}
use Rattle.wire_msg.specs.declared.outputs.Post.{Post}
use Rattle.wire_msg.specs.declared.outputs.Bulk.{Bulk}
use Rattle.wire_msg.specs.Lawful.{IsLawful}
use Rattle.wire_msg.proofs.Bulks.{bulk_of-none}
use Rattle.replica_core.specs.Keeping.{opening as nothing_kept}
use Rattle.replica_core.specs.Rule as replica
use Rattle.epoch_directory.specs.State as directory
use Rattle.epoch_directory.specs.declared.table.KeySet.{KeySet}
use Rattle.world_core.specs.declared.seat.Seat.{Seat}
use Rattle.world_core.specs.declared.event.Header.{Header}
use Rattle.world_core.specs.State.{Proxy, Replica, opening_view, opening_proxy, opening_replica, key_set, opening}
use Rattle.world_core.specs.Run.{IsHeader}
use Rattle.world_core.specs.Proxies.{IsOfKeyBelow}
use Rattle.world_core.specs.Stores.{FitsProxy, FitsReplica, IsStore}

keys_are : (keys : List SetId) → length (map (λ (key : KeySet). key.set.0) (map key_set keys)) ≡ length keys
keys_are keys = length-map (map key_set keys) (λ (key : KeySet). key.set.0) ∙ length-map keys key_set

pub opening_is_store : (header : Header) → IsHeader header → IsStore (opening header) 0
unfolding opening
opening_is_store header is =
    let keys : ℕ = length (map (λ (key : KeySet). key.set.0) (map key_set header.keys)) in
    record {
      proxies = All-map (FitsProxy keys 0) (opening_proxy header) header.proxies
          (λ i at within. record { views = length-map-range_with_len (opening_view header.sets header.keys) 0 (length header.keys) ∙ sym (keys_are header.keys); begun = omega arith });
      replicas = All-map (FitsReplica keys) (opening_replica (length header.keys)) (range_with_len 0 header.replicas)
          (λ i number within. length-replicate (length header.keys) nothing_kept ∙ sym (keys_are header.keys));
      few_proxies = omega (arith, length-map header.proxies (opening_proxy header), is.proxies.1);
      few_replicas = omega (arith, length-map-range_with_len (opening_replica (length header.keys)) 0 header.replicas, is.replicas.1);
      sent = record {
        lawful = All-nil (λ (post : Post). IsLawful post.message);
        of_keys = All-nil (λ (post : Post). IsOfKeyBelow keys post.message);
        few = omega (arith, ap (λ (b : Bulk). b.posts) bulk_of-none);
        small = omega (arith, ap (λ (b : Bulk). b.bytes) bulk_of-none);
      };
      few_events = omega arith;
    }

-- the store of these actors is the one that the header opens
pub opens : (header : Header) (replicas : List Replica) (proxies : List Proxy) (d : directory.State) (sent : List Post) → replicas ≡ map (opening_replica (length header.keys)) (range_with_len 0 header.replicas)
    → proxies ≡ map (opening_proxy header) header.proxies → d ≡ directory.opening (map key_set header.keys) header.sets → sent ≡ [] → record { replicas = replicas; proxies = proxies; directory = d; sent = sent } ≡ opening header
unfolding opening
opens header replicas proxies d sent r p e s = rw (r, p, e, s) refl

-- a taker in a seat of its own, and the replica there
abbrev pub seated : {T : Type 0} → T → Seat T
seated taker = record { stopped = false; taker = taker }

abbrev pub running : replica.State → Replica
running state = record { stopped = false; state = state }

-- replicas in the opening states, each in its seat
pub seats_open : {T : Type 0} (state : T → replica.State) (takers : List T) (seats : List (Seat T)) (keys replicas : ℕ) → seats ≡ map seated takers → map state takers ≡ map (λ number. replica.opening_state number keys) (range_with_len 0 replicas)
    → map (λ (s : Seat T). let r : Replica = record { stopped = s.stopped; state = state s.taker } in r) seats ≡ map (opening_replica keys) (range_with_len 0 replicas)
seats_open {T} state takers seats keys replicas are states =
    let f : Seat T → Replica = λ s. record { stopped = s.stopped; state = state s.taker } in
    ap (map f) are
    ∙ map-map f seated takers
    ∙ sym (map-map running state takers)
    ∙ ap (map running) states
    ∙ map-map running (λ (number : ℕ). replica.opening_state number keys) (range_with_len 0 replicas)

-- a key's set exists
pub sets_exist : (keys : List SetId) (count : ℕ) → All (λ set. set.0 < count) keys → All (λ (key : KeySet). key.set.0 < count) (map key_set keys)
sets_exist keys count are = All-map (λ (key : KeySet). key.set.0 < count) key_set keys are
