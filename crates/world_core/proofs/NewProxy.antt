-- What is true of every proxy is true of one that a header opens.
use Rattle.std.proofs.Common.{◌≡◌, ℕ, ◌<◌, ◌≤◌, false, List, length, map, get_or, replicate, sym, ap, subst, arith}
use Rattle.std.specs.List.{All, range_with_len}
use Rattle.std.proofs.lemmas.List.{length-replicate}
use Rattle.std.proofs.lemmas.List.Elements.{All-replicate, All-from_get_or}
use Rattle.std.proofs.lemmas.List.FromFn.{length-map-range_with_len, get_or-map-range_with_len}
use Rattle.span_base.specs.declared.ids.DcId.{DcId}
use Rattle.span_base.specs.declared.ids.SetId.{SetId}
use Rattle.span_base.specs.declared.policy.Policy.{Policy}
use Rattle.span_base.specs.Policy.{IsSoundPolicy}
use Rattle.wire_msg.specs.declared.outputs.View.{View}
use Rattle.wire_msg.specs.Lawful.{IsLawfulView}
use Rattle.slot_pool.specs.Slots.{Slot, new_slot}
use Rattle.epoch_directory.specs.State.{no_policy}
use Rattle.world_core.specs.declared.live.LiveCall.{LiveCall}
use Rattle.world_core.specs.State.{no_view, opening_view}
use Rattle.world_core.specs.Proxies.{AreViews, IsProxySlot, IsProxy}

-- the views of the first epoch
pub opening_views_are : (sets : List Policy) (keys : List SetId) → length keys ≤ 1000 → All IsSoundPolicy sets → All (λ set. set.0 < length sets) keys → AreViews (map (opening_view sets keys) (range_with_len 0 (length keys)))
opening_views_are sets keys few sound exist = record {
  lawful = All-from_get_or IsLawfulView views no_view (λ k within. subst IsLawfulView (sym (at k (inside k within))) (record { key = omega (arith, inside k within, few); epoch = omega arith; policy = policy k (inside k within) }));
  keys = λ k within. ap (λ (v : View). v.key.0) (at k (inside k within));
} where
  views : List View
  views = map (opening_view sets keys) (range_with_len 0 (length keys))

  inside : (k : ℕ) → k < length views → k < length keys
  inside k within = omega (arith, within, length-map-range_with_len (opening_view sets keys) 0 (length keys))

  at : (k : ℕ) → k < length keys → get_or views k no_view ≡ opening_view sets keys k
  at k within = get_or-map-range_with_len (opening_view sets keys) 0 (length keys) k k no_view within (omega arith)

  policy : (k : ℕ) → k < length keys → IsSoundPolicy (opening_view sets keys k).policy
  policy k within =
      let no_set : SetId = record { 0 = 0 } in
      sound (get_or keys k no_set).0 no_policy (exist k no_set within)

-- a new proxy
pub opening_kept : (at : DcId) (sets : List Policy) (keys : List SetId) (views : List View) (calls : List (Slot LiveCall)) → length keys ≤ 1000 → All IsSoundPolicy sets → All (λ set. set.0 < length sets) keys
    → views ≡ map (opening_view sets keys) (range_with_len 0 (length keys)) → calls ≡ replicate 64 (new_slot 1) → IsProxy (record { at = at; stopped = false; begun = 0; seen = 0; views = views; calls = calls })
opening_kept at sets keys views calls few sound exist views_are calls_are = rw (views_are, calls_are) (record {
  views = opening_views_are sets keys few sound exist;
  slots = length-replicate 64 (new_slot {T = LiveCall} 1);
  calls = All-replicate (IsProxySlot (length (map (opening_view sets keys) (range_with_len 0 (length keys))))) 64 (new_slot 1) (record { generation = omega arith; key = omega arith });
})
