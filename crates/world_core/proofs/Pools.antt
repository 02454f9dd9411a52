-- The live calls of a proxy, as one of them goes on, enters or leaves.
use Rattle.std.proofs.Common.{◌≡◌, ℕ, ◌+◌, ◌<◌, ◌≤◌, ◌==◌, Bool, true, false, cond, List, length, get_or, refl, sym, ap, ◌∙◌, subst, arith}
use Rattle.std.specs.Prelude.{slice_get, slice_set, is_some, Option, Some, None, IfSome}
use Rattle.std.specs.Option.{option_map_or}
use Rattle.std.specs.List.{All}
use Rattle.std.proofs.lemmas.Bool.{eqb-true}
use Rattle.std.proofs.lemmas.List.{length-set, set-set, set-get_or, get_or-set_same}
use Rattle.std.proofs.lemmas.List.Elements.{All-set, All-weaker}
use Rattle.std.proofs.lemmas.Option.{get_or_from_slice_get, slice_get-get_or, slice_get_within}
use Rattle.slot_pool.specs.declared.handles.Handle.{Handle}
use Rattle.slot_pool.specs.Slots.{Slot, Empty, Retired, full_slot, emptied_slot, last_generation, item_at, with_item, without_item, after_take, after_write, next_handle}
use Rattle.slot_pool.specs.Slots.{new_slot}
use Rattle.slot_pool.proofs.PoolLemmas.{live_is, next_is, item_at-full}
use Rattle.span_base.specs.declared.ids.KeyId.{KeyId}
use Rattle.wire_msg.specs.declared.outputs.Post.{Post}
use Rattle.wire_msg.specs.declared.outputs.Reply.{Reply}
use Rattle.wire_msg.specs.Posts.{key_of}
use Rattle.world_core.specs.declared.live.LiveCall.{LiveCall}
use Rattle.world_core.specs.Calls.{key_of_call}
use Rattle.world_core.specs.Proxies.{IsProxySlot, keys_for, keys_entered, calls_entered, AreOfKey, IsOfKeyBelow, AreOfKeysBelow}
use Rattle.world_core.specs.Taking.{calls_left}

abbrev Calls : Type 0
Calls = List (Slot LiveCall)

full_is : (keys : ℕ) (generation : ℕ) (call : LiveCall) → 1 ≤ generation → (key_of_call call).0 < keys → IsProxySlot keys (full_slot generation call)
full_is keys generation call first key = record { generation = first; key = omega (arith, key) }

-- a call goes on
pub with_kept : (keys : ℕ) (calls : Calls) (handle : Handle) (call : LiveCall) → 1 ≤ handle.generation → (key_of_call call).0 < keys → All (IsProxySlot keys) calls → All (IsProxySlot keys) (with_item calls handle call)
with_kept keys calls handle call first key are = All-set (IsProxySlot keys) calls handle.slot (full_slot handle.generation call) (full_is keys handle.generation call first key) are

-- the slot of a live call
live_slot : (calls : Calls) (handle : Handle) (call : LiveCall) → item_at calls handle ≡ Some call → (was : LiveCall) × (slice_get calls handle.slot ≡ Some (full_slot handle.generation was))
live_slot calls handle call live = live_is calls handle (ap is_some live)

-- the call that stands there already, written once more
pub write_same : (calls : Calls) (handle : Handle) (call : LiveCall) → item_at calls handle ≡ Some call → with_item calls handle call ≡ calls
write_same calls handle call live = by (live_slot calls handle call live)
  where
    by : ((was : LiveCall) × (slice_get calls handle.slot ≡ Some (full_slot handle.generation was))) → with_item calls handle call ≡ calls
    by found =
        let here : item_at calls handle ≡ Some found.0 = item_at-full calls handle found.0 found.1 in
        let same : call ≡ found.0 = cc in
        let d : Slot LiveCall = full_slot handle.generation call in
        let read : get_or calls handle.slot d ≡ d = get_or_from_slice_get calls handle.slot (full_slot handle.generation found.0) d found.1 ∙ ap (λ c. full_slot handle.generation c) (sym same) in
        ap (λ (slot : Slot LiveCall). slice_set calls handle.slot slot) (sym read) ∙ set-get_or calls handle.slot d

-- a call that was written and has ended leaves as it would have before
pub written_leaves : (calls : Calls) (handle : Handle) (was call : LiveCall) → item_at calls handle ≡ Some was → after_take (after_write calls handle call) handle ≡ after_take calls handle
written_leaves calls handle was call live = by (live_slot calls handle was live)
  where
    by : ((old : LiveCall) × (slice_get calls handle.slot ≡ Some (full_slot handle.generation old))) → after_take (after_write calls handle call) handle ≡ after_take calls handle
    by found =
        let alive : is_some (item_at calls handle) ≡ true = ap is_some live in
        let within : handle.slot < length calls = slice_get_within calls handle.slot (full_slot handle.generation found.0) found.1 in
        let new : Slot LiveCall = full_slot handle.generation call in
        let put : slice_get (with_item calls handle call) handle.slot ≡ Some new =
        slice_get-get_or (with_item calls handle call) handle.slot new (omega (arith, within, length-set calls handle.slot new)) ∙ ap Some (get_or-set_same calls handle.slot new new within) in
        let still : is_some (item_at (with_item calls handle call) handle) ≡ true = ap is_some (item_at-full (with_item calls handle call) handle call put) in
        ap (λ b. after_take (cond b (with_item calls handle call) calls) handle) alive
        ∙ ap (λ b. cond b (without_item (with_item calls handle call) handle) (with_item calls handle call)) still
        ∙ set-set calls handle.slot new (emptied_slot handle.generation)
        ∙ sym (ap (λ b. cond b (without_item calls handle) calls) alive)

-- a call leaves
emptied_is : (keys generation : ℕ) (b : Bool) → (generation == last_generation) ≡ b → IsProxySlot keys (cond b (record { generation = generation; content = Retired }) (record { generation = generation + 1; content = Empty }))
emptied_is keys generation true last = record { generation = omega (arith, eqb-true generation last_generation last); key = omega arith }
emptied_is keys generation false more = record { generation = omega arith; key = omega arith }

pub take_kept : (keys : ℕ) (calls : Calls) (handle : Handle) → All (IsProxySlot keys) calls → All (IsProxySlot keys) (after_take calls handle)
take_kept keys calls handle are = by (is_some (item_at calls handle))
  where
    by : (b : Bool) → All (IsProxySlot keys) (cond b (without_item calls handle) calls)
    by true = All-set (IsProxySlot keys) calls handle.slot (emptied_slot handle.generation) (emptied_is keys handle.generation (handle.generation == last_generation) refl) are
    by false = are

pub length-after_take : (calls : Calls) (handle : Handle) → length (after_take calls handle) ≡ length calls
length-after_take calls handle = by (is_some (item_at calls handle))
  where
    by : (b : Bool) → length (cond b (without_item calls handle) calls) ≡ length calls
    by true = length-set calls handle.slot (emptied_slot handle.generation)
    by false = refl

pub left_kept : (keys : ℕ) (calls : Calls) (handle : Handle) (end : Option Reply) → All (IsProxySlot keys) calls → All (IsProxySlot keys) (calls_left calls handle end)
left_kept keys calls handle None are = are
left_kept keys calls handle (Some reply) are = take_kept keys calls handle are

pub length-calls_left : (calls : Calls) (handle : Handle) (end : Option Reply) → length (calls_left calls handle end) ≡ length calls
length-calls_left calls handle None = refl
length-calls_left calls handle (Some reply) = length-after_take calls handle

-- the handle of the next call
pub next_first : (keys : ℕ) (calls : Calls) (handle : Handle) → All (IsProxySlot keys) calls → next_handle calls ≡ Some handle → 1 ≤ handle.generation
next_first keys calls handle are next =
    let there : slice_get calls handle.slot ≡ Some (new_slot handle.generation) = next_is calls handle next in
    let within : handle.slot < length calls = slice_get_within calls handle.slot (new_slot handle.generation) there in
    let read : get_or calls handle.slot (new_slot 0) ≡ new_slot handle.generation = get_or_from_slice_get calls handle.slot (new_slot handle.generation) (new_slot 0) there in
    omega (arith, (are handle.slot (new_slot 0) within).generation, ap (λ (slot : Slot LiveCall). slot.generation) read)

put_cases : (keys : ℕ) (calls : Calls) (call : LiveCall) (next : Option Handle) → next_handle calls ≡ next → (key_of_call call).0 + 1 ≤ keys → All (IsProxySlot keys) calls → All (IsProxySlot keys) (option_map_or (λ handle. with_item calls handle call) next calls)
put_cases keys calls call None is key are = are
put_cases keys calls call (Some handle) is key are =
    All-set (IsProxySlot keys) calls handle.slot (full_slot handle.generation call) (full_is keys handle.generation call (next_first keys calls handle are is) (omega (arith, key))) are

put_length : (calls : Calls) (call : LiveCall) (next : Option Handle) → length (option_map_or (λ handle. with_item calls handle call) next calls) ≡ length calls
put_length calls call None = refl
put_length calls call (Some handle) = length-set calls handle.slot (full_slot handle.generation call)

-- a call enters
pub entered_kept : (keys : ℕ) (calls : Calls) (call : Option LiveCall) → keys_entered call ≤ keys → All (IsProxySlot keys) calls → All (IsProxySlot keys) (calls_entered calls call)
entered_kept keys calls None key are = are
entered_kept keys calls (Some call) key are = put_cases keys calls call (next_handle calls) refl key are

pub length-calls_entered : (calls : Calls) (call : Option LiveCall) → length (calls_entered calls call) ≡ length calls
length-calls_entered calls None = refl
length-calls_entered calls (Some call) = put_length calls call (next_handle calls)

-- the key of a live call is one of those that are known
pub call_within : (keys : ℕ) (calls : Calls) (handle : Handle) (call : LiveCall) → All (IsProxySlot keys) calls → item_at calls handle ≡ Some call → (key_of_call call).0 < keys
call_within keys calls handle call are live =
    let found : (was : LiveCall) × (slice_get calls handle.slot ≡ Some (full_slot handle.generation was)) = live_slot calls handle call live in
    let here : item_at calls handle ≡ Some found.0 = item_at-full calls handle found.0 found.1 in
    let same : call ≡ found.0 = cc in
    let d : Slot LiveCall = new_slot 1 in
    let within : handle.slot < length calls = slice_get_within calls handle.slot (full_slot handle.generation found.0) found.1 in
    let read : get_or calls handle.slot d ≡ full_slot handle.generation found.0 = get_or_from_slice_get calls handle.slot (full_slot handle.generation found.0) d found.1 in
    let bound : keys_for (get_or calls handle.slot d).content ≤ keys = (are handle.slot d within).key in
    let it : keys_for (get_or calls handle.slot d).content ≡ (key_of_call call).0 + 1 = ap (λ (slot : Slot LiveCall). keys_for slot.content) read ∙ ap (λ c. (key_of_call c).0 + 1) (sym same) in
    omega (arith, bound, it)

-- posts of a key that is known are of known keys
pub of_key_below : (keys : ℕ) (key : KeyId) (posts : List Post) → key.0 < keys → AreOfKey key posts → AreOfKeysBelow keys posts
of_key_below keys key posts within =
    All-weaker (λ (post : Post). key_of post.message ≡ Some key) (λ (post : Post). IsOfKeyBelow keys post.message) (λ post same. subst (λ (o : Option KeyId). IfSome o (λ k. k.0 < keys)) (sym same) within) posts
