-- The state of a whole store: its actors, and every message that was sent.
use Rattle.std.specs.Prelude.{ℕ, Bool, true, false, List, [], length, map, replicate, slice_index_or}
use Rattle.std.specs.List.{range_with_len}
use Rattle.span_base.specs.declared.ids.DcId.{DcId}
use Rattle.span_base.specs.declared.ids.KeyId.{KeyId}
use Rattle.span_base.specs.declared.ids.SetId.{SetId}
use Rattle.span_base.specs.declared.policy.Policy.{Policy}
use Rattle.wire_msg.specs.declared.outputs.Post.{Post}
use Rattle.wire_msg.specs.declared.outputs.View.{View}
use Rattle.slot_pool.specs.Slots.{Slot, new_slot}
use Rattle.replica_core.specs.declared.kept.Kept.{Kept}
use Rattle.replica_core.specs.Rule as replica
use Rattle.epoch_directory.specs.declared.table.KeySet.{KeySet}
use Rattle.epoch_directory.specs.State as directory
use Rattle.world_core.specs.declared.live.LiveCall.{LiveCall}
use Rattle.world_core.specs.declared.event.Header.{Header}

-- how many calls of a proxy live at once, at most
abbrev pub live_limit : ℕ
live_limit = 64

-- a proxy: its centre, whether it is stopped, how many calls it began, the greatest number that it
-- saw in a stamp, what it knows of each key, and its live calls
pub record Proxy : Type 0 where
  pub at : DcId
  pub stopped : Bool
  pub begun : ℕ
  pub seen : ℕ
  pub views : List View
  pub calls : List (Slot LiveCall)

-- a replica, and whether it is stopped
pub record Replica : Type 0 where
  pub stopped : Bool
  pub state : replica.State

-- the actors, and the messages in the order in which they were sent
pub record Store : Type 0 where
  pub replicas : List Replica
  pub proxies : List Proxy
  pub directory : directory.State
  pub sent : List Post

-- what a proxy knows of a key at first: the first epoch
abbrev pub opening_view : List Policy → List SetId → ℕ → View
opening_view sets keys key = record { key = record { 0 = key }; epoch = 1; policy = slice_index_or sets (slice_index_or keys key (record { 0 = 0 })).0 directory.no_policy }

abbrev pub opening_views : Header → List View
opening_views header = map (opening_view header.sets header.keys) (range_with_len 0 (length header.keys))

abbrev pub opening_proxy : Header → DcId → Proxy
opening_proxy header at = record { at = at; stopped = false; begun = 0; seen = 0; views = opening_views header; calls = replicate live_limit (new_slot 1) }

abbrev pub opening_replica : ℕ → ℕ → Replica
opening_replica keys number = record { stopped = false; state = replica.opening_state number keys }

abbrev pub key_set : SetId → KeySet
key_set set = record { set = set }

-- the state that a header opens
unfoldable pub opening : Header → Store
opening header = record {
  replicas = map (opening_replica (length header.keys)) (range_with_len 0 header.replicas);
  proxies = map (opening_proxy header) header.proxies;
  directory = directory.opening (map key_set header.keys) header.sets;
  sent = [];
}

-- stands for a replica that isn't there: it takes nothing
abbrev pub no_replica : Replica
no_replica = record { stopped = true; state = replica.opening_state 0 0 }

-- stands for a proxy that isn't there: it takes nothing
abbrev pub no_proxy : Proxy
no_proxy = record { at = record { 0 = 0 }; stopped = true; begun = 0; seen = 0; views = []; calls = [] }

abbrev pub no_view : View
no_view = record { key = record { 0 = 0 }; epoch = 0; policy = directory.no_policy }

-- the actors of these numbers
abbrev pub replica_at : Store → ℕ → Replica
replica_at store d = slice_index_or store.replicas d no_replica

abbrev pub proxy_at : Store → ℕ → Proxy
proxy_at store p = slice_index_or store.proxies p no_proxy

-- what a replica keeps of a key
abbrev pub kept_of : Store → ℕ → KeyId → Kept
kept_of store d key = replica.kept_at (replica_at store d).state key

-- what a proxy knows of a key
abbrev pub view_at : List View → KeyId → View
view_at views key = slice_index_or views key.0 no_view

-- the policy of a key in an epoch
abbrev pub policy_of : Store → KeyId → ℕ → Policy
policy_of store key epoch = directory.policy_in store.directory epoch (directory.set_of store.directory key)
