-- A store after so many events, all of whose stamps, values and epochs are within the ranges of a log.
use Rattle.std.specs.Prelude.{ℕ, ◌+◌, ◌≤◌, List, length}
use Rattle.span_base.specs.declared.ids.KeyId.{KeyId}
use Rattle.wire_msg.specs.declared.message.Message.{Message}
use Rattle.wire_msg.specs.declared.outputs.View.{View}
use Rattle.slot_pool.specs.declared.handles.Handle.{Handle}
use Rattle.epoch_directory.specs.State.{State, latest, current_of, set_count}
use Rattle.world_core.specs.declared.live.LiveCall.{LiveCall}
use Rattle.world_core.specs.State.{Store, Proxy, proxy_at, view_at, kept_of}
use Rattle.register_law.specs.Seen.{WasSent}
use Rattle.register_law.specs.Tags.{TagsTellApart, IsLiveAt}
use Rattle.log_law.specs.Fits.{FitsEpoch, FitsMessage, FitsKept, FitsLive}

-- what a proxy knows of each key is of an epoch of 32 bits
abbrev pub FitViews : List View → Type 0
FitViews views = (key : KeyId) → FitsEpoch (view_at views key).epoch

-- a proxy has begun no more calls than there were events, and has seen no number above the greatest
pub record FitsProxy (events : ℕ) (proxy : Proxy) : Type 0 where
  pub begun : proxy.begun ≤ events
  pub seen : proxy.seen ≤ 18446744073709551615
  pub views : FitViews proxy.views

-- a directory has published one table, and no more besides than there were events
pub record FitsDirectory (events : ℕ) (state : State) : Type 0 where
  pub some : 1 ≤ latest state
  pub few : latest state ≤ events + 1
  pub current : (key : KeyId) → FitsEpoch (current_of state key)
  pub keys : length state.sets ≤ 1000
  pub sets : set_count state ≤ 64

pub record IsWithin (s : Store) (events : ℕ) : Type 0 where
  pub tags : TagsTellApart s
  pub proxies : length s.proxies ≤ 64
  pub few : length s.sent ≤ 4000000
  pub sent : (message : Message) → WasSent s message → FitsMessage message
  pub kept : (d : ℕ) (key : KeyId) → FitsKept (kept_of s d key)
  pub live : (p : ℕ) (handle : Handle) (call : LiveCall) → IsLiveAt s p handle call → FitsLive call
  pub proxy : (p : ℕ) → FitsProxy events (proxy_at s p)
  pub directory : FitsDirectory events s.directory
