-- What is true of every store stays true as one of its actors changes.
use Rattle.std.proofs.Common.{◌≡◌, ℕ, ◌<◌, ◌≤◌, List, length, get_or, sym, subst, arith}
use Rattle.std.specs.List.{All}
use Rattle.std.proofs.lemmas.List.{length-set}
use Rattle.std.proofs.lemmas.List.Elements.{All-set, All-weaker}
use Rattle.wire_msg.specs.declared.outputs.Post.{Post}
use Rattle.epoch_directory.specs.State as directory
use Rattle.world_core.specs.State.{Proxy, Replica, Store}
use Rattle.world_core.specs.Step.{with_proxy, with_replica}
use Rattle.world_core.specs.Stores.{FitsProxy, FitsReplica, AreSent, IsStore}

later : (keys e f : ℕ) (proxies : List Proxy) → e ≤ f → All (FitsProxy keys e) proxies → All (FitsProxy keys f) proxies
later keys e f proxies up = All-weaker (FitsProxy keys e) (FitsProxy keys f) (λ proxy fits. record { views = fits.views; begun = omega (arith, fits.begun, up) }) proxies

-- what is read at a place
pub fits_at : (keys e : ℕ) (proxies : List Proxy) (p : ℕ) (proxy : Proxy) → All (FitsProxy keys e) proxies → p < length proxies → proxy ≡ get_or proxies p proxy → FitsProxy keys e proxy
fits_at keys e proxies p proxy are within read = subst (FitsProxy keys e) (sym read) (are p proxy within)

module _ (s : Store) (e f : ℕ) (kept : IsStore s e) (up : e ≤ f) (few : f ≤ 1000000) where
  -- with another proxy
  pub store_proxy : (p : ℕ) (proxy : Proxy) (now : List Post) → FitsProxy (length s.directory.sets) f proxy → AreSent (length s.directory.sets) now → IsStore (record (with_proxy s p proxy) { sent = now }) f
  store_proxy p proxy now fits sent = record {
    proxies = All-set (FitsProxy (length s.directory.sets) f) s.proxies p proxy fits (later (length s.directory.sets) e f s.proxies up kept.proxies);
    replicas = kept.replicas;
    few_proxies = omega (arith, kept.few_proxies, length-set s.proxies p proxy);
    few_replicas = kept.few_replicas;
    sent = sent;
    few_events = few;
  }

  -- with another replica
  pub store_replica : (d : ℕ) (replica : Replica) (now : List Post) → FitsReplica (length s.directory.sets) replica → AreSent (length s.directory.sets) now → IsStore (record (with_replica s d replica) { sent = now }) f
  store_replica d replica now fits sent = record {
    proxies = later (length s.directory.sets) e f s.proxies up kept.proxies;
    replicas = All-set (FitsReplica (length s.directory.sets)) s.replicas d replica fits kept.replicas;
    few_proxies = kept.few_proxies;
    few_replicas = omega (arith, kept.few_replicas, length-set s.replicas d replica);
    sent = sent;
    few_events = few;
  }

  -- with another directory of as many keys
  pub store_directory : (other : directory.State) (now : List Post) → length other.sets ≡ length s.directory.sets → AreSent (length s.directory.sets) now → IsStore (record s { directory = other; sent = now }) f
  store_directory other now same sent = record {
    proxies = subst (λ n. All (FitsProxy n f) s.proxies) (sym same) (later (length s.directory.sets) e f s.proxies up kept.proxies);
    replicas = subst (λ n. All (FitsReplica n) s.replicas) (sym same) kept.replicas;
    few_proxies = kept.few_proxies;
    few_replicas = kept.few_replicas;
    sent = subst (λ n. AreSent n now) (sym same) sent;
    few_events = few;
  }
