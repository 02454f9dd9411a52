-- What the tickets of answered puts, and the moves of an eventual key, rest on.
use Rattle.std.specs.Prelude.{ℕ, ◌≡◌, ◌⊎◌, ◌+◌, ◌<◌, ◌≤◌, Bool, true, List, [], ◌∷◌, Option, Some, None, IsSome, length, Contains}
use Rattle.span_base.specs.DcSet.{has}
use Rattle.span_base.specs.PolicyParts.{faults_of, replicas_of}
use Rattle.span_base.specs.declared.ids.Call.{Call}
use Rattle.span_base.specs.declared.ids.KeyId.{KeyId}
use Rattle.span_base.specs.declared.dc_set.DcSet.{DcSet}
use Rattle.span_base.specs.declared.policy.Policy.{Policy}
use Rattle.ticket_rules.specs.declared.stamp.Stamp.{Stamp}
use Rattle.ticket_rules.specs.Stamp.{stamp_zero, IsAtMost}
use Rattle.wire_msg.specs.declared.tag.Tag.{Tag}
use Rattle.wire_msg.specs.declared.message.Message.{Message}
use Rattle.wire_msg.specs.declared.outputs.Reply.{Reply}
use Rattle.wire_msg.specs.Posts.{tag_of}
use Rattle.wire_msg.specs.declared.actor.Actor.TheVariants as to
use Rattle.wire_msg.specs.declared.message.Message.TheVariants as m
use Rattle.wire_msg.specs.declared.outputs.Reply.TheVariants as r
use Rattle.call_phase.specs.declared.phase.Phase.{Phase}
use Rattle.call_phase.specs.declared.best.Found.{Found}
use Rattle.relay_proxy.specs.declared.stage.Stage.TheVariants.{Putting}
use Rattle.relay_proxy.specs.State as relay
use Rattle.migration.specs.declared.stage.Epoch.{Epoch}
use Rattle.migration.specs.declared.stage.Stage.{Stage}
use Rattle.migration.specs.declared.stage.Stage.TheVariants as stage
use Rattle.migration.specs.Move.{Moving}
use Rattle.epoch_directory.specs.State.{latest}
use Rattle.slot_pool.specs.declared.handles.Handle.{Handle}
use Rattle.run_marks.specs.declared.mark.Work.{Work}
use Rattle.run_marks.specs.declared.mark.Work.TheVariants as w
use Rattle.run_marks.specs.declared.mark.Mark.TheVariants as k
use Rattle.world_core.specs.declared.live.LiveCall.TheVariants.{Eventual, EventualMove}
use Rattle.world_core.specs.State.{Store, kept_of, proxy_at, view_at, policy_of}
use Rattle.register_law.specs.Ghost.{Ghost}
use Rattle.register_law.specs.Seen.{WasSent, version_before, is_at_most, count_of, both}
use Rattle.register_law.specs.Tags.{IsLiveAt, request_key}
use Rattle.register_law.specs.Live.{IsTargetOf}
use Rattle.eventual_law.specs.Opened.{WasSeeded}
use Rattle.eventual_law.specs.Known.{Known, VersionsAre}
use Rattle.eventual_law.specs.Told.{EventualAnswersTell}
use Rattle.eventual_law.specs.Epochs.{EpochsAreChained}

-- the centre is a replica of the key's policy in the epoch
abbrev pub is_replica : KeyId → Store → ℕ → ℕ → Type 0
is_replica key s epoch d = has (replicas_of (policy_of s key epoch)) d ≡ true

-- f + 1 replicas of the epoch's policy have the stamp, or had it when they were frozen for the epoch
abbrev pub IsHeld : KeyId → Store → Ghost → ℕ → Stamp → Type 0
IsHeld key s g epoch stamp = faults_of (policy_of s key epoch) + 1 ≤ count_of (both (has (replicas_of (policy_of s key epoch))) (λ d. is_at_most stamp (version_before key s g d epoch)))

-- every replica of the epoch's policy is frozen for the epoch, with a version of at most the stamp
pub record AreFrozen (key : KeyId) (s : Store) (g : Ghost) (epoch : ℕ) (stamp : Stamp) : Type 0 where
  pub frozen : (d : ℕ) → is_replica key s epoch d → epoch ≤ (kept_of s d key).frozen
  pub below : (d : ℕ) → is_replica key s epoch d → IsAtMost (version_before key s g d epoch) stamp

-- the stamp was sent to the replica under the epoch
pub record IsSeededTo (key : KeyId) (s : Store) (d epoch : ℕ) (stamp : Stamp) : Type 0 where
  pub tag : Tag
  pub value : List ℕ
  pub sent : Contains s.sent (record { to = to.Replica d; message = m.Seed tag key epoch stamp value })

-- a switch is asked for once the greatest version of the old epoch, which the move seeded, is held in the new one
pub record SwitchHeld (key : KeyId) (s : Store) (g : Ghost) (call : Call) (old new : ℕ) : Type 0 where
  pub seeded : Stamp
  pub seed : WasSeeded key s call seeded
  pub opened : Contains g.opened old
  pub later : old < new
  pub published : new ≤ latest s.directory
  pub all_frozen : AreFrozen key s g old seeded
  pub held : IsHeld key s g new seeded
  pub to_all : (d : ℕ) → is_replica key s new d → IsSeededTo key s d new seeded

-- the request is a push of the ticket
pub record IsPushUnder (key : KeyId) (ticket : Stamp) (request : Message) : Type 0 where
  pub onward : DcSet
  pub value : List ℕ
  pub is : request ≡ m.Push (tag_of request) key ticket onward value

-- a live put of the key: all that it asked under its tag is its push, and those that counted have its ticket, or had it when they were frozen
pub record PutHeld (key : KeyId) (s : Store) (g : Ghost) (call : relay.State) (ticket : Stamp) : Type 0 where
  pub first : call.phase.tag.phase ≡ 1
  pub opened : Contains g.opened ticket.epoch
  pub asked : call.phase.asked ≡ replicas_of (policy_of s key ticket.epoch)
  pub faults : call.f ≡ faults_of (policy_of s key ticket.epoch)
  pub request : (request : Message) → WasSent s request → request_key request ≡ Some key → tag_of request ≡ call.phase.tag → IsPushUnder key ticket request
  pub within : (d : ℕ) → has call.phase.good d ≡ true → has call.phase.asked d ≡ true
  pub counted : (d : ℕ) → has call.phase.good d ≡ true → IsAtMost ticket (version_before key s g d ticket.epoch)

-- of puts, and of what they ask
pub record PutsAreHeld (key : KeyId) (s : Store) (g : Ghost) : Type 0 where
  pub live : (p : ℕ) (handle : Handle) (call : relay.State) (ticket : Stamp) → IsLiveAt s p handle (Eventual call) → call.key ≡ key → call.stage ≡ Putting ticket → PutHeld key s g call ticket
  pub stored : (call : Call) (stamp : Stamp) (value : List ℕ) → Contains g.marks (k.Begin call key (w.Put value)) → Contains g.marks (k.End call (r.Stored stamp)) → Contains g.opened stamp.epoch × IsHeld key s g stamp.epoch stamp

-- the replica is frozen for the epoch, with a version of at most the greatest that was found
pub record IsFrozenWith (key : KeyId) (s : Store) (g : Ghost) (d epoch : ℕ) (best : Option Found) : Type 0 where
  pub found : Found
  pub best_is : best ≡ Some found
  pub frozen : epoch ≤ (kept_of s d key).frozen
  pub below : IsAtMost (version_before key s g d epoch) found.stamp

-- a move that freezes its old epoch
pub record FreezingHeld (key : KeyId) (s : Store) (g : Ghost) (phase : Phase) (old new : Epoch) (best : Option Found) : Type 0 where
  pub second : phase.tag.phase ≡ 2
  pub target : IsTargetOf key s g old.number new
  pub policy : old.policy ≡ policy_of s key old.number
  pub asked : phase.asked ≡ replicas_of old.policy
  pub sent : (d : ℕ) → has phase.asked d ≡ true → Contains s.sent (record { to = to.Replica d; message = m.Freeze phase.tag key old.number })
  pub counted : (d : ℕ) → has phase.good d ≡ true → IsFrozenWith key s g d old.number best

-- a move that stores the greatest version under its new epoch
pub record SeedingHeld (key : KeyId) (s : Store) (g : Ghost) (phase : Phase) (old : ℕ) (new : Epoch) (seeded : Stamp) : Type 0 where
  pub third : phase.tag.phase ≡ 3
  pub target : IsTargetOf key s g old new
  pub asked : phase.asked ≡ replicas_of new.policy
  pub sent : (d : ℕ) → has phase.asked d ≡ true → (value : List ℕ) × Contains s.sent (record { to = to.Replica d; message = m.Seed phase.tag key new.number seeded value })
  pub within : (d : ℕ) → has phase.good d ≡ true → has phase.asked d ≡ true
  pub frozen : AreFrozen key s g old seeded
  pub counted : (d : ℕ) → has phase.good d ≡ true → IsAtMost seeded (version_before key s g d new.number)

-- a move that asked for its switch
pub record SwitchingHeld (key : KeyId) (s : Store) (g : Ghost) (phase : Phase) (old : ℕ) (new : Epoch) : Type 0 where
  pub fourth : phase.tag.phase ≡ 4
  pub held : SwitchHeld key s g phase.tag.call old new.number
  pub policy : new.policy ≡ policy_of s key new.number
  pub sent : Contains s.sent (record { to = to.Directory; message = m.Switch phase.tag key old new.number })

-- of a move of the key, by its stage
abbrev pub IsHeldMove : KeyId → Store → Ghost → Phase → Stage → Type 0
IsHeldMove key s g phase stage.Looking = phase.tag.phase ≡ 1
IsHeldMove key s g phase (stage.Freezing old new best) = FreezingHeld key s g phase old new best
IsHeldMove key s g phase (stage.Seeding old new frozen seeded top_gone) = SeedingHeld key s g phase old new seeded
IsHeldMove key s g phase (stage.Switching old new frozen seeded) = SwitchingHeld key s g phase old new
IsHeldMove key s g phase stage.Ended = Unit {0}

-- a Switch that was done: it was sent, and its epoch has been current
pub record WasDone (key : KeyId) (s : Store) (g : Ghost) (tag : Tag) : Type 0 where
  pub old : ℕ
  pub new : ℕ
  pub sent : WasSent s (m.Switch tag key old new)
  pub opened : Contains g.opened new

-- of moves, and of what they ask
pub record MovesAreHeld (key : KeyId) (s : Store) (g : Ghost) : Type 0 where
  pub live : (p : ℕ) (handle : Handle) (call : Moving) → IsLiveAt s p handle (EventualMove call) → call.key ≡ key → IsHeldMove key s g call.phase call.stage
  pub third : (tag : Tag) (epoch : ℕ) (stamp : Stamp) (value : List ℕ) → WasSent s (m.Seed tag key epoch stamp value) → tag.phase ≡ 3
  pub one_seed : (a b : Tag) (e f : ℕ) (t u : Stamp) (v w : List ℕ) → WasSent s (m.Seed a key e t v) → WasSent s (m.Seed b key f u w) → a.call ≡ b.call → t ≡ u
  pub switch_sent : (tag : Tag) (old new : ℕ) → WasSent s (m.Switch tag key old new) → SwitchHeld key s g tag.call old new
  pub switched_opened : (tag : Tag) (epoch : ℕ) → WasSent s (m.Switched tag key true epoch) → WasDone key s g tag

-- a replica of the stamp's epoch has it, or had it when it was frozen for that epoch
pub record IsAtReplica (key : KeyId) (s : Store) (g : Ghost) (stamp : Stamp) : Type 0 where
  pub opened : Contains g.opened stamp.epoch
  pub d : ℕ
  pub of_policy : is_replica key s stamp.epoch d
  pub reached : IsAtMost stamp (version_before key s g d stamp.epoch)

abbrev pub IsReached : KeyId → Store → Ghost → Stamp → Type 0
IsReached key s g stamp = (stamp ≡ stamp_zero) ⊎ IsAtReplica key s g stamp

-- a push goes to replicas of its epoch's policy, and is passed on to such
pub record IsRouted (key : KeyId) (s : Store) (g : Ghost) (d : ℕ) (stamp : Stamp) (onward : DcSet) : Type 0 where
  pub opened : Contains g.opened stamp.epoch
  pub here : is_replica key s stamp.epoch d
  pub onwards : (e : ℕ) → has onward e ≡ true → is_replica key s stamp.epoch e

-- no version comes from nowhere
pub record VersionsAreReached (key : KeyId) (s : Store) (g : Ghost) : Type 0 where
  pub pushed : (d : ℕ) (tag : Tag) (stamp : Stamp) (onward : DcSet) (value : List ℕ) → Contains s.sent (record { to = to.Replica d; message = m.Push tag key stamp onward value }) → IsRouted key s g d stamp onward
  pub versions : VersionsAre key s (λ stamp value. IsReached key s g stamp)

-- what each proxy knows of the key is an epoch that has been current, and its policy
abbrev pub KnowsOpened : KeyId → Store → Ghost → Type 0
KnowsOpened key s g = (p : ℕ) → p < length s.proxies → Contains g.opened (view_at (proxy_at s p).views key).epoch × ((view_at (proxy_at s p).views key).policy ≡ policy_of s key (view_at (proxy_at s p).views key).epoch)

-- the calls of the key that were noted have begun, and no call ends before it is counted
pub record MarksAreHeld (key : KeyId) (s : Store) (g : Ghost) : Type 0 where
  pub noted : (call : Call) → IsSome (g.begun call) → (work : Work) × Contains g.marks (k.Begin call key work)
  pub ended : (call : Call) (reply : Reply) → Contains g.marks (k.End call reply) → call.seq ≤ (proxy_at s call.proxy).begun

-- the directory answers what it was asked
pub record DirectoryTells (s : Store) : Type 0 where
  pub here_asked : (tag : Tag) (key : KeyId) (epoch : ℕ) (policy : Policy) (latest_epoch : ℕ) (latest_policy : Policy) → WasSent s (m.Here tag key epoch policy latest_epoch latest_policy) → WasSent s (m.Lookup tag key)
  pub switched_asked : (tag : Tag) (key : KeyId) (done : Bool) (epoch : ℕ) → WasSent s (m.Switched tag key done epoch) → (old : ℕ) × (new : ℕ) × WasSent s (m.Switch tag key old new)

-- all that the laws over epochs rest on
pub record InvOfEventual (key : KeyId) (s : Store) (g : Ghost) : Type 0 where
  pub known : Known key s g.marks
  pub answers : EventualAnswersTell key s g
  pub epochs : EpochsAreChained key s g
  pub marks : MarksAreHeld key s g
  pub tells : DirectoryTells s
  pub views : KnowsOpened key s g
  pub puts : PutsAreHeld key s g
  pub moves : MovesAreHeld key s g
  pub versions : VersionsAreReached key s g

-- the current epoch was opened by the move of this call; the first one by none
abbrev pub IsOpener : KeyId → Store → List ℕ → Option Call → Type 0
IsOpener key s (new ∷ old ∷ rest) (Some call) = (tag : Tag) × (tag.call ≡ call) × WasSent s (m.Switch tag key old new)
IsOpener key s (new ∷ []) None = Unit {0}
IsOpener key s _ _ = ⊥
