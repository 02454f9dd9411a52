-- What a live call of the key rests on.
use Rattle.std.specs.Prelude.{◌≡◌, ℕ, ◌<◌, ◌≤◌, true, false, List, Option, Some, None, IsSome, Contains}
use Rattle.span_base.specs.declared.ids.KeyId.{KeyId}
use Rattle.span_base.specs.declared.dc_set.DcSet.{DcSet}
use Rattle.span_base.specs.DcSet.{has}
use Rattle.span_base.specs.declared.policy.Quorum.{Quorum}
use Rattle.span_base.specs.PolicyParts.{member_of, replicas_of}
use Rattle.ticket_rules.specs.declared.stamp.Stamp.{Stamp}
use Rattle.ticket_rules.specs.Stamp.{stamp_zero, IsAtMost}
use Rattle.wire_msg.specs.declared.tag.Tag.{Tag}
use Rattle.wire_msg.specs.declared.message.Message.{Message}
use Rattle.wire_msg.specs.Posts.{tag_of}
use Rattle.wire_msg.specs.declared.message.Message.TheVariants as m
use Rattle.call_phase.specs.declared.best.Found.{Found}
use Rattle.call_phase.specs.declared.phase.Phase.{Phase}
use Rattle.slot_pool.specs.declared.handles.Handle.{Handle}
use Rattle.strong_proxy.specs.declared.progress.Stage.{Stage}
use Rattle.strong_proxy.specs.declared.progress.Stage.TheVariants.{First, Second, Looking, Ended}
use Rattle.strong_proxy.specs.declared.progress.Progress.{Progress}
use Rattle.strong_proxy.specs.declared.state.Work.{Work}
use Rattle.strong_proxy.specs.declared.state.Work.TheVariants.{ToRead, ToWrite}
use Rattle.strong_proxy.specs.declared.state.CallState.{CallState}
use Rattle.strong_proxy.specs.Rule.{leg_under}
use Rattle.epoch_directory.specs.State.{latest}
use Rattle.migration.specs.declared.stage.Epoch.{Epoch}
use Rattle.migration.specs.declared.stage.Stage.{Stage as MoveStage}
use Rattle.migration.specs.Move.{Moving}
use Rattle.migration.specs.Strong.{first_write_set}
use Rattle.migration.specs.declared.stage.Stage.TheVariants as stage
use Rattle.run_marks.specs.declared.mark.Work.{Work as Asked}
use Rattle.run_marks.specs.declared.mark.Mark.{Mark}
use Rattle.run_marks.specs.declared.mark.Work.TheVariants as w
use Rattle.run_marks.specs.declared.mark.Mark.TheVariants as k
use Rattle.world_core.specs.declared.live.LiveCall.TheVariants.{Strong, StrongMove}
use Rattle.world_core.specs.State.{Store, policy_of}
use Rattle.register_law.specs.Ghost.{Ghost, Begun, Leg}
use Rattle.register_law.specs.Seen.{WasSent, IsKnown, IsSettled, IsFrozenSet}
use Rattle.register_law.specs.Tags.{IsLiveAt, IsSamePoint, request_key}

-- a read or a write of the key is live
pub record IsLiveStrong (key : KeyId) (s : Store) (p : ℕ) (handle : Handle) (call : CallState) : Type 0 where
  pub live : IsLiveAt s p handle (Strong call)
  pub at_key : call.progress.key ≡ key

-- a move of the key is live
pub record IsLiveMove (key : KeyId) (s : Store) (p : ℕ) (handle : Handle) (call : Moving) : Type 0 where
  pub live : IsLiveAt s p handle (StrongMove call)
  pub at_key : call.key ≡ key

-- the request of the call's present phase
abbrev pub IsStrongRequest : Work → Stage → CallState → Message → Type 0
IsStrongRequest ToRead First call request = request ≡ m.Read call.progress.phase.tag call.progress.key call.progress.leg.epoch
IsStrongRequest (ToWrite value) First call request = request ≡ m.Ask call.progress.phase.tag call.progress.key call.progress.leg.ticket
IsStrongRequest ToRead Second call request =
    (found : Found) × (call.best ≡ Some found) × (request ≡ m.Repair call.progress.phase.tag call.progress.key call.progress.leg.epoch found.stamp found.value)
IsStrongRequest (ToWrite value) Second call request = request ≡ m.Store call.progress.phase.tag call.progress.key call.progress.leg.ticket value
IsStrongRequest work Looking call request = request ≡ m.Lookup call.progress.phase.tag call.progress.key
IsStrongRequest work Ended call request = ⊥

-- the request of the move's present phase; a Seed's value isn't kept
abbrev pub IsMoveRequest : MoveStage → Moving → Message → Type 0
IsMoveRequest stage.Looking call request = request ≡ m.Lookup call.phase.tag call.key
IsMoveRequest (stage.Freezing old new best) call request = request ≡ m.Freeze call.phase.tag call.key old.number
IsMoveRequest (stage.Seeding old new frozen seeded top_gone) call request = (value : List ℕ) × (request ≡ m.Seed call.phase.tag call.key new.number seeded value)
IsMoveRequest (stage.Switching old new frozen seeded) call request = request ≡ m.Switch call.phase.tag call.key old new.number
IsMoveRequest stage.Ended call request = ⊥

-- a version answered in this phase, of at most what was found and marked
pub record HasAnswered (s : Store) (tag : Tag) (d : ℕ) (best : Found) (mark : Stamp) : Type 0 where
  pub version : Stamp
  pub marked : Stamp
  pub value : List ℕ
  pub sent : WasSent s (m.Have tag (record { 0 = d }) version marked value)
  pub below : IsAtMost version best.stamp
  pub below_mark : IsAtMost marked mark

-- what was found is what some replica that counted answered
pub record WasAnswered (s : Store) (phase : Phase) (best : Found) : Type 0 where
  pub d : ℕ
  pub mark : Stamp
  pub counted : has phase.good d ≡ true
  pub sent : WasSent s (m.Have phase.tag (record { 0 = d }) best.stamp mark best.value)

-- the greatest mark is one that a replica that counted answered
pub record WasMarked (s : Store) (phase : Phase) (mark : Stamp) : Type 0 where
  pub d : ℕ
  pub version : Stamp
  pub value : List ℕ
  pub counted : has phase.good d ≡ true
  pub sent : WasSent s (m.Have phase.tag (record { 0 = d }) version mark value)

-- the answers of a read's first phase
pub record HavesCounted (s : Store) (call : CallState) (best : Found) : Type 0 where
  pub each : (d : ℕ) → has call.progress.phase.good d ≡ true → HasAnswered s call.progress.phase.tag d best call.progress.top_mark
  pub found : WasAnswered s call.progress.phase best
  pub marked : WasMarked s call.progress.phase call.progress.top_mark

-- each replica that counted said Yes
abbrev pub YesCounted : Store → Phase → Type 0
YesCounted s phase = (d : ℕ) → has phase.good d ≡ true → WasSent s (m.Yes phase.tag (record { 0 = d }))

-- nothing counted yet
abbrev pub NoneCounted : Phase → Type 0
NoneCounted phase = (d : ℕ) → has phase.good d ≡ false

-- what counted in a read's first phase, by whether a version was found; before the first answer the greatest mark is zero
abbrev pub FirstCounted : Store → CallState → Option Found → Type 0
FirstCounted s call None = NoneCounted call.progress.phase × (call.progress.top_mark ≡ stamp_zero)
FirstCounted s call (Some best) = HavesCounted s call best

abbrev pub StrongCounted : Store → Work → Stage → CallState → Type 0
StrongCounted s ToRead First call = FirstCounted s call call.best
StrongCounted s (ToWrite value) First call = YesCounted s call.progress.phase
StrongCounted s work Second call = YesCounted s call.progress.phase
StrongCounted s work Looking call = Unit {0}
StrongCounted s work Ended call = Unit {0}

-- the set of the call's present phase
abbrev pub IsAskedOf : Work → Stage → Quorum → DcSet → Type 0
IsAskedOf ToRead First member set = set ≡ member.read
IsAskedOf (ToWrite value) First member set = set ≡ member.write
IsAskedOf work Second member set = set ≡ member.write
IsAskedOf work Looking member set = Unit {0}
IsAskedOf work Ended member set = Unit {0}

-- a write draws its ticket in its leg's epoch
abbrev pub TicketOf : Work → Progress → Type 0
TicketOf ToRead p = Unit {0}
TicketOf (ToWrite value) p =
    (p.leg.ticket.epoch ≡ p.leg.epoch) × (1 ≤ p.leg.ticket.number) × (p.leg.ticket.proxy ≡ p.phase.tag.call.proxy) × (p.leg.ticket.seq ≡ p.phase.tag.call.seq)

-- the call's leg is under the policy of an epoch that has been current
pub record HasPolicy (key : KeyId) (s : Store) (g : Ghost) (call : CallState) : Type 0 where
  pub member : Quorum
  pub opened : Contains g.opened call.progress.leg.epoch
  pub is_member : member_of (policy_of s key call.progress.leg.epoch) call.progress.at.0 ≡ Some member
  pub leg : call.progress.leg ≡ leg_under (record { key = key; epoch = call.progress.leg.epoch; policy = policy_of s key call.progress.leg.epoch }) member call.progress.leg.ticket
  pub asked : IsAskedOf call.work call.progress.stage member call.progress.phase.asked
  pub ticket : TicketOf call.work call.progress

-- the leg of a call that is in its first phase is noted
abbrev pub ticket_noted : Work → Stamp → Option Stamp
ticket_noted ToRead ticket = None
ticket_noted (ToWrite value) ticket = Some ticket

pub record IsNotedLeg (g : Ghost) (call : CallState) : Type 0 where
  pub leg : Leg
  pub noted : Contains g.legs leg
  pub call_is : leg.call ≡ call.progress.phase.tag.call
  pub phase_is : leg.phase ≡ call.progress.phase.tag.phase
  pub epoch_is : leg.epoch ≡ call.progress.leg.epoch
  pub ticket_is : leg.ticket ≡ ticket_noted call.work call.progress.leg.ticket

-- the works agree
abbrev pub IsWork : Work → Asked → Type 0
IsWork ToRead asked = asked ≡ w.Read
IsWork (ToWrite value) asked = asked ≡ w.Write value

-- a read that repairs has a version that it may
abbrev pub MayRepair : KeyId → Store → Work → Stage → Option Found → Stamp → Type 0
MayRepair key s ToRead Second (Some found) floor = IsKnown key s found.stamp found.value × IsAtMost floor found.stamp
MayRepair key s work stage best floor = Unit {0}

-- only a write in its second phase has sent a Store, of its ticket
abbrev pub StoresOnly : Work → Stage → Stamp → Stamp → Type 0
StoresOnly (ToWrite value) Second ticket stamp = stamp ≡ ticket
StoresOnly work stage ticket stamp = ⊥

-- the latest ticket of a call
pub record IsLatestTicket (marks : List Mark) (tag : Tag) (stamp : Stamp) : Type 0 where
  pub noted : Contains marks (k.Ticket tag.call stamp)
  pub greatest : (other : Stamp) → Contains marks (k.Ticket tag.call other) → IsAtMost other stamp

abbrev pub HasTicket : Work → List Mark → Tag → Stamp → Type 0
HasTicket ToRead marks tag stamp = Unit {0}
HasTicket (ToWrite value) marks tag stamp = IsLatestTicket marks tag stamp

-- of one read or write of the key
pub record CallBacked (key : KeyId) (s : Store) (g : Ghost) (call : CallState) : Type 0 where
  pub request : (request : Message) → WasSent s request → IsSome (request_key request) → IsSamePoint (tag_of request) call.progress.phase.tag → IsStrongRequest call.work call.progress.stage call request
  pub counted : StrongCounted s call.work call.progress.stage call
  pub within : (d : ℕ) → has call.progress.phase.good d ≡ true → has call.progress.phase.asked d ≡ true
  pub policy : HasPolicy key s g call
  pub leg : call.progress.stage ≡ First → IsNotedLeg g call
  pub begun : (b : Begun) → g.begun call.progress.phase.tag.call ≡ Some b → IsWork call.work b.work
  pub repair : (b : Begun) → g.begun call.progress.phase.tag.call ≡ Some b → MayRepair key s call.work call.progress.stage call.best b.floor
  pub store : (tag : Tag) (stamp : Stamp) (value : List ℕ) → WasSent s (m.Store tag key stamp value) → tag.call ≡ call.progress.phase.tag.call → StoresOnly call.work call.progress.stage call.progress.leg.ticket stamp
  pub epochs : (tag : Tag) (stamp : Stamp) → WasSent s (m.Ask tag key stamp) → tag.call ≡ call.progress.phase.tag.call → stamp.epoch ≤ call.progress.leg.epoch
  pub ticket : HasTicket call.work g.marks call.progress.phase.tag call.progress.leg.ticket

-- of the reads and the writes of the key
abbrev pub StrongCallsAreBacked : KeyId → Store → Ghost → Type 0
StrongCallsAreBacked key s g = (p : ℕ) (handle : Handle) (call : CallState) → IsLiveStrong key s p handle call → CallBacked key s g call

-- an epoch that the move goes to
pub record IsTargetOf (key : KeyId) (s : Store) (g : Ghost) (old : ℕ) (new : Epoch) : Type 0 where
  pub opened : Contains g.opened old
  pub later : old < new.number
  pub published : new.number ≤ latest s.directory
  pub policy : new.policy ≡ policy_of s key new.number

-- the versions that froze
pub record FreezesCounted (s : Store) (phase : Phase) (best : Found) : Type 0 where
  pub each : (d : ℕ) → has phase.good d ≡ true → (version : Stamp) × (mark : Stamp) × (value : List ℕ) × WasSent s (m.Have phase.tag (record { 0 = d }) version mark value) × IsAtMost version best.stamp
  pub found : WasAnswered s phase best

abbrev pub FrozenCounted : Store → Phase → Option Found → Type 0
FrozenCounted s phase None = NoneCounted phase
FrozenCounted s phase (Some best) = FreezesCounted s phase best

pub record SeedsBacked (key : KeyId) (s : Store) (g : Ghost) (old : ℕ) (new : Epoch) (frozen : DcSet) (seeded : Stamp) : Type 0 where
  pub target : IsTargetOf key s g old new
  pub frozen_set : IsFrozenSet key s g old frozen seeded

abbrev pub MoveBacked : KeyId → Store → Ghost → Phase → MoveStage → Type 0
MoveBacked key s g phase stage.Looking = Unit {0}
MoveBacked key s g phase (stage.Freezing old new best) =
    IsTargetOf key s g old.number new × (old.policy ≡ policy_of s key old.number) × (phase.asked ≡ replicas_of old.policy) × FrozenCounted s phase best
MoveBacked key s g phase (stage.Seeding old new frozen seeded top_gone) =
    SeedsBacked key s g old new frozen seeded × (phase.asked ≡ first_write_set new.policy) × YesCounted s phase
MoveBacked key s g phase (stage.Switching old new frozen seeded) = SeedsBacked key s g old new frozen seeded × IsSettled key s g new.number seeded
MoveBacked key s g phase stage.Ended = Unit {0}

-- of one move of the key
pub record OneMove (key : KeyId) (s : Store) (g : Ghost) (call : Moving) : Type 0 where
  pub request : (request : Message) → WasSent s request → IsSome (request_key request) → IsSamePoint (tag_of request) call.phase.tag → IsMoveRequest call.stage call request
  pub within : (d : ℕ) → has call.phase.good d ≡ true → has call.phase.asked d ≡ true
  pub backed : MoveBacked key s g call.phase call.stage

-- of the moves of the key
abbrev pub MovesAreBacked : KeyId → Store → Ghost → Type 0
MovesAreBacked key s g = (p : ℕ) (handle : Handle) (call : Moving) → IsLiveMove key s p handle call → OneMove key s g call
