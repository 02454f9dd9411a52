-- What holds of every call: its fields are in their ranges, its phases stay few, and a read that repairs has a version.
use Rattle.std.specs.Prelude.{◌≡◌, ◌≢◌, Bool, true, false, is_some, ℕ, ◌+◌, ◌*◌, ◌≤◌, ◌<◌, length, Option, Some, None}
use Rattle.span_base.specs.declared.dc_set.DcSet.{DcSet}
use Rattle.span_base.specs.DcSet.{centres_of}
use Rattle.ticket_rules.specs.declared.stamp.Stamp.{Stamp}
use Rattle.wire_msg.specs.declared.message.Message.{Message}
use Rattle.wire_msg.specs.declared.outputs.View.{View}
use Rattle.wire_msg.specs.declared.outputs.Reply.TheVariants.{Stored}
use Rattle.wire_msg.specs.Lawful.{IsLawfulTag, IsLawfulKey, IsLawfulStamp}
use Rattle.call_phase.specs.declared.best.Found.{Found}
use Rattle.strong_proxy.specs.declared.progress.Stage.{Stage}
use Rattle.strong_proxy.specs.declared.progress.Stage.TheVariants.{First, Second, Looking, Ended}
use Rattle.strong_proxy.specs.declared.progress.Progress.{Progress}
use Rattle.strong_proxy.specs.declared.state.Work.{Work}
use Rattle.strong_proxy.specs.declared.state.Work.TheVariants.{ToRead, ToWrite}
use Rattle.strong_proxy.specs.declared.state.CallState.{CallState}
use Rattle.strong_proxy.specs.Counting.{counted}
use Rattle.strong_proxy.specs.Rule.{step}

-- the call waits for nothing any more
abbrev pub has_ended : Stage → Bool
has_ended First = false
has_ended Second = false
has_ended Looking = false
has_ended Ended = true

-- a read that repairs has a version
abbrev pub keeps_best : Stage → Work → Bool → Bool
keeps_best First work kept = true
keeps_best Second ToRead kept = kept
keeps_best Second (ToWrite value) kept = true
keeps_best Looking work kept = true
keeps_best Ended work kept = true

-- the call has the version that it repairs
abbrev pub KeepsBest : CallState → Type 0
KeepsBest call = keeps_best call.progress.stage call.work (is_some call.best) ≡ true

-- the bytes of the value that is written
abbrev pub work_bytes : Work → ℕ
work_bytes ToRead = 0
work_bytes (ToWrite value) = length value

-- the bytes of the value that is kept
abbrev pub found_bytes : Option Found → ℕ
found_bytes None = 0
found_bytes (Some found) = length found.value

-- the proxy that the greatest version is of
abbrev pub found_proxy : Option Found → ℕ
found_proxy None = 0
found_proxy (Some found) = found.stamp.proxy

-- how many phases a leg has at most before this stage
abbrev pub phases_before : Stage → ℕ
phases_before Looking = 0
phases_before First = 1
phases_before Second = 2
phases_before Ended = 2

-- the numbers of a call's progress are in their ranges; a leg and its lookup have three phases at most
pub record IsLawfulProgress (p : Progress) : Type 0 where
  pub tag : IsLawfulTag p.phase.tag
  pub key : IsLawfulKey p.key
  pub epoch : 1 ≤ p.leg.epoch
  pub ticket : IsLawfulStamp p.leg.ticket
  pub held : IsLawfulStamp p.top_held
  pub lookups : p.lookups ≤ 4
  pub phases : p.phase.tag.phase ≤ 3 * p.lookups + phases_before p.stage

-- whom the phase asks, where it is a second one: the leg's write set
abbrev pub asked_at : Stage → Progress → DcSet
asked_at Second p = p.leg.writes
asked_at First p = p.phase.asked
asked_at Looking p = p.phase.asked
asked_at Ended p = p.phase.asked

-- the call's fields are in their ranges, it has the version that it repairs, and its second phase asks the write set
pub record IsLawfulCall (call : CallState) : Type 0 where
  pub progress : IsLawfulProgress call.progress
  pub work : work_bytes call.work ≤ 4096
  pub found : found_bytes call.best ≤ 4096
  pub proxy : found_proxy call.best < 64
  pub kept : KeepsBest call
  pub asked : call.progress.phase.asked ≡ asked_at call.progress.stage call.progress

-- a write that was storing its value: with this message counted all but at most f of its leg's write set said Yes, and the ticket is the leg's
pub record IsStoredBy (call : CallState) (message : Message) (stamp : Stamp) : Type 0 where
  pub write : call.work ≢ ToRead
  pub stage : call.progress.stage ≡ Second
  pub asked : call.progress.phase.asked ≡ call.progress.leg.writes
  pub quorum : length (centres_of call.progress.leg.writes) ≤ length (centres_of (counted call message).progress.phase.good) + call.progress.leg.f
  pub ticket : stamp ≡ call.progress.leg.ticket

-- a write that ends as stored was stored at all but at most f of its write set
abbrev pub StoredAtQuorum : Type 0
StoredAtQuorum = (call : CallState) (message : Message) (view : View) (seen : ℕ) (stamp : Stamp) → IsLawfulCall call → (step call message view seen).out.end ≡ Some (Stored stamp) → IsStoredBy call message stamp
