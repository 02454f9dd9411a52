-- The schedules that the grammar spells: what is printed of them is read back.
use Rattle.std.specs.Prelude.{◌≡◌, ◌≢◌, ℕ, ◌<◌, ◌≤◌, ◌^◌, true, List, map, length, Ok}
use Rattle.std.specs.List.{All, AllPairs, flat_map}
use Rattle.hex.specs.Hex.{IsBytes}
use Rattle.span_base.specs.DcSet.{bits_of, centres_of}
use Rattle.span_base.specs.Policy.{lane_of, lanes_of}
use Rattle.span_base.specs.declared.dc_set.DcSet.{DcSet}
use Rattle.span_base.specs.declared.policy.Near.{Near}
use Rattle.span_base.specs.declared.policy.Hop.{Hop}
use Rattle.span_base.specs.declared.policy.Quorum.{Quorum}
use Rattle.span_base.specs.declared.policy.Policy.{Policy}
use Rattle.span_base.specs.declared.policy.Policy.TheVariants as policy
use Rattle.run_marks.specs.declared.mark.Work.{Work}
use Rattle.run_marks.specs.declared.mark.Work.TheVariants as work
use Rattle.epoch_directory.specs.declared.table.SetPolicy.{SetPolicy}
use Rattle.world_core.specs.declared.event.Header.{Header}
use Rattle.world_core.specs.declared.event.Event.{Event}
use Rattle.world_core.specs.declared.event.Event.TheVariants as event
use Rattle.world_core.specs.Run.{IsHeader}
use Rattle.schedule_text.specs.declared.setting.Form.{Form}
use Rattle.schedule_text.specs.declared.setting.Form.TheVariants as form
use Rattle.schedule_text.specs.Policies.{union_of}
use Rattle.schedule_text.specs.Tables.{mode_of, fits_set}
use Rattle.schedule_text.specs.Schedules.{Schedule, schedule_of}
use Rattle.schedule_text.specs.Printed.{schedule_text}

-- some of so many replicas
pub record AreReplicas (replicas : ℕ) (set : DcSet) : Type 0 where
  pub some : 0 < length (centres_of set)
  pub below : All (λ d. d < replicas) (centres_of set)
  pub bits : bits_of set < 65536

pub record IsSpelledQuorum (replicas : ℕ) (quorum : Quorum) : Type 0 where
  pub member : quorum.dc.0 < 16
  pub read : AreReplicas replicas quorum.read
  pub write : AreReplicas replicas quorum.write

pub record IsSpelledNear (near : Near) : Type 0 where
  pub member : near.member.0 < 16
  pub at : near.at.0 < 16

-- the replicas of a strong policy are those that its members ask
pub record IsSpelledStrong (replicas f : ℕ) (set : DcSet) (members : List Quorum) : Type 0 where
  pub tolerance : f ≤ 3
  pub few : length members ≤ 8
  pub quorums : All (IsSpelledQuorum replicas) members
  pub union : set ≡ union_of members

pub record IsSpelledDirect (replicas f : ℕ) (set : DcSet) (primary : List Near) : Type 0 where
  pub tolerance : f ≤ 3
  pub few : length primary ≤ 8
  pub replica_set : AreReplicas replicas set
  pub nears : All IsSpelledNear primary

-- each member of a relay policy has a hop to each replica, in rising order
pub record HasLanes (set : DcSet) (primary : List Near) (hops : List Hop) : Type 0 where
  pub lanes : map lane_of hops ≡ flat_map (λ near. lanes_of set near.member.0) primary
  pub parents : All (λ hop. hop.parent.0 < 16) hops

-- what the grammar spells of a policy, over so many replicas
abbrev pub IsSpelledPolicy : ℕ → Policy → Type 0
IsSpelledPolicy replicas (policy.Strong f set members) = IsSpelledStrong replicas f set members
IsSpelledPolicy replicas (policy.Direct f set primary) = IsSpelledDirect replicas f set primary
IsSpelledPolicy replicas (policy.Relay f set primary parent) = IsSpelledDirect replicas f set primary × HasLanes set primary parent

-- a header that opens a store, of proxies in centres, whose policies are spelled
pub record IsSpelledHeader (header : Header) : Type 0 where
  pub opens : IsHeader header
  pub policies : All (IsSpelledPolicy header.replicas) header.sets
  pub proxies : All (λ at. at.0 < 16) header.proxies

-- at most 4,096 bytes
pub record IsSpelledValue (value : List ℕ) : Type 0 where
  pub few : length value ≤ 4096
  pub bytes : IsBytes value

abbrev pub IsSpelledWork : Work → Type 0
IsSpelledWork work.Read = Unit {0}
IsSpelledWork (work.Write value) = IsSpelledValue value
IsSpelledWork work.Get = Unit {0}
IsSpelledWork work.GetAny = Unit {0}
IsSpelledWork (work.Put value) = IsSpelledValue value
IsSpelledWork work.Move = Unit {0}

-- the sets of a table are the header's, each once, with policies that may be theirs
pub record IsSpelledTable (header : Header) (table : List SetPolicy) : Type 0 where
  pub exist : All (λ entry. entry.set.0 < length header.sets) table
  pub once : AllPairs (λ entry other. entry.set.0 ≢ other.set.0) table
  pub policies : All (λ entry. IsSpelledPolicy header.replicas entry.policy) table
  pub fit : All (λ entry. fits_set (map mode_of header.sets) entry ≡ true) table

-- numbers of 32 bits; a script delivers nothing
abbrev pub IsSpelledEvent : Form → Header → Event → Type 0
IsSpelledEvent form header (event.Start proxy key work) = (proxy < 2 ^ 32) × (key < 2 ^ 32) × IsSpelledWork work
IsSpelledEvent form.Plain header (event.Deliver message) = message < 2 ^ 32
IsSpelledEvent form.Script header (event.Deliver message) = ⊥
IsSpelledEvent form header (event.StopReplica replica) = replica < 2 ^ 32
IsSpelledEvent form header (event.StopProxy proxy) = proxy < 2 ^ 32
IsSpelledEvent form header (event.GiveUp proxy seq) = (proxy < 2 ^ 32) × (seq < 2 ^ 32)
IsSpelledEvent form header (event.Publish table) = IsSpelledTable header table

pub record IsSpellable (form : Form) (schedule : Schedule) : Type 0 where
  pub header : IsSpelledHeader schedule.header
  pub events : All (IsSpelledEvent form schedule.header) schedule.events
  pub few : length schedule.events ≤ 1000000

-- each spellable schedule is what its text says
abbrev pub SchedulesAreReadBack : Type 0
SchedulesAreReadBack = (form : Form) (schedule : Schedule) → IsSpellable form schedule → schedule_of form (schedule_text schedule) ≡ Ok schedule
