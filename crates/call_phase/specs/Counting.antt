-- Which answers count in a phase of a call, and how many are enough.
use Rattle.std.specs.Prelude.{ℕ, ◌+◌, Bool, ◌&&◌, not, ◌==◌, nat_le, nat_lt, length}
use Rattle.span_base.specs.declared.ids.DcId.{DcId}
use Rattle.span_base.specs.declared.dc_set.DcSet.{DcSet}
use Rattle.span_base.specs.DcSet.{has, insert, no_centre, centres_of}
use Rattle.wire_msg.specs.declared.tag.Tag.{Tag}
use Rattle.call_phase.specs.declared.phase.Phase.{Phase}

-- a phase in which no answer counted yet
abbrev pub opened : Tag → DcSet → Phase
opened tag asked = record { tag = tag; asked = asked; good = no_centre; bad = no_centre }

-- the two tags agree in every part
abbrev pub is_same_tag : Tag → Tag → Bool
is_same_tag a b =
    (a.call.proxy == b.call.proxy) && (a.call.seq == b.call.seq) && (a.slot == b.slot) && (a.generation == b.generation) && (a.phase == b.phase)

-- an answer of the directory, which has no replica, counts where its whole tag is the phase's
abbrev pub counts_without_replica : Phase → Tag → Bool
counts_without_replica phase tag = is_same_tag phase.tag tag

-- an answer counts where its whole tag is the phase's, its replica was asked, and that replica hasn't counted in this phase
abbrev pub counts : Phase → Tag → DcId → Bool
counts phase tag replica =
    is_same_tag phase.tag tag && has phase.asked replica.0 && not (has phase.good replica.0) && not (has phase.bad replica.0)

-- the phase after the replica did as it was asked
abbrev pub with_good : Phase → DcId → Phase
with_good phase replica = record { tag = phase.tag; asked = phase.asked; good = insert phase.good replica.0; bad = phase.bad }

-- the phase after the replica refused
abbrev pub with_bad : Phase → DcId → Phase
with_bad phase replica = record { tag = phase.tag; asked = phase.asked; good = phase.good; bad = insert phase.bad replica.0 }

-- all but at most f of the replicas asked did as they were asked
abbrev pub has_quorum : ℕ → Phase → Bool
has_quorum f phase = nat_le (length (centres_of phase.asked)) (length (centres_of phase.good) + f)

-- more than f replicas refused
abbrev pub is_lost : ℕ → Phase → Bool
is_lost f phase = nat_lt f (length (centres_of phase.bad))

-- the tag of the phase that follows
abbrev pub next_tag : Tag → Tag
next_tag tag = record { call = tag.call; slot = tag.slot; generation = tag.generation; phase = tag.phase + 1 }
