-- The world after the last record.
use Rattle.std.proofs.Common.{◌≡◌, true, false, None, Some, Ok, Err, ◌∙◌, refl, sym, ap, length}
use Rattle.span_base.specs.declared.words.Cause.TheVariants as cause
use Rattle.price_tables.specs.Tables.{AreAllLinked}
use Rattle.workload.specs.declared.fault.Gap.{Gap}
use Rattle.workload.specs.declared.fault.Gap.TheVariants as gap
use Rattle.workload.specs.Gaps.{IsFirstGap, HaveMembersBefore}
use Rattle.workload.specs.World.{Lists, world_of}
use Rattle.world_text.specs.declared.fault.Fault.TheVariants.{Bad}
use Rattle.world_text.specs.declared.kinds.Version.{Version}
use Rattle.world_text.specs.declared.draft.Draft.{Draft}
use Rattle.world_text.specs.Steps.{IsDue}
use Rattle.world_text.specs.Faults.{gap_refusal}
use Rattle.world_text.specs.ReadWorld.{completed, world_in, all_linked, all_used}
use Rattle.world_text.proofs.Gaps.{linked, unlinked, used, unused}

pub no_version : (d : Draft) → d.version ≡ None → completed d ≡ Err (Bad cause.Version)
unfolding completed
no_version d none = ap (λ o. world_in o d) none

no_link : (d : Draft) (v : Version) → d.version ≡ Some v → all_linked d.tables ≡ false → completed d ≡ Err (Bad cause.Link)
unfolding completed
no_link d v some link = ap (λ o. world_in o d) some ∙ rw link refl

no_member : (d : Draft) (v : Version) → d.version ≡ Some v → all_linked d.tables ≡ true → all_used d.load ≡ false → completed d ≡ Err (Bad cause.Members)
unfolding completed
no_member d v some link used = ap (λ o. world_in o d) some ∙ rw (link, used) refl

-- the first gap is what the world is refused for
pub gap_due : (d : Draft) (v : Version) (g : Gap) → d.version ≡ Some v → IsFirstGap d.tables d.load g → IsDue (completed d) (gap_refusal g)
gap_due d v (gap.NoLink from to) some first = no_link d v some (unlinked d.tables from.0 to.0 first.from_within first.to_within first.unlinked)
gap_due d v (gap.NoMember set) some first = no_member d v some (linked d.tables first.linked) (unused d.load set.0 first.within first.empty)

-- without a gap the world is whole
pub whole_due : (d : Draft) (v : Version) (w : Lists) → d.version ≡ Some v → w ≡ world_of d.tables d.load → AreAllLinked d.tables → HaveMembersBefore d.load (length d.load) → completed d ≡ Ok w
unfolding completed
whole_due d v w some is all members = ap (λ o. world_in o d) some ∙ rw (linked d.tables all, used d.load members) (ap Ok (sym is))
