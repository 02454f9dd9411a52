-- How much the requests of a phase are.
use Rattle.std.proofs.Common.{◌≡◌, ◌+◌, length, refl, arith}
use Rattle.std.specs.Prelude.{Option, Some, None}
use Rattle.span_base.specs.declared.ids.KeyId.{KeyId}
use Rattle.wire_msg.specs.declared.tag.Tag.{Tag}
use Rattle.wire_msg.specs.declared.message.Message.TheVariants as m
use Rattle.call_phase.specs.declared.best.Found.{Found}
use Rattle.strong_proxy.specs.declared.progress.Leg.{Leg}
use Rattle.strong_proxy.specs.declared.progress.Progress.{Progress}
use Rattle.strong_proxy.specs.declared.state.Work.{Work}
use Rattle.strong_proxy.specs.declared.state.Work.TheVariants.{ToRead, ToWrite}
use Rattle.strong_proxy.specs.declared.next.Next.{Next}
use Rattle.strong_proxy.specs.declared.next.Next.TheVariants.{Repair, Store, Stored, Look, Moved, Enter}
use Rattle.wire_msg.specs.Sizes.{bulk_of}
use Rattle.call_phase.proofs.Sent.{bulk_of-posts_to}
use Rattle.strong_proxy.specs.Parts.{first_bulk, repair_bulk, store_bulk, bulk_for}
use Rattle.strong_proxy.specs.Rule.{tag_after, first_posts, repair_posts, store_posts}
use Rattle.strong_proxy.specs.Parts.{posts_for}

bulk_of-first : (work : Work) (key : KeyId) (tag : Tag) (leg : Leg) → bulk_of (first_posts work key tag leg) ≡ first_bulk work leg
bulk_of-first ToRead key tag leg = bulk_of-posts_to leg.reads (m.Read tag key leg.epoch) 18 refl
bulk_of-first (ToWrite value) key tag leg = bulk_of-posts_to leg.writes (m.Ask tag key leg.ticket) 31 refl

bulk_of-repair : (best : Option Found) (p : Progress) → bulk_of (repair_posts best p) ≡ repair_bulk best p.leg.writes
bulk_of-repair None p = refl
bulk_of-repair (Some found) p =
    bulk_of-posts_to p.leg.writes (m.Repair (tag_after p) p.key p.leg.epoch found.stamp found.value) (37 + length found.value) (omega arith)

bulk_of-store : (work : Work) (p : Progress) → bulk_of (store_posts work p) ≡ store_bulk work p.leg.writes
bulk_of-store ToRead p = refl
bulk_of-store (ToWrite value) p = bulk_of-posts_to p.leg.writes (m.Store (tag_after p) p.key p.leg.ticket value) (33 + length value) (omega arith)

-- what a call sends next, before it is made
pub bulk_of-sent : (next : Next) (work : Work) (best : Option Found) (p : Progress) → bulk_of (posts_for next work best p) ≡ bulk_for next work best p
bulk_of-sent Repair work best p = bulk_of-repair best p
bulk_of-sent Store work best p = bulk_of-store work p
bulk_of-sent Stored work best p = bulk_of-posts_to p.leg.writes (m.Confirm (tag_after p) p.key p.leg.ticket) 31 refl
bulk_of-sent Look work best p = refl
bulk_of-sent Moved work best p = refl
bulk_of-sent (Enter leg) work best p = bulk_of-first work p.key (tag_after p) leg
bulk_of-sent _ work best p = refl
