-- What a call sends is lawful.
use Rattle.std.proofs.Common.{◌≤◌, [], arith}
use Rattle.std.specs.Prelude.{Option, Some, None}
use Rattle.std.proofs.lemmas.List.Elements.{All-cons}
use Rattle.span_base.specs.declared.ids.KeyId.{KeyId}
use Rattle.wire_msg.specs.declared.tag.Tag.{Tag}
use Rattle.wire_msg.specs.declared.actor.Actor.TheVariants.{Directory}
use Rattle.wire_msg.specs.declared.message.Message.TheVariants as m
use Rattle.wire_msg.specs.declared.outputs.Post.{Post}
use Rattle.wire_msg.specs.Lawful.{IsLawful, AreLawful, IsLawfulTag, IsLawfulKey, IsLawfulStamp}
use Rattle.call_phase.specs.declared.best.Found.{Found}
use Rattle.call_phase.proofs.Sent.{posts_to-lawful}
use Rattle.strong_proxy.specs.declared.progress.Leg.{Leg}
use Rattle.strong_proxy.specs.declared.progress.Progress.{Progress}
use Rattle.strong_proxy.specs.declared.state.Work.{Work}
use Rattle.strong_proxy.specs.declared.state.Work.TheVariants.{ToRead, ToWrite}
use Rattle.strong_proxy.specs.declared.next.Next.{Next}
use Rattle.strong_proxy.specs.declared.next.Next.TheVariants.{Repair, Store, Stored, Look, Moved, Enter}
use Rattle.strong_proxy.specs.Rule.{tag_after, first_posts, repair_posts, store_posts, confirm_posts, lookup_posts}
use Rattle.strong_proxy.specs.Lawful.{work_bytes, IsLawfulProgress}
use Rattle.strong_proxy.specs.Parts.{posts_for}
use Rattle.strong_proxy.proofs.Ranges.{IsLawfulBest, Fits, next_tag-lawful}

none_lawful : AreLawful []
none_lawful = λ k d lt. absurd (omega arith)

tag_after-lawful : (p : Progress) → IsLawfulProgress p → IsLawfulTag (tag_after p)
tag_after-lawful p h = next_tag-lawful p.phase.tag h.tag

lookup_posts-lawful : (p : Progress) → IsLawfulProgress p → AreLawful (lookup_posts p)
lookup_posts-lawful p h =
    All-cons (λ (post : Post). IsLawful post.message) (record { to = Directory; message = m.Lookup (tag_after p) p.key }) [] (tag_after-lawful p h, (h.key, tt)) none_lawful

pub first_posts-lawful : (work : Work) (key : KeyId) (tag : Tag) (leg : Leg) → IsLawfulKey key → IsLawfulTag tag → 1 ≤ leg.epoch → IsLawfulStamp leg.ticket → AreLawful (first_posts work key tag leg)
first_posts-lawful ToRead key tag leg k t e s = posts_to-lawful leg.reads (m.Read tag key leg.epoch) (t, (k, (e, tt)))
first_posts-lawful (ToWrite value) key tag leg k t e s = posts_to-lawful leg.writes (m.Ask tag key leg.ticket) (t, (k, (s, tt)))

repair_posts-lawful : (best : Option Found) (p : Progress) → IsLawfulBest best → IsLawfulProgress p → AreLawful (repair_posts best p)
repair_posts-lawful None p b h = none_lawful
repair_posts-lawful (Some found) p b h =
    posts_to-lawful p.leg.writes (m.Repair (tag_after p) p.key p.leg.epoch found.stamp found.value) (tag_after-lawful p h, (h.key, (h.epoch, (b.proxy, (b.bytes, tt)))))

store_posts-lawful : (work : Work) (p : Progress) → work_bytes work ≤ 4096 → IsLawfulProgress p → AreLawful (store_posts work p)
store_posts-lawful ToRead p w h = none_lawful
store_posts-lawful (ToWrite value) p w h = posts_to-lawful p.leg.writes (m.Store (tag_after p) p.key p.leg.ticket value) (tag_after-lawful p h, (h.key, (h.ticket, (w, tt))))

confirm_posts-lawful : (p : Progress) → IsLawfulProgress p → AreLawful (confirm_posts p)
confirm_posts-lawful p h = posts_to-lawful p.leg.writes (m.Confirm (tag_after p) p.key p.leg.ticket) (tag_after-lawful p h, (h.key, (h.ticket, tt)))

pub posts_for-lawful : (next : Next) (work : Work) (best : Option Found) (p : Progress) → IsLawfulProgress p → work_bytes work ≤ 4096 → IsLawfulBest best → Fits p next → AreLawful (posts_for next work best p)
posts_for-lawful Repair work best p h w b f = repair_posts-lawful best p b h
posts_for-lawful Store work best p h w b f = store_posts-lawful work p w h
posts_for-lawful Stored work best p h w b f = confirm_posts-lawful p h
posts_for-lawful Look work best p h w b f = lookup_posts-lawful p h
posts_for-lawful Moved work best p h w b f = lookup_posts-lawful p h
posts_for-lawful (Enter leg) work best p h w b f = first_posts-lawful work p.key (tag_after p) leg h.key (tag_after-lawful p h) f.1 f.2
posts_for-lawful _ work best p h w b f = none_lawful
