-- To whom a call's posts go, of which key they speak, and how much they are.
use Rattle.std.proofs.Common.{◌≡◌, ℕ, ◌≤◌, true, false, IsTrue, ◌||◌, refl, arith}
use Rattle.std.specs.Prelude.{Option, Some, None}
use Rattle.span_base.specs.declared.ids.KeyId.{KeyId}
use Rattle.span_base.specs.DcSet.{has}
use Rattle.span_base.proofs.Sets.{has-join}
use Rattle.wire_msg.specs.declared.tag.Tag.{Tag}
use Rattle.wire_msg.specs.declared.message.Message.{Message}
use Rattle.wire_msg.specs.declared.message.Message.TheVariants as m
use Rattle.wire_msg.specs.Sizes.{frame_size}
use Rattle.wire_msg.specs.Posts.{key_of, ArePostsOf}
use Rattle.wire_msg.proofs.Sent.{no_posts, posts_to_directory, posts_within}
use Rattle.call_phase.specs.declared.best.Found.{Found}
use Rattle.call_phase.specs.Requests.{posts_to}
use Rattle.call_phase.proofs.Sent.{posts_to-of_key}
use Rattle.strong_proxy.specs.declared.progress.Leg.{Leg}
use Rattle.strong_proxy.specs.declared.progress.Progress.{Progress}
use Rattle.strong_proxy.specs.declared.state.Work.{Work}
use Rattle.strong_proxy.specs.declared.state.Work.TheVariants.{ToRead, ToWrite}
use Rattle.strong_proxy.specs.declared.next.Next.{Next}
use Rattle.strong_proxy.specs.declared.next.Next.TheVariants.{Repair, Store, Stored, Look, Moved, Enter}
use Rattle.strong_proxy.specs.Rule.{leg_replicas, tag_after, first_posts, repair_posts, store_posts}
use Rattle.strong_proxy.specs.Lawful.{work_bytes, found_bytes}
use Rattle.strong_proxy.specs.Parts.{posts_for, progress_for}

among_reads : (leg : Leg) (d : ℕ) → IsTrue (has leg.reads d) → IsTrue (has (leg_replicas leg) d)
among_reads leg d asked = rw (has-join leg.reads leg.writes d, asked) refl

among_writes : (leg : Leg) (d : ℕ) → IsTrue (has leg.writes d) → IsTrue (has (leg_replicas leg) d)
among_writes leg d asked = rw (has-join leg.reads leg.writes d, asked) (either (has leg.reads d))
  where
    either : (b : _) → IsTrue (b || true)
    either true = refl
    either false = refl

-- a request to the read set, and one to the write set
to_reads : (key : KeyId) (leg : Leg) (message : Message) → key_of message ≡ Some key → frame_size message ≤ 4133 → ArePostsOf key (leg_replicas leg) (posts_to leg.reads message)
to_reads key leg message of_key small = posts_within key leg.reads (leg_replicas leg) (posts_to leg.reads message) (among_reads leg) (posts_to-of_key key leg.reads message of_key small)

to_writes : (key : KeyId) (leg : Leg) (message : Message) → key_of message ≡ Some key → frame_size message ≤ 4133 → ArePostsOf key (leg_replicas leg) (posts_to leg.writes message)
to_writes key leg message of_key small = posts_within key leg.writes (leg_replicas leg) (posts_to leg.writes message) (among_writes leg) (posts_to-of_key key leg.writes message of_key small)

pub first_are : (work : Work) (key : KeyId) (tag : Tag) (leg : Leg) → ArePostsOf key (leg_replicas leg) (first_posts work key tag leg)
first_are ToRead key tag leg = to_reads key leg (m.Read tag key leg.epoch) refl (omega arith)
first_are (ToWrite value) key tag leg = to_writes key leg (m.Ask tag key leg.ticket) refl (omega arith)

repair_are : (best : Option Found) (p : Progress) → found_bytes best ≤ 4096 → ArePostsOf p.key (leg_replicas p.leg) (repair_posts best p)
repair_are None p short = no_posts p.key (leg_replicas p.leg)
repair_are (Some found) p short =
    to_writes p.key p.leg (m.Repair (tag_after p) p.key p.leg.epoch found.stamp found.value) refl (omega (arith, short))

store_are : (work : Work) (p : Progress) → work_bytes work ≤ 4096 → ArePostsOf p.key (leg_replicas p.leg) (store_posts work p)
store_are ToRead p short = no_posts p.key (leg_replicas p.leg)
store_are (ToWrite value) p short = to_writes p.key p.leg (m.Store (tag_after p) p.key p.leg.ticket value) refl (omega (arith, short))

lookup_are : (p : Progress) → ArePostsOf p.key (leg_replicas p.leg) (posts_for Look ToRead None p)
lookup_are p = posts_to_directory p.key (leg_replicas p.leg) (m.Lookup (tag_after p) p.key) refl (omega arith)

-- what a call sends next
pub posts_for-are : (next : Next) (work : Work) (best : Option Found) (p : Progress) → work_bytes work ≤ 4096 → found_bytes best ≤ 4096 → ArePostsOf p.key (leg_replicas (progress_for next work p).leg) (posts_for next work best p)
posts_for-are Repair work best p w b = repair_are best p b
posts_for-are Store work best p w b = store_are work p w
posts_for-are Stored work best p w b = to_writes p.key p.leg (m.Confirm (tag_after p) p.key p.leg.ticket) refl (omega arith)
posts_for-are Look work best p w b = lookup_are p
posts_for-are Moved work best p w b = lookup_are p
posts_for-are (Enter leg) work best p w b = first_are work p.key (tag_after p) leg
posts_for-are _ work best p w b = no_posts p.key (leg_replicas p.leg)
