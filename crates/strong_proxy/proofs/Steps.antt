-- A call's step: the call stays in its ranges, and what is put out is lawful and for those who are asked.
use Rattle.std.proofs.Common.{◌≡◌, ℕ, ◌≤◌, refl, sym, subst, arith, lit<, lit≤}
use Rattle.std.specs.Prelude.{IfSome}
use Rattle.span_base.specs.declared.ids.DcId.{DcId}
use Rattle.span_base.specs.declared.ids.KeyId.{KeyId}
use Rattle.wire_msg.specs.declared.tag.Tag.{Tag}
use Rattle.wire_msg.specs.declared.message.Message.{Message}
use Rattle.wire_msg.specs.declared.outputs.View.{View}
use Rattle.wire_msg.specs.Outputs.{Step}
use Rattle.wire_msg.specs.Lawful.{IsLawful, AreLawful, IsLawfulTag, IsLawfulKey, IsLawfulStamp, IsLawfulReply}
use Rattle.wire_msg.specs.Posts.{ArePostsOf}
use Rattle.strong_proxy.specs.declared.progress.Leg.{Leg}
use Rattle.strong_proxy.specs.declared.progress.Progress.{Progress}
use Rattle.strong_proxy.specs.declared.state.Work.{Work}
use Rattle.strong_proxy.specs.declared.state.Work.TheVariants.{ToRead, ToWrite}
use Rattle.strong_proxy.specs.declared.state.CallState.{CallState}
use Rattle.strong_proxy.specs.declared.next.Next.{Next}
use Rattle.strong_proxy.specs.declared.next.Next.TheVariants.{Wait, Value, Repair, Store, Stored, Fenced, Unsure, Look, Moved, Outside, NumbersOut, Enter}
use Rattle.strong_proxy.specs.Counting.{counted}
use Rattle.strong_proxy.specs.Rule.{leg_replicas, done, next_of, best_stamp, opened_with}
use Rattle.strong_proxy.specs.Lawful.{work_bytes}
use Rattle.strong_proxy.specs.Parts.{ticket_for, progress_for}
use Rattle.strong_proxy.proofs.Rows.{by_parts, done_parts}
use Rattle.strong_proxy.proofs.Ranges.{AreLawfulParts, Fits, counted_lawful, verdict_at-fits, progress_for-lawful, best_for-lawful, end_for-lawful}
use Rattle.strong_proxy.proofs.Sendable.{first_posts-lawful, posts_for-lawful}
use Rattle.strong_proxy.proofs.Addressed.{first_are, posts_for-are}

ticket_for-lawful : (next : Next) (work : Work) (p : Progress) → Fits p next → IfSome (ticket_for next work) IsLawfulStamp
ticket_for-lawful (Enter leg) ToRead p f = tt
ticket_for-lawful (Enter leg) (ToWrite value) p f = f.2
ticket_for-lawful _ work p f = tt

progress_for-key : (next : Next) (work : Work) (p : Progress) → (progress_for next work p).key ≡ p.key
progress_for-key Wait work p = refl
progress_for-key Value work p = refl
progress_for-key Repair work p = refl
progress_for-key Store work p = refl
progress_for-key Stored work p = refl
progress_for-key Fenced work p = refl
progress_for-key Unsure work p = refl
progress_for-key Look work p = refl
progress_for-key Moved work p = refl
progress_for-key Outside work p = refl
progress_for-key NumbersOut work p = refl
progress_for-key (Enter leg) work p = refl

-- a call in its ranges, and lawful posts and a lawful reply
pub record IsLawfulStep (s : Step CallState) : Type 0 where
  pub call : AreLawfulParts s.state
  pub posts : AreLawful s.out.posts
  pub ticket : IfSome s.out.ticket IsLawfulStamp
  pub reply : IfSome s.out.end IsLawfulReply
  pub sent : ArePostsOf s.state.progress.key (leg_replicas s.state.progress.leg) s.out.posts

parts_lawful : (next : Next) (call : CallState) → AreLawfulParts call → Fits call.progress next → IsLawfulStep (by_parts next call)
parts_lawful next call h f = record {
  call = record { progress = progress_for-lawful next call.work call.progress h.progress f; work = h.work; best = best_for-lawful next call.best h.best };
  posts = posts_for-lawful next call.work call.best call.progress h.progress h.work h.best f;
  ticket = ticket_for-lawful next call.work call.progress f;
  reply = end_for-lawful next call.best call.progress h.progress h.best;
  sent = rw (progress_for-key next call.work call.progress) (posts_for-are next call.work call.best call.progress h.work h.best.bytes);
}

done_lawful : (next : Next) (call : CallState) → AreLawfulParts call → Fits call.progress next → IsLawfulStep (done next call)
done_lawful next call h f = subst (λ (s : Step CallState). IsLawfulStep s) (sym (done_parts next call)) (parts_lawful next call h f)

-- a lawful answer taken by a call in its ranges
pub answer_lawful : (call : CallState) (message : Message) (view : View) (seen : ℕ) → AreLawfulParts call → IsLawful message → 1 ≤ view.epoch → IsLawfulStep (done (next_of (counted call message) view seen) (counted call message))
answer_lawful call message view seen h l e =
    let now : CallState = counted call message in
    let lawful : AreLawfulParts now = counted_lawful call message h l in
    done_lawful (next_of now view seen) now lawful
    (verdict_at-fits now.progress.stage now.work (best_stamp now.best) now.progress view seen lawful.progress.phases lawful.progress.tag e)

-- a call that opens
pub opened_with-lawful : (work : Work) (tag : Tag) (at : DcId) (key : KeyId) (leg : Leg) → IsLawfulTag tag → tag.phase ≡ 1 → IsLawfulKey key → 1 ≤ leg.epoch → IsLawfulStamp leg.ticket → work_bytes work ≤ 4096 → IsLawfulStep (opened_with work tag at key leg)
opened_with-lawful work tag at key leg t one k e s w = record {
  call = record {
    progress = record { tag = t; key = k; epoch = e; ticket = s; held = lit< tt; lookups = lit≤ tt; phases = omega (arith, one) };
    work = w;
    best = record { bytes = lit≤ tt; proxy = lit< tt };
  };
  posts = first_posts-lawful work key tag leg k t e s;
  ticket = tt;
  reply = tt;
  sent = first_are work key tag leg;
}
