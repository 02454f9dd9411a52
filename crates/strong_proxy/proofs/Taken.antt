-- What holds after a call opened or took an answer.
use Rattle.std.proofs.Common.{◌≡◌, ℕ, ◌≤◌, true, refl, sym, ap, subst, ◌∙◌}
use Rattle.std.specs.Prelude.{Option, Some, None, IfSome, Result, Ok, Err, OnOk, OnErr, is_some, not, ◌&&◌}
use Rattle.std.specs.Option.{option_map}
use Rattle.span_base.specs.declared.ids.DcId.{DcId}
use Rattle.span_base.specs.declared.ids.KeyId.{KeyId}
use Rattle.span_base.specs.declared.policy.Quorum.{Quorum}
use Rattle.ticket_rules.specs.declared.stamp.Stamp.{Stamp}
use Rattle.wire_msg.specs.declared.tag.Tag.{Tag}
use Rattle.wire_msg.specs.declared.message.Message.{Message}
use Rattle.wire_msg.specs.declared.outputs.View.{View}
use Rattle.wire_msg.specs.declared.outputs.Outputs.{Outputs}
use Rattle.wire_msg.specs.Outputs.{Step}
use Rattle.wire_msg.specs.Posts.{ArePostsOf}
use Rattle.wire_msg.specs.Lawful.{IsLawful, AreLawful, IsLawfulTag, IsLawfulStamp, IsLawfulReply, IsLawfulView}
use Rattle.strong_proxy.specs.declared.state.Work.{Work}
use Rattle.strong_proxy.specs.declared.state.CallState.{CallState}
use Rattle.strong_proxy.specs.declared.next.Next.{Next}
use Rattle.strong_proxy.specs.declared.next.Next.TheVariants.{Wait, Value, Repair, Store, Stored, Fenced, Unsure, Look, Moved, Outside, NumbersOut, Enter}
use Rattle.span_base.specs.PolicyParts.{member_of}
use Rattle.strong_proxy.specs.Rule.{leg_under}
use Rattle.strong_proxy.specs.Counting.{is_counted, counted}
use Rattle.strong_proxy.specs.Rule.{leg_replicas, done, next_of, opened_with, opened_as}
use Rattle.strong_proxy.specs.Lawful.{has_ended, KeepsBest, work_bytes, IsLawfulCall}
use Rattle.strong_proxy.proofs.Ranges.{AreLawfulParts}
use Rattle.strong_proxy.proofs.Steps.{IsLawfulStep, answer_lawful, opened_with-lawful}
use Rattle.strong_proxy.proofs.Asked.{AsksItsSet, answer_asks}
use Rattle.strong_proxy.proofs.Endings.{answer_keeps, answer_ends, progress_after-key}

whole : (call : CallState) → AreLawfulParts call → KeepsBest call → AsksItsSet call.progress → IsLawfulCall call
whole call h k a = record { progress = h.progress; work = h.work; found = h.best.bytes; proxy = h.best.proxy; kept = k; asked = a }

parts : (call : CallState) → IsLawfulCall call → AreLawfulParts call
parts call h = record { progress = h.progress; work = h.work; best = record { bytes = h.found; proxy = h.proxy } }

-- what a call opens with
pub record IsOpened (view : View) (s : Step CallState) : Type 0 where
  pub call : IsLawfulCall s.state
  pub posts : AreLawful s.out.posts
  pub sent : ArePostsOf view.key (leg_replicas s.state.progress.leg) s.out.posts
  pub key : s.state.progress.key ≡ view.key

opened_at : (member : Option Quorum) (work : Work) (ticket : Stamp) (tag : Tag) (at : DcId) (view : View) (s : Step CallState) → option_map (λ member. opened_with work tag at view.key (leg_under view member ticket)) member ≡ Some s → IsLawfulTag tag → tag.phase ≡ 1 → IsLawfulView view → IsLawfulStamp ticket → work_bytes work ≤ 4096 → IsOpened view s
opened_at None work ticket tag at view s is t one v k w = absurd (cc)
opened_at (Some member) work ticket tag at view s is t one v k w =
    let same : opened_with work tag at view.key (leg_under view member ticket) ≡ s = cc in
    let lawful : IsLawfulStep (opened_with work tag at view.key (leg_under view member ticket)) = opened_with-lawful work tag at view.key (leg_under view member ticket) t one v.key v.epoch k w in
    let opened : IsOpened view (opened_with work tag at view.key (leg_under view member ticket)) = record { call = whole (opened_with work tag at view.key (leg_under view member ticket)).state lawful.call refl refl; posts = lawful.posts; sent = lawful.sent; key = refl } in
    subst (λ (x : Step CallState). IsOpened view x) same opened

pub opened_lawful : (work : Work) (ticket : Stamp) (tag : Tag) (at : DcId) (view : View) (s : Step CallState) → opened_as work ticket tag at view ≡ Some s → IsLawfulTag tag → tag.phase ≡ 1 → IsLawfulView view → IsLawfulStamp ticket → work_bytes work ≤ 4096 → IsOpened view s
unfolding opened_as
opened_lawful work ticket tag at view s is t one v k w = opened_at (member_of view.policy at.0) work ticket tag at view s is t one v k w

-- from one message to the next
pub record Goes (old new : CallState) (out : Outputs) : Type 0 where
  pub call : IsLawfulCall new
  pub posts : AreLawful out.posts
  pub ticket : IfSome out.ticket IsLawfulStamp
  pub reply : IfSome out.end IsLawfulReply
  pub sent : ArePostsOf old.progress.key (leg_replicas new.progress.leg) out.posts
  pub key : new.progress.key ≡ old.progress.key
  pub ends : is_some out.end ≡ (has_ended new.progress.stage && not (has_ended old.progress.stage))

done_key : (next : Next) (call : CallState) → (done next call).state.progress.key ≡ call.progress.key
done_key Wait call = refl
done_key Value call = refl
done_key Repair call = refl
done_key Store call = refl
done_key Stored call = refl
done_key Fenced call = refl
done_key Unsure call = refl
done_key Look call = refl
done_key Moved call = refl
done_key Outside call = refl
done_key NumbersOut call = refl
done_key (Enter leg) call = refl

-- the step of an answer that counts
abbrev answered : CallState → Message → View → ℕ → Step CallState
answered call message view seen = done (next_of (counted call message) view seen) (counted call message)

answer_goes : (call : CallState) (message : Message) (view : View) (seen : ℕ) → IsLawfulCall call → IsLawful message → IsLawfulView view → is_counted call message ≡ true → Goes call (answered call message view seen).state (answered call message view seen).out
answer_goes call message view seen h l v is =
    let lawful : IsLawfulStep (answered call message view seen) = answer_lawful call message view seen (parts call h) l v.epoch in
    let same : (answered call message view seen).state.progress.key ≡ call.progress.key = done_key (next_of (counted call message) view seen) (counted call message) ∙ progress_after-key call.progress message in
    record {
      call = whole (answered call message view seen).state lawful.call (answer_keeps call message view seen h.kept) (answer_asks call message view seen h.asked);
      posts = lawful.posts;
      ticket = lawful.ticket;
      reply = lawful.reply;
      sent = subst (λ (key : KeyId). ArePostsOf key (leg_replicas (answered call message view seen).state.progress.leg) (answered call message view seen).out.posts) same lawful.sent;
      key = same;
      ends = answer_ends call message view seen h.kept is;
    }

-- after an answer that a call took, or couldn't take
pub record IsTaken {T E : Type 0} (result : Result T E) (old new : CallState) (out : Outputs) : Type 0 where
  pub call : IsLawfulCall new
  pub lawful : OnOk result (AreLawful out.posts × IfSome out.ticket IsLawfulStamp × IfSome out.end IsLawfulReply)
  pub sent : OnOk result (ArePostsOf old.progress.key (leg_replicas new.progress.leg) out.posts)
  pub key : new.progress.key ≡ old.progress.key
  pub ends : OnOk result (is_some out.end ≡ (has_ended new.progress.stage && not (has_ended old.progress.stage)))

taken_so : {T E : Type 0} (result : Result T E) (old new : CallState) (was out : Outputs) (s : Step CallState) → OnOk result (record { state = new; out = out } ≡ s) → OnErr result ((new ≡ old) × (out ≡ was)) → IsLawfulCall old → Goes old s.state s.out → IsTaken result old new out
taken_so (Ok x) old new was out s ok err h g =
    let goes : Goes old new out = subst (λ (t : Step CallState). Goes old t.state t.out) (sym ok) g in
    record { call = goes.call; lawful = (goes.posts, goes.ticket, goes.reply); sent = goes.sent; key = goes.key; ends = goes.ends }
taken_so (Err x) old new was out s ok err h g =
    record { call = subst (λ (call : CallState). IsLawfulCall call) (sym err.0) h; lawful = tt; sent = tt; key = ap (λ (call : CallState). call.progress.key) err.0; ends = tt }

pub taken : {T E : Type 0} (result : Result T E) (old new : CallState) (was out : Outputs) (message : Message) (view : View) (seen : ℕ) → OnOk result (record { state = new; out = out } ≡ done (next_of (counted old message) view seen) (counted old message)) → OnErr result ((new ≡ old) × (out ≡ was)) → IsLawfulCall old → IsLawful message → IsLawfulView view → is_counted old message ≡ true → IsTaken result old new out
taken result old new was out message view seen ok err h l v is =
    taken_so result old new was out (answered old message view seen) ok err h (answer_goes old message view seen h l v is)
