-- To whom a replica's posts go, of which key they speak, and how much they are.
use Rattle.std.proofs.Common.{ℕ, ◌≤◌, List, length, refl, subst, arith}
use Rattle.span_base.specs.DcSet.{centres_of}
use Rattle.span_base.proofs.Sets.{count_le, All-centres_of}
use Rattle.wire_msg.specs.declared.message.Message.{Message}
use Rattle.wire_msg.specs.declared.message.Message.TheVariants as m
use Rattle.wire_msg.specs.declared.outputs.Post.{Post}
use Rattle.wire_msg.specs.Lawful.{IsLawful}
use Rattle.wire_msg.specs.Posts.{tag_of, to_proxy, AreAnswersTo}
use Rattle.wire_msg.proofs.Sent.{no_answers, answer_to_proxy, answers_and_each}
use Rattle.replica_core.specs.declared.kept.Kept.{Kept}
use Rattle.replica_core.specs.declared.verdict.Verdict.{Verdict}
use Rattle.replica_core.specs.declared.verdict.Verdict.TheVariants.{Gone, Held, Yes, Have, Silent}
use Rattle.replica_core.specs.Answering.{gone, held, done, have, push_to, answers}
use Rattle.replica_core.specs.Verdict.{judged, posts_by}
use Rattle.replica_core.proofs.Judging.{posts_by_verdict}

-- a Yes alone
yes_is : (number : ℕ) (message : Message) → AreAnswersTo message (to_proxy (tag_of message) (done number (tag_of message)))
yes_is number message = answer_to_proxy message (done number (tag_of message)) tt (omega arith)

-- a Yes, and of a push what goes on
yes_are : (number : ℕ) (kept : Kept) (message : Message) → IsLawful message → AreAnswersTo message (posts_by Yes number kept message)
yes_are number kept (m.Push tag key stamp onward value) l =
    let bytes : length value ≤ 4096 = l.1.1.1.1.0 in
    answers_and_each (m.Push tag key stamp onward value) (done number tag) (push_to tag key stamp value) (centres_of onward) (count_le onward) tt (All-centres_of onward)
    (λ d. refl) 4131 (λ d. omega (arith, bytes)) (omega (arith, count_le onward))
yes_are number kept (m.Read tag key epoch) l = yes_is number (m.Read tag key epoch)
yes_are number kept (m.Ask tag key stamp) l = yes_is number (m.Ask tag key stamp)
yes_are number kept (m.Store tag key stamp value) l = yes_is number (m.Store tag key stamp value)
yes_are number kept (m.Repair tag key epoch stamp value) l = yes_is number (m.Repair tag key epoch stamp value)
yes_are number kept (m.Confirm tag key stamp) l = yes_is number (m.Confirm tag key stamp)
yes_are number kept (m.Freeze tag key epoch) l = yes_is number (m.Freeze tag key epoch)
yes_are number kept (m.Seed tag key epoch stamp value) l = yes_is number (m.Seed tag key epoch stamp value)
yes_are number kept message l = yes_is number message

posts_by_are : (verdict : Verdict) (number : ℕ) (kept : Kept) (message : Message) → length kept.value ≤ 4096 → IsLawful message → AreAnswersTo message (posts_by verdict number kept message)
posts_by_are Gone number kept message v l = answer_to_proxy message (gone number kept (tag_of message)) tt (omega arith)
posts_by_are Held number kept message v l = answer_to_proxy message (held number kept (tag_of message)) tt (omega arith)
posts_by_are Yes number kept message v l = yes_are number kept message l
posts_by_are Have number kept message v l = answer_to_proxy message (have number kept (tag_of message)) tt (omega (arith, v))
posts_by_are Silent number kept message v l = no_answers message

-- what a replica puts out for a lawful message
pub answers_are : (number : ℕ) (kept : Kept) (message : Message) → length kept.value ≤ 4096 → IsLawful message → AreAnswersTo message (answers number kept message)
answers_are number kept message v l =
    subst (λ (posts : List Post). AreAnswersTo message posts) (posts_by_verdict number kept message) (posts_by_are (judged kept message) number kept message v l)
