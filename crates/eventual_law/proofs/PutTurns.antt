-- How a put goes on at a message, and how it comes to its end.
use Rattle.std.proofs.Common.{◌≡◌, ℕ, ◌+◌, Bool, true, false, List, refl, ap, ◌∙◌}
use Rattle.std.specs.Prelude.{nat_le, max, length, if◌then◌else◌, Some}
use Rattle.span_base.specs.DcSet.{centres_of}
use Rattle.span_base.specs.declared.ids.DcId.{DcId}
use Rattle.ticket_rules.specs.declared.stamp.Stamp.{Stamp}
use Rattle.wire_msg.specs.declared.tag.Tag.{Tag}
use Rattle.wire_msg.specs.declared.message.Message.{Message}
use Rattle.wire_msg.specs.Outputs.{Step}
use Rattle.wire_msg.specs.declared.message.Message.TheVariants as m
use Rattle.wire_msg.specs.declared.outputs.Reply.TheVariants as r
use Rattle.call_phase.specs.Counting.{counts, with_good, with_bad}
use Rattle.relay_proxy.specs.declared.stage.Stage.{Stage}
use Rattle.relay_proxy.specs.declared.stage.Stage.TheVariants as d
use Rattle.relay_proxy.specs.State.{State as Eventually}
use Rattle.relay_proxy.specs.Rule as eventual

-- a Yes counts for a put
pub record Counts (call : Eventually) (message : Message) (ticket : Stamp) (replica : DcId) : Type 0 where
  pub stage_is : call.stage ≡ d.Putting ticket
  pub tag : Tag
  pub message_is : message ≡ m.Yes tag replica
  pub counted : counts call.phase tag replica ≡ true

-- a put is what it was, or has one more that counted
pub data PutIs (call : Eventually) (message : Message) (new : Eventually) (ticket : Stamp) : Type 0 where
  as_before : new ≡ call → PutIs call message new ticket
  one_counts : (replica : DcId) → Counts call message ticket replica → new ≡ (eventual.goes_on call (with_good call.phase replica) call.gone).state → PutIs call message new ticket

-- what the stage says after the step
abbrev Puts : Eventually → Message → Stamp → Step Eventually → Type 0
Puts call message ticket x = x.state.stage ≡ d.Putting ticket → PutIs call message x.state ticket

either : (call : Eventually) (message : Message) (ticket : Stamp) (b : Bool) (one other : Step Eventually) → (b ≡ true → Puts call message ticket one) → Puts call message ticket other → Puts call message ticket (if b then one else other)
either call message ticket true one other f h = f refl
either call message ticket false one other f h = h

ended_puts : (call : Eventually) (message : Message) (ticket : Stamp) (x : Step Eventually) → x.state.stage ≡ d.Ended → Puts call message ticket x
ended_puts call message ticket x ended e = absurd (cc)

have_puts : (stage : Stage) (call : Eventually) (message : Message) (ticket : Stamp) (tag : Tag) (replica : DcId) (version : Stamp) (value : List ℕ) → Puts call message ticket (eventual.on_have stage call tag replica version value)
have_puts d.Getting call message ticket tag replica version value =
    either call message ticket (counts call.phase tag replica) (eventual.ends call (r.Value version value)) (eventual.stays call) (λ _. ended_puts call message ticket (eventual.ends call (r.Value version value)) refl) (λ _. as_before refl)
have_puts (d.Putting stamp) call message ticket tag replica version value = λ _. as_before refl
have_puts d.Ended call message ticket tag replica version value = λ _. as_before refl

yes_puts : (stage : Stage) (call : Eventually) (ticket : Stamp) (tag : Tag) (replica : DcId) → call.stage ≡ stage → Puts call (m.Yes tag replica) ticket (eventual.on_yes stage call tag replica)
yes_puts d.Getting call ticket tag replica is = λ _. as_before refl
yes_puts (d.Putting stamp) call ticket tag replica is =
    either call (m.Yes tag replica) ticket (counts call.phase tag replica) (eventual.stored_at call replica stamp) (eventual.stays call)
    (λ c. either call (m.Yes tag replica) ticket (eventual.is_stored call.f (with_good call.phase replica)) (eventual.ends call (r.Stored stamp)) (eventual.goes_on call (with_good call.phase replica) call.gone)
    (λ _. ended_puts call (m.Yes tag replica) ticket (eventual.ends call (r.Stored stamp)) refl)
    (λ e. one_counts replica (record { stage_is = e; tag = tag; message_is = refl; counted = c }) refl))
    (λ _. as_before refl)
yes_puts d.Ended call ticket tag replica is = λ _. as_before refl

gone_puts : (stage : Stage) (call : Eventually) (ticket : Stamp) (tag : Tag) (replica : DcId) (epoch : ℕ) → call.stage ≡ stage → Puts call (m.Gone tag replica epoch) ticket (eventual.on_gone stage call tag replica epoch)
gone_puts d.Getting call ticket tag replica epoch is =
    either call (m.Gone tag replica epoch) ticket (counts call.phase tag replica) (eventual.refused_at call replica epoch) (eventual.stays call)
    (λ c. either call (m.Gone tag replica epoch) ticket (eventual.all_refused (with_bad call.phase replica)) (eventual.moves call (max call.gone epoch)) (eventual.goes_on call (with_bad call.phase replica) (max call.gone epoch))
    (λ _. ended_puts call (m.Gone tag replica epoch) ticket (eventual.moves call (max call.gone epoch)) refl) (λ e. absurd (getting_puts call ticket is e)))
    (λ _. as_before refl)
  where
    getting_puts : (x : Eventually) (t : Stamp) → x.stage ≡ d.Getting → x.stage ≡ d.Putting t → ⊥
    getting_puts x t a b = absurd (cc)
gone_puts (d.Putting stamp) call ticket tag replica epoch is =
    either call (m.Gone tag replica epoch) ticket (counts call.phase tag replica) (eventual.moves call epoch) (eventual.stays call) (λ _. ended_puts call (m.Gone tag replica epoch) ticket (eventual.moves call epoch) refl) (λ _. as_before refl)
gone_puts d.Ended call ticket tag replica epoch is = λ _. as_before refl

pub put_is : (call : Eventually) (message : Message) (ticket : Stamp) → (eventual.step call message).state.stage ≡ d.Putting ticket → PutIs call message (eventual.step call message).state ticket
put_is call (m.Have tag replica version mark value) ticket e = have_puts call.stage call (m.Have tag replica version mark value) ticket tag replica version value e
put_is call (m.Yes tag replica) ticket e = yes_puts call.stage call ticket tag replica refl e
put_is call (m.Gone tag replica epoch) ticket e = gone_puts call.stage call ticket tag replica epoch refl e
put_is call message ticket e = as_before refl

-- a Yes counted, and with it enough
pub record Stores (call : Eventually) (message : Message) (ticket : Stamp) : Type 0 where
  pub replica : DcId
  pub last : Counts call message ticket replica
  pub enough : nat_le (call.f + 1) (length (centres_of (with_good call.phase replica).good)) ≡ true

-- what the end says
abbrev StoresAt : Eventually → Message → Stamp → Step Eventually → Type 0
StoresAt call message ticket x = x.out.end ≡ Some (r.Stored ticket) → Stores call message ticket

either_stores : (call : Eventually) (message : Message) (ticket : Stamp) (b : Bool) (one other : Step Eventually) → (b ≡ true → StoresAt call message ticket one) → StoresAt call message ticket other → StoresAt call message ticket (if b then one else other)
either_stores call message ticket true one other f h = f refl
either_stores call message ticket false one other f h = h

have_stores : (stage : Stage) (call : Eventually) (message : Message) (ticket : Stamp) (tag : Tag) (replica : DcId) (version : Stamp) (value : List ℕ) → StoresAt call message ticket (eventual.on_have stage call tag replica version value)
have_stores d.Getting call message ticket tag replica version value =
    either_stores call message ticket (counts call.phase tag replica) (eventual.ends call (r.Value version value)) (eventual.stays call) (λ _ e. absurd (cc)) (λ e. absurd (cc))
have_stores (d.Putting stamp) call message ticket tag replica version value = λ e. absurd (cc)
have_stores d.Ended call message ticket tag replica version value = λ e. absurd (cc)

stored_same : (a b : Stamp) → Some (r.Stored a) ≡ Some (r.Stored b) → a ≡ b
stored_same a b e = cc

yes_stores : (stage : Stage) (call : Eventually) (ticket : Stamp) (tag : Tag) (replica : DcId) → call.stage ≡ stage → StoresAt call (m.Yes tag replica) ticket (eventual.on_yes stage call tag replica)
yes_stores d.Getting call ticket tag replica is = λ e. absurd (cc)
yes_stores (d.Putting stamp) call ticket tag replica is =
    either_stores call (m.Yes tag replica) ticket (counts call.phase tag replica) (eventual.stored_at call replica stamp) (eventual.stays call)
    (λ c. either_stores call (m.Yes tag replica) ticket (eventual.is_stored call.f (with_good call.phase replica)) (eventual.ends call (r.Stored stamp)) (eventual.goes_on call (with_good call.phase replica) call.gone)
    (λ enough e. record { replica = replica; last = record { stage_is = is ∙ ap d.Putting (stored_same stamp ticket e); tag = tag; message_is = refl; counted = c }; enough = enough })
    (λ e. absurd (cc)))
    (λ e. absurd (cc))
yes_stores d.Ended call ticket tag replica is = λ e. absurd (cc)

gone_stores : (stage : Stage) (call : Eventually) (message : Message) (ticket : Stamp) (tag : Tag) (replica : DcId) (epoch : ℕ) → StoresAt call message ticket (eventual.on_gone stage call tag replica epoch)
gone_stores d.Getting call message ticket tag replica epoch =
    either_stores call message ticket (counts call.phase tag replica) (eventual.refused_at call replica epoch) (eventual.stays call)
    (λ c. either_stores call message ticket (eventual.all_refused (with_bad call.phase replica)) (eventual.moves call (max call.gone epoch)) (eventual.goes_on call (with_bad call.phase replica) (max call.gone epoch)) (λ _ e. absurd (cc)) (λ e. absurd (cc)))
    (λ e. absurd (cc))
gone_stores (d.Putting stamp) call message ticket tag replica epoch = either_stores call message ticket (counts call.phase tag replica) (eventual.moves call epoch) (eventual.stays call) (λ _ e. absurd (cc)) (λ e. absurd (cc))
gone_stores d.Ended call message ticket tag replica epoch = λ e. absurd (cc)

-- how a put comes to be answered
pub stores : (call : Eventually) (message : Message) (ticket : Stamp) → (eventual.step call message).out.end ≡ Some (r.Stored ticket) → Stores call message ticket
stores call (m.Have tag replica version mark value) ticket e = have_stores call.stage call (m.Have tag replica version mark value) ticket tag replica version value e
stores call (m.Yes tag replica) ticket e = yes_stores call.stage call ticket tag replica refl e
stores call (m.Gone tag replica epoch) ticket e = gone_stores call.stage call (m.Gone tag replica epoch) ticket tag replica epoch e
stores call message ticket e = absurd (cc)
