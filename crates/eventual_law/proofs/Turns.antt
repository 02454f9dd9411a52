-- How a get comes to give a value, and that no move gives one.
use Rattle.std.proofs.Common.{◌≡◌, ℕ, Bool, true, false, List, refl, ap, ◌∙◌}
use Rattle.std.specs.Prelude.{max, if◌then◌else◌, Some}
use Rattle.span_base.specs.declared.ids.DcId.{DcId}
use Rattle.ticket_rules.specs.declared.stamp.Stamp.{Stamp}
use Rattle.wire_msg.specs.declared.tag.Tag.{Tag}
use Rattle.wire_msg.specs.declared.message.Message.{Message}
use Rattle.wire_msg.specs.declared.outputs.Reply.{Reply}
use Rattle.wire_msg.specs.Outputs.{Step}
use Rattle.wire_msg.specs.declared.message.Message.TheVariants as m
use Rattle.wire_msg.specs.declared.outputs.Reply.TheVariants as r
use Rattle.call_phase.specs.Counting.{counts, with_good, with_bad}
use Rattle.relay_proxy.specs.declared.stage.Stage.{Stage}
use Rattle.relay_proxy.specs.declared.stage.Stage.TheVariants as d
use Rattle.relay_proxy.specs.State.{State as Eventually}
use Rattle.relay_proxy.specs.Rule as eventual
use Rattle.migration.specs.Eventual.{eventual as eventual_rule}
use Rattle.migration.specs.Move.{Moving}
use Rattle.migration.specs.Move as move
use Rattle.register_law.proofs.MovesStep.{MoveTook, move_took, unheard, counts_own}

-- a get took a version that counted, and gives it
pub record Gives (call : Eventually) (taken : Message) (stamp : Stamp) (value : List ℕ) : Type 0 where
  pub tag : Tag
  pub replica : DcId
  pub mark : Stamp
  pub taken_is : taken ≡ m.Have tag replica stamp mark value
  pub own : call.phase.tag ≡ tag

one_end : (X : Type 0) (b : Bool) (one other : Step Eventually) (reply : Reply) → (b ≡ true → one.out.end ≡ Some reply → X) → (other.out.end ≡ Some reply → X) → (if b then one else other).out.end ≡ Some reply → X
one_end X true one other reply f g e = f refl e
one_end X false one other reply f g e = g e

have_gives : (stage : Stage) (call : Eventually) (tag : Tag) (replica : DcId) (version mark stamp : Stamp) (value given : List ℕ) → (eventual.on_have stage call tag replica version value).out.end ≡ Some (r.Value stamp given) → Gives call (m.Have tag replica version mark value) stamp given
have_gives d.Getting call tag replica version mark stamp value given e =
    one_end (Gives call (m.Have tag replica version mark value) stamp given) (counts call.phase tag replica) (eventual.ends call (r.Value version value)) (eventual.stays call) (r.Value stamp given)
    (λ c z. let a : version ≡ stamp = cc in let b : value ≡ given = cc in
    record { tag = tag; replica = replica; mark = mark; taken_is = ap (λ (x : Stamp). m.Have tag replica x mark value) a ∙ ap (λ (x : List ℕ). m.Have tag replica stamp mark x) b; own = counts_own call.phase tag replica c })
    (λ z. absurd (cc)) e
have_gives (d.Putting put) call tag replica version mark stamp value given e = absurd (cc)
have_gives d.Ended call tag replica version mark stamp value given e = absurd (cc)

yes_gives : (X : Type 0) (stage : Stage) (call : Eventually) (tag : Tag) (replica : DcId) (stamp : Stamp) (given : List ℕ) → (eventual.on_yes stage call tag replica).out.end ≡ Some (r.Value stamp given) → X
yes_gives X d.Getting call tag replica stamp given e = absurd (cc)
yes_gives X (d.Putting put) call tag replica stamp given e =
    one_end X (counts call.phase tag replica) (eventual.stored_at call replica put) (eventual.stays call) (r.Value stamp given)
    (λ _ z. one_end X (eventual.is_stored call.f (with_good call.phase replica)) (eventual.ends call (r.Stored put)) (eventual.goes_on call (with_good call.phase replica) call.gone) (r.Value stamp given) (λ _ y. absurd (cc)) (λ y. absurd (cc)) z) (λ z. absurd (cc)) e
yes_gives X d.Ended call tag replica stamp given e = absurd (cc)

gone_gives : (X : Type 0) (stage : Stage) (call : Eventually) (tag : Tag) (replica : DcId) (epoch : ℕ) (stamp : Stamp) (given : List ℕ) → (eventual.on_gone stage call tag replica epoch).out.end ≡ Some (r.Value stamp given) → X
gone_gives X d.Getting call tag replica epoch stamp given e =
    one_end X (counts call.phase tag replica) (eventual.refused_at call replica epoch) (eventual.stays call) (r.Value stamp given)
    (λ _ z. one_end X (eventual.all_refused (with_bad call.phase replica)) (eventual.moves call (max call.gone epoch)) (eventual.goes_on call (with_bad call.phase replica) (max call.gone epoch)) (r.Value stamp given) (λ _ y. absurd (cc)) (λ y. absurd (cc)) z)
    (λ z. absurd (cc)) e
gone_gives X (d.Putting put) call tag replica epoch stamp given e = one_end X (counts call.phase tag replica) (eventual.moves call epoch) (eventual.stays call) (r.Value stamp given) (λ _ z. absurd (cc)) (λ z. absurd (cc)) e
gone_gives X d.Ended call tag replica epoch stamp given e = absurd (cc)

pub gives : (call : Eventually) (taken : Message) (stamp : Stamp) (value : List ℕ) → (eventual.step call taken).out.end ≡ Some (r.Value stamp value) → Gives call taken stamp value
gives call (m.Have tag replica version mark held) stamp value e = have_gives call.stage call tag replica version mark stamp held value e
gives call (m.Yes tag replica) stamp value e = yes_gives (Gives call (m.Yes tag replica) stamp value) call.stage call tag replica stamp value e
gives call (m.Gone tag replica epoch) stamp value e = gone_gives (Gives call (m.Gone tag replica epoch) stamp value) call.stage call tag replica epoch stamp value e
gives call message stamp value e = absurd (cc)

-- no move gives a value
took_gives : (X : Type 0) (call : Moving) (taken : Message) (stamp : Stamp) (value : List ℕ) (new : Step Moving) → MoveTook eventual_rule call taken new → new.out.end ≡ Some (r.Value stamp value) → X
took_gives X call taken stamp value new unheard e = absurd (cc)
took_gives X call taken stamp value new _ e = absurd (cc)

pub no_move_gives : (X : Type 0) (call : Moving) (taken : Message) (stamp : Stamp) (value : List ℕ) → (move.step eventual_rule call taken).out.end ≡ Some (r.Value stamp value) → X
no_move_gives X call taken stamp value = took_gives X call taken stamp value (move.step eventual_rule call taken) (move_took eventual_rule call taken)
