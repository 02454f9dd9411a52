-- The greater of two stamps, versions and epochs fits where both do.
use Rattle.std.proofs.Common.{ℕ, Bool, true, false, List, [], arith}
use Rattle.std.specs.Prelude.{if◌then◌else◌, max, Option, Some, None}
use Rattle.std.specs.Ordering.{is_gt}
use Rattle.ticket_rules.specs.declared.stamp.Stamp.{Stamp}
use Rattle.ticket_rules.specs.Stamp.{stamp_cmp, stamp_zero, greater}
use Rattle.wire_msg.specs.declared.outputs.Reply.{Reply}
use Rattle.wire_msg.specs.declared.outputs.View.{View}
use Rattle.wire_msg.specs.declared.outputs.Outputs.{Outputs}
use Rattle.wire_msg.specs.declared.outputs.Post.{Post}
use Rattle.wire_msg.specs.Outputs.{nothing_out, only_posts}
use Rattle.call_phase.specs.declared.best.Found.{Found}
use Rattle.call_phase.specs.Best.{better}
use Rattle.register_law.proofs.Basics.{Each, each_none}
use Rattle.history_audit.specs.Ranges.{FitsStamp, FitsValue, FitsReply}
use Rattle.log_law.specs.Fits.{FitsEpoch, FitsMessage, FitsFound}

pub zero_fits : FitsStamp stamp_zero
zero_fits = record { epoch = omega arith; number = omega arith; proxy = omega arith; seq = omega arith }

pub empty_fits : FitsValue []
empty_fits = record { few = omega arith; bytes = λ i. omega arith }

pub chosen : {X : Type 0} → (P : X → Type 0) (b : Bool) (one other : X) → P one → P other → P (if b then one else other)
chosen {X} P true one other h k = h
chosen {X} P false one other h k = k

pub greater_fits : (a b : Stamp) → FitsStamp a → FitsStamp b → FitsStamp (greater a b)
greater_fits a b h k = chosen FitsStamp (is_gt (stamp_cmp b a)) b a k h

pub better_fits : (best : Option Found) (stamp : Stamp) (value : List ℕ) → FitsFound best → FitsStamp stamp → FitsValue value → FitsFound (better best stamp value)
better_fits None stamp value h s v = (s, v)
better_fits (Some found) stamp value h s v = chosen FitsFound (is_gt (stamp_cmp stamp found.stamp)) (Some (record { stamp = stamp; value = value })) (Some found) (s, v) h

pub max_fits : (a b : ℕ) → FitsEpoch a → FitsEpoch b → FitsEpoch (max a b)
max_fits a b h k = omega (arith, h, k)

-- what an actor puts out
abbrev pub FitsTicket : Option Stamp → Type 0
FitsTicket None = Unit {0}
FitsTicket (Some stamp) = FitsStamp stamp

abbrev pub FitsShown : Option View → Type 0
FitsShown None = Unit {0}
FitsShown (Some view) = FitsEpoch view.epoch

abbrev pub FitsEnd : Option Reply → Type 0
FitsEnd None = Unit {0}
FitsEnd (Some reply) = FitsReply reply

pub record FitsOut (out : Outputs) : Type 0 where
  pub posts : Each FitsMessage out.posts
  pub ticket : FitsTicket out.ticket
  pub shown : FitsShown out.view
  pub end : FitsEnd out.end

pub nothing_fits : FitsOut nothing_out
nothing_fits = record { posts = each_none FitsMessage; ticket = tt; shown = tt; end = tt }

pub posts_fit : (posts : List Post) → Each FitsMessage posts → FitsOut (only_posts posts)
posts_fit posts h = record { posts = h; ticket = tt; shown = tt; end = tt }

-- how a call ends that sends nothing
pub end_fits : (o : Option Reply) → FitsEnd o → FitsOut (record { posts = []; ticket = None; view = None; end = o })
end_fits o h = record { posts = each_none FitsMessage; ticket = tt; shown = tt; end = h }
