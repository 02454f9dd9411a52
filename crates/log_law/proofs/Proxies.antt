-- What a proxy knows after a message fits, where the message does.
use Rattle.std.proofs.Common.{inl, inr, ℕ, ◌+◌, ◌≤◌, List, sym, subst, arith}
use Rattle.std.specs.Prelude.{nat_lt, slice_set, Option, Some, None}
use Rattle.ticket_rules.specs.declared.stamp.Stamp.{Stamp}
use Rattle.wire_msg.specs.declared.message.Message.{Message}
use Rattle.wire_msg.specs.declared.message.Message.TheVariants as m
use Rattle.wire_msg.specs.declared.outputs.View.{View}
use Rattle.world_core.specs.State.{Proxy, no_view, view_at}
use Rattle.world_core.specs.Knowing.{seen_after, views_after, learned}
use Rattle.world_core.specs.Step.{seen_with, views_with}
use Rattle.register_law.proofs.Kept.{set_cases}
use Rattle.log_law.specs.Fits.{FitsEpoch, FitsMessage}
use Rattle.log_law.specs.Within.{FitViews, FitsProxy}
use Rattle.log_law.proofs.Basics.{chosen, FitsTicket, FitsShown}

seen_fits : (seen : ℕ) (message : Message) → FitsMessage message → seen ≤ 18446744073709551615 → seen_after seen message ≤ 18446744073709551615
seen_fits seen (m.Have tag replica version mark value) f s = let v = f.0.number in let k = f.1.number in omega (arith, v, k, s)
seen_fits seen (m.Held tag replica stamp) f s = let n = f.number in omega (arith, n, s)
seen_fits seen _ f s = s

set_views : (views : List View) (view : View) (at : ℕ) → FitsEpoch view.epoch → FitViews views → FitViews (slice_set views at view)
set_views views view at f v key = elim (set_cases views at key.0 view no_view) as (λ _. FitsEpoch (view_at (slice_set views at view) key).epoch) [
  | inl e ↦ subst (λ (x : View). FitsEpoch x.epoch) (sym e) (v key)
  | inr e ↦ subst (λ (x : View). FitsEpoch x.epoch) (sym e.1) f
]

views_fit : (views : List View) (message : Message) → FitsMessage message → FitViews views → FitViews (views_after views message)
views_fit views (m.Here tag key epoch policy latest_epoch latest_policy) f v =
    chosen FitViews (nat_lt (view_at views key).epoch epoch) (slice_set views key.0 (record { key = key; epoch = epoch; policy = policy })) views (set_views views (record { key = key; epoch = epoch; policy = policy }) key.0 f.0 v) v
views_fit views _ f v = v

pub learned_fits : (events : ℕ) (proxy : Proxy) (message : Message) → FitsMessage message → FitsProxy events proxy → FitsProxy events (learned proxy message)
learned_fits events proxy message f p = record { begun = p.begun; seen = seen_fits proxy.seen message f p.seen; views = views_fit proxy.views message f p.views }

pub drawn_seen : (seen : ℕ) (ticket : Option Stamp) → FitsTicket ticket → seen ≤ 18446744073709551615 → seen_with seen ticket ≤ 18446744073709551615
drawn_seen seen None f s = s
drawn_seen seen (Some ticket) f s = f.number

pub shown_views : (views : List View) (shown : Option View) → FitsShown shown → FitViews views → FitViews (views_with views shown)
shown_views views None f v = v
shown_views views (Some view) f v = set_views views view view.key.0 f v

pub more_events : (events : ℕ) (proxy : Proxy) → FitsProxy events proxy → FitsProxy (events + 1) proxy
more_events events proxy p = let b = p.begun in record { begun = omega (arith, b); seen = p.seen; views = p.views }
