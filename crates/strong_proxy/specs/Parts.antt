-- Of no concern to a reader of the rule: the parts of `done` one by one, and how much is sent, for the contracts of the functions that make them. That they are those of `done` is proved.
use Rattle.std.specs.Prelude.{◌+◌, length, [], List, Option, Some, None}
use Rattle.std.specs.Option.{option_map}
use Rattle.span_base.specs.declared.dc_set.DcSet.{DcSet}
use Rattle.ticket_rules.specs.declared.stamp.Stamp.{Stamp}
use Rattle.wire_msg.specs.declared.outputs.Post.{Post}
use Rattle.wire_msg.specs.declared.outputs.Reply.{Reply}
use Rattle.wire_msg.specs.declared.outputs.Reply.TheVariants as r
use Rattle.wire_msg.specs.declared.outputs.Bulk.{Bulk}
use Rattle.wire_msg.specs.Bulks.{no_bulk, bulk_of_one, bulk_to}
use Rattle.call_phase.specs.declared.best.Found.{Found}
use Rattle.strong_proxy.specs.declared.progress.Leg.{Leg}
use Rattle.strong_proxy.specs.declared.progress.Progress.{Progress}
use Rattle.strong_proxy.specs.declared.state.Work.{Work}
use Rattle.strong_proxy.specs.declared.state.Work.TheVariants.{ToRead, ToWrite}
use Rattle.strong_proxy.specs.declared.next.Next.{Next}
use Rattle.strong_proxy.specs.declared.next.Next.TheVariants.{Wait, Value, Repair, Store, Stored, Fenced, Unsure, Look, Moved, Outside, NumbersOut, Enter}
use Rattle.strong_proxy.specs.Rule.{tag_after, first_posts, repair_posts, store_posts, confirm_posts, lookup_posts, value_reply, leg_ticket, seconded, looking, ended, entered}

-- what is sent
abbrev pub posts_for : Next → Work → Option Found → Progress → List Post
posts_for Repair work best p = repair_posts best p
posts_for Store work best p = store_posts work p
posts_for Stored work best p = confirm_posts p
posts_for Look work best p = lookup_posts p
posts_for Moved work best p = lookup_posts p
posts_for (Enter leg) work best p = first_posts work p.key (tag_after p) leg
posts_for _ work best p = []

-- how the call ends, where it does
abbrev pub end_for : Next → Option Found → Progress → Option Reply
end_for Value best p = option_map value_reply best
end_for Stored best p = Some (r.Stored p.leg.ticket)
end_for Fenced best p = Some (r.Fenced p.top_held)
end_for Unsure best p = Some r.Unsure
end_for Moved best p = Some (r.Moved p.top_gone)
end_for Outside best p = Some r.Outside
end_for NumbersOut best p = Some r.NumbersOut
end_for _ best p = None

-- the ticket that is made
abbrev pub ticket_for : Next → Work → Option Stamp
ticket_for (Enter leg) work = leg_ticket work leg
ticket_for _ work = None

-- how far the call is afterwards
abbrev pub progress_for : Next → Work → Progress → Progress
progress_for Wait work p = p
progress_for Repair work p = seconded p
progress_for Store work p = seconded p
progress_for Look work p = looking p
progress_for (Enter leg) work p = entered work leg p
progress_for _ work p = ended p

-- the greatest version afterwards
abbrev pub best_for : Next → Option Found → Option Found
best_for Value best = None
best_for (Enter leg) best = None
best_for _ best = best

-- the first phase of a leg
abbrev pub first_bulk : Work → Leg → Bulk
first_bulk ToRead leg = bulk_to leg.reads 18
first_bulk (ToWrite value) leg = bulk_to leg.writes 31

-- the second phase of a read
abbrev pub repair_bulk : Option Found → DcSet → Bulk
repair_bulk None writes = no_bulk
repair_bulk (Some found) writes = bulk_to writes (37 + length found.value)

-- the second phase of a write
abbrev pub store_bulk : Work → DcSet → Bulk
store_bulk ToRead writes = no_bulk
store_bulk (ToWrite value) writes = bulk_to writes (33 + length value)

-- what a call sends next
abbrev pub bulk_for : Next → Work → Option Found → Progress → Bulk
bulk_for Repair work best p = repair_bulk best p.leg.writes
bulk_for Store work best p = store_bulk work p.leg.writes
bulk_for Stored work best p = bulk_to p.leg.writes 31
bulk_for Look work best p = bulk_of_one 14
bulk_for Moved work best p = bulk_of_one 14
bulk_for (Enter leg) work best p = first_bulk work leg
bulk_for _ work best p = no_bulk
