use Rattle.std.proofs.Common.{◌≡◌, ℕ, ◌+◌, ◌-◌, ◌<◌, List, length, take, drop, get_or, slice_get, Some, ap, ◌∙◌, arith}
use Rattle.frame_link.specs.Frames.{Sent}
use Rattle.frame_link.specs.declared.frames.Entry.{Entry}
use Rattle.frame_link.proofs.RegionLaws.{none_at, found_at}
use Rattle.frame_link.proofs.frames.Frames.give.Goals as goal

pub returns-in-None-clause-gives : goal.returns-in-None-clause-gives
returns-in-None-clause-gives c =
    none_at c.self.inside.region.items c.self.inside.entries.items c.args.n (omega (arith, c.in-None.ensures.lookup.3, ap length c.deref.ensures.value))
    ∙ ap (λ (sent : List Sent). slice_get sent c.args.n) c.self.view_is

pub returns-in-Some-clause-gives : goal.returns-in-Some-clause-gives
returns-in-Some-clause-gives c =
    let entries = c.self.inside.entries.items in
    let entry : Entry = c.in-Some.entry.now in
    let within : c.args.n < length entries = omega (arith, c.in-Some.ensures.lookup.3.0, ap length c.deref.ensures.value) in
    let at : entry ≡ get_or entries c.args.n entry = cc (c.in-Some.ensures.lookup.1) in
    c.put_in.ensures.gives
    ∙ ap (λ (bytes : List ℕ). Some (record { to = entry.to; frame = take (entry.start + entry.len - entry.start) (drop entry.start bytes) })) c.deref-in-Some.ensures.value
    ∙ found_at c.self.inside.region.items entries c.args.n entry within at
    ∙ ap (λ (sent : List Sent). slice_get sent c.args.n) c.self.view_is
