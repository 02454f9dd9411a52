use Rattle.std.proofs.Common.{◌^◌, ◌≤◌, ◌∙◌, ◌++◌, All, List, map, pos, sym, ap, subst}
use Rattle.std.specs.List.{filter}
use Rattle.zero_one.specs.declared.rows.Entry.{Entry}
use Rattle.zero_one.specs.declared.rows.Row.{Row}
use Rattle.machine_text.specs.Machines.{machine_of}
use Rattle.joint_placement.specs.Variables.{places}
use Rattle.joint_placement.specs.Capacity.{joint_loads, load_entry, digit_entry, is_load, capacity_row}
use Rattle.joint_placement.proofs.JointFits.{light-loads}
use Rattle.joint_placement.proofs.capacity.capacity_row.Goals as goal

pub load_entries-requires : goal.load_entries-requires
load_entries-requires c =
    let w = c.args.world.now in
    let fleet = c.args.machines.now in
    let same = c.as_slice.ensures.value ∙ c.in_ok-loads.ensures.loads ∙ ap (λ u. joint_loads w u c.args.dc.0) c.unit.ensures.unit in
    subst (All (λ load. load.1 ≤ 10 ^ 7)) (sym same) (light-loads w fleet c.args.dc.0 (10 ^ 7) c.requires.light)

pub returns : goal.returns
unfolding capacity_row
returns c =
    let w = c.args.world.now in
    let fleet = c.args.machines.now in
    let same = c.as_slice.ensures.value ∙ c.in_ok-loads.ensures.loads ∙ ap (λ u. joint_loads w u c.args.dc.0) c.unit.ensures.unit in
    let loads : List Entry = map load_entry (filter is_load (joint_loads w fleet.unit c.args.dc.0)) in
    let m = c.machine.result in
    ap (λ es. let r : Row = record { entries = es; bound = pos 0 } in r)
    (c.from_vec.ensures
    ∙ c.in_ok-push_digit_entries.ensures
    ∙ ap (λ es. es ++ map (digit_entry c.args.first m) (places m)) (c.in_ok-entries.ensures ∙ ap (λ ls. map load_entry (filter is_load ls)) same)
    ∙ ap (λ n. loads ++ map (digit_entry c.args.first n) (places n)) c.machine.ensures.machine
    ∙ ap (λ f. loads ++ map (digit_entry f (machine_of fleet c.args.dc.0)) (places (machine_of fleet c.args.dc.0))) c.requires.first)
