-- How planning ends.
use Rattle.std.specs.Prelude.{ℕ, Option, Some, None}
use Rattle.span_base.specs.declared.ids.SetId.{SetId}
use Rattle.span_base.specs.declared.sink.DeviceFault.{DeviceFault}
use Rattle.span_base.specs.declared.sink.DeviceFault.TheVariants as device
use Rattle.workload.specs.World.{Lists}
use Rattle.slo_rules.specs.Cost.{policy_cost}
use Rattle.placement.specs.Placement.{decoded}
use Rattle.branch_solver.specs.Best.{Best}
use Rattle.plan_text.specs.Parts.{Priced, Ending, complete, none_allowed, cut_off}
use Rattle.plan_text.specs.PlanText.{cost_of}
use Rattle.planner.specs.declared.ends.SetEnd.{SetEnd}
use Rattle.planner.specs.declared.ends.SetEnd.TheVariants as set_end
use Rattle.planner.specs.declared.ends.PlanEnd.{PlanEnd}
use Rattle.planner.specs.declared.ends.PlanEnd.TheVariants.{Complete, NoPolicy, Budget}
use Rattle.planner.specs.declared.ends.PlanFault.{PlanFault}
use Rattle.planner.specs.declared.ends.PlanFault.TheVariants.{WriteFault, NoMemory}

-- the fault of planning that a fault of the sink is
abbrev pub fault_of : DeviceFault → PlanFault
fault_of device.Failed = WriteFault
fault_of device.NoMemory = NoMemory

-- how planning a set ends whose part has this ending
abbrev pub set_end_of : Ending → SetEnd
set_end_of (complete cost policy) = set_end.Complete cost
set_end_of none_allowed = set_end.NoPolicy
set_end_of (cut_off found) = set_end.Budget (cost_of found)

-- how planning ends with one more set
abbrev pub end_with : PlanEnd → SetId → SetEnd → PlanEnd
end_with end set (set_end.Complete cost) = end
end_with Complete set set_end.NoPolicy = NoPolicy set
end_with (NoPolicy first) set set_end.NoPolicy = NoPolicy first
end_with (Budget first) set set_end.NoPolicy = Budget first
end_with Complete set (set_end.Budget best) = Budget set
end_with (NoPolicy first) set (set_end.Budget best) = Budget set
end_with (Budget first) set (set_end.Budget best) = Budget first

-- the policy that the best choice of a set's program is, with its cost
abbrev pub found_of : Lists → ℕ → Option Best → Option Priced
found_of w set None = None
found_of w set (Some best) = Some (record { cost = policy_cost w set (decoded w set best.x); policy = decoded w set best.x })
