-- Where a check of an accepted plan's file can stop.
use Rattle.std.proofs.Common.{ℕ, ◌≤◌, inl, inr, List, length, Some}
use Rattle.span_base.specs.Files.{Files}
use Rattle.workload.specs.World.{Lists, IsComplete, IsNamed}
use Rattle.plan_text.specs.Parts.{Part}
use Rattle.plan_text.specs.Plans.{EachPart}
use Rattle.plan_check.specs.declared.fault.CheckFault.{CheckFault}
use Rattle.plan_check.specs.Checks.{IsShownPart}
use Rattle.plan_check.specs.Plans.{StopsBehind, at_start, in_part, at_end}
use Rattle.plan_check.proofs.Following.{IsOutsideFault, IsSoundFile}
use Rattle.plan_check.proofs.Complete.{stops_first, stops_last}
use Rattle.plan_check.proofs.NextSet.{stops_set}
use Rattle.plan_check.proofs.NextPolicy.{stops_policy_not}
use Rattle.plan_check.proofs.NextNode.{stops_tree}

pub stops_outside : (w : Lists) → IsComplete w → IsNamed w → (files : Files) (name : List ℕ) (all parts : List Part) (fault : CheckFault) → IsSoundFile w files name all
    → length parts ≤ length w.sets → EachPart (IsShownPart w) parts → StopsBehind w (Some files) name parts fault → IsOutsideFault fault
stops_outside w whole named files name all parts fault plan few shown (at_start none met) = stops_first w files name all fault plan met
stops_outside w whole named files name all parts fault plan few shown (in_part there (inl set)) = stops_set w files name all parts fault whole named plan there shown set
stops_outside w whole named files name all parts fault plan few shown (in_part there (inr (limits, inl tree))) =
    stops_tree w files name all parts tree.0 fault whole named plan there shown limits tree.1
stops_outside w whole named files name all parts fault plan few shown (in_part there (inr (limits, inr (tree, cost, low, stops)))) =
    stops_policy_not w files name all parts tree cost fault whole named plan there shown limits low stops
stops_outside w whole named files name all parts fault plan few shown (at_end full ends) = stops_last w files name all parts fault whole named plan full shown ends
