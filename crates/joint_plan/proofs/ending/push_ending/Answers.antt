use Rattle.std.proofs.Common.{string_bytes}
use Rattle.joint_placement.specs.Programs.{joint_program}
use Rattle.joint_plan.proofs.Adding.{line_is_no_end, found_is_some, complete_ends, none_ends, cut_ends}
use Rattle.joint_plan.proofs.ending.push_ending.Goals as goal

pub returns-in-Found : goal.returns-in-Found
returns-in-Found c = record {
  adds = complete_ends c.args.world.now c.args.machines.now c.args.budget c.args.search.now c.args.end c.in-Found.cost (string_bytes c.args.text.now) (string_bytes c.push_complete.new.text) c.push_complete.result
      c.centre_count-centres.ensures.complete c.centre_count-centres.ensures.named c.in-Found.is c.push_complete.ensures.adds;
}

pub returns-in_ok-push_none-in-NoneThere : goal.returns-in_ok-push_none-in-NoneThere
returns-in_ok-push_none-in-NoneThere c = record {
  adds = none_ends c.args.world.now c.args.machines.now c.args.budget c.args.search.now c.args.end (string_bytes c.args.text.now) (string_bytes c.push_none.new.text)
      c.centre_count-centres.ensures.complete c.centre_count-centres.ensures.named c.in-NoneThere.is c.in_ok-push_none-in-NoneThere.ensures;
}

pub returns-in-Budget : goal.returns-in-Budget
returns-in-Budget c = record {
  adds = cut_ends c.args.world.now c.args.machines.now c.args.budget c.args.search.now c.args.end _ (string_bytes c.args.text.now) (string_bytes c.push_cut_off.new.text) c.push_cut_off.result
      c.centre_count-centres.ensures.complete c.centre_count-centres.ensures.named c.in-Budget.is c.push_cut_off.ensures.adds;
}

pub unreachable-requires : goal.unreachable-requires
unreachable-requires c = line_is_no_end (joint_program c.args.world.now c.args.machines.now) c.args.budget c.args.search.now c.args.end c.requires.searched c.in-Line.is

pub push_complete-requires : goal.push_complete-requires
push_complete-requires c = record {
  limits = c.requires.searched.limits;
  best = c.requires.searched.stands.best;
  found = found_is_some (joint_program c.args.world.now c.args.machines.now) c.args.budget c.args.search.now c.args.end c.in-Found.cost c.requires.searched c.in-Found.is;
}
