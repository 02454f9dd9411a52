use Rattle.std.proofs.Common.{refl, Ok}
use Rattle.std.proofs.lemmas.Result.{MatchResult-from_err}
use Rattle.planner.specs.declared.ends.SetEnd.TheVariants.{NoPolicy}
use Rattle.planner.proofs.Telling.{told_front}
use Rattle.planner.proofs.Searched.{set_is, line_is_no_end, found_is_some, complete_said, none_said, cut_said}
use Rattle.planner.proofs.part.write_ending.Goals as goal

pub unreachable-requires : goal.unreachable-requires
unreachable-requires g c = line_is_no_end _ _ _ _ _ c.requires.searched c.in-Line.is

pub write_complete-requires : goal.write_complete-requires
write_complete-requires g c = record {
  set = c.requires.set;
  best = c.requires.searched.stands.best;
  found = found_is_some _ _ _ _ _ _ c.requires.searched c.in-Found.is;
}

pub write_cut-requires : goal.write_cut-requires
write_cut-requires g c = record {
  set = c.requires.set;
  best = c.requires.searched.stands.best;
}

pub returns-in-Found-clause-part : goal.returns-in-Found-clause-part
returns-in-Found-clause-part g c searched from text said =
    complete_said c.args.world.now c.args.budget c.args.set.0 c.args.search.now c.args.end c.in-Found.cost from _ _ text c.write_complete.result
    (set_is _ _ c.centre_count-centres.ensures.complete c.centre_count-centres.ensures.named c.requires.set) searched c.in-Found.is c.write_complete.ensures.end
    (c.write_complete.ensures.tells from _ said)

pub returns-in_err-put_none-in-NoneThere-clause-part : goal.returns-in_err-put_none-in-NoneThere-clause-part
returns-in_err-put_none-in-NoneThere-clause-part g c searched from text said =
    none_said c.args.world.now c.args.budget c.args.set.0 c.args.search.now c.args.end from _ _ text c.from_residual.result
    (set_is _ _ c.centre_count-centres.ensures.complete c.centre_count-centres.ensures.named c.requires.set) searched c.in-NoneThere.is
    (MatchResult-from_err _ _ _ c.from_residual.ensures.0 (λ fault. tt))
    (told_front _ _ _ _ _ c.from_residual.ensures.0 (c.in_err-put_none-in-NoneThere.ensures.tells from _ said))

pub returns-in_ok-put_none-in-NoneThere-clause-part : goal.returns-in_ok-put_none-in-NoneThere-clause-part
returns-in_ok-put_none-in-NoneThere-clause-part g c searched from text said =
    none_said c.args.world.now c.args.budget c.args.set.0 c.args.search.now c.args.end from (g.K.Sink.taken c.put_none.new.out) c.put_none.new.self text (Ok NoPolicy)
    (set_is _ _ c.centre_count-centres.ensures.complete c.centre_count-centres.ensures.named c.requires.set) searched c.in-NoneThere.is
    refl
    (c.in_ok-put_none-in-NoneThere.ensures.tells from _ said)

pub returns-in-Budget-clause-part : goal.returns-in-Budget-clause-part
returns-in-Budget-clause-part g c searched from text said =
    cut_said c.args.world.now c.args.budget c.args.set.0 c.args.search.now c.args.end _ from _ _ text c.write_cut.result
    (set_is _ _ c.centre_count-centres.ensures.complete c.centre_count-centres.ensures.named c.requires.set) searched c.in-Budget.is c.write_cut.ensures.end
    (c.write_cut.ensures.tells from _ said)
