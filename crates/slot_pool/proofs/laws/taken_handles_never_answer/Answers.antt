use Rattle.slot_pool.specs.Calls.{opening}
use Rattle.slot_pool.proofs.LawLemmas.{generations_rise, gone_for_good, gone_never_next, taken_for_good}
use Rattle.slot_pool.proofs.HistoryLemmas.{IsTrueTo-calls, IsTrueTo-opening, recorded_all-slots}
use Rattle.slot_pool.proofs.laws.taken_handles_never_answer.Goals as goal

pub returns-clause-finite_map : goal.returns-clause-finite_map
returns-clause-finite_map g c =
    λ capacity first calls handle. (IsTrueTo-calls calls (opening capacity first) (IsTrueTo-opening capacity first)).map handle

pub returns-clause-slots : goal.returns-clause-slots
returns-clause-slots g c = λ capacity first calls. recorded_all-slots calls (opening capacity first)

pub returns-clause-given_once : goal.returns-clause-given_once
returns-clause-given_once g c =
    λ capacity first calls. (IsTrueTo-calls calls (opening capacity first) (IsTrueTo-opening capacity first)).once

pub returns-clause-generations : goal.returns-clause-generations
returns-clause-generations g c = λ slots calls number. generations_rise slots calls number

pub returns-clause-gone : goal.returns-clause-gone
returns-clause-gone g c = λ slots calls handle gone. gone_for_good slots calls handle gone

pub returns-clause-never_again : goal.returns-clause-never_again
returns-clause-never_again g c = λ slots calls handle gone next. gone_never_next slots calls handle gone next

pub returns-clause-taken : goal.returns-clause-taken
returns-clause-taken g c = λ slots calls handle live. taken_for_good slots calls handle live
