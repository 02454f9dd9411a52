use Rattle.std.proofs.Common.{ℕ, ◌≡◌, ◌<◌, length, ap, ◌∙◌, subst, inl, inr}
use Rattle.std.proofs.lemmas.Result.{err_from_is_err_and}
use Rattle.std.specs.Prelude.{Option, Some, Ok, Err}
use Rattle.zero_one.specs.Contents.{Contents}
use Rattle.placement.specs.Placement.{program_of, IsSet}
use Rattle.zero_one.specs.Program.{IsWithinLimits}
use Rattle.plan_check.specs.declared.tree.Claim.{Claim}
use Rattle.plan_check.specs.Places.{program_at}
use Rattle.plan_check.specs.Parts.{ReadsTree, ReadsPolicy}
use Rattle.plan_check.proofs.NextParts.{tree_of, tree_at, policy_at, part_complete, part_none}
use Rattle.plan_check.proofs.part.read_part.Goals as goal

pub returns-in_err-read_set-clause-reads : goal.returns-in_err-read_set-clause-reads
returns-in_err-read_set-clause-reads g c = (λ parts set_is first.
    let w = c.args.world.now in
    let program_is : c.in_ok-program.program ≡ program_at w parts = c.in_ok-program.ensures ∙ ap (program_of w) set_is in
    let variables_is = ap length c.costs-variables.ensures.costs ∙ ap (λ (q : Contents). length q.costs) program_is in
    let p = err_from_is_err_and c.from_residual-in_err-read_set.result c.from_residual-in_err-read_set.ensures.1 in
    rw (p.1, p.2) (inl (c.in_err-read_set.ensures.reads parts set_is variables_is first)))

pub returns-in_err-claim-clause-reads : goal.returns-in_err-claim-clause-reads
returns-in_err-claim-clause-reads g c = (λ parts set_is first.
    let w = c.args.world.now in
    let files = g.S.Shelf.files c.args.shelf.now in
    let name = c.args.name.now in
    let program_is : c.in_ok-program.program ≡ program_at w parts = c.in_ok-program.ensures ∙ ap (program_of w) set_is in
    let variables_is = ap length c.costs-variables.ensures.costs ∙ ap (λ (q : Contents). length q.costs) program_is in
    let read = c.in_ok-read_set.ensures.reads parts set_is variables_is first in
    let files_1 = g.S.Shelf.files c.read_set.new.shelf in
    let same_1 : files_1 ≡ files = c.in_ok-read_set.ensures.files_stay in
    let fault = c.in_err-claim.field-0.0 in
    let p = err_from_is_err_and c.from_residual-in_err-claim.result c.from_residual-in_err-claim.ensures.1 in
    let stops : ReadsTree w files name parts c.read_tree.new.lines (Err fault) =
    tree_at w files files_1 name parts c.read_set.new.lines c.read_tree.new.lines (Err fault) same_1 (tree_of w c.in_ok-program.program files_1 name parts c.read_set.new.lines c.read_tree.new.lines (Err fault) program_is c.in_err-claim.ensures.reads) read in
    let limits : IsWithinLimits (program_at w parts) = subst IsWithinLimits program_is c.costs-variables.ensures.within in
    rw (p.1, p.2) (inr (limits, inl stops)))

pub returns-in_err-read_policy-in-Some-clause-reads : goal.returns-in_err-read_policy-in-Some-clause-reads
returns-in_err-read_policy-in-Some-clause-reads g c = (λ parts set_is first.
    let w = c.args.world.now in
    let files = g.S.Shelf.files c.args.shelf.now in
    let name = c.args.name.now in
    let program_is : c.in_ok-program.program ≡ program_at w parts = c.in_ok-program.ensures ∙ ap (program_of w) set_is in
    let variables_is = ap length c.costs-variables.ensures.costs ∙ ap (λ (q : Contents). length q.costs) program_is in
    let read = c.in_ok-read_set.ensures.reads parts set_is variables_is first in
    let files_1 = g.S.Shelf.files c.read_set.new.shelf in
    let same_1 : files_1 ≡ files = c.in_ok-read_set.ensures.files_stay in
    let found : ReadsTree w files name parts c.read_tree.new.lines (Ok c.in_ok-claim.field-0) =
    tree_at w files files_1 name parts c.read_set.new.lines c.read_tree.new.lines (Ok c.in_ok-claim.field-0) same_1 (tree_of w c.in_ok-program.program files_1 name parts c.read_set.new.lines c.read_tree.new.lines (Ok c.in_ok-claim.field-0) program_is c.in_ok-claim.ensures.reads) read in
    let claim = c.in-Some.claim in
    let files_2 = g.S.Shelf.files c.read_tree.new.shelf in
    let same_2 : files_2 ≡ files = c.in_ok-claim.ensures.files_stay ∙ same_1 in
    let tree : ReadsTree w files name parts c.read_tree.new.lines (Ok (Some claim)) =
    subst (λ (o : Option Claim). ReadsTree w files name parts c.read_tree.new.lines (Ok o)) c.in-Some.is found in
    let fault = c.in_err-read_policy-in-Some.field-0.0 in
    let p = err_from_is_err_and c.from_residual-in_err-read_policy-in-Some.result c.from_residual-in_err-read_policy-in-Some.ensures.1 in
    let stops : ReadsPolicy w files name parts tree.0 claim.cost c.read_policy.new.lines (Err fault) =
    policy_at w files files_2 name parts tree.0 claim.cost c.read_tree.new.lines c.read_policy.new.lines (Err fault) same_2
    (c.in_err-read_policy-in-Some.ensures.reads parts tree.0 set_is tree.2 tree.3) tree.4 in
    let limits : IsWithinLimits (program_at w parts) = subst IsWithinLimits program_is c.costs-variables.ensures.within in
    rw (p.1, p.2) (inr (limits, inr (tree.0, claim.cost, tree.1, stops))))

pub returns-in-Some-clause-reads : goal.returns-in-Some-clause-reads
returns-in-Some-clause-reads g c = (λ parts set_is first.
    let w = c.args.world.now in
    let files = g.S.Shelf.files c.args.shelf.now in
    let name = c.args.name.now in
    let program_is : c.in_ok-program.program ≡ program_at w parts = c.in_ok-program.ensures ∙ ap (program_of w) set_is in
    let variables_is = ap length c.costs-variables.ensures.costs ∙ ap (λ (q : Contents). length q.costs) program_is in
    let read = c.in_ok-read_set.ensures.reads parts set_is variables_is first in
    let files_1 = g.S.Shelf.files c.read_set.new.shelf in
    let same_1 : files_1 ≡ files = c.in_ok-read_set.ensures.files_stay in
    let found : ReadsTree w files name parts c.read_tree.new.lines (Ok c.in_ok-claim.field-0) =
    tree_at w files files_1 name parts c.read_set.new.lines c.read_tree.new.lines (Ok c.in_ok-claim.field-0) same_1 (tree_of w c.in_ok-program.program files_1 name parts c.read_set.new.lines c.read_tree.new.lines (Ok c.in_ok-claim.field-0) program_is c.in_ok-claim.ensures.reads) read in
    let claim = c.in-Some.claim in
    let files_2 = g.S.Shelf.files c.read_tree.new.shelf in
    let same_2 : files_2 ≡ files = c.in_ok-claim.ensures.files_stay ∙ same_1 in
    let tree : ReadsTree w files name parts c.read_tree.new.lines (Ok (Some claim)) =
    subst (λ (o : Option Claim). ReadsTree w files name parts c.read_tree.new.lines (Ok o)) c.in-Some.is found in
    let policy : ReadsPolicy w files name parts tree.0 claim.cost c.read_policy.new.lines (Ok tt) =
    policy_at w files files_2 name parts tree.0 claim.cost c.read_tree.new.lines c.read_policy.new.lines (Ok tt) same_2
    (c.in_ok-read_policy-in-Some.ensures.reads parts tree.0 set_is tree.2 tree.3) tree.4 in
    let there = subst (λ (n : ℕ). n < length w.sets) set_is c.requires in
    let known : IsSet w (length parts) = record { complete = c.centre_count-centres.ensures.complete; named = c.centre_count-centres.ensures.named; there = there } in
    let limits : IsWithinLimits (program_at w parts) = subst IsWithinLimits program_is c.costs-variables.ensures.within in
    part_complete w files name parts claim c.read_tree.new.lines c.read_policy.new.lines known limits tree policy)

pub returns-clause-reads : goal.returns-clause-reads
returns-clause-reads g c = (λ parts set_is first.
    let w = c.args.world.now in
    let files = g.S.Shelf.files c.args.shelf.now in
    let name = c.args.name.now in
    let program_is : c.in_ok-program.program ≡ program_at w parts = c.in_ok-program.ensures ∙ ap (program_of w) set_is in
    let variables_is = ap length c.costs-variables.ensures.costs ∙ ap (λ (q : Contents). length q.costs) program_is in
    let read = c.in_ok-read_set.ensures.reads parts set_is variables_is first in
    let files_1 = g.S.Shelf.files c.read_set.new.shelf in
    let same_1 : files_1 ≡ files = c.in_ok-read_set.ensures.files_stay in
    let found : ReadsTree w files name parts c.read_tree.new.lines (Ok c.in_ok-claim.field-0) =
    tree_at w files files_1 name parts c.read_set.new.lines c.read_tree.new.lines (Ok c.in_ok-claim.field-0) same_1 (tree_of w c.in_ok-program.program files_1 name parts c.read_set.new.lines c.read_tree.new.lines (Ok c.in_ok-claim.field-0) program_is c.in_ok-claim.ensures.reads) read in
    let there = subst (λ (n : ℕ). n < length w.sets) set_is c.requires in
    let known : IsSet w (length parts) = record { complete = c.centre_count-centres.ensures.complete; named = c.centre_count-centres.ensures.named; there = there } in
    let limits : IsWithinLimits (program_at w parts) = subst IsWithinLimits program_is c.costs-variables.ensures.within in
    part_none w files name parts c.read_tree.new.lines known limits (subst (λ (o : Option Claim). ReadsTree w files name parts c.read_tree.new.lines (Ok o)) c.in-None.is found))
