use Rattle.std.proofs.Common.{◌≡◌, ℕ, ◌+◌, List, [], ◌∷◌, ◌++◌, length, refl, sym, ap, ◌∙◌, subst, arith, length-append, codes}
use Rattle.std.proofs.lemmas.Result.{err_from_is_err_and}
use Rattle.std.proofs.lemmas.List.{append-nil}
use Rattle.span_base.specs.declared.words.Cause.TheVariants.{Syntax, Unfinished}
use Rattle.zero_one.specs.Contents.{Contents}
use Rattle.bound_cert.specs.Text.{line_text}
use Rattle.bound_cert.specs.Trees.{IsProof}
use Rattle.bound_cert.specs.declared.leaves.Goal.TheVariants as claimed
use Rattle.shelf_lines.specs.Lines.{fed}
use Rattle.plan_text.specs.PlanText.{tree_text, cost_line}
use Rattle.plan_check.specs.declared.fault.CheckFault.TheVariants.{Bad, Refused}
use Rattle.plan_check.specs.Reading.{IsLineRead}
use Rattle.plan_check.specs.Words.{HasNoForm, IsBudgetForm}
use Rattle.plan_check.specs.Places.{no_form, bad_node, unproved, unrefuted, unfinished}
use Rattle.plan_check.proofs.Counting.{line_count-fed}
use Rattle.plan_check.proofs.Trees.{tree-more}
use Rattle.plan_check.proofs.Stops.{IsIn, stops_lacking, stops_refused, read_as, next_line, next_lacks}
use Rattle.plan_check.proofs.tree.read_tree.Goals as goal

pub returns-in_err-next-clause-reads : goal.returns-in_err-next-clause-reads
returns-in_err-next-clause-reads g c = (λ front first.
    let files = g.S.Shelf.files c.args.shelf.now in
    let name = c.args.name.now in
    let program = c.args.program.now in
    let before = c.args.lines.now.number in
    let inv = c.tree.invariant.in_tree in
    let text = front ++ tree_text inv.tree in
    let read = inv.read front first in
    let place : IsIn program front inv.tree before c.tree.checker = record { before_is = first.number; stands = inv.stands } in
    let p = err_from_is_err_and c.from_residual-in_err-next.result c.from_residual-in_err-next.ensures.1 in
    let fault = c.in_err-next.field-0.0 in
    rw (p.1, p.2) (
      inv.tree,
      stops_lacking files name program front inv.tree before c.tree.checker fault place
          (next_lacks files (g.S.Shelf.files c.tree.shelf) name text c.tree.lines fault c.tree.invariant.files_stay c.in_err-next.ensures.reads read),
    ))

pub returns-in_err-take_node-in-Ok-Node-clause-reads : goal.returns-in_err-take_node-in-Ok-Node-clause-reads
returns-in_err-take_node-in-Ok-Node-clause-reads g c = (λ front first.
    let files = g.S.Shelf.files c.args.shelf.now in
    let name = c.args.name.now in
    let program = c.args.program.now in
    let before = c.args.lines.now.number in
    let inv = c.tree.invariant.in_tree in
    let text = front ++ tree_text inv.tree in
    let read = inv.read front first in
    let place : IsIn program front inv.tree before c.tree.checker = record { before_is = first.number; stands = inv.stands } in
    let reader = c.next.new.self in
    let line = reader.lines.line in
    let here : IsLineRead files name text reader = next_line files (g.S.Shelf.files c.tree.shelf) name text c.tree.lines reader c.tree.invariant.files_stay c.in_ok-next.ensures.reads read in
    let number_is : reader.number ≡ before + length inv.tree + 1 = omega (arith, c.in_ok-next.ensures.counts, inv.count) in
    let p = err_from_is_err_and c.from_residual-in_err-take_node-in-Ok-Node.result c.from_residual-in_err-take_node-in-Ok-Node.ensures.1 in
    let fault = c.in_err-take_node-in-Ok-Node.field-0.0 in
    let says = rw c.in-Ok-Node.field-0-is at c.in-Ok-Node.ensures in
    let said : line_text c.in-Ok-Node.node ≡ line = says.0 ∙ c.line.ensures in
    let told = c.in_err-take_node-in-Ok-Node.ensures inv.tree inv.stands number_is in
    rw (p.1, p.2)
    (inv.tree, stops_refused files name program front inv.tree before c.tree.checker reader fault place here (bad_node c.in-Ok-Node.node told.0 said says.1 told.1 told.2)))

pub tree-preserved-in_ok-take_node-in-Ok-Node : goal.tree-preserved-in_ok-take_node-in-Ok-Node
tree-preserved-in_ok-take_node-in-Ok-Node g c =
    let files = g.S.Shelf.files c.args.shelf.now in
    let name = c.args.name.now in
    let before = c.args.lines.now.number in
    let inv = c.tree.invariant.in_tree in
    let node = c.in-Ok-Node.node in
    let reader = c.next.new.self in
    let line = reader.lines.line in
    let number_is : reader.number ≡ before + length inv.tree + 1 = omega (arith, c.in_ok-next.ensures.counts, inv.count) in
    let said : line_text node ≡ line = (rw c.in-Ok-Node.field-0-is at c.in-Ok-Node.ensures).0 ∙ c.line.ensures in
    record {
      in_tree = record {
        tree = inv.tree ++ node ∷ [];
        stands = c.in_ok-take_node-in-Ok-Node.ensures inv.tree inv.stands number_is;
        count = omega (arith, number_is, length-append inv.tree (node ∷ []));
        read = (λ front first.
            let text = front ++ tree_text inv.tree in
            let here : IsLineRead files name text reader = next_line files (g.S.Shelf.files c.tree.shelf) name text c.tree.lines reader c.tree.invariant.files_stay c.in_ok-next.ensures.reads (inv.read front first) in
            read_as files name (text ++ fed line) (front ++ tree_text (inv.tree ++ node ∷ [])) reader
            (sym (tree-more front inv.tree node ∙ ap (λ (t : List ℕ). text ++ fed t) said)) here.read);
      };
      files_stay = c.in_ok-next.ensures.files_stay ∙ c.tree.invariant.files_stay;
      faults_stay = omega (arith, c.in_ok-next.ensures.faults_stay);
      absences_stay = omega (arith, c.in_ok-next.ensures.absences_stay);
    }

pub tree-preserved : goal.tree-preserved
tree-preserved g c =
    let files = g.S.Shelf.files c.args.shelf.now in
    let name = c.args.name.now in
    let before = c.args.lines.now.number in
    let inv = c.tree.invariant.in_tree in
    let node = c.in-Ok-Node.node in
    let reader = c.next.new.self in
    let line = reader.lines.line in
    let number_is : reader.number ≡ before + length inv.tree + 1 = omega (arith, c.in_ok-next.ensures.counts, inv.count) in
    let said : line_text node ≡ line = (rw c.in-Ok-Node.field-0-is at c.in-Ok-Node.ensures).0 ∙ c.line.ensures in
    record {
      in_tree = record {
        tree = inv.tree ++ node ∷ [];
        stands = c.in_ok-take_node-in-Ok-Node.ensures inv.tree inv.stands number_is;
        count = omega (arith, number_is, length-append inv.tree (node ∷ []));
        read = (λ front first.
            let text = front ++ tree_text inv.tree in
            let here : IsLineRead files name text reader = next_line files (g.S.Shelf.files c.tree.shelf) name text c.tree.lines reader c.tree.invariant.files_stay c.in_ok-next.ensures.reads (inv.read front first) in
            read_as files name (text ++ fed line) (front ++ tree_text (inv.tree ++ node ∷ [])) reader
            (sym (tree-more front inv.tree node ∙ ap (λ (t : List ℕ). text ++ fed t) said)) here.read);
      };
      files_stay = c.in_ok-next.ensures.files_stay ∙ c.tree.invariant.files_stay;
      faults_stay = omega (arith, c.in_ok-next.ensures.faults_stay);
      absences_stay = omega (arith, c.in_ok-next.ensures.absences_stay);
    }

pub returns-in_err-show_goal-in-Ok-Complete-clause-reads : goal.returns-in_err-show_goal-in-Ok-Complete-clause-reads
returns-in_err-show_goal-in-Ok-Complete-clause-reads g c = (λ front first.
    let files = g.S.Shelf.files c.args.shelf.now in
    let name = c.args.name.now in
    let program = c.args.program.now in
    let before = c.args.lines.now.number in
    let inv = c.tree.invariant.in_tree in
    let text = front ++ tree_text inv.tree in
    let read = inv.read front first in
    let place : IsIn program front inv.tree before c.tree.checker = record { before_is = first.number; stands = inv.stands } in
    let reader = c.next.new.self in
    let line = reader.lines.line in
    let here : IsLineRead files name text reader = next_line files (g.S.Shelf.files c.tree.shelf) name text c.tree.lines reader c.tree.invariant.files_stay c.in_ok-next.ensures.reads read in
    let number_is : reader.number ≡ before + length inv.tree + 1 = omega (arith, c.in_ok-next.ensures.counts, inv.count) in
    let p = err_from_is_err_and c.from_residual-in_err-show_goal-in-Ok-Complete.result c.from_residual-in_err-show_goal-in-Ok-Complete.ensures.1 in
    let fault = c.in_err-show_goal-in-Ok-Complete.field-0.0 in
    let told_cost = rw c.in-Ok-Complete.field-0-is at c.in-Ok-Complete.ensures in
    let said : fed line ≡ cost_line c.in-Ok-Complete.cost = sym (ap fed c.line.ensures) ∙ told_cost.0 in
    let told = c.in_err-show_goal-in-Ok-Complete.ensures program inv.tree inv.stands number_is in
    rw (p.1, p.2)
    (inv.tree, stops_refused files name program front inv.tree before c.tree.checker reader fault place here (unproved c.in-Ok-Complete.cost told.0 said told_cost.1 told.3 told.1 told.2)))

pub returns-in-Ok-Complete-clause-reads : goal.returns-in-Ok-Complete-clause-reads
returns-in-Ok-Complete-clause-reads g c = (λ front first.
    let files = g.S.Shelf.files c.args.shelf.now in
    let name = c.args.name.now in
    let program = c.args.program.now in
    let before = c.args.lines.now.number in
    let inv = c.tree.invariant.in_tree in
    let text = front ++ tree_text inv.tree in
    let read = inv.read front first in
    let place : IsIn program front inv.tree before c.tree.checker = record { before_is = first.number; stands = inv.stands } in
    let reader = c.next.new.self in
    let line = reader.lines.line in
    let here : IsLineRead files name text reader = next_line files (g.S.Shelf.files c.tree.shelf) name text c.tree.lines reader c.tree.invariant.files_stay c.in_ok-next.ensures.reads read in
    let number_is : reader.number ≡ before + length inv.tree + 1 = omega (arith, c.in_ok-next.ensures.counts, inv.count) in
    let told_cost = rw c.in-Ok-Complete.field-0-is at c.in-Ok-Complete.ensures in
    let said : fed line ≡ cost_line c.in-Ok-Complete.cost = sym (ap fed c.line.ensures) ∙ told_cost.0 in (
      inv.tree,
      told_cost.1,
      c.in_ok-show_goal-in-Ok-Complete.ensures program inv.tree inv.stands number_is,
      here.read.number ∙ line_count-fed text line here.line,
      read_as files name (text ++ fed line) (text ++ cost_line c.in-Ok-Complete.cost) reader (ap (λ (t : List ℕ). text ++ t) said) here.read,
    ))

pub returns-in_err-show_goal-in-Ok-Nothing-clause-reads : goal.returns-in_err-show_goal-in-Ok-Nothing-clause-reads
returns-in_err-show_goal-in-Ok-Nothing-clause-reads g c = (λ front first.
    let files = g.S.Shelf.files c.args.shelf.now in
    let name = c.args.name.now in
    let program = c.args.program.now in
    let before = c.args.lines.now.number in
    let inv = c.tree.invariant.in_tree in
    let text = front ++ tree_text inv.tree in
    let read = inv.read front first in
    let place : IsIn program front inv.tree before c.tree.checker = record { before_is = first.number; stands = inv.stands } in
    let reader = c.next.new.self in
    let line = reader.lines.line in
    let here : IsLineRead files name text reader = next_line files (g.S.Shelf.files c.tree.shelf) name text c.tree.lines reader c.tree.invariant.files_stay c.in_ok-next.ensures.reads read in
    let number_is : reader.number ≡ before + length inv.tree + 1 = omega (arith, c.in_ok-next.ensures.counts, inv.count) in
    let p = err_from_is_err_and c.from_residual-in_err-show_goal-in-Ok-Nothing.result c.from_residual-in_err-show_goal-in-Ok-Nothing.ensures.1 in
    let fault = c.in_err-show_goal-in-Ok-Nothing.field-0.0 in
    let said : fed line ≡ codes "result none\n" = sym (ap fed c.line.ensures) ∙ (rw c.in-Ok-Nothing.field-0-is at c.in-Ok-Nothing.ensures) in
    let told = c.in_err-show_goal-in-Ok-Nothing.ensures program inv.tree inv.stands number_is in
    rw (p.1, p.2)
    (inv.tree, stops_refused files name program front inv.tree before c.tree.checker reader fault place here (unrefuted told.0 said told.3 told.1 told.2)))

pub returns-in-Ok-Nothing-clause-reads : goal.returns-in-Ok-Nothing-clause-reads
returns-in-Ok-Nothing-clause-reads g c = (λ front first.
    let files = g.S.Shelf.files c.args.shelf.now in
    let name = c.args.name.now in
    let program = c.args.program.now in
    let before = c.args.lines.now.number in
    let inv = c.tree.invariant.in_tree in
    let text = front ++ tree_text inv.tree in
    let read = inv.read front first in
    let place : IsIn program front inv.tree before c.tree.checker = record { before_is = first.number; stands = inv.stands } in
    let reader = c.next.new.self in
    let line = reader.lines.line in
    let here : IsLineRead files name text reader = next_line files (g.S.Shelf.files c.tree.shelf) name text c.tree.lines reader c.tree.invariant.files_stay c.in_ok-next.ensures.reads read in
    let number_is : reader.number ≡ before + length inv.tree + 1 = omega (arith, c.in_ok-next.ensures.counts, inv.count) in
    let said : fed line ≡ codes "result none\n" = sym (ap fed c.line.ensures) ∙ (rw c.in-Ok-Nothing.field-0-is at c.in-Ok-Nothing.ensures) in (
      inv.tree,
      c.in_ok-show_goal-in-Ok-Nothing.ensures program inv.tree inv.stands number_is,
      read_as files name (text ++ fed line) (text ++ codes "result none\n") reader (ap (λ (t : List ℕ). text ++ t) said) here.read,
    ))

pub returns-in-Ok-Budget-clause-reads : goal.returns-in-Ok-Budget-clause-reads
returns-in-Ok-Budget-clause-reads g c = (λ front first.
    let files = g.S.Shelf.files c.args.shelf.now in
    let name = c.args.name.now in
    let program = c.args.program.now in
    let before = c.args.lines.now.number in
    let inv = c.tree.invariant.in_tree in
    let text = front ++ tree_text inv.tree in
    let read = inv.read front first in
    let place : IsIn program front inv.tree before c.tree.checker = record { before_is = first.number; stands = inv.stands } in
    let reader = c.next.new.self in
    let line = reader.lines.line in
    let here : IsLineRead files name text reader = next_line files (g.S.Shelf.files c.tree.shelf) name text c.tree.lines reader c.tree.invariant.files_stay c.in_ok-next.ensures.reads read in
    let number_is : reader.number ≡ before + length inv.tree + 1 = omega (arith, c.in_ok-next.ensures.counts, inv.count) in
    let form : IsBudgetForm line = subst IsBudgetForm c.line.ensures (rw c.in-Ok-Budget.field-0-is at c.in-Ok-Budget.ensures) in
    (inv.tree, stops_refused files name program front inv.tree before c.tree.checker reader (Refused reader.number Unfinished) place here (unfinished form (ap (λ (n : ℕ). Refused n Unfinished) number_is))))

pub returns-in-Err-Syntax-clause-reads : goal.returns-in-Err-Syntax-clause-reads
returns-in-Err-Syntax-clause-reads g c = (λ front first.
    let files = g.S.Shelf.files c.args.shelf.now in
    let name = c.args.name.now in
    let program = c.args.program.now in
    let before = c.args.lines.now.number in
    let inv = c.tree.invariant.in_tree in
    let text = front ++ tree_text inv.tree in
    let read = inv.read front first in
    let place : IsIn program front inv.tree before c.tree.checker = record { before_is = first.number; stands = inv.stands } in
    let reader = c.next.new.self in
    let line = reader.lines.line in
    let here : IsLineRead files name text reader = next_line files (g.S.Shelf.files c.tree.shelf) name text c.tree.lines reader c.tree.invariant.files_stay c.in_ok-next.ensures.reads read in
    let number_is : reader.number ≡ before + length inv.tree + 1 = omega (arith, c.in_ok-next.ensures.counts, inv.count) in
    let form : HasNoForm line = subst HasNoForm c.line.ensures (rw c.in-Err-Syntax.field-0-is at c.in-Err-Syntax.ensures) in
    (inv.tree, stops_refused files name program front inv.tree before c.tree.checker reader (Bad reader.number Syntax) place here (no_form form (ap (λ (n : ℕ). Bad n Syntax) number_is))))

pub tree-init : goal.tree-init
tree-init g c = record {
  in_tree = record {
    tree = [];
    stands = c.in_ok-checker.ensures;
    count = omega arith;
    read = λ front first. read_as (g.S.Shelf.files c.args.shelf.now) c.args.name.now front (front ++ []) c.args.lines.now (sym (append-nil front)) first;
  };
  files_stay = refl;
  faults_stay = omega arith;
  absences_stay = omega arith;
}
