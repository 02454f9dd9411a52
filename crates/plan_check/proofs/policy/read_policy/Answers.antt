use Rattle.std.proofs.lemmas.List.Elements.{All-nil, All-cons, All-append}
use Rattle.shelf_lines.specs.Lines.{IsLine}
use Rattle.std.proofs.Common.{◌≡◌, ℕ, ◌+◌, List, [], ◌∷◌, ◌++◌, refl, sym, ap, ◌∙◌, subst, arith}
use Rattle.std.proofs.lemmas.Result.{err_from_is_err_and}
use Rattle.std.specs.Prelude.{Ok, Err}
use Rattle.slo_rules.specs.PolicyReading.{step, blank}
use Rattle.slo_rules.specs.PolicyReading.{Draft}
use Rattle.plan_check.specs.Refusals.{policy_refusal}
use Rattle.plan_check.specs.Reading.{HasRead, IsLineRead, line_count}
use Rattle.plan_check.specs.Places.{policy_read, LeadTo, bad_line}
use Rattle.plan_check.proofs.Counting.{line_count-fed}
use Rattle.plan_check.proofs.Drafts.{lead_none, due_done}
use Rattle.plan_check.proofs.Stops.{next_line, next_lacks}
use Rattle.plan_check.proofs.Policies.{IsAt, lacks_policy, stops_policy, judged, policy-more, lead_on}
use Rattle.plan_check.proofs.policy.read_policy.Goals as goal

pub returns-in_err-reader-clause-reads : goal.returns-in_err-reader-clause-reads
returns-in_err-reader-clause-reads g c = (λ parts tree set_is shown number_is first.
    let w = c.args.world.now in
    let p = err_from_is_err_and c.from_residual.result c.from_residual.ensures.1 in
    let place : IsAt w parts tree c.args.claim.cost c.args.set.0 c.args.claim.line [] (blank c.args.set.0) = record { set_is = set_is; shown = shown; number_is = number_is; leads = lead_none w c.args.set.0; lines = All-nil IsLine } in
    rw (p.1, p.2) (lacks_policy w (g.S.Shelf.files c.args.shelf.now) c.args.name.now parts tree c.args.claim.cost c.args.set.0 c.args.claim.line [] (blank c.args.set.0) _ place tt))

pub policy-init : goal.policy-init
policy-init g c =
    let start = lead_none c.args.world.now c.args.set.0 in
    record {
      in_policy = record {
        said = [];
        leads = subst (λ (d : Draft). LeadTo c.args.world.now c.args.set.0 [] d) (sym c.in_ok-reader.ensures) start;
        lines = (λ parts tree first. All-nil IsLine);
        read = λ parts tree read. read;
      };
      files_stay = refl;
      faults_stay = omega arith;
      absences_stay = omega arith;
    }

pub take-requires : goal.take-requires
take-requires g c = omega (arith, c.policy.invariant.in_policy.leads.of_set, c.requires)

pub judge-requires-clause-whole : goal.judge-requires-clause-whole
judge-requires-clause-whole g c = due_done c.args.world.now c.take.new.self (rw c.in-Ok-Done.field-0-is at c.in-Ok-Done.ensures.takes).1

pub judge-requires-clause-of_set : goal.judge-requires-clause-of_set
judge-requires-clause-of_set g c = c.in-Ok-Done.ensures.set ∙ c.policy.invariant.in_policy.leads.of_set

pub returns-in_err-next-clause-reads : goal.returns-in_err-next-clause-reads
returns-in_err-next-clause-reads g c = (λ parts tree set_is shown number_is first.
    let files = g.S.Shelf.files c.args.shelf.now in
    let name = c.args.name.now in
    let w = c.args.world.now in
    let cost = c.args.claim.cost in
    let inv = c.policy.invariant.in_policy in
    let said = inv.said in
    let text = policy_read w parts tree cost said in
    let read = inv.read parts tree first in
    let place : IsAt w parts tree cost c.args.set.0 c.args.claim.line said c.policy.reader = record { set_is = set_is; shown = shown; number_is = number_is; leads = inv.leads; lines = inv.lines parts tree first } in
    let p = err_from_is_err_and c.from_residual-in_err-next.result c.from_residual-in_err-next.ensures.1 in
    let fault = c.in_err-next.field-0.0 in
    rw (p.1, p.2) (lacks_policy w files name parts tree cost c.args.set.0 c.args.claim.line said c.policy.reader fault place
    (next_lacks files (g.S.Shelf.files c.policy.shelf) name text c.policy.lines fault c.policy.invariant.files_stay c.in_err-next.ensures.reads read)))

pub returns-in-Ok-Done-clause-reads : goal.returns-in-Ok-Done-clause-reads
returns-in-Ok-Done-clause-reads g c = (λ parts tree set_is shown number_is first.
    let files = g.S.Shelf.files c.args.shelf.now in
    let name = c.args.name.now in
    let w = c.args.world.now in
    let cost = c.args.claim.cost in
    let inv = c.policy.invariant.in_policy in
    let said = inv.said in
    let text = policy_read w parts tree cost said in
    let read = inv.read parts tree first in
    let place : IsAt w parts tree cost c.args.set.0 c.args.claim.line said c.policy.reader = record { set_is = set_is; shown = shown; number_is = number_is; leads = inv.leads; lines = inv.lines parts tree first } in
    let reader = c.next.new.self in
    let line = reader.lines.line in
    let here : IsLineRead files name text reader = next_line files (g.S.Shelf.files c.policy.shelf) name text c.policy.lines reader c.policy.invariant.files_stay c.in_ok-next.ensures.reads read in
    let stepped : step w c.policy.reader line ≡ Ok c.take.new.self =
    ap (step w c.policy.reader) (sym c.line.ensures) ∙ (rw c.in-Ok-Done.field-0-is at c.in-Ok-Done.ensures.takes).0 in
    judged w files name parts tree c.args.claim c.args.set.0 said c.policy.reader c.take.new.self reader c.judge.result c.centre_count-centres.ensures.complete place here stepped c.judge.ensures)

pub returns-in-Err-clause-reads : goal.returns-in-Err-clause-reads
returns-in-Err-clause-reads g c = (λ parts tree set_is shown number_is first.
    let files = g.S.Shelf.files c.args.shelf.now in
    let name = c.args.name.now in
    let w = c.args.world.now in
    let cost = c.args.claim.cost in
    let inv = c.policy.invariant.in_policy in
    let said = inv.said in
    let text = policy_read w parts tree cost said in
    let read = inv.read parts tree first in
    let place : IsAt w parts tree cost c.args.set.0 c.args.claim.line said c.policy.reader = record { set_is = set_is; shown = shown; number_is = number_is; leads = inv.leads; lines = inv.lines parts tree first } in
    let reader = c.next.new.self in
    let line = reader.lines.line in
    let here : IsLineRead files name text reader = next_line files (g.S.Shelf.files c.policy.shelf) name text c.policy.lines reader c.policy.invariant.files_stay c.in_ok-next.ensures.reads read in
    let stepped : step w c.policy.reader line ≡ Err c.in-Err.fault = ap (step w c.policy.reader) (sym c.line.ensures) ∙ c.in-Err.ensures.takes.0 in
    let number : reader.number ≡ line_count text + 1 = here.read.number ∙ line_count-fed text line here.line in
    stops_policy w files name parts tree cost c.args.set.0 c.args.claim.line said c.policy.reader reader c.refuse_policy.result place here
    (bad_line c.in-Err.fault stepped (c.refuse_policy.ensures ∙ ap (λ (n : ℕ). policy_refusal n c.in-Err.fault) number)))

pub policy-preserved : goal.policy-preserved
policy-preserved g c =
    let files = g.S.Shelf.files c.args.shelf.now in
    let name = c.args.name.now in
    let w = c.args.world.now in
    let cost = c.args.claim.cost in
    let inv = c.policy.invariant.in_policy in
    let said = inv.said in
    let reader = c.next.new.self in
    let line = reader.lines.line in
    let takes = rw c.in-Ok-More.field-0-is at c.in-Ok-More.ensures.takes in
    let stepped : step w c.policy.reader line ≡ Ok c.take.new.self = ap (step w c.policy.reader) (sym c.line.ensures) ∙ takes.0 in
    record {
      in_policy = record {
        said = said ++ line ∷ [];
        leads = lead_on w c.args.set.0 said c.policy.reader c.take.new.self line inv.leads stepped c.in-Ok-More.ensures.set takes.1;
        lines = (λ parts tree first.
            let text = policy_read w parts tree cost said in
            let here : IsLineRead files name text reader = next_line files (g.S.Shelf.files c.policy.shelf) name text c.policy.lines reader c.policy.invariant.files_stay c.in_ok-next.ensures.reads (inv.read parts tree first) in
            All-append IsLine said (line ∷ []) (inv.lines parts tree first) (All-cons IsLine line [] here.line (All-nil IsLine)));
        read = (λ parts tree first.
            let text = policy_read w parts tree cost said in
            let here : IsLineRead files name text reader = next_line files (g.S.Shelf.files c.policy.shelf) name text c.policy.lines reader c.policy.invariant.files_stay c.in_ok-next.ensures.reads (inv.read parts tree first) in
            let more_text = policy-more w parts tree cost said line in
            subst (λ (t : List ℕ). HasRead files name t reader) (sym more_text) here.read);
      };
      files_stay = c.in_ok-next.ensures.files_stay ∙ c.policy.invariant.files_stay;
      faults_stay = omega (arith, c.in_ok-next.ensures.faults_stay);
      absences_stay = omega (arith, c.in_ok-next.ensures.absences_stay);
    }
