use Rattle.std.proofs.lemmas.List.Elements.{All-nil, All-cons, All-append}
use Rattle.shelf_lines.specs.Lines.{IsLine}
use Rattle.std.proofs.Common.{◌≡◌, ℕ, ◌+◌, List, [], ◌∷◌, ◌++◌, refl, sym, ap, ◌∙◌, subst, arith}
use Rattle.std.specs.List.{flat_map}
use Rattle.std.proofs.lemmas.List.{append-nil}
use Rattle.std.proofs.lemmas.Result.{err_from_is_err_and}
use Rattle.std.specs.Prelude.{Ok, Err}
use Rattle.slo_rules.specs.PolicyText.{ended}
use Rattle.slo_rules.specs.PolicyReading.{Draft, step, blank}
use Rattle.plan_check.specs.Reading.{HasRead, IsLineRead}
use Rattle.plan_check.specs.Places.{LeadTo}
use Rattle.plan_check.proofs.Drafts.{lead_none, due_done}
use Rattle.plan_check.proofs.Stops.{next_line, next_lacks, read_as}
use Rattle.plan_check.proofs.Policies.{lines-more, lead_on}
use Rattle.plan_check.proofs.policy_lines.read_policy_lines.Goals as goal

pub returns-in_err-reader-clause-reads : goal.returns-in_err-reader-clause-reads
returns-in_err-reader-clause-reads g c = (λ front first.
    let w = c.args.world.now in
    let p = err_from_is_err_and c.from_residual.result c.from_residual.ensures.1 in
    rw (p.1, p.2) (record { said = []; draft = blank c.args.set.0; taken = record { lines = All-nil IsLine; leads = lead_none w c.args.set.0 }; lacks = tt }))

pub policy-init : goal.policy-init
policy-init g c =
    let start = lead_none c.args.world.now c.args.set.0 in
    record {
      in_policy = record {
        said = [];
        leads = subst (λ (d : Draft). LeadTo c.args.world.now c.args.set.0 [] d) (sym c.in_ok-reader.ensures) start;
        lines = (λ front first. All-nil IsLine);
        read = λ front first. read_as (g.S.Shelf.files c.args.shelf.now) c.args.name.now front (front ++ []) c.args.lines.now (sym (append-nil front)) first;
      };
      files_stay = refl;
      faults_stay = omega arith;
      absences_stay = omega arith;
    }

pub take-requires : goal.take-requires
take-requires g c = omega (arith, c.policy.invariant.in_policy.leads.of_set, c.requires)

pub whole-requires-clause-whole : goal.whole-requires-clause-whole
whole-requires-clause-whole g c = due_done c.args.world.now c.take.new.self (rw c.in-Ok-Done.field-0-is at c.in-Ok-Done.ensures.takes).1

pub whole-requires-clause-of_set : goal.whole-requires-clause-of_set
whole-requires-clause-of_set g c = c.in-Ok-Done.ensures.set ∙ c.policy.invariant.in_policy.leads.of_set

pub returns-in_err-next-clause-reads : goal.returns-in_err-next-clause-reads
returns-in_err-next-clause-reads g c = (λ front first.
    let files = g.S.Shelf.files c.args.shelf.now in
    let name = c.args.name.now in
    let w = c.args.world.now in
    let inv = c.policy.invariant.in_policy in
    let said = inv.said in
    let text = front ++ flat_map ended said in
    let read = inv.read front first in
    let p = err_from_is_err_and c.from_residual-in_err-next.result c.from_residual-in_err-next.ensures.1 in
    let fault = c.in_err-next.field-0.0 in
    rw (p.1, p.2) (record {
      said = said;
      draft = c.policy.reader;
      taken = record { lines = inv.lines front first; leads = inv.leads };
      lacks = next_lacks files (g.S.Shelf.files c.policy.shelf) name text c.policy.lines fault c.policy.invariant.files_stay c.in_err-next.ensures.reads read;
    }))

pub returns-in-Ok-Done-clause-reads : goal.returns-in-Ok-Done-clause-reads
returns-in-Ok-Done-clause-reads g c = (λ front first.
    let files = g.S.Shelf.files c.args.shelf.now in
    let name = c.args.name.now in
    let w = c.args.world.now in
    let inv = c.policy.invariant.in_policy in
    let said = inv.said in
    let text = front ++ flat_map ended said in
    let read = inv.read front first in
    let reader = c.next.new.self in
    let line = reader.lines.line in
    let here : IsLineRead files name text reader = next_line files (g.S.Shelf.files c.policy.shelf) name text c.policy.lines reader c.policy.invariant.files_stay c.in_ok-next.ensures.reads read in
    record {
      said = said;
      draft = c.policy.reader;
      next = c.take.new.self;
      line = line;
      taken = record { lines = inv.lines front first; leads = inv.leads };
      last = record { one = here.line; is = refl; read = here.read };
      stepped = ap (step w c.policy.reader) (sym c.line.ensures) ∙ (rw c.in-Ok-Done.field-0-is at c.in-Ok-Done.ensures.takes).0;
      whole = c.whole.ensures;
    })

pub returns-in-Err-clause-reads : goal.returns-in-Err-clause-reads
returns-in-Err-clause-reads g c = (λ front first.
    let files = g.S.Shelf.files c.args.shelf.now in
    let name = c.args.name.now in
    let w = c.args.world.now in
    let inv = c.policy.invariant.in_policy in
    let said = inv.said in
    let text = front ++ flat_map ended said in
    let read = inv.read front first in
    let reader = c.next.new.self in
    let line = reader.lines.line in
    let here : IsLineRead files name text reader = next_line files (g.S.Shelf.files c.policy.shelf) name text c.policy.lines reader c.policy.invariant.files_stay c.in_ok-next.ensures.reads read in
    record {
      said = said;
      draft = c.policy.reader;
      line = line;
      taken = record { lines = inv.lines front first; leads = inv.leads };
      last = record { one = here.line; is = refl; read = here.read };
      stepped = ap (step w c.policy.reader) (sym c.line.ensures) ∙ c.in-Err.ensures.takes.0;
    })

pub policy-preserved : goal.policy-preserved
policy-preserved g c =
    let files = g.S.Shelf.files c.args.shelf.now in
    let name = c.args.name.now in
    let w = c.args.world.now in
    let inv = c.policy.invariant.in_policy in
    let said = inv.said in
    let reader = c.next.new.self in
    let line = reader.lines.line in
    let takes = rw c.in-Ok-More.field-0-is at c.in-Ok-More.ensures.takes in
    let stepped : step w c.policy.reader line ≡ Ok c.take.new.self = ap (step w c.policy.reader) (sym c.line.ensures) ∙ takes.0 in
    record {
      in_policy = record {
        said = said ++ line ∷ [];
        leads = lead_on w c.args.set.0 said c.policy.reader c.take.new.self line inv.leads stepped c.in-Ok-More.ensures.set takes.1;
        lines = (λ front first.
            let text = front ++ flat_map ended said in
            let here : IsLineRead files name text reader = next_line files (g.S.Shelf.files c.policy.shelf) name text c.policy.lines reader c.policy.invariant.files_stay c.in_ok-next.ensures.reads (inv.read front first) in
            All-append IsLine said (line ∷ []) (inv.lines front first) (All-cons IsLine line [] here.line (All-nil IsLine)));
        read = (λ front first.
            let text = front ++ flat_map ended said in
            let here : IsLineRead files name text reader = next_line files (g.S.Shelf.files c.policy.shelf) name text c.policy.lines reader c.policy.invariant.files_stay c.in_ok-next.ensures.reads (inv.read front first) in
            subst (λ (t : List ℕ). HasRead files name t reader) (sym (lines-more front said line)) here.read);
      };
      files_stay = c.in_ok-next.ensures.files_stay ∙ c.policy.invariant.files_stay;
      faults_stay = omega (arith, c.in_ok-next.ensures.faults_stay);
      absences_stay = omega (arith, c.in_ok-next.ensures.absences_stay);
    }
