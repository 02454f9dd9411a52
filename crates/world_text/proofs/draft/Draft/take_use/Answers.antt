use Rattle.std.proofs.Common.{◌≢◌, length, ◌<◌, ◌≤◌, sym, arith, rules}
use Rattle.std.proofs.lemmas.Result.{err_from_is_err_and}
use Rattle.workload.specs.declared.rules.Demand.{Demand}
use Rattle.price_tables.specs.Tables.{count_of}
use Rattle.world_text.proofs.FieldTests.{field, texts, texts_length, four_fields}
use Rattle.world_text.proofs.UseSteps.{use_fields, use_set, use_centre, use_counts, use_unknown, use_refused, use_taken}
use Rattle.world_text.proofs.Adding.{member_ok, member_err}
use Rattle.world_text.proofs.draft.Draft.take_use.Goals as goal
use Rattle.world_text.proofs.draft.Draft.take_use.Goals.{in_default-via-then-fields-lt4, in_default-via-else-fields-lt4+else-fields-lt5}

pub returns-in_default-clause-fault : goal.returns-in_default-clause-fault
returns-in_default-clause-fault c =
    let fs = c.args.fields.now in
    let other : length (texts fs) ≢ 4 =
    elim c.in_default.branch [
      | in_default-via-then-fields-lt4 w ↦ λ e. absurd (let short : length fs < 4 = search rules in omega (arith, e, texts_length fs))
      | in_default-via-else-fields-lt4+else-fields-lt5 w ↦ λ e. absurd (let long : 5 ≤ length fs = search rules in omega (arith, e, texts_length fs))
    ] in
    rw c.bad.ensures (use_fields c.args.self.now (texts fs) other)

pub returns-in_err-set-clause-fault : goal.returns-in_err-set-clause-fault
returns-in_err-set-clause-fault c =
    let fs = c.args.fields.now in
    let all = four_fields fs c.in-len4.len_at_least c.in-len4.len_below in
    let p = err_from_is_err_and c.from_residual.result c.from_residual.ensures.1 in
    rw (p.1, p.2) (use_set c.args.self.now (texts fs) (field fs 0) (field fs 1) (field fs 2) (field fs 3) c.in_err-set.field-0.0 all c.in_err-set.ensures.name)

pub returns-in_err-centre-clause-fault : goal.returns-in_err-centre-clause-fault
returns-in_err-centre-clause-fault c =
    let fs = c.args.fields.now in
    let all = four_fields fs c.in-len4.len_at_least c.in-len4.len_below in
    let p = err_from_is_err_and c.from_residual-in_err-centre.result c.from_residual-in_err-centre.ensures.1 in
    rw (p.1, p.2) (use_centre c.args.self.now (texts fs) (field fs 0) (field fs 1) (field fs 2) (field fs 3) c.in_ok-set.set c.in_err-centre.field-0.0 all c.in_ok-set.ensures.name c.in_err-centre.ensures.name)

pub returns-in_err-gets-clause-fault : goal.returns-in_err-gets-clause-fault
returns-in_err-gets-clause-fault c =
    let fs = c.args.fields.now in
    let all = four_fields fs c.in-len4.len_at_least c.in-len4.len_below in
    let p = err_from_is_err_and c.from_residual-in_err-gets.result c.from_residual-in_err-gets.ensures.1 in
    rw (p.1, p.2) (use_counts c.args.self.now (texts fs) (field fs 0) (field fs 1) (field fs 2) (field fs 3) c.in_ok-set.set c.in_ok-centre.centre c.in_err-gets.field-0.0 all c.in_ok-set.ensures.name c.in_ok-centre.ensures.name (sym c.in_err-gets.ensures.counts))

pub returns-in_default-find-clause-fault : goal.returns-in_default-find-clause-fault
returns-in_default-find-clause-fault c =
    let fs = c.args.fields.now in
    let all = four_fields fs c.in-len4.len_at_least c.in-len4.len_below in
    let none = sym (rw c.as_bytes.ensures at c.in_default-find.ensures.number) in
    rw c.bad-in_default-find.ensures (use_unknown c.args.self.now (texts fs) (field fs 0) (field fs 1) (field fs 2) (field fs 3) c.in_ok-set.set c.in_ok-centre.centre (c.in_ok-gets.gets, c.in_ok-gets.puts) all c.in_ok-set.ensures.name c.in_ok-centre.ensures.name (sym c.in_ok-gets.ensures.counts) none)

pub returns-in_err-add_demand-clause-fault : goal.returns-in_err-add_demand-clause-fault
returns-in_err-add_demand-clause-fault c =
    let fs = c.args.fields.now in
    let all = four_fields fs c.in-len4.len_at_least c.in-len4.len_below in
    let p = err_from_is_err_and c.from_residual-in_err-add_demand.result c.from_residual-in_err-add_demand.ensures.1 in
    let demand : Demand = record { dc = c.in-Some.dc; gets = c.in_ok-gets.gets; puts = c.in_ok-gets.puts } in
    let dc = sym (rw c.as_bytes.ensures at c.in-Some.ensures.number) in
    let due = member_err c.args.self.now.load c.in_ok-set.set demand c.in_err-add_demand.field-0.0 c.in_ok-gets.ensures.gets c.in_ok-gets.ensures.puts c.in_err-add_demand.ensures.fault in
    rw (p.1, p.2) (use_refused c.args.self.now (texts fs) (field fs 0) (field fs 1) (field fs 2) (field fs 3) c.in_ok-set.set c.in_ok-centre.centre c.in_ok-gets.gets c.in_ok-gets.puts c.in-Some.dc.0 _ all c.in_ok-set.ensures.name c.in_ok-centre.ensures.name (sym c.in_ok-gets.ensures.counts) dc due)

pub returns-clause-ok : goal.returns-clause-ok
returns-clause-ok c =
    let fs = c.args.fields.now in
    let all = four_fields fs c.in-len4.len_at_least c.in-len4.len_below in
    let demand : Demand = record { dc = c.in-Some.dc; gets = c.in_ok-gets.gets; puts = c.in_ok-gets.puts } in
    let dc = sym (rw c.as_bytes.ensures at c.in-Some.ensures.number) in
    let added = member_ok c.args.self.now.load c.add_demand.new.self c.in_ok-set.set demand (count_of c.args.self.now.tables) c.in_ok-gets.ensures.gets c.in_ok-gets.ensures.puts c.in_ok-add_demand.ensures.ok c.in_ok-add_demand.ensures.added c.in-Some.ensures.below c.requires in
    use_taken c.args.self.now (texts fs) (field fs 0) (field fs 1) (field fs 2) (field fs 3) c.in_ok-set.set c.in_ok-centre.centre c.in_ok-gets.gets c.in_ok-gets.puts c.in-Some.dc.0 c.add_demand.new.self all c.in_ok-set.ensures.name c.in_ok-centre.ensures.name (sym c.in_ok-gets.ensures.counts) dc added.0

pub returns-clause-in_centres : goal.returns-clause-in_centres
returns-clause-in_centres c =
    let demand : Demand = record { dc = c.in-Some.dc; gets = c.in_ok-gets.gets; puts = c.in_ok-gets.puts } in
    let added = member_ok c.args.self.now.load c.add_demand.new.self c.in_ok-set.set demand (count_of c.args.self.now.tables) c.in_ok-gets.ensures.gets c.in_ok-gets.ensures.puts c.in_ok-add_demand.ensures.ok c.in_ok-add_demand.ensures.added c.in-Some.ensures.below c.requires in
    added.1
