use Rattle.std.proofs.Common.{◌++◌, map}
use Rattle.std.proofs.lemmas.Result.{err_from_is_err_and, on_ok_weaker, IfErr-weaker}
use Rattle.world_text.specs.declared.fault.WorldFault.{WorldFault}
use Rattle.world_text.specs.declared.kinds.Kind.TheVariants as kind
use Rattle.world_text.specs.Taken.{IsRefused, entry_of}
use Rattle.world_text.proofs.Taking.{leads_then, refused_then, refused_before}
use Rattle.world_text.proofs.toml_text.Reading.take_arrays.Goals as goal

pub returns-in_err-take_tables-clause-fault : goal.returns-in_err-take_tables-clause-fault
returns-in_err-take_tables-clause-fault c =
    let version = c.unwrap_or-version.result in
    let a = map (entry_of version kind.Centre) c.args.arrays.centres.now in
    let b = map (entry_of version kind.Link) c.args.arrays.links.now in
    let s = map (entry_of version kind.Set) c.args.arrays.sets.now in
    let u = map (entry_of version kind.Use) c.args.arrays.uses.now in
    let line = c.args.self.now.line in
    let d = c.args.self.now.draft in
    let fault = c.in_err-take_tables.field-0.0 in
    let p = err_from_is_err_and c.from_residual.result c.from_residual.ensures.1 in
    rw (← c.unwrap_or-version.ensures, p.1, p.2)
    (refused_before ((a ++ b) ++ s) u line d fault (refused_before (a ++ b) s line d fault (refused_before a b line d fault c.in_err-take_tables.ensures.fault)))

pub returns-in_err-take_tables-2-clause-fault : goal.returns-in_err-take_tables-2-clause-fault
returns-in_err-take_tables-2-clause-fault c =
    let version = c.unwrap_or-version.result in
    let a = map (entry_of version kind.Centre) c.args.arrays.centres.now in
    let b = map (entry_of version kind.Link) c.args.arrays.links.now in
    let s = map (entry_of version kind.Set) c.args.arrays.sets.now in
    let u = map (entry_of version kind.Use) c.args.arrays.uses.now in
    let line = c.args.self.now.line in
    let d = c.args.self.now.draft in
    let fault = c.in_err-take_tables-2.field-0.0 in
    let p = err_from_is_err_and c.from_residual-in_err-take_tables-2.result c.from_residual-in_err-take_tables-2.ensures.1 in
    let refused = refused_then a b line c.take_tables.new.self.line d c.take_tables.new.self.draft fault c.in_ok-take_tables.ensures.ok c.in_err-take_tables-2.ensures.fault in
    rw (← c.unwrap_or-version.ensures, p.1, p.2) (refused_before ((a ++ b) ++ s) u line d fault (refused_before (a ++ b) s line d fault refused))

pub returns-in_err-take_tables-3-clause-fault : goal.returns-in_err-take_tables-3-clause-fault
returns-in_err-take_tables-3-clause-fault c =
    let version = c.unwrap_or-version.result in
    let a = map (entry_of version kind.Centre) c.args.arrays.centres.now in
    let b = map (entry_of version kind.Link) c.args.arrays.links.now in
    let s = map (entry_of version kind.Set) c.args.arrays.sets.now in
    let u = map (entry_of version kind.Use) c.args.arrays.uses.now in
    let line = c.args.self.now.line in
    let d = c.args.self.now.draft in
    let fault = c.in_err-take_tables-3.field-0.0 in
    let p = err_from_is_err_and c.from_residual-in_err-take_tables-3.result c.from_residual-in_err-take_tables-3.ensures.1 in
    let links = leads_then a b line c.take_tables.new.self.line c.take_tables-2.new.self.line d c.take_tables.new.self.draft c.take_tables-2.new.self.draft c.in_ok-take_tables.ensures.ok c.in_ok-take_tables-2.ensures.ok in
    let refused = refused_then (a ++ b) s line c.take_tables-2.new.self.line d c.take_tables-2.new.self.draft fault links c.in_err-take_tables-3.ensures.fault in
    rw (← c.unwrap_or-version.ensures, p.1, p.2) (refused_before ((a ++ b) ++ s) u line d fault refused)

pub returns-clause-ok : goal.returns-clause-ok
returns-clause-ok c =
    let version = c.unwrap_or-version.result in
    let a = map (entry_of version kind.Centre) c.args.arrays.centres.now in
    let b = map (entry_of version kind.Link) c.args.arrays.links.now in
    let s = map (entry_of version kind.Set) c.args.arrays.sets.now in
    let u = map (entry_of version kind.Use) c.args.arrays.uses.now in
    let line = c.args.self.now.line in
    let d = c.args.self.now.draft in
    let links = leads_then a b line c.take_tables.new.self.line c.take_tables-2.new.self.line d c.take_tables.new.self.draft c.take_tables-2.new.self.draft c.in_ok-take_tables.ensures.ok c.in_ok-take_tables-2.ensures.ok in
    let sets = leads_then (a ++ b) s line c.take_tables-2.new.self.line c.take_tables-3.new.self.line d c.take_tables-2.new.self.draft c.take_tables-3.new.self.draft links c.in_ok-take_tables-3.ensures.ok in
    rw (← c.unwrap_or-version.ensures)
    (on_ok_weaker c.take_tables-4.result
    (leads_then ((a ++ b) ++ s) u line c.take_tables-3.new.self.line c.take_tables-4.new.self.line d c.take_tables-3.new.self.draft c.take_tables-4.new.self.draft sets) c.take_tables-4.ensures.ok)

pub returns-clause-fault : goal.returns-clause-fault
returns-clause-fault c =
    let version = c.unwrap_or-version.result in
    let a = map (entry_of version kind.Centre) c.args.arrays.centres.now in
    let b = map (entry_of version kind.Link) c.args.arrays.links.now in
    let s = map (entry_of version kind.Set) c.args.arrays.sets.now in
    let u = map (entry_of version kind.Use) c.args.arrays.uses.now in
    let line = c.args.self.now.line in
    let d = c.args.self.now.draft in
    let links = leads_then a b line c.take_tables.new.self.line c.take_tables-2.new.self.line d c.take_tables.new.self.draft c.take_tables-2.new.self.draft c.in_ok-take_tables.ensures.ok c.in_ok-take_tables-2.ensures.ok in
    let sets = leads_then (a ++ b) s line c.take_tables-2.new.self.line c.take_tables-3.new.self.line d c.take_tables-2.new.self.draft c.take_tables-3.new.self.draft links c.in_ok-take_tables-3.ensures.ok in
    rw (← c.unwrap_or-version.ensures)
    (IfErr-weaker c.take_tables-4.result (IsRefused u c.take_tables-3.new.self.line c.take_tables-3.new.self.draft) (IsRefused (((a ++ b) ++ s) ++ u) line d)
    (λ (fault : WorldFault) refused. refused_then ((a ++ b) ++ s) u line c.take_tables-3.new.self.line d c.take_tables-3.new.self.draft fault sets refused) c.take_tables-4.ensures.fault)
