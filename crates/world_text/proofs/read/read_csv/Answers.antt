use Rattle.std.proofs.Common.{◌<◌, ℕ, List, [], Some, Bor, ◌∙◌, inl, inr, arith}
use Rattle.std.proofs.lemmas.Result.{err_from_is_err_and}
use Rattle.csv.specs.Records.{fields_of}
use Rattle.csv.proofs.ReadFacts.{rows-more, rows-end}
use Rattle.csv.specs.Reading.{default_config, strip_bom}
use Rattle.world_text.proofs.Readings.{reached_none, none_in_centres, at_start, goes_on, refused, ends}
use Rattle.world_text.proofs.read.read_csv.Goals as goal

pub loop-row-init : goal.loop-row-init
loop-row-init c =
    let fr = c.from_reader.ensures in
    let e = c.has_headers.ensures in
    let f = c.flexible.ensures in
    let start = c.into_iter-row-iterator.ensures.into_iter_gives in
    let rdr = c.into_byte_records-rows.ensures.rdr in
    let left = c.into_byte_records-rows.ensures.left in
    rw (start, rdr) (record {
      trim = rw (f, e) at fr.trim ∙ c.new.ensures.trim;
      ready = inr (inr (rw (f, e) at fr.has_headers, fr.headers));
      left = left;
      config = rw (f, e) at fr.config ∙ c.new.ensures.config;
      lines = omega (arith, c.into_byte_records-rows.type_inv);
      in_centres = none_in_centres c.in_ok-draft.draft c.in_ok-draft.ensures;
      goes = (strip_bom c.args.text.now, fr.source, rw fr.state (at_start c.args.text.now c.in_ok-draft.draft c.in_ok-draft.ensures));
    })

pub loop-row-preserved : goal.loop-row-preserved
loop-row-preserved c =
    let inv = c.loop-row.invariant in
    let s = rw (c.in-Some.is, c.in-Ok.is) at ((c.next.ensures.steps inv.left inv.trim).0 inv.ready) in
    let old = c.loop-row.row-iterator.rdr in
    let y = inv.goes.0 in
    let m = rows-more (λ (s : Bor (List ℕ)). Some s.now) old c.next.new.self.rdr (fields_of c.in-Ok.row) default_config old.state y y [] inv.config inv.goes.1 (reached_none default_config old.state y) s.0 in
    let nearer : c.next.new.self.left < c.loop-row.row-iterator.left = (c.in-Some.ensures.goes.on tt).2 in
    record {
      trim = s.0.3 ∙ inv.trim;
      ready = inl s.1;
      left = s.2;
      config = s.0.2 ∙ inv.config;
      lines = omega arith;
      in_centres = c.in_ok-take_row.ensures.in_centres;
      goes = (m.0, m.1, goes_on c.args.text.now y m.0 old.state c.next.new.self.rdr.state c.loop-row.line c.loop-row.draft c.take_row.new.self (fields_of c.in-Ok.row) inv.goes.2 m.2 c.in_ok-take_row.ensures.ok);
    }

pub returns-in_err-take_row : goal.returns-in_err-take_row
returns-in_err-take_row c =
    let inv = c.loop-row.invariant in
    let s = rw (c.in-Some.is, c.in-Ok.is) at ((c.next.ensures.steps inv.left inv.trim).0 inv.ready) in
    let old = c.loop-row.row-iterator.rdr in
    let y = inv.goes.0 in
    let m = rows-more (λ (s : Bor (List ℕ)). Some s.now) old c.next.new.self.rdr (fields_of c.in-Ok.row) default_config old.state y y [] inv.config inv.goes.1 (reached_none default_config old.state y) s.0 in
    let p = err_from_is_err_and c.from_residual-in_err-take_row.result c.from_residual-in_err-take_row.ensures.1 in
    rw (p.1, p.2)
    (refused c.args.text.now y m.0 old.state c.next.new.self.rdr.state c.loop-row.line c.loop-row.draft (fields_of c.in-Ok.row) c.in_err-take_row.field-0.0 inv.goes.2 m.2 c.in_err-take_row.ensures.fault)

pub returns : goal.returns
returns c =
    let inv = c.loop-row.invariant in
    let s = rw c.in-None.is at ((c.next.ensures.steps inv.left inv.trim).0 inv.ready) in
    let old = c.loop-row.row-iterator.rdr in
    let none = rows-end (λ (s : Bor (List ℕ)). Some s.now) old c.next.new.self.rdr [] default_config inv.goes.0 inv.config inv.goes.1 s in
    ends c.args.text.now inv.goes.0 old.state c.loop-row.line c.loop-row.draft c.complete_at.result inv.goes.2 none c.complete_at.ensures
