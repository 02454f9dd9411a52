use Rattle.std.proofs.Common.{◌++◌, ◌∙◌, sym, ap, arith, map, take, [], ◌∷◌}
use Rattle.std.specs.List.{enumerate_from}
use Rattle.std.proofs.lemmas.List.{take_all, append_assoc}
use Rattle.std.proofs.lemmas.List.FromFn.{length-enumerate_from}
use Rattle.span_base.specs.DcSet.{centres_of, no_centre as no_dc}
use Rattle.placement_rows.specs.Rows.{at_least}
use Rattle.placement_rows.proofs.Loops.{numbered_next}
use Rattle.placement_relay.specs.Reading.{h}
use Rattle.placement_relay.proofs.rows.push_reads_somewhere.Goals as goal

pub loop-a-preserved : goal.loop-a-preserved
loop-a-preserved c =
    let w = c.args.world.now in
    let sets = c.args.near_sets.now in
    let a = c.loop-a.a in
    let rows = c.args.rows.now.items in
    let before = map (λ an. at_least 1 (h w an.0) (centres_of an.1)) (take a (enumerate_from 0 sets)) in
    c.in_ok-push.ensures.items
    ∙ ap (λ rs. rs ++ c.in_ok-reads_somewhere.field-0 ∷ []) c.loop-a.invariant
    ∙ append_assoc rows before (c.in_ok-reads_somewhere.field-0 ∷ [])
    ∙ ap (λ r. rows ++ (before ++ r ∷ [])) c.in_ok-reads_somewhere.ensures
    ∙ ap (λ rs. rows ++ rs) (sym (numbered_next (λ an. at_least 1 (h w an.0) (centres_of an.1)) sets a no_dc c.loop-a-test.true))

pub returns : goal.returns
returns c =
    let w = c.args.world.now in
    let sets = c.args.near_sets.now in
    c.loop-a.invariant
    ∙ ap (λ xs. c.args.rows.now.items ++ map (λ an. at_least 1 (h w an.0) (centres_of an.1)) xs)
    (take_all c.loop-a.a (enumerate_from 0 sets) (omega (arith, c.loop-a-test.false, length-enumerate_from 0 sets)))
