use Rattle.std.proofs.Common.{◌<◌, ◌++◌, ◌∙◌, ℕ, List, get_or, map, sym, ap, arith}
use Rattle.std.specs.List.{flat_map, range_with_len}
use Rattle.std.proofs.lemmas.List.{append_assoc}
use Rattle.span_base.specs.DcSet.{no_centre as no_dc}
use Rattle.workload.specs.World.{rule_of}
use Rattle.slo_rules.specs.Rules.{is_write_near}
use Rattle.placement_rows.specs.Centres.{write_near}
use Rattle.placement_rows.proofs.NearCentres.{write-sets-long, write-set-at}
use Rattle.placement_strong.specs.Variables.{member_count, member_at, w_var}
use Rattle.placement_strong.proofs.CentreSets.{kept_places}
use Rattle.placement_rows.proofs.Loops.{pieces_next}
use Rattle.placement_strong.proofs.rows.push_write_keepers.Goals as goal

pub bounds-writing-from : goal.bounds-writing-from
bounds-writing-from c = omega (arith, write-sets-long c.args.world.now c.args.set.0 c.args.writing.now c.requires.writing)

pub loop-a-preserved : goal.loop-a-preserved
loop-a-preserved c =
    let w = c.args.world.now in
    let set = c.args.set.0 in
    let a = c.loop-a.a in
    let vars = c.args.vars.now.items in
    let pieces : ℕ → List (ℕ × ℕ) = λ a. map (λ d. (w_var w set a d, d)) (write_near w set (member_at w set a)) in
    let low : a < member_count w set = omega arith in
    let near = write-set-at w set c.args.writing.now c.requires.writing a c.from.result (omega arith) low in
    let kept = kept_places w c.requires.strong.complete.few_centres (is_write_near w (rule_of w set) (member_at w set a).dc.0) c.first_write-first.result (w_var w set a) (get_or c.args.writing.now c.from.result no_dc) near (λ d. omega arith) in
    c.in_ok-push_keepers.ensures
    ∙ ap (λ ks. c.loop-a.vars.items ++ ks) kept
    ∙ ap (λ vs. vs ++ pieces a) c.loop-a.invariant
    ∙ append_assoc vars (flat_map pieces (range_with_len 0 a)) (pieces a)
    ∙ ap (λ ks. vars ++ ks) (sym (pieces_next pieces a))
