use Rattle.std.proofs.Common.{◌≡◌, ◌++◌, ◌∙◌, cond, [], ◌∷◌, map, pos, w32, to_z, of_z, sym, ap, arith}
use Rattle.std.specs.List.{enumerate_from, filter, range_with_len}
use Rattle.std.proofs.lemmas.Int.{ints}
use Rattle.std.proofs.lemmas.List.{append_assoc}
use Rattle.workload.specs.World.{centre_count, rule_of}
use Rattle.workload.specs.declared.rules.SetRule.{SetRule}
use Rattle.zero_one.specs.declared.rows.Row.{Row}
use Rattle.placement_rows.specs.Rows.{plus}
use Rattle.placement_rows.specs.Providers.{numbered_providers, keeps_replica, enough_providers}
use Rattle.placement_rows.specs.FirstCentres.{is_first, kept_by}
use Rattle.placement_rows.proofs.FoundCentres.{firsts-are, rows-are}
use Rattle.placement_rows.proofs.providers.push_provider_rows.Goals as goal

pub returns : goal.returns
returns c =
    let w = c.args.world.now in
    let set = c.args.set.0 in
    let firsts = c.args.firsts.now in
    let first = c.args.first in
    let keeping = c.args.keeping.now in
    let rows = c.args.rows.now.items in
    let end : c.loop-d.d ≡ centre_count w = omega arith in
    let made = map (keeps_replica w keeping) (numbered_providers w first) in
    let enough = enough_providers w set first in
    let entries : c.from_vec.result ≡ map (λ ze. plus ze.0) (numbered_providers w first) =
    c.from_vec.ensures
    ∙ c.loop-d.invariant.1
    ∙ ap (λ n. map (λ ze. plus ze.0) (enumerate_from first (filter (is_first firsts) (range_with_len 0 n)))) end
    ∙ ap (λ ds. map (λ ze. plus ze.0) (enumerate_from first ds)) (firsts-are w set firsts c.requires.found c.requires.asked) in
    let asked = ap (λ (r : SetRule). r.providers) c.rule.ensures.rule in
    let least = to_z w32 (of_z w32 c.from-2.result) in
    let bound : least ≡ pos (rule_of w set).providers = omega (arith, ints, asked) in
    c.in_ok-push-3.ensures.items
    ∙ ap (λ es. c.loop-d.rows.items ++ (let r : Row = record { entries = es; bound = least } in r) ∷ []) entries
    ∙ ap (λ b. c.loop-d.rows.items ++ (let r : Row = record { entries = map (λ ze. plus ze.0) (numbered_providers w first); bound = b } in r) ∷ []) bound
    ∙ ap (λ rs. rs ++ enough ∷ [])
    (c.loop-d.invariant.0
    ∙ ap (λ n. rows ++ map (kept_by firsts keeping) (enumerate_from first (filter (is_first firsts) (range_with_len 0 n)))) end
    ∙ ap (λ rs. rows ++ rs) (rows-are w set firsts c.requires.found c.requires.asked first keeping c.requires.centres))
    ∙ append_assoc rows made (enough ∷ [])
    ∙ ap (λ b. rows ++ cond b (made ++ enough ∷ []) []) (sym c.requires.asked)
