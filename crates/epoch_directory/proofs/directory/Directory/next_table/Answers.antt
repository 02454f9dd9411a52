use Rattle.std.proofs.Common.{◌≡◌, ◌∷◌, [], ◌++◌, ap, ◌∙◌, refl, rules, arith}
use Rattle.std.specs.Prelude.{unwrap_or}
use Rattle.std.proofs.lemmas.List.FromFn.{map-range_with_len_more}
use Rattle.epoch_directory.specs.State.{latest, policy_in}
use Rattle.epoch_directory.specs.Tables.{policy_after}
use Rattle.epoch_directory.proofs.directory.Directory.next_table.Goals as goal

pub loop-number-preserved : goal.loop-number-preserved
loop-number-preserved c =
    let s = c.args.self.now in
    let n = c.loop-number.number in
    let before = c.loop-number.invariant in
    let here : c.in_ok-next_policy.field-0 ≡ policy_after s c.args.table.items n = c.in_ok-next_policy.ensures.policy ∙ ap (λ o. unwrap_or o (policy_in s (latest s) n)) (before.1 n (omega arith)) in
    let pushed : c.push.new.self.items ≡ c.loop-number.policies.items ++ c.in_ok-next_policy.field-0 ∷ [] = search rules in
    (rw (pushed, before.0, here, map-range_with_len_more (policy_after s c.args.table.items) 0 n n (omega arith)) refl, λ set after. c.next_policy.ensures.rest set (λ same. absurd (omega arith)) ∙ before.1 set (omega arith))
