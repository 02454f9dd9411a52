use Rattle.std.proofs.Common.{◌≡◌, ◌∙◌, ◌++◌, List, ℕ, ap, sym}
use Rattle.joint_plan.specs.JointText.{machines_words}
use Rattle.joint_plan.proofs.Numbers.{says_machines, says_none}
use Rattle.joint_plan.proofs.fleet.told_number.Goals as goal

pub returns-in-Some : goal.returns-in-Some
returns-in-Some c =
    let w = c.args.world.now in
    let d = c.args.dc.0 in
    let words_is : c.as_bytes.result.now ≡ machines_words w d = c.as_bytes.ensures.value ∙ c.in_ok-push_machines_words.ensures ∙ ap (λ (t : List ℕ). t ++ machines_words w d) c.new-words.ensures.bytes in
    says_machines w d c.args.line.now c.in-Some.digits.now c.number_in.result (c.in-Some.ensures ∙ ap (λ (t : List ℕ). t ++ c.in-Some.digits.now) words_is) c.number_in.ensures

pub returns : goal.returns
returns c =
    let w = c.args.world.now in
    let d = c.args.dc.0 in
    let words_is : c.as_bytes.result.now ≡ machines_words w d = c.as_bytes.ensures.value ∙ c.in_ok-push_machines_words.ensures ∙ ap (λ (t : List ℕ). t ++ machines_words w d) c.new-words.ensures.bytes in
    says_none w d c.args.line.now (λ rest is. c.in-None.ensures rest (is ∙ ap (λ (t : List ℕ). t ++ rest) (let e : machines_words w d ≡ c.as_bytes.result.now = sym words_is in e)))
