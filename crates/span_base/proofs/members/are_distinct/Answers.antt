use Rattle.std.proofs.Common.{◌≡◌, ◌<◌, ◌≤◌, map, length, slice_index, sym, ap, ◌∙◌, refl, subst, true}
use Rattle.std.proofs.Math.Bool.{true≢false}
use Rattle.std.proofs.lemmas.List.{get_or-map, length-map}
use Rattle.span_base.specs.DcSet.{has}
use Rattle.span_base.proofs.Distinct.{all_different, high_refuses, seen_refuses, DistinctSoFar-more}
use Rattle.span_base.proofs.members.are_distinct.Goals.{then-centre-ge-CENTRES-via-then-centre-ge-CENTRES, then-centre-ge-CENTRES-via-else-centre-ge-CENTRES+then-has}
use Rattle.span_base.proofs.members.are_distinct.Goals as goal

pub returns-then-centre-ge-CENTRES : goal.returns-then-centre-ge-CENTRES
returns-then-centre-ge-CENTRES g c =
    let f = g.M.Member.centre in
    let xs = c.args.members.now in
    let i = c.loop-member.member-index in
    let is : c.centre-centre.result.0 ≡ slice_index (map f xs) i =
    c.centre-centre.ensures ∙ ap f c.member-item.is ∙ sym (get_or-map f xs i c.member-item.result 0 c.loop-member-test.true) in
    let within : i < length (map f xs) = subst (λ n. i < n) (sym (length-map xs f)) c.loop-member-test.true in
    elim c.then-centre-ge-CENTRES.branch [
      | then-centre-ge-CENTRES-via-then-centre-ge-CENTRES w ↦
          (λ h. absurd (true≢false (sym h)), λ all. absurd (high_refuses (map f xs) i within (subst (λ x. 16 ≤ x) is w.if-centre-ge-CENTRES.true) all))
      | then-centre-ge-CENTRES-via-else-centre-ge-CENTRES+then-has w ↦ (
        λ h. absurd (true≢false (sym h)),
        λ all. absurd (seen_refuses (map f xs) i c.loop-member.seen c.loop-member.invariant within (subst (λ x. has c.loop-member.seen x ≡ true) is (sym w.if-has.ensures.member)) all),
      )
    ]

pub loop-member-preserved : goal.loop-member-preserved
loop-member-preserved g c =
    let f = g.M.Member.centre in
    let xs = c.args.members.now in
    let i = c.loop-member.member-index in
    let is : c.centre-centre.result.0 ≡ slice_index (map f xs) i =
    c.centre-centre.ensures ∙ ap f c.member-item.is ∙ sym (get_or-map f xs i c.member-item.result 0 c.loop-member-test.true) in
    DistinctSoFar-more (map f xs) i c.loop-member.seen c.with-seen.result c.centre-centre.result.0 c.loop-member.invariant is c.if-centre-ge-CENTRES.false
    (sym c.if-has.ensures.member) c.with-seen.ensures.same c.with-seen.ensures.other

pub returns : goal.returns
returns g c =
    let f = g.M.Member.centre in
    let xs = c.args.members.now in (
      λ _. all_different (map f xs) c.loop-member.member-index c.loop-member.seen c.loop-member.invariant
          (subst (λ n. n ≤ c.loop-member.member-index) (sym (length-map xs f)) c.loop-member-test.false),
      λ _. refl,
    )
