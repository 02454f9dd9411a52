use Rattle.std.proofs.Common.{sym, ap, ◌∙◌, arith, [], ◌∷◌, ◌++◌}
use Rattle.wire_msg.specs.Posts.{to_proxy}
use Rattle.replica_core.proofs.Onward.{so_far, pushes_start, pushes_there, pushes_not_there, pushes_end}
use Rattle.replica_core.proofs.push.Push.posts.Goals as goal
use Rattle.replica_core.proofs.push.Push.posts.Goals.{then-has+in_ok-post+in_ok-push, else-has}

pub loop-d-init : goal.loop-d-init
loop-d-init c =
    let p = c.args.self.now in (
      c.in_ok-posts.ensures ∙ ap (to_proxy p.tag) c.done.ensures ∙ sym (pushes_start c.args.number p.tag p.key p.stamp p.value.now c.args.onward),
      omega arith,
    )

pub loop-d-preserved : goal.loop-d-preserved
loop-d-preserved c =
    let p = c.args.self.now in
    let so_far_is = c.loop-d.invariant.0 in
    elim c.if-has.branch [
      | then-has+in_ok-post+in_ok-push w ↦ (
        rw w.posts-is (
            w.in_ok-push.ensures.ok
            ∙ ap (λ posts. posts ++ w.in_ok-post.field-0 ∷ []) so_far_is
            ∙ ap (λ post. so_far c.args.number p.tag p.key p.stamp p.value.now c.args.onward c.loop-d.d ++ post ∷ []) w.in_ok-post.ensures
            ∙ sym (pushes_there c.args.number p.tag p.key p.stamp p.value.now c.args.onward c.loop-d.d (sym c.has.ensures.member ∙ w.if-has.true))),
        omega arith,
      )
      | else-has w ↦ (
        rw w.posts-is (
            so_far_is
            ∙ sym (pushes_not_there c.args.number p.tag p.key p.stamp p.value.now c.args.onward c.loop-d.d (sym c.has.ensures.member ∙ w.if-has.false))),
        omega arith,
      )
    ]

pub returns : goal.returns
returns c =
    let p = c.args.self.now in
    c.loop-d.invariant.0
    ∙ pushes_end c.args.number p.tag p.key p.stamp p.value.now c.args.onward c.loop-d.d c.loop-d.auto.d-end c.loop-d-test.false
