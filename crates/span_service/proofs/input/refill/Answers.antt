use Rattle.std.proofs.Common.{◌≡◌, ◌+◌, ◌-◌, length, take, drop, sym, ap, nat_lt, arith, length-drop, length-take, List, ℕ, ◌++◌}
use borrow.Rule.Slice.PartMut.{put_mid, post_of}
use Rattle.span_service.proofs.Refilling.{read_more, longer}
use Rattle.span_service.proofs.input.refill.Goals as goal

pub returns-clause-fills : goal.returns-clause-fills
returns-clause-fills g c =
    let all = c.args.bytes.now in
    let kept = c.args.to - c.args.from in
    let old = drop c.args.from (take c.args.to all) in
    let size : length old ≡ kept = omega (arith, length-drop c.args.from (take c.args.to all), length-take c.args.to all, c.requires.within) in (
      omega arith,
      read_more (g.S.Stream.coming c.args.stream.now) (g.S.Stream.coming c.read.new.self) old c.read.new.buf
          (post_of kept (length c.move_to_front.new.bytes - kept) c.move_to_front.new.bytes)
          (put_mid kept (length c.move_to_front.new.bytes - kept) c.move_to_front.new.bytes c.read.new.buf)
          (ap (λ (l : List ℕ). l ++ (c.read.new.buf ++ post_of kept (length c.move_to_front.new.bytes - kept) c.move_to_front.new.bytes)) c.move_to_front.ensures.front)
          kept c.in_ok-count.count (nat_lt kept (kept + c.in_ok-count.count)) (sym size) c.in_ok-count.ensures.within c.in_ok-count.ensures.gives
          (longer kept c.in_ok-count.count).0 (longer kept c.in_ok-count.count).1,
    )
