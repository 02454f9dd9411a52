use Rattle.std.proofs.Common.{◌∙◌, ap, drop, arith, length, ◌-◌}
use Rattle.std.proofs.lemmas.List.{length-take}
use Rattle.shelf_lines.proofs.Windows.{slice_range-skip}
use Rattle.shelf_lines.proofs.window.Window.skip.Goals as goal

pub returns : goal.returns
returns c =
    let w = c.self.inside in
    slice_range-skip w.buffer.items w.start w.end c.args.count
    (omega (arith, ap length c.self.view_is, length-take (w.end - w.start) (drop w.start w.buffer.items)))
    ∙ ap (drop c.args.count) c.self.view_is
