use Rattle.std.proofs.Common.{◌≡◌, ◌+◌, sym, ◌∙◌, ap, ◌++◌, length, take, drop, arith, List, ℕ}
use Rattle.std.proofs.lemmas.List.{length-drop, with_items_is}
use Rattle.std.specs.Prelude.{slice_range}
use Rattle.shelf_lines.proofs.Windows.{slice_range-more}
use Rattle.shelf_lines.proofs.window.Window.read.Goals as goal

pub returns-clause-adds : goal.returns-clause-adds
returns-clause-adds g c =
    let start = c.make_room.new.start in
    let end = c.make_room.new.end in
    let held = c.make_room.new.buffer in
    let buffer = c.read_behind.new.buffer in
    let n = c.in_ok-count.count in
    let piece = drop end buffer in
    let kept : take end buffer ≡ take end held.items = c.in_ok-count.ensures.kept ∙ ap (take end) c.as_mut_slice.ensures.value in
    let size : length buffer ≡ held.len = c.read_behind.auto.buffer ∙ ap length c.as_mut_slice.ensures.value ∙ sym held.ok.0 in (
      piece,
      omega (arith, length-drop end buffer, c.in_ok-count.ensures.within),
      c.in_ok-count.ensures.reads,
      ap (λ (t : List ℕ). slice_range t start (end + n)) (with_items_is held buffer size)
          ∙ slice_range-more held.items buffer start end n c.make_room.ensures.order kept
          ∙ ap (λ (t : List ℕ). t ++ take n piece) (c.make_room.ensures.bytes ∙ c.self.view_is),
    )
