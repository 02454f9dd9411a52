use Rattle.std.proofs.Common.{◌≡◌, ℕ, ◌+◌, ◌-◌, ◌≤◌, List, ◌++◌, length, take, refl, sym, ◌∙◌, ap, subst, arith, append_assoc, length-append}
use Rattle.std.proofs.lemmas.List.{take_all, append-nil, length-take, take-append-le}
use Rattle.std.proofs.lemmas.Result.{err_from_is_err_and}
use Rattle.shelf_lines.specs.Lines.{IsLine, Begins, IsFile}
use Rattle.shelf_lines.specs.Finds.{IsRest}
use Rattle.shelf_lines.proofs.Bytes.{Begins-more, IsFile-read}
use Rattle.shelf_lines.proofs.Stops.{FeedsAt, found_in, unfound_in, StopsAt-limit, StopsAt-shelf}
use Rattle.shelf_lines.proofs.reader.find.Goals as goal

pub returns-in_err-allow-clause-finds : goal.returns-in_err-allow-clause-finds
returns-in_err-allow-clause-finds g c = (λ front here begins.
    let inv = c.search.invariant in
    let files = g.S.Shelf.files c.args.shelf.now in
    let feeds : FeedsAt c.search.window (c.search.searched + c.in-Some.at) =
    found_in c.search.window c.bytes-bytes.result.now c.search.searched c.in-Some.at c.bytes-bytes.ensures inv.within inv.line c.in-Some.ensures in
    let p = err_from_is_err_and c.from_residual.result c.from_residual.ensures.1 in
    rw (p.1, p.2)
    (StopsAt-limit files c.args.name.now front c.search.window c.args.line_limit c.args.file_limit (c.args.file_limit - c.args.given)
    (c.search.searched + c.in-Some.at) (c.search.searched + c.in-Some.at + 1) c.in_err-allow.field-0.0
    (omega arith) (omega arith) feeds.there feeds.line (inv.front front here begins) c.in_err-allow.ensures))

pub returns-in-Some-clause-within : goal.returns-in-Some-clause-within
returns-in-Some-clause-within g c =
    let inv = c.search.invariant in
    let feeds : FeedsAt c.search.window (c.search.searched + c.in-Some.at) =
    found_in c.search.window c.bytes-bytes.result.now c.search.searched c.in-Some.at c.bytes-bytes.ensures inv.within inv.line c.in-Some.ensures in
    record { line = feeds.line; there = feeds.there; feed = feeds.feed; short = c.in_ok-allow.ensures.0; within = c.in_ok-allow.ensures.1 }

pub returns-in_err-allow-2-clause-finds : goal.returns-in_err-allow-2-clause-finds
returns-in_err-allow-2-clause-finds g c = (λ front here begins.
    let inv = c.search.invariant in
    let files = g.S.Shelf.files c.args.shelf.now in
    let line : IsLine c.search.window =
    unfound_in c.search.window c.bytes-bytes.result.now c.search.searched c.memchr.result c.bytes-bytes.ensures inv.line c.memchr.ensures (λ at is. c.in_default.not-Some at is) in
    let size : length c.bytes-bytes.result.now ≡ length c.search.window = ap length c.bytes-bytes.ensures in
    let all : take (length c.bytes-bytes.result.now) c.search.window ≡ c.search.window = take_all _ _ (omega arith) in
    let p = err_from_is_err_and c.from_residual-in_err-allow-2.result c.from_residual-in_err-allow-2.ensures.1 in
    rw (p.1, p.2)
    (StopsAt-limit files c.args.name.now front c.search.window c.args.line_limit c.args.file_limit (c.args.file_limit - c.args.given)
    (length c.bytes-bytes.result.now) (length c.bytes-bytes.result.now) c.in_err-allow-2.field-0.0
    (omega arith) (omega arith) (omega arith) (subst IsLine (sym all) line) (inv.front front here begins) c.in_err-allow-2.ensures))

pub returns-then-count-eq0-clause-within : goal.returns-then-count-eq0-clause-within
returns-then-count-eq0-clause-within g c =
    let inv = c.search.invariant in
    let adds = c.in_ok-count.ensures.adds in
    let same : c.read.new.self ≡ c.search.window =
    adds.3 ∙ ap (λ (n : ℕ). c.search.window ++ take n adds.0) c.if-count-eq0.true ∙ append-nil c.search.window in
    let line : IsLine c.search.window =
    unfound_in c.search.window c.bytes-bytes.result.now c.search.searched c.memchr.result c.bytes-bytes.ensures inv.line c.memchr.ensures (λ at is. c.in_default.not-Some at is) in
    let size : length c.bytes-bytes.result.now ≡ length c.search.window = ap length c.bytes-bytes.ensures in
    subst (λ (t : List ℕ). IsRest t c.args.line_limit (c.args.file_limit - c.args.given)) (sym same)
    (record { line = line; short = omega (arith, c.in_ok-allow-2.ensures.0); within = omega (arith, c.in_ok-allow-2.ensures.1) })

pub returns-then-count-eq0-clause-finds : goal.returns-then-count-eq0-clause-finds
returns-then-count-eq0-clause-finds g c = (λ front here begins.
    let inv = c.search.invariant in
    let files = g.S.Shelf.files c.args.shelf.now in
    let adds = c.in_ok-count.ensures.adds in
    let none : c.in_ok-count.count ≡ 0 = c.if-count-eq0.true in
    let same : c.read.new.self ≡ c.search.window =
    adds.3 ∙ ap (λ (n : ℕ). c.search.window ++ take n adds.0) none ∙ append-nil c.search.window in
    let size : length c.bytes-bytes.result.now ≡ length c.search.window = ap length c.bytes-bytes.ensures in
    subst (λ (t : List ℕ). IsFile files c.args.name.now (front ++ t)) (sym same)
    (IsFile-read files (g.S.Shelf.files c.search.shelf) c.args.name.now (front ++ c.search.window) adds.0 (c.args.given + length c.bytes-bytes.result.now)
    inv.files_stay (omega (arith, length-append front c.search.window)) (rw none at adds.2) (inv.front front here begins)))

pub search-preserved : goal.search-preserved
search-preserved g c =
    let inv = c.search.invariant in
    let files = g.S.Shelf.files c.args.shelf.now in
    let adds = c.in_ok-count.ensures.adds in
    let n = c.in_ok-count.count in
    let line : IsLine c.search.window =
    unfound_in c.search.window c.bytes-bytes.result.now c.search.searched c.memchr.result c.bytes-bytes.ensures inv.line c.memchr.ensures (λ at is. c.in_default.not-Some at is) in
    let size : length c.bytes-bytes.result.now ≡ length c.search.window = ap length c.bytes-bytes.ensures in
    let longer : length c.read.new.self ≡ length c.search.window + length (take n adds.0) = ap length adds.3 ∙ length-append c.search.window (take n adds.0) in
    let before : take (length c.bytes-bytes.result.now) c.read.new.self ≡ c.search.window =
    ap (λ (t : List ℕ). take (length c.bytes-bytes.result.now) t) adds.3
    ∙ take-append-le (length c.bytes-bytes.result.now) c.search.window (take n adds.0) (omega arith)
    ∙ take_all (length c.bytes-bytes.result.now) c.search.window (omega arith) in
    record {
      within = omega arith;
      line = subst IsLine (sym before) line;
      front = (λ front here begins.
          subst (λ (t : List ℕ). Begins files c.args.name.now (front ++ t)) (sym adds.3)
          (subst (Begins files c.args.name.now) (append_assoc front c.search.window (take n adds.0))
          (Begins-more files (g.S.Shelf.files c.search.shelf) c.args.name.now (front ++ c.search.window) adds.0 (c.args.given + length c.bytes-bytes.result.now) n
          inv.files_stay (omega (arith, length-append front c.search.window)) adds.2 (inv.front front here begins))));
      files_stay = c.in_ok-count.ensures.files_stay ∙ inv.files_stay;
      faults_stay = omega (arith, c.in_ok-count.ensures.faults_stay);
      absences_stay = omega (arith, c.in_ok-count.ensures.absences_stay);
    }
