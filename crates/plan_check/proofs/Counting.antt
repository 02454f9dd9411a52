-- Lines are counted by their line feeds, and a file that goes on has a next byte.
use Rattle.std.proofs.Common.{◌≡◌, ◌≢◌, ℕ, ◌+◌, ◌<◌, Bool, true, false, cond, List, [], ◌∷◌, ◌++◌, length, refl, sym, ap, ◌∙◌, subst, arith, append_assoc, length-append}
use Rattle.std.proofs.lemmas.Bool.{eqb-true}
use Rattle.std.proofs.lemmas.List.{append-nil}
use Rattle.std.proofs.lemmas.List.Sums.{sum_by-append, sum_by-cons}
use Rattle.std.proofs.lemmas.List.Elements.{All-head, All-tail}
use Rattle.std.proofs.Math.Seq.{append_snoc}
use Rattle.std.specs.Prelude.{Option, Some, None, ◌==◌}
use Rattle.span_base.specs.Files.{Files}
use Rattle.shelf_lines.specs.Lines.{IsLine, fed, Begins, BeginsFile, IsFile, Kept, IsNextLine, IsLastCut, IsLongLine, IsPastLimit}
use Rattle.shelf_lines.proofs.Bytes.{Begins-front}
use Rattle.plan_check.specs.Reading.{line_count}

-- what a byte counts
abbrev feeds : Bool → ℕ
feeds b = cond b 1 0

no_feed : (x : ℕ) → x ≢ 10 → feeds (x == 10) ≡ 0
no_feed x other = by (x == 10) refl
  where
    by : (b : Bool) → (x == 10) ≡ b → feeds b ≡ 0
    by true e = absurd (other (eqb-true x 10 e))
    by false e = refl

no_feeds : (line : List ℕ) → IsLine line → line_count line ≡ 0
no_feeds [] all = refl
no_feeds (x ∷ line) all =
    let here : feeds (x == 10) ≡ 0 = no_feed x (All-head (λ byte. byte ≢ 10) x line all) in
    let rest : line_count line ≡ 0 = no_feeds line (All-tail (λ byte. byte ≢ 10) x line all) in
    sum_by-cons (λ (byte : ℕ). feeds (byte == 10)) x line ∙ omega (arith, here, rest)

-- a line more
pub line_count-fed : (text line : List ℕ) → IsLine line → line_count (text ++ fed line) ≡ line_count text + 1
line_count-fed text line all =
    let f : ℕ → ℕ = λ byte. feeds (byte == 10) in
    let last : line_count (10 ∷ []) ≡ 1 = refl in
    sum_by-append f text (fed line) ∙ ap (λ n. line_count text + n) (sum_by-append f line (10 ∷ []) ∙ omega (arith, no_feeds line all, last))

-- a file that goes on has a next byte
pub next_byte : (files : Option Files) (name text more : List ℕ) → 0 < length more → Begins files name (text ++ more) → (byte : ℕ) × Begins files name (text ++ byte ∷ [])
next_byte files name text [] some begins = absurd (omega arith)
next_byte files name text (b ∷ more) some begins = (b, Begins-front files name (text ++ b ∷ []) more (subst (Begins files name) (sym (append_snoc text b more)) begins))

pub IsFile-begins : (files : Option Files) (name text : List ℕ) → IsFile files name text → Begins files name text
IsFile-begins None name text is = tt
IsFile-begins (Some files) name text is = subst (λ (o : Option (List ℕ)). BeginsFile o text) (sym is) ([], sym (append-nil text))

fed_some : (line : List ℕ) → 0 < length (fed line)
fed_some line = omega (arith, length-append line (10 ∷ []))

pub line_byte : (files : Option Files) (name text : List ℕ) (kept : Kept) → IsNextLine files name text kept → (byte : ℕ) × Begins files name (text ++ byte ∷ [])
line_byte files name text kept next =
    next_byte files name text (fed kept.line) (fed_some kept.line) (Begins-front files name (text ++ fed kept.line) kept.ahead next.passed.front)

pub cut_byte : (files : Option Files) (name text : List ℕ) (kept : Kept) → IsLastCut files name text kept → (byte : ℕ) × Begins files name (text ++ byte ∷ [])
cut_byte files name text kept cut = next_byte files name text kept.line cut.some (IsFile-begins files name (text ++ kept.line) cut.whole)

pub long_byte : (files : Option Files) (name text : List ℕ) (a b : ℕ) → IsLongLine files name text a b → (byte : ℕ) × Begins files name (text ++ byte ∷ [])
long_byte files name text a b long = next_byte files name text long.front (omega (arith, long.long)) long.there

pub past_byte : (files : Option Files) (name text : List ℕ) (a b : ℕ) → IsPastLimit files name text a b → (byte : ℕ) × Begins files name (text ++ byte ∷ [])
past_byte files name text a b past =
    next_byte files name text (past.front ++ past.past ∷ []) (omega (arith, length-append past.front (past.past ∷ [])))
    (subst (Begins files name) (append_assoc text past.front (past.past ∷ [])) past.there)
