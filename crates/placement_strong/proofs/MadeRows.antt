-- Rows as they are made: each variable is reckoned from that of centre 0.
use Rattle.std.proofs.Common.{◌≡◌, ℕ, ◌+◌, ◌*◌, List, [], ◌∷◌, map, refl, ap, ◌∙◌, pos}
use Rattle.workload.specs.World.{Lists, rule_of}
use Rattle.zero_one.specs.declared.rows.Entry.{Entry}
use Rattle.zero_one.specs.declared.rows.Row.{Row}
use Rattle.placement_rows.specs.Rows.{plus}
use Rattle.placement_strong.specs.Rows.{quorum_row}

entries-agree : (first : ℕ) (var : ℕ → ℕ) → ((d : ℕ) → first + d ≡ var d) → (ds : List ℕ) → map (λ d. plus (first + d)) ds ≡ map (λ d. plus (var d)) ds
entries-agree first var at [] = refl
entries-agree first var at (d ∷ ds) = ap (λ e. plus e ∷ map (λ d. plus (first + d)) ds) (at d) ∙ ap (λ es. plus (var d) ∷ es) (entries-agree first var at ds)

pub made-quorum_row : (w : Lists) (set first : ℕ) (var : ℕ → ℕ) (ps qs : List ℕ) → ((d : ℕ) → first + d ≡ var d) → ps ≡ qs
    → (row : Row) → row ≡ (let r : Row = record { entries = map (λ d. plus (first + d)) ps; bound = pos (2 * (rule_of w set).f + 1) } in r) → row ≡ quorum_row w set var qs
made-quorum_row w set first var ps qs at same row is =
    is
    ∙ ap (λ ds. let r : Row = record { entries = map (λ d. plus (first + d)) ds; bound = pos (2 * (rule_of w set).f + 1) } in r) same
    ∙ ap (λ (es : List Entry). let r : Row = record { entries = es; bound = pos (2 * (rule_of w set).f + 1) } in r) (entries-agree first var at qs)
