-- The lines of a table are tested one after another, each with those after it.
use Rattle.std.proofs.Common.{◌≡◌, ◌≢◌, ℕ, ◌+◌, ◌-◌, ◌<◌, List, length, take, drop, get_or, false, ap, ◌∙◌, sym, subst, arith}
use Rattle.std.specs.List.{All}
use Rattle.std.proofs.lemmas.List.{get_or_default, get_or-drop, take_all}
use Rattle.std.proofs.Math.ListN.{length-drop}
use borrow.Author.Count.{below_more}
use Rattle.epoch_directory.specs.declared.table.SetPolicy.{SetPolicy}
use Rattle.epoch_directory.specs.State.{State}
use Rattle.epoch_directory.specs.Tables.{IsNextTable}
use Rattle.epoch_directory.specs.NextLines.{IsNextLine}

-- the first n lines are good, and none of them has the set of a later line
pub record AreGood (state : State) (table : List SetPolicy) (n : ℕ) : Type 0 where
  pub lines : (k : ℕ) (d : SetPolicy) → k < n → IsNextLine state (get_or table k d)
  pub apart : (i j : ℕ) (d : SetPolicy) → i < n → i < j → j < length table → (get_or table i d).set.0 ≢ (get_or table j d).set.0

-- what stands behind the line of this number
abbrev pub behind : List SetPolicy → ℕ → List SetPolicy
behind table n = take (length table - (n + 1)) (drop (n + 1) table)

-- the line may stand before these
abbrev pub MayStand : State → SetPolicy → List SetPolicy → Type 0
MayStand state line later = IsNextLine state line × All (λ (other : SetPolicy). line.set.0 ≢ other.set.0) later

behind_is : (table : List SetPolicy) (n : ℕ) → behind table n ≡ drop (n + 1) table
behind_is table n = take_all (length table - (n + 1)) (drop (n + 1) table) (omega (arith, length-drop (n + 1) table))

behind_length : (table : List SetPolicy) (n : ℕ) → length (behind table n) ≡ length table - (n + 1)
behind_length table n = ap length (behind_is table n) ∙ length-drop (n + 1) table

behind_at : (table : List SetPolicy) (n k : ℕ) (d : SetPolicy) → get_or (behind table n) k d ≡ get_or table (n + 1 + k) d
behind_at table n k d = ap (λ xs. get_or xs k d) (behind_is table n) ∙ get_or-drop (n + 1) table k d

-- one line more
pub good_more : (state : State) (table : List SetPolicy) (n : ℕ) (line : SetPolicy) → n < length table → line ≡ get_or table n line → AreGood state table n → MayStand state line (behind table n) → AreGood state table (n + 1)
good_more state table n line within is good may = record {
  lines = λ k d below. below_more (λ (i : ℕ). (d : SetPolicy) → IsNextLine state (get_or table i d)) n (λ i under e. good.lines i e under) (λ e. subst (IsNextLine state) (here e) may.0) k below d;
  apart = λ i j d below. below_more (λ (a : ℕ). (b : ℕ) (e : SetPolicy) → a < b → b < length table → (get_or table a e).set.0 ≢ (get_or table b e).set.0) n (λ a under b e. good.apart a b e under) last i below j d;
} where
  here : (e : SetPolicy) → line ≡ get_or table n e
  here e = is ∙ get_or_default table n line e within

  last : (b : ℕ) (e : SetPolicy) → n < b → b < length table → (get_or table n e).set.0 ≢ (get_or table b e).set.0
  last b e lt inside same =
      let k : ℕ = b - (n + 1) in
      let at : get_or (behind table n) k e ≡ get_or table b e = behind_at table n k e ∙ ap (λ m. get_or table m e) (omega (arith, lt)) in
      may.1 k e (omega (arith, lt, inside, behind_length table n))
      (ap (λ (l : SetPolicy). l.set.0) (here e) ∙ same ∙ ap (λ (l : SetPolicy). l.set.0) (sym at))

-- each line of a table that may be published may stand where it does
pub may_stand : (state : State) (table : List SetPolicy) (n : ℕ) (line : SetPolicy) → n < length table → line ≡ get_or table n line → IsNextTable state table → MayStand state line (behind table n)
may_stand state table n line within is next = (
  subst (IsNextLine state) (sym is) (record { exists = next.exist n line within; mode = next.modes n line within; sound = next.sound n line within }),
  λ k e inside same.
      let bound : n + 1 + k < length table = omega (arith, inside, behind_length table n) in
      next.once n (n + 1 + k) e (omega arith) bound
      (ap (λ (l : SetPolicy). l.set.0) (sym (is ∙ get_or_default table n line e within)) ∙ same ∙ ap (λ (l : SetPolicy). l.set.0) (behind_at table n k e)),
)
