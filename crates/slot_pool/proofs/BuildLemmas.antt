-- How the tree of the free slots is built, slot by slot.
use Rattle.std.proofs.Common.{◌≡◌, ◌⊎◌, ℕ, ◌+◌, ◌-◌, ◌*◌, ◌%◌, ◌^◌, ◌<◌, ◌≤◌, min, List, length, get_or, replicate, true, sym, ap, ◌∙◌, inl, inr, arith}
use Rattle.std.proofs.lemmas.Bool.{cases_eq}
use Rattle.std.proofs.lemmas.List.{get_or_past, get_or-replicate, length-replicate}
use Rattle.std.proofs.lemmas.Nat.Bits.{bit_at-zero}
use Rattle.std.specs.Int.{div_ceil}
use Rattle.slot_pool.specs.Nodes.{parent, bit_of, first_below, flags_from, IsSummary, ChangesLeaf, IsTree}
use Rattle.slot_pool.proofs.FlagLemmas.{flags-all}

-- of so many slots the first ones have their bits
pub record IsFilled (words : List ℕ) (first slot count : ℕ) : Type 0 where
  pub words_above : length words ≤ first
  pub room : first + count ≤ 64 * length words + 1
  pub summary : IsSummary words
  pub set : (k : ℕ) → k < slot → bit_of words (first + k) ≡ 1
  pub slots_only : (node : ℕ) → length words ≤ node → bit_of words node ≡ 1 → (first ≤ node) × (node < first + slot)

cases_within : (a b : ℕ) → (a < b) ⊎ (b ≤ a)
cases_within a b = grind arith

no_word : (n k : ℕ) → get_or {A = ℕ} (replicate {A = ℕ} n 0) k 0 ≡ 0
no_word n k =
    elim (cases_within k n) [
      | inl within ↦ get_or-replicate n k 0 0 within
      | inr past ↦ get_or_past (replicate n 0) k 0 (omega (arith, length-replicate {A = ℕ} n 0))
    ]

no_bit : (n node : ℕ) → bit_of (replicate {A = ℕ} n 0) node ≡ 0
unfolding bit_of
no_bit n node = rw (no_word n (parent node)) (bit_at-zero ((node - 1) % 64))

words_needed : (first count n : ℕ) → 1 ≤ first → count ≤ 63 * first + 1 → n ≡ div_ceil (first + count - 1) 64 → (n ≤ first) × (first + count ≤ 64 * n + 1)
words_needed first count n positive room needed = (grind arith, grind arith)

pub IsFilled-start : (words : List ℕ) (first count n : ℕ) → 1 ≤ first → count ≤ 63 * first + 1 → n ≡ div_ceil (first + count - 1) 64 → words ≡ replicate n 0 → IsFilled words first 0 count
unfolding IsSummary
IsFilled-start words first count n positive room needed zeros =
    let enough = words_needed first count n positive room needed in
    let many : length words ≡ n = ap length zeros ∙ length-replicate {A = ℕ} n 0 in
    record {
      words_above = omega (arith, enough.0);
      room = omega (arith, enough.1);
      summary = λ node one inside. rw zeros (no_bit n node ∙ ap (λ w. min 1 w) (sym (no_word n node)));
      set = λ k none. absurd (omega arith);
      slots_only = λ node past set. absurd (let none = rw zeros at set in omega (arith, none, no_bit n node));
    }

pub IsFilled-next : (words new : List ℕ) (first slot count : ℕ) → IsFilled words first slot count → slot < count → IsSummary new → ChangesLeaf words new (first + slot) 1 → IsFilled new first (slot + 1) count
IsFilled-next words new first slot count filled within summary changes =
    record {
      words_above = omega (arith, changes.same_length, filled.words_above);
      room = omega (arith, changes.same_length, filled.room);
      summary = summary;
      set = λ k below. elim (cases_eq k slot) [
        | inl same ↦ rw same changes.changed
        | inr differs ↦ changes.others (first + k) (omega (arith, filled.words_above)) (λ same. differs (omega arith)) ∙ filled.set k (omega arith)
      ];
      slots_only = λ node past set. elim (cases_eq node (first + slot)) [
        | inl same ↦ (omega arith, omega arith)
        | inr differs ↦
            let before : length words ≤ node = omega (arith, changes.same_length) in
            let inside = filled.slots_only node before (sym (changes.others node before differs) ∙ set) in
            (inside.0, omega (arith, inside.1))
      ];
    }

pub IsTree-filled : (words : List ℕ) (levels first count : ℕ) → IsFilled words first count count → first ≡ first_below levels → first < 2 ^ 32 → 1 ≤ first → count ≤ 1000000 → IsTree words levels first count
IsTree-filled words levels first count filled node small positive few =
    record {
      first_node = node;
      words_above = filled.words_above;
      room = filled.room;
      first_small = small;
      count_small = few;
      positive = positive;
      summary = filled.summary;
      slots_only = filled.slots_only;
    }

pub flags-filled : (words : List ℕ) (first count : ℕ) → IsFilled words first count count → flags_from words first count ≡ replicate count true
flags-filled words first count filled = flags-all words first count filled.set
