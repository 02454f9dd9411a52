-- How the search for the smallest free slot goes down the tree.
use Rattle.std.proofs.Common.{◌≡◌, ◌⊎◌, ℕ, zero, suc, ◌+◌, ◌-◌, ◌*◌, ◌%◌, ◌^◌, ◌<◌, ◌≤◌, List, length, get_or, ◌∙◌, inl, inr, arith}
use Rattle.std.proofs.lemmas.Bool.{cases_eq}
use Rattle.std.proofs.lemmas.List.{get_or_past}
use Rattle.std.proofs.lemmas.Grind.{get_or_default_zero}
use Rattle.std.proofs.lemmas.Nat.Bits.{bit_at-trailing_zeros}
use Rattle.std.specs.Int.{bit_at, trailing_zeros, w64}
use Rattle.slot_pool.specs.Nodes.{parent, bit_of, first_below, IsSummary, IsTree}
use Rattle.slot_pool.proofs.NodeLemmas.{word_above}

-- the node that stands so many levels above
abbrev pub above : ℕ → ℕ → ℕ
above node zero = node
above node (suc levels) = parent (above node levels)

cases_within : (a b : ℕ) → (a < b) ⊎ (b ≤ a)
cases_within a b = grind arith

-- lower levels begin later
pub first_below-mono : (i n : ℕ) → i ≤ n → first_below i ≤ first_below n
first_below-mono i zero le = rw (let none : i ≡ 0 = omega arith in none) (omega arith)
first_below-mono i (suc n) le =
    elim (cases_within n i) [
      | inl last ↦ let same : i ≡ suc n = omega arith in rw same (omega arith)
      | inr before ↦ omega (arith, first_below-mono i n before)
    ]

module _ (words : List ℕ) (summary : IsSummary words) where
  -- a word with its bit stands below a word with its bit
  pub bit_of-parent : (node : ℕ) → bit_of words node ≡ 1 → 1 ≤ parent node → bit_of words (parent node) ≡ 1
  unfolding IsSummary
  bit_of-parent node set positive =
      let over = word_above words node set in
      summary (parent node) positive over.0 ∙ omega (arith, over.1)

  -- a node with its bit leads up to a root with a bit
  pub root_has_bit : (fuel node : ℕ) → node ≤ fuel → 1 ≤ node → bit_of words node ≡ 1 → 0 < get_or words 0 0
  root_has_bit zero node within positive set = absurd (omega arith)
  root_has_bit (suc fuel) node within positive set =
      let over = word_above words node set in
      elim (cases_eq (parent node) 0) [
        | inl root ↦ rw root at over.1
        | inr inner ↦ root_has_bit fuel (parent node) (omega arith) (omega arith) (bit_of-parent node set (omega arith))
      ]

  -- each node above a slot with its bit has its bit, and stands in its level
  pub above_set : (slot : ℕ) → bit_of words slot ≡ 1 → (levels i all : ℕ) → all ≡ levels + suc i → first_below all ≤ slot → (first_below (suc i) ≤ above slot levels) × (bit_of words (above slot levels) ≡ 1)
  above_set slot set zero i all sum low =
      let same : all ≡ suc i = omega arith in
      (rw same at low, set)
  above_set slot set (suc levels) i all sum low =
      let below = above_set slot set levels (suc i) all (omega arith) low in
      let rise : first_below (suc i) ≤ parent (above slot levels) = omega (arith, below.0) in
      (rise, bit_of-parent (above slot levels) below.1 (omega arith))

-- the search stands at a node of level i that has its bit, and no slot with its bit is under an earlier node of that level
pub record IsFound (words : List ℕ) (levels first i node : ℕ) : Type 0 where
  pub low : first_below i ≤ node
  pub high : node ≤ 64 * first_below i
  pub set : 1 ≤ node → bit_of words node ≡ 1
  pub smallest : (slot : ℕ) → first ≤ slot → bit_of words slot ≡ 1 → node ≤ above slot (levels - i)

pub IsFound-root : (words : List ℕ) (levels first : ℕ) → IsFound words levels first 0 0
IsFound-root words levels first =
    record {
      low = omega arith;
      high = omega arith;
      set = λ positive. absurd (omega arith);
      smallest = λ slot low bit. omega arith;
    }

module _ (words : List ℕ) (levels first count i node : ℕ) (tree : IsTree words levels first count) (root : 0 < get_or words 0 0) (found : IsFound words levels first i node) where
  -- above the slots the search stands at a word with a bit
  pub found_word : i < levels → (node < length words) × (0 < get_or words node 0)
  unfolding IsSummary
  found_word inner =
      let next = first_below-mono (suc i) levels (omega arith) in
      let before : node < first = omega (arith, found.high, tree.first_node) in
      elim (cases_eq node 0) [
        | inl top ↦
            let some : 0 < length words =
            elim (cases_within 0 (length words)) [
              | inl some ↦ some
              | inr none ↦ absurd (omega (arith, get_or_past words 0 0 none))
            ] in
            (rw top some, rw top root)
        | inr lower ↦
            let bit = found.set (omega arith) in
            let inside : node < length words =
            elim (cases_within node (length words)) [
              | inl inside ↦ inside
              | inr past ↦ absurd (omega (arith, (tree.slots_only node past bit).0))
            ] in
            (inside, omega (arith, tree.summary node (omega arith) inside))
      ]

  -- no slot with its bit is under an earlier node than the lowest bit of that word leads to
  leads : (place : ℕ) → i < levels → place < 64 → ((k : ℕ) → k < place → bit_at (get_or words node 0) k ≡ 0) → (slot : ℕ) → first ≤ slot → bit_of words slot ≡ 1 → 64 * node + 1 + place ≤ above slot (levels - suc i)
  unfolding bit_of
  leads place inner small none slot low bit =
      let levels_left : levels - i ≡ suc (levels - suc i) = omega arith in
      let up = above_set words tree.summary slot bit (levels - suc i) i levels (omega arith) (omega (arith, tree.first_node)) in
      let least : node ≤ parent (above slot (levels - suc i)) = rw levels_left at (found.smallest slot low bit) in
      elim (cases_eq (parent (above slot (levels - suc i))) node) [
        | inl same ↦
            elim (cases_within ((above slot (levels - suc i) - 1) % 64) place) [
              | inl early ↦
                  let here = rw same at up.1 in
                  absurd (omega (arith, none ((above slot (levels - suc i) - 1) % 64) early, here))
              | inr late ↦ omega (arith, up.0)
            ]
        | inr later ↦ omega (arith, up.0)
      ]

  -- the lowest bit of that word leads on
  pub IsFound-next : (place : ℕ) → i < levels → place < 64 → bit_at (get_or words node 0) place ≡ 1 → ((k : ℕ) → k < place → bit_at (get_or words node 0) k ≡ 0) → IsFound words levels first (suc i) (64 * node + 1 + place)
  unfolding bit_of
  IsFound-next place inner small one none =
      let over : parent (64 * node + 1 + place) ≡ node = omega arith in
      let spot : (64 * node + 1 + place - 1) % 64 ≡ place = omega arith in
      record {
        low = omega (arith, found.low);
        high = omega (arith, found.high);
        set = λ positive. rw (over, spot) one;
        smallest = leads place inner small none;
      }

  -- the same, for the word as it is read
  pub IsFound-lowest : (word : ℕ) → word ≡ get_or words node word → word < 2 ^ 64 → i < levels → IsFound words levels first (i + 1) (64 * node + 1 + trailing_zeros w64 word)
  IsFound-lowest word read small inner =
      let at_word = found_word inner in
      let same : word ≡ get_or words node 0 = read ∙ get_or_default_zero words node word at_word.0 in
      let lowest = bit_at-trailing_zeros w64 word (rw (← same) at at_word.1) small in
      let one : bit_at (get_or words node 0) (trailing_zeros w64 word) ≡ 1 = rw (← same) lowest.1 in
      rw (let next : i + 1 ≡ suc i = omega arith in next) (IsFound-next (trailing_zeros w64 word) inner lowest.0 one (λ k early. rw (← same) (lowest.2 k early)))

  -- so the next node fits
  pub next_small : i < levels → (node < length words) × (64 * node + 1 + 64 < 2 ^ 64)
  next_small inner =
      let at_word = found_word inner in
      (at_word.0, omega (arith, tree.words_above, tree.first_small))

-- the search ends at a slot with its bit, and no earlier one has its bit
pub found_slot : (words : List ℕ) (levels first count node : ℕ) → IsTree words levels first count → IsFound words levels first levels node → (first ≤ node) × (node < first + count) × (bit_of words node ≡ 1) × ((slot : ℕ) → first ≤ slot → bit_of words slot ≡ 1 → node ≤ slot)
found_slot words levels first count node tree found =
    let low : first ≤ node = omega (arith, found.low, tree.first_node) in
    let bit = found.set (omega (arith, tree.positive)) in
    let inside = tree.slots_only node (omega (arith, tree.words_above)) bit in
    let none_left : levels - levels ≡ 0 = omega arith in
    (inside.0, inside.1, bit, λ slot past set. rw none_left at (found.smallest slot past set))
