-- How the free slots stand in a tree of words. No public clause cites this module.
use Rattle.std.specs.Prelude.{◌≡◌, ◌≢◌, ℕ, zero, suc, ◌+◌, ◌-◌, ◌*◌, ◌/◌, ◌%◌, ◌^◌, ◌<◌, ◌≤◌, ◌==◌, min, Bool, List, [], ◌∷◌, length, slice_index}
use Rattle.std.specs.Int.{bit_at}

-- the word above a node
abbrev pub parent : ℕ → ℕ
parent node = (node - 1) / 64

-- the bit of a node stands in the word above
unfoldable pub bit_of : List ℕ → ℕ → ℕ
bit_of words node = bit_at (slice_index words (parent node)) ((node - 1) % 64)

-- the first node below so many levels of words
abbrev pub first_below : ℕ → ℕ
first_below zero = 0
first_below (suc levels) = 64 * first_below levels + 1

-- the bit of each word but the root says whether the word has a bit
unfoldable pub IsSummary : List ℕ → Type 0
IsSummary words = (node : ℕ) → 1 ≤ node → node < length words → bit_of words node ≡ min 1 (slice_index words node)

-- the bit of a leaf has this value, and every other leaf keeps its bit
pub record ChangesLeaf (old new : List ℕ) (leaf value : ℕ) : Type 0 where
  pub same_length : length new ≡ length old
  pub changed : bit_of new leaf ≡ value
  pub others : (node : ℕ) → length old ≤ node → node ≢ leaf → bit_of new node ≡ bit_of old node

-- whether each of so many nodes has its bit, from this node on
abbrev pub flags_from : List ℕ → ℕ → ℕ → List Bool
flags_from words node zero = []
flags_from words node (suc count) = (bit_of words node == 1) ∷ flags_from words (node + 1) count

-- the words are the tree of the free slots among so many, below so many levels
pub record IsTree (words : List ℕ) (levels first count : ℕ) : Type 0 where
  pub first_node : first ≡ first_below levels
  pub words_above : length words ≤ first
  pub room : first + count ≤ 64 * length words + 1
  pub first_small : first < 2 ^ 32
  pub count_small : count ≤ 1000000
  pub positive : 1 ≤ first
  pub summary : IsSummary words
  pub slots_only : (node : ℕ) → length words ≤ node → bit_of words node ≡ 1 → (first ≤ node) × (node < first + count)
