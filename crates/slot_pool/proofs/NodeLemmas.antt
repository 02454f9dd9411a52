-- How a write of one word changes the bits of nodes, and how a change climbs to the root.
use Rattle.std.proofs.Common.{◌≡◌, ◌≢◌, ◌⊎◌, ℕ, ◌-◌, ◌*◌, ◌%◌, ◌<◌, ◌≤◌, min, List, length, get_or, set, refl, sym, ap, ◌∙◌, inl, inr, arith, length-set, get_or-set_same, get_or-set_other}
use Rattle.std.proofs.lemmas.Bool.{cases_eq}
use Rattle.std.proofs.lemmas.List.{get_or_past}
use Rattle.std.proofs.lemmas.Nat.Bits.{bit_at-zero}
use Rattle.std.specs.Int.{bit_at}
use Rattle.slot_pool.specs.Nodes.{parent, bit_of, IsSummary, ChangesLeaf}

-- the written word gives the node this bit
pub bit_of-set_same : (words : List ℕ) (node word value : ℕ) → parent node < length words → bit_at word ((node - 1) % 64) ≡ value → bit_of (set words (parent node) word) node ≡ value
unfolding bit_of
bit_of-set_same words node word value within given = rw (get_or-set_same words (parent node) word 0 within) given

-- the written word keeps each bit but the node's
pub bit_of-set_other : (words : List ℕ) (node word other : ℕ) → parent node < length words → 1 ≤ node → 1 ≤ other → other ≢ node → ((i : ℕ) → i < 64 → i ≢ (node - 1) % 64 → bit_at word i ≡ bit_at (get_or words (parent node) 0) i) → bit_of (set words (parent node) word) other ≡ bit_of words other
unfolding bit_of
bit_of-set_other words node word other within positive other_positive differs kept =
    elim (cases_eq (parent other) (parent node)) [
      | inl same ↦
          let place : (other - 1) % 64 ≢ (node - 1) % 64 = λ equal. differs (omega arith) in
          rw (same, get_or-set_same words (parent node) word 0 within) (kept ((other - 1) % 64) (omega arith) place)
      | inr apart ↦ rw (get_or-set_other words (parent node) (parent other) word 0 apart) refl
    ]

-- a word with a bit is not 0
pub bit_positive : (word place : ℕ) → bit_at word place ≡ 1 → 0 < word
bit_positive word place set =
    elim (cases_eq word 0) [
      | inl none ↦ absurd (let none_set = rw (none, bit_at-zero) at set in cc)
      | inr some ↦ omega arith
    ]

-- a node with its bit stands below a word that has a bit
pub word_above : (words : List ℕ) (node : ℕ) → bit_of words node ≡ 1 → (parent node < length words) × (0 < get_or words (parent node) 0)
unfolding bit_of
word_above words node set =
    let positive = bit_positive (get_or words (parent node) 0) ((node - 1) % 64) set in
    elim (cases_within (parent node) (length words)) [
      | inl within ↦ (within, positive)
      | inr past ↦ absurd (omega (arith, get_or_past words (parent node) 0 past))
    ]
  where
    cases_within : (a b : ℕ) → (a < b) ⊎ (b ≤ a)
    cases_within a b = grind arith

-- each bit is right but that of one node, above or at the leaf, whose word has the value already
pub record IsRising (old now : List ℕ) (leaf node value : ℕ) : Type 0 where
  pub kept_length : length now ≡ length old
  pub leaf_below : length now ≤ leaf
  pub leaf_positive : 1 ≤ leaf
  pub within : node ≤ 64 * length now
  pub start : (node ≡ leaf) ⊎ ((node < length now) × (bit_of now leaf ≡ value))
  pub summary : (other : ℕ) → 1 ≤ other → other < length now → other ≢ node → bit_of now other ≡ min 1 (get_or now other 0)
  pub pending : node < length now → min 1 (get_or now node 0) ≡ value
  pub others : (other : ℕ) → length now ≤ other → other ≢ leaf → bit_of now other ≡ bit_of old other

pub IsRising-start : (words : List ℕ) (leaf value : ℕ) → IsSummary words → length words ≤ leaf → 1 ≤ leaf → leaf ≤ 64 * length words → IsRising words words leaf leaf value
unfolding IsSummary
IsRising-start words leaf value summary below positive within =
    record {
      kept_length = refl;
      leaf_below = below;
      leaf_positive = positive;
      within = within;
      start = inl refl;
      summary = λ other one inside differs. summary other one inside;
      pending = λ inside. absurd (omega arith);
      others = λ other past differs. refl;
    }

-- the root has no bit above it, so all bits are right there
pub IsRising-end : (old now : List ℕ) (leaf node value : ℕ) → node ≤ 0 → IsRising old now leaf node value → IsSummary now × ChangesLeaf old now leaf value
unfolding IsSummary
IsRising-end old now leaf node value root rising = (
  λ other one inside. rising.summary other one inside (λ same. omega arith),
  record {
    same_length = rising.kept_length;
    changed = elim rising.start [
      | inl same ↦ absurd (omega (arith, rising.leaf_positive))
      | inr done ↦ done.1
    ];
    others = λ other past differs. rising.others other (omega (arith, rising.kept_length)) differs;
  },
)

module _ (old now : List ℕ) (leaf node word value : ℕ) (rising : IsRising old now leaf node value) (positive : 1 ≤ node) (given : bit_at word ((node - 1) % 64) ≡ value) (kept : (i : ℕ) → i < 64 → i ≢ (node - 1) % 64 → bit_at word i ≡ bit_at (get_or now (parent node) 0) i) where
  pub above_within : parent node < length now
  above_within = omega (arith, rising.within)

  length_set : length (set now (parent node) word) ≡ length now
  length_set = length-set now (parent node) word

  node_changed : bit_of (set now (parent node) word) node ≡ value
  node_changed = bit_of-set_same now node word value above_within given

  other_kept : (other : ℕ) → 1 ≤ other → other ≢ node → bit_of (set now (parent node) word) other ≡ bit_of now other
  other_kept other one differs = bit_of-set_other now node word other above_within positive one differs kept

  leaf_changed : bit_of (set now (parent node) word) leaf ≡ value
  leaf_changed =
      elim (cases_eq leaf node) [
        | inl same ↦ rw same node_changed
        | inr differs ↦
            elim rising.start [
              | inl same ↦ absurd (differs (sym same))
              | inr done ↦ other_kept leaf rising.leaf_positive differs ∙ done.1
            ]
      ]

  leaves_kept : (other : ℕ) → length now ≤ other → other ≢ leaf → bit_of (set now (parent node) word) other ≡ bit_of old other
  leaves_kept other past differs =
      let one : 1 ≤ other = omega (arith, above_within) in
      let apart : other ≢ node =
      λ same. elim rising.start [
        | inl at_leaf ↦ differs (same ∙ at_leaf)
        | inr done ↦ absurd (omega (arith, done.0))
      ] in
      other_kept other one apart ∙ rising.others other past differs

  words_right : (other : ℕ) → 1 ≤ other → other < length now → other ≢ parent node → bit_of (set now (parent node) word) other ≡ min 1 (get_or (set now (parent node) word) other 0)
  words_right other one inside apart =
      let read = get_or-set_other now (parent node) other word 0 apart in
      elim (cases_eq other node) [
        | inl same ↦ rw (same) (node_changed ∙ sym (rising.pending (omega arith)) ∙ ap (λ w. min 1 w) (sym (get_or-set_other now (parent node) node word 0 (λ e. apart (same ∙ e)))))
        | inr differs ↦ other_kept other one differs ∙ rising.summary other one inside differs ∙ ap (λ w. min 1 w) (sym read)
      ]

  -- the word above changes to or from 0, so its own bit is to change
  pub IsRising-next : min 1 word ≡ value → IsRising old (set now (parent node) word) leaf (parent node) value
  IsRising-next ends =
      record {
        kept_length = length_set ∙ rising.kept_length;
        leaf_below = omega (arith, length_set, rising.leaf_below);
        leaf_positive = rising.leaf_positive;
        within = omega (arith, length_set, above_within);
        start = inr (omega (arith, length_set, above_within), leaf_changed);
        summary = λ other one inside differs. words_right other one (omega (arith, length_set)) differs;
        pending = λ inside. rw (get_or-set_same now (parent node) word 0 above_within) ends;
        others = λ other past differs. leaves_kept other (omega (arith, length_set)) differs;
      }

  -- the word above has a bit as before, so all bits are right
  pub IsRising-done : min 1 word ≡ min 1 (get_or now (parent node) 0) → IsSummary (set now (parent node) word) × ChangesLeaf old (set now (parent node) word) leaf value
  unfolding IsSummary
  IsRising-done same_word = (
    λ other one inside. elim (cases_eq other (parent node)) [
      | inl same ↦
          let apart : other ≢ node = omega arith in
          other_kept other one apart
          ∙ rising.summary other one (omega (arith, length_set)) apart
          ∙ ap (λ n. min 1 (get_or now n 0)) same
          ∙ sym same_word
          ∙ ap (λ w. min 1 w) (sym (get_or-set_same now (parent node) word 0 above_within))
          ∙ ap (λ n. min 1 (get_or (set now (parent node) word) n 0)) (sym same)
      | inr apart ↦ words_right other one (omega (arith, length_set)) apart
    ],
    record {
      same_length = length_set ∙ rising.kept_length;
      changed = leaf_changed;
      others = λ other past differs. leaves_kept other (omega (arith, rising.kept_length)) differs;
    },
  )
