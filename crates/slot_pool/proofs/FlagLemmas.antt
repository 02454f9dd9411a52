-- The flags of the slots, as the bits of their nodes.
use Rattle.std.proofs.Common.{◌≡◌, ◌≢◌, ℕ, zero, suc, ◌+◌, ◌-◌, ◌<◌, ◌≤◌, Bool, true, false, List, length, get_or, set, replicate, Some, None, eqb, refl, sym, ap, ◌∙◌, inl, inr, arith}
use Rattle.std.specs.Prelude.{position}
use Rattle.std.proofs.lemmas.List.Sums.{position_or_len_is}
use Rattle.std.proofs.lemmas.Bool.{cases_eq, eq-eqb}
use Rattle.std.proofs.lemmas.Bool.Decides.{nat_tests}
use Rattle.slot_pool.specs.Nodes.{bit_of, flags_from, IsSummary, ChangesLeaf, IsTree}
use Rattle.slot_pool.proofs.SearchLemmas.{root_has_bit, IsFound, found_slot}

pub length-flags : (words : List ℕ) (node count : ℕ) → length (flags_from words node count) ≡ count
length-flags words node zero = refl
length-flags words node (suc count) = ap suc (length-flags words (node + 1) count)

pub get_or-flags : (words : List ℕ) (node count k : ℕ) (d : Bool) → k < count → get_or (flags_from words node count) k d ≡ eqb (bit_of words (node + k)) 1
get_or-flags words node zero k d within = absurd (omega arith)
get_or-flags words node (suc count) zero d within = rw (let same : node + 0 ≡ node = omega arith in same) refl
get_or-flags words node (suc count) (suc k) d within =
    rw (let same : node + suc k ≡ node + 1 + k = omega arith in same) (get_or-flags words (node + 1) count k d (omega arith))

-- where each slot has its bit, each flag is true
pub flags-all : (words : List ℕ) (node count : ℕ) → ((k : ℕ) → k < count → bit_of words (node + k) ≡ 1) → flags_from words node count ≡ replicate count true
flags-all words node zero set = refl
flags-all words node (suc count) set =
    let here : bit_of words node ≡ 1 = rw (let same : node + 0 ≡ node = omega arith in same) at (set 0 (omega arith)) in
    let head : eqb (bit_of words node) 1 ≡ true = eq-eqb _ _ here in
    let tail = flags-all words (node + 1) count (λ k within. rw (let same : node + 1 + k ≡ node + suc k = omega arith in same) (set (suc k) (omega arith))) in
    rw (head, tail) refl

-- where no bit changes, no flag does
flags-same : (old new : List ℕ) (node count : ℕ) → ((k : ℕ) → k < count → bit_of new (node + k) ≡ bit_of old (node + k)) → flags_from new node count ≡ flags_from old node count
flags-same old new node zero same = refl
flags-same old new node (suc count) same =
    let here : bit_of new node ≡ bit_of old node = rw (let at_node : node + 0 ≡ node = omega arith in at_node) at (same 0 (omega arith)) in
    let tail = flags-same old new (node + 1) count (λ k within. rw (let next : node + 1 + k ≡ node + suc k = omega arith in next) (same (suc k) (omega arith))) in
    rw (here, tail) refl

-- where one bit changes, its flag does
pub flags-set : (old new : List ℕ) (node count slot : ℕ) (flag : Bool) → slot < count → eqb (bit_of new (node + slot)) 1 ≡ flag → ((k : ℕ) → k < count → k ≢ slot → bit_of new (node + k) ≡ bit_of old (node + k)) → flags_from new node count ≡ set (flags_from old node count) slot flag
flags-set old new node zero slot flag within changed others = absurd (omega arith)
flags-set old new node (suc count) zero flag within changed others =
    let head : eqb (bit_of new node) 1 ≡ flag = rw (let at_node : node + 0 ≡ node = omega arith in at_node) at changed in
    let tail = flags-same old new (node + 1) count (λ k inside. rw (let next : node + 1 + k ≡ node + suc k = omega arith in next) (others (suc k) (omega arith) (omega arith))) in
    rw (head, tail) refl
flags-set old new node (suc count) (suc slot) flag within changed others =
    let here : bit_of new node ≡ bit_of old node = rw (let at_node : node + 0 ≡ node = omega arith in at_node) at (others 0 (omega arith) (omega arith)) in
    let tail = flags-set old new (node + 1) count slot flag (omega arith) (rw (let next : node + 1 + slot ≡ node + suc slot = omega arith in next) changed) (λ k inside differs. rw (let next : node + 1 + k ≡ node + suc k = omega arith in next) (others (suc k) (omega arith) (omega arith))) in
    rw (here, tail) refl

position_none : (flags : List Bool) → ((k : ℕ) → k < length flags → get_or flags k false ≡ false) → position (λ free. free) flags ≡ None
position_none flags none =
    let whole = position_or_len_is (λ free. free) flags (length flags) false (omega arith) none (λ past. absurd (omega arith)) in
    rw whole (grind (arith, nat_tests))

position_some : (flags : List Bool) (i : ℕ) → i < length flags → get_or flags i false ≡ true → ((k : ℕ) → k < i → get_or flags k false ≡ false) → position (λ free. free) flags ≡ Some i
position_some flags i within here none =
    let first = position_or_len_is (λ free. free) flags i false (omega arith) none (λ inside. here) in
    rw first (grind (arith, nat_tests))

not_one : (n : ℕ) → (n ≡ 1 → ⊥) → eqb n 1 ≡ false
not_one n differs = grind (arith, nat_tests)

module _ (words : List ℕ) (levels first count : ℕ) (tree : IsTree words levels first count) where
  -- a root with no bit has no free slot below
  pub smallest_none : get_or words 0 0 ≡ 0 → position (λ free. free) (flags_from words first count) ≡ None
  smallest_none root =
      position_none (flags_from words first count) (λ k within.
      let inside : k < count = rw (length-flags words first count) at within in
      rw (get_or-flags words first count k false inside) (not_one _ (λ set. absurd (omega (arith, root_has_bit words tree.summary (first + k) (first + k) (omega arith) (omega (arith, tree.positive)) set)))))

  -- the node that the search ends at is that of the first free slot
  pub smallest_some : (node : ℕ) → IsFound words levels first levels node → position (λ free. free) (flags_from words first count) ≡ Some (node - first)
  smallest_some node found =
      let slot = found_slot words levels first count node tree found in
      let place : first + (node - first) ≡ node = omega (arith, slot.0) in
      let inside : node - first < count = omega (arith, slot.0, slot.1) in
      let here : get_or (flags_from words first count) (node - first) false ≡ true =
      rw (get_or-flags words first count (node - first) false inside, place) (eq-eqb _ _ slot.2) in
      position_some (flags_from words first count) (node - first) (rw (length-flags words first count) inside) here
      (λ k early. rw (get_or-flags words first count k false (let less : k < count = omega arith in less)) (not_one _ (λ set. absurd (omega (arith, slot.3 (first + k) (omega arith) set)))))

  module _ (new : List ℕ) (slot value : ℕ) (within : slot < count) (summary : IsSummary new) (changes : ChangesLeaf words new (first + slot) value) where
    -- a change of one slot keeps the tree
    pub IsTree-change : IsTree new levels first count
    IsTree-change =
        record {
          first_node = tree.first_node;
          words_above = omega (arith, changes.same_length, tree.words_above);
          room = omega (arith, changes.same_length, tree.room);
          first_small = tree.first_small;
          count_small = tree.count_small;
          positive = tree.positive;
          summary = summary;
          slots_only = λ node past set. elim (cases_eq node (first + slot)) [
            | inl same ↦ (omega arith, omega arith)
            | inr differs ↦
                let before : length words ≤ node = omega (arith, changes.same_length) in
                tree.slots_only node before (sym (changes.others node before differs) ∙ set)
          ];
        }

    -- and changes one flag
    pub flags-change : (flag : Bool) → eqb value 1 ≡ flag → flags_from new first count ≡ set (flags_from words first count) slot flag
    flags-change flag given =
        flags-set words new first count slot flag within (rw changes.changed given)
        (λ k inside differs. changes.others (first + k) (omega (arith, tree.words_above)) (λ same. differs (omega arith)))
