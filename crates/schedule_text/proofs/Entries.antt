-- The words of the entry that is being read, and the entries behind it.
use Rattle.std.proofs.Common.{◌≡◌, ℕ, Bool, true, false, ◌&&◌, List, [], ◌∷◌, Option, Some, None, Bor, refl, sym, ap, ◌∙◌}
use Rattle.std.specs.Prelude.{is_some, MatchOption}
use Rattle.schedule_text.specs.declared.words.Words.{Words}
use Rattle.schedule_text.specs.Words.{led_by, split, words_of, is_joint, entries_of, first_of, behind}
use Rattle.schedule_text.specs.Pieces.{pieces, entries_in, entry, beyond}
use Rattle.schedule_text.proofs.Cuts.{split_is}

abbrev first : Bool → List (List ℕ) → List (List ℕ)
first joined words = first_of (entries_in joined words)

abbrev others : Bool → List (List ℕ) → List (List (List ℕ))
others joined words = behind (entries_in joined words)

-- without words the entry has none
pub no_word : (joined : Bool) → first joined [] ≡ []
unfolding split
no_word true = refl
no_word false = refl

pub no_others : (joined : Bool) → others joined [] ≡ []
unfolding split
no_others true = refl
no_others false = refl

-- a joint ends the entry
pub joint_first : (joined : Bool) (word : List ℕ) (words : List (List ℕ)) → (joined && is_joint word) ≡ true → first joined (word ∷ words) ≡ []
unfolding split
joint_first true word words h = rw h refl
joint_first false word words h = absurd (cc)

pub joint_others : (joined : Bool) (word : List ℕ) (words : List (List ℕ)) → (joined && is_joint word) ≡ true → others joined (word ∷ words) ≡ first joined words ∷ others joined words
unfolding split
joint_others true word words h = rw h (split_is is_joint words)
joint_others false word words h = absurd (cc)

-- another word is the entry's
pub word_first : (joined : Bool) (word : List ℕ) (words : List (List ℕ)) → (joined && is_joint word) ≡ false → first joined (word ∷ words) ≡ word ∷ first joined words
unfolding split
word_first true word words h = rw h (led_first word (entries_of words))
  where
    led_first : (word : List ℕ) (pieces : List (List (List ℕ))) → first_of (led_by word pieces) ≡ word ∷ first_of pieces
    led_first word [] = refl
    led_first word (piece ∷ pieces) = refl
word_first false word words h = refl

pub word_others : (joined : Bool) (word : List ℕ) (words : List (List ℕ)) → (joined && is_joint word) ≡ false → others joined (word ∷ words) ≡ others joined words
unfolding split
word_others true word words h = rw h (led_others word (entries_of words))
  where
    led_others : (word : List ℕ) (pieces : List (List (List ℕ))) → behind (led_by word pieces) ≡ behind pieces
    led_others word [] = refl
    led_others word (piece ∷ pieces) = refl
word_others false word words h = refl

-- an entry that has no word left ends with a joint, or the words end
pub ended : (joined : Bool) (word : List ℕ) (words : List (List ℕ)) → first joined (word ∷ words) ≡ [] → (joined && is_joint word) ≡ true
ended joined word words h = by_test (joined && is_joint word) refl
  where
    by_test : (b : Bool) → (joined && is_joint word) ≡ b → (joined && is_joint word) ≡ true
    by_test true is = is
    by_test false is = absurd (let e = sym (word_first joined word words is) ∙ h in cc)

-- where no word is left
pub none_left : (words : Words) → words.rest ≡ None → entry words ≡ []
none_left words none = rw none (no_word words.joined)

pub none_beyond : (words : Words) → words.rest ≡ None → beyond words ≡ []
none_beyond words none = rw none (no_others words.joined)

-- the first word that is left, and what is left behind it
pub here : (words : Words) (text word : Bor (List ℕ)) (rest : Option (Bor (List ℕ))) → words.rest ≡ Some text → words_of text.now ≡ word.now ∷ pieces 32 rest → pieces 32 words.rest ≡ word.now ∷ pieces 32 rest
here words text word rest is split = rw is split

pub ends_here : (words : Words) (text word : Bor (List ℕ)) (rest : Option (Bor (List ℕ))) → words.rest ≡ Some text → words_of text.now ≡ word.now ∷ pieces 32 rest
    → true ≡ (words.joined && is_joint word.now) → entry words ≡ []
ends_here words text word rest is split joint = ap (first words.joined) (here words text word rest is split) ∙ joint_first words.joined word.now (pieces 32 rest) (sym joint)

pub goes_on : (words : Words) (text word : Bor (List ℕ)) (rest : Option (Bor (List ℕ))) → words.rest ≡ Some text → words_of text.now ≡ word.now ∷ pieces 32 rest
    → false ≡ (words.joined && is_joint word.now) → entry words ≡ word.now ∷ first words.joined (pieces 32 rest)
goes_on words text word rest is split joint = ap (first words.joined) (here words text word rest is split) ∙ word_first words.joined word.now (pieces 32 rest) (sym joint)

pub stays_beyond : (words : Words) (text word : Bor (List ℕ)) (rest : Option (Bor (List ℕ))) → words.rest ≡ Some text → words_of text.now ≡ word.now ∷ pieces 32 rest
    → false ≡ (words.joined && is_joint word.now) → others words.joined (pieces 32 rest) ≡ beyond words
stays_beyond words text word rest is split joint = sym (ap (others words.joined) (here words text word rest is split) ∙ word_others words.joined word.now (pieces 32 rest) (sym joint))

-- behind an entry that is read the next one comes
pub next_entry : (words : Words) (text word : Bor (List ℕ)) (rest : Option (Bor (List ℕ))) → words.rest ≡ Some text → words_of text.now ≡ word.now ∷ pieces 32 rest
    → entry words ≡ [] → beyond words ≡ first words.joined (pieces 32 rest) ∷ others words.joined (pieces 32 rest)
next_entry words text word rest is split over =
    let pieces_are = here words text word rest is split in
    let joint = ended words.joined word.now (pieces 32 rest) (ap (first words.joined) (sym pieces_are) ∙ over) in
    ap (others words.joined) pieces_are ∙ joint_others words.joined word.now (pieces 32 rest) joint

-- where no word was given, the entry has none
pub at_end : (result : Option (Bor (List ℕ))) (old new : Words) → false ≡ is_some result
    → MatchOption result ((entry old ≡ []) × (new ≡ old)) (λ w. entry old ≡ w.now ∷ entry new) → entry new ≡ []
at_end None old new over said = ap entry said.1 ∙ said.0
at_end (Some word) old new over said = absurd (cc)
