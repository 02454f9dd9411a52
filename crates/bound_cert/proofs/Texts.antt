use Rattle.std.proofs.Common.{◌≡◌, ℕ, zero, suc, ◌+◌, ◌<◌, List, [], ◌∷◌, ◌++◌, length, get_or, take, drop, refl, sym, ap, ◌∙◌, append_assoc, arith, add-one, append-nil}
use Rattle.bound_cert.specs.declared.leaves.Pair.{Pair}
use Rattle.bound_cert.specs.Text.{pair_text, pairs_text}
use Rattle.bound_cert.proofs.Scratch.{no_pair}

-- the text of one more pair
pairs_text_suc : (pairs : List Pair) (i : ℕ) → i < length pairs → pairs_text (take (suc i) pairs) ≡ pairs_text (take i pairs) ++ pair_text (get_or pairs i no_pair)
pairs_text_suc [] i h = absurd (omega arith)
pairs_text_suc (p ∷ pairs) zero h = simp append-nil
pairs_text_suc (p ∷ pairs) (suc i) h = ap (λ t. pair_text p ++ t) (pairs_text_suc pairs i (omega arith)) ∙ sym (append_assoc (pair_text p) (pairs_text (take i pairs)) (pair_text (get_or pairs i no_pair)))

pub text_more : (pairs : List Pair) (i : ℕ) (old before after : List ℕ) → i < length pairs → before ≡ old ++ pairs_text (take i pairs) → after ≡ before ++ pair_text (get_or pairs i no_pair) → after ≡ old ++ pairs_text (take (i + 1) pairs)
text_more pairs i old before after h b a =
    rw add-one (a ∙ ap (λ t. t ++ pair_text (get_or pairs i no_pair)) b ∙ append_assoc old (pairs_text (take i pairs)) (pair_text (get_or pairs i no_pair)) ∙ ap (λ t. old ++ t) (sym (pairs_text_suc pairs i h)))

-- the text of all pairs is that of those before one, that one's, and that of those after it
pub pairs_text_split : (pairs : List Pair) (i : ℕ) → i < length pairs → pairs_text (take i pairs) ++ (pair_text (get_or pairs i no_pair) ++ pairs_text (drop (suc i) pairs)) ≡ pairs_text pairs
pairs_text_split [] i h = absurd (omega arith)
pairs_text_split (p ∷ pairs) zero h = refl
pairs_text_split (p ∷ pairs) (suc i) h =
    append_assoc (pair_text p) (pairs_text (take i pairs)) (pair_text (get_or pairs i no_pair) ++ pairs_text (drop (suc i) pairs))
    ∙ ap (λ t. pair_text p ++ t) (pairs_text_split pairs i (omega arith))
