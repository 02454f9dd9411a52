-- Texts that grow piece by piece.
use Rattle.std.proofs.Common.{◌≡◌, ℕ, ◌+◌, List, ◌++◌, sym, ap, ◌∙◌, append_assoc}
use Rattle.std.specs.List.{flat_map, range_with_len}
use Rattle.std.proofs.lemmas.List.{append-nil}
use Rattle.placement_rows.proofs.Loops.{pieces_next}

-- no piece yet
pub pieces_none : (f : ℕ → List ℕ) (text : List ℕ) → text ≡ text ++ flat_map f (range_with_len 0 0)
pieces_none f text = sym (append-nil text)

-- one piece more
pub pieces_more : (f : ℕ → List ℕ) (n : ℕ) (start old new piece : List ℕ) → old ≡ start ++ flat_map f (range_with_len 0 n) → new ≡ old ++ piece → piece ≡ f n
    → new ≡ start ++ flat_map f (range_with_len 0 (n + 1))
pieces_more f n start old new piece before adds is =
    adds ∙ ap (λ t. t ++ piece) before ∙ append_assoc start (flat_map f (range_with_len 0 n)) piece
    ∙ ap (λ t. start ++ t) (ap (λ p. flat_map f (range_with_len 0 n) ++ p) is ∙ sym (pieces_next f n))

-- all pieces
pub pieces_all : (f : ℕ → List ℕ) (n all : ℕ) (start text : List ℕ) → text ≡ start ++ flat_map f (range_with_len 0 n) → n ≡ all → text ≡ start ++ flat_map f (range_with_len 0 all)
pieces_all f n all start text is end = is ∙ ap (λ k. start ++ flat_map f (range_with_len 0 k)) end

-- two pieces, one behind the other
pub two_pieces : (start first new one two : List ℕ) → first ≡ start ++ one → new ≡ first ++ two → new ≡ start ++ (one ++ two)
two_pieces start first new one two before after = after ∙ ap (λ t. t ++ two) before ∙ append_assoc start one two
