-- Numbers among the words of the command line.
use Rattle.std.proofs.Common.{◌≡◌, ℕ, Bool, true, false, ◌&&◌, nat_le, if◌then◌else◌, List, Some, None, Ok, Err, refl, sym, ap, ◌∙◌, arith}
use Rattle.std.proofs.lemmas.Bool.{le-leb, lt-leb, and_right, false_from_ne_true}
use Rattle.span_base.specs.Number.{is_number, number_of, ReadsNumber}
use Rattle.span_base.specs.declared.number.NumberFault.{NumberFault}
use Rattle.span_base.specs.declared.number.NumberFault.TheVariants.{Bad, Limit}
use Rattle.span_service.specs.Words.{is_between, number_between}

and_true : (a : Bool) → (a && true) ≡ a
and_true true = refl
and_true false = refl

-- a word that reads as a number up to the one limit is between the two where it reaches the other
between_read : (low high n : ℕ) (word : List ℕ) → ReadsNumber word high (Ok n) → nat_le low n ≡ is_between low high word
between_read low high n word (is, same, within) =
    let below : nat_le (number_of word) high ≡ true = le-leb (number_of word) high (omega (arith, same, within)) in
    ap (nat_le low) same
    ∙ sym (and_true (nat_le low (number_of word)))
    ∙ ap (λ b. nat_le low (number_of word) && b) (sym below)
    ∙ ap (λ b. b && (nat_le low (number_of word) && nat_le (number_of word) high)) (sym is)

-- a word that doesn't read so is not between them
between_refused : (low high : ℕ) (fault : NumberFault) (word : List ℕ) → ReadsNumber word high (Err fault) → false ≡ is_between low high word
between_refused low high (Limit n) word (is, same, above) =
    let not_below : nat_le (number_of word) high ≡ false = lt-leb (number_of word) high (omega (arith, same, above)) in
    sym (and_right (is_number word) _ (and_right (nat_le low (number_of word)) _ not_below))
between_refused low high (Bad place) word breaks =
    let not_number : is_number word ≡ false = false_from_ne_true (is_number word) breaks.faulty in
    ap (λ b. b && (nat_le low (number_of word) && nat_le (number_of word) high)) (sym not_number)

-- the number that a word reads as, where it reaches the lower limit
pub number_read : (low high n : ℕ) (word : List ℕ) → ReadsNumber word high (Ok n) → (if nat_le low n then Some n else None) ≡ number_between low high word
number_read low high n word reads =
    ap (λ (b : Bool). if b then Some n else None) (between_read low high n word reads)
    ∙ ap (λ (m : ℕ). if is_between low high word then Some m else None) reads.1

pub number_refused : (low high : ℕ) (fault : NumberFault) (word : List ℕ) → ReadsNumber word high (Err fault) → None ≡ number_between low high word
number_refused low high fault word refused = ap (λ (b : Bool). if b then Some (number_of word) else None) (between_refused low high fault word refused)

pub ruleset words = (number_read, number_refused)
