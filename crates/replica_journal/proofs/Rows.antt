-- An image holds the records of one row of messages alone.
use Rattle.std.proofs.Common.{ℕ, ◌≡◌, ◌<◌, ◌≤◌, ◌⊎◌, inl, inr, List, [], ◌∷◌, ◌++◌, length, take, drop, refl, sym, ◌∙◌, ap, subst, arith, append_assoc, length-append, take-append-drop}
use Rattle.std.proofs.lemmas.List.{append_cancel_left, take_at, drop_at, take-append-le}
use Rattle.std.proofs.lemmas.Bool.{cases_lt}
use Rattle.std.specs.List.{AllByRecursion}
use Rattle.std.specs.Int.{w16}
use Rattle.wire_msg.specs.declared.message.Message.{Message}
use Rattle.wire_msg.specs.Frames.{big, frame_of}
use Rattle.wire_msg.specs.Sizes.{frame_size}
use Rattle.wire_msg.proofs.MessageLaws.{told_apart}
use Rattle.replica_journal.specs.Records.{IsRecord, body_of, records_of, IsClosed, IsJournal, HasRecords, IsSoundRecord, IsDamagedAt}

pub head_length : (n : ℕ) → length (big w16 n) ≡ 2
unfolding big
head_length n = refl

-- the frame stands behind its length
pub behind_head : (message : Message) (rest : List ℕ) → drop 2 (body_of message ++ rest) ≡ frame_of message ++ rest
behind_head message rest =
    ap (drop 2) (append_assoc (big w16 (frame_size message)) (frame_of message) rest)
    ∙ drop_at (big w16 (frame_size message)) (frame_of message ++ rest) 2 (head_length (frame_size message))

-- of two frames at the front of the same bytes the one that isn't longer begins the other, so they are one message's
shorter_first : (keys : ℕ) (a b : Message) (r s : List ℕ) → IsRecord keys a → IsRecord keys b → frame_of a ++ r ≡ frame_of b ++ s → length (frame_of a) ≤ length (frame_of b) → a ≡ b
shorter_first keys a b r s sa sb same le =
    let begins : take (length (frame_of a)) (frame_of b) ≡ frame_of a =
    sym (take-append-le (length (frame_of a)) (frame_of b) s le) ∙ ap (take (length (frame_of a))) (sym same) ∙ take_at (frame_of a) r (length (frame_of a)) refl in
    let whole : frame_of a ++ drop (length (frame_of a)) (frame_of b) ≡ frame_of b =
    ap (λ (l : List ℕ). l ++ drop (length (frame_of a)) (frame_of b)) (sym begins) ∙ take-append-drop (length (frame_of a)) (frame_of b) in
    (told_apart a b sa.lawful sb.lawful sa.fits sb.fits (drop (length (frame_of a)) (frame_of b)) whole).0

same_message : (keys : ℕ) (a b : Message) (r s : List ℕ) → IsRecord keys a → IsRecord keys b → frame_of a ++ r ≡ frame_of b ++ s
    → (length (frame_of a) ≤ length (frame_of b)) ⊎ (length (frame_of b) ≤ length (frame_of a)) → a ≡ b
same_message keys a b r s sa sb same (inl le) = shorter_first keys a b r s sa sb same le
same_message keys a b r s sa sb same (inr le) = sym (shorter_first keys b a s r sb sa (sym same) le)

either : (m n : ℕ) → (m ≤ n) ⊎ (n ≤ m)
either m n = elim (cases_lt m n) [ inl lt ↦ inl (omega arith) | inr ge ↦ inr ge ]

-- records at the front of the same bytes are one, and the bytes behind them are
pub same_front : (keys : ℕ) (a b : Message) (r s : List ℕ) → IsRecord keys a → IsRecord keys b → body_of a ++ r ≡ body_of b ++ s → (a ≡ b) × (r ≡ s)
same_front keys a b r s sa sb same =
    let frames : frame_of a ++ r ≡ frame_of b ++ s = sym (behind_head a r) ∙ ap (drop 2) same ∙ behind_head b s in
    let is : a ≡ b = same_message keys a b r s sa sb frames (either (length (frame_of a)) (length (frame_of b))) in
    (is, append_cancel_left (frame_of b) r s (ap (λ (m : Message). frame_of m ++ r) (sym is) ∙ frames))

abbrev tail : List ℕ → List ℕ
tail [] = []
tail (x ∷ xs) = xs

-- what stands behind the first gate
unfolded : (a : Message) (xs : List Message) (r : List ℕ) → tail (records_of (a ∷ xs) ++ r) ≡ body_of a ++ (records_of xs ++ r)
unfolded a xs r = append_assoc (body_of a) (records_of xs) r

same_first : (keys : ℕ) (a b : Message) (xs ys : List Message) (r s : List ℕ) → IsRecord keys a → IsRecord keys b → records_of (a ∷ xs) ++ r ≡ records_of (b ∷ ys) ++ s
    → (a ≡ b) × (records_of xs ++ r ≡ records_of ys ++ s)
same_first keys a b xs ys r s sa sb same =
    same_front keys a b (records_of xs ++ r) (records_of ys ++ s) sa sb (sym (unfolded a xs r) ∙ ap tail same ∙ unfolded b ys s)

-- an open gate is none that is closed
open_closed : (r s : List ℕ) → 1 ∷ s ≡ r → IsClosed r → ⊥
open_closed r s is closed = subst IsClosed (sym is) closed refl

rows : (keys : ℕ) (a b : List Message) (r s : List ℕ) → records_of a ++ r ≡ records_of b ++ s → IsClosed r → IsClosed s
    → AllByRecursion (IsRecord keys) a → AllByRecursion (IsRecord keys) b → a ≡ b
rows keys [] [] r s same cr cs sa sb = refl
rows keys [] (b ∷ ys) r s same cr cs sa sb = absurd (open_closed r ((body_of b ++ records_of ys) ++ s) (sym same) cr)
rows keys (a ∷ xs) [] r s same cr cs sa sb = absurd (open_closed s ((body_of a ++ records_of xs) ++ r) same cs)
rows keys (a ∷ xs) (b ∷ ys) r s same cr cs sa sb =
    let first = same_first keys a b xs ys r s sa.0 sb.0 same in
    ap (λ (m : Message). m ∷ xs) first.0 ∙ ap (λ (ms : List Message). b ∷ ms) (rows keys xs ys r s first.1 cr cs sa.1 sb.1)

-- an image of at most one byte has no place for a record
pub none_in : (keys : ℕ) (image : List ℕ) (messages : List Message) → length image ≤ 1 → IsJournal keys image messages → messages ≡ []
none_in keys image [] short journal = refl
none_in keys image (m ∷ ms) short journal = absurd (omega (
  arith,
  ap length journal.spelled,
  length-append (records_of (m ∷ ms)) journal.rest,
  length-append (body_of m) (records_of ms),
  length-append (big w16 (frame_size m)) (frame_of m),
  head_length (frame_size m),
))

pub one_row : (keys : ℕ) (image : List ℕ) (a b : List Message) → HasRecords keys image a → HasRecords keys image b → a ≡ b
one_row keys image a b (inl x) (inl y) = x.1 ∙ sym y.1
one_row keys image a b (inl x) (inr y) = x.1 ∙ sym (none_in keys image b x.0 y)
one_row keys image a b (inr x) (inl y) = none_in keys image a y.0 x ∙ sym y.1
one_row keys image a b (inr x) (inr y) = rows keys a b x.rest y.rest (sym x.spelled ∙ y.spelled) x.closed y.closed x.records y.records

pub some_closed : (s : List ℕ) → IsClosed s → 0 < length s
some_closed [] closed = absurd closed
some_closed (gate ∷ s) closed = omega arith

damaged_row : (keys : ℕ) (a b : List Message) (t s : List ℕ) → records_of a ++ 1 ∷ t ≡ records_of b ++ s → ¬ IsSoundRecord keys t → IsClosed s
    → AllByRecursion (IsRecord keys) a → AllByRecursion (IsRecord keys) b → ⊥
damaged_row keys [] [] t s same bad closed sa sb = open_closed s t same closed
damaged_row keys [] (b ∷ ys) t s same bad closed sa sb = bad (record {
  message = b;
  rest = records_of ys ++ s;
  spelled = ap tail same ∙ unfolded b ys s;
  sound = sb.0;
  some = omega (arith, some_closed s closed, length-append (records_of ys) s);
})
damaged_row keys (a ∷ xs) [] t s same bad closed sa sb = open_closed s ((body_of a ++ records_of xs) ++ 1 ∷ t) same closed
damaged_row keys (a ∷ xs) (b ∷ ys) t s same bad closed sa sb =
    damaged_row keys xs ys t s (same_first keys a b xs ys (1 ∷ t) s sa.0 sb.0 same).1 bad closed sa.1 sb.1

pub no_damage : (keys : ℕ) (image : List ℕ) (at : ℕ) (messages : List Message) → IsDamagedAt keys image at → HasRecords keys image messages → ⊥
no_damage keys image at messages damage (inl short) = omega (arith, damage.long, short.0)
no_damage keys image at messages damage (inr journal) =
    damaged_row keys damage.messages messages damage.rest journal.rest (sym damage.spelled ∙ journal.spelled) damage.damaged journal.closed damage.records journal.records
