-- Where the first piece of a text ends, and its first line.
use Rattle.std.proofs.Common.{◌≡◌, ℕ, zero, suc, ◌+◌, ◌-◌, ◌==◌, Bool, true, false, cond, List, [], ◌∷◌, length, take, drop, refl, sym, ap, ◌∙◌, arith}
use Rattle.std.proofs.lemmas.List.{take_rest, drop-drop}
use Rattle.memchr.specs.Find.{Nowhere, NoneBefore, Passes, is_byte}
use Rattle.schedule_text.specs.Words.{led_by, lines_of, split, split_at, first_of, behind}

abbrev ends : ℕ → ℕ → Bool
ends byte = λ c. c == byte

-- without the byte the text is one piece
pub split_none : (byte : ℕ) (text : List ℕ) → Nowhere (Passes (is_byte byte) text) 0 (length text) → split_at byte text ≡ text ∷ []
unfolding split
split_none byte [] none = refl
split_none byte (c ∷ cs) none = by_test (c == byte) refl (split_none byte cs (λ k low high is. none (suc k) (omega arith) (omega arith) is))
  where
    by_test : (b : Bool) → (c == byte) ≡ b → split_at byte cs ≡ cs ∷ []
        → cond {A = List (List ℕ)} b ([] ∷ split (ends byte) cs) (led_by c (split (ends byte) cs)) ≡ (c ∷ cs) ∷ []
    by_test true is rest = absurd (none 0 (omega arith) (omega arith) is)
    by_test false is rest = ap (led_by c) rest

-- the first piece ends before the first such byte
pub split_first : (byte : ℕ) (text : List ℕ) (at : ℕ) → NoneBefore (Passes (is_byte byte) text) 0 (length text) at → Passes (is_byte byte) text at
    → split_at byte text ≡ take at text ∷ split_at byte (drop (at + 1) text)
unfolding split
split_first byte [] at first there = absurd (let h = first.high in omega arith)
split_first byte (c ∷ cs) zero first there = rw there refl
split_first byte (c ∷ cs) (suc at) first there =
    let e : suc at + 1 ≡ suc (at + 1) = omega arith in rw e (by_test (c == byte) refl
    (split_first byte cs at (record { low = omega arith; high = let h = first.high in omega arith; before = λ k low high is. first.before (suc k) (omega arith) (omega arith) is }) there))
  where
    by_test : (b : Bool) → (c == byte) ≡ b → split_at byte cs ≡ take at cs ∷ split_at byte (drop (at + 1) cs)
        → cond {A = List (List ℕ)} b ([] ∷ split (ends byte) cs) (led_by c (split (ends byte) cs)) ≡ (c ∷ take at cs) ∷ split_at byte (drop (at + 1) cs)
    by_test true is rest = absurd (first.before 0 (omega arith) (omega arith) is)
    by_test false is rest = ap (led_by c) rest

-- the same, as a slice to the end of the text
pub split_here : (byte : ℕ) (text : List ℕ) (at : ℕ) → NoneBefore (Passes (is_byte byte) text) 0 (length text) at → Passes (is_byte byte) text at
    → split_at byte text ≡ take at text ∷ split_at byte (take (length text - (at + 1)) (drop (at + 1) text))
split_here byte text at first there = let e : take (length text - (at + 1)) (drop (at + 1) text) ≡ drop (at + 1) text = take_rest text (at + 1) in rw e (split_first byte text at first there)

-- a text without a line feed is one line, if it has a byte
pub lines_none : (c : ℕ) (cs : List ℕ) → Nowhere (Passes (is_byte 10) (c ∷ cs)) 0 (length (c ∷ cs)) → lines_of (c ∷ cs) ≡ (c ∷ cs) ∷ []
unfolding lines_of
lines_none c [] none = by_test (c == 10) refl
  where
    by_test : (b : Bool) → (c == 10) ≡ b → cond {A = List (List ℕ)} b ([] ∷ []) ((c ∷ []) ∷ []) ≡ (c ∷ []) ∷ []
    by_test true is = absurd (none 0 (omega arith) (omega arith) is)
    by_test false is = refl
lines_none c (d ∷ ds) none = by_test (c == 10) refl (lines_none d ds (λ k low high is. none (suc k) (omega arith) (omega arith) is))
  where
    by_test : (b : Bool) → (c == 10) ≡ b → lines_of (d ∷ ds) ≡ (d ∷ ds) ∷ []
        → cond {A = List (List ℕ)} b ([] ∷ lines_of (d ∷ ds)) (led_by c (lines_of (d ∷ ds))) ≡ (c ∷ d ∷ ds) ∷ []
    by_test true is rest = absurd (none 0 (omega arith) (omega arith) is)
    by_test false is rest = ap (led_by c) rest

-- the first line ends before the first line feed
pub lines_first : (text : List ℕ) (at : ℕ) → NoneBefore (Passes (is_byte 10) text) 0 (length text) at → Passes (is_byte 10) text at
    → lines_of text ≡ take at text ∷ lines_of (drop (at + 1) text)
unfolding lines_of
lines_first [] at first there = absurd (let h = first.high in omega arith)
lines_first (c ∷ cs) zero first there = rw there refl
lines_first (c ∷ cs) (suc at) first there =
    let e : suc at + 1 ≡ suc (at + 1) = omega arith in rw e (by_test (c == 10) refl
    (lines_first cs at (record { low = omega arith; high = let h = first.high in omega arith; before = λ k low high is. first.before (suc k) (omega arith) (omega arith) is }) there))
  where
    by_test : (b : Bool) → (c == 10) ≡ b → lines_of cs ≡ take at cs ∷ lines_of (drop (at + 1) cs)
        → cond {A = List (List ℕ)} b ([] ∷ lines_of cs) (led_by c (lines_of cs)) ≡ (c ∷ take at cs) ∷ lines_of (drop (at + 1) cs)
    by_test true is rest = absurd (first.before 0 (omega arith) (omega arith) is)
    by_test false is rest = ap (led_by c) rest

-- the lines from a place on, where a line feed stands so far behind it
pub lines_on : (text rest : List ℕ) (at end : ℕ) → rest ≡ drop at text → NoneBefore (Passes (is_byte 10) rest) 0 (length rest) end → Passes (is_byte 10) rest end
    → lines_of (drop at text) ≡ take end rest ∷ lines_of (drop (at + (end + 1)) text)
lines_on text rest at end same first there =
    ap lines_of (sym same) ∙ lines_first rest end first there
    ∙ ap (λ (left : List ℕ). take end rest ∷ lines_of left) (ap (λ (left : List ℕ). drop (end + 1) left) same ∙ drop-drop (end + 1) at text)

-- where none stands, the text ends with the line
pub lines_last : (text rest : List ℕ) (at : ℕ) → rest ≡ drop at text → false ≡ (length rest == 0) → Nowhere (Passes (is_byte 10) rest) 0 (length rest)
    → lines_of (drop at text) ≡ rest ∷ lines_of (drop (length text) text)
unfolding lines_of
lines_last text [] at same some none = absurd (cc)
lines_last text (c ∷ cs) at same some none =
    ap lines_of (sym same) ∙ lines_none c cs none ∙ ap (λ (left : List ℕ). (c ∷ cs) ∷ lines_of left) (sym (drop_all text))
  where
    drop_all : (text : List ℕ) → drop (length text) text ≡ []
    drop_all [] = refl
    drop_all (c ∷ cs) = drop_all cs

-- where nothing is left there is no line
pub lines_over : (text rest : List ℕ) (at : ℕ) → rest ≡ drop at text → true ≡ (length rest == 0) → lines_of (drop at text) ≡ []
unfolding lines_of
lines_over text [] at same none = ap lines_of (sym same)
lines_over text (c ∷ cs) at same none = absurd (grind arith)

-- there is a piece always
pub split_is : {A : Type 0} (passes : A → Bool) (items : List A) → split passes items ≡ first_of (split passes items) ∷ behind (split passes items)
unfolding split
split_is passes [] = refl
split_is {A} passes (item ∷ items) = by_test (passes item)
  where
    by_test : (b : Bool) → cond {A = List (List A)} b ([] ∷ split passes items) (led_by item (split passes items))
        ≡ first_of (cond {A = List (List A)} b ([] ∷ split passes items) (led_by item (split passes items))) ∷ behind (cond {A = List (List A)} b ([] ∷ split passes items) (led_by item (split passes items)))
    by_test true = refl
    by_test false = led_is item (split passes items)
      where
        led_is : (item : A) (pieces : List (List A)) → led_by item pieces ≡ first_of (led_by item pieces) ∷ behind (led_by item pieces)
        led_is item [] = refl
        led_is item (piece ∷ pieces) = refl
