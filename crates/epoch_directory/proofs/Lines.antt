-- What a table lists for a set: where its line stands, and what is left once the line is taken out.
use Rattle.std.proofs.Common.{◌≡◌, ◌≢◌, ℕ, zero, suc, ◌<◌, Bool, true, false, cond, eqb, ltb, List, [], ◌∷◌, Some, None, length, get_or, refl, ap, ◌∙◌, sym, arith}
use Rattle.std.specs.Prelude.{option_map}
use Rattle.std.specs.List.{All, find, position, position_or_len, remove, slice_get}
use Rattle.std.proofs.lemmas.Bool.{ltb-false, eqb-true}
use Rattle.std.proofs.lemmas.Bool.Decides.{nat_tests}
use Rattle.std.proofs.lemmas.List.Elements.{All-head, All-tail}
use Rattle.std.proofs.lemmas.List.Folds.{find_at}
use Rattle.std.proofs.lemmas.List.Quantifiers.{position-Some}
use Rattle.std.proofs.lemmas.Option.{slice_get_past}
use Rattle.span_base.specs.declared.policy.Policy.{Policy}
use Rattle.epoch_directory.specs.declared.table.SetPolicy.{SetPolicy}
use Rattle.epoch_directory.specs.Tables.{is_line_of, listed}

-- the first item that passes is found
pub find_first : {X : Type 0} (p : X → Bool) (xs : List X) (i : ℕ) (d : X) → i < length xs → p (get_or xs i d) ≡ true → ((k : ℕ) → k < i → p (get_or xs k d) ≡ false) → find p xs ≡ Some (get_or xs i d)
find_first p [] i d within passes before = absurd (omega arith)
find_first p (x ∷ xs) zero d within passes before =
    ap (λ b. cond b (Some x) (find p xs)) passes
find_first p (x ∷ xs) (suc i) d within passes before =
    ap (λ b. cond b (Some x) (find p xs)) (before 0 (omega arith))
    ∙ find_first p xs i d (omega arith) passes (λ k below. before (suc k) (omega arith))

-- an item that doesn't pass may be taken out
find-remove : {X : Type 0} (p : X → Bool) (xs : List X) (i : ℕ) (d : X) → i < length xs → p (get_or xs i d) ≡ false → find p (remove xs i) ≡ find p xs
find-remove p [] i d within fails = absurd (omega arith)
find-remove p (x ∷ xs) zero d within fails =
    sym (ap (λ b. cond b (Some x) (find p xs)) fails)
find-remove p (x ∷ xs) (suc i) d within fails =
    ap (cond (p x) (Some x)) (find-remove p xs i d (omega arith) fails)

-- where no item passes, none is found
find_none : {X : Type 0} (p : X → Bool) (xs : List X) → None ≡ position p xs → find p xs ≡ None
find_none {X} p xs none = find_at p xs ∙ past (ltb n (length xs)) refl (sym none) where
  n : ℕ
  n = position_or_len p xs

  past : (b : Bool) → ltb n (length xs) ≡ b → cond b (Some n) None ≡ None → slice_get xs n ≡ None
  past true e same = cc
  past false e same = slice_get_past xs n (ltb-false n (length xs) e)

-- a table without a line of the set lists nothing for it
pub listed_none : (table : List SetPolicy) (set : ℕ) → None ≡ position (is_line_of set) table → listed table set ≡ None
listed_none table set none =
    ap (option_map (λ (line : SetPolicy). line.policy)) (find_none (is_line_of set) table none)

-- a table lists the policy of the set's line
pub listed_some : (table : List SetPolicy) (set place : ℕ) (line : SetPolicy) → Some place ≡ position (is_line_of set) table → line ≡ get_or table place line → Some line.policy ≡ listed table set
listed_some table set place line there read =
    let at = position-Some (is_line_of set) table place line (sym there) in
    sym (ap (option_map (λ (l : SetPolicy). l.policy)) (find_first (is_line_of set) table place line at.0 at.1 (λ k below. at.2 k below)) ∙ ap (λ (l : SetPolicy). Some l.policy) (sym read))

-- what a table lists for other sets stays once the set's line is taken out
pub listed_rest : (table : List SetPolicy) (set place : ℕ) (line : SetPolicy) (other : ℕ) → Some place ≡ position (is_line_of set) table → other ≢ set → listed (remove table place) other ≡ listed table other
listed_rest table set place line other there apart =
    let at = position-Some (is_line_of set) table place line (sym there) in
    let same : (get_or table place line).set.0 ≡ set = eqb-true _ _ at.1 in
    let fails : eqb (get_or table place line).set.0 other ≡ false = grind (arith, nat_tests) in
    ap (option_map (λ (l : SetPolicy). l.policy)) (find-remove (is_line_of other) table place line at.0 fails)

-- the line of a policy that a table lists, with what holds of every line
pub line_of_listed : (P : SetPolicy → Type 0) (table : List SetPolicy) (set : ℕ) (policy : Policy) → All P table → listed table set ≡ Some policy → (line : SetPolicy) × P line × (line.set.0 ≡ set) × (line.policy ≡ policy)
line_of_listed P [] set policy all there = cc
line_of_listed P (x ∷ xs) set policy all there =
    at (eqb x.set.0 set) refl there (line_of_listed P xs set policy (All-tail P x xs all)) where
      Line : Type 0
      Line = (line : SetPolicy) × P line × (line.set.0 ≡ set) × (line.policy ≡ policy)

      at : (b : Bool) → eqb x.set.0 set ≡ b → option_map (λ (l : SetPolicy). l.policy) (cond b (Some x) (find (is_line_of set) xs)) ≡ Some policy → (listed xs set ≡ Some policy → Line) → Line
      at true e same rest = (x, All-head P x xs all, eqb-true x.set.0 set e, cc)
      at false e same rest = rest same
