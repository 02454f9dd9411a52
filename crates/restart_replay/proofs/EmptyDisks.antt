-- An empty disk that never fails.
use Rattle.std.proofs.Common.{◌≡◌, ℕ, ◌+◌, List, [], ◌∷◌, ◌++◌, map, refl, sym, ap, ◌∙◌, subst, inl, arith, Option, Some, Err}
use Rattle.std.specs.Prelude.{IsTrue}
use Rattle.std.specs.List.{All, range_with_len}
use Rattle.std.proofs.lemmas.List.{map-append}
use Rattle.std.proofs.lemmas.List.Elements.{All-push}
use Rattle.std.proofs.lemmas.List.FromFn.{map-range_with_len_more}
use Rattle.replica_core.specs.Rule.{State, opening_state}
use Rattle.replica_journal.specs.declared.open_fault.OpenCause.TheVariants as cause
use Rattle.replica_journal.specs.Disk.{History, bytes_of}
use Rattle.replica_journal.specs.Calls.{is_calm}
use Rattle.replica_journal.specs.Memory.{HeldDisk}
use Rattle.replica_journal.specs.Records.{HasRecords}
use Rattle.replica_journal.specs.Opened.{Opens}
use Rattle.replica_journal.proofs.Reopening.{undamaged_again}

-- nothing was written, and no call is to fail
abbrev empty_disk : List ℕ → HeldDisk
empty_disk failing = record { history = []; calls = record { failing = failing; stop = 0; made = 0; faults = 0 } }

none_fails : IsTrue (is_calm (record { failing = []; stop = 0; made = 0; faults = 0 }))
unfolding is_calm
none_fails = refl

pub fresh_calm : (disk : HeldDisk) (failing : List ℕ) → disk ≡ empty_disk failing → failing ≡ [] → IsTrue (is_calm disk.calls)
fresh_calm disk failing is none =
    subst (λ (d : HeldDisk). IsTrue (is_calm d.calls)) (sym is) (subst (λ (xs : List ℕ). IsTrue (is_calm (empty_disk xs).calls)) (sym none) none_fails)

pub fresh_undamaged : (number keys at : ℕ) (disk : HeldDisk) (failing : List ℕ) (now : Option History) → disk ≡ empty_disk failing → Opens number keys (Some disk.history) now (Err (cause.Damaged at)) → ⊥
fresh_undamaged number keys at disk failing now is opens =
    let none : disk.history ≡ [] = ap (λ (d : HeldDisk). d.history) is in
    let empty : HasRecords keys (bytes_of []) [] = inl (omega arith, refl) in
    undamaged_again number keys at disk.history now opens ([], subst (λ (h : History). HasRecords keys (bytes_of h) []) (sym none) empty)

-- ---- one replica more

pub states_more : {X : Type 0} → (f : X → State) (xs ys : List X) (x : X) (keys n : ℕ) → ys ≡ xs ++ x ∷ [] → map f xs ≡ map (λ (number : ℕ). opening_state number keys) (range_with_len 0 n) → f x ≡ opening_state n keys
    → map f ys ≡ map (λ (number : ℕ). opening_state number keys) (range_with_len 0 (n + 1))
states_more {X} f xs ys x keys n longer states here =
    ap (map f) longer ∙ map-append f xs (x ∷ []) ∙ ap (λ (ss : List State). ss ++ f x ∷ []) states
    ∙ ap (λ (s : State). map (λ (number : ℕ). opening_state number keys) (range_with_len 0 n) ++ s ∷ []) here
    ∙ sym (map-range_with_len_more (λ (number : ℕ). opening_state number keys) 0 n n (omega arith))

pub all_more : {X : Type 0} → (P : X → Type 0) (xs ys : List X) (x : X) → ys ≡ xs ++ x ∷ [] → All P xs → P x → All P ys
all_more {X} P xs ys x longer are is = subst (All P) (sym longer) (All-push P xs x are is)
