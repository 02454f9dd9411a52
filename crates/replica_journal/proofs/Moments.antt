-- How the moments of a run of calls go on.
use Rattle.std.proofs.Common.{ℕ, ◌≡◌, List, [], ◌∷◌, ◌++◌, length, refl, sym, ◌∙◌, ap, subst, arith, length-append}
use Rattle.std.proofs.lemmas.List.{nil_from_length}
use Rattle.replica_journal.specs.Disk.{Change, History, GoesOn, IsImage, AtEachMoment}

-- a moment between a history and itself is that history
only_now : (history moment : History) → GoesOn history moment → GoesOn moment history → moment ≡ history
only_now history moment since until =
    let none : until.0 ≡ [] = nil_from_length until.0 (omega (arith, ap length since.1, ap length until.1, length-append since.0 history, length-append until.0 moment)) in
    sym (until.1 ∙ ap (λ (l : List Change). l ++ moment) none)

-- before the first call
pub at_start : (history : History) (P : List ℕ → Type 0) → ((image : List ℕ) → IsImage history image → P image) → AtEachMoment history history P
at_start history P now moment since until image is =
    now image (subst (λ (h : History). IsImage h image) (only_now history moment since until) is)

-- the moment is the last one, or one before it
last_or_before : (moment history : History) (change : Change) (P : List ℕ → Type 0) (changes : List Change) → change ∷ history ≡ changes ++ moment
    → ((image : List ℕ) → IsImage (change ∷ history) image → P image)
    → (GoesOn moment history → (image : List ℕ) → IsImage moment image → P image)
    → (image : List ℕ) → IsImage moment image → P image
last_or_before moment history change P [] until now earlier image is = now image (subst (λ (h : History). IsImage h image) (sym until) is)
last_or_before moment history change P (c ∷ changes) until now earlier image is = earlier (changes, ap tail until) image is
  where
    tail : List Change → List Change
    tail [] = []
    tail (x ∷ xs) = xs

-- one change more, after which a crash leaves what has P
pub at_next : (earlier history : History) (change : Change) (P : List ℕ → Type 0) → AtEachMoment earlier history P
    → ((image : List ℕ) → IsImage (change ∷ history) image → P image) → AtEachMoment earlier (change ∷ history) P
at_next earlier history change P so_far now moment since until image is =
    last_or_before moment history change P until.0 until.1 now (λ on. so_far moment since on) image is

-- a history goes on from itself, and by one change more
pub goes_on_here : (history : History) → GoesOn history history
goes_on_here history = ([], refl)

pub goes_on_next : (earlier history : History) (change : Change) → GoesOn earlier history → GoesOn earlier (change ∷ history)
goes_on_next earlier history change on = (change ∷ on.0, ap (λ (l : List Change). change ∷ l) on.1)
