-- A path in its list: going down, turning, and taking a turn back.
use Rattle.std.proofs.Common.{◌≡◌, ℕ, zero, suc, ◌+◌, ◌-◌, ◌<◌, ◌≤◌, Bool, true, false, Option, Some, None, List, [], ◌∷◌, length, drop, set, get_or, replicate, refl, sym, ap, ◌∙◌, subst, arith, add-one}
use Rattle.std.specs.Prelude.{is_some, not}
use Rattle.std.proofs.Math.Seq.{drop-cons}
use Rattle.std.proofs.lemmas.List.{length-set, length-replicate, length-drop, drop-set, set-set, get_or-set_same}
use Rattle.std.proofs.lemmas.Option.{slice_get_within, slice_get-get_or, get_or_from_slice_get}
use Rattle.bound_cert.specs.Trees.{IsFree, fix}
use Rattle.cert_checker.specs.declared.turns.Turn.{Turn}
use Rattle.cert_checker.specs.Paths.{turned_back, fixed_over, IsPath, HoldsPath}

-- ---- how many variables are free

pub nones : List (Option Bool) → ℕ
nones [] = 0
nones (None ∷ fixed) = suc (nones fixed)
nones (Some bit ∷ fixed) = nones fixed

pub nones-replicate : (n : ℕ) → nones (replicate n None) ≡ n
unfolding nones
nones-replicate zero = refl
nones-replicate (suc n) = ap suc (nones-replicate n)

pub nones-fix : (fixed : List (Option Bool)) (var : ℕ) (bit : Bool) → IsFree fixed var → suc (nones (fix fixed var bit)) ≡ nones fixed
unfolding nones
nones-fix [] var bit free = absurd (cc)
nones-fix (None ∷ fixed) zero bit free = refl
nones-fix (Some b ∷ fixed) zero bit free = absurd (cc)
nones-fix (None ∷ fixed) (suc var) bit free = ap suc (nones-fix fixed var bit free)
nones-fix (Some b ∷ fixed) (suc var) bit free = nones-fix fixed var bit free

set_back : (fixed : List (Option Bool)) (var : ℕ) (bit : Bool) → IsFree fixed var → set (fix fixed var bit) var None ≡ fixed
set_back [] var bit free = refl
set_back (b ∷ fixed) zero bit free = ap (λ o. o ∷ fixed) (let e : b ≡ None = cc in sym e)
set_back (b ∷ fixed) (suc var) bit free = ap (λ bs. b ∷ bs) (set_back fixed var bit free)

pub length-fixed_over : (variables : ℕ) (path : List Turn) → length (fixed_over variables path) ≡ variables
length-fixed_over variables [] = length-replicate variables None
length-fixed_over variables (turn ∷ above) = length-set (fixed_over variables above) turn.var (Some turn.bit) ∙ length-fixed_over variables above

IsPath-above : (variables : ℕ) (turn : Turn) (above : List Turn) → IsPath variables (turn ∷ above) → IsPath variables above
IsPath-above variables turn above apart = λ at t e. apart (suc at) t e

IsPath-deepest : (variables : ℕ) (turn : Turn) (above : List Turn) → IsPath variables (turn ∷ above) → IsFree (fixed_over variables above) turn.var
IsPath-deepest variables turn above apart = apart 0 turn refl

IsPath-down : (variables : ℕ) (turn : Turn) (above : List Turn) → IsFree (fixed_over variables above) turn.var → IsPath variables above → IsPath variables (turn ∷ above)
IsPath-down variables turn above free apart zero t e =
    let same : turn ≡ t = cc in
    let P : Turn → Type 0 = λ u. IsFree (fixed_over variables above) u.var in subst P same free
IsPath-down variables turn above free apart (suc at) t e = apart at t e

nones-fixed_over : (variables : ℕ) (path : List Turn) → IsPath variables path → nones (fixed_over variables path) + length path ≡ variables
nones-fixed_over variables [] apart = omega (arith, nones-replicate variables)
nones-fixed_over variables (turn ∷ above) apart =
    omega (arith, nones-fix (fixed_over variables above) turn.var turn.bit (IsPath-deepest variables turn above apart), nones-fixed_over variables above (IsPath-above variables turn above apart))

pub some_free : (turns : List Turn) (free : ℕ) (fixed : List (Option Bool)) (var : ℕ) → HoldsPath turns free fixed → IsFree fixed var → 1 ≤ free
some_free turns free fixed var holds is_free =
    let counted = rw (← holds.fixes) at (nones-fixed_over (length turns) (drop free turns) holds.apart) in
    omega (arith, counted, length-drop free turns, nones-fix fixed var true is_free, holds.within)

-- ---- one turn more

pub goes_down : (turns : List Turn) (free : ℕ) (fixed : List (Option Bool)) (turn : Turn) → HoldsPath turns free fixed → IsFree fixed turn.var → drop (free - 1) (set turns (free - 1) turn) ≡ turn ∷ drop free turns
goes_down turns free fixed turn holds is_free =
    let positive = some_free turns free fixed turn.var holds is_free in
    let back : free - 1 + 1 ≡ free = omega (arith, positive) in
    drop-set turns (free - 1) turn (omega (arith, positive, holds.within)) ∙ ap (λ n. turn ∷ drop n turns) back

pub HoldsPath-down : (turns : List Turn) (free : ℕ) (fixed : List (Option Bool)) (turn : Turn) → HoldsPath turns free fixed → IsFree fixed turn.var → HoldsPath (set turns (free - 1) turn) (free - 1) (fix fixed turn.var turn.bit)
HoldsPath-down turns free fixed turn holds is_free =
    let positive = some_free turns free fixed turn.var holds is_free in
    let down = goes_down turns free fixed turn holds is_free in
    record {
      within = omega (arith, holds.within, length-set turns (free - 1) turn);
      fixes = rw (length-set, down) (ap (λ f. fix f turn.var turn.bit) holds.fixes);
      apart = let P : ℕ → List Turn → Type 0 = λ n p. IsPath n p in
          let e = sym (length-set turns (free - 1) turn) in
          let here : IsPath (length turns) (turn ∷ drop free turns) = IsPath-down (length turns) turn (drop free turns) (rw holds.fixes at is_free) holds.apart in
          let Q : List Turn → Type 0 = λ p. IsPath (length turns) p in
          let there : IsPath (length turns) (drop (free - 1) (set turns (free - 1) turn)) = subst Q (sym down) here in
          let R : ℕ → Type 0 = λ n. IsPath n (drop (free - 1) (set turns (free - 1) turn)) in
          subst R e there;
    }

-- ---- the deepest turn, taken back or turned

pub record Deepest (turns : List Turn) (free : ℕ) (fixed : List (Option Bool)) (turn : Turn) : Type 0 where
  pub path : drop free turns ≡ turn ∷ drop (free + 1) turns
  pub inside : turn.var < length fixed
  pub back : turn.bit ≡ true → turned_back (drop free turns) ≡ turned_back (drop (free + 1) turns)
  pub above : HoldsPath turns (free + 1) (set fixed turn.var None)

pub deepest : (turns : List Turn) (free : ℕ) (fixed : List (Option Bool)) (turn : Turn) → HoldsPath turns free fixed → free < length turns → turn ≡ get_or turns free turn → Deepest turns free fixed turn
deepest turns free fixed turn holds within here =
    let variables = length turns in
    let above = drop (free + 1) turns in
    let path : drop free turns ≡ turn ∷ drop (free + 1) turns = rw add-one (drop-cons turns free turn within ∙ ap (λ t. t ∷ drop (suc free) turns) (sym here)) in
    let apart : IsPath (length turns) (turn ∷ drop (free + 1) turns) = let P : List Turn → Type 0 = λ p. IsPath (length turns) p in subst P path holds.apart in
    let is_free = IsPath-deepest variables turn above apart in
    let fixes : fixed ≡ fix (fixed_over (length turns) (drop (free + 1) turns)) turn.var turn.bit = holds.fixes ∙ ap (fixed_over (length turns)) path in
    let inner = slice_get_within (fixed_over (length turns) (drop (free + 1) turns)) turn.var None is_free in
    record {
      path = path;
      inside = omega (arith, inner, ap length fixes, length-set (fixed_over (length turns) (drop (free + 1) turns)) turn.var (Some turn.bit));
      back = λ up. ap turned_back path ∙ taken_back turn above up;
      above = record {
        within = omega arith;
        fixes = ap (λ f. set f turn.var None) fixes ∙ set_back (fixed_over (length turns) (drop (free + 1) turns)) turn.var turn.bit is_free;
        apart = IsPath-above variables turn above apart;
      };
    }
  where
    taken_back : (turn : Turn) (above : List Turn) → turn.bit ≡ true → turned_back (turn ∷ above) ≡ turned_back above
    taken_back turn above up = rw up

-- the deepest turn takes its bit 1 in place of its bit 0
pub record Turned (turns : List Turn) (free : ℕ) (fixed : List (Option Bool)) (turn : Turn) : Type 0 where
  pub path : turned_back (drop free turns) ≡ Some (drop free (set turns free (record { var = turn.var; bit = true })))
  pub holds : HoldsPath (set turns free (record { var = turn.var; bit = true })) free (fix fixed turn.var true)

pub turned : (turns : List Turn) (free : ℕ) (fixed : List (Option Bool)) (turn : Turn) → HoldsPath turns free fixed → free < length turns → turn ≡ get_or turns free turn → turn.bit ≡ false → Turned turns free fixed turn
turned turns free fixed turn holds within here low =
    let deep = deepest turns free fixed turn holds within here in
    let up : Turn = record { var = turn.var; bit = true } in
    let is_free : IsFree (set fixed turn.var None) turn.var = slice_get-get_or (set fixed turn.var None) turn.var None (omega (arith, deep.inside, length-set fixed turn.var None)) ∙ ap Some (get_or-set_same fixed turn.var None None deep.inside) in
    let down = goes_down turns (free + 1) (set fixed turn.var None) (record { var = turn.var; bit = true }) deep.above is_free in
    let moved = HoldsPath-down turns (free + 1) (set fixed turn.var None) (record { var = turn.var; bit = true }) deep.above is_free in
    let here_again : free + 1 - 1 ≡ free = omega arith in
    let down' : drop free (set turns free (record { var = turn.var; bit = true })) ≡ record { var = turn.var; bit = true } ∷ drop (free + 1) turns = rw here_again at down in
    let moved' : HoldsPath (set turns free (record { var = turn.var; bit = true })) free (fix (set fixed turn.var None) turn.var true) = rw here_again at moved in
    record {
      path = ap turned_back deep.path ∙ turned_low turn (drop (free + 1) turns) low ∙ ap Some (sym down');
      holds = rw (← set-set fixed turn.var None (Some true)) moved';
    }
  where
    turned_low : (turn : Turn) (above : List Turn) → turn.bit ≡ false → turned_back (turn ∷ above) ≡ Some (record { var = turn.var; bit = true } ∷ above)
    turned_low turn above low = rw low

-- ---- whether a variable is free

none_from : (o : Option Bool) → is_some o ≡ false → o ≡ None
none_from None e = refl
none_from (Some b) e = absurd (cc)

pub free_test : (fixed : List (Option Bool)) (var : ℕ) (answer : Bool) → var < length fixed → is_some (get_or fixed var None) ≡ not answer → (answer ≡ true → IsFree fixed var) × (IsFree fixed var → answer ≡ true)
free_test fixed var true inside e =
    (λ _. slice_get-get_or fixed var None inside ∙ ap Some (none_from (get_or fixed var None) e), λ _. refl)
free_test fixed var false inside e =
    (λ h. absurd (cc), λ free. absurd (let g = get_or_from_slice_get fixed var None None free in let f = ap (λ o. is_some o) g in cc))

pub low_from : (bit : Bool) → not bit ≡ true → bit ≡ false
low_from true e = absurd (cc)
low_from false e = refl

pub high_from : (bit : Bool) → not bit ≡ false → bit ≡ true
high_from true e = refl
high_from false e = absurd (cc)
