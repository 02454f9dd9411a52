-- What a choice loads, and what the rows of capacity say of it.
use Rattle.std.proofs.Common.{◌≡◌, ℕ, zero, suc, ◌+◌, ◌*◌, ◌^◌, ◌≤◌, ℤ, pos, neg_ℤ, ◌+ℤ◌, ◌≤ℤ◌, Bool, true, false, cond, List, [], ◌∷◌, ◌++◌, drop, map, refl, sym, ap, ◌∙◌, arith}
use Rattle.std.specs.Prelude.{nat_lt}
use Rattle.std.specs.List.{sum_by, filter, flat_map}
use Rattle.std.proofs.lemmas.Bool.{lt-ltb}
use Rattle.std.proofs.lemmas.Int.{ints}
use Rattle.std.proofs.lemmas.List.{get_or-drop}
use Rattle.std.proofs.lemmas.List.Sums.{sum_by-cons, sum_by-append}
use Rattle.zero_one.specs.declared.rows.Entry.{Entry}
use Rattle.zero_one.specs.Rows.{bit_of, row_sum, Meets}
use Rattle.workload.specs.World.{Lists}
use Rattle.placement_rows.proofs.Growing.{sum_by-map}
use Rattle.placement_rows.proofs.Sums.{sum_by-agree, sum_by-filter}
use Rattle.machine_text.specs.declared.machines.Machine.{Machine}
use Rattle.machine_text.specs.Machines.{Fleet, machine_of}
use Rattle.joint_placement.specs.JointPlans.{sets}
use Rattle.joint_placement.specs.Variables.{first_of, first_digit, places}
use Rattle.joint_placement.specs.Capacity.{set_loads, joint_loads, load_from, load_entry, digit_entry, is_load, capacity_row}
use Rattle.joint_placement.specs.Placed.{number_at}

-- what the variables that are 1 load
abbrev pub borne : List (ℕ × ℕ) → List Bool → ℕ
borne loads x = sum_by (λ load. cond (bit_of x load.0) load.1 0) loads

-- what loads nothing counts for nothing
kept_load : (b : Bool) (n : ℕ) → cond (nat_lt 0 n) (cond b n 0) 0 ≡ cond b n 0
kept_load true zero = refl
kept_load false zero = refl
kept_load b (suc n) = ap (λ t. cond t (cond b (suc n) 0) 0) (lt-ltb 0 (suc n) (omega arith))

borne-filter : (loads : List (ℕ × ℕ)) (x : List Bool) → borne (filter is_load loads) x ≡ borne loads x
borne-filter loads x =
    sum_by-filter (λ (load : ℕ × ℕ). cond (bit_of x load.0) load.1 0) is_load loads
    ∙ sum_by-agree (λ (load : ℕ × ℕ). cond (is_load load) (cond (bit_of x load.0) load.1 0) 0) (λ (load : ℕ × ℕ). cond (bit_of x load.0) load.1 0) (λ load. kept_load (bit_of x load.0) load.1) loads

borne-from : (first : ℕ) (loads : List (ℕ × ℕ)) (x : List Bool) → borne (map (load_from first) loads) x ≡ borne loads (drop first x)
borne-from first loads x =
    sum_by-map (λ (load : ℕ × ℕ). cond (bit_of x load.0) load.1 0) (load_from first) loads
    ∙ sum_by-agree (λ (load : ℕ × ℕ). cond (bit_of x (first + load.0)) load.1 0) (λ (load : ℕ × ℕ). cond (bit_of (drop first x) load.0) load.1 0)
    (λ load. ap (λ b. cond b load.1 0) (sym (get_or-drop first x load.0 false))) loads

sum-pieces : {X Y : Type 0} (f : Y → ℕ) (g : X → List Y) (xs : List X) → sum_by f (flat_map g xs) ≡ sum_by (λ x. sum_by f (g x)) xs
sum-pieces f g [] = refl
sum-pieces f g (x ∷ xs) = omega (arith, sum_by-append f (g x) (flat_map g xs), sum-pieces f g xs, sum_by-cons (λ x. sum_by f (g x)) x xs)

-- all sets together load what each does
pub borne-joint : (w : Lists) (unit d : ℕ) (x : List Bool) → borne (joint_loads w unit d) x ≡ sum_by (λ set. borne (set_loads w unit d set) (drop (first_of w set) x)) (sets w)
unfolding joint_loads
borne-joint w unit d x =
    sum-pieces (λ (load : ℕ × ℕ). cond (bit_of x load.0) load.1 0) (λ set. map (load_from (first_of w set)) (set_loads w unit d set)) (sets w)
    ∙ sum_by-agree (λ set. borne (map (load_from (first_of w set)) (set_loads w unit d set)) x) (λ set. borne (set_loads w unit d set) (drop (first_of w set) x))
    (λ set. borne-from (first_of w set) (set_loads w unit d set) x) (sets w)

-- what the entries of loads take away
away : (b : Bool) (n m : ℕ) (t : ℤ) → t +ℤ pos m ≡ pos 0 → (cond b (neg_ℤ (pos n)) (pos 0) +ℤ t) +ℤ pos (cond b n 0 + m) ≡ pos 0
away true n m t e = omega (arith, ints)
away false n m t e = omega (arith, ints)

loads-away : (loads : List (ℕ × ℕ)) (x : List Bool) → row_sum (map load_entry loads) x +ℤ pos (borne loads x) ≡ pos 0
loads-away [] x = omega (arith, ints)
loads-away (load ∷ loads) x =
    ap (λ n. row_sum (map load_entry (load ∷ loads)) x +ℤ pos n) (sum_by-cons (λ (load : ℕ × ℕ). cond (bit_of x load.0) load.1 0) load loads)
    ∙ away (bit_of x load.0) load.1 (borne loads x) (row_sum (map load_entry loads) x) (loads-away loads x)

-- what the digits' entries add
added : (b : Bool) (n m : ℕ) (t : ℤ) → t ≡ pos m → cond b (pos n) (pos 0) +ℤ t ≡ pos (cond b n 0 + m)
added true n m t e = omega (arith, ints)
added false n m t e = omega (arith, ints)

digits-add : (first : ℕ) (machine : Machine) (js : List ℕ) (x : List Bool) → row_sum (map (digit_entry first machine) js) x ≡ pos (sum_by (λ j. cond (bit_of x (first + j)) (2 ^ j * machine.capacity) 0) js)
digits-add first machine [] x = refl
digits-add first machine (j ∷ js) x =
    added (bit_of x (first + j)) (2 ^ j * machine.capacity) _ (row_sum (map (digit_entry first machine) js) x) (digits-add first machine js x)
    ∙ ap pos (sym (sum_by-cons (λ j. cond (bit_of x (first + j)) (2 ^ j * machine.capacity) 0) j js))

times : (b : Bool) (n c m : ℕ) → cond b (n * c) 0 + m * c ≡ (cond b n 0 + m) * c
times true n c m = omega arith
times false n c m = omega arith

-- so much for each machine
pub each-machine : (first c : ℕ) (js : List ℕ) (x : List Bool) → sum_by (λ j. cond (bit_of x (first + j)) (2 ^ j * c) 0) js ≡ sum_by (λ j. cond (bit_of x (first + j)) (2 ^ j) 0) js * c
each-machine first c [] x = omega arith
each-machine first c (j ∷ js) x =
    sum_by-cons (λ j. cond (bit_of x (first + j)) (2 ^ j * c) 0) j js
    ∙ ap (λ m. cond (bit_of x (first + j)) (2 ^ j * c) 0 + m) (each-machine first c js x)
    ∙ times (bit_of x (first + j)) (2 ^ j) c (sum_by (λ j. cond (bit_of x (first + j)) (2 ^ j) 0) js)
    ∙ ap (λ m. m * c) (sym (sum_by-cons (λ j. cond (bit_of x (first + j)) (2 ^ j) 0) j js))

row_sum-append : (es fs : List Entry) (x : List Bool) → row_sum (es ++ fs) x ≡ row_sum es x +ℤ row_sum fs x
row_sum-append [] fs x = omega (arith, ints)
row_sum-append (e ∷ es) fs x =
    ap (λ z. cond (bit_of x e.var) e.coef (pos 0) +ℤ z) (row_sum-append es fs x)
    ∙ (let a : ℤ = cond (bit_of x e.var) e.coef (pos 0) in
    let e : a +ℤ (row_sum es x +ℤ row_sum fs x) ≡ (a +ℤ row_sum es x) +ℤ row_sum fs x = omega (arith, ints) in e)

module _ (w : Lists) (fleet : Fleet) (d : ℕ) (x : List Bool) where
  number : ℕ
  number = number_at x (first_digit w fleet d) (machine_of fleet d)

  -- the row's sum and the load are what the machines bear
  bearing : row_sum (capacity_row w fleet d).entries x +ℤ pos (borne (joint_loads w fleet.unit d) x) ≡ pos (number * (machine_of fleet d).capacity)
  unfolding capacity_row number_at number
  bearing =
      let loads = filter is_load (joint_loads w fleet.unit d) in
      let m = machine_of fleet d in
      let first = first_digit w fleet d in
      let sum : ℤ = row_sum (map load_entry loads ++ map (digit_entry first m) (places m)) x in
      let parts : sum ≡ row_sum (map load_entry loads) x +ℤ row_sum (map (digit_entry first m) (places m)) x = row_sum-append (map load_entry loads) (map (digit_entry first m) (places m)) x in
      let digits : row_sum (map (digit_entry first m) (places m)) x ≡ pos (sum_by (λ j. cond (bit_of x (first + j)) (2 ^ j) 0) (places m) * m.capacity) =
      digits-add first m (places m) x ∙ ap pos (each-machine first m.capacity (places m) x) in
      let less : row_sum (map load_entry loads) x +ℤ pos (borne (joint_loads w fleet.unit d) x) ≡ pos 0 =
      ap (λ n. row_sum (map load_entry loads) x +ℤ pos n) (sym (borne-filter (joint_loads w fleet.unit d) x)) ∙ loads-away loads x in
      go sum (row_sum (map load_entry loads) x) (row_sum (map (digit_entry first m) (places m)) x) (pos (borne (joint_loads w fleet.unit d) x)) _ parts digits less
    where
      go : (s a b c z : ℤ) → s ≡ a +ℤ b → b ≡ z → a +ℤ c ≡ pos 0 → s +ℤ c ≡ z
      go s a b c z p q r = omega (arith, ints)

  no_bound : (capacity_row w fleet d).bound ≡ pos 0
  unfolding capacity_row
  no_bound = refl

  -- the row is met where the machines bear the load, and only there
  pub row-met : borne (joint_loads w fleet.unit d) x ≤ number_at x (first_digit w fleet d) (machine_of fleet d) * (machine_of fleet d).capacity → Meets x (capacity_row w fleet d)
  unfolding number
  row-met enough = go (capacity_row w fleet d).bound (row_sum (capacity_row w fleet d).entries x) (borne (joint_loads w fleet.unit d) x) _ no_bound bearing enough
    where
      go : (b s : ℤ) (n m : ℕ) → b ≡ pos 0 → s +ℤ pos n ≡ pos m → n ≤ m → b ≤ℤ s
      go b s n m p q r = omega (arith, ints)

  pub row-bears : Meets x (capacity_row w fleet d) → borne (joint_loads w fleet.unit d) x ≤ number_at x (first_digit w fleet d) (machine_of fleet d) * (machine_of fleet d).capacity
  unfolding number
  row-bears met = go (capacity_row w fleet d).bound (row_sum (capacity_row w fleet d).entries x) (borne (joint_loads w fleet.unit d) x) _ no_bound bearing met
    where
      go : (b s : ℤ) (n m : ℕ) → b ≡ pos 0 → s +ℤ pos n ≡ pos m → b ≤ℤ s → n ≤ m
      go b s n m p q r = omega (arith, ints)
