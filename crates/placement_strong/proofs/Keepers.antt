-- The variables that keep replicas keep just those in the quorums.
use Rattle.std.proofs.Common.{◌≡◌, ℕ, zero, suc, ◌+◌, ◌<◌, ◌≤◌, inl, inr, Bool, true, false, cond, ◌&&◌, List, ◌∷◌, length, map, refl, sym, ap, subst, ◌∙◌, arith}
use Rattle.std.specs.List.{filter, flat_map, list_any, range_with_len, AllByRecursion}
use Rattle.std.proofs.lemmas.Bool.{cases_lt, and_parts, and_from, or_cases, or_left, or_right}
use Rattle.std.proofs.lemmas.List.Elements.{All-from_recursion}
use Rattle.std.proofs.lemmas.List.Folds.{list_any-append, Any-from_list_any}
use Rattle.span_base.specs.DcSet.{has, centres_of}
use Rattle.span_base.specs.declared.policy.Quorum.{Quorum}
use Rattle.workload.specs.World.{Lists, centre_count, rule_of}
use Rattle.slo_rules.specs.Rules.{is_read_near, is_write_near, union_of}
use Rattle.zero_one.specs.Rows.{bit_of}
use Rattle.placement_rows.specs.Centres.{read_near, write_near}
use Rattle.placement_rows.proofs.Each.{each-append, each-map, each-flat_map, each-range}
use Rattle.placement_rows.proofs.ProviderRows.{Keeps}
use Rattle.placement_strong.specs.Variables.{member_count, members, member_at, g_var, w_var}
use Rattle.placement_strong.specs.Rows.{keeping}
use Rattle.placement_strong.specs.Placed.{quorum_at}
use Rattle.placement_strong.proofs.SetTests.{any_pass, any_pass-from}
use Rattle.placement_strong.proofs.Unions.{in-union, union-in}

-- of the quorums of a member, what a choice says of its variables and what lies in the world
pub record Stands (w : Lists) (set : ℕ) (x : List Bool) (quorums : List Quorum) (a : ℕ) : Type 0 where
  pub reads : (d : ℕ) → d < centre_count w → (is_read_near w (rule_of w set) (member_at w set a).dc.0 d && bit_of x (g_var w a d)) ≡ has (quorum_at quorums a).read d
  pub writes : (d : ℕ) → d < centre_count w → (is_write_near w (rule_of w set) (member_at w set a).dc.0 d && bit_of x (w_var w set a d)) ≡ has (quorum_at quorums a).write d
  pub read_low : (d : ℕ) → has (quorum_at quorums a).read d ≡ true → d < centre_count w
  pub write_low : (d : ℕ) → has (quorum_at quorums a).write d ≡ true → d < centre_count w

both_ways : (a b : Bool) → (a ≡ true → b ≡ true) → (b ≡ true → a ≡ true) → a ≡ b
both_ways true b h k = sym (h refl)
both_ways false true h k = k refl
both_ways false false h k = refl

any-pieces : {X : Type 0} (p : X → Bool) (f : ℕ → List X) (s k a : ℕ) → s ≤ a → a < s + k → list_any p (f a) ≡ true → list_any p (flat_map f (range_with_len s k)) ≡ true
any-pieces p f s zero a from to some = absurd (omega arith)
any-pieces p f s (suc k) a from to some =
    let rest = flat_map f (range_with_len (s + 1) k) in
    list_any-append p (f s) rest ∙ elim (cases_lt s a) [
      | inl above ↦ or_right (list_any p (f s)) (list_any p rest) (any-pieces p f (s + 1) k a (omega arith) (omega arith) some)
      | inr below ↦ or_left (list_any p (f s)) (list_any p rest) (ap (λ e. list_any p (f e)) (let e : s ≡ a = omega arith in e) ∙ some)
    ]

any-kept : {X : Type 0} (p : X → Bool) (g : ℕ → X) (q : ℕ → Bool) (s n d : ℕ) → s ≤ d → d < s + n → q d ≡ true → p (g d) ≡ true → list_any p (map g (filter q (range_with_len s n))) ≡ true
any-kept p g q s zero d from to among is = absurd (omega arith)
any-kept p g q s (suc n) d from to among is = elim (cases_lt s d) [
  | inl above ↦
      let rest = any-kept p g q (s + 1) n d (omega arith) (omega arith) among is in
      elim (q s) as (λ b. list_any p (map g (cond b (s ∷ filter q (range_with_len (s + 1) n)) (filter q (range_with_len (s + 1) n)))) ≡ true) [
        | true ↦ or_right (p (g s)) (list_any p (map g (filter q (range_with_len (s + 1) n)))) rest
        | false ↦ rest
      ]
  | inr below ↦
      let same : s ≡ d = omega arith in
      ap (λ b. list_any p (map g (cond b (s ∷ filter q (range_with_len (s + 1) n)) (filter q (range_with_len (s + 1) n))))) (ap q same ∙ among)
      ∙ or_left (p (g s)) (list_any p (map g (filter q (range_with_len (s + 1) n)))) (ap (λ e. p (g e)) same ∙ is)
]

-- what is kept of a range is in it and passes
each-kept : (q : ℕ → Bool) (s k n : ℕ) → s + k ≤ n → AllByRecursion (λ d. (d < n) × (q d ≡ true)) (filter q (range_with_len s k))
each-kept q s zero n low = tt
each-kept q s (suc k) n low = with_first (q s) refl (each-kept q (s + 1) k n (omega arith))
  where
    with_first : (b : Bool) → q s ≡ b → AllByRecursion (λ d. (d < n) × (q d ≡ true)) (filter q (range_with_len (s + 1) k)) → AllByRecursion (λ d. (d < n) × (q d ≡ true)) (cond b (s ∷ filter q (range_with_len (s + 1) k)) (filter q (range_with_len (s + 1) k)))
    with_first true is rest = ((omega arith, is), rest)
    with_first false is rest = rest

module _ (w : Lists) (set : ℕ) (x : List Bool) (quorums : List Quorum) (many : length quorums ≡ member_count w set) (stands : (a : ℕ) → a < member_count w set → Stands w set x quorums a) where
  Kept : ℕ × ℕ → Type 0
  Kept k = bit_of x k.0 ≡ true → has (union_of quorums) k.1 ≡ true

  each-keeper : AllByRecursion Kept (keeping w set)
  unfolding Kept
  each-keeper =
      let n = centre_count w in
      let r = rule_of w set in
      let low : AllByRecursion (λ a. a < member_count w set) (members w set) = each-range (λ a. a < member_count w set) 0 (member_count w set) (λ a from to. omega arith) in
      each-append Kept (flat_map (λ a. map (λ (d : ℕ). (g_var w a d, d)) (read_near w set (member_at w set a))) (members w set)) (flat_map (λ a. map (λ (d : ℕ). (w_var w set a d, d)) (write_near w set (member_at w set a))) (members w set))
      (each-flat_map Kept (λ a. a < member_count w set) (λ a. map (λ (d : ℕ). (g_var w a d, d)) (read_near w set (member_at w set a)))
      (λ a in'.
      let near = is_read_near w r (member_at w set a).dc.0 in
      let q = quorum_at quorums a in
      each-map Kept (λ d. (d < n) × (near d ≡ true)) (λ (d : ℕ). (g_var w a d, d))
      (λ d at is. in-union quorums a d (omega (arith, many)) (or_left (has q.read d) (has q.write d) (sym ((stands a in').reads d at.0) ∙ and_from (near d) (bit_of x (g_var w a d)) at.1 is)))
      (read_near w set (member_at w set a)) (each-kept near 0 n n (omega arith))) (members w set) low)
      (each-flat_map Kept (λ a. a < member_count w set) (λ a. map (λ (d : ℕ). (w_var w set a d, d)) (write_near w set (member_at w set a)))
      (λ a in'.
      let near = is_write_near w r (member_at w set a).dc.0 in
      let q = quorum_at quorums a in
      each-map Kept (λ d. (d < n) × (near d ≡ true)) (λ (d : ℕ). (w_var w set a d, d))
      (λ d at is. in-union quorums a d (omega (arith, many)) (or_right (has q.read d) (has q.write d) (sym ((stands a in').writes d at.0) ∙ and_from (near d) (bit_of x (w_var w set a d)) at.1 is)))
      (write_near w set (member_at w set a)) (each-kept near 0 n n (omega arith))) (members w set) low)

  kept : (p : ℕ → Bool) → list_any (λ (k : ℕ × ℕ). bit_of x k.0 && p k.1) (keeping w set) ≡ true → list_any p (centres_of (union_of quorums)) ≡ true
  unfolding Kept
  kept p some =
      let any = Any-from_list_any (λ (k : ℕ × ℕ). bit_of x k.0 && p k.1) (keeping w set) some in
      let parts = and_parts (bit_of x any.1.0) (p any.1.1) any.4 in
      let all = All-from_recursion Kept (keeping w set) each-keeper any.0 any.1 any.2 in
      any_pass-from p (union_of quorums) any.1.1 (subst Kept any.3 all parts.0) parts.1

  keeps_back : (p : ℕ → Bool) → list_any p (centres_of (union_of quorums)) ≡ true → list_any (λ (k : ℕ × ℕ). bit_of x k.0 && p k.1) (keeping w set) ≡ true
  keeps_back p some =
      let n = centre_count w in
      let r = rule_of w set in
      let at = any_pass p (union_of quorums) some in
      let d = at.at in
      let in' = union-in quorums d at.among in
      let a = in'.at in
      let low : a < member_count w set = omega (arith, in'.low, many) in
      let q = quorum_at quorums a in
      let test : ℕ × ℕ → Bool = λ k. bit_of x k.0 && p k.1 in
      let gs : ℕ → List (ℕ × ℕ) = λ a. map (λ (d : ℕ). (g_var w a d, d)) (read_near w set (member_at w set a)) in
      let ws : ℕ → List (ℕ × ℕ) = λ a. map (λ (d : ℕ). (w_var w set a d, d)) (write_near w set (member_at w set a)) in
      let s = stands a low in
      list_any-append test (flat_map gs (members w set)) (flat_map ws (members w set)) ∙ elim (or_cases (has q.read d) (has q.write d) in'.among) [
        | inl reads ↦
            let near = is_read_near w r (member_at w set a).dc.0 in
            let inside = s.read_low d reads in
            let parts = and_parts (near d) (bit_of x (g_var w a d)) (s.reads d inside ∙ reads) in
            or_left (list_any test (flat_map gs (members w set))) (list_any test (flat_map ws (members w set)))
            (any-pieces test gs 0 (member_count w set) a (omega arith) (omega (arith, low))
            (any-kept test (λ (d : ℕ). (g_var w a d, d)) near 0 n d (omega arith) (omega (arith, inside)) parts.0 (and_from (bit_of x (g_var w a d)) (p d) parts.1 at.passes)))
        | inr writes ↦
            let near = is_write_near w r (member_at w set a).dc.0 in
            let inside = s.write_low d writes in
            let parts = and_parts (near d) (bit_of x (w_var w set a d)) (s.writes d inside ∙ writes) in
            or_right (list_any test (flat_map gs (members w set))) (list_any test (flat_map ws (members w set)))
            (any-pieces test ws 0 (member_count w set) a (omega arith) (omega (arith, low))
            (any-kept test (λ (d : ℕ). (w_var w set a d, d)) near 0 n d (omega arith) (omega (arith, inside)) parts.0 (and_from (bit_of x (w_var w set a d)) (p d) parts.1 at.passes)))
      ]

  pub quorums-keep : Keeps x (keeping w set) (centres_of (union_of quorums))
  quorums-keep p = both_ways (list_any (λ (k : ℕ × ℕ). bit_of x k.0 && p k.1) (keeping w set)) (list_any p (centres_of (union_of quorums))) (kept p) (keeps_back p)
