-- What an allowed policy keeps, of whatever mode it is, and how rules that are tried one after another
-- are kept.
use Rattle.std.proofs.Common.{◌≡◌, ℕ, ◌<◌, ◌≤◌, Bool, true, false, cond, ◌==◌, List, [], ◌∷◌, length, Option, Some, None, refl, ap, arith}
use Rattle.std.specs.Prelude.{nat_lt, nat_le}
use Rattle.std.specs.List.{list_all, list_any, AllByRecursion}
use Rattle.std.proofs.lemmas.Bool.{eq-eqb, eqb-true, lt-ltb, ltb-true, le-leb, leb-true, and_parts, and_from}
use Rattle.span_base.specs.declared.dc_set.DcSet.{DcSet}
use Rattle.span_base.specs.DcSet.{has, centres_of, centres_below}
use Rattle.span_base.specs.PolicyParts.{faults_of, replicas_of}
use Rattle.span_base.specs.declared.policy.Policy.{Policy}
use Rattle.workload.specs.World.{Lists, centre_of, rule_of}
use Rattle.slo_rules.specs.declared.rules.Rule.{Rule}
use Rattle.slo_rules.specs.declared.rules.Rule.TheVariants as rule
use Rattle.slo_rules.specs.Rules.{or_else, unless, first_breach, has_mode, has_shape, lies_below, same_list, breach_of_mode, breach_of_providers, providers_of, first_broken_rule, IsAllowed, code_of, mode_of}
use Rattle.placement_rows.proofs.Each.{each-kept, each-kept_at}

pub or_else-none : (a b : Option Rule) → or_else a b ≡ None → (a ≡ None) × (b ≡ None)
or_else-none None b e = (refl, e)
or_else-none (Some r) b e = cc

pub or_else-both : (a b : Option Rule) → a ≡ None → b ≡ None → or_else a b ≡ None
or_else-both None b e f = f
or_else-both (Some r) b e f = cc

pub unless-none : (t : Bool) (r : Rule) → unless t r ≡ None → t ≡ true
unless-none true r e = refl
unless-none false r e = cc

pub unless-true : (t : Bool) (r : Rule) → t ≡ true → unless t r ≡ None
unless-true t r e = ap (λ b. unless b r) e

pub breaches : {X : Type 0} (b : X → Option Rule) (P : X → Type 0) → ((x : X) → b x ≡ None → P x) → (xs : List X) → first_breach b xs ≡ None → AllByRecursion P xs
breaches b P each [] e = tt
breaches b P each (x ∷ xs) e =
    let parts = or_else-none (b x) (first_breach b xs) e in
    (each x parts.0, breaches b P each xs parts.1)

pub no_breach : {X : Type 0} (b : X → Option Rule) (P : X → Type 0) → ((x : X) → P x → b x ≡ None) → (xs : List X) → AllByRecursion P xs → first_breach b xs ≡ None
no_breach b P each [] all = refl
no_breach b P each (x ∷ xs) all = or_else-both (b x) (first_breach b xs) (each x all.0) (no_breach b P each xs all.1)

-- a test of each element
pub each-test : {X : Type 0} (p : X → Bool) (P : X → Type 0) → ((x : X) → p x ≡ true → P x) → (xs : List X) → list_all p xs ≡ true → AllByRecursion P xs
each-test p P each [] all = tt
each-test p P each (x ∷ xs) all = let parts = and_parts (p x) (list_all p xs) all in (each x parts.0, each-test p P each xs parts.1)

pub test-each : {X : Type 0} (p : X → Bool) (P : X → Type 0) → ((x : X) → P x → p x ≡ true) → (xs : List X) → AllByRecursion P xs → list_all p xs ≡ true
test-each p P each [] all = refl
test-each p P each (x ∷ xs) all = and_from (p x) (list_all p xs) (each x all.0) (test-each p P each xs all.1)

pub lies_below-all : (n : ℕ) (s : DcSet) → lies_below n s ≡ true → (d : ℕ) → has s d ≡ true → d < n
unfolding centres_of centres_below
lies_below-all n s all d is = each-kept_at (λ d. d < n) (has s) 0 16 (each-test (λ dc. nat_lt dc n) (λ d. d < n) (λ d low. ltb-true d n low) (centres_of s) all) d (omega arith) (grind arith) is

pub lies_below-from : (n : ℕ) (s : DcSet) → ((d : ℕ) → has s d ≡ true → d < n) → lies_below n s ≡ true
unfolding centres_of centres_below
lies_below-from n s low = test-each (λ dc. nat_lt dc n) (λ d. d < n) (λ d is. lt-ltb d n is) (centres_of s) (each-kept (λ d. d < n) (has s) 0 16 (λ d from to is. low d is))

-- what an allowed policy keeps
pub record IsKept (w : Lists) (set : ℕ) (p : Policy) : Type 0 where
  pub mode : code_of (mode_of p) ≡ code_of (rule_of w set).mode
  pub failures : faults_of p ≡ (rule_of w set).f
  pub shape : has_shape w set p ≡ true
  pub rules : breach_of_mode w set p ≡ None
  pub apart : (rule_of w set).providers ≤ length (providers_of w (centres_of (replicas_of p)))

pub kept-from : (w : Lists) (set : ℕ) (p : Policy) → IsAllowed w set p → IsKept w set p
unfolding first_broken_rule
kept-from w set p allowed =
    let r = rule_of w set in
    let many = length (providers_of w (centres_of (replicas_of p))) in
    let a = or_else-none (unless (has_mode r p) rule.Mode) (or_else (unless (has_shape w set p) rule.Shape) (or_else (breach_of_mode w set p) (breach_of_providers w set p))) allowed in
    let b = or_else-none (unless (has_shape w set p) rule.Shape) (or_else (breach_of_mode w set p) (breach_of_providers w set p)) a.1 in
    let c = or_else-none (breach_of_mode w set p) (breach_of_providers w set p) b.1 in
    let m = and_parts (code_of (mode_of p) == code_of r.mode) (faults_of p == r.f) (unless-none (has_mode r p) rule.Mode a.0) in
    record {
      mode = eqb-true (code_of (mode_of p)) (code_of r.mode) m.0;
      failures = eqb-true (faults_of p) r.f m.1;
      shape = unless-none (has_shape w set p) rule.Shape b.0;
      rules = c.0;
      apart = leb-true r.providers many (unless-none (nat_le r.providers many) rule.Providers c.1);
    }

pub kept-back : (w : Lists) (set : ℕ) (p : Policy) → IsKept w set p → IsAllowed w set p
unfolding first_broken_rule
kept-back w set p kept =
    let r = rule_of w set in
    let many = length (providers_of w (centres_of (replicas_of p))) in
    or_else-both (unless (has_mode r p) rule.Mode) (or_else (unless (has_shape w set p) rule.Shape) (or_else (breach_of_mode w set p) (breach_of_providers w set p)))
    (unless-true (has_mode r p) rule.Mode (and_from (code_of (mode_of p) == code_of r.mode) (faults_of p == r.f) (eq-eqb (code_of (mode_of p)) (code_of r.mode) kept.mode) (eq-eqb (faults_of p) r.f kept.failures)))
    (or_else-both (unless (has_shape w set p) rule.Shape) (or_else (breach_of_mode w set p) (breach_of_providers w set p))
    (unless-true (has_shape w set p) rule.Shape kept.shape)
    (or_else-both (breach_of_mode w set p) (breach_of_providers w set p)
    kept.rules
    (unless-true (nat_le r.providers many) rule.Providers (le-leb r.providers many kept.apart))))

cons_name : (b : Bool) (name : List ℕ) (names : List (List ℕ)) → (b ≡ true → 1 ≤ length names) → 1 ≤ length (cond b names (name ∷ names))
cons_name true name names h = h refl
cons_name false name names h = omega arith

any_some : (name : List ℕ) (names : List (List ℕ)) → list_any (same_list name) names ≡ true → 1 ≤ length names
any_some name [] h = cc
any_some name (x ∷ names) h = omega arith

-- some centres lie with some provider
pub some_provider : (w : Lists) (ds : List ℕ) → 1 ≤ length ds → 1 ≤ length (providers_of w ds)
some_provider w [] h = absurd (omega arith)
some_provider w (d ∷ ds) h = cons_name (list_any (same_list (centre_of w d).provider) (providers_of w ds)) (centre_of w d).provider (providers_of w ds) (any_some (centre_of w d).provider (providers_of w ds))
