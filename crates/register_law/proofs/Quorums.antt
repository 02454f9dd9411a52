-- How many replicas two sets must share, and the quorums of a sound policy do; so what is settled in an epoch is settled in each later one.
use Rattle.std.proofs.Common.{◌≡◌, ℕ, ◌+◌, ◌*◌, ◌≤◌, ◌<◌, Bool, true, false, cond, List, [], ◌∷◌, refl, sym, subst, arith, inl, inr, ◌&&◌, ◌||◌, length, ◌==◌, filter, find, if◌then◌else◌, All, Some, Contains}
use Rattle.std.proofs.lemmas.Bool.{and_from}
use Rattle.register_law.proofs.Words.{has, DcSet, Within, both, count_of, centres_of, IsQuorumPolicy, Meets, faults_of, member_of, members_of, Policy, Direct, Relay, Quorum, range_with_len, common_steps, All-contains, count-meet_left, count-meet_right, Contains-there, KeyId, IsAbove, IsAtMost, Stamp, Tag, Store, IsChain, Ghost, IsFrozenSet, IsSettled, WasSent, is_at_most, version_before, SwitchBacked, and_left, and_right, among, none_among}
use Rattle.span_base.specs.declared.policy.Policy.TheVariants.{Strong}
use Rattle.ticket_rules.proofs.StampOrder.{IsAbove-trans, IsAtMost-cases}
use Rattle.wire_msg.specs.declared.message.Message.TheVariants as m

abbrev either : (ℕ → Bool) → (ℕ → Bool) → ℕ → Bool
either p q d = p d || q d

or_cases : (a b c : Bool) → (a ≡ true → c ≡ true) → (b ≡ true → c ≡ true) → (a || b) ≡ true → c ≡ true
or_cases true b c f g h = f refl
or_cases false b c f g h = g h

-- one more centre, where it passes
abbrev one : Bool → ℕ
one true = 1
one false = 0

filter_more : (b : Bool) (d : ℕ) (ds : List ℕ) → length (cond b (d ∷ ds) ds) ≡ one b + length ds
filter_more true d ds = omega arith
filter_more false d ds = omega arith

bits : (a b : Bool) → one a + one b ≡ one (a && b) + one (a || b)
bits true true = refl
bits a b = refl

one_mono : (a b : Bool) → (a ≡ true → b ≡ true) → one a ≤ one b
one_mono false b h = elim b as (λ v. 0 ≤ one v) [ true ↦ omega arith | false ↦ omega arith ]
one_mono true b h = subst (λ v. 1 ≤ one v) (sym (h refl)) (omega arith)

both_and_either : (p q : ℕ → Bool) (xs : List ℕ) → length (filter p xs) + length (filter q xs) ≡ length (filter (both p q) xs) + length (filter (either p q) xs)
both_and_either p q [] = refl
both_and_either p q (x ∷ xs) =
    let h = both_and_either p q xs in
    let b = bits (p x) (q x) in
    let fp = filter_more (p x) x (filter p xs) in
    let fq = filter_more (q x) x (filter q xs) in
    let fb = filter_more (both p q x) x (filter (both p q) xs) in
    let fe = filter_more (either p q x) x (filter (either p q) xs) in
    omega arith

pub count_mono : (p q : ℕ → Bool) → Within p q → (xs : List ℕ) → length (filter p xs) ≤ length (filter q xs)
count_mono p q w [] = omega arith
count_mono p q w (x ∷ xs) =
    let h = count_mono p q w xs in
    let b = one_mono (p x) (q x) (w x) in
    let fp = filter_more (p x) x (filter p xs) in
    let fq = filter_more (q x) x (filter q xs) in
    omega arith

some_passes : (p : ℕ → Bool) (xs : List ℕ) → 0 < length (filter p xs) → (d : ℕ) × (p d ≡ true)
some_passes p [] h = absurd (omega (arith, h))
some_passes p (x ∷ xs) h =
    let later : 0 < length (filter p xs) → (d : ℕ) × (p d ≡ true) = some_passes p xs in
    let cases : (b : Bool) → p x ≡ b → 0 < length (cond b (x ∷ filter p xs) (filter p xs)) → (d : ℕ) × (p d ≡ true) =
    λ b. elim b as (λ v. p x ≡ v → 0 < length (cond v (x ∷ filter p xs) (filter p xs)) → (d : ℕ) × (p d ≡ true)) [ true ↦ λ e k. (x, e) | false ↦ λ e k. later k ] in
    cases (p x) refl h

-- two parts of a set that are together more than the set share a centre
pub shared : (s x y : ℕ → Bool) → Within x s → Within y s → count_of s < count_of x + count_of y → (d : ℕ) × (x d ≡ true) × (y d ≡ true)
shared s x y xs ys h =
    let e = both_and_either x y (range_with_len 0 16) in
    let w = count_mono (either x y) s (λ d k. or_cases (x d) (y d) (s d) (xs d) (ys d) k) (range_with_len 0 16) in
    let f = some_passes (both x y) (range_with_len 0 16) (omega arith) in
    (f.0, and_left (x f.0) (y f.0) f.1, and_right (x f.0) (y f.0) f.1)

-- all but f of a set, seen inside a part of it
most_of_part : (f : ℕ) (s a t : ℕ → Bool) → Within a s → Within t s → count_of s ≤ count_of a + f → count_of t ≤ count_of (both a t) + f
most_of_part f s a t as_ ts h =
    let e = both_and_either a t (range_with_len 0 16) in
    let w = count_mono (either a t) s (λ d k. or_cases (a d) (t d) (s d) (as_ d) (ts d) k) (range_with_len 0 16) in
    omega arith

-- all but f of one set and all but f of another share a centre where the sets share 2f + 1
pub crossing : (f : ℕ) (s t a b : ℕ → Bool) → Within a s → Within b t → count_of s ≤ count_of a + f → count_of t ≤ count_of b + f → 2 * f + 1 ≤ count_of (both s t) → (d : ℕ) × (a d ≡ true) × (b d ≡ true)
crossing f s t a b as_ bt ha hb h =
    let st : ℕ → Bool = both s t in
    let x = most_of_part f s a st as_ (λ d k. and_left (s d) (t d) k) ha in
    let y = most_of_part f t b st bt (λ d k. and_right (s d) (t d) k) hb in
    let z = shared st (both a st) (both b st) (λ d k. and_right (a d) (st d) k) (λ d k. and_right (b d) (st d) k) (omega arith) in
    (z.0, and_left (a z.0) (st z.0) z.1, and_left (b z.0) (st z.0) z.2)

-- ---- the members of a sound strong policy, and how many centres their quorums share

-- what is found is there
found_in : {X : Type 0} → (p : X → Bool) (xs : List X) (x : X) → find p xs ≡ Some x → Contains xs x
found_in {X} p [] x h = absurd (cc)
found_in {X} p (y ∷ ys) x h =
    let later : find p ys ≡ Some x → Contains ys x = found_in p ys x in
    by (p y) later h
  where
    by : (b : Bool) → (find p ys ≡ Some x → Contains ys x) → (if b then Some y else find p ys) ≡ Some x → Contains (y ∷ ys) x
    by true later k = (0, omega arith, (let e : y ≡ x = cc in e))
    by false later k = Contains-there y ys x (later k)

pub member_is_in : (policy : Policy) (at : ℕ) (member : Quorum) → member_of policy at ≡ Some member → Contains (members_of policy) member
member_is_in (Direct f replicas primary) at member h = absurd (cc)
member_is_in (Relay f replicas primary parent) at member h = absurd (cc)
member_is_in (Strong f replicas members) at member h = found_in (λ q. q.dc.0 == at) members member h

pub members_meet : (policy : Policy) (a b : Quorum) → IsQuorumPolicy policy → Contains (members_of policy) a → Contains (members_of policy) b → Meets (2 * faults_of policy + 1) a b
members_meet (Direct f replicas primary) a b h x y = absurd h
members_meet (Relay f replicas primary parent) a b h x y = absurd h
members_meet (Strong f replicas members) a b h x y =
    All-contains (λ q. Meets (2 * f + 1) a q) members b (All-contains (λ c. All (λ q. Meets (2 * f + 1) c q) members) members a h.quorums_meet x) y

pub reads_many : (policy : Policy) (member : Quorum) → IsQuorumPolicy policy → Contains (members_of policy) member → 2 * faults_of policy + 1 ≤ length (centres_of member.read)
reads_many policy member h x =
    let m = (members_meet policy member member h x x).0 in
    let c = count-meet_left member.read member.write in
    omega (arith, m, c)

pub writes_many : (policy : Policy) (member : Quorum) → IsQuorumPolicy policy → Contains (members_of policy) member → 2 * faults_of policy + 1 ≤ length (centres_of member.write)
writes_many policy member h x =
    let m = (members_meet policy member member h x x).0 in
    let c = count-meet_right member.read member.write in
    omega (arith, m, c)

-- ---- what is settled in an epoch is settled in each later one that has been current

pub at_most_test : (a b : Stamp) → IsAtMost a b → is_at_most a b ≡ true
at_most_test a b h = grind (arith, common_steps)

pub at_most_is : (a b : Stamp) → is_at_most a b ≡ true → IsAtMost a b
at_most_is a b h = grind (arith, common_steps)

above_test : (a b : Stamp) → IsAbove b a → is_at_most a b ≡ true
above_test a b h = grind (arith, common_steps)

pub at_most_trans : (a b c : Stamp) → is_at_most a b ≡ true → is_at_most b c ≡ true → is_at_most a c ≡ true
at_most_trans a b c ab bc =
    elim (IsAtMost-cases a b (at_most_is a b ab)) as (λ _. is_at_most a c ≡ true) [
      | inl same ↦ subst (λ (x : Stamp). is_at_most x c ≡ true) (sym same) bc
      | inr above ↦ elim (IsAtMost-cases b c (at_most_is b c bc)) as (λ _. is_at_most a c ≡ true) [
        | inl same ↦ subst (λ (x : Stamp). is_at_most a x ≡ true) same ab
        | inr higher ↦ above_test a c (IsAbove-trans c b a higher above)
      ]
    ]

-- a lower stamp is settled too
pub settled_below : (key : KeyId) (s : Store) (g : Ghost) (epoch : ℕ) (high low : Stamp) → is_at_most low high ≡ true → IsSettled key s g epoch high → IsSettled key s g epoch low
settled_below key s g epoch high low below h =
    let w : ℕ → Bool = has h.member.write in
    let more = count_mono (both w (λ d. is_at_most high (version_before key s g d epoch))) (both w (λ d. is_at_most low (version_before key s g d epoch)))
    (λ d k. and_from (w d) (is_at_most low (version_before key s g d epoch)) (and_left (w d) (is_at_most high (version_before key s g d epoch)) k)
    (at_most_trans low high (version_before key s g d epoch) below (and_right (w d) (is_at_most high (version_before key s g d epoch)) k))) (range_with_len 0 16) in
    let most = h.settled in
    record { member = h.member; is_member = h.is_member; settled = omega arith }

-- a frozen set meets whoever settled a stamp: one of its replicas had it
pub frozen_met : (key : KeyId) (s : Store) (g : Ghost) (old : ℕ) (frozen : DcSet) (seeded stamp : Stamp) → IsFrozenSet key s g old frozen seeded → IsSettled key s g old stamp
    → (d : ℕ) × (has frozen d ≡ true) × (is_at_most stamp (version_before key s g d old) ≡ true)
frozen_met key s g old frozen seeded stamp f h =
    let b : Quorum = h.member in
    let w : ℕ → Bool = has b.write in
    let x : ℕ → Bool = both w (λ d. is_at_most stamp (version_before key s g d old)) in
    let y : ℕ → Bool = both (has frozen) w in
    let enough = (f.meets b h.is_member).1 in
    let most = h.settled in
    let z = shared w x y (λ d k. and_left (w d) (is_at_most stamp (version_before key s g d old)) k) (λ d k. and_right (has frozen d) (w d) k) (omega arith) in
    (z.0, and_left (has frozen z.0) (w z.0) z.2, and_right (w z.0) (is_at_most stamp (version_before key s g z.0 old)) z.1)

-- a switch that was asked for carries what is settled
pub one_step : (key : KeyId) (s : Store) (g : Ghost) (old new : ℕ) (stamp : Stamp) → SwitchBacked key s g old new → IsSettled key s g old stamp → IsSettled key s g new stamp
one_step key s g old new stamp b h =
    let d = frozen_met key s g old b.frozen b.seeded stamp b.frozen_set h in
    let below : is_at_most stamp b.seeded ≡ true = at_most_trans stamp (version_before key s g d.0 old) b.seeded d.2 (at_most_test (version_before key s g d.0 old) b.seeded (b.frozen_set.below d.0 d.1)) in
    settled_below key s g new b.seeded stamp below b.settled

pub carried_up : (key : KeyId) (s : Store) (g : Ghost) → ((tag : Tag) (old new : ℕ) → WasSent s (m.Switch tag key old new) → SwitchBacked key s g old new) → (stamp : Stamp) (new : ℕ) (rest : List ℕ) → IsChain key s (new ∷ rest) → (e : ℕ) → Contains (new ∷ rest) e → IsSettled key s g e stamp → IsSettled key s g new stamp
carried_up key s g backed stamp new [] c e h k = elim (among new [] e h) as (λ _. IsSettled key s g new stamp) [ inl is ↦ subst (λ x. IsSettled key s g x stamp) is k | inr none ↦ absurd (none_among e none) ]
carried_up key s g backed stamp new (old ∷ rest) c e h k =
    elim (among new (old ∷ rest) e h) as (λ _. IsSettled key s g new stamp) [
      | inl is ↦ subst (λ x. IsSettled key s g x stamp) is k
      | inr later ↦ one_step key s g old new stamp (backed c.1.tag old new c.1.sent) (carried_up key s g backed stamp old rest c.2 e later k)
    ]
