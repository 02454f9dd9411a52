-- The hops of a relay policy against those that are due.
use Rattle.std.proofs.Common.{◌≡◌, ℕ, ◌+◌, ◌*◌, ◌<◌, ◌≤◌, Bool, true, false, cond, ◌&&◌, ◌==◌, List, [], ◌∷◌, length, map, refl, ap, ◌∙◌, sym, arith}
use Rattle.std.specs.Cmp.Lexicographic.{as_long}
use Rattle.std.proofs.lemmas.Bool.{and_parts, ne_eqb, eq-eqb}
use Rattle.std.proofs.lemmas.List.{length-map, length-append}
use Rattle.span_base.specs.declared.dc_set.DcSet.{DcSet}
use Rattle.span_base.specs.declared.policy.Hop.{Hop}
use Rattle.span_base.specs.declared.policy.Policy.{Policy}
use Rattle.span_base.specs.declared.policy.Policy.TheVariants.{Direct, Relay, Strong}
use Rattle.span_base.proofs.Sets.{count_le}
use Rattle.workload.specs.World.{Lists, members_of}
use Rattle.slo_rules.specs.Cost.{hops_of}
use Rattle.span_base.specs.DcSet.{has, centres_of}
use Rattle.slo_rules.specs.Centres.{centres_from}
use Rattle.slo_rules.specs.Rules.{has_hops, hop_members, hop_children, hops_due, due_from, same_list, fits_set, centres_asking}
use Rattle.slo_rules.proofs.Centres.{centres_of_is, centres_from-end, centres_from-next}

regroup : (a b c d : Bool) → ((a && b) && (c && d)) ≡ ((a && c) && (b && d))
regroup true b true d = refl
regroup true true false d = refl
regroup true false false d = refl
regroup false b c d = refl

-- one hop against the first that is due
pub has_hops-cons : (hop : Hop) (hops : List Hop) (member dc : ℕ) (due : List (ℕ × ℕ)) → has_hops (hop ∷ hops) ((member, dc) ∷ due) ≡ ((hop.member.0 == member && hop.child.0 == dc) && has_hops hops due)
has_hops-cons hop hops member dc due = regroup (hop.member.0 == member) (same_list (hop_members hops) (map (λ p. p.0) due)) (hop.child.0 == dc) (same_list (hop_children hops) (map (λ p. p.1) due))

-- the first hop is the one that is due
pub first_is_due : (hop : Hop) (hops : List Hop) (member dc : ℕ) (due : List (ℕ × ℕ)) → hop.member.0 ≡ member → hop.child.0 ≡ dc → has_hops (hop ∷ hops) ((member, dc) ∷ due) ≡ has_hops hops due
first_is_due hop hops member dc due e f =
    has_hops-cons hop hops member dc due
    ∙ ap (λ b. (b && hop.child.0 == dc) && has_hops hops due) (eq-eqb hop.member.0 member e)
    ∙ ap (λ b. b && has_hops hops due) (eq-eqb hop.child.0 dc f)

-- the first hop is another
pub other_member : (hop : Hop) (hops : List Hop) (member dc : ℕ) (due : List (ℕ × ℕ)) → (hop.member.0 ≡ member → ⊥) → has_hops (hop ∷ hops) ((member, dc) ∷ due) ≡ false
other_member hop hops member dc due ne =
    has_hops-cons hop hops member dc due
    ∙ ap (λ b. (b && hop.child.0 == dc) && has_hops hops due) (ne_eqb hop.member.0 member ne)

pub other_child : (hop : Hop) (hops : List Hop) (member dc : ℕ) (due : List (ℕ × ℕ)) → hop.member.0 ≡ member → (hop.child.0 ≡ dc → ⊥) → has_hops (hop ∷ hops) ((member, dc) ∷ due) ≡ false
other_child hop hops member dc due e ne =
    has_hops-cons hop hops member dc due
    ∙ ap (λ b. (b && hop.child.0 == dc) && has_hops hops due) (eq-eqb hop.member.0 member e)
    ∙ ap (λ b. b && has_hops hops due) (ne_eqb hop.child.0 dc ne)

-- no hop where one is due
pub none_is_due : (member dc : ℕ) (due : List (ℕ × ℕ)) → has_hops [] ((member, dc) ∷ due) ≡ false
none_is_due member dc due = refl

due_if : (member : ℕ) (b : Bool) (d : ℕ) (ds : List ℕ) (more : List (ℕ × ℕ)) → due_from member (cond b (d ∷ ds) ds) more ≡ cond b ((member, d) ∷ due_from member ds more) (due_from member ds more)
due_if member true d ds more = refl
due_if member false d ds more = refl

pub due_start : (member : ℕ) (s : DcSet) (more : List (ℕ × ℕ)) → due_from member (centres_of s) more ≡ due_from member (centres_from s 0) more
due_start member s more = ap (λ ds. due_from member ds more) (centres_of_is s)

pub due_end : (member : ℕ) (s : DcSet) (d : ℕ) (more : List (ℕ × ℕ)) → 16 ≤ d → due_from member (centres_from s d) more ≡ more
due_end member s d more h = ap (λ ds. due_from member ds more) (centres_from-end s d h)

pub due_next : (member : ℕ) (s : DcSet) (d : ℕ) (more : List (ℕ × ℕ)) → d < 16 → due_from member (centres_from s d) more ≡ cond (has s d) ((member, d) ∷ due_from member (centres_from s (d + 1)) more) (due_from member (centres_from s (d + 1)) more)
due_next member s d more h = ap (λ ds. due_from member ds more) (centres_from-next s d h) ∙ due_if member (has s d) d (centres_from s (d + 1)) more

pub due_yes : (member : ℕ) (s : DcSet) (d : ℕ) (more : List (ℕ × ℕ)) → d < 16 → has s d ≡ true → due_from member (centres_from s d) more ≡ (member, d) ∷ due_from member (centres_from s (d + 1)) more
due_yes member s d more h e = due_next member s d more h ∙ ap (λ b. cond b ((member, d) ∷ due_from member (centres_from s (d + 1)) more) (due_from member (centres_from s (d + 1)) more)) e

pub due_no : (member : ℕ) (s : DcSet) (d : ℕ) (more : List (ℕ × ℕ)) → d < 16 → has s d ≡ false → due_from member (centres_from s d) more ≡ due_from member (centres_from s (d + 1)) more
due_no member s d more h e = due_next member s d more h ∙ ap (λ b. cond b ((member, d) ∷ due_from member (centres_from s (d + 1)) more) (due_from member (centres_from s (d + 1)) more)) e

pub ruleset first_hops = (first_is_due, other_member, other_child, none_is_due)

pub ruleset due_steps = (due_start, due_end, due_yes, due_no)

-- at most 16 hops are due for each member
pub few_due : (members replicas : List ℕ) → length replicas ≤ 16 → length (hops_due members replicas) ≤ length members * 16
few_due [] replicas few = omega arith
few_due (member ∷ members) replicas few =
    omega (arith, length-append (map (λ (dc : ℕ). (member, dc)) replicas) (hops_due members replicas), length-map {B = ℕ × ℕ} replicas (λ (dc : ℕ). (member, dc)), few_due members replicas few)

-- a list of hops is as long as what is due
long : (hops : List Hop) (due : List (ℕ × ℕ)) → has_hops hops due ≡ true → length hops ≡ length due
long hops due h =
    sym (length-map hops (λ (hop : Hop). hop.member.0))
    ∙ as_long _ (hop_members hops) (map (λ (p : ℕ × ℕ). p.0) due) (and_parts _ _ h).0
    ∙ length-map due (λ (p : ℕ × ℕ). p.0)

-- a policy that fits has few hops
pub few_hops : (w : Lists) (set : ℕ) (p : Policy) → fits_set w set p ≡ true → length (members_of w set) ≤ 8 → length (hops_of p) ≤ 128
few_hops w set (Direct f replicas primary) fits few = omega arith
few_hops w set (Relay f replicas primary parent) fits few =
    let due = hops_due (centres_asking (members_of w set)) (centres_of replicas) in
    let same : length parent ≡ length due = long parent due (and_parts _ _ (and_parts _ _ fits).1).1 in
    let bound : length due ≤ length (centres_asking (members_of w set)) * 16 = few_due (centres_asking (members_of w set)) (centres_of replicas) (count_le replicas) in
    omega (arith, same, bound, length-map (members_of w set) (λ m. m.dc.0))
few_hops w set (Strong f replicas members) fits few = omega arith
