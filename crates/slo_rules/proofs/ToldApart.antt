-- Texts that begin with allowed policies are told apart: cut at line feeds they are lines to read.
use Rattle.std.proofs.Common.{◌≡◌, ℕ, ◌<◌, Bool, true, false, if◌then◌else◌, ◌&&◌, ◌==◌, List, [], ◌∷◌, ◌++◌, map, Option, Some, None, refl, sym, ap, ◌∙◌, append_assoc}
use Rattle.std.specs.Prelude.{codes}
use Rattle.std.specs.List.{All, flat_map, list_all}
use Rattle.std.proofs.lemmas.Bool.{and_parts, ne_eqb}
use Rattle.std.proofs.lemmas.List.Folds.{list_all-append}
use Rattle.std.proofs.lemmas.List.Elements.{All-nil, All-cons, All-head, All-tail, All-append}
use Rattle.span_base.specs.Name.{is_name_byte}
use Rattle.span_base.specs.declared.dc_set.DcSet.{DcSet}
use Rattle.span_base.specs.DcSet.{centres_of}
use Rattle.span_base.specs.declared.policy.Policy.{Policy}
use Rattle.span_base.specs.declared.policy.Policy.TheVariants.{Direct, Relay, Strong}
use Rattle.span_base.specs.declared.policy.Near.{Near}
use Rattle.span_base.specs.declared.policy.Hop.{Hop}
use Rattle.span_base.specs.declared.policy.Quorum.{Quorum}
use Rattle.workload.specs.World.{Lists, centre_count, name_of, IsNamed, IsComplete}
use Rattle.slo_rules.specs.Rules.{lies_below}
use Rattle.slo_rules.specs.PolicyText.{names_text, replicas_line, primary_line, hop_line, quorum_line, policy_lines, policy_text, ended, NamesCentres, IsNearWithin, IsHopWithin, IsQuorumWithin}
use Rattle.slo_rules.specs.PolicyReading.{blank}
use Rattle.slo_rules.specs.PolicyLaws.{policy_from, IsPolicyOf, PolicyTextsAreToldApart}
use Rattle.slo_rules.proofs.AllowedPolicies.{allowed_names, low_all}
use Rattle.slo_rules.proofs.NamesRead.{is_named}
use Rattle.slo_rules.proofs.ListsRead.{spaced}
use Rattle.slo_rules.proofs.ReadBack.{reads_back}

-- a byte is no line feed
abbrev pub no_feed : ℕ → Bool
no_feed c = if c == 10 then false else true

-- a text is one line
abbrev pub OneLine : List ℕ → Type 0
OneLine text = list_all no_feed text ≡ true

pub one_append : (a b : List ℕ) → OneLine a → OneLine b → OneLine (a ++ b)
one_append a b h k = list_all-append no_feed a b ∙ ap (λ x. x && list_all no_feed b) h ∙ k

-- the lines of a text, cut at line feeds
with_first : ℕ → List (List ℕ) → List (List ℕ)
with_first c [] = (c ∷ []) ∷ []
with_first c (line ∷ lines) = (c ∷ line) ∷ lines

pub cut : List ℕ → List (List ℕ)
cut [] = [] ∷ []
cut (c ∷ text) = if c == 10 then [] ∷ cut text else with_first c (cut text)

pub cut_line : (line rest : List ℕ) → OneLine line → cut (line ++ 10 ∷ rest) ≡ line ∷ cut rest
unfolding cut with_first
cut_line [] rest one = refl
cut_line (c ∷ line) rest one = go (c == 10) refl (cut_line line rest)
  where
    go : (b : Bool) → (c == 10) ≡ b → (list_all no_feed line ≡ true → cut (line ++ 10 ∷ rest) ≡ line ∷ cut rest) → cut ((c ∷ line) ++ 10 ∷ rest) ≡ (c ∷ line) ∷ cut rest
    go true is more = absurd (let h : false ≡ true = ap (λ b. (if b then false else true) && list_all no_feed line) (sym is) ∙ one in let k : false ≡ true = h in cc)
    go false is more =
        let tail : list_all no_feed line ≡ true = (and_parts (no_feed c) (list_all no_feed line) one).1 in
        ap (λ b. if b then [] ∷ cut (line ++ 10 ∷ rest) else with_first c (cut (line ++ 10 ∷ rest))) is ∙ ap (with_first c) (more tail)

-- lines with their line feeds are cut into these lines
cut_lines : (lines : List (List ℕ)) (rest : List ℕ) → All OneLine lines → cut (flat_map ended lines ++ rest) ≡ lines ++ cut rest
cut_lines [] rest one = refl
cut_lines (line ∷ lines) rest one =
    ap cut (append_assoc (ended line) (flat_map ended lines) rest ∙ append_assoc line (codes "\n") (flat_map ended lines ++ rest))
    ∙ cut_line line (flat_map ended lines ++ rest) (All-head OneLine line lines one)
    ∙ ap (λ ls. line ∷ ls) (cut_lines lines rest (All-tail OneLine line lines one))

-- a name is in one line
bytes_one : (name : List ℕ) → list_all is_name_byte name ≡ true → OneLine name
bytes_one [] h = refl
bytes_one (c ∷ name) h =
    let parts = and_parts (is_name_byte c) (list_all is_name_byte name) h in
    let other : (c == 10) ≡ false = ne_eqb c 10 (λ e. let f : is_name_byte 10 ≡ true = ap is_name_byte (sym e) ∙ parts.0 in cc) in
    ap (λ b. (if b then false else true) && list_all no_feed name) other ∙ bytes_one name parts.1

name_one : (w : Lists) (d : ℕ) → IsNamed w → d < centre_count w → OneLine (name_of w d)
name_one w d named low = bytes_one (name_of w d) ((and_parts (list_all is_name_byte (name_of w d)) _ (is_named w d named low)).0)

spaced_one : (w : Lists) (ds : List ℕ) → IsNamed w → All (λ d. d < centre_count w) ds → OneLine (spaced w ds)
spaced_one w [] named low = refl
spaced_one w (d ∷ ds) named low =
    one_append (codes " " ++ name_of w d) (spaced w ds)
    (one_append (codes " ") (name_of w d) refl (name_one w d named (All-head (λ d. d < centre_count w) d ds low)))
    (spaced_one w ds named (All-tail (λ d. d < centre_count w) d ds low))

names_one : (w : Lists) (s : DcSet) → IsNamed w → lies_below (centre_count w) s ≡ true → OneLine (names_text w s)
names_one w s named below = spaced_one w (centres_of s) named (low_all (centre_count w) (centres_of s) below)

replicas_one : (w : Lists) (s : DcSet) → IsNamed w → lies_below (centre_count w) s ≡ true → OneLine (replicas_line w s)
replicas_one w s named below = one_append (codes "replicas") (names_text w s) refl (names_one w s named below)

primary_one : (w : Lists) (near : Near) → IsNamed w → IsNearWithin (centre_count w) near → OneLine (primary_line w near)
primary_one w near named in_world =
    let m = name_of w near.member.0 in
    one_append (codes "primary " ++ m ++ codes " ") (name_of w near.at.0)
    (one_append (codes "primary " ++ m) (codes " ") (one_append (codes "primary ") m refl (name_one w near.member.0 named in_world.member)) refl)
    (name_one w near.at.0 named in_world.at)

hop_one : (w : Lists) (hop : Hop) → IsNamed w → IsHopWithin (centre_count w) hop → OneLine (hop_line w hop)
hop_one w hop named in_world =
    let m = name_of w hop.member.0 in
    let c = name_of w hop.child.0 in
    one_append (codes "parent " ++ m ++ codes " " ++ c ++ codes " ") (name_of w hop.parent.0)
    (one_append (codes "parent " ++ m ++ codes " " ++ c) (codes " ")
    (one_append (codes "parent " ++ m ++ codes " ") c
    (one_append (codes "parent " ++ m) (codes " ") (one_append (codes "parent ") m refl (name_one w hop.member.0 named in_world.member)) refl)
    (name_one w hop.child.0 named in_world.child)) refl)
    (name_one w hop.parent.0 named in_world.parent)

quorum_one : (w : Lists) (q : Quorum) → IsNamed w → IsQuorumWithin (centre_count w) q → OneLine (quorum_line w q)
quorum_one w q named in_world =
    let m = name_of w q.dc.0 in
    let r = names_text w q.read in
    one_append (codes "quorum " ++ m ++ codes " read" ++ r ++ codes " ; write") (names_text w q.write)
    (one_append (codes "quorum " ++ m ++ codes " read" ++ r) (codes " ; write")
    (one_append (codes "quorum " ++ m ++ codes " read") r
    (one_append (codes "quorum " ++ m) (codes " read") (one_append (codes "quorum ") m refl (name_one w q.dc.0 named in_world.dc)) refl)
    (names_one w q.read named in_world.read)) refl)
    (names_one w q.write named in_world.write)

each_one : {X : Type 0} (P : X → Type 0) (line : X → List ℕ) (xs : List X) → ((x : X) → P x → OneLine (line x)) → All P xs → All OneLine (map line xs)
each_one P line [] one all = All-nil OneLine
each_one P line (x ∷ xs) one all = All-cons OneLine (line x) (map line xs) (one x (All-head P x xs all)) (each_one P line xs one (All-tail P x xs all))

-- the lines of a policy whose centres are the world's are lines
pub lines_one : (w : Lists) (p : Policy) → IsNamed w → NamesCentres w p → All OneLine (policy_lines w p)
lines_one w (Direct f rs ps) named names =
    All-cons OneLine (replicas_line w rs) (map (primary_line w) ps) (replicas_one w rs named names.0)
    (each_one (IsNearWithin (centre_count w)) (primary_line w) ps (λ near h. primary_one w near named h) names.1)
lines_one w (Relay f rs ps hs) named names =
    All-cons OneLine (replicas_line w rs) (map (primary_line w) ps ++ map (hop_line w) hs) (replicas_one w rs named names.0)
    (All-append OneLine (map (primary_line w) ps) (map (hop_line w) hs)
    (each_one (IsNearWithin (centre_count w)) (primary_line w) ps (λ near h. primary_one w near named h) names.1)
    (each_one (IsHopWithin (centre_count w)) (hop_line w) hs (λ hop h. hop_one w hop named h) names.2))
lines_one w (Strong f rs qs) named names =
    All-cons OneLine (replicas_line w rs) (map (quorum_line w) qs) (replicas_one w rs named names.0)
    (each_one (IsQuorumWithin (centre_count w)) (quorum_line w) qs (λ q h. quorum_one w q named h) names.1)

-- what follows equal texts is equal where the whole is
pub same_after : (xs a b : List ℕ) → xs ++ a ≡ xs ++ b → a ≡ b
same_after [] a b e = e
same_after (x ∷ xs) a b e = let tail : xs ++ a ≡ xs ++ b = cc in same_after xs a b tail

same_policy : (w : Lists) → IsComplete w → IsNamed w → (set : ℕ) (p q : Policy) → IsPolicyOf w set p → IsPolicyOf w set q → (a b : List ℕ) → policy_text w p ++ a ≡ policy_text w q ++ b → p ≡ q
same_policy w complete named set p q is_p is_q a b e =
    let lines : policy_lines w p ++ cut a ≡ policy_lines w q ++ cut b =
    sym (cut_lines (policy_lines w p) a (lines_one w p named (allowed_names w set p complete is_p.there is_p.allowed))) ∙ ap cut e ∙ cut_lines (policy_lines w q) b (lines_one w q named (allowed_names w set q complete is_q.there is_q.allowed)) in
    let same : Some (p, cut a) ≡ Some (q, cut b) = sym (reads_back w complete named set p is_p (cut a)) ∙ ap (policy_from w (blank set)) lines ∙ reads_back w complete named set q is_q (cut b) in
    ap (λ (o : Option (Policy × List (List ℕ))). first_or p o) same
  where
    first_or : Policy → Option (Policy × List (List ℕ)) → Policy
    first_or d (Some pair) = pair.0
    first_or d None = d

pub told_apart : PolicyTextsAreToldApart
told_apart w complete named set p q is_p is_q a b e =
    let same : p ≡ q = same_policy w complete named set p q is_p is_q a b e in
    (same, same_after (policy_text w q) a b (ap (λ r. policy_text w r ++ a) (sym same) ∙ e))
