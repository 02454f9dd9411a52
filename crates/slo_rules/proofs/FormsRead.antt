-- The lines of a policy are read back, form by form.
use Rattle.std.proofs.Common.{◌≡◌, ℕ, ◌<◌, ◌^◌, Bool, true, false, List, [], ◌∷◌, ◌++◌, length, Some, Ok, refl, sym, ap, subst, ◌∙◌, append_assoc, append-nil, arith}
use Rattle.std.specs.Prelude.{codes, Result}
use Rattle.std.specs.List.{All}
use Rattle.span_base.specs.declared.dc_set.DcSet.{DcSet}
use Rattle.span_base.specs.DcSet.{bits_of, centres_of, no_centre as no_dc}
use Rattle.span_base.specs.declared.policy.Near.{Near}
use Rattle.span_base.specs.declared.policy.Hop.{Hop}
use Rattle.span_base.specs.declared.policy.Quorum.{Quorum}
use Rattle.workload.specs.World.{Lists, centre_count, name_of, IsNamed}
use Rattle.slo_rules.specs.Rules.{lies_below}
use Rattle.slo_rules.specs.PolicyText.{names_text, replicas_line, primary_line, hop_line, quorum_line, IsNearWithin, IsHopWithin}
use Rattle.slo_rules.specs.declared.policy_line.PolicyFault.{PolicyFault}
use Rattle.slo_rules.specs.declared.policy_line.PolicyLine.{PolicyLine}
use Rattle.slo_rules.specs.declared.policy_line.PolicyLine.TheVariants.{Replicas, Primary, Parent, Quorum as Quorums}
use Rattle.slo_rules.specs.PolicyLines.{◌>>=◌, behind, centre_at, list_at, is_over, replicas_at, primary_at, parent_at, quorum_at, form_at, whole, placed, line_says}
use Rattle.slo_rules.proofs.AllowedPolicies.{low_all}
use Rattle.slo_rules.proofs.NamesRead.{Stops, word_passes, centre_reads}
use Rattle.slo_rules.proofs.ListsRead.{with_centres, spaced, list_reads, set_reads}

-- a set that a list can spell: of 16 bits, with a centre, and all centres are the world's
pub record IsListed (w : Lists) (s : DcSet) : Type 0 where
  pub bits : bits_of s < 2 ^ 16
  pub some : 0 < length (centres_of s)
  pub below : lies_below (centre_count w) s ≡ true

-- a list with something behind it
listed : (w : Lists) (closed : Bool) (s : DcSet) (rest : List ℕ) → IsNamed w → IsListed w s → is_over closed rest ≡ true → Stops rest → list_at w closed (names_text w s ++ rest) ≡ Ok (Ok s, rest)
listed w closed s rest named is over stops = go (centres_of s) refl
  where
    go : (cs : List ℕ) → centres_of s ≡ cs → list_at w closed (spaced w cs ++ rest) ≡ Ok (Ok s, rest)
    go [] none = absurd (let h = is.some in let z : length (centres_of s) ≡ 0 = ap length none in omega arith)
    go (d ∷ ds) same =
        let P : List ℕ → Type 0 = λ cs. All (λ c. c < centre_count w) cs in
        let low : P (d ∷ ds) = subst P same (low_all (centre_count w) (centres_of s) is.below) in
        list_reads w closed (length (spaced w (d ∷ ds) ++ rest)) (Ok no_dc) d ds rest named low (omega arith) over stops
        ∙ ap (λ (set : Result DcSet PolicyFault). Ok (set, rest)) (ap (with_centres (Ok no_dc)) (sym same) ∙ set_reads s is.bits)

-- a list at the end of its line
listed_last : (w : Lists) (s : DcSet) → IsNamed w → IsListed w s → list_at w false (names_text w s) ≡ Ok (Ok s, [])
listed_last w s named is = ap (list_at w false) (sym (append-nil (names_text w s))) ∙ listed w false s [] named is refl tt

-- a form that is the whole line is what the line says
said : (w : Lists) (line : List ℕ) (form : PolicyLine) → form_at w line ≡ Ok (form, []) → line_says w line ≡ Ok form
unfolding line_says
said w line form e = ap (λ reading. placed (length line) (reading >>= whole)) e

pub replicas_reads : (w : Lists) (s : DcSet) → IsNamed w → IsListed w s → line_says w (replicas_line w s) ≡ Ok (Replicas (Ok s))
unfolding form_at replicas_at
replicas_reads w s named is =
    let word : behind (codes "replicas") (replicas_line w s) ≡ Ok (names_text w s) = word_passes (codes "replicas") (names_text w s) in
    let list : list_at w false (names_text w s) ≡ Ok (Ok s, []) = listed_last w s named is in
    let form : form_at w (replicas_line w s) ≡ Ok (Replicas (Ok s), []) = rw (word, list) refl in
    said w (replicas_line w s) (Replicas (Ok s)) form

pub primary_reads : (w : Lists) (near : Near) → IsNamed w → IsNearWithin (centre_count w) near → line_says w (primary_line w near) ≡ Ok (Primary (Some near.member) (Some near.at))
unfolding form_at primary_at
primary_reads w near named in_world =
    let m = name_of w near.member.0 in
    let a = name_of w near.at.0 in
    let third : List ℕ = codes " " ++ (a ++ []) in
    let second : List ℕ = codes " " ++ (m ++ third) in
    let line : List ℕ = codes "primary" ++ second in
    let same : primary_line w near ≡ line = ap (λ t. codes "primary " ++ t) (append_assoc m (codes " ") a ∙ ap (λ t. m ++ (codes " " ++ t)) (sym (append-nil a))) in
    let word : behind (codes "primary") line ≡ Ok second = word_passes (codes "primary") second in
    let member : centre_at w second ≡ Ok (Some near.member, third) = centre_reads w near.member.0 third named in_world.member refl in
    let at : centre_at w third ≡ Ok (Some near.at, []) = centre_reads w near.at.0 [] named in_world.at tt in
    let form : form_at w line ≡ Ok (Primary (Some near.member) (Some near.at), []) = rw (word, member, at) refl in
    ap (line_says w) same ∙ said w line (Primary (Some near.member) (Some near.at)) form

pub hop_reads : (w : Lists) (hop : Hop) → IsNamed w → IsHopWithin (centre_count w) hop → line_says w (hop_line w hop) ≡ Ok (Parent (Some hop.member) (Some hop.child) (Some hop.parent))
unfolding form_at parent_at
hop_reads w hop named in_world =
    let m = name_of w hop.member.0 in
    let c = name_of w hop.child.0 in
    let p = name_of w hop.parent.0 in
    let fourth : List ℕ = codes " " ++ (p ++ []) in
    let third : List ℕ = codes " " ++ (c ++ fourth) in
    let second : List ℕ = codes " " ++ (m ++ third) in
    let line : List ℕ = codes "parent" ++ second in
    let same : hop_line w hop ≡ line = ap (λ t. codes "parent " ++ t) (regroup m (codes " ") c (codes " ") p ∙ ap (λ t. m ++ (codes " " ++ (c ++ (codes " " ++ t)))) (sym (append-nil p))) in
    let word : behind (codes "parent") line ≡ Ok second = word_passes (codes "parent") second in
    let member : centre_at w second ≡ Ok (Some hop.member, third) = centre_reads w hop.member.0 third named in_world.member refl in
    let child : centre_at w third ≡ Ok (Some hop.child, fourth) = centre_reads w hop.child.0 fourth named in_world.child refl in
    let parent : centre_at w fourth ≡ Ok (Some hop.parent, []) = centre_reads w hop.parent.0 [] named in_world.parent tt in
    let form : form_at w line ≡ Ok (Parent (Some hop.member) (Some hop.child) (Some hop.parent), []) = rw (word, member, child, parent) refl in
    ap (line_says w) same ∙ said w line (Parent (Some hop.member) (Some hop.child) (Some hop.parent)) form
  where
    regroup : (x y z u v : List ℕ) → (((x ++ y) ++ z) ++ u) ++ v ≡ x ++ (y ++ (z ++ (u ++ v)))
    regroup x y z u v = simp append_assoc

pub quorum_reads : (w : Lists) (q : Quorum) → IsNamed w → q.dc.0 < centre_count w → IsListed w q.read → IsListed w q.write → line_says w (quorum_line w q) ≡ Ok (Quorums (Some q.dc) (Ok q.read) (Ok q.write))
unfolding form_at quorum_at
quorum_reads w q named low reads writes =
    let m = name_of w q.dc.0 in
    let r = names_text w q.read in
    let v = names_text w q.write in
    let fifth : List ℕ = codes " ; write" ++ v in
    let fourth : List ℕ = r ++ fifth in
    let third : List ℕ = codes " read" ++ fourth in
    let second : List ℕ = codes " " ++ (m ++ third) in
    let line : List ℕ = codes "quorum" ++ second in
    let same : quorum_line w q ≡ line = ap (λ t. codes "quorum " ++ t) (regroup m (codes " read") r (codes " ; write") v) in
    let word : behind (codes "quorum") line ≡ Ok second = word_passes (codes "quorum") second in
    let member : centre_at w second ≡ Ok (Some q.dc, third) = centre_reads w q.dc.0 third named low refl in
    let word' : behind (codes " read") third ≡ Ok fourth = word_passes (codes " read") fourth in
    let read : list_at w true fourth ≡ Ok (Ok q.read, fifth) = listed w true q.read fifth named reads refl refl in
    let word'' : behind (codes " ; write") fifth ≡ Ok v = word_passes (codes " ; write") v in
    let write : list_at w false v ≡ Ok (Ok q.write, []) = listed_last w q.write named writes in
    let form : form_at w line ≡ Ok (Quorums (Some q.dc) (Ok q.read) (Ok q.write), []) = rw (word, member, word', read, word'', write) refl in
    ap (line_says w) same ∙ said w line (Quorums (Some q.dc) (Ok q.read) (Ok q.write)) form
  where
    regroup : (x y z u v : List ℕ) → (((x ++ y) ++ z) ++ u) ++ v ≡ x ++ (y ++ (z ++ (u ++ v)))
    regroup x y z u v = simp append_assoc
