-- The four forms, put together from their parts, are the grammar.
use Rattle.std.proofs.Common.{◌≡◌, ℕ, List, [], ◌∷◌, ◌++◌, refl, sym, ap, subst, ◌∙◌, append_assoc, append-nil, arith}
use Rattle.std.specs.Prelude.{codes}
use Rattle.std.proofs.lemmas.List.Elements.{All-nil, All-cons, All-head, All-tail}
use Rattle.span_base.specs.Name.{IsName}
use Rattle.slo_rules.specs.LineGrammar.{replicas, primary, parent, quorum, list_text, form_text, AreNames, IsPolicyLine}
use Rattle.slo_rules.proofs.Grammars.{Then}
use Rattle.slo_rules.proofs.NameGrammars.{Spaced}
use Rattle.slo_rules.proofs.ListGrammars.{ListThen}
use Rattle.slo_rules.proofs.FormGrammars.{End, ReplicasThen, PrimaryThen, ParentThen, WriteThen, QuorumThen}

-- a list at the end of a line
list_last : (names : List (List ℕ)) (t u : List ℕ) → list_text names ++ t ≡ u → t ≡ [] → list_text names ≡ u
list_last names t u e end = sym (append-nil (list_text names)) ∙ ap (λ (x : List ℕ). list_text names ++ x) (sym end) ∙ e

-- the four forms are the grammar
pub replicas_to : (t : List ℕ) → ReplicasThen End t → IsPolicyLine t
replicas_to t h = let l = h.2 in (replicas l.0, l.2, ap (λ (u : List ℕ). codes "replicas" ++ u) (list_last l.0 l.1 h.0 l.3 l.4) ∙ h.1)

pub list_from : (names : List (List ℕ)) → AreNames names → ListThen End (list_text names)
list_from names are = (names, [], are, append-nil (list_text names), refl)

pub two_names : (a b : List ℕ) → IsName a → IsName b → AreNames (a ∷ b ∷ [])
two_names a b x y = record { some = omega arith; each = All-cons IsName a (b ∷ []) x (All-cons IsName b [] y (All-nil IsName)) }

pub primary_to : (t : List ℕ) → PrimaryThen End t → IsPolicyLine t
primary_to t h =
    let first = h.2 in
    let m = first.2 in
    let second = m.4 in
    let a = second.2 in
    let tail : codes " " ++ (a.0 ++ []) ≡ m.1 = ap (λ (x : List ℕ). codes " " ++ (a.0 ++ x)) (sym a.4) ∙ ap (λ (x : List ℕ). codes " " ++ x) a.3 ∙ second.1 in
    let all : codes " " ++ (m.0 ++ (codes " " ++ (a.0 ++ []))) ≡ h.0 = ap (λ (x : List ℕ). codes " " ++ (m.0 ++ x)) tail ∙ ap (λ (x : List ℕ). codes " " ++ x) m.3 ∙ first.1 in
    (primary m.0 a.0, two_names m.0 a.0 m.2 a.2, ap (λ (u : List ℕ). codes "primary" ++ u) all ∙ h.1)

spaced_from : (N : List ℕ → Type 0) (name t : List ℕ) → IsName name → N t → Spaced N (codes " " ++ (name ++ t))
spaced_from N name t is n = (name ++ t, refl, (name, t, is, refl, n))

pub primary_from : (a b : List ℕ) → AreNames (a ∷ b ∷ []) → PrimaryThen End (form_text (primary a b))
primary_from a b are =
    let tail = All-tail IsName a (b ∷ []) are.each in
    (codes " " ++ (a ++ (codes " " ++ (b ++ []))), refl, spaced_from (Spaced End) a (codes " " ++ (b ++ [])) (All-head IsName a (b ∷ []) are.each) (spaced_from End b [] (All-head IsName b [] tail) refl))

pub parent_to : (t : List ℕ) → ParentThen End t → IsPolicyLine t
parent_to t h =
    let first = h.2 in
    let m = first.2 in
    let second = m.4 in
    let c = second.2 in
    let third = c.4 in
    let p = third.2 in
    let last : codes " " ++ (p.0 ++ []) ≡ c.1 = ap (λ (x : List ℕ). codes " " ++ (p.0 ++ x)) (sym p.4) ∙ ap (λ (x : List ℕ). codes " " ++ x) p.3 ∙ third.1 in
    let tail : codes " " ++ (c.0 ++ (codes " " ++ (p.0 ++ []))) ≡ m.1 = ap (λ (x : List ℕ). codes " " ++ (c.0 ++ x)) last ∙ ap (λ (x : List ℕ). codes " " ++ x) c.3 ∙ second.1 in
    let all : codes " " ++ (m.0 ++ (codes " " ++ (c.0 ++ (codes " " ++ (p.0 ++ []))))) ≡ h.0 = ap (λ (x : List ℕ). codes " " ++ (m.0 ++ x)) tail ∙ ap (λ (x : List ℕ). codes " " ++ x) m.3 ∙ first.1 in
    let are : AreNames (m.0 ∷ c.0 ∷ p.0 ∷ []) = record { some = omega arith; each = All-cons IsName m.0 (c.0 ∷ p.0 ∷ []) m.2 ((two_names c.0 p.0 c.2 p.2).each) } in
    (parent m.0 c.0 p.0, are, ap (λ (u : List ℕ). codes "parent" ++ u) all ∙ h.1)

pub parent_from : (a b c : List ℕ) → AreNames (a ∷ b ∷ c ∷ []) → ParentThen End (form_text (parent a b c))
parent_from a b c are =
    let second = All-tail IsName a (b ∷ c ∷ []) are.each in
    let third = All-tail IsName b (c ∷ []) second in (
      codes " " ++ (a ++ (codes " " ++ (b ++ (codes " " ++ (c ++ []))))),
      refl,
      spaced_from (Spaced (Spaced End)) a (codes " " ++ (b ++ (codes " " ++ (c ++ [])))) (All-head IsName a (b ∷ c ∷ []) are.each)
          (spaced_from (Spaced End) b (codes " " ++ (c ++ [])) (All-head IsName b (c ∷ []) second) (spaced_from End c [] (All-head IsName c [] third) refl)),
    )

-- the parts of the text of a member's quorums
quorum_parts : (m r v : List ℕ) → codes "quorum" ++ (codes " " ++ m ++ []) ++ codes " read" ++ r ++ codes " ; write" ++ v ≡ codes "quorum" ++ (codes " " ++ (m ++ (codes " read" ++ (r ++ (codes " ; write" ++ v)))))
quorum_parts m r v = ap (λ (u : List ℕ). codes "quorum " ++ u) (regroup (m ++ []) (codes " read") r (codes " ; write") v ∙ ap (λ (u : List ℕ). u ++ (codes " read" ++ (r ++ (codes " ; write" ++ v)))) (append-nil m))
  where
    regroup : (x y z u v : List ℕ) → (((x ++ y) ++ z) ++ u) ++ v ≡ x ++ (y ++ (z ++ (u ++ v)))
    regroup x y z u v = simp append_assoc

pub quorum_to : (t : List ℕ) → QuorumThen End t → IsPolicyLine t
quorum_to t h =
    let first = h.2 in
    let m = first.2 in
    let reads = m.4 in
    let r = reads.2 in
    let writes = r.4 in
    let v = writes.2 in
    let last : codes " ; write" ++ list_text v.0 ≡ r.1 = ap (λ (x : List ℕ). codes " ; write" ++ x) (list_last v.0 v.1 writes.0 v.3 v.4) ∙ writes.1 in
    let read : codes " read" ++ (list_text r.0 ++ (codes " ; write" ++ list_text v.0)) ≡ m.1 = ap (λ (x : List ℕ). codes " read" ++ (list_text r.0 ++ x)) last ∙ ap (λ (x : List ℕ). codes " read" ++ x) r.3 ∙ reads.1 in
    let all : codes " " ++ (m.0 ++ (codes " read" ++ (list_text r.0 ++ (codes " ; write" ++ list_text v.0)))) ≡ h.0 = ap (λ (x : List ℕ). codes " " ++ (m.0 ++ x)) read ∙ ap (λ (x : List ℕ). codes " " ++ x) m.3 ∙ first.1 in
    (quorum m.0 r.0 v.0, (m.2, r.2, v.2), quorum_parts m.0 (list_text r.0) (list_text v.0) ∙ ap (λ (u : List ℕ). codes "quorum" ++ u) all ∙ h.1)

pub quorum_from : (m : List ℕ) (r v : List (List ℕ)) → IsName m → AreNames r → AreNames v → QuorumThen End (form_text (quorum m r v))
quorum_from m r v is are are' =
    let writes : List ℕ = codes " ; write" ++ list_text v in
    let reads : List ℕ = codes " read" ++ (list_text r ++ writes) in
    subst (QuorumThen End) (sym (quorum_parts m (list_text r) (list_text v))) (
      codes " " ++ (m ++ reads),
      refl,
      spaced_from (Then (codes " read") (ListThen (WriteThen End))) m reads is
          (list_text r ++ writes, refl, (r, writes, are, refl, (list_text v, refl, list_from v are'))),
    )
