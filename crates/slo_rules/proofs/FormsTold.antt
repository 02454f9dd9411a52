-- A line is told to be of a form, or where it stops being of any.
use Rattle.std.proofs.Common.{◌≡◌, ℕ, ◌-◌, Bool, true, false, if◌then◌else◌, ◌==◌, nat_eq, List, [], ◌∷◌, length, take, Ok, Err, refl, sym, ap, subst, ◌∙◌, arith}
use Rattle.std.specs.Prelude.{Result, codes}
use Rattle.std.specs.List.{starts_with}
use Rattle.std.specs.Cmp.Lexicographic.{pointwise, same_text}
use Rattle.std.proofs.lemmas.Bool.{eq-eqb, ne_eqb}
use Rattle.std.proofs.lemmas.List.{take-take}
use Rattle.std.proofs.lemmas.List.Elements.{All-nil, All-cons}
use Rattle.span_base.specs.Grammar.{CanGoOn, BreaksAt}
use Rattle.span_base.specs.Name.{IsName}
use Rattle.workload.specs.World.{Lists}
use Rattle.slo_rules.specs.declared.policy_line.PolicyFault.{PolicyFault}
use Rattle.slo_rules.specs.declared.policy_line.PolicyFault.TheVariants.{Bad}
use Rattle.slo_rules.specs.declared.policy_line.PolicyLine.{PolicyLine}
use Rattle.slo_rules.specs.PolicyLines.{◌>>=◌, replicas_at, primary_at, parent_at, quorum_at, form_at, form_of, whole, placed, line_says}
use Rattle.slo_rules.specs.LineGrammar.{Form, replicas, primary, parent, quorum, list_text, form_text, AreNames, IsSpelled, IsPolicyLine, FormsAreTold}
use Rattle.slo_rules.proofs.Grammars.{BreaksBefore, breaks_agree, Follows, ReadsAs}
use Rattle.slo_rules.proofs.ListGrammars.{Ends}
use Rattle.slo_rules.proofs.FormTexts.{replicas_to, list_from, two_names, primary_to, primary_from, parent_to, parent_from, quorum_to, quorum_from}
use Rattle.slo_rules.proofs.FormGrammars.{End, ReplicasThen, PrimaryThen, ParentThen, QuorumThen, end_ends, replicas_as, primary_as, parent_as, quorum_as}

-- texts of different first bytes
other_first : (a b : ℕ) (s t : List ℕ) → (a == b) ≡ false → a ∷ s ≡ b ∷ t → ⊥
other_first a b s t ne e = let same : a ≡ b = cc in let f : (a == b) ≡ true = eq-eqb a b same in cc

other_second : (a b c : ℕ) → (b == c) ≡ false → a ∷ b ∷ [] ≡ a ∷ c ∷ [] → ⊥
other_second a b c ne e = let same : b ≡ c = cc in let f : (b == c) ≡ true = eq-eqb b c same in cc

-- a text that begins so
begins_as : (text word : List ℕ) → starts_with nat_eq text word ≡ true → take (length word) text ≡ word
begins_as text word e = sym (same_text word (take (length word) text) (sym e))

-- the form of a text that begins as the replicas
replicas_only : (text : List ℕ) → take 1 text ≡ codes "r" → (t : List ℕ) → take 1 t ≡ take 1 text → IsPolicyLine t → ReplicasThen End t
replicas_only text first t same h = go h.0 h.1 h.2
  where
    at : take 1 t ≡ codes "r"
    at = same ∙ first

    go : (form : Form) → IsSpelled form → form_text form ≡ t → ReplicasThen End t
    go (replicas names) are e = subst (ReplicasThen End) e (list_text names, refl, list_from names are)
    go (primary a b) are e = absurd (other_first 112 114 [] [] refl (ap (take 1) e ∙ at))
    go (parent a b c) are e = absurd (other_first 112 114 [] [] refl (ap (take 1) e ∙ at))
    go (quorum m r v) are e = absurd (other_first 113 114 [] [] refl (ap (take 1) e ∙ at))

quorum_only : (text : List ℕ) → take 1 text ≡ codes "q" → (t : List ℕ) → take 1 t ≡ take 1 text → IsPolicyLine t → QuorumThen End t
quorum_only text first t same h = go h.0 h.1 h.2
  where
    at : take 1 t ≡ codes "q"
    at = same ∙ first

    go : (form : Form) → IsSpelled form → form_text form ≡ t → QuorumThen End t
    go (replicas names) are e = absurd (other_first 114 113 [] [] refl (ap (take 1) e ∙ at))
    go (primary a b) are e = absurd (other_first 112 113 [] [] refl (ap (take 1) e ∙ at))
    go (parent a b c) are e = absurd (other_first 112 113 [] [] refl (ap (take 1) e ∙ at))
    go (quorum m r v) are e = subst (QuorumThen End) e (quorum_from m r v are.0 are.1 are.2)

parent_only : (text : List ℕ) → take 2 text ≡ codes "pa" → (t : List ℕ) → take 2 t ≡ take 2 text → IsPolicyLine t → ParentThen End t
parent_only text first t same h = go h.0 h.1 h.2
  where
    at : take 2 t ≡ codes "pa"
    at = same ∙ first

    go : (form : Form) → IsSpelled form → form_text form ≡ t → ParentThen End t
    go (replicas names) are e = absurd (other_first 114 112 (codes "e") (codes "a") refl (ap (take 2) e ∙ at))
    go (primary a b) are e = absurd (other_second 112 114 97 refl (ap (take 2) e ∙ at))
    go (parent a b c) are e = subst (ParentThen End) e (parent_from a b c are)
    go (quorum m r v) are e = absurd (other_first 113 112 (codes "u") (codes "a") refl (ap (take 2) e ∙ at))

-- a text that begins as none of these
record IsOther (text : List ℕ) : Type 0 where
  not_r : starts_with nat_eq text (codes "r") ≡ false
  not_q : starts_with nat_eq text (codes "q") ≡ false
  not_pa : starts_with nat_eq text (codes "pa") ≡ false

-- two texts of the same first bytes
fewer : (s t : List ℕ) → take 2 s ≡ take 2 t → take 1 s ≡ take 1 t
fewer s t e = sym (take-take 1 2 s (omega arith)) ∙ ap (take 1) e ∙ take-take 1 2 t (omega arith)

primary_only : (text : List ℕ) → IsOther text → (t : List ℕ) → take 1 t ≡ take 1 text → (take 2 t ≡ codes "pa" → ⊥) → IsPolicyLine t → PrimaryThen End t
primary_only text other t same not_pa h = go h.0 h.1 h.2
  where
    never : (word : List ℕ) → starts_with nat_eq text word ≡ false → take 1 t ≡ word → length word ≡ 1 → pointwise nat_eq word word ≡ true → ⊥
    never word not_so at one own =
        let is : pointwise nat_eq word (take (length word) text) ≡ true = ap (λ n. pointwise nat_eq word (take n text)) one ∙ ap (pointwise nat_eq word) (sym same ∙ at) ∙ own in
        let f : false ≡ true = sym not_so ∙ is in
        cc

    go : (form : Form) → IsSpelled form → form_text form ≡ t → PrimaryThen End t
    go (replicas names) are e = absurd (never (codes "r") other.not_r (ap (take 1) (sym e)) refl refl)
    go (primary a b) are e = subst (PrimaryThen End) e (primary_from a b are)
    go (parent a b c) are e = absurd (not_pa (ap (take 2) (sym e)))
    go (quorum m r v) are e = absurd (never (codes "q") other.not_q (ap (take 1) (sym e)) refl refl)

-- some line of each form
a_name : AreNames (codes "a" ∷ [])
a_name = record { some = omega arith; each = All-cons IsName (codes "a") [] refl (All-nil IsName) }

replicas_breaks : (text : List ℕ) (left : ℕ) → starts_with nat_eq text (codes "r") ≡ true → BreaksBefore (ReplicasThen End) text left → BreaksBefore IsPolicyLine text left
replicas_breaks text left is b =
    breaks_agree IsPolicyLine (ReplicasThen End) text 0 left replicas_to (codes "replicas a", (codes " a", refl, list_from (codes "a" ∷ []) a_name)) (replicas_only text (begins_as text (codes "r") is)) b

quorum_breaks : (text : List ℕ) (left : ℕ) → starts_with nat_eq text (codes "q") ≡ true → BreaksBefore (QuorumThen End) text left → BreaksBefore IsPolicyLine text left
quorum_breaks text left is b =
    breaks_agree IsPolicyLine (QuorumThen End) text 0 left quorum_to (codes "quorum a read a ; write a", quorum_from (codes "a") (codes "a" ∷ []) (codes "a" ∷ []) refl a_name a_name) (quorum_only text (begins_as text (codes "q") is)) b

parent_breaks : (text : List ℕ) (left : ℕ) → starts_with nat_eq text (codes "pa") ≡ true → BreaksBefore (ParentThen End) text left → BreaksBefore IsPolicyLine text left
parent_breaks text left is b =
    let two : take 2 text ≡ codes "pa" = begins_as text (codes "pa") is in
    let one : codes "p" ≡ take 1 text = sym (sym (take-take 1 2 text (omega arith)) ∙ ap (take 1) two) in
    let are : AreNames (codes "a" ∷ codes "a" ∷ codes "a" ∷ []) = record { some = omega arith; each = All-cons IsName (codes "a") (codes "a" ∷ codes "a" ∷ []) refl ((two_names (codes "a") (codes "a") refl refl).each) } in
    breaks_agree IsPolicyLine (ParentThen End) text 1 left parent_to (subst (CanGoOn (ParentThen End)) one (codes "arent a a a", parent_from (codes "a") (codes "a") (codes "a") are)) (parent_only text two) b

primary_breaks : (text : List ℕ) (left : ℕ) → IsOther text → BreaksBefore (PrimaryThen End) text left → BreaksBefore IsPolicyLine text left
primary_breaks text left other b = go (starts_with nat_eq text (codes "p")) refl
  where
    some : PrimaryThen End (codes "primary a a")
    some = primary_from (codes "a") (codes "a") (two_names (codes "a") (codes "a") refl refl)

    no_pa : (t : List ℕ) → take 2 t ≡ take 2 text → take 2 t ≡ codes "pa" → ⊥
    no_pa t same at = let is : starts_with nat_eq text (codes "pa") ≡ true = ap (pointwise nat_eq (codes "pa")) (sym same ∙ at) in let f : false ≡ true = sym other.not_pa ∙ is in cc

    no_p : starts_with nat_eq text (codes "p") ≡ false → (t : List ℕ) → take 1 t ≡ take 1 text → take 2 t ≡ codes "pa" → ⊥
    no_p not_so t same at =
        let first : take 1 t ≡ codes "p" = sym (take-take 1 2 t (omega arith)) ∙ ap (take 1) at in
        let is : starts_with nat_eq text (codes "p") ≡ true = ap (pointwise nat_eq (codes "p")) (sym same ∙ first) in
        let f : false ≡ true = sym not_so ∙ is in
        cc

    go : (p : Bool) → starts_with nat_eq text (codes "p") ≡ p → BreaksBefore IsPolicyLine text left
    go true is =
        let one : codes "p" ≡ take 1 text = sym (begins_as text (codes "p") is) in
        breaks_agree IsPolicyLine (PrimaryThen End) text 1 left primary_to (subst (CanGoOn (PrimaryThen End)) one (codes "rimary a a", some)) (λ t same h. primary_only text other t (fewer t text same) (no_pa t same) h) b
    go false not_so =
        breaks_agree IsPolicyLine (PrimaryThen End) text 0 left primary_to (codes "primary a a", some) (λ t same h. primary_only text other t same (no_p not_so t same) h) b

-- what a reading tells of a whole text
record Tells (X : List ℕ → Type 0) (text : List ℕ) (reading : Result PolicyLine ℕ) : Type 0 where
  ok : (said : PolicyLine) → reading ≡ Ok said → X text
  err : (left : ℕ) → reading ≡ Err left → BreaksBefore X text left

end_breaks : (rest : List ℕ) → (length rest == 0) ≡ false → BreaksBefore End rest (length rest)
end_breaks [] some = cc
end_breaks (c ∷ rest) some = record {
  place = 0;
  sum = omega arith;
  breaks = record {
    faulty = λ e. cc;
    within = omega arith;
    before = ([], refl);
    there = λ inside more. let e : c ∷ more.0 ≡ [] = more.1 in cc;
  };
}

no_bytes : (rest : List ℕ) → (length rest == 0) ≡ true → rest ≡ []
no_bytes [] e = refl
no_bytes (c ∷ rest) e = absurd (let f : (length (c ∷ rest) == 0) ≡ false = ne_eqb (length (c ∷ rest)) 0 (λ z. omega arith) in cc)

whole_tells : (C : (List ℕ → Type 0) → Type 0) (T : (List ℕ → Type 0) → List ℕ → Type 0) (text : List ℕ) (reading : Result (PolicyLine × List ℕ) ℕ) → C End → ReadsAs (λ (r : PolicyLine × List ℕ). r.1) C T text reading → Tells (T End) text (reading >>= whole)
whole_tells C T text (Err left) c h = record { ok = λ said e. cc; err = λ n e. let same : left ≡ n = cc in subst (BreaksBefore (T End) text) same (h End c) }
whole_tells C T text (Ok form) c h = go (length form.1 == 0) refl
  where
    go : (b : Bool) → (length form.1 == 0) ≡ b → Tells (T End) text (if b then Ok form.0 else Err (length form.1))
    go true e = record { ok = λ said same. (h End c).0 (no_bytes form.1 e); err = λ left same. cc }
    go false e = record { ok = λ said same. cc; err = λ left same. let n : length form.1 ≡ left = cc in subst (BreaksBefore (T End) text) n ((h End c).1 (length form.1) (end_breaks form.1 e)) }

form_tells : (w : Lists) (text : List ℕ) → Tells IsPolicyLine text (form_of w text)
unfolding form_at
form_tells w text = by_r (starts_with nat_eq text (codes "r")) refl
  where
    by_pa : (b : Bool) → starts_with nat_eq text (codes "pa") ≡ b → starts_with nat_eq text (codes "r") ≡ false → starts_with nat_eq text (codes "q") ≡ false
        → Tells IsPolicyLine text ((if b then parent_at w text else primary_at w text) >>= whole)
    by_pa true is no_r no_q =
        let t = whole_tells Follows ParentThen text (parent_at w text) end_ends.follows (parent_as w text) in
        record { ok = λ said e. parent_to text (t.ok said e); err = λ left e. parent_breaks text left is (t.err left e) }
    by_pa false not_so no_r no_q =
        let t = whole_tells Follows PrimaryThen text (primary_at w text) end_ends.follows (primary_as w text) in
        record { ok = λ said e. primary_to text (t.ok said e); err = λ left e. primary_breaks text left (record { not_r = no_r; not_q = no_q; not_pa = not_so }) (t.err left e) }

    by_q : (b : Bool) → starts_with nat_eq text (codes "q") ≡ b → starts_with nat_eq text (codes "r") ≡ false
        → Tells IsPolicyLine text ((if b then quorum_at w text else if starts_with nat_eq text (codes "pa") then parent_at w text else primary_at w text) >>= whole)
    by_q true is no_r =
        let t = whole_tells (Ends false) QuorumThen text (quorum_at w text) end_ends (quorum_as w text) in
        record { ok = λ said e. quorum_to text (t.ok said e); err = λ left e. quorum_breaks text left is (t.err left e) }
    by_q false not_so no_r = by_pa (starts_with nat_eq text (codes "pa")) refl no_r not_so

    by_r : (b : Bool) → starts_with nat_eq text (codes "r") ≡ b
        → Tells IsPolicyLine text ((if b then replicas_at w text else if starts_with nat_eq text (codes "q") then quorum_at w text else if starts_with nat_eq text (codes "pa") then parent_at w text else primary_at w text) >>= whole)
    by_r true is =
        let t = whole_tells (Ends false) ReplicasThen text (replicas_at w text) end_ends (replicas_as w text) in
        record { ok = λ said e. replicas_to text (t.ok said e); err = λ left e. replicas_breaks text left is (t.err left e) }
    by_r false not_so = by_q (starts_with nat_eq text (codes "q")) refl not_so

pub forms_told : FormsAreTold
unfolding line_says
forms_told w text = go (form_of w text) (form_tells w text)
  where
    go : (r : Result PolicyLine ℕ) → Tells IsPolicyLine text r
        → ((said : PolicyLine) → placed (length text) r ≡ Ok said → IsPolicyLine text)
        × ((fault : PolicyFault) → placed (length text) r ≡ Err fault → (place : ℕ) × (fault ≡ Bad place) × BreaksAt IsPolicyLine text place)
    go (Ok x) t = (λ said e. t.ok x refl, λ fault e. cc)
    go (Err left) t = (
      λ said e. cc,
      λ fault e.
          let b : BreaksBefore IsPolicyLine text left = t.err left refl in
          let told : Bad (length text - left) ≡ fault = cc in
          let place : length text - left ≡ b.place = let s = b.sum in omega arith in
          (b.place, sym told ∙ ap Bad place, b.breaks),
    )
