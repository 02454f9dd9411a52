-- A line that says something is the line of just that.
use Rattle.std.proofs.Common.{◌≡◌, ℕ, ◌<◌, ◌≤◌, Bool, true, false, if◌then◌else◌, ◌==◌, nat_eq, List, [], ◌∷◌, ◌++◌, length, Option, Some, None, Ok, Err, refl, sym, ap, subst, ◌∙◌, append_assoc, append-nil, arith}
use Rattle.std.specs.Prelude.{Result, codes}
use Rattle.std.specs.List.{All, starts_with}
use Rattle.std.proofs.lemmas.Bool.{ne_eqb}
use Rattle.std.proofs.lemmas.List.Elements.{All-weaker}
use Rattle.span_base.specs.declared.ids.DcId.{DcId}
use Rattle.span_base.specs.declared.dc_set.DcSet.{DcSet}
use Rattle.span_base.specs.DcSet.{centres_of, no_centre as no_dc}
use Rattle.workload.specs.World.{Lists, centre_count, name_of}
use Rattle.slo_rules.specs.PolicyText.{names_text, replicas_line, primary_line, hop_line, quorum_line}
use Rattle.slo_rules.specs.declared.policy_line.PolicyFault.{PolicyFault}
use Rattle.slo_rules.specs.declared.policy_line.PolicyLine.{PolicyLine}
use Rattle.slo_rules.specs.declared.policy_line.PolicyLine.TheVariants.{Replicas, Primary, Parent, Quorum as Quorums}
use Rattle.slo_rules.specs.PolicyLines.{◌>>=◌, behind, centre_at, list_at, replicas_at, primary_at, parent_at, quorum_at, form_at, form_of, whole, placed, line_says}
use Rattle.slo_rules.proofs.ListsRead.{spaced}
use Rattle.slo_rules.proofs.Respelled.{word_spells, centre_spells, Names, list_spells, set_spells, no_centres}

-- the parts of a reading
abbrev said_of : PolicyLine → Result (PolicyLine × List ℕ) ℕ → PolicyLine
said_of other (Ok form) = form.0
said_of other (Err left) = other

abbrev rest_of : List ℕ → Result (PolicyLine × List ℕ) ℕ → List ℕ
rest_of other (Ok form) = form.1
rest_of other (Err left) = other

-- the two steps of a reading without fault
pub bind_ok : {A B E : Type 0} (r : Result A E) (f : A → Result B E) (b : B) → (r >>= f) ≡ Ok b → (a : A) × (r ≡ Ok a) × (f a ≡ Ok b)
bind_ok (Ok a) f b e = (a, refl, e)
bind_ok (Err fault) f b e = cc

-- a text is the line of what it says
abbrev pub Spells : Lists → List ℕ → PolicyLine → Type 0
Spells w text (Replicas (Ok s)) = text ≡ replicas_line w s
Spells w text (Primary (Some m) (Some a)) = text ≡ primary_line w (record { member = m; at = a })
Spells w text (Parent (Some m) (Some c) (Some p)) = text ≡ hop_line w (record { member = m; child = c; parent = p })
Spells w text (Quorums (Some m) (Ok r) (Ok v)) = text ≡ quorum_line w (record { dc = m; read = r; write = v })
Spells w text _ = Unit {0}

-- a list that is read is the names of its set
set_text : (w : Lists) (closed : Bool) (text : List ℕ) (s : DcSet) (rest : List ℕ) → centre_count w ≤ 16 → list_at w closed text ≡ Ok (Ok s, rest) → text ≡ names_text w s ++ rest
set_text w closed text s rest few e =
    let n : Names w no_dc text s rest = list_spells w closed (length text) no_dc text s rest e in
    let low : All (λ d. d < 16) n.centres = All-weaker (λ d. d < centre_count w) (λ d. d < 16) (λ d h. omega arith) n.centres n.below in
    let same : centres_of s ≡ n.centres = set_spells no_dc n.centres s low n.gives ∙ ap (λ cs. cs ++ n.centres) no_centres in
    n.spelled ∙ ap (λ cs. spaced w cs ++ rest) (sym same)

replicas_spell : (w : Lists) (text : List ℕ) (f : PolicyLine) → centre_count w ≤ 16 → replicas_at w text ≡ Ok (f, []) → Spells w text f
unfolding replicas_at
replicas_spell w text f few e =
    let x = bind_ok (behind (codes "replicas") text) (λ rest. list_at w false rest >>= (λ list. Ok (Replicas list.0, list.1))) (f, []) e in
    let y = bind_ok (list_at w false x.0) (λ list. Ok (Replicas list.0, list.1)) (f, []) x.2 in
    let said : Replicas y.0.0 ≡ f = ap (said_of f) y.2 in
    let last : y.0.1 ≡ [] = ap (rest_of []) y.2 in
    subst (Spells w text) said (go y.0.0 x.0 (y.1 ∙ (λ i. Ok (y.0.0, last i))) (word_spells (codes "replicas") text x.0 x.1))
  where
    go : (list : Result DcSet PolicyFault) (r : List ℕ) → list_at w false r ≡ Ok (list, []) → text ≡ codes "replicas" ++ r → Spells w text (Replicas list)
    go (Ok s) r e is = is ∙ ap (λ (t : List ℕ). codes "replicas" ++ t) (set_text w false r s [] few e ∙ append-nil (names_text w s))
    go (Err fault) r e is = tt

primary_spell : (w : Lists) (text : List ℕ) (f : PolicyLine) → primary_at w text ≡ Ok (f, []) → Spells w text f
unfolding primary_at
primary_spell w text f e =
    let x = bind_ok (behind (codes "primary") text) (λ rest. centre_at w rest >>= (λ member. centre_at w member.1 >>= (λ at. Ok (Primary member.0 at.0, at.1)))) (f, []) e in
    let y = bind_ok (centre_at w x.0) (λ member. centre_at w member.1 >>= (λ at. Ok (Primary member.0 at.0, at.1))) (f, []) x.2 in
    let z = bind_ok (centre_at w y.0.1) (λ at. Ok (Primary y.0.0 at.0, at.1)) (f, []) y.2 in
    let said : Primary y.0.0 z.0.0 ≡ f = ap (said_of f) z.2 in
    let last : z.0.1 ≡ [] = ap (rest_of []) z.2 in
    subst (Spells w text) said (go y.0.0 z.0.0 x.0 y.0.1 y.1 (z.1 ∙ (λ i. Ok (z.0.0, last i))) (word_spells (codes "primary") text x.0 x.1))
  where
    go : (mo ao : Option DcId) (r t : List ℕ) → centre_at w r ≡ Ok (mo, t) → centre_at w t ≡ Ok (ao, []) → text ≡ codes "primary" ++ r → Spells w text (Primary mo ao)
    go (Some m) (Some a) r t e f is =
        is ∙ ap (λ (u : List ℕ). codes "primary" ++ u) (centre_spells w r m t e).0 ∙ ap (λ (u : List ℕ). codes "primary " ++ (name_of w m.0 ++ u)) ((centre_spells w t a [] f).0 ∙ ap (λ (u : List ℕ). codes " " ++ u) (append-nil (name_of w a.0)))
        ∙ ap (λ (u : List ℕ). codes "primary " ++ u) (sym (append_assoc (name_of w m.0) (codes " ") (name_of w a.0)))
    go (Some m) None r t e f is = tt
    go None ao r t e f is = tt

parent_spell : (w : Lists) (text : List ℕ) (f : PolicyLine) → parent_at w text ≡ Ok (f, []) → Spells w text f
unfolding parent_at
parent_spell w text f e =
    let x = bind_ok (behind (codes "parent") text) (λ rest. centre_at w rest >>= (λ member. centre_at w member.1 >>= (λ child. centre_at w child.1 >>= (λ parent. Ok (Parent member.0 child.0 parent.0, parent.1))))) (f, []) e in
    let y = bind_ok (centre_at w x.0) (λ member. centre_at w member.1 >>= (λ child. centre_at w child.1 >>= (λ parent. Ok (Parent member.0 child.0 parent.0, parent.1)))) (f, []) x.2 in
    let z = bind_ok (centre_at w y.0.1) (λ child. centre_at w child.1 >>= (λ parent. Ok (Parent y.0.0 child.0 parent.0, parent.1))) (f, []) y.2 in
    let u = bind_ok (centre_at w z.0.1) (λ parent. Ok (Parent y.0.0 z.0.0 parent.0, parent.1)) (f, []) z.2 in
    let said : Parent y.0.0 z.0.0 u.0.0 ≡ f = ap (said_of f) u.2 in
    let last : u.0.1 ≡ [] = ap (rest_of []) u.2 in
    subst (Spells w text) said (go y.0.0 z.0.0 u.0.0 x.0 y.0.1 z.0.1 y.1 z.1 (u.1 ∙ (λ i. Ok (u.0.0, last i))) (word_spells (codes "parent") text x.0 x.1))
  where
    regroup : (x y z u v : List ℕ) → x ++ (y ++ (z ++ (u ++ v))) ≡ (((x ++ y) ++ z) ++ u) ++ v
    regroup x y z u v = sym (simp append_assoc)

    go : (mo co po : Option DcId) (r t v : List ℕ) → centre_at w r ≡ Ok (mo, t) → centre_at w t ≡ Ok (co, v) → centre_at w v ≡ Ok (po, []) → text ≡ codes "parent" ++ r → Spells w text (Parent mo co po)
    go (Some m) (Some c) (Some p) r t v e f g is =
        is ∙ ap (λ (u : List ℕ). codes "parent" ++ u) (centre_spells w r m t e).0
        ∙ ap (λ (u : List ℕ). codes "parent " ++ (name_of w m.0 ++ u)) ((centre_spells w t c v f).0 ∙ ap (λ (u : List ℕ). codes " " ++ (name_of w c.0 ++ u)) ((centre_spells w v p [] g).0 ∙ ap (λ (u : List ℕ). codes " " ++ u) (append-nil (name_of w p.0))))
        ∙ ap (λ (u : List ℕ). codes "parent " ++ u) (regroup (name_of w m.0) (codes " ") (name_of w c.0) (codes " ") (name_of w p.0))
    go (Some m) (Some c) None r t v e f g is = tt
    go (Some m) None po r t v e f g is = tt
    go None co po r t v e f g is = tt

quorum_spell : (w : Lists) (text : List ℕ) (f : PolicyLine) → centre_count w ≤ 16 → quorum_at w text ≡ Ok (f, []) → Spells w text f
unfolding quorum_at
quorum_spell w text f few e =
    let a = bind_ok (behind (codes "quorum") text) (λ rest. centre_at w rest >>= (λ member. behind (codes " read") member.1 >>= (λ reads. list_at w true reads >>= (λ read. behind (codes " ; write") read.1 >>= (λ writes. list_at w false writes >>= (λ write. Ok (Quorums member.0 read.0 write.0, write.1))))))) (f, []) e in
    let b = bind_ok (centre_at w a.0) (λ member. behind (codes " read") member.1 >>= (λ reads. list_at w true reads >>= (λ read. behind (codes " ; write") read.1 >>= (λ writes. list_at w false writes >>= (λ write. Ok (Quorums member.0 read.0 write.0, write.1)))))) (f, []) a.2 in
    let c = bind_ok (behind (codes " read") b.0.1) (λ reads. list_at w true reads >>= (λ read. behind (codes " ; write") read.1 >>= (λ writes. list_at w false writes >>= (λ write. Ok (Quorums b.0.0 read.0 write.0, write.1))))) (f, []) b.2 in
    let d = bind_ok (list_at w true c.0) (λ read. behind (codes " ; write") read.1 >>= (λ writes. list_at w false writes >>= (λ write. Ok (Quorums b.0.0 read.0 write.0, write.1)))) (f, []) c.2 in
    let g = bind_ok (behind (codes " ; write") d.0.1) (λ writes. list_at w false writes >>= (λ write. Ok (Quorums b.0.0 d.0.0 write.0, write.1))) (f, []) d.2 in
    let h = bind_ok (list_at w false g.0) (λ write. Ok (Quorums b.0.0 d.0.0 write.0, write.1)) (f, []) g.2 in
    let said : Quorums b.0.0 d.0.0 h.0.0 ≡ f = ap (said_of f) h.2 in
    let last : h.0.1 ≡ [] = ap (rest_of []) h.2 in
    subst (Spells w text) said (go b.0.0 d.0.0 h.0.0 a.0 b.0.1 c.0 d.0.1 g.0 b.1 (word_spells (codes " read") b.0.1 c.0 c.1) d.1 (word_spells (codes " ; write") d.0.1 g.0 g.1) (h.1 ∙ (λ i. Ok (h.0.0, last i))) (word_spells (codes "quorum") text a.0 a.1))
  where
    regroup : (x y z u v : List ℕ) → x ++ (y ++ (z ++ (u ++ v))) ≡ (((x ++ y) ++ z) ++ u) ++ v
    regroup x y z u v = sym (simp append_assoc)

    go : (mo : Option DcId) (ro vo : Result DcSet PolicyFault) (r t u v x : List ℕ) → centre_at w r ≡ Ok (mo, t) → t ≡ codes " read" ++ u → list_at w true u ≡ Ok (ro, v) → v ≡ codes " ; write" ++ x → list_at w false x ≡ Ok (vo, []) → text ≡ codes "quorum" ++ r → Spells w text (Quorums mo ro vo)
    go (Some m) (Ok rs) (Ok vs) r t u v x e f g h k is =
        let write : x ≡ names_text w vs = set_text w false x vs [] few k ∙ append-nil (names_text w vs) in
        let read : u ≡ names_text w rs ++ (codes " ; write" ++ names_text w vs) = set_text w true u rs v few g ∙ ap (λ (y : List ℕ). names_text w rs ++ y) (h ∙ ap (λ (y : List ℕ). codes " ; write" ++ y) write) in
        is ∙ ap (λ (y : List ℕ). codes "quorum" ++ y) (centre_spells w r m t e).0
        ∙ ap (λ (y : List ℕ). codes "quorum " ++ (name_of w m.0 ++ y)) (f ∙ ap (λ (y : List ℕ). codes " read" ++ y) read)
        ∙ ap (λ (y : List ℕ). codes "quorum " ++ y) (regroup (name_of w m.0) (codes " read") (names_text w rs) (codes " ; write") (names_text w vs))
    go (Some m) (Ok rs) (Err fault) r t u v x e f g h k is = tt
    go (Some m) (Err fault) vo r t u v x e f g h k is = tt
    go None ro vo r t u v x e f g h k is = tt

form_spells : (w : Lists) (text : List ℕ) (f : PolicyLine) → centre_count w ≤ 16 → form_at w text ≡ Ok (f, []) → Spells w text f
unfolding form_at
form_spells w text f few e = by_r (starts_with nat_eq text (codes "r")) e
  where
    by_pa : (b : Bool) → (if b then parent_at w text else primary_at w text) ≡ Ok (f, []) → Spells w text f
    by_pa true e = parent_spell w text f e
    by_pa false e = primary_spell w text f e

    by_q : (b : Bool) → (if b then quorum_at w text else if starts_with nat_eq text (codes "pa") then parent_at w text else primary_at w text) ≡ Ok (f, []) → Spells w text f
    by_q true e = quorum_spell w text f few e
    by_q false e = by_pa (starts_with nat_eq text (codes "pa")) e

    by_r : (b : Bool) → (if b then replicas_at w text else if starts_with nat_eq text (codes "q") then quorum_at w text else if starts_with nat_eq text (codes "pa") then parent_at w text else primary_at w text) ≡ Ok (f, []) → Spells w text f
    by_r true e = replicas_spell w text f few e
    by_r false e = by_q (starts_with nat_eq text (codes "q")) e

-- what a line says is spelled so
pub line_spells : (w : Lists) (text : List ℕ) (f : PolicyLine) → centre_count w ≤ 16 → line_says w text ≡ Ok f → Spells w text f
unfolding line_says
line_spells w text f few e =
    let x = bind_ok (form_at w text) whole f (unplaced (form_of w text) e) in
    let y = no_more x.0 x.2 in
    form_spells w text f few (x.1 ∙ (λ i. Ok (y.0 i, y.1 i)))
  where
    unplaced : (r : Result PolicyLine ℕ) → placed (length text) r ≡ Ok f → r ≡ Ok f
    unplaced (Ok g) e = let same : g ≡ f = cc in ap Ok same
    unplaced (Err left) e = cc

    no_more : (form : PolicyLine × List ℕ) → whole form ≡ Ok f → (form.0 ≡ f) × (form.1 ≡ [])
    no_more form e = go (length form.1 == 0) refl e
      where
        none : (rest : List ℕ) → (length rest == 0) ≡ true → rest ≡ []
        none [] h = refl
        none (c ∷ rest) h = absurd (let k : (length (c ∷ rest) == 0) ≡ false = ne_eqb (length (c ∷ rest)) 0 (λ z. omega arith) in cc)

        go : (b : Bool) → (length form.1 == 0) ≡ b → (if b then Ok form.0 else Err (length form.1)) ≡ Ok f → (form.0 ≡ f) × (form.1 ≡ [])
        go true is e = let same : form.0 ≡ f = cc in (same, none form.1 is)
        go false is e = cc
