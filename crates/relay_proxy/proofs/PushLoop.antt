-- The loop over the replicas that a member writes to itself: what was posted to those below one.
use Rattle.std.proofs.Common.{◌≡◌, ℕ, ◌+◌, ◌≤◌, zero, suc, Bool, true, false, cond, List, [], ◌∷◌, ◌++◌, map, refl, ap, ◌∙◌, arith}
use Rattle.std.specs.List.{filter, range_with_len}
use Rattle.std.proofs.lemmas.List.{map-append, append-nil}
use Rattle.std.proofs.lemmas.List.Elements.{filter-append}
use Rattle.ticket_rules.specs.declared.stamp.Stamp.{Stamp}
use Rattle.span_base.specs.declared.policy.Policy.{Policy}
use Rattle.wire_msg.specs.declared.tag.Tag.{Tag}
use Rattle.wire_msg.specs.declared.outputs.View.{View}
use Rattle.relay_proxy.specs.Routes.{is_direct, directs_below}
use Rattle.relay_proxy.specs.Rule.{push_to, pushes_below}

pub pushes_start : (tag : Tag) (at : ℕ) (view : View) (stamp : Stamp) (value : List ℕ) → pushes_below tag at view stamp value 0 ≡ []
unfolding directs_below
pushes_start tag at view stamp value = refl

range_more : (a n : ℕ) → range_with_len a (suc n) ≡ range_with_len a n ++ (a + n) ∷ []
range_more a zero = ap (λ x. x ∷ []) (omega arith)
range_more a (suc n) =
    let there : a + 1 + n ≡ a + suc n = omega arith in
    ap (λ xs. a ∷ xs) (range_more (a + 1) n ∙ ap (λ x. range_with_len (a + 1) n ++ x ∷ []) there)

next : (policy : Policy) (member d : ℕ) (b : Bool) → is_direct policy member d ≡ b → directs_below policy member (d + 1) ≡ directs_below policy member d ++ cond b (d ∷ []) []
unfolding directs_below
next policy member d b e =
    let more : d + 1 ≡ suc d = omega arith in
    let here : 0 + d ≡ d = omega arith in
    ap (λ k. filter (is_direct policy member) (range_with_len 0 k)) more
    ∙ ap (filter (is_direct policy member)) (range_more 0 d ∙ ap (λ x. range_with_len 0 d ++ x ∷ []) here)
    ∙ filter-append (is_direct policy member) (range_with_len 0 d) (d ∷ [])
    ∙ ap (λ c. filter (is_direct policy member) (range_with_len 0 d) ++ cond c (d ∷ []) []) e

pub pushes_there : (tag : Tag) (at : ℕ) (view : View) (stamp : Stamp) (value : List ℕ) (d : ℕ) → is_direct view.policy at d ≡ true
    → pushes_below tag at view stamp value (d + 1) ≡ pushes_below tag at view stamp value d ++ push_to tag at view stamp value d ∷ []
pushes_there tag at view stamp value d e =
    ap (map (push_to tag at view stamp value)) (next view.policy at d true e)
    ∙ map-append (push_to tag at view stamp value) (directs_below view.policy at d) (d ∷ [])

pub pushes_not_there : (tag : Tag) (at : ℕ) (view : View) (stamp : Stamp) (value : List ℕ) (d : ℕ) → is_direct view.policy at d ≡ false
    → pushes_below tag at view stamp value (d + 1) ≡ pushes_below tag at view stamp value d
pushes_not_there tag at view stamp value d e =
    ap (map (push_to tag at view stamp value)) (next view.policy at d false e ∙ append-nil (directs_below view.policy at d))

pub pushes_end : (tag : Tag) (at : ℕ) (view : View) (stamp : Stamp) (value : List ℕ) (d : ℕ) → d ≤ 16 → 16 ≤ d
    → pushes_below tag at view stamp value d ≡ pushes_below tag at view stamp value 16
pushes_end tag at view stamp value d low high =
    let all : d ≡ 16 = omega arith in
    ap (λ n. pushes_below tag at view stamp value n) all
