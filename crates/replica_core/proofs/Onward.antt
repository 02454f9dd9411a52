-- The loop over the replicas that a push is sent on to: what was sent to those below one.
use Rattle.std.proofs.Common.{◌≡◌, ℕ, ◌+◌, ◌≤◌, Bool, true, false, cond, List, [], ◌∷◌, ◌++◌, map, sym, ap, ◌∙◌, arith}
use Rattle.std.proofs.lemmas.List.{map-append, append-nil}
use Rattle.span_base.specs.declared.ids.KeyId.{KeyId}
use Rattle.span_base.specs.declared.dc_set.DcSet.{DcSet}
use Rattle.span_base.specs.DcSet.{has, centres_below}
use Rattle.span_base.proofs.Sets.{centres_below-zero, centres_below-more, centres_of-is}
use Rattle.ticket_rules.specs.declared.stamp.Stamp.{Stamp}
use Rattle.wire_msg.specs.declared.tag.Tag.{Tag}
use Rattle.wire_msg.specs.declared.outputs.Post.{Post}
use Rattle.wire_msg.specs.Posts.{to_proxy}
use Rattle.replica_core.specs.Answering.{push_to, pushes_to, done}

-- the answer, and the push to the replicas of the set below d
abbrev pub so_far : ℕ → Tag → KeyId → Stamp → List ℕ → DcSet → ℕ → List Post
so_far number tag key stamp value set d = to_proxy tag (done number tag) ++ map (push_to tag key stamp value) (centres_below set d)

pub pushes_start : (number : ℕ) (tag : Tag) (key : KeyId) (stamp : Stamp) (value : List ℕ) (set : DcSet) → so_far number tag key stamp value set 0 ≡ to_proxy tag (done number tag)
pushes_start number tag key stamp value set = ap (λ ds. to_proxy tag (done number tag) ++ map (push_to tag key stamp value) ds) (centres_below-zero set)

next : (number : ℕ) (tag : Tag) (key : KeyId) (stamp : Stamp) (value : List ℕ) (set : DcSet) (d : ℕ) (b : Bool) → has set d ≡ b → so_far number tag key stamp value set (d + 1) ≡ so_far number tag key stamp value set d ++ map (push_to tag key stamp value) (cond b (d ∷ []) [])
next number tag key stamp value set d b e =
    let push : ℕ → Post = push_to tag key stamp value in
    let more : map push (centres_below set (d + 1)) ≡ map push (centres_below set d) ++ map push (cond b (d ∷ []) []) =
    ap (map push) (centres_below-more set d ∙ ap (λ c. centres_below set d ++ cond c (d ∷ []) []) e)
    ∙ map-append push (centres_below set d) (cond b (d ∷ []) []) in
    ap (λ ps. to_proxy tag (done number tag) ++ ps) more

pub pushes_there : (number : ℕ) (tag : Tag) (key : KeyId) (stamp : Stamp) (value : List ℕ) (set : DcSet) (d : ℕ) → has set d ≡ true → so_far number tag key stamp value set (d + 1) ≡ so_far number tag key stamp value set d ++ push_to tag key stamp value d ∷ []
pushes_there number tag key stamp value set d e = next number tag key stamp value set d true e

pub pushes_not_there : (number : ℕ) (tag : Tag) (key : KeyId) (stamp : Stamp) (value : List ℕ) (set : DcSet) (d : ℕ) → has set d ≡ false → so_far number tag key stamp value set (d + 1) ≡ so_far number tag key stamp value set d
pushes_not_there number tag key stamp value set d e = next number tag key stamp value set d false e ∙ append-nil (so_far number tag key stamp value set d)

pub pushes_end : (number : ℕ) (tag : Tag) (key : KeyId) (stamp : Stamp) (value : List ℕ) (set : DcSet) (d : ℕ) → d ≤ 16 → 16 ≤ d → so_far number tag key stamp value set d ≡ to_proxy tag (done number tag) ++ pushes_to tag key stamp value set
pushes_end number tag key stamp value set d low high =
    let all : d ≡ 16 = omega arith in
    ap (λ n. so_far number tag key stamp value set n) all ∙ sym (ap (λ ds. to_proxy tag (done number tag) ++ map (push_to tag key stamp value) ds) (centres_of-is set))
