-- The loop over the replicas of a set: what was posted to those below one.
use Rattle.std.proofs.Common.{◌≡◌, ℕ, ◌+◌, ◌≤◌, Bool, true, false, cond, [], ◌∷◌, ◌++◌, map, sym, ap, ◌∙◌, arith}
use Rattle.std.proofs.lemmas.List.{map-append, append-nil}
use Rattle.span_base.specs.declared.dc_set.DcSet.{DcSet}
use Rattle.span_base.specs.DcSet.{has, centres_below}
use Rattle.span_base.proofs.Sets.{centres_below-zero, centres_below-more, centres_of-is}
use Rattle.wire_msg.specs.declared.message.Message.{Message}
use Rattle.call_phase.specs.Requests.{post_to, posts_to, posts_from}

pub posts_start : (s : DcSet) (m : Message) → posts_from s m 0 ≡ []
posts_start s m = ap (map (post_to m)) (centres_below-zero s)

next : (s : DcSet) (m : Message) (d : ℕ) (b : Bool) → has s d ≡ b → posts_from s m (d + 1) ≡ posts_from s m d ++ map (post_to m) (cond b (d ∷ []) [])
next s m d b e =
    ap (map (post_to m)) (centres_below-more s d ∙ ap (λ c. centres_below s d ++ cond c (d ∷ []) []) e)
    ∙ map-append (post_to m) (centres_below s d) (cond b (d ∷ []) [])

pub posts_there : (s : DcSet) (m : Message) (d : ℕ) → has s d ≡ true → posts_from s m (d + 1) ≡ posts_from s m d ++ post_to m d ∷ []
posts_there s m d e = next s m d true e

pub posts_not_there : (s : DcSet) (m : Message) (d : ℕ) → has s d ≡ false → posts_from s m (d + 1) ≡ posts_from s m d
posts_not_there s m d e = next s m d false e ∙ append-nil (posts_from s m d)

pub posts_end : (s : DcSet) (m : Message) (d : ℕ) → d ≤ 16 → 16 ≤ d → posts_from s m d ≡ posts_to s m
posts_end s m d low high =
    let all : d ≡ 16 = omega arith in
    ap (λ n. posts_from s m n) all ∙ sym (ap (map (post_to m)) (centres_of-is s))
