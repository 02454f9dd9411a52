-- Frames of messages, and how one is found.
use Rattle.std.proofs.Common.{◌≡◌, ℕ, zero, suc, ◌+◌, ◌<◌, ◌≤◌, Bool, true, false, List, [], ◌∷◌, length, get_or, slice_get, refl, sym, ap, ◌∙◌, subst, arith}
use Rattle.std.specs.Prelude.{◌==◌, nat_lt, Option, Some, None, option_map}
use Rattle.std.specs.Str.{bytes_eq}
use Rattle.std.proofs.lemmas.Bool.{eqb-true, eqb-false, ltb-true, ltb-false}
use Rattle.std.specs.Cmp.{first_so, second_so}
use Rattle.std.specs.Cmp.Lexicographic.{same_text}
use Rattle.std.proofs.lemmas.Option.{slice_get-map, slice_get-get_or, slice_get_within, get_or_from_slice_get}
use Rattle.std.proofs.lemmas.List.{length-map}
use Rattle.std.proofs.lemmas.List.Elements.{All-get_or}
use Rattle.std.proofs.lemmas.List.Sums.{position_or_len_is}
use Rattle.wire_msg.specs.declared.outputs.Post.{Post}
use Rattle.wire_msg.specs.Nodes.{node_number}
use Rattle.wire_msg.specs.Frames.{frame_of}
use Rattle.wire_msg.specs.Lawful.{IsLawful, AreLawful}
use Rattle.frame_link.specs.Frames.{Sent}
use Rattle.span_node.specs.declared.index.FrameIndex.{FrameIndex}
use Rattle.span_node.specs.Carried.{posted, carried, is_same, first_same, NoneIn, FindsFrom, Finds}
use Rattle.span_node.specs.Index.{digest_of, first_at, IsBy, IsIndex}

-- a message that was sent, as a link carries it
pub carried_at : (posts : List Post) (n : ℕ) (post : Post) (to : ℕ) (frame : List ℕ) → slice_get posts n ≡ Some post → to ≡ node_number post.to → frame ≡ frame_of post.message
    → slice_get (carried posts) n ≡ Some (record { to = to; frame = frame })
unfolding carried posted
carried_at posts n post to frame at to-is frame-is =
    slice_get-map posted posts n ∙ ap (option_map posted) at
    ∙ ap (λ (t : ℕ). let s : Option Sent = Some (record { to = t; frame = frame_of post.message }) in s) (sym to-is)
    ∙ ap (λ (f : List ℕ). let s : Option Sent = Some (record { to = to; frame = f }) in s) (sym frame-is)

pub lawful_at : (posts : List Post) (n : ℕ) (post : Post) → Some post ≡ slice_get posts n → AreLawful posts → IsLawful post.message
lawful_at posts n post at lawful =
    let same : get_or posts n post ≡ post = get_or_from_slice_get posts n post post (sym at) in
    subst (λ (p : Post). IsLawful p.message) same (All-get_or (λ (p : Post). IsLawful p.message) posts n post (slice_get_within posts n post (sym at)) lawful)

pub none_missing : (posts : List Post) (n : ℕ) → n < length posts → None ≡ slice_get posts n → ⊥
none_missing [] n within none = omega (arith, within)
none_missing (post ∷ posts) zero within none = absurd (cc)
none_missing (post ∷ posts) (suc n) within none = none_missing posts n (omega (arith, within)) none

pub many : (posts : List Post) → length (carried posts) ≡ length posts
unfolding carried
many posts = length-map posts posted

-- two that are one are equal
pub same_is : (a b : Sent) → is_same a b ≡ true → b ≡ a
unfolding is_same
same_is a b same =
    let to : b.to ≡ a.to = eqb-true b.to a.to (first_so (b.to == a.to) (bytes_eq b.frame a.frame) same) in
    let frame : b.frame ≡ a.frame = same_text b.frame a.frame (sym (second_so (b.to == a.to) (bytes_eq b.frame a.frame) same)) in
    ap (λ (t : ℕ). let s : Sent = record { to = t; frame = b.frame } in s) to ∙ ap (λ (f : List ℕ). let s : Sent = record { to = a.to; frame = f } in s) frame

pub none_from : (frames : List Sent) (n : ℕ) (sent : Sent) → NoneIn frames n n sent
none_from frames n sent k from to = absurd (omega arith)

-- one more isn't the sent one
pub none_more : (frames : List Sent) (from n : ℕ) (sent other : Sent) → NoneIn frames from n sent → slice_get frames n ≡ Some other → is_same sent other ≡ false → NoneIn frames from (n + 1) sent
none_more frames from n sent other none at differs k low high = by (k == n) refl
  where
    by : (b : Bool) → (k == n) ≡ b → is_same sent (get_or frames k sent) ≡ false
    by true same =
        let here : get_or frames k sent ≡ other = ap (λ i. get_or frames i sent) (eqb-true k n same) ∙ get_or_from_slice_get frames n other sent at in
        ap (is_same sent) here ∙ differs
    by false other-place = none k low (omega (arith, eqb-false k n other-place))

-- this one is it
pub found_here : (frames : List Sent) (from n : ℕ) (sent other : Sent) → NoneIn frames from n sent → from ≤ n → slice_get frames n ≡ Some other → is_same sent other ≡ true → FindsFrom frames from sent (Some n)
found_here frames from n sent other none low at same =
    (low, slice_get_within frames n other at, ap (is_same sent) (get_or_from_slice_get frames n other sent at) ∙ same, none)

-- no frame before the number that the index tells is the sent one; where it tells none, no frame is
before : (index : FrameIndex) (frames : List Sent) (sent : Sent) (found : Option ℕ) → first_at index (digest_of sent.to sent.frame) ≡ found → IsIndex index frames
    → (k : ℕ) → k < length frames → is_same sent (get_or frames k sent) ≡ true → IsBy found k
before index frames sent found tells is k within same =
    let other : Sent = get_or frames k sent in
    let by : IsBy (first_at index (digest_of other.to other.frame)) k = is.has k other (slice_get-get_or frames k sent within) in
    subst (λ (o : Option ℕ). IsBy o k) tells (subst (λ (s : Sent). IsBy (first_at index (digest_of s.to s.frame)) k) (same_is sent other same) by)

pub differs : (b : Bool) → (b ≡ true → ⊥) → b ≡ false
differs true no-way = absurd (no-way refl)
differs false no-way = refl

pub found_none : (index : FrameIndex) (frames : List Sent) (sent : Sent) → first_at index (digest_of sent.to sent.frame) ≡ None → IsIndex index frames → Finds frames sent None
unfolding first_same
found_none index frames sent none is =
    position_or_len_is (is_same sent) frames (length frames) sent (omega arith)
    (λ k within. differs (is_same sent (get_or frames k sent)) (λ same. before index frames sent None none is k within same))
    (λ over. absurd (omega (arith, over)))

pub found_from : (index : FrameIndex) (frames : List Sent) (sent : Sent) (first : ℕ) (found : Option ℕ) → first_at index (digest_of sent.to sent.frame) ≡ Some first → IsIndex index frames
    → FindsFrom frames first sent found → Finds frames sent found
unfolding first_same
found_from index frames sent first found tells is finds = by found finds
  where
    low : (k : ℕ) → k < length frames → k < first → is_same sent (get_or frames k sent) ≡ false
    low k within less = differs (is_same sent (get_or frames k sent)) (λ same. let by : first ≤ k = before index frames sent (Some first) tells is k within same in omega (arith, less, by))

    none_to : (to : ℕ) → to ≤ length frames → NoneIn frames first to sent → (k : ℕ) → k < to → is_same sent (get_or frames k sent) ≡ false
    none_to to within none k less = split (nat_lt k first) refl
      where
        split : (b : Bool) → nat_lt k first ≡ b → is_same sent (get_or frames k sent) ≡ false
        split true yes-low = low k (omega (arith, less, within)) (ltb-true k first yes-low)
        split false not-low = none k (ltb-false k first not-low) less

    by : (found : Option ℕ) → FindsFrom frames first sent found → Finds frames sent found
    by None none =
        position_or_len_is (is_same sent) frames (length frames) sent (omega arith)
        (none_to (length frames) (omega arith) none)
        (λ over. absurd (omega (arith, over)))
    by (Some n) (low, within, same, none) = (
      position_or_len_is (is_same sent) frames n sent (omega (arith, within)) (none_to n (omega (arith, within)) none) (λ inside. same),
      within,
    )
