-- The index with one frame more.
use Rattle.std.proofs.Common.{◌≡◌, ℕ, zero, suc, ◌≤◌, Bool, true, false, cond, List, [], ◌∷◌, ◌++◌, length, slice_get, refl, sym, ap, ◌∙◌, subst, arith, length-append}
use Rattle.std.specs.Prelude.{◌==◌, Option, Some, None}
use Rattle.std.proofs.lemmas.Bool.{eqb-true, eq-eqb}
use Rattle.frame_link.specs.Frames.{Sent}
use Rattle.span_node.specs.declared.index.FrameIndex.{FrameIndex}
use Rattle.span_node.specs.Index.{digest_of, first_at, IsBy, IsNoneOrBy, IsIndex}

-- what stands at a number of the frames with one more: one of those before, or the new one
data Place (frames : List Sent) (new sent : Sent) (n : ℕ) : Type 0 where
  before : slice_get frames n ≡ Some sent → Place frames new sent n
  last : n ≡ length frames → new ≡ sent → Place frames new sent n

place : (frames : List Sent) (new sent : Sent) (n : ℕ) → slice_get (frames ++ new ∷ []) n ≡ Some sent → Place frames new sent n
place [] new sent zero at = last refl (cc)
place [] new sent (suc n) at = absurd (cc)
place (frame ∷ frames) new sent zero at = before at
place (frame ∷ frames) new sent (suc n) at = by (place frames new sent n at)
  where
    by : Place frames new sent n → Place (frame ∷ frames) new sent (suc n)
    by (before here) = before here
    by (last n-is same) = last (omega (arith, n-is)) same

none_or_by : (found : Option ℕ) (n m : ℕ) → n ≤ m → IsNoneOrBy found n → IsNoneOrBy found m
none_or_by None n m less is = tt
none_or_by (Some first) n m less is = omega (arith, less, is)

-- the digest has a number already
pub kept : (index : FrameIndex) (to first number : ℕ) (frame : List ℕ) (frames : List Sent) → first_at index (digest_of to frame) ≡ Some first
    → IsIndex index frames → IsIndex index (frames ++ record { to = to; frame = frame } ∷ [])
kept index to first number frame frames found is = record {
  has = λ n sent at. by n sent (place frames new sent n at);
  within = λ digest. none_or_by (first_at index digest) (length frames) (length (frames ++ new ∷ [])) (omega (arith, length-append frames (new ∷ []))) (is.within digest);
}
  where
    new : Sent
    new = record { to = to; frame = frame }

    low : first ≤ length frames
    low = subst (λ (o : Option ℕ). IsNoneOrBy o (length frames)) found (is.within (digest_of to frame))

    by : (n : ℕ) (sent : Sent) → Place frames new sent n → IsBy (first_at index (digest_of sent.to sent.frame)) n
    by n sent (before here) = is.has n sent here
    by n sent (last n-is same) =
        subst (λ (s : Sent). IsBy (first_at index (digest_of s.to s.frame)) n) same
        (subst (λ (o : Option ℕ). IsBy o n) (sym found) (omega (arith, n-is, low)))

-- the digest has the new number
pub put : (old index : FrameIndex) (to number : ℕ) (frame : List ℕ) (frames : List Sent) → first_at old (digest_of to frame) ≡ None
    → ((other : ℕ) → first_at index other ≡ cond (digest_of to frame == other) (Some number) (first_at old other))
    → number ≡ length frames → IsIndex old frames → IsIndex index (frames ++ record { to = to; frame = frame } ∷ [])
put old index to number frame frames none puts number-is is = record {
  has = λ n sent at. by n sent (place frames new sent n at);
  within = λ digest. subst (λ (o : Option ℕ). IsNoneOrBy o (length (frames ++ new ∷ []))) (sym (puts digest)) (within digest (mine == digest));
}
  where
    new : Sent
    new = record { to = to; frame = frame }

    mine : ℕ
    mine = digest_of to frame

    longer : length frames ≤ length (frames ++ new ∷ [])
    longer = omega (arith, length-append frames (new ∷ []))

    within : (digest : ℕ) (b : Bool) → IsNoneOrBy (cond b (Some number) (first_at old digest)) (length (frames ++ new ∷ []))
    within digest true = omega (arith, number-is, longer)
    within digest false = none_or_by (first_at old digest) (length frames) (length (frames ++ new ∷ [])) longer (is.within digest)

    has_old : (n other : ℕ) (b : Bool) → (mine == other) ≡ b → IsBy (first_at old other) n → IsBy (cond b (Some number) (first_at old other)) n
    has_old n other true same by = absurd (subst (λ (o : Option ℕ). IsBy o n) (ap (first_at old) (sym (eqb-true mine other same)) ∙ none) by)
    has_old n other false same by = by

    by : (n : ℕ) (sent : Sent) → Place frames new sent n → IsBy (first_at index (digest_of sent.to sent.frame)) n
    by n sent (before here) =
        let other : ℕ = digest_of sent.to sent.frame in
        subst (λ (o : Option ℕ). IsBy o n) (sym (puts other)) (has_old n other (mine == other) refl (is.has n sent here))
    by n sent (last n-is same) =
        subst (λ (s : Sent). IsBy (first_at index (digest_of s.to s.frame)) n) same
        (subst (λ (o : Option ℕ). IsBy o n) (sym (puts mine ∙ itself mine)) (omega (arith, n-is, number-is)))
      where
        itself : (d : ℕ) → cond (d == d) (Some number) (first_at old d) ≡ Some number
        itself d = ap (λ (b : Bool). cond b (Some number) (first_at old d)) (eq-eqb d d refl)
