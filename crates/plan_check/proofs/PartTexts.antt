-- A plan grows part by part.
use Rattle.std.proofs.Common.{◌≡◌, ℕ, zero, suc, ◌+◌, List, [], ◌∷◌, ◌++◌, length, sym, ap, subst, ◌∙◌, append_assoc, append-nil, arith, codes}
use Rattle.plan_text.specs.Parts.{Part}
use Rattle.plan_text.specs.PlanText.{part_text, parts_text}
use Rattle.plan_text.specs.Plans.{EachPart}
use Rattle.workload.specs.World.{Lists}
use Rattle.plan_check.specs.Places.{parts_read}

-- nothing holds of no part
pub each_none : (P : ℕ → Part → Type 0) → EachPart P []
each_none P set part e = absurd (cc)

-- what holds of each part and of one more holds of all
pub each_more : (P : ℕ → Part → Type 0) (parts : List Part) (part : Part) → EachPart P parts → P (length parts) part → EachPart P (parts ++ part ∷ [])
each_more P [] part each here zero q e = let same : part ≡ q = cc in subst (P zero) same here
each_more P [] part each here (suc k) q e = absurd (cc)
each_more P (p ∷ parts) part each here zero q e = each zero q e
each_more P (p ∷ parts) part each here (suc k) q e = each_more (λ n. P (suc n)) parts part (λ n r f. each (suc n) r f) here k q e

-- the text of one more part
text_more : (w : Lists) (set : ℕ) (parts : List Part) (part : Part) → parts_text w set (parts ++ part ∷ []) ≡ parts_text w set parts ++ part_text w (set + length parts) part
text_more w set [] part = let e : set ≡ set + 0 = omega arith in append-nil (part_text w set part) ∙ ap (λ n. part_text w n part) e
text_more w set (p ∷ parts) part =
    let e : (set + 1) + length parts ≡ set + suc (length parts) = omega arith in
    ap (λ t. part_text w set p ++ t) (text_more w (set + 1) parts part ∙ ap (λ n. parts_text w (set + 1) parts ++ part_text w n part) e)
    ∙ sym (append_assoc (part_text w set p) (parts_text w (set + 1) parts) (part_text w (set + suc (length parts)) part))

pub read_more : (w : Lists) (parts : List Part) (part : Part) → parts_read w (parts ++ part ∷ []) ≡ parts_read w parts ++ part_text w (length parts) part
read_more w parts part =
    let z : 0 + length parts ≡ length parts = omega arith in
    ap (λ t. codes "span-plan 1\n" ++ t) (text_more w 0 parts part ∙ ap (λ n. parts_text w 0 parts ++ part_text w n part) z)
    ∙ sym (append_assoc (codes "span-plan 1\n") (parts_text w 0 parts) (part_text w (length parts) part))

-- a part's text as it is read: what begins it, and its ending
pub regroup : (a b c d : List ℕ) → (((a ++ b) ++ c) ++ d) ≡ a ++ (b ++ (c ++ d))
regroup a b c d = simp append_assoc
