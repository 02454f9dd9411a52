-- Reading a list of centres, one after another.
use Rattle.std.proofs.Common.{◌≡◌, ℕ, zero, suc, ◌<◌, ◌≤◌, Bool, true, false, List, [], ◌∷◌, length, Option, Ok, Err, refl, ap, ◌∙◌, if◌then◌else◌, arith}
use Rattle.std.specs.Prelude.{Result}
use Rattle.span_base.specs.declared.ids.DcId.{DcId}
use Rattle.span_base.specs.declared.dc_set.DcSet.{DcSet}
use Rattle.workload.specs.World.{Lists}
use Rattle.slo_rules.specs.declared.policy_line.PolicyFault.{PolicyFault}
use Rattle.slo_rules.specs.PolicyLines.{Reading, ◌>>=◌, behind, centre_at, with_centre, is_over, centres_at}

-- what is left to read of a list gives all of it
pub record GoesOn (w : Lists) (closed : Bool) (all : Reading (Result DcSet PolicyFault)) (so_far : Result DcSet PolicyFault) (text : List ℕ) : Type 0 where
  pub most : ℕ
  pub enough : length text ≤ most
  pub same : all ≡ centres_at w closed most so_far text

pub list_begins : (w : Lists) (closed : Bool) (so_far : Result DcSet PolicyFault) (text : List ℕ) → GoesOn w closed (centres_at w closed (length text) so_far text) so_far text
list_begins w closed so_far text = record { most = length text; enough = omega arith; same = refl }

-- one centre more
pub one_more : (w : Lists) (closed : Bool) (most : ℕ) (so_far : Result DcSet PolicyFault) (text : List ℕ) (centre : Option DcId) (rest : List ℕ) (over : Bool) → centre_at w text ≡ Ok (centre, rest) → is_over closed rest ≡ over
    → centres_at w closed (suc most) so_far text ≡ (if over then Ok (with_centre so_far centre, rest) else centres_at w closed most (with_centre so_far centre) rest)
unfolding centres_at
one_more w closed most so_far text centre rest over e o =
    ap (λ reading. reading >>= (λ c. if is_over closed c.1 then Ok (with_centre so_far c.0, c.1) else centres_at w closed most (with_centre so_far c.0) c.1)) e
    ∙ ap (λ b. if b then Ok (with_centre so_far centre, rest) else centres_at w closed most (with_centre so_far centre) rest) o

pub nothing_at : (w : Lists) (text : List ℕ) → length text ≤ 0 → centre_at w text ≡ Err 0
unfolding centre_at behind
nothing_at w [] none = refl
nothing_at w (c ∷ text) none = absurd (omega arith)

no_centre_there : (w : Lists) (text : List ℕ) (centre : Option DcId) (rest : List ℕ) → length text ≤ 0 → centre_at w text ≡ Ok (centre, rest) → ⊥
no_centre_there w text centre rest none e = let f = nothing_at w text none in cc

pub list_goes_on : (w : Lists) (closed : Bool) (all : Reading (Result DcSet PolicyFault)) (so_far : Result DcSet PolicyFault) (text : List ℕ) (centre : Option DcId) (rest : List ℕ)
    → GoesOn w closed all so_far text → centre_at w text ≡ Ok (centre, rest) → length rest < length text → is_over closed rest ≡ false → GoesOn w closed all (with_centre so_far centre) rest
list_goes_on w closed all so_far text centre rest g e shorter over = go g.most g.enough g.same
  where
    go : (most : ℕ) → length text ≤ most → all ≡ centres_at w closed most so_far text → GoesOn w closed all (with_centre so_far centre) rest
    go zero enough same = absurd (no_centre_there w text centre rest enough e)
    go (suc most) enough same = record { most = most; enough = omega arith; same = same ∙ one_more w closed most so_far text centre rest false e over }

pub list_ends : (w : Lists) (closed : Bool) (all : Reading (Result DcSet PolicyFault)) (so_far : Result DcSet PolicyFault) (text : List ℕ) (centre : Option DcId) (rest : List ℕ)
    → GoesOn w closed all so_far text → centre_at w text ≡ Ok (centre, rest) → is_over closed rest ≡ true → all ≡ Ok (with_centre so_far centre, rest)
list_ends w closed all so_far text centre rest g e over = go g.most g.enough g.same
  where
    go : (most : ℕ) → length text ≤ most → all ≡ centres_at w closed most so_far text → all ≡ Ok (with_centre so_far centre, rest)
    go zero enough same = absurd (no_centre_there w text centre rest enough e)
    go (suc most) enough same = same ∙ one_more w closed most so_far text centre rest true e over

pub list_breaks : (w : Lists) (closed : Bool) (all : Reading (Result DcSet PolicyFault)) (so_far : Result DcSet PolicyFault) (text : List ℕ) (left : ℕ)
    → GoesOn w closed all so_far text → centre_at w text ≡ Err left → all ≡ Err left
unfolding centres_at
list_breaks w closed all so_far text left g e = go g.most g.enough g.same
  where
    go : (most : ℕ) → length text ≤ most → all ≡ centres_at w closed most so_far text → all ≡ Err left
    go zero enough same = let f : centre_at w text ≡ Err 0 = nothing_at w text enough in let z : 0 ≡ left = cc in same ∙ ap Err z
    go (suc most) enough same = same ∙ ap (λ reading. reading >>= (λ c. if is_over closed c.1 then Ok (with_centre so_far c.0, c.1) else centres_at w closed most (with_centre so_far c.0) c.1)) e

pub ruleset centre_lists = (list_begins, list_goes_on, list_ends, list_breaks)
