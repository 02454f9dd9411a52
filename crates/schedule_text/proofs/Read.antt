-- What was read, from what a part of a line gave.
use Rattle.std.proofs.Common.{◌≡◌, ℕ, ◌≤◌, Bool, true, false, cond, Option, Some, None, Result, Ok, Err, refl, ap}
use Rattle.std.specs.Prelude.{nat_le, ◌⊎◌}
use Rattle.std.proofs.Common.{inl, inr}
use Rattle.std.proofs.lemmas.Bool.{leb-true}
use Rattle.span_base.specs.declared.words.What.{What}
use Rattle.schedule_text.specs.declared.flaw.Flaw.{Flaw}
use Rattle.schedule_text.specs.declared.flaw.Flaw.TheVariants.{Limit}
use Rattle.schedule_text.specs.Flaws.{both, made, judged, formed, within, after}

pub made_ok : {A B : Type 0} (f : A → B) (part : Result A Flaw) (b : B) → made f part ≡ Ok b → (a : A) × (part ≡ Ok a) × (f a ≡ b)
made_ok f (Ok a) b h = (a, refl, cc)
made_ok f (Err flaw) b h = absurd (cc)

pub judged_ok : {A B : Type 0} (part : Result A Flaw) (f : A → Result B Flaw) (b : B) → judged part f ≡ Ok b → (a : A) × (part ≡ Ok a) × (f a ≡ Ok b)
judged_ok (Ok a) f b h = (a, refl, h)
judged_ok (Err flaw) f b h = absurd (cc)

pub formed_ok : {A B : Type 0} (part : Option A) (f : A → Result B Flaw) (b : B) → formed part f ≡ Ok b → (a : A) × (part ≡ Some a) × (f a ≡ Ok b)
formed_ok None f b h = absurd (cc)
formed_ok (Some a) f b h = (a, refl, h)

pub after_ok : {A : Type 0} (test : Result Unit Flaw) (part : Result A Flaw) (a : A) → after test part ≡ Ok a → (test ≡ Ok tt) × (part ≡ Ok a)
after_ok (Ok tt) (Ok a) b h = (refl, h)
after_ok (Ok tt) (Err flaw) b h = absurd (cc)
after_ok (Err flaw) (Ok a) b h = absurd (cc)
after_ok (Err flaw) (Err right) b h = absurd (cc)

pub both_ok : {A B : Type 0} (left : Result A Flaw) (right : Result B Flaw) (parts : A × B) → both left right ≡ Ok parts → (left ≡ Ok parts.0) × (right ≡ Ok parts.1)
both_ok {A} {B} (Ok x) (Ok y) parts h =
    let e : (x, y) ≡ parts = cc in
    (ap (λ (q : A × B). let r : Result A Flaw = Ok q.0 in r) e, ap (λ (q : A × B). let r : Result B Flaw = Ok q.1 in r) e)
both_ok (Ok x) (Err flaw) parts h = absurd (cc)
both_ok (Err flaw) (Ok y) parts h = absurd (cc)
both_ok (Err left) (Err right) parts h = absurd (cc)

-- where a test passed
pub test_ok : {A : Type 0} (b : Bool) (part : Result A Flaw) (flaw : Flaw) (a : A) → cond {A = Result A Flaw} b part (Err flaw) ≡ Ok a → (b ≡ true) × (part ≡ Ok a)
test_ok true part flaw a h = (refl, h)
test_ok false part flaw a h = absurd (cc)

pub within_ok : (what : What) (most number : ℕ) → within what most number ≡ Ok tt → number ≤ most
within_ok what most number h = leb-true number most (test_ok (nat_le number most) (Ok tt) (Limit what number) tt h).0

pub one_way : {A : Type 0} (b : Bool) (x y z : A) → cond b x y ≡ z → ((b ≡ true) × (x ≡ z)) ⊎ ((b ≡ false) × (y ≡ z))
one_way true x y z h = inl (refl, h)
one_way false x y z h = inr (refl, h)
