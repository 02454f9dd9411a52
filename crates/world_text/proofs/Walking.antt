-- What records make of a draft, one after the other.
use Rattle.std.proofs.Common.{◌≡◌, ℕ, ◌+◌, ◌∙◌, List, [], ◌∷◌, ◌++◌, map, Some, Result, Ok, Err, refl, ap}
use Rattle.workload.specs.World.{Lists}
use Rattle.world_text.specs.declared.fault.Fault.{Fault}
use Rattle.world_text.specs.declared.draft.Draft.{Draft}
use Rattle.world_text.specs.Records.{Record}
use Rattle.world_text.specs.Steps.{◌>>=◌}
use Rattle.world_text.specs.Judged.{judged}
use Rattle.world_text.specs.ReadWorld.{read_from, completed}

-- the draft after these records
unfoldable pub after : Draft → List Record → Result Draft Fault
after d [] = Ok d
after d (r ∷ rs) = judged d r >>= λ next. after next rs

-- the records are taken, and lead to a draft of which P holds
pub record Leads (d : Draft) (rs : List Record) (P : Draft → Type 0) : Type 0 where
  pub last : Draft
  pub taken : after d rs ≡ Ok last
  pub holds : P last

pub leads_none : (d : Draft) (P : Draft → Type 0) → P d → Leads d [] P
unfolding after
leads_none d P h = record { last = d; taken = refl; holds = h }

pub leads_more : (d next : Draft) (r : Record) (rs : List Record) (P : Draft → Type 0) → judged d r ≡ Ok next → Leads next rs P → Leads d (r ∷ rs) P
unfolding after
leads_more d next r rs P e l = record { last = l.last; taken = rw e l.taken; holds = l.holds }

after-append : (d m : Draft) (rs ss : List Record) → after d rs ≡ Ok m → after d (rs ++ ss) ≡ after m ss
unfolding after
after-append d m [] ss e = ap (λ (r : Result Draft Fault). r >>= λ x. after x ss) e
after-append d m (r ∷ rs) ss e = go (judged d r) (λ x. after-append x m rs ss) e
  where
    go : (j : Result Draft Fault) → ((x : Draft) → after x rs ≡ Ok m → after x (rs ++ ss) ≡ after m ss) → (j >>= λ x. after x rs) ≡ Ok m → (j >>= λ x. after x (rs ++ ss)) ≡ after m ss
    go (Ok x) more e = more x e
    go (Err fault) more e = cc e

pub leads_on : (d : Draft) (rs ss : List Record) (P Q : Draft → Type 0) → Leads d rs P → ((m : Draft) → P m → Leads m ss Q) → Leads d (rs ++ ss) Q
leads_on d rs ss P Q l more =
    let next : Leads l.last ss Q = more l.last l.holds in
    record { last = next.last; taken = after-append d l.last rs ss l.taken ∙ next.taken; holds = next.holds }

-- the world of records that lead to it
pub whole_read : (line : ℕ) (d m : Draft) (rs : List Record) (w : Lists) → after d rs ≡ Ok m → completed m ≡ Ok w → read_from line d (map Some rs) ≡ Ok w
unfolding after read_from
whole_read line d m [] w e whole =
    let same : completed d ≡ Ok w = ap (λ (r : Result Draft Fault). r >>= completed) e ∙ whole in
    rw same refl
whole_read line d m (r ∷ rs) w e whole = go (judged d r) refl (λ x. whole_read (line + 1) x m rs w) e
  where
    go : (j : Result Draft Fault) → judged d r ≡ j → ((x : Draft) → after x rs ≡ Ok m → completed m ≡ Ok w → read_from (line + 1) x (map Some rs) ≡ Ok w) → (j >>= λ x. after x rs) ≡ Ok m → read_from line d (map Some (r ∷ rs)) ≡ Ok w
    go (Ok x) is more e = rw is (more x e whole)
    go (Err fault) is more e = cc e
