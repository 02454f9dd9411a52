-- One connection after another.
use Rattle.std.proofs.Common.{ℕ, ◌≡◌, ◌+◌, List, [], ◌∷◌, ◌++◌, map, Option, Some, None, Ok, Err, refl, sym, ◌∙◌, ap, subst, arith, append_assoc, length-append}
use Rattle.std.specs.Prelude.{Result, IsErrOf, IfOk, OnOk}
use Rattle.std.specs.List.{AllByRecursion, flat_map}
use Rattle.std.proofs.lemmas.List.{append-nil, map-append}
use Rattle.std.proofs.lemmas.Grind.{flat_map-append}
use Rattle.span_base.specs.Counts.{Rose}
use Rattle.span_base.specs.Taken.{Appends}
use Rattle.span_base.proofs.Appending.{Appends-append, Appends-nothing}
use Rattle.replica_core.specs.Rule.{State}
use Rattle.replica_core.specs.declared.journal.TakeFault.TheVariants as take
use Rattle.span_service.specs.declared.serve_fault.ServeFault.{ServeFault}
use Rattle.span_service.specs.declared.serve_fault.ServeFault.TheVariants as serve
use Rattle.span_service.specs.Doors.{Visit, Told, Accepts, visits_of}
use Rattle.span_service.specs.Serving.{Moment, Ends}
use Rattle.span_service.specs.Visits.{Connection, Line, Scene, AreServed, IsService, Come, AreVisited, IsPresentServed, connection_line, line_text, line_of, served_line, visit_of}
use Rattle.span_service.specs.Endings.{IsPlain, Outcomes, line_told}
use Rattle.span_service.specs.declared.ending.Outcome.{Outcome}
use Rattle.span_service.specs.declared.visit_fault.VisitFault.{VisitFault}

all_more : {A : Type 0} (P : A → Type 0) (xs ys : List A) → AllByRecursion P xs → AllByRecursion P ys → AllByRecursion P (xs ++ ys)
all_more P [] ys none all = all
all_more P (x ∷ xs) ys all more = (all.0, all_more P xs ys all.1 more)

served_on : (keys : ℕ) (a b c : State) (xs ys : List Connection) → AreServed keys a b xs → AreServed keys b c ys → AreServed keys a c (xs ++ ys)
served_on keys a b c [] ys none more = subst (λ (s : State). AreServed keys s c ys) none more
served_on keys a b c (x ∷ xs) ys served more = (served.0, served.1, served_on keys served.0 b c xs ys served.2 more)

come_on : (told : Option Told) (old mid new : Scene) (xs ys : List Connection) → Come told old mid xs → Come mid.told mid new ys → Come told old new (xs ++ ys)
come_on None old mid new xs ys came more = tt
come_on (Some told) old mid new xs ys came more =
    let then = subst (λ (t : Option Told). Come t mid new ys) came.1 more in (
      then.0,
      then.1,
      record {
        bytes = came.2.bytes ++ then.2.bytes;
        came = came.2.came ∙ ap (λ (l : List (List ℕ)). came.2.bytes ++ l) then.2.came ∙ sym (append_assoc came.2.bytes then.2.bytes then.0.waiting);
        had = map-append (λ (b : List ℕ). Some b) came.2.bytes then.2.bytes
            ∙ ap (λ (l : List (Option (List ℕ))). l ++ map (λ (b : List ℕ). Some b) then.2.bytes) came.2.had
            ∙ ap (λ (l : List (Option (List ℕ))). map (λ (c : Connection). c.had) xs ++ l) then.2.had
            ∙ sym (map-append (λ (c : Connection). c.had) xs ys);
        fresh = all_more (λ (c : Connection). c.began ≡ Some []) xs ys came.2.fresh then.2.fresh;
        visits = then.2.visits
            ∙ ap (λ (l : List Visit). l ++ map visit_of ys) came.2.visits
            ∙ append_assoc (visits_of told old.taken old.faults) (map visit_of xs) (map visit_of ys)
            ∙ ap (λ (l : List Visit). visits_of told old.taken old.faults ++ l) (sym (map-append visit_of xs ys));
      },
    )

-- connections, and then more of them
pub visited_on : (keys n m : ℕ) (a b c : State) (old mid new : Scene) (out out' out'' : Option (List ℕ)) → AreVisited keys a b old mid out out' n → AreVisited keys b c mid new out' out'' m
    → AreVisited keys a c old new out out'' (n + m)
visited_on keys n m a b c old mid new out out' out'' first then = record {
  connections = first.connections ++ then.connections;
  number = omega (arith, length-append first.connections then.connections, first.number, then.number);
  served = served_on keys a b c first.connections then.connections first.served then.served;
  come = come_on old.told old mid new first.connections then.connections first.come then.come;
  lines = subst (Appends out out'') (sym (flat_map-append connection_line first.connections then.connections))
      (Appends-append out out' out'' (flat_map connection_line first.connections) (flat_map connection_line then.connections) first.lines then.lines);
}

come_none : (told : Option Told) (scene : Scene) → scene.told ≡ told → Come told scene scene []
come_none None scene is = tt
come_none (Some told) scene is = (told, is, record { bytes = []; came = refl; had = refl; fresh = tt; visits = sym (append-nil (visits_of told scene.taken scene.faults)) })

-- no connection yet
pub visited_none : (keys : ℕ) (state : State) (scene : Scene) (out : Option (List ℕ)) → AreVisited keys state state scene scene out out 0
visited_none keys state scene out = record {
  connections = [];
  number = refl;
  served = refl;
  come = come_none scene.told scene refl;
  lines = Appends-nothing out;
}

-- the connection that was accepted
come_one : (told : Option Told) (coming taken : Option (List ℕ)) (faults : ℕ) (coming' taken' : Option (List ℕ)) (told' : Option Told) (taken'' : Option (List ℕ)) (faults'' : ℕ) (answer : Result ℕ ServeFault)
    → Accepts told coming taken faults coming' taken' told' (Ok tt)
    → Come told (record { told = told; taken = taken; faults = faults }) (record { told = told'; taken = taken''; faults = faults'' })
    (record { had = coming'; began = taken'; took = taken''; before = faults; after = faults''; answer = answer } ∷ [])
come_one None coming taken faults coming' taken' told' taken'' faults'' answer accepts = tt
come_one (Some told) coming taken faults coming' taken' told' taken'' faults'' answer next = (
  record { waiting = next.rest; ended = visits_of told taken faults; present = Some (record { had = next.first; before = faults }) },
  next.now,
  record {
    bytes = next.first ∷ [];
    came = next.came;
    had = ap (λ (o : Option (List ℕ)). o ∷ []) (sym next.coming);
    fresh = (next.fresh, tt);
    visits = ap (λ (o : Option (List ℕ)). visits_of told taken faults ++ record { had = o; took = taken''; before = faults; after = faults'' } ∷ []) (sym next.coming);
  },
)

-- one connection was accepted and served, and its line was written
pub visited_one : (keys : ℕ) (state state' : State) (told : Option Told) (coming taken : Option (List ℕ)) (faults : ℕ) (coming' taken' : Option (List ℕ)) (faults' : ℕ) (told' : Option Told) (taken'' : Option (List ℕ)) (faults'' : ℕ)
    (told'' : Option Told) (out out' : Option (List ℕ)) (line : Line)
    → Accepts told coming taken faults coming' taken' told' (Ok tt) → faults' ≡ faults → told'' ≡ told' → IsPresentServed keys state state' coming' taken' taken'' faults' faults'' line
    → Appends out out' (served_line line.answered line.word)
    → AreVisited keys state state' (record { told = told; taken = taken; faults = faults }) (record { told = told''; taken = taken''; faults = faults'' }) out out' 1
visited_one keys state state' told coming taken faults coming' taken' faults' told' taken'' faults'' told'' out out' line accepts same stays served written = record {
  connections = record { had = coming'; began = taken'; took = taken''; before = faults; after = faults''; answer = served.answer } ∷ [];
  number = refl;
  served = (state', subst (λ (f : ℕ). IsService keys state state' (record { had = coming'; began = taken'; took = taken''; before = f; after = faults''; answer = served.answer })) same served.service, refl);
  come = subst (λ (t : Option Told). Come told (record { told = told; taken = taken; faults = faults }) (record { told = t; taken = taken''; faults = faults'' })
      (record { had = coming'; began = taken'; took = taken''; before = faults; after = faults''; answer = served.answer } ∷ [])) (sym stays)
      (come_one told coming taken faults coming' taken' told' taken'' faults'' served.answer accepts);
  lines = subst (Appends out out') (ap line_text (sym served.told) ∙ sym (append-nil (connection_line (record { had = coming'; began = taken'; took = taken''; before = faults; after = faults''; answer = served.answer })))) written;
}

-- the present connection is served as its answer tells
pub present_served : (keys size : ℕ) (state state' : State) (coming taken taken' : Option (List ℕ)) (faults faults' : ℕ) (answer : Result ℕ ServeFault) (line : Line)
    → Ends keys size (record { state = state; coming = coming; taken = taken }) state' taken' answer
    → ((n : ℕ) → IsErrOf answer (serve.ReadFault n) → Rose faults faults') → ((n : ℕ) → IsErrOf answer (serve.WriteFault n) → Rose faults faults')
    → line_of answer ≡ Some line → IsPresentServed keys state state' coming taken taken' faults faults' line
present_served keys size state state' coming taken taken' faults faults' answer line ends read written told = record {
  answer = answer;
  service = record { size = size; ends = ends; line = line; told = told; read = read; written = written };
  told = told;
}

pub plain : (keys size : ℕ) (start : Moment) (state : State) (taken : Option (List ℕ)) (answer : Result ℕ ServeFault) → Ends keys size start state taken answer → (IsErrOf answer (serve.Taker take.Shut) → ⊥) → IsPlain answer
plain keys size start state taken (Ok count) ends unshut = tt
plain keys size start state taken (Err (serve.Bad frame at)) ends unshut = omega (arith, ends.1)
plain keys size start state taken (Err (serve.Torn frame)) ends unshut = omega (arith, ends.1)
plain keys size start state taken (Err (serve.Limit number)) ends unshut = omega (arith, ends.0)
plain keys size start state taken (Err (serve.ReadFault count)) ends unshut = tt
plain keys size start state taken (Err (serve.WriteFault count)) ends unshut = tt
plain keys size start state taken (Err (serve.Taker (take.NoMemory error))) ends unshut = ends.refused
plain keys size start state taken (Err (serve.Taker take.DiskFault)) ends unshut = tt
plain keys size start state taken (Err (serve.Taker take.Shut)) ends unshut = unshut refl
plain keys size start state taken (Err (serve.Taker (take.Full bytes))) ends unshut = record { size = size; request = ends.request; too_much = ends.refused }
plain keys size start state taken (Err (serve.NoMemory error)) ends unshut = tt

pub outcome_served : (keys size : ℕ) (state state' : State) (coming taken taken' : Option (List ℕ)) (faults faults' : ℕ) (answer : Result ℕ ServeFault) (result : Result Outcome VisitFault)
    → Ends keys size (record { state = state; coming = coming; taken = taken }) state' taken' answer
    → ((n : ℕ) → IsErrOf answer (serve.ReadFault n) → Rose faults faults') → ((n : ℕ) → IsErrOf answer (serve.WriteFault n) → Rose faults faults')
    → Outcomes answer result → IfOk result (λ outcome. IsPresentServed keys state state' coming taken taken' faults faults' (line_told outcome))
outcome_served keys size state state' coming taken taken' faults faults' answer (Ok outcome) ends read written told = present_served keys size state state' coming taken taken' faults faults' answer (line_told outcome) ends read written told
outcome_served keys size state state' coming taken taken' faults faults' answer (Err fault) ends read written told = tt

pub on_ok : {T E A B : Type 0} (result : Result T E) → (A → B) → OnOk result A → OnOk result B
on_ok (Ok value) f holds = f holds
on_ok (Err fault) f holds = tt
