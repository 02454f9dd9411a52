-- What the generator does for a choice is what the definition chooses.
use Rattle.std.proofs.Common.{◌≡◌, ℕ, suc, ◌+◌, ◌-◌, min, true, false, cond, length, refl, sym, ap, ◌∙◌, subst, arith}
use Rattle.std.specs.Prelude.{Option, Some, None}
use Rattle.std.specs.Option.{option_map_or}
use Rattle.std.proofs.lemmas.Bool.{eq-eqb, ne_eqb}
use Rattle.run_marks.specs.declared.mark.Work.{Work}
use Rattle.world_core.specs.declared.event.Event.TheVariants.{Start, Deliver, GiveUp, Publish}
use Rattle.world_core.specs.State.{Store, proxy_at}
use Rattle.run_generator.specs.Header.{table}
use Rattle.run_generator.specs.Chosen.{Chosen, made, next, below, draws, chooses, delivers, deliveries, is_500th, publishes, late_call, gives_up, work_drawn, starts, calls, turn, chosen}
use Rattle.run_generator.specs.Standing.{StandsFor}
use Rattle.run_generator.specs.declared.generator.Generator.{Generator}

-- it stands at this state
at : (g : Generator) (c : Chosen) (state to : ℕ) → state ≡ to → StandsFor g c → StandsFor (record g { state = state }) (record { state = to; events = c.events })
at g c state to is s = record { state = is; store = s.store; log = s.log; over = s.over }

drew : (g : Generator) (c : Chosen) (state : ℕ) → state ≡ next g.state → StandsFor g c → StandsFor (record g { state = state }) (draws c)
drew g c state is s = at g c state (next c.state) (is ∙ ap next s.state) s

-- where nothing was sent nothing is delivered
pub none_sent : (g : Generator) (c : Chosen) (sent : ℕ) → sent ≡ length g.cloud.store.sent → sent ≡ 0 → StandsFor g c → StandsFor g (delivers c)
unfolding delivers
none_sent g c sent is zero_is s =
    let n : ℕ = length (made c).store.sent in
    let none : n ≡ 0 = sym (is ∙ ap (λ (x : Store). length x.sent) s.store) ∙ zero_is in
    subst (StandsFor g) (sym (ap (λ b. cond b c (chooses (draws c) (Deliver (n - 1 - below (min n 64) (next c.state))))) (eq-eqb n 0 none))) s

pub some_sent : (g h : Generator) (c : Chosen) (state sent message : ℕ) → state ≡ next g.state → sent ≡ length g.cloud.store.sent → (sent ≡ 0 → ⊥) → message ≡ sent - 1 - below (min sent 64) state
    → ((d : Chosen) → StandsFor (record g { state = state }) d → StandsFor h (chooses d (Deliver message))) → StandsFor g c → StandsFor h (delivers c)
unfolding delivers
some_sent g h c state sent message state_is is some message_is happens s =
    let n : ℕ = length (made c).store.sent in
    let same : sent ≡ n = is ∙ ap (λ (x : Store). length x.sent) s.store in
    let more : n ≡ 0 → ⊥ = λ none. some (same ∙ none) in
    let which : message ≡ n - 1 - below (min n 64) (next c.state) = message_is ∙ ap (λ x. x - 1 - below (min x 64) state) same ∙ ap (λ y. n - 1 - below (min n 64) y) (state_is ∙ ap next s.state) in
    subst (StandsFor h) (ap (λ m. chooses (draws c) (Deliver m)) which ∙ sym (ap (λ b. cond b c (chooses (draws c) (Deliver (n - 1 - below (min n 64) (next c.state))))) (ne_eqb n 0 more))) (happens (draws c) (drew g c state state_is s))

pub no_deliveries : (c : Chosen) → deliveries 0 c ≡ c
unfolding deliveries
no_deliveries c = refl

pub deliveries_more : (n : ℕ) (c : Chosen) → deliveries (n + 1) c ≡ delivers (deliveries n c)
unfolding deliveries
deliveries_more n c = let e : n + 1 ≡ suc n = omega arith in ap (λ m. deliveries m c) e

-- only a 500th call comes with a table
pub unpublished : (g : Generator) (c : Chosen) (k : ℕ) → is_500th k ≡ false → StandsFor g c → StandsFor g (publishes k c)
unfolding publishes
unpublished g c k other s = subst (StandsFor g) (sym (ap (λ b. cond b (chooses c (Publish table)) c) other)) s

pub published : (g : Generator) (c : Chosen) (k : ℕ) → is_500th k ≡ true → StandsFor g (chooses c (Publish table)) → StandsFor g (publishes k c)
unfolding publishes
published g c k is s = subst (StandsFor g) (sym (ap (λ b. cond b (chooses c (Publish table)) c) is)) s

-- a late call is given up
pub not_late : (g : Generator) (c : Chosen) (p : ℕ) → None ≡ late_call (proxy_at g.cloud.store p) → StandsFor g c → StandsFor g (gives_up p c)
unfolding gives_up
not_late g c p none s =
    subst (StandsFor g) (ap (λ (late : Option ℕ). option_map_or (λ seq. chooses c (GiveUp p seq)) late c) (none ∙ ap (λ (x : Store). late_call (proxy_at x p)) s.store)) s

pub late : (g h : Generator) (c : Chosen) (p seq : ℕ) → Some seq ≡ late_call (proxy_at g.cloud.store p) → (StandsFor g c → StandsFor h (chooses c (GiveUp p seq))) → StandsFor g c → StandsFor h (gives_up p c)
unfolding gives_up
late g h c p seq is happens s =
    subst (StandsFor h) (ap (λ (late : Option ℕ). option_map_or (λ seq. chooses c (GiveUp p seq)) late c) (is ∙ ap (λ (x : Store). late_call (proxy_at x p)) s.store)) (happens s)

-- a call begins
pub begun : (g h : Generator) (c : Chosen) (k p mid key state : ℕ) (work : Work) → mid ≡ next g.state → key ≡ below 8 mid → (work, state) ≡ work_drawn k mid
    → ((d : Chosen) → StandsFor (record g { state = state }) d → StandsFor h (chooses d (Start p key work))) → StandsFor g c → StandsFor h (starts k p c)
unfolding starts
begun g h c k p mid key state work mid_is key_is drawn happens s =
    let from : mid ≡ next c.state = mid_is ∙ ap next s.state in
    let made_of : Work × ℕ = work_drawn k (next c.state) in
    let both : (work, state) ≡ work_drawn k (next c.state) = drawn ∙ ap (λ x. work_drawn k x) from in
    let state_is : state ≡ (work_drawn k (next c.state)).1 = ap (λ (x : Work × ℕ). x.1) both in
    let work_is : work ≡ (work_drawn k (next c.state)).0 = ap (λ (x : Work × ℕ). x.0) both in
    let d : Chosen = record { state = (work_drawn k (next c.state)).1; events = c.events } in
    subst (StandsFor h) (ap (λ x. chooses d (Start p x work)) (key_is ∙ ap (below 8) from) ∙ ap (λ (x : Work). chooses d (Start p (below 8 (next c.state)) x)) work_is)
    (happens d (at g c state (work_drawn k (next c.state)).1 state_is s))

-- a proxy is drawn, and gives a late call up before it begins another
pub called : (g h : Generator) (c : Chosen) (k p state : ℕ) → state ≡ next g.state → p ≡ below 6 state
    → (StandsFor (record g { state = state }) (draws c) → StandsFor h (starts k p (gives_up p (draws c)))) → StandsFor g c → StandsFor h (calls k c)
unfolding calls
called g h c k p state state_is p_is happens s =
    subst (λ x. StandsFor h (starts k x (gives_up x (draws c)))) (p_is ∙ ap (below 6) (state_is ∙ ap next s.state)) (happens (drew g c state state_is s))

pub chosen_more : (n k : ℕ) → chosen n (k + 1) ≡ turn (k + 1) (chosen n k)
unfolding chosen
chosen_more n k =
    let e : k + 1 ≡ suc k = omega arith in
    ap (λ m. chosen n m) e ∙ ap (λ m. turn m (chosen n k)) (sym e)
