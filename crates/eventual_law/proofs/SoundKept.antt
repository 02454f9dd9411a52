-- Every event keeps it that each published policy of an eventual key is a sound one.
use Rattle.std.proofs.Common.{◌≡◌, ◌⊎◌, inl, inr, ℕ, ◌+◌, ◌-◌, ◌<◌, ◌≤◌, Bool, true, false, List, [], ◌∷◌, refl, sym, ap, ◌∙◌, subst, arith}
use Rattle.std.specs.Prelude.{◌==◌, not, nat_lt, if◌then◌else◌, length, find, option_map, unwrap_or, slice_get, slice_index_or, Option, Some, None, Ok, Err}
use Rattle.std.specs.Option.{option_map_or}
use Rattle.std.proofs.lemmas.Bool.{cases_lt, eqb-true}
use Rattle.std.proofs.lemmas.List.{get_or_past, length_push}
use Rattle.std.proofs.lemmas.List.Elements.{All-contains}
use Rattle.span_base.specs.Policy.{IsSoundPolicy}
use Rattle.span_base.specs.declared.ids.KeyId.{KeyId}
use Rattle.span_base.specs.declared.ids.SetId.{SetId}
use Rattle.span_base.specs.declared.policy.Policy.{Policy}
use Rattle.span_base.specs.declared.policy.Policy.TheVariants.{Direct, Relay, Strong}
use Rattle.span_base.specs.declared.words.What.TheVariants.{Epochs}
use Rattle.wire_msg.specs.declared.actor.Actor.{Actor}
use Rattle.wire_msg.specs.declared.actor.Actor.TheVariants as to
use Rattle.wire_msg.specs.declared.message.Message.{Message}
use Rattle.wire_msg.specs.declared.message.Message.TheVariants as m
use Rattle.run_marks.specs.declared.mark.Work.{Work}
use Rattle.run_marks.specs.declared.mark.Mark.TheVariants as k
use Rattle.replica_core.specs.Rule as replica
use Rattle.epoch_directory.specs.declared.table.SetPolicy.{SetPolicy}
use Rattle.epoch_directory.specs.declared.table.PublishFault.{PublishFault}
use Rattle.epoch_directory.specs.declared.table.PublishFault.TheVariants as fault
use Rattle.epoch_directory.specs.State.{State, latest, table_in, policy_in, set_of, set_count, is_strong, is_strong_set, no_policy, HasSameMode}
use Rattle.epoch_directory.specs.Step.{can_switch, with_current}
use Rattle.epoch_directory.specs.Step as directory_step
use Rattle.epoch_directory.specs.Tables.{IsNextTable, is_line_of, policy_after, table_after, after_publish, table_fault}
use Rattle.slot_pool.specs.Slots.{item_at}
use Rattle.world_core.specs.declared.event.Event.{Event}
use Rattle.world_core.specs.declared.event.Event.TheVariants.{Start, Deliver, StopReplica, StopProxy, GiveUp, Publish}
use Rattle.world_core.specs.declared.event.Header.{Header}
use Rattle.world_core.specs.declared.event.StepFault.TheVariants.{NoActor, NoKey, WrongMode, NoMessage, NoCall, Limit}
use Rattle.world_core.specs.State.{Store, Proxy, opening, proxy_at, replica_at, policy_of}
use Rattle.world_core.specs.Starting.{Done, starts}
use Rattle.world_core.specs.Step.{Happening, Outcome, nothing, with_proxy, with_replica, proxy_did, is_strong_key, fits_mode, start_at, start, proxy_takes, deliver_to, handle_of_call, may_give_up, gives_up, give_up_under, give_up, opens_none, judged, publish, step}
use Rattle.world_core.specs.Run.{IsHeader, MayHappen}
use Rattle.register_law.specs.Ghost.{Ghost}
use Rattle.register_law.specs.Cases.{Happened}
use Rattle.register_law.proofs.Growth.{policy_stays}
use Rattle.register_law.proofs.Opening.{policy_is}
use Rattle.span_base.proofs.Sets.{count-no_centre}
use Rattle.eventual_law.specs.Keys.{IsEventualKey}
use Rattle.eventual_law.specs.Held.{InvOfEventual}
use Rattle.eventual_law.specs.Quiet.{IsSoundEventual, MovesGoOn}
use Rattle.eventual_law.proofs.GreatestStep.{Makes, either_makes, makes_or, sends_makes}
use Rattle.std.proofs.lemmas.List.FromFn.{get_or-map-range_with_len}
use Rattle.eventual_law.proofs.Lists.{found_in}
use Rattle.register_law.proofs.OpeningsCurrent.{last_is}

-- the tables stay, or one is published
abbrev Tables : Store → Event → Store → Type 0
Tables s e z = (z.directory.tables ≡ s.directory.tables) ⊎ ((table : List SetPolicy) × (e ≡ Publish table) × (z.directory ≡ after_publish s.directory table))

start_tables : (s : Store) (e : Event) (p at : ℕ) (work : Work) → Makes (Tables s e) (start s p at work)
start_tables s e p at work =
    let on : KeyId = record { 0 = at } in
    let done : Done Proxy = starts (is_strong_key s on) p (proxy_at s p) on work in
    let all : Outcome = proxy_did s p done in
    let mode : Outcome = if not (fits_mode (is_strong_key s on) work) then Err WrongMode else all in
    let whole : Outcome = start_at s p on work in
    either_makes (Tables s e) (not (nat_lt p (length s.proxies))) (Err NoActor) (if (proxy_at s p).stopped then nothing s else whole) (λ _. tt)
    (λ _. either_makes (Tables s e) (proxy_at s p).stopped (nothing s) whole (λ _. inl refl)
    (λ _. either_makes (Tables s e) (not (nat_lt at (length s.directory.sets))) (Err NoKey) mode (λ _. tt)
    (λ _. either_makes (Tables s e) (not (fits_mode (is_strong_key s on) work)) (Err WrongMode) all (λ _. tt)
    (λ _. sends_makes (Tables s e) (with_proxy s p done.actor) done.posts done.marks (inl refl)))))

switched_tables : (state : State) (b : Bool) (key : KeyId) (epoch : ℕ) → (if b then with_current state key epoch else state).tables ≡ state.tables
switched_tables state true key epoch = refl
switched_tables state false key epoch = refl

taken_tables : (state : State) (message : Message) → (directory_step.step state message).state.tables ≡ state.tables
taken_tables state (m.Switch tag key old new) = switched_tables state (can_switch state key old new) key new
taken_tables state message = refl

deliver_tables : (s : Store) (e : Event) (a : Actor) (message : Message) → Makes (Tables s e) (deliver_to s a message)
deliver_tables s e (to.Replica d) message =
    let new = replica.step (replica_at s d).state message in
    either_makes (Tables s e) (replica_at s d).stopped (nothing s) _ (λ _. inl refl) (λ _. sends_makes (Tables s e) (with_replica s d (record { stopped = false; state = new.state })) new.out.posts [] (inl refl))
deliver_tables s e to.Directory message =
    let new = directory_step.step s.directory message in
    sends_makes (Tables s e) (record s { directory = new.state }) new.out.posts [] (inl (taken_tables s.directory message))
deliver_tables s e (to.Proxy p) message =
    let done : Done Proxy = proxy_takes (proxy_at s p) message in
    either_makes (Tables s e) (proxy_at s p).stopped (nothing s) (proxy_did s p done) (λ _. inl refl) (λ _. sends_makes (Tables s e) (with_proxy s p done.actor) done.posts done.marks (inl refl))

give_up_tables : (s : Store) (e : Event) (p seq : ℕ) → Makes (Tables s e) (give_up s p seq)
give_up_tables s e p seq =
    let at : Outcome = option_map_or (give_up_under s p) (handle_of_call (proxy_at s p).calls seq) (Err NoCall) in
    either_makes (Tables s e) (not (nat_lt p (length s.proxies))) (Err NoActor) (if (proxy_at s p).stopped then nothing s else at) (λ _. tt)
    (λ _. either_makes (Tables s e) (proxy_at s p).stopped (nothing s) at (λ _. inl refl)
    (λ _. makes_or (Tables s e) (give_up_under s p) (handle_of_call (proxy_at s p).calls seq) NoCall
    (λ handle _. makes_or (Tables s e) (gives_up s p handle) (item_at (proxy_at s p).calls handle) NoCall
    (λ call _. either_makes (Tables s e) (may_give_up call) _ (Err NoCall) (λ _. inl refl) (λ _. tt)))))

none_tables : (s : Store) (e : Event) (wrong : PublishFault) → Makes (Tables s e) (opens_none s wrong)
none_tables s e (fault.MissingSet set) = inl refl
none_tables s e (fault.NotQuorum set) = inl refl
none_tables s e _ = inl refl

publish_tables : (s : Store) (table : List SetPolicy) → Makes (Tables s (Publish table)) (publish s table)
publish_tables s table =
    either_makes (Tables s (Publish table)) (latest s.directory == 1000) (Err (Limit Epochs 1001)) (judged s table) (λ _. tt) (λ _. by (table_fault s.directory table))
  where
    by : (o : Option PublishFault) → Makes (Tables s (Publish table))
        (option_map_or (opens_none s) o (Ok (record { store = record s { directory = after_publish s.directory table }; marks = k.Epoch (latest s.directory + 1) ∷ []; posts = [] })))
    by None = inr (table, refl, refl)
    by (Some wrong) = none_tables s (Publish table) wrong

event_tables : (s : Store) (e : Event) → Makes (Tables s e) (step s e)
unfolding step
event_tables s (Start p at work) = start_tables s (Start p at work) p at work
event_tables s (Deliver n) = makes_or (Tables s (Deliver n)) (λ post. deliver_to s post.to post.message) (slice_get s.sent n) (NoMessage (length s.sent)) (λ post _. deliver_tables s (Deliver n) post.to post.message)
event_tables s (StopReplica d) = either_makes (Tables s (StopReplica d)) (not (nat_lt d (length s.replicas))) (Err NoActor) (nothing (with_replica s d (record { stopped = true; state = (replica_at s d).state }))) (λ _. tt) (λ _. inl refl)
event_tables s (StopProxy p) = either_makes (Tables s (StopProxy p)) (not (nat_lt p (length s.proxies))) (Err NoActor) (nothing (with_proxy s p (record (proxy_at s p) { stopped = true }))) (λ _. tt) (λ _. inl refl)
event_tables s (GiveUp p seq) = give_up_tables s (GiveUp p seq) p seq
event_tables s (Publish table) = publish_tables s table

tables_after : (s : Store) (e : Event) (h : Happening) → step s e ≡ Ok h → Tables s e h.store
tables_after s e h is = subst (Makes (Tables s e)) is (event_tables s e)

-- a policy of the mode of one that isn't strong isn't strong
same_mode : (one other : Policy) → is_strong one ≡ false → HasSameMode one other → is_strong other ≡ false
same_mode (Direct f replicas primary) (Direct g others near) h same = refl
same_mode (Direct f replicas primary) (Relay g others near hops) h same = absurd same
same_mode (Direct f replicas primary) (Strong g others quorums) h same = absurd same
same_mode (Relay f replicas primary parent) (Direct g others near) h same = absurd same
same_mode (Relay f replicas primary parent) (Relay g others near hops) h same = refl
same_mode (Relay f replicas primary parent) (Strong g others quorums) h same = absurd same
same_mode (Strong f replicas members) other h same = absurd (cc)

-- the policy that a table gives an eventual set
listed_sound : (state : State) (table : List SetPolicy) (set : ℕ) → IsNextTable state table → is_strong_set state set ≡ false → IsSoundEventual (policy_in state (latest state) set) → (o : Option SetPolicy) → find (is_line_of set) table ≡ o → IsSoundEventual (unwrap_or (option_map (λ (line : SetPolicy). line.policy) o) (policy_in state (latest state) set))
listed_sound state table set next not_strong was None is = was
listed_sound state table set next not_strong was (Some line) is =
    let from = found_in (is_line_of set) table line is in
    let at : line.set.0 ≡ set = eqb-true line.set.0 set from.1 in
    let sound = All-contains (λ (x : SetPolicy). is_strong_set state x.set.0 ≡ false → IsSoundPolicy x.policy) table line next.sound from.0 in
    let mode = All-contains (λ (x : SetPolicy). HasSameMode (policy_in state 1 x.set.0) x.policy) table line next.modes from.0 in
    let same : is_strong_set state line.set.0 ≡ false = ap (is_strong_set state) at ∙ not_strong in
    record { sound = sound same; eventual = same_mode (policy_in state 1 line.set.0) line.policy same mode }

-- a set that there isn't has the policy that stands for none
set_there : (state : State) (set : ℕ) → IsSoundEventual (policy_in state 1 set) → set < set_count state
set_there state set h = by (cases_lt set (set_count state))
  where
    no_sound : IsSoundEventual no_policy → ⊥
    no_sound x = let some = x.sound.enough in let none = count-no_centre in omega arith

    by : (set < set_count state) ⊎ (set_count state ≤ set) → set < set_count state
    by (inl lt) = lt
    by (inr past) =
        let none : policy_in state 1 set ≡ no_policy = get_or_past (table_in state 1) set no_policy past in
        absurd (no_sound (subst IsSoundEventual none h))

new_sound : (state : State) (table : List SetPolicy) (set : ℕ) → IsNextTable state table → is_strong_set state set ≡ false → IsSoundEventual (policy_in state 1 set) → IsSoundEventual (policy_in state (latest state) set) → IsSoundEventual (policy_in (after_publish state table) (latest state + 1) set)
new_sound state table set next not_strong first was =
    let there = set_there state set first in
    let sound : IsSoundEventual (policy_after state table set) = listed_sound state table set next not_strong was (find (is_line_of set) table) refl in
    let table_is : table_in (after_publish state table) (latest state + 1) ≡ table_after state table = last_is state.tables (table_after state table) [] (latest state + 1 - 1) (omega arith) in
    let new_is : slice_index_or (table_after state table) set no_policy ≡ policy_after state table set = get_or-map-range_with_len (policy_after state table) 0 (set_count state) set set no_policy there (omega arith) in
    subst IsSoundEventual (sym (ap (λ (x : List Policy). slice_index_or x set no_policy) table_is ∙ new_is)) sound

pub sound_kept : (key : KeyId) (s : Store) (g : Ghost) (e : Event) (h : Happening) → step s e ≡ Ok h → MayHappen s e → Happened s h → InvOfEventual key s g → MovesGoOn key s g → (n : ℕ) → 1 ≤ n → n ≤ latest h.store.directory → IsSoundEventual (policy_of h.store key n)
sound_kept key s g e h taken may is inv go n first last = by (tables_after s e h taken)
  where
    old : n ≤ latest s.directory → IsSoundEventual (policy_of h.store key n)
    old le = subst IsSoundEventual (sym (policy_stays key s h is n first le)) (go.sound n first le)

    by : Tables s e h.store → IsSoundEventual (policy_of h.store key n)
    by (inl same) = old (let len : latest h.store.directory ≡ latest s.directory = ap (λ (x : List (List Policy)). length x) same in omega arith)
    by (inr new) =
        let next : IsNextTable s.directory new.0 = subst (MayHappen s) new.1 may in
        let some = inv.known.kinds.published in
        let set : ℕ = set_of s.directory key in
        let now : IsSoundEventual (policy_in (after_publish s.directory new.0) (latest s.directory + 1) set) =
        new_sound s.directory new.0 set next inv.known.kinds.eventual (go.sound 1 (omega arith) some) (go.sound (latest s.directory) some (omega arith)) in
        elim (cases_lt (latest s.directory) n) as (λ _. IsSoundEventual (policy_of h.store key n)) [
          | inl beyond ↦
              (let len : latest h.store.directory ≡ latest s.directory + 1 = ap latest new.2 ∙ length_push s.directory.tables (table_after s.directory new.0) in
              let at : n ≡ latest s.directory + 1 = omega arith in
              subst (λ i. IsSoundEventual (policy_of h.store key i)) (sym at) (subst (λ (x : State). IsSoundEventual (policy_in x (latest s.directory + 1) (set_of x key))) (sym new.2) now))
          | inr within ↦ old within
        ]

-- at the opening
pub sound_first : (header : Header) (key : KeyId) → IsHeader header → IsEventualKey header key.0 → IsSoundEventual (policy_of (opening header) key 1)
sound_first header key h e = subst IsSoundEventual (sym (policy_is header key)) (record { sound = h.policies (slice_index_or header.keys key.0 none).0 no_policy (h.key_sets key.0 none e.exists); eventual = e.eventual })
  where
    none : SetId
    none = record { 0 = 0 }
