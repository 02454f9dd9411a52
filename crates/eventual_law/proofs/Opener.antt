-- The move that opened the current epoch of an eventual key is the one whose Switch was done last.
use Rattle.std.proofs.Common.{◌≡◌, ◌⊎◌, inl, inr, ℕ, ◌<◌, Bool, true, false, List, [], ◌∷◌, zero, suc, refl, sym, ap, ◌∙◌, subst, arith, ◌≢◌}
use Rattle.std.specs.Prelude.{◌+◌, ◌==◌, ◌&&◌, not, nat_lt, if◌then◌else◌, length, slice_set, slice_index, slice_get, Option, Some, None, Ok, Err}
use Rattle.std.specs.Option.{option_map_or}
use Rattle.std.proofs.lemmas.Bool.{eq-eqb, eqb-true, eqb-false}
use Rattle.std.proofs.lemmas.Option.{slice_get_within, get_or_from_slice_get}
use Rattle.span_base.specs.declared.ids.Call.{Call}
use Rattle.span_base.specs.declared.ids.KeyId.{KeyId}
use Rattle.span_base.specs.declared.words.What.TheVariants.{Epochs}
use Rattle.wire_msg.specs.declared.tag.Tag.{Tag}
use Rattle.wire_msg.specs.declared.actor.Actor.{Actor}
use Rattle.wire_msg.specs.declared.actor.Actor.TheVariants as to
use Rattle.wire_msg.specs.declared.message.Message.{Message}
use Rattle.wire_msg.specs.declared.message.Message.TheVariants as m
use Rattle.wire_msg.specs.declared.outputs.Post.{Post}
use Rattle.run_marks.specs.declared.mark.Work.{Work}
use Rattle.run_marks.specs.declared.mark.Mark.TheVariants as k
use Rattle.replica_core.specs.Rule as replica
use Rattle.epoch_directory.specs.declared.table.SetPolicy.{SetPolicy}
use Rattle.epoch_directory.specs.declared.table.PublishFault.{PublishFault}
use Rattle.epoch_directory.specs.declared.table.PublishFault.TheVariants as fault
use Rattle.epoch_directory.specs.State.{State, latest, current_of}
use Rattle.epoch_directory.specs.Step.{can_switch, after_switch}
use Rattle.epoch_directory.specs.Step as directory_step
use Rattle.epoch_directory.specs.Tables.{after_publish, table_fault}
use Rattle.slot_pool.specs.Slots.{item_at}
use Rattle.world_core.specs.declared.event.Event.{Event}
use Rattle.world_core.specs.declared.event.Event.TheVariants.{Start, Deliver, StopReplica, StopProxy, GiveUp, Publish}
use Rattle.world_core.specs.declared.event.StepFault.TheVariants.{NoActor, NoKey, WrongMode, NoMessage, NoCall, Limit}
use Rattle.world_core.specs.State.{Store, proxy_at, replica_at}
use Rattle.world_core.specs.Starting.{Done, starts}
use Rattle.world_core.specs.State as world
use Rattle.world_core.specs.Step.{Happening, Outcome, nothing, with_proxy, with_replica, proxy_did, is_strong_key, fits_mode, start_at, start, proxy_takes, deliver_to, handle_of_call, may_give_up, gives_up, give_up_under, give_up, opens_none, judged, publish, step}
use Rattle.world_core.specs.Run.{Run, run, ran, store_after, MayRun, GoingOn}
use Rattle.register_law.specs.Ghost.{Ghost, noted, noted_by, opened_after, history, going_on}
use Rattle.register_law.specs.Seen.{WasSent}
use Rattle.register_law.specs.Ends.{IsNewest}
use Rattle.register_law.specs.Cases.{Happened}
use Rattle.register_law.proofs.Basics.{key_is}
use Rattle.register_law.proofs.Happened.{happened}
use Rattle.register_law.proofs.OpeningsCurrent.{CanSwitch, can_is, done_is_current}
use Rattle.register_law.proofs.TagsSent.{was_sent_stays}
use Rattle.eventual_law.specs.Opened.{opener, opener_then, switched_by, switched_at, switched_in}
use Rattle.eventual_law.specs.Held.{IsOpener, InvOfEventual}
use Rattle.eventual_law.proofs.GreatestStep.{Makes, either_makes, makes_or, sends_makes}
use Rattle.eventual_law.proofs.HeldRun.{inv_kept}

-- a Switch of the key was done in an event
pub record IsDone (key : KeyId) (s : Store) (next : Option Call) (z : Store) : Type 0 where
  pub tag : Tag
  pub old : ℕ
  pub new : ℕ
  pub sent : WasSent s (m.Switch tag key old new)
  pub can : CanSwitch s.directory key old new
  pub now : current_of z.directory key ≡ new
  pub by : next ≡ Some tag.call

-- the current epoch stays, and so does who opened it; or a Switch was done
abbrev pub Opens : KeyId → Store → Option Call → Option Call → Store → Type 0
Opens key s last next z = ((current_of z.directory key ≡ current_of s.directory key) × (next ≡ last)) ⊎ IsDone key s next z

-- in another place of a list nothing changes
other_place : (xs : List ℕ) (i j y : ℕ) → i ≢ j → slice_index (slice_set xs i y) j ≡ slice_index xs j
other_place [] i j y h = refl
other_place (x ∷ xs) zero zero y h = absurd (h refl)
other_place (x ∷ xs) zero (suc j) y h = refl
other_place (x ∷ xs) (suc i) zero y h = refl
other_place (x ∷ xs) (suc i) (suc j) y h = other_place xs i j y (λ e. h (ap suc e))

-- the directory takes a Switch
at_switch : (key : KeyId) (s : Store) (last : Option Call) (tag : Tag) (at : KeyId) (old new : ℕ) → key.0 < length s.directory.current → WasSent s (m.Switch tag at old new) → (z : Store) → z.directory ≡ after_switch s.directory at old new → Opens key s last (switched_by key s (m.Switch tag at old new) last) z
at_switch key s last tag at old new exists sent z is = by (at.0 == key.0) refl (can_switch s.directory at old new) refl
  where
    by : (same : Bool) → (at.0 == key.0) ≡ same → (can : Bool) → can_switch s.directory at old new ≡ can → Opens key s last (if same && can then Some tag.call else last) z
    by false e can c = inl (ap (λ (x : State). current_of x key) is ∙ other can c, refl)
      where
        other : (b : Bool) → can_switch s.directory at old new ≡ b → current_of (after_switch s.directory at old new) key ≡ current_of s.directory key
        other true d = rw d (other_place s.directory.current at.0 key.0 new (eqb-false at.0 key.0 e))
        other false d = rw d refl
    by true e false c = inl (ap (λ (x : State). current_of x key) is ∙ (rw c refl), refl)
    by true e true c =
        let one : at ≡ key = key_is at key e in
        let can : can_switch s.directory key old new ≡ true = subst (λ (x : KeyId). can_switch s.directory x old new ≡ true) one c in
        inr (record {
          tag = tag;
          old = old;
          new = new;
          sent = subst (λ (x : KeyId). WasSent s (m.Switch tag x old new)) one sent;
          can = can_is s.directory key old new can;
          now = ap (λ (x : State). current_of x key) (is ∙ ap (λ (x : KeyId). after_switch s.directory x old new) one) ∙ done_is_current s.directory key old new exists can;
          by = refl;
        })

to_directory : (key : KeyId) (s : Store) (last : Option Call) (message : Message) → key.0 < length s.directory.current → WasSent s message → (z : Store) → z.directory ≡ (directory_step.step s.directory message).state → Opens key s last (switched_by key s message last) z
to_directory key s last (m.Switch tag at old new) exists sent z is = at_switch key s last tag at old new exists sent z is
to_directory key s last message exists sent z is = inl (ap (λ (x : State). current_of x key) is, refl)

-- nothing is switched
still : (key : KeyId) (s : Store) (last : Option Call) → Opens key s last last s
still key s last = inl (refl, refl)

start_opens : (key : KeyId) (s : Store) (last : Option Call) (p at : ℕ) (work : Work) → Makes (Opens key s last last) (start s p at work)
start_opens key s last p at work =
    let on : KeyId = record { 0 = at } in
    let done : Done world.Proxy = starts (is_strong_key s on) p (proxy_at s p) on work in
    let all : Outcome = proxy_did s p done in
    let mode : Outcome = if not (fits_mode (is_strong_key s on) work) then Err WrongMode else all in
    let whole : Outcome = start_at s p on work in
    either_makes (Opens key s last last) (not (nat_lt p (length s.proxies))) (Err NoActor) (if (proxy_at s p).stopped then nothing s else whole) (λ _. tt)
    (λ _. either_makes (Opens key s last last) (proxy_at s p).stopped (nothing s) whole (λ _. still key s last)
    (λ _. either_makes (Opens key s last last) (not (nat_lt at (length s.directory.sets))) (Err NoKey) mode (λ _. tt)
    (λ _. either_makes (Opens key s last last) (not (fits_mode (is_strong_key s on) work)) (Err WrongMode) all (λ _. tt)
    (λ _. sends_makes (Opens key s last last) (with_proxy s p done.actor) done.posts done.marks (inl (refl, refl))))))

deliver_opens : (key : KeyId) (s : Store) (last : Option Call) (a : Actor) (message : Message) → key.0 < length s.directory.current → WasSent s message → Makes (Opens key s last (switched_at key s a message last)) (deliver_to s a message)
deliver_opens key s last (to.Replica d) message exists sent =
    let new = replica.step (replica_at s d).state message in
    either_makes (Opens key s last last) (replica_at s d).stopped (nothing s) _ (λ _. still key s last)
    (λ _. sends_makes (Opens key s last last) (with_replica s d (record { stopped = false; state = new.state })) new.out.posts [] (inl (refl, refl)))
deliver_opens key s last to.Directory message exists sent =
    let new = directory_step.step s.directory message in
    sends_makes (Opens key s last (switched_by key s message last)) (record s { directory = new.state }) new.out.posts [] (to_directory key s last message exists sent _ refl)
deliver_opens key s last (to.Proxy p) message exists sent =
    let done : Done world.Proxy = proxy_takes (proxy_at s p) message in
    either_makes (Opens key s last last) (proxy_at s p).stopped (nothing s) (proxy_did s p done) (λ _. still key s last)
    (λ _. sends_makes (Opens key s last last) (with_proxy s p done.actor) done.posts done.marks (inl (refl, refl)))

delivered_opens : (key : KeyId) (s : Store) (last : Option Call) (n : ℕ) (o : Option Post) → key.0 < length s.directory.current → slice_get s.sent n ≡ o
    → Makes (Opens key s last (option_map_or (λ post. switched_at key s post.to post.message last) o last)) (option_map_or (λ post. deliver_to s post.to post.message) o (Err (NoMessage (length s.sent))))
delivered_opens key s last n None exists is = tt
delivered_opens key s last n (Some post) exists is = deliver_opens key s last post.to post.message exists (post.to, (n, slice_get_within s.sent n post is, get_or_from_slice_get s.sent n post post is))

give_up_opens : (key : KeyId) (s : Store) (last : Option Call) (p seq : ℕ) → Makes (Opens key s last last) (give_up s p seq)
give_up_opens key s last p seq =
    let at : Outcome = option_map_or (give_up_under s p) (handle_of_call (proxy_at s p).calls seq) (Err NoCall) in
    either_makes (Opens key s last last) (not (nat_lt p (length s.proxies))) (Err NoActor) (if (proxy_at s p).stopped then nothing s else at) (λ _. tt)
    (λ _. either_makes (Opens key s last last) (proxy_at s p).stopped (nothing s) at (λ _. still key s last)
    (λ _. makes_or (Opens key s last last) (give_up_under s p) (handle_of_call (proxy_at s p).calls seq) NoCall
    (λ handle _. makes_or (Opens key s last last) (gives_up s p handle) (item_at (proxy_at s p).calls handle) NoCall
    (λ call _. either_makes (Opens key s last last) (may_give_up call) _ (Err NoCall) (λ _. inl (refl, refl)) (λ _. tt)))))

none_opens : (key : KeyId) (s : Store) (last : Option Call) (wrong : PublishFault) → Makes (Opens key s last last) (opens_none s wrong)
none_opens key s last (fault.MissingSet set) = still key s last
none_opens key s last (fault.NotQuorum set) = still key s last
none_opens key s last _ = still key s last

publish_opens : (key : KeyId) (s : Store) (last : Option Call) (table : List SetPolicy) → Makes (Opens key s last last) (publish s table)
publish_opens key s last table =
    either_makes (Opens key s last last) (latest s.directory == 1000) (Err (Limit Epochs 1001)) (judged s table) (λ _. tt) (λ _. by (table_fault s.directory table))
  where
    by : (o : Option PublishFault) → Makes (Opens key s last last)
        (option_map_or (opens_none s) o (Ok (record { store = record s { directory = after_publish s.directory table }; marks = k.Epoch (latest s.directory + 1) ∷ []; posts = [] })))
    by None = inl (refl, refl)
    by (Some wrong) = none_opens key s last wrong

-- whatever the event
event_opens : (key : KeyId) (s : Store) (last : Option Call) (e : Event) → key.0 < length s.directory.current → Makes (Opens key s last (switched_in key s e last)) (step s e)
unfolding step
event_opens key s last (Start p at work) exists = start_opens key s last p at work
event_opens key s last (Deliver n) exists = delivered_opens key s last n (slice_get s.sent n) exists refl
event_opens key s last (StopReplica at) exists =
    either_makes (Opens key s last last) (not (nat_lt at (length s.replicas))) (Err NoActor) (nothing (with_replica s at (record { stopped = true; state = (replica_at s at).state }))) (λ _. tt) (λ _. inl (refl, refl))
event_opens key s last (StopProxy p) exists =
    either_makes (Opens key s last last) (not (nat_lt p (length s.proxies))) (Err NoActor) (nothing (with_proxy s p (record (proxy_at s p) { stopped = true }))) (λ _. tt) (λ _. inl (refl, refl))
event_opens key s last (GiveUp p seq) exists = give_up_opens key s last p seq
event_opens key s last (Publish table) exists = publish_opens key s last table

opener_stays : (key : KeyId) (s z : Store) (opened : List ℕ) (last : Option Call) → ((message : Message) → WasSent s message → WasSent z message) → IsOpener key s opened last → IsOpener key z opened last
opener_stays key s z [] last more was = was
opener_stays key s z (new ∷ []) None more was = was
opener_stays key s z (new ∷ []) (Some call) more was = was
opener_stays key s z (new ∷ old ∷ rest) None more was = was
opener_stays key s z (new ∷ old ∷ rest) (Some call) more was = (was.0, was.1, more (m.Switch was.0 key old new) was.2)

opens_first : (key : KeyId) (z : Store) (new old : ℕ) (opened : List ℕ) (tag : Tag) → IsNewest old opened → WasSent z (m.Switch tag key old new) → IsOpener key z (new ∷ opened) (Some tag.call)
opens_first key z new old [] tag newest sent = absurd newest
opens_first key z new old (e ∷ rest) tag newest sent = (tag, refl, subst (λ n. WasSent z (m.Switch tag key n new)) (sym newest) sent)

not_equal : (a b : ℕ) → a < b → (b == a) ≡ false
not_equal a b lt = by (b == a) refl
  where
    by : (t : Bool) → (b == a) ≡ t → t ≡ false
    by false e = refl
    by true e = absurd (let same = eqb-true b a e in omega arith)

opens_is : (key : KeyId) (s : Store) (g : Ghost) (h : Happening) (last next : Option Call) → Happened s h → InvOfEventual key s g → IsOpener key s g.opened last → Opens key s last next h.store → IsOpener key h.store (opened_after key s h.store g.opened) next
opens_is key s g h last next is inv was (inl same) =
    let test : (current_of h.store.directory key == current_of s.directory key) ≡ true = eq-eqb (current_of h.store.directory key) (current_of s.directory key) same.0 in
    rw test (subst (IsOpener key h.store g.opened) (sym same.1) (opener_stays key s h.store g.opened last (was_sent_stays s h is) was))
opens_is key s g h last next is inv was (inr done) =
    let current = done.can.current in
    let later = done.can.later in
    let now = done.now in
    let test : (current_of h.store.directory key == current_of s.directory key) ≡ false = not_equal (current_of s.directory key) (current_of h.store.directory key) (omega arith) in
    rw test
    (subst (λ n. IsOpener key h.store (n ∷ g.opened) next) (sym done.now)
    (subst (IsOpener key h.store (done.new ∷ g.opened)) (sym done.by)
    (opens_first key h.store done.new done.old g.opened done.tag (subst (λ n. IsNewest n g.opened) done.can.current inv.epochs.newest) (was_sent_stays s h is (m.Switch done.tag key done.old done.new) done.sent))))

one_more : (key : KeyId) (s : Store) (g : Ghost) (o : Outcome) (rest : Run) (end : Ghost) (last next more : Option Call) (going : Type 0) → Makes (Opens key s last next) o → ((h : Happening) → o ≡ Ok h → Happened s h) → InvOfEventual key s g → IsOpener key s g.opened last
    → (going → InvOfEventual key (store_after s o) (noted_by key s o g) → IsOpener key (store_after s o) (noted_by key s o g).opened next → IsOpener key rest.store end.opened more) → GoingOn o going
    → IsOpener key (ran s o rest).store (going_on o g end).opened (opener_then o last more)
one_more key s g (Ok h) rest end last next more going makes is inv was later go = later go (inv_kept key s g h (is h refl) inv) (opens_is key s g h last next (is h refl) inv was makes)
one_more key s g (Err fault) rest end last next more going makes is inv was later go = was

-- who opened the current epoch, along a run
pub opener_along : (key : KeyId) (events : List Event) (s : Store) (g : Ghost) (last : Option Call) → MayRun events s → InvOfEventual key s g → IsOpener key s g.opened last → IsOpener key (run events s).store (history key events s g).opened (opener key events s last)
unfolding run history opener MayRun
opener_along key [] s g last may inv was = was
opener_along key (e ∷ es) s g last may inv was =
    one_more key s g (step s e) (run es (store_after s (step s e))) (history key es (store_after s (step s e)) (noted key s e g)) last (switched_in key s e last) (opener key es (store_after s (step s e)) (switched_in key s e last)) (MayRun es (store_after s (step s e)))
    (event_opens key s last e inv.epochs.exists) (λ h is. happened s e h is) inv was
    (λ go next is. opener_along key es (store_after s (step s e)) (noted key s e g) (switched_in key s e last) go next is) may.1
