-- What the run that a restart run stands for has for one event.
use Rattle.std.proofs.Common.{◌≡◌, ℕ, ◌<◌, Bool, true, false, List, [], ◌∷◌, ◌++◌, length, refl, sym, ap, ◌∙◌, subst, arith, if◌then◌else◌}
use Rattle.std.specs.Prelude.{Option, Some, None, Ok, Err, slice_get, slice_set, slice_index_or}
use Rattle.std.specs.List.{range_with_len}
use Rattle.std.specs.Option.{option_map_or}
use Rattle.std.proofs.lemmas.List.{append-nil, set-get_or}
use Rattle.std.proofs.lemmas.Option.{slice_get_within}
use Rattle.wire_msg.specs.declared.actor.Actor.{Actor}
use Rattle.wire_msg.specs.declared.actor.Actor.TheVariants as to
use Rattle.wire_msg.specs.declared.message.Message.{Message}
use Rattle.wire_msg.specs.declared.outputs.Post.{Post}
use Rattle.wire_msg.specs.Outputs.{Step}
use Rattle.replica_core.specs.Rule as replica
use Rattle.replica_journal.specs.Stopped.{is_kept, stopped}
use Rattle.run_marks.specs.declared.mark.Mark.{Mark}
use Rattle.world_core.specs.declared.event.Event.{Event}
use Rattle.world_core.specs.declared.event.Event.TheVariants.{Start, Deliver, StopReplica, StopProxy, GiveUp, Publish}
use Rattle.world_core.specs.declared.event.StepFault.{StepFault}
use Rattle.world_core.specs.declared.event.StepFault.TheVariants.{NoActor, NoMessage}
use Rattle.world_core.specs.State.{Replica, Store, no_replica, replica_at}
use Rattle.world_core.specs.Step.{Happening, Outcome, nothing, with_sent, with_replica, deliver_to, step}
use Rattle.world_core.specs.Run.{Run, ran, after_marks, store_after}
use Rattle.schedule_text.specs.declared.kept_event.KeptEvent.{KeptEvent}
use Rattle.schedule_text.specs.declared.kept_event.KeptEvent.TheVariants.{Event as Happens, Crash}
use Rattle.register_law.proofs.Basics.{sent_behind}
use Rattle.register_law.proofs.Happened.{happened}
use Rattle.restart_law.specs.Unlimited as free
use Rattle.restart_law.specs.Unlimited.{unlimited_step, unlimited_run}
use Rattle.restart_law.specs.Restart.{crash_at, restart_step}
use Rattle.restart_law.specs.Renumbered.{delivery, keeps, renumbered, events_for}
use Rattle.restart_law.proofs.Taken.{taken_too}
use Rattle.restart_law.proofs.Numbers.{IsNumbered, sent_alone, sent_by_both, number_stays, message_stays}
use Rattle.restart_law.proofs.Moved.{with_messages, moved, moved_happening, step_moved, delivery_moved}

-- the run leaves these marks, and goes on as the other one
pub record Continues (whole : Run) (marks : List Mark) (rest : Run) : Type 0 where
  pub store : whole.store ≡ rest.store
  pub marks_are : whole.marks ≡ marks ++ rest.marks
  pub refused : whole.refused ≡ rest.refused

-- an event was taken in the restart run; the run that it stands for goes on likewise, whatever is sent later
pub record Steps (event : KeptEvent) (s : Store) (all : List Post) (numbers : List ℕ) (h : Happening) : Type 0 where
  pub more : List ℕ
  pub posts : List Post
  pub grown : List Post
  pub sent : h.store.sent ≡ s.sent ++ posts
  pub numbered : IsNumbered (numbers ++ more) h.store.sent grown
  pub runs : (tail : List Post) (later : List ℕ) (rest : List Event)
      → Continues (unlimited_run (events_for (s.sent ++ tail) (numbers ++ later) event ++ rest) (with_messages s all)) h.marks (unlimited_run rest (with_messages h.store grown))

one_event : (event : Event) (rest : List Event) (t next : Store) (g : Happening) (marks : List Mark) → unlimited_step t event ≡ Ok g → g.marks ≡ marks → g.store ≡ next
    → Continues (unlimited_run (event ∷ rest) t) marks (unlimited_run rest next)
unfolding unlimited_run
one_event event rest t next g marks is left at =
    let whole : ran t (unlimited_step t event) (unlimited_run rest (store_after t (unlimited_step t event))) ≡ after_marks g.marks (unlimited_run rest g.store) =
    ap (λ (o : Outcome). ran t o (unlimited_run rest (store_after t o))) is in
    record {
      store = ap (λ (r : Run). r.store) whole ∙ ap (λ (x : Store). (unlimited_run rest x).store) at;
      marks_are = ap (λ (r : Run). r.marks) whole ∙ ap (λ (x : Store). g.marks ++ (unlimited_run rest x).marks) at ∙ ap (λ (ms : List Mark). ms ++ (unlimited_run rest next).marks) left;
      refused = ap (λ (r : Run). r.refused) whole ∙ ap (λ (x : Store). (unlimited_run rest x).refused) at;
    }

no_event : (rest : List Event) (t next : Store) → t ≡ next → Continues (unlimited_run rest t) [] (unlimited_run rest next)
no_event rest t next same = record {
  store = ap (λ (x : Store). (unlimited_run rest x).store) same;
  marks_are = ap (λ (x : Store). (unlimited_run rest x).marks) same;
  refused = ap (λ (x : Store). (unlimited_run rest x).refused) same;
}

ok_is : (g h : Happening) (o : Outcome) → o ≡ Ok g → o ≡ Ok h → h ≡ g
ok_is g h o is e = cc

refused_not : (X : Type 0) (fault : StepFault) (o : Outcome) (h : Happening) → o ≡ Err fault → o ≡ Ok h → X
refused_not X fault o h is e = absurd (cc)

module _ (s : Store) (all : List Post) (numbers : List ℕ) (is : IsNumbered numbers s.sent all) where
  abbrev t : Store
  t = with_messages s all

  -- an event that both take, though its message may have another number
  both_take : (event other : Event) (h : Happening) → ((later : List ℕ) → renumbered (numbers ++ later) event ≡ other) → step s event ≡ Ok h
      → unlimited_step t other ≡ moved all (unlimited_step s event) → Steps (Happens event) s all numbers h
  both_take event other h named e same =
      let behind : h.store.sent ≡ s.sent ++ h.posts = sent_behind s h (happened s event h e) in
      let taken : unlimited_step t other ≡ Ok (moved_happening all h) = same ∙ ap (moved all) (taken_too s event h e) in
      record {
        more = range_with_len (length all) (length h.posts);
        posts = h.posts;
        grown = all ++ h.posts;
        sent = behind;
        numbered = subst (λ (xs : List Post). IsNumbered (numbers ++ range_with_len (length all) (length h.posts)) xs (all ++ h.posts)) (sym behind) (sent_by_both numbers s.sent all h.posts is);
        runs = λ tail later rest.
            subst (λ (x : Event). Continues (unlimited_run (x ∷ rest) t) h.marks (unlimited_run rest (with_messages h.store (all ++ h.posts)))) (sym (named later))
            (one_event other rest t (with_messages h.store (all ++ h.posts)) (moved_happening all h) h.marks taken refl refl);
      }

  -- a message of the restart run, and where it stands
  within : (n : ℕ) (post : Post) → slice_get s.sent n ≡ Some post → n < length numbers
  within n post there = let lt = slice_get_within s.sent n post there in let count = is.count in omega (arith, lt, count)

  stands : (n : ℕ) (post : Post) → slice_get s.sent n ≡ Some post → slice_get all (slice_index_or numbers n 0) ≡ Some post
  stands n post there = is.same n (within n post there) ∙ there

  named_so : (n : ℕ) (post : Post) (later : List ℕ) → slice_get s.sent n ≡ Some post → delivery (numbers ++ later) n ≡ delivery numbers n
  named_so n post later there = ap Deliver (number_stays numbers later n (within n post there))

  delivered : (n : ℕ) (h : Happening) (o : Option Post) → slice_get s.sent n ≡ o → step s (Deliver n) ≡ Ok h → Steps (Happens (Deliver n)) s all numbers h
  unfolding step
  delivered n h None there e =
      refused_not (Steps (Happens (Deliver n)) s all numbers h) (NoMessage (length s.sent)) (step s (Deliver n)) h
      (ap (λ (o : Option Post). option_map_or (λ (post : Post). deliver_to s post.to post.message) o (Err (NoMessage (length s.sent)))) there) e
  delivered n h (Some post) there e =
      both_take (Deliver n) (delivery numbers n) h (λ later. named_so n post later there) e (delivery_moved s all n (slice_index_or numbers n 0) post there (stands n post there))

  happens : (event : Event) (h : Happening) → step s event ≡ Ok h → Steps (Happens event) s all numbers h
  happens (Start p key work) h e = both_take (Start p key work) (Start p key work) h (λ later. refl) e (step_moved s all (Start p key work) (λ n e. cc))
  happens (Deliver n) h e = delivered n h (slice_get s.sent n) refl e
  happens (StopReplica d) h e = both_take (StopReplica d) (StopReplica d) h (λ later. refl) e (step_moved s all (StopReplica d) (λ n e. cc))
  happens (StopProxy p) h e = both_take (StopProxy p) (StopProxy p) h (λ later. refl) e (step_moved s all (StopProxy p) (λ n e. cc))
  happens (GiveUp p seq) h e = both_take (GiveUp p seq) (GiveUp p seq) h (λ later. refl) e (step_moved s all (GiveUp p seq) (λ n e. cc))
  happens (Publish table) h e = both_take (Publish table) (Publish table) h (λ later. refl) e (step_moved s all (Publish table) (λ n e. cc))

  -- ---- crashes

  keeps_so : (n call : ℕ) (new : Bool) (post : Post) (tail : List Post) → slice_get s.sent n ≡ Some post → keeps (s.sent ++ tail) n call new ≡ is_kept post.message call new
  keeps_so n call new post tail there =
      ap (λ (o : Option Post). option_map_or (λ (p : Post). is_kept p.message call new) o false) (message_stays s.sent tail n (slice_get_within s.sent n post there) ∙ there)

  -- the message was kept: the run delivers it
  kept : (n call : ℕ) (new : Bool) (post : Post) (h g : Happening) → slice_get s.sent n ≡ Some post → is_kept post.message call new ≡ true
      → unlimited_step s (Deliver n) ≡ Ok g → g.marks ≡ [] → h.marks ≡ [] → h.store.sent ≡ s.sent → with_messages g.store (all ++ g.posts) ≡ with_messages h.store (all ++ g.posts)
      → Steps (Crash n call new) s all numbers h
  kept n call new post h g there has_it takes quiet none same actors =
      let m : ℕ = slice_index_or numbers n 0 in
      let taken : unlimited_step t (Deliver m) ≡ Ok (moved_happening all g) = delivery_moved s all n m post there (stands n post there) ∙ ap (moved all) takes in
      record {
        more = [];
        posts = [];
        grown = all ++ g.posts;
        sent = same ∙ sym (append-nil s.sent);
        numbered = subst (λ (ns : List ℕ). IsNumbered ns h.store.sent (all ++ g.posts)) (sym (append-nil numbers))
            (subst (λ (xs : List Post). IsNumbered numbers xs (all ++ g.posts)) (sym same) (sent_alone numbers s.sent all g.posts is));
        runs = λ tail later rest.
            let has : events_for (s.sent ++ tail) (numbers ++ later) (Crash n call new) ≡ Deliver m ∷ [] =
            ap (λ (b : Bool). if b then delivery (numbers ++ later) n ∷ [] else []) (keeps_so n call new post tail there ∙ has_it) ∙ ap (λ (x : Event). x ∷ []) (named_so n post later there) in
            subst (λ (es : List Event). Continues (unlimited_run (es ++ rest) t) h.marks (unlimited_run rest (with_messages h.store (all ++ g.posts)))) (sym has)
            (one_event (Deliver m) rest t (with_messages h.store (all ++ g.posts)) (moved_happening all g) h.marks taken (quiet ∙ sym none) actors);
      }

  -- it was lost: the run has nothing for the crash
  lost : (n call : ℕ) (new : Bool) (post : Post) (h : Happening) → slice_get s.sent n ≡ Some post → is_kept post.message call new ≡ false
      → h.marks ≡ [] → h.store.sent ≡ s.sent → t ≡ with_messages h.store all → Steps (Crash n call new) s all numbers h
  lost n call new post h there lacks none same actors = record {
    more = [];
    posts = [];
    grown = all;
    sent = same ∙ sym (append-nil s.sent);
    numbered = subst (λ (ns : List ℕ). IsNumbered ns h.store.sent all) (sym (append-nil numbers)) (subst (λ (xs : List Post). IsNumbered numbers xs all) (sym same) is);
    runs = λ tail later rest.
        let has : events_for (s.sent ++ tail) (numbers ++ later) (Crash n call new) ≡ [] =
        ap (λ (b : Bool). if b then delivery (numbers ++ later) n ∷ [] else []) (keeps_so n call new post tail there ∙ lacks) in
        subst (λ (es : List Event). Continues (unlimited_run (es ++ rest) t) h.marks (unlimited_run rest (with_messages h.store all))) (sym has)
        (subst (λ (ms : List Mark). Continues (unlimited_run rest t) ms (unlimited_run rest (with_messages h.store all))) (sym none) (no_event rest t (with_messages h.store all) actors));
  }

  -- a replica that stands as it stood
  seat : (d : ℕ) → (replica_at s d).stopped ≡ false → slice_set s.replicas d (record { stopped = false; state = (replica_at s d).state }) ≡ s.replicas
  seat d runs =
      ap (λ (b : Bool). let r : Replica = record { stopped = b; state = (replica_at s d).state } in slice_set s.replicas d r) (sym runs) ∙ set-get_or s.replicas d no_replica

  replica_delivers : (n d : ℕ) (message : Message) (b : Bool) → slice_get s.sent n ≡ Some (record { to = to.Replica d; message = message }) → (replica_at s d).stopped ≡ b
      → unlimited_step s (Deliver n) ≡ (if b then nothing s else free.replica_takes s d (replica.step (replica_at s d).state message))
  unfolding unlimited_step
  replica_delivers n d message b there stops =
      ap (λ (o : Option Post). option_map_or (λ (p : Post). free.deliver_to s p.to p.message) o (Err (NoMessage (length s.sent)))) there
      ∙ ap (λ (x : Bool). if x then nothing s else free.replica_takes s d (replica.step (replica_at s d).state message)) stops

  abbrev crashed : ℕ → Message → ℕ → Bool → Happening
  crashed d message call new = record { store = with_replica s d (record { stopped = false; state = stopped (replica_at s d).state message call new }); marks = []; posts = [] }

  abbrev quietly : Happening
  quietly = record { store = s; marks = []; posts = [] }

  abbrev post_to : ℕ → Message → Post
  post_to d message = record { to = to.Replica d; message = message }

  -- the replica is stopped, and takes nothing
  while_stopped : (n d call : ℕ) (new : Bool) (message : Message) (k : Bool) → slice_get s.sent n ≡ Some (post_to d message) → (replica_at s d).stopped ≡ true
      → is_kept message call new ≡ k → Steps (Crash n call new) s all numbers quietly
  while_stopped n d call new message true there stops has_it =
      kept n call new (post_to d message) quietly quietly there has_it (replica_delivers n d message true there stops) refl refl refl refl
  while_stopped n d call new message false there stops lacks = lost n call new (post_to d message) quietly there lacks refl refl refl

  abbrev state_by : ℕ → Message → Bool → replica.State
  state_by d message k = if k then (replica.step (replica_at s d).state message).state else (replica_at s d).state

  -- it runs
  while_running : (n d call : ℕ) (new : Bool) (message : Message) (k : Bool) → slice_get s.sent n ≡ Some (post_to d message) → (replica_at s d).stopped ≡ false
      → is_kept message call new ≡ k → Steps (Crash n call new) s all numbers (crashed d message call new)
  while_running n d call new message true there runs has_it =
      let st : (Step replica.State) = replica.step (replica_at s d).state message in
      let g : Happening = with_sent (with_replica s d (record { stopped = false; state = st.state })) st.out.posts [] in
      kept n call new (post_to d message) (crashed d message call new) g there has_it (replica_delivers n d message false there runs) refl refl refl
      (ap (λ (b : Bool). with_messages (with_replica s d (record { stopped = false; state = state_by d message b })) (all ++ st.out.posts)) (sym has_it))
  while_running n d call new message false there runs lacks =
      lost n call new (post_to d message) (crashed d message call new) there lacks refl refl
      (ap (λ (rs : List Replica). let x : Store = record { replicas = rs; proxies = s.proxies; directory = s.directory; sent = all } in x) (sym (seat d runs))
      ∙ ap (λ (b : Bool). with_messages (with_replica s d (record { stopped = false; state = state_by d message b })) all) (sym lacks))

  crashed_at : (n call : ℕ) (new : Bool) (a : Actor) (message : Message) (h : Happening) → slice_get s.sent n ≡ Some (record { to = a; message = message })
      → crash_at s a message call new ≡ Ok h → Steps (Crash n call new) s all numbers h
  crashed_at n call new (to.Replica d) message h there e = by (replica_at s d).stopped refl e
    where
      by : (b : Bool) → (replica_at s d).stopped ≡ b → (if b then nothing s else nothing (with_replica s d (record { stopped = false; state = stopped (replica_at s d).state message call new }))) ≡ Ok h → Steps (Crash n call new) s all numbers h
      by true stops e =
          subst (Steps (Crash n call new) s all numbers) (sym (ok_is quietly h (nothing s) refl e)) (while_stopped n d call new message (is_kept message call new) there stops refl)
      by false runs e =
          subst (Steps (Crash n call new) s all numbers) (sym (ok_is (crashed d message call new) h _ refl e)) (while_running n d call new message (is_kept message call new) there runs refl)
  crashed_at n call new to.Directory message h there e = refused_not (Steps (Crash n call new) s all numbers h) NoActor (Err NoActor) h refl e
  crashed_at n call new (to.Proxy p) message h there e = refused_not (Steps (Crash n call new) s all numbers h) NoActor (Err NoActor) h refl e

  crashes : (n call : ℕ) (new : Bool) (h : Happening) (o : Option Post) → slice_get s.sent n ≡ o
      → option_map_or (λ (post : Post). crash_at s post.to post.message call new) o (Err (NoMessage (length s.sent))) ≡ Ok h → Steps (Crash n call new) s all numbers h
  crashes n call new h None there e = refused_not (Steps (Crash n call new) s all numbers h) (NoMessage (length s.sent)) (Err (NoMessage (length s.sent))) h refl e
  crashes n call new h (Some post) there e = crashed_at n call new post.to post.message h there e

  pub steps : (event : KeptEvent) (h : Happening) → restart_step s event ≡ Ok h → Steps event s all numbers h
  unfolding restart_step
  steps (Happens event) h e = happens event h e
  steps (Crash n call new) h e = crashes n call new h (slice_get s.sent n) refl e
