-- Each restart run stands for a run, so the history of each strong key in it is that of one register.
use Rattle.std.proofs.Common.{◌≡◌, ℕ, ◌+◌, suc, List, [], ◌∷◌, ◌++◌, take, refl, sym, ap, ◌∙◌, subst, arith}
use Rattle.std.specs.Prelude.{Option, Some, None, Ok, Err, slice_get, slice_index_or}
use Rattle.std.specs.List.{flat_map}
use Rattle.std.proofs.lemmas.List.{append-nil, append_assoc}
use Rattle.wire_msg.specs.declared.outputs.Post.{Post}
use Rattle.run_marks.specs.declared.mark.Mark.{Mark}
use Rattle.run_marks.specs.History.{history_of}
use Rattle.run_marks.specs.Register.{IsRegisterOrder}
use Rattle.world_core.specs.declared.event.Event.{Event}
use Rattle.world_core.specs.declared.event.StepFault.{StepFault}
use Rattle.world_core.specs.State.{Store, opening}
use Rattle.world_core.specs.Step.{Happening, Outcome}
use Rattle.world_core.specs.Run.{Run, ran, after_marks, store_after}
use Rattle.schedule_text.specs.declared.kept_event.KeptEvent.{KeptEvent}
use Rattle.restart_law.specs.Unlimited.{unlimited_run}
use Rattle.restart_law.specs.Restart.{restart_step, restart_run, restart_run_of}
use Rattle.restart_law.specs.Renumbered.{events_for, run_for}
use Rattle.restart_law.specs.Laws.{RestartRunsAreRuns, RestartRegistersAreKept}
use Rattle.restart_law.proofs.Registers.{unlimited_registers}
use Rattle.restart_law.proofs.Numbers.{IsNumbered, nothing_numbered}
use Rattle.restart_law.proofs.Moved.{with_messages}
use Rattle.restart_law.proofs.Stepping.{Continues, Steps, steps}

-- the events of the run for those that a restart run took
abbrev taken_for : Run → List ℕ → List KeptEvent → List Event
taken_for r numbers events = flat_map (events_for r.store.sent numbers) (take r.taken events)

-- a restart run of these events from one state, and the run that it stands for from the same state with more messages
record Goes (r : Run) (events : List KeptEvent) (s : Store) (all : List Post) (numbers : List ℕ) : Type 0 where
  pub more : List ℕ
  pub tail : List Post
  pub last : List Post
  pub sent : r.store.sent ≡ s.sent ++ tail
  pub numbered : IsNumbered (numbers ++ more) r.store.sent last
  pub unrefused : (unlimited_run (taken_for r (numbers ++ more) events) (with_messages s all)).refused ≡ None
  pub marks : (unlimited_run (taken_for r (numbers ++ more) events) (with_messages s all)).marks ≡ r.marks
  pub store : (unlimited_run (taken_for r (numbers ++ more) events) (with_messages s all)).store ≡ with_messages r.store last

abbrev ended : Store → Option StepFault → Run
ended s refused = record { store = s; marks = []; taken = 0; refused = refused }

-- a run that takes nothing more
ends_here : (events : List KeptEvent) (s : Store) (all : List Post) (numbers : List ℕ) (refused : Option StepFault) → IsNumbered numbers s.sent all → Goes (ended s refused) events s all numbers
unfolding unlimited_run
ends_here events s all numbers refused is = record {
  more = [];
  tail = [];
  last = all;
  sent = sym (append-nil s.sent);
  numbered = subst (λ (ns : List ℕ). IsNumbered ns s.sent all) (sym (append-nil numbers)) is;
  unrefused = refl;
  marks = refl;
  store = refl;
}

take_one : (event : KeptEvent) (events : List KeptEvent) (n : ℕ) → take (1 + n) (event ∷ events) ≡ event ∷ take n events
take_one event events n =
    let next : 1 + n ≡ suc n = omega arith in
    ap (λ (k : ℕ). take k (event ∷ events)) next

goes_on : (event : KeptEvent) (events : List KeptEvent) (s : Store) (all : List Post) (numbers : List ℕ) (h : Happening) (r : Run) (st : Steps event s all numbers h)
    → Goes r events h.store st.grown (numbers ++ st.more) → Goes (after_marks h.marks r) (event ∷ events) s all numbers
goes_on event events s all numbers h r st rest =
    let tail : List Post = st.posts ++ rest.tail in
    let more : List ℕ = st.more ++ rest.more in
    let joined : (numbers ++ st.more) ++ rest.more ≡ numbers ++ more = append_assoc numbers st.more rest.more in
    let behind : r.store.sent ≡ s.sent ++ tail = rest.sent ∙ ap (λ (xs : List Post). xs ++ rest.tail) st.sent ∙ append_assoc s.sent st.posts rest.tail in
    let others : List Event = taken_for r ((numbers ++ st.more) ++ rest.more) events in
    let has : taken_for (after_marks h.marks r) (numbers ++ more) (event ∷ events) ≡ events_for (s.sent ++ tail) (numbers ++ more) event ++ others =
    ap (flat_map (events_for r.store.sent (numbers ++ more))) (take_one event events r.taken)
    ∙ ap (λ (xs : List Post). events_for xs (numbers ++ more) event ++ flat_map (events_for r.store.sent (numbers ++ more)) (take r.taken events)) behind
    ∙ ap (λ (ns : List ℕ). events_for (s.sent ++ tail) (numbers ++ more) event ++ flat_map (events_for r.store.sent ns) (take r.taken events)) (sym joined) in
    let on : Continues (unlimited_run (events_for (s.sent ++ tail) (numbers ++ more) event ++ others) (with_messages s all)) h.marks (unlimited_run others (with_messages h.store st.grown)) = st.runs tail more others in
    record {
      more = more;
      tail = tail;
      last = rest.last;
      sent = behind;
      numbered = subst (λ (ns : List ℕ). IsNumbered ns r.store.sent rest.last) joined rest.numbered;
      unrefused = ap (λ (es : List Event). (unlimited_run es (with_messages s all)).refused) has ∙ on.refused ∙ rest.unrefused;
      marks = ap (λ (es : List Event). (unlimited_run es (with_messages s all)).marks) has ∙ on.marks_are ∙ ap (λ (ms : List Mark). h.marks ++ ms) rest.marks;
      store = ap (λ (es : List Event). (unlimited_run es (with_messages s all)).store) has ∙ on.store ∙ rest.store;
    }

goes : (events : List KeptEvent) (s : Store) (all : List Post) (numbers : List ℕ) → IsNumbered numbers s.sent all → Goes (restart_run events s) events s all numbers
unfolding restart_run
goes [] s all numbers is = ends_here [] s all numbers None is
goes (event ∷ events) s all numbers is = by (restart_step s event) refl (λ next more longer so. goes events next more longer so)
  where
    by : (o : Outcome) → restart_step s event ≡ o
        → ((next : Store) (more : List Post) (longer : List ℕ) → IsNumbered longer next.sent more → Goes (restart_run events next) events next more longer)
        → Goes (ran s o (restart_run events (store_after s o))) (event ∷ events) s all numbers
    by (Ok h) taken rest =
        let st : Steps event s all numbers h = steps s all numbers is event h taken in
        goes_on event events s all numbers h (restart_run events h.store) st (rest h.store st.grown (numbers ++ st.more) st.numbered)
    by (Err fault) taken rest = ends_here (event ∷ events) s all numbers (Some fault) is

pub stands_for : RestartRunsAreRuns
unfolding opening
stands_for header events =
    let g : Goes (restart_run events (opening header)) events (opening header) [] [] = goes events (opening header) [] [] nothing_numbered in (
      g.more,
      record {
        unrefused = g.unrefused;
        marks = g.marks;
        replicas = ap (λ (x : Store). x.replicas) g.store;
        proxies = ap (λ (x : Store). x.proxies) g.store;
        directory = ap (λ (x : Store). x.directory) g.store;
        all = g.numbered.count;
        rising = g.numbered.rising;
        messages = λ n lt. ap (λ (x : Store). slice_get x.sent (slice_index_or g.more n 0)) g.store ∙ g.numbered.same n lt;
      },
    )

pub restart_registers : RestartRegistersAreKept
restart_registers header events h key strong =
    let run = stands_for header events in
    let numbers : List ℕ = run.0 in
    let law : IsRegisterOrder (history_of key (run_for header events run.0).marks) =
    unlimited_registers header (flat_map (events_for (restart_run_of header events).store.sent run.0) (take (restart_run_of header events).taken events)) h key strong in
    subst (λ (ms : List Mark). IsRegisterOrder (history_of key ms)) run.1.marks law
