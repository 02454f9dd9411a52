-- Every event keeps the invariant, so it holds after every run, and each strong key is that of one register.
use Rattle.std.proofs.Common.{◌≡◌, List, [], ◌∷◌, refl, Ok, Err, ◌++◌, sym, ◌∙◌, subst, true}
use Rattle.register_law.proofs.Words.{KeyId, Store, Happening, Eventual, Happened, StoredBy, Ghost, noted_of, Inv, GoingOn, MayHappen, MayRun, Run, ran, run, store_after, Outcome, step, Event, going_on, history, noted, noted_by, IsStrongKey, IsHeader, run_of, opening, Header, EndsAreBacked, first_ghost, MessagesAreBacked, history_of, Mark, append-nil, append_assoc}
use Rattle.wire_msg.specs.declared.message.Message.TheVariants as m
use Rattle.run_marks.specs.Register.{IsRegisterOrder}
use Rattle.register_order.specs.Order.{order_of}
use Rattle.register_order.proofs.FromMarks.{marks_take_effect}
use Rattle.world_core.specs.Laws.{RegistersAreKept}
use Rattle.register_law.proofs.FloorsMet.{reads_are_above, asks_are_above}
use Rattle.register_law.proofs.CallsStrong.{strong_kept}
use Rattle.register_law.proofs.CallsMessages.{repairs_known, stores_backed, one_store_kept, asks_ticketed}
use Rattle.register_law.proofs.CallsWrites.{NoEventual, ok_writes_kept, dead_writes_kept}
use Rattle.register_law.proofs.Happened.{happened}
use Rattle.register_law.proofs.TagsKept.{tags_kept}
use Rattle.register_law.proofs.RequestsKept.{requests_kept}
use Rattle.register_law.proofs.AnswersTold.{before_of}
use Rattle.register_law.proofs.AnswersPairs.{read_known_after, freeze_known_after, answers_kept}
use Rattle.register_law.proofs.ReplicasKept.{replicas_kept}
use Rattle.register_law.proofs.LegsKept.{floors_kept, legs_kept}
use Rattle.register_law.proofs.OpeningsTold.{keys_agree}
use Rattle.register_law.proofs.MovesKept.{moves_kept}
use Rattle.register_law.proofs.Basics.{sent_cases}
use Rattle.register_law.proofs.OpeningsKept.{openings_kept, seed_kept, here_kept, switch_kept, switched_kept}
use Rattle.register_law.proofs.EndsAnswered.{top_kept_after}
use Rattle.register_law.proofs.EndsReads.{confirms_kept, ok_reads_after}
use Rattle.register_law.proofs.EndsBegun.{numbered_after, begins_once_after, noted_after, begins_after}
use Rattle.register_law.proofs.EndsEnded.{ended_after, ends_once_after, begun_first_after, live_marked_after, top_greatest_after, tickets_after}
use Rattle.register_law.proofs.EndsKinds.{live_kinds_after}
use Rattle.register_law.proofs.OpeningHolds.{opening_holds}
use Rattle.register_law.proofs.MarksOfKey.{floor_of, marks_tell}

no_eventual : (key : KeyId) (s : Store) (g : Ghost) → Inv key s g → NoEventual key s
no_eventual key s g inv p handle call live same = inv.ends.live_kinds p handle (Eventual call) live same

-- ---- every event keeps the invariant, so it holds after every run

-- an event that is taken keeps it
abbrev pub Keeps : KeyId → (Store → Ghost → Type 0) → Type 0
Keeps key P = (s : Store) (g : Ghost) (e : Event) (h : Happening) → step s e ≡ Ok h → MayHappen s e → P s g → P h.store (noted_of key s h g)

one_more : (P : Store → Ghost → Type 0) (key : KeyId) (s : Store) (g : Ghost) (o : Outcome) (rest : Run) (last : Ghost) (more : Type 0)
    → ((h : Happening) → o ≡ Ok h → P h.store (noted_of key s h g)) → P s g
    → (more → P (store_after s o) (noted_by key s o g) → P rest.store last) → GoingOn o more
    → P (ran s o rest).store (going_on o g last)
one_more P key s g (Ok h) rest last more f p k m = k m (f h refl)
one_more P key s g (Err fault) rest last more f p k m = p

pub all_along : (P : Store → Ghost → Type 0) (key : KeyId) → Keeps key P → (events : List Event) (s : Store) (g : Ghost) → MayRun events s → P s g → P (run events s).store (history key events s g)
unfolding run history MayRun
all_along P key keeps [] s g m p = p
all_along P key keeps (e ∷ es) s g m p =
    one_more P key s g (step s e) (run es (store_after s (step s e))) (history key es (store_after s (step s e)) (noted key s e g)) (MayRun es (store_after s (step s e)))
    (λ h is. keeps s g e h is m.0 p) p (λ more q. all_along P key keeps es (store_after s (step s e)) (noted key s e g) more q) m.1

messages_after : (key : KeyId) (s : Store) (g : Ghost) (h : Happening) → Happened s h → Inv key s g → MessagesAreBacked key h.store (noted_of key s h g)
messages_after key s g h is o = record {
  repair_known = repairs_known key s g h is o;
  seed_known = λ tag epoch stamp value sent. seed_kept key s g h o is tag epoch stamp value (sent_cases s h (m.Seed tag key epoch stamp value) is sent);
  confirm_kept = confirms_kept key s g h is o;
  read_known = read_known_after key s g h is o;
  freeze_known = freeze_known_after key s g h is o;
  store_sent = stores_backed key s g h is o (asks_are_above key s g o);
  one_store = one_store_kept key s g h is o;
  ask_sent = asks_ticketed key s g h is o;
  here_opened = λ tag epoch policy newest newest_policy sent. here_kept key s g h o is tag epoch policy newest newest_policy (sent_cases s h (m.Here tag key epoch policy newest newest_policy) is sent);
  switch_sent = λ tag old new sent. switch_kept key s g h o is tag old new (sent_cases s h (m.Switch tag key old new) is sent);
  switched_opened = λ tag old new epoch switch told. switched_kept key s g h o is tag old new epoch (sent_cases s h (m.Switch tag key old new) is switch) (sent_cases s h (m.Switched tag key true epoch) is told);
}

ends_after : (key : KeyId) (s : Store) (g : Ghost) (h : Happening) → Happened s h → Inv key s g → EndsAreBacked key h.store (noted_of key s h g)
ends_after key s g h is o = record {
  begun_floor = floors_kept key s g h o is;
  top_kept = top_kept_after key s g h is o;
  ok_reads = ok_reads_after key s g h is o (reads_are_above key s g o);
  ok_writes = ok_writes_kept key s g h is o (no_eventual key s g o);
  dead_writes = dead_writes_kept key s g h is o (no_eventual key s g o);
  ended = ended_after key s g h is o;
  begins = begins_after key s g h is o;
  begins_once = begins_once_after key s g h is o;
  begun_first = begun_first_after key s g h is o;
  ends_once = ends_once_after key s g h is o;
  marks_numbered = numbered_after key s g h is o;
  top_greatest = top_greatest_after key s g h is o;
  tickets = tickets_after s h g.marks is o.ends.tickets;
  live_kinds = live_kinds_after key s g h is o;
  live_marked = live_marked_after key s g h is o;
  noted = noted_after key s g h is o;
}

pub inv_after : (key : KeyId) (s : Store) (g : Ghost) (h : Happening) → Happened s h → Inv key s g → Inv key h.store (noted_of key s h g)
inv_after key s g h is o = record {
  tags = tags_kept s h is o.tags;
  requests = requests_kept key s g h is (before_of key s g o);
  strong = strong_kept key s g h is o (λ p at asked st. o.tags.view_keys p at st.exists st.known) (reads_are_above key s g o);
  moves = moves_kept key s g h o is;
  messages = messages_after key s g h is o;
  keys = keys_agree key s g h o is;
  replicas = replicas_kept key s g h is o;
  answers = answers_kept key s g h is o;
  legs = legs_kept key s g h o is;
  openings = openings_kept key s g h o is;
  ends = ends_after key s g h is o;
}

pub every_event_keeps : (key : KeyId) → Keeps key (Inv key)
every_event_keeps key s g e h taken may o = inv_after key s g h (happened s e h taken) o

-- of every run from the state that a header opens
pub holds_at_end : (header : Header) (key : KeyId) (events : List Event) → IsHeader header → IsStrongKey header key.0 → MayRun events (opening header) → Inv key (run_of header events).store (history key events (opening header) first_ghost)
holds_at_end header key events h k may = all_along (Inv key) key (every_event_keeps key) events (opening header) first_ghost may (opening_holds header key h k)

-- ---- the history of each strong key is that of one register, after every run

marks_more : (key : KeyId) (s : Store) (g : Ghost) (o : Outcome) (rest : Run) (last : Ghost) → last.marks ≡ (noted_by key s o g).marks ++ rest.marks → (going_on o g last).marks ≡ g.marks ++ (ran s o rest).marks
marks_more key s g (Ok h) rest last is = is ∙ append_assoc g.marks h.marks rest.marks
marks_more key s g (Err fault) rest last is = sym (append-nil g.marks)

-- what was noted has the run's marks
pub marks_noted : (key : KeyId) (events : List Event) (s : Store) (g : Ghost) → (history key events s g).marks ≡ g.marks ++ (run events s).marks
unfolding run history
marks_noted key [] s g = sym (append-nil g.marks)
marks_noted key (e ∷ es) s g =
    marks_more key s g (step s e) (run es (store_after s (step s e))) (history key es (store_after s (step s e)) (noted key s e g)) (marks_noted key es (store_after s (step s e)) (noted key s e g))

-- the calls of the key take effect as those of a register
pub key_is_register : (header : Header) (key : KeyId) (events : List Event) → IsHeader header → IsStrongKey header key.0 → MayRun events (opening header) → IsRegisterOrder (history_of key.0 (run_of header events).marks)
key_is_register header key events h k may =
    let g : Ghost = history key events (opening header) first_ghost in
    let inv : Inv key (run_of header events).store (history key events (opening header) first_ghost) = holds_at_end header key events h k may in
    let order : IsRegisterOrder (history_of key.0 (history key events (opening header) first_ghost).marks) = (
      order_of (history_of key.0 (history key events (opening header) first_ghost).marks),
      marks_take_effect (history_of key.0 (history key events (opening header) first_ghost).marks) (StoredBy key (run_of header events).store) (floor_of (history key events (opening header) first_ghost))
          (marks_tell key (run_of header events).store (history key events (opening header) first_ghost) inv),
    ) in
    subst (λ (marks : List Mark). IsRegisterOrder (history_of key.0 marks)) (marks_noted key events (opening header) first_ghost) order

pub registers : RegistersAreKept
registers header events h may key k = let at : KeyId = record { 0 = key } in key_is_register header at events h k may
