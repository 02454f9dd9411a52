-- What the marks of a key tell after every run.
use Rattle.std.proofs.Common.{◌≡◌, List, [], ◌∷◌, ◌++◌, refl, sym, ap, ◌∙◌, subst, arith, inl, inr, ℕ, ◌≤◌, true, Contains, ◌==◌, ◌&&◌, Option, Some, None}
use Rattle.register_law.proofs.Words.{Call, KeyId, IsAbove, IsAtMost, stamp_zero, Stamp, Reply, EndsWith, history_of, is_register_work, is_same_call, Mark, Work, Store, BegunAfter, IsReadOf, StoredBy, Begun, Ghost, answered_with, Inv, StoreBacked, Contains-append_right, Contains-append_left, some_passes, two_splits, and_left, and_right}
use Rattle.wire_msg.specs.declared.outputs.Reply.TheVariants as r
use Rattle.run_marks.specs.History.{begins_at, is_of, IsWriteOf, EndsBefore}
use Rattle.run_marks.specs.declared.mark.Work.TheVariants as w
use Rattle.run_marks.specs.declared.mark.Mark.TheVariants as k
use Rattle.register_order.specs.Agree.{BeginsOnce}
use Rattle.register_order.specs.Facts.{MarksTell}
use Rattle.register_order.proofs.Begins.{begins_as_one}
use Rattle.register_order.proofs.OfKey.{in_log, in_history, history_begins_once, history_begins_first, history_ends_once, ends_before_in_log, register_call_is_of}
use Rattle.register_order.proofs.Tests.{same_call}
use Rattle.register_order.proofs.Tickets.{numbered_above_zero}
use Rattle.register_law.proofs.Basics.{register_noted, key_is, some_begun, is_some_of}
use Rattle.std.proofs.lemmas.Option.{same_Some}

-- where an item of two lists stands
pub data Splits {X : Type 0} (a b e : List X) (x : X) (l : List X) : Type 0 where
  in_front : (m : List X) → a ≡ e ++ x ∷ m → l ≡ m ++ b → Splits a b e x l
  behind : (m : List X) → e ≡ a ++ m → b ≡ m ++ x ∷ l → Splits a b e x l

pub splits : {X : Type 0} → (a b e : List X) (x : X) (l : List X) → a ++ b ≡ e ++ x ∷ l → Splits a b e x l
splits {X} [] b e x l h = behind e refl h
splits {X} (y ∷ ys) b [] x l h =
    let first : y ≡ x = cc in
    let rest : ys ++ b ≡ l = cc in
    in_front ys (ap (λ (z : X). z ∷ ys) first) (sym rest)
splits {X} (y ∷ ys) b (z ∷ zs) x l h =
    let first : y ≡ z = cc in
    let rest : ys ++ b ≡ zs ++ x ∷ l = cc in
    more first (splits ys b zs x l rest)
  where
    more : y ≡ z → Splits ys b zs x l → Splits (y ∷ ys) b (z ∷ zs) x l
    more same (in_front m is back) = in_front m (ap (λ (v : X). v ∷ ys) same ∙ ap (λ (vs : List X). z ∷ vs) is) back
    more same (behind m is back) = behind m (ap (λ (vs : List X). z ∷ vs) is ∙ ap (λ (v : X). v ∷ (ys ++ m)) (sym same)) back

-- what stands between two lists is in them
pub in_between : {X : Type 0} → (xs e : List X) (x : X) (l : List X) → xs ≡ e ++ x ∷ l → Contains xs x
in_between {X} xs e x l h = subst (λ (v : List X). Contains v x) (sym h) (Contains-append_right e (x ∷ l) x (0, omega arith, refl))

-- ---- what the invariant tells of the marks of the key's calls

abbrev pub floor_by : Option Begun → Stamp
floor_by None = stamp_zero
floor_by (Some b) = b.floor

-- what was answered before a call of the key began
abbrev pub floor_of : Ghost → Call → Stamp
floor_of g call = floor_by (g.begun call)

-- a call that reads or writes the key, and what was noted of it
pub record IsOfKey (key : KeyId) (g : Ghost) (call : Call) : Type 0 where
  pub b : Begun
  pub begun : g.begun call ≡ Some b
  pub is : is_of key.0 g.marks call ≡ true

pub of_key : (key : KeyId) (s : Store) (g : Ghost) → Inv key s g → (call : Call) → is_of key.0 g.marks call ≡ true → IsOfKey key g call
of_key key s g inv call is = let some = some_passes (begins_at key.0 call) g.marks is in by some.0 some.1 some.2
  where
    by : (x : Mark) → Contains g.marks x → begins_at key.0 call x ≡ true → IsOfKey key g call
    by (k.Begin begun at work) c h =
        let same : call ≡ begun = same_call call begun (and_left (is_same_call call begun) (at.0 == key.0 && is_register_work work) h) in
        let two = and_right (is_same_call call begun) (at.0 == key.0 && is_register_work work) h in
        let there : at ≡ key = key_is at key (and_left (at.0 == key.0) (is_register_work work) two) in
        let marked : Contains g.marks (k.Begin call key work) = subst (λ (x : KeyId). Contains g.marks (k.Begin call x work)) there (subst (λ (x : Call). Contains g.marks (k.Begin x at work)) (sym same) c) in
        let b = some_begun (g.begun call) (inv.ends.noted call work marked (register_noted work (and_right (at.0 == key.0) (is_register_work work) two))) in
        record { b = b.0; begun = b.1; is = is }
    by mark c h = absurd (cc)

begins_once : (key : KeyId) (s : Store) (g : Ghost) → Inv key s g → BeginsOnce g.marks
begins_once key s g inv call at other work again earlier later split = inv.ends.begins_once call at work earlier later split other again

-- the begin of a call that is noted
begin_marked : (key : KeyId) (s : Store) (g : Ghost) → Inv key s g → (call : Call) (b : Begun) → g.begun call ≡ Some b → Contains g.marks (k.Begin call key b.work)
begin_marked key s g inv call b begun = let a : BegunAfter g call b key = inv.ends.begins call b begun in in_between g.marks a.earlier (k.Begin call key b.work) a.later a.split

pub same_fields : (a b : Call) → a.proxy ≡ b.proxy → a.seq ≡ b.seq → a ≡ b
same_fields a b p q = ap (λ n. let c : Call = record { proxy = n; seq = a.seq } in c) p ∙ ap (λ n. let c : Call = record { proxy = b.proxy; seq = n } in c) q

same_written : (v u : List ℕ) → w.Write v ≡ w.Write u → v ≡ u
same_written v u e = cc

-- what was stored is a write's, under a ticket of its own
pub record IsStored (key : KeyId) (s : Store) (g : Ghost) (call : Call) (stamp : Stamp) (value : List ℕ) : Type 0 where
  pub b : Begun
  pub begun : g.begun call ≡ Some b
  pub work : b.work ≡ w.Write value
  pub ticket : Contains g.marks (k.Ticket call stamp)
  pub drawn : (stamp.proxy ≡ call.proxy) × (stamp.seq ≡ call.seq) × (1 ≤ stamp.number)
  pub above : IsAbove stamp b.floor

pub is_stored : (key : KeyId) (s : Store) (g : Ghost) → Inv key s g → (call : Call) (stamp : Stamp) (value : List ℕ) → StoredBy key s call stamp value → IsStored key s g call stamp value
is_stored key s g inv call stamp value h =
    let x : StoreBacked g h.tag stamp value = inv.messages.store_sent h.tag stamp value h.sent in
    subst (λ (c : Call). IsStored key s g c stamp value) h.of (record {
      b = x.b;
      begun = x.begun;
      work = x.work;
      ticket = x.ticket;
      drawn = (x.drawn.proxy, x.drawn.seq, x.drawn.some);
      above = x.above;
    })

-- a write of the key
write_is_of : (key : KeyId) (s : Store) (g : Ghost) → Inv key s g → (call : Call) (b : Begun) (value : List ℕ) → g.begun call ≡ Some b → b.work ≡ w.Write value → Contains g.marks (k.Begin call key (w.Write value)) × (is_of key.0 g.marks call ≡ true)
write_is_of key s g inv call b value begun work =
    let marked : Contains g.marks (k.Begin call key (w.Write value)) = subst (λ (x : Work). Contains g.marks (k.Begin call key x)) work (begin_marked key s g inv call b begun) in
    (marked, register_call_is_of key.0 g.marks call key (w.Write value) refl refl marked)

stored_told : (key : KeyId) (s : Store) (g : Ghost) → Inv key s g → (call : Call) (stamp : Stamp) (value : List ℕ) → StoredBy key s call stamp value
    → IsWriteOf (history_of key.0 g.marks) call value × Contains (history_of key.0 g.marks) (k.Ticket call stamp) × IsAbove stamp stamp_zero × IsAbove stamp (floor_of g call)
stored_told key s g inv call stamp value h =
    let x = is_stored key s g inv call stamp value h in
    let m = write_is_of key s g inv call x.b value x.begun x.work in (
      (key, in_history key.0 g.marks (k.Begin call key (w.Write value)) m.1 m.0),
      in_history key.0 g.marks (k.Ticket call stamp) m.1 x.ticket,
      numbered_above_zero stamp x.drawn.2,
      subst (λ (o : Option Begun). IsAbove stamp (floor_by o)) (sym x.begun) x.above,
    )

-- the call of an end in the history is one of the key
ended_of : (key : KeyId) (s : Store) (g : Ghost) → Inv key s g → (call : Call) (reply : Reply) → EndsWith (history_of key.0 g.marks) call reply → IsOfKey key g call × EndsWith g.marks call reply
ended_of key s g inv call reply h = let l = in_log key.0 g.marks (k.End call reply) h in (of_key key s g inv call l.0, l.1)

reads_told : (key : KeyId) (s : Store) (g : Ghost) → Inv key s g → (call : Call) (stamp : Stamp) (value : List ℕ) → EndsWith (history_of key.0 g.marks) call (r.Value stamp value) → IsAtMost (floor_of g call) stamp × IsReadOf key s stamp value
reads_told key s g inv call stamp value h =
    let e = ended_of key s g inv call (r.Value stamp value) h in
    let ok = inv.ends.ok_reads call e.0.b stamp value e.0.begun e.1 in
    (subst (λ (o : Option Begun). IsAtMost (floor_by o) stamp) (sym e.0.begun) ok.1, ok.2)

write_gives_none : (key : KeyId) (s : Store) (g : Ghost) → Inv key s g → (call : Call) (value given : List ℕ) (stamp : Stamp) → IsWriteOf (history_of key.0 g.marks) call value → EndsWith (history_of key.0 g.marks) call (r.Value stamp given) → ⊥
write_gives_none key s g inv call value given stamp written h =
    let e = ended_of key s g inv call (r.Value stamp given) h in
    let ok = inv.ends.ok_reads call e.0.b stamp given e.0.begun e.1 in
    let read : Contains g.marks (k.Begin call key w.Read) = subst (λ (x : Work). Contains g.marks (k.Begin call key x)) ok.0 (begin_marked key s g inv call e.0.b e.0.begun) in
    let write : Contains g.marks (k.Begin call written.0 (w.Write value)) = (in_log key.0 g.marks (k.Begin call written.0 (w.Write value)) written.1).1 in
    let same = begins_as_one g.marks (begins_once key s g inv) call key written.0 w.Read (w.Write value) read write in
    cc

-- a begin stands in one place
one_place : (key : KeyId) (s : Store) (g : Ghost) → Inv key s g → (call : Call) (at other : KeyId) (work again : Work) (earlier later front back : List Mark) → g.marks ≡ earlier ++ k.Begin call at work ∷ later → g.marks ≡ front ++ k.Begin call other again ∷ back → earlier ≡ front
one_place key s g inv call at other work again earlier later front back one two =
    elim (two_splits earlier later front back (k.Begin call at work) (k.Begin call other again) (sym one ∙ two)) as (λ _. earlier ≡ front) [
      | inl h ↦ absurd ((inv.ends.begins_once call at work earlier later one other again).0 (in_between earlier front (k.Begin call other again) h.between h.is))
      | inr h ↦ elim h as (λ _. earlier ≡ front) [
        | inl same ↦ same
        | inr i ↦ absurd ((inv.ends.begins_once call other again front back two at work).0 (in_between front earlier (k.Begin call at work) i.between i.is))
      ]
    ]

-- an answer before a call began isn't above what the call's begin found
floor_told : (key : KeyId) (s : Store) (g : Ghost) → Inv key s g → (first second : Call) (reply : Reply) (stamp : Stamp) → EndsBefore (history_of key.0 g.marks) first second → EndsWith (history_of key.0 g.marks) first reply → answered_with reply ≡ Some stamp → IsAtMost stamp (floor_of g second)
floor_told key s g inv first second reply stamp before h answered =
    let e = ended_of key s g inv first reply h in
    let l : EndsBefore g.marks first second = ends_before_in_log key.0 g.marks first second before in
    let of_second = of_key key s g inv second (in_log key.0 g.marks (k.Begin second before.key before.work) (in_between (history_of key.0 g.marks) before.earlier (k.Begin second before.key before.work) before.later before.split)).0 in
    let a : BegunAfter g second of_second.b key = inv.ends.begins second of_second.b of_second.begun in
    let place : l.earlier ≡ a.earlier = one_place key s g inv second l.key key l.work of_second.b.work l.earlier l.later a.earlier a.later l.split a.split in
    let there : EndsWith g.marks first l.reply = subst (λ (x : List Mark). Contains x (k.End first l.reply)) (sym l.split) (Contains-append_left l.earlier (k.Begin second l.key l.work ∷ l.later) (k.End first l.reply) l.ended) in
    let same : l.reply ≡ reply = inv.ends.ends_once first l.reply reply there e.1 in
    subst (λ (o : Option Begun). IsAtMost stamp (floor_by o)) (sym of_second.begun)
    (a.floor first reply stamp (is_some_of (g.begun first) e.0.b e.0.begun) (subst (λ (x : Reply). Contains a.earlier (k.End first x)) same (subst (λ (x : List Mark). Contains x (k.End first l.reply)) place l.ended)) answered)

-- what the marks of the key's reads and writes tell
pub marks_tell : (key : KeyId) (s : Store) (g : Ghost) → Inv key s g → MarksTell (history_of key.0 g.marks) (StoredBy key s) (floor_of g)
marks_tell key s g inv = record {
  begins_once = history_begins_once key.0 g.marks (begins_once key s g inv);
  begun_first = history_begins_first key.0 g.marks inv.ends.begun_first;
  ends_once = history_ends_once key.0 g.marks inv.ends.ends_once;
  stored = stored_told key s g inv;
  stored_by = λ call other stamp v u a b.
      (let x = is_stored key s g inv call stamp v a in
      let y = is_stored key s g inv other stamp u b in
      same_fields call other (sym x.drawn.0 ∙ y.drawn.0) (sym x.drawn.1 ∙ y.drawn.1));
  tickets = λ call other stamp a b.
      (let x = inv.ends.tickets call stamp (in_log key.0 g.marks (k.Ticket call stamp) a).1 in
      let y = inv.ends.tickets other stamp (in_log key.0 g.marks (k.Ticket other stamp) b).1 in
      same_fields call other (sym x.0 ∙ y.0) (sym x.1 ∙ y.1));
  ticket_above = λ call stamp a. numbered_above_zero stamp (inv.ends.tickets call stamp (in_log key.0 g.marks (k.Ticket call stamp) a).1).2;
  stored_once = λ call one other v u a b.
      (let x = is_stored key s g inv call one v a in
      let y = is_stored key s g inv call other u b in
      let same : x.b ≡ y.b = same_Some x.b y.b (sym x.begun ∙ y.begun) in
      (inv.messages.one_store a.tag b.tag one other v u a.sent b.sent (a.of ∙ sym b.of), same_written v u (sym x.work ∙ ap (λ (c : Begun). c.work) same ∙ y.work)));
  reads = λ call stamp value h. reads_told key s g inv call stamp value h.ended;
  writes = λ call stamp h.
      (let e = ended_of key s g inv call (r.Stored stamp) h in
      let ok = inv.ends.ok_writes call e.0.b stamp e.0.begun e.1 in
      (ok.0, ok.2));
  write_gives_none = write_gives_none key s g inv;
  dead = λ call reply stamp value h is_it stored.
      (let e = ended_of key s g inv call reply h in
      inv.ends.dead_writes call reply stamp value (is_some_of (g.begun call) e.0.b e.0.begun) e.1 is_it stored);
  floors_read = λ first second stamp value before h. floor_told key s g inv first second (r.Value stamp value) stamp before h.ended refl;
  floors_written = λ first second stamp before h. floor_told key s g inv first second (r.Stored stamp) stamp before h refl;
}
