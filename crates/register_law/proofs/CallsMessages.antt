-- Every event keeps what Repairs, Stores and Asks of the key rest on.
use Rattle.std.proofs.Common.{◌≡◌, ◌⊎◌, inl, inr, ℕ, List, refl, sym, ap, ◌∙◌, subst, arith, Some, IsSome, Contains}
use Rattle.register_law.proofs.Words.{KeyId, IsAbove, Stamp, Message, Tag, counted, best_stamp, next_ticket, tag_after, Next, Enter, Repair, Leg, CallState, ToWrite, first_tag, ticket_of, proxy_at, Happening, Happened, next_call, Begun, Ghost, noted_of, Inv, HasTicket, IsWork, TicketOf, Grows, IsKnown, WasSent, IsTicketOf, StoreBacked, CallBacked, Contains-append_left, StrongWork as Work, StoreNext as Store, Store as World}
use Rattle.wire_msg.specs.declared.message.Message.TheVariants as m
use Rattle.strong_proxy.proofs.Endings.{progress_after-key}
use Rattle.run_marks.specs.declared.mark.Work.TheVariants as w
use Rattle.run_marks.specs.declared.mark.Mark.TheVariants as k
use Rattle.register_law.proofs.Basics.{WasPosted, sent_cases, some_begun}
use Rattle.register_law.proofs.MovesStable.{known_stays}
use Rattle.register_law.proofs.Next.{RestsOn, rests_on, EntersWith}
use Rattle.register_law.proofs.CallsGoes.{first_stores}
use Rattle.register_law.proofs.CallsStrong.{AskFloor, found_known, took_counted}
use Rattle.register_law.proofs.Growth.{grows_by}
use Rattle.register_law.proofs.CallsSent.{next_by, Demanded, plain, at_start, by_call, demanded, call_sends, sends_repair, SendsStore, sends_store, sends_ask}
use Rattle.register_law.proofs.CallsLive.{view_by, seen_by}
use Rattle.register_law.proofs.CallsStart.{start_view}

-- what a call does next at a message rests on this
pub rests_by : (s : World) (p : ℕ) (message : Message) (was : CallState) (next : Next) → next_by s p message was ≡ next
    → RestsOn (counted was message).progress.stage (counted was message).work (best_stamp (counted was message).best) (counted was message).progress (view_by s p message was) (seen_by s p message) next
rests_by s p message was next is = rests_on (counted was message) (view_by s p message was) (seen_by s p message) next is

pub repairs_known : (key : KeyId) (s : World) (g : Ghost) (h : Happening) → Happened s h → Inv key s g → (tag : Tag) (epoch : ℕ) (stamp : Stamp) (value : List ℕ) → WasSent h.store (m.Repair tag key epoch stamp value) → IsKnown key h.store stamp value
repairs_known key s g h is inv tag epoch stamp value sent = by (sent_cases s h (m.Repair tag key epoch stamp value) is sent)
  where
    new : WasPosted h (m.Repair tag key epoch stamp value) → Demanded s h (m.Repair tag key epoch stamp value) → IsKnown key s stamp value
    new c (plain x) = absurd x
    new c (at_start p at asked st e) = absurd (cc)
    new c (by_call p message was took counts posts) =
        let sends = sends_repair (counted was message) (next_by s p message was) tag key epoch stamp value
        (call_sends h (next_by s p message was) (counted was message) (m.Repair tag key epoch stamp value) posts c) in
        let r = rests_by s p message was Repair sends.next_is in
        let t = took_counted key s g h p message was is inv took (sym (progress_after-key was.progress message) ∙ sends.key_is) counts in
        let known = found_known key s g (counted was message) sends.found inv.messages t.event.backed t.asked t.event.at_key r.work_is r.stage_is sends.best_is in
        subst (λ (x : Stamp). IsKnown key s x value) sends.stamp_is (subst (λ (x : List ℕ). IsKnown key s sends.found.stamp x) sends.value_is known)

    by : WasSent s (m.Repair tag key epoch stamp value) ⊎ WasPosted h (m.Repair tag key epoch stamp value) → IsKnown key h.store stamp value
    by (inl old) = known_stays key s g h.store (noted_of key s h g) stamp value (grows_by key s g h is inv) (inv.messages.repair_known tag epoch stamp value old)
    by (inr c) = known_stays key s g h.store (noted_of key s h g) stamp value (grows_by key s g h is inv) (new c (demanded s h is (record { to = c.0; message = m.Repair tag key epoch stamp value }) c.1))

store_stays : (key : KeyId) (s : World) (g : Ghost) (h : Happening) (tag : Tag) (stamp : Stamp) (value : List ℕ) → Grows key s g h.store (noted_of key s h g) → StoreBacked g tag stamp value → StoreBacked (noted_of key s h g) tag stamp value
store_stays key s g h tag stamp value grows b = record {
  b = b.b;
  drawn = b.drawn;
  opened = grows.opened stamp.epoch b.opened;
  begun = grows.begun tag.call b.b b.begun;
  work = b.work;
  above = b.above;
  ticket = Contains-append_left g.marks h.marks (k.Ticket tag.call stamp) b.ticket;
}

pub write_work : (work : Work) (b : Begun) (value : List ℕ) → work ≡ ToWrite value → IsWork work b.work → b.work ≡ w.Write value
write_work work b value is h = subst (λ (x : Work). IsWork x b.work) is h

-- the Store of a write that has its grants
store_backed : (key : KeyId) (s : World) (g : Ghost) (h : Happening) (now : CallState) (value : List ℕ) → Grows key s g h.store (noted_of key s h g) → CallBacked key s g now → IsSome (g.begun now.progress.phase.tag.call) → now.work ≡ ToWrite value
    → ((b : Begun) → g.begun now.progress.phase.tag.call ≡ Some b → IsAbove now.progress.leg.ticket b.floor) → StoreBacked (noted_of key s h g) (tag_after now.progress) now.progress.leg.ticket value
store_backed key s g h now value grows b some work_is above =
    let t : TicketOf (ToWrite value) now.progress = subst (λ (w : Work). TicketOf w now.progress) work_is b.policy.ticket in
    let o = some_begun (g.begun now.progress.phase.tag.call) some in
    record {
      b = o.0;
      drawn = record { proxy = t.2; seq = t.3; some = t.1 };
      opened = grows.opened now.progress.leg.ticket.epoch (subst (λ (e : ℕ). Contains g.opened e) (sym t.0) b.policy.opened);
      begun = grows.begun now.progress.phase.tag.call o.0 o.1;
      work = write_work now.work o.0 value work_is (b.begun o.0 o.1);
      above = above o.0 o.1;
      ticket = Contains-append_left g.marks h.marks (k.Ticket now.progress.phase.tag.call now.progress.leg.ticket) ((subst (λ (w : Work). HasTicket w g.marks now.progress.phase.tag now.progress.leg.ticket) work_is b.ticket).noted);
    }

pub stores_backed : (key : KeyId) (s : World) (g : Ghost) (h : Happening) → Happened s h → Inv key s g → AskFloor key s g → (tag : Tag) (stamp : Stamp) (value : List ℕ) → WasSent h.store (m.Store tag key stamp value) → StoreBacked (noted_of key s h g) tag stamp value
stores_backed key s g h is inv floor tag stamp value sent = by (sent_cases s h (m.Store tag key stamp value) is sent)
  where
    new : WasPosted h (m.Store tag key stamp value) → Demanded s h (m.Store tag key stamp value) → StoreBacked (noted_of key s h g) tag stamp value
    new c (plain x) = absurd x
    new c (at_start p at asked st e) = absurd (cc)
    new c (by_call p message was took counts posts) =
        let sends = sends_store (counted was message) (next_by s p message was) tag key stamp value
        (call_sends h (next_by s p message was) (counted was message) (m.Store tag key stamp value) posts c) in
        let r = rests_by s p message was Store sends.next_is in
        let t = took_counted key s g h p message was is inv took (sym (progress_after-key was.progress message) ∙ sends.key_is) counts in
        let made = store_backed key s g h (counted was message) value t.event.grows t.event.backed t.event.some sends.work_is (λ b e. floor (counted was message) value b t.event.backed t.event.at_key sends.work_is r.stage_is r.quorum e) in
        subst (λ (x : Tag). StoreBacked (noted_of key s h g) x stamp value) sends.tag_is (subst (λ (x : Stamp). StoreBacked (noted_of key s h g) (tag_after (counted was message).progress) x value) sends.stamp_is made)

    by : WasSent s (m.Store tag key stamp value) ⊎ WasPosted h (m.Store tag key stamp value) → StoreBacked (noted_of key s h g) tag stamp value
    by (inl old) = store_stays key s g h tag stamp value (grows_by key s g h is inv) (inv.messages.store_sent tag stamp value old)
    by (inr c) = new c (demanded s h is (record { to = c.0; message = m.Store tag key stamp value }) c.1)

-- a Store that an event sends is its call's first one, and all that it sends have one stamp
pub record StoresNow (key : KeyId) (s : World) (h : Happening) (tag : Tag) (stamp : Stamp) : Type 0 where
  pub first : (other : Tag) (old : Stamp) (value : List ℕ) → WasSent s (m.Store other key old value) → other.call ≡ tag.call → ⊥
  pub alike : (other : Tag) (new : Stamp) (value : List ℕ) → WasPosted h (m.Store other key new value) → stamp ≡ new

pub stores_now : (key : KeyId) (s : World) (g : Ghost) (h : Happening) → Happened s h → Inv key s g → (tag : Tag) (stamp : Stamp) (value : List ℕ) → WasPosted h (m.Store tag key stamp value) → StoresNow key s h tag stamp
stores_now key s g h is inv tag stamp value c = new (demanded s h is (record { to = c.0; message = m.Store tag key stamp value }) c.1)
  where
    new : Demanded s h (m.Store tag key stamp value) → StoresNow key s h tag stamp
    new (plain x) = absurd x
    new (at_start p at asked st e) = absurd (cc)
    new (by_call p message was took counts posts) =
        let sends : SendsStore (counted was message) (next_by s p message was) tag key stamp value =
        sends_store (counted was message) (next_by s p message was) tag key stamp value (call_sends h (next_by s p message was) (counted was message) (m.Store tag key stamp value) posts c) in
        let r = rests_by s p message was Store sends.next_is in
        let t = took_counted key s g h p message was is inv took (sym (progress_after-key was.progress message) ∙ sends.key_is) counts in
        record {
          first = λ other old v was_sent own. first_stores (counted was message).work (counted was message).progress.stage (counted was message).progress.leg.ticket old r.stage_is
              (t.event.backed.store other old v was_sent (own ∙ ap (λ (x : Tag). x.call) (sym sends.tag_is)));
          alike = λ other also v d.
              (let z = sends_store (counted was message) (next_by s p message was) other key also v (call_sends h (next_by s p message was) (counted was message) (m.Store other key also v) posts d) in
              sym sends.stamp_is ∙ z.stamp_is);
        }

pub one_store_kept : (key : KeyId) (s : World) (g : Ghost) (h : Happening) → Happened s h → Inv key s g → (a b : Tag) (first second : Stamp) (v u : List ℕ) → WasSent h.store (m.Store a key first v) → WasSent h.store (m.Store b key second u) → a.call ≡ b.call → first ≡ second
one_store_kept key s g h is inv a b first second v u one other same =
    by (sent_cases s h (m.Store a key first v) is one) (sent_cases s h (m.Store b key second u) is other)
  where
    by : WasSent s (m.Store a key first v) ⊎ WasPosted h (m.Store a key first v)
        → WasSent s (m.Store b key second u) ⊎ WasPosted h (m.Store b key second u) → first ≡ second
    by (inl x) (inl y) = inv.messages.one_store a b first second v u x y same
    by (inl x) (inr y) = absurd ((stores_now key s g h is inv b second u y).first a first v x same)
    by (inr x) (inl y) = absurd ((stores_now key s g h is inv a first v x).first b second u y (sym same))
    by (inr x) (inr y) = (stores_now key s g h is inv a first v x).alike b second u y

pub asks_ticketed : (key : KeyId) (s : World) (g : Ghost) (h : Happening) → Happened s h → Inv key s g → (tag : Tag) (stamp : Stamp) → WasSent h.store (m.Ask tag key stamp) → IsTicketOf tag stamp
asks_ticketed key s g h is inv tag stamp sent = by (sent_cases s h (m.Ask tag key stamp) is sent)
  where
    new : WasPosted h (m.Ask tag key stamp) → Demanded s h (m.Ask tag key stamp) → IsTicketOf tag stamp
    new c (plain x) = absurd x
    new c (at_start p at asked st e) =
        let a : tag ≡ first_tag (next_call s p) st.handle = cc in
        let b : stamp ≡ ticket_of (proxy_at s p) (start_view s p at) (next_call s p) = cc in
        subst (λ (x : Tag). IsTicketOf x stamp) (sym a) (subst (λ (x : Stamp). IsTicketOf (first_tag (next_call s p) st.handle) x) (sym b) (record { proxy = refl; seq = refl; some = omega arith }))
    new c (by_call p message was took counts posts) =
        let sends = sends_ask (counted was message) (next_by s p message was) tag key stamp
        (call_sends h (next_by s p message was) (counted was message) (m.Ask tag key stamp) posts c) in
        let r = rests_by s p message was (Enter sends.leg) sends.next_is in
        let drawn = subst (λ (w : Work). EntersWith w r.ticket (view_by s p message was) (seen_by s p message) (counted was message).progress) sends.work_is r.ticket_is in
        let stamp_is : stamp ≡ next_ticket (view_by s p message was) (seen_by s p message) (counted was message).progress =
        sym sends.stamp_is ∙ ap (λ (l : Leg). l.ticket) r.leg_is ∙ drawn in
        subst (λ (x : Tag). IsTicketOf x stamp) sends.tag_is (subst (λ (x : Stamp). IsTicketOf (tag_after (counted was message).progress) x) (sym stamp_is) (record { proxy = refl; seq = refl; some = omega arith }))

    by : WasSent s (m.Ask tag key stamp) ⊎ WasPosted h (m.Ask tag key stamp) → IsTicketOf tag stamp
    by (inl old) = inv.messages.ask_sent tag stamp old
    by (inr c) = new c (demanded s h is (record { to = c.0; message = m.Ask tag key stamp }) c.1)
