-- What a read or a write rests on once it has begun.
use Rattle.std.proofs.Common.{◌≡◌, ℕ, Bool, true, List, sym, subst, ◌⊎◌, inl, inr, ◌≤◌, ◌∷◌, ◌++◌, refl, ap, ◌∙◌, arith, Some, length, None, Contains}
use Rattle.register_law.proofs.Words.{member_of, DcId, KeyId, Quorum, stamp_zero, Stamp, View, Tag, leg_under, opened_with, ToRead, ToWrite, Taken, Store, proxy_at, view_at, Strong, centres_of, Call, Policy, IsAtMost, tag_of, Message, Post, first_posts, first_set, First, CallState, current_of, latest, Mark, first_tag, policy_of, Happening, Happened, Started, next_call, started, EndsAreBacked, OpeningsAreBacked, Begun, Ghost, is_noted, noted_of, HasTicket, IsStrongRequest, IsWork, StoresOnly, TicketOf, Grows, WasSent, IsSamePoint, TagsTellApart, CallBacked, Contains-append_right, Contains-append_cases, StrongWork as Work, Work as Asked, has-no_centre, IsAtMost-refl}
use Rattle.run_marks.specs.declared.mark.Work.TheVariants as w
use Rattle.wire_msg.specs.declared.message.Message.TheVariants as m
use Rattle.run_marks.specs.declared.mark.Mark.TheVariants as k
use Rattle.world_core.specs.Starting.{ticket_marks}
use Rattle.register_law.proofs.Basics.{Each, WasPosted, sent_cases}
use Rattle.register_law.proofs.CallsLive.{not_next, start_tickets}
use Rattle.register_law.proofs.Quorums.{member_is_in}
use Rattle.register_law.proofs.CallsPhase.{request_stores, request_asks, no_good}
use Rattle.register_law.proofs.CallsLegs.{first_asks, none_first, asked_first, first_set_some, first_noted, under_policy}
use Rattle.register_law.proofs.OpeningsShown.{IsOpenedView}
use Rattle.register_law.proofs.CallsGoes.{first_repairs}
use Rattle.register_law.proofs.MarksAre.{start_ticket}
use Rattle.register_law.proofs.CallsRows.{OpensAs, opens_read, opens_write}
use Rattle.std.proofs.lemmas.Option.{same_Some}
use Rattle.register_law.proofs.BegunCalls.{begun_first}

-- what a proxy knows of a key when it begins a call
abbrev pub start_view : Store → ℕ → KeyId → View
start_view s p at = view_at (proxy_at s p).views at

-- the call that begins
abbrev pub new_call : Work → Stamp → Quorum → Store → ℕ → KeyId → Tag → CallState
new_call work ticket member s p at tag = (opened_with work tag (proxy_at s p).at (start_view s p at).key (leg_under (start_view s p at) member ticket)).state

-- the call's work is what was asked for, and a write has the ticket that its proxy drew
abbrev pub IsBegunAs : Work → Stamp → Asked → Stamp → Type 0
IsBegunAs ToRead ticket asked drawn = asked ≡ w.Read
IsBegunAs (ToWrite value) ticket asked drawn = (asked ≡ w.Write value) × (ticket ≡ drawn)

-- how a read or a write of a strong key begins: with its work, and the ticket that it draws
pub record BeginsAs (tag : Tag) (at : DcId) (view : View) (drawn : Stamp) (asked : Asked) (taken : Taken) (call : CallState) : Type 0 where
  pub work : Work
  pub ticket : Stamp
  pub agree : IsBegunAs work ticket asked drawn
  pub member : Quorum
  pub is_member : member_of view.policy at.0 ≡ Some member
  pub is : call ≡ (opened_with work tag at view.key (leg_under view member ticket)).state
  pub posts : taken.out.posts ≡ first_posts work view.key tag (leg_under view member ticket)

pub begins_as : (tag : Tag) (at : DcId) (view : View) (drawn : Stamp) (strongly : Bool) (asked : Asked) (taken : Taken) (call : CallState) → OpensAs tag at view drawn strongly asked taken → Strong call ≡ taken.state → BeginsAs tag at view drawn asked taken call
begins_as tag at view drawn strongly asked taken call (opens_read member of) e = record { work = ToRead; ticket = stamp_zero; agree = refl; member = member; is_member = of; is = cc; posts = refl }
begins_as tag at view drawn strongly asked taken call (opens_write member value of) e = record { work = ToWrite value; ticket = drawn; agree = (refl, refl); member = member; is_member = of; is = cc; posts = refl }
begins_as tag at view drawn strongly asked taken call _ e = absurd (cc)

begun_ticket : (work : Work) (ticket : Stamp) (member : Quorum) (s : Store) (p : ℕ) (at : KeyId) (asked : Asked) (tag : Tag) → tag.call ≡ next_call s p
    → IsBegunAs work ticket asked (start_ticket s p at) → TicketOf work (new_call work ticket member s p at tag).progress
begun_ticket ToRead ticket member s p at asked tag own h = tt
begun_ticket (ToWrite value) ticket member s p at asked tag own h =
    subst (λ (t : Stamp). TicketOf (ToWrite value) (new_call (ToWrite value) t member s p at tag).progress) (sym h.1)
    (refl, omega arith, ap (λ (c : Call). c.proxy) (sym own), ap (λ (c : Call). c.seq) (sym own))

noted_work : (work : Work) (ticket drawn : Stamp) (asked : Asked) → IsBegunAs work ticket asked drawn → is_noted asked ≡ true
noted_work ToRead ticket drawn asked h = ap is_noted h
noted_work (ToWrite value) ticket drawn asked h = ap is_noted h.0

works_agree : (work : Work) (ticket drawn : Stamp) (asked : Asked) → IsBegunAs work ticket asked drawn → IsWork work asked
works_agree ToRead ticket drawn asked h = h
works_agree (ToWrite value) ticket drawn asked h = h.0

-- the ticket of a call that begins is its only one
first_ticket : (work : Work) (ticket drawn : Stamp) (marks : List Mark) (call : Call) (tag : Tag) (at : KeyId) (asked : Asked) → tag.call ≡ call → IsBegunAs work ticket asked drawn → ((other : Stamp) → Contains marks (k.Ticket call other) → ⊥)
    → HasTicket work (marks ++ (k.Begin call at asked ∷ ticket_marks call drawn asked)) tag ticket
first_ticket ToRead ticket drawn marks call tag at asked own h none = tt
first_ticket (ToWrite value) ticket drawn marks call tag at asked own h none =
    let here : Contains (k.Begin call at asked ∷ ticket_marks call drawn asked) (k.Ticket call drawn) =
    subst (λ (x : Asked). Contains (k.Begin call at asked ∷ ticket_marks call drawn x) (k.Ticket call drawn)) (sym h.0) (1, omega arith, refl) in
    record {
      noted = subst (λ (c : Call). Contains (marks ++ (k.Begin call at asked ∷ ticket_marks call drawn asked)) (k.Ticket c ticket)) (sym own)
          (subst (λ (t : Stamp). Contains (marks ++ (k.Begin call at asked ∷ ticket_marks call drawn asked)) (k.Ticket call t)) (sym h.1) (Contains-append_right marks (k.Begin call at asked ∷ ticket_marks call drawn asked) (k.Ticket call drawn) here));
      greatest = λ other c. by other (Contains-append_cases marks (k.Begin call at asked ∷ ticket_marks call drawn asked) (k.Ticket call other) (subst (λ (x : Call). Contains (marks ++ (k.Begin call at asked ∷ ticket_marks call drawn asked)) (k.Ticket x other)) own c));
    }
  where
    by : (other : Stamp) → Contains marks (k.Ticket call other) ⊎ Contains (k.Begin call at asked ∷ ticket_marks call drawn asked) (k.Ticket call other) → IsAtMost other ticket
    by other (inl was) = absurd (none other was)
    by other (inr new) = subst (λ (x : Stamp). IsAtMost x ticket) (h.1 ∙ (start_tickets call call at asked drawn other new).0) (IsAtMost-refl ticket)

pub starts_backed : (key : KeyId) (s : Store) (g : Ghost) (h : Happening) (p : ℕ) (at : KeyId) (asked : Asked) (st : Started s p at asked h) (work : Work) (ticket : Stamp)
    → TagsTellApart s → OpeningsAreBacked key s g → EndsAreBacked key s g → Grows key s g h.store (noted_of key s h g)
    → IsBegunAs work ticket asked (start_ticket s p at)
    → at ≡ key → (start_view s p at).key ≡ at
    → (member : Quorum) → member_of (start_view s p at).policy (proxy_at s p).at.0 ≡ Some member
    → h.posts ≡ first_posts work (start_view s p at).key (first_tag (next_call s p) st.handle) (leg_under (start_view s p at) member ticket)
    → CallBacked key h.store (noted_of key s h g) (new_call work ticket member s p at (first_tag (next_call s p) st.handle))
starts_backed key s g h p at asked st work ticket tags openings ends grows agree same view_key member is_member posts = record {
  request = λ request sent any point. request_of request point (sent_cases s h request is sent);
  counted = none_first h.store work call refl refl has-no_centre;
  within = λ d c. no_good d _ c;
  policy = under_policy key h.store (noted_of key s h g) call view member refl is_member (grows.opened view.epoch opened) (policy ∙ sym (grows.policies view.epoch range.0 range.1)) (asked_first work view member ticket) drawn;
  leg = λ _. first_noted key s g h call (view_key ∙ same) drawn some posts;
  begun = λ b e. subst (IsWork work) (ap (λ (x : Begun). x.work) (same_Some (record { work = asked; floor = g.top; epoch = current_of s.directory key }) b (sym noted ∙ e))) (works_agree work ticket _ asked agree);
  repair = λ b e. first_repairs key h.store work None b.floor;
  store = λ tag stamp value sent own. store_of tag stamp value own (sent_cases s h (m.Store tag key stamp value) is sent);
  epochs = λ tag stamp sent own. ask_of tag stamp own (sent_cases s h (m.Ask tag key stamp) is sent);
  ticket = subst (λ (x : Happening). HasTicket work (g.marks ++ x.marks) (first_tag (next_call s p) st.handle) ticket) (sym st.is)
      (first_ticket work ticket (start_ticket s p at) g.marks (next_call s p) (first_tag (next_call s p) st.handle) at asked refl agree
      (λ other c. not_next s p (next_call s p) (ends.marks_numbered (next_call s p) (k.Ticket (next_call s p) other) c refl).1 refl));
}
  where
    is : Happened s h
    is = started p at asked st

    view : View
    view = view_at (proxy_at s p).views at

    call : CallState
    call = new_call work ticket member s p at (first_tag (next_call s p) st.handle)

    known_at : (x : KeyId) → at ≡ x → IsOpenedView x s g (view_at (proxy_at s p).views x) → IsOpenedView x s g (start_view s p at)
    known_at x e v = subst (λ (y : KeyId). IsOpenedView x s g (view_at (proxy_at s p).views y)) (sym e) v

    known : IsOpenedView key s g (start_view s p at)
    known = known_at key same (record { opened = (openings.view_opened p st.exists).0; policy = (openings.view_opened p st.exists).1 })

    opened : Contains g.opened (start_view s p at).epoch
    opened = known.opened

    policy : (start_view s p at).policy ≡ policy_of s key (start_view s p at).epoch
    policy = known.policy

    range : (1 ≤ (start_view s p at).epoch) × ((start_view s p at).epoch ≤ latest s.directory)
    range = openings.published (start_view s p at).epoch opened

    drawn : TicketOf work (new_call work ticket member s p at (first_tag (next_call s p) st.handle)).progress
    drawn = begun_ticket work ticket member s p at asked (first_tag (next_call s p) st.handle) refl agree

    some : 1 ≤ length (centres_of (first_set work (leg_under (start_view s p at) member ticket)))
    some = first_set_some work (start_view s p at) member ticket (policy_of s key (start_view s p at).epoch) (openings.policies_quorum (start_view s p at).epoch range.0 range.1)
        (member_is_in (policy_of s key (start_view s p at).epoch) (proxy_at s p).at.0 member (subst (λ (x : Policy). member_of x (proxy_at s p).at.0 ≡ Some member) policy is_member))

    noted : (noted_of key s h g).begun (next_call s p) ≡ Some (record { work = asked; floor = g.top; epoch = current_of s.directory key })
    noted = begun_first key g.top (current_of s.directory key) h.marks (ticket_marks (next_call s p) (start_ticket s p at) asked) g.begun (next_call s p) asked (noted_work work ticket (start_ticket s p at) asked agree)
        (ap (λ (x : Happening). x.marks) st.is ∙ ap (λ (x : KeyId). k.Begin (next_call s p) x asked ∷ ticket_marks (next_call s p) (start_ticket s p at) asked) same)

    fresh : (request : Message) → WasSent s request → (tag_of request).call ≡ next_call s p → ⊥
    fresh request sent own = not_next s p (tag_of request).call (tags.sent_numbered request sent).begun (sym own)

    asks : Each (IsStrongRequest work First (new_call work ticket member s p at (first_tag (next_call s p) st.handle))) h.posts
    asks = subst (λ (x : List Post). Each (IsStrongRequest work First (new_call work ticket member s p at (first_tag (next_call s p) st.handle))) x) (sym posts) (first_asks work (new_call work ticket member s p at (first_tag (next_call s p) st.handle)))

    request_of : (request : Message) → IsSamePoint (tag_of request) (first_tag (next_call s p) st.handle) → WasSent s request ⊎ WasPosted h request
        → IsStrongRequest work First (new_call work ticket member s p at (first_tag (next_call s p) st.handle)) request
    request_of request point (inl old) = absurd (fresh request old point.call)
    request_of request point (inr new) = asks (record { to = new.0; message = request }) new.1

    store_of : (tag : Tag) (stamp : Stamp) (value : List ℕ) → tag.call ≡ next_call s p → WasSent s (m.Store tag key stamp value) ⊎ WasPosted h (m.Store tag key stamp value) → StoresOnly work First ticket stamp
    store_of tag stamp value own (inl old) = absurd (fresh (m.Store tag key stamp value) old own)
    store_of tag stamp value own (inr new) = request_stores work First (new_call work ticket member s p at (first_tag (next_call s p) st.handle)) tag key stamp value (asks (record { to = new.0; message = m.Store tag key stamp value }) new.1)

    ask_of : (tag : Tag) (stamp : Stamp) → tag.call ≡ next_call s p → WasSent s (m.Ask tag key stamp) ⊎ WasPosted h (m.Ask tag key stamp) → stamp.epoch ≤ (start_view s p at).epoch
    ask_of tag stamp own (inl old) = absurd (fresh (m.Ask tag key stamp) old own)
    ask_of tag stamp own (inr new) = request_asks work First (new_call work ticket member s p at (first_tag (next_call s p) st.handle)) tag key stamp (asks (record { to = new.0; message = m.Ask tag key stamp }) new.1) drawn
