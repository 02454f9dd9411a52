-- The first phase of a leg: its requests, and that it is noted.
use Rattle.std.proofs.Common.{◌≡◌, ℕ, ◌≤◌, Bool, true, false, List, [], ◌∷◌, refl, sym, ap, ◌∙◌, subst, arith, length, map, ◌==◌, if◌then◌else◌, Some, None, Contains, eq-eqb}
use Rattle.register_law.proofs.Words.{centres_of, has, IsQuorumPolicy, member_of, members_of, KeyId, Policy, Quorum, stamp_zero, Stamp, Message, Post, View, post_to, first_posts, first_set, leg_under, First, CallState, ToRead, ToWrite, Store, kept_of, policy_of, Happening, Ghost, leg_of, legs_after, noted_of, FirstCounted, HasPolicy, IsAskedOf, IsNotedLeg, IsStrongRequest, StrongCounted, TicketOf, ticket_noted, StrongWork as Work, NotedLeg as Leg}
use Rattle.wire_msg.specs.declared.message.Message.TheVariants as m
use Rattle.strong_proxy.specs.declared.progress.Leg.{Leg as CallLeg}
use Rattle.register_law.proofs.Basics.{Each, each_to}
use Rattle.register_law.proofs.Quorums.{reads_many, writes_many}

-- what a leg sends first is its request
pub first_asks : (work : Work) (call : CallState) → Each (IsStrongRequest work First call) (first_posts work call.progress.key call.progress.phase.tag call.progress.leg)
first_asks ToRead call = each_to (IsStrongRequest ToRead First call) call.progress.leg.reads (m.Read call.progress.phase.tag call.progress.key call.progress.leg.epoch) refl
first_asks (ToWrite value) call = each_to (IsStrongRequest (ToWrite value) First call) call.progress.leg.writes (m.Ask call.progress.phase.tag call.progress.key call.progress.leg.ticket) refl

-- nothing is counted in it yet
pub none_first : (s : Store) (work : Work) (call : CallState) → call.best ≡ None → call.progress.top_mark ≡ stamp_zero → ((d : ℕ) → has call.progress.phase.good d ≡ false) → StrongCounted s work First call
none_first s ToRead call none zero empty = subst (FirstCounted s call) (sym none) (empty, zero)
none_first s (ToWrite value) call none zero empty = λ d c. absurd (let e = empty d in cc)

pub asked_first : (work : Work) (view : View) (member : Quorum) (ticket : Stamp) → IsAskedOf work First member (first_set work (leg_under view member ticket))
asked_first ToRead view member ticket = refl
asked_first (ToWrite value) view member ticket = refl

-- a leg's first message is noted
legs_are : (key : KeyId) (s : Store) (message : Message) (legs : List Leg) (cs : List ℕ) → 1 ≤ length cs → legs_after key s (map (post_to message) cs) legs ≡ leg_of key (λ d. kept_of s d key) message legs
legs_are key s message legs [] h = absurd (omega (arith, h))
legs_are key s message legs (c ∷ cs) h = refl

first_of : (b : Bool) (leg : Leg) (legs : List Leg) → b ≡ true → Contains (if b then leg ∷ legs else legs) leg
first_of true leg legs h = (0, omega arith, refl)
first_of false leg legs h = absurd (cc)

pub first_set_some : (work : Work) (view : View) (member : Quorum) (ticket : Stamp) (policy : Policy) → IsQuorumPolicy policy → Contains (members_of policy) member → 1 ≤ length (centres_of (first_set work (leg_under view member ticket)))
first_set_some ToRead view member ticket policy sound is = let many = reads_many policy member sound is in omega arith
first_set_some (ToWrite value) view member ticket policy sound is = let many = writes_many policy member sound is in omega arith

noted_by_work : (key : KeyId) (s : Store) (g : Ghost) (h : Happening) (work : Work) (call : CallState) → call.work ≡ work → call.progress.key ≡ key → TicketOf work call.progress → 1 ≤ length (centres_of (first_set work call.progress.leg))
    → h.posts ≡ first_posts work call.progress.key call.progress.phase.tag call.progress.leg → IsNotedLeg (noted_of key s h g) call
noted_by_work key s g h ToRead call work_is at t some posts =
    let message : Message = m.Read call.progress.phase.tag call.progress.key call.progress.leg.epoch in
    let leg : Leg = record { call = call.progress.phase.tag.call; phase = call.progress.phase.tag.phase; epoch = call.progress.leg.epoch; ticket = None; snap = λ d. kept_of s d key } in
    let legs : legs_after key s h.posts g.legs ≡ leg_of key (λ d. kept_of s d key) message g.legs =
    ap (λ (x : List Post). legs_after key s x g.legs) posts ∙ legs_are key s message g.legs (centres_of call.progress.leg.reads) some in
    record {
      leg = leg;
      noted = subst (λ (x : List Leg). Contains x leg) (sym legs) (first_of (call.progress.key.0 == key.0) leg g.legs (subst (λ (x : KeyId). (x.0 == key.0) ≡ true) (sym at) (eq-eqb key.0 key.0 refl)));
      call_is = refl;
      phase_is = refl;
      epoch_is = refl;
      ticket_is = sym (ap (λ (w : Work). ticket_noted w call.progress.leg.ticket) work_is);
    }
noted_by_work key s g h (ToWrite value) call work_is at t some posts =
    let message : Message = m.Ask call.progress.phase.tag call.progress.key call.progress.leg.ticket in
    let leg : Leg = record { call = call.progress.phase.tag.call; phase = call.progress.phase.tag.phase; epoch = call.progress.leg.ticket.epoch; ticket = Some call.progress.leg.ticket; snap = λ d. kept_of s d key } in
    let legs : legs_after key s h.posts g.legs ≡ leg_of key (λ d. kept_of s d key) message g.legs =
    ap (λ (x : List Post). legs_after key s x g.legs) posts ∙ legs_are key s message g.legs (centres_of call.progress.leg.writes) some in
    record {
      leg = leg;
      noted = subst (λ (x : List Leg). Contains x leg) (sym legs) (first_of (call.progress.key.0 == key.0) leg g.legs (subst (λ (x : KeyId). (x.0 == key.0) ≡ true) (sym at) (eq-eqb key.0 key.0 refl)));
      call_is = refl;
      phase_is = refl;
      epoch_is = t.0;
      ticket_is = sym (ap (λ (w : Work). ticket_noted w call.progress.leg.ticket) work_is);
    }

pub first_noted : (key : KeyId) (s : Store) (g : Ghost) (h : Happening) (call : CallState) → call.progress.key ≡ key → TicketOf call.work call.progress → 1 ≤ length (centres_of (first_set call.work call.progress.leg))
    → h.posts ≡ first_posts call.work call.progress.key call.progress.phase.tag call.progress.leg → IsNotedLeg (noted_of key s h g) call
first_noted key s g h call at t some posts = noted_by_work key s g h call.work call refl at t some posts

-- a leg under a view of an epoch that has been current
pub under_policy : (key : KeyId) (z : Store) (n : Ghost) (call : CallState) (view : View) (member : Quorum) → call.progress.leg ≡ leg_under view member call.progress.leg.ticket → member_of view.policy call.progress.at.0 ≡ Some member
    → Contains n.opened view.epoch → view.policy ≡ policy_of z key view.epoch → IsAskedOf call.work call.progress.stage member call.progress.phase.asked → TicketOf call.work call.progress → HasPolicy key z n call
under_policy key z n call view member leg_is is_member opened policy asked ticket =
    let epoch : call.progress.leg.epoch ≡ view.epoch = ap (λ (l : CallLeg). l.epoch) leg_is in
    let same : view.policy ≡ policy_of z key call.progress.leg.epoch = policy ∙ ap (policy_of z key) (sym epoch) in
    record {
      member = member;
      opened = subst (λ e. Contains n.opened e) (sym epoch) opened;
      is_member = subst (λ (x : Policy). member_of x call.progress.at.0 ≡ Some member) same is_member;
      leg = leg_is ∙ ap (λ (x : Policy). leg_under (record { key = key; epoch = view.epoch; policy = x }) member call.progress.leg.ticket) same
          ∙ ap (λ (e : ℕ). leg_under (record { key = key; epoch = e; policy = policy_of z key call.progress.leg.epoch }) member call.progress.leg.ticket) (sym epoch);
      asked = asked;
      ticket = ticket;
    }
