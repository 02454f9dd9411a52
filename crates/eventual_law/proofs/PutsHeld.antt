-- Every event keeps what the live puts of an eventual key rest on.
use Rattle.std.proofs.Common.{◌≡◌, inl, inr, ℕ, ◌+◌, Bool, true, List, refl, sym, ap, ◌∙◌, subst, arith, false}
use Rattle.register_law.proofs.Words.{none_in}
use Rattle.std.specs.Prelude.{Some, Contains}
use Rattle.span_base.specs.DcSet.{has}
use Rattle.span_base.specs.PolicyParts.{faults_of, replicas_of}
use Rattle.span_base.specs.declared.ids.DcId.{DcId}
use Rattle.span_base.specs.declared.ids.KeyId.{KeyId}
use Rattle.span_base.specs.declared.dc_set.DcSet.{DcSet}
use Rattle.ticket_rules.specs.declared.stamp.Stamp.{Stamp}
use Rattle.ticket_rules.specs.Stamp.{IsAtMost}
use Rattle.wire_msg.specs.declared.tag.Tag.{Tag}
use Rattle.wire_msg.specs.declared.message.Message.{Message}
use Rattle.wire_msg.specs.declared.outputs.Post.{Post}
use Rattle.wire_msg.specs.declared.outputs.View.{View}
use Rattle.wire_msg.specs.Posts.{tag_of}
use Rattle.wire_msg.specs.declared.actor.Actor.TheVariants as to
use Rattle.wire_msg.specs.declared.message.Message.TheVariants as m
use Rattle.call_phase.specs.Counting.{with_good}
use Rattle.relay_proxy.specs.declared.stage.Stage.TheVariants.{Getting, Putting}
use Rattle.relay_proxy.specs.State.{State as Eventually}
use Rattle.relay_proxy.specs.Routes.{directs_below, onward_of}
use Rattle.relay_proxy.specs.Rule as eventual
use Rattle.slot_pool.specs.declared.handles.Handle.{Handle}
use Rattle.run_marks.specs.declared.mark.Work.{Work}
use Rattle.world_core.specs.declared.live.LiveCall.{LiveCall}
use Rattle.world_core.specs.declared.live.LiveCall.TheVariants.{Strong, Eventual, StrongMove, EventualMove}
use Rattle.world_core.specs.State.{Store, proxy_at, view_at, policy_of}
use Rattle.world_core.specs.Calls.{Taken, tag_of_call, key_of_call}
use Rattle.world_core.specs.Starting.{first_tag, ticket_of}
use Rattle.world_core.specs.Step.{Happening, is_strong_key, handle_in}
use Rattle.register_law.specs.Ghost.{Ghost, noted_of}
use Rattle.register_law.specs.Seen.{WasSent, Grows, version_before}
use Rattle.register_law.specs.Tags.{IsLiveAt, TagsTellApart, request_key}
use Rattle.register_law.specs.Cases.{Happened, Started, CallTook, next_call}
use Rattle.register_law.proofs.Basics.{Each, WasPosted, each_map, sent_cases, point_of}
use Rattle.register_law.proofs.EndsKinds.{taken_key}
use Rattle.register_law.proofs.MovesTook.{within_good}
use Rattle.register_law.proofs.CallsRows.{opens_get, opens_put, OpensAs, opens_get_any}
use Rattle.register_law.proofs.MovesStep.{counts_own}
use Rattle.register_law.proofs.TagsCalls.{LiveIs, was_live, begins, went_on, taken_of, live_after, IsFresh, started_opens, next_is_none, started_as}
use Rattle.register_law.proofs.TagsSent.{Posted, replies, opens as posted_opens, asks, posted}
use Rattle.eventual_law.specs.Kinds.{shape}
use Rattle.eventual_law.specs.Held.{IsPushUnder, PutHeld, InvOfEventual}
use Rattle.eventual_law.proofs.Sends.{there, start_key}
use Rattle.eventual_law.proofs.Shapes.{NewIs, like, fresh, new_is}
use Rattle.eventual_law.proofs.Pairs.{push_copy}
use Rattle.eventual_law.proofs.Versions.{answers_key}
use Rattle.eventual_law.proofs.Counted.{one_more}
use Rattle.eventual_law.proofs.HeldStays.{reached_stays}
use Rattle.eventual_law.proofs.PutTurns.{Counts, PutIs, as_before, one_counts, put_is}

-- a copy of a push of the ticket is one
like_push : (key : KeyId) (ticket : Stamp) (from message : Message) → IsPushUnder key ticket from → shape from ≡ shape message → tag_of from ≡ tag_of message → IsPushUnder key ticket message
like_push key ticket from message push same tags =
    let copy = push_copy message (tag_of from) key ticket push.value (sym same ∙ ap shape push.is) in
    record { onward = copy.0; value = push.value; is = copy.1 ∙ ap (λ (t : Tag). m.Push t key ticket copy.0 push.value) tags }

-- nothing is asked anew under the tag of a call that was live, and is in its first phase
not_fresh : (X : Type 0) (s : Store) (h : Happening) → Happened s h → TagsTellApart s → (p : ℕ) (handle : Handle) (live : LiveCall) → IsLiveAt s p handle live → (tag_of_call live).phase ≡ 1 → (message : Message) → IsFresh s (tag_of message) → tag_of message ≡ tag_of_call live → WasPosted h message → X
not_fresh X s h is tags p handle live lives first message none own new = by (posted s h is (record { to = new.0; message = message }) new.1)
  where
    by : Posted s h message → X
    by (replies from sent answer) = absurd (none from sent (point_of (tag_of from) (tag_of message) (sym answer.tag)))
    by (posted_opens q on work st tag at free) = absurd (next_is_none s q (tag_of_call live) (next_call s q) (tags.live_numbered p handle live lives).0 (ap (λ (t : Tag). t.call) (sym own ∙ tag)) refl)
    by (asks q taken call post took tag at free c) =
        let phase : (tag_of message).phase ≡ (tag_of_call call).phase + 1 = ap (λ (t : Tag). t.phase) tag in
        let same : (tag_of message).phase ≡ (tag_of_call live).phase = ap (λ (t : Tag). t.phase) own in
        let some = (tags.live_numbered q (handle_in taken) call took.live).0.phase in
        absurd (omega arith)

-- what a put asked, after an event, if it was live before
requests_stay : (key : KeyId) (s : Store) (g : Ghost) (h : Happening) → Happened s h → InvOfEventual key s g → (p : ℕ) (handle : Handle) (call : Eventually) (ticket : Stamp) → IsLiveAt s p handle (Eventual call) → PutHeld key s g call ticket
    → (request : Message) → WasSent h.store request → request_key request ≡ Some key → tag_of request ≡ call.phase.tag → IsPushUnder key ticket request
requests_stay key s g h is inv p handle call ticket lives held request sent at own =
    elim (sent_cases s h request is sent) as (λ _. IsPushUnder key ticket request) [ inl old ↦ held.request request old at own | inr new ↦ now new (new_is key s h request is inv.known.kinds new at) ]
  where
    now : WasPosted h request → NewIs key s request → IsPushUnder key ticket request
    now new (like from was on tag same) = like_push key ticket from request (held.request from was on (tag ∙ own)) same tag
    now new (fresh none) = not_fresh (IsPushUnder key ticket request) s h is inv.known.kinds.tags p handle (Eventual call) lives held.first request none own new

-- a put that has another phase, of the same tag and set, whose answers are told
with_phase : (key : KeyId) (s : Store) (g : Ghost) (h : Happening) → Happened s h → InvOfEventual key s g → Grows key s g h.store (noted_of key s h g) → (p : ℕ) (handle : Handle) (call new : Eventually) (ticket : Stamp) → IsLiveAt s p handle (Eventual call) → PutHeld key s g call ticket
    → new.phase.tag ≡ call.phase.tag → new.phase.asked ≡ call.phase.asked → new.f ≡ call.f → ((d : ℕ) → has new.phase.good d ≡ true → has call.phase.asked d ≡ true) → ((d : ℕ) → has new.phase.good d ≡ true → IsAtMost ticket (version_before key s g d ticket.epoch))
    → PutHeld key h.store (noted_of key s h g) new ticket
with_phase key s g h is inv grows p handle call new ticket lives held tag asked faults within counted =
    let out = inv.epochs.published ticket.epoch held.opened in
    let policy : policy_of h.store key ticket.epoch ≡ policy_of s key ticket.epoch = grows.policies ticket.epoch out.0 out.1 in
    record {
      first = ap (λ (t : Tag). t.phase) tag ∙ held.first;
      opened = grows.opened ticket.epoch held.opened;
      asked = asked ∙ held.asked ∙ sym (ap replicas_of policy);
      faults = faults ∙ held.faults ∙ sym (ap faults_of policy);
      request = λ request sent at own. requests_stay key s g h is inv p handle call ticket lives held request sent at (own ∙ tag);
      within = λ d there. subst (λ (x : DcSet). has x d ≡ true) (sym asked) (within d there);
      counted = λ d there. reached_stays key s g h.store (noted_of key s h g) d ticket.epoch ticket grows (counted d there);
    }

-- a replica whose Yes counts for a put has its ticket
pub yes_has : (key : KeyId) (s : Store) (g : Ghost) → InvOfEventual key s g → (p : ℕ) (handle : Handle) (call : Eventually) (ticket : Stamp) (message : Message) (replica : DcId) → IsLiveAt s p handle (Eventual call) → call.key ≡ key → PutHeld key s g call ticket → WasSent s message → Counts call message ticket replica
    → IsAtMost ticket (version_before key s g replica.0 ticket.epoch)
yes_has key s g inv p handle call ticket message replica lives at held sent c =
    let own : call.phase.tag ≡ c.tag = counts_own call.phase c.tag replica c.counted in
    let told : WasSent s (m.Yes c.tag replica) = subst (WasSent s) c.message_is sent in
    let asked = answers_key key s g.marks p handle (Eventual call) (m.Yes c.tag replica) inv.known.kinds inv.known.calls lives at own told refl in
    let push = held.request asked.0 asked.1 asked.2 (asked.3 ∙ sym own) in
    let sent_push : WasSent s (m.Push c.tag key ticket push.onward push.value) = subst (WasSent s) (push.is ∙ ap (λ (t : Tag). m.Push t key ticket push.onward push.value) asked.3) asked.1 in
    inv.answers.yes_push c.tag ticket push.onward push.value replica.0 sent_push told

-- a put that took a message
put_went : (key : KeyId) (s : Store) (g : Ghost) (h : Happening) → Happened s h → InvOfEventual key s g → Grows key s g h.store (noted_of key s h g) → (p : ℕ) (message : Message) (old new : Eventually) (ticket : Stamp) → IsLiveAt s p (handle_in message) (Eventual old) → WasSent s message → old.key ≡ key
    → new.stage ≡ Putting ticket → PutIs old message new ticket → PutHeld key h.store (noted_of key s h g) new ticket
put_went key s g h is inv grows p message old new ticket lives sent at stage (as_before same) =
    let held = inv.puts.live p (handle_in message) old ticket lives at (ap (λ (x : Eventually). x.stage) (sym same) ∙ stage) in
    subst (λ (x : Eventually). PutHeld key h.store (noted_of key s h g) x ticket) (sym same)
    (with_phase key s g h is inv grows p (handle_in message) old old ticket lives held refl refl refl held.within held.counted)
put_went key s g h is inv grows p message old new ticket lives sent at stage (one_counts replica c same) =
    let held = inv.puts.live p (handle_in message) old ticket lives at c.stage_is in
    subst (λ (x : Eventually). PutHeld key h.store (noted_of key s h g) x ticket) (sym same)
    (with_phase key s g h is inv grows p (handle_in message) old (eventual.goes_on old (with_good old.phase replica) old.gone).state ticket lives held refl refl refl
    (within_good old.phase c.tag replica c.counted held.within)
    (one_more (λ d. IsAtMost ticket (version_before key s g d ticket.epoch)) old.phase replica (yes_has key s g inv p (handle_in message) old ticket message replica lives at held sent c) held.counted))

-- a put that begins
is_put : (call : Eventually) (tag : Tag) (at : DcId) (view : View) (drawn ticket : Stamp) (value : List ℕ) → call ≡ (eventual.opened_put tag at.0 view drawn value).state → call.stage ≡ Putting ticket → ticket ≡ drawn
is_put call tag at view drawn ticket value is stage = let e : Putting drawn ≡ Putting ticket = ap (λ (x : Eventually). x.stage) (sym is) ∙ stage in cc

eventual_same : (a b : Eventually) → Eventual a ≡ Eventual b → a ≡ b
eventual_same a b e = cc

-- what a put that begins is, and what it sends
pub record PutBegins (tag : Tag) (view : View) (ticket : Stamp) (call : Eventually) (posts : List Post) : Type 0 where
  pub tag_is : call.phase.tag ≡ tag
  pub asked : call.phase.asked ≡ replicas_of view.policy
  pub faults : call.f ≡ faults_of view.policy
  pub none : (d : ℕ) → has call.phase.good d ≡ true → ⊥
  pub pushes : Each (IsPushUnder view.key ticket) posts

put_begins : (tag : Tag) (at : DcId) (view : View) (ticket : Stamp) (value : List ℕ) → PutBegins tag view ticket (eventual.opened_put tag at.0 view ticket value).state (eventual.opened_put tag at.0 view ticket value).out.posts
put_begins tag at view ticket value = record {
  tag_is = refl;
  asked = refl;
  faults = refl;
  none = λ d there. none_in d there;
  pushes = each_map (IsPushUnder view.key ticket) (eventual.push_to tag at.0 view ticket value) (λ p. record { onward = onward_of view.policy at.0 p; value = value; is = refl }) (directs_below view.policy at.0 16);
}

-- a get puts nothing
gets_never : (call : Eventually) (tag : Tag) (at : DcId) (view : View) (any : Bool) (ticket : Stamp) → Eventual call ≡ Eventual (eventual.opened_get tag at.0 view any).state → call.stage ≡ Putting ticket → ⊥
gets_never call tag at view any ticket e stage =
    let y : Getting ≡ Putting ticket = ap (λ (x : Eventually). x.stage) (sym (eventual_same call (eventual.opened_get tag at.0 view any).state e)) ∙ stage in
    cc

begins_by : (tag : Tag) (at : DcId) (view : View) (drawn : Stamp) (strongly : Bool) (work : Work) (taken : Taken) (call : Eventually) (ticket : Stamp) → OpensAs tag at view drawn strongly work taken → Eventual call ≡ taken.state → call.stage ≡ Putting ticket → (ticket ≡ drawn) × PutBegins tag view drawn call taken.out.posts
begins_by tag at view drawn strongly work taken call ticket opens_get e stage = absurd (gets_never call tag at view false ticket e stage)
begins_by tag at view drawn strongly work taken call ticket opens_get_any e stage = absurd (gets_never call tag at view true ticket e stage)
begins_by tag at view drawn strongly work taken call ticket (opens_put value) e stage =
    let z : call ≡ (eventual.opened_put tag at.0 view drawn value).state = eventual_same call (eventual.opened_put tag at.0 view drawn value).state e in
    (is_put call tag at view drawn ticket value z stage, subst (λ (x : Eventually). PutBegins tag view drawn x (eventual.opened_put tag at.0 view drawn value).out.posts) (sym z) (put_begins tag at view drawn value))
begins_by tag at view drawn strongly work taken call ticket _ e stage = absurd (cc)

put_began : (key : KeyId) (s : Store) (g : Ghost) (h : Happening) → Happened s h → InvOfEventual key s g → Grows key s g h.store (noted_of key s h g) → (p : ℕ) (on : KeyId) (work : Work) (st : Started s p on work h) (call : Eventually) (ticket : Stamp) → Eventual call ≡ st.taken.state → call.key ≡ key → call.stage ≡ Putting ticket
    → PutHeld key h.store (noted_of key s h g) call ticket
put_began key s g h is inv grows p on work st call ticket new at stage =
    subst (PutHeld key h.store (noted_of key s h g) call) (sym b.0) (record {
      first = ap (λ (t : Tag). t.phase) b.1.tag_is;
      opened = grows.opened view.epoch known.0;
      asked = b.1.asked ∙ ap replicas_of policy;
      faults = b.1.faults ∙ ap faults_of policy;
      request = λ request sent of own. elim (sent_cases s h request is sent) as (λ _. IsPushUnder key drawn request) [
        | inl old ↦ absurd (next_is_none s p (tag_of request) (next_call s p) (inv.known.kinds.tags.sent_numbered request old) (ap (λ (t : Tag). t.call) (own ∙ b.1.tag_is)) refl)
        | inr now ↦ subst (λ (x : KeyId). IsPushUnder x drawn request) keyed (b.1.pushes (record { to = now.0; message = request }) (there h request st.taken.out.posts (ap (λ (x : Happening). x.posts) st.is) now))
      ];
      within = λ d there. absurd (b.1.none d there);
      counted = λ d there. absurd (b.1.none d there);
    })
  where
    view : View
    view = view_at (proxy_at s p).views on

    drawn : Stamp
    drawn = ticket_of (proxy_at s p) view (next_call s p)

    tag : Tag
    tag = first_tag (next_call s p) st.handle

    b : (ticket ≡ drawn) × PutBegins tag view drawn call st.taken.out.posts
    b = begins_by tag (proxy_at s p).at view drawn (is_strong_key s on) work st.taken call ticket (started_as s p on work h st) new stage

    keyed : view.key ≡ key
    keyed = sym (started_opens s p on work h st).key_is ∙ ap key_of_call (sym new) ∙ at

    same : on ≡ key
    same = start_key key s h p on work inv.known.kinds st keyed

    known : Contains g.opened view.epoch × (view.policy ≡ policy_of s key view.epoch)
    known = subst (λ (x : KeyId). Contains g.opened (view_at (proxy_at s p).views x).epoch × ((view_at (proxy_at s p).views x).policy ≡ policy_of s key (view_at (proxy_at s p).views x).epoch)) (sym same) (inv.views p st.exists)

    policy : view.policy ≡ policy_of h.store key view.epoch
    policy = let out = inv.epochs.published view.epoch known.0 in known.1 ∙ sym (grows.policies view.epoch out.0 out.1)

put_took : (key : KeyId) (s : Store) (g : Ghost) (h : Happening) → Happened s h → InvOfEventual key s g → Grows key s g h.store (noted_of key s h g) → (p : ℕ) (message : Message) (old : LiveCall) (call : Eventually) (ticket : Stamp) → CallTook s p message old h → Eventual call ≡ (taken_of s p message old).state → call.key ≡ key → call.stage ≡ Putting ticket
    → PutHeld key h.store (noted_of key s h g) call ticket
put_took key s g h is inv grows p message (Strong old) call ticket took e at stage = absurd (cc)
put_took key s g h is inv grows p message (StrongMove old) call ticket took e at stage = absurd (cc)
put_took key s g h is inv grows p message (EventualMove old) call ticket took e at stage = absurd (cc)
put_took key s g h is inv grows p message (Eventual old) call ticket took e at stage =
    let same : call ≡ (eventual.step old message).state = eventual_same call (eventual.step old message).state e in
    let own : old.key ≡ key = sym (taken_key s p message (Eventual old)) ∙ ap key_of_call (sym e) ∙ at in
    put_went key s g h is inv grows p message old call ticket took.live (to.Proxy p, took.sent) own stage
    (subst (λ (x : Eventually). PutIs old message x ticket) (sym same) (put_is old message ticket (ap (λ (x : Eventually). x.stage) (sym same) ∙ stage)))

pub live_puts_kept : (key : KeyId) (s : Store) (g : Ghost) (h : Happening) → Happened s h → InvOfEventual key s g → Grows key s g h.store (noted_of key s h g) → (p : ℕ) (handle : Handle) (call : Eventually) (ticket : Stamp) → IsLiveAt h.store p handle (Eventual call) → call.key ≡ key → call.stage ≡ Putting ticket
    → PutHeld key h.store (noted_of key s h g) call ticket
live_puts_kept key s g h is inv grows p handle call ticket lives at stage = by (live_after s h is p handle (Eventual call) lives)
  where
    by : LiveIs s h p handle (Eventual call) → PutHeld key h.store (noted_of key s h g) call ticket
    by (was_live was) =
        let held = inv.puts.live p handle call ticket was at stage in
        with_phase key s g h is inv grows p handle call call ticket was held refl refl refl held.within held.counted
    by (begins on work st _ new) = put_began key s g h is inv grows p on work st call ticket new at stage
    by (went_on message old took _ new no_end) = put_took key s g h is inv grows p message old call ticket took new at stage
