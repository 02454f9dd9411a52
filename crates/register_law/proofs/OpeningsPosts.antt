-- A Read, an Ask, a Seed or a Switch of the key is sent only where it is backed, and no request is sent whose tag was used.
use Rattle.std.proofs.Common.{◌≡◌, ℕ, ap, ◌∙◌, Bool, sym, subst, ◌<◌, refl, Contains, length, Some, ◌+◌, arith, Option, IsSome, List}
use Rattle.register_law.proofs.Words.{State, Quorum, Stamp, View, leg_under, next_of, Enter, Leg, Progress, CallState, ToRead, ToWrite, DcId, Message, Tag, counted, Moving, strong_rule, take, LiveCall, IsOfStrong, Ghost, KeyId, Actor, key_of_call, learned, ticket_of, proxy_at, replica_at, view_at, Happening, handle_in, is_strong_key, next_call, Inv, request_key, StrongWork as Work, Work as Asked, tag_of, Handle, tag_of_call, IsLiveMove, IsKnown, WasSent, SwitchBacked, IsLiveAt, IsPushFree, IsSamePoint, DcSet, Next}
use Rattle.wire_msg.specs.declared.message.Message.TheVariants as m
use Rattle.strong_proxy.specs.Rule as strong
use Rattle.migration.specs.Move as moving
use Rattle.world_core.specs.declared.live.LiveCall.TheVariants as live
use Rattle.wire_msg.specs.declared.actor.Actor.TheVariants as to
use Rattle.world_core.specs.State as world
use Rattle.register_law.proofs.Next.{EntersWith, rests_on}
use Rattle.register_law.proofs.Basics.{Each}
use Rattle.register_law.proofs.CallsRows.{each_strong, each_move, DoneSends, reads, asks, confirms, MoveSends, looks_up, seeds, switches, StartSends, start_read, start_ask, start_sends}
use Rattle.register_law.proofs.OpeningsShown.{IsOpenedView, learned_view}
use Rattle.register_law.proofs.MovesKept.{Posted, by_start, by_replica, by_directory, by_call, take_own, opened_own}
use Rattle.register_law.proofs.TagsSent.{answer_is_none, IsReplicaPost, answers_it, passes_on, replica_posts, IsDirectoryPost, tells_here, tells_switched, directory_posts}
use Rattle.register_law.proofs.TagsCalls.{next_is_none, started_as}
use Rattle.register_law.proofs.MovesBacked.{switch_backed, seed_backed}
use Rattle.std.proofs.lemmas.Option.{same_Some}

-- a leg of the view's epoch; only a write asks for its ticket
abbrev pub IsTicketAt : Work → ℕ → Leg → Type 0
IsTicketAt ToRead epoch leg = Unit {0}
IsTicketAt (ToWrite value) epoch leg = leg.ticket.epoch ≡ epoch

pub record EntersAt (work : Work) (view : View) (leg : Leg) : Type 0 where
  pub epoch : leg.epoch ≡ view.epoch
  pub ticket : IsTicketAt work view.epoch leg

ticket_at : (work : Work) (member : Quorum) (ticket : Stamp) (p : Progress) (view : View) (seen : ℕ) (leg : Leg) → leg ≡ leg_under view member ticket → EntersWith work ticket view seen p → IsTicketAt work view.epoch leg
ticket_at ToRead member ticket p view seen leg is drawn = tt
ticket_at (ToWrite value) member ticket p view seen leg is drawn = ap (λ (x : Leg). x.ticket.epoch) is ∙ ap (λ (x : Stamp). x.epoch) drawn

pub enters_at : (call : CallState) (view : View) (seen : ℕ) (leg : Leg) → next_of call view seen ≡ Enter leg → EntersAt call.work view leg
enters_at call view seen leg e =
    let when = rests_on call view seen (Enter leg) e in
    record { epoch = ap (λ (x : Leg). x.epoch) when.leg_is; ticket = ticket_at call.work when.member when.ticket call.progress view seen leg when.leg_is when.ticket_is }

-- ---- a call asks for a leg only in an epoch that has been current

-- the epoch of a Read or an Ask has been current
abbrev pub IsOfOpened : Ghost → Message → Type 0
IsOfOpened g (m.Read tag at epoch) = Contains g.opened epoch
IsOfOpened g (m.Ask tag at stamp) = Contains g.opened stamp.epoch
IsOfOpened g _ = Unit {0}

strong_opened : (g : Ghost) (call : CallState) (message : Message) (view : View) (seen : ℕ) → Contains g.opened view.epoch → Each (IsOfOpened g) (strong.step call message view seen).out.posts
strong_opened g call message view seen opened = each_strong (IsOfOpened g) call message view seen (by (next_of (counted call message) view seen) refl)
  where
    by : (next : Next) → next_of (counted call message) view seen ≡ next → (sent : Message) → DoneSends (counted call message) next sent → IsOfOpened g sent
    by next e sent (reads leg is) = subst (Contains g.opened) (sym (enters_at (counted call message) view seen leg e).epoch) opened
    by next e sent (asks leg value is) = subst (Contains g.opened) (sym (subst (λ (w : Work). IsTicketAt w view.epoch leg) is (enters_at (counted call message) view seen leg e).ticket)) opened
    by next e sent _ = tt

-- a call that begins
start_opened : (g : Ghost) (tag : Tag) (at : DcId) (view : View) (ticket : Stamp) → ticket.epoch ≡ view.epoch → Contains g.opened view.epoch → (strongly : Bool) (work : Asked) (sent : Message) → StartSends tag at view ticket strongly work sent → IsOfOpened g sent
start_opened g tag at view ticket of opened strongly work sent (start_read _ _) = opened
start_opened g tag at view ticket of opened strongly work sent (start_ask value) = subst (Contains g.opened) (sym of) opened
start_opened g tag at view ticket of opened strongly work sent _ = tt

-- a move asks no replica for a leg
move_opened : (g : Ghost) (call : Moving) (message : Message) → Each (IsOfOpened g) (moving.step strong_rule call message).out.posts
move_opened g call message = each_move (IsOfOpened g) strong_rule call message by
  where
    by : (sent : Message) → MoveSends strong_rule call message sent → IsOfOpened g sent
    by sent looks_up = tt
    by sent _ = tt

pub call_opened : (g : Ghost) (old : LiveCall) (message : Message) (view : View) (seen : ℕ) → IsOfStrong old → Contains g.opened view.epoch → Each (IsOfOpened g) (take old message view seen).out.posts
call_opened g (live.Strong call) message view seen kind opened = strong_opened g call message view seen opened
call_opened g (live.StrongMove call) message view seen kind opened = move_opened g call message
call_opened g (live.Eventual call) message view seen kind opened = absurd kind
call_opened g (live.EventualMove call) message view seen kind opened = absurd kind

-- ---- each Read and each Ask of the key that an event posts is of an epoch that has been current

-- of requests, a replica posts only Pushes that it passes on, and the directory none
pushed_on : (P : Message → Type 0) (from message : Message) → IsReplicaPost from message → IsSome (request_key message) → ((tag : Tag) (at : KeyId) (stamp : Stamp) (none : DcSet) (value : List ℕ) → P (m.Push tag at stamp none value)) → P message
pushed_on P from message (answers_it _ _ answer) some push = absurd (let k = subst (λ (o : Option KeyId). IsSome o) (answer_is_none message answer) some in cc)
pushed_on P from message (passes_on tag at stamp onward none value e is) some push = subst P (sym is) (push tag at stamp none value)

none_told : (P : Type 0) (state : State) (from message : Message) → IsDirectoryPost state from message → IsSome (request_key message) → P
none_told P state from message (tells_here tag at e is) some = absurd (let k = subst (λ (x : Message). IsSome (request_key x)) is some in cc)
none_told P state from message (tells_switched tag at closing opening e is) some = absurd (let k = subst (λ (x : Message). IsSome (request_key x)) is some in cc)

-- whatever an event posts of the key and of a call of the key
pub posted_opened : (key : KeyId) (s : world.Store) (g : Ghost) (h : Happening) → Inv key s g → (whom : Actor) (message : Message) → Posted s h (record { to = whom; message = message }) → request_key message ≡ Some key → IsOfOpened g message
posted_opened key s g h inv whom message (by_start p at work st c) of =
    let view : View = view_at (proxy_at s p).views at in
    let own = opened_own s p at work h st (record { to = whom; message = message }) c in
    let at_key : at ≡ key = sym (inv.tags.view_keys p at st.exists st.known) ∙ same_Some view.key key (sym own.key_is ∙ of) in
    let opened : Contains g.opened view.epoch = subst (λ (x : KeyId). Contains g.opened (view_at (proxy_at s p).views x).epoch) (sym at_key) (inv.openings.view_opened p st.exists).0 in
    start_opened g _ (proxy_at s p).at view (ticket_of (proxy_at s p) view (next_call s p)) refl opened (is_strong_key s at) work message (start_sends _ _ _ _ (is_strong_key s at) work st.taken (started_as s p at work h st) (record { to = whom; message = message }) c)
posted_opened key s g h inv whom message (by_replica d from sent c) of = pushed_on (IsOfOpened g) from message (replica_posts (replica_at s d).state from (record { to = whom; message = message }) c) (subst (λ (o : Option KeyId). IsSome o) (sym of) refl) (λ _ _ _ _ _. tt)
posted_opened key s g h inv whom message (by_directory from sent directory_is c) of = none_told (IsOfOpened g message) s.directory from message (directory_posts s.directory from (record { to = whom; message = message }) c) (subst (λ (o : Option KeyId). IsSome o) (sym of) refl)
posted_opened key s g h inv whom message (by_call p from old ct c) of =
    let own = take_own old from _ _ (record { to = whom; message = message }) c in
    let at : key_of_call old ≡ key = same_Some (key_of_call old) key (sym own.key_is ∙ of) in
    let numbered = inv.tags.live_numbered p (handle_in from) old ct.live in
    let known_before = inv.openings.view_opened p (subst (λ (n : ℕ). n < length s.proxies) numbered.1 numbered.0.proxy) in
    let known : IsOpenedView key s g (view_at (learned (proxy_at s p) from).views key) = learned_view key s g inv (proxy_at s p).views from (to.Proxy p, ct.sent) (record { opened = known_before.0; policy = known_before.1 }) in
    call_opened g old from (view_at (learned (proxy_at s p) from).views (key_of_call old)) (learned (proxy_at s p) from).seen (inv.ends.live_kinds p (handle_in from) old ct.live at)
    (subst (λ (x : KeyId). Contains g.opened (view_at (learned (proxy_at s p) from).views x).epoch) (sym at) known.opened) (record { to = whom; message = message }) c

-- ---- a Seed or a Switch of the key is sent only where it is backed, and no request is sent whose tag was used

-- a Seed carries a known value, and a Switch carries over what is settled
abbrev pub IsCarried : KeyId → world.Store → Ghost → Message → Type 0
IsCarried key s g (m.Seed tag at epoch stamp value) = IsKnown key s stamp value
IsCarried key s g (m.Switch tag at old new) = SwitchBacked key s g old new
IsCarried key s g _ = Unit {0}

-- a read or a write sends neither, nor does a call that begins
strong_carries : (key : KeyId) (s : world.Store) (g : Ghost) (call : CallState) (message : Message) (view : View) (seen : ℕ) → Each (IsCarried key s g) (strong.step call message view seen).out.posts
strong_carries key s g call message view seen = each_strong (IsCarried key s g) call message view seen (by (next_of (counted call message) view seen))
  where
    by : (next : Next) (sent : Message) → DoneSends (counted call message) next sent → IsCarried key s g sent
    by next sent confirms = tt
    by next sent _ = tt

start_carries : (key : KeyId) (s : world.Store) (g : Ghost) (tag : Tag) (at : DcId) (view : View) (ticket : Stamp) (strongly : Bool) (work : Asked) (sent : Message) → StartSends tag at view ticket strongly work sent → IsCarried key s g sent
start_carries key s g tag at view ticket strongly work sent (start_ask value) = tt
start_carries key s g tag at view ticket strongly work sent _ = tt

-- a move sends them once they are backed
move_carries : (key : KeyId) (s : world.Store) (g : Ghost) → Inv key s g → (p : ℕ) (handle : Handle) (call : Moving) → IsLiveMove key s p handle call → (message : Message) → WasSent s message → Each (IsCarried key s g) (moving.step strong_rule call message).out.posts
move_carries key s g inv p handle call lives message sent = each_move (IsCarried key s g) strong_rule call message by
  where
    by : (new : Message) → MoveSends strong_rule call message new → IsCarried key s g new
    by new (seeds tag replica version mark value old target best found stage got c e) = seed_backed key s g inv p handle call lives tag replica version mark value old target best found (subst (WasSent s) got sent) stage c e
    by new (switches tag replica old target frozen seeded top_gone stage got c quorum) = switch_backed key s g inv p handle call lives tag replica old target frozen seeded top_gone (subst (WasSent s) got sent) stage c quorum
    by new _ = tt

call_carries : (key : KeyId) (s : world.Store) (g : Ghost) → Inv key s g → (p : ℕ) (message : Message) (old : LiveCall) → IsLiveAt s p (handle_in message) old → IsOfStrong old → key_of_call old ≡ key → WasSent s message → (view : View) (seen : ℕ)
    → Each (IsCarried key s g) (take old message view seen).out.posts
call_carries key s g inv p message (live.Strong call) lives kind at sent view seen = strong_carries key s g call message view seen
call_carries key s g inv p message (live.StrongMove call) lives kind at sent view seen = move_carries key s g inv p (handle_in message) call (record { live = lives; at_key = at }) message sent
call_carries key s g inv p message (live.Eventual call) lives kind at sent view seen = absurd kind
call_carries key s g inv p message (live.EventualMove call) lives kind at sent view seen = absurd kind

-- whatever an event posts of the key
pub posted_carries : (key : KeyId) (s : world.Store) (g : Ghost) (h : Happening) → Inv key s g → (whom : Actor) (message : Message) → Posted s h (record { to = whom; message = message }) → request_key message ≡ Some key → IsCarried key s g message
posted_carries key s g h inv whom message (by_start p at work st c) of =
    start_carries key s g _ _ _ _ (is_strong_key s at) work message (start_sends _ _ _ _ (is_strong_key s at) work st.taken (started_as s p at work h st) (record { to = whom; message = message }) c)
posted_carries key s g h inv whom message (by_replica d from sent c) of = pushed_on (IsCarried key s g) from message (replica_posts (replica_at s d).state from (record { to = whom; message = message }) c) (subst (λ (o : Option KeyId). IsSome o) (sym of) refl) (λ _ _ _ _ _. tt)
posted_carries key s g h inv whom message (by_directory from sent directory_is c) of = none_told (IsCarried key s g message) s.directory from message (directory_posts s.directory from (record { to = whom; message = message }) c) (subst (λ (o : Option KeyId). IsSome o) (sym of) refl)
posted_carries key s g h inv whom message (by_call p from old ct c) of =
    let own = take_own old from _ _ (record { to = whom; message = message }) c in
    let at : key_of_call old ≡ key = same_Some (key_of_call old) key (sym own.key_is ∙ of) in
    call_carries key s g inv p from old ct.live (inv.ends.live_kinds p (handle_in from) old ct.live at) at (to.Proxy p, ct.sent) _ _ (record { to = whom; message = message }) c

-- no message that was sent before has the tag of a request that is posted, but for a Push that is passed on
pub posted_fresh : (key : KeyId) (s : world.Store) (g : Ghost) (h : Happening) → Inv key s g → (whom : Actor) (request : Message) → Posted s h (record { to = whom; message = request }) → IsSome (request_key request) → IsPushFree request
    → (other : Message) → WasSent s other → IsSamePoint (tag_of other) (tag_of request) → ⊥
posted_fresh key s g h inv whom request (by_start p at work st c) some free other sent same =
    let own = opened_own s p at work h st (record { to = whom; message = request }) c in
    next_is_none s p (tag_of other) (next_call s p) (inv.tags.sent_numbered other sent) (same.call ∙ ap (λ (t : Tag). t.call) own.tag_is) refl
posted_fresh key s g h inv whom request (by_replica d from sent_to c) some free other sent same = pushed_on (λ (x : Message). IsPushFree x → ⊥) from request (replica_posts (replica_at s d).state from (record { to = whom; message = request }) c) some (λ _ _ _ _ _ push. push) free
posted_fresh key s g h inv whom request (by_directory from sent_to directory_is c) some free other sent same = none_told ⊥ s.directory from request (directory_posts s.directory from (record { to = whom; message = request }) c) some
posted_fresh key s g h inv whom request (by_call p from old ct c) some free other sent same =
    let own = take_own old from _ _ (record { to = whom; message = request }) c in
    let call_is : (tag_of other).call ≡ (tag_of_call old).call = same.call ∙ ap (λ (t : Tag). t.call) own.tag_is in
    let phase : (tag_of other).phase ≡ (tag_of_call old).phase + 1 = same.phase ∙ ap (λ (t : Tag). t.phase) own.tag_is in
    let le = inv.tags.phase_bound p (handle_in from) old other ct.live sent call_is in
    omega arith
