-- What a read or a write sends by what it does next, and where the Asks, Stores and Repairs of an event come from.
use Rattle.std.proofs.Common.{◌≡◌, ℕ, List, refl, ap, ◌∙◌, subst, Contains, Option, Some, None, inl, inr, true, [], sym, ◌⊎◌, IsSome, Bool}
use Rattle.register_law.proofs.Words.{KeyId, Stamp, Message, Post, Tag, Found, done, tag_after, Next, Enter, Repair, Stored, Leg, CallState, ToWrite, Happening, Step, counted, is_counted, next_of, eventual_rule, strong_rule, first_tag, proxy_at, is_strong_key, LiveCall, Eventual, EventualMove, Strong, StrongMove, CallTook, Happened, Started, next_call, request_key, IsPushFree, StoreNext as Store, Work as Asked, Store as World}
use Rattle.wire_msg.specs.declared.message.Message.TheVariants as m
use Rattle.strong_proxy.specs.Rule.{step}
use Rattle.register_law.proofs.Basics.{WasPosted, Each, each_none, each_weaker}
use Rattle.register_law.proofs.CallsRows.{IsPlain, move_is_plain, DoneSends, asks, repairs, stores, confirms, done_sends, StartSends, start_ask, start_sends}
use Rattle.register_law.proofs.TagsSent.{IsPushedOn, PostsAre, none, answered, of_start, of_call, posts_are}
use Rattle.register_law.proofs.CallsOthers.{StrongStep, counts_it, ignores_it, strong_step, eventual_out}
use Rattle.register_law.proofs.MarksAre.{start_ticket}
use Rattle.register_law.proofs.CallsStart.{start_view}
use Rattle.register_law.proofs.CallsLive.{view_by, seen_by}
use Rattle.register_law.proofs.TagsCalls.{taken_of, started_as}
use Rattle.register_law.proofs.CallsStrong.{posts_of}

-- a message that the event of a call's answer sends
pub call_sends : (h : Happening) (next : Next) (now : CallState) (message : Message) → h.posts ≡ (done next now).out.posts → WasPosted h message → DoneSends now next message
call_sends h next now message posts c = done_sends next now (record { to = c.0; message = message }) (subst (λ (x : List Post). Contains x (record { to = c.0; message = message })) posts c.1)

-- a call that sends a Repair does Repair next
pub record SendsRepair (now : CallState) (next : Next) (tag : Tag) (key : KeyId) (epoch : ℕ) (stamp : Stamp) (value : List ℕ) : Type 0 where
  pub found : Found
  pub next_is : next ≡ Repair
  pub best_is : now.best ≡ Some found
  pub key_is : now.progress.key ≡ key
  pub stamp_is : found.stamp ≡ stamp
  pub value_is : found.value ≡ value

pub sends_repair : (now : CallState) (next : Next) (tag : Tag) (key : KeyId) (epoch : ℕ) (stamp : Stamp) (value : List ℕ) → DoneSends now next (m.Repair tag key epoch stamp value) → SendsRepair now next tag key epoch stamp value
sends_repair now next tag key epoch stamp value (repairs found best) = record { found = found; next_is = refl; best_is = best; key_is = refl; stamp_is = refl; value_is = refl }

-- a call that sends a Store does Store next
pub record SendsStore (now : CallState) (next : Next) (tag : Tag) (key : KeyId) (stamp : Stamp) (value : List ℕ) : Type 0 where
  pub next_is : next ≡ Store
  pub work_is : now.work ≡ ToWrite value
  pub tag_is : tag_after now.progress ≡ tag
  pub key_is : now.progress.key ≡ key
  pub stamp_is : now.progress.leg.ticket ≡ stamp

pub sends_store : (now : CallState) (next : Next) (tag : Tag) (key : KeyId) (stamp : Stamp) (value : List ℕ) → DoneSends now next (m.Store tag key stamp value) → SendsStore now next tag key stamp value
sends_store now next tag key stamp value (stores own is) = record { next_is = refl; work_is = is; tag_is = refl; key_is = refl; stamp_is = refl }

-- a call that sends an Ask begins a leg next, with its ticket
pub record SendsAsk (now : CallState) (next : Next) (tag : Tag) (key : KeyId) (stamp : Stamp) : Type 0 where
  pub leg : Leg
  pub value : List ℕ
  pub next_is : next ≡ Enter leg
  pub work_is : now.work ≡ ToWrite value
  pub tag_is : tag_after now.progress ≡ tag
  pub key_is : now.progress.key ≡ key
  pub stamp_is : leg.ticket ≡ stamp

pub sends_ask : (now : CallState) (next : Next) (tag : Tag) (key : KeyId) (stamp : Stamp) → DoneSends now next (m.Ask tag key stamp) → SendsAsk now next tag key stamp
sends_ask now next tag key stamp (asks leg value is) = record { leg = leg; value = value; next_is = refl; work_is = is; tag_is = refl; key_is = refl; stamp_is = refl }

-- a call that sends a Confirm has stored
pub record SendsConfirm (now : CallState) (next : Next) (key : KeyId) (stamp : Stamp) : Type 0 where
  pub next_is : next ≡ Stored
  pub stamp_is : now.progress.leg.ticket ≡ stamp
  pub key_is : now.progress.key ≡ key

pub sends_confirm : (now : CallState) (next : Next) (tag : Tag) (key : KeyId) (stamp : Stamp) → DoneSends now next (m.Confirm tag key stamp) → SendsConfirm now next key stamp
sends_confirm now next tag key stamp confirms = record { next_is = refl; stamp_is = refl; key_is = refl }

-- ---- where the Asks, Stores and Repairs of an event come from

-- what a strong call does next at a message
abbrev pub next_by : World → ℕ → Message → CallState → Next
next_by s p message was = next_of (counted was message) (view_by s p message was) (seen_by s p message)

plain_unless : (message : Message) → (IsPushFree message → IsSome (request_key message) → ⊥) → IsPlain message
plain_unless (m.Ask tag key stamp) h = h tt refl
plain_unless (m.Store tag key stamp value) h = h tt refl
plain_unless (m.Repair tag key epoch stamp value) h = h tt refl
plain_unless (m.Confirm tag key stamp) h = h tt refl
plain_unless message h = tt

reply_is_plain : (asked message : Message) → (request_key message ≡ None) ⊎ IsPushedOn asked message → IsPlain message
reply_is_plain asked message (inl without) = plain_unless message (λ free some. let k = subst (λ (o : Option KeyId). IsSome o) without some in cc)
reply_is_plain asked message (inr push) = plain_unless message (λ free some. push.is_push free)

-- a message that isn't plain is the Ask of a write that begins, or of a call that took a message
pub data Demanded (s : World) (h : Happening) (message : Message) : Type 0 where
  plain : IsPlain message → Demanded s h message
  at_start : (p : ℕ) (at : KeyId) (asked : Asked) (st : Started s p at asked h)
      → message ≡ m.Ask (first_tag (next_call s p) st.handle) (start_view s p at).key (start_ticket s p at) → Demanded s h message
  by_call : (p : ℕ) (took : Message) (was : CallState) → CallTook s p took (Strong was) h → is_counted was took ≡ true → h.posts ≡ (done (next_by s p took was) (counted was took)).out.posts → Demanded s h message

start_demands : (s : World) (h : Happening) (p : ℕ) (at : KeyId) (asked : Asked) (st : Started s p at asked h) → Each (Demanded s h) st.taken.out.posts
start_demands s h p at asked st =
    each_weaker (StartSends (first_tag (next_call s p) st.handle) (proxy_at s p).at (start_view s p at) (start_ticket s p at) (is_strong_key s at) asked) (Demanded s h) (by (is_strong_key s at) asked) st.taken.out.posts
    (start_sends _ _ _ _ (is_strong_key s at) asked st.taken (started_as s p at asked h st))
  where
    by : (strongly : Bool) (work : Asked) (sent : Message) → StartSends (first_tag (next_call s p) st.handle) (proxy_at s p).at (start_view s p at) (start_ticket s p at) strongly work sent → Demanded s h sent
    by strongly work sent (start_ask value) = at_start p at asked st refl
    by strongly work sent _ = plain tt

call_demands : (s : World) (h : Happening) (p : ℕ) (message : Message) (was : LiveCall) → CallTook s p message was h → Each (Demanded s h) (taken_of s p message was).out.posts
call_demands s h p message (Strong was) took = by (step was message (view_by s p message was) (seen_by s p message)) (strong_step was message (view_by s p message was) (seen_by s p message)) (posts_of s h p message (Strong was) took)
  where
    by : (made : (Step CallState)) → StrongStep was message (view_by s p message was) (seen_by s p message) made → h.posts ≡ made.out.posts → Each (Demanded s h) made.out.posts
    by made (counts_it counts own is) posts = λ post c. by_call p message was took counts (posts ∙ ap (λ (x : (Step CallState)). x.out.posts) is)
    by made (ignores_it is) posts = subst (λ (x : (Step CallState)). Each (Demanded s h) x.out.posts) (sym is) (each_none (Demanded s h))
call_demands s h p message (Eventual was) took = each_weaker IsPlain (Demanded s h) (λ _ is. plain is) (taken_of s p message (Eventual was)).out.posts (eventual_out was message).posts
call_demands s h p message (StrongMove was) took = each_weaker IsPlain (Demanded s h) (λ _ is. plain is) (taken_of s p message (StrongMove was)).out.posts (move_is_plain strong_rule was message)
call_demands s h p message (EventualMove was) took = each_weaker IsPlain (Demanded s h) (λ _ is. plain is) (taken_of s p message (EventualMove was)).out.posts (move_is_plain eventual_rule was message)

-- of every message of every event
pub demanded : (s : World) (h : Happening) → Happened s h → Each (Demanded s h) h.posts
demanded s h is = by (posts_are s h is)
  where
    from : (posts : List Post) → h.posts ≡ posts → Each (Demanded s h) posts → Each (Demanded s h) h.posts
    from posts e all = subst (λ (x : List Post). Each (Demanded s h) x) (sym e) all

    by : PostsAre s h → Each (Demanded s h) h.posts
    by (none e) = from [] e (each_none (Demanded s h))
    by (answered message sent all) = λ post c. plain (reply_is_plain message post.message (all post c).kind)
    by (of_start p at asked st e) = from st.taken.out.posts e (start_demands s h p at asked st)
    by (of_call p message was took e) = from (taken_of s p message was).out.posts e (call_demands s h p message was took)
