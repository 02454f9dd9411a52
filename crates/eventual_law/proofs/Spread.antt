-- Every event keeps it that the put of each push has sent it to each replica that its member writes to.
use Rattle.std.proofs.Common.{◌≡◌, inl, inr, ℕ, ◌<◌, Bool, true, false, List, refl, sym, ap, ◌∙◌, subst, arith}
use Rattle.std.proofs.lemmas.Option.{same_Some}
use Rattle.register_law.proofs.Words.{and_left}
use Rattle.std.specs.Prelude.{◌==◌, Contains}
use Rattle.std.specs.List.{range_with_len}
use Rattle.span_base.specs.DcSet.{has}
use Rattle.span_base.specs.PolicyParts.{replicas_of}
use Rattle.span_base.proofs.Sets.{has-below}
use Rattle.span_base.specs.declared.ids.DcId.{DcId}
use Rattle.span_base.specs.declared.ids.KeyId.{KeyId}
use Rattle.span_base.specs.declared.dc_set.DcSet.{DcSet}
use Rattle.span_base.specs.declared.policy.Policy.{Policy}
use Rattle.ticket_rules.specs.declared.stamp.Stamp.{Stamp}
use Rattle.wire_msg.specs.declared.tag.Tag.{Tag}
use Rattle.wire_msg.specs.declared.message.Message.{Message}
use Rattle.wire_msg.specs.declared.outputs.Post.{Post}
use Rattle.wire_msg.specs.declared.outputs.View.{View}
use Rattle.wire_msg.specs.declared.actor.Actor.TheVariants as to
use Rattle.wire_msg.specs.declared.message.Message.TheVariants as m
use Rattle.relay_proxy.specs.Routes.{is_direct, directs_below, onward_of, parent_of}
use Rattle.relay_proxy.specs.Rule as eventual
use Rattle.run_marks.specs.declared.mark.Work.{Work}
use Rattle.world_core.specs.State.{Store, proxy_at, view_at, policy_of}
use Rattle.world_core.specs.Calls.{Taken}
use Rattle.world_core.specs.Starting.{first_tag, ticket_of}
use Rattle.world_core.specs.Step.{Happening, is_strong_key}
use Rattle.register_law.specs.Ghost.{Ghost, noted_of}
use Rattle.register_law.specs.Seen.{Grows}
use Rattle.register_law.specs.Cases.{Happened, Started, next_call}
use Rattle.register_law.proofs.Basics.{each_to, sent_or_posted, each_look}
use Rattle.register_law.proofs.MovesKept.{by_start, by_replica, by_directory, Posted, by_call, posted}
use Rattle.register_law.proofs.CallsRows.{opens_get, opens_put, opens_eventual_move, OpensAs, opens_get_any}
use Rattle.replica_core.specs.declared.kept.Kept.{Kept}
use Rattle.register_law.proofs.TagsCalls.{started_opens, started_as}
use Rattle.register_law.proofs.TagsSent.{call_sends, posted_there}
use Rattle.eventual_law.specs.Held.{InvOfEventual}
use Rattle.eventual_law.specs.Quiet.{IsSpread, IsZeroOrPushed, MovesGoOn}
use Rattle.eventual_law.proofs.Passed.{directory_replies}
use Rattle.eventual_law.proofs.Sends.{start_key, no_request}
use Rattle.eventual_law.proofs.Routed.{push_post, same_post, step_passes}
use Rattle.eventual_law.proofs.KeptNow.{KeptNow, kept_still, by_seed, by_push}
use Rattle.eventual_law.proofs.Reached.{push_free}
use Rattle.replica_core.specs.Rule as replica
use Rattle.world_core.specs.State.{replica_at}
use Rattle.std.proofs.lemmas.List.FromFn.{length-range_with_len, get_or-range_with_len}
use Rattle.eventual_law.proofs.Lists.{in_map, into_map, into_filter}

in_range : (d : ℕ) → d < 16 → Contains (range_with_len 0 16) d
in_range d lt = (d, (let len = length-range_with_len 0 16 in omega arith), get_or-range_with_len 0 16 d d lt ∙ omega arith)

-- a put sends its push to each replica that its member writes to
sends_each : (tag : Tag) (at : DcId) (view : View) (ticket : Stamp) (value : List ℕ) (p : ℕ) → is_direct view.policy at.0 p ≡ true → Contains (eventual.opened_put tag at.0 view ticket value).out.posts (push_post p tag view.key ticket (onward_of view.policy at.0 p) value)
unfolding directs_below
sends_each tag at view ticket value p direct =
    into_map (eventual.push_to tag at.0 view ticket value) (directs_below view.policy at.0 16) p
    (into_filter (is_direct view.policy at.0) (range_with_len 0 16) p (in_range p (has-below (replicas_of view.policy) p (and_left (has (replicas_of view.policy) p) (parent_of view.policy at.0 p == p) direct))) direct)

-- what a start that sends a push is: a put
pub record IsPut (tag : Tag) (at : DcId) (view : View) (ticket : Stamp) (taken : Taken) (stamp : Stamp) : Type 0 where
  pub value : List ℕ
  pub posts : taken.out.posts ≡ (eventual.opened_put tag at.0 view ticket value).out.posts
  pub stamp_is : stamp ≡ ticket

-- a message that isn't a push
abbrev IsNoPush : Message → Type 0
IsNoPush (m.Push tag key stamp onward value) = ⊥
IsNoPush _ = Unit {0}

stamp_of : (at : DcId) (view : View) (tag own : Tag) (ticket stamp : Stamp) (held value : List ℕ) (d : ℕ) (key : KeyId) (onward : DcSet) → Contains (eventual.opened_put tag at.0 view ticket held).out.posts (push_post d own key stamp onward value) → stamp ≡ ticket
unfolding directs_below
stamp_of at view tag own ticket stamp held value d key onward c =
    let from = in_map (eventual.push_to tag at.0 view ticket held) (directs_below view.policy at.0 16) (push_post d own key stamp onward value) c in
    (same_post d from.0 own tag key view.key stamp ticket onward (onward_of view.policy at.0 from.0) value held from.2).2

is_put : (tag : Tag) (at : DcId) (view : View) (ticket : Stamp) (strongly : Bool) (work : Work) (taken : Taken) → strongly ≡ false → OpensAs tag at view ticket strongly work taken → (d : ℕ) (own : Tag) (key : KeyId) (stamp : Stamp) (onward : DcSet) (value : List ℕ)
    → Contains taken.out.posts (push_post d own key stamp onward value) → IsPut tag at view ticket taken stamp
is_put tag at view ticket strongly work taken not_strong opens_get d own key stamp onward value c =
    absurd (each_to IsNoPush (eventual.asked_of view at.0 false) (m.Read tag view.key view.epoch) tt (push_post d own key stamp onward value) c)
is_put tag at view ticket strongly work taken not_strong opens_get_any d own key stamp onward value c =
    absurd (each_to IsNoPush (eventual.asked_of view at.0 true) (m.Read tag view.key view.epoch) tt (push_post d own key stamp onward value) c)
is_put tag at view ticket strongly work taken not_strong (opens_put held) d own key stamp onward value c =
    record { value = held; posts = refl; stamp_is = stamp_of at view tag own ticket stamp held value d key onward c }
is_put tag at view ticket strongly work taken not_strong opens_eventual_move d own key stamp onward value c = absurd (each_look IsNoPush tag view.key tt (push_post d own key stamp onward value) c)
is_put tag at view ticket strongly work taken not_strong _ d own key stamp onward value c = absurd (cc)

spread_stays : (key : KeyId) (s : Store) (g : Ghost) (z : Store) (h : Ghost) (stamp : Stamp) → Grows key s g z h → IsSpread key s stamp → IsSpread key z stamp
spread_stays key s g z h stamp grows was = record {
  published = (was.published.0, (let le = was.published.1 in let more = grows.published in omega arith));
  tag = was.tag;
  member = was.member;
  value = was.value;
  sent = subst (λ (x : Policy). (p : ℕ) → is_direct x was.member p ≡ true → Contains z.sent (push_post p was.tag key stamp (onward_of x was.member p) was.value)) (sym (grows.policies stamp.epoch was.published.0 was.published.1))
      (λ p direct. grows.sent (push_post p was.tag key stamp (onward_of (policy_of s key stamp.epoch) was.member p) was.value) (was.sent p direct));
}

-- the push that a put sends at its start
begins_spread : (key : KeyId) (s : Store) (g : Ghost) (h : Happening) → Happened s h → InvOfEventual key s g → Grows key s g h.store (noted_of key s h g) → (p : ℕ) (on : KeyId) (work : Work) (st : Started s p on work h) (d : ℕ) (tag : Tag) (stamp : Stamp) (onward : DcSet) (value : List ℕ)
    → Contains st.taken.out.posts (push_post d tag key stamp onward value) → IsSpread key h.store stamp
begins_spread key s g h is inv grows p on work st d tag stamp onward value c = record {
  published = (let out = inv.epochs.published stamp.epoch (subst (Contains g.opened) at known.0) in let le = out.1 in let more = grows.published in (out.0, omega arith));
  tag = first;
  member = (proxy_at s p).at.0;
  value = put.value;
  sent = λ x direct. posted_there s h is (push_post x first key stamp (onward_of (policy_of h.store key stamp.epoch) (proxy_at s p).at.0 x) put.value)
      (subst (λ (posts : List Post). Contains posts (push_post x first key stamp (onward_of (policy_of h.store key stamp.epoch) (proxy_at s p).at.0 x) put.value)) (sym (ap (λ (y : Happening). y.posts) st.is ∙ put.posts))
      (subst (λ (y : Stamp). Contains (eventual.opened_put first (proxy_at s p).at.0 view drawn put.value).out.posts (push_post x first key y (onward_of (policy_of h.store key stamp.epoch) (proxy_at s p).at.0 x) put.value)) (sym put.stamp_is)
      (subst (λ (y : KeyId). Contains (eventual.opened_put first (proxy_at s p).at.0 view drawn put.value).out.posts (push_post x first y drawn (onward_of (policy_of h.store key stamp.epoch) (proxy_at s p).at.0 x) put.value)) keyed
      (subst (λ (y : Policy). is_direct y (proxy_at s p).at.0 x ≡ true → Contains (eventual.opened_put first (proxy_at s p).at.0 view drawn put.value).out.posts (push_post x first view.key drawn (onward_of y (proxy_at s p).at.0 x) put.value)) policy
      (sends_each first (proxy_at s p).at view drawn put.value x) direct))));
}
  where
    view : View
    view = view_at (proxy_at s p).views on

    drawn : Stamp
    drawn = ticket_of (proxy_at s p) view (next_call s p)

    first : Tag
    first = first_tag (next_call s p) st.handle

    keyed : view.key ≡ key
    keyed = same_Some view.key key (sym ((started_opens s p on work h st).requests (push_post d tag key stamp onward value) c).1)

    same : on ≡ key
    same = start_key key s h p on work inv.known.kinds st keyed

    not_strong : is_strong_key s on ≡ false
    not_strong = ap (λ (x : KeyId). is_strong_key s x) same ∙ inv.known.kinds.eventual

    put : IsPut first (proxy_at s p).at view drawn st.taken stamp
    put = is_put first (proxy_at s p).at view drawn (is_strong_key s on) work st.taken not_strong (started_as s p on work h st) d tag key stamp onward value c

    known : Contains g.opened view.epoch × (view.policy ≡ policy_of s key view.epoch)
    known = subst (λ (x : KeyId). Contains g.opened (view_at (proxy_at s p).views x).epoch × ((view_at (proxy_at s p).views x).policy ≡ policy_of s key (view_at (proxy_at s p).views x).epoch)) (sym same) (inv.views p st.exists)

    at : view.epoch ≡ stamp.epoch
    at = sym (ap (λ (x : Stamp). x.epoch) put.stamp_is)

    policy : view.policy ≡ policy_of h.store key stamp.epoch
    policy = let out = inv.epochs.published view.epoch known.0 in known.1 ∙ sym (grows.policies view.epoch out.0 out.1) ∙ ap (policy_of h.store key) at

spread_now : (key : KeyId) (s : Store) (g : Ghost) (h : Happening) → Happened s h → InvOfEventual key s g → MovesGoOn key s g → Grows key s g h.store (noted_of key s h g) → (d : ℕ) (tag : Tag) (stamp : Stamp) (onward : DcSet) (value : List ℕ) → Posted s h (push_post d tag key stamp onward value) → IsSpread key h.store stamp
spread_now key s g h is inv go grows d tag stamp onward value (by_start p on work st c) = begins_spread key s g h is inv grows p on work st d tag stamp onward value c
spread_now key s g h is inv go grows d tag stamp onward value (by_replica n from sent c) =
    let p = step_passes (replica_at s n).state from (replica.request_key from) d tag key stamp onward value c in
    let was = subst (λ (x : Message). Contains s.sent (record { to = to.Replica n; message = x })) p.from_is sent in
    spread_stays key s g h.store (noted_of key s h g) stamp grows (go.pushed n p.tag stamp p.set p.value was)
spread_now key s g h is inv go grows d tag stamp onward value (by_directory from sent directory_is c) =
    no_request (IsSpread key h.store stamp) key (m.Push tag key stamp onward value) refl (directory_replies s.directory from (push_post d tag key stamp onward value) c)
spread_now key s g h is inv go grows d tag stamp onward value (by_call p from old took c) =
    let sends = call_sends s p from old in
    push_free (IsSpread key h.store stamp) tag key stamp onward value sends.message (sends.copies (push_post d tag key stamp onward value) c) sends.push_free

pub spread_after : (key : KeyId) (s : Store) (g : Ghost) (h : Happening) → Happened s h → InvOfEventual key s g → MovesGoOn key s g → Grows key s g h.store (noted_of key s h g) → (d : ℕ) (tag : Tag) (stamp : Stamp) (onward : DcSet) (value : List ℕ) → Contains h.store.sent (push_post d tag key stamp onward value) → IsSpread key h.store stamp
spread_after key s g h is inv go grows d tag stamp onward value sent =
    elim (sent_or_posted s h is (push_post d tag key stamp onward value) sent) as (λ _. IsSpread key h.store stamp) [
      | inl old ↦ spread_stays key s g h.store (noted_of key s h g) stamp grows (go.pushed d tag stamp onward value old)
      | inr new ↦ spread_now key s g h is inv go grows d tag stamp onward value (posted s h is (push_post d tag key stamp onward value) new)
    ]

-- what a replica keeps after an event
pub pushed_now : (key : KeyId) (s : Store) (g : Ghost) → InvOfEventual key s g → MovesGoOn key s g → (d : ℕ) (new : Kept) → KeptNow key s d new → IsZeroOrPushed key s new.version new.value
pushed_now key s g inv go d new (kept_still version value) = subst (λ (x : Stamp). IsZeroOrPushed key s x new.value) (sym version) (go.versions.kept d)
pushed_now key s g inv go d new (by_seed tag epoch stamp held sent version value) = subst (λ (x : Stamp). IsZeroOrPushed key s x new.value) (sym version) (go.versions.seeded tag epoch stamp held sent)
pushed_now key s g inv go d new (by_push tag stamp onward held sent open_still version value) = subst (λ (x : Stamp). IsZeroOrPushed key s x new.value) (sym version) (inr (go.pushed d tag stamp onward held sent))

pub zero_or_stays : (key : KeyId) (s : Store) (g : Ghost) (z : Store) (h : Ghost) → Grows key s g z h → (stamp : Stamp) (value : List ℕ) → IsZeroOrPushed key s stamp value → IsZeroOrPushed key z stamp value
zero_or_stays key s g z h grows stamp value (inl zero) = inl zero
zero_or_stays key s g z h grows stamp value (inr was) = inr (spread_stays key s g z h stamp grows was)
