-- Where the pushes of an eventual key go: a put sends them to replicas of its view, and a replica passes them on to those that it is told.
use Rattle.std.proofs.Common.{◌≡◌, inl, inr, ℕ, ◌==◌, ◌&&◌, Bool, true, false, List, ◌++◌, refl, sym, ap, ◌∙◌, subst}
use Rattle.register_law.proofs.Words.{and_left, and_right}
use Rattle.std.specs.Prelude.{nat_lt, not, if◌then◌else◌, Option, Some, None, Contains}
use Rattle.std.specs.List.{range_with_len}
use Rattle.std.proofs.lemmas.List.Elements.{All-contains, Contains-append_cases, filter_passes}
use Rattle.span_base.specs.DcSet.{has, no_centre, centres_of}
use Rattle.span_base.specs.PolicyParts.{replicas_of}
use Rattle.span_base.proofs.Sets.{All-centres_of}
use Rattle.span_base.specs.declared.ids.DcId.{DcId}
use Rattle.span_base.specs.declared.ids.KeyId.{KeyId}
use Rattle.span_base.specs.declared.dc_set.DcSet.{DcSet}
use Rattle.ticket_rules.specs.declared.stamp.Stamp.{Stamp}
use Rattle.wire_msg.specs.declared.tag.Tag.{Tag}
use Rattle.wire_msg.specs.declared.message.Message.{Message}
use Rattle.wire_msg.specs.declared.outputs.Post.{Post}
use Rattle.wire_msg.specs.declared.outputs.View.{View}
use Rattle.wire_msg.specs.Posts.{to_proxy}
use Rattle.wire_msg.specs.declared.actor.Actor.TheVariants as to
use Rattle.wire_msg.specs.declared.message.Message.TheVariants as m
use Rattle.relay_proxy.specs.Routes.{is_direct, is_onward, directs_below, onward_of, parent_of}
use Rattle.relay_proxy.specs.Rule as eventual
use Rattle.relay_proxy.proofs.SetOf.{has_set_of}
use Rattle.replica_core.specs.declared.kept.Kept.{Kept}
use Rattle.replica_core.specs.Keeping.{is_over}
use Rattle.replica_core.specs.Answering.{gone, done, push_to, pushes_to, push_posts, answers}
use Rattle.replica_core.specs.Rule as replica
use Rattle.run_marks.specs.declared.mark.Work.{Work}
use Rattle.world_core.specs.Calls.{Taken}
use Rattle.register_law.proofs.Basics.{each_to, each_look}
use Rattle.register_law.proofs.CallsRows.{opens_get, opens_put, opens_eventual_move, OpensAs, opens_get_any}
use Rattle.register_order.proofs.Members.{none_among, only}
use Rattle.eventual_law.proofs.Lists.{in_map}

-- the centres of a set are in it
in_set : (set : DcSet) (d : ℕ) → Contains (centres_of set) d → has set d ≡ true
in_set set d c = All-contains (λ e. has set e ≡ true) (centres_of set) d (All-centres_of set) c

-- a push and where it goes
abbrev pub push_post : ℕ → Tag → KeyId → Stamp → DcSet → List ℕ → Post
push_post d tag key stamp onward value = record { to = to.Replica d; message = m.Push tag key stamp onward value }

-- a push that a put sends goes to a replica of its view's policy, and is passed on to such
pub record IsAimed (view : View) (ticket : Stamp) (d : ℕ) (key : KeyId) (stamp : Stamp) (onward : DcSet) : Type 0 where
  pub key_is : key ≡ view.key
  pub stamp_is : stamp ≡ ticket
  pub here : has (replicas_of view.policy) d ≡ true
  pub onwards : (e : ℕ) → has onward e ≡ true → has (replicas_of view.policy) e ≡ true

onward_is : (view : View) (at p e : ℕ) → has (onward_of view.policy at p) e ≡ true → has (replicas_of view.policy) e ≡ true
onward_is view at p e there =
    let test : is_onward view.policy at p e ≡ true = and_right (nat_lt e 16) (is_onward view.policy at p e) (sym (has_set_of (is_onward view.policy at p) e) ∙ there) in
    and_left (has (replicas_of view.policy) e) (parent_of view.policy at e == p) (and_left (has (replicas_of view.policy) e && (parent_of view.policy at e == p)) (not (e == p)) test)

pub same_post : (d p : ℕ) (tag other : Tag) (key at : KeyId) (stamp ticket : Stamp) (onward set : DcSet) (value held : List ℕ) → push_post d tag key stamp onward value ≡ push_post p other at ticket set held → (d ≡ p) × (key ≡ at) × (stamp ≡ ticket) × (onward ≡ set)
same_post d p tag other key at stamp ticket onward set value held e =
    let where_to : to.Replica d ≡ to.Replica p = ap (λ (x : Post). x.to) e in
    let what : m.Push tag key stamp onward value ≡ m.Push other at ticket set held = ap (λ (x : Post). x.message) e in
    (cc, cc, cc, cc)

aimed : (tag : Tag) (at : DcId) (view : View) (ticket : Stamp) (held : List ℕ) (d : ℕ) (own : Tag) (key : KeyId) (stamp : Stamp) (onward : DcSet) (value : List ℕ) → Contains (eventual.opened_put tag at.0 view ticket held).out.posts (push_post d own key stamp onward value) → IsAimed view ticket d key stamp onward
unfolding directs_below
aimed tag at view ticket held d own key stamp onward value c =
    let from = in_map (eventual.push_to tag at.0 view ticket held) (directs_below view.policy at.0 16) (push_post d own key stamp onward value) c in
    let e = same_post d from.0 own tag key view.key stamp ticket onward (onward_of view.policy at.0 from.0) value held from.2 in
    let direct : is_direct view.policy at.0 from.0 ≡ true = All-contains (λ x. is_direct view.policy at.0 x ≡ true) (directs_below view.policy at.0 16) from.0 (filter_passes (is_direct view.policy at.0) (range_with_len 0 16)) from.1 in
    record {
      key_is = e.1;
      stamp_is = e.2;
      here = subst (λ n. has (replicas_of view.policy) n ≡ true) (sym e.0) (and_left (has (replicas_of view.policy) from.0) (parent_of view.policy at.0 from.0 == from.0) direct);
      onwards = λ x there. onward_is view at.0 from.0 x (subst (λ (y : DcSet). has y x ≡ true) e.3 there);
    }

-- a message that isn't a push
abbrev IsNoPush : Message → Type 0
IsNoPush (m.Push tag key stamp onward value) = ⊥
IsNoPush _ = Unit {0}

pub start_aimed : (tag : Tag) (at : DcId) (view : View) (ticket : Stamp) (strongly : Bool) (work : Work) (taken : Taken) → strongly ≡ false → OpensAs tag at view ticket strongly work taken → (d : ℕ) (own : Tag) (key : KeyId) (stamp : Stamp) (onward : DcSet) (value : List ℕ)
    → Contains taken.out.posts (push_post d own key stamp onward value) → IsAimed view ticket d key stamp onward
start_aimed tag at view ticket strongly work taken not_strong opens_get d own key stamp onward value c =
    absurd (each_to IsNoPush (eventual.asked_of view at.0 false) (m.Read tag view.key view.epoch) tt (push_post d own key stamp onward value) c)
start_aimed tag at view ticket strongly work taken not_strong opens_get_any d own key stamp onward value c =
    absurd (each_to IsNoPush (eventual.asked_of view at.0 true) (m.Read tag view.key view.epoch) tt (push_post d own key stamp onward value) c)
start_aimed tag at view ticket strongly work taken not_strong (opens_put held) d own key stamp onward value c = aimed tag at view ticket held d own key stamp onward value c
start_aimed tag at view ticket strongly work taken not_strong opens_eventual_move d own key stamp onward value c = absurd (each_look IsNoPush tag view.key tt (push_post d own key stamp onward value) c)
start_aimed tag at view ticket strongly work taken not_strong _ d own key stamp onward value c = absurd (cc)

-- a push that a replica passes on
pub record IsPassed (from : Message) (d : ℕ) (key : KeyId) (stamp : Stamp) (onward : DcSet) : Type 0 where
  pub tag : Tag
  pub set : DcSet
  pub value : List ℕ
  pub from_is : from ≡ m.Push tag key stamp set value
  pub there : has set d ≡ true
  pub none : onward ≡ no_centre

to_proxy_only : (X : Type 0) (tag : Tag) (message : Message) (post : Post) (d : ℕ) → post.to ≡ to.Replica d → Contains (to_proxy tag message) post → X
to_proxy_only X tag message post d to_is c = absurd (let e : post.to ≡ to.Proxy tag.call.proxy = ap (λ (x : Post). x.to) (only (record { to = to.Proxy tag.call.proxy; message = message }) post c) in cc)

push_passed : (n : ℕ) (kept : Kept) (at : Tag) (on : KeyId) (t : Stamp) (set : DcSet) (v : List ℕ) (d : ℕ) (tag : Tag) (key : KeyId) (stamp : Stamp) (onward : DcSet) (value : List ℕ) → Contains (push_posts n kept at on t set v) (push_post d tag key stamp onward value) → IsPassed (m.Push at on t set v) d key stamp onward
push_passed n kept at on t set v d tag key stamp onward value c = by (is_over kept t.epoch) c
  where
    post : Post
    post = push_post d tag key stamp onward value

    passed : Contains (pushes_to at on t v set) post → IsPassed (m.Push at on t set v) d key stamp onward
    passed x =
        let from = in_map (push_to at on t v) (centres_of set) post x in
        let e = same_post d from.0 tag at key on stamp t onward no_centre value v from.2 in
        record {
          tag = at;
          set = set;
          value = v;
          from_is = ap (λ (y : KeyId). m.Push at y t set v) (sym e.1) ∙ ap (λ (y : Stamp). m.Push at key y set v) (sym e.2);
          there = subst (λ k. has set k ≡ true) (sym e.0) (in_set set from.0 from.1);
          none = e.3;
        }

    by : (b : Bool) → Contains (if b then to_proxy at (gone n kept at) else to_proxy at (done n at) ++ pushes_to at on t v set) post → IsPassed (m.Push at on t set v) d key stamp onward
    by true x = to_proxy_only (IsPassed (m.Push at on t set v) d key stamp onward) at (gone n kept at) post d refl x
    by false x = elim (Contains-append_cases (to_proxy at (done n at)) (pushes_to at on t v set) post x) as (λ _. IsPassed (m.Push at on t set v) d key stamp onward) [
      | inl a ↦ to_proxy_only (IsPassed (m.Push at on t set v) d key stamp onward) at (done n at) post d refl a
      | inr b ↦ passed b
    ]

answers_pass : (n : ℕ) (kept : Kept) (from : Message) (d : ℕ) (tag : Tag) (key : KeyId) (stamp : Stamp) (onward : DcSet) (value : List ℕ) → Contains (answers n kept from) (push_post d tag key stamp onward value) → IsPassed from d key stamp onward
answers_pass n kept (m.Read at on epoch) d tag key stamp onward value c = to_proxy_only (IsPassed (m.Read at on epoch) d key stamp onward) at _ (push_post d tag key stamp onward value) d refl c
answers_pass n kept (m.Ask at on t) d tag key stamp onward value c = to_proxy_only (IsPassed (m.Ask at on t) d key stamp onward) at _ (push_post d tag key stamp onward value) d refl c
answers_pass n kept (m.Store at on t v) d tag key stamp onward value c = to_proxy_only (IsPassed (m.Store at on t v) d key stamp onward) at _ (push_post d tag key stamp onward value) d refl c
answers_pass n kept (m.Repair at on epoch t v) d tag key stamp onward value c = to_proxy_only (IsPassed (m.Repair at on epoch t v) d key stamp onward) at _ (push_post d tag key stamp onward value) d refl c
answers_pass n kept (m.Freeze at on epoch) d tag key stamp onward value c = to_proxy_only (IsPassed (m.Freeze at on epoch) d key stamp onward) at _ (push_post d tag key stamp onward value) d refl c
answers_pass n kept (m.Seed at on epoch t v) d tag key stamp onward value c = to_proxy_only (IsPassed (m.Seed at on epoch t v) d key stamp onward) at _ (push_post d tag key stamp onward value) d refl c
answers_pass n kept (m.Push at on t set v) d tag key stamp onward value c = push_passed n kept at on t set v d tag key stamp onward value c
answers_pass n kept message d tag key stamp onward value c = absurd (none_among (push_post d tag key stamp onward value) c)

pub step_passes : (state : replica.State) (from : Message) (o : Option KeyId) (d : ℕ) (tag : Tag) (key : KeyId) (stamp : Stamp) (onward : DcSet) (value : List ℕ) → Contains (replica.step_at state from o).out.posts (push_post d tag key stamp onward value) → IsPassed from d key stamp onward
step_passes state from None d tag key stamp onward value c = absurd (none_among (push_post d tag key stamp onward value) c)
step_passes state from (Some on) d tag key stamp onward value c = answers_pass state.number (replica.kept_at state on) from d tag key stamp onward value c
