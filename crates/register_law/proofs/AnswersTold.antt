-- An answer that an event sends to a request of the key is what some replica answers to it, and tells what it is to tell.
use Rattle.std.proofs.Common.{◌≡◌, ◌⊎◌, inl, inr, ℕ, false, List, [], refl, sym, ap, ◌∙◌, subst, slice_index_or, Option, Some, None, Contains, ◌<◌, Bool, true, arith, if◌then◌else◌}
use Rattle.register_law.proofs.Words.{KeyId, tag_of, Message, Post, answers, kept_after, key_of, Replica, Store, kept_of, no_replica, replica_at, Happening, with_replica, Happened, TakenBy, call_took, directory_took, proxy_learned, replica_took, started, Ghost, Inv, WasSent, IsSamePoint, request_key, none_among, DcId, IsAtMost, grants, stamp_cmp, stores, Stamp, to_proxy, Tag, ask_answer, gone, have, held, merge_answer, read_answer, store_answer, after_merge, after_store, is_over, merge, Kept, is_gt, common_steps, among}
use Rattle.wire_msg.specs.declared.actor.Actor.TheVariants as to
use Rattle.wire_msg.specs.declared.message.Message.TheVariants as m
use Rattle.replica_core.specs.Rule as replica
use Rattle.epoch_directory.specs.State as directory
use Rattle.epoch_directory.specs.Step as directory_step
use Rattle.replica_core.specs.Keeping.{after_freeze}
use Rattle.replica_core.specs.Answering.{done}
use Rattle.register_law.proofs.Kept.{is_request}
use Rattle.register_law.proofs.Basics.{sent_or_posted, point_of, flipped, joined, is_made, either}
use Rattle.register_law.proofs.TagsSent.{replica_answers, directory_answers, Posted, replies, opens, asks, posted, call_sends}
use Rattle.register_law.proofs.TagsCalls.{started_opens}
use Rattle.register_law.proofs.RequestsKept.{Before, fresh_request}
use Rattle.register_law.proofs.RequestsLegs.{LegsBefore}
use Rattle.register_law.proofs.ReplicasKept.{runs_there, became_by}
use Rattle.register_law.proofs.OpeningsTold.{key_is_strong}

pub before_of : (key : KeyId) (s : Store) (g : Ghost) → Inv key s g → Before key s g
before_of key s g inv = record { tags = inv.tags; requests = inv.requests; strong = key_is_strong key s g inv.openings }

pub legs_before : (key : KeyId) (s : Store) (g : Ghost) → Inv key s g → LegsBefore key s g
legs_before key s g inv = record { before = before_of key s g inv; legs = inv.legs }

-- a replica took the request and answered so
pub record Replied (key : KeyId) (s : Store) (h : Happening) (request message : Message) : Type 0 where
  pub d : ℕ
  pub sent : WasSent s request
  pub post : Post
  pub told : Contains (answers d (kept_of s d key) request) post
  pub is : post.message ≡ message
  pub became : kept_of h.store d key ≡ kept_after (kept_of s d key) request

pub step_told : (state : replica.State) (message : Message) (o : Option KeyId) (key : KeyId) (post : Post) → o ≡ Some key → Contains (replica.step_at state message o).out.posts post → Contains (answers state.number (replica.kept_at state key) message) post
step_told state message o key post is c = subst (λ (x : Option KeyId). Contains (replica.step_at state message x).out.posts post) is c

-- a replica took the request itself
took_request : (key : KeyId) (s : Store) (g : Ghost) (h : Happening) (d : ℕ) (request : Message) (post : Post) → Inv key s g → TakenBy s d request → key_of request ≡ Some key
    → h.store.replicas ≡ (with_replica s d (record { stopped = false; state = (replica.step (replica_at s d).state request).state })).replicas → Contains (replica.step (replica_at s d).state request).out.posts post → Replied key s h request post.message
took_request key s g h d request post inv taken at stands c =
    let lt = runs_there s d request taken in
    let seat = inv.replicas.seats d lt in
    record {
      d = d;
      sent = (to.Replica d, taken.sent);
      post = post;
      told = subst (λ n. Contains (answers n (kept_of s d key) request) post) seat.number (step_told (replica_at s d).state request (key_of request) key post at c);
      is = refl;
      became = ap (λ (x : List Replica). replica.kept_at (slice_index_or x d no_replica).state key) stands ∙ became_by key s d request lt seat at;
    }

-- a replica took what has the request's tag
took_same : (key : KeyId) (s : Store) (g : Ghost) (h : Happening) (d : ℕ) (request other : Message) (post : Post) → Inv key s g → TakenBy s d other → key_of request ≡ Some key → other ≡ request
    → h.store.replicas ≡ (with_replica s d (record { stopped = false; state = (replica.step (replica_at s d).state other).state })).replicas → Contains (replica.step (replica_at s d).state other).out.posts post → Replied key s h request post.message
took_same key s g h d request other post inv taken at same stands c =
    took_request key s g h d request post inv (subst (TakenBy s d) same taken) at
    (stands ∙ ap (λ (x : Message). (with_replica s d (record { stopped = false; state = (replica.step (replica_at s d).state x).state })).replicas) same) (subst (λ (x : Message). Contains (replica.step (replica_at s d).state x).out.posts post) same c)

no_post : (X : Type 0) (posts : List Post) (post : Post) → posts ≡ [] → Contains posts post → X
no_post X posts post e c = absurd (none_among post (subst (λ (x : List Post). Contains x post) e c))

-- an event's answer to a request of the key that was sent
pub replied : (key : KeyId) (s : Store) (g : Ghost) (h : Happening) (request : Message) (post : Post) → Inv key s g → Happened s h → WasSent s request → key_of request ≡ Some key → Contains h.posts post → request_key post.message ≡ None → IsSamePoint (tag_of request) (tag_of post.message)
    → Replied key s h request post.message
replied key s g h request post inv (started p k work st) sent at c none same =
    let asked = ((started_opens s p k work h st).requests post (subst (λ (x : List Post). Contains x post) (ap (λ (x : Happening). x.posts) st.is) c)).1 in
    absurd (cc)
replied key s g h request post inv (replica_took d message taken is) sent at c none same =
    let there = subst (λ (x : List Post). Contains x post) (ap (λ (x : Happening). x.posts) is) c in
    let answer = replica_answers (replica_at s d).state message post there in
    let one : request ≡ message = inv.requests.one_request request message sent (to.Replica d, taken.sent) (is_request request key at) answer.asked (joined (tag_of request) (tag_of post.message) (tag_of message) same (point_of (tag_of post.message) (tag_of message) answer.tag)) in
    took_same key s g h d request message post inv taken at (sym one) (ap (λ (x : Happening). x.store.replicas) is) there
replied key s g h request post inv (directory_took message sent_to is) sent at c none same =
    let there = subst (λ (x : List Post). Contains x post) (ap (λ (x : Happening). x.posts) is) c in
    let answer = directory_answers s.directory message post there in
    let one : request ≡ message = inv.requests.one_request request message sent (to.Directory, sent_to) (is_request request key at) answer.asked (joined (tag_of request) (tag_of post.message) (tag_of message) same (point_of (tag_of post.message) (tag_of message) answer.tag)) in
    no_directory (Replied key s h request post.message) s.directory message key post there (subst (λ (x : Message). key_of x ≡ Some key) one at)
  where
    no_directory : (X : Type 0) (state : directory.State) (message : Message) (key : KeyId) (post : Post) → Contains (directory_step.step state message).out.posts post → key_of message ≡ Some key → X
    no_directory X state (m.Lookup tag k) key post c at = absurd (cc)
    no_directory X state (m.Switch tag k closing opening) key post c at = absurd (cc)
    no_directory X state message key post c at = absurd (none_among post c)
replied key s g h request post inv (proxy_learned p message sent_to is) sent at c none same = no_post (Replied key s h request post.message) h.posts post (ap (λ (x : Happening). x.posts) is) c
replied key s g h request post inv (call_took p message call took) sent at c none same =
    let sends = call_sends s p message call in
    let is = sends.copies post (subst (λ (x : List Post). Contains x post) (ap (λ (x : Happening). x.posts) took.is) c) in
    let asked = sends.at_key in
    let key_too = ap request_key is in
    absurd (cc)
replied key s g h request post inv o sent at c none same = no_post (Replied key s h request post.message) h.posts post (ap (λ (x : Happening). x.posts) (is_made s h o)) c

-- a request and an answer were both sent before, or the event answers what was
pub data PairIs (key : KeyId) (s : Store) (h : Happening) (request message : Message) : Type 0 where
  both_sent : WasSent s request → WasSent s message → PairIs key s h request message
  now_replied : Replied key s h request message → PairIs key s h request message

no_new_pair : (X : Type 0) (key : KeyId) (s : Store) (g : Ghost) (h : Happening) (request message : Message) → Before key s g → request_key request ≡ Some key → Posted s h request → Posted s h message → request_key message ≡ None → IsSamePoint (tag_of request) (tag_of message) → X
no_new_pair X key s g h request message b at new (replies from sent answer) none same =
    absurd (fresh_request key s g h request from b new at sent (flipped (tag_of request) (tag_of from) (joined (tag_of request) (tag_of message) (tag_of from) same (point_of (tag_of message) (tag_of from) answer.tag))))
no_new_pair X key s g h request message b at new (opens p k work st tag of free) none same = absurd (cc)
no_new_pair X key s g h request message b at new (asks p taken call post took tag of free c) none same = absurd (cc)

pub pair_is : (key : KeyId) (s : Store) (g : Ghost) (h : Happening) (request message : Message) → Inv key s g → Happened s h → WasSent h.store request → WasSent h.store message → key_of request ≡ Some key → request_key message ≡ None → IsSamePoint (tag_of request) (tag_of message) → PairIs key s h request message
pair_is key s g h request message inv is asked told at none same = by (sent_or_posted s h is pr asked.1) (sent_or_posted s h is pm told.1)
  where
    pr : Post
    pr = record { to = asked.0; message = request }

    pm : Post
    pm = record { to = told.0; message = message }

    by : Contains s.sent pr ⊎ Contains h.posts pr → Contains s.sent pm ⊎ Contains h.posts pm → PairIs key s h request message
    by (inl x) (inl y) = both_sent (asked.0, x) (told.0, y)
    by (inl x) (inr y) = now_replied (replied key s g h request pm inv is (asked.0, x) at y none same)
    by (inr x) (inl y) = absurd (fresh_request key s g h request message (before_of key s g inv) (posted s h is pr x) (is_request request key at) (told.0, y) (flipped (tag_of request) (tag_of message) same))
    by (inr x) (inr y) = no_new_pair (PairIs key s h request message) key s g h request message (before_of key s g inv) (is_request request key at) (posted s h is pr x) (posted s h is pm y) none same

-- ---- what a replica that answered so had, or has now

pub merged_has : (kept : Kept) (stamp : Stamp) (value : List ℕ) → IsAtMost stamp (merge kept stamp value).version
merged_has kept stamp value = by (is_gt (stamp_cmp stamp kept.version)) refl
  where
    by : (b : Bool) → is_gt (stamp_cmp stamp kept.version) ≡ b → IsAtMost stamp (if b then record kept { version = stamp; value = value } else kept).version
    by true e = grind (arith, common_steps)
    by false e = grind (arith, common_steps)

-- what is kept isn't frozen for the epoch, and has the stamp
pub record Reaches (epoch : ℕ) (stamp : Stamp) (kept : Kept) : Type 0 where
  pub open_still : kept.frozen < epoch
  pub has : IsAtMost stamp kept.version

-- a replica's answer that shows what it kept
pub record Shows (n d : ℕ) (kept : Kept) (version mark : Stamp) (value : List ℕ) : Type 0 where
  pub same : n ≡ d
  pub version_is : kept.version ≡ version
  pub mark_is : kept.mark ≡ mark
  pub value_is : kept.value ≡ value

have_shows : (n d : ℕ) (kept : Kept) (tag other : Tag) (version mark : Stamp) (value : List ℕ) → have n kept tag ≡ m.Have other (record { 0 = d }) version mark value → Shows n d kept version mark value
have_shows n d kept tag other version mark value e =
    let a : DcId = record { 0 = n } in
    let b : DcId = record { 0 = d } in
    let replicas : a ≡ b = cc in
    record { same = ap (λ (x : DcId). x.0) replicas; version_is = cc; mark_is = cc; value_is = cc }

yes_same : (n d : ℕ) (tag other : Tag) → done n tag ≡ m.Yes other (record { 0 = d }) → n ≡ d
yes_same n d tag other e =
    let a : DcId = record { 0 = n } in
    let b : DcId = record { 0 = d } in
    let replicas : a ≡ b = cc in
    ap (λ (x : DcId). x.0) replicas

pub still_open : (kept : Kept) (epoch : ℕ) → is_over kept epoch ≡ false → kept.frozen < epoch
still_open kept epoch h = grind (arith, common_steps)

merge_reaches : (epoch : ℕ) (stamp : Stamp) (kept : Kept) (value : List ℕ) → kept.frozen < epoch → Reaches epoch stamp (merge kept stamp value)
merge_reaches epoch stamp kept value lt = record {
  open_still = either (λ (x : Kept). x.frozen < epoch) (is_gt (stamp_cmp stamp kept.version)) (record kept { version = stamp; value = value }) kept lt lt;
  has = merged_has kept stamp value;
}

read_told : (n d : ℕ) (kept : Kept) (tag other : Tag) (epoch : ℕ) (version mark : Stamp) (value : List ℕ) → read_answer n kept tag epoch ≡ m.Have other (record { 0 = d }) version mark value → (kept.frozen < epoch) × Shows n d kept version mark value
read_told n d kept tag other epoch version mark value h = by (is_over kept epoch) refl h
  where
    by : (b : Bool) → is_over kept epoch ≡ b → (if b then gone n kept tag else have n kept tag) ≡ m.Have other (record { 0 = d }) version mark value → (kept.frozen < epoch) × Shows n d kept version mark value
    by true e z = absurd (cc)
    by false e z = (still_open kept epoch e, have_shows n d kept tag other version mark value z)

ask_told : (n d : ℕ) (kept : Kept) (tag other : Tag) (stamp : Stamp) → ask_answer n kept tag stamp ≡ m.Yes other (record { 0 = d }) → (n ≡ d) × (kept.frozen < stamp.epoch) × (grants stamp kept.fence kept.version ≡ true)
ask_told n d kept tag other stamp h = by (is_over kept stamp.epoch) (grants stamp kept.fence kept.version) refl refl h
  where
    by : (b c : Bool) → is_over kept stamp.epoch ≡ b → grants stamp kept.fence kept.version ≡ c → (if b then gone n kept tag else (if c then done n tag else held n kept tag)) ≡ m.Yes other (record { 0 = d }) → (n ≡ d) × (kept.frozen < stamp.epoch) × (grants stamp kept.fence kept.version ≡ true)
    by true c e f z = absurd (cc)
    by false false e f z = absurd (cc)
    by false true e f z = (yes_same n d tag other z, still_open kept stamp.epoch e, f)

store_told : (n d : ℕ) (kept : Kept) (tag other : Tag) (stamp : Stamp) (value : List ℕ) → store_answer n kept tag stamp ≡ m.Yes other (record { 0 = d }) → (n ≡ d) × Reaches stamp.epoch stamp (after_store kept stamp value)
store_told n d kept tag other stamp value h = by (is_over kept stamp.epoch) (stores stamp kept.fence) refl refl h
  where
    by : (b c : Bool) → is_over kept stamp.epoch ≡ b → stores stamp kept.fence ≡ c → (if b then gone n kept tag else (if c then done n tag else held n kept tag)) ≡ m.Yes other (record { 0 = d }) → (n ≡ d) × Reaches stamp.epoch stamp (after_store kept stamp value)
    by true c e f z = absurd (cc)
    by false false e f z = absurd (cc)
    by false true e f z = (yes_same n d tag other z, rw e (rw f (merge_reaches stamp.epoch stamp kept value (still_open kept stamp.epoch e))))

pub merge_told : (n d : ℕ) (kept : Kept) (tag other : Tag) (epoch : ℕ) (stamp : Stamp) (value : List ℕ) → merge_answer n kept tag epoch ≡ m.Yes other (record { 0 = d }) → (n ≡ d) × Reaches epoch stamp (after_merge kept epoch stamp value)
merge_told n d kept tag other epoch stamp value h = by (is_over kept epoch) refl h
  where
    by : (b : Bool) → is_over kept epoch ≡ b → (if b then gone n kept tag else done n tag) ≡ m.Yes other (record { 0 = d }) → (n ≡ d) × Reaches epoch stamp (after_merge kept epoch stamp value)
    by true e z = absurd (cc)
    by false e z = (yes_same n d tag other z, rw e (merge_reaches epoch stamp kept value (still_open kept epoch e)))

pub one_told : (tag : Tag) (message : Message) (post : Post) → Contains (to_proxy tag message) post → message ≡ post.message
one_told tag message post c =
    elim (among (record { to = to.Proxy tag.call.proxy; message = message }) [] post c) as (λ _. message ≡ post.message) [ inl is ↦ ap (λ (x : Post). x.message) (sym is) | inr more ↦ absurd (none_among post more) ]

-- a Have to a Read
pub read_replied : (key : KeyId) (s : Store) (h : Happening) (tag other : Tag) (epoch d : ℕ) (version mark : Stamp) (value : List ℕ) → Replied key s h (m.Read tag key epoch) (m.Have other (record { 0 = d }) version mark value)
    → ((kept_of s d key).frozen < epoch) × Shows d d (kept_of s d key) version mark value
read_replied key s h tag other epoch d version mark value r =
    let told = read_told r.d d (kept_of s r.d key) tag other epoch version mark value (one_told tag (read_answer r.d (kept_of s r.d key) tag epoch) r.post r.told ∙ r.is) in
    let shows = told.1 in
    subst (λ n. ((kept_of s n key).frozen < epoch) × Shows d d (kept_of s n key) version mark value) shows.same (told.0, record { same = refl; version_is = shows.version_is; mark_is = shows.mark_is; value_is = shows.value_is })

-- a Have to a Freeze
pub record Froze (key : KeyId) (s : Store) (h : Happening) (epoch d : ℕ) (version mark : Stamp) (value : List ℕ) : Type 0 where
  pub shows : Shows d d (kept_of s d key) version mark value
  pub became : kept_of h.store d key ≡ after_freeze (kept_of s d key) epoch

pub freeze_replied : (key : KeyId) (s : Store) (h : Happening) (tag other : Tag) (epoch d : ℕ) (version mark : Stamp) (value : List ℕ) → Replied key s h (m.Freeze tag key epoch) (m.Have other (record { 0 = d }) version mark value)
    → Froze key s h epoch d version mark value
freeze_replied key s h tag other epoch d version mark value r =
    let shows = have_shows r.d d (kept_of s r.d key) tag other version mark value (one_told tag (have r.d (kept_of s r.d key) tag) r.post r.told ∙ r.is) in
    subst (λ n. Shows d d (kept_of s n key) version mark value → kept_of h.store n key ≡ after_freeze (kept_of s n key) epoch → Froze key s h epoch d version mark value) (sym shows.same) (λ x y. record { shows = x; became = y })
    (record { same = refl; version_is = shows.version_is; mark_is = shows.mark_is; value_is = shows.value_is }) r.became

-- a Yes to an Ask
pub ask_replied : (key : KeyId) (s : Store) (h : Happening) (tag other : Tag) (stamp : Stamp) (d : ℕ) → Replied key s h (m.Ask tag key stamp) (m.Yes other (record { 0 = d }))
    → ((kept_of s d key).frozen < stamp.epoch) × (grants stamp (kept_of s d key).fence (kept_of s d key).version ≡ true)
ask_replied key s h tag other stamp d r =
    let told = ask_told r.d d (kept_of s r.d key) tag other stamp (one_told tag (ask_answer r.d (kept_of s r.d key) tag stamp) r.post r.told ∙ r.is) in
    subst (λ n. ((kept_of s n key).frozen < stamp.epoch) × (grants stamp (kept_of s n key).fence (kept_of s n key).version ≡ true)) told.0 (told.1, told.2)

pub reached_now : (key : KeyId) (h : Happening) (n d epoch : ℕ) (stamp : Stamp) (new : Kept) → n ≡ d → kept_of h.store n key ≡ new → Reaches epoch stamp new → Reaches epoch stamp (kept_of h.store d key)
reached_now key h n d epoch stamp new same became r = subst (λ x. Reaches epoch stamp (kept_of h.store x key)) same (subst (Reaches epoch stamp) (sym became) r)

-- a Yes to a Store
pub store_replied : (key : KeyId) (s : Store) (h : Happening) (tag other : Tag) (stamp : Stamp) (value : List ℕ) (d : ℕ) → Replied key s h (m.Store tag key stamp value) (m.Yes other (record { 0 = d })) → Reaches stamp.epoch stamp (kept_of h.store d key)
store_replied key s h tag other stamp value d r =
    let told = store_told r.d d (kept_of s r.d key) tag other stamp value (one_told tag (store_answer r.d (kept_of s r.d key) tag stamp) r.post r.told ∙ r.is) in
    reached_now key h r.d d stamp.epoch stamp (after_store (kept_of s r.d key) stamp value) told.0 r.became told.1

-- a Yes to a Repair
pub repair_replied : (key : KeyId) (s : Store) (h : Happening) (tag other : Tag) (epoch : ℕ) (stamp : Stamp) (value : List ℕ) (d : ℕ) → Replied key s h (m.Repair tag key epoch stamp value) (m.Yes other (record { 0 = d })) → Reaches epoch stamp (kept_of h.store d key)
repair_replied key s h tag other epoch stamp value d r =
    let told = merge_told r.d d (kept_of s r.d key) tag other epoch stamp value (one_told tag (merge_answer r.d (kept_of s r.d key) tag epoch) r.post r.told ∙ r.is) in
    reached_now key h r.d d epoch stamp (after_merge (kept_of s r.d key) epoch stamp value) told.0 r.became told.1

-- a Yes to a Seed
pub seed_replied : (key : KeyId) (s : Store) (h : Happening) (tag other : Tag) (epoch : ℕ) (stamp : Stamp) (value : List ℕ) (d : ℕ) → Replied key s h (m.Seed tag key epoch stamp value) (m.Yes other (record { 0 = d })) → Reaches epoch stamp (kept_of h.store d key)
seed_replied key s h tag other epoch stamp value d r =
    let told = merge_told r.d d (kept_of s r.d key) tag other epoch stamp value (one_told tag (merge_answer r.d (kept_of s r.d key) tag epoch) r.post r.told ∙ r.is) in
    reached_now key h r.d d epoch stamp (after_merge (kept_of s r.d key) epoch stamp value) told.0 r.became told.1
