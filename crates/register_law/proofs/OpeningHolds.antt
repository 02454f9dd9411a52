-- The invariant holds in the state that a header opens.
use Rattle.std.proofs.Common.{◌≡◌, ℕ, ◌<◌, refl, sym, ap, ◌∙◌, subst, inl, List, [], ◌∷◌, ◌++◌, arith, zero, suc, map, length, replicate, slice_index, slice_index_or, Contains, inr}
use Rattle.std.proofs.lemmas.List.{length-replicate}
use Rattle.register_law.proofs.Words.{KeyId, IsStrongKey, key_set, opening, Header, KeysAgree, IsQuorumPolicy, DcId, IsAtMost, stamp_zero, View, Kept, current_of, KeySet, Mark, IsHeader, Replica, no_proxy, no_replica, no_view, opening_proxy, opening_replica, opening_view, policy_of, proxy_at, replica_at, view_at, OpeningsAreBacked, first_ghost, Inv, IsSeat, ReplicasAreBacked, IsKept, IsKnown, range_with_len, NotedLeg as Leg, IsAtMost-refl, length-map, length-range_with_len, get_or-map-range_with_len, among, none_among}
use Rattle.wire_msg.specs.declared.message.Message.TheVariants as m
use Rattle.replica_core.specs.Keeping as keeping
use Rattle.run_marks.specs.declared.mark.Mark.TheVariants as mk
use Rattle.world_core.specs.declared.live.LiveCall.TheVariants as live_call
use Rattle.register_law.proofs.Opening.{nothing_sent, none_live, nothing_kept, policy_is, quorum_at_first, zero_kept}

pub keys_agree_first : (header : Header) (key : KeyId) → IsStrongKey header key.0 → KeysAgree key (opening header)
unfolding opening
keys_agree_first header key k = record {
  exists = subst (λ n. key.0 < n) (sym (length-replicate (length (map key_set header.keys)) 1 ∙ length-map header.keys key_set)) k.exists;
  here_asked = λ tag at epoch policy newest newest_policy sent. absurd (nothing_sent header (m.Here tag at epoch policy newest newest_policy) sent);
  switched_asked = λ tag at done epoch sent. absurd (nothing_sent header (m.Switched tag at done epoch) sent);
}

-- ---- the invariant holds of the state that a header opens

-- each replica has its number, and keeps each key
pub opening_seats : (header : Header) (key : KeyId) → key.0 < length header.keys → (d : ℕ) → d < length (opening header).replicas → IsSeat key d (replica_at (opening header) d).state
unfolding opening
opening_seats header key k d lt =
    let all : length (map (opening_replica (length header.keys)) (range_with_len 0 header.replicas)) ≡ length (range_with_len 0 header.replicas) = length-map (range_with_len 0 header.replicas) (opening_replica (length header.keys)) in
    let many = length-range_with_len 0 header.replicas in
    let is : slice_index_or (map (opening_replica (length header.keys)) (range_with_len 0 header.replicas)) d no_replica ≡ opening_replica (length header.keys) d = get_or-map-range_with_len (opening_replica (length header.keys)) 0 header.replicas d d no_replica (omega arith) (omega arith) in
    let long = length-replicate (length header.keys) keeping.opening in
    subst (λ (x : Replica). IsSeat key d x.state) (sym is) (record { number = refl; holds = omega arith })

opening_replicas : (header : Header) (key : KeyId) → IsHeader header → IsStrongKey header key.0 → ReplicasAreBacked key (opening header) first_ghost
opening_replicas header key h k = record {
  seats = opening_seats header key k.exists;
  version_known = λ d. subst (λ (x : Kept). IsKnown key (opening header) x.version x.value) (sym (nothing_kept header d key)) (inl (refl, refl));
  mark_kept = λ d. subst (λ (x : Kept). IsKept key (opening header) first_ghost x.mark) (sym (nothing_kept header d key)) (zero_kept header key h k);
  fence_asked = λ d. inl (ap (λ (x : Kept). x.fence) (nothing_kept header d key));
  fixed_below = λ d e _. subst (λ (x : Kept). IsAtMost stamp_zero x.version) (sym (nothing_kept header d key)) (IsAtMost-refl stamp_zero);
}

pub view_is : (header : Header) (key : KeyId) (p : ℕ) → key.0 < length header.keys → p < length header.proxies → view_at (proxy_at (opening header) p).views key ≡ opening_view header.sets header.keys key.0
unfolding opening
view_is header key p lk lp = at header.proxies p lp
  where
    at : (xs : List DcId) (i : ℕ) → i < length xs → view_at (slice_index_or (map (opening_proxy header) xs) i no_proxy).views key ≡ opening_view header.sets header.keys key.0
    at [] i lt = absurd (omega (arith, lt))
    at (x ∷ xs) zero lt = get_or-map-range_with_len (opening_view header.sets header.keys) 0 (length header.keys) key.0 key.0 no_view lk (omega arith)
    at (x ∷ xs) (suc i) lt = at xs i (omega arith)

-- each view is of its key
pub opening_view_keys : (header : Header) (p : ℕ) (key : KeyId) → p < length (opening header).proxies → key.0 < length (opening header).directory.sets → (view_at (proxy_at (opening header) p).views key).key ≡ key
unfolding opening
opening_view_keys header p key lp lk =
    let proxies = length-map header.proxies (opening_proxy header) in
    let keys = length-map header.keys key_set in
    let sets = length-map (map key_set header.keys) (λ (k : KeySet). k.set.0) in
    ap (λ (v : View). v.key) (view_is header key p (omega arith) (omega arith))

only_one : (e : ℕ) → Contains (1 ∷ []) e → e ≡ 1
only_one e h = elim (among 1 [] e h) as (λ _. e ≡ 1) [ inl is ↦ is | inr none ↦ absurd (none_among e none) ]

pub current_is : (header : Header) (key : KeyId) → key.0 < length header.keys → current_of (opening header).directory key ≡ 1
unfolding opening
current_is header key lt = at (length (map key_set header.keys)) key.0 (let h = length-map header.keys key_set in omega arith)
  where
    at : (n i : ℕ) → i < n → slice_index (replicate n 1) i ≡ 1
    at zero i lt = absurd (omega (arith, lt))
    at (suc n) zero lt = refl
    at (suc n) (suc i) lt = at n i (omega arith)

opening_openings : (header : Header) (key : KeyId) → IsHeader header → IsStrongKey header key.0 → OpeningsAreBacked key (opening header) first_ghost
unfolding opening
opening_openings header key h k = record {
  chain = refl;
  newest = sym (current_is header key k.exists);
  published = λ e c. let is = only_one e c in (omega arith, omega arith);
  view_opened = λ p lt.
      let here : p < length header.proxies = let l = length-map header.proxies (opening_proxy header) in omega arith in
      subst (λ (v : View). Contains (1 ∷ []) v.epoch × (v.policy ≡ policy_of (opening header) key v.epoch)) (sym (view_is header key p k.exists here)) ((0, omega arith, refl), sym (policy_is header key));
  policies_quorum = λ e a b. let is : e ≡ 1 = omega arith in subst (λ n. IsQuorumPolicy (policy_of (opening header) key n)) (sym is) (quorum_at_first header key h k);
}

-- before anything happened
pub opening_holds : (header : Header) (key : KeyId) → IsHeader header → IsStrongKey header key.0 → Inv key (opening header) first_ghost
opening_holds header key h k = record {
  keys = keys_agree_first header key k;
  tags = record {
    sent_numbered = λ message sent. absurd (nothing_sent header message sent);
    live_numbered = λ p handle call live. absurd (none_live header p handle call live);
    live_once = λ p a b first second live _ _. absurd (none_live header p a first live);
    view_keys = opening_view_keys header;
    phase_bound = λ p handle call message live _ _. absurd (none_live header p handle call live);
    answers_asked = λ message sent _. absurd (nothing_sent header message sent);
  };
  requests = record {
    one_request = λ a b sent _ _ _ _. absurd (nothing_sent header a sent);
    request_begun = λ request sent _. absurd (nothing_sent header request sent);
    no_push = λ message sent _. absurd (nothing_sent header message sent);
    live_begun = λ p handle call live _. absurd (none_live header p handle call live);
    begun_live = λ p handle call live _. absurd (none_live header p handle call live);
    begun_numbered = λ call some. absurd (cc);
  };
  strong = λ p handle call live. absurd (none_live header p handle (live_call.Strong call) live.live);
  moves = λ p handle call live. absurd (none_live header p handle (live_call.StrongMove call) live.live);
  messages = record {
    repair_known = λ tag epoch stamp value sent. absurd (nothing_sent header (m.Repair tag key epoch stamp value) sent);
    seed_known = λ tag epoch stamp value sent. absurd (nothing_sent header (m.Seed tag key epoch stamp value) sent);
    confirm_kept = λ tag stamp sent. absurd (nothing_sent header (m.Confirm tag key stamp) sent);
    read_known = λ tag epoch d version mark value sent _. absurd (nothing_sent header (m.Read tag key epoch) sent);
    freeze_known = λ tag epoch d version mark value sent _. absurd (nothing_sent header (m.Freeze tag key epoch) sent);
    store_sent = λ tag stamp value sent. absurd (nothing_sent header (m.Store tag key stamp value) sent);
    one_store = λ a b first second v w sent _ _. absurd (nothing_sent header (m.Store a key first v) sent);
    ask_sent = λ tag stamp sent. absurd (nothing_sent header (m.Ask tag key stamp) sent);
    here_opened = λ tag epoch policy latest_epoch latest_policy sent. absurd (nothing_sent header (m.Here tag key epoch policy latest_epoch latest_policy) sent);
    switch_sent = λ tag old new sent. absurd (nothing_sent header (m.Switch tag key old new) sent);
    switched_opened = λ tag old new epoch sent _. absurd (nothing_sent header (m.Switch tag key old new) sent);
  };
  replicas = opening_replicas header key h k;
  answers = record {
    have_read = λ leg tag d version mark value noted _ _ _. absurd (no_leg leg noted);
    yes_ask = λ leg tag d ticket noted _ _ _. absurd (no_leg leg noted);
    fence_leg = λ leg d ticket noted _ _. absurd (no_leg leg noted);
    yes_store = λ tag d stamp value sent _. absurd (nothing_sent header (m.Store tag key stamp value) sent);
    yes_repair = λ tag d epoch stamp value sent _. absurd (nothing_sent header (m.Repair tag key epoch stamp value) sent);
    yes_seed = λ tag d epoch stamp value sent _. absurd (nothing_sent header (m.Seed tag key epoch stamp value) sent);
    have_freeze = λ tag d epoch version mark value sent _. absurd (nothing_sent header (m.Freeze tag key epoch) sent);
  };
  legs = record {
    request = λ leg request noted _ _ _. absurd (no_leg leg noted);
    past = λ leg d noted. absurd (no_leg leg noted);
    numbered = λ leg noted. absurd (no_leg leg noted);
    bound = λ leg p handle call noted _ _. absurd (no_leg leg noted);
    once = λ a b noted _ _ _. absurd (no_leg a noted);
    opened = λ leg noted. absurd (no_leg leg noted);
    floor = λ leg b noted _ _. absurd (no_leg leg noted);
    blocked = λ leg b noted _ _. absurd (no_leg leg noted);
  };
  openings = opening_openings header key h k;
  ends = record {
    begun_floor = λ call b some. absurd (cc);
    top_kept = zero_kept header key h k;
    ok_reads = λ call b stamp value some _. absurd (cc);
    ok_writes = λ call b stamp some _. absurd (cc);
    dead_writes = λ call reply stamp value some ends _ _. absurd (no_mark (mk.End call reply) ends);
    ended = λ call reply p handle live ends _ _. absurd (no_mark (mk.End call reply) ends);
    begins = λ call b some. absurd (cc);
    begins_once = λ call at work earlier later split other again. absurd (no_split earlier (mk.Begin call at work) later split);
    begun_first = λ call reply earlier later split. absurd (no_split earlier (mk.End call reply) later split);
    ends_once = λ call one other ends _. absurd (no_mark (mk.End call one) ends);
    marks_numbered = λ call mark there _. absurd (no_mark mark there);
    top_greatest = λ call reply stamp _ ends _. absurd (no_mark (mk.End call reply) ends);
    tickets = λ call stamp there. absurd (no_mark (mk.Ticket call stamp) there);
    live_kinds = λ p handle call live _. absurd (none_live header p handle call live);
    live_marked = λ p handle call live. absurd (none_live header p handle call live);
    noted = λ call work there _. absurd (no_mark (mk.Begin call key work) there);
  };
}
  where
    no_leg : (leg : Leg) → Contains first_ghost.legs leg → ⊥
    no_leg leg there = let lt = there.1 in omega arith

    no_mark : (mark : Mark) → Contains first_ghost.marks mark → ⊥
    no_mark mark there = let lt = there.1 in omega arith

    no_split : (earlier : List Mark) (mark : Mark) (later : List Mark) → first_ghost.marks ≡ earlier ++ mark ∷ later → ⊥
    no_split [] mark later e = cc
    no_split (x ∷ xs) mark later e = cc
