-- Every event lets the state and what is noted of it grow.
use Rattle.std.proofs.Common.{◌≡◌, ℕ, ◌+◌, ◌-◌, ◌<◌, ◌≤◌, Bool, true, false, List, [], ◌∷◌, ◌++◌, refl, sym, ap, ◌∙◌, subst, arith, inl, inr, zero, suc, nat_lt, nat_le, ◌&&◌, if◌then◌else◌, length, slice_index, slice_index_or, ◌==◌, Option, Some, None, Contains, IsSome, eqb-true}
use Rattle.std.proofs.lemmas.List.{length_push}
use Rattle.register_law.proofs.Words.{KeyId, Policy, IsAtMost, Stamp, Message, Rises, State, latest, no_policy, set_of, table_in, can_switch, with_current, table_after, SetPolicy, Store, kept_of, policy_of, Happening, Happened, directory_took, published, Ghost, noted_of, version_before, greater, stamp_cmp, Call, Post, Reply, Kept, current_of, is_same_call, Mark, Proxy, no_proxy, proxy_at, end_marks, ticket_marks, with_proxy, call_took, gave_up, next_call, proxy_learned, proxy_stopped, refused_at_once, started, Begun, answered_with, begun_after, is_begun, is_noted, leg_of, legs_after, raised_by, top_after, Grows, Inv, is_gt, common_steps, IsAtMost-trans, Contains-there, NotedLeg as Leg, IsAtMost-refl}
use Rattle.wire_msg.specs.declared.message.Message.TheVariants as m
use Rattle.epoch_directory.specs.Step.{step}
use Rattle.run_marks.specs.declared.mark.Mark.TheVariants as k
use Rattle.register_law.proofs.Kept.{rises, set_cases}
use Rattle.register_law.proofs.Basics.{sent_grows, is_made}

-- with the two tests told
before_by : (b c d : Bool) (v w x : Stamp) → (b ≡ true → c ≡ false → d ≡ true) → (b ≡ false → c ≡ false) → IsAtMost v w
    → IsAtMost (if b then v else x) (if c then w else (if b && d then v else x))
before_by true true d v w x f g h = h
before_by true false true v w x f g h = IsAtMost-refl v
before_by true false false v w x f g h = absurd (let e = f refl refl in cc)
before_by false true d v w x f g h = absurd (let e = g refl in cc)
before_by false false d v w x f g h = IsAtMost-refl x

fixed_by : (b c d : Bool) (v w x : Stamp) → b ≡ false → c ≡ false → (if c then w else (if b && d then v else x)) ≡ (if b then v else x)
fixed_by true c d v w x p q = absurd (cc)
fixed_by false true d v w x p q = absurd (cc)
fixed_by false false d v w x p q = refl

not_below : (f e : ℕ) → e ≤ f → nat_lt f e ≡ false
not_below f e h = grind (arith, common_steps)

reaches : (f e : ℕ) → nat_lt f e ≡ false → nat_le e f ≡ true
reaches f e h = grind (arith, common_steps)

further : (f g e : ℕ) → f ≤ g → nat_lt f e ≡ false → nat_lt g e ≡ false
further f g e h k = grind (arith, common_steps)

-- the version before an epoch never falls
pub before_grows : (key : KeyId) (s : Store) (g : Ghost) (h : Happening) → Happened s h → (d e : ℕ) → IsAtMost (version_before key s g d e) (version_before key h.store (noted_of key s h g) d e)
before_grows key s g h is d e =
    let r : Rises (kept_of s d key) (kept_of h.store d key) = rises key s h is d in
    before_by (nat_lt (kept_of s d key).frozen e) (nat_lt (kept_of h.store d key).frozen e) (nat_le e (kept_of h.store d key).frozen) (kept_of s d key).version (kept_of h.store d key).version (g.fixed d e)
    (λ _ q. reaches (kept_of h.store d key).frozen e q) (λ p. further (kept_of s d key).frozen (kept_of h.store d key).frozen e r.frozen p) r.version

-- and stands still once the replica is frozen for the epoch
pub fixed_stays : (key : KeyId) (s : Store) (g : Ghost) (h : Happening) → Happened s h → (d e : ℕ) → e ≤ (kept_of s d key).frozen → version_before key h.store (noted_of key s h g) d e ≡ version_before key s g d e
fixed_stays key s g h is d e le =
    let r : Rises (kept_of s d key) (kept_of h.store d key) = rises key s h is d in
    let p : nat_lt (kept_of s d key).frozen e ≡ false = not_below (kept_of s d key).frozen e le in
    fixed_by (nat_lt (kept_of s d key).frozen e) (nat_lt (kept_of h.store d key).frozen e) (nat_le e (kept_of h.store d key).frozen) (kept_of s d key).version (kept_of h.store d key).version (g.fixed d e)
    p (further (kept_of s d key).frozen (kept_of h.store d key).frozen e r.frozen p)

-- a directory that keeps its tables and sets
pub record KeepsTables (old new : State) : Type 0 where
  pub sets : new.sets ≡ old.sets
  pub latest_grows : latest old ≤ latest new
  pub tables : (e : ℕ) → 1 ≤ e → e ≤ latest old → table_in new e ≡ table_in old e

same_tables : (old : State) → KeepsTables old old
same_tables old = record { sets = refl; latest_grows = omega arith; tables = λ e a b. refl }

switched_tables : (state : State) (b : Bool) (key : KeyId) (epoch : ℕ) → KeepsTables state (if b then with_current state key epoch else state)
switched_tables state true key epoch = record { sets = refl; latest_grows = omega arith; tables = λ e a b. refl }
switched_tables state false key epoch = same_tables state

taken_tables : (state : State) (message : Message) → KeepsTables state (step state message).state
taken_tables state (m.Switch tag key closing opening) = switched_tables state (can_switch state key closing opening) key opening
taken_tables state _ = same_tables state

-- what stands before the end stays
front_stays : {X : Type 0} → (xs : List X) (y d : X) (i : ℕ) → i < length xs → slice_index_or (xs ++ y ∷ []) i d ≡ slice_index_or xs i d
front_stays {X} [] y d i lt = absurd (omega (arith, lt))
front_stays {X} (x ∷ xs) y d zero lt = refl
front_stays {X} (x ∷ xs) y d (suc i) lt = front_stays xs y d i (omega arith)

pub directory_grows : (s : Store) (h : Happening) → Happened s h → KeepsTables s.directory h.store.directory
directory_grows s h (directory_took message sent is) = subst (λ (x : Happening). KeepsTables s.directory x.store.directory) (sym is) (taken_tables s.directory message)
directory_grows s h (published table right is) =
    let one = length_push s.directory.tables (table_of table) in
    subst (λ (x : Happening). KeepsTables s.directory x.store.directory) (sym is)
    (record { sets = refl; latest_grows = omega arith; tables = λ e a b. front_stays s.directory.tables (table_of table) [] (e - 1) (omega arith) })
  where
    table_of : List SetPolicy → List Policy
    table_of t = table_after s.directory t
directory_grows s h o = subst (λ (x : Happening). KeepsTables s.directory x.store.directory) (sym (is_made s h o)) (same_tables s.directory)

-- each epoch's policy of a key stays
pub policy_stays : (key : KeyId) (s : Store) (h : Happening) → Happened s h → (e : ℕ) → 1 ≤ e → e ≤ latest s.directory → policy_of h.store key e ≡ policy_of s key e
policy_stays key s h is e a b =
    let k = directory_grows s h is in
    ap (λ (x : List ℕ). slice_index_or (table_in h.store.directory e) (slice_index x key.0) no_policy) k.sets ∙ ap (λ (x : List Policy). slice_index_or x (set_of s.directory key) no_policy) (k.tables e a b)

-- the second of two is at most the greater
pub second_below : (a b : Stamp) → IsAtMost b (greater a b)
second_below a b = chosen (is_gt (stamp_cmp b a)) refl
  where
    chosen : (t : Bool) → is_gt (stamp_cmp b a) ≡ t → IsAtMost b (if t then b else a)
    chosen true e = IsAtMost-refl b
    chosen false e = grind (arith, common_steps)

-- ---- every event lets the state and what is noted of it grow

opened_has : (b : Bool) (n : ℕ) (opened : List ℕ) (e : ℕ) → Contains opened e → Contains (if b then opened else n ∷ opened) e
opened_has true n opened e h = h
opened_has false n opened e h = Contains-there n opened e h

leg_has : (b : Bool) (new : Leg) (legs : List Leg) (leg : Leg) → Contains legs leg → Contains (if b then new ∷ legs else legs) leg
leg_has true new legs leg h = Contains-there new legs leg h
leg_has false new legs leg h = h

leg_of_has : (key : KeyId) (snap : ℕ → Kept) (message : Message) (legs : List Leg) (leg : Leg) → Contains legs leg → Contains (leg_of key snap message legs) leg
leg_of_has key snap (m.Read tag at epoch) legs leg h = leg_has (at.0 == key.0) (record { call = tag.call; phase = tag.phase; epoch = epoch; ticket = None; snap = snap }) legs leg h
leg_of_has key snap (m.Ask tag at stamp) legs leg h = leg_has (at.0 == key.0) (record { call = tag.call; phase = tag.phase; epoch = stamp.epoch; ticket = Some stamp; snap = snap }) legs leg h
leg_of_has key snap _ legs leg h = h

legs_has : (key : KeyId) (s : Store) (posts : List Post) (legs : List Leg) (leg : Leg) → Contains legs leg → Contains (legs_after key s posts legs) leg
legs_has key s [] legs leg h = h
legs_has key s (post ∷ posts) legs leg h = leg_of_has key (λ d. kept_of s d key) post.message legs leg h

below_greater : (a b : Stamp) → IsAtMost a (greater a b)
below_greater a b = chosen (is_gt (stamp_cmp b a)) refl
  where
    chosen : (t : Bool) → is_gt (stamp_cmp b a) ≡ t → IsAtMost a (if t then b else a)
    chosen true e = grind (arith, common_steps)
    chosen false e = IsAtMost-refl a

raised_up : (o : Option Stamp) (top : Stamp) → IsAtMost top (raised_by o top)
raised_up None top = IsAtMost-refl top
raised_up (Some stamp) top = below_greater top stamp

raised_if : (b : Bool) (o : Option Stamp) (top : Stamp) → IsAtMost top (if b then raised_by o top else top)
raised_if true o top = raised_up o top
raised_if false o top = IsAtMost-refl top

pub top_rises : (is_of : Call → Bool) (marks : List Mark) (top : Stamp) → IsAtMost top (top_after is_of marks top)
top_rises is_of [] top = IsAtMost-refl top
top_rises is_of (k.End call reply ∷ marks) top =
    IsAtMost-trans top (if is_of call then raised_by (answered_with reply) top else top) (top_after is_of marks (if is_of call then raised_by (answered_with reply) top else top))
    (raised_if (is_of call) (answered_with reply) top) (top_rises is_of marks (if is_of call then raised_by (answered_with reply) top else top))
top_rises is_of (mark ∷ marks) top = top_rises is_of marks top

-- the first mark doesn't begin this call
FirstIsNot : Call → List Mark → Type 0
FirstIsNot other (k.Begin call key work ∷ marks) = is_same_call call other ≡ false
FirstIsNot other _ = Unit {0}

not_begun : (x y z : Bool) (new : Begun) (was : Option Begun) → z ≡ false → (if x && (y && z) then Some new else was) ≡ was
not_begun true true false new was e = refl
not_begun true true true new was e = absurd (cc)
not_begun x y z new was e = refl

begun_same : (key : KeyId) (top : Stamp) (epoch : ℕ) (marks : List Mark) (begun : Call → Option Begun) (other : Call) → FirstIsNot other marks → begun_after key top epoch marks begun other ≡ begun other
unfolding FirstIsNot
begun_same key top epoch (k.Begin call at work ∷ marks) begun other f = not_begun (at.0 == key.0) (is_noted work) (is_same_call call other) (record { work = work; floor = top; epoch = epoch }) (begun other) f
begun_same key top epoch marks begun other f = refl

call_marks_begin_none : (call other : Call) (t : Option Stamp) (e : Option Reply) → FirstIsNot other (ticket_marks call t ++ end_marks call e)
unfolding FirstIsNot
call_marks_begin_none call other None None = tt
call_marks_begin_none call other t e = tt

and_is : (a b : Bool) → (a ≡ true → b ≡ true → ⊥) → (a && b) ≡ false
and_is true true f = absurd (f refl refl)
and_is true false f = refl
and_is false b f = refl

-- the next call is no call that was begun
pub next_is_fresh : (s : Store) (p : ℕ) (other : Call) → other.seq ≤ (proxy_at s other.proxy).begun → is_same_call (next_call s p) other ≡ false
next_is_fresh s p other le =
    and_is (p == other.proxy) ((proxy_at s p).begun + 1 == other.seq) (λ a b.
    let same = eqb-true p other.proxy a in
    let seq = eqb-true ((proxy_at s p).begun + 1) other.seq b in
    let moved : other.seq ≤ (proxy_at s p).begun = subst (λ (n : ℕ). other.seq ≤ (proxy_at s n).begun) (sym same) le in
    omega arith)

first_is_not : (s : Store) (h : Happening) → Happened s h → (other : Call) → other.seq ≤ (proxy_at s other.proxy).begun → FirstIsNot other h.marks
unfolding FirstIsNot
first_is_not s h (refused_at_once p key work reply lt dead is) other le = subst (λ (x : Happening). FirstIsNot other x.marks) (sym is) (next_is_fresh s p other le)
first_is_not s h (started p key work st) other le = subst (λ (x : Happening). FirstIsNot other x.marks) (sym st.is) (next_is_fresh s p other le)
first_is_not s h (call_took p message call st) other le = subst (λ (x : Happening). FirstIsNot other x.marks) (sym st.is) (call_marks_begin_none _ other _ _)
first_is_not s h o other le = subst (λ (x : Happening). FirstIsNot other x.marks) (sym (is_made s h o)) tt

-- what is noted of a call that was begun before the event is what was noted
pub begun_old : (key : KeyId) (s : Store) (g : Ghost) (h : Happening) → Happened s h → (call : Call) → call.seq ≤ (proxy_at s call.proxy).begun → (noted_of key s h g).begun call ≡ g.begun call
begun_old key s g h is call le = begun_same key g.top (current_of s.directory key) h.marks g.begun call (first_is_not s h is call le)

-- a proxy's place that was changed to one that began no fewer calls
begun_at : (s : Store) (at p : ℕ) (new : Proxy) → (proxy_at s at).begun ≤ new.begun → (proxy_at s p).begun ≤ (proxy_at (with_proxy s at new) p).begun
begun_at s at p new le =
    elim (set_cases s.proxies at p new no_proxy) as (λ _. (proxy_at s p).begun ≤ (proxy_at (with_proxy s at new) p).begun) [
      | inl e ↦ subst (λ (x : Proxy). (proxy_at s p).begun ≤ x.begun) (sym e) (omega arith)
      | inr e ↦ subst (λ (x : Proxy). (proxy_at s p).begun ≤ x.begun) (sym e.1) (subst (λ (n : ℕ). (proxy_at s n).begun ≤ new.begun) (sym e.0) le)
    ]

pub calls_grow : (s : Store) (h : Happening) → Happened s h → (p : ℕ) → (proxy_at s p).begun ≤ (proxy_at h.store p).begun
calls_grow s h (proxy_stopped at is) p = subst (λ (x : Happening). (proxy_at s p).begun ≤ (proxy_at x.store p).begun) (sym is) (begun_at s at p (record (proxy_at s at) { stopped = true }) (omega arith))
calls_grow s h (refused_at_once at key work reply lt dead is) p = subst (λ (x : Happening). (proxy_at s p).begun ≤ (proxy_at x.store p).begun) (sym is) (begun_at s at p (record (proxy_at s at) { begun = (next_call s at).seq }) (omega arith))
calls_grow s h (started at key work st) p =
    subst (λ (x : Happening). (proxy_at s p).begun ≤ (proxy_at x.store p).begun) (sym st.is)
    (begun_at s at p _ (omega arith))
calls_grow s h (proxy_learned at message sent is) p = subst (λ (x : Happening). (proxy_at s p).begun ≤ (proxy_at x.store p).begun) (sym is) (begun_at s at p _ (omega arith))
calls_grow s h (call_took at message call st) p = subst (λ (x : Happening). (proxy_at s p).begun ≤ (proxy_at x.store p).begun) (sym st.is) (begun_at s at p _ (omega arith))
calls_grow s h (gave_up at handle call live is) p = subst (λ (x : Happening). (proxy_at s p).begun ≤ (proxy_at x.store p).begun) (sym is) (begun_at s at p _ (omega arith))
calls_grow s h o p = subst (λ (x : Happening). (proxy_at s p).begun ≤ (proxy_at x.store p).begun) (sym (is_made s h o)) (omega arith)

-- of every event that is taken
pub step_grows : (key : KeyId) (s : Store) (g : Ghost) (h : Happening) → Happened s h → ((call : Call) → IsSome (g.begun call) → call.seq ≤ (proxy_at s call.proxy).begun) → Grows key s g h.store (noted_of key s h g)
step_grows key s g h is numbered = record {
  sent = sent_grows s h is;
  published = (directory_grows s h is).latest_grows;
  policies = policy_stays key s h is;
  versions = λ d. (rises key s h is d).version;
  frozen = λ d. (rises key s h is d).frozen;
  before = before_grows key s g h is;
  fixed = fixed_stays key s g h is;
  opened = opened_has (current_of h.store.directory key == current_of s.directory key) (current_of h.store.directory key) g.opened;
  legs = legs_has key s h.posts g.legs;
  begun = λ call b e. begun_old key s g h is call (numbered call (some_is (g.begun call) b e)) ∙ e;
  top = top_rises (λ call. is_begun (g.begun call)) h.marks g.top;
  calls = calls_grow s h is;
}
  where
    some_is : (o : Option Begun) (b : Begun) → o ≡ Some b → IsSome o
    some_is None b e = absurd (cc)
    some_is (Some x) b e = refl

-- of every event that keeps the invariant
pub grows_by : (key : KeyId) (s : Store) (g : Ghost) (h : Happening) → Happened s h → Inv key s g → Grows key s g h.store (noted_of key s h g)
grows_by key s g h is inv = step_grows key s g h is (λ call some. (inv.requests.begun_numbered call some).1)
