-- Every event keeps what the openings of epochs and the messages of moves rest on.
use Rattle.std.proofs.Common.{◌≡◌, inl, inr, ℕ, ◌<◌, Bool, true, false, List, [], ◌∷◌, refl, sym, ap, ◌∙◌, subst, arith, ◌==◌, if◌then◌else◌, Contains, ◌⊎◌, eqb-true}
use Rattle.std.proofs.lemmas.Bool.{eqb-false}
use Rattle.register_law.proofs.Words.{KeyId, Policy, Stamp, Message, Tag, State, current_of, Store, policy_of, proxy_at, view_at, Happening, Happened, IsChain, IsNewest, OpeningsAreBacked, Ghost, noted_of, Inv, Grows, IsKnown, WasSent, HereBacked, SwitchBacked, IsSamePoint, KeysAgree, among, opened_after}
use Rattle.wire_msg.specs.declared.message.Message.TheVariants as m
use Rattle.register_law.proofs.MovesStable.{sent_stays, known_stays, IsOut, here_stays, switch_stays}
use Rattle.register_law.proofs.OpeningsTold.{some_published, told_now, here_now, switched_now, SwitchedNow}
use Rattle.register_law.proofs.OpeningsCurrent.{can_is, CurrentAfter, same_current, switched, current_after, done_is_current, quorums_kept}
use Rattle.register_law.proofs.OpeningsPosts.{posted_carries, posted_fresh}
use Rattle.register_law.proofs.ReplicasKept.{views_after_event}
use Rattle.register_law.proofs.OpeningsShown.{view_now, view_stays}
use Rattle.register_law.proofs.TagsCalls.{proxies_stay}
use Rattle.register_law.proofs.Basics.{WasPosted}
use Rattle.register_law.proofs.MovesKept.{posted}
use Rattle.register_law.proofs.Growth.{grows_by}

-- the current epoch is one that has been current
pub newest_opened : (epoch : ℕ) (opened : List ℕ) → IsNewest epoch opened → Contains opened epoch
newest_opened epoch [] newest = absurd newest
newest_opened epoch (e ∷ rest) newest = (0, omega arith, newest)

pub current_opened : (key : KeyId) (s : Store) (g : Ghost) → OpeningsAreBacked key s g → Contains g.opened (current_of s.directory key)
current_opened key s g o = newest_opened (current_of s.directory key) g.opened o.newest

-- a chain stays one
chain_stays : (key : KeyId) (s : Store) (g : Ghost) (z : Store) (h : Ghost) → Grows key s g z h → (opened : List ℕ) → IsChain key s opened → IsChain key z opened
chain_stays key s g z h grows [] c = c
chain_stays key s g z h grows (new ∷ []) c = c
chain_stays key s g z h grows (new ∷ old ∷ rest) c =
    (c.0, record { tag = c.1.tag; sent = sent_stays key s g z h (m.Switch c.1.tag key old new) grows c.1.sent }, chain_stays key s g z h grows (old ∷ rest) c.2)

-- the new epoch comes before those that have been current
pub longer : (key : KeyId) (z : Store) (tag : Tag) (closing opening : ℕ) (opened : List ℕ) → IsNewest closing opened → closing < opening → WasSent z (m.Switch tag key closing opening) → IsChain key z opened → IsChain key z (opening ∷ opened)
longer key z tag closing opening [] newest later sent c = absurd newest
longer key z tag closing opening (e ∷ rest) newest later sent c =
    (subst (λ (n : ℕ). n < opening) (sym newest) later, record { tag = tag; sent = subst (λ (n : ℕ). WasSent z (m.Switch tag key n opening)) (sym newest) sent }, c)

chain_after : (key : KeyId) (s : Store) (g : Ghost) (h : Happening) → Inv key s g → Happened s h → CurrentAfter key s h → (b : Bool) → (current_of h.store.directory key == current_of s.directory key) ≡ b
    → IsChain key h.store (if b then g.opened else current_of h.store.directory key ∷ g.opened)
chain_after key s g h inv is c true e = chain_stays key s g h.store (noted_of key s h g) (grows_by key s g h is inv) g.opened inv.openings.chain
chain_after key s g h inv is (same_current same) false e = absurd (eqb-false (current_of h.store.directory key) (current_of s.directory key) e same)
chain_after key s g h inv is (switched tag closing opening sent can now) false e =
    let grows : Grows key s g h.store (noted_of key s h g) = grows_by key s g h is inv in
    subst (λ (n : ℕ). IsChain key h.store (n ∷ g.opened)) (sym now)
    (longer key h.store tag closing opening g.opened (subst (λ (n : ℕ). IsNewest n g.opened) can.current inv.openings.newest) can.later (sent_stays key s g h.store (noted_of key s h g) (m.Switch tag key closing opening) grows sent)
    (chain_stays key s g h.store (noted_of key s h g) grows g.opened inv.openings.chain))

pub newest_after : (old new : ℕ) (opened : List ℕ) (b : Bool) → (new == old) ≡ b → IsNewest old opened → IsNewest new (if b then opened else new ∷ opened)
newest_after old new opened true e k = subst (λ (n : ℕ). IsNewest n opened) (sym (eqb-true new old e)) k
newest_after old new opened false e k = refl

published_after : (key : KeyId) (s : Store) (g : Ghost) (h : Happening) → Inv key s g → Happened s h → CurrentAfter key s h → (b : Bool) → (current_of h.store.directory key == current_of s.directory key) ≡ b
    → (e : ℕ) → Contains (if b then g.opened else current_of h.store.directory key ∷ g.opened) e → IsOut h.store e
published_after key s g h inv is c true t e there =
    let out = inv.openings.published e there in
    let first = out.0 in
    let last = out.1 in
    let more = (grows_by key s g h is inv).published in
    (first, omega arith)
published_after key s g h inv is (same_current same) false t e there = absurd (eqb-false (current_of h.store.directory key) (current_of s.directory key) t same)
published_after key s g h inv is (switched tag closing opening sent can now) false t e there =
    let more = (grows_by key s g h is inv).published in
    elim (among (current_of h.store.directory key) g.opened e there) as (λ _. IsOut h.store e) [
      | inl new ↦ (let later = can.later in let last = can.published in (omega arith, omega arith))
      | inr old ↦ (let out = inv.openings.published e old in let first = out.0 in let last = out.1 in (first, omega arith))
    ]

-- what the openings of epochs rest on
pub openings_kept : (key : KeyId) (s : Store) (g : Ghost) (h : Happening) → Inv key s g → Happened s h → OpeningsAreBacked key h.store (noted_of key s h g)
openings_kept key s g h inv is = record {
  chain = chain_after key s g h inv is (current_after key s h is) (current_of h.store.directory key == current_of s.directory key) refl;
  newest = newest_after (current_of s.directory key) (current_of h.store.directory key) g.opened (current_of h.store.directory key == current_of s.directory key) refl inv.openings.newest;
  published = published_after key s g h inv is (current_after key s h is) (current_of h.store.directory key == current_of s.directory key) refl;
  view_opened = λ p lt.
      let same = proxies_stay s h is in
      let now = view_now key s g h inv p (omega arith) (views_after_event s h is p) in
      let then_is = view_stays key s g h.store (noted_of key s h g) (view_at (proxy_at h.store p).views key) (grows_by key s g h is inv) inv.openings.published now in
      (then_is.opened, then_is.policy);
  policies_quorum = quorums_kept key s h is inv.openings.policies_quorum (some_published key s g inv.openings);
}

-- what the directory told before
pub here_kept : (key : KeyId) (s : Store) (g : Ghost) (h : Happening) → Inv key s g → Happened s h → (tag : Tag) (epoch : ℕ) (policy : Policy) (newest : ℕ) (newest_policy : Policy)
    → WasSent s (m.Here tag key epoch policy newest newest_policy) ⊎ WasPosted h (m.Here tag key epoch policy newest newest_policy) → HereBacked key h.store (noted_of key s h g) epoch policy newest newest_policy
here_kept key s g h inv is tag epoch policy newest newest_policy (inl sent) =
    here_stays key s g h.store (noted_of key s h g) epoch newest policy newest_policy (grows_by key s g h is inv) inv.openings.published (inv.messages.here_opened tag epoch policy newest newest_policy sent)
here_kept key s g h inv is tag epoch policy newest newest_policy (inr (whom, c)) =
    let message : Message = m.Here tag key epoch policy newest newest_policy in
    let now = here_now s h tag key epoch policy newest newest_policy (told_now s h whom message tt (posted s h is (record { to = whom; message = message }) c)) in
    let opened : Contains g.opened epoch = subst (Contains g.opened) (sym now.epoch_is) (current_opened key s g inv.openings) in
    let out = inv.openings.published epoch opened in
    let last = out.1 in
    let latest_is = now.newest_is in
    here_stays key s g h.store (noted_of key s h g) epoch newest policy newest_policy (grows_by key s g h is inv) inv.openings.published (record {
      opened = opened;
      within = (omega arith, omega arith);
      policy_is = now.policy_is ∙ ap (policy_of s key) (sym now.epoch_is);
      latest_is = now.newest_policy_is ∙ ap (policy_of s key) (sym now.newest_is);
    })

pub seed_kept : (key : KeyId) (s : Store) (g : Ghost) (h : Happening) → Inv key s g → Happened s h → (tag : Tag) (epoch : ℕ) (stamp : Stamp) (value : List ℕ) → WasSent s (m.Seed tag key epoch stamp value) ⊎ WasPosted h (m.Seed tag key epoch stamp value) → IsKnown key h.store stamp value
seed_kept key s g h inv is tag epoch stamp value (inl sent) = known_stays key s g h.store (noted_of key s h g) stamp value (grows_by key s g h is inv) (inv.messages.seed_known tag epoch stamp value sent)
seed_kept key s g h inv is tag epoch stamp value (inr (whom, c)) =
    let message : Message = m.Seed tag key epoch stamp value in
    known_stays key s g h.store (noted_of key s h g) stamp value (grows_by key s g h is inv) (posted_carries key s g h inv whom message (posted s h is (record { to = whom; message = message }) c) refl)

pub switch_kept : (key : KeyId) (s : Store) (g : Ghost) (h : Happening) → Inv key s g → Happened s h → (tag : Tag) (old new : ℕ) → WasSent s (m.Switch tag key old new) ⊎ WasPosted h (m.Switch tag key old new) → SwitchBacked key h.store (noted_of key s h g) old new
switch_kept key s g h inv is tag old new (inl sent) = switch_stays key s g h.store (noted_of key s h g) old new (grows_by key s g h is inv) inv.openings.published (inv.messages.switch_sent tag old new sent)
switch_kept key s g h inv is tag old new (inr (whom, c)) =
    let message : Message = m.Switch tag key old new in
    switch_stays key s g h.store (noted_of key s h g) old new (grows_by key s g h is inv) inv.openings.published (posted_carries key s g h inv whom message (posted s h is (record { to = whom; message = message }) c) refl)

-- an epoch that is current after an event has been current
pub opened_now : (old new : ℕ) (opened : List ℕ) (b : Bool) → (new == old) ≡ b → old < new → Contains (if b then opened else new ∷ opened) new
opened_now old new opened true e lt = absurd (let same = eqb-true new old e in omega arith)
opened_now old new opened false e lt = (0, omega arith, refl)

done_opens : (key : KeyId) (s : Store) (g : Ghost) (h : Happening) → KeysAgree key s → (tag : Tag) → (now : SwitchedNow s h tag key true) → Contains (opened_after key s h.store g.opened) now.opening
done_opens key s g h keys tag now =
    let can = can_is s.directory key now.closing now.opening (sym now.done_is) in
    let current : current_of h.store.directory key ≡ now.opening = ap (λ (x : State). current_of x key) now.directory_is ∙ done_is_current s.directory key now.closing now.opening keys.exists (sym now.done_is) in
    let was = can.current in
    let later = can.later in
    subst (Contains (opened_after key s h.store g.opened)) current
    (opened_now (current_of s.directory key) (current_of h.store.directory key) g.opened (current_of h.store.directory key == current_of s.directory key) refl (omega arith))

pub same_opening : (a b : Tag) (c d : KeyId) (e f x y : ℕ) → m.Switch a c e f ≡ m.Switch b d x y → f ≡ y
same_opening a b c d e f x y is = cc

same_point : (tag : Tag) → IsSamePoint tag tag
same_point tag = record { call = refl; phase = refl }

-- a Switch that is done has opened its epoch
pub switched_kept : (key : KeyId) (s : Store) (g : Ghost) (h : Happening) → Inv key s g → Happened s h → (tag : Tag) (old new epoch : ℕ) → WasSent s (m.Switch tag key old new) ⊎ WasPosted h (m.Switch tag key old new) → WasSent s (m.Switched tag key true epoch) ⊎ WasPosted h (m.Switched tag key true epoch) → Contains (noted_of key s h g).opened new
switched_kept key s g h inv is tag old new epoch (inl switch) (inl told) = (grows_by key s g h is inv).opened new (inv.messages.switched_opened tag old new epoch switch told)
switched_kept key s g h inv is tag old new epoch (inr (whom, c)) (inl told) =
    let message : Message = m.Switch tag key old new in
    absurd (posted_fresh key s g h inv whom message (posted s h is (record { to = whom; message = message }) c) refl tt (m.Switched tag key true epoch) told (same_point tag))
switched_kept key s g h inv is tag old new epoch (inl switch) (inr (whom, c)) =
    let message : Message = m.Switched tag key true epoch in
    let now = switched_now s h tag key true epoch (told_now s h whom message tt (posted s h is (record { to = whom; message = message }) c)) in
    let one : m.Switch tag key old new ≡ m.Switch tag key now.closing now.opening = inv.requests.one_request (m.Switch tag key old new) (m.Switch tag key now.closing now.opening) switch now.asked refl refl (same_point tag) in
    subst (Contains (opened_after key s h.store g.opened)) (sym (same_opening tag tag key key old new now.closing now.opening one)) (done_opens key s g h inv.keys tag now)
switched_kept key s g h inv is tag old new epoch (inr (whom, c)) (inr (to_whom, d)) =
    let switch : Message = m.Switch tag key old new in
    let message : Message = m.Switched tag key true epoch in
    let now = switched_now s h tag key true epoch (told_now s h to_whom message tt (posted s h is (record { to = to_whom; message = message }) d)) in
    absurd (posted_fresh key s g h inv whom switch (posted s h is (record { to = whom; message = switch }) c) refl tt (m.Switch tag key now.closing now.opening) now.asked (same_point tag))
