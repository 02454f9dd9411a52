-- Each event keeps a store within the ranges of a log.
use Rattle.std.proofs.Common.{◌≡◌, inl, inr, ℕ, ◌+◌, ◌≤◌, Bool, true, false, List, [], ◌∷◌, ◌++◌, refl, sym, ap, ◌∙◌, subst, arith}
use Rattle.std.specs.Prelude.{if◌then◌else◌, length}
use Rattle.std.proofs.lemmas.List.{length-append}
use Rattle.span_base.specs.declared.ids.KeyId.{KeyId}
use Rattle.span_base.specs.declared.policy.Policy.{Policy}
use Rattle.wire_msg.specs.declared.message.Message.{Message}
use Rattle.wire_msg.specs.declared.message.Message.TheVariants as m
use Rattle.wire_msg.specs.declared.actor.Actor.TheVariants as to
use Rattle.slot_pool.specs.declared.handles.Handle.{Handle}
use Rattle.slot_pool.specs.Slots.{after_take}
use Rattle.epoch_directory.specs.State.{State, latest}
use Rattle.epoch_directory.specs.Step.{can_switch, with_current}
use Rattle.epoch_directory.specs.Step as directory_step
use Rattle.epoch_directory.specs.Tables.{after_publish, table_after}
use Rattle.run_marks.specs.declared.mark.Work.{Work}
use Rattle.world_core.specs.declared.live.LiveCall.{LiveCall}
use Rattle.world_core.specs.State.{Store, Proxy, proxy_at, kept_of}
use Rattle.world_core.specs.Knowing.{learned}
use Rattle.world_core.specs.Starting.{draws_ticket, enters}
use Rattle.world_core.specs.Step.{Happening, with_proxy, call_takes}
use Rattle.register_law.specs.Seen.{WasSent}
use Rattle.register_law.specs.Cases.{Happened, Started, next_call, proxy_stopped, refused_at_once, started, directory_took, proxy_learned, call_took, gave_up, published}
use Rattle.register_law.proofs.Basics.{sent_cases, is_made}
use Rattle.register_law.proofs.Kept.{kept_cases}
use Rattle.register_law.proofs.Growth.{directory_grows}
use Rattle.register_law.proofs.TagsCalls.{LiveIs, was_live, begins, went_on, live_after, proxies_stay, proxy_cases, taken_of}
use Rattle.register_law.proofs.TagsKept.{tags_kept}
use Rattle.register_law.proofs.MarksAre.{start_ticket}
use Rattle.log_law.specs.Fits.{FitsMessage, FitsKept, FitsLive}
use Rattle.log_law.specs.Within.{FitsProxy, FitsDirectory, IsWithin}
use Rattle.log_law.proofs.Basics.{chosen}
use Rattle.log_law.proofs.Replica.{kept_fits}
use Rattle.log_law.proofs.Directory.{AreCurrent, taken_current}
use Rattle.log_law.proofs.Proxies.{learned_fits, drawn_seen, shown_views, more_events}
use Rattle.log_law.proofs.Heads.{FitsHead}
use Rattle.log_law.proofs.Shown.{ShowsWell}
use Rattle.log_law.proofs.Events.{StartFits, start_fits, took_fits, sends_fit}

-- a switch publishes nothing
same_tables : (state : State) (message : Message) → (directory_step.step state message).state.tables ≡ state.tables
same_tables state (m.Switch tag key closing opening) = chosen (λ (x : State). x.tables ≡ state.tables) (can_switch state key closing opening) (with_current state key opening) state refl refl
same_tables state _ = refl

one_table : (tables : List (List Policy)) (table : List Policy) → length (tables ++ table ∷ []) ≡ length tables + 1
one_table tables table = length-append tables (table ∷ [])

module _ (s : Store) (events : ℕ) (w : IsWithin s events) (room : events + 2 ≤ 4294967295) where
  -- a directory that has the sets and tables that it had, and one more maybe
  directory_with : (h : Happening) → Happened s h → latest h.store.directory ≤ latest s.directory + 1 → AreCurrent h.store.directory → FitsDirectory (events + 1) h.store.directory
  directory_with h is few current =
      let grows = directory_grows s h is in
      let more = grows.latest_grows in
      let some = w.directory.some in
      let had = w.directory.few in
      record {
        some = omega (arith, some, more);
        few = omega (arith, few, had);
        current = current;
        keys = subst (λ (x : List ℕ). length x ≤ 1000) (sym grows.sets) w.directory.keys;
        sets = subst (λ (x : List Policy). length x ≤ 64) (sym (grows.tables 1 (omega arith) some)) w.directory.sets;
      }

  same_directory : (h : Happening) → Happened s h → h.store.directory ≡ s.directory → FitsDirectory (events + 1) h.store.directory
  same_directory h is same =
      let few : latest h.store.directory ≡ latest s.directory = ap latest same in
      directory_with h is (omega (arith, few)) (subst AreCurrent (sym same) w.directory.current)

  directory_fits : (h : Happening) → Happened s h → FitsDirectory (events + 1) h.store.directory
  directory_fits h (directory_took message sent is) =
      let now : h.store.directory ≡ (directory_step.step s.directory message).state = ap (λ (x : Happening). x.store.directory) is in
      let few : latest h.store.directory ≡ latest s.directory = ap latest now ∙ ap length (same_tables s.directory message) in
      directory_with h (directory_took message sent is) (omega (arith, few)) (subst AreCurrent (sym now) (taken_current s.directory message (w.sent message (to.Directory, sent)) w.directory.current))
  directory_fits h (published table right is) =
      let now : h.store.directory ≡ after_publish s.directory table = ap (λ (x : Happening). x.store.directory) is in
      let one : latest h.store.directory ≡ latest s.directory + 1 = ap latest now ∙ one_table s.directory.tables (table_after s.directory table) in
      directory_with h (published table right is) (omega (arith, one)) (subst AreCurrent (sym now) w.directory.current)
  directory_fits h o = same_directory h o (ap (λ (x : Happening). x.store.directory) (is_made s h o))

  -- a proxy after an event
  abbrev At : ℕ → Happening → Type 0
  At p x = FitsProxy (events + 1) (proxy_at x.store p)

  was : (p : ℕ) → FitsProxy (events + 1) (proxy_at s p)
  was p = more_events events (proxy_at s p) (w.proxy p)

  changed : (h g : Happening) (at p : ℕ) (new : Proxy) → h ≡ g → proxy_at g.store p ≡ proxy_at (with_proxy s at new) p → FitsProxy (events + 1) new → At p h
  changed h g at p new is same fit = subst (At p) (sym is) (subst (FitsProxy (events + 1)) (sym same) (proxy_cases s at p new (FitsProxy (events + 1)) (was p) (λ _. fit)))

  begins_more : (at : ℕ) → (proxy_at s at).begun + 1 ≤ events + 1
  begins_more at = let b = (w.proxy at).begun in omega (arith, b)

  start_seen : (at : ℕ) (key : KeyId) (work : Work) (h : Happening) (st : Started s at key work h) → StartFits s at key work h st → (if draws_ticket work then (start_ticket s at key).number else (proxy_at s at).seen) ≤ 18446744073709551615
  start_seen at key work h st fit = by (draws_ticket work) refl
    where
      by : (b : Bool) → draws_ticket work ≡ b → (if b then (start_ticket s at key).number else (proxy_at s at).seen) ≤ 18446744073709551615
      by true draws = (fit.ticket draws).number
      by false draws = (w.proxy at).seen

  proxy_fits : (h : Happening) → Happened s h → FitsHead h.marks → (p : ℕ) → FitsProxy (events + 1) (proxy_at h.store p)
  proxy_fits h (proxy_stopped at is) head p = let f = was at in changed h _ at p (record (proxy_at s at) { stopped = true }) is refl (record { begun = f.begun; seen = f.seen; views = f.views })
  proxy_fits h (refused_at_once at key work reply lt dead is) head p =
      changed h _ at p (record (proxy_at s at) { begun = (next_call s at).seq }) is refl (record { begun = begins_more at; seen = (w.proxy at).seen; views = (w.proxy at).views })
  proxy_fits h (started at key work st) head p =
      changed h _ at p (enters (proxy_at s at) (next_call s at) st.handle key work (start_ticket s at key) st.taken).actor st.is refl (record { begun = begins_more at; seen = start_seen at key work h st (start_fits s events w room at key work h st head); views = (w.proxy at).views })
  proxy_fits h (proxy_learned at message sent is) head p =
      let f = learned_fits events (proxy_at s at) message (w.sent message (to.Proxy at, sent)) (w.proxy at) in
      changed h _ at p (learned (proxy_at s at) message) is refl (more_events events (learned (proxy_at s at) message) f)
  proxy_fits h (call_took at message call took) head p =
      let f = more_events events (learned (proxy_at s at) message) (learned_fits events (proxy_at s at) message (w.sent message (to.Proxy at, took.sent)) (w.proxy at)) in
      let out = (took_fits s events w room at message call h took).out in
      changed h _ at p (call_takes (learned (proxy_at s at) message) message call).actor took.is refl (record {
        begun = f.begun;
        seen = drawn_seen (learned (proxy_at s at) message).seen (taken_of s at message call).out.ticket out.ticket f.seen;
        views = shown_views (learned (proxy_at s at) message).views (taken_of s at message call).out.view out.shown f.views;
      })
  proxy_fits h (gave_up at handle call live is) head p =
      let f = was at in
      changed h _ at p (record (proxy_at s at) { calls = after_take (proxy_at s at).calls handle }) is refl (record { begun = f.begun; seen = f.seen; views = f.views })
  proxy_fits h o head p = subst (At p) (sym (is_made s h o)) (was p)

  -- a call that lives after an event
  live_fits : (h : Happening) → FitsHead h.marks → (p : ℕ) (handle : Handle) (call : LiveCall) → LiveIs s h p handle call → FitsLive call
  live_fits h head p handle call (was_live lives) = w.live p handle call lives
  live_fits h head p handle call (begins key work st at is) = subst FitsLive (sym is) (start_fits s events w room p key work h st head).taken.state
  live_fits h head p handle call (went_on message old took at is ends) = subst FitsLive (sym is) (took_fits s events w room p message old h took).state

  kept_now : (h : Happening) → Happened s h → (d : ℕ) (key : KeyId) → FitsKept (kept_of h.store d key)
  kept_now h is d key = elim (kept_cases key s h is d) as (λ _. FitsKept (kept_of h.store d key)) [
    | inl e ↦ subst FitsKept (sym e) (w.kept d key)
    | inr t ↦ subst FitsKept (sym t.is) (kept_fits (kept_of s d key) t.message (w.sent t.message (to.Replica d, t.sent)) (w.kept d key))
  ]

  sent_now : (h : Happening) → Happened s h → FitsHead h.marks → (message : Message) → WasSent h.store message → FitsMessage message
  sent_now h is head message sent = elim (sent_cases s h message is sent) as (λ _. FitsMessage message) [
    | inl old ↦ w.sent message old
    | inr new ↦ sends_fit s events w room h is head (record { to = new.0; message = message }) new.1
  ]

  pub within_after : (h : Happening) → Happened s h → ShowsWell h → IsWithin h.store (events + 1)
  within_after h is shown = record {
    tags = tags_kept s h is w.tags;
    proxies = subst (λ (n : ℕ). n ≤ 64) (sym (proxies_stay s h is)) w.proxies;
    few = shown.few;
    sent = sent_now h is shown.head;
    kept = kept_now h is;
    live = λ p handle call lives. live_fits h shown.head p handle call (live_after s h is p handle call lives);
    proxy = proxy_fits h is shown.head;
    directory = directory_fits h is;
  }
