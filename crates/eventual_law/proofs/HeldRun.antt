-- After every run all holds that the laws over epochs rest on.
use Rattle.std.proofs.Common.{◌≡◌, inl, ◌<◌, true, List, [], ◌∷◌, refl, sym, subst, arith}
use Rattle.std.specs.Prelude.{length, Contains}
use Rattle.span_base.specs.declared.ids.KeyId.{KeyId}
use Rattle.wire_msg.specs.declared.outputs.View.{View}
use Rattle.wire_msg.specs.declared.actor.Actor.TheVariants as to
use Rattle.wire_msg.specs.declared.message.Message.TheVariants as m
use Rattle.replica_core.specs.declared.kept.Kept.{Kept}
use Rattle.run_marks.specs.declared.mark.Mark.TheVariants as k
use Rattle.world_core.specs.declared.event.Event.{Event}
use Rattle.world_core.specs.declared.event.Header.{Header}
use Rattle.world_core.specs.declared.live.LiveCall.TheVariants.{Eventual, EventualMove}
use Rattle.world_core.specs.State.{Store, opening, opening_proxy, policy_of}
use Rattle.world_core.specs.Step.{Happening}
use Rattle.world_core.specs.Run.{MayRun, run_of}
use Rattle.register_law.specs.Ghost.{Ghost, noted_of, first_ghost, history}
use Rattle.register_law.specs.Seen.{Grows}
use Rattle.register_law.specs.Cases.{Happened}
use Rattle.register_law.proofs.Induction.{Keeps, all_along}
use Rattle.register_law.proofs.Growth.{step_grows}
use Rattle.register_law.proofs.Happened.{happened}
use Rattle.register_law.proofs.Opening.{nothing_sent, none_live, nothing_kept, policy_is}
use Rattle.register_order.proofs.Members.{none_among}
use Rattle.eventual_law.specs.Keys.{IsEventualKey}
use Rattle.eventual_law.specs.Held.{IsReached, KnowsOpened, InvOfEventual}
use Rattle.eventual_law.proofs.AnswersRun.{tells_after, tells_first}
use Rattle.eventual_law.proofs.CallKeys.{keys_kept}
use Rattle.eventual_law.proofs.EpochsRun.{epochs_kept, epochs_first}
use Rattle.eventual_law.proofs.MovesHeld.{moves_kept, tells_kept}
use Rattle.eventual_law.proofs.PutsHeld.{live_puts_kept}
use Rattle.eventual_law.proofs.Reached.{reached_kept}
use Rattle.eventual_law.proofs.StoredHeld.{marks_kept, stored_kept}
use Rattle.eventual_law.proofs.Views.{views_kept}
use Rattle.register_law.proofs.Words.{length-map}
use Rattle.register_law.proofs.OpeningHolds.{view_is}

pub grows_by : (key : KeyId) (s : Store) (g : Ghost) (h : Happening) → Happened s h → InvOfEventual key s g → Grows key s g h.store (noted_of key s h g)
grows_by key s g h is inv = step_grows key s g h is (λ call some. let b = inv.marks.noted call some in inv.known.calls.begun call key b.0 b.1)

pub inv_kept : (key : KeyId) (s : Store) (g : Ghost) (h : Happening) → Happened s h → InvOfEventual key s g → InvOfEventual key h.store (noted_of key s h g)
inv_kept key s g h is inv =
    let grows = grows_by key s g h is inv in
    let told = tells_after key s g h is (record { known = inv.known; answers = inv.answers }) in
    record {
      known = told.known;
      answers = told.answers;
      epochs = epochs_kept key s g h is inv.epochs;
      marks = marks_kept key s g h is inv;
      tells = tells_kept key s g h grows is inv.tells;
      views = views_kept key s g h inv grows is;
      puts = record { live = live_puts_kept key s g h is inv grows; stored = stored_kept key s g h is inv grows };
      moves = moves_kept key s g h inv grows is;
      versions = reached_kept key s g h is inv grows (keys_kept s h g.marks is inv.known.kinds.tags inv.known.calls);
    }

views_first : (header : Header) (key : KeyId) → IsEventualKey header key.0 → KnowsOpened key (opening header) first_ghost
unfolding opening
views_first header key e p lt =
    let here : p < length header.proxies = let l = length-map header.proxies (opening_proxy header) in omega arith in
    subst (λ (v : View). Contains (1 ∷ []) v.epoch × (v.policy ≡ policy_of (opening header) key v.epoch)) (sym (view_is header key p e.exists here)) ((0, omega arith, refl), sym (policy_is header key))

pub inv_first : (header : Header) (key : KeyId) → IsEventualKey header key.0 → InvOfEventual key (opening header) first_ghost
inv_first header key e =
    let told = tells_first header key e in
    record {
      known = told.known;
      answers = told.answers;
      epochs = epochs_first header key e;
      marks = record { noted = λ call some. absurd (cc); ended = λ call reply c. absurd (none_among (k.End call reply) c) };
      tells = record {
        here_asked = λ tag at epoch policy latest_epoch latest_policy sent. absurd (nothing_sent header (m.Here tag at epoch policy latest_epoch latest_policy) sent);
        switched_asked = λ tag at done epoch sent. absurd (nothing_sent header (m.Switched tag at done epoch) sent);
      };
      views = views_first header key e;
      puts = record {
        live = λ p handle call ticket lives _ _. absurd (none_live header p handle (Eventual call) lives);
        stored = λ call stamp value begun ended. absurd (none_among (k.End call _) ended);
      };
      moves = record {
        live = λ p handle call lives _. absurd (none_live header p handle (EventualMove call) lives);
        third = λ tag epoch stamp value sent. absurd (nothing_sent header (m.Seed tag key epoch stamp value) sent);
        one_seed = λ a b x y t u v w sent _ _. absurd (nothing_sent header (m.Seed a key x t v) sent);
        switch_sent = λ tag old new sent. absurd (nothing_sent header (m.Switch tag key old new) sent);
        switched_opened = λ tag epoch sent. absurd (nothing_sent header (m.Switched tag key true epoch) sent);
      };
      versions = record {
        pushed = λ d tag stamp onward value sent. absurd (nothing_sent header (m.Push tag key stamp onward value) (to.Replica d, sent));
        versions = record {
          seeded = λ tag epoch stamp value sent. absurd (nothing_sent header (m.Seed tag key epoch stamp value) sent);
          kept = λ d. subst (λ (x : Kept). IsReached key (opening header) first_ghost x.version) (sym (nothing_kept header d key)) (inl refl);
          had = λ tag replica version mark value sent _ _ _ _. absurd (nothing_sent header (m.Have tag replica version mark value) sent);
          best = λ p handle call old target found lives _ _. absurd (none_live header p handle (EventualMove call) lives);
        };
      };
    }

every_event_keeps : (key : KeyId) → Keeps key (InvOfEventual key)
every_event_keeps key s g e h taken may inv = inv_kept key s g h (happened s e h taken) inv

-- of every run from the state that a header opens
pub inv_at_end : (header : Header) (key : KeyId) (events : List Event) → IsEventualKey header key.0 → MayRun events (opening header) → InvOfEventual key (run_of header events).store (history key events (opening header) first_ghost)
inv_at_end header key events e may = all_along (InvOfEventual key) key (every_event_keeps key) events (opening header) first_ghost may (inv_first header key e)
