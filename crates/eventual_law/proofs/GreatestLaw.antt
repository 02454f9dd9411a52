-- After every run each replica keeps its greatest push of each eventual key, and there is one value with its stamp.
use Rattle.std.proofs.Common.{◌≡◌, inl, inr, ℕ, Bool, true, false, List, [], ◌∷◌, refl, sym, subst}
use Rattle.std.specs.Prelude.{◌==◌, ◌&&◌, not, if◌then◌else◌, Option, Some, None, Ok, Err, slice_get, Contains}
use Rattle.std.specs.Option.{option_map_or}
use Rattle.std.proofs.lemmas.List.Elements.{Contains-append_cases}
use Rattle.std.proofs.lemmas.Option.{slice_get_within, get_or_from_slice_get}
use Rattle.span_base.specs.declared.ids.KeyId.{KeyId}
use Rattle.span_base.specs.declared.dc_set.DcSet.{DcSet}
use Rattle.ticket_rules.specs.declared.stamp.Stamp.{Stamp}
use Rattle.wire_msg.specs.declared.tag.Tag.{Tag}
use Rattle.wire_msg.specs.declared.actor.Actor.{Actor}
use Rattle.wire_msg.specs.declared.actor.Actor.TheVariants as to
use Rattle.wire_msg.specs.declared.message.Message.{Message}
use Rattle.wire_msg.specs.declared.message.Message.TheVariants as m
use Rattle.wire_msg.specs.declared.outputs.Post.{Post}
use Rattle.call_phase.specs.declared.best.Found.{Found}
use Rattle.run_marks.specs.declared.mark.Mark.{Mark}
use Rattle.run_marks.specs.declared.mark.Mark.TheVariants as k
use Rattle.replica_core.specs.declared.kept.Kept.{Kept}
use Rattle.replica_core.specs.Keeping.{is_over}
use Rattle.world_core.specs.declared.event.Event.{Event}
use Rattle.world_core.specs.declared.event.Event.TheVariants.{Start, Deliver, StopReplica, StopProxy, GiveUp, Publish}
use Rattle.world_core.specs.State.{Store, opening, replica_at, kept_of}
use Rattle.world_core.specs.Step.{Happening, Outcome, step}
use Rattle.world_core.specs.Run.{Run, run, run_of, ran, store_after}
use Rattle.register_law.specs.Seen.{WasSent}
use Rattle.register_law.proofs.Happened.{happened}
use Rattle.register_law.proofs.Basics.{key_is}
use Rattle.register_law.proofs.TagsSent.{was_sent_stays}
use Rattle.register_order.proofs.Members.{among, none_among}
use Rattle.eventual_law.specs.Pushes.{push_if, pushed_by, pushed_to, pushed_in, taken_first, pushes}
use Rattle.eventual_law.specs.Known.{IsKnownPut, Known}
use Rattle.eventual_law.specs.Laws.{ReplicasKeepTheirGreatest}
use Rattle.eventual_law.proofs.GreatestRun.{greatest_at_end}
use Rattle.eventual_law.proofs.ValuesRun.{TicketsName, tickets_name, along, known_along, known_first}
use Rattle.eventual_law.proofs.OneValue.{OneWork, one_work_kept, one_value}

-- it was sent as a push, or as a seed
pub data WasPushed (key : KeyId) (s : Store) (push : Found) : Type 0 where
  by_push : (tag : Tag) (onward : DcSet) → WasSent s (m.Push tag key push.stamp onward push.value) → WasPushed key s push
  by_seed : (tag : Tag) (epoch : ℕ) → WasSent s (m.Seed tag key epoch push.stamp push.value) → WasPushed key s push

pushed_if : (X : Type 0) (key at : KeyId) (kept : Kept) (epoch : ℕ) (stamp : Stamp) (value : List ℕ) (push : Found) → (at ≡ key → push ≡ record { stamp = stamp; value = value } → X) → Contains (push_if key at kept epoch stamp value) push → X
pushed_if X key at kept epoch stamp value push f c = by (at.0 == key.0) (is_over kept epoch) refl c
  where
    by : (same over : Bool) → (at.0 == key.0) ≡ same → Contains (if same && not over then record { stamp = stamp; value = value } ∷ [] else []) push → X
    by true true e x = absurd (none_among push x)
    by true false e x = elim (among (record { stamp = stamp; value = value }) [] push x) as (λ _. X) [ inl is ↦ f (key_is at key e) is | inr more ↦ absurd (none_among push more) ]
    by false over e x = absurd (none_among push x)

by_message : (key : KeyId) (s : Store) (kept : Kept) (message : Message) (push : Found) → WasSent s message → Contains (pushed_by key kept message) push → WasPushed key s push
by_message key s kept (m.Push tag at stamp onward value) push sent c =
    pushed_if (WasPushed key s push) key at kept stamp.epoch stamp value push
    (λ same is. by_push tag onward (subst (λ (x : Found). WasSent s (m.Push tag key x.stamp onward x.value)) (sym is) (subst (λ (x : KeyId). WasSent s (m.Push tag x stamp onward value)) same sent))) c
by_message key s kept (m.Seed tag at epoch stamp value) push sent c =
    pushed_if (WasPushed key s push) key at kept epoch stamp value push
    (λ same is. by_seed tag epoch (subst (λ (x : Found). WasSent s (m.Seed tag key epoch x.stamp x.value)) (sym is) (subst (λ (x : KeyId). WasSent s (m.Seed tag x epoch stamp value)) same sent))) c
by_message key s kept message push sent c = absurd (none_among push c)

when_taken : (X : Type 0) (b : Bool) (all : List Found) (push : Found) → (Contains all push → X) → Contains (if b then all else []) push → X
when_taken X true all push f c = f c
when_taken X false all push f c = absurd (none_among push c)

by_actor : (key : KeyId) (d : ℕ) (s : Store) (a : Actor) (message : Message) (push : Found) → WasSent s message → Contains (pushed_to key d s a message) push → WasPushed key s push
by_actor key d s (to.Replica at) message push sent c = when_taken (WasPushed key s push) ((at == d) && not (replica_at s d).stopped) (pushed_by key (kept_of s d key) message) push (λ x. by_message key s (kept_of s d key) message push sent x) c
by_actor key d s (to.Proxy p) message push sent c = absurd (none_among push c)
by_actor key d s to.Directory message push sent c = absurd (none_among push c)

by_delivery : (key : KeyId) (d : ℕ) (s : Store) (n : ℕ) (o : Option Post) (push : Found) → slice_get s.sent n ≡ o → Contains (option_map_or (λ post. pushed_to key d s post.to post.message) o []) push → WasPushed key s push
by_delivery key d s n None push is c = absurd (none_among push c)
by_delivery key d s n (Some post) push is c = by_actor key d s post.to post.message push (post.to, (n, slice_get_within s.sent n post is, get_or_from_slice_get s.sent n post post is)) c

by_event : (key : KeyId) (d : ℕ) (s : Store) (e : Event) (push : Found) → Contains (pushed_in key d s e) push → WasPushed key s push
by_event key d s (Start p at work) push c = absurd (none_among push c)
by_event key d s (Deliver n) push c = by_delivery key d s n (slice_get s.sent n) push refl c
by_event key d s (StopReplica at) push c = absurd (none_among push c)
by_event key d s (StopProxy p) push c = absurd (none_among push c)
by_event key d s (GiveUp p seq) push c = absurd (none_among push c)
by_event key d s (Publish table) push c = absurd (none_among push c)

-- what was sent stays so
ran_sent : (message : Message) (s : Store) (o : Outcome) (rest : Run) → ((h : Happening) → o ≡ Ok h → WasSent h.store message) → WasSent s message → (WasSent (store_after s o) message → WasSent rest.store message) → WasSent (ran s o rest).store message
ran_sent message s (Ok h) rest now was more = more (now h refl)
ran_sent message s (Err fault) rest now was more = was

run_sent : (message : Message) (events : List Event) (s : Store) → WasSent s message → WasSent (run events s).store message
unfolding run
run_sent message [] s sent = sent
run_sent message (e ∷ es) s sent =
    ran_sent message s (step s e) (run es (store_after s (step s e))) (λ h is. was_sent_stays s h (happened s e h is) message sent) sent (λ x. run_sent message es (store_after s (step s e)) x)

pushed_stays : (key : KeyId) (events : List Event) (s : Store) (push : Found) → WasPushed key s push → WasPushed key (run events s).store push
pushed_stays key events s push (by_push tag onward sent) = by_push tag onward (run_sent (m.Push tag key push.stamp onward push.value) events s sent)
pushed_stays key events s push (by_seed tag epoch sent) = by_seed tag epoch (run_sent (m.Seed tag key epoch push.stamp push.value) events s sent)

first_or_later : (key : KeyId) (s : Store) (o : Outcome) (now later : List Found) (rest : Run) (push : Found) → (Contains now push → WasPushed key (ran s o rest).store push) → (Contains later push → WasPushed key rest.store push) → Contains (taken_first o now later) push
    → WasPushed key (ran s o rest).store push
first_or_later key s (Ok h) now later rest push f g c = elim (Contains-append_cases now later push c) as (λ _. WasPushed key rest.store push) [ inl a ↦ f a | inr b ↦ g b ]
first_or_later key s (Err fault) now later rest push f g c = absurd (none_among push c)

-- what a replica took was sent
pushes_were_sent : (key : KeyId) (d : ℕ) (events : List Event) (s : Store) (push : Found) → Contains (pushes key d events s) push → WasPushed key (run events s).store push
unfolding run pushes
pushes_were_sent key d [] s push c = absurd (none_among push c)
pushes_were_sent key d (e ∷ es) s push c =
    first_or_later key s (step s e) (pushed_in key d s e) (pushes key d es (store_after s (step s e))) (run es (store_after s (step s e))) push
    (λ x. pushed_stays key (e ∷ es) s push (by_event key d s e push x)) (λ x. pushes_were_sent key d es (store_after s (step s e)) push x) c

pushed_known : (key : KeyId) (s : Store) (marks : List Mark) (push : Found) → Known key s marks → WasPushed key s push → IsKnownPut key marks push.stamp push.value
pushed_known key s marks push known (by_push tag onward sent) = known.values.pushed tag push.stamp onward push.value sent
pushed_known key s marks push known (by_seed tag epoch sent) = known.values.versions.seeded tag epoch push.stamp push.value sent

pub replicas_keep_their_greatest : ReplicasKeepTheirGreatest
replicas_keep_their_greatest header events h may key e d =
    let known = known_along header events key e in
    let first = known_first header key e in
    let names = along TicketsName tickets_name events (opening header) [] (λ one t c. absurd (none_among (k.Ticket one t) c)) in
    let work = along OneWork one_work_kept events (opening header) [] (record { tags = first.kinds.tags; calls = first.calls; once = λ call at on one other c _. absurd (none_among (k.Begin call at one) c) }) in (
      greatest_at_end header events key e d,
      λ push c same. one_value key (run_of header events).store (run_of header events).marks push.stamp push.value (kept_of (run_of header events).store d key).value names work.once
          (pushed_known key (run_of header events).store (run_of header events).marks push known (pushes_were_sent key d events (opening header) push c))
          (subst (λ (x : Stamp). IsKnownPut key (run_of header events).marks x (kept_of (run_of header events).store d key).value) (sym same) (known.values.versions.kept d)),
    )
