-- What becomes of a message in the event that delivers it.
use Rattle.std.proofs.Common.{◌≡◌, ◌⊎◌, inl, inr, ℕ, ◌<◌, ◌≤◌, Bool, true, false, List, [], ◌++◌, refl, sym, ap, ◌∙◌, subst}
use Rattle.std.specs.Prelude.{length, slice_get, Option, Some, None, Ok, Err, Contains, if◌then◌else◌}
use Rattle.std.specs.Option.{option_map_or}
use Rattle.std.proofs.lemmas.Option.{slice_get_within, get_or_from_slice_get}
use Rattle.std.proofs.lemmas.List.Elements.{Contains-append_right}
use Rattle.span_base.specs.DcSet.{centres_of}
use Rattle.span_base.proofs.Sets.{Contains-centres_of}
use Rattle.span_base.specs.declared.ids.KeyId.{KeyId}
use Rattle.span_base.specs.declared.dc_set.DcSet.{DcSet}
use Rattle.ticket_rules.specs.declared.stamp.Stamp.{Stamp}
use Rattle.ticket_rules.specs.Stamp.{IsAtMost}
use Rattle.wire_msg.specs.declared.tag.Tag.{Tag}
use Rattle.wire_msg.specs.declared.actor.Actor.{Actor}
use Rattle.wire_msg.specs.declared.message.Message.{Message}
use Rattle.wire_msg.specs.declared.outputs.Post.{Post}
use Rattle.wire_msg.specs.Posts.{tag_of, to_proxy}
use Rattle.wire_msg.specs.declared.actor.Actor.TheVariants as to
use Rattle.wire_msg.specs.declared.message.Message.TheVariants as m
use Rattle.replica_core.specs.declared.kept.Kept.{Kept}
use Rattle.replica_core.specs.Keeping.{is_over, merge, after_merge, kept_after}
use Rattle.replica_core.specs.Answering.{done, push_to, pushes_to, answers, gone, merge_answer}
use Rattle.replica_core.specs.Rule as replica
use Rattle.epoch_directory.specs.Step as directory_step
use Rattle.migration.specs.Eventual.{eventual as eventual_rule}
use Rattle.migration.specs.Move.{Moving}
use Rattle.migration.specs.Move as move
use Rattle.slot_pool.specs.declared.handles.Handle.{Handle}
use Rattle.world_core.specs.declared.event.Event.{Event}
use Rattle.world_core.specs.declared.event.Event.TheVariants.{Deliver}
use Rattle.world_core.specs.declared.event.StepFault.TheVariants.{NoMessage}
use Rattle.world_core.specs.declared.live.LiveCall.{LiveCall}
use Rattle.world_core.specs.declared.live.LiveCall.TheVariants.{Strong, Eventual, StrongMove, EventualMove}
use Rattle.world_core.specs.State.{Store, replica_at, proxy_at, kept_of}
use Rattle.world_core.specs.Calls.{tag_of_call, key_of_call}
use Rattle.world_core.specs.Step.{Happening, nothing, with_replica, with_sent, handle_in, deliver_to, step}
use Rattle.register_law.specs.Ghost.{Ghost}
use Rattle.register_law.specs.Seen.{WasSent}
use Rattle.register_law.specs.Tags.{IsLiveAt}
use Rattle.register_law.specs.WaitingPhases.{IsDelivered}
use Rattle.register_law.specs.Cases.{Happened, CallTook, next_call}
use Rattle.register_law.proofs.EndsKinds.{taken_key}
use Rattle.register_law.proofs.ReplicasKept.{became_by}
use Rattle.register_law.proofs.TagsCalls.{LiveIs, was_live, begins, went_on, LivesOn, live_after, lives_on, started_opens, next_is_none}
use Rattle.register_law.proofs.WaitingMeets.{takes_it, lives_somewhere, handles_after}
use Rattle.register_order.proofs.Members.{Contains-here}
use Rattle.eventual_law.specs.Held.{InvOfEventual}
use Rattle.eventual_law.specs.Quiet.{handle_of, HasPushed, ByReplica, ByProxy, HasCounted, WasTaken, IsDone, MovesGoOn}
use Rattle.eventual_law.proofs.GreatestStep.{Makes, either_makes, sends_makes, runs_there}
use Rattle.eventual_law.proofs.HasCounted.{counts_now}
use Rattle.eventual_law.proofs.QuietKept.{over_is}
use Rattle.eventual_law.proofs.DoneKept.{own_phase, call_same}
use Rattle.eventual_law.proofs.Stopped.{proxy_stays_stopped, sent_gets}
use Rattle.eventual_law.proofs.Lists.{into_map}
use Rattle.register_law.proofs.AnswersTold.{merged_has}

-- the state after a replica took a message
after : Store → ℕ → Message → Store
after s d message = (with_sent (with_replica s d (record { stopped = false; state = (replica.step (replica_at s d).state message).state })) (replica.step (replica_at s d).state message).out.posts []).store

-- what a replica puts out for a message of the key
puts_out : (key : KeyId) (s : Store) (g : Ghost) → InvOfEventual key s g → (d : ℕ) (message : Message) (post : Post) → d < length s.replicas → replica.request_key message ≡ Some key → Contains (answers d (kept_of s d key) message) post → Contains (after s d message).sent post
unfolding after
puts_out key s g inv d message post lt at c =
    Contains-append_right s.sent (replica.step (replica_at s d).state message).out.posts post
    (subst (λ (o : _). Contains (replica.step_at (replica_at s d).state message o).out.posts post) (sym at)
    (subst (λ n. Contains (answers n (kept_of s d key) message) post) (sym (inv.known.kinds.seats d lt).number) c))

became : (key : KeyId) (s : Store) (g : Ghost) → InvOfEventual key s g → (d : ℕ) (message : Message) → d < length s.replicas → replica.request_key message ≡ Some key → kept_of (after s d message) d key ≡ kept_after (kept_of s d key) message
unfolding after
became key s g inv d message lt at = became_by key s d message lt (inv.known.kinds.seats d lt) at

push_now : (key : KeyId) (s : Store) (g : Ghost) → InvOfEventual key s g → (d : ℕ) (tag : Tag) (stamp : Stamp) (onward : DcSet) (value : List ℕ) → d < length s.replicas
    → (stamp.epoch ≤ (kept_of (after s d (m.Push tag key stamp onward value)) d key).frozen) ⊎ HasPushed key (after s d (m.Push tag key stamp onward value)) d tag stamp onward value
push_now key s g inv d tag stamp onward value lt = by (is_over kept stamp.epoch) refl
  where
    message : Message
    message = m.Push tag key stamp onward value

    kept : Kept
    kept = kept_of s d key

    now : kept_of (after s d message) d key ≡ after_merge kept stamp.epoch stamp value
    now = became key s g inv d message lt refl

    by : (b : Bool) → is_over kept stamp.epoch ≡ b → (stamp.epoch ≤ (kept_of (after s d message) d key).frozen) ⊎ HasPushed key (after s d message) d tag stamp onward value
    by true is =
        let same : kept_of (after s d message) d key ≡ kept = now ∙ (rw is refl) in
        inl (subst (λ (x : Kept). stamp.epoch ≤ x.frozen) (sym same) (over_is kept stamp.epoch is))
    by false is =
        let new : kept_of (after s d message) d key ≡ merge kept stamp value = now ∙ (rw is refl) in
        inr (record {
          reached = subst (λ (x : Kept). IsAtMost stamp x.version) (sym new) (merged_has kept stamp value);
          passed = λ e there.
              (let post : Post = push_to tag key stamp value e in
              puts_out key s g inv d message post lt refl
              (rw is (Contains-append_right (to_proxy tag (done d tag)) (pushes_to tag key stamp value onward) post (into_map (push_to tag key stamp value) (centres_of onward) e (Contains-centres_of onward e there)))));
        })

merge_done : (n : ℕ) (kept : Kept) (tag : Tag) (epoch : ℕ) → is_over kept epoch ≡ false → merge_answer n kept tag epoch ≡ done n tag
merge_done n kept tag epoch is = by (is_over kept epoch) is
  where
    by : (b : Bool) → b ≡ false → (if b then gone n kept tag else done n tag) ≡ done n tag
    by true e = absurd (cc)
    by false e = refl

seed_now : (key : KeyId) (s : Store) (g : Ghost) → InvOfEventual key s g → (d : ℕ) (tag : Tag) (epoch : ℕ) (stamp : Stamp) (value : List ℕ) → d < length s.replicas
    → (epoch ≤ (kept_of (after s d (m.Seed tag key epoch stamp value)) d key).frozen)
    ⊎ (IsAtMost stamp (kept_of (after s d (m.Seed tag key epoch stamp value)) d key).version × Contains (after s d (m.Seed tag key epoch stamp value)).sent (record { to = to.Proxy tag.call.proxy; message = m.Yes tag (record { 0 = d }) }))
seed_now key s g inv d tag epoch stamp value lt = by (is_over kept epoch) refl
  where
    message : Message
    message = m.Seed tag key epoch stamp value

    kept : Kept
    kept = kept_of s d key

    yes : Post
    yes = record { to = to.Proxy tag.call.proxy; message = m.Yes tag (record { 0 = d }) }

    now : kept_of (after s d message) d key ≡ after_merge kept epoch stamp value
    now = became key s g inv d message lt refl

    by : (b : Bool) → is_over kept epoch ≡ b → (epoch ≤ (kept_of (after s d message) d key).frozen) ⊎ (IsAtMost stamp (kept_of (after s d message) d key).version × Contains (after s d message).sent yes)
    by true is =
        let same : kept_of (after s d message) d key ≡ kept = now ∙ (rw is refl) in
        inl (subst (λ (x : Kept). epoch ≤ x.frozen) (sym same) (over_is kept epoch is))
    by false is =
        let new : kept_of (after s d message) d key ≡ merge kept stamp value = now ∙ (rw is refl) in
        inr (subst (λ (x : Kept). IsAtMost stamp x.version) (sym new) (merged_has kept stamp value), puts_out key s g inv d message yes lt refl (subst (λ (x : Message). Contains (to_proxy tag x) yes) (sym (merge_done d kept tag epoch is)) (Contains-here yes [])))

freeze_now : (key : KeyId) (s : Store) (g : Ghost) → InvOfEventual key s g → (d : ℕ) (tag : Tag) (epoch : ℕ) → d < length s.replicas
    → (version : Stamp) × (mark : Stamp) × (value : List ℕ) × Contains (after s d (m.Freeze tag key epoch)).sent (record { to = to.Proxy tag.call.proxy; message = m.Have tag (record { 0 = d }) version mark value })
freeze_now key s g inv d tag epoch lt =
    let kept : Kept = kept_of s d key in
    let post : Post = record { to = to.Proxy tag.call.proxy; message = m.Have tag (record { 0 = d }) kept.version kept.mark kept.value } in
    (kept.version, kept.mark, kept.value, puts_out key s g inv d (m.Freeze tag key epoch) post lt refl (Contains-here post []))

by_replica_now : (key : KeyId) (s : Store) (g : Ghost) → InvOfEventual key s g → (d : ℕ) (message : Message) → d < length s.replicas → ByReplica key (after s d message) d message
by_replica_now key s g inv d (m.Push tag at stamp onward value) lt =
    λ same. subst (λ (x : KeyId). (stamp.epoch ≤ (kept_of (after s d (m.Push tag x stamp onward value)) d key).frozen) ⊎ HasPushed key (after s d (m.Push tag x stamp onward value)) d tag stamp onward value) (sym same) (push_now key s g inv d tag stamp onward value lt)
by_replica_now key s g inv d (m.Seed tag at epoch stamp value) lt =
    λ same. subst (λ (x : KeyId). (epoch ≤ (kept_of (after s d (m.Seed tag x epoch stamp value)) d key).frozen)
    ⊎ (IsAtMost stamp (kept_of (after s d (m.Seed tag x epoch stamp value)) d key).version × Contains (after s d (m.Seed tag x epoch stamp value)).sent (record { to = to.Proxy tag.call.proxy; message = m.Yes tag (record { 0 = d }) }))) (sym same) (seed_now key s g inv d tag epoch stamp value lt)
by_replica_now key s g inv d (m.Freeze tag at epoch) lt =
    λ same. subst (λ (x : KeyId). (version : Stamp) × (mark : Stamp) × (value : List ℕ) × Contains (after s d (m.Freeze tag x epoch)).sent (record { to = to.Proxy tag.call.proxy; message = m.Have tag (record { 0 = d }) version mark value })) (sym same) (freeze_now key s g inv d tag epoch lt)
by_replica_now key s g inv d message lt = tt

replica_makes : (key : KeyId) (s : Store) (g : Ghost) → InvOfEventual key s g → (d : ℕ) (message : Message) → Makes (λ z. WasTaken key z (to.Replica d) message) (deliver_to s (to.Replica d) message)
unfolding after
replica_makes key s g inv d message =
    let new = replica.step (replica_at s d).state message in
    either_makes (λ z. WasTaken key z (to.Replica d) message) (replica_at s d).stopped (nothing s) _ (λ is. inl is)
    (λ runs. sends_makes (λ z. WasTaken key z (to.Replica d) message) (with_replica s d (record { stopped = false; state = new.state })) new.out.posts [] (inr (by_replica_now key s g inv d message (runs_there s d runs))))

directory_makes : (key : KeyId) (s : Store) (message : Message) → Makes (λ z. WasTaken key z to.Directory message) (deliver_to s to.Directory message)
directory_makes key s (m.Switch tag at old new) =
    let made = directory_step.step s.directory (m.Switch tag at old new) in
    let answer : Message = directory_step.switched_of s.directory tag at old new in
    sends_makes (λ z. WasTaken key z to.Directory (m.Switch tag at old new)) (record s { directory = made.state }) made.out.posts []
    (λ same. subst (λ (x : KeyId). (done : Bool) × (epoch : ℕ) × Contains (s.sent ++ to_proxy tag answer) (record { to = to.Proxy tag.call.proxy; message = m.Switched tag x done epoch })) same
    (_, _, Contains-append_right s.sent (to_proxy tag answer) (record { to = to.Proxy tag.call.proxy; message = answer }) (Contains-here (record { to = to.Proxy tag.call.proxy; message = answer }) [])))
directory_makes key s message =
    let made = directory_step.step s.directory message in
    sends_makes (λ z. WasTaken key z to.Directory message) (record s { directory = made.state }) made.out.posts [] tt

eventual_same : (a b : Moving) → EventualMove a ≡ EventualMove b → a ≡ b
eventual_same a b e = cc

-- what lives under the message's handle after its delivery has taken it
counted_at : (key : KeyId) (s : Store) (g : Ghost) → InvOfEventual key s g → MovesGoOn key s g → (p : ℕ) (message : Message) (old : LiveCall) (call : Moving) → IsLiveAt s p (handle_in message) old → WasSent s message → LivesOn s p message old (EventualMove call) → call.key ≡ key → call.phase.tag ≡ tag_of message → HasCounted call.stage call.phase message
counted_at key s g inv go p message (Strong old) call lives sent on at own = absurd (let z = on.is in cc)
counted_at key s g inv go p message (Eventual old) call lives sent on at own = absurd (let z = on.is in cc)
counted_at key s g inv go p message (StrongMove old) call lives sent on at own = absurd (let z = on.is in cc)
counted_at key s g inv go p message (EventualMove old) call lives sent on at own =
    let same : call ≡ (move.step eventual_rule old message).state = eventual_same call (move.step eventual_rule old message).state on.is in
    let keyed : old.key ≡ key = sym (taken_key s p message (EventualMove old)) ∙ ap key_of_call (sym on.is) ∙ at in
    let now : (move.step eventual_rule old message).state.phase.tag ≡ tag_of message = ap (λ (x : Moving). x.phase.tag) (sym same) ∙ own in
    let tag : (move.step eventual_rule old message).state.phase.tag ≡ old.phase.tag = own_phase key s g inv p message message (EventualMove old) lives sent now (call_same s p message (EventualMove old)) in
    subst (λ (x : Moving). HasCounted x.stage x.phase message) (sym same) (counts_now old message (go.undecided p (handle_in message) old lives keyed) (sym tag ∙ now) on.no_end)

by_proxy_now : (key : KeyId) (s : Store) (g : Ghost) (e : Event) (h : Happening) → step s e ≡ Ok h → Happened s h → InvOfEventual key s g → MovesGoOn key s g → (p : ℕ) (message : Message) → IsDelivered s e p message → WasSent s message → ByProxy key h.store p message
by_proxy_now key s g e h taken is inv go p message d sent handle call lives at own = by (live_after s h is p handle (EventualMove call) lives)
  where
    under : handle_in message ≡ handle
    under = ap handle_of (sym own) ∙ handles_after s h is go.handles p handle (EventualMove call) lives

    here : IsLiveAt h.store p (handle_in message) (EventualMove call)
    here = subst (λ (x : Handle). IsLiveAt h.store p x (EventualMove call)) (sym under) lives

    took : (old : LiveCall) → IsLiveAt s p (handle_in message) old → HasCounted call.stage call.phase message
    took old there =
        let t : CallTook s p message old h = takes_it s e h p message old taken d there in
        counted_at key s g inv go p message old call there sent (lives_on s h p message old (EventualMove call) t (lives_somewhere s.proxies p (handle_in message) old there) here) at own

    by : LiveIs s h p handle (EventualMove call) → HasCounted call.stage call.phase message
    by (was_live there) = took (EventualMove call) (subst (λ (x : Handle). IsLiveAt s p x (EventualMove call)) (sym under) there)
    by (begins on work st _ new) =
        let tag : call.phase.tag ≡ _ = ap tag_of_call new ∙ (started_opens s p on work h st).tag_is in
        absurd (next_is_none s p (tag_of message) (next_call s p) (inv.known.kinds.tags.sent_numbered message sent) (ap (λ (t : Tag). t.call) (sym own ∙ tag)) refl)
    by (went_on other old t same new no_end) = took old (subst (λ (x : Handle). IsLiveAt s p x old) (sym (under ∙ same)) t.live)

-- the message that a delivery is of
delivered : (s : Store) (n : ℕ) (h : Happening) (o : Option Post) → slice_get s.sent n ≡ o → option_map_or (λ (post : Post). deliver_to s post.to post.message) o (Err (NoMessage (length s.sent))) ≡ Ok h → (post : Post) × (slice_get s.sent n ≡ Some post) × (deliver_to s post.to post.message ≡ Ok h)
delivered s n h None is e = absurd (cc)
delivered s n h (Some post) is e = (post, is, e)

stopped_or : (key : KeyId) (s : Store) (g : Ghost) (n : ℕ) (h : Happening) → step s (Deliver n) ≡ Ok h → Happened s h → InvOfEventual key s g → MovesGoOn key s g → (p : ℕ) (message : Message) → slice_get s.sent n ≡ Some (record { to = to.Proxy p; message = message }) → WasSent s message → (b : Bool) → (proxy_at s p).stopped ≡ b
    → ((b ≡ true) → (proxy_at h.store p).stopped ≡ true) → WasTaken key h.store (to.Proxy p) message
stopped_or key s g n h taken is inv go p message at sent true stops still = inl (still refl)
stopped_or key s g n h taken is inv go p message at sent false runs still = inr (by_proxy_now key s g (Deliver n) h taken is inv go p message (record { place = n; delivers = refl; sent = at; runs = runs }) sent)

taken_now : (key : KeyId) (s : Store) (g : Ghost) (n : ℕ) (h : Happening) → step s (Deliver n) ≡ Ok h → Happened s h → InvOfEventual key s g → MovesGoOn key s g → (a : Actor) (message : Message) → slice_get s.sent n ≡ Some (record { to = a; message = message }) → WasSent s message → deliver_to s a message ≡ Ok h → WasTaken key h.store a message
taken_now key s g n h taken is inv go (to.Replica d) message at sent e = subst (Makes (λ z. WasTaken key z (to.Replica d) message)) e (replica_makes key s g inv d message)
taken_now key s g n h taken is inv go to.Directory message at sent e = subst (Makes (λ z. WasTaken key z to.Directory message)) e (directory_makes key s message)
taken_now key s g n h taken is inv go (to.Proxy p) message at sent e =
    stopped_or key s g n h taken is inv go p message at sent (proxy_at s p).stopped refl (λ stops. proxy_stays_stopped s h is p stops)

pub done_now : (key : KeyId) (s : Store) (g : Ghost) (n : ℕ) (h : Happening) → step s (Deliver n) ≡ Ok h → Happened s h → InvOfEventual key s g → MovesGoOn key s g → IsDone key h.store n
unfolding step
done_now key s g n h taken is inv go =
    let d = delivered s n h (slice_get s.sent n) refl taken in
    record {
      post = d.0;
      sent = sent_gets s h is n d.0 d.1;
      taken = taken_now key s g n h taken is inv go d.0.to d.0.message d.1 (d.0.to, (n, slice_get_within s.sent n d.0 d.1, get_or_from_slice_get s.sent n d.0 d.0 d.1)) d.2;
    }
