-- Every event keeps what is said of all versions of an eventual key, if what a replica keeps after it is such a version.
use Rattle.std.proofs.Common.{◌≡◌, inl, inr, ℕ, Bool, true, false, List, ◌++◌, refl, sym, ap, ◌∙◌, subst}
use Rattle.std.specs.Prelude.{if◌then◌else◌, Option, Some, None, IsSome}
use Rattle.std.specs.Ordering.{is_gt}
use Rattle.span_base.specs.declared.ids.DcId.{DcId}
use Rattle.span_base.specs.declared.ids.KeyId.{KeyId}
use Rattle.span_base.specs.DcSet.{no_centre}
use Rattle.ticket_rules.specs.declared.stamp.Stamp.{Stamp}
use Rattle.ticket_rules.specs.Stamp.{stamp_cmp}
use Rattle.wire_msg.specs.declared.tag.Tag.{Tag}
use Rattle.wire_msg.specs.declared.message.Message.{Message}
use Rattle.wire_msg.specs.Posts.{tag_of}
use Rattle.wire_msg.specs.declared.actor.Actor.TheVariants as to
use Rattle.wire_msg.specs.declared.message.Message.TheVariants as m
use Rattle.call_phase.specs.declared.best.Found.{Found}
use Rattle.call_phase.specs.Best.{better}
use Rattle.call_phase.specs.Counting.{next_tag}
use Rattle.migration.specs.declared.stage.Epoch.{Epoch}
use Rattle.migration.specs.declared.stage.Stage.TheVariants as stage
use Rattle.migration.specs.Eventual.{eventual as eventual_rule}
use Rattle.migration.specs.Move.{Moving}
use Rattle.migration.specs.Move as move
use Rattle.slot_pool.specs.declared.handles.Handle.{Handle}
use Rattle.run_marks.specs.declared.mark.Mark.{Mark}
use Rattle.world_core.specs.declared.live.LiveCall.{LiveCall}
use Rattle.world_core.specs.declared.live.LiveCall.TheVariants.{Strong, Eventual, StrongMove, EventualMove}
use Rattle.world_core.specs.State.{Store, kept_of}
use Rattle.world_core.specs.Calls.{tag_of_call, key_of_call}
use Rattle.world_core.specs.Step.{Happening, handle_in}
use Rattle.register_law.specs.Seen.{WasSent}
use Rattle.register_law.specs.Tags.{IsLiveAt, request_key}
use Rattle.register_law.specs.Cases.{Happened, CallTook}
use Rattle.register_law.proofs.Basics.{sent_cases}
use Rattle.register_law.proofs.EndsKinds.{taken_key}
use Rattle.register_law.proofs.TagsCalls.{LiveIs, was_live, begins, went_on, taken_of, live_after, started_opens}
use Rattle.register_law.proofs.TagsSent.{was_sent_stays}
use Rattle.eventual_law.specs.Kinds.{KeyIsEventual}
use Rattle.eventual_law.specs.Known.{by_request, by_life, CallsHaveKeys, VersionsAre}
use Rattle.eventual_law.proofs.Starts.{puts, LooksUp}
use Rattle.eventual_law.proofs.Starts as start
use Rattle.eventual_law.proofs.Takes.{seeds, freezes, switches, Finds}
use Rattle.eventual_law.proofs.Takes as takes
use Rattle.eventual_law.proofs.Sends.{Sends, passes, starts, calls, moves, sends, start_key, start_is_eventual}
use Rattle.eventual_law.proofs.Shown.{Shown, shown}
use Rattle.eventual_law.proofs.Finding.{FoundIs, found_is}
use Rattle.register_law.proofs.MovesStep.{counts_own}

-- what all of this rests on
pub record Said (key : KeyId) (s : Store) (marks : List Mark) (P : Stamp → List ℕ → Type 0) : Type 0 where
  pub kinds : KeyIsEventual key s
  pub calls : CallsHaveKeys s marks
  pub versions : VersionsAre key s P

some_is : (o : Option KeyId) → IsSome o → (key : KeyId) × (o ≡ Some key)
some_is None h = absurd (cc)
some_is (Some key) h = (key, refl)

-- an answer under the tag of a live call of the key answers a request of the key
pub answers_key : (key : KeyId) (s : Store) (marks : List Mark) (p : ℕ) (handle : Handle) (live : LiveCall) (message : Message) → KeyIsEventual key s → CallsHaveKeys s marks → IsLiveAt s p handle live → key_of_call live ≡ key → tag_of_call live ≡ tag_of message
    → WasSent s message → request_key message ≡ None → (request : Message) × WasSent s request × (request_key request ≡ Some key) × (tag_of request ≡ tag_of message)
answers_key key s marks p handle live message kinds called there at own sent none =
    let asked = kinds.tags.answers_asked message sent none in
    let of = some_is (request_key asked.0) asked.2 in
    let same : of.0 ≡ key = called.one_key (tag_of message).call of.0 key (by_request asked.0 asked.1 of.1 (ap (λ (t : Tag). t.call) asked.3)) (by_life p handle live there at (ap (λ (t : Tag). t.call) own)) in
    (asked.0, asked.1, of.1 ∙ ap Some same, asked.3)

-- a version that was sent to a live call of the key
pub had_by : (key : KeyId) (s : Store) (marks : List Mark) (P : Stamp → List ℕ → Type 0) (p : ℕ) (handle : Handle) (live : LiveCall) (tag : Tag) (replica : DcId) (version mark : Stamp) (value : List ℕ) → Said key s marks P
    → IsLiveAt s p handle live → key_of_call live ≡ key → tag_of_call live ≡ tag → WasSent s (m.Have tag replica version mark value) → P version value
had_by key s marks P p handle live tag replica version mark value k there at own sent =
    let asked = answers_key key s marks p handle live (m.Have tag replica version mark value) k.kinds k.calls there at own sent refl in
    k.versions.had tag replica version mark value sent asked.0 asked.1 asked.2 asked.3

one_said : (P : Stamp → List ℕ → Type 0) (b : Bool) (one other found : Found) → P one.stamp one.value → P other.stamp other.value → (if b then Some one else Some other) ≡ Some found → P found.stamp found.value
one_said P true one other found h k e = let same : one ≡ found = cc in subst (λ (x : Found). P x.stamp x.value) same h
one_said P false one other found h k e = let same : other ≡ found = cc in subst (λ (x : Found). P x.stamp x.value) same k

better_said : (P : Stamp → List ℕ → Type 0) (best : Option Found) (version : Stamp) (value : List ℕ) (found : Found) → ((was : Found) → best ≡ Some was → P was.stamp was.value) → P version value → better best version value ≡ Some found → P found.stamp found.value
better_said P None version value found f h e = one_said P true (record { stamp = version; value = value }) (record { stamp = version; value = value }) found h h e
better_said P (Some was) version value found f h e = one_said P (is_gt (stamp_cmp version was.stamp)) (record { stamp = version; value = value }) was found h (f was refl) e

-- what a move finds at a message
finds_said : (key : KeyId) (s : Store) (h : Happening) (marks : List Mark) (P : Stamp → List ℕ → Type 0) (p : ℕ) (taken : Message) (call : Moving) (found : Found) → Said key s marks P → CallTook s p taken (EventualMove call) h → call.key ≡ key → Finds call taken found → P found.stamp found.value
finds_said key s h marks P p taken call found k took at finds =
    let sent : WasSent s (m.Have finds.tag finds.replica finds.version finds.mark finds.value) = subst (WasSent s) finds.taken_is (to.Proxy p, took.sent) in
    let own = counts_own call.phase finds.tag finds.replica finds.counted in
    let now = had_by key s marks P p (handle_in taken) (EventualMove call) finds.tag finds.replica finds.version finds.mark finds.value k took.live at own sent in
    better_said P finds.best finds.version finds.value found (λ was is. k.versions.best p (handle_in taken) call finds.old finds.target was took.live at (finds.stage_is ∙ ap (λ (x : Option Found). stage.Freezing finds.old finds.target x) is)) now finds.is

seed_is : (one other : Tag) (key at : KeyId) (epoch e : ℕ) (stamp t : Stamp) (value v : List ℕ) → m.Seed one key epoch stamp value ≡ m.Seed other at e t v → (key ≡ at) × (stamp ≡ t) × (value ≡ v)
seed_is one other key at epoch e stamp t value v is = (cc, cc, cc)

said_as : (P : Stamp → List ℕ → Type 0) (stamp t : Stamp) (value v : List ℕ) → stamp ≡ t → value ≡ v → P t v → P stamp value
said_as P stamp t value v a b h = subst (λ (x : Stamp). P x value) (sym a) (subst (λ (x : List ℕ). P t x) (sym b) h)

seeded_now : (key : KeyId) (s : Store) (h : Happening) (marks : List Mark) (P : Stamp → List ℕ → Type 0) (tag : Tag) (epoch : ℕ) (stamp : Stamp) (value : List ℕ) → Said key s marks P → Sends s h (m.Seed tag key epoch stamp value) → P stamp value
seeded_now key s h marks P tag epoch stamp value k (passes from sent on) = let e : m.Seed tag key epoch stamp value ≡ m.Push on.tag on.key on.stamp no_centre on.value = on.is in absurd (cc)
seeded_now key s h marks P tag epoch stamp value k (starts p at work st (start.carries_none c)) = absurd c
seeded_now key s h marks P tag epoch stamp value k (starts p at work st (puts set v is sends)) = absurd (cc)
seeded_now key s h marks P tag epoch stamp value k (calls p taken call took c) = absurd c
seeded_now key s h marks P tag epoch stamp value k (moves p taken call took (takes.carries_none c)) = absurd c
seeded_now key s h marks P tag epoch stamp value k (moves p taken call took (seeds found at finds is)) =
    let e = seed_is tag (next_tag call.phase.tag) key call.key epoch at stamp found.stamp value found.value is in
    said_as P stamp found.stamp value found.value e.1 e.2 (finds_said key s h marks P p taken call found k took (sym e.0) finds)
seeded_now key s h marks P tag epoch stamp value k (moves p taken call took (freezes at from is)) = absurd (cc)
seeded_now key s h marks P tag epoch stamp value k (moves p taken call took (switches old target enough is)) = absurd (cc)

-- a version that was sent to someone who asked for the key
had_after : (key : KeyId) (s : Store) (h : Happening) (marks : List Mark) (P : Stamp → List ℕ → Type 0) (tag : Tag) (replica : DcId) (version mark : Stamp) (value : List ℕ) → Happened s h → Said key s marks P → CallsHaveKeys h.store (marks ++ h.marks)
    → WasSent h.store (m.Have tag replica version mark value) → (request : Message) → WasSent h.store request → request_key request ≡ Some key → tag_of request ≡ tag → P version value
had_after key s h marks P tag replica version mark value is k keys sent request asked at own =
    elim (sent_cases s h (m.Have tag replica version mark value) is sent) as (λ _. P version value) [ inl old ↦ was old | inr new ↦ now (shown s h tag replica version mark value is new) ]
  where
    one : (other : Message) (of : KeyId) → WasSent s other → request_key other ≡ Some of → tag_of other ≡ tag → of ≡ key
    one other of there on same = keys.one_key tag.call of key (by_request other (was_sent_stays s h is other there) on (ap (λ (t : Tag). t.call) same)) (by_request request asked at (ap (λ (t : Tag). t.call) own))

    was : WasSent s (m.Have tag replica version mark value) → P version value
    was old =
        let first = k.kinds.tags.answers_asked (m.Have tag replica version mark value) old refl in
        let of = some_is (request_key first.0) first.2 in
        k.versions.had tag replica version mark value old first.0 first.1 (of.1 ∙ ap Some (one first.0 of.0 first.1 of.1 first.3)) first.3

    now : Shown s tag version value → P version value
    now x =
        let same : x.key ≡ key = one x.request x.key x.sent x.at x.of in
        said_as P version (kept_of s x.d key).version value (kept_of s x.d key).value (x.version_is ∙ ap (λ (y : KeyId). (kept_of s x.d y).version) same) (x.value_is ∙ ap (λ (y : KeyId). (kept_of s x.d y).value) same) (k.versions.kept x.d)

looking_finds : (X : Type 0) (call : Moving) (old target : Epoch) (found : Found) → call.stage ≡ stage.Looking → call.stage ≡ stage.Freezing old target (Some found) → X
looking_finds X call old target found a b = absurd (cc)

-- a call that took a message and is a freezing move was one before
went_best : (key : KeyId) (s : Store) (h : Happening) (marks : List Mark) (P : Stamp → List ℕ → Type 0) (p : ℕ) (taken : Message) (was : LiveCall) (call : Moving) (old target : Epoch) (found : Found) → Said key s marks P → CallTook s p taken was h
    → EventualMove call ≡ (taken_of s p taken was).state → call.key ≡ key → call.stage ≡ stage.Freezing old target (Some found) → P found.stamp found.value
went_best key s h marks P p taken (Strong was) call old target found k took is at stage_is = absurd (cc)
went_best key s h marks P p taken (Eventual was) call old target found k took is at stage_is = absurd (cc)
went_best key s h marks P p taken (StrongMove was) call old target found k took is at stage_is = absurd (cc)
went_best key s h marks P p taken (EventualMove was) call old target found k took is at stage_is =
    by (found_is was taken old target found (ap (λ (x : Moving). x.stage) (sym same) ∙ stage_is))
  where
    same : call ≡ (move.step eventual_rule was taken).state
    same = cc

    own : was.key ≡ key
    own = sym (taken_key s p taken (EventualMove was)) ∙ ap key_of_call (sym is) ∙ at

    by : FoundIs was taken old target found → P found.stamp found.value
    by (inl before) = k.versions.best p (handle_in taken) was old target found took.live own before
    by (inr finds) = finds_said key s h marks P p taken was found k took own finds

best_after : (key : KeyId) (s : Store) (h : Happening) (marks : List Mark) (P : Stamp → List ℕ → Type 0) (p : ℕ) (handle : Handle) (call : Moving) (old target : Epoch) (found : Found) → Happened s h → Said key s marks P
    → IsLiveAt h.store p handle (EventualMove call) → call.key ≡ key → call.stage ≡ stage.Freezing old target (Some found) → P found.stamp found.value
best_after key s h marks P p handle call old target found is k there at stage_is = by (live_after s h is p handle (EventualMove call) there)
  where
    by : LiveIs s h p handle (EventualMove call) → P found.stamp found.value
    by (was_live was) = k.versions.best p handle call old target found was at stage_is
    by (begins on work st _ new) =
        let same = start_key key s h p on work k.kinds st (sym (started_opens s p on work h st).key_is ∙ ap key_of_call (sym new) ∙ at) in
        let looks : LooksUp (EventualMove call) = subst LooksUp (sym new) (start_is_eventual key s h p on work k.kinds st same).looks in
        looking_finds (P found.stamp found.value) call old target found looks stage_is
    by (went_on taken was took _ new no_end) = went_best key s h marks P p taken was call old target found k took new at stage_is

-- what holds of all versions before an event still holds of them, and of those that are kept after it, so it holds of all after it
pub versions_kept : (key : KeyId) (s : Store) (h : Happening) (marks : List Mark) (P Q : Stamp → List ℕ → Type 0) → Happened s h → Said key s marks P → CallsHaveKeys h.store (marks ++ h.marks) → ((stamp : Stamp) (value : List ℕ) → P stamp value → Q stamp value)
    → ((d : ℕ) → Q (kept_of h.store d key).version (kept_of h.store d key).value) → VersionsAre key h.store Q
versions_kept key s h marks P Q is k keys still kept = record {
  seeded = λ tag epoch stamp value sent. still stamp value (elim (sent_cases s h (m.Seed tag key epoch stamp value) is sent) as (λ _. P stamp value) [
    | inl old ↦ k.versions.seeded tag epoch stamp value old
    | inr new ↦ seeded_now key s h marks P tag epoch stamp value k (sends key s h (m.Seed tag key epoch stamp value) is k.kinds new refl)
  ]);
  kept = kept;
  had = λ tag replica version mark value sent request asked at own. still version value (had_after key s h marks P tag replica version mark value is k keys sent request asked at own);
  best = λ p handle call old target found there at stage_is. still found.stamp found.value (best_after key s h marks P p handle call old target found is k there at stage_is);
}
