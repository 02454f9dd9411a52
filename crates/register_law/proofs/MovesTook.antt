-- What counts once one more replica does, what a step of a move leaves of it, and what it asks.
use Rattle.std.proofs.Common.{◌≡◌, ◌+◌, ◌≤◌, List, [], ◌∷◌, refl, sym, subst, arith, inl, inr, ℕ, ◌*◌, ◌<◌, Bool, true, false, ◌∙◌, None, IsSome, Contains, ◌&&◌, map, length, nat_le, if◌then◌else◌, Option, Some}
use Rattle.std.proofs.lemmas.Option.{same_Some}
use Rattle.register_law.proofs.Words.{has, no_centre, replicas_of, DcSet, Step, tag_of, Actor, Message, Post, Tag, next_tag, opened, posts_to, Moving, first_write_set, strong_rule, Store, IsMoveRequest, WasSent, Within, IsSamePoint, request_key, centres_below, centres_of, meet, IsQuorumPolicy, common_count, faults_of, members_of, DcId, Policy, Direct, Relay, Quorum, IsAtMost, stamp_cmp, Stamp, better, counts, has_quorum, with_good, Found, Phase, quorum_frozen, FreezesCounted, FrozenCounted, WasAnswered, YesCounted, HasMost, MeetsAll, both, count_of, list_all, range_with_len, is_gt, common_steps, MoveStage as Stage, has-meet, has-insert_same, has-below, among, IsAtMost-trans, and_left, and_right, has-insert_cases, has-insert_stays, IsAtMost-refl, none_in}
use Rattle.wire_msg.specs.declared.actor.Actor.TheVariants as to
use Rattle.wire_msg.specs.declared.message.Message.TheVariants as m
use Rattle.span_base.specs.declared.policy.Policy.TheVariants.{Strong}
use Rattle.migration.specs.Strong.{is_stopped}
use Rattle.register_law.proofs.Basics.{Each, each_one, each_to}
use Rattle.register_law.proofs.MovesStep.{MoveTook, unheard, froze_first, froze_one, froze_all, seeded_next, seeded_all, was_refused, counts_asked}
use Rattle.register_law.proofs.Quorums.{count_mono, members_meet}
use Rattle.std.proofs.lemmas.Bool.{and_from}

-- the replicas in both of two sets
pub met : (s t : DcSet) → common_count s t ≤ count_of (both (has s) (has t))
unfolding centres_of centres_below
met s t = count_mono (has (meet s t)) (both (has s) (has t)) (λ d k. sym (has-meet s t d) ∙ k) (range_with_len 0 16)

all_pass : {X : Type 0} → (p : X → Bool) (xs : List X) → list_all p xs ≡ true → (x : X) → Contains xs x → p x ≡ true
all_pass {X} p [] h x c = absurd (let lt = c.1 in omega arith)
all_pass {X} p (y ∷ ys) h x c =
    let later = all_pass p ys (and_right (p y) (list_all p ys) h) x in
    elim (among y ys x c) as (λ _. p x ≡ true) [ inl is ↦ subst (λ (z : X). p z ≡ true) (sym is) (and_left (p y) (list_all p ys) h) | inr more ↦ later more ]

pub at_least : (a b c : ℕ) → nat_le a b ≡ true → b ≤ c → a ≤ c
at_least a b c h k = grind (arith, common_steps)

-- enough frozen replicas meet every quorum
pub frozen_meets : (policy : Policy) (set : DcSet) → quorum_frozen (faults_of policy) (members_of policy) set ≡ true → MeetsAll policy (has set)
frozen_meets policy set h member c =
    let f : ℕ = faults_of policy in
    let both_stopped = all_pass (λ (q : Quorum). is_stopped f set q.read && is_stopped f set q.write) (members_of policy) h member c in (
      at_least (f + 1) (common_count set member.read) (count_of (both (has set) (has member.read))) (and_left (is_stopped f set member.read) (is_stopped f set member.write) both_stopped) (met set member.read),
      at_least (f + 1) (common_count set member.write) (count_of (both (has set) (has member.write))) (and_right (is_stopped f set member.read) (is_stopped f set member.write) both_stopped) (met set member.write),
    )

-- a number of answers that is enough is all but f of those asked
pub quorum_is : (f : ℕ) (phase : Phase) → has_quorum f phase ≡ true → count_of (has phase.asked) ≤ count_of (has phase.good) + f
unfolding centres_of centres_below
quorum_is f phase h = at_least (count_of (has phase.asked)) (count_of (has phase.good) + f) (count_of (has phase.good) + f) h (omega arith)

-- all but f of the set pass, if those that count do
pub most_pass : (f : ℕ) (phase : Phase) (test : ℕ → Bool) → has_quorum f phase ≡ true → Within (has phase.good) (has phase.asked) → Within (has phase.good) test → HasMost f phase.asked test
most_pass f phase test h within passes =
    let enough = quorum_is f phase h in
    let more = count_mono (has phase.good) (both (has phase.asked) test) (λ d k. and_from (has phase.asked d) (test d) (within d k) (passes d k)) (range_with_len 0 16) in
    omega arith

-- each two members' quorums share 2f + 1 replicas
pub quorums_share : (policy : Policy) → IsQuorumPolicy policy → (a b : Quorum) → Contains (members_of policy) a → Contains (members_of policy) b
    → (2 * faults_of policy + 1 ≤ count_of (both (has a.read) (has b.write))) × (2 * faults_of policy + 1 ≤ count_of (both (has a.write) (has b.write)))
quorums_share policy h a b ca cb =
    let enough = members_meet policy a b h ca cb in
    let enough_reads = enough.0 in
    let enough_writes = enough.1 in
    let reads = met a.read b.write in
    let writes = met a.write b.write in
    (omega arith, omega arith)

-- the first member
pub record IsFirst (policy : Policy) (q : Quorum) : Type 0 where
  pub there : Contains (members_of policy) q
  pub writes : first_write_set policy ≡ q.write

first_in : (f : ℕ) (replicas : DcSet) (members : List Quorum) → 0 < length (map (λ (q : Quorum). q.dc.0) members) → (q : Quorum) × IsFirst (Strong f replicas members) q
first_in f replicas [] h = absurd (omega (arith, h))
first_in f replicas (q ∷ qs) h = (q, record { there = (0, omega arith, refl); writes = refl })

pub first_member : (policy : Policy) → IsQuorumPolicy policy → (q : Quorum) × IsFirst policy q
first_member (Direct f replicas primary) h = absurd h
first_member (Relay f replicas primary parent) h = absurd h
first_member (Strong f replicas members) h = first_in f replicas members h.centres.some

-- those that count stay within those asked
pub within_good : (phase : Phase) (tag : Tag) (replica : DcId) → counts phase tag replica ≡ true → Within (has phase.good) (has phase.asked) → Within (has (with_good phase replica).good) (has phase.asked)
within_good phase tag replica c within d h =
    elim (has-insert_cases phase.good replica.0 d h) as (λ _. has phase.asked d ≡ true) [
      | inl is ↦ subst (λ (n : ℕ). has phase.asked n ≡ true) (sym is) (counts_asked phase tag replica c)
      | inr was ↦ within d was
    ]

-- one more said Yes
pub yes_more : (s : Store) (phase : Phase) (replica : DcId) → YesCounted s phase → WasSent s (m.Yes phase.tag replica) → YesCounted s (with_good phase replica)
yes_more s phase replica said sent d h =
    elim (has-insert_cases phase.good replica.0 d h) as (λ _. WasSent s (m.Yes phase.tag (record { 0 = d }))) [
      | inl is ↦ subst (λ (n : ℕ). WasSent s (m.Yes phase.tag (record { 0 = n }))) (sym is) sent
      | inr was ↦ said d was
    ]

-- a replica answered a version of at most this
abbrev AnsweredBelow : Store → Tag → Stamp → ℕ → Type 0
AnsweredBelow s tag bound d = (version : Stamp) × (mark : Stamp) × (value : List ℕ) × WasSent s (m.Have tag (record { 0 = d }) version mark value) × IsAtMost version bound

freezes_grow : (s : Store) (phase : Phase) (replica : DcId) (version mark : Stamp) (value : List ℕ) (b : Found) → WasSent s (m.Have phase.tag replica version mark value) → IsAtMost version b.stamp
    → ((d : ℕ) → has phase.good d ≡ true → AnsweredBelow s phase.tag b.stamp d) → WasAnswered s (with_good phase replica) b → FreezesCounted s (with_good phase replica) b
freezes_grow s phase replica version mark value b sent below old found = record {
  each = λ d h. elim (has-insert_cases phase.good replica.0 d h) as (λ _. AnsweredBelow s phase.tag b.stamp d) [
    | inl is ↦ subst (AnsweredBelow s phase.tag b.stamp) (sym is) (version, mark, value, sent, below)
    | inr was ↦ old d was
  ];
  found = found;
}

pub gt_below : (a b : Stamp) → is_gt (stamp_cmp a b) ≡ true → IsAtMost b a
gt_below a b h = grind (arith, common_steps)

pub not_gt : (a b : Stamp) → is_gt (stamp_cmp a b) ≡ false → IsAtMost a b
not_gt a b h = grind (arith, common_steps)

-- one more version that froze
pub froze_more : (s : Store) (phase : Phase) (best : Option Found) (replica : DcId) (version mark : Stamp) (value : List ℕ) (b : Found) → FrozenCounted s phase best → has phase.asked replica.0 ≡ true → WasSent s (m.Have phase.tag replica version mark value)
    → better best version value ≡ Some b → FreezesCounted s (with_good phase replica) b
froze_more s phase None replica version mark value b none asked sent e =
    subst (FreezesCounted s (with_good phase replica)) (same_Some (record { stamp = version; value = value }) b e)
    (freezes_grow s phase replica version mark value (record { stamp = version; value = value }) sent (IsAtMost-refl version)
    (λ d h. absurd (let no = none d in cc))
    (record { d = replica.0; mark = mark; counted = has-insert_same phase.good replica.0 (has-below phase.asked replica.0 asked); sent = sent }))
froze_more s phase (Some was) replica version mark value b some asked sent e = by (is_gt (stamp_cmp version was.stamp)) refl e
  where
    by : (t : Bool) → is_gt (stamp_cmp version was.stamp) ≡ t → (if t then Some (record { stamp = version; value = value }) else Some was) ≡ Some b → FreezesCounted s (with_good phase replica) b
    by true is k =
        subst (FreezesCounted s (with_good phase replica)) (same_Some (record { stamp = version; value = value }) b k)
        (freezes_grow s phase replica version mark value (record { stamp = version; value = value }) sent (IsAtMost-refl version)
        (λ d h. let o = some.each d h in (o.0, o.1, o.2, o.3, IsAtMost-trans o.0 was.stamp version o.4 (gt_below version was.stamp is)))
        (record { d = replica.0; mark = mark; counted = has-insert_same phase.good replica.0 (has-below phase.asked replica.0 asked); sent = sent }))
    by false is k =
        subst (FreezesCounted s (with_good phase replica)) (same_Some was b k)
        (freezes_grow s phase replica version mark value was sent (not_gt version was.stamp is) some.each
        (record { d = some.found.d; mark = some.found.mark; counted = has-insert_stays phase.good replica.0 some.found.d (has-below phase.asked replica.0 asked) some.found.counted; sent = some.found.sent }))

pub better_some : (best : Option Found) (version : Stamp) (value : List ℕ) → (b : Found) × (better best version value ≡ Some b)
better_some None version value = (record { stamp = version; value = value }, refl)
better_some (Some was) version value = by (is_gt (stamp_cmp version was.stamp))
  where
    by : (t : Bool) → (b : Found) × ((if t then Some (record { stamp = version; value = value }) else Some was) ≡ Some b)
    by true = (record { stamp = version; value = value }, refl)
    by false = (was, refl)

-- ---- what a step leaves of the answers that counted, and what it asks

-- what a move's step leaves
abbrev TookWithin : (Step Moving) → Type 0
TookWithin new = Within (has new.state.phase.good) (has new.state.phase.asked)

pub none_within : (set : DcSet) (tag : Tag) → Within (has (opened tag set).good) (has (opened tag set).asked)
none_within set tag d some = absurd (none_in d some)

pub took_within : (call : Moving) (message : Message) (new : (Step Moving)) → MoveTook strong_rule call message new → Within (has call.phase.good) (has call.phase.asked) → TookWithin new
took_within call message new (froze_first tag at epoch newest policy newest_policy stage got c apart) k = none_within (replicas_of policy) (next_tag call.phase.tag)
took_within call message new (froze_one tag replica version mark value old target best stage got c) k = within_good call.phase tag replica c k
took_within call message new (froze_all tag replica version mark value old target best found stage got c quorum e) k = none_within (first_write_set target.policy) (next_tag call.phase.tag)
took_within call message new (seeded_next tag replica old target frozen seeded top_gone stage got c) k = within_good call.phase tag replica c k
took_within call message new (seeded_all tag replica old target frozen seeded top_gone stage got c quorum) k = none_within no_centre (next_tag call.phase.tag)
took_within call message new _ k = k

-- what a move had asked before its step, and what it asks at it
pub record Asking (s : Store) (call : Moving) : Type 0 where
  pub old : (request : Message) → WasSent s request → IsSome (request_key request) → IsSamePoint (tag_of request) call.phase.tag → IsMoveRequest call.stage call request
  pub bound : (request : Message) → WasSent s request → (tag_of request).call ≡ call.phase.tag.call → (tag_of request).phase ≤ call.phase.tag.phase

pub data Asked (s : Store) (posts : List Post) (request : Message) : Type 0 where
  before : WasSent s request → Asked s posts request
  now : (to : Actor) → Contains posts (record { to = to; message = request }) → Asked s posts request

abbrev TookRequest : Message → (Step Moving) → Type 0
TookRequest request new = IsSamePoint (tag_of request) new.state.phase.tag → IsMoveRequest new.state.stage new.state request

-- a phase that begins: only what is posted now has its tag
new_phase : (s : Store) (call : Moving) → Asking s call → (request : Message) (only : Message) (posts : List Post) → Each (λ (x : Message). x ≡ only) posts → Asked s posts request → IsSamePoint (tag_of request) (next_tag call.phase.tag) → request ≡ only
new_phase s call asking request only posts each (before sent) same =
    let le = asking.bound request sent same.call in
    let phase : (tag_of request).phase ≡ call.phase.tag.phase + 1 = same.phase in
    absurd (omega arith)
new_phase s call asking request only posts each (now to c) same = each (record { to = to; message = request }) c

-- a phase that goes on: nothing is posted
same_phase : (s : Store) (call : Moving) → Asking s call → (request : Message) → Asked s [] request → IsSome (request_key request) → IsSamePoint (tag_of request) call.phase.tag → IsMoveRequest call.stage call request
same_phase s call asking request (before sent) some same = asking.old request sent some same
same_phase s call asking request (now to c) some same = absurd (let lt = c.1 in omega arith)

pub took_request : (s : Store) (call : Moving) (message : Message) → Asking s call → (new : (Step Moving)) → MoveTook strong_rule call message new → new.out.end ≡ None → (request : Message) → Asked s new.out.posts request → IsSome (request_key request) → TookRequest request new
took_request s call message asking new unheard none request asked some =
    same_phase s call asking request asked some
took_request s call message asking new (froze_first tag at epoch newest policy newest_policy stage got c apart) none request asked some =
    let freeze : Message = m.Freeze (next_tag call.phase.tag) call.key epoch in
    new_phase s call asking request freeze (posts_to (replicas_of policy) freeze) (each_to (λ (x : Message). x ≡ freeze) (replicas_of policy) freeze refl) asked
took_request s call message asking new (froze_one tag replica version mark value old target best stage got c) none request asked some =
    λ same. subst (λ (x : Stage). IsMoveRequest x call request) stage (same_phase s call asking request asked some same)
took_request s call message asking new (froze_all tag replica version mark value old target best found stage got c quorum e) none request asked some =
    let seed : Message = m.Seed (next_tag call.phase.tag) call.key target.number found.stamp found.value in
    λ same. (found.value, new_phase s call asking request seed (posts_to (first_write_set target.policy) seed) (each_to (λ (x : Message). x ≡ seed) (first_write_set target.policy) seed refl) asked same)
took_request s call message asking new (seeded_next tag replica old target frozen seeded top_gone stage got c) none request asked some =
    λ same. subst (λ (x : Stage). IsMoveRequest x call request) stage (same_phase s call asking request asked some same)
took_request s call message asking new (seeded_all tag replica old target frozen seeded top_gone stage got c quorum) none request asked some =
    let switch : Message = m.Switch (next_tag call.phase.tag) call.key old target.number in
    let post : Post = record { to = to.Directory; message = switch } in
    new_phase s call asking request switch (post ∷ []) (each_one (λ (x : Message). x ≡ switch) post refl) asked
took_request s call message asking new (was_refused tag replica epoch old target frozen seeded top_gone stage got c) none request asked some =
    λ same. subst (λ (x : Stage). IsMoveRequest x call request) stage (same_phase s call asking request asked some same)
took_request s call message asking new _ none request asked some = absurd (cc)
