-- What ends tell of what is settled is kept; a quorum of a leg meets what was settled, so reads and tickets are above what was answered before.
use Rattle.std.proofs.Common.{◌≡◌, ℕ, true, List, ap, ◌∙◌, subst, arith, Some, ◌⊎◌, inl, inr, ◌+◌, ◌*◌, ◌≤◌, Bool, sym, ◌<◌, false, refl, Contains, nat_lt, None, ltb-true, ltb-false, subst₂}
use Rattle.register_law.proofs.Words.{has, faults_of, DcSet, KeyId, Quorum, IsAtMost, stamp_cmp, Stamp, Message, has_quorum, Found, best_stamp, Leg, Stage, First, Second, CallState, ToRead, ToWrite, Store, policy_of, Ghost, Inv, HasPolicy, IsAskedOf, StrongCounted, TicketOf, YesCounted, HasMost, IsKept, WasSent, is_at_most, version_before, CallBacked, is_ge, common_steps, StrongWork as Work, members_of, FoundFrozen, FoundSettled, Within, both, count_of, IsAbove, Tag, Begun, HasAnswered, IsTagOf, HavesCounted, ticket_noted, IsAtMost-trans, NotedLeg, and_left, and_right}
use Rattle.wire_msg.specs.declared.message.Message.TheVariants as m
use Rattle.strong_proxy.specs.declared.progress.Leg.{Leg as CallLeg}
use Rattle.register_law.proofs.CallsStrong.{store_request, read_request, haves_of, ReadFloor, AskFloor, repairs_found}
use Rattle.register_law.proofs.Quorums.{at_most_test, settled_below, member_is_in, shared, crossing, at_most_is}
use Rattle.register_law.proofs.MovesTook.{most_pass, quorums_share, quorum_is}
use Rattle.register_law.proofs.Next.{AnswersWhen, at_mark, repaired}
use Rattle.register_law.proofs.CallsAnswers.{PhaseRequest}
use Rattle.register_law.proofs.AnswersFence.{above_at_most}
use Rattle.std.proofs.lemmas.Option.{same_Some}

-- a lesser stamp is kept too
pub kept_below : (key : KeyId) (s : Store) (g : Ghost) (high low : Stamp) → is_at_most low high ≡ true → IsKept key s g high → IsKept key s g low
kept_below key s g high low below h = record { epoch = h.epoch; opened = h.opened; settled = settled_below key s g h.epoch high low below h.settled }

asked_second : (work : Work) (stage : Stage) (member : Quorum) (set : DcSet) → stage ≡ Second → IsAskedOf work stage member set → set ≡ member.write
asked_second ToRead Second member set is h = h
asked_second (ToWrite value) Second member set is h = h
asked_second work stage member set is h = absurd (cc)

-- a stamp that whoever counted in a second phase with its number had is settled
pub second_settles : (key : KeyId) (s : Store) (g : Ghost) (now : CallState) (stamp : Stamp) → CallBacked key s g now → now.progress.stage ≡ Second → has_quorum now.progress.leg.f now.progress.phase ≡ true
    → ((d : ℕ) → has now.progress.phase.good d ≡ true → IsAtMost stamp (version_before key s g d now.progress.leg.epoch)) → IsKept key s g stamp
second_settles key s g now stamp b stage_is quorum each =
    let p : HasPolicy key s g now = b.policy in
    let epoch : ℕ = now.progress.leg.epoch in
    let f_is : now.progress.leg.f ≡ faults_of (policy_of s key now.progress.leg.epoch) = ap (λ (x : Leg). x.f) p.leg in
    let set_is : now.progress.phase.asked ≡ p.member.write = asked_second now.work now.progress.stage p.member now.progress.phase.asked stage_is p.asked in
    let most : HasMost now.progress.leg.f now.progress.phase.asked (λ d. is_at_most stamp (version_before key s g d now.progress.leg.epoch)) =
    most_pass now.progress.leg.f now.progress.phase (λ d. is_at_most stamp (version_before key s g d now.progress.leg.epoch)) quorum b.within (λ d good. at_most_test stamp (version_before key s g d now.progress.leg.epoch) (each d good)) in
    record {
      epoch = now.progress.leg.epoch;
      opened = p.opened;
      settled = record {
        member = p.member;
        is_member = member_is_in (policy_of s key now.progress.leg.epoch) now.progress.at.0 p.member p.is_member;
        settled = subst (λ (x : DcSet). HasMost (faults_of (policy_of s key now.progress.leg.epoch)) x (λ d. is_at_most stamp (version_before key s g d now.progress.leg.epoch))) set_is
            (subst (λ (n : ℕ). HasMost n now.progress.phase.asked (λ d. is_at_most stamp (version_before key s g d now.progress.leg.epoch))) f_is most);
      };
    }

-- a read that has repaired gives a stamp that is kept
pub repaired_is_kept : (key : KeyId) (s : Store) (g : Ghost) (now : CallState) (found : Found) → Inv key s g → CallBacked key s g now → PhaseRequest s now → now.progress.key ≡ key → now.work ≡ ToRead → now.progress.stage ≡ Second → has_quorum now.progress.leg.f now.progress.phase ≡ true → now.best ≡ Some found
    → IsKept key s g found.stamp
repaired_is_kept key s g now found inv b asked at_key work_is stage_is quorum best_is =
    let yes : YesCounted s now.progress.phase = subst₂ (λ (w : Work) (x : Stage). StrongCounted s w x now) work_is stage_is b.counted in
    let asks = repairs_found now.work now.progress.stage now asked.request work_is stage_is asked.is in
    let repair = asks.2 ∙ ap (λ (x : Found). m.Repair now.progress.phase.tag now.progress.key now.progress.leg.epoch x.stamp x.value) (same_Some asks.0 found (sym asks.1 ∙ best_is)) in
    let sent : WasSent s (m.Repair now.progress.phase.tag key now.progress.leg.epoch found.stamp found.value) =
    subst (λ (x : KeyId). WasSent s (m.Repair now.progress.phase.tag x now.progress.leg.epoch found.stamp found.value)) at_key (subst (λ (x : Message). WasSent s x) repair asked.sent) in
    second_settles key s g now found.stamp b stage_is quorum (λ d good. inv.answers.yes_repair now.progress.phase.tag d now.progress.leg.epoch found.stamp found.value sent (yes d good))

-- a write that is stored has a stamp that is kept
pub stored_is_kept : (key : KeyId) (s : Store) (g : Ghost) (now : CallState) (value : List ℕ) → Inv key s g → CallBacked key s g now → PhaseRequest s now → now.progress.key ≡ key → now.work ≡ ToWrite value → now.progress.stage ≡ Second → has_quorum now.progress.leg.f now.progress.phase ≡ true
    → IsKept key s g now.progress.leg.ticket
stored_is_kept key s g now value inv b asked at_key work_is stage_is quorum =
    let yes : YesCounted s now.progress.phase = subst₂ (λ (w : Work) (x : Stage). StrongCounted s w x now) work_is stage_is b.counted in
    let store = store_request now.work now.progress.stage now asked.request value work_is stage_is asked.is in
    let epoch_is : now.progress.leg.ticket.epoch ≡ now.progress.leg.epoch = (subst (λ (w : Work). TicketOf w now.progress) work_is b.policy.ticket).0 in
    let sent : WasSent s (m.Store now.progress.phase.tag key now.progress.leg.ticket value) =
    subst (λ (x : KeyId). WasSent s (m.Store now.progress.phase.tag x now.progress.leg.ticket value)) at_key (subst (λ (x : Message). WasSent s x) store asked.sent) in
    second_settles key s g now now.progress.leg.ticket b stage_is quorum
    (λ d good. subst (λ (e : ℕ). IsAtMost now.progress.leg.ticket (version_before key s g d e)) epoch_is (inv.answers.yes_store now.progress.phase.tag d now.progress.leg.ticket value sent (yes d good)))

mark_covers : (mark version : Stamp) → is_ge (stamp_cmp mark version) ≡ true → is_at_most version mark ≡ true
mark_covers mark version h = grind (arith, common_steps)

-- a read that a mark lets answer gives a stamp that is kept
pub marked_is_kept : (key : KeyId) (s : Store) (g : Ghost) (now : CallState) (found : Found) → Inv key s g → CallBacked key s g now → PhaseRequest s now → now.progress.key ≡ key → now.work ≡ ToRead → now.progress.stage ≡ First → now.best ≡ Some found → is_ge (stamp_cmp now.progress.top_mark found.stamp) ≡ true
    → IsKept key s g found.stamp
marked_is_kept key s g now found inv b asked at_key work_is stage_is best_is covers =
    let haves = haves_of s now.work now.progress.stage now found work_is stage_is best_is b.counted in
    let read : asked.request ≡ m.Read now.progress.phase.tag now.progress.key now.progress.leg.epoch = read_request now.work now.progress.stage now asked.request work_is stage_is asked.is in
    let sent : WasSent s (m.Read now.progress.phase.tag key now.progress.leg.epoch) =
    subst (λ (x : KeyId). WasSent s (m.Read now.progress.phase.tag x now.progress.leg.epoch)) at_key (subst (λ (x : Message). WasSent s x) read asked.sent) in
    let mark : IsKept key s g now.progress.top_mark = (inv.messages.read_known now.progress.phase.tag now.progress.leg.epoch haves.marked.d haves.marked.version now.progress.top_mark haves.marked.value sent haves.marked.sent).1 in
    kept_below key s g now.progress.top_mark found.stamp (mark_covers now.progress.top_mark found.stamp covers) mark

-- whenever a read answers, what it gives is kept
pub answer_is_kept : (key : KeyId) (s : Store) (g : Ghost) (now : CallState) (found : Found) → Inv key s g → CallBacked key s g now → PhaseRequest s now → now.progress.key ≡ key → AnswersWhen now.progress.stage now.work (best_stamp now.best) now.progress → now.best ≡ Some found → IsKept key s g found.stamp
answer_is_kept key s g now found inv b asked at_key (at_mark version stage_is work_is quorum best covers) best_is =
    let same : version ≡ found.stamp = (let e : best_stamp now.best ≡ Some found.stamp = ap best_stamp best_is in cc) in
    marked_is_kept key s g now found inv b asked at_key work_is stage_is best_is (subst (λ (x : Stamp). is_ge (stamp_cmp now.progress.top_mark x) ≡ true) same covers)
answer_is_kept key s g now found inv b asked at_key (repaired stage_is work_is quorum) best_is = repaired_is_kept key s g now found inv b asked at_key work_is stage_is quorum best_is

-- ---- a quorum of a leg meets what was settled, so reads and tickets are above what was answered before

-- replicas that were frozen for the leg's epoch are among any that reach its number: the blocking law
pub frozen_reached : (key : KeyId) (s : Store) (leg : NotedLeg) (member : Quorum) (set : DcSet) (good : ℕ → Bool) → Contains (members_of (policy_of s key leg.epoch)) member → (set ≡ member.read) ⊎ (set ≡ member.write) → Within good (has set)
    → count_of (has set) ≤ count_of good + faults_of (policy_of s key leg.epoch) → FoundFrozen key s leg → (d : ℕ) × (good d ≡ true) × (leg.epoch ≤ (leg.snap d).frozen)
frozen_reached key s leg member set good is_member which within enough f =
    let met : faults_of (policy_of s key leg.epoch) + 1 ≤ count_of (both (has f.frozen) (has set)) =
    elim which as (λ _. faults_of (policy_of s key leg.epoch) + 1 ≤ count_of (both (has f.frozen) (has set))) [
      | inl is ↦ subst (λ (x : DcSet). faults_of (policy_of s key leg.epoch) + 1 ≤ count_of (both (has f.frozen) (has x))) (sym is) (f.meets member is_member).0
      | inr is ↦ subst (λ (x : DcSet). faults_of (policy_of s key leg.epoch) + 1 ≤ count_of (both (has f.frozen) (has x))) (sym is) (f.meets member is_member).1
    ] in
    let z = shared (has set) good (both (has f.frozen) (has set)) within (λ d k. and_right (has f.frozen d) (has set d) k) (omega arith) in
    (z.0, z.1, f.over z.0 (and_left (has f.frozen z.0) (has set z.0) z.2))

-- a set that shares 2f + 1 replicas with whoever settled the floor finds it
pub floor_reached : (key : KeyId) (s : Store) (leg : NotedLeg) (set : DcSet) (good : ℕ → Bool) (floor : Stamp) → Within good (has set)
    → count_of (has set) ≤ count_of good + faults_of (policy_of s key leg.epoch)
    → ((member : Quorum) → Contains (members_of (policy_of s key leg.epoch)) member → 2 * faults_of (policy_of s key leg.epoch) + 1 ≤ count_of (both (has set) (has member.write)))
    → FoundSettled key s leg floor → (d : ℕ) × (good d ≡ true) × (is_at_most floor (leg.snap d).version ≡ true)
floor_reached key s leg set good floor within enough meet h =
    let w : ℕ → Bool = has h.member.write in
    let x : ℕ → Bool = both w (λ d. is_at_most floor (leg.snap d).version) in
    let z = crossing (faults_of (policy_of s key leg.epoch)) (has set) w good x within (λ d k. and_left (w d) (is_at_most floor (leg.snap d).version) k) enough h.settled (meet h.member h.is_member) in
    (z.0, z.1, and_right (w z.0) (is_at_most floor (leg.snap z.0).version) z.2)

-- ---- a first phase that has its number finds the floor of its call

-- the replicas that answered a leg's first phase: all but f of one of a member's sets, none of which was frozen for the leg's epoch
pub record Reaches (key : KeyId) (s : Store) (g : Ghost) (leg : NotedLeg) (member : Quorum) (set : DcSet) (good : ℕ → Bool) : Type 0 where
  pub noted : Contains g.legs leg
  pub is_member : Contains (members_of (policy_of s key leg.epoch)) member
  pub which : (set ≡ member.read) ⊎ (set ≡ member.write)
  pub within : Within good (has set)
  pub enough : count_of (has set) ≤ count_of good + faults_of (policy_of s key leg.epoch)
  pub runs : (d : ℕ) → good d ≡ true → (leg.snap d).frozen < leg.epoch

-- one of them that had the floor when the leg began
pub record HadFloor (leg : NotedLeg) (good : ℕ → Bool) (floor : Stamp) : Type 0 where
  pub d : ℕ
  pub counted : good d ≡ true
  pub had : IsAtMost floor (leg.snap d).version

sets_share : (key : KeyId) (s : Store) (g : Ghost) (leg : NotedLeg) (member : Quorum) (set : DcSet) → Inv key s g → Contains g.opened leg.epoch → Contains (members_of (policy_of s key leg.epoch)) member → (set ≡ member.read) ⊎ (set ≡ member.write)
    → (other : Quorum) → Contains (members_of (policy_of s key leg.epoch)) other → 2 * faults_of (policy_of s key leg.epoch) + 1 ≤ count_of (both (has set) (has other.write))
sets_share key s g leg member set inv opened is_member which other is_other =
    let out = inv.openings.published leg.epoch opened in
    let share = quorums_share (policy_of s key leg.epoch) (inv.openings.policies_quorum leg.epoch out.0 out.1) member other is_member is_other in
    elim which as (λ _. 2 * faults_of (policy_of s key leg.epoch) + 1 ≤ count_of (both (has set) (has other.write))) [
      | inl is ↦ subst (λ (x : DcSet). 2 * faults_of (policy_of s key leg.epoch) + 1 ≤ count_of (both (has x) (has other.write))) (sym is) share.0
      | inr is ↦ subst (λ (x : DcSet). 2 * faults_of (policy_of s key leg.epoch) + 1 ≤ count_of (both (has x) (has other.write))) (sym is) share.1
    ]

pub leg_reaches : (key : KeyId) (s : Store) (g : Ghost) → Inv key s g → (leg : NotedLeg) (b : Begun) (member : Quorum) (set : DcSet) (good : ℕ → Bool) → g.begun leg.call ≡ Some b → Reaches key s g leg member set good → HadFloor leg good b.floor
leg_reaches key s g inv leg b member set good begun r = by (nat_lt leg.epoch b.epoch) refl
  where
    by : (t : Bool) → nat_lt leg.epoch b.epoch ≡ t → HadFloor leg good b.floor
    by true is =
        let f = frozen_reached key s leg member set good r.is_member r.which r.within r.enough (inv.legs.blocked leg b r.noted begun (ltb-true leg.epoch b.epoch is)) in
        absurd (let over = f.2 in let open_still = r.runs f.0 f.1 in omega arith)
    by false is =
        let opened = (inv.legs.opened leg r.noted).0 in
        let f = floor_reached key s leg set good b.floor r.within r.enough (sets_share key s g leg member set inv opened r.is_member r.which) (inv.legs.floor leg b r.noted begun (ltb-false leg.epoch b.epoch is)) in
        record { d = f.0; counted = f.1; had = at_most_is b.floor (leg.snap f.0).version f.2 }

-- a read whose first phase has its number found a version of at least its floor
pub read_floor : (key : KeyId) (s : Store) (g : Ghost) → Inv key s g → (leg : NotedLeg) (b : Begun) (member : Quorum) (tag : Tag) (best : Found) (mark : Stamp) (good : ℕ → Bool) → g.begun leg.call ≡ Some b → Contains g.legs leg → leg.ticket ≡ None → IsTagOf leg tag
    → Contains (members_of (policy_of s key leg.epoch)) member → Within good (has member.read) → count_of (has member.read) ≤ count_of good + faults_of (policy_of s key leg.epoch)
    → ((d : ℕ) → good d ≡ true → HasAnswered s tag d best mark) → IsAtMost b.floor best.stamp
read_floor key s g inv leg b member tag best mark good begun noted ticket of is_member within enough answered =
    let tells : (d : ℕ) → good d ≡ true → _ = λ d c. let a = answered d c in inv.answers.have_read leg tag d a.version a.marked a.value noted ticket of a.sent in
    let f = leg_reaches key s g inv leg b member member.read good begun (record { noted = noted; is_member = is_member; which = inl refl; within = within; enough = enough; runs = λ d c. (tells d c).1 }) in
    let a = answered f.d f.counted in
    IsAtMost-trans b.floor (leg.snap f.d).version best.stamp f.had (IsAtMost-trans (leg.snap f.d).version a.version best.stamp (tells f.d f.counted).0 a.below)

-- a write whose first phase has its number has a ticket above its floor
pub ask_floor : (key : KeyId) (s : Store) (g : Ghost) → Inv key s g → (leg : NotedLeg) (b : Begun) (member : Quorum) (tag : Tag) (ticket : Stamp) (good : ℕ → Bool) → g.begun leg.call ≡ Some b → Contains g.legs leg → leg.ticket ≡ Some ticket → IsTagOf leg tag
    → Contains (members_of (policy_of s key leg.epoch)) member → Within good (has member.write) → count_of (has member.write) ≤ count_of good + faults_of (policy_of s key leg.epoch)
    → ((d : ℕ) → good d ≡ true → WasSent s (m.Yes tag (record { 0 = d }))) → IsAbove ticket b.floor
ask_floor key s g inv leg b member tag ticket good begun noted ticket_is of is_member within enough said =
    let tells : (d : ℕ) → good d ≡ true → _ = λ d c. inv.answers.yes_ask leg tag d ticket noted ticket_is of (said d c) in
    let f = leg_reaches key s g inv leg b member member.write good begun (record { noted = noted; is_member = is_member; which = inr refl; within = within; enough = enough; runs = λ d c. (tells d c).1 }) in
    above_at_most ticket (leg.snap f.d).version b.floor (tells f.d f.counted).0 f.had

-- ---- a live read or write whose first phase has its number is above whatever was answered before it began

-- all but f of the set that the call asked have counted, by the policy of the leg's epoch
enough_in : (key : KeyId) (s : Store) (call : CallState) (epoch : ℕ) (set : DcSet) → call.progress.leg.f ≡ faults_of (policy_of s key call.progress.leg.epoch) → call.progress.leg.epoch ≡ epoch → call.progress.phase.asked ≡ set → has_quorum call.progress.leg.f call.progress.phase ≡ true
    → count_of (has set) ≤ count_of (has call.progress.phase.good) + faults_of (policy_of s key epoch)
enough_in key s call epoch set f_is epoch_is asked quorum =
    subst (λ (n : ℕ). count_of (has set) ≤ count_of (has call.progress.phase.good) + faults_of (policy_of s key n)) epoch_is
    (subst (λ (x : DcSet). count_of (has x) ≤ count_of (has call.progress.phase.good) + faults_of (policy_of s key call.progress.leg.epoch)) asked
    (subst (λ (n : ℕ). count_of (has call.progress.phase.asked) ≤ count_of (has call.progress.phase.good) + n) f_is (quorum_is call.progress.leg.f call.progress.phase quorum)))

faults_is : (key : KeyId) (s : Store) (g : Ghost) (call : CallState) → HasPolicy key s g call → call.progress.leg.f ≡ faults_of (policy_of s key call.progress.leg.epoch)
faults_is key s g call p = ap (λ (x : CallLeg). x.f) p.leg

pub reads_are_above : (key : KeyId) (s : Store) (g : Ghost) → Inv key s g → ReadFloor key s g
reads_are_above key s g inv call best b backed at_key work stage quorum found begun =
    let p = backed.policy in
    let n = backed.leg stage in
    let leg : NotedLeg = n.leg in
    let in_policy : Contains (members_of (policy_of s key call.progress.leg.epoch)) p.member = member_is_in (policy_of s key call.progress.leg.epoch) call.progress.at.0 p.member p.is_member in
    let asked : call.progress.phase.asked ≡ p.member.read = subst₂ (λ (w : Work) (x : Stage). IsAskedOf w x p.member call.progress.phase.asked) work stage p.asked in
    let haves : HavesCounted s call best = haves_of s call.work call.progress.stage call best work stage found backed.counted in
    read_floor key s g inv leg b p.member call.progress.phase.tag best call.progress.top_mark (has call.progress.phase.good)
    (ap g.begun n.call_is ∙ begun) n.noted (n.ticket_is ∙ ap (λ (x : Work). ticket_noted x call.progress.leg.ticket) work) (record { call = sym n.call_is; phase = sym n.phase_is })
    (subst (λ (e : ℕ). Contains (members_of (policy_of s key e)) p.member) (sym n.epoch_is) in_policy)
    (λ d c. subst (λ (x : DcSet). has x d ≡ true) asked (backed.within d c))
    (enough_in key s call leg.epoch p.member.read (faults_is key s g call p) (sym n.epoch_is) asked quorum)
    haves.each

pub asks_are_above : (key : KeyId) (s : Store) (g : Ghost) → Inv key s g → AskFloor key s g
asks_are_above key s g inv call value b backed at_key work stage quorum begun =
    let p = backed.policy in
    let n = backed.leg stage in
    let leg : NotedLeg = n.leg in
    let in_policy : Contains (members_of (policy_of s key call.progress.leg.epoch)) p.member = member_is_in (policy_of s key call.progress.leg.epoch) call.progress.at.0 p.member p.is_member in
    let asked : call.progress.phase.asked ≡ p.member.write = subst₂ (λ (w : Work) (x : Stage). IsAskedOf w x p.member call.progress.phase.asked) work stage p.asked in
    ask_floor key s g inv leg b p.member call.progress.phase.tag call.progress.leg.ticket (has call.progress.phase.good)
    (ap g.begun n.call_is ∙ begun) n.noted (n.ticket_is ∙ ap (λ (x : Work). ticket_noted x call.progress.leg.ticket) work) (record { call = sym n.call_is; phase = sym n.phase_is })
    (subst (λ (e : ℕ). Contains (members_of (policy_of s key e)) p.member) (sym n.epoch_is) in_policy)
    (λ d c. subst (λ (x : DcSet). has x d ≡ true) asked (backed.within d c))
    (enough_in key s call leg.epoch p.member.write (faults_is key s g call p) (sym n.epoch_is) asked quorum)
    (subst₂ (λ (w : Work) (x : Stage). StrongCounted s w x call) work stage backed.counted)
