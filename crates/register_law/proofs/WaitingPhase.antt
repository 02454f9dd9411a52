-- A phase that waits is open: neither enough good answers nor too many refusals.
use Rattle.std.proofs.Common.{◌≡◌, ℕ, ◌+◌, Bool, true, false, refl, sym, subst, ◌*◌, ◌≤◌, ap, ◌∙◌, arith, if◌then◌else◌, ◌==◌, length, nat_lt, Option, Some, None, ltb-false, leb-true, ltb-true, leb-false, subst₂}
use Rattle.register_law.proofs.Words.{centres_of, member_of, Quorum, Stamp, View, has_quorum, is_lost, enter, go_over, leg_under, next_ticket, verdict_at, Enter, Look, Moved, NumbersOut, Wait, Progress, Stage, Ended, First, Looking, Second, ToRead, ToWrite, Waits, IsDecided, centres_below, has, no_centre, IsQuorumPolicy, faults_of, DcSet, KeyId, Policy, Found, best_stamp, Leg, CallState, Store, policy_of, OpeningsAreBacked, Ghost, FirstCounted, HasPolicy, IsAskedOf, StrongCounted, range_with_len, StrongWork as Work, count-no_centre, Next, Fenced, Outside, Repair, Stored, Unsure, Value, StoreNext}
use Rattle.register_law.specs.WaitingPhases.{IsDecidedBy, by_good, by_bad, IsOpen}
use Rattle.register_law.proofs.Next.{AnswersWhen, at_mark, repaired, GoesOver, over_first, over_repair, over_look, WaitsWhen, undecided, nothing_found, over, RestsOn}
use Rattle.register_law.specs.Waiting.{IsUndecided, AsksQuorum}
use Rattle.register_law.proofs.Quorums.{count_mono, member_is_in, reads_many, writes_many}

quorum_decides : (p : Progress) → has_quorum p.leg.f p.phase ≡ true → IsDecidedBy p.leg.f p.phase
quorum_decides p h = by_good (leb-true (length (centres_of p.phase.asked)) (length (centres_of p.phase.good) + p.leg.f) h)

loss_decides : (p : Progress) → is_lost p.leg.f p.phase ≡ true → IsDecidedBy p.leg.f p.phase
loss_decides p h = by_bad (ltb-true p.leg.f (length (centres_of p.phase.bad)) h)

at_first : (stage : Stage) (p : Progress) → stage ≡ First → IsDecidedBy p.leg.f p.phase → IsDecided stage p
at_first stage p is d = subst (λ (x : Stage). IsDecided x p) (sym is) d

at_second : (stage : Stage) (p : Progress) → stage ≡ Second → IsDecidedBy p.leg.f p.phase → IsDecided stage p
at_second stage p is d = subst (λ (x : Stage). IsDecided x p) (sym is) d

at_look : (stage : Stage) (p : Progress) → stage ≡ Looking → IsDecided stage p
at_look stage p is = subst (λ (x : Stage). IsDecided x p) (sym is) tt

answer_decides : (stage : Stage) (work : Work) (best : Option Stamp) (p : Progress) → AnswersWhen stage work best p → IsDecided stage p
answer_decides stage work best p (at_mark version first reads quorum found covered) = at_first stage p first (quorum_decides p quorum)
answer_decides stage work best p (repaired second reads quorum) = at_second stage p second (quorum_decides p quorum)

over_decides : (stage : Stage) (work : Work) (p : Progress) (view : View) → GoesOver stage work p view → IsDecided stage p
over_decides stage work p view (over_first first lost) = at_first stage p first (loss_decides p lost)
over_decides stage work p view (over_repair second reads lost) = at_second stage p second (loss_decides p lost)
over_decides stage work p view (over_look looks le) = at_look stage p looks

-- whatever a call does next, but for waiting, its phase is decided
pub decided_by : (stage : Stage) (work : Work) (best : Option Stamp) (p : Progress) (view : View) (seen : ℕ) (next : Next) → (next ≡ Wait → ⊥) → RestsOn stage work best p view seen next → IsDecided stage p
decided_by stage work best p view seen Wait goes_on r = absurd (goes_on refl)
decided_by stage work best p view seen Value goes_on r = answer_decides stage work best p r
decided_by stage work best p view seen Repair goes_on r = at_first stage p r.stage_is (quorum_decides p r.quorum)
decided_by stage work best p view seen StoreNext goes_on r = at_first stage p r.stage_is (quorum_decides p r.quorum)
decided_by stage work best p view seen Stored goes_on r = at_second stage p r.stage_is (quorum_decides p r.quorum)
decided_by stage work best p view seen Fenced goes_on r = at_first stage p r.stage_is (loss_decides p r.lost)
decided_by stage work best p view seen Unsure goes_on r = at_second stage p r.stage_is (loss_decides p r.lost)
decided_by stage work best p view seen Look goes_on r = over_decides stage work p view r.over
decided_by stage work best p view seen Moved goes_on r = over_decides stage work p view r.over
decided_by stage work best p view seen Outside goes_on r = at_look stage p r.stage_is
decided_by stage work best p view seen NumbersOut goes_on r = at_look stage p r.stage_is
decided_by stage work best p view seen (Enter leg) goes_on r = at_look stage p r.stage_is

-- a call that looks never waits once a Here has counted
goes_on_looking : (p : Progress) → go_over p ≡ Wait → ⊥
goes_on_looking p = by (nat_lt p.lookups 4)
  where
    by : (b : Bool) → (if b then Look else Moved) ≡ Wait → ⊥
    by true e = cc
    by false e = cc

enters_at_once : (o : Option Quorum) (work : Work) (p : Progress) (view : View) (seen : ℕ) → enter o work p view seen ≡ Wait → ⊥
enters_at_once None work p view seen e = cc
enters_at_once (Some member) ToRead p view seen e = cc
enters_at_once (Some member) (ToWrite value) p view seen e = by (seen == 18446744073709551615) e
  where
    by : (b : Bool) → (if b then NumbersOut else Enter (leg_under view member (next_ticket view seen p))) ≡ Wait → ⊥
    by true k = cc
    by false k = cc

pub looking_never_waits : (stage : Stage) (work : Work) (best : Option Stamp) (p : Progress) (view : View) (seen : ℕ) → stage ≡ Looking → verdict_at stage work best p view seen ≡ Wait → ⊥
looking_never_waits Looking work best p view seen is e = by (nat_lt p.leg.epoch view.epoch) e
  where
    by : (b : Bool) → (if b then enter (member_of view.policy p.at.0) work p view seen else go_over p) ≡ Wait → ⊥
    by true k = enters_at_once (member_of view.policy p.at.0) work p view seen k
    by false k = goes_on_looking p k
looking_never_waits stage work best p view seen is e = cc

pub open_at : (stage : Stage) (p : Progress) → Waits stage p → (stage ≡ Looking → ⊥) → IsOpen stage p
open_at Looking p waits looks = looks refl
open_at stage p waits looks = waits

-- ---- a phase in which nothing counted is undecided, and a call whose answers decide nothing waits

-- the call is in a phase that asks replicas
abbrev pub Asks : Stage → Type 0
Asks First = Unit {0}
Asks Second = Unit {0}
Asks Looking = ⊥
Asks Ended = ⊥

asked_many : (work : Work) (stage : Stage) (member : Quorum) (set : DcSet) (n : ℕ) → Asks stage → IsAskedOf work stage member set → n ≤ length (centres_of member.read) → n ≤ length (centres_of member.write) → n ≤ length (centres_of set)
asked_many ToRead First member set n a is reads writes = subst (λ (x : DcSet). n ≤ length (centres_of x)) (sym is) reads
asked_many (ToWrite value) First member set n a is reads writes = subst (λ (x : DcSet). n ≤ length (centres_of x)) (sym is) writes
asked_many work Second member set n a is reads writes = subst (λ (x : DcSet). n ≤ length (centres_of x)) (sym is) writes
asked_many work Looking member set n a is reads writes = absurd a
asked_many work Ended member set n a is reads writes = absurd a

-- f, and whom a call asks, are its member's
pub asks_quorum : (key : KeyId) (s : Store) (g : Ghost) (call : CallState) → HasPolicy key s g call → AsksQuorum key s call
asks_quorum key s g call p = record {
  member = p.member;
  is_member = p.is_member;
  tolerance = ap (λ (l : Leg). l.f) p.leg;
  asked = p.asked;
}

-- a phase asks more than 2 f replicas
pub asks_many : (key : KeyId) (s : Store) (g : Ghost) (call : CallState) → OpeningsAreBacked key s g → HasPolicy key s g call → Asks call.progress.stage → 2 * call.progress.leg.f + 1 ≤ length (centres_of call.progress.phase.asked)
asks_many key s g call openings p asks =
    let policy : Policy = policy_of s key call.progress.leg.epoch in
    let range = openings.published call.progress.leg.epoch p.opened in
    let sound : IsQuorumPolicy (policy_of s key call.progress.leg.epoch) = openings.policies_quorum call.progress.leg.epoch range.0 range.1 in
    let there = member_is_in (policy_of s key call.progress.leg.epoch) call.progress.at.0 p.member p.is_member in
    let f = (asks_quorum key s g call p).tolerance in
    let many : 2 * faults_of (policy_of s key call.progress.leg.epoch) + 1 ≤ length (centres_of call.progress.phase.asked) =
    asked_many call.work call.progress.stage p.member call.progress.phase.asked (2 * faults_of (policy_of s key call.progress.leg.epoch) + 1) asks p.asked
    (reads_many (policy_of s key call.progress.leg.epoch) p.member sound there) (writes_many (policy_of s key call.progress.leg.epoch) p.member sound there) in
    subst (λ (n : ℕ). 2 * n + 1 ≤ length (centres_of call.progress.phase.asked)) (sym f) many

waits_at : (stage : Stage) (p : Progress) → (Asks stage → IsUndecided p.leg.f p.phase) → (stage ≡ Ended → ⊥) → Waits stage p
waits_at First p f goes_on = f tt
waits_at Second p f goes_on = f tt
waits_at Looking p f goes_on = tt
waits_at Ended p f goes_on = goes_on refl

-- a call that has just begun a phase waits
pub new_waits : (key : KeyId) (s : Store) (g : Ghost) (call : CallState) → OpeningsAreBacked key s g → HasPolicy key s g call → call.progress.phase.good ≡ no_centre → call.progress.phase.bad ≡ no_centre → (call.progress.stage ≡ Ended → ⊥) → Waits call.progress.stage call.progress
new_waits key s g call openings p good bad goes_on =
    waits_at call.progress.stage call.progress
    (λ asks.
    (let many = asks_many key s g call openings p asks in
    let none : length (centres_of call.progress.phase.good) ≡ 0 = ap (λ (x : DcSet). length (centres_of x)) good ∙ count-no_centre in
    let no_bad : length (centres_of call.progress.phase.bad) ≡ 0 = ap (λ (x : DcSet). length (centres_of x)) bad ∙ count-no_centre in
    record { few_good = omega arith; few_bad = omega arith }))
    goes_on

none_counts : (s : DcSet) → ((d : ℕ) → has s d ≡ false) → length (centres_of s) ≡ 0
unfolding centres_of centres_below
none_counts s none =
    let le = count_mono (has s) (has no_centre) (λ d is. absurd (let e = none d in cc)) (range_with_len 0 16) in
    let z = count-no_centre in
    omega arith

no_stamp : (best : Option Found) → best_stamp best ≡ None → best ≡ None
no_stamp None is = refl
no_stamp (Some found) is = absurd (cc)

-- a call that does nothing waits
pub still_waits : (key : KeyId) (s : Store) (g : Ghost) (call : CallState) → OpeningsAreBacked key s g → HasPolicy key s g call → StrongCounted s call.work call.progress.stage call → WaitsWhen call.progress.stage call.work (best_stamp call.best) call.progress → (call.progress.stage ≡ Ended → ⊥)
    → Waits call.progress.stage call.progress
still_waits key s g call openings p counted (undecided quorum lost) goes_on =
    waits_at call.progress.stage call.progress
    (λ _. record { few_good = leb-false (length (centres_of call.progress.phase.asked)) (length (centres_of call.progress.phase.good) + call.progress.leg.f) quorum; few_bad = ltb-false call.progress.leg.f (length (centres_of call.progress.phase.bad)) lost })
    goes_on
still_waits key s g call openings p counted (nothing_found first reads quorum none) goes_on =
    let many = asks_many key s g call openings p (subst Asks (sym first) tt) in
    let zero_good = none_counts call.progress.phase.good (subst (FirstCounted s call) (no_stamp call.best none) (subst₂ (λ (w : Work) (x : Stage). StrongCounted s w x call) reads first counted)).0 in
    let le = leb-true (length (centres_of call.progress.phase.asked)) (length (centres_of call.progress.phase.good) + call.progress.leg.f) quorum in
    absurd (omega arith)
still_waits key s g call openings p counted (over is) goes_on = absurd (goes_on is)
