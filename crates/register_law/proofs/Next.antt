-- What each thing that a strong call does next rests on.
use Rattle.std.proofs.Common.{◌≡◌, ℕ, ◌<◌, ◌≤◌, Bool, true, false, List, refl, subst, if◌then◌else◌, nat_lt, ◌==◌, Option, Some, None, ltb-true, ltb-false}
use Rattle.register_law.proofs.Words.{member_of, Quorum, stamp_cmp, stamp_zero, Stamp, View, has_quorum, is_lost, Found, answer_or_repair, best_stamp, decided, enter, go_over, leg_under, next_of, next_ticket, verdict_at, Next, Enter, Fenced, Look, Moved, NumbersOut, Outside, Repair, Stored, Unsure, Value, Wait, Leg, Progress, Stage, Ended, First, Looking, Second, CallState, ToRead, ToWrite, is_ge, StrongWork as Work, StoreNext as Store}

-- a write stores only from its first phase, with a quorum of grants
pub record StoresWhen (stage : Stage) (work : Work) (p : Progress) : Type 0 where
  pub value : List ℕ
  pub stage_is : stage ≡ First
  pub work_is : work ≡ ToWrite value
  pub quorum : has_quorum p.leg.f p.phase ≡ true

-- a read answers a version that a mark covers, or that it has repaired
pub data AnswersWhen (stage : Stage) (work : Work) (best : Option Stamp) (p : Progress) : Type 0 where
  at_mark : (version : Stamp) → stage ≡ First → work ≡ ToRead → has_quorum p.leg.f p.phase ≡ true → best ≡ Some version → is_ge (stamp_cmp p.top_mark version) ≡ true → AnswersWhen stage work best p
  repaired : stage ≡ Second → work ≡ ToRead → has_quorum p.leg.f p.phase ≡ true → AnswersWhen stage work best p

-- a read repairs a version that no mark covers
pub record RepairsWhen (stage : Stage) (work : Work) (best : Option Stamp) (p : Progress) : Type 0 where
  pub version : Stamp
  pub stage_is : stage ≡ First
  pub work_is : work ≡ ToRead
  pub quorum : has_quorum p.leg.f p.phase ≡ true
  pub best_is : best ≡ Some version
  pub unmarked : is_ge (stamp_cmp p.top_mark version) ≡ false

-- a write is stored at all but f
pub record ConfirmsWhen (stage : Stage) (work : Work) (p : Progress) : Type 0 where
  pub value : List ℕ
  pub stage_is : stage ≡ Second
  pub work_is : work ≡ ToWrite value
  pub quorum : has_quorum p.leg.f p.phase ≡ true

-- a write is fenced off by greater tickets alone
pub record FencesWhen (stage : Stage) (work : Work) (p : Progress) : Type 0 where
  pub value : List ℕ
  pub stage_is : stage ≡ First
  pub work_is : work ≡ ToWrite value
  pub lost : is_lost p.leg.f p.phase ≡ true
  pub none_gone : p.had_gone ≡ false

-- a write that sent its Stores is refused by more than f
pub record DoubtsWhen (stage : Stage) (work : Work) (p : Progress) : Type 0 where
  pub value : List ℕ
  pub stage_is : stage ≡ Second
  pub work_is : work ≡ ToWrite value
  pub lost : is_lost p.leg.f p.phase ≡ true

-- a leg is over: never one of a write that sent its Stores
pub data GoesOver (stage : Stage) (work : Work) (p : Progress) (view : View) : Type 0 where
  over_first : stage ≡ First → is_lost p.leg.f p.phase ≡ true → GoesOver stage work p view
  over_repair : stage ≡ Second → work ≡ ToRead → is_lost p.leg.f p.phase ≡ true → GoesOver stage work p view
  over_look : stage ≡ Looking → view.epoch ≤ p.leg.epoch → GoesOver stage work p view

pub record LooksWhen (stage : Stage) (work : Work) (p : Progress) (view : View) : Type 0 where
  pub over : GoesOver stage work p view
  pub few : p.lookups < 4

pub record MovesWhen (stage : Stage) (work : Work) (p : Progress) (view : View) : Type 0 where
  pub over : GoesOver stage work p view
  pub many : 4 ≤ p.lookups

-- a later leg's ticket
abbrev pub EntersWith : Work → Stamp → View → ℕ → Progress → Type 0
EntersWith ToRead ticket view seen p = ticket ≡ stamp_zero
EntersWith (ToWrite value) ticket view seen p = ticket ≡ next_ticket view seen p

-- a call that looks begins a leg of a later epoch
pub record EntersWhen (leg : Leg) (stage : Stage) (work : Work) (p : Progress) (view : View) (seen : ℕ) : Type 0 where
  pub member : Quorum
  pub ticket : Stamp
  pub stage_is : stage ≡ Looking
  pub later : p.leg.epoch < view.epoch
  pub is_member : member_of view.policy p.at.0 ≡ Some member
  pub leg_is : leg ≡ leg_under view member ticket
  pub ticket_is : EntersWith work ticket view seen p

pub record LeavesWhen (stage : Stage) (p : Progress) (view : View) : Type 0 where
  pub stage_is : stage ≡ Looking
  pub later : p.leg.epoch < view.epoch
  pub no_member : member_of view.policy p.at.0 ≡ None

pub record RunsOutWhen (stage : Stage) (work : Work) (p : Progress) (view : View) (seen : ℕ) : Type 0 where
  pub value : List ℕ
  pub stage_is : stage ≡ Looking
  pub work_is : work ≡ ToWrite value
  pub later : p.leg.epoch < view.epoch
  pub numbers : (seen == 18446744073709551615) ≡ true

-- a call waits while nothing is decided; a read with no version, and one that has ended, never come to it
pub data WaitsWhen (stage : Stage) (work : Work) (best : Option Stamp) (p : Progress) : Type 0 where
  undecided : has_quorum p.leg.f p.phase ≡ false → is_lost p.leg.f p.phase ≡ false → WaitsWhen stage work best p
  nothing_found : stage ≡ First → work ≡ ToRead → has_quorum p.leg.f p.phase ≡ true → best ≡ None → WaitsWhen stage work best p
  over : stage ≡ Ended → WaitsWhen stage work best p

abbrev pub RestsOn : Stage → Work → Option Stamp → Progress → View → ℕ → Next → Type 0
RestsOn stage work best p view seen Wait = WaitsWhen stage work best p
RestsOn stage work best p view seen Value = AnswersWhen stage work best p
RestsOn stage work best p view seen Repair = RepairsWhen stage work best p
RestsOn stage work best p view seen Store = StoresWhen stage work p
RestsOn stage work best p view seen Stored = ConfirmsWhen stage work p
RestsOn stage work best p view seen Fenced = FencesWhen stage work p
RestsOn stage work best p view seen Unsure = DoubtsWhen stage work p
RestsOn stage work best p view seen Look = LooksWhen stage work p view
RestsOn stage work best p view seen Moved = MovesWhen stage work p view
RestsOn stage work best p view seen Outside = LeavesWhen stage p view
RestsOn stage work best p view seen NumbersOut = RunsOutWhen stage work p view seen
RestsOn stage work best p view seen (Enter leg) = EntersWhen leg stage work p view seen

chosen : (P : Next → Type 0) (b : Bool) (one other : Next) → (b ≡ true → P one) → (b ≡ false → P other) → P (if b then one else other)
chosen P true one other f g = f refl
chosen P false one other f g = g refl

of_decided : (P : Next → Type 0) (p : Progress) (good lost : Next) → (has_quorum p.leg.f p.phase ≡ true → P good) → (is_lost p.leg.f p.phase ≡ true → P lost)
    → (has_quorum p.leg.f p.phase ≡ false → is_lost p.leg.f p.phase ≡ false → P Wait) → P (decided p good lost)
of_decided P p good lost f g h =
    chosen P (has_quorum p.leg.f p.phase) good (if is_lost p.leg.f p.phase then lost else Wait) f (λ a. chosen P (is_lost p.leg.f p.phase) lost Wait g (h a))

of_go_over : (stage : Stage) (work : Work) (best : Option Stamp) (p : Progress) (view : View) (seen : ℕ) → GoesOver stage work p view → RestsOn stage work best p view seen (go_over p)
of_go_over stage work best p view seen o =
    chosen (RestsOn stage work best p view seen) (nat_lt p.lookups 4) Look Moved (λ a. record { over = o; few = ltb-true p.lookups 4 a }) (λ a. record { over = o; many = ltb-false p.lookups 4 a })

of_answer : (best : Option Stamp) (p : Progress) (view : View) (seen : ℕ) → has_quorum p.leg.f p.phase ≡ true → RestsOn First ToRead best p view seen (answer_or_repair p.top_mark best)
of_answer None p view seen q = nothing_found refl refl q refl
of_answer (Some version) p view seen q =
    chosen (RestsOn First ToRead (Some version) p view seen) (is_ge (stamp_cmp p.top_mark version)) Value Repair (λ a. at_mark version refl refl q refl a)
    (λ a. record { version = version; stage_is = refl; work_is = refl; quorum = q; best_is = refl; unmarked = a })

of_enter : (work : Work) (best : Option Stamp) (p : Progress) (view : View) (seen : ℕ) (member : Option Quorum) → p.leg.epoch < view.epoch → member_of view.policy p.at.0 ≡ member → RestsOn Looking work best p view seen (enter member work p view seen)
of_enter work best p view seen None lt is = record { stage_is = refl; later = lt; no_member = is }
of_enter ToRead best p view seen (Some member) lt is =
    record { member = member; ticket = stamp_zero; stage_is = refl; later = lt; is_member = is; leg_is = refl; ticket_is = refl }
of_enter (ToWrite value) best p view seen (Some member) lt is =
    chosen (RestsOn Looking (ToWrite value) best p view seen) (seen == 18446744073709551615) NumbersOut (Enter (leg_under view member (next_ticket view seen p)))
    (λ a. record { value = value; stage_is = refl; work_is = refl; later = lt; numbers = a })
    (λ _. record { member = member; ticket = next_ticket view seen p; stage_is = refl; later = lt; is_member = is; leg_is = refl; ticket_is = refl })

pub rests : (stage : Stage) (work : Work) (best : Option Stamp) (p : Progress) (view : View) (seen : ℕ) → RestsOn stage work best p view seen (verdict_at stage work best p view seen)
rests First ToRead best p view seen =
    of_decided (RestsOn First ToRead best p view seen) p (answer_or_repair p.top_mark best) (go_over p) (of_answer best p view seen)
    (λ a. of_go_over First ToRead best p view seen (over_first refl a)) (λ a b. undecided a b)
rests First (ToWrite value) best p view seen =
    of_decided (RestsOn First (ToWrite value) best p view seen) p Store (if p.had_gone then go_over p else Fenced)
    (λ a. record { value = value; stage_is = refl; work_is = refl; quorum = a })
    (λ a. chosen (RestsOn First (ToWrite value) best p view seen) p.had_gone (go_over p) Fenced (λ _. of_go_over First (ToWrite value) best p view seen (over_first refl a))
    (λ c. record { value = value; stage_is = refl; work_is = refl; lost = a; none_gone = c }))
    (λ a b. undecided a b)
rests Second ToRead best p view seen =
    of_decided (RestsOn Second ToRead best p view seen) p Value (go_over p) (λ a. repaired refl refl a)
    (λ a. of_go_over Second ToRead best p view seen (over_repair refl refl a)) (λ a b. undecided a b)
rests Second (ToWrite value) best p view seen =
    of_decided (RestsOn Second (ToWrite value) best p view seen) p Stored Unsure
    (λ a. record { value = value; stage_is = refl; work_is = refl; quorum = a }) (λ a. record { value = value; stage_is = refl; work_is = refl; lost = a }) (λ a b. undecided a b)
rests Looking work best p view seen =
    chosen (RestsOn Looking work best p view seen) (nat_lt p.leg.epoch view.epoch) (enter (member_of view.policy p.at.0) work p view seen) (go_over p)
    (λ a. of_enter work best p view seen (member_of view.policy p.at.0) (ltb-true p.leg.epoch view.epoch a) refl)
    (λ a. of_go_over Looking work best p view seen (over_look refl (ltb-false p.leg.epoch view.epoch a)))
rests Ended work best p view seen = over refl

-- what a call does next, by what it is
pub rests_on : (call : CallState) (view : View) (seen : ℕ) (next : Next) → next_of call view seen ≡ next → RestsOn call.progress.stage call.work (best_stamp call.best) call.progress view seen next
rests_on call view seen next is =
    subst (RestsOn call.progress.stage call.work (best_stamp call.best) call.progress view seen) is (rests call.progress.stage call.work (best_stamp call.best) call.progress view seen)

-- the version behind a stamp
pub found_behind : (best : Option Found) (stamp : Stamp) → best_stamp best ≡ Some stamp → (found : Found) × (best ≡ Some found) × (found.stamp ≡ stamp)
found_behind None stamp h = absurd (cc)
found_behind (Some found) stamp h = (found, refl, cc)
