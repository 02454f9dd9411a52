-- How the frames of a path change as one is put or taken.
use Rattle.std.proofs.Common.{◌≡◌, ◌≢◌, ℕ, zero, suc, ◌+◌, ◌-◌, ◌^◌, ◌<◌, ◌≤◌, Bool, false, Option, Some, None, List, [], ◌∷◌, length, set, slice_get, get_or, replicate, cond, eqb, not, inl, inr, is_some, refl, sym, ap, ◌∙◌, subst, arith}
use Rattle.std.specs.Prelude.{◌↔◌, Result, Ok, Err, IsErr, IfOk}
use Rattle.std.specs.Result.{result_ok}
use Rattle.std.specs.Option.{option_map_or}
use Rattle.std.proofs.lemmas.Bool.{cases_eq}
use Rattle.std.proofs.lemmas.Bool.Decides.{nat_tests}
use Rattle.std.proofs.lemmas.List.{length-set, set-set, set-get_or, set_comm, length-replicate}
use Rattle.std.proofs.lemmas.List.Sums.{sum_by-set}
use Rattle.std.proofs.lemmas.List.Folds.{sum_by-replicate}
use Rattle.std.proofs.lemmas.Option.{slice_get_within, get_or_from_slice_get, none-some, same_Some}
use Rattle.bound_cert.specs.Trees.{IsFree, fix}
use Rattle.cert_checker.specs.declared.turns.Turn.{Turn}
use Rattle.cert_checker.specs.Paths.{fixed_over, IsPath}
use Rattle.cert_checker.proofs.Trails.{nones, nones-replicate, nones-fix, length-fixed_over}
use Rattle.slot_pool.specs.declared.handles.Handle.{Handle}
use Rattle.slot_pool.specs.declared.handles.Full.{Full}
use Rattle.slot_pool.specs.Slots.{Slot, Empty, Holds, is_empty, new_slot, full_slot, emptied_slot, live_count, item_at, next_handle, with_item, without_item, after_put, after_take}
use Rattle.slot_pool.proofs.PoolLemmas.{next_is, item_at-full, live_count-set}
use Rattle.branch_solver.specs.declared.frames.Frame.{Frame}
use Rattle.branch_solver.specs.Frames.{take_count, turns_from, trail_in, Pops, freed, IsStack, HoldsTurns}

-- ---- slots

get-set_same : {X : Type 0} (xs : List X) (k : ℕ) (x : X) → k < length xs → slice_get (set xs k x) k ≡ Some x
get-set_same [] k x within = absurd (omega arith)
get-set_same (y ∷ xs) zero x within = refl
get-set_same (y ∷ xs) (suc k) x within = get-set_same xs k x (omega arith)

get-set_other : {X : Type 0} (xs : List X) (k j : ℕ) (x : X) → j ≢ k → slice_get (set xs k x) j ≡ slice_get xs j
get-set_other [] k j x differs = refl
get-set_other (y ∷ xs) zero zero x differs = absurd (differs refl)
get-set_other (y ∷ xs) zero (suc j) x differs = refl
get-set_other (y ∷ xs) (suc k) zero x differs = refl
get-set_other (y ∷ xs) (suc k) (suc j) x differs = get-set_other xs k j x (λ same. differs (ap suc same))

take_count-set : (slots : List (Slot Frame)) (k : ℕ) (old new : Slot Frame) → slice_get slots k ≡ Some old → take_count (set slots k new) + (old.generation - 1) ≡ take_count slots + (new.generation - 1)
take_count-set slots k old new there =
    rw (get_or_from_slice_get slots k old old there) at (sum_by-set (λ (slot : Slot Frame). slot.generation - 1) slots k new old (slice_get_within slots k old there))

-- an empty slot isn't one that holds a frame
empty_apart : (slots : List (Slot Frame)) (j k generation first : ℕ) (frame : Frame) → slice_get slots j ≡ Some (full_slot generation frame) → slice_get slots k ≡ Some (new_slot first) → j ≢ k
empty_apart slots j k generation first frame full empty same =
    let both : full_slot generation frame ≡ new_slot first = same_Some _ _ (sym full ∙ ap (slice_get slots) same ∙ empty) in
    let contents : Holds frame ≡ Empty = ap (λ (slot : Slot Frame). slot.content) both in
    cc

-- ---- a stack of frames

abbrev frame_of : Turn → Option Handle → Frame
frame_of turn parent = record { turn = turn; parent = parent }

pub stack_live : (slots : List (Slot Frame)) (deepest : Option Handle) (turns : List Turn) → IsStack slots deepest turns → live_count slots ≡ length turns
stack_live slots deepest [] stack = stack.1
stack_live slots deepest (turn ∷ above) stack =
    let handle : Handle = stack.0.handle in
    let rest = stack_live (freed slots stack.0.handle) stack.0.parent above stack.1 in
    omega (arith, rest, live_count-set slots stack.0.handle.slot (full_slot stack.0.handle.generation (frame_of turn stack.0.parent)) (new_slot (stack.0.handle.generation + 1)) stack.0.stands)

-- the generation of an empty slot doesn't matter
stack_raised : (slots : List (Slot Frame)) (deepest : Option Handle) (turns : List Turn) (k first next : ℕ) → IsStack slots deepest turns → slice_get slots k ≡ Some (new_slot first) → IsStack (set slots k (new_slot next)) deepest turns
stack_raised slots deepest [] k first next stack there =
    (stack.0, omega (arith, stack.1, live_count-set slots k (new_slot first) (new_slot next) there))
stack_raised slots deepest (turn ∷ above) k first next stack there =
    let handle : Handle = stack.0.handle in
    let apart : stack.0.handle.slot ≢ k = empty_apart slots stack.0.handle.slot k stack.0.handle.generation first (frame_of turn stack.0.parent) stack.0.stands there in
    let apart' : k ≢ stack.0.handle.slot = λ same. apart (sym same) in
    let there' : slice_get (freed slots stack.0.handle) k ≡ Some (new_slot first) = get-set_other slots stack.0.handle.slot k (new_slot (stack.0.handle.generation + 1)) apart' ∙ there in
    let rest = stack_raised (freed slots stack.0.handle) stack.0.parent above k first next stack.1 there' in
    let P : List (Slot Frame) → Type 0 = λ s. IsStack s stack.0.parent above in (
      record {
        handle = stack.0.handle;
        parent = stack.0.parent;
        is = stack.0.is;
        stands = get-set_other slots k stack.0.handle.slot (new_slot next) apart ∙ stack.0.stands;
      },
      subst P (set_comm slots stack.0.handle.slot k (new_slot (stack.0.handle.generation + 1)) (new_slot next) apart) rest,
    )

stack_push : (slots : List (Slot Frame)) (deepest : Option Handle) (turns : List Turn) (turn : Turn) (handle : Handle) → IsStack slots deepest turns → next_handle slots ≡ Some handle → IsStack (with_item slots handle (frame_of turn deepest)) (Some handle) (turn ∷ turns)
stack_push slots deepest turns turn handle stack next =
    let empty = next_is slots handle next in
    let full : Slot Frame = full_slot handle.generation (frame_of turn deepest) in
    let P : List (Slot Frame) → Type 0 = λ s. IsStack s deepest turns in (
      record {
        handle = handle;
        parent = deepest;
        is = refl;
        stands = get-set_same slots handle.slot (full_slot handle.generation (frame_of turn deepest)) (slice_get_within slots handle.slot (new_slot handle.generation) empty);
      },
      subst P (sym (set-set slots handle.slot (full_slot handle.generation (frame_of turn deepest)) (new_slot (handle.generation + 1)))) (stack_raised slots deepest turns handle.slot handle.generation (handle.generation + 1) stack empty),
    )

-- ---- the turns that are read from the deepest frame up

-- each frame of the first slots stands in the second
Extends : List (Slot Frame) → List (Slot Frame) → Type 0
Extends small large =
    (handle : Handle) (frame : Frame) → slice_get small handle.slot ≡ Some (full_slot handle.generation frame) → slice_get large handle.slot ≡ Some (full_slot handle.generation frame)

extends_freed : (slots : List (Slot Frame)) (handle : Handle) → Extends (freed slots handle) slots
unfolding Extends
extends_freed slots handle other frame there =
    elim (cases_eq other.slot handle.slot) [
      | inl same ↦
          let within : other.slot < length slots = omega (arith, slice_get_within (freed slots handle) other.slot (full_slot other.generation frame) there, length-set slots handle.slot (new_slot (handle.generation + 1))) in
          let emptied : slice_get (freed slots handle) handle.slot ≡ Some (new_slot (handle.generation + 1)) = get-set_same slots handle.slot (new_slot (handle.generation + 1)) (omega (arith, within, same)) in
          absurd (empty_apart (freed slots handle) other.slot handle.slot other.generation (handle.generation + 1) frame there emptied same)
      | inr differs ↦ sym (get-set_other slots handle.slot other.slot (new_slot (handle.generation + 1)) differs) ∙ there
    ]

no_turn : (most : ℕ) (slots : List (Slot Frame)) → turns_from most slots None ≡ []
no_turn zero slots = refl
no_turn (suc most) slots = refl

turn_more : (most : ℕ) (slots : List (Slot Frame)) (handle : Handle) (turn : Turn) (parent : Option Handle) → item_at slots handle ≡ Some (frame_of turn parent) → turns_from (suc most) slots (Some handle) ≡ turn ∷ turns_from most slots parent
turn_more most slots handle turn parent item =
    ap (λ o. option_map_or (λ (frame : Frame). frame.turn ∷ turns_from most slots frame.parent) o []) item

turns_of_stack : (most : ℕ) (small large : List (Slot Frame)) (deepest : Option Handle) (turns : List Turn) → IsStack small deepest turns → Extends small large → length turns ≤ most → turns_from most large deepest ≡ turns
unfolding Extends
turns_of_stack most small large deepest [] stack extends within = ap (turns_from most large) stack.0 ∙ no_turn most large
turns_of_stack zero small large deepest (turn ∷ above) stack extends within = absurd (omega arith)
turns_of_stack (suc most) small large deepest (turn ∷ above) stack extends within =
    let frame : Frame = frame_of turn stack.0.parent in
    let item = item_at-full large stack.0.handle (frame_of turn stack.0.parent) (extends stack.0.handle (frame_of turn stack.0.parent) stack.0.stands) in
    let rest = turns_of_stack most (freed small stack.0.handle) large stack.0.parent above stack.1 (λ h f there. extends h f (extends_freed small stack.0.handle h f there)) (omega (arith, within)) in
    ap (turns_from (suc most) large) stack.0.is ∙ turn_more most large stack.0.handle turn stack.0.parent item ∙ ap (λ ts. turn ∷ ts) rest

-- ---- the path that the frames hold

young_slot : (generation : ℕ) → generation < 4294967295 → emptied_slot {T = Frame} generation ≡ new_slot (generation + 1)
young_slot generation below =
    let differs : eqb generation 4294967295 ≡ false = grind (arith, nat_tests) in
    rw differs refl

-- a path has a turn on each variable at most
turn_count : (variables : ℕ) (turns : List Turn) → IsPath variables turns → nones (fixed_over variables turns) + length turns ≡ variables
turn_count variables [] apart = omega (arith, nones-replicate variables)
turn_count variables (turn ∷ above) apart =
    omega (arith, nones-fix (fixed_over variables above) turn.var turn.bit (apart 0 turn refl), turn_count variables above (λ at t e. apart (suc at) t e))

path_down : (variables : ℕ) (turn : Turn) (above : List Turn) → IsFree (fixed_over variables above) turn.var → IsPath variables above → IsPath variables (turn ∷ above)
path_down variables turn above free apart zero t e =
    let same : turn ≡ t = cc in
    let P : Turn → Type 0 = λ u. IsFree (fixed_over variables above) u.var in subst P same free
path_down variables turn above free apart (suc at) t e = apart at t e

few_turns : (slots : List (Slot Frame)) (deepest : Option Handle) (fixed : List (Option Bool)) (turns : List Turn) → HoldsTurns slots deepest fixed turns → length turns < length slots
few_turns slots deepest fixed turns holds =
    omega (arith, turn_count (length fixed) turns holds.apart, holds.room)

-- the turns that are read are those that the frames hold
pub turns_are : (slots : List (Slot Frame)) (deepest : Option Handle) (fixed : List (Option Bool)) (turns : List Turn) → HoldsTurns slots deepest fixed turns → turns_from (length slots) slots deepest ≡ turns
unfolding Extends
turns_are slots deepest fixed turns holds =
    turns_of_stack (length slots) slots slots deepest turns holds.stack (λ handle frame there. there) (omega (arith, few_turns slots deepest fixed turns holds))

pub holds_read : (slots : List (Slot Frame)) (deepest : Option Handle) (fixed : List (Option Bool)) (turns : List Turn) → HoldsTurns slots deepest fixed turns → HoldsTurns slots deepest fixed (turns_from (length slots) slots deepest)
holds_read slots deepest fixed turns holds =
    let P : List Turn → Type 0 = λ ts. HoldsTurns slots deepest fixed ts in
    subst P (sym (turns_are slots deepest fixed turns holds)) holds

pub trail_is : (slots : List (Slot Frame)) (deepest : Option Handle) (fixed : List (Option Bool)) (turns : List Turn) (variables puts : ℕ) → HoldsTurns slots deepest fixed turns → length fixed ≡ variables → take_count slots + live_count slots ≡ puts → trail_in slots deepest fixed ≡ record { variables = variables; turns = turns; puts = puts }
trail_is slots deepest fixed turns variables puts holds size count =
    rw (turns_are slots deepest fixed turns holds, size, count) refl

-- no frame was put yet
pub new_counts : (n : ℕ) → (take_count (replicate n (new_slot 1)) ≡ 0) × (live_count {T = Frame} (replicate n (new_slot 1)) ≡ 0)
new_counts n = (
  omega (arith, sum_by-replicate (λ (slot : Slot Frame). slot.generation - 1) n (new_slot 1)),
  omega (arith, sum_by-replicate (λ (slot : Slot Frame). cond (not (is_empty slot.content)) 1 0) n (new_slot 1)),
)

pub holds_new : (variables : ℕ) → HoldsTurns (replicate (variables + 1) (new_slot 1)) None (replicate variables None) []
holds_new variables = record {
  room = let slots : length (replicate (variables + 1) (new_slot {T = Frame} 1)) ≡ variables + 1 = length-replicate (variables + 1) (new_slot 1) in
      let bits : length {A = Option Bool} (replicate variables None) ≡ variables = length-replicate variables None in
      omega (arith, slots, bits);
  stack = (refl, (new_counts (variables + 1)).1);
  fixes = ap (λ n. replicate n None) (sym (length-replicate variables None));
  apart = λ at turn e. absurd (cc);
}

-- the slots with a frame more, and its handle
pub holds_push : (slots : List (Slot Frame)) (deepest : Option Handle) (fixed : List (Option Bool)) (turns : List Turn) (turn : Turn) (handle : Handle) → HoldsTurns slots deepest fixed turns → IsFree fixed turn.var → next_handle slots ≡ Some handle → HoldsTurns (after_put slots (record { turn = turn; parent = deepest })) (Some handle) (fix fixed turn.var turn.bit) (turn ∷ turns)
holds_push slots deepest fixed turns turn handle holds free next =
    let size : length (fix fixed turn.var turn.bit) ≡ length fixed = length-set fixed turn.var (Some turn.bit) in
    let put : after_put slots (frame_of turn deepest) ≡ with_item slots handle (frame_of turn deepest) = ap (λ o. option_map_or (λ h. with_item slots h (frame_of turn deepest)) o slots) next in
    let P : List (Slot Frame) → Type 0 = λ s. HoldsTurns s (Some handle) (fix fixed turn.var turn.bit) (turn ∷ turns) in
    subst P (sym put) (record {
      room = omega (arith, length-set slots handle.slot (full_slot handle.generation (frame_of turn deepest)), size, holds.room);
      stack = stack_push slots deepest turns turn handle holds.stack next;
      fixes = ap (λ f. fix f turn.var turn.bit) holds.fixes ∙ ap (λ n. fix (fixed_over n turns) turn.var turn.bit) (sym size);
      apart = let Q : ℕ → Type 0 = λ n. IsPath n (turn ∷ turns) in
          let R : List (Option Bool) → Type 0 = λ f. IsFree f turn.var in
          subst Q (sym size) (path_down (length fixed) turn turns (subst R holds.fixes free) holds.apart);
    })

pub puts_push : (slots : List (Slot Frame)) (frame : Frame) (handle : Handle) → next_handle slots ≡ Some handle → take_count (after_put slots frame) + live_count (after_put slots frame) ≡ take_count slots + live_count slots + 1
puts_push slots frame handle next =
    let put : after_put slots frame ≡ with_item slots handle frame = ap (λ o. option_map_or (λ h. with_item slots h frame) o slots) next in
    let empty = next_is slots handle next in
    let takes = take_count-set slots handle.slot (new_slot handle.generation) (full_slot handle.generation frame) empty in
    let live = live_count-set slots handle.slot (new_slot handle.generation) (full_slot handle.generation frame) empty in
    rw put (omega (arith, takes, live))

-- the pool isn't full
pub not_full : (slots : List (Slot Frame)) (deepest : Option Handle) (fixed : List (Option Bool)) (turns : List Turn) → HoldsTurns slots deepest fixed turns → live_count slots ≡ length slots → ⊥
not_full slots deepest fixed turns holds full =
    omega (arith, full, few_turns slots deepest fixed turns holds, stack_live slots deepest turns holds.stack)

-- the frame under the handle is taken: it's the deepest
pub record Taken (slots : List (Slot Frame)) (handle : Handle) (fixed : List (Option Bool)) (turns : List Turn) (frame : Frame) : Type 0 where
  pub above : List Turn
  pub turns_are : turns ≡ frame.turn ∷ above
  pub holds : HoldsTurns (after_take slots handle) frame.parent (set fixed frame.turn.var None) above
  pub free : IsFree (fixed_over (length fixed) above) frame.turn.var
  pub puts : take_count (after_take slots handle) + live_count (after_take slots handle) ≤ take_count slots + live_count slots

-- its variable's place
pub inside : {slots : List (Slot Frame)} {handle : Handle} {fixed : List (Option Bool)} {turns : List Turn} {frame : Frame} → Taken slots handle fixed turns frame → frame.turn.var < length fixed
inside {slots} {handle} {fixed} {turns} {frame} taken =
    omega (arith, slice_get_within (fixed_over (length fixed) taken.above) frame.turn.var None taken.free, length-fixed_over (length fixed) taken.above)

same_frame : (slots : List (Slot Frame)) (handle : Handle) (one other : Frame) → item_at slots handle ≡ Some one → item_at slots handle ≡ Some other → one ≡ other
same_frame slots handle one other first second = same_Some one other (sym first ∙ second)

take_back : (fixed above : List (Option Bool)) (var : ℕ) (bit : Bool) → IsFree above var → fixed ≡ fix above var bit → set fixed var None ≡ above
take_back fixed above var bit free is =
    let none : get_or above var None ≡ None = get_or_from_slice_get above var None None free in
    ap (λ f. set f var None) is ∙ set-set above var (Some bit) None ∙ ap (set above var) (sym none) ∙ set-get_or above var None

no_deepest : (slots : List (Slot Frame)) (turns : List Turn) → IsStack slots None turns → turns ≡ []
no_deepest slots [] stack = refl
no_deepest slots (turn ∷ above) stack = absurd (none-some _ stack.0.is)

pub no_turns : (slots : List (Slot Frame)) (fixed : List (Option Bool)) (turns : List Turn) → HoldsTurns slots None fixed turns → turns ≡ []
no_turns slots fixed turns holds = no_deepest slots turns holds.stack

pub stack_item : (slots : List (Slot Frame)) (handle : Handle) (fixed : List (Option Bool)) (turns : List Turn) → HoldsTurns slots (Some handle) fixed turns → item_at slots handle ≡ None → ⊥
stack_item slots handle fixed [] holds none = none-some handle (sym holds.stack.0)
stack_item slots handle fixed (turn ∷ above) holds none =
    let same : handle ≡ holds.stack.0.handle = same_Some handle holds.stack.0.handle holds.stack.0.is in
    let item = item_at-full slots holds.stack.0.handle (frame_of turn holds.stack.0.parent) holds.stack.0.stands in
    none-some (frame_of turn holds.stack.0.parent) (sym none ∙ ap (item_at slots) same ∙ item)

pub holds_pop : (slots : List (Slot Frame)) (handle : Handle) (fixed : List (Option Bool)) (turns : List Turn) (frame : Frame) → HoldsTurns slots (Some handle) fixed turns → item_at slots handle ≡ Some frame → take_count slots + live_count slots < 2 ^ 32 - 1 → Taken slots handle fixed turns frame
holds_pop slots handle fixed [] frame holds item few = absurd (none-some handle (sym holds.stack.0))
holds_pop slots handle fixed (turn ∷ above) frame holds item few =
    let stack = holds.stack.0 in
    let at_handle : handle ≡ stack.handle = same_Some handle stack.handle stack.is in
    let P : Handle → Type 0 = λ h. slice_get slots h.slot ≡ Some (full_slot h.generation (frame_of turn stack.parent)) in
    let stands : slice_get slots handle.slot ≡ Some (full_slot handle.generation (frame_of turn stack.parent)) = subst P (sym at_handle) stack.stands in
    let is : frame_of turn stack.parent ≡ frame = same_frame slots handle (frame_of turn stack.parent) frame (item_at-full slots handle (frame_of turn stack.parent) stands) item in
    let live = stack_live slots (Some handle) (turn ∷ above) holds.stack in
    let rest_of_takes = take_count-set slots handle.slot (full_slot handle.generation (frame_of turn stack.parent)) (record { generation = 0; content = Empty }) stands in
    let young : handle.generation < 4294967295 = omega (arith, rest_of_takes, live, few) in
    let emptied : emptied_slot handle.generation ≡ new_slot (handle.generation + 1) = young_slot handle.generation young in
    let gone : after_take slots handle ≡ freed slots handle = ap (λ o. cond (is_some o) (without_item slots handle) slots) item ∙ ap (set slots handle.slot) emptied in
    let takes = take_count-set slots handle.slot (full_slot handle.generation (frame_of turn stack.parent)) (new_slot (handle.generation + 1)) stands in
    let lives = live_count-set slots handle.slot (full_slot handle.generation (frame_of turn stack.parent)) (new_slot (handle.generation + 1)) stands in
    let free : IsFree (fixed_over (length fixed) above) turn.var = holds.apart 0 turn refl in
    let back : set fixed turn.var None ≡ fixed_over (length fixed) above = take_back fixed (fixed_over (length fixed) above) turn.var turn.bit free holds.fixes in
    let size : length (set fixed turn.var None) ≡ length fixed = length-set fixed turn.var None in
    let Q : Frame → Type 0 = λ f. Taken slots handle fixed (turn ∷ above) f in
    let R : Handle → Type 0 = λ h. IsStack (freed slots h) stack.parent above in
    let S : List (Slot Frame) → Type 0 = λ s. HoldsTurns s stack.parent (set fixed turn.var None) above in
    subst Q is (record {
      above = above;
      turns_are = refl;
      holds = subst S (sym gone) (record {
        room = omega (arith, length-set slots handle.slot (new_slot {T = Frame} (handle.generation + 1)), size, holds.room);
        stack = subst R (sym at_handle) holds.stack.1;
        fixes = back ∙ ap (λ n. fixed_over n above) (sym size);
        apart = let T : ℕ → Type 0 = λ n. IsPath n above in subst T (sym size) (λ at t e. holds.apart (suc at) t e);
      });
      free = free;
      puts = rw gone (omega (arith, takes, lives));
    })

pub taken : {slots : List (Slot Frame)} {deepest : Option Handle} {fixed : List (Option Bool)} {handle : Handle} {frame : Frame} {result : Option Frame} → HoldsTurns slots deepest fixed (turns_from (length slots) slots deepest) → deepest ≡ Some handle → result ≡ item_at slots handle → result ≡ Some frame → take_count slots + live_count slots < 2 ^ 32 - 1 → Taken slots handle fixed (turns_from (length slots) slots deepest) frame
taken {slots} {deepest} {fixed} {handle} {frame} {result} holds is value some few =
    let P : Option Handle → Type 0 = λ d. HoldsTurns slots d fixed (turns_from (length slots) slots deepest) in
    holds_pop slots handle fixed (turns_from (length slots) slots deepest) frame (subst P is holds) (sym value ∙ some) few

-- what is left once the deepest frame is taken
pub pops : {slots : List (Slot Frame)} (deepest : Option Handle) {handle : Handle} {fixed : List (Option Bool)} {frame : Frame} {slots' : List (Slot Frame)} {fixed' : List (Option Bool)} → Taken slots handle fixed (turns_from (length slots) slots deepest) frame → slots' ≡ after_take slots handle → fixed' ≡ set fixed frame.turn.var None → HoldsTurns slots' frame.parent fixed' (turns_from (length slots') slots' frame.parent) × Pops (trail_in slots deepest fixed) frame.turn (trail_in slots' frame.parent fixed')
pops {slots} deepest {handle} {fixed} {frame} {slots'} {fixed'} taken slots_are fixed_are =
    let P : List (Slot Frame) → Type 0 = λ s. HoldsTurns s frame.parent (set fixed frame.turn.var None) taken.above in
    let Q : List (Option Bool) → Type 0 = λ f. HoldsTurns slots' frame.parent f taken.above in
    let holds : HoldsTurns slots' frame.parent fixed' taken.above = subst Q (sym fixed_are) (subst P (sym slots_are) taken.holds) in
    let read = turns_are slots' frame.parent fixed' taken.above holds in
    let size : length fixed' ≡ length fixed = ap length fixed_are ∙ length-set fixed frame.turn.var None in
    let R : ℕ → Type 0 = λ n. IsFree (fixed_over n (turns_from (length slots') slots' frame.parent)) frame.turn.var in
    let S : List Turn → Type 0 = λ ts. IsFree (fixed_over (length fixed) ts) frame.turn.var in
    let T : List (Slot Frame) → Type 0 = λ s. take_count s + live_count s ≤ take_count slots + live_count slots in (
      holds_read slots' frame.parent fixed' taken.above holds,
      record {
        variables = size;
        turns = taken.turns_are ∙ ap (λ ts. frame.turn ∷ ts) (sym read);
        puts = subst T (sym slots_are) taken.puts;
        free = subst R (sym size) (subst S (sym read) taken.free);
      },
    )

-- the handle of a frame that was put
pub put_under : (slots : List (Slot Frame)) (deepest : Option Handle) (fixed : List (Option Bool)) (turns : List Turn) (result : Result Handle (Full Frame)) → HoldsTurns slots deepest fixed turns → (IsErr result ↔ (live_count slots ≡ length slots)) → IfOk result (λ handle. next_handle slots ≡ Some handle) → (handle : Handle) × (result_ok result ≡ Some handle) × (next_handle slots ≡ Some handle)
put_under slots deepest fixed turns (Ok handle) holds full next = (handle, refl, next)
put_under slots deepest fixed turns (Err refused) holds full next = absurd (not_full slots deepest fixed turns holds (full.0 refl))

-- what there is once a frame is put
pub pushes : {slots : List (Slot Frame)} {deepest : Option Handle} {fixed : List (Option Bool)} (turn : Turn) (result : Result Handle (Full Frame)) {slots' : List (Slot Frame)} {fixed' : List (Option Bool)} → HoldsTurns slots deepest fixed (turns_from (length slots) slots deepest) → IsFree fixed turn.var → (IsErr result ↔ (live_count slots ≡ length slots)) → IfOk result (λ handle. next_handle slots ≡ Some handle) → slots' ≡ after_put slots (record { turn = turn; parent = deepest }) → fixed' ≡ fix fixed turn.var turn.bit → HoldsTurns slots' (result_ok result) fixed' (turns_from (length slots') slots' (result_ok result)) × (trail_in slots' (result_ok result) fixed' ≡ record { variables = length fixed; turns = turn ∷ turns_from (length slots) slots deepest; puts = take_count slots + live_count slots + 1 })
pushes {slots} {deepest} {fixed} turn result {slots'} {fixed'} holds free full next slots_are fixed_are =
    let turns : List Turn = turns_from (length slots) slots deepest in
    let under = put_under slots deepest fixed (turns_from (length slots) slots deepest) result holds full next in
    let put = holds_push slots deepest fixed (turns_from (length slots) slots deepest) turn under.0 holds free under.2 in
    let P : Option Handle → Type 0 = λ o. HoldsTurns (after_put slots (frame_of turn deepest)) o (fix fixed turn.var turn.bit) (turn ∷ turns_from (length slots) slots deepest) in
    let Q : List (Slot Frame) → Type 0 = λ s. HoldsTurns s (result_ok result) (fix fixed turn.var turn.bit) (turn ∷ turns_from (length slots) slots deepest) in
    let R : List (Option Bool) → Type 0 = λ f. HoldsTurns slots' (result_ok result) f (turn ∷ turns_from (length slots) slots deepest) in
    let now : HoldsTurns slots' (result_ok result) fixed' (turn ∷ turns_from (length slots) slots deepest) = subst R (sym fixed_are) (subst Q (sym slots_are) (subst P (sym under.1) put)) in
    let size : length fixed' ≡ length fixed = ap length fixed_are ∙ length-set fixed turn.var (Some turn.bit) in
    let count : take_count slots' + live_count slots' ≡ take_count slots + live_count slots + 1 = ap (λ s. take_count s + live_count s) slots_are ∙ puts_push slots (frame_of turn deepest) under.0 under.2 in (
      holds_read slots' (result_ok result) fixed' (turn ∷ turns_from (length slots) slots deepest) now,
      trail_is slots' (result_ok result) fixed' (turn ∷ turns_from (length slots) slots deepest) (length fixed) (take_count slots + live_count slots + 1) now size count,
    )
