-- How a call is found by its number among the live ones.
use Rattle.std.proofs.Common.{◌≡◌, ℕ, ◌<◌, Bool, true, false, cond, List, length, get_or, refl, sym, ap, ◌∙◌, arith}
use Rattle.std.specs.Prelude.{slice_get, nat_lt, is_some, Option, Some, None, option_and_then}
use Rattle.std.specs.Option.{option_map_or}
use Rattle.std.specs.List.{position_or_len}
use Rattle.std.proofs.lemmas.Bool.{eq-eqb, lt-ltb, le-ltb}
use Rattle.std.proofs.lemmas.List.Sums.{position_or_len_is}
use Rattle.std.proofs.lemmas.Option.{slice_get-get_or}
use Rattle.slot_pool.specs.Slots.{Slot, Content, Empty, Holds, Retired, item_of, item_for, item_at, handle_of, handle_at, new_slot}
use Rattle.world_core.specs.declared.live.LiveCall.{LiveCall}
use Rattle.world_core.specs.Step.{holds_call, handle_of_call}

abbrev Calls : Type 0
Calls = List (Slot LiveCall)

abbrev slot_at : Calls → ℕ → Slot LiveCall
slot_at calls n = get_or calls n (new_slot 1)

-- the item under the handle of a slot is that of the slot
item_there : (calls : Calls) (n : ℕ) → n < length calls → item_at calls (handle_of calls n) ≡ item_of (slot_at calls n).content
item_there calls n within =
    let there : slice_get calls n ≡ Some (slot_at calls n) = slice_get-get_or calls n (new_slot 1) within in
    ap (λ (o : Option (Slot LiveCall)). option_and_then (item_for (option_map_or (λ (slot : Slot LiveCall). slot.generation) o 0)) o) there
    ∙ ap (λ b. cond b (item_of (slot_at calls n).content) None) (eq-eqb (slot_at calls n).generation (slot_at calls n).generation refl)

-- no slot below holds the call of this number
abbrev pub NoneBelow : Calls → ℕ → ℕ → Type 0
NoneBelow calls seq n = (k : ℕ) → k < n → holds_call seq (get_or calls k (new_slot 1)).content ≡ false

abbrev holds : ℕ → Slot LiveCall → Bool
holds seq slot = holds_call seq slot.content

some_call : (seq : ℕ) (content : Content LiveCall) → holds_call seq content ≡ true → is_some (item_of content) ≡ true
some_call seq Empty is = absurd (cc)
some_call seq (Holds call) is = refl
some_call seq Retired is = absurd (cc)

-- the first slot that holds it tells its handle
pub handle_found : (calls : Calls) (seq n : ℕ) → n < length calls → NoneBelow calls seq n → holds_call seq (slot_at calls n).content ≡ true → handle_at calls n ≡ handle_of_call calls seq
handle_found calls seq n within before here =
    let first : position_or_len (holds seq) calls ≡ n = position_or_len_is (holds seq) calls n (new_slot 1) (omega (arith, within)) before (λ _. here) in
    let live : is_some (item_at calls (handle_of calls n)) ≡ true = ap is_some (item_there calls n within) ∙ some_call seq (slot_at calls n).content here in
    ap (λ b. cond b (Some (handle_of calls n)) None) live
    ∙ sym (ap (λ i. option_map_or (λ number. Some (handle_of calls number)) (cond (nat_lt i (length calls)) (Some i) None) None) first
    ∙ ap (λ b. option_map_or (λ number. Some (handle_of calls number)) (cond b (Some n) None) None) (lt-ltb n (length calls) within))

-- where no slot holds it, it isn't live
pub handle_none : (calls : Calls) (seq : ℕ) → NoneBelow calls seq (length calls) → None ≡ handle_of_call calls seq
handle_none calls seq all =
    let first : position_or_len (holds seq) calls ≡ length calls = position_or_len_is (holds seq) calls (length calls) (new_slot 1) (omega arith) all (λ past. absurd (omega (arith, past))) in
    sym (ap (λ i. option_map_or (λ number. Some (handle_of calls number)) (cond (nat_lt i (length calls)) (Some i) None) None) first
    ∙ ap (λ b. option_map_or (λ number. Some (handle_of calls number)) (cond b (Some (length calls)) None) None) (le-ltb (length calls) (length calls) (omega arith)))
