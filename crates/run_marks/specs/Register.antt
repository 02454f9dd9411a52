-- What it is for a history to be that of one register, whose calls take effect one at a time.
use Rattle.std.specs.Prelude.{◌≡◌, ◌≢◌, ◌⊎◌, ℕ, Bool, true, false, List, [], ◌∷◌, ◌++◌, Contains}
use Rattle.std.specs.List.{All, AllPairs}
use Rattle.span_base.specs.declared.ids.Call.{Call}
use Rattle.span_base.specs.declared.ids.KeyId.{KeyId}
use Rattle.ticket_rules.specs.declared.stamp.Stamp.{Stamp}
use Rattle.ticket_rules.specs.Stamp.{stamp_zero, IsAbove}
use Rattle.wire_msg.specs.declared.outputs.Reply.{Reply}
use Rattle.run_marks.specs.declared.mark.Work.{Work}
use Rattle.run_marks.specs.declared.mark.Mark.{Mark}
use Rattle.run_marks.specs.declared.mark.Mark.TheVariants as k
use Rattle.run_marks.specs.History.{EndsWith, Reads, Writes, is_dead, EndsBefore}

-- a call that took effect: whether it wrote, its stamp, and the value that it wrote or gave
pub record Effect : Type 0 where
  pub call : Call
  pub wrote : Bool
  pub stamp : Stamp
  pub value : List ℕ

-- the effect of a call that counts: it wrote or gave this value with this stamp
abbrev pub TookEffect : List Mark → Call → Bool → Stamp → List ℕ → Type 0
TookEffect history call true stamp value = Writes history call stamp value
TookEffect history call false stamp value = Reads history call stamp value

-- what the history tells of an effect
abbrev pub IsEffectOf : List Mark → Effect → Type 0
IsEffectOf history e = TookEffect history e.call e.wrote e.stamp e.value

-- the first call began before the second one
pub record BeginsBefore (history : List Mark) (first second : Call) : Type 0 where
  pub earlier : List Mark
  pub later : List Mark
  pub key : KeyId
  pub work : Work
  pub split : history ≡ earlier ++ k.Begin second key work ∷ later
  pub first_key : KeyId
  pub first_work : Work
  pub begun : Contains earlier (k.Begin first first_key first_work)

-- of two calls with one stamp (whether the first one wrote, whether the second one did): a write stands before the reads, and of two reads the one that began first
abbrev pub IsTieBefore : Bool → Bool → List Mark → Call → Call → Type 0
IsTieBefore first true history a b = ⊥
IsTieBefore true false history a b = Unit {0}
IsTieBefore false false history a b = BeginsBefore history a b

-- the first effect stands before the second one: by stamp, then a write before the reads, then by the begin
abbrev pub StandsBefore : List Mark → Effect → Effect → Type 0
StandsBefore history first second =
    IsAbove second.stamp first.stamp ⊎ ((second.stamp ≡ first.stamp) × IsTieBefore first.wrote second.wrote history first.call second.call)

-- a read gives what is there
abbrev pub Follows : Stamp → List ℕ → Bool → Effect → Type 0
Follows stamp value true e = Unit {0}
Follows stamp value false e = (e.stamp ≡ stamp) × (e.value ≡ value)

-- each read gives what the last write before it wrote, or, where none is before it, what was there at first
abbrev pub Walks : Stamp → List ℕ → List Effect → Type 0
Walks stamp value [] = Unit {0}
Walks stamp value (e ∷ es) = Follows stamp value e.wrote e × Walks e.stamp e.value es

-- a write's stamp is above zero
abbrev pub IsAboveZero : Bool → Stamp → Type 0
IsAboveZero true stamp = IsAbove stamp stamp_zero
IsAboveZero false stamp = Unit {0}

-- the calls of the history take effect in this order
pub record TakeEffectIn (history : List Mark) (order : List Effect) : Type 0 where
  -- every call that counts stands in the order, each effect is of such a call, and no call has two
  pub complete : (call : Call) (wrote : Bool) (stamp : Stamp) (value : List ℕ) → TookEffect history call wrote stamp value → Contains order (record { call = call; wrote = wrote; stamp = stamp; value = value })
  pub sound : All (IsEffectOf history) order
  pub once : AllPairs (λ a b. a.call ≢ b.call) order
  -- they stand by their stamps, those of writes are above zero, and no two writes share one
  pub sorted : AllPairs (StandsBefore history) order
  pub above_zero : All (λ e. IsAboveZero e.wrote e.stamp) order
  -- they are the calls of one register
  pub walk : Walks stamp_zero [] order
  -- no call stands before one that was answered before it began
  pub in_time : AllPairs (λ a b. EndsBefore history b.call a.call → ⊥) order
  -- no write counts that ended without having stored its value
  pub dead : (call : Call) (reply : Reply) (stamp : Stamp) (value : List ℕ) → EndsWith history call reply → is_dead reply ≡ true → Writes history call stamp value → ⊥

-- the history is that of one register
abbrev pub IsRegisterOrder : List Mark → Type 0
IsRegisterOrder history = (order : List Effect) × TakeEffectIn history order
