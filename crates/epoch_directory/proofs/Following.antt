-- What lasts as a directory takes messages and publishes tables.
use Rattle.std.proofs.Common.{◌≡◌, ◌≢◌, ℕ, ◌-◌, ◌<◌, ◌≤◌, ◌⊎◌, inl, inr, Bool, true, false, cond, List, [], ◌∷◌, length, get_or, refl, ap, arith}
use Rattle.std.specs.Prelude.{slice_set, nat_lt, nat_le, ◌&&◌, ◌==◌}
use Rattle.std.proofs.lemmas.Bool.{cases_eq, cases_lt, ltb-true, eqb-true}
use Rattle.std.proofs.lemmas.List.{length-append, get_or_append_left, get_or-set_same, get_or-set_other, set_past}
use Rattle.span_base.specs.declared.ids.KeyId.{KeyId}
use Rattle.span_base.specs.declared.policy.Policy.{Policy}
use Rattle.wire_msg.specs.declared.message.Message.{Message}
use Rattle.wire_msg.specs.declared.message.Message.TheVariants as m
use Rattle.epoch_directory.specs.declared.table.SetPolicy.{SetPolicy}
use Rattle.epoch_directory.specs.State.{State, latest, no_policy, current_of}
use Rattle.epoch_directory.specs.Tables.{table_after, after_publish}
use Rattle.epoch_directory.specs.Step.{step, can_switch, with_current}
use Rattle.epoch_directory.specs.Laws.{Follows}

itself : (state : State) → Follows state state
itself state = record { sets = refl; latest = omega arith; policies = λ epoch set out. refl; current = λ key. omega arith }

-- a list in which one number rose
rose : (xs : List ℕ) (i j x : ℕ) → get_or xs i 0 ≤ x → (j ≡ i) ⊎ (j ≢ i) → (i < length xs) ⊎ (length xs ≤ i) → get_or xs j 0 ≤ get_or (slice_set xs i x) j 0
rose xs i j x up (inl same) (inl within) = omega (arith, up, get_or-set_same xs i x 0 within, ap (λ k. get_or xs k 0) same, ap (λ k. get_or (slice_set xs i x) k 0) same)
rose xs i j x up (inr other) _ = omega (arith, get_or-set_other xs i j x 0 other)
rose xs i j x up (inl same) (inr past) = omega (arith, ap (λ ys. get_or ys j 0) (set_past xs i x past))

-- where the epoch to be closed is current, and the one to be opened is greater
rises : (a b c : Bool) (current closing opening : ℕ) → (current == closing) ≡ a → nat_lt closing opening ≡ b → (a && b && c) ≡ true → current ≤ opening
rises true true c current closing opening is more can = omega (arith, eqb-true current closing is, ltb-true closing opening more)
rises true false c current closing opening is more can = absurd (cc)
rises false b c current closing opening is more can = absurd (cc)

switched : (state : State) (key : KeyId) (closing opening : ℕ) (b : Bool) → can_switch state key closing opening ≡ b → Follows state (cond b (with_current state key opening) state)
switched state key closing opening true can = record {
  sets = refl;
  latest = omega arith;
  policies = λ epoch set out. refl;
  current = λ other. rose state.current key.0 other.0 opening (rises (current_of state key == closing) (nat_lt closing opening) (nat_le opening (latest state)) (current_of state key) closing opening refl refl can) (cases_eq other.0 key.0) (cases_lt key.0 (length state.current));
}
switched state key closing opening false can = itself state

pub step_follows : (state : State) (message : Message) → Follows state (step state message).state
step_follows state (m.Switch tag key closing opening) = switched state key closing opening (can_switch state key closing opening) refl
step_follows state _ = itself state

pub publish_follows : (state : State) (table : List SetPolicy) → Follows state (after_publish state table)
publish_follows state table = record {
  sets = refl;
  latest = omega (arith, length-append state.tables (table_after state table ∷ []));
  policies = λ epoch set out. ap (λ (policies : List Policy). get_or policies set no_policy) (get_or_append_left state.tables (table_after state table ∷ []) [] (epoch - 1) (omega (arith, out.first, out.last)));
  current = λ key. omega arith;
}
