-- A directory's epochs, and its answers, fit where the message does.
use Rattle.std.proofs.Common.{ℕ, zero, suc, List, [], ◌∷◌}
use Rattle.std.specs.Prelude.{slice_index, slice_set}
use Rattle.span_base.specs.declared.ids.KeyId.{KeyId}
use Rattle.wire_msg.specs.declared.actor.Actor.TheVariants as to
use Rattle.wire_msg.specs.declared.message.Message.{Message}
use Rattle.wire_msg.specs.declared.message.Message.TheVariants as m
use Rattle.epoch_directory.specs.State.{State, latest, current_of}
use Rattle.epoch_directory.specs.Step.{here_of, can_switch, with_current, after_switch, switched_of, step}
use Rattle.register_law.proofs.Basics.{Each, each_none, each_one}
use Rattle.log_law.specs.Fits.{FitsEpoch, FitsMessage}
use Rattle.log_law.proofs.Basics.{chosen}

-- the current epochs of all keys fit
abbrev pub AreCurrent : State → Type 0
AreCurrent state = (key : KeyId) → FitsEpoch (current_of state key)

set_fits : (xs : List ℕ) (i j y : ℕ) → FitsEpoch (slice_index xs j) → FitsEpoch y → FitsEpoch (slice_index (slice_set xs i y) j)
set_fits [] i j y h k = h
set_fits (x ∷ xs) zero zero y h k = k
set_fits (x ∷ xs) zero (suc j) y h k = h
set_fits (x ∷ xs) (suc i) zero y h k = h
set_fits (x ∷ xs) (suc i) (suc j) y h k = set_fits xs i j y h k

switch_fits : (state : State) (key : KeyId) (closing opening : ℕ) → FitsEpoch opening → AreCurrent state → AreCurrent (after_switch state key closing opening)
switch_fits state key closing opening f c =
    chosen AreCurrent (can_switch state key closing opening) (with_current state key opening) state (λ other. set_fits state.current key.0 other.0 opening (c other) f) c

pub taken_current : (state : State) (message : Message) → FitsMessage message → AreCurrent state → AreCurrent (step state message).state
taken_current state (m.Lookup tag key) f c = c
taken_current state (m.Switch tag key closing opening) f c = switch_fits state key closing opening f c
taken_current state _ f c = c

pub told_fits : (state : State) (message : Message) → FitsMessage message → AreCurrent state → FitsEpoch (latest state) → Each FitsMessage (step state message).out.posts
told_fits state (m.Lookup tag key) f c l = each_one FitsMessage (record { to = to.Proxy tag.call.proxy; message = here_of state tag key }) (c key, l)
told_fits state (m.Switch tag key closing opening) f c l =
    each_one FitsMessage (record { to = to.Proxy tag.call.proxy; message = switched_of state tag key closing opening }) (switch_fits state key closing opening f c key)
told_fits state _ f c l = each_none FitsMessage
