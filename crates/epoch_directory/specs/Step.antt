-- The rule: what a directory does with a message.
use Rattle.std.specs.Prelude.{ℕ, ◌<◌, ◌==◌, ◌&&◌, Bool, nat_lt, nat_le, length, slice_set, if◌then◌else◌}
use Rattle.span_base.specs.declared.ids.KeyId.{KeyId}
use Rattle.wire_msg.specs.declared.tag.Tag.{Tag}
use Rattle.wire_msg.specs.declared.message.Message.{Message}
use Rattle.wire_msg.specs.declared.message.Message.TheVariants.{Lookup, Switch, Here, Switched}
use Rattle.wire_msg.specs.Outputs.{nothing_out, only_posts, Step}
use Rattle.wire_msg.specs.Posts.{to_proxy}
use Rattle.epoch_directory.specs.State.{State, latest, policy_in, set_of, current_of}

-- the state, and an answer to the proxy of the tag
abbrev pub answered : State → Tag → Message → Step State
answered state tag message = record { state = state; out = only_posts (to_proxy tag message) }

-- the current epoch of a key and the latest one, each with its policy
abbrev pub here_of : State → Tag → KeyId → Message
here_of state tag key =
    Here tag key (current_of state key) (policy_in state (current_of state key) (set_of state key)) (latest state) (policy_in state (latest state) (set_of state key))

-- `closing` is the key's current epoch, and `opening` is published and greater
abbrev pub can_switch : State → KeyId → ℕ → ℕ → Bool
can_switch state key closing opening =
    (current_of state key == closing) && nat_lt closing opening && nat_le opening (latest state)

-- the state in which this is the current epoch of the key
abbrev pub with_current : State → KeyId → ℕ → State
with_current state key epoch =
    record { sets = state.sets; tables = state.tables; current = slice_set state.current key.0 epoch }

-- the state after a Switch
abbrev pub after_switch : State → KeyId → ℕ → ℕ → State
after_switch state key closing opening = if can_switch state key closing opening then with_current state key opening else state

-- whether the directory switched, and the key's current epoch after it
abbrev pub switched_of : State → Tag → KeyId → ℕ → ℕ → Message
switched_of state tag key closing opening =
    Switched tag key (can_switch state key closing opening) (current_of (after_switch state key closing opening) key)

-- what a directory does with a message
abbrev pub step : State → Message → Step State
step state (Lookup tag key) = answered state tag (here_of state tag key)
step state (Switch tag key closing opening) =
    answered (after_switch state key closing opening) tag (switched_of state tag key closing opening)
step state _ = record { state = state; out = nothing_out }

-- the key of a Lookup or a Switch is one of the keys
abbrev pub HasItsKey : State → Message → Type 0
HasItsKey state (Lookup tag key) = key.0 < length state.sets
HasItsKey state (Switch tag key closing opening) = key.0 < length state.sets
HasItsKey state _ = Unit {0}
