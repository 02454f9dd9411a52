use Rattle.std.specs.Prelude.{ℕ, ◌+◌}
use Rattle.wire_msg.specs.declared.actor.Actor.{Actor}
use Rattle.wire_msg.specs.declared.actor.Actor.TheVariants.{Replica, Directory, Proxy}

-- the number of an actor on a link
abbrev pub node_number : Actor → ℕ
node_number (Replica number) = number
node_number Directory = 16
node_number (Proxy number) = 32 + number
