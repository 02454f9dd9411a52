-- What an actor puts out as it takes one message.
use Rattle.std.specs.Prelude.{◌≡◌, List, [], None}
use Rattle.wire_msg.specs.declared.outputs.Post.{Post}
use Rattle.wire_msg.specs.declared.outputs.Outputs.{Outputs}

-- nothing put out
abbrev pub nothing_out : Outputs
nothing_out = record { posts = []; ticket = None; view = None; end = None }

-- these posts put out, and nothing else
abbrev pub only_posts : List Post → Outputs
only_posts posts = record { posts = posts; ticket = None; view = None; end = None }

-- what a message makes of an actor: its state after it, and what is put out
pub record Step (S : Type 0) : Type 0 where
  pub state : S
  pub out : Outputs

-- the state and what is put out are those of the step
abbrev pub IsMade : {S : Type 0} → Step S → S → Outputs → Type 0
IsMade step state out = (state ≡ step.state) × (out ≡ step.out)
