-- What holds of every move, and of what it puts out.
use Rattle.std.specs.Prelude.{◌≡◌, ℕ, ◌≤◌, length, Option, Some, None, IfSome}
use Rattle.span_base.specs.Policy.{IsSoundPolicy}
use Rattle.wire_msg.specs.declared.outputs.Outputs.{Outputs}
use Rattle.wire_msg.specs.Lawful.{AreLawful, IsLawfulTag, IsLawfulKey, IsLawfulStamp, IsLawfulView, IsLawfulReply}
use Rattle.wire_msg.specs.Posts.{ArePostsOf}
use Rattle.call_phase.specs.declared.best.Found.{Found}
use Rattle.migration.specs.declared.stage.Epoch.{Epoch}
use Rattle.migration.specs.declared.stage.Stage.{Stage}
use Rattle.migration.specs.declared.stage.Stage.TheVariants.{Looking, Freezing, Seeding, Switching, Ended}
use Rattle.migration.specs.Move.{Moving}

-- the number of the stage's phase, which is the greatest that a message of it has
abbrev pub phase_of : Stage → ℕ
phase_of Looking = 1
phase_of (Freezing old new best) = 2
phase_of (Seeding old new frozen seeded top_gone) = 3
phase_of (Switching old new frozen seeded) = 4
phase_of Ended = 4

-- a version that a lawful message may carry
abbrev pub IsLawfulFound : Option Found → Type 0
IsLawfulFound (Some found) = IsLawfulStamp found.stamp × (length found.value ≤ 4096)
IsLawfulFound None = Unit {0}

-- an epoch that a key may be moved to
pub record IsTarget (epoch : Epoch) : Type 0 where
  pub number : 1 ≤ epoch.number
  pub policy : IsSoundPolicy epoch.policy

-- what a stage keeps is in its ranges
abbrev pub IsSoundStage : Stage → Type 0
IsSoundStage Looking = Unit {0}
IsSoundStage (Freezing old new best) = (1 ≤ old.number) × IsTarget new × IsLawfulFound best
IsSoundStage (Seeding old new frozen seeded top_gone) = (1 ≤ old) × IsTarget new
IsSoundStage (Switching old new frozen seeded) = (1 ≤ old) × IsTarget new
IsSoundStage Ended = Unit {0}

-- what a move keeps is in its ranges
pub record IsSoundMove (call : Moving) : Type 0 where
  pub tag : IsLawfulTag call.phase.tag
  pub key : IsLawfulKey call.key
  pub phase : call.phase.tag.phase ≤ phase_of call.stage
  pub stage : IsSoundStage call.stage

-- what a step puts out: lawful posts of the move's key, to the replicas that its phase asks and to
-- the directory, no ticket, and a view and an end that are lawful
pub record PutsOut (call : Moving) (out : Outputs) : Type 0 where
  pub lawful : AreLawful out.posts
  pub posts : ArePostsOf call.key call.phase.asked out.posts
  pub ticket : out.ticket ≡ None
  pub view : IfSome out.view IsLawfulView
  pub end : IfSome out.end IsLawfulReply
