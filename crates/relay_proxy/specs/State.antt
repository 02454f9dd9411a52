use Rattle.std.specs.Prelude.{ℕ, ◌≡◌}
use Rattle.span_base.specs.declared.ids.KeyId.{KeyId}
use Rattle.call_phase.specs.declared.phase.Phase.{Phase}
use Rattle.wire_msg.specs.Lawful.{IsLawfulTag, IsLawfulKey, IsLawfulStamp}
use Rattle.relay_proxy.specs.declared.stage.Stage.{Stage}
use Rattle.relay_proxy.specs.declared.stage.Stage.TheVariants.{Getting, Putting, Ended}

-- a call on an eventual key: what it does, how many replicas may stop, the answers that counted,
-- and the greatest epoch that they found to be over
pub record State : Type 0 where
  pub key : KeyId
  pub stage : Stage
  pub f : ℕ
  pub phase : Phase
  pub gone : ℕ

abbrev pub IsLawfulStage : Stage → Type 0
IsLawfulStage Getting = Unit {0}
IsLawfulStage (Putting stamp) = IsLawfulStamp stamp
IsLawfulStage Ended = Unit {0}

-- what a call holds is in its range, and its phase is the first
pub record IsReady (call : State) : Type 0 where
  pub tag_lawful : IsLawfulTag call.phase.tag
  pub first : call.phase.tag.phase ≡ 1
  pub key_lawful : IsLawfulKey call.key
  pub stage_lawful : IsLawfulStage call.stage
