-- What a freezing move has found was found before, or is found at the message.
use Rattle.std.proofs.Common.{◌≡◌, ◌⊎◌, inl, inr}
use Rattle.std.specs.Prelude.{Option, Some}
use Rattle.wire_msg.specs.declared.message.Message.{Message}
use Rattle.wire_msg.specs.Outputs.{Step}
use Rattle.call_phase.specs.declared.best.Found.{Found}
use Rattle.call_phase.specs.Best.{better}
use Rattle.migration.specs.declared.stage.Epoch.{Epoch}
use Rattle.migration.specs.declared.stage.Stage.{Stage}
use Rattle.migration.specs.declared.stage.Stage.TheVariants as at
use Rattle.migration.specs.Eventual.{eventual as eventual_rule}
use Rattle.migration.specs.Move.{Moving}
use Rattle.migration.specs.Move as move
use Rattle.register_law.proofs.MovesStep.{MoveTook, move_took, unheard, froze_one}
use Rattle.eventual_law.proofs.Takes.{Finds}

-- the stage is that of a freezing move that has found this
abbrev pub HasFound : Epoch → Epoch → Found → Stage → Type 0
HasFound old target found stage = stage ≡ at.Freezing old target (Some found)

abbrev pub FoundIs : Moving → Message → Epoch → Epoch → Found → Type 0
FoundIs call taken old target found = HasFound old target found call.stage ⊎ Finds call taken found

-- what the stage says after the step
abbrev FoundAfter : Moving → Message → Epoch → Epoch → Found → Step Moving → Type 0
FoundAfter call taken old target found x = HasFound old target found x.state.stage → FoundIs call taken old target found

found_in : (old target was new : Epoch) (best : Option Found) (found : Found) → at.Freezing was new best ≡ at.Freezing old target (Some found) → best ≡ Some found
found_in old target was new best found e = cc

took_found : (call : Moving) (taken : Message) (old target : Epoch) (found : Found) (new : Step Moving) → MoveTook eventual_rule call taken new → FoundAfter call taken old target found new
took_found call taken old target found new unheard = λ e. inl e
took_found call taken old target found new (froze_one tag replica version mark value was next best stage got c) =
    λ e. inr (record { old = was; target = next; best = best; stage_is = stage; tag = tag; replica = replica; version = version; mark = mark; value = value; taken_is = got; counted = c; is = found_in old target was next (better best version value) found e })
took_found call taken old target found new _ = λ e. absurd (cc)

pub found_is : (call : Moving) (taken : Message) (old target : Epoch) (found : Found) → HasFound old target found (move.step eventual_rule call taken).state.stage → FoundIs call taken old target found
found_is call taken old target found = took_found call taken old target found (move.step eventual_rule call taken) (move_took eventual_rule call taken)
