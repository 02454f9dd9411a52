use Rattle.std.proofs.Common.{◌≡◌, take}
use Rattle.std.specs.Prelude.{map}
use Rattle.schedule_text.specs.Tables.{mode_of}
use Rattle.schedule_text.proofs.modes.setting_of.Given as goal

abbrev pub invariant-loop-policy : goal.invariant-loop-policy
invariant-loop-policy l = l.modes.items ≡ map mode_of (take l.policy-index l.sets)
