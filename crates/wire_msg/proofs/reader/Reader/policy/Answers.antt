use Rattle.std.proofs.Common.{◌≡◌, true, false, refl}
use Rattle.wire_msg.specs.Sound.{is_sound_policy}
use Rattle.wire_msg.specs.Faults.{policy_at}
use Rattle.wire_msg.proofs.SoundTest.{sound_is}
use Rattle.wire_msg.proofs.reader.Reader.policy.Goals as goal

pub returns-then-not-is_sound : goal.returns-then-not-is_sound
unfolding policy_at
returns-then-not-is_sound c =
    let told = sound_is c.in_ok-policy.policy c.is_sound.result c.is_sound.ensures in
    let unsound : is_sound_policy c.in_ok-policy.policy ≡ false = cc in
    rw (c.in_ok-mode.ensures, c.in_ok-f.ensures, c.in_ok-replicas.ensures, c.in_ok-count.ensures, c.in_ok-policy.ensures, unsound) refl

pub returns : goal.returns
unfolding policy_at
returns c =
    let told = sound_is c.in_ok-policy.policy c.is_sound.result c.is_sound.ensures in
    let sound : is_sound_policy c.in_ok-policy.policy ≡ true = cc in
    rw (c.in_ok-mode.ensures, c.in_ok-f.ensures, c.in_ok-replicas.ensures, c.in_ok-count.ensures, c.in_ok-policy.ensures, sound) refl
