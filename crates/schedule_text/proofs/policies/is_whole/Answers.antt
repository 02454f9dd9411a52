use Rattle.wire_msg.proofs.SoundTest.{sound_is}
use Rattle.schedule_text.proofs.policies.is_whole.Goals as goal

pub returns : goal.returns
returns c = sound_is c.args.policy.now c.is_sound.result c.is_sound.ensures
