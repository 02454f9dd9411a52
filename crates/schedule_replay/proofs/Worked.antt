-- The run of a small schedule is told as it was worked by hand.
use Rattle.std.proofs.Common.{refl}
use Rattle.std.specs.Fmt.{digits}
use Rattle.hex.specs.Hex.{encode_with}
use Rattle.span_base.specs.DcSet.{centres_of, centres_below}
use Rattle.strong_proxy.specs.Rule.{opened_as}
use Rattle.epoch_directory.specs.Tables.{table_fault}
use Rattle.world_core.specs.State.{opening}
use Rattle.world_core.specs.Starting.{starts}
use Rattle.world_core.specs.Step.{step}
use Rattle.world_core.specs.Run.{run}
use Rattle.schedule_text.specs.Rows.{strong_schedule}
use Rattle.schedule_replay.specs.Rows.{StopsSo, strong_told, three_sent}

pub strong_stops : StopsSo strong_schedule strong_told 10 three_sent
unfolding run step starts opening opened_as centres_of centres_below table_fault digits encode_with
strong_stops = record { text_is = refl; line_is = refl; refused = refl }
