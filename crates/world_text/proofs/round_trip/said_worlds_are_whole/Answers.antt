use Rattle.world_text.proofs.SaidWorlds.{csv_whole, toml_whole}
use Rattle.world_text.proofs.round_trip.said_worlds_are_whole.Goals as goal

pub returns-clause-csv : goal.returns-clause-csv
returns-clause-csv c = csv_whole

pub returns-clause-toml : goal.returns-clause-toml
returns-clause-toml c = toml_whole
