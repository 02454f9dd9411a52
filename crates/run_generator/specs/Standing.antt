-- How a generator stands for what it has chosen. Only inner contracts cite it.
use Rattle.std.specs.Prelude.{◌≡◌, ℕ, ◌+◌, ◌*◌, ◌≤◌, Bool, true, false, List, string_bytes, is_some}
use Rattle.std.specs.List.{count_by}
use Rattle.epoch_directory.specs.State.{State, latest, set_count, is_strong_set}
use Rattle.run_marks.specs.declared.mark.Mark.{Mark}
use Rattle.run_marks.specs.Text.{marks_text}
use Rattle.world_core.specs.declared.event.StepFault.{StepFault}
use Rattle.world_core.specs.declared.event.StepFault.TheVariants.{NoActor, NoKey, WrongMode, NoMessage, NoCall, Limit, Taker, NoMemory}
use Rattle.run_generator.specs.Chosen.{Chosen, made}
use Rattle.run_generator.specs.Told.{ends_ok, ends_otherwise}
use Rattle.run_generator.specs.declared.log.Log.{Log}
use Rattle.run_generator.specs.declared.generator.Generator.{Generator}

-- the log has these marks
pub record IsLogOf (log : Log) (marks : List Mark) : Type 0 where
  pub text : string_bytes log.text ≡ marks_text marks
  pub ok : log.ok ≡ count_by ends_ok marks
  pub ended : log.ended ≡ count_by ends_otherwise marks

-- the generator drew so, and the run of the chosen events came to its store, its log and its end
pub record StandsFor (g : Generator) (c : Chosen) : Type 0 where
  pub state : g.state ≡ c.state
  pub store : g.cloud.store ≡ (made c).store
  pub log : IsLogOf g.log (made c).marks
  pub over : g.over ≡ is_some (made c).refused

-- the first epoch is there, and its set 0 is strong
pub record IsReady (state : State) : Type 0 where
  pub some : 1 ≤ latest state
  pub sets : 1 ≤ set_count state
  pub strong : is_strong_set state 0 ≡ true

-- an event leaves at most two marks, and the table may be published
pub record IsSound (g : Generator) : Type 0 where
  pub few : g.log.ok + g.log.ended ≤ 2 * g.cloud.events
  pub ready : IsReady g.cloud.store.directory

-- the generator is sound, and took at most so many events
pub record Goes (old new : Generator) (count : ℕ) : Type 0 where
  pub sound : IsSound new
  pub few : new.cloud.events ≤ old.cloud.events + count

-- memory ran out
abbrev pub is_no_memory : StepFault → Bool
is_no_memory NoActor = false
is_no_memory NoKey = false
is_no_memory WrongMode = false
is_no_memory (NoMessage sent) = false
is_no_memory NoCall = false
is_no_memory (Limit what number) = false
is_no_memory (Taker fault) = false
is_no_memory (NoMemory error) = true
