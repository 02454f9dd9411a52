-- What reading the world in the first file may answer.
use Rattle.std.specs.Prelude.{◌≡◌, ℕ, ◌≤◌, ◌⊎◌, if◌then◌else◌, nat_eq, codes, Bool, List, length, Option, Result, Ok, Err}
use Rattle.std.specs.List.{ends_with}
use Rattle.span_base.specs.Files.{Files}
use Rattle.workload.specs.World.{Lists}
use Rattle.world_text.specs.ReadWorld.{LineFault, csv_says, refused_for, refused_above}
use Rattle.world_text.specs.Toml.{toml_says}
use Rattle.span_top.specs.declared.status.Status.{Status}
use Rattle.span_top.specs.declared.status.Status.TheVariants.{NoMemory, Absent, BadInput, ReadFault, TooLarge}
use Rattle.span_top.specs.WholeFile.{Holds, Lacks, IsBytesLimit}

-- the name ends as that of a TOML file
abbrev pub names_toml : List ℕ → Bool
names_toml name = ends_with nat_eq name (codes ".toml")

-- what the bytes of a world's file say: in TOML where its name ends so, else in CSV
abbrev pub world_says : List ℕ → List ℕ → Result Lists LineFault
world_says name bytes = if names_toml name then toml_says bytes else csv_says bytes

-- the named file has at most 16,777,216 bytes, and says this
pub record FileSays (files : Option Files) (name : List ℕ) (says : Result Lists LineFault) : Type 0 where
  pub bytes : List ℕ
  pub held : Holds files name bytes
  pub within : length bytes ≤ 16777216
  pub is : world_says name bytes ≡ says

-- no world is read: there was no memory, the first file isn't there, can't be read, is no world, or
-- passes a limit, that on its bytes or one in a line
abbrev pub RefusesWorld : Option Files → List ℕ → Status → Type 0
RefusesWorld files name NoMemory = Unit {0}
RefusesWorld files name (Absent file) = (file ≡ 0) × Lacks files name
RefusesWorld files name (BadInput file line cause) = (file ≡ 0) × FileSays files name (refused_for line cause)
RefusesWorld files name ReadFault = Unit {0}
RefusesWorld files name (TooLarge file line what number) =
    (file ≡ 0) × (IsBytesLimit files name 16777216 line what number ⊎ FileSays files name (refused_above line what number))
RefusesWorld files name other = ⊥

-- how reading the world in the named file ends
abbrev pub ReadsWorld : Option Files → List ℕ → Result Lists Status → Type 0
ReadsWorld files name (Ok world) = FileSays files name (Ok world)
ReadsWorld files name (Err status) = RefusesWorld files name status

-- how taking the bytes of a file of this name as a world ends, where they are within the limit
abbrev pub BytesRead : List ℕ → List ℕ → Result Lists Status → Type 0
BytesRead name bytes result =
    (files : Option Files) → Holds files name bytes → length bytes ≤ 16777216 → ReadsWorld files name result
