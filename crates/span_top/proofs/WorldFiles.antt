-- How reading a file and taking it as a world end.
use Rattle.std.proofs.Common.{◌≡◌, Bool, true, false, ℕ, ◌≤◌, inl, inr, List, length, Option, Result, Ok, Err, refl}
use Rattle.std.specs.Prelude.{if◌then◌else◌}
use Rattle.span_base.specs.Files.{Files}
use Rattle.span_base.specs.declared.words.Cause.{Cause}
use Rattle.span_base.specs.declared.words.What.{What}
use Rattle.workload.specs.World.{Lists, IsComplete, IsNamed}
use Rattle.world_text.specs.ReadWorld.{LineFault, csv_says, refused_for, refused_above}
use Rattle.world_text.specs.Toml.{toml_says}
use Rattle.world_text.proofs.SaidWorlds.{csv_whole, toml_whole}
use Rattle.span_top.specs.declared.status.Status.{Status}
use Rattle.span_top.specs.declared.status.Status.TheVariants as status
use Rattle.span_top.specs.WholeFile.{Holds, ReadsFile}
use Rattle.span_top.specs.WorldFile.{FileSays, ReadsWorld, BytesRead, names_toml, world_says}

-- a world that a file says is complete, and has names
whole_by : (toml : Bool) (bytes : List ℕ) (w : Lists) → (if toml then toml_says bytes else csv_says bytes) ≡ Ok w → IsComplete w × IsNamed w
whole_by true bytes w is = toml_whole bytes w is
whole_by false bytes w is = csv_whole bytes w is

pub file_whole : (files : Option Files) (name : List ℕ) (w : Lists) → FileSays files name (Ok w) → IsComplete w × IsNamed w
file_whole files name w file = whole_by (names_toml name) file.bytes w file.is

says : (files : Option Files) (name bytes : List ℕ) (told : Result Lists LineFault) → world_says name bytes ≡ told → Holds files name bytes → length bytes ≤ 16777216 → FileSays files name told
says files name bytes told is held within = record { bytes = bytes; held = held; within = within; is = is }

pub reads_world : (name bytes : List ℕ) (w : Lists) → world_says name bytes ≡ Ok w → BytesRead name bytes (Ok w)
reads_world name bytes w is files held within = says files name bytes (Ok w) is held within

pub reads_bad : (name bytes : List ℕ) (line : ℕ) (cause : Cause) → world_says name bytes ≡ refused_for line cause → BytesRead name bytes (Err (status.BadInput 0 line cause))
reads_bad name bytes line cause is files held within = (refl, says files name bytes (refused_for line cause) is held within)

pub reads_above : (name bytes : List ℕ) (line : ℕ) (what : What) (number : ℕ) → world_says name bytes ≡ refused_above line what number → BytesRead name bytes (Err (status.TooLarge 0 line what number))
reads_above name bytes line what number is files held within = (refl, inr (says files name bytes (refused_above line what number) is held within))

pub ruleset refuses = (reads_world, reads_bad, reads_above)

-- a file that isn't read is no world
pub reads_none : (files : Option Files) (name : List ℕ) (s : Status) → ReadsFile files name 16777216 (Err s) → ReadsWorld files name (Err s)
reads_none files name status.Done refused = absurd refused
reads_none files name status.NoMemory refused = tt
reads_none files name status.Usage refused = absurd refused
reads_none files name (status.Absent file) refused = refused
reads_none files name (status.BadInput file line cause) refused = absurd refused
reads_none files name (status.NoPolicy set) refused = absurd refused
reads_none files name (status.Budget set) refused = absurd refused
reads_none files name (status.Refused line cause) refused = absurd refused
reads_none files name (status.BadEvent line cause) refused = absurd refused
reads_none files name status.ReadFault refused = tt
reads_none files name status.WriteFault refused = absurd refused
reads_none files name (status.TooLarge file line what number) refused = (refused.0, inl refused.1)
reads_none files name status.LinkFault refused = absurd refused
reads_none files name (status.Strange to frame) refused = absurd refused

pub taken : (files : Option Files) (name bytes : List ℕ) (result : Result Lists Status) → ReadsFile files name 16777216 (Ok bytes) → BytesRead name bytes result → ReadsWorld files name result
taken files name bytes result held reads = reads files held.0 held.1

pub ruleset reads = (reads_none, taken)
