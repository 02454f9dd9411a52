-- How reading a file whole ends.
use Rattle.std.proofs.Common.{◌≡◌, ℕ, ◌+◌, ◌<◌, List, length, Option, Some, None, Ok, Err, refl, sym, ap, arith}
use Rattle.std.specs.List.{range_with_len}
use Rattle.std.proofs.lemmas.List.FromFn.{length-range_with_len}
use Rattle.span_base.specs.Files.{Files, file_of}
use Rattle.span_base.specs.Whole.{ReadsWhole, ReadsWholeFile}
use Rattle.span_base.specs.declared.reading.FileFault.TheVariants as fault
use Rattle.span_top.specs.WholeFile.{Holds, Lacks, IsLonger, IsBytesLimit}
use Rattle.span_base.specs.declared.words.What.TheVariants.{Bytes}

held_file : (found : Option (List ℕ)) (limit : ℕ) (bytes : List ℕ) → ReadsWholeFile found limit (Ok bytes) → found ≡ Some bytes
held_file None limit bytes h = absurd h
held_file (Some file) limit bytes h = ap Some (sym h.0)

-- the bytes that were read are those of the file
pub read_holds : (files : Option Files) (name : List ℕ) (limit : ℕ) (bytes : List ℕ) → ReadsWhole files name limit (Ok bytes) → Holds files name bytes
read_holds None name limit bytes h = tt
read_holds (Some files) name limit bytes h = held_file (file_of name files) limit bytes h

lacked_file : (found : Option (List ℕ)) (limit : ℕ) → ReadsWholeFile found limit (Err fault.Absent) → found ≡ None
lacked_file None limit h = refl
lacked_file (Some file) limit h = absurd h

-- a file that is absent isn't there
pub read_lacks : (files : Option Files) (name : List ℕ) (limit : ℕ) → ReadsWhole files name limit (Err fault.Absent) → Lacks files name
read_lacks None name limit h = tt
read_lacks (Some files) name limit h = lacked_file (file_of name files) limit h

long_file : (found : Option (List ℕ)) (limit : ℕ) → ReadsWholeFile found limit (Err fault.TooLarge) → (bytes : List ℕ) × (found ≡ Some bytes) × (limit < length bytes)
long_file None limit h = absurd h
long_file (Some file) limit h = (file, refl, h)

long_list : (limit : ℕ) → (bytes : List ℕ) × (limit < length bytes)
long_list limit = (range_with_len 0 (limit + 1), omega (arith, length-range_with_len 0 (limit + 1)))

-- a file that is too large has more bytes than the limit
longer : (files : Option Files) (name : List ℕ) (limit : ℕ) → ReadsWhole files name limit (Err fault.TooLarge) → IsLonger files name limit
longer None name limit h = let long = long_list limit in record { bytes = long.0; held = tt; above = long.1 }
longer (Some files) name limit h =
    let long = long_file (file_of name files) limit h in
    record { bytes = long.0; held = long.1; above = long.2 }

pub read_too_long : (files : Option Files) (name : List ℕ) (limit : ℕ) → ReadsWhole files name limit (Err fault.TooLarge) → IsBytesLimit files name limit 0 Bytes (limit + 1)
read_too_long files name limit h = record { line_is = refl; what_is = refl; number_is = refl; longer = longer files name limit h }

pub ruleset reads = (read_holds, read_lacks, read_too_long)
