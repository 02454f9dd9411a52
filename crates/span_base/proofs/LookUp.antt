-- Files kept as a list of entries.
use Rattle.std.proofs.Common.{ℕ, ◌≡◌, List, [], ◌∷◌, refl, true, false, cond}
use Rattle.std.specs.Prelude.{Some, option_map, find}
use Rattle.std.specs.Str.{bytes_eq}
use Rattle.span_base.specs.Files.{file_of}
use Rattle.span_base.specs.Memory.{files_of}
use Rattle.span_base.specs.declared.entries.FileEntry.{FileEntry}

-- a file is looked up in the entries themselves
pub looked_up : (name : List ℕ) (entries : List FileEntry)
    → file_of name (files_of entries) ≡ option_map (λ (e : FileEntry). e.bytes) (find (λ (e : FileEntry). bytes_eq e.name name) entries)
looked_up name [] = refl
looked_up name (e ∷ es) =
    elim (bytes_eq e.name name) as
    (λ b. option_map (λ (file : List ℕ × List ℕ). file.1) (cond b (Some (e.name, e.bytes)) (find (λ (file : List ℕ × List ℕ). bytes_eq file.0 name) (files_of es)))
    ≡ option_map (λ (x : FileEntry). x.bytes) (cond b (Some e) (find (λ (x : FileEntry). bytes_eq x.name name) es)))
    [ true ↦ refl | false ↦ looked_up name es ]
