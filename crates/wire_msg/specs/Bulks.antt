-- How much is put out.
use Rattle.std.specs.Prelude.{ℕ, ◌*◌, length}
use Rattle.span_base.specs.declared.dc_set.DcSet.{DcSet}
use Rattle.span_base.specs.DcSet.{centres_of}
use Rattle.wire_msg.specs.declared.outputs.Bulk.{Bulk}

-- nothing is sent
abbrev pub no_bulk : Bulk
no_bulk = record { posts = 0; bytes = 0 }

-- one frame of so many bytes
abbrev pub bulk_of_one : ℕ → Bulk
bulk_of_one bytes = record { posts = 1; bytes = bytes }

-- one frame of so many bytes to each replica of the set
abbrev pub bulk_to : DcSet → ℕ → Bulk
bulk_to set bytes = record { posts = length (centres_of set); bytes = length (centres_of set) * bytes }
