-- Frames that lie one behind the other in one region of bytes.
use Rattle.std.specs.Prelude.{ℕ, ◌≡◌, ◌+◌, ◌≤◌, List, length, map, slice_range, All}
use Rattle.frame_link.specs.Frames.{Sent, with_frame}
use Rattle.frame_link.specs.declared.frames.Entry.{Entry}

-- the frame of an entry, with its destination
unfoldable pub sent_at : List ℕ → Entry → Sent
sent_at region entry = record { to = entry.to; frame = slice_range region entry.start (entry.start + entry.len) }

-- the frames of the entries
unfoldable pub sent_in : List ℕ → List Entry → List Sent
sent_in region entries = map (sent_at region) entries

-- the entry's bytes lie in the region, and are at most 8,192
pub record IsIn (region : List ℕ) (entry : Entry) : Type 0 where
  pub within : entry.start + entry.len ≤ length region
  pub short : entry.len ≤ 8192

-- the entries with one more, and the region with its frame
pub record IsGrown (region region' : List ℕ) (entries entries' : List Entry) (to : ℕ) (frame : List ℕ) : Type 0 where
  pub sound : All (IsIn region') entries'
  pub frames : sent_in region' entries' ≡ with_frame (sent_in region entries) to frame
