-- Frames that lie one behind the other in one region of bytes.
use Rattle.std.specs.Prelude.{ℕ, ◌≡◌, ◌+◌, ◌≤◌, List, [], ◌∷◌, ◌++◌, length, map, slice_range}
use Rattle.std.specs.List.{All}
use Rattle.wire_msg.specs.declared.actor.Actor.{Actor}
use Rattle.wire_msg.specs.declared.message.Message.{Message}
use Rattle.wire_msg.specs.declared.outputs.Post.{Post}
use Rattle.wire_msg.specs.Sizes.{frame_size, bulk_of}
use Rattle.message_wire.specs.declared.region.Entry.{Entry}
use Rattle.message_wire.specs.Frames.{message_in, IsWhole}

-- the frame of an entry
abbrev pub frame_in : List ℕ → Entry → List ℕ
frame_in region entry = slice_range region entry.start (entry.start + entry.len)

-- the message of an entry, on its way
unfoldable pub post_in : List ℕ → Entry → Post
post_in region entry = record { to = entry.to; message = message_in (frame_in region entry) }

-- the messages of the entries
unfoldable pub posts_in : List ℕ → List Entry → List Post
posts_in region entries = map (post_in region) entries

-- the entry has a message's frame in the region
pub record IsIn (region : List ℕ) (entry : Entry) : Type 0 where
  pub within : entry.start + entry.len ≤ length region
  pub whole : IsWhole (frame_in region entry)

-- each entry has a message's frame; the region has their bytes and no others
pub record IsRegion (region : List ℕ) (entries : List Entry) : Type 0 where
  pub frames : All (IsIn region) entries
  pub bytes : length region ≡ (bulk_of (posts_in region entries)).bytes
  pub few : length entries ≤ 4000000

-- the entries with one more for a message, and the region with its frame
pub record IsGrown (region region' : List ℕ) (entries entries' : List Entry) (to : Actor) (m : Message) : Type 0 where
  pub sound : IsRegion region' entries'
  pub posts : posts_in region' entries' ≡ posts_in region entries ++ record { to = to; message = m } ∷ []
  pub count : length entries' ≡ length entries + 1
  pub bytes : length region' ≡ length region + frame_size m
