-- How a frame that arrives is found among those that were sent.
use Rattle.std.specs.Prelude.{ℕ, ◌≡◌, ◌==◌, ◌+◌, ◌*◌, ◌%◌, ◌≤◌, List, length, slice_get, Option, Some, None}
use Rattle.std.specs.List.{fold}
use Rattle.indexmap.specs.IndexMap.{get_by}
use Rattle.frame_link.specs.Frames.{Sent}
use Rattle.span_node.specs.declared.index.FrameIndex.{FrameIndex}

-- a digest with one byte more
unfoldable pub mixed : ℕ → ℕ → ℕ
mixed digest byte = ((digest * 6364136223846793005) % 18446744073709551616 + (byte + 1)) % 18446744073709551616

-- the digest of a destination and a frame; few of them share one
unfoldable pub digest_of : ℕ → List ℕ → ℕ
digest_of to frame = fold mixed to frame

-- the number that the index has for a digest
abbrev pub first_at : FrameIndex → ℕ → Option ℕ
first_at index digest = get_by (λ at. digest == at) index.firsts

-- the number is at most this one
abbrev pub IsBy : Option ℕ → ℕ → Type 0
IsBy None n = ⊥
IsBy (Some first) n = first ≤ n

-- the number is at most this one, where there is a number
abbrev pub IsNoneOrBy : Option ℕ → ℕ → Type 0
IsNoneOrBy None n = Unit {0}
IsNoneOrBy (Some first) n = first ≤ n

-- for each of the frames the index tells a number from which on it is found
pub record IsIndex (index : FrameIndex) (frames : List Sent) : Type 0 where
  pub has : (n : ℕ) (sent : Sent) → slice_get frames n ≡ Some sent → IsBy (first_at index (digest_of sent.to sent.frame)) n
  pub within : (digest : ℕ) → IsNoneOrBy (first_at index digest) (length frames)
