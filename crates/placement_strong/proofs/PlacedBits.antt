-- The bits of the choice that a strong policy is.
use Rattle.std.proofs.Common.{◌≡◌, ℕ, ◌+◌, ◌*◌, ◌<◌, ◌≤◌, Bool, false, List, ◌++◌, length, get_or, refl, sym, ap, ◌∙◌, arith}
use Rattle.std.specs.List.{flat_map}
use Rattle.std.proofs.lemmas.Nat.{mul-le}
use Rattle.std.proofs.lemmas.List.{length-append, get_or_append_left, get_or-append-add}
use Rattle.std.proofs.lemmas.List.FromFn.{length-map-range_with_len, get_or-map-range_with_len}
use Rattle.span_base.specs.declared.dc_set.DcSet.{DcSet}
use Rattle.span_base.specs.DcSet.{has, meet}
use Rattle.span_base.specs.declared.policy.Quorum.{Quorum}
use Rattle.workload.specs.World.{Lists, centre_count}
use Rattle.zero_one.specs.Rows.{bit_of}
use Rattle.placement_strong.specs.Variables.{member_count, pairs, g_var, w_var, u_var, v_var, strong_costs}
use Rattle.placement_strong.specs.Placed.{quorum_at, no_quorum, set_bits, write_meeting_bits, strong_bits}
use Rattle.placement_strong.proofs.Pieces.{length-blocks_of, get_or-blocks_of}
use Rattle.placement_strong.proofs.Sizes.{variables}

module _ (w : Lists) (set : ℕ) (replicas : DcSet) (quorums : List Quorum) (many : length quorums ≡ member_count w set) (tail : List Bool) where
  kept : List Bool
  kept = set_bits w replicas

  reads : List Bool
  reads = flat_map (λ (q : Quorum). set_bits w q.read) quorums

  writes : List Bool
  writes = flat_map (λ (q : Quorum). set_bits w q.write) quorums

  meetings_of : Quorum → List Bool
  meetings_of q = flat_map (λ (p : Quorum). set_bits w (meet q.read p.write)) quorums

  meetings : List Bool
  meetings = flat_map meetings_of quorums

  write_meetings : List Bool
  write_meetings = flat_map (write_meeting_bits w quorums) (pairs (length quorums))

  long-set : (s : DcSet) → length (set_bits w s) ≡ centre_count w
  long-set s = length-map-range_with_len (has s) 0 (centre_count w)

  bit-set : (s : DcSet) (d : ℕ) → d < centre_count w → get_or (set_bits w s) d false ≡ has s d
  bit-set s d low = get_or-map-range_with_len (has s) 0 (centre_count w) d d false low (omega arith)

  long-reads : length reads ≡ member_count w set * centre_count w
  unfolding reads
  long-reads = length-blocks_of (λ (q : Quorum). set_bits w q.read) (centre_count w) (λ q. long-set q.read) quorums ∙ ap (λ k. k * centre_count w) many

  long-writes : length writes ≡ member_count w set * centre_count w
  unfolding writes
  long-writes = length-blocks_of (λ (q : Quorum). set_bits w q.write) (centre_count w) (λ q. long-set q.write) quorums ∙ ap (λ k. k * centre_count w) many

  long-meetings_of : (q : Quorum) → length (meetings_of q) ≡ member_count w set * centre_count w
  unfolding meetings_of
  long-meetings_of q = length-blocks_of (λ (p : Quorum). set_bits w (meet q.read p.write)) (centre_count w) (λ p. long-set (meet q.read p.write)) quorums ∙ ap (λ k. k * centre_count w) many

  long-meetings : length meetings ≡ member_count w set * (member_count w set * centre_count w)
  unfolding meetings
  long-meetings = length-blocks_of meetings_of (member_count w set * centre_count w) long-meetings_of quorums ∙ ap (λ k. k * (member_count w set * centre_count w)) many

  long-pair : (ab : ℕ × ℕ) → length (write_meeting_bits w quorums ab) ≡ centre_count w
  long-pair ab = long-set (meet (quorum_at quorums ab.0).write (quorum_at quorums ab.1).write)

  long-write_meetings : length write_meetings ≡ length (pairs (member_count w set)) * centre_count w
  unfolding write_meetings
  long-write_meetings = length-blocks_of (write_meeting_bits w quorums) (centre_count w) long-pair (pairs (length quorums)) ∙ ap (λ k. length (pairs k) * centre_count w) many

  -- the bits are those of five blocks
  are_blocks : strong_bits w replicas quorums ≡ (((kept ++ reads) ++ writes) ++ meetings) ++ write_meetings
  unfolding kept reads writes meetings meetings_of write_meetings
  are_blocks = refl

  long-kept : length kept ≡ centre_count w
  unfolding kept
  long-kept = long-set replicas

  to_reads : length (kept ++ reads) ≡ centre_count w + member_count w set * centre_count w
  to_reads = omega (arith, length-append kept reads, long-kept, long-reads)

  to_writes : length ((kept ++ reads) ++ writes) ≡ centre_count w + 2 * member_count w set * centre_count w
  to_writes = omega (arith, length-append (kept ++ reads) writes, to_reads, long-writes)

  to_meetings : length (((kept ++ reads) ++ writes) ++ meetings) ≡ centre_count w + 2 * member_count w set * centre_count w + member_count w set * member_count w set * centre_count w
  to_meetings = omega (arith, length-append ((kept ++ reads) ++ writes) meetings, to_writes, long-meetings)

  -- there is one for each variable
  pub long : length (strong_bits w replicas quorums) ≡ length (strong_costs w set)
  long = ap length are_blocks ∙ omega (arith, length-append (((kept ++ reads) ++ writes) ++ meetings) write_meetings, to_meetings, long-write_meetings, variables w set)

  -- a bit of a block at its end, and of one before
  at_end : (xs ys : List Bool) (i v : ℕ) → length xs + i ≡ v → get_or (xs ++ ys) v false ≡ get_or ys i false
  at_end xs ys i v at = ap (λ j. get_or (xs ++ ys) j false) (sym at) ∙ get_or-append-add xs ys i false

  before : (xs ys : List Bool) (v : ℕ) → v < length xs → get_or (xs ++ ys) v false ≡ get_or xs v false
  before xs ys v low = get_or_append_left xs ys false v low

  first_four : (v : ℕ) → v < length (((kept ++ reads) ++ writes) ++ meetings) → bit_of (strong_bits w replicas quorums ++ tail) v ≡ get_or (((kept ++ reads) ++ writes) ++ meetings) v false
  first_four v low =
      ap (λ bits. get_or (bits ++ tail) v false) are_blocks
      ∙ before ((((kept ++ reads) ++ writes) ++ meetings) ++ write_meetings) tail v (omega (arith, low, length-append (((kept ++ reads) ++ writes) ++ meetings) write_meetings))
      ∙ before (((kept ++ reads) ++ writes) ++ meetings) write_meetings v low

  pub bit-replica : (d : ℕ) → d < centre_count w → bit_of (strong_bits w replicas quorums ++ tail) d ≡ has replicas d
  unfolding kept
  bit-replica d low =
      first_four d (omega (arith, to_meetings, low))
      ∙ before ((kept ++ reads) ++ writes) meetings d (omega (arith, to_writes, low))
      ∙ before (kept ++ reads) writes d (omega (arith, to_reads, low))
      ∙ before kept reads d (omega (arith, long-kept, low))
      ∙ bit-set replicas d low

  pub bit-read : (a d : ℕ) → a < member_count w set → d < centre_count w → bit_of (strong_bits w replicas quorums ++ tail) (g_var w a d) ≡ has (quorum_at quorums a).read d
  unfolding reads
  bit-read a d in' low =
      let n = centre_count w in
      let v = g_var w a d in
      let block : (a + 1) * n ≤ member_count w set * n = mul-le (a + 1) n (member_count w set) n (omega arith) (omega arith) in
      first_four v (omega (arith, to_meetings, low, block))
      ∙ before ((kept ++ reads) ++ writes) meetings v (omega (arith, to_writes, low, block))
      ∙ before (kept ++ reads) writes v (omega (arith, to_reads, low, block))
      ∙ at_end kept reads (a * n + d) v (omega (arith, long-kept))
      ∙ get_or-blocks_of (λ (q : Quorum). set_bits w q.read) n (λ q. long-set q.read) quorums a d no_quorum false (omega (arith, many)) low
      ∙ bit-set (quorum_at quorums a).read d low

  pub bit-write : (a d : ℕ) → a < member_count w set → d < centre_count w → bit_of (strong_bits w replicas quorums ++ tail) (w_var w set a d) ≡ has (quorum_at quorums a).write d
  unfolding writes
  bit-write a d in' low =
      let n = centre_count w in
      let v = w_var w set a d in
      let block : (a + 1) * n ≤ member_count w set * n = mul-le (a + 1) n (member_count w set) n (omega arith) (omega arith) in
      first_four v (omega (arith, to_meetings, low, block))
      ∙ before ((kept ++ reads) ++ writes) meetings v (omega (arith, to_writes, low, block))
      ∙ at_end (kept ++ reads) writes (a * n + d) v (omega (arith, to_reads))
      ∙ get_or-blocks_of (λ (q : Quorum). set_bits w q.write) n (λ q. long-set q.write) quorums a d no_quorum false (omega (arith, many)) low
      ∙ bit-set (quorum_at quorums a).write d low

  pub bit-meeting : (a b d : ℕ) → a < member_count w set → b < member_count w set → d < centre_count w
      → bit_of (strong_bits w replicas quorums ++ tail) (u_var w set a b d) ≡ has (meet (quorum_at quorums a).read (quorum_at quorums b).write) d
  unfolding meetings meetings_of
  bit-meeting a b d in' in'' low =
      let n = centre_count w in
      let k = member_count w set in
      let v = u_var w set a b d in
      let q = quorum_at quorums a in
      let row : (a + 1) * k ≤ k * k = mul-le (a + 1) k k k (omega arith) (omega arith) in
      let block : (a * k + b + 1) * n ≤ k * k * n = mul-le (a * k + b + 1) n (k * k) n (omega (arith, row)) (omega arith) in
      let inner : (b + 1) * n ≤ k * n = mul-le (b + 1) n k n (omega arith) (omega arith) in
      first_four v (omega (arith, to_meetings, low, block))
      ∙ at_end ((kept ++ reads) ++ writes) meetings (a * (k * n) + (b * n + d)) v (omega (arith, to_writes))
      ∙ get_or-blocks_of meetings_of (k * n) long-meetings_of quorums a (b * n + d) no_quorum false (omega (arith, many)) (omega (arith, inner, low))
      ∙ get_or-blocks_of (λ (p : Quorum). set_bits w (meet q.read p.write)) n (λ p. long-set (meet q.read p.write)) quorums b d no_quorum false (omega (arith, many)) low
      ∙ bit-set (meet q.read (quorum_at quorums b).write) d low

  pub bit-write_meeting : (i d : ℕ) → i < length (pairs (member_count w set)) → d < centre_count w
      → bit_of (strong_bits w replicas quorums ++ tail) (v_var w set i d) ≡ has (meet (quorum_at quorums (get_or (pairs (member_count w set)) i (0, 0)).0).write (quorum_at quorums (get_or (pairs (member_count w set)) i (0, 0)).1).write) d
  unfolding write_meetings
  bit-write_meeting i d in' low =
      let n = centre_count w in
      let k = member_count w set in
      let v = v_var w set i d in
      let block : (i + 1) * n ≤ length (pairs k) * n = mul-le (i + 1) n (length (pairs k)) n (omega arith) (omega arith) in
      let counted : length (pairs (length quorums)) ≡ length (pairs k) = ap (λ j. length (pairs j)) many in
      ap (λ bits. get_or (bits ++ tail) v false) are_blocks
      ∙ before ((((kept ++ reads) ++ writes) ++ meetings) ++ write_meetings) tail v (omega (arith, block, length-append (((kept ++ reads) ++ writes) ++ meetings) write_meetings, to_meetings, long-write_meetings))
      ∙ at_end (((kept ++ reads) ++ writes) ++ meetings) write_meetings (i * n + d) v (omega (arith, to_meetings))
      ∙ get_or-blocks_of (write_meeting_bits w quorums) n long-pair (pairs (length quorums)) i d (0, 0) false (omega (arith, counted)) low
      ∙ ap (λ j. get_or (write_meeting_bits w quorums (get_or (pairs j) i (0, 0))) d false) many
      ∙ bit-set (meet (quorum_at quorums (get_or (pairs k) i (0, 0)).0).write (quorum_at quorums (get_or (pairs k) i (0, 0)).1).write) d low
