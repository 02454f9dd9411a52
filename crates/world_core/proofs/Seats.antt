-- The replicas of a store as they stand in their seats.
use Rattle.std.proofs.Common.{◌≡◌, ℕ, ◌<◌, List, length, map, get_or, sym, ap, ◌∙◌, subst, arith}
use Rattle.std.specs.Prelude.{slice_set}
use Rattle.std.specs.List.{All}
use Rattle.std.proofs.lemmas.List.{get_or-map, get_or_default, length-map, set-get_or}
use Rattle.world_core.specs.State.{Replica, no_replica}
use Rattle.world_core.specs.Stores.{FitsReplica}

module _ {X Y : Type 0} (f : X → Y) (seats : List X) (d : ℕ) (seat : X) (none : Y) (within : d < length seats) (read : seat ≡ get_or seats d seat) where
  -- what stands at a place
  pub seat_there : get_or (map f seats) d none ≡ f seat
  seat_there = get_or-map f seats d seat none within ∙ ap f (sym read)

  -- put there once more
  pub seat_back : slice_set (map f seats) d (f seat) ≡ map f seats
  seat_back = ap (slice_set (map f seats) d) (sym seat_there) ∙ set-get_or (map f seats) d none

-- a replica keeps as many keys as there are
pub seat_fits : {X : Type 0} (f : X → Replica) (seats : List X) (d : ℕ) (seat : X) (keys : ℕ) → d < length seats → seat ≡ get_or seats d seat → All (FitsReplica keys) (map f seats) → FitsReplica keys (f seat)
seat_fits f seats d seat keys within read are = subst (FitsReplica keys) (seat_there f seats d seat no_replica within read) (are d no_replica (omega (arith, within, length-map seats f)))

-- two reads of a place
pub seat_same : {X : Type 0} (seats : List X) (d : ℕ) (one other : X) → d < length seats → one ≡ get_or seats d one → other ≡ get_or seats d other → one ≡ other
seat_same seats d one other within a b = a ∙ get_or_default seats d one other within ∙ sym b
