-- The order of stamps.
use Rattle.std.specs.Prelude.{◌≡◌, ◌≢◌, ◌<◌, ◌⊎◌, Bool, ◌&&◌, ◌||◌, if◌then◌else◌}
use Rattle.std.specs.Ordering.{nat_cmp, ordering_then, is_eq, is_gt, is_le}
use Rattle.std.specs.declared.cmp.Ordering.{Ordering}
use Rattle.std.specs.declared.cmp.Ordering.TheVariants.{Greater}
use Rattle.ticket_rules.specs.declared.stamp.Stamp.{Stamp}

-- the stamp whose fields are all 0
abbrev pub stamp_zero : Stamp
stamp_zero = record { epoch = 0; number = 0; proxy = 0; seq = 0 }

-- how two stamps compare: by epoch, then by number, then by proxy, then by seq
abbrev pub stamp_cmp : Stamp → Stamp → Ordering
stamp_cmp a b = ordering_then (nat_cmp a.epoch b.epoch) (ordering_then (nat_cmp a.number b.number) (ordering_then (nat_cmp a.proxy b.proxy) (nat_cmp a.seq b.seq)))

-- the first stamp is above the second
abbrev pub IsAbove : Stamp → Stamp → Type 0
IsAbove a b = stamp_cmp a b ≡ Greater

-- the first stamp isn't above the second
abbrev pub IsAtMost : Stamp → Stamp → Type 0
IsAtMost a b = stamp_cmp a b ≢ Greater

-- the greater of two stamps
abbrev pub greater : Stamp → Stamp → Stamp
greater a b = if is_gt (stamp_cmp b a) then b else a

-- the first field in which the stamps differ is greater in the first
abbrev pub IsAboveByFields : Stamp → Stamp → Type 0
IsAboveByFields a b =
    (b.epoch < a.epoch)
    ⊎ ((a.epoch ≡ b.epoch) × (b.number < a.number))
    ⊎ ((a.epoch ≡ b.epoch) × (a.number ≡ b.number) × (b.proxy < a.proxy))
    ⊎ ((a.epoch ≡ b.epoch) × (a.number ≡ b.number) × (a.proxy ≡ b.proxy) × (b.seq < a.seq))

-- whether t may be granted, as a test: it is the fence, or it is above the fence and above the version
abbrev pub grants : Stamp → Stamp → Stamp → Bool
grants t fence version = is_eq (stamp_cmp t fence) || (is_gt (stamp_cmp t fence) && is_gt (stamp_cmp t version))

-- whether t may be stored, as a test: the fence isn't above it
abbrev pub stores : Stamp → Stamp → Bool
stores t fence = is_le (stamp_cmp fence t)
