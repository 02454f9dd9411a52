-- The machines on offer in each centre.
use Rattle.std.specs.Prelude.{ℕ, ◌^◌, ◌≤◌, List, length, All, slice_index_or}
use Rattle.machine_text.specs.declared.machines.Machine.{Machine}

-- how many requests make one unit of load, and the machines of each centre, in the world's order
pub record Fleet : Type 0 where
  pub unit : ℕ
  pub each : List Machine

-- what stands for the machines of a centre past the last: one may be had for nothing
abbrev pub no_machine : Machine
no_machine = record { price = 0; capacity = 1; digits = 1 }

-- the machines of a centre
abbrev pub machine_of : Fleet → ℕ → Machine
machine_of fleet dc = slice_index_or fleet.each dc no_machine

-- the numbers of a centre's machines are within their limits
pub record IsMachineWithin (machine : Machine) : Type 0 where
  pub price : machine.price ≤ 10 ^ 9
  pub some_capacity : 1 ≤ machine.capacity
  pub capacity : machine.capacity ≤ 10 ^ 6
  pub some_digit : 1 ≤ machine.digits
  pub digits : machine.digits ≤ 10

-- all numbers are within their limits
pub record IsFleetWithin (fleet : Fleet) : Type 0 where
  pub some_unit : 1 ≤ fleet.unit
  pub unit : fleet.unit ≤ 10 ^ 9
  pub few : length fleet.each ≤ 16
  pub machines : All IsMachineWithin fleet.each
