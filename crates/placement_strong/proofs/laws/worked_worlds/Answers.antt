use Rattle.std.proofs.Common.{refl, arith}
use Rattle.std.proofs.lemmas.List.Elements.{All-from_recursion}
use Rattle.span_base.specs.DcSet.{centres_of, centres_below}
use Rattle.price_tables.specs.Limits.{IsPriceWithin, IsFareWithin}
use Rattle.price_tables.specs.declared.prices.Centre.{Centre}
use Rattle.workload.specs.World.{IsSetWithin, IsDemandWithin, set_of, members_of}
use Rattle.slo_rules.specs.Examples.{three_equal, fare}
use Rattle.placement_strong.specs.Programs.{set_program}
use Rattle.placement_strong.specs.Placed.{placed, decoded}
use Rattle.placement_strong.specs.Laws.{IsStrongSet}
use Rattle.placement_strong.proofs.laws.worked_worlds.Goals as goal

set_within : IsSetWithin 3 (set_of three_equal 0)
set_within = record {
  rule = record { f = omega arith; read_slo = omega arith; write_slo = omega arith; stored = omega arith; object = omega arith; some_provider = omega arith; providers = omega arith };
  some_member = omega arith;
  few_members = omega arith;
  members = All-from_recursion (IsDemandWithin 3) (members_of three_equal 0) (record { dc = omega arith; counts = record { gets = omega arith; puts = omega arith } }, tt);
}

near : IsFareWithin (fare 0 1)
near = record { transfer = omega arith; latency = omega arith }

far : IsFareWithin (fare 1 20)
far = record { transfer = omega arith; latency = omega arith }

strong : IsStrongSet three_equal 0
strong = record {
  complete = record {
    few_centres = omega arith;
    few_sets = omega arith;
    every_fare = refl;
    prices = All-from_recursion (λ (c : Centre). IsPriceWithin c.price) three_equal.centres (
      record { store = omega arith; get = omega arith; put = omega arith },
      (
        record { store = omega arith; get = omega arith; put = omega arith },
        (record { store = omega arith; get = omega arith; put = omega arith }, tt),
      ),
    );
    fares = All-from_recursion IsFareWithin three_equal.fares (near, (far, (far, (far, (near, (far, (far, (far, (near, tt)))))))));
    sets = All-from_recursion (IsSetWithin 3) three_equal.sets (set_within, tt);
  };
  there = omega arith;
  mode = refl;
}

pub returns : goal.returns
unfolding set_program placed decoded centres_of centres_below
returns c = record {
  set = strong;
  pairs = refl;
  equal = refl;
  at_all = refl;
  from_all = refl;
  members = refl;
  written = refl;
  value = refl;
  far_left_out = refl;
  providers = refl;
  variables = refl;
  idle_dropped = refl;
  apart = refl;
}
