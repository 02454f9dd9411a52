use Rattle.std.proofs.Common.{[], ◌∷◌, refl, arith}
use Rattle.std.proofs.lemmas.List.Elements.{All-from_recursion}
use Rattle.price_tables.specs.Limits.{IsPriceWithin, IsFareWithin}
use Rattle.std.specs.Prelude.{codes, nat_eq}
use Rattle.std.specs.List.{IsDistinct}
use Rattle.std.specs.Cmp.Lexicographic.{pointwise}
use Rattle.std.proofs.lemmas.Map.Keys.{IsDistinct-cons, IsDistinct-from_apart}
use Rattle.span_base.specs.Name.{IsName}
use Rattle.workload.specs.Limits.{AreCountsWithin}
use Rattle.workload.specs.Load.{IsSetLoaded, AreLoaded}
use Rattle.workload.specs.World.{IsComplete, IsNamed, IsSetWithin, IsDemandWithin, set_of, members_of}
use Rattle.slo_rules.specs.Examples.{two_centres, fare}
use Rattle.placement_relay.specs.Programs.{set_program}
use Rattle.span_base.specs.DcSet.{centres_of, centres_below}
use Rattle.placement_relay.specs.Placed.{placed, decoded}
use Rattle.placement_relay.proofs.laws.worked_two_centres.Goals as goal

set_within : IsSetWithin 2 (set_of two_centres 0)
set_within = record {
  rule = record { f = omega arith; read_slo = omega arith; write_slo = omega arith; stored = omega arith; object = omega arith; some_provider = omega arith; providers = omega arith };
  some_member = omega arith;
  few_members = omega arith;
  members = All-from_recursion (IsDemandWithin 2) (members_of two_centres 0) (record { dc = omega arith; counts = record { gets = omega arith; puts = omega arith } }, tt);
}

near : IsFareWithin (fare 0 1)
near = record { transfer = omega arith; latency = omega arith }

far : IsFareWithin (fare 3 20)
far = record { transfer = omega arith; latency = omega arith }

complete : IsComplete two_centres
complete = record {
  few_centres = omega arith;
  few_sets = omega arith;
  every_fare = refl;
  prices = All-from_recursion (λ c. IsPriceWithin c.price) two_centres.centres
      (record { store = omega arith; get = omega arith; put = omega arith }, (record { store = omega arith; get = omega arith; put = omega arith }, tt));
  fares = All-from_recursion IsFareWithin two_centres.fares (near, (far, (far, (near, tt))));
  sets = All-from_recursion (IsSetWithin 2) two_centres.sets (set_within, tt);
}

alone : IsDistinct (pointwise nat_eq) []
alone = IsDistinct-from_apart (pointwise nat_eq) [] (λ i j d lt in'. absurd (omega arith))

loaded : AreLoaded two_centres.sets
loaded = record {
  few = omega arith;
  distinct = IsDistinct-cons (pointwise nat_eq) (codes "s") [] tt alone;
  each = All-from_recursion IsSetLoaded two_centres.sets (
    record {
      name = refl;
      rule = set_within.rule;
      few = omega arith;
      counts = All-from_recursion AreCountsWithin (members_of two_centres 0) (record { gets = omega arith; puts = omega arith }, tt);
      distinct = λ i j d lt in'. absurd (omega arith);
    },
    tt,
  );
}

named : IsNamed two_centres
named = record {
  names = All-from_recursion (λ c. IsName c.name) two_centres.centres (refl, (refl, tt));
  providers = All-from_recursion (λ c. IsName c.provider) two_centres.centres (refl, (refl, tt));
  distinct = IsDistinct-cons (pointwise nat_eq) (codes "x") (codes "y" ∷ []) (refl, tt) (IsDistinct-cons (pointwise nat_eq) (codes "y") [] tt alone);
  sets = loaded;
}

pub returns-clause-set : goal.returns-clause-set
returns-clause-set c = record { complete = complete; named = named; there = omega arith; mode = λ e. cc }

pub returns-clause-program : goal.returns-clause-program
unfolding set_program
returns-clause-program c = refl

pub returns-clause-at_x : goal.returns-clause-at_x
unfolding placed
returns-clause-at_x c = refl

pub returns-clause-at_y : goal.returns-clause-at_y
unfolding placed
returns-clause-at_y c = refl

pub returns-clause-at_both : goal.returns-clause-at_both
unfolding placed
returns-clause-at_both c = refl

pub returns-clause-from_y : goal.returns-clause-from_y
unfolding decoded
returns-clause-from_y c = refl

pub returns-clause-from_both : goal.returns-clause-from_both
unfolding decoded
returns-clause-from_both c = refl

pub returns-clause-least_read : goal.returns-clause-least_read
unfolding decoded
returns-clause-least_read c = refl

pub returns-clause-two_providers : goal.returns-clause-two_providers
unfolding set_program
returns-clause-two_providers c = refl

pub returns-clause-at_both_providers : goal.returns-clause-at_both_providers
unfolding placed centres_of centres_below
returns-clause-at_both_providers c = refl

pub returns-clause-apart : goal.returns-clause-apart
returns-clause-apart c = refl

pub returns-clause-largest : goal.returns-clause-largest
unfolding placed
returns-clause-largest c = refl
