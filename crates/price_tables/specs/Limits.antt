-- The limits of prices and fares.
use Rattle.std.specs.Prelude.{◌^◌, ◌≤◌}
use Rattle.price_tables.specs.declared.prices.DcPrice.{DcPrice}
use Rattle.price_tables.specs.declared.prices.Fare.{Fare}

-- each number of a price is within its limit
pub record IsPriceWithin (p : DcPrice) : Type 0 where
  pub store : p.store ≤ 10 ^ 9
  pub get : p.get ≤ 10 ^ 9
  pub put : p.put ≤ 10 ^ 9

-- the numbers of a fare are within their limits
pub record IsFareWithin (fare : Fare) : Type 0 where
  pub transfer : fare.transfer ≤ 10 ^ 9
  pub latency : fare.latency ≤ 10 ^ 6
