-- Why a centre or a link is refused, in the order in which it is tried.
use Rattle.std.specs.Prelude.{◌≡◌, ℕ, ◌+◌, ◌^◌, nat_lt, if◌then◌else◌, List, Option, Some, None}
use Rattle.span_base.specs.declared.words.What.{What}
use Rattle.span_base.specs.declared.words.What.TheVariants.{Price, Latency, Centres}
use Rattle.price_tables.specs.declared.prices.DcPrice.{DcPrice}
use Rattle.price_tables.specs.declared.prices.Fare.{Fare}
use Rattle.price_tables.specs.declared.fault.TableFault.{TableFault}
use Rattle.price_tables.specs.declared.fault.TableFault.TheVariants.{Limit, Twice, UnknownFrom, UnknownTo, NoMemory}
use Rattle.price_tables.specs.Tables.{Tabled, count_of, number_of, link_at}

-- the number where it is above its limit, else what is tried next
abbrev pub over : What → ℕ → ℕ → Option TableFault → Option TableFault
over what limit number next = if nat_lt limit number then Some (Limit what number) else next

-- the first number of a price that is above its limit
abbrev pub price_over : DcPrice → Option TableFault → Option TableFault
price_over p next = over Price (10 ^ 9) p.store (over Price (10 ^ 9) p.get (over Price (10 ^ 9) p.put next))

-- the first number of a fare that is above its limit
abbrev pub fare_over : Fare → Option TableFault → Option TableFault
fare_over fare next = over Price (10 ^ 9) fare.transfer (over Latency (10 ^ 6) fare.latency next)

-- the name stands already, or there are as many centres as there can be
abbrev pub name_fault : Option ℕ → ℕ → Option TableFault
name_fault (Some dc) count = Some Twice
name_fault None count = if nat_lt count 16 then None else Some (Limit Centres (count + 1))

-- why a centre of this name and price is refused
abbrev pub centre_fault : Tabled → List ℕ → DcPrice → Option TableFault
centre_fault t name price = price_over price (name_fault (number_of t name) (count_of t))

-- one of the names is unknown, or the pair has a link already
abbrev pub pair_fault : Tabled → Option ℕ → Option ℕ → Option TableFault
pair_fault t None to = Some UnknownFrom
pair_fault t (Some from) None = Some UnknownTo
pair_fault t (Some from) (Some to) = link_fault (link_at t from to) where
  link_fault : Option Fare → Option TableFault
  link_fault (Some fare) = Some Twice
  link_fault None = None

-- why a link between the centres of these names is refused
abbrev pub link_fault : Tabled → List ℕ → List ℕ → Fare → Option TableFault
link_fault t from to fare = fare_over fare (pair_fault t (number_of t from) (number_of t to))

-- the fault that is answered is the one that is due, or want of memory
abbrev pub IsDue : Option TableFault → TableFault → Type 0
IsDue due (NoMemory e) = Unit {0}
IsDue due (Limit what number) = due ≡ Some (Limit what number)
IsDue due Twice = due ≡ Some Twice
IsDue due UnknownFrom = due ≡ Some UnknownFrom
IsDue due UnknownTo = due ≡ Some UnknownTo
