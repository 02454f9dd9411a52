-- Why a set or a demand is refused, in the order in which it is tried.
use Rattle.std.specs.Prelude.{◌≡◌, ℕ, ◌+◌, ◌^◌, ◌==◌, Bool, nat_lt, if◌then◌else◌, List, length, Option, Some, None}
use Rattle.std.specs.List.{list_any}
use Rattle.span_base.specs.declared.words.What.{What}
use Rattle.span_base.specs.declared.words.What.TheVariants.{F, Latency, Stored, Object, Providers, Count, Sets, Members}
use Rattle.workload.specs.declared.rules.SetRule.{SetRule}
use Rattle.workload.specs.declared.rules.Demand.{Demand}
use Rattle.workload.specs.declared.rules.AccessSet.{AccessSet}
use Rattle.workload.specs.declared.fault.LoadFault.{LoadFault}
use Rattle.workload.specs.declared.fault.LoadFault.TheVariants.{Limit, Unknown, Twice, NoMemory}
use Rattle.workload.specs.Load.{set_number, set_at}

-- the number where it is above its limit, else what is tried next
abbrev pub over : What → ℕ → ℕ → Option LoadFault → Option LoadFault
over what limit number next = if nat_lt limit number then Some (Limit what number) else next

-- the first number of a rule that is above its limit
abbrev pub rule_over : SetRule → Option LoadFault → Option LoadFault
rule_over r next =
    over F 3 r.f (over Latency (10 ^ 6) r.read_slo (over Latency (10 ^ 6) r.write_slo
    (over Stored (10 ^ 12) r.stored (over Object (10 ^ 5) r.object (over Providers 16 r.providers next)))))

-- the first count of a demand that is above its limit
abbrev pub demand_over : Demand → Option LoadFault → Option LoadFault
demand_over d next = over Count (10 ^ 9) d.gets (over Count (10 ^ 9) d.puts next)

-- the name stands already, or there are as many sets as there can be
abbrev pub name_fault : Option ℕ → ℕ → Option LoadFault
name_fault (Some set) count = Some Twice
name_fault None count = if nat_lt count 1000 then None else Some (Limit Sets (count + 1))

-- why a set of this name and rule is refused
abbrev pub set_fault : List AccessSet → List ℕ → SetRule → Option LoadFault
set_fault sets name rule = rule_over rule (name_fault (set_number sets name) (length sets))

-- the centre is one of the members'
abbrev pub has_member : List Demand → ℕ → Bool
has_member members dc = list_any (λ m. m.dc.0 == dc) members

-- the centre is a member already, or there are as many members as there can be
abbrev pub member_fault : List Demand → ℕ → Option LoadFault
member_fault members dc =
    if has_member members dc then Some Twice
    else (if nat_lt (length members) 8 then None else Some (Limit Members (length members + 1)))

-- no set has the name, or a member of it is refused
abbrev pub member_fault_of : List AccessSet → Option ℕ → ℕ → Option LoadFault
member_fault_of sets None dc = Some Unknown
member_fault_of sets (Some set) dc = member_fault (set_at sets set).members dc

-- why a demand on the set of this name is refused
abbrev pub demand_fault : List AccessSet → List ℕ → Demand → Option LoadFault
demand_fault sets name demand = demand_over demand (member_fault_of sets (set_number sets name) demand.dc.0)

-- the fault that is answered is the one that is due, or want of memory
abbrev pub IsDue : Option LoadFault → LoadFault → Type 0
IsDue due (NoMemory e) = Unit {0}
IsDue due (Limit what number) = due ≡ Some (Limit what number)
IsDue due Unknown = due ≡ Some Unknown
IsDue due Twice = due ≡ Some Twice
