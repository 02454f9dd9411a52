-- The variables and rows of a set that asks for more than one provider: `z j` is 1 where provider
-- number `j` keeps a replica. They come after the mode's own, and are there only where they are
-- asked. What keeps a replica is the mode's to say: variables, each with its centre.
use Rattle.std.specs.Prelude.{ℕ, Bool, not, List, [], ◌∷◌, ◌++◌, map, nat_lt, if◌then◌else◌}
use Rattle.std.specs.List.{enumerate_from, filter, range_with_len, list_any}
use Rattle.zero_one.specs.declared.rows.Row.{Row}
use Rattle.workload.specs.World.{Lists, rule_of}
use Rattle.slo_rules.specs.Rules.{same_provider}
use Rattle.placement_rows.specs.Centres.{centres}
use Rattle.placement_rows.specs.Rows.{at_least, backed}

-- no centre before this one is of its provider
abbrev pub is_first_of_provider : Lists → ℕ → Bool
is_first_of_provider w d = not (list_any (same_provider w d) (range_with_len 0 d))

-- the providers, each as its first centre
abbrev pub providers : Lists → List ℕ
providers w = filter (is_first_of_provider w) (centres w)

-- the providers that have variables, from the first of these variables on
abbrev pub numbered_providers : Lists → ℕ → List (ℕ × ℕ)
numbered_providers w first = enumerate_from first (providers w)

-- a set asks for more than one provider
abbrev pub asks_providers : Lists → ℕ → Bool
asks_providers w set = nat_lt 1 (rule_of w set).providers

-- the variables of providers cost nothing
abbrev pub provider_costs : Lists → ℕ → List ℕ
provider_costs w set = if asks_providers w set then map (λ e. 0) (providers w) else []

-- a provider whose variable is 1 keeps a replica in one of its centres
abbrev pub keeps_replica : Lists → List (ℕ × ℕ) → ℕ × ℕ → Row
keeps_replica w keeping (z, e) = backed (λ k. k.0) (filter (λ k. same_provider w e k.1) keeping) z

-- as many providers as are asked have a variable that is 1
abbrev pub enough_providers : Lists → ℕ → ℕ → Row
enough_providers w set first = at_least (rule_of w set).providers (λ ze. ze.0) (numbered_providers w first)

-- the rows of providers
abbrev pub provider_rows : Lists → ℕ → ℕ → List (ℕ × ℕ) → List Row
provider_rows w set first keeping =
    if asks_providers w set then map (keeps_replica w keeping) (numbered_providers w first) ++ enough_providers w set first ∷ [] else []

-- the bits of the providers: 1 where one of these centres is the provider's
abbrev pub provider_bits : Lists → ℕ → List ℕ → List Bool
provider_bits w set replicas =
    if asks_providers w set then map (λ e. list_any (same_provider w e) replicas) (providers w) else []
