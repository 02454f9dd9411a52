-- The words of the command line.
use Rattle.std.specs.Prelude.{ℕ, Bool, ◌&&◌, if◌then◌else◌, nat_le, List, [], ◌∷◌, Option, Some, None}
use Rattle.span_base.specs.Number.{is_number, number_of}
use Rattle.span_service.specs.declared.plan.Plan.{Plan}

-- a word is a number from the one to the other
abbrev pub is_between : ℕ → ℕ → List ℕ → Bool
is_between low high word = is_number word && (nat_le low (number_of word) && nat_le (number_of word) high)

-- the number that a word is, where it is one from the one to the other
abbrev pub number_between : ℕ → ℕ → List ℕ → Option ℕ
number_between low high word = if is_between low high word then Some (number_of word) else None

abbrev pub with_conns : ℕ → ℕ → ℕ → Option ℕ → Option Plan
with_conns replica keys port None = None
with_conns replica keys port (Some conns) = Some (record { replica = replica; keys = keys; port = port; conns = conns })

abbrev pub with_port : ℕ → ℕ → Option ℕ → List ℕ → Option Plan
with_port replica keys None conns = None
with_port replica keys (Some port) conns = with_conns replica keys port (number_between 0 1000000 conns)

abbrev pub with_keys : ℕ → Option ℕ → List ℕ → List ℕ → Option Plan
with_keys replica None port conns = None
with_keys replica (Some keys) port conns = with_port replica keys (number_between 1 65535 port) conns

abbrev pub with_replica : Option ℕ → List ℕ → List ℕ → List ℕ → Option Plan
with_replica None keys port conns = None
with_replica (Some replica) keys port conns = with_keys replica (number_between 1 1000 keys) port conns

-- what the words ask for: the number of a replica, 0 to 15, its number of keys, 1 to 1,000, a port, and a number of
-- connections, up to 1,000,000; or None where they are of another form
abbrev pub plan_of : List (List ℕ) → Option Plan
plan_of [] = None
plan_of (replica ∷ []) = None
plan_of (replica ∷ keys ∷ []) = None
plan_of (replica ∷ keys ∷ port ∷ []) = None
plan_of (replica ∷ keys ∷ port ∷ conns ∷ []) = with_replica (number_between 0 15 replica) keys port conns
plan_of (replica ∷ keys ∷ port ∷ conns ∷ next ∷ more) = None

abbrev pub port_in : Option Plan → Option ℕ
port_in None = None
port_in (Some plan) = Some plan.port
