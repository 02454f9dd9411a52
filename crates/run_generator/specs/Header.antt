-- The store that the generator's run begins with.
use Rattle.std.specs.Prelude.{ℕ, List, [], ◌∷◌, replicate}
use Rattle.span_base.specs.declared.dc_set.DcSet.{DcSet}
use Rattle.span_base.specs.declared.ids.DcId.{DcId}
use Rattle.span_base.specs.declared.policy.Quorum.{Quorum}
use Rattle.span_base.specs.declared.policy.Policy.{Policy}
use Rattle.span_base.specs.declared.policy.Policy.TheVariants.{Strong}
use Rattle.epoch_directory.specs.declared.table.SetPolicy.{SetPolicy}
use Rattle.world_core.specs.declared.event.Header.{Header}

abbrev pub dc : ℕ → DcId
dc number = record { 0 = number }

-- bit d of the number stands for centre d
abbrev pub centres : ℕ → DcSet
centres bits = record { bits = bits }

-- a member that reads from and writes to these
abbrev pub member : ℕ → ℕ → Quorum
member at asked = record { dc = dc at; read = centres asked; write = centres asked }

-- replicas 0 to 4, one of which may stop; the members 0 and 2 ask 0 to 3, the member 4 asks 1 to 4
abbrev pub policy : Policy
policy = Strong 1 (centres 31) (member 0 15 ∷ member 2 15 ∷ member 4 30 ∷ [])

-- one strong set of eight keys, and two proxies for each member
unfoldable pub header : Header
header = record {
  replicas = 5;
  sets = policy ∷ [];
  keys = replicate 8 (record { 0 = 0 });
  proxies = dc 0 ∷ dc 2 ∷ dc 4 ∷ dc 0 ∷ dc 2 ∷ dc 4 ∷ [];
}

-- the table that is published from time to time: the set keeps its policy
abbrev pub table : List SetPolicy
table = record { set = record { 0 = 0 }; policy = policy } ∷ []
