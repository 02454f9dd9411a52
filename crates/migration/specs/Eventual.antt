-- What is enough for the move of an eventual key.
use Rattle.std.specs.Prelude.{ℕ, ◌+◌, Bool, ◌==◌, nat_le, length}
use Rattle.span_base.specs.DcSet.{bits_of, centres_of}
use Rattle.span_base.specs.PolicyParts.{faults_of, replicas_of}
use Rattle.call_phase.specs.declared.phase.Phase.{Phase}
use Rattle.call_phase.specs.Counting.{is_lost}
use Rattle.migration.specs.Rule.{Rule}

-- every replica that was asked did as it was asked
abbrev pub all_did : Phase → Bool
all_did phase = bits_of phase.good == bits_of phase.asked

-- f + 1 replicas did as they were asked
abbrev pub is_stored : ℕ → Phase → Bool
is_stored f phase = nat_le (f + 1) (length (centres_of phase.good))

-- all replicas of the old epoch are frozen; the seed goes to all of the new one, and stays once
-- f + 1 have it; the move is lost once one refused
abbrev pub eventual : Rule
eventual = record {
  is_frozen = λ old phase. all_did phase;
  seed_set = λ new. replicas_of new;
  is_seeded = λ new phase. is_stored (faults_of new) phase;
  is_lost = λ new phase. is_lost 0 phase;
}
