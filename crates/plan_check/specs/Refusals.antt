-- What a fault of a tree or of a policy is called in a plan. Lines of the file are counted from 1.
use Rattle.std.specs.Prelude.{ℕ, ◌+◌, ◌^◌, ◌<◌}
use Rattle.span_base.specs.declared.words.Cause.TheVariants as cause
use Rattle.cert_checker.specs.declared.faults.CertFault.{CertFault}
use Rattle.cert_checker.specs.declared.faults.CertFault.TheVariants as cert
use Rattle.slo_rules.specs.declared.policy_line.PolicyFault.{PolicyFault}
use Rattle.slo_rules.specs.declared.policy_line.PolicyFault.TheVariants as policy
use Rattle.plan_check.specs.declared.fault.CheckFault.{CheckFault}
use Rattle.plan_check.specs.declared.fault.CheckFault.TheVariants.{Bad, Refused}

-- the refusal of the line judged; a leaf that lets too much through has its own line, behind those before the tree
abbrev pub refusal_of : ℕ → ℕ → CertFault → CheckFault
refusal_of before line cert.TooLong = Refused line cause.TooLong
refusal_of before line cert.NoSuchVar = Refused line cause.VarUnknown
refusal_of before line cert.VarTwice = Refused line cause.VarTwice
refusal_of before line cert.RowUnknown = Refused line cause.RowUnknown
refusal_of before line cert.Range = Refused line cause.Range
refusal_of before line (cert.NotClosed leaf) = Refused (before + leaf) cause.OpenLeaf
refusal_of before line cert.TooShort = Refused line cause.TooShort
refusal_of before line (cert.Bounded leaf) = Refused (before + leaf) cause.BoundedLeaf

-- the number of a leaf's line fits 64 bits
abbrev pub FitsBehind : ℕ → CertFault → Type 0
FitsBehind before (cert.NotClosed leaf) = before + leaf < 2 ^ 64
FitsBehind before (cert.Bounded leaf) = before + leaf < 2 ^ 64
FitsBehind before other = Unit {0}

-- the refusal of a line of a policy: one of no form, or one that isn't the line due
abbrev pub policy_refusal : ℕ → PolicyFault → CheckFault
policy_refusal line (policy.Bad at) = Bad line cause.Syntax
policy_refusal line policy.Kind = Refused line cause.Policy
policy_refusal line policy.Unknown = Refused line cause.Policy
policy_refusal line policy.Member = Refused line cause.Policy
policy_refusal line policy.Order = Refused line cause.Policy
