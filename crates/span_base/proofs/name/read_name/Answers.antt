use Rattle.std.proofs.Common.{rules, inl, inr}
use Rattle.span_base.proofs.Spelling.{name_breaks, no_name_breaks}
use Rattle.span_base.proofs.name.read_name.Goals.{then-at-eq-NAME_BYTES-via-then-at-eq-NAME_BYTES, then-at-eq-NAME_BYTES-via-else-at-eq-NAME_BYTES+then-not-fits_name}
use Rattle.span_base.proofs.name.read_name.Goals as goal

pub returns-then-is_empty : goal.returns-then-is_empty
returns-then-is_empty c = no_name_breaks c.args.text.now (search rules)

pub returns-then-at-eq-NAME_BYTES : goal.returns-then-at-eq-NAME_BYTES
returns-then-at-eq-NAME_BYTES c =
    name_breaks c.args.text.now c.loop-at.at (search rules) c.loop-at.invariant.few c.loop-at.invariant.fit
    (elim c.then-at-eq-NAME_BYTES.branch [
      | then-at-eq-NAME_BYTES-via-then-at-eq-NAME_BYTES w ↦ inr (search rules)
      | then-at-eq-NAME_BYTES-via-else-at-eq-NAME_BYTES+then-not-fits_name w ↦ inl (search rules)
    ])
