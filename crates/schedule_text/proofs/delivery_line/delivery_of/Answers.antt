use Rattle.std.proofs.Common.{ℕ, List, drop, refl, subst}
use Rattle.std.proofs.lemmas.List.{take_rest}
use Rattle.schedule_text.specs.Deliveries.{BeginsWithNumber}
use Rattle.schedule_text.proofs.Deliveries.{delivery_there}
use Rattle.schedule_text.proofs.delivery_line.delivery_of.Goals as goal

pub returns : goal.returns
returns c =
    delivery_there c.args.text.now (drop 8 c.args.text.now) c.in_ok-digits.digits c.in_ok-digits.message (c.if-not-begins_delivery.ensures.begins refl)
    (subst (λ (rest : List ℕ). BeginsWithNumber rest c.in_ok-digits.digits c.in_ok-digits.message) (take_rest c.args.text.now 8) c.in_ok-digits.ensures)
