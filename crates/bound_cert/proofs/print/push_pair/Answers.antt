use Rattle.std.proofs.Common.{◌++◌, codes, refl, sym, ap, ◌∙◌, append_assoc, string_bytes}
use Rattle.std.specs.Fmt.{decimal}
use Rattle.std.proofs.lemmas.Result.{on_err_weaker}
use Rattle.bound_cert.proofs.Pieces.{where_error, stopped}
use Rattle.bound_cert.proofs.print.push_pair.Goals as goal

pub returns-in_err-push_str-2-clause-front : goal.returns-in_err-push_str-2-clause-front
returns-in_err-push_str-2-clause-front c =
    let old = string_bytes c.args.text.now in
    let row = codes " " ++ decimal c.args.pair.row in
    let there = c.in_ok-push_number.ensures.whole ∙ ap (λ n. string_bytes c.push_str.new.self ++ decimal n) c.from.ensures ∙ ap (λ t. t ++ decimal c.args.pair.row) c.in_ok-push_str.ensures.bytes ∙ append_assoc old (codes " ") (decimal c.args.pair.row) in
    where_error c.from_residual-in_err-push_str-2.result (stopped old _ row _ _ (c.in_err-push_str-2.ensures.bytes ∙ there) (sym (append_assoc row (codes ":") (decimal c.args.pair.mult))))

pub returns-clause-front : goal.returns-clause-front
returns-clause-front c =
    let old = string_bytes c.args.text.now in
    let row = decimal c.args.pair.row in
    let there = c.in_ok-push_str-2.ensures.bytes ∙ ap (λ t. t ++ codes ":") (c.in_ok-push_number.ensures.whole ∙ ap (λ n. string_bytes c.push_str.new.self ++ decimal n) c.from.ensures ∙ ap (λ t. t ++ row) c.in_ok-push_str.ensures.bytes ∙ append_assoc old (codes " ") row) ∙ append_assoc old (codes " " ++ row) (codes ":") in
    on_err_weaker c.push_number-2.result (λ same. stopped old _ ((codes " " ++ row) ++ codes ":") _ _ (same ∙ there) refl) c.push_number-2.ensures.none
