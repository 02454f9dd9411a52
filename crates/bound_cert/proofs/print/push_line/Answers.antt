use Rattle.std.proofs.Common.{[], ◌++◌, codes, refl, ap, ◌∙◌, append_assoc, append-nil, subst, string_bytes}
use Rattle.std.specs.Prelude.{OnErr}
use Rattle.std.specs.Fmt.{decimal}
use Rattle.std.proofs.lemmas.Result.{on_err_weaker}
use Rattle.bound_cert.specs.Text.{pairs_text, AddsFront}
use Rattle.bound_cert.proofs.Pieces.{where_error, stopped, front_put}
use Rattle.bound_cert.proofs.print.push_line.Goals as goal

pub returns-in_err-push_number-in-Close-clause-front : goal.returns-in_err-push_number-in-Close-clause-front
returns-in_err-push_number-in-Close-clause-front c =
    let leaf = c.in-Close.leaf in
    rw c.in-Close.is (where_error c.from_residual-in_err-push_number-in-Close.result
    (stopped _ _ (codes "l ") (decimal leaf.s ++ pairs_text leaf.pairs) _ (c.in_err-push_number-in-Close.ensures.none ∙ c.in_ok-push_str-in-Close.ensures.bytes) refl))

pub returns-in_ok-push_str-in-Branch-clause-front : goal.returns-in_ok-push_str-in-Branch-clause-front
returns-in_ok-push_str-in-Branch-clause-front c =
    rw c.in-Branch.is (on_err_weaker c.push_number.result (λ same. stopped _ _ (codes "b ") (decimal c.in-Branch.var) _ (same ∙ c.in_ok-push_str-in-Branch.ensures.bytes) refl) c.push_number.ensures.none)

pub returns-in_ok-push_number-in-Close-clause-front : goal.returns-in_ok-push_number-in-Close-clause-front
returns-in_ok-push_number-in-Close-clause-front c =
    let leaf = c.in-Close.leaf in
    let there = c.in_ok-push_number-in-Close.ensures.whole ∙ ap (λ n. string_bytes c.push_str-in-Close.new.self ++ decimal n) c.from-in-Close.ensures ∙ ap (λ t. t ++ decimal leaf.s) c.in_ok-push_str-in-Close.ensures.bytes ∙ append_assoc (string_bytes c.args.text.now) (codes "l ") (decimal leaf.s) in
    rw c.in-Close.is (on_err_weaker c.push_pairs.result (front_put _ _ _ (codes "l " ++ decimal leaf.s) (pairs_text leaf.pairs) [] _ there (ap (λ t. (codes "l " ++ decimal leaf.s) ++ t) (append-nil (pairs_text leaf.pairs)) ∙ append_assoc (codes "l ") (decimal leaf.s) (pairs_text leaf.pairs))) (subst (λ ps. OnErr c.push_pairs.result (AddsFront (string_bytes c.push_number-in-Close.new.text) (string_bytes c.push_pairs.new.text) (pairs_text ps))) c.as_slice.ensures c.push_pairs.ensures.front))
