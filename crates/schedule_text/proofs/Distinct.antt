-- Members that are told apart, one after another.
use Rattle.std.proofs.Common.{◌≡◌, ℕ, suc, ◌+◌, ◌-◌, ◌<◌, ◌==◌, Bool, ◌&&◌, List, ◌∷◌, length, take, drop, get_or, sym, ap, ◌∙◌, drop-cons, add-one}
use Rattle.std.specs.Prelude.{map, not}
use Rattle.std.specs.List.{list_all}
use Rattle.std.proofs.lemmas.List.{take_rest}
use Rattle.span_base.specs.declared.policy.Quorum.{Quorum}
use Rattle.wire_msg.specs.Sound.{are_distinct}

abbrev centre : Quorum → ℕ
centre q = q.dc.0

-- whether those from a place on are distinct
pub from_place : (members : List Quorum) (at : ℕ) (item : Quorum) (b : Bool) → at < length members → item ≡ get_or members at item
    → b ≡ list_all (λ d. not (item.dc.0 == d)) (map centre (take (length members - (at + 1)) (drop (at + 1) members)))
    → are_distinct (map centre (drop at members)) ≡ (b && are_distinct (map centre (drop (at + 1) members)))
from_place members at item b within is differs =
    let rest : take (length members - (at + 1)) (drop (at + 1) members) ≡ drop (at + 1) members = take_rest members (at + 1) in
    let same : b ≡ list_all (λ d. not (item.dc.0 == d)) (map centre (drop (at + 1) members)) = differs ∙ ap (λ (ms : List Quorum). list_all (λ d. not (item.dc.0 == d)) (map centre ms)) rest in
    let front : drop at members ≡ item ∷ drop (at + 1) members = (let e = drop-cons members at item within in rw add-one (e ∙ ap (λ (q : Quorum). q ∷ drop (suc at) members) (sym is))) in
    ap (λ (ms : List Quorum). are_distinct (map centre ms)) front ∙ ap (λ (v : Bool). v && are_distinct (map centre (drop (at + 1) members))) (sym same)
