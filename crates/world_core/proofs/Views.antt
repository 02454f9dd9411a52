-- What a proxy knows of its keys, as a later epoch becomes known.
use Rattle.std.proofs.Common.{◌≡◌, ◌≢◌, ◌⊎◌, inl, inr, ℕ, ◌<◌, List, length, get_or, refl, sym, ap, ◌∙◌, arith}
use Rattle.std.specs.Prelude.{slice_set, Option, Some, None, IfSome}
use Rattle.std.proofs.lemmas.Bool.{cases_eq}
use Rattle.std.proofs.lemmas.List.{length-set, get_or-set_same, get_or-set_other}
use Rattle.std.proofs.lemmas.List.Elements.{All-set}
use Rattle.wire_msg.specs.declared.outputs.View.{View}
use Rattle.wire_msg.specs.Lawful.{IsLawfulView}
use Rattle.world_core.specs.State.{no_view}
use Rattle.world_core.specs.Step.{views_with}
use Rattle.world_core.specs.Proxies.{AreViews}

-- as many keys are known as before
pub length-views_with : (views : List View) (shown : Option View) → length (views_with views shown) ≡ length views
length-views_with views None = refl
length-views_with views (Some view) = length-set views view.key.0 view

set_keys : (views : List View) (view : View) (k : ℕ) → (k ≡ view.key.0) ⊎ (k ≢ view.key.0) → k < length views → (get_or views k no_view).key.0 ≡ k → (get_or (slice_set views view.key.0 view) k no_view).key.0 ≡ k
set_keys views view k (inl same) within was =
    let here : get_or (slice_set views view.key.0 view) view.key.0 no_view ≡ view = get_or-set_same views view.key.0 view no_view (omega (arith, within, same)) in
    ap (λ n. (get_or (slice_set views view.key.0 view) n no_view).key.0) same ∙ ap (λ (v : View). v.key.0) here ∙ sym same
set_keys views view k (inr other) within was = ap (λ (v : View). v.key.0) (get_or-set_other views view.key.0 k view no_view other) ∙ was

-- a later view of a key takes the place of the one that was known
pub views_kept : (views : List View) (shown : Option View) → AreViews views → IfSome shown IsLawfulView → AreViews (views_with views shown)
views_kept views None are lawful = are
views_kept views (Some view) are lawful = record {
  lawful = All-set IsLawfulView views view.key.0 view lawful are.lawful;
  keys = λ k within. set_keys views view k (cases_eq k view.key.0) (omega (arith, within, length-set views view.key.0 view)) (are.keys k (omega (arith, within, length-set views view.key.0 view)));
}
