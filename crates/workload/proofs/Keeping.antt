-- A workload stays in order as sets and members are added.
use Rattle.std.proofs.Common.{get_or, zero, suc, ◌≡◌, ◌≢◌, ℕ, ◌+◌, ◌<◌, ◌≤◌, ◌==◌, ◌||◌, Bool, true, false, List, [], ◌∷◌, ◌++◌, length, nat_eq, None, refl, sym, ap, ◌∙◌, subst, arith}
use Rattle.std.specs.List.{IsDistinct}
use Rattle.std.specs.Cmp.Lexicographic.{pointwise}
use Rattle.std.specs.Global.{Vec}
use Rattle.std.proofs.lemmas.Cmp.{nat_eq_equiv}
use Rattle.std.proofs.lemmas.List.{map-append, length-append, length-set}
use Rattle.std.proofs.lemmas.List.Elements.{All-append, All-cons, All-nil, All-set}
use Rattle.std.proofs.lemmas.List.Quantifiers.{all_pairs_push}
use Rattle.std.proofs.Math.Seq.{map-set_same}
use Rattle.span_base.specs.Name.{IsName}
use Rattle.price_tables.proofs.Names.{distinct_more}
use Rattle.workload.specs.declared.rules.SetRule.{SetRule}
use Rattle.workload.specs.declared.rules.Demand.{Demand}
use Rattle.workload.specs.declared.rules.AccessSet.{AccessSet}
use Rattle.workload.specs.Limits.{IsRuleWithin, AreCountsWithin}
use Rattle.workload.specs.Load.{AreLoaded, IsSetLoaded, set_number, set_at, no_set, with_set, with_member, with_demand}
use Rattle.workload.specs.Faults.{has_member}
use Rattle.workload.specs.Kept.{AreNames}

no_names : IsDistinct (pointwise nat_eq) []
unfolding IsDistinct
no_names = tt

-- no set
pub loaded_none : AreLoaded []
loaded_none = record { few = omega arith; distinct = no_names; each = All-nil IsSetLoaded }

-- a set without a member
bare : (name : List ℕ) (rule : SetRule) → IsName name → IsRuleWithin rule → IsSetLoaded (record { name = name; rule = rule; members = [] })
bare name rule named within = record {
  name = named;
  rule = within;
  few = omega arith;
  counts = All-nil AreCountsWithin;
  distinct = λ i j d below inside. absurd (omega arith);
}

-- one more set with a new name
pub loaded_more : (sets : List AccessSet) (name : List ℕ) (rule : SetRule) → AreLoaded sets → set_number sets name ≡ None → length sets < 1000
    → IsName name → IsRuleWithin rule → AreLoaded (with_set sets name rule)
loaded_more sets name rule loaded none few named within = record {
  few = more (length-append sets _);
  distinct = subst (IsDistinct (pointwise nat_eq)) (sym (map-append (λ (s : AccessSet). s.name) sets _)) (distinct_more name _ loaded.distinct none);
  each = All-append IsSetLoaded sets _ loaded.each (All-cons IsSetLoaded _ [] (bare name rule named within) (All-nil IsSetLoaded));
}
  where
    more : length (with_set sets name rule) ≡ length sets + 1 → length (with_set sets name rule) ≤ 1000
    more e = omega arith

not_same : (a b : ℕ) → (a == b) ≡ false → a ≡ b → ⊥
not_same a b e same =
    let t : true ≡ false = sym (nat_eq_equiv.refl a) ∙ ap (λ x. a == x) same ∙ e in
    cc t

-- a centre that no member has differs from each of theirs
differs : (members : List Demand) (dc : ℕ) → has_member members dc ≡ false → (k : ℕ) (d : Demand) → k < length members → (get_or members k d).dc.0 ≢ dc
differs [] dc h k d within = absurd (omega arith)
differs (m ∷ ms) dc h k d within = go (m.dc.0 == dc) refl h k within (λ r j w. differs ms dc r j d w)
  where
    go : (b : Bool) → (m.dc.0 == dc) ≡ b → (b || has_member ms dc) ≡ false → (k : ℕ) → k < length (m ∷ ms) → (has_member ms dc ≡ false → (j : ℕ) → j < length ms → (get_or ms j d).dc.0 ≢ dc) → (get_or (m ∷ ms) k d).dc.0 ≢ dc
    go true e h k within rest = cc h
    go false e h zero within rest = λ same. not_same m.dc.0 dc e same
    go false e h (suc j) within rest = rest h j (omega arith)

-- a set with one more member, in another centre
more_members : (set : AccessSet) (demand : Demand) → IsSetLoaded set → AreCountsWithin demand → has_member set.members demand.dc.0 ≡ false
    → length set.members < 8 → IsSetLoaded (with_member set demand)
more_members set demand loaded counts new few = record {
  name = loaded.name;
  rule = loaded.rule;
  few = more (length-append set.members _);
  counts = All-append AreCountsWithin set.members _ loaded.counts (All-cons AreCountsWithin demand [] counts (All-nil AreCountsWithin));
  distinct = all_pairs_push (λ (a b : Demand). a.dc.0 ≢ b.dc.0) set.members demand loaded.distinct (λ k d within. differs set.members demand.dc.0 new k d within);
}
  where
    more : length (set.members ++ demand ∷ []) ≡ length set.members + 1 → length (set.members ++ demand ∷ []) ≤ 8
    more e = omega arith

-- one more member of a set
pub loaded_member : (sets : List AccessSet) (set : ℕ) (demand : Demand) → AreLoaded sets → set < length sets → AreCountsWithin demand
    → has_member (set_at sets set).members demand.dc.0 ≡ false → length (set_at sets set).members < 8 → AreLoaded (with_demand sets set demand)
loaded_member sets set demand loaded within counts new few = record {
  few = subst (λ n. n ≤ 1000) (sym (length-set sets set _)) loaded.few;
  distinct = subst (IsDistinct (pointwise nat_eq)) (sym (map-set_same (λ (s : AccessSet). s.name) sets set (with_member (set_at sets set) demand) no_set refl)) loaded.distinct;
  each = All-set IsSetLoaded sets set _ (more_members (set_at sets set) demand (loaded.each set no_set within) counts new few) loaded.each;
}

pub names_member : (names : List (Vec ℕ)) (sets : List AccessSet) (set : ℕ) (demand : Demand) → AreNames names sets → AreNames names (with_demand sets set demand)
names_member names sets set demand same =
    same ∙ sym (map-set_same (λ (s : AccessSet). s.name) sets set (with_member (set_at sets set) demand) no_set refl)
