-- The records of a world's sets are read.
use Rattle.std.proofs.Common.{◌≡◌, ℕ, ◌<◌, ◌≤◌, ◌∙◌, List, [], ◌∷◌, ◌++◌, length, map, nat_eq, Some, None, Ok, All, refl, sym, ap, arith, append_assoc}
use Rattle.std.specs.Prelude.{codes}
use Rattle.std.specs.List.{IsDistinct}
use Rattle.std.specs.Fmt.{decimal}
use Rattle.std.specs.Cmp.Lexicographic.{pointwise}
use Rattle.std.proofs.lemmas.Bool.{lt-ltb}
use Rattle.std.proofs.lemmas.List.{map-append, length-map, append-nil}
use Rattle.price_tables.specs.Tables.{link_at}
use Rattle.workload.specs.declared.rules.SetRule.{SetRule}
use Rattle.workload.specs.declared.rules.AccessSet.{AccessSet}
use Rattle.workload.specs.Load.{AreLoaded, IsSetLoaded, set_number, with_set}
use Rattle.workload.specs.World.{Lists, centre_count, fare_of}
use Rattle.world_text.specs.declared.kinds.Kind.TheVariants as kind
use Rattle.world_text.specs.declared.kinds.Version.{Version}
use Rattle.world_text.specs.declared.draft.Draft.{Draft}
use Rattle.workload.specs.Modes.{word_of}
use Rattle.world_text.specs.Records.{Record, set_record, providers_field}
use Rattle.world_text.specs.Added.{set_added}
use Rattle.world_text.specs.Judged.{judged}
use Rattle.world_text.proofs.AnySteps.{kind_is}
use Rattle.world_text.proofs.SetSteps.{set_taken}
use Rattle.world_text.proofs.FieldsRead.{TellsProviders, providers_text, set_fields_are, rule_read, name_read, kind_set}
use Rattle.world_text.proofs.Places.{holds_here, below_here, new_here}
use Rattle.world_text.proofs.Walking.{Leads, leads_none, leads_more}

-- a draft of the centres and links of a world, and of these sets
pub record HasSets (v : Version) (w : Lists) (sets : List AccessSet) (d : Draft) : Type 0 where
  pub version : d.version ≡ Some v
  pub centres : d.tables.centres ≡ w.centres
  pub linked : (a b : ℕ) → a < centre_count w → b < centre_count w → link_at d.tables a b ≡ Some (fare_of w a b)
  pub load : d.load ≡ sets

-- a set before its members
abbrev pub bare : AccessSet → AccessSet
bare s = record { name = s.name; rule = s.rule; members = [] }

pub names_of_bare : (sets : List AccessSet) → map (λ (s : AccessSet). s.name) (map bare sets) ≡ map (λ (s : AccessSet). s.name) sets
names_of_bare [] = refl
names_of_bare (s ∷ ss) = ap (λ (ns : List (List ℕ)). s.name ∷ ns) (names_of_bare ss)

set_fits : (sets : List AccessSet) (name : List ℕ) (rule : SetRule) → set_number sets name ≡ None → length sets < 1000 → set_added sets name rule ≡ Ok (with_set sets name rule)
unfolding set_added
set_fits sets name rule new room = rw (new, lt-ltb (length sets) 1000 room) refl

set_read : (v : Version) (d : Draft) (s : AccessSet) → d.version ≡ Some v → IsSetLoaded s → TellsProviders v s.rule.providers
    → set_number d.load s.name ≡ None → length d.load < 1000 → judged d (set_record v s) ≡ Ok (record d { load = with_set d.load s.name s.rule })
set_read v d s version good told new room =
    let r : SetRule = s.rule in
    let fields : Record = s.name ∷ word_of r.mode ∷ decimal r.f ∷ decimal r.read_slo ∷ decimal r.write_slo ∷ decimal r.stored ∷ decimal r.object ∷ providers_field v r.providers in
    kind_is d v (set_record v s) (codes "set") fields kind.Set version refl kind_set
    ∙ set_taken v d fields s.name (word_of r.mode) (decimal r.f) (decimal r.read_slo) (decimal r.write_slo) (decimal r.stored) (decimal r.object) (providers_text v r.providers)
    s.name r (with_set d.load s.name r)
    (set_fields_are v s.name (word_of r.mode) (decimal r.f) (decimal r.read_slo) (decimal r.write_slo) (decimal r.stored) (decimal r.object) r.providers)
    (name_read s.name good.name) (rule_read v r good.rule told) (set_fits d.load s.name r new room)

new_set : (done todo all load : List AccessSet) (s : AccessSet) → done ++ s ∷ todo ≡ all → IsDistinct (pointwise nat_eq) (map (λ s. s.name) all)
    → load ≡ map bare done → set_number load s.name ≡ None
new_set done todo all load s e distinct is =
    ap (λ (l : List AccessSet). set_number l s.name) is
    ∙ new_here (map bare_name (map bare done)) (map bare_name todo) (map bare_name all) s.name names distinct
  where
    bare_name : AccessSet → List ℕ
    bare_name x = x.name

    names : map bare_name (map bare done) ++ s.name ∷ map bare_name todo ≡ map bare_name all
    names = ap (λ (ns : List (List ℕ)). ns ++ s.name ∷ map bare_name todo) (names_of_bare done) ∙ sym (map-append bare_name done (s ∷ todo)) ∙ ap (map bare_name) e

pub sets_read : (v : Version) (w : Lists) (all done todo : List AccessSet) (d : Draft) → done ++ todo ≡ all → AreLoaded all → All (λ s. TellsProviders v s.rule.providers) all
    → HasSets v w (map bare done) d → Leads d (map (set_record v) todo) (HasSets v w (map bare all))
sets_read v w all done [] d e good told h =
    let same : done ≡ all = sym (append-nil done) ∙ e in
    leads_none d (HasSets v w (map bare all)) (record { version = h.version; centres = h.centres; linked = h.linked; load = h.load ∙ ap (map bare) same })
sets_read v w all done (s ∷ ss) d e good told h =
    let within : length done < length all = below_here done ss all s e in
    let few : length all ≤ 1000 = good.few in
    let count : length d.load ≡ length done = ap length h.load ∙ length-map done bare in
    let next : Draft = record d { load = with_set d.load s.name s.rule } in
    leads_more d next (set_record v s) (map (set_record v) ss) (HasSets v w (map bare all))
    (set_read v d s h.version
    (holds_here IsSetLoaded done ss all s e good.each)
    (holds_here (λ (x : AccessSet). TellsProviders v x.rule.providers) done ss all s e told)
    (new_set done ss all d.load s e good.distinct h.load)
    (omega arith))
    (sets_read v w all (done ++ s ∷ []) ss next (append_assoc done (s ∷ []) ss ∙ e) good told
    (record { version = h.version; centres = h.centres; linked = h.linked; load = ap (λ (xs : List AccessSet). xs ++ bare s ∷ []) h.load ∙ sym (map-append bare done (s ∷ [])) }))
