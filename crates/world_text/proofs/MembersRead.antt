-- The records of the members of a world's sets are read.
use Rattle.std.proofs.Common.{◌≡◌, ◌≢◌, ℕ, suc, ◌<◌, ◌≤◌, ◌∙◌, false, List, [], ◌∷◌, ◌++◌, length, map, get_or, set, nat_eq, Some, Ok, refl, sym, ap, subst, arith, append_assoc}
use Rattle.std.specs.Prelude.{codes}
use Rattle.std.specs.List.{flat_map, IsDistinct, AllPairs}
use Rattle.std.specs.Fmt.{decimal}
use Rattle.std.specs.Cmp.Lexicographic.{pointwise}
use Rattle.std.proofs.lemmas.Bool.{lt-ltb, ne_eqb}
use Rattle.std.proofs.lemmas.List.{map-append, length-map, append-nil, get_or_append_left}
use Rattle.std.proofs.Math.Seq.{get_or-append_seam, set-append_seam}
use Rattle.span_base.specs.Name.{IsName}
use Rattle.price_tables.specs.Tables.{number_of, no_centre}
use Rattle.workload.specs.declared.rules.Demand.{Demand}
use Rattle.workload.specs.declared.rules.AccessSet.{AccessSet}
use Rattle.workload.specs.Limits.{AreCountsWithin}
use Rattle.workload.specs.Load.{IsSetLoaded, set_at, set_number, with_demand, with_member, no_set}
use Rattle.workload.specs.Faults.{has_member}
use Rattle.workload.specs.World.{Lists, IsComplete, IsNamed, IsSetWithin, IsDemandWithin, centre_count}
use Rattle.world_text.specs.declared.kinds.Kind.TheVariants as kind
use Rattle.world_text.specs.declared.kinds.Version.{Version}
use Rattle.world_text.specs.declared.draft.Draft.{Draft}
use Rattle.workload.specs.World.{name_of}
use Rattle.world_text.specs.Records.{Record, use_record}
use Rattle.world_text.specs.Added.{member_added}
use Rattle.world_text.specs.Judged.{judged}
use Rattle.world_text.proofs.AnySteps.{kind_is}
use Rattle.world_text.proofs.UseSteps.{use_taken}
use Rattle.world_text.proofs.FieldsRead.{name_read, counts_read, kind_use}
use Rattle.world_text.proofs.LinksRead.{centre_found}
use Rattle.world_text.proofs.Places.{holds_here, below_here, place_here}
use Rattle.world_text.proofs.SetsRead.{HasSets, bare, names_of_bare}
use Rattle.world_text.proofs.Walking.{Leads, leads_none, leads_more, leads_on}

-- a set with the first of its members
abbrev front : AccessSet → List Demand → AccessSet
front s members = record { name = s.name; rule = s.rule; members = members }

member_fits : (sets : List AccessSet) (name : List ℕ) (m : Demand) (place : ℕ) → set_number sets name ≡ Some place
    → has_member (set_at sets place).members m.dc.0 ≡ false → length (set_at sets place).members < 8 → member_added sets name m ≡ Ok (with_demand sets place m)
unfolding member_added
member_fits sets name m place found new room = rw (found, new, lt-ltb (length (set_at sets place).members) 8 room) refl

member_read : (v : Version) (w : Lists) (d : Draft) (s : AccessSet) (m : Demand) (sets : List AccessSet) → d.version ≡ Some v → IsName s.name → IsName (name_of w m.dc.0)
    → AreCountsWithin m → number_of d.tables (name_of w m.dc.0) ≡ Some m.dc.0 → member_added d.load s.name m ≡ Ok sets → judged d (use_record w s m) ≡ Ok (record d { load = sets })
member_read v w d s m sets version name centre counts found added =
    let fields : Record = s.name ∷ name_of w m.dc.0 ∷ decimal m.gets ∷ decimal m.puts ∷ [] in
    kind_is d v (use_record w s m) (codes "use") fields kind.Use version refl kind_use
    ∙ use_taken d fields s.name (name_of w m.dc.0) (decimal m.gets) (decimal m.puts) s.name (name_of w m.dc.0) m.gets m.puts m.dc.0 sets
    refl (name_read s.name name) (name_read (name_of w m.dc.0) centre) (counts_read m counts) found added

-- no member stands in a centre in which none of them does
no_member : (members : List Demand) (dc : ℕ) → ((k : ℕ) (d : Demand) → k < length members → (get_or members k d).dc.0 ≢ dc) → has_member members dc ≡ false
no_member [] dc h = refl
no_member (m ∷ ms) dc h = rw (ne_eqb m.dc.0 dc (h 0 m (omega arith))) (no_member ms dc (λ k d within. h (suc k) d (omega arith)))

new_member : (xs ys all : List Demand) (m : Demand) → xs ++ m ∷ ys ≡ all → AllPairs (λ a b. a.dc.0 ≢ b.dc.0) all → has_member xs m.dc.0 ≡ false
new_member xs ys all m e apart = no_member xs m.dc.0 others
  where
    others : (k : ℕ) (d : Demand) → k < length xs → (get_or xs k d).dc.0 ≢ m.dc.0
    others k d low same =
        let here : get_or all (length xs) d ≡ m = ap (λ l. get_or l (length xs) d) (sym e) ∙ get_or-append_seam xs m ys d in
        let before : get_or all k d ≡ get_or xs k d = ap (λ l. get_or l k d) (sym e) ∙ get_or_append_left xs (m ∷ ys) d k low in
        apart k (length xs) d low (below_here xs ys all m e) (ap (λ (x : Demand). x.dc.0) before ∙ same ∙ ap (λ (x : Demand). x.dc.0) (sym here))

-- the set of a name between those that have their members and those that have none yet
set_found : (done todo all load : List AccessSet) (s : AccessSet) (members : List Demand) → done ++ s ∷ todo ≡ all → IsDistinct (pointwise nat_eq) (map (λ s. s.name) all)
    → load ≡ done ++ front s members ∷ map bare todo → set_number load s.name ≡ Some (length done)
set_found done todo all load s members e distinct is =
    place_here (map named done) (map named todo) (map named load) s.name names (subst (IsDistinct (pointwise nat_eq)) same distinct) ∙ ap Some (length-map done named)
  where
    named : AccessSet → List ℕ
    named x = x.name

    names : map named done ++ s.name ∷ map named todo ≡ map named load
    names =
        ap (λ (ns : List (List ℕ)). map named done ++ s.name ∷ ns) (sym (names_of_bare todo))
        ∙ sym (map-append named done (front s members ∷ map bare todo)) ∙ ap (map named) (sym is)

    same : map named all ≡ map named load
    same = ap (map named) (sym e) ∙ map-append named done (s ∷ todo) ∙ names

one_more : (done todo load : List AccessSet) (s : AccessSet) (members : List Demand) (m : Demand) → load ≡ done ++ front s members ∷ map bare todo
    → with_demand load (length done) m ≡ done ++ front s (members ++ m ∷ []) ∷ map bare todo
one_more done todo load s members m is =
    ap (λ (l : List AccessSet). with_demand l (length done) m) is
    ∙ ap (λ (x : AccessSet). set (done ++ front s members ∷ map bare todo) (length done) (with_member x m)) (get_or-append_seam done (front s members) (map bare todo) no_set)
    ∙ set-append_seam done (front s members) (map bare todo) (front s (members ++ m ∷ []))

-- what is known of a set whose members are read
record IsAmong (w : Lists) (done todo : List AccessSet) (s : AccessSet) : Type 0 where
  all : done ++ s ∷ todo ≡ w.sets
  loaded : IsSetLoaded s
  within : IsSetWithin (centre_count w) s

among : (w : Lists) (done todo : List AccessSet) (s : AccessSet) → IsComplete w → IsNamed w → done ++ s ∷ todo ≡ w.sets → IsAmong w done todo s
among w done todo s complete named e = record {
  all = e;
  loaded = holds_here IsSetLoaded done todo w.sets s e named.sets.each;
  within = holds_here (IsSetWithin (centre_count w)) done todo w.sets s e complete.sets;
}

set_members_read : (v : Version) (w : Lists) (done todo : List AccessSet) (s : AccessSet) (xs ys : List Demand) (d : Draft) → IsNamed w → IsAmong w done todo s → xs ++ ys ≡ s.members
    → HasSets v w (done ++ front s xs ∷ map bare todo) d → Leads d (map (use_record w s) ys) (HasSets v w (done ++ s ∷ map bare todo))
set_members_read v w done todo s xs [] d named here e h =
    let same : xs ≡ s.members = sym (append-nil xs) ∙ e in
    leads_none d (HasSets v w (done ++ s ∷ map bare todo))
    (record { version = h.version; centres = h.centres; linked = h.linked; load = h.load ∙ ap (λ (ms : List Demand). done ++ front s ms ∷ map bare todo) same })
set_members_read v w done todo s xs (m ∷ ms) d named here e h =
    let within : IsDemandWithin (centre_count w) m = holds_here (IsDemandWithin (centre_count w)) xs ms s.members m e here.within.members in
    let found : set_number d.load s.name ≡ Some (length done) = set_found done todo w.sets d.load s xs here.all named.sets.distinct h.load in
    let at : set_at d.load (length done) ≡ front s xs = ap (λ (l : List AccessSet). set_at l (length done)) h.load ∙ get_or-append_seam done (front s xs) (map bare todo) no_set in
    let new : has_member (set_at d.load (length done)).members m.dc.0 ≡ false = ap (λ (x : AccessSet). has_member x.members m.dc.0) at ∙ new_member xs ms s.members m e here.loaded.distinct in
    let shorter : length xs < length s.members = below_here xs ms s.members m e in
    let few : length s.members ≤ 8 = here.loaded.few in
    let count : length (set_at d.load (length done)).members ≡ length xs = ap (λ (x : AccessSet). length x.members) at in
    let next : Draft = record d { load = with_demand d.load (length done) m } in
    leads_more d next (use_record w s m) (map (use_record w s) ms) (HasSets v w (done ++ s ∷ map bare todo))
    (member_read v w d s m (with_demand d.load (length done) m) h.version here.loaded.name (named.names m.dc.0 no_centre within.dc) within.counts
    (centre_found w d.tables m.dc.0 named h.centres within.dc)
    (member_fits d.load s.name m (length done) found new (omega arith)))
    (set_members_read v w done todo s (xs ++ m ∷ []) ms next named here (append_assoc xs (m ∷ []) ms ∙ e)
    (record { version = h.version; centres = h.centres; linked = h.linked; load = one_more done todo d.load s xs m h.load }))

pub members_read : (v : Version) (w : Lists) (done todo : List AccessSet) (d : Draft) → IsComplete w → IsNamed w → done ++ todo ≡ w.sets
    → HasSets v w (done ++ map bare todo) d → Leads d (flat_map (λ s. map (use_record w s) s.members) todo) (HasSets v w w.sets)
members_read v w done [] d complete named e h =
    leads_none d (HasSets v w w.sets) (record { version = h.version; centres = h.centres; linked = h.linked; load = h.load ∙ e })
members_read v w done (s ∷ ss) d complete named e h =
    let here : IsAmong w done ss s = among w done ss s complete named e in
    let next : done ++ s ∷ map bare ss ≡ (done ++ s ∷ []) ++ map bare ss = sym (append_assoc done (s ∷ []) (map bare ss)) in
    leads_on d (map (use_record w s) s.members) (flat_map (λ s. map (use_record w s) s.members) ss) (HasSets v w (done ++ s ∷ map bare ss)) (HasSets v w w.sets)
    (set_members_read v w done ss s [] s.members d named here refl h)
    (λ m reached. members_read v w (done ++ s ∷ []) ss m complete named (append_assoc done (s ∷ []) ss ∙ e)
    (record { version = reached.version; centres = reached.centres; linked = reached.linked; load = reached.load ∙ next }))
