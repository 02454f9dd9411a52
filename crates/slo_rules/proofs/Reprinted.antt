-- The lines from which a policy is read are those that are printed of it.
use Rattle.std.proofs.Common.{◌≡◌, ℕ, ◌≤◌, inl, inr, List, [], ◌∷◌, ◌++◌, map, Option, Some, None, Ok, Err, refl, sym, ap, subst, ◌∙◌, append_assoc, append-nil, arith}
use Rattle.std.specs.Prelude.{Result}
use Rattle.std.proofs.lemmas.List.{map-append}
use Rattle.span_base.specs.declared.dc_set.DcSet.{DcSet}
use Rattle.span_base.specs.declared.policy.Policy.{Policy}
use Rattle.span_base.specs.declared.policy.Near.{Near}
use Rattle.span_base.specs.declared.policy.Hop.{Hop}
use Rattle.span_base.specs.declared.policy.Quorum.{Quorum}
use Rattle.workload.specs.World.{Lists, centre_count, rule_of, members_of}
use Rattle.workload.specs.declared.rules.Mode.{Mode}
use Rattle.workload.specs.declared.rules.Mode.TheVariants as mode
use Rattle.slo_rules.specs.PolicyText.{replicas_line, primary_line, hop_line, quorum_line, policy_lines}
use Rattle.slo_rules.specs.declared.policy_line.PolicyFault.{PolicyFault}
use Rattle.slo_rules.specs.declared.policy_line.PolicyLine.{PolicyLine}
use Rattle.slo_rules.specs.declared.turn.Due.{Due}
use Rattle.slo_rules.specs.declared.turn.Due.TheVariants as due
use Rattle.slo_rules.specs.PolicyLines.{line_says}
use Rattle.slo_rules.specs.PolicyReading.{Draft, blank, due_of, replicas_in, primary_in, hop_in, quorum_in, filled, finished, step, policy_of, policy_by}
use Rattle.slo_rules.specs.PolicyLaws.{whole_or, policy_from, ReadLinesArePrinted}
use Rattle.slo_rules.proofs.LinesSpell.{bind_ok, Spells, line_spells}
use Rattle.slo_rules.proofs.Drafts.{first, printed, IsSaneFor, IsNothing, IsSaneWith, IsSane, Adds, draft_of, policy_in, lines_in, replicas_added, primary_added, hop_added, quorum_added}
use Rattle.slo_rules.proofs.DueTurns.{PrimaryTurn, HopTurn, QuorumTurn, turn_is}

sane_for : (w : Lists) (d : Draft) (rs : DcSet) → IsSane w d → d.replicas ≡ Some rs → IsSaneFor (rule_of w d.set).mode (members_of w d.set) d
sane_for w d rs sane begun = subst (IsSaneWith w d) begun sane.sane

-- the lists so far with one line more
more_primary : (F P H : List (List ℕ)) (x : List ℕ) → H ≡ [] → F ++ ((P ++ x ∷ []) ++ H) ≡ (F ++ (P ++ H)) ++ x ∷ []
more_primary F P H x none = ap (λ (h : List (List ℕ)). F ++ ((P ++ x ∷ []) ++ h)) none ∙ ap (λ (t : List (List ℕ)). F ++ t) (append-nil (P ++ x ∷ [])) ∙ sym (append_assoc F P (x ∷ [])) ∙ ap (λ (t : List (List ℕ)). (F ++ t) ++ x ∷ []) (sym (append-nil P)) ∙ ap (λ (h : List (List ℕ)). (F ++ (P ++ h)) ++ x ∷ []) (sym none)

more_last : (F P H Q : List (List ℕ)) (x : List ℕ) → F ++ (P ++ (H ++ (Q ++ x ∷ []))) ≡ (F ++ (P ++ (H ++ Q))) ++ x ∷ []
more_last F P H Q x = sym (append_assoc F (P ++ (H ++ Q)) (x ∷ []) ∙ ap (λ (t : List (List ℕ)). F ++ t) (append_assoc P (H ++ Q) (x ∷ []) ∙ ap (λ (t : List (List ℕ)). P ++ t) (append_assoc H Q (x ∷ []))))

more_hop : (F P H Q : List (List ℕ)) (x : List ℕ) → Q ≡ [] → F ++ (P ++ ((H ++ x ∷ []) ++ Q)) ≡ (F ++ (P ++ (H ++ Q))) ++ x ∷ []
more_hop F P H Q x none =
    ap (λ (q : List (List ℕ)). F ++ (P ++ ((H ++ x ∷ []) ++ q))) none ∙ ap (λ (t : List (List ℕ)). F ++ (P ++ t)) (append_assoc H (x ∷ []) [])
    ∙ more_last F P H [] x ∙ ap (λ (q : List (List ℕ)). (F ++ (P ++ (H ++ q))) ++ x ∷ []) (sym none)

add_replicas : (w : Lists) (d : Draft) (text : List ℕ) (rs : DcSet) → IsSane w d → d.replicas ≡ None → text ≡ replicas_line w rs → Adds w d text (record d { replicas = Some rs })
add_replicas w d text rs sane none is = record { lines = lines; sane = record { sane = begun (rule_of w d.set).mode }; set = refl }
  where
    nothing : IsNothing d
    nothing = subst (IsSaneWith w d) none sane.sane

    rest : List (List ℕ)
    rest = map (primary_line w) d.primary ++ (map (hop_line w) d.hops ++ map (quorum_line w) d.quorums)

    empty : rest ≡ []
    empty = λ i. map (primary_line w) (nothing.0 i) ++ (map (hop_line w) (nothing.1 i) ++ map (quorum_line w) (nothing.2 i))

    lines : (replicas_line w rs ∷ []) ++ rest ≡ (first w d.replicas ++ rest) ++ text ∷ []
    lines = ap (λ (t : List (List ℕ)). (replicas_line w rs ∷ []) ++ t) empty ∙ ap (λ (l : List ℕ). l ∷ []) (sym is) ∙ (λ i. (first w (sym none i) ++ sym empty i) ++ text ∷ [])

    begun : (m : Mode) → IsSaneFor m (members_of w d.set) (record d { replicas = Some rs })
    begun mode.Direct = (nothing.1, nothing.2)
    begun mode.Relay = (nothing.2, inl nothing.1)
    begun mode.Strong = (nothing.0, nothing.1)

add_primary : (w : Lists) (d : Draft) (text : List ℕ) (near : Near) → IsSane w d → PrimaryTurn w d → text ≡ primary_line w near → Adds w d text (record d { primary = d.primary ++ near ∷ [] })
add_primary w d text near sane turn is = go (rule_of w d.set).mode refl (sane_for w d turn.rs sane turn.begun)
  where
    next : Draft
    next = record d { primary = d.primary ++ near ∷ [] }

    lines : d.hops ≡ [] → d.quorums ≡ [] → printed w next ≡ printed w d ++ text ∷ []
    lines h q =
        let none : map (hop_line w) d.hops ++ map (quorum_line w) d.quorums ≡ [] = λ i. map (hop_line w) (h i) ++ map (quorum_line w) (q i) in
        ap (λ (p : List (List ℕ)). first w d.replicas ++ (p ++ (map (hop_line w) d.hops ++ map (quorum_line w) d.quorums))) (map-append (primary_line w) d.primary (near ∷ []))
        ∙ more_primary (first w d.replicas) (map (primary_line w) d.primary) (map (hop_line w) d.hops ++ map (quorum_line w) d.quorums) (primary_line w near) none
        ∙ ap (λ (l : List ℕ). printed w d ++ l ∷ []) (sym is)

    still : (m : Mode) → (rule_of w d.set).mode ≡ m → IsSaneFor m (members_of w d.set) next → IsSane w next
    still m e s =
        let P : Option DcSet → Type 0 = λ o. IsSaneWith w next o in
        let Q : Mode → Type 0 = λ m. IsSaneFor m (members_of w d.set) next in
        record { sane = subst P (sym turn.begun) (subst Q (sym e) s) }

    go : (m : Mode) → (rule_of w d.set).mode ≡ m → IsSaneFor (rule_of w d.set).mode (members_of w d.set) d → Adds w d text next
    go mode.Direct e s =
        let Q : Mode → Type 0 = λ m. IsSaneFor m (members_of w d.set) d in
        let t = subst Q e s in
        record { lines = lines t.0 t.1; sane = still mode.Direct e (t.0, t.1); set = refl }
    go mode.Relay e s =
        let Q : Mode → Type 0 = λ m. IsSaneFor m (members_of w d.set) d in
        let t = subst Q e s in
        let h : d.hops ≡ [] = elim t.1 [ inl none ↦ none | inr full ↦ absurd (let i = turn.inside in omega arith) ] in
        record { lines = lines h t.0; sane = still mode.Relay e (t.0, inl h); set = refl }
    go mode.Strong e s = absurd (turn.apart e)

add_hop : (w : Lists) (d : Draft) (text : List ℕ) (hop : Hop) → IsSane w d → HopTurn w d → text ≡ hop_line w hop → Adds w d text (record d { hops = d.hops ++ hop ∷ [] })
add_hop w d text hop sane turn is =
    let next : Draft = record d { hops = d.hops ++ hop ∷ [] } in
    let Q : Mode → Type 0 = λ m. IsSaneFor m (members_of w d.set) d in
    let R : Mode → Type 0 = λ m. IsSaneFor m (members_of w d.set) next in
    let P : Option DcSet → Type 0 = λ o. IsSaneWith w next o in
    let t = subst Q turn.relay (sane_for w d turn.rs sane turn.begun) in
    let none : map (quorum_line w) d.quorums ≡ [] = ap (map (quorum_line w)) t.0 in
    record {
      lines = ap (λ (h : List (List ℕ)). first w d.replicas ++ (map (primary_line w) d.primary ++ (h ++ map (quorum_line w) d.quorums))) (map-append (hop_line w) d.hops (hop ∷ []))
          ∙ more_hop (first w d.replicas) (map (primary_line w) d.primary) (map (hop_line w) d.hops) (map (quorum_line w) d.quorums) (hop_line w hop) none
          ∙ ap (λ (l : List ℕ). printed w d ++ l ∷ []) (sym is);
      sane = record { sane = subst P (sym turn.begun) (subst R (sym turn.relay) (t.0, inr turn.full)) };
      set = refl;
    }

add_quorum : (w : Lists) (d : Draft) (text : List ℕ) (q : Quorum) → IsSane w d → QuorumTurn w d → text ≡ quorum_line w q → Adds w d text (record d { quorums = d.quorums ++ q ∷ [] })
add_quorum w d text q sane turn is =
    let next : Draft = record d { quorums = d.quorums ++ q ∷ [] } in
    let Q : Mode → Type 0 = λ m. IsSaneFor m (members_of w d.set) d in
    let R : Mode → Type 0 = λ m. IsSaneFor m (members_of w d.set) next in
    let P : Option DcSet → Type 0 = λ o. IsSaneWith w next o in
    let t = subst Q turn.strong (sane_for w d turn.rs sane turn.begun) in
    record {
      lines = ap (λ (qs : List (List ℕ)). first w d.replicas ++ (map (primary_line w) d.primary ++ (map (hop_line w) d.hops ++ qs))) (map-append (quorum_line w) d.quorums (q ∷ []))
          ∙ more_last (first w d.replicas) (map (primary_line w) d.primary) (map (hop_line w) d.hops) (map (quorum_line w) d.quorums) (quorum_line w q)
          ∙ ap (λ (l : List ℕ). printed w d ++ l ∷ []) (sym is);
      sane = record { sane = subst P (sym turn.begun) (subst R (sym turn.strong) (t.0, t.1)) };
      set = refl;
    }

-- a line that is taken adds itself
fill_adds : (w : Lists) (d : Draft) (text : List ℕ) (said : PolicyLine) (next : Draft) (o : Option Due) → IsSane w d → Spells w text said → due_of w d ≡ o → filled d said o ≡ Ok next → Adds w d text next
fill_adds w d text said next None sane spells is e = cc
fill_adds w d text said next (Some due.Replicas) sane spells is e =
    let x = bind_ok (replicas_in said) (λ rs. Ok (record d { replicas = Some rs })) next e in
    let same : record d { replicas = Some x.0 } ≡ next = ap (draft_of d) x.2 in
    subst (Adds w d text) same (add_replicas w d text x.0 sane (turn_is w d due.Replicas is) (replicas_added w text said x.0 spells x.1))
fill_adds w d text said next (Some (due.Primary turn)) sane spells is e =
    let x = bind_ok (primary_in turn said) (λ near. Ok (record d { primary = d.primary ++ near ∷ [] })) next e in
    let same : record d { primary = d.primary ++ x.0 ∷ [] } ≡ next = ap (draft_of d) x.2 in
    subst (Adds w d text) same (add_primary w d text x.0 sane (turn_is w d (due.Primary turn) is) (primary_added w text turn said x.0 spells x.1))
fill_adds w d text said next (Some (due.Hop turn replica)) sane spells is e =
    let x = bind_ok (hop_in turn replica said) (λ hop. Ok (record d { hops = d.hops ++ hop ∷ [] })) next e in
    let same : record d { hops = d.hops ++ x.0 ∷ [] } ≡ next = ap (draft_of d) x.2 in
    subst (Adds w d text) same (add_hop w d text x.0 sane (turn_is w d (due.Hop turn replica) is) (hop_added w text turn replica said x.0 spells x.1))
fill_adds w d text said next (Some (due.Quorum turn)) sane spells is e =
    let x = bind_ok (quorum_in turn said) (λ q. Ok (record d { quorums = d.quorums ++ q ∷ [] })) next e in
    let same : record d { quorums = d.quorums ++ x.0 ∷ [] } ≡ next = ap (draft_of d) x.2 in
    subst (Adds w d text) same (add_quorum w d text x.0 sane (turn_is w d (due.Quorum turn) is) (quorum_added w text turn said x.0 spells x.1))

step_adds : (w : Lists) (d : Draft) (text : List ℕ) (next : Draft) → centre_count w ≤ 16 → IsSane w d → step w d text ≡ Ok next → Adds w d text next
unfolding step
step_adds w d text next few sane e =
    let x = bind_ok (line_says w text) (λ said. filled d said (due_of w d)) next e in
    fill_adds w d text x.0 next (due_of w d) sane (line_spells w text x.0 few x.1) refl x.2

-- the lines of a whole policy
whole_lines : (w : Lists) (d : Draft) (p : Policy) → IsSane w d → policy_of w d ≡ Some p → printed w d ≡ policy_lines w p
whole_lines w d p sane e = go d.replicas refl (due_of w d) e
  where
    lines : (rs : DcSet) → d.replicas ≡ Some rs → (m : Mode) → (rule_of w d.set).mode ≡ m → IsSaneFor m (members_of w d.set) d → printed w d ≡ policy_lines w (policy_by m (rule_of w d.set).f rs d)
    lines rs begun mode.Direct is s = (λ i. first w (begun i) ++ (map (primary_line w) d.primary ++ (map (hop_line w) (s.0 i) ++ map (quorum_line w) (s.1 i)))) ∙ ap (λ (t : List (List ℕ)). replicas_line w rs ∷ t) (append-nil (map (primary_line w) d.primary))
    lines rs begun mode.Relay is s = (λ i. first w (begun i) ++ (map (primary_line w) d.primary ++ (map (hop_line w) d.hops ++ map (quorum_line w) (s.0 i)))) ∙ ap (λ (t : List (List ℕ)). replicas_line w rs ∷ (map (primary_line w) d.primary ++ t)) (append-nil (map (hop_line w) d.hops))
    lines rs begun mode.Strong is s = λ i. first w (begun i) ++ (map (primary_line w) (s.0 i) ++ (map (hop_line w) (s.1 i) ++ map (quorum_line w) d.quorums))

    go : (o : Option DcSet) → d.replicas ≡ o → (t : Option Due) → finished w d o t ≡ Some p → printed w d ≡ policy_lines w p
    go None begun t e = cc
    go (Some rs) begun (Some t) e = cc
    go (Some rs) begun None e =
        let same : policy_by (rule_of w d.set).mode (rule_of w d.set).f rs d ≡ p = cc in
        lines rs begun (rule_of w d.set).mode refl (sane_for w d rs sane begun) ∙ ap (policy_lines w) same

reads : (w : Lists) (lines : List (List ℕ)) (d : Draft) (p : Policy) (more : List (List ℕ)) → centre_count w ≤ 16 → IsSane w d → policy_from w d lines ≡ Some (p, more) → printed w d ++ lines ≡ policy_lines w p ++ more
reads w [] d p more few sane e = go (policy_of w d) refl e
  where
    go : (o : Option Policy) → policy_of w d ≡ o → whole_or o [] None ≡ Some (p, more) → printed w d ++ [] ≡ policy_lines w p ++ more
    go (Some q) is e =
        let same : q ≡ p = ap (policy_in p) e in
        let last : [] ≡ more = ap (lines_in []) e in
        (λ i. whole_lines w d p sane (is ∙ ap Some same) i ++ last i)
    go None is e = cc
reads w (line ∷ lines) d p more few sane e = go (policy_of w d) refl e (λ next s h. reads w lines next p more few s h)
  where
    by : (r : Result Draft PolicyFault) → step w d line ≡ r → elim r as (λ v. Option (Policy × List (List ℕ))) [ Ok next ↦ policy_from w next lines | Err fault ↦ None ] ≡ Some (p, more)
        → ((next : Draft) → IsSane w next → policy_from w next lines ≡ Some (p, more) → printed w next ++ lines ≡ policy_lines w p ++ more) → printed w d ++ line ∷ lines ≡ policy_lines w p ++ more
    by (Ok next) is e rec =
        let a : Adds w d line next = step_adds w d line next few sane is in
        sym (ap (λ (ls : List (List ℕ)). ls ++ lines) a.lines ∙ append_assoc (printed w d) (line ∷ []) lines) ∙ rec next a.sane e
    by (Err fault) is e rec = cc

    go : (o : Option Policy) → policy_of w d ≡ o → whole_or o (line ∷ lines) (elim (step w d line) as (λ v. Option (Policy × List (List ℕ))) [ Ok next ↦ policy_from w next lines | Err fault ↦ None ]) ≡ Some (p, more)
        → ((next : Draft) → IsSane w next → policy_from w next lines ≡ Some (p, more) → printed w next ++ lines ≡ policy_lines w p ++ more) → printed w d ++ line ∷ lines ≡ policy_lines w p ++ more
    go (Some q) is e rec =
        let same : q ≡ p = ap (policy_in p) e in
        let last : line ∷ lines ≡ more = ap (lines_in []) e in
        (λ i. whole_lines w d p sane (is ∙ ap Some same) i ++ last i)
    go None is e rec = by (step w d line) refl e rec

pub reprinted : ReadLinesArePrinted
reprinted w complete set lines p more e = reads w lines (blank set) p more complete.few_centres (record { sane = (refl, refl, refl) }) e
