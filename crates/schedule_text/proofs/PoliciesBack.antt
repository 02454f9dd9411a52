-- A policy that is printed says what it was printed of.
use Rattle.std.proofs.Common.{◌≡◌, ℕ, ◌-◌, ◌<◌, ◌≤◌, ◌==◌, false, List, [], ◌∷◌, ◌++◌, length, take, drop, Result, Ok, refl, sym, ap, ◌∙◌, append_assoc, append-nil, arith}
use Rattle.std.specs.Prelude.{map}
use Rattle.std.specs.List.{All, flat_map}
use Rattle.std.specs.Fmt.{decimal}
use Rattle.std.proofs.lemmas.Bool.{false_from_ne_true, eqb-true}
use Rattle.std.proofs.lemmas.List.Elements.{All-head, All-tail, All-take, All-drop}
use Rattle.std.proofs.lemmas.List.{take-append-drop, take-map, drop-map, length-map}
use Rattle.std.proofs.Math.Seq.{take-append_seam, drop-append_seam}
use Rattle.span_base.specs.DcSet.{centres_of}
use Rattle.span_base.specs.Policy.{lane_of, lanes_of}
use Rattle.span_base.specs.declared.dc_set.DcSet.{DcSet}
use Rattle.span_base.specs.declared.words.What.TheVariants as what
use Rattle.span_base.specs.declared.policy.Near.{Near}
use Rattle.span_base.specs.declared.policy.Hop.{Hop}
use Rattle.span_base.specs.declared.policy.Quorum.{Quorum}
use Rattle.span_base.specs.declared.policy.Policy.{Policy}
use Rattle.span_base.specs.declared.policy.Policy.TheVariants as policy
use Rattle.schedule_text.specs.declared.flaw.Flaw.{Flaw}
use Rattle.schedule_text.specs.declared.lanes.Lanes.{Lanes}
use Rattle.schedule_text.specs.Flaws.{after, listed}
use Rattle.schedule_text.specs.Policies.{tolerance_says, has_room, quorum_says, near_of, near_says, quorums_from, nears_from, hops_from, with_member, lanes_from, strong_says, direct_says, relay_says, policy_says}
use Rattle.schedule_text.specs.Printed.{replicas_text, quorum_text, near_text, parents_text, lane_text, lane_words, policy_words}
use Rattle.schedule_text.specs.Spellable.{AreReplicas, IsSpelledQuorum, IsSpelledNear, IsSpelledStrong, IsSpelledDirect, HasLanes, IsSpelledPolicy}
use Rattle.schedule_text.proofs.Joining.{split_joined}
use Rattle.schedule_text.proofs.Bytes.{Has, AllHave, AllBelow, is_listed, is_print, all_free, listed_digits, listed_commas, print_digits, listed_print, have_more, have_joined}
use Rattle.schedule_text.proofs.NumbersBack.{number_back, centre_back, replica_back, replicas_below, replicas_split, replicas_back, commas_split, below_each}

-- a part of a word: digits of a centre, and replicas
centre_part : (n : ℕ) → n < 16 → Has is_listed (decimal n)
centre_part n low = listed_digits n (omega (arith, low))

replicas_part : (replicas : ℕ) (set : DcSet) → replicas ≤ 16 → AreReplicas replicas set → Has is_listed (replicas_text set)
replicas_part replicas set few are = listed_commas (centres_of set) (replicas_below replicas set few are)

print_parts : (texts : List (List ℕ)) → AllHave is_listed texts → AllHave is_print texts
print_parts [] have = tt
print_parts (text ∷ texts) have = (have_more is_listed is_print text listed_print have.0, print_parts texts have.1)

tolerance_back : (f : ℕ) → f ≤ 3 → tolerance_says (decimal f) ≡ Ok f
tolerance_back f low = number_back what.F 3 f (omega arith) low

-- ---- strong

quorum_parts : (replicas : ℕ) (q : Quorum) → replicas ≤ 16 → IsSpelledQuorum replicas q → AllHave is_listed (decimal q.dc.0 ∷ replicas_text q.read ∷ replicas_text q.write ∷ [])
quorum_parts replicas q few is = (centre_part q.dc.0 is.member, (replicas_part replicas q.read few is.read, (replicas_part replicas q.write few is.write, tt)))

quorum_back : (replicas : ℕ) (q : Quorum) → replicas ≤ 16 → IsSpelledQuorum replicas q → quorum_says replicas (quorum_text q) ≡ Ok q
unfolding quorum_says quorum_text
quorum_back replicas q few is =
    let parts = split_joined (λ c. c == 47) 47 (decimal q.dc.0) (replicas_text q.read ∷ replicas_text q.write ∷ []) refl
    (all_free is_listed 47 (decimal q.dc.0 ∷ replicas_text q.read ∷ replicas_text q.write ∷ []) refl (quorum_parts replicas q few is)) in
    rw parts (rw (centre_back q.dc is.member) (rw (replicas_back replicas q.read few is.read) (rw (replicas_back replicas q.write few is.write) refl)))

room_left : (room : ℕ) → 0 < room → has_room room ≡ Ok tt
room_left room some = (let e : (room == 0) ≡ false = false_from_ne_true (room == 0) (λ h. let is = eqb-true room 0 h in omega (arith, is, some)) in rw e refl)

roomy : {A : Type 0} (room : ℕ) (part : Result A Flaw) (a : A) → 0 < room → part ≡ Ok a → after (has_room room) part ≡ Ok a
roomy room part a some is = rw (room_left room some) (rw is refl)

quorums_back : (replicas room : ℕ) (done qs : List Quorum) → replicas ≤ 16 → length qs ≤ room → All (IsSpelledQuorum replicas) qs → quorums_from replicas room (Ok done) (map quorum_text qs) ≡ Ok (done ++ qs)
unfolding quorums_from
quorums_back replicas room done [] few fits all = ap Ok (sym (append-nil done))
quorums_back replicas room done (q ∷ qs) few fits all =
    ap (λ (r : Result Quorum Flaw). quorums_from replicas (room - 1) (listed (Ok done) r) (map quorum_text qs)) (roomy room (quorum_says replicas (quorum_text q)) q (omega (arith, fits)) (quorum_back replicas q few (All-head (IsSpelledQuorum replicas) q qs all)))
    ∙ (quorums_back replicas (room - 1) (done ++ q ∷ []) qs few (omega (arith, fits)) (All-tail (IsSpelledQuorum replicas) q qs all) ∙ ap Ok (append_assoc done (q ∷ []) qs))

strong_back : (replicas f : ℕ) (set : DcSet) (members : List Quorum) → replicas ≤ 16 → IsSpelledStrong replicas f set members → strong_says replicas (decimal f ∷ map quorum_text members) ≡ Ok (policy.Strong f set members)
unfolding strong_says
strong_back replicas f set members few is =
    rw (tolerance_back f is.tolerance) (rw (quorums_back replicas 8 [] members few is.few is.quorums) (ap (λ (s : DcSet). let p : Policy = policy.Strong f s members in Ok p) (sym is.union)))

-- ---- direct

near_parts : (near : Near) → IsSpelledNear near → AllHave is_listed (decimal near.member.0 ∷ decimal near.at.0 ∷ [])
near_parts near is = (centre_part near.member.0 is.member, (centre_part near.at.0 is.at, tt))

near_of_back : (near : Near) → IsSpelledNear near → near_of (decimal near.member.0, decimal near.at.0) ≡ Ok near
near_of_back near is = rw (centre_back near.member is.member) (rw (centre_back near.at is.at) refl)

near_back : (near : Near) → IsSpelledNear near → near_says (near_text near) ≡ Ok near
unfolding near_says near_text
near_back near is =
    let parts = split_joined (λ c. c == 62) 62 (decimal near.member.0) (decimal near.at.0 ∷ []) refl
    (all_free is_listed 62 (decimal near.member.0 ∷ decimal near.at.0 ∷ []) refl (near_parts near is)) in
    rw parts (near_of_back near is)

nears_back : (room : ℕ) (done nears : List Near) → length nears ≤ room → All IsSpelledNear nears → nears_from room (Ok done) (map near_text nears) ≡ Ok (done ++ nears)
unfolding nears_from
nears_back room done [] fits all = ap Ok (sym (append-nil done))
nears_back room done (near ∷ nears) fits all =
    ap (λ (r : Result Near Flaw). nears_from (room - 1) (listed (Ok done) r) (map near_text nears)) (roomy room (near_says (near_text near)) near (omega (arith, fits)) (near_back near (All-head IsSpelledNear near nears all)))
    ∙ (nears_back (room - 1) (done ++ near ∷ []) nears (omega (arith, fits)) (All-tail IsSpelledNear near nears all) ∙ ap Ok (append_assoc done (near ∷ []) nears))

direct_back : (replicas f : ℕ) (set : DcSet) (primary : List Near) → replicas ≤ 16 → IsSpelledDirect replicas f set primary
    → direct_says replicas (decimal f ∷ replicas_text set ∷ map near_text primary) ≡ Ok (policy.Direct f set primary)
unfolding direct_says
direct_back replicas f set primary few is =
    rw (tolerance_back f is.tolerance) (rw (replicas_back replicas set few is.replica_set) (rw (nears_back 8 [] primary is.few is.nears) refl))

-- ---- relay

hops_back : (replicas : ℕ) (near : Near) (lanes : Lanes) (ds : List ℕ) (hops : List Hop) → replicas ≤ 16 → AllBelow replicas ds → map lane_of hops ≡ map (λ d. (near.member.0, d)) ds → All (λ hop. hop.parent.0 < 16) hops
    → hops_from replicas (Ok near) (Ok lanes) (map decimal ds) (map decimal (map (λ hop. hop.parent.0) hops)) ≡ Ok (record { nears = lanes.nears; hops = lanes.hops ++ hops })
unfolding hops_from
hops_back replicas near lanes [] [] few low are all = ap (λ (hs : List Hop). let it : Lanes = record { nears = lanes.nears; hops = hs } in Ok it) (sym (append-nil lanes.hops))
hops_back replicas near lanes [] (hop ∷ hops) few low are all = absurd (cc)
hops_back replicas near lanes (d ∷ ds) [] few low are all = absurd (cc)
hops_back replicas near lanes (d ∷ ds) (hop ∷ hops) few low are all =
    let first : lane_of hop ≡ (near.member.0, d) = cc in
    let later : map lane_of hops ≡ map (λ d. (near.member.0, d)) ds = cc in
    let hop_is : (let made : Hop = record { member = near.member; child = record { 0 = d }; parent = hop.parent } in made) ≡ hop =
    ap (λ (lane : ℕ × ℕ). let made : Hop = record { member = record { 0 = lane.0 }; child = record { 0 = lane.1 }; parent = hop.parent } in made) (sym first) in
    rw (replica_back replicas d few low.0) (rw (centre_back hop.parent (All-head (λ hop. hop.parent.0 < 16) hop hops all)) (rw hop_is
    (hops_back replicas near (record { nears = lanes.nears; hops = lanes.hops ++ hop ∷ [] }) ds hops few low.1 later (All-tail (λ hop. hop.parent.0 < 16) hop hops all)
    ∙ ap (λ (hs : List Hop). let it : Lanes = record { nears = lanes.nears; hops = hs } in Ok it) (append_assoc lanes.hops (hop ∷ []) hops))))

parents_below : (hops : List Hop) → All (λ hop. hop.parent.0 < 16) hops → AllBelow 16 (map (λ hop. hop.parent.0) hops)
parents_below [] all = tt
parents_below (hop ∷ hops) all = (All-head (λ hop. hop.parent.0 < 16) hop hops all, parents_below hops (All-tail (λ hop. hop.parent.0 < 16) hop hops all))

lane_parts : (near : Near) (hops : List Hop) → IsSpelledNear near → All (λ hop. hop.parent.0 < 16) hops → AllHave is_listed (decimal near.member.0 ∷ decimal near.at.0 ∷ parents_text hops ∷ [])
lane_parts near hops is all = (centre_part near.member.0 is.member, (centre_part near.at.0 is.at, (listed_commas (map (λ hop. hop.parent.0) hops) (parents_below hops all), tt)))

same_length : (near : Near) (ds : List ℕ) (hops : List Hop) → map lane_of hops ≡ map (λ d. (near.member.0, d)) ds → length hops ≡ length ds
same_length near ds hops are = sym (length-map hops lane_of) ∙ ap length are ∙ length-map ds (λ d. (near.member.0, d))

member_back : (replicas room : ℕ) (near : Near) (lanes : Lanes) (set : DcSet) (hops : List Hop) → replicas ≤ 16 → 0 < room → AreReplicas replicas set → IsSpelledNear near
    → map lane_of hops ≡ lanes_of set near.member.0 → All (λ hop. hop.parent.0 < 16) hops
    → with_member replicas (map decimal (centres_of set)) room (Ok lanes) (lane_text near hops) ≡ Ok (record { nears = lanes.nears ++ near ∷ []; hops = lanes.hops ++ hops })
unfolding with_member lane_text
member_back replicas room near lanes set hops few some are is here all =
    let same = same_length near (centres_of set) hops here in
    let count = length-map hops (λ (hop : Hop). hop.parent.0) in
    let has_some = are.some in
    let parts = split_joined (λ c. c == 62) 62 (decimal near.member.0) (decimal near.at.0 ∷ parents_text hops ∷ []) refl
    (all_free is_listed 62 (decimal near.member.0 ∷ decimal near.at.0 ∷ parents_text hops ∷ []) refl (lane_parts near hops is all)) in
    let parents = commas_split (map (λ (hop : Hop). hop.parent.0) hops) (omega (arith, same, count, has_some)) (parents_below hops all) in
    rw parts (rw (near_of_back near is) (rw (room_left room some) (rw parents
    (hops_back replicas near (record { nears = lanes.nears ++ near ∷ []; hops = lanes.hops }) (centres_of set) hops few (below_each replicas (centres_of set) are.below) here all))))

-- the hops of the first member, and those of the others
first_lanes : (set : DcSet) (near : Near) (nears : List Near) (hops : List Hop) → map lane_of hops ≡ flat_map (λ near. lanes_of set near.member.0) (near ∷ nears)
    → (map lane_of (take (length (centres_of set)) hops) ≡ lanes_of set near.member.0) × (map lane_of (drop (length (centres_of set)) hops) ≡ flat_map (λ near. lanes_of set near.member.0) nears)
first_lanes set near nears hops are =
    let own = lanes_of set near.member.0 in
    let others = flat_map (λ near. lanes_of set near.member.0) nears in
    let count : length own ≡ length (centres_of set) = length-map (centres_of set) (λ d. (near.member.0, d)) in (
      sym (take-map lane_of (length (centres_of set)) hops) ∙ ap (take (length (centres_of set))) are ∙ ap (λ (n : ℕ). take n (own ++ others)) (sym count) ∙ take-append_seam own others,
      sym (drop-map lane_of (length (centres_of set)) hops) ∙ ap (drop (length (centres_of set))) are ∙ ap (λ (n : ℕ). drop n (own ++ others)) (sym count) ∙ drop-append_seam own others,
    )

lanes_back : (replicas room : ℕ) (lanes : Lanes) (set : DcSet) (nears : List Near) (hops : List Hop) → replicas ≤ 16 → length nears ≤ room → AreReplicas replicas set → All IsSpelledNear nears
    → map lane_of hops ≡ flat_map (λ near. lanes_of set near.member.0) nears → All (λ hop. hop.parent.0 < 16) hops
    → lanes_from replicas (map decimal (centres_of set)) room (Ok lanes) (lane_words (length (centres_of set)) hops nears) ≡ Ok (record { nears = lanes.nears ++ nears; hops = lanes.hops ++ hops })
unfolding lanes_from lane_words
lanes_back replicas room lanes set [] [] few fits are spelled lanes_are all =
    ap (λ (ns : List Near). let it : Lanes = record { nears = ns; hops = lanes.hops } in Ok it) (sym (append-nil lanes.nears))
    ∙ ap (λ (hs : List Hop). let it : Lanes = record { nears = lanes.nears ++ []; hops = hs } in Ok it) (sym (append-nil lanes.hops))
lanes_back replicas room lanes set [] (hop ∷ hops) few fits are spelled lanes_are all = absurd (cc)
lanes_back replicas room lanes set (near ∷ nears) hops few fits are spelled lanes_are all =
    let k = length (centres_of set) in
    let cut = first_lanes set near nears hops lanes_are in
    let parent = λ (hop : Hop). hop.parent.0 < 16 in
    ap (λ (r : Result Lanes Flaw). lanes_from replicas (map decimal (centres_of set)) (room - 1) r (lane_words k (drop k hops) nears))
    (member_back replicas room near lanes set (take k hops) few (omega (arith, fits)) are (All-head IsSpelledNear near nears spelled) cut.0 (All-take parent k hops all))
    ∙ (lanes_back replicas (room - 1) (record { nears = lanes.nears ++ near ∷ []; hops = lanes.hops ++ take k hops }) set nears (drop k hops) few (omega (arith, fits)) are (All-tail IsSpelledNear near nears spelled) cut.1 (All-drop parent k hops all)
    ∙ ap (λ (ns : List Near). let it : Lanes = record { nears = ns; hops = (lanes.hops ++ take k hops) ++ drop k hops } in Ok it) (append_assoc lanes.nears (near ∷ []) nears)
    ∙ ap (λ (hs : List Hop). let it : Lanes = record { nears = lanes.nears ++ near ∷ nears; hops = hs } in Ok it) (append_assoc lanes.hops (take k hops) (drop k hops) ∙ ap (λ (hs : List Hop). lanes.hops ++ hs) (take-append-drop k hops)))

relay_back : (replicas f : ℕ) (set : DcSet) (primary : List Near) (parent : List Hop) → replicas ≤ 16 → IsSpelledDirect replicas f set primary → HasLanes set primary parent
    → relay_says replicas (decimal f ∷ replicas_text set ∷ lane_words (length (centres_of set)) parent primary) ≡ Ok (policy.Relay f set primary parent)
unfolding relay_says
relay_back replicas f set primary parent few is lanes =
    rw (tolerance_back f is.tolerance) (rw (replicas_back replicas set few is.replica_set) (rw (replicas_split replicas set few is.replica_set)
    (rw (lanes_back replicas 8 (record { nears = []; hops = [] }) set primary parent few is.few is.replica_set is.nears lanes.lanes lanes.parents) refl)))

-- ---- any policy

pub policy_back : (replicas : ℕ) (p : Policy) → replicas ≤ 16 → IsSpelledPolicy replicas p → policy_says replicas (policy_words p) ≡ Ok p
unfolding policy_says policy_words
policy_back replicas (policy.Strong f set members) few is = strong_back replicas f set members few is
policy_back replicas (policy.Direct f set primary) few is = direct_back replicas f set primary few is
policy_back replicas (policy.Relay f set primary parent) few is = relay_back replicas f set primary parent few is.0 is.1

-- ---- the bytes of its words

quorums_print : (replicas : ℕ) (qs : List Quorum) → replicas ≤ 16 → All (IsSpelledQuorum replicas) qs → AllHave is_print (map quorum_text qs)
unfolding quorum_text
quorums_print replicas [] few all = tt
quorums_print replicas (q ∷ qs) few all =
    (have_joined is_print 47 (decimal q.dc.0 ∷ replicas_text q.read ∷ replicas_text q.write ∷ []) refl (print_parts (decimal q.dc.0 ∷ replicas_text q.read ∷ replicas_text q.write ∷ []) (quorum_parts replicas q few (All-head (IsSpelledQuorum replicas) q qs all))), quorums_print replicas qs few (All-tail (IsSpelledQuorum replicas) q qs all))

nears_print : (nears : List Near) → All IsSpelledNear nears → AllHave is_print (map near_text nears)
unfolding near_text
nears_print [] all = tt
nears_print (near ∷ nears) all =
    (have_joined is_print 62 (decimal near.member.0 ∷ decimal near.at.0 ∷ []) refl (print_parts (decimal near.member.0 ∷ decimal near.at.0 ∷ []) (near_parts near (All-head IsSpelledNear near nears all))), nears_print nears (All-tail IsSpelledNear near nears all))

lanes_print : (k : ℕ) (hops : List Hop) (nears : List Near) → All IsSpelledNear nears → All (λ hop. hop.parent.0 < 16) hops → AllHave is_print (lane_words k hops nears)
unfolding lane_words lane_text
lanes_print k hops [] all low = tt
lanes_print k hops (near ∷ nears) all low = (
  have_joined is_print 62 (decimal near.member.0 ∷ decimal near.at.0 ∷ parents_text (take k hops) ∷ []) refl (print_parts (decimal near.member.0 ∷ decimal near.at.0 ∷ parents_text (take k hops) ∷ []) (lane_parts near (take k hops) (All-head IsSpelledNear near nears all) (All-take (λ hop. hop.parent.0 < 16) k hops low))),
  lanes_print k (drop k hops) nears (All-tail IsSpelledNear near nears all) (All-drop (λ hop. hop.parent.0 < 16) k hops low),
)

direct_print : (replicas f : ℕ) (set : DcSet) (primary : List Near) (words : List (List ℕ)) → replicas ≤ 16 → IsSpelledDirect replicas f set primary → AllHave is_print words → AllHave is_print (decimal f ∷ replicas_text set ∷ words)
direct_print replicas f set primary words few is have =
    let low = is.tolerance in
    (print_digits f (omega (arith, low)), (have_more is_listed is_print (replicas_text set) listed_print (replicas_part replicas set few is.replica_set), have))

pub policy_print : (replicas : ℕ) (p : Policy) → replicas ≤ 16 → IsSpelledPolicy replicas p → AllHave is_print (policy_words p)
unfolding policy_words
policy_print replicas (policy.Strong f set members) few is = let low = is.tolerance in (refl, (print_digits f (omega (arith, low)), quorums_print replicas members few is.quorums))
policy_print replicas (policy.Direct f set primary) few is = (refl, direct_print replicas f set primary (map near_text primary) few is (nears_print primary is.nears))
policy_print replicas (policy.Relay f set primary parent) few is =
    (refl, direct_print replicas f set primary (lane_words (length (centres_of set)) parent primary) few is.0 (lanes_print (length (centres_of set)) parent primary is.0.nears is.1.parents))
