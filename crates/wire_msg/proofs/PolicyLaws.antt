-- What is read of a policy is spelled so, and the other way round.
use Rattle.std.proofs.Common.{◌≡◌, ℕ, zero, suc, ◌≤◌, Bool, true, false, cond, List, [], ◌∷◌, ◌++◌, length, map, take, drop, Ok, Err, refl, sym, ap, subst, ◌∙◌, append_assoc, arith}
use Rattle.std.specs.Int.{w8}
use Rattle.std.specs.List.{flat_map, AllByRecursion}
use Rattle.std.proofs.lemmas.List.{take_at, drop_at, take-append-drop, take-map, drop-map, length-map}
use Rattle.span_base.specs.declared.dc_set.DcSet.{DcSet}
use Rattle.span_base.specs.DcSet.{centres_of}
use Rattle.span_base.specs.declared.policy.Near.{Near}
use Rattle.span_base.specs.declared.policy.Hop.{Hop}
use Rattle.span_base.specs.declared.policy.Quorum.{Quorum}
use Rattle.span_base.specs.declared.policy.Policy.{Policy}
use Rattle.span_base.specs.declared.policy.Policy.TheVariants.{Direct, Relay, Strong}
use Rattle.span_base.specs.Policy.{lane_of, lanes_of, IsSoundPolicy}
use Rattle.wire_msg.specs.Frames.{big, policy_head, near_bytes, lanes_bytes, quorum_bytes, policy_bytes}
use Rattle.wire_msg.specs.Sound.{is_sound_policy}
use Rattle.wire_msg.specs.Faults.{near_at, hops_at, lane_at, nears_of, hops_of, quorum_at, direct_at, relay_at, strong_at, members_at, policy_at}
use Rattle.wire_msg.specs.Laws.{FitsSet, FitsNear, FitsHop, FitsQuorum, FitsPolicy}
use Rattle.wire_msg.proofs.Readings.{Good, Takes, Takes-none, Takes-then, Holds, Holds-ok, Holds-err, Holds-bind, wide8, number_takes, number_again, then_read, many_takes, many_again}
use Rattle.wire_msg.proofs.Parts.{set_takes, set_again}
use Rattle.wire_msg.proofs.HopLoop.{hop_from}
use Rattle.wire_msg.proofs.SoundTest.{decide_sound}

-- ---- members

abbrev TakesOne : {X : Type 0} → (X → List ℕ) → (X → Type 0) → ℕ → List ℕ → X → List ℕ → Type 0
TakesOne spell Q size bytes x rest = Takes size bytes (spell x) rest × Q x

near_takes : {size : ℕ} (bytes : List ℕ) → Good size bytes → Holds size (TakesOne near_bytes FitsNear size bytes) (near_at bytes)
unfolding near_at near_bytes
near_takes {size} bytes good =
    Holds-bind (TakesOne near_bytes FitsNear size bytes) _ (number_takes wide8 0 255 good) (λ member b1 m.
    Holds-bind (TakesOne near_bytes FitsNear size bytes) _ (number_takes wide8 0 255 m.takes.good) (λ at b2 a.
    Holds-ok (TakesOne near_bytes FitsNear size bytes) (record { member = record { 0 = member }; at = record { 0 = at } }) b2 (Takes-then m.takes a.takes, record { member = m.fits; at = a.fits })))

near_again : (near : Near) (rest : List ℕ) → FitsNear near → near_at (near_bytes near ++ rest) ≡ Ok (near, rest)
unfolding near_at near_bytes
near_again near rest fits =
    simp append_assoc (
    then_read _ (number_again wide8 0 255 near.member.0 _ (omega arith) (omega (arith, fits.member)) fits.member)
    (then_read _ (number_again wide8 0 255 near.at.0 rest (omega arith) (omega (arith, fits.at)) fits.at) refl))

quorum_takes : {size : ℕ} (bytes : List ℕ) → Good size bytes → Holds size (TakesOne quorum_bytes FitsQuorum size bytes) (quorum_at bytes)
unfolding quorum_at quorum_bytes
quorum_takes {size} bytes good =
    Holds-bind (TakesOne quorum_bytes FitsQuorum size bytes) _ (number_takes wide8 0 255 good) (λ dc b1 m.
    Holds-bind (TakesOne quorum_bytes FitsQuorum size bytes) _ (set_takes m.takes.good) (λ reads b2 r.
    Holds-bind (TakesOne quorum_bytes FitsQuorum size bytes) _ (set_takes r.takes.good) (λ writes b3 w.
    Holds-ok (TakesOne quorum_bytes FitsQuorum size bytes) (record { dc = record { 0 = dc }; read = reads; write = writes }) b3 (Takes-then (Takes-then m.takes r.takes) w.takes, record { dc = m.fits; read = r.fits; write = w.fits }))))

quorum_again : (quorum : Quorum) (rest : List ℕ) → FitsQuorum quorum → quorum_at (quorum_bytes quorum ++ rest) ≡ Ok (quorum, rest)
unfolding quorum_at quorum_bytes
quorum_again quorum rest fits =
    simp append_assoc (
    then_read _ (number_again wide8 0 255 quorum.dc.0 _ (omega arith) (omega (arith, fits.dc)) fits.dc)
    (then_read _ (set_again quorum.read _ fits.read)
    (then_read _ (set_again quorum.write rest fits.write) refl)))

-- ---- hops

-- the parents of hops
abbrev pub parent_bytes : List Hop → List ℕ
parent_bytes hops = flat_map (λ hop. big w8 hop.parent.0) hops

record TakesHops (size : ℕ) (member : ℕ) (children : List ℕ) (bytes : List ℕ) (hops : List Hop) (rest : List ℕ) : Type 0 where
  pub takes : Takes size bytes (parent_bytes hops) rest
  pub fits : AllByRecursion FitsHop hops
  pub lanes : map lane_of hops ≡ map (λ d. (member, d)) children

hops_take : {size : ℕ} (member : ℕ) (children bytes : List ℕ) → Good size bytes → Holds size (TakesHops size member children bytes) (hops_at member children bytes)
unfolding hops_at
hops_take {size} member [] bytes good = Holds-ok (TakesHops size member [] bytes) [] bytes (record { takes = Takes-none size bytes good; fits = tt; lanes = refl })
hops_take {size} member (child ∷ children) bytes good =
    Holds-bind (TakesHops size member (child ∷ children) bytes) _ (number_takes wide8 0 255 good) (λ parent b1 p.
    Holds-bind (TakesHops size member (child ∷ children) bytes) _ (hops_take member children b1 p.takes.good) (λ hops b2 h.
    Holds-ok (TakesHops size member (child ∷ children) bytes) (hop_from member child parent ∷ hops) b2 (record { takes = Takes-then p.takes h.takes; fits = (p.fits, h.fits); lanes = ap (λ ls. (member, child) ∷ ls) h.lanes })))

hops_again : (member : ℕ) (children : List ℕ) (hops : List Hop) (rest : List ℕ) → map lane_of hops ≡ map (λ d. (member, d)) children → AllByRecursion FitsHop hops → hops_at member children (parent_bytes hops ++ rest) ≡ Ok (hops, rest)
unfolding hops_at
hops_again member [] [] rest lanes fits = refl
hops_again member [] (hop ∷ hops) rest lanes fits = absurd cc
hops_again member (child ∷ children) [] rest lanes fits = absurd cc
hops_again member (child ∷ children) (hop ∷ hops) rest lanes fits =
    let first : lane_of hop ≡ (member, child) = cc in
    let others : map lane_of hops ≡ map (λ d. (member, d)) children = cc in
    let same : hop_from member child hop.parent.0 ≡ hop = ap (λ (l : ℕ × ℕ). hop_from l.0 l.1 hop.parent.0) (sym first) in
    let regrouped : parent_bytes (hop ∷ hops) ++ rest ≡ big w8 hop.parent.0 ++ (parent_bytes hops ++ rest) = append_assoc (big w8 hop.parent.0) (parent_bytes hops) rest in
    ap (hops_at member (child ∷ children)) regrouped
    ∙ then_read _ (number_again wide8 0 255 hop.parent.0 (parent_bytes hops ++ rest) (omega arith) (omega (arith, fits.0)) fits.0)
    (then_read _ (hops_again member children hops rest others fits.1) (ap (λ (h : Hop). Ok (h ∷ hops, rest)) same))

-- ---- lanes

abbrev lane_bytes : Near × List Hop → List ℕ
lane_bytes lane = near_bytes lane.0 ++ parent_bytes lane.1

record IsLane (replicas : DcSet) (lane : Near × List Hop) : Type 0 where
  pub near : FitsNear lane.0
  pub hops : AllByRecursion FitsHop lane.1
  pub lanes : map lane_of lane.1 ≡ lanes_of replicas lane.0.member.0

lane_takes : {size : ℕ} (replicas : DcSet) (bytes : List ℕ) → Good size bytes → Holds size (TakesOne lane_bytes (IsLane replicas) size bytes) (lane_at replicas bytes)
unfolding lane_at
lane_takes {size} replicas bytes good =
    Holds-bind (TakesOne lane_bytes (IsLane replicas) size bytes) _ (near_takes bytes good) (λ near b1 n.
    Holds-bind (TakesOne lane_bytes (IsLane replicas) size bytes) _ (hops_take near.member.0 (centres_of replicas) b1 n.0.good) (λ hops b2 h.
    Holds-ok (TakesOne lane_bytes (IsLane replicas) size bytes) (near, hops) b2 (Takes-then n.0 h.takes, record { near = n.1; hops = h.fits; lanes = h.lanes })))

lane_again : (replicas : DcSet) (lane : Near × List Hop) (rest : List ℕ) → IsLane replicas lane → lane_at replicas (lane_bytes lane ++ rest) ≡ Ok (lane, rest)
unfolding lane_at
lane_again replicas lane rest is =
    ap (lane_at replicas) (append_assoc (near_bytes lane.0) (parent_bytes lane.1) rest)
    ∙ then_read _ (near_again lane.0 (parent_bytes lane.1 ++ rest) is.near) (then_read _ (hops_again lane.0.member.0 (centres_of replicas) lane.1 rest is.lanes is.hops) refl)

lane_length : (replicas : DcSet) (lane : Near × List Hop) → IsLane replicas lane → length lane.1 ≡ length (centres_of replicas)
lane_length replicas lane is = sym (length-map lane.1 lane_of) ∙ ap length is.lanes ∙ length-map (centres_of replicas) (λ d. (lane.0.member.0, d))

-- lanes one after the other are spelled as their members and all their hops
lanes_are : (replicas : DcSet) (lanes : List (Near × List Hop)) → AllByRecursion (IsLane replicas) lanes → flat_map lane_bytes lanes ≡ lanes_bytes (length (centres_of replicas)) (nears_of lanes) (hops_of lanes)
unfolding lanes_bytes nears_of hops_of
lanes_are replicas [] each = refl
lanes_are replicas (lane ∷ lanes) each =
    let n = length (centres_of replicas) in
    let long = lane_length replicas lane each.0 in
    let front : take n (lane.1 ++ hops_of lanes) ≡ lane.1 = take_at lane.1 (hops_of lanes) n long in
    let back : drop n (lane.1 ++ hops_of lanes) ≡ hops_of lanes = drop_at lane.1 (hops_of lanes) n long in
    rw (front, back) (ap (λ (bs : List ℕ). lane_bytes lane ++ bs) (lanes_are replicas lanes each.1))

-- ---- policies

-- what stands behind a policy's head
record TakesBody (size mode f : ℕ) (replicas : DcSet) (count : ℕ) (bytes : List ℕ) (policy : Policy) (rest : List ℕ) : Type 0 where
  pub body : List ℕ
  pub takes : Takes size bytes body rest
  pub spelled : policy_head mode f replicas count ++ body ≡ policy_bytes policy
  pub fits : FitsSet replicas → FitsPolicy policy

direct_takes : {size : ℕ} (f : ℕ) (replicas : DcSet) (count : ℕ) (bytes : List ℕ) → Good size bytes → Holds size (TakesBody size 1 f replicas count bytes) (direct_at f replicas count bytes)
unfolding direct_at policy_bytes
direct_takes {size} f replicas count bytes good =
    Holds-bind (TakesBody size 1 f replicas count bytes) _ (many_takes near_at near_bytes FitsNear near_takes count bytes good) (λ nears b1 h.
    Holds-ok (TakesBody size 1 f replicas count bytes) (Direct f replicas nears) b1 (record { body = flat_map near_bytes nears; takes = h.0; spelled = ap (λ n. policy_head 1 f replicas n ++ flat_map near_bytes nears) (sym h.2); fits = λ set. (set, h.1) }))

strong_takes : {size : ℕ} (f : ℕ) (replicas : DcSet) (count : ℕ) (bytes : List ℕ) → Good size bytes → Holds size (TakesBody size 3 f replicas count bytes) (strong_at f replicas count bytes)
unfolding strong_at policy_bytes
strong_takes {size} f replicas count bytes good =
    Holds-bind (TakesBody size 3 f replicas count bytes) _ (many_takes quorum_at quorum_bytes FitsQuorum quorum_takes count bytes good) (λ members b1 h.
    Holds-ok (TakesBody size 3 f replicas count bytes) (Strong f replicas members) b1 (record { body = flat_map quorum_bytes members; takes = h.0; spelled = ap (λ n. policy_head 3 f replicas n ++ flat_map quorum_bytes members) (sym h.2); fits = λ set. (set, h.1) }))

all_append : {X : Type 0} (P : X → Type 0) (xs ys : List X) → AllByRecursion P xs → AllByRecursion P ys → AllByRecursion P (xs ++ ys)
all_append P [] ys h k = k
all_append P (x ∷ xs) ys h k = (h.0, all_append P xs ys h.1 k)

lanes_fit : (replicas : DcSet) (lanes : List (Near × List Hop)) → AllByRecursion (IsLane replicas) lanes → AllByRecursion FitsNear (nears_of lanes) × AllByRecursion FitsHop (hops_of lanes)
unfolding nears_of hops_of
lanes_fit replicas [] each = (tt, tt)
lanes_fit replicas (lane ∷ lanes) each =
    let others = lanes_fit replicas lanes each.1 in
    ((each.0.near, others.0), all_append FitsHop lane.1 (hops_of lanes) each.0.hops others.1)

nears_length : (lanes : List (Near × List Hop)) → length (nears_of lanes) ≡ length lanes
unfolding nears_of
nears_length lanes = length-map lanes (λ (lane : Near × List Hop). lane.0)

relay_takes : {size : ℕ} (f : ℕ) (replicas : DcSet) (count : ℕ) (bytes : List ℕ) → Good size bytes → Holds size (TakesBody size 2 f replicas count bytes) (relay_at f replicas count bytes)
unfolding relay_at policy_bytes
relay_takes {size} f replicas count bytes good =
    Holds-bind (TakesBody size 2 f replicas count bytes) _ (many_takes (lane_at replicas) lane_bytes (IsLane replicas) (lane_takes replicas) count bytes good) (λ lanes b1 h.
    let counted : count ≡ length (nears_of lanes) = sym h.2 ∙ sym (nears_length lanes) in
    let spelled : policy_head 2 f replicas count ++ flat_map lane_bytes lanes ≡ policy_head 2 f replicas (length (nears_of lanes)) ++ lanes_bytes (length (centres_of replicas)) (nears_of lanes) (hops_of lanes) =
    ap (λ n. policy_head 2 f replicas n ++ flat_map lane_bytes lanes) counted ∙ ap (λ (bs : List ℕ). policy_head 2 f replicas (length (nears_of lanes)) ++ bs) (lanes_are replicas lanes h.1) in
    Holds-ok (TakesBody size 2 f replicas count bytes) (Relay f replicas (nears_of lanes) (hops_of lanes)) b1 (record { body = flat_map lane_bytes lanes; takes = h.0; spelled = spelled; fits = λ set. (set, (lanes_fit replicas lanes h.1).0, (lanes_fit replicas lanes h.1).1) }))

members_take : {size : ℕ} (mode f : ℕ) (replicas : DcSet) (count : ℕ) (bytes : List ℕ) → 1 ≤ mode → mode ≤ 3 → Good size bytes → Holds size (TakesBody size mode f replicas count bytes) (members_at mode f replicas count bytes)
unfolding members_at
members_take zero f replicas count bytes low high good = absurd (omega arith)
members_take (suc zero) f replicas count bytes low high good = direct_takes f replicas count bytes good
members_take (suc (suc zero)) f replicas count bytes low high good = relay_takes f replicas count bytes good
members_take (suc (suc (suc zero))) f replicas count bytes low high good = strong_takes f replicas count bytes good
members_take (suc (suc (suc (suc mode)))) f replicas count bytes low high good = absurd (omega arith)

pub record TakesPolicy (size : ℕ) (bytes : List ℕ) (policy : Policy) (rest : List ℕ) : Type 0 where
  pub takes : Takes size bytes (policy_bytes policy) rest
  pub lawful : IsSoundPolicy policy
  pub fits : FitsPolicy policy

pub policy_takes : {size : ℕ} {bytes : List ℕ} → Good size bytes → Holds size (TakesPolicy size bytes) (policy_at bytes)
unfolding policy_at policy_head
policy_takes {size} {bytes} good =
    Holds-bind (TakesPolicy size bytes) _ (number_takes wide8 1 3 good) (λ mode b1 m.
    Holds-bind (TakesPolicy size bytes) _ (number_takes wide8 0 3 m.takes.good) (λ f b2 g.
    Holds-bind (TakesPolicy size bytes) _ (set_takes g.takes.good) (λ replicas b3 r.
    Holds-bind (TakesPolicy size bytes) _ (number_takes wide8 1 8 r.takes.good) (λ count b4 c.
    Holds-bind (TakesPolicy size bytes) _ (members_take mode f replicas count b4 m.least m.most c.takes.good) (λ policy b5 p.
    let whole : Takes size bytes (policy_bytes policy) b5 = subst (λ (text : List ℕ). Takes size bytes text b5) p.spelled (Takes-then (Takes-then (Takes-then (Takes-then m.takes g.takes) r.takes) c.takes) p.takes) in
    judged policy b5 whole (p.fits r.fits) (is_sound_policy policy) refl)))))
  where
    judged : (policy : Policy) (b5 : List ℕ) → Takes size bytes (policy_bytes policy) b5 → FitsPolicy policy → (sound : Bool) → is_sound_policy policy ≡ sound → Holds size (TakesPolicy size bytes) (cond sound (Ok (policy, b5)) (Err (length bytes)))
    judged policy b5 whole fits true s = Holds-ok (TakesPolicy size bytes) policy b5 (record { takes = whole; lawful = (decide_sound policy).0 s; fits = fits })
    judged policy b5 whole fits false s = Holds-err (TakesPolicy size bytes) (length bytes) good.within

-- ---- and the other way round

head_again : (mode f : ℕ) (replicas : DcSet) (count : ℕ) (body rest : List ℕ) (policy : Policy) → 1 ≤ mode → mode ≤ 3 → f ≤ 3 → FitsSet replicas → 1 ≤ count → count ≤ 8
    → members_at mode f replicas count (body ++ rest) ≡ Ok (policy, rest) → is_sound_policy policy ≡ true → policy_at ((policy_head mode f replicas count ++ body) ++ rest) ≡ Ok (policy, rest)
unfolding policy_at policy_head
head_again mode f replicas count body rest policy low high tolerance fits some few read sound =
    simp append_assoc (
    then_read _ (number_again wide8 1 3 mode _ low high (omega arith))
    (then_read _ (number_again wide8 0 3 f _ (omega arith) tolerance (omega arith))
    (then_read _ (set_again replicas _ fits)
    (then_read _ (number_again wide8 1 8 count _ some few (omega arith))
    (then_read _ read (rw sound refl))))))

all_weaker : {X : Type 0} (P Q : X → Type 0) → ((x : X) → P x → Q x) → (xs : List X) → AllByRecursion P xs → AllByRecursion Q xs
all_weaker P Q step [] each = tt
all_weaker P Q step (x ∷ xs) each = (step x each.0, all_weaker P Q step xs each.1)

direct_again : (f : ℕ) (replicas : DcSet) (primary : List Near) (rest : List ℕ) → AllByRecursion FitsNear primary → members_at 1 f replicas (length primary) (flat_map near_bytes primary ++ rest) ≡ Ok (Direct f replicas primary, rest)
unfolding members_at direct_at
direct_again f replicas primary rest fits =
    then_read _ (many_again near_at near_bytes primary rest (all_weaker FitsNear (λ near. (after : List ℕ) → near_at (near_bytes near ++ after) ≡ Ok (near, after)) (λ near near_fits after. near_again near after near_fits) primary fits)) refl

strong_again : (f : ℕ) (replicas : DcSet) (members : List Quorum) (rest : List ℕ) → AllByRecursion FitsQuorum members → members_at 3 f replicas (length members) (flat_map quorum_bytes members ++ rest) ≡ Ok (Strong f replicas members, rest)
unfolding members_at strong_at
strong_again f replicas members rest fits =
    then_read _ (many_again quorum_at quorum_bytes members rest (all_weaker FitsQuorum (λ quorum. (after : List ℕ) → quorum_at (quorum_bytes quorum ++ after) ≡ Ok (quorum, after)) (λ quorum quorum_fits after. quorum_again quorum after quorum_fits) members fits)) refl

-- the members of a relay policy, each with its hops
record Lanes (replicas : DcSet) (primary : List Near) (hops : List Hop) : Type 0 where
  pub lanes : List (Near × List Hop)
  pub nears : nears_of lanes ≡ primary
  pub all_hops : hops_of lanes ≡ hops
  pub each : AllByRecursion (IsLane replicas) lanes

all_take : {X : Type 0} (P : X → Type 0) (n : ℕ) (xs : List X) → AllByRecursion P xs → AllByRecursion P (take n xs)
all_take P zero xs each = tt
all_take P (suc n) [] each = tt
all_take P (suc n) (x ∷ xs) each = (each.0, all_take P n xs each.1)

all_drop : {X : Type 0} (P : X → Type 0) (n : ℕ) (xs : List X) → AllByRecursion P xs → AllByRecursion P (drop n xs)
all_drop P zero xs each = each
all_drop P (suc n) [] each = tt
all_drop P (suc n) (x ∷ xs) each = all_drop P n xs each.1

lanes-from : (replicas : DcSet) (primary : List Near) (hops : List Hop) → AllByRecursion FitsNear primary → AllByRecursion FitsHop hops → map lane_of hops ≡ flat_map (λ n. lanes_of replicas n.member.0) primary → Lanes replicas primary hops
unfolding nears_of hops_of
lanes-from replicas [] [] fits hops_fit lanes = record { lanes = []; nears = refl; all_hops = refl; each = tt }
lanes-from replicas [] (hop ∷ hops) fits hops_fit lanes = absurd cc
lanes-from replicas (near ∷ nears) hops fits hops_fit lanes =
    let n = length (centres_of replicas) in
    let long : length (lanes_of replicas near.member.0) ≡ n = length-map (centres_of replicas) (λ d. (near.member.0, d)) in
    let first : map lane_of (take n hops) ≡ lanes_of replicas near.member.0 = sym (take-map lane_of n hops) ∙ ap (take n) lanes ∙ take_at (lanes_of replicas near.member.0) (flat_map (λ m. lanes_of replicas m.member.0) nears) n long in
    let others : map lane_of (drop n hops) ≡ flat_map (λ m. lanes_of replicas m.member.0) nears = sym (drop-map lane_of n hops) ∙ ap (drop n) lanes ∙ drop_at (lanes_of replicas near.member.0) (flat_map (λ m. lanes_of replicas m.member.0) nears) n long in
    let more = lanes-from replicas nears (drop n hops) fits.1 (all_drop FitsHop n hops hops_fit) others in
    record {
      lanes = (near, take n hops) ∷ more.lanes;
      nears = ap (λ (ns : List Near). near ∷ ns) more.nears;
      all_hops = ap (λ (hs : List Hop). take n hops ++ hs) more.all_hops ∙ take-append-drop n hops;
      each = (record { near = fits.0; hops = all_take FitsHop n hops hops_fit; lanes = first }, more.each);
    }

relay_again : (f : ℕ) (replicas : DcSet) (primary : List Near) (hops : List Hop) (rest : List ℕ) → Lanes replicas primary hops → members_at 2 f replicas (length primary) (lanes_bytes (length (centres_of replicas)) primary hops ++ rest) ≡ Ok (Relay f replicas primary hops, rest)
unfolding members_at relay_at
relay_again f replicas primary hops rest parts =
    let lanes = parts.lanes in
    let counted : length primary ≡ length lanes = ap length (sym parts.nears) ∙ nears_length lanes in
    let spelled : lanes_bytes (length (centres_of replicas)) primary hops ≡ flat_map lane_bytes lanes =
    ap (λ ns. lanes_bytes (length (centres_of replicas)) ns hops) (sym parts.nears) ∙ ap (λ hs. lanes_bytes (length (centres_of replicas)) (nears_of lanes) hs) (sym parts.all_hops) ∙ sym (lanes_are replicas lanes parts.each) in
    ap (λ (bs : List ℕ). relay_at f replicas (length primary) (bs ++ rest)) spelled
    ∙ ap (λ n. relay_at f replicas n (flat_map lane_bytes lanes ++ rest)) counted
    ∙ then_read _ (many_again (lane_at replicas) lane_bytes lanes rest (all_weaker (IsLane replicas) (λ lane. (after : List ℕ) → lane_at replicas (lane_bytes lane ++ after) ≡ Ok (lane, after)) (λ lane is after. lane_again replicas lane after is) lanes parts.each)) refl
    ∙ ap (λ ns. Ok (Relay f replicas ns (hops_of lanes), rest)) parts.nears ∙ ap (λ hs. Ok (Relay f replicas primary hs, rest)) parts.all_hops

pub policy_again : (policy : Policy) (rest : List ℕ) → IsSoundPolicy policy → FitsPolicy policy → policy_at (policy_bytes policy ++ rest) ≡ Ok (policy, rest)
unfolding policy_bytes
policy_again (Direct f replicas primary) rest sound fits =
    let count = length-map primary (λ (n : Near). n.member.0) in
    head_again 1 f replicas (length primary) (flat_map near_bytes primary) rest (Direct f replicas primary) (omega arith) (omega arith) sound.tolerance fits.0 (omega (arith, sound.centres.some, count)) (omega (arith, sound.centres.few, count)) (direct_again f replicas primary rest fits.1) ((decide_sound (Direct f replicas primary)).1 sound)
policy_again (Relay f replicas primary hops) rest sound fits =
    let count = length-map primary (λ (n : Near). n.member.0) in
    head_again 2 f replicas (length primary) (lanes_bytes (length (centres_of replicas)) primary hops) rest (Relay f replicas primary hops) (omega arith) (omega arith) sound.0.tolerance fits.0 (omega (arith, sound.0.centres.some, count)) (omega (arith, sound.0.centres.few, count)) (relay_again f replicas primary hops rest (lanes-from replicas primary hops fits.1 fits.2 sound.1.lanes)) ((decide_sound (Relay f replicas primary hops)).1 sound)
policy_again (Strong f replicas members) rest sound fits =
    let count = length-map members (λ (q : Quorum). q.dc.0) in
    head_again 3 f replicas (length members) (flat_map quorum_bytes members) rest (Strong f replicas members) (omega arith) (omega arith) sound.tolerance fits.0 (omega (arith, sound.centres.some, count)) (omega (arith, sound.centres.few, count)) (strong_again f replicas members rest fits.1) ((decide_sound (Strong f replicas members)).1 sound)
