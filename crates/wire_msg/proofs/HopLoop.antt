-- Reading a member's hops, as a loop over the centres does.
use Rattle.std.proofs.Common.{◌≡◌, ℕ, suc, ◌-◌, ◌+◌, ◌≤◌, ◌<◌, true, false, cond, List, [], ◌∷◌, ◌++◌, Ok, Err, refl, sym, ap, ◌∙◌, arith}
use Rattle.std.specs.List.{filter, range_with_len}
use Rattle.std.proofs.lemmas.List.{append-nil}
use Rattle.span_base.specs.declared.dc_set.DcSet.{DcSet}
use Rattle.span_base.specs.DcSet.{has, centres_below, centres_of}
use Rattle.span_base.specs.declared.policy.Hop.{Hop}
use Rattle.wire_msg.specs.declared.fault.Fault.{Fault}
use Rattle.wire_msg.specs.declared.fault.Fault.TheVariants.{Wrong, NoMemory}
use Rattle.wire_msg.specs.Faults.{Reading, ◌>>=◌, byte_at, hops_at}
use Rattle.wire_msg.specs.Gives.{Fails}
use Rattle.wire_msg.proofs.Loops.{behind, regroup}

-- the centres of a set from one on, in rising order
unfoldable pub centres_from : DcSet → ℕ → List ℕ
centres_from s d = filter (has s) (range_with_len d (16 - d))

centres_of_is : (s : DcSet) → centres_of s ≡ centres_from s 0
unfolding centres_of centres_below centres_from
centres_of_is s = refl

centres_from-end : (s : DcSet) (d : ℕ) → 16 ≤ d → centres_from s d ≡ []
unfolding centres_from
centres_from-end s d h =
    let left : 16 - d ≡ 0 = omega arith in
    ap (λ n. filter (has s) (range_with_len d n)) left

centres_from-next : (s : DcSet) (d : ℕ) → d < 16 → centres_from s d ≡ cond (has s d) (d ∷ centres_from s (d + 1)) (centres_from s (d + 1))
unfolding centres_from
centres_from-next s d h =
    let left : 16 - d ≡ suc (16 - (d + 1)) = omega arith in
    ap (λ n. filter (has s) (range_with_len d n)) left

-- the hop of a member to a replica
abbrev pub hop_from : ℕ → ℕ → ℕ → Hop
hop_from member child parent = record { member = record { 0 = member }; child = record { 0 = child }; parent = record { 0 = parent } }

pub hops-none : (member : ℕ) (s : DcSet) (bytes : List ℕ) → behind [] (hops_at member (centres_from s 0) bytes) ≡ hops_at member (centres_of s) bytes
unfolding behind
hops-none member s bytes =
    let same : (r : Reading (List Hop)) → (r >>= λ x. Ok ([] ++ x.0, x.1)) ≡ r = λ r. elim r as (λ s. (s >>= λ x. Ok ([] ++ x.0, x.1)) ≡ s) [ Ok x ↦ refl | Err left ↦ refl ] in
    same (hops_at member (centres_from s 0) bytes) ∙ ap (λ cs. hops_at member cs bytes) (sym (centres_of_is s))

here : (s : DcSet) (d : ℕ) → d < 16 → has s d ≡ true → centres_from s d ≡ d ∷ centres_from s (d + 1)
here s d below there = centres_from-next s d below ∙ ap (λ b. cond b (d ∷ centres_from s (d + 1)) (centres_from s (d + 1))) there

pub hops-more : (member : ℕ) (s : DcSet) (front : List Hop) (d : ℕ) (bytes : List ℕ) (parent : ℕ) (after : List ℕ) (total : Reading (List Hop)) → d < 16 → has s d ≡ true → byte_at 0 255 bytes ≡ Ok (parent, after)
    → behind front (hops_at member (centres_from s d) bytes) ≡ total → behind (front ++ hop_from member d parent ∷ []) (hops_at member (centres_from s (d + 1)) after) ≡ total
unfolding hops_at
hops-more member s front d bytes parent after total below there read so_far =
    let one : behind front (hops_at member (centres_from s d) bytes) ≡ behind (front ++ hop_from member d parent ∷ []) (hops_at member (centres_from s (d + 1)) after) = rw (here s d below there, read) (regroup front (hop_from member d parent) (hops_at member (centres_from s (d + 1)) after)) in
    sym one ∙ so_far

pub hops-skip : (member : ℕ) (s : DcSet) (front : List Hop) (d : ℕ) (bytes : List ℕ) (total : Reading (List Hop)) → d < 16 → has s d ≡ false
    → behind front (hops_at member (centres_from s d) bytes) ≡ total → behind front (hops_at member (centres_from s (d + 1)) bytes) ≡ total
hops-skip member s front d bytes total below absent so_far =
    let skip : centres_from s d ≡ centres_from s (d + 1) = centres_from-next s d below ∙ ap (λ b. cond b (d ∷ centres_from s (d + 1)) (centres_from s (d + 1))) absent in
    ap (λ cs. behind front (hops_at member cs bytes)) (sym skip) ∙ so_far

pub hops-stops : (member : ℕ) (s : DcSet) (e : Fault) (front : List Hop) (d : ℕ) (bytes : List ℕ) (total : Reading (List Hop)) → d < 16 → has s d ≡ true → Fails e (byte_at 0 255 bytes)
    → behind front (hops_at member (centres_from s d) bytes) ≡ total → Fails e total
unfolding hops_at behind
hops-stops member s (NoMemory e) front d bytes total below there stops so_far = tt
hops-stops member s (Wrong left) front d bytes total below there stops so_far =
    let one : behind front (hops_at member (centres_from s d) bytes) ≡ Err left = rw (here s d below there, stops) refl in
    sym so_far ∙ one

pub hops-all : (member : ℕ) (s : DcSet) (front : List Hop) (d : ℕ) (bytes : List ℕ) (total : Reading (List Hop)) → 16 ≤ d → behind front (hops_at member (centres_from s d) bytes) ≡ total → total ≡ Ok (front, bytes)
unfolding hops_at behind
hops-all member s front d bytes total past so_far =
    let one : behind front (hops_at member (centres_from s d) bytes) ≡ Ok (front, bytes) = rw (centres_from-end s d past) (ap (λ (xs : List Hop). Ok (xs, bytes)) (append-nil front)) in
    sym so_far ∙ one
