-- Members of a relay policy with their hops.
use Rattle.std.proofs.Common.{◌≡◌, ℕ, List, [], ◌∷◌, ◌++◌, Ok, refl, ap, ◌∙◌}
use Rattle.std.proofs.lemmas.List.{append-nil, map_push}
use Rattle.std.proofs.lemmas.List.Concat.{flat_map-append}
use Rattle.span_base.specs.declared.dc_set.DcSet.{DcSet}
use Rattle.span_base.specs.DcSet.{centres_of}
use Rattle.span_base.specs.declared.policy.Hop.{Hop}
use Rattle.span_base.specs.declared.policy.Near.{Near}
use Rattle.wire_msg.specs.declared.fault.Fault.{Fault}
use Rattle.wire_msg.specs.declared.fault.Fault.TheVariants.{Wrong, NoMemory}
use Rattle.wire_msg.specs.Faults.{near_at, hops_at, lane_at, nears_of, hops_of}
use Rattle.wire_msg.specs.Gives.{Fails}

pub nears_none : nears_of [] ≡ []
unfolding nears_of
nears_none = refl

pub hops_none : hops_of [] ≡ []
unfolding hops_of
hops_none = refl

pub nears_push : (lanes : List (Near × List Hop)) (lane : Near × List Hop) → nears_of (lanes ++ lane ∷ []) ≡ nears_of lanes ++ lane.0 ∷ []
unfolding nears_of
nears_push lanes lane = map_push (λ (l : Near × List Hop). l.0) lanes lane

pub hops_push : (lanes : List (Near × List Hop)) (lane : Near × List Hop) → hops_of (lanes ++ lane ∷ []) ≡ hops_of lanes ++ lane.1
unfolding hops_of
hops_push lanes lane = flat_map-append (λ (l : Near × List Hop). l.1) lanes (lane ∷ []) ∙ ap (λ (hs : List Hop). hops_of lanes ++ hs) (append-nil lane.1)

pub lane_is : (s : DcSet) (bytes : List ℕ) (near : Near) (mid : List ℕ) (hops : List Hop) (rest : List ℕ) → near_at bytes ≡ Ok (near, mid) → hops_at near.member.0 (centres_of s) mid ≡ Ok (hops, rest) → lane_at s bytes ≡ Ok ((near, hops), rest)
unfolding lane_at
lane_is s bytes near mid hops rest first second = rw (first, second) refl

pub lane_stops_first : (s : DcSet) (e : Fault) (bytes : List ℕ) → Fails e (near_at bytes) → Fails e (lane_at s bytes)
unfolding lane_at
lane_stops_first s (NoMemory e) bytes stops = tt
lane_stops_first s (Wrong left) bytes stops = rw stops refl

pub lane_stops_later : (s : DcSet) (e : Fault) (bytes : List ℕ) (near : Near) (mid : List ℕ) → near_at bytes ≡ Ok (near, mid) → Fails e (hops_at near.member.0 (centres_of s) mid) → Fails e (lane_at s bytes)
unfolding lane_at
lane_stops_later s (NoMemory e) bytes near mid first stops = tt
lane_stops_later s (Wrong left) bytes near mid first stops = rw (first, stops) refl
