-- Where an allowed policy keeps replicas and reads, its choice meets the rows on reading, at the
-- policy's cost.
use Rattle.std.proofs.Common.{◌≡◌, ℕ, ◌+◌, ◌<◌, Bool, true, cond, ◌==◌, List, ◌++◌, length, get_or, map, refl, sym, ap, ◌∙◌, arith}
use Rattle.std.specs.List.{sum_by}
use Rattle.std.proofs.lemmas.Bool.{eq-eqb, eqb-true}
use Rattle.span_base.specs.declared.dc_set.DcSet.{DcSet}
use Rattle.span_base.specs.DcSet.{has}
use Rattle.span_base.specs.declared.policy.Near.{Near}
use Rattle.workload.specs.World.{Lists, centre_count, rule_of, members_of}
use Rattle.slo_rules.specs.Rules.{is_read_near, is_write_near}
use Rattle.slo_rules.specs.Cost.{gets_cost, reading_cost}
use Rattle.zero_one.specs.Rows.{bit_of}
use Rattle.zero_one.specs.Program.{value_of}
use Rattle.placement_rows.specs.Centres.{centres, write_near, nobody}
use Rattle.placement_relay.specs.Reading.{h, reading_costs}
use Rattle.placement_rows.proofs.Each.{each-weaker}
use Rattle.placement_rows.proofs.Sums.{sum_by-range_agree, sum_by-one, count_by-some, numbered-zip, zip_long, zip_at}
use Rattle.placement_relay.proofs.Serving.{IsServing, AreWritten, Serves}
use Rattle.placement_relay.proofs.MetRows.{Reads, Enough}
use Rattle.placement_relay.proofs.CostParts.{chosen_gets, reading-value, count-near}
use Rattle.placement_relay.proofs.ReadingBits.{nowhere}

module _ (w : Lists) (set : ℕ) (replicas : DcSet) (primary : List Near) (serving : IsServing w set replicas primary) where
  serves : (k : ℕ) → k < length (members_of w set) → Serves w (rule_of w set) replicas (get_or (members_of w set) k nobody) (get_or primary k nowhere)
  serves k in' = zip_at (Serves w (rule_of w set) replicas) nobody nowhere (members_of w set) primary serving.served k in'

  pub same_long : length (members_of w set) ≡ length primary
  same_long = zip_long (Serves w (rule_of w set) replicas) (members_of w set) primary serving.served

  module _ (x : List Bool) (kept : (d : ℕ) → d < centre_count w → bit_of x d ≡ has replicas d)
      (near : (a d : ℕ) → a < length (members_of w set) → d < centre_count w → bit_of x (h w a d) ≡ ((get_or primary a nowhere).at.0 == d)) where
    pub reads-placed : Reads w set x
    reads-placed =
        let members = members_of w set in
        let r = rule_of w set in
        record {
          somewhere = λ a in'.
              let s = serves a in' in
              let at = (get_or primary a nowhere).at.0 in
              count_by-some (λ d. bit_of x (h w a d)) (is_read_near w r (get_or members a nobody).dc.0) at (centre_count w) s.low s.close (near a at in' s.low ∙ eq-eqb at at refl);
          replica = λ a d in' low is.
              let at : (get_or primary a nowhere).at.0 ≡ d = eqb-true (get_or primary a nowhere).at.0 d (sym (near a d in' low) ∙ is) in
              kept d low ∙ ap (has replicas) (sym at) ∙ (serves a in').kept;
          reading = each-weaker _ _ (λ m many. let e = count-near w replicas x (is_read_near w r m.dc.0) serving.within kept in omega (arith, many, e)) members serving.reading;
        }

    pub written-placed : AreWritten w set replicas (λ member d. true) → Enough w set x (write_near w set)
    written-placed writing =
        each-weaker _ _ (λ m many. let e = count-near w replicas x (is_write_near w (rule_of w set) m.dc.0) serving.within kept in omega (arith, many, e)) (members_of w set) writing

    pub reading-placed : (c : ℕ → ℕ)
        → value_of (map c (centres w) ++ reading_costs w set) x ≡ sum_by (λ d. cond (has replicas d) (c d) 0) (centres w) + reading_cost w (rule_of w set) (members_of w set) primary
    reading-placed c =
        let members = members_of w set in
        let n = centre_count w in
        let stored = sum_by-range_agree (λ d. cond (bit_of x d) (c d) 0) (λ d. cond (has replicas d) (c d) 0) 0 n (λ d low high. ap (λ b. cond b (c d) 0) (kept d (omega arith))) in
        let gets = numbered-zip (λ a m. chosen_gets w set x (a, m)) (λ m near. gets_cost w (rule_of w set) m near.at.0) nobody nowhere 0 members primary same_long
        (λ k in'.
        let at = (get_or primary k nowhere).at.0 in
        let cost : ℕ → ℕ = gets_cost w (rule_of w set) (get_or members k nobody) in
        sum_by-range_agree (λ d. cond (bit_of x (h w (0 + k) d)) (cost d) 0) (λ d. cond (at == d) (cost d) 0) 0 n
        (λ d low high. ap (λ b. cond (bit_of x (h w b d)) (cost d) 0) (let e : 0 + k ≡ k = omega arith in e) ∙ ap (λ b. cond b (cost d) 0) (near k d in' (omega arith)))
        ∙ sum_by-one cost at 0 n (omega arith) (omega (arith, (serves k in').low))) in
        omega (arith, reading-value w set x c, stored, gets)
