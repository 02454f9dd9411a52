use Rattle.std.proofs.Common.{◌≡◌, ◌++◌, ◌∙◌, List, ap, map, refl, arith}
use Rattle.std.specs.List.{enumerate_from, flat_map}
use Rattle.std.proofs.lemmas.List.{append_assoc}
use Rattle.span_base.specs.declared.dc_set.DcSet.{DcSet}
use Rattle.span_base.specs.DcSet.{centres_of}
use Rattle.workload.specs.World.{members_of}
use Rattle.placement_rows.specs.Centres.{centres, member_numbers, numbered_members, read_near}
use Rattle.placement_rows.specs.Rows.{at_least}
use Rattle.placement_rows.proofs.NearCentres.{read-made, read-numbered, read-sets-long}
use Rattle.placement_relay.specs.Reading.{h, reads_somewhere, reads_a_replica, has_replicas}
use Rattle.placement_relay.proofs.Members.{set_within}
use Rattle.placement_relay.proofs.rows.push_reading_rows.Goals as goal

pub push_reads_somewhere-requires : goal.push_reads_somewhere-requires
push_reads_somewhere-requires c =
    let long = read-sets-long c.args.world.now c.args.set.0 c.as_slice.result.now (c.as_slice.ensures.value ∙ c.in_ok-near_sets.ensures) in
    let few = (set_within c.args.world.now c.args.set.0 c.requires).few_members in
    omega (arith, long, few)

pub returns : goal.returns
returns c =
    let w = c.args.world.now in
    let set = c.args.set.0 in
    let few = c.requires.complete.few_centres in
    let rows = c.args.rows.now.items in
    let somewhere =
    ap (λ (sets : List DcSet). map (λ an. at_least 1 (h w an.0) (centres_of an.1)) (enumerate_from 0 sets)) (c.as_slice.ensures.value ∙ c.in_ok-near_sets.ensures)
    ∙ read-numbered w set few (λ a ds. at_least 1 (h w a) ds) (reads_somewhere w set) (λ a m. refl) in
    let near =
    ap (λ (sets : List DcSet). map (λ near. has_replicas w set (centres_of near)) sets) (c.as_slice-2.ensures.value ∙ c.in_ok-near_sets.ensures)
    ∙ read-made w set few (has_replicas w set) in
    let a = map (reads_somewhere w set) (numbered_members w set) in
    let b = flat_map (λ a. map (reads_a_replica w a) (centres w)) (member_numbers w set) in
    let d = map (λ m. has_replicas w set (read_near w set m)) (members_of w set) in
    let regroup : ((rows ++ a) ++ b) ++ d ≡ rows ++ ((a ++ b) ++ d) = simp append_assoc in
    c.in_ok-push_has_replicas.ensures
    ∙ ap (λ rs. c.push_reads_a_replica.new.rows.items ++ rs) near
    ∙ ap (λ rs. rs ++ d) (c.in_ok-push_reads_a_replica.ensures ∙ ap (λ rs. rs ++ b) (c.in_ok-push_reads_somewhere.ensures ∙ ap (λ rs. rows ++ rs) somewhere))
    ∙ regroup
