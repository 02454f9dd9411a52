use Rattle.std.proofs.Common.{◌++◌, ◌∙◌, List, ap, map}
use Rattle.span_base.specs.declared.dc_set.DcSet.{DcSet}
use Rattle.span_base.specs.DcSet.{centres_of}
use Rattle.placement_rows.proofs.NearCentres.{write-made}
use Rattle.placement_relay.specs.Reading.{has_replicas}
use Rattle.placement_relay.proofs.rows.push_write_near.Goals as goal

pub returns : goal.returns
returns c =
    let w = c.args.world.now in
    let set = c.args.set.0 in
    let rows = c.args.rows.now.items in
    c.in_ok-push_has_replicas.ensures
    ∙ ap (λ (sets : List DcSet). rows ++ map (λ near. has_replicas w set (centres_of near)) sets) (c.as_slice.ensures.value ∙ c.in_ok-near_sets.ensures)
    ∙ ap (λ rs. rows ++ rs) (write-made w set c.requires.complete.few_centres (has_replicas w set))
