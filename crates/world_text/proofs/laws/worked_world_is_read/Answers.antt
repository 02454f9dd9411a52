use Rattle.std.proofs.Common.{refl}
use Rattle.world_text.specs.Spelled.{name_of, number_up_to, providers_of, mode_of, kind_of, version_of, price_of, fare_of, rule_of, counts_of}
use Rattle.world_text.specs.Added.{centre_added, link_added, set_added, member_added}
use Rattle.world_text.specs.Judged.{judged, dc_judged, link_judged, set_judged, use_judged}
use Rattle.world_text.specs.ReadWorld.{read_from, completed, all_linked, all_used}
use Rattle.world_text.proofs.laws.worked_world_is_read.Goals as goal

pub returns : goal.returns
unfolding read_from judged dc_judged link_judged set_judged use_judged centre_added link_added set_added member_added name_of number_up_to providers_of mode_of kind_of version_of price_of fare_of rule_of counts_of completed all_linked all_used
returns c = record { world = refl; link = refl; version = refl }
