use Rattle.relay_proxy.proofs.Primaries.{primary_is_centre}
use Rattle.relay_proxy.proofs.requests.asked.Goals as goal

pub with-requires : goal.with-requires
with-requires c = primary_is_centre _ _ c.in-Some.primary c.requires c.in-Some.ensures
