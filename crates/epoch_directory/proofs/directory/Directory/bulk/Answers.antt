use Rattle.std.proofs.Common.{sym, ◌∙◌}
use Rattle.wire_msg.specs.declared.actor.Actor.TheVariants.{Proxy}
use Rattle.wire_msg.specs.declared.outputs.Post.{Post}
use Rattle.wire_msg.proofs.Bulks.{bulk_of-one}
use Rattle.epoch_directory.specs.Step.{here_of}
use Rattle.epoch_directory.proofs.directory.Directory.bulk.Goals as goal

pub returns-in-Lookup : goal.returns-in-Lookup
returns-in-Lookup c =
    let here : Post = record { to = Proxy c.in-Lookup.tag.call.proxy; message = here_of c.args.self.now c.in-Lookup.tag c.in-Lookup.key } in
    rw c.in-Lookup.is (c.one.ensures ∙ sym (bulk_of-one here c.here_bytes.result (sym (c.here_bytes.ensures c.in-Lookup.tag))))
