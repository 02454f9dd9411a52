use Rattle.std.proofs.Common.{◌≡◌, ◌+◌, List, [], refl, sym, ap, ◌∙◌, subst, arith}
use Rattle.std.specs.Prelude.{Ok, Err}
use Rattle.epoch_directory.specs.declared.table.SetPolicy.{SetPolicy}
use Rattle.world_core.specs.declared.event.Event.TheVariants.{Publish}
use Rattle.world_core.specs.State.{Store}
use Rattle.world_core.specs.Step.{step}
use Rattle.world_core.specs.Ends.{Seen, Publishes}
use Rattle.world_core.proofs.Outcomes.{quiet}
use Rattle.world_core.proofs.Published.{not_published}
use Rattle.world_core.proofs.Started.{publish_is}
use Rattle.world_core.proofs.StoresKept.{store_directory}
use Rattle.world_core.proofs.cloud.Cloud.publish.Goals as goal

pub invariant_of-self-in-Err : goal.invariant_of-self-in-Err
invariant_of-self-in-Err g c =
    store_directory _ c.self.inside.events c.self.inside.events c.self.invariant (omega arith) c.self.invariant.few_events c.open_epoch.new.directory (g.W.Wire.pushed c.self.inside.wire) c.open_epoch.ensures.keys c.self.invariant.sent

pub returns-in-Ok : goal.returns-in-Ok
returns-in-Ok g c =
    let s : Store = c.args.self.now.store in
    let directory_is : s.directory ≡ c.self.inside.directory = ap (λ (x : Seen). x.store.directory) (sym c.self.view_is) in
    let lines : c.in_ok-lines.lines.items ≡ c.args.table.now = c.in_ok-lines.ensures ∙ c.as_slice.ensures in
    let ends : Publishes c.self.inside.directory c.args.table.now c.open_epoch.new.directory (Ok c.in-Ok.marks) = subst (λ (table : List SetPolicy). Publishes c.self.inside.directory table c.open_epoch.new.directory (Ok c.in-Ok.marks)) lines c.in-Ok.ensures.ends in
    quiet c.args.self.now _ (step s (Publish c.args.table.now)) (record { store = record s { directory = c.open_epoch.new.directory }; marks = c.in-Ok.marks; posts = [] }) c.in-Ok.marks
    (publish_is s c.args.table.now ∙ ends s directory_is) refl
    (ap (λ (x : Seen). let z : Store = record x.store { directory = c.open_epoch.new.directory } in z) c.self.view_is)
    (ap (λ (x : Seen). x.journals) c.self.view_is) (ap (λ (x : Seen). x.events + 1) c.self.view_is)

pub returns-in-Err : goal.returns-in-Err
returns-in-Err g c =
    let s : Store = c.args.self.now.store in
    let directory_is : s.directory ≡ c.self.inside.directory = ap (λ (x : Seen). x.store.directory) (sym c.self.view_is) in
    let lines : c.in_ok-lines.lines.items ≡ c.args.table.now = c.in_ok-lines.ensures ∙ c.as_slice.ensures in
    let ends : Publishes c.self.inside.directory c.args.table.now c.open_epoch.new.directory (Err c.in-Err.fault) = subst (λ (table : List SetPolicy). Publishes c.self.inside.directory table c.open_epoch.new.directory (Err c.in-Err.fault)) lines c.in-Err.ensures.ends in
    not_published c.args.self.now _ c.self.inside.directory c.open_epoch.new.directory c.args.table.now c.in-Err.fault (step s (Publish c.args.table.now)) (publish_is s c.args.table.now) ends directory_is
    (ap (λ (x : Seen). let z : Store = record x.store { directory = c.open_epoch.new.directory } in z) c.self.view_is)
    (ap (λ (x : Seen). x.journals) c.self.view_is) (ap (λ (x : Seen). x.events) c.self.view_is)
