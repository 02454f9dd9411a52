use Rattle.std.proofs.Common.{◌≡◌, ◌<◌, length, sym, ap, ◌∙◌, subst, arith}
use Rattle.replica_core.specs.Rule.{State, IsLawfulState}
use Rattle.replica_core.specs.Preparing.{IsPrepared}
use Rattle.replica_core.proofs.Steps.{key_within, changed_lawful, posts_lawful, posts_are}
use Rattle.replica_core.proofs.replica.Replica.commit.Goals as goal

pub invariant_of-self : goal.invariant_of-self
invariant_of-self c =
    let state : State = record { number = c.self.inside.number; kept = c.self.inside.kept.items } in
    let asked = sym c.request_key.ensures ∙ c.in-Some.is in
    let within : c.in-Some.key.0 < length state.kept =
    subst (λ (s : State). c.in-Some.key.0 < length s.kept) (sym c.self.view_is) (key_within c.args.message.now c.in-Some.key (length c.args.self.now.kept) c.requires.key asked) in
    let ready : IsPrepared state c.args.message.now c.args.prepared = subst (λ (s : State). IsPrepared s c.args.message.now c.args.prepared) (sym c.self.view_is) c.requires.prepared in
    changed_lawful state c.args.message.now c.args.prepared c.self.invariant c.requires.lawful c.in-Some.key c.from.result c.index_mut.result.now c.apply.new.self c.from.ensures within ready asked c.index_mut.ensures.value c.apply.ensures

pub returns-clause-lawful : goal.returns-clause-lawful
returns-clause-lawful c =
    posts_lawful c.args.self.now c.args.message.now c.args.prepared (subst IsLawfulState c.self.view_is c.self.invariant) c.requires.lawful c.requires.key c.requires.prepared

pub returns-clause-posts : goal.returns-clause-posts
returns-clause-posts c =
    posts_are c.args.self.now c.args.message.now c.args.prepared (subst IsLawfulState c.self.view_is c.self.invariant) c.requires.lawful c.requires.key c.requires.prepared
