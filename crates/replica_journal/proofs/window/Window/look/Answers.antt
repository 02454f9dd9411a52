use Rattle.std.proofs.Common.{ℕ, ◌-◌, List, take, drop, IfSome, subst, arith}
use Rattle.std.proofs.lemmas.Result.{IfOk-weaker}
use Rattle.replica_journal.specs.AtGate.{IsAtGate}
use Rattle.replica_journal.specs.Windows.{IsSoundFound}
use Rattle.replica_journal.proofs.Finding.{Says, looked, sound_found}
use Rattle.replica_journal.proofs.window.Window.look.Goals as goal

pub returns-clause-found : goal.returns-clause-found
returns-clause-found c told is =
    let window = c.args.self.now in
    let start = c.args.gate - window.at in
    IfOk-weaker c.read_record.result
    (λ found. IsAtGate c.args.keys (take (window.len - start) (drop start c.deref.result.now)) found)
    (λ found. Says told c.args.keys window c.args.gate found)
    (λ found at. looked told c.args.keys window c.args.gate start found is (omega arith) (omega arith)
    (subst (λ (l : List ℕ). IsAtGate c.args.keys (take (window.len - start) (drop start l)) found) c.deref.ensures.value at))
    c.read_record.ensures

pub returns-clause-sound : goal.returns-clause-sound
returns-clause-sound c =
    let window = c.args.self.now in
    let start = c.args.gate - window.at in
    IfOk-weaker c.read_record.result
    (λ found. IsAtGate c.args.keys (take (window.len - start) (drop start c.deref.result.now)) found)
    (λ found. IfSome found (λ at. IsSoundFound c.args.keys at))
    (λ found at. sound_found c.args.keys (take (window.len - start) (drop start c.deref.result.now)) found at)
    c.read_record.ensures
