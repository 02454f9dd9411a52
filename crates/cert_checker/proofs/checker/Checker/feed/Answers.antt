use Rattle.std.proofs.Common.{◌≡◌, false}
use Rattle.cert_checker.proofs.Keeping.{feeds_from_moves}
use Rattle.cert_checker.proofs.checker.Checker.feed.Goals as goal

pub returns-in-Branch : goal.returns-in-Branch
returns-in-Branch c = λ lines stands.
    let unfinished : c.args.self.now.whole ≡ false = rw (← c.self.view_is) c.if-self.false in
    rw c.in-Branch.is
    (feeds_from_moves c.args.program.now lines _ c.args.self.now c.branch-self.new.self c.branch-self.result unfinished c.branch-self.ensures stands)

pub returns-in-Close : goal.returns-in-Close
returns-in-Close c = λ lines stands.
    let unfinished : c.args.self.now.whole ≡ false = rw (← c.self.view_is) c.if-self.false in
    rw c.in-Close.is
    (feeds_from_moves c.args.program.now lines _ c.args.self.now c.close.new.self c.close.result unfinished c.close.ensures stands)
