use Rattle.std.proofs.Common.{◌≡◌, ◌≤◌, take}
use Rattle.span_node.specs.Carried.{carried}
use Rattle.span_node.specs.Traffic.{Goes, seen}
use Rattle.span_node.specs.Mail.{IsMail}
use Rattle.span_node.proofs.mail.Mail.send_all.Given as goal

abbrev pub invariant-loop-number : goal.invariant-loop-number
invariant-loop-number g l = record {
  mail : IsMail l.self l.wire.posts;
  next : l.self.sent ≡ l.number;
  goes : Goes (seen (g.L.Link.sent l.initial.link) (g.L.Link.answers l.initial.link) (g.L.Link.honest l.initial.link) (g.L.Link.faithful l.initial.link)) (seen (g.L.Link.sent l.link) (g.L.Link.answers l.link) (g.L.Link.honest l.link) (g.L.Link.faithful l.link)) (take l.initial.self.sent (carried l.wire.posts)) (take l.self.sent (carried l.wire.posts));
  faults : g.L.Link.faults l.initial.link ≤ g.L.Link.faults l.link;
}
