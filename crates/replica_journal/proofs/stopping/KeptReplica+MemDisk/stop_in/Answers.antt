use Rattle.std.proofs.Common.{◌≡◌, ◌+◌, ◌≤◌, length, ◌∙◌, ap}
use Rattle.replica_core.specs.Taking.{record_size}
use Rattle.replica_journal.specs.Disk.{bytes_of}
use Rattle.replica_journal.specs.Memory.{HeldDisk, crashed}
use Rattle.replica_journal.specs.Journaled.{Journaled}
use Rattle.replica_journal.specs.Stopped.{Holds, Reopens, stopped}
use Rattle.replica_journal.proofs.Reopening.{holds_at, if_ok, same_state}
use Rattle.replica_journal.proofs.stopping.KeptReplica+MemDisk.stop_in.Goals as goal

pub reopen-requires-clause-sound : goal.reopen-requires-clause-sound
reopen-requires-clause-sound c =
    let held = c.in_ok-disk.ensures c.crash.ensures.lawful c.args.new in
    let number : c.number-number.result ≡ c.args.self.state.number = c.number-number.ensures.number ∙ ap (λ (v : Journaled HeldDisk). v.state.number) c.self.view_is in
    let keys : c.keys-keys.result ≡ length c.args.self.state.kept = c.keys-keys.ensures.keys ∙ ap (λ (v : Journaled HeldDisk). length v.state.kept) c.self.view_is in
    let bytes : bytes_of c.crash.result.history ≡ bytes_of (crashed c.args.new c.in_ok-disk.disk.history) = ap (λ (d : HeldDisk). bytes_of d.history) c.crash.ensures.crashed in
    let now : Holds c.number-number.result c.keys-keys.result (bytes_of c.crash.result.history) (stopped c.args.self.state c.args.message.now c.args.call c.args.new) (c.args.self.place.gate + record_size c.args.message.now) =
    holds_at c.args.self.state.number c.number-number.result (length c.args.self.state.kept) c.keys-keys.result (c.args.self.place.gate + record_size c.args.message.now)
    (bytes_of (crashed c.args.new c.in_ok-disk.disk.history)) (bytes_of c.crash.result.history) (stopped c.args.self.state c.args.message.now c.args.call c.args.new) number keys bytes held in
    (now.messages, now.held)

pub returns-clause-state : goal.returns-clause-state
returns-clause-state c =
    let held = c.in_ok-disk.ensures c.crash.ensures.lawful c.args.new in
    let number : c.number-number.result ≡ c.args.self.state.number = c.number-number.ensures.number ∙ ap (λ (v : Journaled HeldDisk). v.state.number) c.self.view_is in
    let keys : c.keys-keys.result ≡ length c.args.self.state.kept = c.keys-keys.ensures.keys ∙ ap (λ (v : Journaled HeldDisk). length v.state.kept) c.self.view_is in
    let bytes : bytes_of c.crash.result.history ≡ bytes_of (crashed c.args.new c.in_ok-disk.disk.history) = ap (λ (d : HeldDisk). bytes_of d.history) c.crash.ensures.crashed in
    let now : Holds c.number-number.result c.keys-keys.result (bytes_of c.crash.result.history) (stopped c.args.self.state c.args.message.now c.args.call c.args.new) (c.args.self.place.gate + record_size c.args.message.now) =
    holds_at c.args.self.state.number c.number-number.result (length c.args.self.state.kept) c.keys-keys.result (c.args.self.place.gate + record_size c.args.message.now)
    (bytes_of (crashed c.args.new c.in_ok-disk.disk.history)) (bytes_of c.crash.result.history) (stopped c.args.self.state c.args.message.now c.args.call c.args.new) number keys bytes held in
    if_ok (λ (kept : Journaled HeldDisk). Reopens c.number-number.result c.keys-keys.result (bytes_of c.crash.result.history) kept.state kept.place)
    (λ (kept : Journaled HeldDisk). kept.state ≡ stopped c.args.self.state c.args.message.now c.args.call c.args.new) c.reopen.result
    (λ kept opens. (same_state c.number-number.result c.keys-keys.result (c.args.self.place.gate + record_size c.args.message.now) (bytes_of c.crash.result.history)
    (stopped c.args.self.state c.args.message.now c.args.call c.args.new) kept.state kept.place now opens).0) c.reopen.ensures.opens

pub returns-clause-grows : goal.returns-clause-grows
returns-clause-grows c =
    let held = c.in_ok-disk.ensures c.crash.ensures.lawful c.args.new in
    let number : c.number-number.result ≡ c.args.self.state.number = c.number-number.ensures.number ∙ ap (λ (v : Journaled HeldDisk). v.state.number) c.self.view_is in
    let keys : c.keys-keys.result ≡ length c.args.self.state.kept = c.keys-keys.ensures.keys ∙ ap (λ (v : Journaled HeldDisk). length v.state.kept) c.self.view_is in
    let bytes : bytes_of c.crash.result.history ≡ bytes_of (crashed c.args.new c.in_ok-disk.disk.history) = ap (λ (d : HeldDisk). bytes_of d.history) c.crash.ensures.crashed in
    let now : Holds c.number-number.result c.keys-keys.result (bytes_of c.crash.result.history) (stopped c.args.self.state c.args.message.now c.args.call c.args.new) (c.args.self.place.gate + record_size c.args.message.now) =
    holds_at c.args.self.state.number c.number-number.result (length c.args.self.state.kept) c.keys-keys.result (c.args.self.place.gate + record_size c.args.message.now)
    (bytes_of (crashed c.args.new c.in_ok-disk.disk.history)) (bytes_of c.crash.result.history) (stopped c.args.self.state c.args.message.now c.args.call c.args.new) number keys bytes held in
    if_ok (λ (kept : Journaled HeldDisk). Reopens c.number-number.result c.keys-keys.result (bytes_of c.crash.result.history) kept.state kept.place)
    (λ (kept : Journaled HeldDisk). kept.place.gate ≤ c.args.self.place.gate + record_size c.args.message.now) c.reopen.result
    (λ kept opens. (same_state c.number-number.result c.keys-keys.result (c.args.self.place.gate + record_size c.args.message.now) (bytes_of c.crash.result.history)
    (stopped c.args.self.state c.args.message.now c.args.call c.args.new) kept.state kept.place now opens).1) c.reopen.ensures.opens
