use Rattle.std.proofs.Common.{◌≡◌, ◌+◌, ◌<◌, ℕ, false, inr, List, [], ◌∷◌, ◌++◌, length, IfSome, Ok, Err, alloc_error, refl, sym, ◌∙◌, ap, subst, arith}
use Rattle.std.proofs.lemmas.Result.{err_from_is_err_and}
use Rattle.span_base.specs.declared.sink.DeviceFault.{DeviceFault}
use Rattle.span_base.specs.declared.sink.DeviceFault.TheVariants as device
use Rattle.replica_core.specs.declared.journal.TakeFault.TheVariants as take_fault
use Rattle.replica_core.specs.Rule.{request_key}
use Rattle.replica_journal.specs.Records.{IsRecord, body_of}
use Rattle.replica_journal.specs.Steps.{Appends}
use Rattle.replica_journal.specs.Journaled.{Journaled}
use Rattle.replica_journal.specs.Taken.{Logs, Takes}
use Rattle.replica_journal.proofs.Takings.{still_refused, kept_within, AppendSays, logs, keeps_more, keeps_still}
use Rattle.replica_journal.proofs.kept_replica.KeptReplica.log.Goals as goal

pub returns-in_err-prepared-clause-takes : goal.returns-in_err-prepared-clause-takes
returns-in_err-prepared-clause-takes g c =
    let open_then : c.self.inside.is_shut ≡ false = ap (λ (v : Journaled g.row.D.Denot). v.shut) c.self.view_is ∙ c.requires.open in
    let p = err_from_is_err_and c.from_residual.result c.from_residual.ensures.1 in
    subst (λ (v : Journaled g.row.D.Denot). Takes (g.D.Disk.told v.disk) (g.D.Disk.told v.disk) v.state c.args.message.now c.from_residual.result) c.self.view_is
    (still_refused (g.D.Disk.told c.self.inside.disk) c.self.inside.replica c.self.inside.place c.args.message.now c.from_residual.result p.0 p.1 (c.self.invariant.kept open_then))

pub returns-in_err-spell-clause-takes : goal.returns-in_err-spell-clause-takes
returns-in_err-spell-clause-takes g c =
    let open_then : c.self.inside.is_shut ≡ false = ap (λ (v : Journaled g.row.D.Denot). v.shut) c.self.view_is ∙ c.requires.open in
    let p = err_from_is_err_and c.from_residual-in_err-spell.result c.from_residual-in_err-spell.ensures.1 in
    subst (λ (v : Journaled g.row.D.Denot). Takes (g.D.Disk.told v.disk) (g.D.Disk.told c.self.inside.disk) v.state c.args.message.now c.from_residual-in_err-spell.result) c.self.view_is
    (still_refused (g.D.Disk.told c.self.inside.disk) c.self.inside.replica c.self.inside.place c.args.message.now c.from_residual-in_err-spell.result p.0 p.1 (c.self.invariant.kept open_then))

pub append-requires-clause-within : goal.append-requires-clause-within
append-requires-clause-within g c =
    let open_then : c.self.inside.is_shut ≡ false = ap (λ (v : Journaled g.row.D.Denot). v.shut) c.self.view_is ∙ c.requires.open in
    kept_within (g.D.Disk.told c.self.inside.disk) c.self.inside.replica c.self.inside.place (c.self.invariant.kept open_then)

pub invariant_of-self-in-Ok : goal.invariant_of-self-in-Ok
invariant_of-self-in-Ok g c =
    let told = g.D.Disk.told c.self.inside.disk in
    let now = g.D.Disk.told c.append.new.disk in
    let state = c.self.inside.replica in
    let place = c.self.inside.place in
    let message = c.args.message.now in
    let piece = c.as_slice.result.now in
    let open_then : c.self.inside.is_shut ≡ false = ap (λ (v : Journaled g.row.D.Denot). v.shut) c.self.view_is ∙ c.requires.open in
    let spelled : c.as_slice.result.now ≡ body_of c.args.message.now ++ 0 ∷ [] = c.as_slice.ensures.value ∙ c.in_ok-spell.ensures.spelled in
    let sound : IsRecord (length c.self.inside.replica.kept) c.args.message.now = record {
      logged = c.requires.logged;
      lawful = c.requires.lawful;
      fits = c.in_ok-spell.ensures.fits;
      key = subst (λ (v : Journaled g.row.D.Denot). IfSome (request_key c.args.message.now) (λ key. key.0 < length v.state.kept)) (sym c.self.view_is) c.requires.key;
    } in
    let size : c.len.result ≡ length c.as_slice.result.now = omega (arith, c.len.ensures, ap length c.as_slice.ensures.value) in
    let there : c.self.inside.place.gate ≡ c.args.self.now.place.gate = ap (λ (v : Journaled g.row.D.Denot). v.place.gate) c.self.view_is in
    record {
      limit = omega (arith, there, c.requires.room, c.len.ensures, c.in_ok-spell.ensures.size);
      few = omega (arith, c.self.invariant.few, c.len.ensures, c.in_ok-spell.ensures.size);
      kept = λ unshut.
          keeps_more state place message piece sound spelled told now c.append.ensures.told c.in-Ok.ensures.appended (c.self.invariant.kept open_then)
          c.commit.new.self (c.self.inside.place.gate + c.len.result) (c.self.inside.place.records + 1) c.commit.ensures.made.0 c.commit.ensures.number c.commit.ensures.keys
          (ap (λ n. c.self.inside.place.gate + n) size) refl;
    }

pub returns-in-Ok-clause-takes : goal.returns-in-Ok-clause-takes
returns-in-Ok-clause-takes g c =
    let told = g.D.Disk.told c.self.inside.disk in
    let now = g.D.Disk.told c.append.new.disk in
    let state = c.self.inside.replica in
    let place = c.self.inside.place in
    let message = c.args.message.now in
    let piece = c.as_slice.result.now in
    let open_then : c.self.inside.is_shut ≡ false = ap (λ (v : Journaled g.row.D.Denot). v.shut) c.self.view_is ∙ c.requires.open in
    let spelled : c.as_slice.result.now ≡ body_of c.args.message.now ++ 0 ∷ [] = c.as_slice.ensures.value ∙ c.in_ok-spell.ensures.spelled in
    let sound : IsRecord (length c.self.inside.replica.kept) c.args.message.now = record {
      logged = c.requires.logged;
      lawful = c.requires.lawful;
      fits = c.in_ok-spell.ensures.fits;
      key = subst (λ (v : Journaled g.row.D.Denot). IfSome (request_key c.args.message.now) (λ key. key.0 < length v.state.kept)) (sym c.self.view_is) c.requires.key;
    } in
    subst (λ (v : Journaled g.row.D.Denot). Takes (g.D.Disk.told v.disk) (g.D.Disk.told c.append.new.disk) v.state c.args.message.now (Ok tt)) c.self.view_is
    (logs state place message piece sound spelled told now c.append.ensures.told (Ok tt) c.in-Ok.ensures.appended (c.self.invariant.kept open_then) (Ok tt) refl)

pub returns-in-Ok-clause-calls : goal.returns-in-Ok-clause-calls
returns-in-Ok-clause-calls g c =
    let spelled : c.as_slice.result.now ≡ body_of c.args.message.now ++ 0 ∷ [] = c.as_slice.ensures.value ∙ c.in_ok-spell.ensures.spelled in
    subst (λ (v : Journaled g.row.D.Denot). Logs g.D.Disk.write_does g.D.Disk.sync_does v.place.gate c.args.message.now v.disk c.append.new.disk (Ok tt)) c.self.view_is (inr (record {
      fits = c.in_ok-spell.ensures.fits;
      answer = Ok tt;
      calls = subst (λ (p : List ℕ). Appends g.D.Disk.write_does g.D.Disk.sync_does c.self.inside.place.gate p c.self.inside.disk c.append.new.disk (Ok tt)) spelled (c.in-Ok.ensures.calls);
      ends = refl;
    }))

pub returns-in-Err-Failed-clause-takes : goal.returns-in-Err-Failed-clause-takes
returns-in-Err-Failed-clause-takes g c =
    let told = g.D.Disk.told c.self.inside.disk in
    let now = g.D.Disk.told c.append.new.disk in
    let state = c.self.inside.replica in
    let place = c.self.inside.place in
    let message = c.args.message.now in
    let piece = c.as_slice.result.now in
    let open_then : c.self.inside.is_shut ≡ false = ap (λ (v : Journaled g.row.D.Denot). v.shut) c.self.view_is ∙ c.requires.open in
    let spelled : c.as_slice.result.now ≡ body_of c.args.message.now ++ 0 ∷ [] = c.as_slice.ensures.value ∙ c.in_ok-spell.ensures.spelled in
    let sound : IsRecord (length c.self.inside.replica.kept) c.args.message.now = record {
      logged = c.requires.logged;
      lawful = c.requires.lawful;
      fits = c.in_ok-spell.ensures.fits;
      key = subst (λ (v : Journaled g.row.D.Denot). IfSome (request_key c.args.message.now) (λ key. key.0 < length v.state.kept)) (sym c.self.view_is) c.requires.key;
    } in
    subst (λ (v : Journaled g.row.D.Denot). Takes (g.D.Disk.told v.disk) (g.D.Disk.told c.append.new.disk) v.state c.args.message.now (Err take_fault.DiskFault)) c.self.view_is
    (logs state place message piece sound spelled told now c.append.ensures.told (Err device.Failed) (subst (λ (f : DeviceFault). AppendSays state place message piece sound spelled told now (Err f)) c.in-Err-Failed.field-0-is c.in-Err-Failed.ensures.appended) (c.self.invariant.kept open_then) (Err take_fault.DiskFault) refl)

pub returns-in-Err-Failed-clause-calls : goal.returns-in-Err-Failed-clause-calls
returns-in-Err-Failed-clause-calls g c =
    let spelled : c.as_slice.result.now ≡ body_of c.args.message.now ++ 0 ∷ [] = c.as_slice.ensures.value ∙ c.in_ok-spell.ensures.spelled in
    subst (λ (v : Journaled g.row.D.Denot). Logs g.D.Disk.write_does g.D.Disk.sync_does v.place.gate c.args.message.now v.disk c.append.new.disk (Err take_fault.DiskFault)) c.self.view_is (inr (record {
      fits = c.in_ok-spell.ensures.fits;
      answer = Err device.Failed;
      calls = subst (λ (p : List ℕ). Appends g.D.Disk.write_does g.D.Disk.sync_does c.self.inside.place.gate p c.self.inside.disk c.append.new.disk (Err device.Failed)) spelled (subst (λ (f : DeviceFault). Appends g.D.Disk.write_does g.D.Disk.sync_does c.self.inside.place.gate c.as_slice.result.now c.self.inside.disk c.append.new.disk (Err f)) c.in-Err-Failed.field-0-is c.in-Err-Failed.ensures.calls);
      ends = refl;
    }))

pub returns-clause-takes : goal.returns-clause-takes
returns-clause-takes g c =
    let told = g.D.Disk.told c.self.inside.disk in
    let now = g.D.Disk.told c.append.new.disk in
    let state = c.self.inside.replica in
    let place = c.self.inside.place in
    let message = c.args.message.now in
    let piece = c.as_slice.result.now in
    let open_then : c.self.inside.is_shut ≡ false = ap (λ (v : Journaled g.row.D.Denot). v.shut) c.self.view_is ∙ c.requires.open in
    let spelled : c.as_slice.result.now ≡ body_of c.args.message.now ++ 0 ∷ [] = c.as_slice.ensures.value ∙ c.in_ok-spell.ensures.spelled in
    let sound : IsRecord (length c.self.inside.replica.kept) c.args.message.now = record {
      logged = c.requires.logged;
      lawful = c.requires.lawful;
      fits = c.in_ok-spell.ensures.fits;
      key = subst (λ (v : Journaled g.row.D.Denot). IfSome (request_key c.args.message.now) (λ key. key.0 < length v.state.kept)) (sym c.self.view_is) c.requires.key;
    } in
    subst (λ (v : Journaled g.row.D.Denot). Takes (g.D.Disk.told v.disk) (g.D.Disk.told c.append.new.disk) v.state c.args.message.now (Err (take_fault.NoMemory alloc_error))) c.self.view_is
    (logs state place message piece sound spelled told now c.append.ensures.told (Err device.NoMemory) (subst (λ (f : DeviceFault). AppendSays state place message piece sound spelled told now (Err f)) c.in-Err-NoMemory.field-0-is c.in-Err-NoMemory.ensures.appended) (c.self.invariant.kept open_then) (Err (take_fault.NoMemory alloc_error)) refl)

pub returns-clause-calls : goal.returns-clause-calls
returns-clause-calls g c =
    let spelled : c.as_slice.result.now ≡ body_of c.args.message.now ++ 0 ∷ [] = c.as_slice.ensures.value ∙ c.in_ok-spell.ensures.spelled in
    subst (λ (v : Journaled g.row.D.Denot). Logs g.D.Disk.write_does g.D.Disk.sync_does v.place.gate c.args.message.now v.disk c.append.new.disk (Err (take_fault.NoMemory alloc_error))) c.self.view_is (inr (record {
      fits = c.in_ok-spell.ensures.fits;
      answer = Err device.NoMemory;
      calls = subst (λ (p : List ℕ). Appends g.D.Disk.write_does g.D.Disk.sync_does c.self.inside.place.gate p c.self.inside.disk c.append.new.disk (Err device.NoMemory)) spelled (subst (λ (f : DeviceFault). Appends g.D.Disk.write_does g.D.Disk.sync_does c.self.inside.place.gate c.as_slice.result.now c.self.inside.disk c.append.new.disk (Err f)) c.in-Err-NoMemory.field-0-is c.in-Err-NoMemory.ensures.calls);
      ends = refl;
    }))

pub invariant_of-self-in-Err-NoMemory : goal.invariant_of-self-in-Err-NoMemory
invariant_of-self-in-Err-NoMemory g c =
    let told = g.D.Disk.told c.self.inside.disk in
    let now = g.D.Disk.told c.append.new.disk in
    let state = c.self.inside.replica in
    let place = c.self.inside.place in
    let message = c.args.message.now in
    let piece = c.as_slice.result.now in
    let open_then : c.self.inside.is_shut ≡ false = ap (λ (v : Journaled g.row.D.Denot). v.shut) c.self.view_is ∙ c.requires.open in
    let spelled : c.as_slice.result.now ≡ body_of c.args.message.now ++ 0 ∷ [] = c.as_slice.ensures.value ∙ c.in_ok-spell.ensures.spelled in
    let sound : IsRecord (length c.self.inside.replica.kept) c.args.message.now = record {
      logged = c.requires.logged;
      lawful = c.requires.lawful;
      fits = c.in_ok-spell.ensures.fits;
      key = subst (λ (v : Journaled g.row.D.Denot). IfSome (request_key c.args.message.now) (λ key. key.0 < length v.state.kept)) (sym c.self.view_is) c.requires.key;
    } in
    record {
      limit = c.self.invariant.limit;
      few = c.self.invariant.few;
      kept = λ unshut. keeps_still state place message piece sound spelled told now c.append.ensures.told (subst (λ (f : DeviceFault). AppendSays state place message piece sound spelled told now (Err f)) c.in-Err-NoMemory.field-0-is c.in-Err-NoMemory.ensures.appended) (c.self.invariant.kept open_then);
    }
