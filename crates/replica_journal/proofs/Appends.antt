-- What is told of a disk at each way out of an append.
use Rattle.std.proofs.Common.{ℕ, ◌≡◌, ◌+◌, ◌≤◌, List, [], ◌∷◌, ◌++◌, length, Option, Some, Result, Ok, Err, refl, sym, ◌∙◌, subst}
use Rattle.span_base.specs.declared.sink.DeviceFault.{DeviceFault}
use Rattle.span_base.specs.declared.sink.DeviceFault.TheVariants as device
use Rattle.wire_msg.specs.declared.message.Message.{Message}
use Rattle.replica_journal.specs.declared.disk.Failed.{Failed}
use Rattle.replica_journal.specs.Disk.{History, Writes, Syncs, GoesOn, AtEachMoment, IsLawfulHistory}
use Rattle.replica_journal.specs.Records.{IsRecord, IsAtRest, IsBeforeOrAfter, body_of}
use Rattle.replica_journal.specs.Appended.{Appended}
use Rattle.replica_journal.proofs.Moments.{goes_on_here}
use Rattle.replica_journal.proofs.Appending.{written, stage, opened, done, stage_rests, done_rests, at_first, at_written, at_stage, at_opened, at_done, on_written, on_stage, on_opened, on_done, lawful_written, lawful_stage, lawful_opened, lawful_done}

some_same : (a b : History) → Some a ≡ Some b → a ≡ b
some_same a b is = cc

not_memory : (result : Result (Unit {0}) DeviceFault) → result ≡ Err device.Failed → result ≡ Err device.NoMemory → ⊥
not_memory result failed lacked = cc

ok_err : (result : Result (Unit {0}) DeviceFault) → result ≡ Ok tt → result ≡ Err device.NoMemory → ⊥
ok_err result done lacked = cc

module _ (keys : ℕ) (before after : History) (place : ℕ) (messages : List Message) (message : Message) (piece : List ℕ)
    (rest : IsAtRest keys before place messages) (sound : IsRecord keys message) (spelled : piece ≡ body_of message ++ 0 ∷ []) where
  abbrev Leaves : History → Result (Unit {0}) DeviceFault → Type 0
  Leaves now result = Appended keys before now place (length piece) messages message result

  failed : (now : History) → GoesOn before now → (IsLawfulHistory before → IsLawfulHistory now) → AtEachMoment before now (IsBeforeOrAfter keys messages message) → Leaves now (Err device.Failed)
  failed now on lawful moments = record { on = on; lawful = lawful; moments = moments; done = tt; undone = λ e. absurd (not_memory (Err device.Failed) refl e) }

  lacked : (now : History) → GoesOn before now → (IsLawfulHistory before → IsLawfulHistory now) → AtEachMoment before now (IsBeforeOrAfter keys messages message) → IsAtRest keys now place messages → Leaves now (Err device.NoMemory)
  lacked now on lawful moments rests = record { on = on; lawful = lawful; moments = moments; done = tt; undone = λ e. rests }

  -- the record isn't written
  pub first_fails : (t : Option History) (fault : DeviceFault) → t ≡ Some after → Writes (Some before) t (place + 1) piece (Err fault) → Leaves after (Err fault)
  first_fails t device.Failed is wrote =
      subst (λ (h : History). Leaves h (Err device.Failed)) (some_same (written keys before place messages message piece rest sound spelled (length piece) wrote.0) after (sym wrote.2 ∙ is))
      (failed (written keys before place messages message piece rest sound spelled (length piece) wrote.0)
      (on_written keys before place messages message piece rest sound spelled (length piece) wrote.0)
      (lawful_written keys before place messages message piece rest sound spelled wrote.0 wrote.1)
      (at_written keys before place messages message piece rest sound spelled (length piece) wrote.0))
  first_fails t device.NoMemory is wrote =
      subst (λ (h : History). Leaves h (Err device.NoMemory)) (some_same before after (sym wrote ∙ is))
      (lacked before (goes_on_here before) (λ lawful. lawful) (at_first keys before place messages message piece rest sound spelled) rest)

  -- it isn't synced
  pub sync_fails : (t u : Option History) (fault : Failed) → Writes (Some before) t (place + 1) piece (Ok tt) → Syncs t u (Err fault) → u ≡ Some after → Leaves after (Err device.Failed)
  sync_fails t u fault wrote synced is =
      let told : u ≡ Some (written keys before place messages message piece rest sound spelled (length piece) piece) = subst (λ (o : Option History). Syncs o u (Err fault)) wrote synced in
      subst (λ (h : History). Leaves h (Err device.Failed)) (some_same (written keys before place messages message piece rest sound spelled (length piece) piece) after (sym told ∙ is))
      (failed (written keys before place messages message piece rest sound spelled (length piece) piece)
      (on_written keys before place messages message piece rest sound spelled (length piece) piece)
      (lawful_stage keys before place messages message piece rest sound spelled)
      (at_written keys before place messages message piece rest sound spelled (length piece) piece))

  pub stage_told : (t u : Option History) → Writes (Some before) t (place + 1) piece (Ok tt) → Syncs t u (Ok tt) → u ≡ Some (stage keys before place messages message piece rest sound spelled)
  stage_told t u wrote synced = subst (λ (o : Option History). Syncs o u (Ok tt)) wrote synced

  -- the gate isn't opened
  pub second_fails : (t u : Option History) (fault : DeviceFault) → t ≡ Some (stage keys before place messages message piece rest sound spelled) → Writes t u place (1 ∷ []) (Err fault) → u ≡ Some after → Leaves after (Err fault)
  second_fails t u device.Failed told write is =
      let wrote : (landed : List ℕ) × (length landed ≤ 1) × (u ≡ Some (opened keys before place messages message piece rest sound spelled landed)) = subst (λ (o : Option History). Writes o u place (1 ∷ []) (Err device.Failed)) told write in
      subst (λ (h : History). Leaves h (Err device.Failed)) (some_same (opened keys before place messages message piece rest sound spelled wrote.0) after (sym wrote.2 ∙ is))
      (failed (opened keys before place messages message piece rest sound spelled wrote.0)
      (on_opened keys before place messages message piece rest sound spelled wrote.0)
      (lawful_opened keys before place messages message piece rest sound spelled wrote.0 wrote.1)
      (at_opened keys before place messages message piece rest sound spelled wrote.0))
  second_fails t u device.NoMemory told write is =
      let wrote : u ≡ Some (stage keys before place messages message piece rest sound spelled) = subst (λ (o : Option History). Writes o u place (1 ∷ []) (Err device.NoMemory)) told write in
      subst (λ (h : History). Leaves h (Err device.NoMemory)) (some_same (stage keys before place messages message piece rest sound spelled) after (sym wrote ∙ is))
      (lacked (stage keys before place messages message piece rest sound spelled)
      (on_stage keys before place messages message piece rest sound spelled)
      (lawful_stage keys before place messages message piece rest sound spelled)
      (at_stage keys before place messages message piece rest sound spelled)
      (stage_rests keys before place messages message piece rest sound spelled))

  pub opened_told : (t u : Option History) → t ≡ Some (stage keys before place messages message piece rest sound spelled) → Writes t u place (1 ∷ []) (Ok tt)
      → u ≡ Some (opened keys before place messages message piece rest sound spelled (1 ∷ []))
  opened_told t u told write = subst (λ (o : Option History). Writes o u place (1 ∷ []) (Ok tt)) told write

  -- it isn't synced
  pub last_fails : (t u : Option History) (fault : Failed) → t ≡ Some (opened keys before place messages message piece rest sound spelled (1 ∷ [])) → Syncs t u (Err fault) → u ≡ Some after → Leaves after (Err device.Failed)
  last_fails t u fault told synced is =
      let now : u ≡ Some (opened keys before place messages message piece rest sound spelled (1 ∷ [])) = subst (λ (o : Option History). Syncs o u (Err fault)) told synced in
      subst (λ (h : History). Leaves h (Err device.Failed)) (some_same (opened keys before place messages message piece rest sound spelled (1 ∷ [])) after (sym now ∙ is))
      (failed (opened keys before place messages message piece rest sound spelled (1 ∷ []))
      (on_opened keys before place messages message piece rest sound spelled (1 ∷ []))
      (lawful_done keys before place messages message piece rest sound spelled)
      (at_opened keys before place messages message piece rest sound spelled (1 ∷ [])))

  -- all is done
  pub is_done : (t u : Option History) → t ≡ Some (opened keys before place messages message piece rest sound spelled (1 ∷ [])) → Syncs t u (Ok tt) → u ≡ Some after → Leaves after (Ok tt)
  is_done t u told synced is =
      let now : u ≡ Some (done keys before place messages message piece rest sound spelled) = subst (λ (o : Option History). Syncs o u (Ok tt)) told synced in
      subst (λ (h : History). Leaves h (Ok tt)) (some_same (done keys before place messages message piece rest sound spelled) after (sym now ∙ is)) (record {
        on = on_done keys before place messages message piece rest sound spelled;
        lawful = lawful_done keys before place messages message piece rest sound spelled;
        moments = at_done keys before place messages message piece rest sound spelled;
        done = done_rests keys before place messages message piece rest sound spelled;
        undone = λ e. absurd (ok_err (Ok tt) refl e);
      })
