-- What is told of a disk at each way out of the beginning of the opening.
use Rattle.std.proofs.Common.{ℕ, ◌≡◌, ◌+◌, ◌<◌, ◌≤◌, inl, inr, List, [], ◌∷◌, length, Option, Some, None, Result, Ok, Err, ◌∙◌, ap, subst, arith}
use Rattle.std.proofs.lemmas.List.{drop_all}
use Rattle.span_base.specs.declared.sink.DeviceFault.{DeviceFault}
use Rattle.span_base.specs.declared.sink.DeviceFault.TheVariants as device
use Rattle.replica_journal.specs.declared.disk.Failed.{Failed}
use Rattle.replica_journal.specs.declared.open_fault.OpenCause.{OpenCause}
use Rattle.replica_journal.specs.Disk.{History, Wrote, Synced, synced, bytes_of, IsImage, IsLawfulHistory, Writes, Syncs, TellsLength, GoesOn, AtEachMoment}
use Rattle.replica_journal.specs.Beginning.{IsReady, IsNoWorse, Begins}
use Rattle.replica_journal.proofs.Crashes.{synced_bytes, synced_lawful, synced_safe}
use Rattle.replica_journal.proofs.Moments.{at_start, at_next, goes_on_here, goes_on_next}

at_first : (before : History) → AtEachMoment before before (IsNoWorse before)
at_first before = at_start before (IsNoWorse before) (λ image is. inl (inl is))

on_synced : (before : History) → GoesOn before (synced before)
on_synced [] = goes_on_here []
on_synced (Wrote at size landed ∷ history) = goes_on_next (Wrote at size landed ∷ history) (Wrote at size landed ∷ history) Synced (goes_on_here (Wrote at size landed ∷ history))
on_synced (Synced ∷ history) = goes_on_here (Synced ∷ history)

at_synced : (before : History) → AtEachMoment before (synced before) (IsNoWorse before)
at_synced [] = at_first []
at_synced (Wrote at size landed ∷ history) =
    at_next (Wrote at size landed ∷ history) (Wrote at size landed ∷ history) Synced (IsNoWorse (Wrote at size landed ∷ history)) (at_first (Wrote at size landed ∷ history)) (λ image is. inl (inr is))
at_synced (Synced ∷ history) = at_first (Synced ∷ history)

module _ (before : History) (short : length (bytes_of before) ≤ 1) where
  abbrev wrote : List ℕ → History
  wrote landed = Wrote 0 1 landed ∷ synced before

  wrote_leaves : (landed image : List ℕ) → IsImage (wrote landed) image → IsNoWorse before image
  wrote_leaves landed image is =
      let was : is.0 ≡ bytes_of before = synced_safe before is.0 is.1 ∙ synced_bytes before in
      inr (short, omega (arith, is.2.no_longer, ap length was, short))

  pub at_wrote : (landed : List ℕ) → AtEachMoment before (wrote landed) (IsNoWorse before)
  at_wrote landed = at_next before (synced before) (Wrote 0 1 landed) (IsNoWorse before) (at_synced before) (wrote_leaves landed)

  pub on_wrote : (landed : List ℕ) → GoesOn before (wrote landed)
  on_wrote landed = goes_on_next before (synced before) (Wrote 0 1 landed) (on_synced before)

  pub lawful_wrote : (landed : List ℕ) → length landed ≤ 1 → IsLawfulHistory before → IsLawfulHistory (wrote landed)
  lawful_wrote landed fits lawful = (omega arith, fits, synced_lawful before lawful)

  abbrev pub closed : History
  closed = Synced ∷ wrote (0 ∷ [])

  closed_bytes : bytes_of closed ≡ 0 ∷ []
  closed_bytes = ap (λ (l : List ℕ). 0 ∷ l) (drop_all (0 + 1) (bytes_of (synced before)) (omega (arith, ap length (synced_bytes before), short)))

  pub at_closed : AtEachMoment before closed (IsNoWorse before)
  at_closed = at_next before (wrote (0 ∷ [])) Synced (IsNoWorse before) (at_wrote (0 ∷ [])) (λ image is. inr (short, omega (arith, ap length (is ∙ closed_bytes))))

  pub on_closed : GoesOn before closed
  on_closed = goes_on_next before (wrote (0 ∷ [])) Synced (on_wrote (0 ∷ []))

  pub closed_ready : IsReady before closed 1
  closed_ready = record {
    safe = λ image is. is;
    end_is = omega (arith, ap length closed_bytes);
    bytes = inr (short, closed_bytes);
  }

-- the first sync fails
pub sync_fails : (t u : Option History) (fault : Failed) (cause : OpenCause) → Syncs t u (Err fault) → Begins t u (Err cause)
sync_fails None u fault cause syncs = syncs
sync_fails (Some before) u fault cause syncs = (before, syncs, record { on = goes_on_here before; lawful = λ l. l; moments = at_first before; ready = tt })

-- the length isn't told
pub len_fails : (t u v : Option History) (cause : OpenCause) → Syncs t u (Ok tt) → v ≡ u → Begins t v (Err cause)
len_fails None u v cause syncs same = same ∙ syncs
len_fails (Some before) u v cause syncs same = (synced before, same ∙ syncs, record { on = on_synced before; lawful = synced_lawful before; moments = at_synced before; ready = tt })

-- the disk has more than one byte
pub long_ready : (t u v : Option History) (end : ℕ) → Syncs t u (Ok tt) → v ≡ u → TellsLength u (Ok end) → 1 < end → Begins t v (Ok end)
long_ready None u v end syncs same tells long = same ∙ syncs
long_ready (Some before) u v end syncs same tells long =
    let is : end ≡ length (bytes_of (synced before)) = subst (λ (o : Option History). TellsLength o (Ok end)) syncs tells in (
      synced before,
      same ∙ syncs,
      record {
        on = on_synced before;
        lawful = synced_lawful before;
        moments = at_synced before;
        ready = record { safe = synced_safe before; end_is = is; bytes = inl (long, synced_bytes before) };
      },
    )

-- the closed gate isn't written
pub write_fails : (t u v w : Option History) (end : ℕ) (fault : DeviceFault) (cause : OpenCause) → Syncs t u (Ok tt) → v ≡ u → TellsLength u (Ok end) → end ≤ 1 → Writes v w 0 (0 ∷ []) (Err fault) → Begins t w (Err cause)
write_fails None u v w end fault cause syncs same tells short writes = subst (λ (o : Option History). Writes o w 0 (0 ∷ []) (Err fault)) (same ∙ syncs) writes
write_fails (Some before) u v w end device.Failed cause syncs same tells short writes =
    let is : end ≡ length (bytes_of (synced before)) = subst (λ (o : Option History). TellsLength o (Ok end)) syncs tells in
    let few : length (bytes_of before) ≤ 1 = omega (arith, is, short, ap length (synced_bytes before)) in
    let now : (landed : List ℕ) × (length landed ≤ 1) × (w ≡ Some (Wrote 0 1 landed ∷ synced before)) = subst (λ (o : Option History). Writes o w 0 (0 ∷ []) (Err device.Failed)) (same ∙ syncs) writes in
    (Wrote 0 1 now.0 ∷ synced before, now.2, record { on = on_wrote before few now.0; lawful = lawful_wrote before few now.0 now.1; moments = at_wrote before few now.0; ready = tt })
write_fails (Some before) u v w end device.NoMemory cause syncs same tells short writes =
    let now : w ≡ Some (synced before) = subst (λ (o : Option History). Writes o w 0 (0 ∷ []) (Err device.NoMemory)) (same ∙ syncs) writes in
    (synced before, now, record { on = on_synced before; lawful = synced_lawful before; moments = at_synced before; ready = tt })

-- what is told once it is written
wrote_told : (before : History) (u v w : Option History) → u ≡ Some (synced before) → v ≡ u → Writes v w 0 (0 ∷ []) (Ok tt) → w ≡ Some (Wrote 0 1 (0 ∷ []) ∷ synced before)
wrote_told before u v w syncs same writes = subst (λ (o : Option History). Writes o w 0 (0 ∷ []) (Ok tt)) (same ∙ syncs) writes

none_told : (u v w x : Option History) → u ≡ None → v ≡ u → Writes v w 0 (0 ∷ []) (Ok tt) → (result : Result (Unit {0}) Failed) → Syncs w x result → x ≡ None
none_told u v w x syncs same writes result last =
    let now : w ≡ None = subst (λ (o : Option History). Writes o w 0 (0 ∷ []) (Ok tt)) (same ∙ syncs) writes in
    subst (λ (o : Option History). Syncs o x result) now last

-- it isn't synced
pub last_fails : (t u v w x : Option History) (end : ℕ) (fault : Failed) (cause : OpenCause) → Syncs t u (Ok tt) → v ≡ u → TellsLength u (Ok end) → end ≤ 1 → Writes v w 0 (0 ∷ []) (Ok tt) → Syncs w x (Err fault)
    → Begins t x (Err cause)
last_fails None u v w x end fault cause syncs same tells short writes last = none_told u v w x syncs same writes (Err fault) last
last_fails (Some before) u v w x end fault cause syncs same tells short writes last =
    let is : end ≡ length (bytes_of (synced before)) = subst (λ (o : Option History). TellsLength o (Ok end)) syncs tells in
    let few : length (bytes_of before) ≤ 1 = omega (arith, is, short, ap length (synced_bytes before)) in
    let now : x ≡ Some (Wrote 0 1 (0 ∷ []) ∷ synced before) = subst (λ (o : Option History). Syncs o x (Err fault)) (wrote_told before u v w syncs same writes) last in
    (Wrote 0 1 (0 ∷ []) ∷ synced before, now, record { on = on_wrote before few (0 ∷ []); lawful = lawful_wrote before few (0 ∷ []) (omega arith); moments = at_wrote before few (0 ∷ []); ready = tt })

-- an empty journal
pub closed_told : (t u v w x : Option History) (end : ℕ) → Syncs t u (Ok tt) → v ≡ u → TellsLength u (Ok end) → end ≤ 1 → Writes v w 0 (0 ∷ []) (Ok tt) → Syncs w x (Ok tt) → Begins t x (Ok 1)
closed_told None u v w x end syncs same tells short writes last = none_told u v w x syncs same writes (Ok tt) last
closed_told (Some before) u v w x end syncs same tells short writes last =
    let is : end ≡ length (bytes_of (synced before)) = subst (λ (o : Option History). TellsLength o (Ok end)) syncs tells in
    let few : length (bytes_of before) ≤ 1 = omega (arith, is, short, ap length (synced_bytes before)) in
    let now : x ≡ Some (closed before few) = subst (λ (o : Option History). Syncs o x (Ok tt)) (wrote_told before u v w syncs same writes) last in
    (closed before few, now, record { on = on_closed before few; lawful = lawful_wrote before few (0 ∷ []) (omega arith); moments = at_closed before few; ready = closed_ready before few })
