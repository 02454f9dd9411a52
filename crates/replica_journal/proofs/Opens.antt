-- What is told of a disk at each way out of the opening.
use Rattle.std.proofs.Common.{ℕ, ◌≡◌, ◌<◌, ◌≤◌, ◌⊎◌, inl, inr, List, [], ◌∷◌, length, Option, Some, None, Ok, Err, refl, sym, ◌∙◌, ap, subst, arith}
use Rattle.wire_msg.specs.declared.message.Message.{Message}
use Rattle.replica_core.specs.Rule.{State, opening_state}
use Rattle.replica_journal.specs.declared.open_fault.OpenCause.{OpenCause}
use Rattle.replica_journal.specs.declared.open_fault.OpenCause.TheVariants as cause
use Rattle.replica_journal.specs.declared.replay.Place.{Place}
use Rattle.replica_journal.specs.Disk.{History, bytes_of}
use Rattle.replica_journal.specs.Records.{HasRecords, IsJournal, IsDamagedAt}
use Rattle.replica_journal.specs.Beginning.{IsReady, Begins}
use Rattle.replica_journal.specs.Replaying.{IsEnd, IsWhole, ReplaysOf}
use Rattle.replica_journal.specs.Opened.{IsAnswered, Opens}
use Rattle.replica_journal.proofs.Rows.{none_in}

-- nothing is answered but a cause that says nothing of the bytes
says_nothing : (number keys : ℕ) (before after : History) (c : OpenCause) → ((at : ℕ) → c ≡ cause.Damaged at → ⊥) → IsAnswered number keys before after (Err c)
says_nothing number keys before after (cause.NoMemory error) none = tt
says_nothing number keys before after cause.DiskFault none = tt
says_nothing number keys before after (cause.Damaged at) none = absurd (none at refl)

pub begin_fails : (number keys : ℕ) (t u : Option History) (c : OpenCause) → ((at : ℕ) → c ≡ cause.Damaged at → ⊥) → Begins t u (Err c) → Opens number keys t u (Err c)
begin_fails number keys None u c none begins = begins
begin_fails number keys (Some before) u c none begins =
    (begins.0, begins.1, record { on = begins.2.on; lawful = begins.2.lawful; moments = begins.2.moments; answer = says_nothing number keys before begins.0 c none })

-- after the beginning memory runs out
pub make_fails : (number keys : ℕ) (t u : Option History) (end : ℕ) (c : OpenCause) → ((at : ℕ) → c ≡ cause.Damaged at → ⊥) → Begins t u (Ok end) → Opens number keys t u (Err c)
make_fails number keys None u end c none begins = begins
make_fails number keys (Some before) u end c none begins =
    (begins.0, begins.1, record { on = begins.2.on; lawful = begins.2.lawful; moments = begins.2.moments; answer = says_nothing number keys before begins.0 c none })

ready_end : (before after : History) (end : ℕ) → IsReady before after end → (1 < end) ⊎ (bytes_of after ≡ 0 ∷ [])
ready_end before after end ready = elim ready.bytes [ inl long ↦ inl long.0 | inr short ↦ inr short.1 ]

pub is_end : (t u : Option History) (end : ℕ) → Begins t u (Ok end) → IsEnd u end
is_end None u end begins = subst (λ (o : Option History). IsEnd o end) (sym begins) tt
is_end (Some before) u end begins =
    subst (λ (o : Option History). IsEnd o end) (sym begins.1) (begins.2.ready.end_is, ready_end before begins.0 end begins.2.ready)

-- the bytes that were replayed are those from before, or an empty journal where there was at most one
held : (keys : ℕ) (before after : History) (messages : List Message) (end : ℕ) → ((1 < end) × (bytes_of after ≡ bytes_of before)) ⊎ ((length (bytes_of before) ≤ 1) × (bytes_of after ≡ 0 ∷ []))
    → IsJournal keys (bytes_of after) messages → HasRecords keys (bytes_of before) messages
held keys before after messages end (inl long) journal = inr (subst (λ (b : List ℕ). IsJournal keys b messages) long.1 journal)
held keys before after messages end (inr short) journal = inl (short.0, none_in keys (bytes_of after) messages (omega (arith, ap length short.1)) journal)

damaged : (keys : ℕ) (before after : History) (at end : ℕ) → ((1 < end) × (bytes_of after ≡ bytes_of before)) ⊎ ((length (bytes_of before) ≤ 1) × (bytes_of after ≡ 0 ∷ []))
    → IsDamagedAt keys (bytes_of after) at → IsDamagedAt keys (bytes_of before) at
damaged keys before after at end (inl long) damage = subst (λ (b : List ℕ). IsDamagedAt keys b at) long.1 damage
damaged keys before after at end (inr short) damage = absurd (omega (arith, ap length short.1, damage.long))

replayed : (number keys : ℕ) (before after : History) (end : ℕ) (now : State) (c : OpenCause) → IsReady before after end → ReplaysOf (Some after) keys (opening_state number keys) now (Err c) → IsAnswered number keys before after (Err c)
replayed number keys before after end now (cause.NoMemory error) ready replays = tt
replayed number keys before after end now cause.DiskFault ready replays = tt
replayed number keys before after end now (cause.Damaged at) ready replays = damaged keys before after at end ready.bytes replays

pub replay_fails : (number keys : ℕ) (t u v : Option History) (end : ℕ) (now : State) (c : OpenCause) → Begins t u (Ok end) → v ≡ u → ReplaysOf u keys (opening_state number keys) now (Err c) → Opens number keys t v (Err c)
replay_fails number keys None u v end now c begins same replays = same ∙ begins
replay_fails number keys (Some before) u v end now c begins same replays = (
  begins.0,
  same ∙ begins.1,
  record {
    on = begins.2.on;
    lawful = begins.2.lawful;
    moments = begins.2.moments;
    answer = replayed number keys before begins.0 end now c begins.2.ready (subst (λ (o : Option History). ReplaysOf o keys (opening_state number keys) now (Err c)) begins.1 replays);
  },
)

pub is_opened : (number keys : ℕ) (t u v : Option History) (end : ℕ) (now : State) (place : Place) → Begins t u (Ok end) → v ≡ u → ReplaysOf u keys (opening_state number keys) now (Ok place)
    → Opens number keys t v (Ok (record { replica = now; place = place }))
is_opened number keys None u v end now place begins same replays = same ∙ begins
is_opened number keys (Some before) u v end now place begins same replays =
    let whole : IsWhole keys (bytes_of begins.0) (opening_state number keys) now place = subst (λ (o : Option History). ReplaysOf o keys (opening_state number keys) now (Ok place)) begins.1 replays in (
      begins.0,
      same ∙ begins.1,
      record {
        on = begins.2.on;
        lawful = begins.2.lawful;
        moments = begins.2.moments;
        answer = record {
          messages = whole.messages;
          held = held keys before begins.0 whole.messages end begins.2.ready.bytes whole.journal;
          rest = record { journal = whole.journal; gate = whole.at; safe = begins.2.ready.safe };
          count = whole.number;
          state = whole.state;
        };
      },
    )
