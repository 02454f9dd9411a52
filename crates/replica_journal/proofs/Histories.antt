-- The history that the writes of a disk in memory are.
use Rattle.std.proofs.Common.{ℕ, ◌≡◌, Bool, true, false, List, [], ◌∷◌, ◌++◌, length, refl, sym, ◌∙◌, ap}
use Rattle.replica_journal.specs.declared.write.Write.{Write}
use Rattle.replica_journal.specs.Disk.{History, Wrote, Synced, synced}
use Rattle.replica_journal.specs.Memory.{changes_of, history_onto, history_of}

pub onto_push : (history : History) (writes : List Write) (write : Write) → history_onto history (writes ++ write ∷ []) ≡ changes_of write ++ history_onto history writes
onto_push history [] write = refl
onto_push history (first ∷ writes) write = onto_push (changes_of first ++ history) writes write

-- one write more
pub logged : (old new : List Write) (at : ℕ) (piece : List ℕ) → new ≡ old ++ record { at = at; piece = piece; is_safe = false } ∷ []
    → history_of new ≡ Wrote at (length piece) piece ∷ history_of old
logged old new at piece is = ap history_of is ∙ onto_push [] old (record { at = at; piece = piece; is_safe = false })

marked : (at : ℕ) (piece : List ℕ) (is_safe : Bool) (history : History)
    → synced (changes_of (record { at = at; piece = piece; is_safe = is_safe }) ++ history) ≡ Synced ∷ Wrote at (length piece) piece ∷ history
marked at piece false history = refl
marked at piece true history = refl

-- the last write becomes safe
pub safe_last : (old mid new : List Write) (last : Write) → old ≡ mid ++ last ∷ [] → new ≡ mid ++ record last { is_safe = true } ∷ []
    → history_of new ≡ synced (history_of old)
safe_last old mid new last was is =
    ap history_of is ∙ onto_push [] mid (record last { is_safe = true })
    ∙ sym (ap (λ (ws : List Write). synced (history_of ws)) was ∙ ap synced (onto_push [] mid last) ∙ marked last.at last.piece last.is_safe (history_onto [] mid))
