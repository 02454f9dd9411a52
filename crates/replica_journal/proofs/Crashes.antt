-- What a crash keeps of a disk in memory.
use Rattle.std.proofs.Common.{ℕ, ◌≡◌, ◌+◌, ◌<◌, ◌≤◌, Bool, true, false, List, [], ◌∷◌, ◌++◌, length, take, drop, get_or, refl, sym, ◌∙◌, ap, subst, arith}
use Rattle.std.proofs.lemmas.List.{take_more, take-append-drop}
use Rattle.replica_journal.specs.declared.write.Write.{Write}
use Rattle.replica_journal.specs.Disk.{History, Wrote, Synced, synced, put, bytes_of, Torn, IsImage, IsLawfulHistory}
use Rattle.replica_journal.specs.Memory.{changes_of, history_onto, history_of, safe_part, crashed}
use Rattle.replica_journal.proofs.Histories.{onto_push}
use Rattle.replica_journal.proofs.Puts.{put_length, reading_is_image}

pub synced_lawful : (history : History) → IsLawfulHistory history → IsLawfulHistory (synced history)
synced_lawful [] lawful = lawful
synced_lawful (Wrote at size landed ∷ history) lawful = lawful
synced_lawful (Synced ∷ history) lawful = lawful

pub synced_bytes : (history : History) → bytes_of (synced history) ≡ bytes_of history
synced_bytes [] = refl
synced_bytes (Wrote at size landed ∷ history) = refl
synced_bytes (Synced ∷ history) = refl

pub synced_safe : (history : History) (image : List ℕ) → IsImage (synced history) image → image ≡ bytes_of (synced history)
synced_safe [] image is = is
synced_safe (Wrote at size landed ∷ history) image is = is
synced_safe (Synced ∷ history) image is = is

safe_lawful : (history : History) → IsLawfulHistory history → IsLawfulHistory (safe_part history)
safe_lawful [] lawful = lawful
safe_lawful (Wrote at size landed ∷ history) lawful = safe_lawful history lawful.2
safe_lawful (Synced ∷ history) lawful = lawful

pub crashed_lawful : (new : Bool) (history : History) → IsLawfulHistory history → IsLawfulHistory (crashed new history)
crashed_lawful true history lawful = synced_lawful history lawful
crashed_lawful false history lawful = safe_lawful history lawful

safe_shorter : (history : History) → IsLawfulHistory history → length (bytes_of (safe_part history)) ≤ length (bytes_of history)
safe_shorter [] lawful = omega arith
safe_shorter (Wrote at size landed ∷ history) lawful = omega (arith, safe_shorter history lawful.2, put_length (bytes_of history) at landed lawful.0)
safe_shorter (Synced ∷ history) lawful = omega arith

pub crashed_shorter : (new : Bool) (history : History) → IsLawfulHistory history → length (bytes_of (crashed new history)) ≤ length (bytes_of history)
crashed_shorter true history lawful = omega (arith, ap length (synced_bytes history))
crashed_shorter false history lawful = safe_shorter history lawful

-- a write that is lost leaves what was there
torn_not : (at size : ℕ) (bytes : List ℕ) → Torn at size bytes bytes
torn_not at size bytes = record { before = refl; after = refl; no_shorter = omega arith; no_longer = omega arith }

safe_image : (history : History) → IsImage history (bytes_of (safe_part history))
safe_image [] = refl
safe_image (Wrote at size landed ∷ history) = (bytes_of (safe_part history), safe_image history, torn_not at size (bytes_of (safe_part history)))
safe_image (Synced ∷ history) = refl

-- what is kept is one of the disk's images
pub crashed_image : (new : Bool) (history : History) → IsLawfulHistory history → IsImage history (bytes_of (crashed new history))
crashed_image true history lawful = subst (λ (b : List ℕ). IsImage history b) (sym (synced_bytes history)) (reading_is_image history lawful)
crashed_image false history lawful = safe_image history

safe_alone : (history : History) (image : List ℕ) → IsImage (safe_part history) image → image ≡ bytes_of (safe_part history)
safe_alone [] image is = is
safe_alone (Wrote at size landed ∷ history) image is = safe_alone history image is
safe_alone (Synced ∷ history) image is = is

-- and the only one that it has from then on
pub crashed_alone : (new : Bool) (history : History) (image : List ℕ) → IsImage (crashed new history) image → image ≡ bytes_of (crashed new history)
crashed_alone true history image is = synced_safe history image is
crashed_alone false history image is = safe_alone history image is

-- what was safe goes on from the last write that is
changes_safe : (write : Write) (history : History) → write.is_safe ≡ true → safe_part (changes_of write ++ history) ≡ changes_of write ++ history
changes_safe write history safe =
    subst (λ (b : Bool). safe_part (changes_of (record write { is_safe = b }) ++ history) ≡ changes_of (record write { is_safe = b }) ++ history) (sym safe) refl

changes_unsafe : (write : Write) (history : History) → write.is_safe ≡ false → safe_part history ≡ safe_part (changes_of write ++ history)
changes_unsafe write history loose = subst (λ (b : Bool). safe_part history ≡ safe_part (changes_of (record write { is_safe = b }) ++ history)) (sym loose) refl

pub safe_kept : (old mid new : List Write) (last : Write) → last.is_safe ≡ true → old ≡ mid ++ last ∷ [] → new ≡ mid ++ last ∷ [] → history_of new ≡ safe_part (history_of old)
safe_kept old mid new last safe was is =
    ap history_of is ∙ onto_push [] mid last ∙ sym (changes_safe last (history_of mid) safe) ∙ ap safe_part (sym (ap history_of was ∙ onto_push [] mid last))

pub loose_lost : (old mid : List Write) (last : Write) → last.is_safe ≡ false → old ≡ mid ++ last ∷ [] → safe_part (history_of mid) ≡ safe_part (history_of old)
loose_lost old mid last loose was = changes_unsafe last (history_of mid) loose ∙ ap safe_part (sym (ap history_of was ∙ onto_push [] mid last))

-- the writes before some writes
changes_lawful : (write : Write) (history : History) (is_safe : Bool) → IsLawfulHistory (changes_of (record write { is_safe = is_safe }) ++ history)
    → (write.at ≤ length (bytes_of history)) × IsLawfulHistory history
changes_lawful write history true lawful = (lawful.0, lawful.2)
changes_lawful write history false lawful = (lawful.0, lawful.2)

changes_bytes : (write : Write) (history : History) (is_safe : Bool) → bytes_of (changes_of (record write { is_safe = is_safe }) ++ history) ≡ put (bytes_of history) write.at write.piece
changes_bytes write history true = refl
changes_bytes write history false = refl

onto_lawful : (history : History) (writes : List Write) → IsLawfulHistory (history_onto history writes) → IsLawfulHistory history
onto_lawful history [] lawful = lawful
onto_lawful history (write ∷ writes) lawful = (changes_lawful write history write.is_safe (onto_lawful (changes_of write ++ history) writes lawful)).1

onto_longer : (history : History) (writes : List Write) → IsLawfulHistory (history_onto history writes) → length (bytes_of history) ≤ length (bytes_of (history_onto history writes))
onto_longer history [] lawful = omega arith
onto_longer history (write ∷ writes) lawful =
    let here = changes_lawful write history write.is_safe (onto_lawful (changes_of write ++ history) writes lawful) in
    omega (
      arith,
      onto_longer (changes_of write ++ history) writes lawful,
      ap length (changes_bytes write history write.is_safe),
      put_length (bytes_of history) write.at write.piece here.0,
    )

onto_append : (history : History) (a b : List Write) → history_onto history (a ++ b) ≡ history_onto (history_onto history a) b
onto_append history [] b = refl
onto_append history (write ∷ a) b = onto_append (changes_of write ++ history) a b

-- the next of lawful writes begins within the bytes so far, and ends within those that all of them leave
pub record IsNext (writes : List Write) (index : ℕ) (write : Write) : Type 0 where
  pub within : write.at ≤ length (bytes_of (history_of (take index writes)))
  pub fits : write.at + length write.piece ≤ length (bytes_of (history_of writes))
  pub bytes : bytes_of (history_of (take (index + 1) writes)) ≡ put (bytes_of (history_of (take index writes))) write.at write.piece

pub next_write : (writes : List Write) (index : ℕ) (write : Write) → IsLawfulHistory (history_of writes) → index < length writes → write ≡ get_or writes index write → IsNext writes index write
next_write writes index write lawful below is =
    let front : History = history_of (take index writes) in
    let now : history_of (take (index + 1) writes) ≡ changes_of write ++ front =
    ap history_of (take_more writes index write below) ∙ onto_push [] (take index writes) (get_or writes index write) ∙ ap (λ (w : Write). changes_of w ++ history_of (take index writes)) (sym is) in
    let whole : history_onto (history_of (take (index + 1) writes)) (drop (index + 1) writes) ≡ history_of writes =
    sym (onto_append [] (take (index + 1) writes) (drop (index + 1) writes)) ∙ ap history_of (take-append-drop (index + 1) writes) in
    let here : IsLawfulHistory (changes_of write ++ front) =
    subst IsLawfulHistory now (onto_lawful (history_of (take (index + 1) writes)) (drop (index + 1) writes) (subst IsLawfulHistory (sym whole) lawful)) in
    let starts = changes_lawful write front write.is_safe here in
    let bytes : bytes_of (history_of (take (index + 1) writes)) ≡ put (bytes_of (history_of (take index writes))) write.at write.piece =
    ap bytes_of now ∙ changes_bytes write front write.is_safe in
    record {
      within = starts.0;
      fits = omega (
        arith,
        onto_longer (history_of (take (index + 1) writes)) (drop (index + 1) writes) (subst IsLawfulHistory (sym whole) lawful),
        ap (λ (h : History). length (bytes_of h)) whole,
        ap length bytes,
        put_length (bytes_of (history_of (take index writes))) write.at write.piece starts.0,
      );
      bytes = bytes;
    }
