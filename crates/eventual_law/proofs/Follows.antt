-- The laws over epochs follow from what every event is to keep.
use Rattle.std.proofs.Common.{◌≡◌, inl, inr, ℕ, ◌+◌, ◌<◌, List, [], ◌∷◌, refl, sym, subst, ◌∙◌, arith}
use Rattle.std.specs.Prelude.{Option, Some, None, Contains}
use Rattle.std.proofs.lemmas.Grind.{common_steps}
use Rattle.span_base.specs.declared.ids.Call.{Call}
use Rattle.span_base.specs.declared.ids.KeyId.{KeyId}
use Rattle.ticket_rules.specs.declared.stamp.Stamp.{Stamp}
use Rattle.ticket_rules.specs.Stamp.{stamp_zero, IsAtMost}
use Rattle.span_base.specs.PolicyParts.{faults_of}
use Rattle.epoch_directory.specs.State.{current_of}
use Rattle.world_core.specs.State.{Store, kept_of, policy_of}
use Rattle.register_law.specs.Ghost.{Ghost}
use Rattle.register_law.specs.Ends.{IsChain, IsNewest}
use Rattle.register_order.proofs.Members.{among}
use Rattle.eventual_law.specs.Held.{IsHeld, IsAtReplica, IsOpener, InvOfEventual}
use Rattle.eventual_law.specs.Opened.{IsOpeningVersion}
use Rattle.eventual_law.specs.Puts.{IsStored}
use Rattle.eventual_law.specs.Laws.{IsHeldBy}
use Rattle.eventual_law.proofs.Carried.{AreSwitches, held_on, held_now, reached_below}

pub zero_below : (t : Stamp) → IsAtMost stamp_zero t
zero_below t = grind (arith, common_steps)

held_current : (key : KeyId) (s : Store) (g : Ghost) → AreSwitches key s g → (stamp : Stamp) (current : ℕ) (opened : List ℕ) → IsChain key s opened → IsNewest current opened → (e : ℕ) → Contains opened e → IsHeld key s g e stamp → IsHeld key s g current stamp
held_current key s g backed stamp current [] chain newest e there h = absurd newest
held_current key s g backed stamp current (new ∷ rest) chain newest e there h = subst (λ x. IsHeld key s g x stamp) newest (held_on key s g backed stamp new rest chain e there h)

-- the ticket of each put that was answered is held by f + 1 replicas of the current policy
pub stored_are_held : (key : KeyId) (s : Store) (g : Ghost) → InvOfEventual key s g → (stamp : Stamp) → IsStored key g.marks stamp → IsHeldBy (faults_of (policy_of s key (current_of s.directory key)) + 1) s key stamp
stored_are_held key s g inv stamp stored =
    let held = inv.puts.stored stored.call stamp stored.value stored.begun stored.ended in
    held_now key s g (current_of s.directory key) stamp inv.answers.fixed_below
    (held_current key s g inv.moves.switch_sent stamp (current_of s.directory key) g.opened inv.epochs.chain inv.epochs.newest stamp.epoch held.0 held.1)

pub opened_before : (new : ℕ) (rest : List ℕ) (e : ℕ) → e < new → Contains (new ∷ rest) e → Contains rest e
opened_before new rest e lt c = elim (among new rest e c) as (λ _. Contains rest e) [ inl is ↦ absurd (omega arith) | inr more ↦ more ]

at_opening : (key : KeyId) (s : Store) (g : Ghost) → InvOfEventual key s g → (stamp version : Stamp) (current : ℕ) (opened : List ℕ) (last : Option Call) → IsChain key s opened → IsNewest current opened → IsOpener key s opened last → IsOpeningVersion key s last version
    → stamp.epoch < current → Contains opened stamp.epoch → IsAtReplica key s g stamp → IsAtMost stamp version
at_opening key s g inv stamp version current [] last chain newest opener is lt there at = absurd newest
at_opening key s g inv stamp version current (new ∷ []) last chain newest opener is lt there at =
    let none = opened_before new [] stamp.epoch (omega arith) there in
    let no = none.1 in
    absurd (omega arith)
at_opening key s g inv stamp version current (new ∷ old ∷ rest) None chain newest opener is lt there at = absurd opener
at_opening key s g inv stamp version current (new ∷ old ∷ rest) (Some call) chain newest opener is lt there at =
    let b = inv.moves.switch_sent opener.0 old new opener.2 in
    let same : version ≡ b.seeded = inv.moves.one_seed is.tag b.seed.tag is.epoch b.seed.epoch version b.seeded is.value b.seed.value is.sent b.seed.sent (is.of ∙ sym opener.1 ∙ sym b.seed.of) in
    subst (λ (x : Stamp). IsAtMost stamp x) (sym same) (reached_below key s g inv.moves.switch_sent stamp opener.0 new old rest opener.2 chain.2 (opened_before new (old ∷ rest) stamp.epoch (omega arith) there) at b)

-- each stamp of an earlier epoch that a replica holds is at most the opening version
pub earlier_are_below : (key : KeyId) (s : Store) (g : Ghost) (last : Option Call) → InvOfEventual key s g → IsOpener key s g.opened last → (version : Stamp) → IsOpeningVersion key s last version → (d : ℕ) → (kept_of s d key).version.epoch < current_of s.directory key → IsAtMost (kept_of s d key).version version
earlier_are_below key s g last inv opener version is d lt =
    elim (inv.versions.versions.kept d) as (λ _. IsAtMost (kept_of s d key).version version) [
      | inl zero ↦ subst (λ (x : Stamp). IsAtMost x version) (sym zero) (zero_below version)
      | inr at ↦ at_opening key s g inv (kept_of s d key).version version (current_of s.directory key) g.opened last inv.epochs.chain inv.epochs.newest opener is lt at.opened at
    ]

-- the current epoch has an opening version
pub opened_with : (key : KeyId) (s : Store) (g : Ghost) → InvOfEventual key s g → (opened : List ℕ) (last : Option Call) → IsOpener key s opened last → (version : Stamp) × IsOpeningVersion key s last version
opened_with key s g inv (new ∷ old ∷ rest) (Some call) opener =
    let b = inv.moves.switch_sent opener.0 old new opener.2 in
    (b.seeded, record { tag = b.seed.tag; of = b.seed.of ∙ opener.1; epoch = b.seed.epoch; value = b.seed.value; sent = b.seed.sent })
opened_with key s g inv (new ∷ []) (Some call) opener = absurd opener
opened_with key s g inv [] (Some call) opener = absurd opener
opened_with key s g inv opened None opener = (stamp_zero, refl)

-- and no other one
pub one_opening : (key : KeyId) (s : Store) (g : Ghost) → InvOfEventual key s g → (last : Option Call) (version other : Stamp) → IsOpeningVersion key s last version → IsOpeningVersion key s last other → version ≡ other
one_opening key s g inv None version other is also = is ∙ sym also
one_opening key s g inv (Some call) version other is also = inv.moves.one_seed is.tag also.tag is.epoch also.epoch version other is.value also.value is.sent also.sent (is.of ∙ sym also.of)
