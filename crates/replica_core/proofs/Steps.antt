-- A replica's state stays such that its answers can be sent.
use Rattle.std.proofs.Common.{◌≡◌, ℕ, ◌<◌, ◌≤◌, List, [], length, get_or, set, Option, Some, None, refl, sym, ap, ◌∙◌, subst, lit<, lit≤}
use Rattle.std.specs.Option.{IfSome}
use Rattle.std.proofs.lemmas.List.{get_or_read, length-set, length-replicate}
use Rattle.std.proofs.lemmas.List.Elements.{All-nil, All-get_or, All-set, All-replicate}
use Rattle.span_base.specs.declared.ids.KeyId.{KeyId}
use Rattle.wire_msg.specs.declared.message.Message.{Message}
use Rattle.wire_msg.specs.declared.outputs.Post.{Post}
use Rattle.wire_msg.specs.Lawful.{IsLawful, AreLawful}
use Rattle.wire_msg.specs.Posts.{key_of, IsAnswered, AreAnswersTo}
use Rattle.replica_core.specs.declared.kept.Kept.{Kept}
use Rattle.replica_core.specs.Keeping.{opening, kept_after}
use Rattle.replica_core.specs.declared.prepared.Prepared.{Prepared}
use Rattle.replica_core.specs.Rule.{State, IsLawfulKept, IsLawfulState, kept_at, opening_state, request_key}
use Rattle.replica_core.specs.Preparing.{IsReady, IsReadyAt, IsPrepared, changed_by}
use Rattle.replica_core.proofs.Sendable.{nothing, answers_lawful, kept_after_lawful}
use Rattle.replica_core.proofs.Addressed.{answers_are}

-- the message's key is one of those kept
pub key_within : (message : Message) (key : KeyId) (keys : ℕ) → IfSome (request_key message) (λ k. k.0 < keys) → request_key message ≡ Some key → key.0 < keys
key_within message key keys h e = let P : Option KeyId → Type 0 = λ o. IfSome o (λ k. k.0 < keys) in subst P e h

-- nothing is kept yet that couldn't be sent
opening_lawful : IsLawfulKept opening
opening_lawful = record { version = lit< tt; mark = lit< tt; fence = lit< tt; value = lit≤ tt }

pub opening_state_lawful : (number keys : ℕ) → number < 16 → keys ≤ 1000 → IsLawfulState (opening_state number keys)
opening_state_lawful number keys n k = record {
  number = n;
  keys = let P : ℕ → Type 0 = λ m. m ≤ 1000 in subst P (sym (length-replicate keys opening)) k;
  kept = All-replicate IsLawfulKept keys opening opening_lawful;
}

-- what is kept of one key of a lawful state
lawful_at : (state : State) (key : KeyId) → IsLawfulState state → key.0 < length state.kept → IsLawfulKept (kept_at state key)
lawful_at state key s h = All-get_or IsLawfulKept state.kept key.0 opening h s.kept

module _ (state : State) (message : Message) (prepared : Prepared) (s : IsLawfulState state) (m : IsLawful message) where
  -- what is ready to be put out can be sent
  ready_lawful : (key : Option KeyId) → IfSome key (λ k. k.0 < length state.kept) → IsReadyAt state message prepared key → AreLawful prepared.posts
  ready_lawful None h ready = subst AreLawful (sym ready) nothing
  ready_lawful (Some key) h ready = subst AreLawful (sym ready.posts) (answers_lawful state.number (kept_at state key) message s.number (lawful_at state key s h) m)

  pub posts_lawful : IfSome (request_key message) (λ k. k.0 < length state.kept) → IsPrepared state message prepared → AreLawful prepared.posts
  posts_lawful h ready = ready_lawful (request_key message) h ready

  -- and is for those who wait for it
  ready_are : (key : Option KeyId) → request_key message ≡ key → IfSome key (λ k. k.0 < length state.kept) → IsReadyAt state message prepared key → AreAnswersTo message prepared.posts
  ready_are None e h ready = subst (λ (ps : List Post). AreAnswersTo message ps) (sym ready) none_are
    where
      none_are : AreAnswersTo message []
      none_are = record { to = All-nil (λ post. IsAnswered message post.to); of_key = All-nil (λ post. IfSome (key_of post.message) (λ k. key_of message ≡ Some k)); count = lit≤ tt; bytes = lit≤ tt }
  ready_are (Some key) e h ready = subst (λ (ps : List Post). AreAnswersTo message ps) (sym ready.posts) (answers_are state.number (kept_at state key) message (lawful_at state key s h).value m)

  pub posts_are : IfSome (request_key message) (λ k. k.0 < length state.kept) → IsPrepared state message prepared → AreAnswersTo message prepared.posts
  posts_are h ready = ready_are (request_key message) refl h ready

  -- the state stays lawful as a change is made
  pub changed_lawful : (key : KeyId) (index : ℕ) (old new : Kept) → index ≡ key.0 → key.0 < length state.kept → IsPrepared state message prepared → request_key message ≡ Some key
      → old ≡ get_or state.kept index old → new ≡ changed_by prepared.change old → IsLawfulState (record { number = state.number; kept = set state.kept index new })
  changed_lawful key index old new there h p e was is =
      let ready : IsReady state.number (kept_at state key) message prepared = subst (λ (o : Option KeyId). IsReadyAt state message prepared o) e p in
      let at : old ≡ kept_at state key = get_or_read state.kept key.0 old h (was ∙ ap (λ (i : ℕ). get_or state.kept i old) there) opening in
      let now : new ≡ kept_after (kept_at state key) message = is ∙ ap (changed_by prepared.change) at ∙ ready.change in
      record {
        number = s.number;
        keys = let P : ℕ → Type 0 = λ n. n ≤ 1000 in subst P (sym (length-set state.kept index new)) s.keys;
        kept = All-set IsLawfulKept state.kept index new (subst IsLawfulKept (sym now) (kept_after_lawful (kept_at state key) message (lawful_at state key s h) m)) s.kept;
      }
