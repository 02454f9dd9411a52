-- How a step of the code ends, by the part of the actor that the event asks.
use Rattle.std.proofs.Common.{◌≡◌, ℕ, ◌+◌, Bool, true, false, cond, List, [], ◌++◌, length, refl, sym, ap, ◌∙◌, subst}
use Rattle.std.specs.Prelude.{slice_set, slice_index_or, nat_lt, Option, Some, None, Ok, Err}
use Rattle.wire_msg.specs.declared.message.Message.{Message}
use Rattle.wire_msg.specs.declared.outputs.Post.{Post}
use Rattle.wire_msg.specs.declared.outputs.Bulk.{Bulk}
use Rattle.wire_msg.specs.Sizes.{bulk_of}
use Rattle.span_base.specs.declared.words.What.TheVariants.{Messages, FrameBytes}
use Rattle.replica_core.specs.declared.journal.TakeFault.{TakeFault}
use Rattle.replica_core.specs.Rule as replica
use Rattle.run_marks.specs.declared.mark.Mark.{Mark}
use Rattle.world_core.specs.declared.event.StepFault.{StepFault}
use Rattle.world_core.specs.declared.event.StepFault.TheVariants.{NoActor, NoKey, WrongMode, NoMessage, NoCall, Limit, Taker, NoMemory}
use Rattle.world_core.specs.State.{Store}
use Rattle.world_core.specs.Starting.{Done}
use Rattle.world_core.specs.Step.{Happening, Outcome, nothing, sends, with_sent, message_limit, byte_limit}
use Rattle.world_core.specs.Stores.{limit_passed, ActorEnds}
use Rattle.world_core.specs.Ends.{Seen, Journal, no_journal, Journals, JournalsFor, Takes, EndsAs, TakerEnds}

-- by the limit that the posts would pass, if any
abbrev sent_by : Store → List Post → List Mark → Option StepFault → Outcome
sent_by s posts marks None = Ok (with_sent s posts marks)
sent_by s posts marks (Some fault) = Err fault

sends_by : (s : Store) (posts : List Post) (marks : List Mark) → sends s posts marks ≡ sent_by s posts marks (limit_passed s.sent (bulk_of posts))
sends_by s posts marks = by (nat_lt message_limit (length s.sent + length posts)) (nat_lt byte_limit ((bulk_of s.sent).bytes + (bulk_of posts).bytes))
  where
    by : (a b : Bool) → cond a (Err (Limit Messages (length s.sent + length posts))) (cond b (Err (Limit FrameBytes ((bulk_of s.sent).bytes + (bulk_of posts).bytes))) (Ok (with_sent s posts marks)))
        ≡ sent_by s posts marks (cond a (Some (Limit Messages (length s.sent + length posts))) (cond b (Some (Limit FrameBytes ((bulk_of s.sent).bytes + (bulk_of posts).bytes))) None))
    by true b = refl
    by false true = refl
    by false false = refl

-- only a limit is passed
taker_limit : (sent : List Post) (bulk : Bulk) (fault : TakeFault) → limit_passed sent bulk ≡ Some (Taker fault) → ⊥
taker_limit sent bulk fault = by (nat_lt message_limit (length sent + bulk.posts)) (nat_lt byte_limit ((bulk_of sent).bytes + bulk.bytes))
  where
    by : (a b : Bool) → cond a (Some (Limit Messages (length sent + bulk.posts))) (cond b (Some (Limit FrameBytes ((bulk_of sent).bytes + bulk.bytes))) None) ≡ Some (Taker fault) → ⊥
    by true b is = absurd (cc)
    by false true is = absurd (cc)
    by false false is = absurd (cc)

pub seen_same : (old new : Seen) → new.store ≡ old.store → new.journals ≡ old.journals → new.events ≡ old.events → new ≡ old
seen_same old new s j e =
    ap (λ (x : Store). let y : Seen = record { store = x; journals = new.journals; events = new.events } in y) s
    ∙ ap (λ (x : List Journal). let y : Seen = record { store = old.store; journals = x; events = new.events } in y) j
    ∙ ap (λ (x : ℕ). let y : Seen = record { store = old.store; journals = old.journals; events = x } in y) e

-- an event that does nothing
pub ignored : (old new : Seen) (outcome : Outcome) (marks : List Mark) → outcome ≡ nothing old.store → marks ≡ [] → new.store ≡ old.store → new.journals ≡ old.journals → new.events ≡ old.events + 1 → Takes old new None outcome marks
ignored old new outcome marks is none store journals events =
    record { happening = record { store = old.store; marks = []; posts = [] }; taken = is; marks_are = none; store_is = store; events_are = events; journals = journals }

-- an event that sends nothing
pub quiet : (old new : Seen) (outcome : Outcome) (happening : Happening) (marks : List Mark) → outcome ≡ Ok happening → marks ≡ happening.marks → new.store ≡ happening.store → new.journals ≡ old.journals → new.events ≡ old.events + 1 → Takes old new None outcome marks
quiet old new outcome happening marks is told store journals events =
    record { happening = happening; taken = is; marks_are = told; store_is = store; events_are = events; journals = journals }

module _ {A : Type 0} (old new : Seen) (asked : Option (ℕ × Message)) (done : Done A) (put : A → Store) (outcome : Outcome) (was is : A) (now : List Post) where
  -- an event that its actor takes
  pub took : (marks : List Mark) → outcome ≡ sends (put done.actor) done.posts done.marks → (put done.actor).sent ≡ old.store.sent → ActorEnds done was is old.store.sent now (Ok marks)
      → new.store ≡ record (put is) { sent = now } → new.events ≡ old.events + 1 → JournalsFor asked old.journals new.journals None → Takes old new asked outcome marks
  took marks outcome_is same ends store events journals = record {
    happening = with_sent (put done.actor) done.posts done.marks;
    taken = outcome_is ∙ sends_by (put done.actor) done.posts done.marks ∙ ap (λ x. sent_by (put done.actor) done.posts done.marks (limit_passed x (bulk_of done.posts))) same ∙ ap (sent_by (put done.actor) done.posts done.marks) ends.3;
    marks_are = ends.2;
    store_is = store
        ∙ ap (λ (a : A). let s : Store = record (put a) { sent = now } in s) ends.0
        ∙ ap (λ (x : List Post). let s : Store = record (put done.actor) { sent = x } in s) (ends.1 ∙ ap (λ (x : List Post). x ++ done.posts) (sym same));
    events_are = events;
    journals = journals;
  }

  -- an event that passes a limit, or finds no memory
  pub refused : (fault : StepFault) → outcome ≡ sends (put done.actor) done.posts done.marks → (put done.actor).sent ≡ old.store.sent → ActorEnds done was is old.store.sent now (Err fault)
      → new.store ≡ record (put is) { sent = now } → record (put was) { sent = old.store.sent } ≡ old.store → new.events ≡ old.events → new.journals ≡ old.journals → EndsAs old new asked outcome (Err fault)
  refused fault outcome_is same ends store back events journals = by fault ends
    where
      unchanged : is ≡ was → now ≡ old.store.sent → new ≡ old
      unchanged a b =
          seen_same old new
          (store ∙ ap (λ (a : A). let s : Store = record (put a) { sent = now } in s) a ∙ ap (λ (x : List Post). let s : Store = record (put was) { sent = x } in s) b ∙ back) journals events

      passed : (f : StepFault) → limit_passed old.store.sent (bulk_of done.posts) ≡ Some f → outcome ≡ Err f
      passed f limit =
          outcome_is ∙ sends_by (put done.actor) done.posts done.marks ∙ ap (λ x. sent_by (put done.actor) done.posts done.marks (limit_passed x (bulk_of done.posts))) same ∙ ap (sent_by (put done.actor) done.posts done.marks) limit

      by : (f : StepFault) → ActorEnds done was is old.store.sent now (Err f) → EndsAs old new asked outcome (Err f)
      by NoActor e = (passed NoActor e.0, unchanged e.1 e.2)
      by NoKey e = (passed NoKey e.0, unchanged e.1 e.2)
      by WrongMode e = (passed WrongMode e.0, unchanged e.1 e.2)
      by (NoMessage n) e = (passed (NoMessage n) e.0, unchanged e.1 e.2)
      by NoCall e = (passed NoCall e.0, unchanged e.1 e.2)
      by (Limit what n) e = (passed (Limit what n) e.0, unchanged e.1 e.2)
      by (Taker f) e = absurd (taker_limit old.store.sent (bulk_of done.posts) f e.0)
      by (NoMemory error) e = unchanged e.0 e.1

-- a refused event changes no actor and sends nothing
pub unmoved : {A : Type 0} (done : Done A) (was is : A) (sent now : List Post) (fault : StepFault) → ActorEnds done was is sent now (Err fault) → (is ≡ was) × (now ≡ sent)
unmoved done was is sent now NoActor e = (e.1, e.2)
unmoved done was is sent now NoKey e = (e.1, e.2)
unmoved done was is sent now WrongMode e = (e.1, e.2)
unmoved done was is sent now (NoMessage n) e = (e.1, e.2)
unmoved done was is sent now NoCall e = (e.1, e.2)
unmoved done was is sent now (Limit what n) e = (e.1, e.2)
unmoved done was is sent now (Taker f) e = (e.1, e.2)
unmoved done was is sent now (NoMemory error) e = (e.0, e.1)

-- an event that its replica takes or not
module _ (old new : Seen) (d : ℕ) (message : Message) (done : Done replica.State) (put : replica.State → Store) (outcome : Outcome) (was is : replica.State) (now : List Post) (before after : Journal) where
  pub replica_refused : (fault : StepFault) → outcome ≡ sends (put done.actor) done.posts done.marks → (put done.actor).sent ≡ old.store.sent → TakerEnds done was is before after message old.store.sent now (Err fault)
      → new.store ≡ record (put is) { sent = now } → record (put was) { sent = old.store.sent } ≡ old.store → new.events ≡ old.events
      → new.journals ≡ slice_set old.journals d after → slice_index_or old.journals d no_journal ≡ before → slice_set old.journals d before ≡ old.journals → EndsAs old new (Some (d, message)) outcome (Err fault)
  replica_refused fault outcome_is same ends store back events journals there stays = by fault ends
    where
      as_actor : (f : StepFault) → ActorEnds done was is old.store.sent now (Err f) → after ≡ before → EndsAs old new (Some (d, message)) outcome (Err f)
      as_actor f e j = refused old new (Some (d, message)) done put outcome was is now f outcome_is same e store back events (journals ∙ ap (slice_set old.journals d) j ∙ stays)

      by : (f : StepFault) → TakerEnds done was is before after message old.store.sent now (Err f) → EndsAs old new (Some (d, message)) outcome (Err f)
      by NoActor e = as_actor NoActor e.0 e.1
      by NoKey e = as_actor NoKey e.0 e.1
      by WrongMode e = as_actor WrongMode e.0 e.1
      by (NoMessage n) e = as_actor (NoMessage n) e.0 e.1
      by NoCall e = as_actor NoCall e.0 e.1
      by (Limit what n) e = as_actor (Limit what n) e.0 e.1
      by (NoMemory error) e = as_actor (NoMemory error) e.0 e.1
      by (Taker f) e = record {
        happening = with_sent (put done.actor) done.posts done.marks;
        taken = outcome_is ∙ sends_by (put done.actor) done.posts done.marks ∙ ap (λ x. sent_by (put done.actor) done.posts done.marks (limit_passed x (bulk_of done.posts))) same ∙ ap (sent_by (put done.actor) done.posts done.marks) e.0;
        store_is = store
            ∙ ap (λ (a : replica.State). let s : Store = record (put a) { sent = now } in s) e.1
            ∙ ap (λ (x : List Post). let s : Store = record (put was) { sent = x } in s) e.2
            ∙ back;
        events_are = events;
        journals = (after, journals, subst (λ (j : Journal). Journals j after message (Some f)) (sym there) e.3);
      }
