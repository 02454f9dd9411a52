-- The lines of an event that begins a call are well formed.
use Rattle.std.proofs.Common.{◌≡◌, inl, inr, ℕ, ◌+◌, Bool, true, false, List, [], ◌∷◌, ◌++◌, refl, sym, ap, subst, arith, if◌then◌else◌, Contains}
use Rattle.register_law.proofs.Words.{Call, KeyId, IsAbove, Reply, is_dead, Mark, Work, EachKeeps, GivesLatest, IsOpen, KeepsForm, answers_of, draws, fits, draws_ticket, Store, next_call, Contains-push, Contains-push_cases}
use Rattle.wire_msg.specs.declared.outputs.Reply.TheVariants as r
use Rattle.run_marks.specs.declared.mark.Work.TheVariants as w
use Rattle.run_marks.specs.declared.mark.Mark.TheVariants as k
use Rattle.register_order.proofs.AfterBegin.{IsNew}
use Rattle.register_order.proofs.ByEvents.{AreOfEvent}
use Rattle.register_law.proofs.MarksAre.{start_ticket}
use Rattle.audit_law.specs.Live.{LogIsFormed}
use Rattle.audit_law.proofs.Unended.{next_call_is_new}

-- the lines of an event, after those before it
pub record AreFormed (marks group : List Mark) : Type 0 where
  pub form : EachKeeps KeepsForm marks group
  pub few : AreOfEvent marks group

pub no_lines : (marks : List Mark) → AreFormed marks []
no_lines marks = record { form = tt; few = tt }

pub one_line : (marks : List Mark) (mark : Mark) → KeepsForm marks mark → AreFormed marks (mark ∷ [])
one_line marks mark kept = record { form = (kept, tt); few = tt }

-- a call that has only begun is open
begun_is_open : (marks : List Mark) (call : Call) (key : KeyId) (work : Work) → IsNew marks call → IsOpen (marks ++ k.Begin call key work ∷ []) call
begun_is_open marks call key work new = record {
  key = key;
  work = work;
  begun = Contains-push marks (k.Begin call key work);
  unended = λ reply c. elim (Contains-push_cases marks (k.Begin call key work) (k.End call reply) c) as (λ _. ⊥) [ inl old ↦ new (k.End call reply) old refl | inr is ↦ cc ];
}

-- its work is the one that it began with
begun_work : (P : Work → Type 0) (marks : List Mark) (call : Call) (key : KeyId) (work : Work) → IsNew marks call → P work → (at : KeyId) (does : Work) → Contains (marks ++ k.Begin call key work ∷ []) (k.Begin call at does) → P does
begun_work P marks call key work new p at does c =
    elim (Contains-push_cases marks (k.Begin call key work) (k.Begin call at does) c) as (λ _. P does) [
      | inl old ↦ absurd (new (k.Begin call at does) old refl)
      | inr is ↦ (let same : work ≡ does = cc in subst P same p)
    ]

dead_gives : (marks : List Mark) (call : Call) (reply : Reply) → is_dead reply ≡ true → GivesLatest marks call reply
dead_gives marks call (r.Stored stamp) e = absurd (cc)
dead_gives marks call reply e = tt

begin_line : (s : Store) (marks : List Mark) → LogIsFormed s marks → (p : ℕ) (key : KeyId) (work : Work) → KeepsForm marks (k.Begin (next_call s p) key work)
begin_line s marks f p key work = record { call = ap (λ (n : ℕ). n + 1) (sym (f.numbers p)); kind = tt; stamp = tt }

-- a call that begins and ends
pub refused_lines : (s : Store) (marks : List Mark) → LogIsFormed s marks → (p : ℕ) (key : KeyId) (work : Work) (reply : Reply) → is_dead reply ≡ true → fits (answers_of work) reply ≡ true → AreFormed marks (k.Begin (next_call s p) key work ∷ k.End (next_call s p) reply ∷ [])
refused_lines s marks f p key work reply dead fit =
    let new : IsNew marks (next_call s p) = next_call_is_new s marks f p in
    record {
      form = (
        begin_line s marks f p key work,
        (
          record {
            call = begun_is_open marks (next_call s p) key work new;
            kind = λ at does c. begun_work (λ (x : Work). fits (answers_of x) reply ≡ true) marks (next_call s p) key work new fit at does c;
            stamp = dead_gives (marks ++ k.Begin (next_call s p) key work ∷ []) (next_call s p) reply dead;
          },
          tt,
        ),
      );
      few = new;
    }

-- what draws a ticket at its start may draw tickets
ticket_draws : (work : Work) → draws_ticket work ≡ true → draws work ≡ true
ticket_draws w.Read e = e
ticket_draws work e = e

pub start_lines : (s : Store) (marks : List Mark) → LogIsFormed s marks → (p : ℕ) (key : KeyId) (work : Work) (b : Bool) → draws_ticket work ≡ b
    → AreFormed marks (k.Begin (next_call s p) key work ∷ (if b then k.Ticket (next_call s p) (start_ticket s p key) ∷ [] else []))
start_lines s marks f p key work false is = one_line marks (k.Begin (next_call s p) key work) (begin_line s marks f p key work)
start_lines s marks f p key work true is =
    let new : IsNew marks (next_call s p) = next_call_is_new s marks f p in
    record {
      form = (
        begin_line s marks f p key work,
        (
          record {
            call = begun_is_open marks (next_call s p) key work new;
            kind = λ at does c. begun_work (λ (x : Work). draws x ≡ true) marks (next_call s p) key work new (ticket_draws work is) at does c;
            stamp = record {
              proxy = refl;
              seq = refl;
              number = omega arith;
              above = λ earlier c. elim (Contains-push_cases marks (k.Begin (next_call s p) key work) (k.Ticket (next_call s p) earlier) c) as (λ _. IsAbove (start_ticket s p key) earlier) [
                | inl old ↦ absurd (new (k.Ticket (next_call s p) earlier) old refl)
                | inr other ↦ absurd (cc)
              ];
            };
          },
          tt,
        ),
      );
      few = new;
    }
