-- The lines of every run break no clause: each event keeps them sound.
use Rattle.std.proofs.Common.{◌≡◌, List, [], ◌∷◌, ◌++◌, append_assoc, append-nil, refl, sym, ap, subst, Ok, Err}
use Rattle.register_law.proofs.Words.{KeyId, history_of, Mark, CallsAgree, FrontsAgree, KeepsForm, IsStrongKey, GoingOn, IsHeader, MayHappen, MayRun, Run, ran, run, run_of, store_after, Store, opening, Happening, Outcome, step, Event, Header, StoredBy, Ghost, first_ghost, noted_of, Inv}
use Rattle.register_order.proofs.FromMarks.{marks_agree}
use Rattle.register_order.proofs.FromFronts.{agreeing_fronts_break_none}
use Rattle.register_order.proofs.ByEvents.{fronts_agree_after_event}
use Rattle.register_law.proofs.Happened.{happened}
use Rattle.register_law.proofs.Induction.{every_event_keeps}
use Rattle.register_law.proofs.MarksOfKey.{floor_of, marks_tell}
use Rattle.register_law.proofs.TagsKept.{tags_kept}
use Rattle.audit_law.specs.Laws.{RunsBreakNoClause}
use Rattle.audit_law.specs.Live.{LogIsFormed}
use Rattle.audit_law.proofs.News.{joined}
use Rattle.audit_law.proofs.Starts.{event_begins_rightly}
use Rattle.audit_law.proofs.Numbers.{numbers_after}
use Rattle.audit_law.proofs.Modes.{ModesAreKept, modes_first, modes_after, all_keys_agree}
use Rattle.audit_law.proofs.Told.{told_after}
use Rattle.audit_law.proofs.NewLines.{AreFormed}
use Rattle.audit_law.proofs.Lines.{event_lines}
use Rattle.audit_law.proofs.First.{formed_first, no_fronts}
use Rattle.register_law.proofs.OpeningHolds.{opening_holds}

-- the invariant holds of a strong key, with what is noted of this log
pub record IsNoted (key : KeyId) (s : Store) (marks : List Mark) : Type 0 where
  pub ghost : Ghost
  pub holds : Inv key s ghost
  pub same : ghost.marks ≡ marks

pub record LogIsSound (header : Header) (s : Store) (marks : List Mark) : Type 0 where
  pub formed : LogIsFormed s marks
  pub modes : ModesAreKept header s marks
  pub noted : (key : KeyId) → IsStrongKey header key.0 → IsNoted key s marks
  pub fronts : FrontsAgree marks

noted_calls_agree : (key : KeyId) (s : Store) (marks : List Mark) → IsNoted key s marks → CallsAgree (history_of key.0 marks)
noted_calls_agree key s marks n =
    subst (λ (ms : List Mark). CallsAgree (history_of key.0 ms)) n.same (marks_agree (history_of key.0 n.ghost.marks) (StoredBy key s) (floor_of n.ghost) (marks_tell key s n.ghost n.holds))

noted_after : (header : Header) (s : Store) (marks : List Mark) (e : Event) (h : Happening) → step s e ≡ Ok h → MayHappen s e → LogIsSound header s marks → (key : KeyId) → IsStrongKey header key.0 → IsNoted key h.store (marks ++ h.marks)
noted_after header s marks e h taken may o key strong =
    let n = o.noted key strong in
    record { ghost = noted_of key s h n.ghost; holds = every_event_keeps key s n.ghost e h taken may n.holds; same = ap (λ (ms : List Mark). ms ++ h.marks) n.same }

event_keeps : (header : Header) (s : Store) (marks : List Mark) (e : Event) (h : Happening) → step s e ≡ Ok h → MayHappen s e → LogIsSound header s marks → LogIsSound header h.store (marks ++ h.marks)
event_keeps header s marks e h taken may o =
    let is = happened s e h taken in
    let right = event_begins_rightly s e h taken in
    let lines : AreFormed marks h.marks = event_lines s h marks is right o.formed in
    let modes : ModesAreKept header h.store (marks ++ h.marks) = modes_after header s h marks is right o.modes in
    record {
      formed = record {
        tags = tags_kept s h is o.formed.tags;
        lines = joined KeepsForm [] marks h.marks o.formed.lines lines.form;
        numbers = numbers_after s h marks is o.formed.numbers;
        live = told_after s h marks is o.formed;
      };
      modes = modes;
      noted = noted_after header s marks e h taken may o;
      fronts = fronts_agree_after_event marks h.marks lines.few o.fronts
          (all_keys_agree header h.store (marks ++ h.marks) modes (λ key strong. noted_calls_agree key h.store (marks ++ h.marks) (noted_after header s marks e h taken may o key strong)));
    }

one_more : (header : Header) (s : Store) (marks : List Mark) (o : Outcome) (rest : Run) (more : Type 0) → ((h : Happening) → o ≡ Ok h → LogIsSound header h.store (marks ++ h.marks)) → LogIsSound header s marks
    → (more → (before : List Mark) → LogIsSound header (store_after s o) before → LogIsSound header rest.store (before ++ rest.marks)) → GoingOn o more
    → LogIsSound header (ran s o rest).store (marks ++ (ran s o rest).marks)
one_more header s marks (Ok h) rest more f p g m = subst (LogIsSound header rest.store) (append_assoc marks h.marks rest.marks) (g m (marks ++ h.marks) (f h refl))
one_more header s marks (Err fault) rest more f p g m = subst (LogIsSound header s) (sym (append-nil marks)) p

run_is_sound : (header : Header) (events : List Event) (s : Store) (marks : List Mark) → MayRun events s → LogIsSound header s marks → LogIsSound header (run events s).store (marks ++ (run events s).marks)
unfolding run MayRun
run_is_sound header [] s marks may p = subst (LogIsSound header s) (sym (append-nil marks)) p
run_is_sound header (e ∷ es) s marks may p =
    one_more header s marks (step s e) (run es (store_after s (step s e))) (MayRun es (store_after s (step s e))) (λ h is. event_keeps header s marks e h is may.0 p) p
    (λ more before q. run_is_sound header es (store_after s (step s e)) before more q) may.1

opening_is_sound : (header : Header) → IsHeader header → LogIsSound header (opening header) []
opening_is_sound header h = record {
  formed = formed_first header;
  modes = modes_first header;
  noted = λ key strong. record { ghost = first_ghost; holds = opening_holds header key h strong; same = refl };
  fronts = no_fronts;
}

pub no_clause_is_broken : RunsBreakNoClause
no_clause_is_broken header events h may =
    let sound : LogIsSound header (run_of header events).store (run_of header events).marks = run_is_sound header events (opening header) [] may (opening_is_sound header h) in
    agreeing_fronts_break_none (run_of header events).marks sound.formed.lines sound.fronts
