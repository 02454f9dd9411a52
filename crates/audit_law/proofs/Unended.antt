-- A call that lives after an event hasn't ended.
use Rattle.std.proofs.Common.{refl, inl, inr, ℕ, ◌+◌, List, [], ◌++◌, sym, ap, subst, Some, Contains}
use Rattle.register_law.proofs.Words.{Call, Reply, Tag, Handle, Mark, EachKeeps, KeepsCall, KeepsForm, tag_of_call, Store, Happening, LiveCall, Happened, next_call, IsLiveAt, Contains-append_cases}
use Rattle.run_marks.specs.declared.mark.Mark.TheVariants as k
use Rattle.register_order.proofs.AfterBegin.{IsNew}
use Rattle.register_order.proofs.Lines.{each_weaker}
use Rattle.register_law.proofs.TagsCalls.{LiveFrom, older, newer, live_from}
use Rattle.register_law.proofs.EndsEnded.{no_end_of_live}
use Rattle.register_law.proofs.MarksAre.{marks_are, end_is}
use Rattle.audit_law.specs.Live.{LogIsFormed}
use Rattle.audit_law.proofs.News.{next_is_new}

pub calls_kept : (s : Store) (marks : List Mark) → LogIsFormed s marks → EachKeeps KeepsCall [] marks
calls_kept s marks f = each_weaker KeepsForm KeepsCall (λ before mark kept. kept.call) [] marks f.lines

-- no line speaks of the call that a proxy begins next
pub next_call_is_new : (s : Store) (marks : List Mark) → LogIsFormed s marks → (p : ℕ) → IsNew marks (next_call s p)
next_call_is_new s marks f p = next_is_new marks (next_call s p) (calls_kept s marks f) (ap (λ (n : ℕ). n + 1) (sym (f.numbers p)))

pub unended_after : (s : Store) (h : Happening) (marks : List Mark) → Happened s h → LogIsFormed s marks → (p : ℕ) (handle : Handle) (live : LiveCall) → IsLiveAt h.store p handle live → (reply : Reply) → Contains (marks ++ h.marks) (k.End (tag_of_call live).call reply) → ⊥
unended_after s h marks is f p handle live lives reply c =
    elim (Contains-append_cases marks h.marks (k.End (tag_of_call live).call reply) c) as (λ _. ⊥) [
      | inl old ↦ was old (live_from s h is p handle live lives)
      | inr new ↦ no_end_of_live s h f.tags p handle live lives (tag_of_call live).call refl reply (end_is s h (marks_are s h is) (tag_of_call live).call reply new) (live_from s h is p handle live lives)
    ]
  where
    was : Contains marks (k.End (tag_of_call live).call reply) → LiveFrom s h p handle live → ⊥
    was old (older first there from _ _) = (f.live p handle first there).unended reply (subst (λ (x : Call). Contains marks (k.End x reply)) from old)
    was old (newer at work st _ tag _) = next_call_is_new s marks f p (k.End (tag_of_call live).call reply) old (ap (λ (t : Tag). Some t.call) tag)
