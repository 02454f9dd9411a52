-- All pushes of an eventual key with one stamp have one value.
use Rattle.std.proofs.Common.{◌≡◌, inl, inr, ℕ, List, ◌∷◌, ◌++◌, sym, ap, ◌∙◌, subst, arith}
use Rattle.std.specs.Prelude.{Contains}
use Rattle.std.proofs.lemmas.List.Elements.{Contains-append_cases}
use Rattle.span_base.specs.declared.ids.Call.{Call}
use Rattle.span_base.specs.declared.ids.KeyId.{KeyId}
use Rattle.ticket_rules.specs.declared.stamp.Stamp.{Stamp}
use Rattle.run_marks.specs.declared.mark.Work.{Work}
use Rattle.run_marks.specs.declared.mark.Work.TheVariants as w
use Rattle.run_marks.specs.declared.mark.Mark.{Mark}
use Rattle.run_marks.specs.declared.mark.Mark.TheVariants as k
use Rattle.world_core.specs.State.{Store}
use Rattle.world_core.specs.Step.{Happening}
use Rattle.register_law.specs.Cases.{Happened}
use Rattle.register_law.specs.Tags.{TagsTellApart}
use Rattle.register_law.proofs.MarksAre.{marks_are}
use Rattle.eventual_law.specs.Known.{by_begin, CallsHaveKeys, IsKnownPut}
use Rattle.eventual_law.proofs.CallKeys.{begun_now, next_is_on_none, keys_kept}
use Rattle.register_law.proofs.TagsKept.{tags_kept}
use Rattle.eventual_law.proofs.ValuesRun.{TicketsName, one_call}

-- each call begins for one work
abbrev pub BeginOnce : List Mark → Type 0
BeginOnce marks = (call : Call) (key at : KeyId) (one other : Work) → Contains marks (k.Begin call key one) → Contains marks (k.Begin call at other) → one ≡ other

pub record OneWork (s : Store) (marks : List Mark) : Type 0 where
  pub tags : TagsTellApart s
  pub calls : CallsHaveKeys s marks
  pub once : BeginOnce marks

first_work : (one other : Call) (key at : KeyId) (work on : Work) (rest more marks : List Mark) → marks ≡ k.Begin one key work ∷ rest → marks ≡ k.Begin other at on ∷ more → work ≡ on
first_work one other key at work on rest more marks a b = cc

pub one_work_kept : (s : Store) (h : Happening) (marks : List Mark) → Happened s h → OneWork s marks → OneWork h.store (marks ++ h.marks)
one_work_kept s h marks is o = record {
  tags = tags_kept s h is o.tags;
  calls = keys_kept s h marks is o.tags o.calls;
  once = λ call key at one other a b.
      elim (Contains-append_cases marks h.marks (k.Begin call key one) a) as (λ _. one ≡ other) [
        | inl old ↦ elim (Contains-append_cases marks h.marks (k.Begin call at other) b) as (λ _. one ≡ other) [
          | inl older ↦ o.once call key at one other old older
          | inr new ↦ (let n = (begun_now s h (marks_are s h is) call at other new).0 in absurd (next_is_on_none s marks call key n.p o.tags o.calls (by_begin one old) n.next))
        ]
        | inr new ↦ elim (Contains-append_cases marks h.marks (k.Begin call at other) b) as (λ _. one ≡ other) [
          | inl old ↦ (let n = (begun_now s h (marks_are s h is) call key one new).0 in absurd (next_is_on_none s marks call at n.p o.tags o.calls (by_begin other old) n.next))
          | inr newer ↦
              (let x = begun_now s h (marks_are s h is) call key one new in
              let y = begun_now s h (marks_are s h is) call at other newer in
              x.1 ∙ first_work call call key at x.0.work y.0.work x.0.rest y.0.rest h.marks x.0.marks y.0.marks ∙ sym y.1)
        ]
      ];
}

same_put : (one other : List ℕ) → w.Put one ≡ w.Put other → one ≡ other
same_put one other e = cc

-- the values that belong to one stamp are one
pub one_value : (key : KeyId) (s : Store) (marks : List Mark) (stamp : Stamp) (one other : List ℕ) → TicketsName s marks → BeginOnce marks → IsKnownPut key marks stamp one → IsKnownPut key marks stamp other → one ≡ other
one_value key s marks stamp one other names once (inl a) (inl b) = a.1 ∙ sym b.1
one_value key s marks stamp one other names once (inl a) (inr b) = absurd (let n = (names b.call stamp b.ticket).2 in let z : stamp.number ≡ 0 = ap (λ (x : Stamp). x.number) a.0 in omega arith)
one_value key s marks stamp one other names once (inr a) (inl b) = absurd (let n = (names a.call stamp a.ticket).2 in let z : stamp.number ≡ 0 = ap (λ (x : Stamp). x.number) b.0 in omega arith)
one_value key s marks stamp one other names once (inr a) (inr b) =
    let same : b.call ≡ a.call = one_call s marks stamp a.call b.call names a.ticket b.ticket in
    same_put one other (once a.call key key (w.Put one) (w.Put other) a.begun (subst (λ (x : Call). Contains marks (k.Begin x key (w.Put other))) same b.begun))
