-- Lines joined to lines, and the call that a proxy begins next, of which no line speaks yet.
use Rattle.std.proofs.Common.{◌≡◌, ◌+◌, List, [], ◌∷◌, ◌++◌, append_assoc, append-nil, refl, sym, subst, Some, Contains}
use Rattle.register_law.proofs.Words.{Call, KeyId, call_of, Mark, Work, EachKeeps, IsOpen, KeepsCall, last_seq, Contains-append_left, parted}
use Rattle.run_marks.specs.declared.mark.Mark.TheVariants as k
use Rattle.register_order.proofs.AfterBegin.{IsNew}
use Rattle.register_order.proofs.Lines.{where_split}
use Rattle.register_order.proofs.Numbered.{numbered_calls_begin_once}

pub joined : (K : List Mark → Mark → Type 0) (before earlier later : List Mark) → EachKeeps K before earlier → EachKeeps K (before ++ earlier) later → EachKeeps K before (earlier ++ later)
joined K before [] later h g = subst (λ (ms : List Mark). EachKeeps K ms later) (append-nil before) g
joined K before (m ∷ ms) later h g = (h.0, joined K (before ++ m ∷ []) ms later h.1 (subst (λ (xs : List Mark). EachKeeps K xs later) (sym (append_assoc before (m ∷ []) ms)) g))

-- a call that has a mark has begun
pub record HasBegun (marks : List Mark) (call : Call) : Type 0 where
  pub at : KeyId
  pub work : Work
  pub begun : Contains marks (k.Begin call at work)

open_has_begun : (marks earlier later : List Mark) (mark : Mark) (call : Call) → marks ≡ earlier ++ mark ∷ later → IsOpen earlier call → HasBegun marks call
open_has_begun marks earlier later mark call split o =
    record { at = o.key; work = o.work; begun = subst (λ (ms : List Mark). Contains ms (k.Begin call o.key o.work)) (sym split) (Contains-append_left earlier (mark ∷ later) (k.Begin call o.key o.work) o.begun) }

same_call : (P : Call → Type 0) (a b : Call) → Some a ≡ Some b → P a → P b
same_call P a b e p = let same : a ≡ b = cc in subst P same p

pub marked_has_begun : (marks : List Mark) → EachKeeps KeepsCall [] marks → (mark : Mark) (call : Call) → Contains marks mark → call_of mark ≡ Some call → HasBegun marks call
marked_has_begun marks h (k.Begin c at work) call here of = same_call (HasBegun marks) c call of (record { at = at; work = work; begun = here })
marked_has_begun marks h (k.Ticket c stamp) call here of =
    let p = parted marks (k.Ticket c stamp) here in
    same_call (HasBegun marks) c call of (open_has_begun marks p.0 p.1 (k.Ticket c stamp) c p.2 (where_split KeepsCall marks p.0 p.1 (k.Ticket c stamp) h p.2))
marked_has_begun marks h (k.End c reply) call here of =
    let p = parted marks (k.End c reply) here in
    same_call (HasBegun marks) c call of (open_has_begun marks p.0 p.1 (k.End c reply) c p.2 (where_split KeepsCall marks p.0 p.1 (k.End c reply) h p.2))
marked_has_begun marks h (k.Epoch epoch) call here of = absurd (cc)
marked_has_begun marks h (k.NoEpoch cause) call here of = absurd (cc)

-- no mark is of the call whose number comes next
pub next_is_new : (marks : List Mark) (call : Call) → EachKeeps KeepsCall [] marks → call.seq ≡ last_seq call.proxy marks + 1 → IsNew marks call
next_is_new marks call h next mark here of =
    let b = marked_has_begun marks h mark call here of in
    let more : EachKeeps KeepsCall [] (marks ++ k.Begin call b.at b.work ∷ []) = joined KeepsCall [] marks (k.Begin call b.at b.work ∷ []) h (next, tt) in
    (numbered_calls_begin_once (marks ++ k.Begin call b.at b.work ∷ []) more call b.at b.at b.work b.work marks [] refl).0 b.begun
