-- What a call that begins is asked for: its key has its work, and one that ends at once ends as its work may.
use Rattle.std.proofs.Common.{◌≡◌, ◌<◌, Bool, true, false, List, [], ◌∷◌, refl, not, ◌&&◌, ◌==◌, if◌then◌else◌, length, Option, Some, None}
use Rattle.std.specs.Option.{option_map_or}
use Rattle.register_law.proofs.Words.{Call, DcId, KeyId, Stamp, View, Tag, next_handle, Handle, Mark, Work, answers_of, fits, Taken, Done, draws_ticket, ends_at_once, enters, enters_with, first_tag, is_member, opened_call, starts_as, starts_in, ticket_of, Proxy, Store, fits_mode, is_strong_key}
use Rattle.wire_msg.specs.declared.outputs.Reply.TheVariants as r
use Rattle.run_marks.specs.declared.mark.Work.TheVariants as w
use Rattle.run_marks.specs.declared.mark.Mark.TheVariants as k

-- the key is one, and has this work
pub record IsAskedFor (s : Store) (key : KeyId) (work : Work) : Type 0 where
  pub known : key.0 < length s.directory.sets
  pub fits : fits_mode (is_strong_key s key) work ≡ true

-- marks behind a begin end the call as its work may
abbrev pub EndsRightly : Work → List Mark → Type 0
EndsRightly work (k.End call reply ∷ marks) = fits (answers_of work) reply ≡ true
EndsRightly work _ = Unit {0}

abbrev pub BeginsRightly : Store → List Mark → Type 0
BeginsRightly s (k.Begin call key work ∷ marks) = IsAskedFor s key work × EndsRightly work marks
BeginsRightly s _ = Unit {0}

-- a move needs no membership
not_member : (work : Work) (view : View) (at : DcId) → not (is_member work view at) ≡ true → fits (answers_of work) r.Outside ≡ true
not_member w.Move view at h = absurd (cc)
not_member work view at h = refl

not_opened : (strong : Bool) (tag : Tag) (at : DcId) (view : View) (ticket : Stamp) (work : Work) → opened_call strong tag at view ticket work ≡ None → fits (answers_of work) r.Outside ≡ true
not_opened true tag at view ticket w.Move h = absurd (cc)
not_opened false tag at view ticket w.Move h = absurd (cc)
not_opened strong tag at view ticket work h = refl

-- only what draws a ticket runs out of numbers
no_number : (work : Work) (b : Bool) → (draws_ticket work && b) ≡ true → fits (answers_of work) r.NumbersOut ≡ true
no_number (w.Write value) b h = refl
no_number (w.Put value) b h = refl
no_number work b h = absurd (cc)

did_either : (s : Store) (b : Bool) (one other : Done Proxy) → (b ≡ true → BeginsRightly s one.marks) → (b ≡ false → BeginsRightly s other.marks) → BeginsRightly s (if b then one else other).marks
did_either s true one other f g = f refl
did_either s false one other f g = g refl

behind_begin : (work : Work) (call : Call) (ticket : Stamp) (b : Bool) → EndsRightly work (if b then k.Ticket call ticket ∷ [] else [])
behind_begin work call ticket true = tt
behind_begin work call ticket false = tt

opens_rightly : (s : Store) (strong : Bool) (proxy : Proxy) (call : Call) (key : KeyId) (work : Work) (view : View) (handle : Handle) (o : Option Taken) → IsAskedFor s key work → opened_call strong (first_tag call handle) proxy.at view (ticket_of proxy view call) work ≡ o
    → BeginsRightly s (option_map_or (enters proxy call handle key work (ticket_of proxy view call)) o (ends_at_once proxy call key work r.Outside)).marks
opens_rightly s strong proxy call key work view handle None asked is = (asked, not_opened strong (first_tag call handle) proxy.at view (ticket_of proxy view call) work is)
opens_rightly s strong proxy call key work view handle (Some taken) asked is = (asked, behind_begin work call (ticket_of proxy view call) (draws_ticket work))

in_slot : (s : Store) (strong : Bool) (proxy : Proxy) (call : Call) (key : KeyId) (work : Work) (view : View) (o : Option Handle) → IsAskedFor s key work
    → BeginsRightly s (option_map_or (starts_in strong proxy call key work view) o (ends_at_once proxy call key work r.Full)).marks
in_slot s strong proxy call key work view None asked = (asked, refl)
in_slot s strong proxy call key work view (Some handle) asked =
    did_either s (draws_ticket work && (proxy.seen == 18446744073709551615)) (ends_at_once proxy call key work r.NumbersOut) (enters_with strong proxy call key work view handle)
    (λ e. (asked, no_number work (proxy.seen == 18446744073709551615) e))
    (λ _. opens_rightly s strong proxy call key work view handle (opened_call strong (first_tag call handle) proxy.at view (ticket_of proxy view call) work) asked refl)

pub starts_rightly : (s : Store) (strong : Bool) (proxy : Proxy) (call : Call) (key : KeyId) (work : Work) (view : View) → IsAskedFor s key work → BeginsRightly s (starts_as strong proxy call key work view).marks
starts_rightly s strong proxy call key work view asked =
    did_either s (not (is_member work view proxy.at)) (ends_at_once proxy call key work r.Outside) (option_map_or (starts_in strong proxy call key work view) (next_handle proxy.calls) (ends_at_once proxy call key work r.Full))
    (λ e. (asked, not_member work view proxy.at e)) (λ _. in_slot s strong proxy call key work view (next_handle proxy.calls) asked)
