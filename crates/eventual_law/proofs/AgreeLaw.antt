-- In every run that is quiet at its end the replicas of the current policy agree.
use Rattle.std.proofs.Common.{◌≡◌, ℕ, List, [], sym, subst, ◌∙◌}
use Rattle.std.specs.Prelude.{slice_index_or}
use Rattle.std.proofs.lemmas.Option.{get_or_from_slice_get}
use Rattle.span_base.specs.declared.ids.KeyId.{KeyId}
use Rattle.ticket_rules.specs.declared.stamp.Stamp.{Stamp}
use Rattle.wire_msg.specs.declared.actor.Actor.{Actor}
use Rattle.wire_msg.specs.declared.message.Message.{Message}
use Rattle.wire_msg.specs.declared.outputs.Post.{Post}
use Rattle.run_marks.specs.declared.mark.Mark.{Mark}
use Rattle.run_marks.specs.declared.mark.Mark.TheVariants as k
use Rattle.world_core.specs.declared.event.Event.{Event}
use Rattle.world_core.specs.declared.event.Header.{Header}
use Rattle.world_core.specs.State.{Store, opening, kept_of}
use Rattle.world_core.specs.Run.{IsHeader, MayRun, run_of}
use Rattle.register_law.specs.Ghost.{first_ghost, history}
use Rattle.register_law.proofs.Induction.{marks_noted}
use Rattle.register_order.proofs.Members.{none_among}
use Rattle.eventual_law.specs.Keys.{IsEventualKey}
use Rattle.eventual_law.specs.Known.{IsKnownPut}
use Rattle.eventual_law.specs.Laws.{IsQuiet, ArePlaced, IsCurrent, ReplicasAgree}
use Rattle.eventual_law.specs.Puts.{IsStored}
use Rattle.eventual_law.specs.Quiet.{WasTaken, IsDone}
use Rattle.eventual_law.proofs.Agree.{versions_agree, stored_everywhere}
use Rattle.eventual_law.proofs.AtRest.{IsAtRest}
use Rattle.eventual_law.proofs.OneValue.{OneWork, one_work_kept, one_value}
use Rattle.eventual_law.proofs.QuietRun.{goes_at_end, done_at_end}
use Rattle.eventual_law.proofs.ValuesRun.{TicketsName, tickets_name, along, known_along, known_first}

taken_post : (key : KeyId) (s : Store) (n : ℕ) (a : Actor) (message : Message) (none : Post) → IsDone key s n → slice_index_or s.sent n none ≡ record { to = a; message = message } → WasTaken key s a message
taken_post key s n a message none done is =
    let same : done.post ≡ record { to = a; message = message } = sym (get_or_from_slice_get s.sent n done.post none done.sent) ∙ is in
    subst (λ (x : Post). WasTaken key s x.to x.message) same done.taken

-- the state at the end of a quiet run
at_rest : (header : Header) (events : List Event) (key : KeyId) → IsHeader header → IsEventualKey header key.0 → MayRun events (opening header) → IsQuiet header events → ArePlaced (run_of header events).store key → IsAtRest key (run_of header events).store (history key events (opening header) first_ghost)
at_rest header events key h e may quiet placed = record {
  goes = goes_at_end header key events h e may;
  placed = placed;
  replicas = quiet.replicas;
  proxies = quiet.proxies;
  taken = λ a message c. taken_post key (run_of header events).store c.0 a message _ (done_at_end header key events c.0 h e may quiet.whole (quiet.delivered c.0 c.1)) c.2;
}

pub replicas_agree : ReplicasAgree
replicas_agree header events h may key e quiet placed =
    let rest = at_rest header events key h e may quiet placed in
    let known = known_along header events key e in
    let first = known_first header key e in
    let names = along TicketsName tickets_name events (opening header) [] (λ one t c. absurd (none_among (k.Ticket one t) c)) in
    let work = along OneWork one_work_kept events (opening header) [] (record { tags = first.kinds.tags; calls = first.calls; once = λ call at on one other c _. absurd (none_among (k.Begin call at one) c) }) in
    let same = λ (d x : ℕ) (there : IsCurrent (run_of header events).store key d) (also : IsCurrent (run_of header events).store key x). versions_agree key (run_of header events).store (history key events (opening header) first_ghost) rest d x there also in
    record {
      version = same;
      value = λ d x there also.
          one_value key (run_of header events).store (run_of header events).marks (kept_of (run_of header events).store d key).version (kept_of (run_of header events).store d key).value (kept_of (run_of header events).store x key).value names work.once
          (known.values.versions.kept d)
          (subst (λ (t : Stamp). IsKnownPut key (run_of header events).marks t (kept_of (run_of header events).store x key).value) (sym (same d x there also)) (known.values.versions.kept x));
      stored = λ stamp stored d there.
          stored_everywhere key (run_of header events).store (history key events (opening header) first_ghost) rest stamp
          (subst (λ (marks : List Mark). IsStored key marks stamp) (sym (marks_noted key events (opening header) first_ghost)) stored) d there;
    }
