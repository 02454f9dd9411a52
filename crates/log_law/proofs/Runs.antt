-- Every run of few events stays within the ranges of a log, and has two marks an event at most.
use Rattle.std.proofs.Common.{◌≡◌, inl, inr, ℕ, zero, suc, ◌+◌, ◌*◌, ◌≤◌, Bool, true, false, List, [], ◌∷◌, ◌++◌, refl, sym, subst, arith}
use Rattle.std.specs.List.{range_with_len}
use Rattle.std.specs.Prelude.{if◌then◌else◌, map, replicate, length, slice_index, slice_index_or, Option, Some, None, Ok, Err, Contains}
use Rattle.std.proofs.lemmas.List.{length-append, length-map}
use Rattle.std.proofs.lemmas.List.Elements.{Contains-append_cases}
use Rattle.span_base.specs.declared.ids.Call.{Call}
use Rattle.ticket_rules.specs.declared.stamp.Stamp.{Stamp}
use Rattle.wire_msg.specs.declared.outputs.Reply.{Reply}
use Rattle.wire_msg.specs.declared.outputs.View.{View}
use Rattle.wire_msg.specs.Posts.{tag_of}
use Rattle.epoch_directory.specs.declared.table.KeySet.{KeySet}
use Rattle.run_marks.specs.declared.mark.Mark.{Mark}
use Rattle.run_marks.specs.declared.mark.Mark.TheVariants as k
use Rattle.register_order.proofs.Members.{none_among, Contains-here, Contains-there}
use Rattle.world_core.specs.declared.event.Header.{Header}
use Rattle.world_core.specs.declared.event.Event.{Event}
use Rattle.world_core.specs.State.{Store, opening, opening_proxy, opening_view, key_set, no_proxy, no_view}
use Rattle.world_core.specs.Starting.{draws_ticket}
use Rattle.world_core.specs.Step.{Outcome, Happening, step, ticket_marks, end_marks}
use Rattle.world_core.specs.Run.{Run, run, run_of, ran, store_after, IsHeader}
use Rattle.register_law.specs.Cases.{next_call}
use Rattle.register_law.proofs.Happened.{happened}
use Rattle.register_law.proofs.TagsCalls.{taken_of}
use Rattle.register_law.proofs.MarksAre.{MarksAre, start_ticket, marks_are, unmarked, of_no_call, of_refused, of_start, of_call, of_give_up}
use Rattle.register_law.proofs.Opening.{nothing_sent, none_live, nothing_kept}
use Rattle.audit_law.proofs.First.{formed_first}
use Rattle.history_audit.specs.Ranges.{FitsMark}
use Rattle.log_law.specs.Fits.{FitsEpoch, FitsEvent, FitsKept}
use Rattle.log_law.specs.Within.{FitViews, FitsProxy, IsWithin}
use Rattle.log_law.specs.Laws.{AreEvents, RunsFitLogs, RunsStayFew}
use Rattle.log_law.proofs.Replica.{opening_fits}
use Rattle.log_law.proofs.Shown.{ShowsWell, shows_well}
use Rattle.log_law.proofs.Events.{marks_fit}
use Rattle.log_law.proofs.Kept.{within_after}

-- an event has two marks at most
begun_few : (call : Call) (ticket : Stamp) (b : Bool) → length (if b then k.Ticket call ticket ∷ [] else []) ≤ 1
begun_few call ticket true = omega arith
begun_few call ticket false = omega arith

took_few : (call : Call) (t : Option Stamp) (o : Option Reply) → length (ticket_marks call t ++ end_marks call o) ≤ 2
took_few call None None = omega arith
took_few call None (Some reply) = omega arith
took_few call (Some stamp) None = omega arith
took_few call (Some stamp) (Some reply) = omega arith

two_marks : (s : Store) (h : Happening) → MarksAre s h → length h.marks ≤ 2
two_marks s h (unmarked is) = subst (λ (ms : List Mark). length ms ≤ 2) (sym is) (omega arith)
two_marks s h (of_no_call mark none is) = subst (λ (ms : List Mark). length ms ≤ 2) (sym is) (omega arith)
two_marks s h (of_refused p key work reply lt dead none is) = subst (λ (ms : List Mark). length ms ≤ 2) (sym is) (omega arith)
two_marks s h (of_start p key work st is) = subst (λ (ms : List Mark). length ms ≤ 2) (sym is) (let one = begun_few (next_call s p) (start_ticket s p key) (draws_ticket work) in omega (arith, one))
two_marks s h (of_call p message call took is) = subst (λ (ms : List Mark). length ms ≤ 2) (sym is) (took_few (tag_of message).call (taken_of s p message call).out.ticket (taken_of s p message call).out.end)
two_marks s h (of_give_up p call given is) = subst (λ (ms : List Mark). length ms ≤ 2) (sym is) (omega arith)

-- what is true of a run of so many events
record RunFits (r : Run) (events : ℕ) : Type 0 where
  marks : (mark : Mark) → Contains r.marks mark → FitsMark mark
  few : length r.marks ≤ 2 * events
  sent : length r.store.sent ≤ 4000000

-- one event, and then the others
one_more : (s : Store) (left : ℕ) (o : Outcome) (rest : Run) → length s.sent ≤ 4000000 → ((h : Happening) → o ≡ Ok h → ((mark : Mark) → Contains h.marks mark → FitsMark mark) × (length h.marks ≤ 2))
    → ((h : Happening) → o ≡ Ok h → RunFits rest left) → RunFits (ran s o rest) (suc left)
one_more s left (Ok h) rest few first later =
    let f = first h refl in
    let l = later h refl in
    let two = f.1 in
    let many = l.few in
    record {
      marks = λ mark c. elim (Contains-append_cases h.marks rest.marks mark c) as (λ _. FitsMark mark) [ inl new ↦ f.0 mark new | inr old ↦ l.marks mark old ];
      few = omega (arith, length-append h.marks rest.marks, two, many);
      sent = l.sent;
    }
one_more s left (Err fault) rest few first later = record { marks = λ mark c. absurd (none_among mark c); few = omega arith; sent = few }

run_fits : (list : List Event) (s : Store) (events : ℕ) → ((event : Event) → Contains list event → FitsEvent event) → events + length list ≤ 1000000 → IsWithin s events → RunFits (run list s) (length list)
unfolding run
run_fits [] s events values room w = record { marks = λ mark c. absurd (none_among mark c); few = omega arith; sent = w.few }
run_fits (e ∷ es) s events values room w =
    one_more s (length es) (step s e) (run es (store_after s (step s e))) w.few first
    (λ h is. subst (λ (o : Outcome). RunFits (run es (store_after s o)) (length es)) (sym is)
    (run_fits es h.store (events + 1) (λ event c. values event (Contains-there e es event c)) (omega (arith, room)) (next h is)))
  where
    shown : (h : Happening) → step s e ≡ Ok h → ShowsWell h
    shown h is = shows_well s events e h is w.few w.proxy w.directory (values e (Contains-here e es))

    first : (h : Happening) → step s e ≡ Ok h → ((mark : Mark) → Contains h.marks mark → FitsMark mark) × (length h.marks ≤ 2)
    first h is = (marks_fit s events w (omega (arith, room)) h (happened s e h is) (shown h is).head, two_marks s h (marks_are s h (happened s e h is)))

    next : (h : Happening) → step s e ≡ Ok h → IsWithin h.store (events + 1)
    next h is = within_after s events w (omega (arith, room)) h (happened s e h is) (shown h is)

-- the store that a header opens
ones_fit : (n i : ℕ) → FitsEpoch (slice_index (replicate n 1) i)
ones_fit zero i = omega arith
ones_fit (suc n) zero = omega arith
ones_fit (suc n) (suc i) = ones_fit n i

in_map : {X Y : Type 0} → (f : X → Y) (P : Y → Type 0) → ((x : X) → P (f x)) → (xs : List X) (i : ℕ) (d : Y) → P d → P (slice_index_or (map f xs) i d)
in_map {X} {Y} f P all [] i d p = p
in_map {X} {Y} f P all (x ∷ xs) zero d p = all x
in_map {X} {Y} f P all (x ∷ xs) (suc i) d p = in_map f P all xs i d p

opening_views_fit : (header : Header) (numbers : List ℕ) → FitViews (map (opening_view header.sets header.keys) numbers)
opening_views_fit header numbers key = in_map (opening_view header.sets header.keys) (λ (x : View). FitsEpoch x.epoch) (λ n. omega arith) numbers key.0 no_view (omega arith)

nothing_views : FitViews []
nothing_views key = omega arith

opening_within : (header : Header) → IsHeader header → IsWithin (opening header) 0
unfolding opening
opening_within header is =
    let proxies = is.proxies.1 in
    let keys = is.keys.1 in
    let sets = is.sets.1 in
    record {
      tags = (formed_first header).tags;
      proxies = omega (arith, length-map header.proxies (opening_proxy header), proxies);
      few = omega arith;
      sent = λ message sent. absurd (nothing_sent header message sent);
      kept = λ d key. subst FitsKept (sym (nothing_kept header d key)) opening_fits;
      live = λ p handle call lives. absurd (none_live header p handle call lives);
      proxy = λ p. in_map (opening_proxy header) (FitsProxy 0) (λ at. record { begun = omega arith; seen = omega arith; views = opening_views_fit header (range_with_len 0 (length header.keys)) }) header.proxies p no_proxy (record { begun = omega arith; seen = omega arith; views = nothing_views });
      directory = record {
        some = omega arith;
        few = omega arith;
        current = λ key. ones_fit (length (map key_set header.keys)) key.0;
        keys = omega (arith, length-map (map key_set header.keys) (λ (k : KeySet). k.set.0), length-map header.keys key_set, keys);
        sets = sets;
      };
    }

whole_run_fits : (header : Header) (events : List Event) → AreEvents header events → RunFits (run_of header events) (length events)
whole_run_fits header events are =
    let few = are.few in
    run_fits events (opening header) 0 are.values (omega (arith, few)) (opening_within header are.opens)

pub runs_fit_logs : RunsFitLogs
runs_fit_logs header events are = (whole_run_fits header events are).marks

pub runs_stay_few : RunsStayFew
runs_stay_few header events are = let fit = whole_run_fits header events are in record { marks = fit.few; messages = fit.sent }
