-- A script delivers no message.
use Rattle.std.proofs.Common.{◌≡◌, Bool, true, false, cond, ◌&&◌, List, [], ◌∷◌, Option, Some, None, Result, Ok, Err, ℕ, ◌+◌, subst}
use Rattle.std.specs.Prelude.{codes, IfOk}
use Rattle.std.specs.List.{All}
use Rattle.std.proofs.lemmas.List.Elements.{All-nil, All-cons}
use Rattle.run_marks.specs.declared.mark.Work.{Work}
use Rattle.run_marks.specs.declared.mark.Work.TheVariants as work
use Rattle.world_core.specs.declared.event.Header.{Header}
use Rattle.world_core.specs.declared.event.Event.{Event}
use Rattle.world_core.specs.declared.event.Event.TheVariants as event
use Rattle.schedule_text.specs.declared.setting.Form.TheVariants.{Script}
use Rattle.schedule_text.specs.declared.fault.ScheduleFault.{ScheduleFault}
use Rattle.schedule_text.specs.Flaws.{both, made, formed}
use Rattle.schedule_text.specs.Words.{words_of, is_word, two, lines_of}
use Rattle.schedule_text.specs.Numbers.{count_says}
use Rattle.schedule_text.specs.Headers.{Opened, header_says, begin_line}
use Rattle.schedule_text.specs.Tables.{setting_of, table_says}
use Rattle.schedule_text.specs.Events.{plain_call, call_says, write_says, put_says, stop_of, stop_says, give_up_says, deliver_says, event_by, by_words, event_says}
use Rattle.schedule_text.specs.Schedules.{Schedule, schedule_of, first_fault, events_of, ahead_of, unless_fault, with_events}
use Rattle.span_node.specs.Rounds.{DeliversNothing}

-- where an event was read it delivers nothing
abbrev IsSilent : {F : Type 0} → Result Event F → Type 0
IsSilent said = IfOk said DeliversNothing

-- what is made of a part
of_made : {A : Type 0} (f : A → Event) (part : _) → ((a : A) → DeliversNothing (f a)) → IsSilent (made f part)
of_made f (Ok a) silent = silent a
of_made f (Err flaw) silent = tt

of_formed : {A : Type 0} (part : Option A) (f : A → _) → ((a : A) → IsSilent (f a)) → IsSilent (formed part f)
of_formed None f silent = tt
of_formed (Some a) f silent = silent a

-- one of two
either : {F : Type 0} (b : Bool) (x y : Result Event F) → IsSilent x → IsSilent y → IsSilent (cond {A = Result Event F} b x y)
either true x y p q = p
either false x y p q = q

-- what isn't allowed isn't read
not_read : {F : Type 0} (a : Bool) (x y : Result Event F) → IsSilent y → IsSilent (cond {A = Result Event F} (a && false) x y)
not_read true x y q = q
not_read false x y q = q

silent_call : (w : Work) (words : List (List ℕ)) → IsSilent (plain_call w words)
unfolding plain_call
silent_call w words =
    of_formed (two words) (λ it. made (λ n. event.Start n.0 n.1 w) (both (count_says it.0) (count_says it.1)))
    (λ it. of_made (λ n. event.Start n.0 n.1 w) (both (count_says it.0) (count_says it.1)) (λ n. tt))

silent_write : (words : List (List ℕ)) → IsSilent (write_says words)
unfolding write_says
silent_write words = of_made (λ n. event.Start n.0.0 n.0.1 (work.Write n.1)) (call_says words) (λ n. tt)

silent_put : (words : List (List ℕ)) → IsSilent (put_says words)
unfolding put_says
silent_put words = of_made (λ n. event.Start n.0.0 n.0.1 (work.Put n.1)) (call_says words) (λ n. tt)

silent_stop : (words : List (List ℕ)) → IsSilent (stop_says words)
unfolding stop_says
silent_stop words =
    of_formed (two words) stop_of
    (λ it. either (is_word it.0 (codes "replica")) (made event.StopReplica (count_says it.1)) _ (of_made event.StopReplica (count_says it.1) (λ n. tt))
    (either (is_word it.0 (codes "proxy")) (made event.StopProxy (count_says it.1)) _ (of_made event.StopProxy (count_says it.1) (λ n. tt)) tt))

silent_give_up : (words : List (List ℕ)) → IsSilent (give_up_says words)
unfolding give_up_says
silent_give_up words =
    of_formed (two words) (λ it. made (λ n. event.GiveUp n.0 n.1) (both (count_says it.0) (count_says it.1)))
    (λ it. of_made (λ n. event.GiveUp n.0 n.1) (both (count_says it.0) (count_says it.1)) (λ n. tt))

silent_by : (header : Header) (word : List ℕ) (words : List (List ℕ)) → IsSilent (event_by (setting_of Script header) word words)
unfolding event_by
silent_by header word words =
    either (is_word word (codes "read")) (plain_call work.Read words) _ (silent_call work.Read words)
    (either (is_word word (codes "write")) (write_says words) _ (silent_write words)
    (either (is_word word (codes "get")) (plain_call work.Get words) _ (silent_call work.Get words)
    (either (is_word word (codes "getany")) (plain_call work.GetAny words) _ (silent_call work.GetAny words)
    (either (is_word word (codes "put")) (put_says words) _ (silent_put words)
    (either (is_word word (codes "move")) (plain_call work.Move words) _ (silent_call work.Move words)
    (not_read (is_word word (codes "deliver")) (deliver_says words) _
    (either (is_word word (codes "stop")) (stop_says words) _ (silent_stop words)
    (either (is_word word (codes "give-up")) (give_up_says words) _ (silent_give_up words)
    (either (is_word word (codes "publish")) (made event.Publish (table_says (setting_of Script header) words)) _
    (of_made event.Publish (table_says (setting_of Script header) words) (λ table. tt)) tt)))))))))

silent_event : (header : Header) (text : List ℕ) → IsSilent (event_says (setting_of Script header) text)
unfolding event_says
silent_event header text = by_pieces (words_of text)
  where
    by_pieces : (pieces : List (List ℕ)) → IsSilent (by_words (setting_of Script header) pieces)
    by_pieces [] = tt
    by_pieces (word ∷ words) = silent_by header word words

silent_events : (header : Header) (lines : List (List ℕ)) → All DeliversNothing (events_of (setting_of Script header) lines)
unfolding events_of
silent_events header [] = All-nil DeliversNothing
silent_events header (text ∷ texts) = by_event (event_says (setting_of Script header) text) (silent_event header text) (silent_events header texts)
  where
    by_event : (said : _) → IsSilent said → All DeliversNothing (events_of (setting_of Script header) texts) → All DeliversNothing (ahead_of said (events_of (setting_of Script header) texts))
    by_event (Ok it) silent rest = All-cons DeliversNothing it (events_of (setting_of Script header) texts) silent rest
    by_event (Err flaw) silent rest = All-nil DeliversNothing

pub scripts_deliver_nothing : (text : List ℕ) (schedule : Schedule) → schedule_of Script text ≡ Ok schedule → All DeliversNothing schedule.events
scripts_deliver_nothing text schedule h = by_header (header_says (lines_of text)) h
  where
    by_fault : (it : Opened) (fault : Option ScheduleFault)
        → unless_fault (record { header = it.header; events = events_of (setting_of Script it.header) it.lines }) fault ≡ Ok schedule → All DeliversNothing schedule.events
    by_fault it None is =
        let read : Schedule = record { header = it.header; events = events_of (setting_of Script it.header) it.lines } in
        let same : read ≡ schedule = cc in
        subst (λ (s : Schedule). All DeliversNothing s.events) same (silent_events it.header it.lines)
    by_fault it (Some fault) is = absurd (cc)

    by_header : (said : Result Opened ScheduleFault) → with_events Script said ≡ Ok schedule → All DeliversNothing schedule.events
    by_header (Err fault) is = absurd (cc)
    by_header (Ok it) is = by_fault it (first_fault (setting_of Script it.header) (begin_line it.header + 1) 1 it.lines) is
