-- A schedule that is read has a header that opens a store, and events that may happen there.
use Rattle.std.proofs.Common.{◌≡◌, ℕ, ◌+◌, Bool, true, false, cond, ◌&&◌, List, [], ◌∷◌, Option, Some, None, Result, Ok, Err, refl, subst}
use Rattle.std.specs.Prelude.{codes, IfOk}
use Rattle.std.specs.List.{All}
use Rattle.std.proofs.lemmas.List.Elements.{All-nil, All-cons}
use Rattle.run_marks.specs.declared.mark.Work.{Work}
use Rattle.run_marks.specs.declared.mark.Work.TheVariants as work
use Rattle.epoch_directory.specs.declared.table.SetPolicy.{SetPolicy}
use Rattle.world_core.specs.declared.event.Header.{Header}
use Rattle.world_core.specs.declared.event.Event.{Event}
use Rattle.world_core.specs.declared.event.Event.TheVariants as event
use Rattle.world_core.specs.Run.{IsHeader}
use Rattle.schedule_text.specs.declared.setting.Form.{Form}
use Rattle.schedule_text.specs.declared.flaw.Flaw.{Flaw}
use Rattle.schedule_text.specs.declared.flaw.Flaw.TheVariants.{Syntax}
use Rattle.schedule_text.specs.declared.fault.ScheduleFault.{ScheduleFault}
use Rattle.schedule_text.specs.Flaws.{both, made, formed, at_line}
use Rattle.schedule_text.specs.Words.{words_of, is_word, one, two, lines_of}
use Rattle.schedule_text.specs.Numbers.{count_says}
use Rattle.schedule_text.specs.Headers.{Opened, blank, is_begin, header_line, go_on, header_from, header_says, begin_line}
use Rattle.schedule_text.specs.Tables.{setting_of, table_says}
use Rattle.schedule_text.specs.Events.{plain_call, call_says, write_says, put_says, stop_of, stop_says, give_up_says, delivers, deliver_says, event_by, by_words, event_says}
use Rattle.schedule_text.specs.Schedules.{Schedule, first_fault, events_of, ahead_of, unless_fault, with_events}
use Rattle.schedule_text.specs.Laws.{MayAlways, IsSchedule, SchedulesMayHappen}
use Rattle.schedule_text.proofs.SoundHeaders.{SoFar, nothing_read, header_keeps, header_whole}
use Rattle.schedule_text.proofs.Publishing.{table_fits, table_may}

-- where an event was read it may happen
abbrev pub MayIf : Header → Result Event Flaw → Type 0
MayIf header said = IfOk said (MayAlways header)

may_plain : (header : Header) (work : Work) (words : List (List ℕ)) → MayIf header (plain_call work words)
unfolding plain_call
may_plain header work words = by_words (two words)
  where
    by_numbers : (said : Result (ℕ × ℕ) Flaw) → MayIf header (made (λ n. event.Start n.0 n.1 work) said)
    by_numbers (Ok n) = λ store modes. tt
    by_numbers (Err flaw) = tt

    by_words : (parts : Option (List ℕ × List ℕ)) → MayIf header (formed parts (λ it. made (λ n. event.Start n.0 n.1 work) (both (count_says it.0) (count_says it.1))))
    by_words None = tt
    by_words (Some it) = by_numbers (both (count_says it.0) (count_says it.1))

may_write : (header : Header) (words : List (List ℕ)) → MayIf header (write_says words)
unfolding write_says
may_write header words = by_said (call_says words)
  where
    by_said : (said : Result ((ℕ × ℕ) × List ℕ) Flaw) → MayIf header (made (λ n. event.Start n.0.0 n.0.1 (work.Write n.1)) said)
    by_said (Ok n) = λ store modes. tt
    by_said (Err flaw) = tt

may_put : (header : Header) (words : List (List ℕ)) → MayIf header (put_says words)
unfolding put_says
may_put header words = by_said (call_says words)
  where
    by_said : (said : Result ((ℕ × ℕ) × List ℕ) Flaw) → MayIf header (made (λ n. event.Start n.0.0 n.0.1 (work.Put n.1)) said)
    by_said (Ok n) = λ store modes. tt
    by_said (Err flaw) = tt

may_stop : (header : Header) (words : List (List ℕ)) → MayIf header (stop_says words)
unfolding stop_says
may_stop header words = by_words (two words)
  where
    replica : (said : Result ℕ Flaw) → MayIf header (made event.StopReplica said)
    replica (Ok n) = λ store modes. tt
    replica (Err flaw) = tt

    proxy : (said : Result ℕ Flaw) → MayIf header (made event.StopProxy said)
    proxy (Ok n) = λ store modes. tt
    proxy (Err flaw) = tt

    chosen : (a b : Bool) (said : Result ℕ Flaw) → MayIf header (cond {A = Result Event Flaw} a (made event.StopReplica said) (cond {A = Result Event Flaw} b (made event.StopProxy said) (Err Syntax)))
    chosen true b said = replica said
    chosen false true said = proxy said
    chosen false false said = tt

    by_words : (parts : Option (List ℕ × List ℕ)) → MayIf header (formed parts stop_of)
    by_words None = tt
    by_words (Some it) = chosen (is_word it.0 (codes "replica")) (is_word it.0 (codes "proxy")) (count_says it.1)

may_give_up : (header : Header) (words : List (List ℕ)) → MayIf header (give_up_says words)
unfolding give_up_says
may_give_up header words = by_words (two words)
  where
    by_numbers : (said : Result (ℕ × ℕ) Flaw) → MayIf header (made (λ n. event.GiveUp n.0 n.1) said)
    by_numbers (Ok n) = λ store modes. tt
    by_numbers (Err flaw) = tt

    by_words : (parts : Option (List ℕ × List ℕ)) → MayIf header (formed parts (λ it. made (λ n. event.GiveUp n.0 n.1) (both (count_says it.0) (count_says it.1))))
    by_words None = tt
    by_words (Some it) = by_numbers (both (count_says it.0) (count_says it.1))

may_deliver : (header : Header) (words : List (List ℕ)) → MayIf header (deliver_says words)
unfolding deliver_says
may_deliver header words = by_word (one words)
  where
    by_number : (said : Result ℕ Flaw) → MayIf header (made event.Deliver said)
    by_number (Ok n) = λ store modes. tt
    by_number (Err flaw) = tt

    by_word : (part : Option (List ℕ)) → MayIf header (formed part (λ text. made event.Deliver (count_says text)))
    by_word None = tt
    by_word (Some text) = by_number (count_says text)

may_publish : (form : Form) (header : Header) (words : List (List ℕ)) → MayIf header (made event.Publish (table_says (setting_of form header) words))
may_publish form header words = by_table (table_says (setting_of form header) words) refl
  where
    by_table : (said : Result (List SetPolicy) Flaw) → table_says (setting_of form header) words ≡ said → MayIf header (made event.Publish said)
    by_table (Ok table) is = λ store modes. table_may header table store.directory (table_fits (setting_of form header) words table is) modes
    by_table (Err flaw) is = tt

-- one of two
either : (P : Result Event Flaw → Type 0) (b : Bool) (x y : Result Event Flaw) → P x → P y → P (cond {A = Result Event Flaw} b x y)
either P true x y p q = p
either P false x y p q = q

pub may_by : (form : Form) (header : Header) (word : List ℕ) (words : List (List ℕ)) → MayIf header (event_by (setting_of form header) word words)
unfolding event_by
may_by form header word words =
    let P : Result Event Flaw → Type 0 = MayIf header in
    either P (is_word word (codes "read")) (plain_call work.Read words) _ (may_plain header work.Read words)
    (either P (is_word word (codes "write")) (write_says words) _ (may_write header words)
    (either P (is_word word (codes "get")) (plain_call work.Get words) _ (may_plain header work.Get words)
    (either P (is_word word (codes "getany")) (plain_call work.GetAny words) _ (may_plain header work.GetAny words)
    (either P (is_word word (codes "put")) (put_says words) _ (may_put header words)
    (either P (is_word word (codes "move")) (plain_call work.Move words) _ (may_plain header work.Move words)
    (either P (is_word word (codes "deliver") && delivers form) (deliver_says words) _ (may_deliver header words)
    (either P (is_word word (codes "stop")) (stop_says words) _ (may_stop header words)
    (either P (is_word word (codes "give-up")) (give_up_says words) _ (may_give_up header words)
    (either P (is_word word (codes "publish")) (made event.Publish (table_says (setting_of form header) words)) (Err Syntax) (may_publish form header words) tt)))))))))

may_event : (form : Form) (header : Header) (text : List ℕ) → MayIf header (event_says (setting_of form header) text)
unfolding event_says
may_event form header text = by_pieces (words_of text)
  where
    by_pieces : (pieces : List (List ℕ)) → MayIf header (by_words (setting_of form header) pieces)
    by_pieces [] = tt
    by_pieces (word ∷ words) = may_by form header word words

events_may : (form : Form) (header : Header) (lines : List (List ℕ)) → All (MayAlways header) (events_of (setting_of form header) lines)
unfolding events_of
events_may form header [] = All-nil (MayAlways header)
events_may form header (text ∷ texts) = by_event (event_says (setting_of form header) text) (may_event form header text) (events_may form header texts)
  where
    by_event : (said : Result Event Flaw) → MayIf header said → All (MayAlways header) (events_of (setting_of form header) texts) → All (MayAlways header) (ahead_of said (events_of (setting_of form header) texts))
    by_event (Ok event) may rest = All-cons (MayAlways header) event (events_of (setting_of form header) texts) may rest
    by_event (Err flaw) may rest = All-nil (MayAlways header)

-- the header of a text opens a store
from_opens : (line : ℕ) (header : Header) (lines : List (List ℕ)) → SoFar header → IfOk (header_from line header lines) (λ it. IsHeader it.header)
unfolding header_from
from_opens line header [] so = tt
from_opens line header (text ∷ texts) so = by_begin (is_begin header text) refl (λ next keeps. from_opens (line + 1) next texts keeps)
  where
    by_line : (said : Result Header Flaw) → header_line header text ≡ said → ((next : Header) → SoFar next → IfOk (header_from (line + 1) next texts) (λ it. IsHeader it.header))
        → IfOk (go_on line said (λ next. header_from (line + 1) next texts)) (λ it. IsHeader it.header)
    by_line (Ok next) is more = more next (header_keeps header next text is so)
    by_line (Err flaw) is more = tt

    by_begin : (b : Bool) → is_begin header text ≡ b → ((next : Header) → SoFar next → IfOk (header_from (line + 1) next texts) (λ it. IsHeader it.header))
        → IfOk (cond {A = Result Opened ScheduleFault} b (Ok (record { header = header; lines = texts })) (go_on line (header_line header text) (λ next. header_from (line + 1) next texts))) (λ it. IsHeader it.header)
    by_begin true is more = header_whole header text is so
    by_begin false is more = by_line (header_line header text) refl more

pub header_opens : (lines : List (List ℕ)) → IfOk (header_says lines) (λ it. IsHeader it.header)
unfolding header_says
header_opens [] = tt
header_opens (text ∷ texts) = either_opened (is_word text (codes "span-schedule 1"))
  where
    either_opened : (b : Bool) → IfOk (cond {A = Result Opened ScheduleFault} b (header_from 2 blank texts) (Err (at_line 1 Syntax))) (λ it. IsHeader it.header)
    either_opened true = from_opens 2 blank texts nothing_read
    either_opened false = tt

pub schedules_may : SchedulesMayHappen
schedules_may form text schedule h = by_header (header_says (lines_of text)) (header_opens (lines_of text)) h
  where
    by_fault : (it : Opened) → IsHeader it.header → (fault : Option ScheduleFault)
        → unless_fault (record { header = it.header; events = events_of (setting_of form it.header) it.lines }) fault ≡ Ok schedule → IsSchedule schedule
    by_fault it opens None is =
        let read : Schedule = record { header = it.header; events = events_of (setting_of form it.header) it.lines } in
        let same : read ≡ schedule = cc in
        subst IsSchedule same (record { header = opens; events = events_may form it.header it.lines })
    by_fault it opens (Some fault) is = absurd (cc)

    by_header : (said : Result Opened ScheduleFault) → IfOk said (λ it. IsHeader it.header) → with_events form said ≡ Ok schedule → IsSchedule schedule
    by_header (Err fault) opens is = absurd (cc)
    by_header (Ok it) opens is = by_fault it opens (first_fault (setting_of form it.header) (begin_line it.header + 1) 1 it.lines) is
