-- What the line of an event says.
use Rattle.std.specs.Prelude.{ℕ, Bool, true, false, ◌&&◌, if◌then◌else◌, List, [], ◌∷◌, codes, Result, Err}
use Rattle.run_marks.specs.declared.mark.Work.{Work}
use Rattle.run_marks.specs.declared.mark.Work.TheVariants as work
use Rattle.world_core.specs.declared.event.Event.{Event}
use Rattle.world_core.specs.declared.event.Event.TheVariants as event
use Rattle.schedule_text.specs.declared.setting.Form.{Form}
use Rattle.schedule_text.specs.declared.setting.Form.TheVariants as form
use Rattle.schedule_text.specs.declared.setting.Setting.{Setting}
use Rattle.schedule_text.specs.declared.flaw.Flaw.{Flaw}
use Rattle.schedule_text.specs.declared.flaw.Flaw.TheVariants.{Syntax}
use Rattle.schedule_text.specs.Flaws.{both, made, formed}
use Rattle.schedule_text.specs.Words.{words_of, is_word, one, two, three}
use Rattle.schedule_text.specs.Numbers.{count_says, value_says}
use Rattle.schedule_text.specs.Tables.{table_says}

-- a call without a value: P K
unfoldable pub plain_call : Work → List (List ℕ) → Result Event Flaw
plain_call work words =
    formed (two words) (λ it. made (λ n. event.Start n.0 n.1 work) (both (count_says it.0) (count_says it.1)))

-- the proxy, the key and the value of a call with a value: P K VALUE
unfoldable pub call_says : List (List ℕ) → Result ((ℕ × ℕ) × List ℕ) Flaw
call_says words = formed (three words) (λ it. both (both (count_says it.0) (count_says it.1)) (value_says it.2))

unfoldable pub write_says : List (List ℕ) → Result Event Flaw
write_says words = made (λ n. event.Start n.0.0 n.0.1 (work.Write n.1)) (call_says words)

unfoldable pub put_says : List (List ℕ) → Result Event Flaw
put_says words = made (λ n. event.Start n.0.0 n.0.1 (work.Put n.1)) (call_says words)

-- replica R, or proxy P
abbrev pub stop_of : List ℕ × List ℕ → Result Event Flaw
stop_of words =
    if is_word words.0 (codes "replica") then made event.StopReplica (count_says words.1)
    else if is_word words.0 (codes "proxy") then made event.StopProxy (count_says words.1)
    else Err Syntax

unfoldable pub stop_says : List (List ℕ) → Result Event Flaw
stop_says words = formed (two words) stop_of

unfoldable pub give_up_says : List (List ℕ) → Result Event Flaw
give_up_says words = formed (two words) (λ it. made (λ n. event.GiveUp n.0 n.1) (both (count_says it.0) (count_says it.1)))

-- messages are delivered by the schedule itself
abbrev pub delivers : Form → Bool
delivers form.Plain = true
delivers form.Script = false

unfoldable pub deliver_says : List (List ℕ) → Result Event Flaw
deliver_says words = formed (one words) (λ text. made event.Deliver (count_says text))

-- the event of this word
unfoldable pub event_by : Setting → List ℕ → List (List ℕ) → Result Event Flaw
event_by setting word words =
    if is_word word (codes "read") then plain_call work.Read words
    else if is_word word (codes "write") then write_says words
    else if is_word word (codes "get") then plain_call work.Get words
    else if is_word word (codes "getany") then plain_call work.GetAny words
    else if is_word word (codes "put") then put_says words
    else if is_word word (codes "move") then plain_call work.Move words
    else if is_word word (codes "deliver") && delivers setting.form then deliver_says words
    else if is_word word (codes "stop") then stop_says words
    else if is_word word (codes "give-up") then give_up_says words
    else if is_word word (codes "publish") then made event.Publish (table_says setting words)
    else Err Syntax

abbrev pub by_words : Setting → List (List ℕ) → Result Event Flaw
by_words setting [] = Err Syntax
by_words setting (word ∷ words) = event_by setting word words

-- what a line says, which stands here without its line feed
unfoldable pub event_says : Setting → List ℕ → Result Event Flaw
event_says setting text = by_words setting (words_of text)
