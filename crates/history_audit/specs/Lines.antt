-- What a line of a log says: a mark, or how many messages were sent.
use Rattle.std.specs.Prelude.{ℕ, if◌then◌else◌, List, codes, Option, Some, None, option_map}
use Rattle.span_base.specs.declared.ids.KeyId.{KeyId}
use Rattle.span_base.specs.declared.ids.SetId.{SetId}
use Rattle.wire_msg.specs.declared.outputs.Reply.{Reply}
use Rattle.wire_msg.specs.declared.outputs.Reply.TheVariants as r
use Rattle.run_marks.specs.declared.mark.Work.{Work}
use Rattle.run_marks.specs.declared.mark.Work.TheVariants as w
use Rattle.run_marks.specs.declared.mark.NoEpochCause.{NoEpochCause}
use Rattle.run_marks.specs.declared.mark.NoEpochCause.TheVariants.{MissingSet, NotQuorum}
use Rattle.run_marks.specs.declared.mark.Mark.{Mark}
use Rattle.run_marks.specs.declared.mark.Mark.TheVariants as k
use Rattle.history_audit.specs.declared.line.LogLine.{LogLine}
use Rattle.history_audit.specs.declared.line.LogLine.TheVariants as l
use Rattle.history_audit.specs.Words.{◌>>=◌, cut, is_word, number_up_to, count_says, call_says, stamp_says, value_says}

-- a key, one of 1,000
unfoldable pub key_says : List ℕ → Option KeyId
key_says text = option_map (λ n. record { 0 = n }) (number_up_to 999 text)

-- a set, one of 64
unfoldable pub set_says : List ℕ → Option SetId
set_says text = option_map (λ n. record { 0 = n }) (number_up_to 63 text)

-- a key, and the value behind it
unfoldable pub keyed_says : List ℕ → Option (KeyId × List ℕ)
keyed_says text = do
  parts ← cut 32 text
  key ← key_says parts.0
  value ← value_says parts.1
  Some (key, value)

-- the work of this word, and its key
unfoldable pub work_by : List ℕ → List ℕ → Option (KeyId × Work)
work_by word text =
    if is_word word (codes "read") then option_map (λ key. (key, w.Read)) (key_says text)
    else if is_word word (codes "write") then option_map (λ it. (it.0, w.Write it.1)) (keyed_says text)
    else if is_word word (codes "get") then option_map (λ key. (key, w.Get)) (key_says text)
    else if is_word word (codes "getany") then option_map (λ key. (key, w.GetAny)) (key_says text)
    else if is_word word (codes "put") then option_map (λ it. (it.0, w.Put it.1)) (keyed_says text)
    else if is_word word (codes "move") then option_map (λ key. (key, w.Move)) (key_says text)
    else None

-- what a call does, and with which key
unfoldable pub work_says : List ℕ → Option (KeyId × Work)
work_says text = do
  parts ← cut 32 text
  work_by parts.0 parts.1

-- an end of one word
unfoldable pub word_reply : List ℕ → Option Reply
word_reply text =
    if is_word text (codes "unsure") then Some r.Unsure
    else if is_word text (codes "outside") then Some r.Outside
    else if is_word text (codes "full") then Some r.Full
    else if is_word text (codes "numbers-out") then Some r.NumbersOut
    else if is_word text (codes "given-up") then Some r.GivenUp
    else None

-- an answer: a stamp and a value, a stamp, or an epoch
unfoldable pub answer_says : List ℕ → Option Reply
answer_says text = of_value (cut 32 text)
  where
    of_stamp : Option (List ℕ × List ℕ) → Option Reply
    of_stamp None = option_map (λ epoch. r.At epoch) (count_says text)
    of_stamp (Some parts) = option_map (λ stamp. r.Stored stamp) (stamp_says text)

    of_value : Option (List ℕ × List ℕ) → Option Reply
    of_value None = of_stamp (cut 46 text)
    of_value (Some parts) = do
      stamp ← stamp_says parts.0
      value ← value_says parts.1
      Some (r.Value stamp value)

-- an end of a word and what it tells
unfoldable pub reply_by : List ℕ → List ℕ → Option Reply
reply_by word text =
    if is_word word (codes "ok") then answer_says text
    else if is_word word (codes "moved") then option_map (λ epoch. r.Moved epoch) (count_says text)
    else if is_word word (codes "fenced") then option_map (λ held. r.Fenced held) (stamp_says text)
    else if is_word word (codes "current") then option_map (λ epoch. r.Current epoch) (count_says text)
    else if is_word word (codes "stale") then option_map (λ epoch. r.Stale epoch) (count_says text)
    else None

-- how a call ended
unfoldable pub reply_says : List ℕ → Option Reply
reply_says text = by_words (cut 32 text)
  where
    by_words : Option (List ℕ × List ℕ) → Option Reply
    by_words None = word_reply text
    by_words (Some parts) = reply_by parts.0 parts.1

-- the cause of this word, and its set
unfoldable pub cause_by : List ℕ → List ℕ → Option NoEpochCause
cause_by word text =
    if is_word word (codes "missing") then option_map (λ set. MissingSet set) (set_says text)
    else if is_word word (codes "quorum") then option_map (λ set. NotQuorum set) (set_says text)
    else None

-- why a table opened no epoch
unfoldable pub cause_says : List ℕ → Option NoEpochCause
cause_says text = do
  parts ← cut 32 text
  cause_by parts.0 parts.1

unfoldable pub begin_says : List ℕ → Option Mark
begin_says text = do
  parts ← cut 32 text
  call ← call_says parts.0
  does ← work_says parts.1
  Some (k.Begin call does.0 does.1)

unfoldable pub ticket_says : List ℕ → Option Mark
ticket_says text = do
  parts ← cut 32 text
  call ← call_says parts.0
  stamp ← stamp_says parts.1
  Some (k.Ticket call stamp)

unfoldable pub end_says : List ℕ → Option Mark
end_says text = do
  parts ← cut 32 text
  call ← call_says parts.0
  reply ← reply_says parts.1
  Some (k.End call reply)

-- the mark of this kind
unfoldable pub mark_by : List ℕ → List ℕ → Option Mark
mark_by kind text =
    if is_word kind (codes "begin") then begin_says text
    else if is_word kind (codes "ticket") then ticket_says text
    else if is_word kind (codes "end") then end_says text
    else if is_word kind (codes "epoch") then option_map (λ epoch. k.Epoch epoch) (count_says text)
    else if is_word kind (codes "no-epoch") then option_map (λ cause. k.NoEpoch cause) (cause_says text)
    else None

-- the line of this kind
unfoldable pub line_by : List ℕ → List ℕ → Option LogLine
line_by kind text =
    if is_word kind (codes "messages") then option_map (λ sent. l.Messages sent) (count_says text)
    else option_map (λ mark. l.Mark mark) (mark_by kind text)

-- what a line says, which stands here without its line feed
unfoldable pub line_says : List ℕ → Option LogLine
line_says text = do
  parts ← cut 32 text
  line_by parts.0 parts.1
