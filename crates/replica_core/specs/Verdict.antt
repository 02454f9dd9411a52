-- A request is judged once: what is put out for it, and what it changes, go by the verdict.
use Rattle.std.specs.Prelude.{ℕ, Bool, true, false, if◌then◌else◌, List, [], ◌++◌}
use Rattle.ticket_rules.specs.Stamp.{grants, stores}
use Rattle.wire_msg.specs.declared.message.Message.{Message}
use Rattle.wire_msg.specs.declared.message.Message.TheVariants as m
use Rattle.wire_msg.specs.declared.outputs.Post.{Post}
use Rattle.wire_msg.specs.Posts.{tag_of, to_proxy}
use Rattle.replica_core.specs.declared.kept.Kept.{Kept}
use Rattle.replica_core.specs.declared.verdict.Verdict.{Verdict}
use Rattle.replica_core.specs.declared.verdict.Verdict.TheVariants.{Gone, Held, Yes, Have, Silent}
use Rattle.replica_core.specs.Keeping.{is_over, merge, after_confirm, after_freeze}
use Rattle.replica_core.specs.Answering.{gone, held, done, have, pushes_to}

-- Gone, where the epoch is over
abbrev pub unless_over : Kept → ℕ → Verdict → Verdict
unless_over kept epoch verdict = if is_over kept epoch then Gone else verdict

-- Held, where the stamp isn't taken
abbrev pub if_taken : Bool → Verdict
if_taken taken = if taken then Yes else Held

-- the verdict on a message
abbrev pub judged : Kept → Message → Verdict
judged kept (m.Read tag key epoch) = unless_over kept epoch Have
judged kept (m.Ask tag key stamp) = unless_over kept stamp.epoch (if_taken (grants stamp kept.fence kept.version))
judged kept (m.Store tag key stamp value) = unless_over kept stamp.epoch (if_taken (stores stamp kept.fence))
judged kept (m.Repair tag key epoch stamp value) = unless_over kept epoch Yes
judged kept (m.Freeze tag key epoch) = Have
judged kept (m.Seed tag key epoch stamp value) = unless_over kept epoch Yes
judged kept (m.Push tag key stamp onward value) = unless_over kept stamp.epoch Yes
judged kept _ = Silent

-- a push that is taken goes on to the replicas of its set
abbrev pub pushed_on : Message → List Post
pushed_on (m.Push tag key stamp onward value) = pushes_to tag key stamp value onward
pushed_on _ = []

-- what is put out by the verdict
abbrev pub posts_by : Verdict → ℕ → Kept → Message → List Post
posts_by Gone number kept message = to_proxy (tag_of message) (gone number kept (tag_of message))
posts_by Held number kept message = to_proxy (tag_of message) (held number kept (tag_of message))
posts_by Yes number kept message = to_proxy (tag_of message) (done number (tag_of message)) ++ pushed_on message
posts_by Have number kept message = to_proxy (tag_of message) (have number kept (tag_of message))
posts_by Silent number kept message = []

-- what a message makes of what is kept, where it isn't refused
abbrev pub changed : Kept → Message → Kept
changed kept (m.Ask tag key stamp) = record kept { fence = stamp }
changed kept (m.Store tag key stamp value) = merge kept stamp value
changed kept (m.Repair tag key epoch stamp value) = merge kept stamp value
changed kept (m.Confirm tag key stamp) = after_confirm kept stamp
changed kept (m.Freeze tag key epoch) = after_freeze kept epoch
changed kept (m.Seed tag key epoch stamp value) = merge kept stamp value
changed kept (m.Push tag key stamp onward value) = merge kept stamp value
changed kept _ = kept

-- the verdict refuses the request
abbrev pub is_refusal : Verdict → Bool
is_refusal Gone = true
is_refusal Held = true
is_refusal Yes = false
is_refusal Have = false
is_refusal Silent = false

-- what is kept by the verdict
abbrev pub kept_by : Verdict → Kept → Message → Kept
kept_by verdict kept message = if is_refusal verdict then kept else changed kept message
