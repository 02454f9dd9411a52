-- What the entries of a table say that is to be published.
use Rattle.std.specs.Prelude.{ℕ, Bool, ◌&&◌, true, false, if◌then◌else◌, List, [], ◌∷◌, ◌++◌, length, map, slice_index_or, Result, Ok, Err}
use Rattle.std.specs.List.{list_all, list_any}
use Rattle.span_base.specs.declared.policy.Policy.{Policy}
use Rattle.span_base.specs.declared.policy.Policy.TheVariants as policy
use Rattle.wire_msg.specs.Sound.{are_distinct, is_sound_policy}
use Rattle.epoch_directory.specs.declared.table.SetPolicy.{SetPolicy}
use Rattle.epoch_directory.specs.Tables.{is_line_of}
use Rattle.world_core.specs.declared.event.Header.{Header}
use Rattle.schedule_text.specs.declared.setting.Form.{Form}
use Rattle.schedule_text.specs.declared.setting.Mode.{Mode}
use Rattle.schedule_text.specs.declared.setting.Mode.TheVariants as mode
use Rattle.schedule_text.specs.declared.setting.Setting.{Setting}
use Rattle.schedule_text.specs.declared.flaw.Flaw.{Flaw}
use Rattle.schedule_text.specs.declared.flaw.Flaw.TheVariants.{Syntax, Range}
use Rattle.schedule_text.specs.declared.flaw.Flaw.TheVariants as flaw
use Rattle.schedule_text.specs.Flaws.{both, made, judged}
use Rattle.schedule_text.specs.Words.{entries_of}
use Rattle.schedule_text.specs.Numbers.{count_says, one_of}
use Rattle.schedule_text.specs.Policies.{policy_says}

abbrev pub mode_of : Policy → Mode
mode_of (policy.Direct f replicas primary) = mode.Direct
mode_of (policy.Relay f replicas primary parent) = mode.Relay
mode_of (policy.Strong f replicas members) = mode.Strong

-- what the events of a schedule are judged by: its form, the number of replicas, the modes of the sets
abbrev pub setting_of : Form → Header → Setting
setting_of form header = record { form = form; replicas = header.replicas; modes = map mode_of header.sets }

-- SET POLICY
unfoldable pub entry_says : Setting → List (List ℕ) → Result SetPolicy Flaw
entry_says setting [] = Err Syntax
entry_says setting (set ∷ words) =
    made (λ it. record { set = record { 0 = it.0 }; policy = it.1 })
    (both (judged (count_says set) (one_of (length setting.modes))) (policy_says setting.replicas words))

-- one entry more, of a set that isn't listed yet
abbrev pub with_new : List SetPolicy → SetPolicy → Result (List SetPolicy) Flaw
with_new table entry = if list_any (is_line_of entry.set.0) table then Err Range else Ok (table ++ entry ∷ [])

abbrev pub with_entry : Result (List SetPolicy) Flaw → Result SetPolicy Flaw → Result (List SetPolicy) Flaw
with_entry table entry = judged (both table entry) (λ it. with_new it.0 it.1)

-- these entries and those of these words
unfoldable pub entries_from : Setting → Result (List SetPolicy) Flaw → List (List (List ℕ)) → Result (List SetPolicy) Flaw
entries_from setting table [] = table
entries_from setting table (words ∷ entries) = entries_from setting (with_entry table (entry_says setting words)) entries

-- both are the same mode
abbrev pub is_mode : Mode → Mode → Bool
is_mode mode.Direct mode.Direct = true
is_mode mode.Relay mode.Relay = true
is_mode mode.Strong mode.Strong = true
is_mode _ _ = false

-- an eventual policy is sound; the members of a strong one are distinct
abbrev pub may_publish : Policy → Bool
may_publish (policy.Direct f replicas primary) = is_sound_policy (policy.Direct f replicas primary)
may_publish (policy.Relay f replicas primary parent) = is_sound_policy (policy.Relay f replicas primary parent)
may_publish (policy.Strong f replicas members) = are_distinct (map (λ q. q.dc.0) members)

-- the policy has its set's mode, and may be published
abbrev pub fits_set : List Mode → SetPolicy → Bool
fits_set modes entry = is_mode (slice_index_or modes entry.set.0 mode.Direct) (mode_of entry.policy) && may_publish entry.policy

abbrev pub fitting : List Mode → List SetPolicy → Result (List SetPolicy) Flaw
fitting modes table = if list_all (fits_set modes) table then Ok table else Err flaw.Policy

-- the table of the words behind `publish`
unfoldable pub table_says : Setting → List (List ℕ) → Result (List SetPolicy) Flaw
table_says setting [] = Ok []
table_says setting (word ∷ words) = judged (entries_from setting (Ok []) (entries_of (word ∷ words))) (fitting setting.modes)
