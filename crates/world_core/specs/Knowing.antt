-- What a proxy learns from each message that it takes, whether or not the message's call is live.
use Rattle.std.specs.Prelude.{ℕ, nat_lt, max, if◌then◌else◌, List, slice_set}
use Rattle.span_base.specs.declared.ids.KeyId.{KeyId}
use Rattle.span_base.specs.declared.policy.Policy.{Policy}
use Rattle.wire_msg.specs.declared.message.Message.{Message}
use Rattle.wire_msg.specs.declared.message.Message.TheVariants as m
use Rattle.wire_msg.specs.declared.outputs.View.{View}
use Rattle.world_core.specs.State.{Proxy, view_at}

-- the greatest number that was seen: a version, a mark and a stamp that is held show theirs
abbrev pub seen_after : ℕ → Message → ℕ
seen_after seen (m.Have tag replica version mark value) = max (max seen version.number) mark.number
seen_after seen (m.Held tag replica stamp) = max seen stamp.number
seen_after seen _ = seen

-- a later epoch is known from now on
abbrev pub raised : List View → KeyId → ℕ → Policy → List View
raised views key epoch policy =
    if nat_lt (view_at views key).epoch epoch then slice_set views key.0 (record { key = key; epoch = epoch; policy = policy }) else views

-- what is known of the keys: a Here shows its key's current epoch
abbrev pub views_after : List View → Message → List View
views_after views (m.Here tag key epoch policy latest_epoch latest_policy) = raised views key epoch policy
views_after views _ = views

-- the proxy with what the message shows
abbrev pub learned : Proxy → Message → Proxy
learned proxy message = record proxy { seen = seen_after proxy.seen message; views = views_after proxy.views message }
