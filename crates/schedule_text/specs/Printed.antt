-- The one text of a schedule: of its header and of each event, as words joined by spaces.
use Rattle.std.specs.Prelude.{ℕ, Bool, true, false, if◌then◌else◌, List, [], ◌∷◌, ◌++◌, codes, length, map, take, drop}
use Rattle.std.specs.List.{flat_map}
use Rattle.std.specs.Fmt.{decimal}
use Rattle.span_base.specs.DcSet.{centres_of}
use Rattle.span_base.specs.declared.dc_set.DcSet.{DcSet}
use Rattle.span_base.specs.declared.ids.DcId.{DcId}
use Rattle.span_base.specs.declared.ids.SetId.{SetId}
use Rattle.span_base.specs.declared.policy.Near.{Near}
use Rattle.span_base.specs.declared.policy.Hop.{Hop}
use Rattle.span_base.specs.declared.policy.Quorum.{Quorum}
use Rattle.span_base.specs.declared.policy.Policy.{Policy}
use Rattle.span_base.specs.declared.policy.Policy.TheVariants as policy
use Rattle.run_marks.specs.declared.mark.Work.{Work}
use Rattle.run_marks.specs.declared.mark.Work.TheVariants as work
use Rattle.run_marks.specs.Text.{value_text}
use Rattle.epoch_directory.specs.declared.table.SetPolicy.{SetPolicy}
use Rattle.world_core.specs.declared.event.Header.{Header}
use Rattle.world_core.specs.declared.event.Event.{Event}
use Rattle.world_core.specs.declared.event.Event.TheVariants as event
use Rattle.schedule_text.specs.Schedules.{Schedule}

-- the pieces, with this item between each two
unfoldable pub joined : {A : Type 0} → A → List (List A) → List A
joined item [] = []
joined item (piece ∷ pieces) = piece ++ flat_map (λ next. item ∷ next) pieces

-- words, each behind a space
abbrev pub spaced : List (List ℕ) → List ℕ
spaced words = flat_map (λ word. 32 ∷ word) words

-- words joined by spaces
abbrev pub line_text : List (List ℕ) → List ℕ
line_text words = joined 32 words

-- numbers joined by commas
abbrev pub commas : List ℕ → List ℕ
commas numbers = joined 44 (map decimal numbers)

-- one number more in a list of numbers that has some already or none, where it is to be listed
unfoldable pub next_text : Bool → Bool → ℕ → List ℕ
next_text some true number = if some then codes "," ++ decimal number else decimal number
next_text some false number = []

-- the replicas of a set, in rising order
abbrev pub replicas_text : DcSet → List ℕ
replicas_text set = commas (centres_of set)

-- MEMBER/READ/WRITE
unfoldable pub quorum_text : Quorum → List ℕ
quorum_text q = joined 47 (decimal q.dc.0 ∷ replicas_text q.read ∷ replicas_text q.write ∷ [])

-- MEMBER>PRIMARY
unfoldable pub near_text : Near → List ℕ
near_text near = joined 62 (decimal near.member.0 ∷ decimal near.at.0 ∷ [])

-- the parents of these hops
abbrev pub parents_text : List Hop → List ℕ
parents_text hops = commas (map (λ hop. hop.parent.0) hops)

-- MEMBER>PRIMARY>PARENTS
unfoldable pub lane_text : Near → List Hop → List ℕ
lane_text near hops = joined 62 (decimal near.member.0 ∷ decimal near.at.0 ∷ parents_text hops ∷ [])

-- the members of a relay policy, of whose hops each has so many, one member's behind another's
unfoldable pub lane_words : ℕ → List Hop → List Near → List (List ℕ)
lane_words replicas hops [] = []
lane_words replicas hops (near ∷ nears) = lane_text near (take replicas hops) ∷ lane_words replicas (drop replicas hops) nears

-- the words of a policy
unfoldable pub policy_words : Policy → List (List ℕ)
policy_words (policy.Strong f replicas members) = codes "strong" ∷ decimal f ∷ map quorum_text members
policy_words (policy.Direct f replicas primary) = codes "direct" ∷ decimal f ∷ replicas_text replicas ∷ map near_text primary
policy_words (policy.Relay f replicas primary parent) =
    codes "relay" ∷ decimal f ∷ replicas_text replicas ∷ lane_words (length (centres_of replicas)) parent primary

-- the words of an entry of a table
unfoldable pub entry_words : SetPolicy → List (List ℕ)
entry_words entry = decimal entry.set.0 ∷ policy_words entry.policy

-- the words of a table: its entries, joined by the word `;`
abbrev pub table_words : List SetPolicy → List (List ℕ)
table_words table = joined (codes ";") (map entry_words table)

-- the words of a call of this proxy and key
unfoldable pub call_words : ℕ → ℕ → Work → List (List ℕ)
call_words proxy key work.Read = codes "read" ∷ decimal proxy ∷ decimal key ∷ []
call_words proxy key (work.Write value) = codes "write" ∷ decimal proxy ∷ decimal key ∷ value_text value ∷ []
call_words proxy key work.Get = codes "get" ∷ decimal proxy ∷ decimal key ∷ []
call_words proxy key work.GetAny = codes "getany" ∷ decimal proxy ∷ decimal key ∷ []
call_words proxy key (work.Put value) = codes "put" ∷ decimal proxy ∷ decimal key ∷ value_text value ∷ []
call_words proxy key work.Move = codes "move" ∷ decimal proxy ∷ decimal key ∷ []

-- the words of an event
unfoldable pub event_words : Event → List (List ℕ)
event_words (event.Start proxy key work) = call_words proxy key work
event_words (event.Deliver message) = codes "deliver" ∷ decimal message ∷ []
event_words (event.StopReplica replica) = codes "stop" ∷ codes "replica" ∷ decimal replica ∷ []
event_words (event.StopProxy proxy) = codes "stop" ∷ codes "proxy" ∷ decimal proxy ∷ []
event_words (event.GiveUp proxy seq) = codes "give-up" ∷ decimal proxy ∷ decimal seq ∷ []
event_words (event.Publish table) = codes "publish" ∷ table_words table

-- the line of an event, without its line feed
abbrev pub event_text : Event → List ℕ
event_text event = line_text (event_words event)

-- a line with its line feed
abbrev pub ended : List ℕ → List ℕ
ended line = line ++ codes "\n"

-- the lines of a header: of its version and its replicas, of each first policy, of each key, of each proxy
unfoldable pub first_text : ℕ → List ℕ
first_text replicas = codes "span-schedule 1\nreplicas " ++ decimal replicas ++ codes "\n"

unfoldable pub set_text : Policy → List ℕ
set_text policy = ended (line_text (codes "set" ∷ policy_words policy))

unfoldable pub key_text : SetId → List ℕ
key_text set = ended (line_text (codes "key" ∷ decimal set.0 ∷ []))

unfoldable pub proxy_text : DcId → List ℕ
proxy_text centre = ended (line_text (codes "proxy" ∷ decimal centre.0 ∷ []))

-- a header, up to the line `begin`
abbrev pub header_text : Header → List ℕ
header_text header =
    first_text header.replicas ++ flat_map set_text header.sets ++ flat_map key_text header.keys ++ flat_map proxy_text header.proxies ++ codes "begin\n"

-- the text of a schedule: its header, and a line for each event
abbrev pub schedule_text : Schedule → List ℕ
schedule_text schedule = header_text schedule.header ++ flat_map (λ event. ended (event_text event)) schedule.events
