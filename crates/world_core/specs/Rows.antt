-- Small schedules, and what they leave.
use Rattle.std.specs.Prelude.{◌≡◌, ℕ, List, [], ◌∷◌, ◌++◌, map, length, None}
use Rattle.span_base.specs.declared.ids.Call.{Call}
use Rattle.span_base.specs.declared.ids.DcId.{DcId}
use Rattle.span_base.specs.declared.ids.KeyId.{KeyId}
use Rattle.span_base.specs.declared.dc_set.DcSet.{DcSet}
use Rattle.span_base.specs.declared.policy.Quorum.{Quorum}
use Rattle.span_base.specs.declared.policy.Policy.{Policy}
use Rattle.span_base.specs.declared.policy.Policy.TheVariants.{Relay, Strong}
use Rattle.span_base.specs.declared.policy.Hop.{Hop}
use Rattle.ticket_rules.specs.declared.stamp.Stamp.{Stamp}
use Rattle.wire_msg.specs.declared.outputs.Reply.TheVariants as r
use Rattle.run_marks.specs.declared.mark.NoEpochCause.TheVariants.{MissingSet, NotQuorum}
use Rattle.run_marks.specs.declared.mark.Mark.{Mark}
use Rattle.run_marks.specs.declared.mark.Work.TheVariants as w
use Rattle.run_marks.specs.declared.mark.Mark.TheVariants as k
use Rattle.world_core.specs.declared.event.Header.{Header}
use Rattle.world_core.specs.declared.event.Event.{Event}
use Rattle.world_core.specs.declared.event.Event.TheVariants.{Start, Deliver, GiveUp, Publish}
use Rattle.world_core.specs.Run.{run_of}

-- a run of these events leaves these marks, sends so many messages, and takes every event
pub record Leaves (header : Header) (events : List Event) (marks : List Mark) (sent : ℕ) : Type 0 where
  pub marks_are : (run_of header events).marks ≡ marks
  pub sent_are : length (run_of header events).store.sent ≡ sent
  pub none_refused : (run_of header events).refused ≡ None

abbrev pub dc : ℕ → DcId
dc number = record { 0 = number }

abbrev pub key : ℕ → KeyId
key number = record { 0 = number }

abbrev pub call : ℕ → ℕ → Call
call proxy seq = record { proxy = proxy; seq = seq }

abbrev pub stamp : ℕ → ℕ → ℕ → ℕ → Stamp
stamp epoch number proxy seq = record { epoch = epoch; number = number; proxy = proxy; seq = seq }

-- replicas 0, 1 and 2
abbrev pub three : DcSet
three = record { bits = 7 }

abbrev pub member : ℕ → Quorum
member at = record { dc = dc at; read = three; write = three }

-- two members, who ask three replicas, one of which may stop
abbrev pub both_ask_three : Policy
both_ask_three = Strong 1 three (member 0 ∷ member 1 ∷ [])

-- one strong key, and a proxy for each member
abbrev pub two_proxies : Header
two_proxies = record { replicas = 3; sets = both_ask_three ∷ []; keys = record { 0 = 0 } ∷ []; proxies = dc 0 ∷ dc 1 ∷ [] }

abbrev pub hi : List ℕ
hi = 104 ∷ 105 ∷ []

-- these messages are delivered
abbrev pub deliveries : List ℕ → List Event
deliveries = map Deliver

-- a write, and then a read by the other proxy
abbrev pub write_then_read : List Event
write_then_read =
    Start 0 0 (w.Write hi) ∷ deliveries (0 ∷ 1 ∷ 3 ∷ 4 ∷ 5 ∷ 6 ∷ 8 ∷ 9 ∷ [])
    ++ Start 1 0 w.Read ∷ deliveries (14 ∷ 15 ∷ 16 ∷ 17 ∷ 19 ∷ 20 ∷ 21 ∷ 22 ∷ [])

abbrev pub write_then_read_marks : List Mark
write_then_read_marks =
    k.Begin (call 0 1) (key 0) (w.Write hi) ∷ k.Ticket (call 0 1) (stamp 1 1 0 1) ∷ k.End (call 0 1) (r.Stored (stamp 1 1 0 1))
    ∷ k.Begin (call 1 1) (key 0) w.Read ∷ k.End (call 1 1) (r.Value (stamp 1 1 0 1) hi) ∷ []

-- the policy that two members ask three replicas is listed again
abbrev pub again : Event
again = Publish (record { set = record { 0 = 0 }; policy = both_ask_three } ∷ [])

abbrev pub aa : List ℕ
aa = 170 ∷ []

abbrev pub bb : List ℕ
bb = 187 ∷ []

abbrev pub cc_value : List ℕ
cc_value = 204 ∷ []

-- one member, whose writes go to replica 1 and from there to replica 2
abbrev pub hop : ℕ → ℕ → Hop
hop child parent = record { member = dc 0; child = dc child; parent = dc parent }

abbrev pub relayed : Header
relayed = record { replicas = 3; sets = Relay 0 (record { bits = 6 }) (record { member = dc 0; at = dc 1 } ∷ []) (hop 1 1 ∷ hop 2 1 ∷ []) ∷ []; keys = record { 0 = 0 } ∷ []; proxies = dc 0 ∷ [] }

-- from then on to replica 0 and from there to replica 2
abbrev pub relayed_elsewhere : Event
relayed_elsewhere = Publish (record { set = record { 0 = 0 }; policy = Relay 0 (record { bits = 5 }) (record { member = dc 0; at = dc 0 } ∷ []) (hop 0 0 ∷ hop 2 0 ∷ []) } ∷ [])

-- a write is fenced by another one
abbrev pub two_writes : List Event
two_writes = Start 0 0 (w.Write aa) ∷ Start 1 0 (w.Write bb) ∷ deliveries (3 ∷ 4 ∷ 0 ∷ 1 ∷ 8 ∷ 9 ∷ 6 ∷ 7 ∷ 10 ∷ 11 ∷ 13 ∷ 14 ∷ [])

abbrev pub two_writes_marks : List Mark
two_writes_marks =
    k.Begin (call 0 1) (key 0) (w.Write aa) ∷ k.Ticket (call 0 1) (stamp 1 1 0 1) ∷ k.Begin (call 1 1) (key 0) (w.Write bb) ∷ k.Ticket (call 1 1) (stamp 1 1 1 1)
    ∷ k.End (call 0 1) (r.Fenced (stamp 1 1 1 1)) ∷ k.End (call 1 1) (r.Stored (stamp 1 1 1 1)) ∷ []

-- a call is given up, and the next one has its slot
abbrev pub given_up : List Event
given_up = Start 0 0 w.Read ∷ deliveries (0 ∷ 1 ∷ []) ++ GiveUp 0 1 ∷ Start 0 0 w.Read ∷ deliveries (3 ∷ 4 ∷ [])

abbrev pub given_up_marks : List Mark
given_up_marks = k.Begin (call 0 1) (key 0) w.Read ∷ k.End (call 0 1) r.GivenUp ∷ k.Begin (call 0 2) (key 0) w.Read ∷ []

-- a move, and then a write that finds the old epoch over and goes on in the new one
abbrev pub move_then_write : List Event
move_then_write =
    again ∷ Start 0 0 w.Move ∷ deliveries (0 ∷ 1 ∷ 2 ∷ 3 ∷ 5 ∷ 6 ∷ 7 ∷ 8 ∷ 10 ∷ 11 ∷ 12 ∷ 13 ∷ [])
    ++ Start 1 0 (w.Write cc_value) ∷ deliveries (14 ∷ 15 ∷ 17 ∷ 18 ∷ 19 ∷ 20 ∷ 21 ∷ 22 ∷ 24 ∷ 25 ∷ 26 ∷ 27 ∷ 29 ∷ 30 ∷ [])

abbrev pub move_then_write_marks : List Mark
move_then_write_marks =
    k.Epoch 2 ∷ k.Begin (call 0 1) (key 0) w.Move ∷ k.End (call 0 1) (r.At 2) ∷ k.Begin (call 1 1) (key 0) (w.Write cc_value)
    ∷ k.Ticket (call 1 1) (stamp 1 1 1 1) ∷ k.Ticket (call 1 1) (stamp 2 2 1 1) ∷ k.End (call 1 1) (r.Stored (stamp 2 2 1 1)) ∷ []

-- of two moves one comes too late
abbrev pub two_moves : List Event
two_moves = again ∷ Start 0 0 w.Move ∷ Start 1 0 w.Move ∷ deliveries (0 ∷ 1 ∷ 2 ∷ 3 ∷ 4 ∷ 5 ∷ 10 ∷ 11 ∷ 12 ∷ 13 ∷ 15 ∷ 16 ∷ 17 ∷ 18 ∷ 8 ∷ 9 ∷ 19 ∷ 20 ∷ 22 ∷ 23 ∷ 24 ∷ 25 ∷ 26 ∷ 27 ∷ [])

abbrev pub two_moves_marks : List Mark
two_moves_marks =
    k.Epoch 2 ∷ k.Begin (call 0 1) (key 0) w.Move ∷ k.Begin (call 1 1) (key 0) w.Move ∷ k.End (call 0 1) (r.At 2) ∷ k.End (call 1 1) (r.Stale 2) ∷ []

-- a put goes through another replica, and then a get
abbrev pub put_then_get : List Event
put_then_get = Start 0 0 (w.Put cc_value) ∷ deliveries (0 ∷ 2 ∷ 3 ∷ 1 ∷ []) ++ Start 0 0 w.Get ∷ deliveries (4 ∷ 5 ∷ [])

abbrev pub put_then_get_marks : List Mark
put_then_get_marks =
    k.Begin (call 0 1) (key 0) (w.Put cc_value) ∷ k.Ticket (call 0 1) (stamp 1 1 0 1) ∷ k.End (call 0 1) (r.Stored (stamp 1 1 0 1))
    ∷ k.Begin (call 0 2) (key 0) w.Get ∷ k.End (call 0 2) (r.Value (stamp 1 1 0 1) cc_value) ∷ []

-- an eventual key moves, and its value comes with it
abbrev pub eventual_move : List Event
eventual_move =
    Start 0 0 (w.Put cc_value) ∷ deliveries (0 ∷ 1 ∷ []) ++ relayed_elsewhere ∷ Start 0 0 w.Move
    ∷ deliveries (3 ∷ 4 ∷ 5 ∷ 6 ∷ 7 ∷ 8 ∷ 2 ∷ 9 ∷ 12 ∷ 13 ∷ 14 ∷ 10 ∷ []) ++ Start 0 0 w.Get ∷ deliveries (16 ∷ 17 ∷ [])

abbrev pub eventual_move_marks : List Mark
eventual_move_marks =
    k.Begin (call 0 1) (key 0) (w.Put cc_value) ∷ k.Ticket (call 0 1) (stamp 1 1 0 1) ∷ k.End (call 0 1) (r.Stored (stamp 1 1 0 1))
    ∷ k.Epoch 2 ∷ k.Begin (call 0 2) (key 0) w.Move ∷ k.End (call 0 2) (r.At 2)
    ∷ k.Begin (call 0 3) (key 0) w.Get ∷ k.End (call 0 3) (r.Value (stamp 1 1 0 1) cc_value) ∷ []

-- tables that open no epoch
abbrev pub faulty_tables : List Event
faulty_tables = Publish [] ∷ Publish (record { set = record { 0 = 0 }; policy = Strong 1 three (record { dc = dc 0; read = record { bits = 3 }; write = three } ∷ []) } ∷ []) ∷ []

abbrev pub faulty_tables_marks : List Mark
faulty_tables_marks = k.NoEpoch (MissingSet (record { 0 = 0 })) ∷ k.NoEpoch (NotQuorum (record { 0 = 0 })) ∷ []
