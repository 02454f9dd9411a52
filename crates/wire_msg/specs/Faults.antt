-- Where a frame is faulty. A frame is read from left to right.
use Rattle.std.specs.Prelude.{ℕ, zero, suc, ◌+◌, ◌-◌, ◌^◌, Bool, ◌&&◌, ◌==◌, nat_lt, nat_le, if◌then◌else◌, List, [], ◌∷◌, length, take, drop, map, Option, Some, None, Result, Ok, Err, slice_get}
use Rattle.std.specs.List.{flat_map}
use Rattle.std.specs.Int.{Width, w8, w16, w32, w64, byte_len, from_be_bytes}
use Rattle.span_base.specs.declared.ids.KeyId.{KeyId}
use Rattle.span_base.specs.declared.ids.DcId.{DcId}
use Rattle.span_base.specs.declared.dc_set.DcSet.{DcSet}
use Rattle.span_base.specs.DcSet.{centres_of}
use Rattle.span_base.specs.declared.policy.Near.{Near}
use Rattle.span_base.specs.declared.policy.Hop.{Hop}
use Rattle.span_base.specs.declared.policy.Quorum.{Quorum}
use Rattle.span_base.specs.declared.policy.Policy.{Policy}
use Rattle.span_base.specs.declared.policy.Policy.TheVariants.{Direct, Relay, Strong}
use Rattle.ticket_rules.specs.declared.stamp.Stamp.{Stamp}
use Rattle.wire_msg.specs.declared.tag.Tag.{Tag}
use Rattle.wire_msg.specs.Fields.{Field, a_tag, a_key, an_epoch, a_frozen_epoch, a_stamp, a_value, a_set, a_replica, a_policy, a_flag}
use Rattle.wire_msg.specs.Sound.{is_sound_policy}

-- What reading gives: what is spelled and the bytes after it, or how many bytes there are from
-- the first fault to the frame's end (none where the frame ends too early).
abbrev pub Reading : Type 0 → Type 0
Reading X = Result (X × List ℕ) ℕ

-- the next is read only where this is without fault
infixl 10 ◌>>=◌
abbrev pub ◌>>=◌ : {A B : Type 0} → Result A ℕ → (A → Result B ℕ) → Result B ℕ
(Ok x) >>= f = f x
(Err left) >>= f = Err left

-- a number of this width, from the least to the most that it may be
unfoldable pub number_at : Width → ℕ → ℕ → List ℕ → Reading ℕ
number_at width least most bytes =
    let number = from_be_bytes width (take (byte_len width) bytes) in
    if nat_lt (length bytes) (byte_len width) then Err 0
    else if nat_le least number && nat_le number most then Ok (number, drop (byte_len width) bytes)
    else Err (length bytes)

abbrev pub byte_at : ℕ → ℕ → List ℕ → Reading ℕ
byte_at least most = number_at w8 least most

abbrev pub short_at : ℕ → List ℕ → Reading ℕ
short_at most = number_at w16 0 most

abbrev pub word_at : ℕ → List ℕ → Reading ℕ
word_at least = number_at w32 least (2 ^ 32 - 1)

abbrev pub long_at : List ℕ → Reading ℕ
long_at = number_at w64 0 (2 ^ 64 - 1)

unfoldable pub tag_at : List ℕ → Reading Tag
tag_at bytes = do
  proxy ← byte_at 0 63 bytes
  slot ← byte_at 0 63 proxy.1
  generation ← word_at 1 slot.1
  seq ← word_at 1 generation.1
  phase ← byte_at 1 255 seq.1
  Ok (record { call = record { proxy = proxy.0; seq = seq.0 }; slot = slot.0; generation = generation.0; phase = phase.0 }, phase.1)

unfoldable pub stamp_at : List ℕ → Reading Stamp
stamp_at bytes = do
  epoch ← word_at 0 bytes
  number ← long_at epoch.1
  proxy ← byte_at 0 63 number.1
  seq ← word_at 0 proxy.1
  Ok (record { epoch = epoch.0; number = number.0; proxy = proxy.0; seq = seq.0 }, seq.1)

unfoldable pub value_at : List ℕ → Reading (List ℕ)
value_at bytes = do
  size ← short_at 4096 bytes
  if nat_lt (length size.1) size.0 then Err 0 else Ok (take size.0 size.1, drop size.0 size.1)

unfoldable pub set_at : List ℕ → Reading DcSet
set_at bytes = do
  bits ← short_at (2 ^ 16 - 1) bytes
  Ok (record { bits = bits.0 }, bits.1)

-- so many of a kind, one after the other
unfoldable pub many_at : {X : Type 0} → (List ℕ → Reading X) → ℕ → List ℕ → Reading (List X)
many_at one_at zero bytes = Ok ([], bytes)
many_at one_at (suc count) bytes = do
  first ← one_at bytes
  others ← many_at one_at count first.1
  Ok (first.0 ∷ others.0, others.1)

unfoldable pub near_at : List ℕ → Reading Near
near_at bytes = do
  member ← byte_at 0 255 bytes
  at ← byte_at 0 255 member.1
  Ok (record { member = record { 0 = member.0 }; at = record { 0 = at.0 } }, at.1)

-- a member's hops to these replicas, of which the parents are spelled
unfoldable pub hops_at : ℕ → List ℕ → List ℕ → Reading (List Hop)
hops_at member [] bytes = Ok ([], bytes)
hops_at member (child ∷ children) bytes = do
  parent ← byte_at 0 255 bytes
  others ← hops_at member children parent.1
  Ok (record { member = record { 0 = member }; child = record { 0 = child }; parent = record { 0 = parent.0 } } ∷ others.0, others.1)

-- a member with its primary, and its hops
unfoldable pub lane_at : DcSet → List ℕ → Reading (Near × List Hop)
lane_at replicas bytes = do
  near ← near_at bytes
  hops ← hops_at near.0.member.0 (centres_of replicas) near.1
  Ok ((near.0, hops.0), hops.1)

-- the members with their primaries, and all their hops
unfoldable pub nears_of : List (Near × List Hop) → List Near
nears_of lanes = map (λ (lane : Near × List Hop). lane.0) lanes

unfoldable pub hops_of : List (Near × List Hop) → List Hop
hops_of lanes = flat_map (λ (lane : Near × List Hop). lane.1) lanes

unfoldable pub quorum_at : List ℕ → Reading Quorum
quorum_at bytes = do
  dc ← byte_at 0 255 bytes
  reads ← set_at dc.1
  writes ← set_at reads.1
  Ok (record { dc = record { 0 = dc.0 }; read = reads.0; write = writes.0 }, writes.1)

unfoldable pub direct_at : ℕ → DcSet → ℕ → List ℕ → Reading Policy
direct_at f replicas count bytes = do
  primary ← many_at near_at count bytes
  Ok (Direct f replicas primary.0, primary.1)

unfoldable pub relay_at : ℕ → DcSet → ℕ → List ℕ → Reading Policy
relay_at f replicas count bytes = do
  lanes ← many_at (lane_at replicas) count bytes
  Ok (Relay f replicas (nears_of lanes.0) (hops_of lanes.0), lanes.1)

unfoldable pub strong_at : ℕ → DcSet → ℕ → List ℕ → Reading Policy
strong_at f replicas count bytes = do
  members ← many_at quorum_at count bytes
  Ok (Strong f replicas members.0, members.1)

-- a policy by its mode
unfoldable pub members_at : ℕ → ℕ → DcSet → ℕ → List ℕ → Reading Policy
members_at mode f replicas count bytes =
    if mode == 1 then direct_at f replicas count bytes
    else if mode == 2 then relay_at f replicas count bytes
    else strong_at f replicas count bytes

-- a policy that isn't sound is faulty at its first byte
unfoldable pub policy_at : List ℕ → Reading Policy
policy_at bytes = do
  mode ← byte_at 1 3 bytes
  f ← byte_at 0 3 mode.1
  replicas ← set_at f.1
  count ← byte_at 1 8 replicas.1
  policy ← members_at mode.0 f.0 replicas.0 count.0 count.1
  if is_sound_policy policy.0 then Ok policy else Err (length bytes)

unfoldable pub key_at : List ℕ → Reading KeyId
key_at bytes = do
  number ← short_at 999 bytes
  Ok (record { 0 = number.0 }, number.1)

unfoldable pub replica_at : List ℕ → Reading DcId
replica_at bytes = do
  number ← byte_at 0 15 bytes
  Ok (record { 0 = number.0 }, number.1)

unfoldable pub flag_at : List ℕ → Reading Bool
flag_at bytes = do
  number ← byte_at 0 1 bytes
  Ok (number.0 == 1, number.1)

-- a sort of fields
pub data Sort : Type 0 where
  tag key epoch frozen_epoch stamp value set replica policy flag : Sort

-- the field that this reading gives
abbrev pub made : {X : Type 0} → (X → Field) → Reading X → Reading Field
made make (Ok x) = Ok (make x.0, x.1)
made make (Err left) = Err left

unfoldable pub field_at : Sort → List ℕ → Reading Field
field_at tag bytes = made a_tag (tag_at bytes)
field_at key bytes = made a_key (key_at bytes)
field_at epoch bytes = made an_epoch (word_at 1 bytes)
field_at frozen_epoch bytes = made a_frozen_epoch (word_at 0 bytes)
field_at stamp bytes = made a_stamp (stamp_at bytes)
field_at value bytes = made a_value (value_at bytes)
field_at set bytes = made a_set (set_at bytes)
field_at replica bytes = made a_replica (replica_at bytes)
field_at policy bytes = made a_policy (policy_at bytes)
field_at flag bytes = made a_flag (flag_at bytes)

unfoldable pub fields_at : List Sort → List ℕ → Reading (List Field)
fields_at [] bytes = Ok ([], bytes)
fields_at (sort ∷ sorts) bytes = do
  first ← field_at sort bytes
  others ← fields_at sorts first.1
  Ok (first.0 ∷ others.0, others.1)

-- the sorts of the fields of each kind, from 1 on
abbrev pub kinds : List (List Sort)
kinds =
    (tag ∷ key ∷ epoch ∷ [])
    ∷ (tag ∷ key ∷ stamp ∷ [])
    ∷ (tag ∷ key ∷ stamp ∷ value ∷ [])
    ∷ (tag ∷ key ∷ epoch ∷ stamp ∷ value ∷ [])
    ∷ (tag ∷ key ∷ stamp ∷ [])
    ∷ (tag ∷ key ∷ epoch ∷ [])
    ∷ (tag ∷ key ∷ epoch ∷ stamp ∷ value ∷ [])
    ∷ (tag ∷ key ∷ stamp ∷ set ∷ value ∷ [])
    ∷ (tag ∷ key ∷ [])
    ∷ (tag ∷ key ∷ epoch ∷ epoch ∷ [])
    ∷ (tag ∷ replica ∷ stamp ∷ stamp ∷ value ∷ [])
    ∷ (tag ∷ replica ∷ [])
    ∷ (tag ∷ replica ∷ stamp ∷ [])
    ∷ (tag ∷ replica ∷ frozen_epoch ∷ [])
    ∷ (tag ∷ key ∷ epoch ∷ policy ∷ epoch ∷ policy ∷ [])
    ∷ (tag ∷ key ∷ flag ∷ epoch ∷ [])
    ∷ []

-- the sorts of the fields of a kind, where there is such a kind
abbrev pub sorts_of : ℕ → Option (List Sort)
sorts_of zero = None
sorts_of (suc kind) = slice_get kinds kind

-- the fields of a kind, where there is such a kind; else the kind's own byte is the fault
unfoldable pub kind_at : Option (List Sort) → List ℕ → Reading (List Field)
kind_at None bytes = Err (1 + length bytes)
kind_at (Some sorts) bytes = fields_at sorts bytes

-- the number of a frame's kind and its fields, which no bytes follow
unfoldable pub frame_at : List ℕ → Result (ℕ × List Field) ℕ
frame_at [] = Err 0
frame_at (kind ∷ bytes) = do
  fields ← kind_at (sorts_of kind) bytes
  if length fields.1 == 0 then Ok (kind, fields.0) else Err (length fields.1)

-- the place in so many bytes
abbrev pub place_in : {X : Type 0} → ℕ → Result X ℕ → Option ℕ
place_in size (Ok x) = None
place_in size (Err left) = Some (size - left)

-- where the first fault of a frame is, if it has one
unfoldable pub fault_place : List ℕ → Option ℕ
fault_place frame = place_in (length frame) (frame_at frame)
