-- How many bytes frames have.
use Rattle.std.proofs.Common.{◌≡◌, ℕ, suc, ◌+◌, ◌*◌, cond, List, [], ◌∷◌, ◌++◌, length, take, drop, refl, ap, ◌∙◌, arith}
use Rattle.std.specs.Int.{w8, w16, w32}
use Rattle.std.specs.List.{flat_map, sum_by, AllByRecursion}
use Rattle.std.proofs.lemmas.List.{length-append, length-take, length-drop}
use Rattle.std.proofs.lemmas.List.Sums.{sum_by-cons}
use Rattle.span_base.specs.DcSet.{centres_of}
use Rattle.span_base.specs.declared.dc_set.DcSet.{DcSet}
use Rattle.span_base.specs.declared.policy.Near.{Near}
use Rattle.span_base.specs.declared.policy.Hop.{Hop}
use Rattle.span_base.specs.declared.policy.Quorum.{Quorum}
use Rattle.span_base.specs.declared.policy.Policy.{Policy}
use Rattle.span_base.specs.declared.policy.Policy.TheVariants.{Direct, Relay, Strong}
use Rattle.span_base.specs.Policy.{IsSoundPolicy}
use Rattle.ticket_rules.specs.declared.stamp.Stamp.{Stamp}
use Rattle.wire_msg.specs.declared.tag.Tag.{Tag}
use Rattle.wire_msg.specs.declared.message.Message.{Message}
use Rattle.wire_msg.specs.Fields.{Field, a_tag, a_key, an_epoch, a_frozen_epoch, a_stamp, a_value, a_set, a_replica, a_policy, a_flag, fields_of}
use Rattle.wire_msg.specs.Lawful.{IsInRange, IsLawful}
use Rattle.wire_msg.specs.Sizes.{policy_size, field_size, frame_size}
use Rattle.wire_msg.specs.Frames.{big, tag_bytes, stamp_bytes, value_bytes, set_bytes, policy_head, near_bytes, lanes_bytes, quorum_bytes, policy_bytes, bytes_of, fields_bytes, frame_of}
use Rattle.wire_msg.proofs.Writing.{hop_count}

tag_length : (tag : Tag) → length (tag_bytes tag) ≡ 11
unfolding tag_bytes big
tag_length tag = refl

stamp_length : (stamp : Stamp) → length (stamp_bytes stamp) ≡ 17
unfolding stamp_bytes big
stamp_length stamp = refl

value_length : (value : List ℕ) → length (value_bytes value) ≡ 2 + length value
unfolding value_bytes big
value_length value = omega arith

set_length : (centres : DcSet) → length (set_bytes centres) ≡ 2
unfolding set_bytes big
set_length centres = refl

byte_length : (n : ℕ) → length (big w8 n) ≡ 1
unfolding big
byte_length n = refl

short_length : (n : ℕ) → length (big w16 n) ≡ 2
unfolding big
short_length n = refl

word_length : (n : ℕ) → length (big w32 n) ≡ 4
unfolding big
word_length n = refl

head_length : (mode f : ℕ) (replicas : DcSet) (members : ℕ) → length (policy_head mode f replicas members) ≡ 5
unfolding policy_head set_bytes big
head_length mode f replicas members = refl

near_length : (near : Near) → length (near_bytes near) ≡ 2
unfolding near_bytes big
near_length near = refl

quorum_length : (quorum : Quorum) → length (quorum_bytes quorum) ≡ 5
unfolding quorum_bytes set_bytes big
quorum_length quorum = refl

each_length : {X : Type 0} (spell : X → List ℕ) (n : ℕ) → ((x : X) → length (spell x) ≡ n) → (xs : List X) → length (flat_map spell xs) ≡ length xs * n
each_length spell n each [] = omega arith
each_length spell n each (x ∷ xs) = length-append (spell x) (flat_map spell xs) ∙ omega (arith, each x, each_length spell n each xs)

lanes_length : (n : ℕ) (nears : List Near) (hops : List Hop) → length hops ≡ length nears * n → length (lanes_bytes n nears hops) ≡ length nears * (2 + n)
unfolding lanes_bytes
lanes_length n [] hops count = omega arith
lanes_length n (near ∷ nears) hops count =
    let parents : List ℕ = flat_map (λ hop. big w8 hop.parent.0) (take n hops) in
    let others : List ℕ = lanes_bytes n nears (drop n hops) in
    let more : suc (length nears) * n ≡ n + length nears * n = omega arith in
    let front : length (take n hops) ≡ n = omega (arith, length-take n hops) in
    let back : length (drop n hops) ≡ length nears * n = omega (arith, length-drop n hops) in
    let spelled : length parents ≡ n = each_length (λ (hop : Hop). big w8 hop.parent.0) 1 (λ hop. byte_length hop.parent.0) (take n hops) ∙ omega arith in
    length-append (near_bytes near ++ parents) others ∙ omega (arith, length-append (near_bytes near) parents, near_length near, lanes_length n nears (drop n hops) back)

policy_length : (policy : Policy) → IsSoundPolicy policy → length (policy_bytes policy) ≡ policy_size policy
unfolding policy_bytes
policy_length (Direct f replicas primary) sound =
    length-append (policy_head 1 f replicas (length primary)) (flat_map near_bytes primary) ∙ omega (arith, head_length 1 f replicas (length primary), each_length near_bytes 2 near_length primary)
policy_length (Relay f replicas primary hops) sound =
    let n = length (centres_of replicas) in
    length-append (policy_head 2 f replicas (length primary)) (lanes_bytes n primary hops) ∙ omega (arith, head_length 2 f replicas (length primary), lanes_length n primary hops (hop_count replicas primary hops sound.1))
policy_length (Strong f replicas members) sound =
    length-append (policy_head 3 f replicas (length members)) (flat_map quorum_bytes members) ∙ omega (arith, head_length 3 f replicas (length members), each_length quorum_bytes 5 quorum_length members)

field_length : (field : Field) → IsInRange field → length (bytes_of field) ≡ field_size field
field_length (a_tag x) range = tag_length x
field_length (a_key x) range = short_length x.0
field_length (an_epoch x) range = word_length x
field_length (a_frozen_epoch x) range = word_length x
field_length (a_stamp x) range = stamp_length x
field_length (a_value x) range = value_length x
field_length (a_set x) range = set_length x
field_length (a_replica x) range = byte_length x.0
field_length (a_policy x) range = policy_length x range
field_length (a_flag x) range = byte_length (cond x 1 0)

fields_length : (fields : List Field) → AllByRecursion IsInRange fields → length (fields_bytes fields) ≡ sum_by field_size fields
fields_length [] range = refl
fields_length (field ∷ fields) range =
    length-append (bytes_of field) (fields_bytes fields) ∙ omega (arith, field_length field range.0, fields_length fields range.1, sum_by-cons field_size field fields)

one_more : (n : ℕ) → suc n ≡ 1 + n
one_more n = omega arith

-- the frame of a lawful message has the bytes that its size says
pub frame_length : (m : Message) → IsLawful m → length (frame_of m) ≡ frame_size m
frame_length m lawful = one_more (length (fields_bytes (fields_of m))) ∙ ap (λ n. 1 + n) (fields_length (fields_of m) lawful)
