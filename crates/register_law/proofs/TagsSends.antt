-- What a call sends at once: copies of one request.
use Rattle.std.proofs.Common.{◌≡◌, inl, inr, ℕ, List, [], ◌∷◌, refl, ap, map, Option, Some, None, IsSome, Contains}
use Rattle.register_law.proofs.Words.{centres_of, DcSet, KeyId, Stamp, tag_of, Message, Outputs, Post, Tag, next_tag, post_to, posts_to, key_of_call, tag_of_call, LiveCall, IsPushFree, request_key, among, none_among}
use Rattle.wire_msg.specs.declared.message.Message.TheVariants as m
use Rattle.wire_msg.specs.declared.actor.Actor.TheVariants as to

-- each post has this message
abbrev pub AreCopies : Message → List Post → Type 0
AreCopies message posts = (post : Post) → Contains posts post → post.message ≡ message

-- the ticket that an Ask asks for
abbrev pub ticket_asked : Message → Option Stamp
ticket_asked (m.Ask tag key stamp) = Some stamp
ticket_asked _ = None

-- no ticket is asked for
abbrev pub never : Stamp → Type 0
never stamp = ⊥

-- what is sent is one request of the key under this tag, to whomever; which tickets it may ask for is told
pub record SendsOne (May : Stamp → Type 0) (tag : Tag) (key : KeyId) (posts : List Post) : Type 0 where
  pub message : Message
  pub copies : AreCopies message posts
  pub tagged : tag_of message ≡ tag
  pub at_key : request_key message ≡ Some key
  pub push_free : IsPushFree message
  pub asks : (stamp : Stamp) → ticket_asked message ≡ Some stamp → May stamp

-- what a call of this tag and key becomes, and what it puts out
pub data GoesOn (May : Stamp → Type 0) (tag : Tag) (key : KeyId) (call : LiveCall) (out : Outputs) : Type 0 where
  stays : key_of_call call ≡ key → tag_of_call call ≡ tag → out.posts ≡ [] → GoesOn May tag key call out
  turns : key_of_call call ≡ key → tag_of_call call ≡ next_tag tag → SendsOne May (next_tag tag) key out.posts → GoesOn May tag key call out
  ends : key_of_call call ≡ key → tag_of_call call ≡ tag → IsSome out.end → SendsOne May (next_tag tag) key out.posts → GoesOn May tag key call out

pub sends_none : (May : Stamp → Type 0) (tag : Tag) (key : KeyId) → SendsOne May tag key []
sends_none May tag key = record { message = m.Lookup tag key; copies = λ post h. absurd (none_among post h); tagged = refl; at_key = refl; push_free = tt; asks = λ stamp e. absurd (cc) }

pub copies_to : (message : Message) (ds : List ℕ) → AreCopies message (map (post_to message) ds)
copies_to message [] post h = absurd (none_among post h)
copies_to message (d ∷ ds) post h =
    let later = copies_to message ds post in
    elim (among (post_to message d) (map (post_to message) ds) post h) as (λ _. post.message ≡ message) [ inl is ↦ ap (λ (x : Post). x.message) is | inr more ↦ later more ]

pub sends_each : (May : Stamp → Type 0) (tag : Tag) (key : KeyId) (message : Message) (set : DcSet) → tag_of message ≡ tag → request_key message ≡ Some key → IsPushFree message → ticket_asked message ≡ None → SendsOne May tag key (posts_to set message)
sends_each May tag key message set t k f n = record { message = message; copies = copies_to message (centres_of set); tagged = t; at_key = k; push_free = f; asks = λ stamp e. absurd (cc) }

pub sends_only : (May : Stamp → Type 0) (tag : Tag) (key : KeyId) (post : Post) → tag_of post.message ≡ tag → request_key post.message ≡ Some key → IsPushFree post.message → ticket_asked post.message ≡ None → SendsOne May tag key (post ∷ [])
sends_only May tag key post t k f n = record {
  message = post.message;
  copies = λ other h. elim (among post [] other h) as (λ _. other.message ≡ post.message) [ inl is ↦ ap (λ (x : Post). x.message) is | inr more ↦ absurd (none_among other more) ];
  tagged = t;
  at_key = k;
  push_free = f;
  asks = λ stamp e. absurd (cc);
}

-- a Lookup
pub sends_look : (May : Stamp → Type 0) (tag : Tag) (key : KeyId) → SendsOne May tag key (record { to = to.Directory; message = m.Lookup tag key } ∷ [])
sends_look May tag key = sends_only May tag key (record { to = to.Directory; message = m.Lookup tag key }) refl refl tt refl
