-- What is true of every proxy, and what its steps hand on.
use Rattle.std.specs.Prelude.{◌≡◌, ℕ, ◌+◌, ◌<◌, ◌≤◌, List, [], ◌∷◌, length, slice_index_or, Option, Some, None, IfSome, option_and_then, if◌then◌else◌}
use Rattle.std.specs.List.{All}
use Rattle.span_base.specs.declared.ids.KeyId.{KeyId}
use Rattle.wire_msg.specs.declared.message.Message.{Message}
use Rattle.wire_msg.specs.declared.outputs.Post.{Post}
use Rattle.wire_msg.specs.declared.outputs.View.{View}
use Rattle.wire_msg.specs.declared.outputs.Reply.TheVariants as r
use Rattle.wire_msg.specs.Posts.{key_of}
use Rattle.wire_msg.specs.Lawful.{IsLawfulView}
use Rattle.slot_pool.specs.declared.handles.Handle.{Handle}
use Rattle.slot_pool.specs.Slots.{Slot, Content, Empty, Holds, Retired, item_at, after_put, after_take}
use Rattle.run_marks.specs.declared.mark.Mark.{Mark}
use Rattle.run_marks.specs.declared.mark.Mark.TheVariants as k
use Rattle.world_core.specs.declared.live.LiveCall.{LiveCall}
use Rattle.world_core.specs.declared.lesson.Lesson.{Lesson}
use Rattle.world_core.specs.declared.effects.Effects.{Effects}
use Rattle.world_core.specs.declared.beginning.Beginning.{Beginning}
use Rattle.world_core.specs.State.{Proxy, no_view}
use Rattle.world_core.specs.Knowing.{learned}
use Rattle.world_core.specs.Calls.{tag_of_call, key_of_call}
use Rattle.world_core.specs.Starting.{Done}
use Rattle.world_core.specs.Step.{views_with, handle_of_call, may_give_up}

-- view k is of key k
pub record AreViews (views : List View) : Type 0 where
  pub lawful : All IsLawfulView views
  pub keys : (k : ℕ) → k < length views → (slice_index_or views k no_view).key.0 ≡ k

-- how many keys there have to be for the call of a slot
abbrev pub keys_for : Content LiveCall → ℕ
keys_for Empty = 0
keys_for (Holds call) = (key_of_call call).0 + 1
keys_for Retired = 0

-- a slot of a proxy that knows so many keys: generations count from 1, and its call is of one of the keys
pub record IsProxySlot (keys : ℕ) (slot : Slot LiveCall) : Type 0 where
  pub generation : 1 ≤ slot.generation
  pub key : keys_for slot.content ≤ keys

-- what is true of every proxy
pub record IsProxy (proxy : Proxy) : Type 0 where
  pub views : AreViews proxy.views
  pub slots : length proxy.calls ≡ 64
  pub calls : All (IsProxySlot (length proxy.views)) proxy.calls

-- the proxy once the lesson is learned
abbrev pub after_lesson : Proxy → Lesson → Proxy
after_lesson proxy lesson = record proxy { seen = lesson.seen; views = views_with proxy.views lesson.shown }

-- the lesson is what the message shows
pub record IsLesson (proxy : Proxy) (message : Message) (lesson : Lesson) : Type 0 where
  pub learned : after_lesson proxy lesson ≡ learned proxy message
  pub lawful : IfSome lesson.shown IsLawfulView

-- the posts are all of this key
abbrev pub AreOfKey : KeyId → List Post → Type 0
AreOfKey key posts = All (λ post. key_of post.message ≡ Some key) posts

-- the message is of a key below this number, or of none
abbrev pub IsOfKeyBelow : ℕ → Message → Type 0
IsOfKeyBelow keys message = IfSome (key_of message) (λ key. key.0 < keys)

-- all posts are so
abbrev pub AreOfKeysBelow : ℕ → List Post → Type 0
AreOfKeysBelow keys posts = All (λ post. IsOfKeyBelow keys post.message) posts

-- the proxy becomes so, and this is what it puts out
abbrev pub IsDone : Done Proxy → Proxy → Effects → Type 0
IsDone done proxy effects = (proxy ≡ done.actor) × (effects.posts ≡ done.posts) × (effects.marks ≡ done.marks)

-- the live calls, once one more has begun
abbrev pub calls_entered : List (Slot LiveCall) → Option LiveCall → List (Slot LiveCall)
calls_entered calls None = calls
calls_entered calls (Some call) = after_put calls call

-- the proxy once a call is begun
abbrev pub begun_with : Proxy → Beginning → Done Proxy
begun_with proxy beginning = record {
  actor = record proxy { begun = proxy.begun + 1; seen = beginning.seen; calls = calls_entered proxy.calls beginning.call };
  posts = beginning.effects.posts;
  marks = beginning.effects.marks;
}

-- how many keys there have to be for a call that is begun
abbrev pub keys_entered : Option LiveCall → ℕ
keys_entered None = 0
keys_entered (Some call) = (key_of_call call).0 + 1

-- the proxy without the call under this handle, where the call may be given up
abbrev pub gave_up_under : Proxy → Handle → LiveCall → Option (Done Proxy)
gave_up_under proxy handle call =
    if may_give_up call
    then Some (record { actor = record proxy { calls = after_take proxy.calls handle }; posts = []; marks = k.End (tag_of_call call).call r.GivenUp ∷ [] })
    else None

-- the proxy without its live call of this number, where there is one that may be given up
abbrev pub gave_up : Proxy → ℕ → Option (Done Proxy)
gave_up proxy seq = option_and_then (λ handle. option_and_then (gave_up_under proxy handle) (item_at proxy.calls handle)) (handle_of_call proxy.calls seq)

-- how giving a call up ends: a call that isn't there, or may not be given up, changes nothing
abbrev pub GivesUp : Option (Done Proxy) → Proxy → Proxy → Option (List Mark) → Type 0
GivesUp None old new marks = (new ≡ old) × (marks ≡ None)
GivesUp (Some done) old new marks = (new ≡ done.actor) × (marks ≡ Some done.marks)
