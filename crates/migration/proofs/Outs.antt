-- What a step puts out is lawful, of the move's key, and goes to whom its phase asks.
use Rattle.std.proofs.Common.{◌≡◌, ◌≤◌, [], Option, Some, None, IfSome, refl, arith}
use Rattle.std.proofs.lemmas.List.Elements.{All-nil, All-cons}
use Rattle.wire_msg.specs.declared.actor.Actor.TheVariants.{Directory}
use Rattle.wire_msg.specs.declared.message.Message.{Message}
use Rattle.wire_msg.specs.declared.outputs.Post.{Post}
use Rattle.wire_msg.specs.declared.outputs.View.{View}
use Rattle.wire_msg.specs.declared.outputs.Reply.{Reply}
use Rattle.wire_msg.specs.Outputs.{only_posts}
use Rattle.wire_msg.specs.Posts.{to_directory, key_of}
use Rattle.wire_msg.specs.Lawful.{IsLawful, IsLawfulTag, IsLawfulView, IsLawfulReply}
use Rattle.wire_msg.specs.Sizes.{frame_size}
use Rattle.wire_msg.specs.declared.tag.Tag.{Tag}
use Rattle.wire_msg.proofs.Sent.{no_posts, posts_to_directory}
use Rattle.call_phase.specs.Counting.{next_tag}
use Rattle.call_phase.specs.Requests.{posts_to}
use Rattle.call_phase.proofs.Sent.{posts_to-lawful, posts_to-of_key}
use Rattle.migration.specs.Move.{Moving}
use Rattle.migration.specs.Sound.{PutsOut}

-- the tag of the phase that follows
pub next_lawful : (tag : Tag) → IsLawfulTag tag → IsLawfulTag (next_tag tag)
next_lawful tag lawful = record { proxy = lawful.proxy; seq = lawful.seq; slot = lawful.slot; generation = lawful.generation; phase = omega arith }

-- no post
pub puts_none : (call : Moving) (view : Option View) (end : Option Reply) → IfSome view IsLawfulView → IfSome end IsLawfulReply
    → PutsOut call (record { posts = []; ticket = None; view = view; end = end })
puts_none call view end known told = record {
  lawful = All-nil (λ (post : Post). IsLawful post.message);
  posts = no_posts call.key call.phase.asked;
  ticket = refl;
  view = known;
  end = told;
}

-- one message to the directory
pub puts_one : (call : Moving) (message : Message) (end : Option Reply) → IsLawful message → key_of message ≡ Some call.key → frame_size message ≤ 4133 → IfSome end IsLawfulReply
    → PutsOut call (record { posts = to_directory message; ticket = None; view = None; end = end })
puts_one call message end lawful of_key small told = record {
  lawful = All-cons (λ (post : Post). IsLawful post.message) (record { to = Directory; message = message }) [] lawful (All-nil (λ (post : Post). IsLawful post.message));
  posts = posts_to_directory call.key call.phase.asked message of_key small;
  ticket = refl;
  view = tt;
  end = told;
}

-- one message to each replica that the phase asks
pub puts_each : (call : Moving) (message : Message) → IsLawful message → key_of message ≡ Some call.key → frame_size message ≤ 4133
    → PutsOut call (only_posts (posts_to call.phase.asked message))
puts_each call message lawful of_key small = record {
  lawful = posts_to-lawful call.phase.asked message lawful;
  posts = posts_to-of_key call.key call.phase.asked message of_key small;
  ticket = refl;
  view = tt;
  end = tt;
}
