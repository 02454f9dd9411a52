-- What a replica answers to requests, as bytes.
use Rattle.std.specs.Prelude.{ℕ, List, [], ◌∷◌, ◌++◌}
use Rattle.std.specs.List.{flat_map}
use Rattle.std.specs.Int.{w16}
use Rattle.wire_msg.specs.declared.message.Message.{Message}
use Rattle.wire_msg.specs.declared.outputs.Post.{Post}
use Rattle.wire_msg.specs.Frames.{big}
use Rattle.wire_msg.specs.Nodes.{node_number}
use Rattle.replica_core.specs.Rule.{State, step}
use Rattle.replica_journal.specs.Records.{body_of}

-- a post: the node that it goes to, the length of its frame and the frame
abbrev pub post_bytes : Post → List ℕ
post_bytes post = big w16 (node_number post.to) ++ body_of post.message

-- the answer to one request
abbrev pub answer_bytes : List Post → List ℕ
answer_bytes posts = flat_map post_bytes posts

-- requests, one after another
abbrev pub request_bytes : List Message → List ℕ
request_bytes requests = flat_map body_of requests

-- the answers of a replica in this state to requests, one after another
abbrev pub service_bytes : State → List Message → List ℕ
service_bytes state [] = []
service_bytes state (request ∷ requests) = answer_bytes (step state request).out.posts ++ service_bytes (step state request).state requests
