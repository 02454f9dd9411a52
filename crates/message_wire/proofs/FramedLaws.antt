-- One more frame in memory of its own.
use Rattle.std.proofs.Common.{◌≡◌, ℕ, ◌<◌, ◌≤◌, List, [], ◌∷◌, ◌++◌, length, map, slice_get, get_or, option_map, Some, None, All, refl, sym, ap, subst, ◌∙◌, arith}
use Rattle.std.proofs.lemmas.List.{length-append, length-map, map-append}
use Rattle.std.proofs.lemmas.List.Elements.{All-append, All-cons, All-nil}
use Rattle.std.proofs.lemmas.Option.{slice_get-map, slice_get_read, slice_get_past}
use Rattle.wire_msg.specs.declared.message.Message.{Message}
use Rattle.wire_msg.specs.declared.outputs.Post.{Post}
use Rattle.wire_msg.specs.Frames.{frame_of}
use Rattle.wire_msg.specs.Lawful.{IsLawful}
use Rattle.wire_msg.specs.Laws.{FitsBytes}
use Rattle.message_wire.specs.declared.framed.Framed.{Framed}
use Rattle.message_wire.specs.Frames.{message_in, IsWhole}
use Rattle.message_wire.specs.Framed.{post_of, posts_of, HasFrame, IsLonger}
use Rattle.message_wire.proofs.FrameLaws.{in_frame, frame_whole}

post_comes : (framed : Framed) (m : Message) → IsLawful m → FitsBytes m → framed.frame.items ≡ frame_of m → post_of framed ≡ record { to = framed.to; message = m }
unfolding post_of
post_comes framed m lawful fits is = ap (λ (n : Message). record { to = framed.to; message = n }) (ap message_in is ∙ in_frame m lawful fits)

posts_come : (frames : List Framed) (framed : Framed) (m : Message) → IsLawful m → FitsBytes m → framed.frame.items ≡ frame_of m
    → posts_of (frames ++ framed ∷ []) ≡ posts_of frames ++ record { to = framed.to; message = m } ∷ []
unfolding posts_of
posts_come frames framed m lawful fits is =
    map-append post_of frames (framed ∷ []) ∙ ap (λ (p : Post). posts_of frames ++ p ∷ []) (post_comes framed m lawful fits is)

pub longer : (frames frames' : List Framed) (framed : Framed) (m : Message) → All HasFrame frames → IsLawful m → FitsBytes m → framed.frame.items ≡ frame_of m
    → frames' ≡ frames ++ framed ∷ [] → IsLonger frames frames' framed.to m
longer frames frames' framed m whole lawful fits is frames-are =
    let one : HasFrame framed = subst IsWhole (sym is) (frame_whole m lawful fits) in
    let all : All HasFrame (frames ++ framed ∷ []) = All-append HasFrame frames (framed ∷ []) whole (All-cons HasFrame framed [] one (All-nil HasFrame)) in
    subst (λ (fs : List Framed). IsLonger frames fs framed.to m) (sym frames-are) (record { whole = all; posts = posts_come frames framed m lawful fits is; count = length-append frames (framed ∷ []) })

-- ---- looking up

pub posts_number : (frames : List Framed) → length (posts_of frames) ≡ length frames
unfolding posts_of
posts_number frames = length-map frames post_of

-- the post of a frame that was looked up
pub frame_at : (frames : List Framed) (n : ℕ) (framed : Framed) (message : Message) → n < length frames → framed ≡ get_or frames n framed
    → message ≡ message_in framed.frame.items → Some (record { to = framed.to; message = message }) ≡ slice_get (posts_of frames) n
unfolding posts_of post_of
frame_at frames n framed message within at says =
    ap (λ (m : Message). Some (record { to = framed.to; message = m })) says
    ∙ sym (slice_get-map post_of frames n ∙ ap (option_map post_of) (slice_get_read frames (length frames) n framed refl within at))

pub no_frame_at : (frames : List Framed) (n : ℕ) → length frames ≤ n → None ≡ slice_get (posts_of frames) n
no_frame_at frames n past = sym (slice_get_past (posts_of frames) n (omega (arith, posts_number frames)))

pub no_posts_of : (frames : List Framed) → frames ≡ [] → posts_of frames ≡ []
unfolding posts_of
no_posts_of frames none = ap (map post_of) none
