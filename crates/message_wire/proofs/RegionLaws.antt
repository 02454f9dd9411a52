-- One more frame in the region.
use Rattle.std.proofs.Common.{◌≡◌, ℕ, ◌+◌, ◌-◌, ◌<◌, ◌≤◌, List, [], ◌∷◌, ◌++◌, length, map, take, drop, slice_get, get_or, option_map, Some, None, All, refl, sym, ap, subst, ◌∙◌, arith}
use Rattle.std.proofs.lemmas.List.{length-append, length-drop, length-map, map-append, take_all, take-append-le, drop-append-le}
use Rattle.std.proofs.lemmas.Option.{slice_get-map, slice_get_read, slice_get_past}
use Rattle.std.proofs.Math.Seq.{drop-append_seam}
use Rattle.std.proofs.lemmas.List.Elements.{All-append, All-cons, All-nil, All-head, All-tail, All-weaker}
use Rattle.std.proofs.lemmas.List.Sums.{sum_by-append, sum_by-cons}
use Rattle.wire_msg.specs.declared.actor.Actor.{Actor}
use Rattle.wire_msg.specs.declared.message.Message.{Message}
use Rattle.wire_msg.specs.declared.outputs.Post.{Post}
use Rattle.wire_msg.specs.Frames.{frame_of}
use Rattle.wire_msg.specs.Sizes.{frame_size, bulk_of}
use Rattle.wire_msg.specs.Lawful.{IsLawful}
use Rattle.wire_msg.specs.Laws.{FitsBytes}
use Rattle.wire_msg.proofs.SizeLaws.{frame_length}
use Rattle.message_wire.specs.declared.region.Entry.{Entry}
use Rattle.message_wire.specs.Frames.{message_in, IsWhole}
use Rattle.message_wire.specs.Region.{frame_in, post_in, posts_in, IsIn, IsRegion, IsGrown}
use Rattle.message_wire.proofs.FrameLaws.{in_frame, frame_whole}

-- a frame stays as it is when more bytes come behind it
frame_stays : (region more : List ℕ) (entry : Entry) → entry.start + entry.len ≤ length region → frame_in (region ++ more) entry ≡ frame_in region entry
frame_stays region more entry within =
    let size : ℕ = entry.start + entry.len - entry.start in
    ap (take size) (drop-append-le entry.start region more (omega arith)) ∙ take-append-le size (drop entry.start region) more (omega (arith, length-drop entry.start region))

-- the new bytes are the new frame
frame_comes : (region more : List ℕ) (entry : Entry) → entry.start ≡ length region → entry.len ≡ length more → frame_in (region ++ more) entry ≡ more
frame_comes region more entry start len =
    let size : ℕ = entry.start + entry.len - entry.start in
    let behind : drop entry.start (region ++ more) ≡ more = ap (λ n. drop n (region ++ more)) start ∙ drop-append_seam region more in
    ap (take size) behind ∙ take_all size more (omega arith)

-- an entry stays
entry_stays : (region more : List ℕ) (entry : Entry) → IsIn region entry → IsIn (region ++ more) entry
entry_stays region more entry is = record {
  within = omega (arith, length-append region more, is.within);
  whole = subst IsWhole (sym (frame_stays region more entry is.within)) is.whole;
}

post_stays : (region more : List ℕ) (entry : Entry) → IsIn region entry → post_in (region ++ more) entry ≡ post_in region entry
unfolding post_in
post_stays region more entry is = ap (λ (frame : List ℕ). record { to = entry.to; message = message_in frame }) (frame_stays region more entry is.within)

posts_stay : (region more : List ℕ) (entries : List Entry) → All (IsIn region) entries → posts_in (region ++ more) entries ≡ posts_in region entries
unfolding posts_in
posts_stay region more [] are = refl
posts_stay region more (entry ∷ entries) are =
    let here : post_in (region ++ more) entry ≡ post_in region entry = post_stays region more entry (All-head (IsIn region) entry entries are) in
    let others : posts_in (region ++ more) entries ≡ posts_in region entries = posts_stay region more entries (All-tail (IsIn region) entry entries are) in
    ap (λ (p : Post). p ∷ posts_in (region ++ more) entries) here ∙ ap (λ (ps : List Post). post_in region entry ∷ ps) others

-- an entry's post is the message whose frame came
post_comes : (region : List ℕ) (entry : Entry) (to : Actor) (m : Message) → IsLawful m → FitsBytes m → entry.to ≡ to → entry.start ≡ length region → entry.len ≡ frame_size m
    → post_in (region ++ frame_of m) entry ≡ record { to = to; message = m }
unfolding post_in
post_comes region entry to m lawful fits to-is start len =
    let frame : frame_in (region ++ frame_of m) entry ≡ frame_of m = frame_comes region (frame_of m) entry start (len ∙ sym (frame_length m lawful)) in
    let said : message_in (frame_in (region ++ frame_of m) entry) ≡ m = ap message_in frame ∙ in_frame m lawful fits in
    ap (λ (actor : Actor). record { to = actor; message = message_in (frame_in (region ++ frame_of m) entry) }) to-is ∙ ap (λ (n : Message). record { to = to; message = n }) said

entry_comes : (region : List ℕ) (entry : Entry) (m : Message) → IsLawful m → FitsBytes m → entry.start ≡ length region → entry.len ≡ frame_size m → IsIn (region ++ frame_of m) entry
entry_comes region entry m lawful fits start len = record {
  within = omega (arith, length-append region (frame_of m), frame_length m lawful);
  whole = subst IsWhole (sym (frame_comes region (frame_of m) entry start (len ∙ sym (frame_length m lawful)))) (frame_whole m lawful fits);
}

posts_grow : (region : List ℕ) (entries : List Entry) (entry : Entry) (to : Actor) (m : Message) → IsRegion region entries → IsLawful m → FitsBytes m
    → entry.to ≡ to → entry.start ≡ length region → entry.len ≡ frame_size m
    → posts_in (region ++ frame_of m) (entries ++ entry ∷ []) ≡ posts_in region entries ++ record { to = to; message = m } ∷ []
unfolding posts_in
posts_grow region entries entry to m is lawful fits to-is start len =
    let more : List ℕ = frame_of m in
    map-append (post_in (region ++ more)) entries (entry ∷ [])
    ∙ ap (λ (ps : List Post). ps ++ post_in (region ++ more) entry ∷ []) (posts_stay region more entries is.frames)
    ∙ ap (λ (p : Post). posts_in region entries ++ p ∷ []) (post_comes region entry to m lawful fits to-is start len)

pub bytes_grow : (posts : List Post) (post : Post) → (bulk_of (posts ++ post ∷ [])).bytes ≡ (bulk_of posts).bytes + frame_size post.message
bytes_grow posts post =
    sum_by-append (λ (p : Post). frame_size p.message) posts (post ∷ []) ∙ omega (arith, sum_by-cons (λ (p : Post). frame_size p.message) post [])

pub grown : (region region' : List ℕ) (entries entries' : List Entry) (entry : Entry) (to : Actor) (m : Message) → IsRegion region entries → IsLawful m → FitsBytes m
    → entry.to ≡ to → entry.start ≡ length region → entry.len ≡ frame_size m → length entries < 4000000
    → region' ≡ region ++ frame_of m → entries' ≡ entries ++ entry ∷ []
    → IsGrown region region' entries entries' to m
grown region region' entries entries' entry to m is lawful fits to-is start len few region-is entries-is =
    let more : List ℕ = frame_of m in
    let posts : posts_in (region ++ more) (entries ++ entry ∷ []) ≡ posts_in region entries ++ record { to = to; message = m } ∷ [] = posts_grow region entries entry to m is lawful fits to-is start len in
    let sound : IsRegion (region ++ more) (entries ++ entry ∷ []) = record {
      frames = All-append (IsIn (region ++ more)) entries (entry ∷ [])
          (All-weaker (IsIn region) (IsIn (region ++ more)) (entry_stays region more) entries is.frames)
          (All-cons (IsIn (region ++ more)) entry [] (entry_comes region entry m lawful fits start len) (All-nil (IsIn (region ++ more))));
      bytes = length-append region more ∙ omega (arith, is.bytes, frame_length m lawful, ap (λ (ps : List Post). (bulk_of ps).bytes) posts, bytes_grow (posts_in region entries) (record { to = to; message = m }));
      few = omega (arith, length-append entries (entry ∷ []));
    } in
    let at : List ℕ → List Entry → Type 0 = λ r es. IsGrown region r entries es to m in
    subst (λ (r : List ℕ). at r entries') (sym region-is) (subst (λ (es : List Entry). at (region ++ more) es) (sym entries-is) (record {
      sound = sound;
      posts = posts;
      count = length-append entries (entry ∷ []);
      bytes = length-append region more ∙ ap (λ n. length region + n) (frame_length m lawful);
    }))

-- ---- looking up

pub posts_count : (region : List ℕ) (entries : List Entry) → length (posts_in region entries) ≡ length entries
unfolding posts_in
posts_count region entries = length-map entries (post_in region)

-- the post of an entry that was looked up
pub found_at : (region : List ℕ) (entries : List Entry) (n : ℕ) (entry : Entry) (message : Message) → n < length entries → entry ≡ get_or entries n entry
    → message ≡ message_in (frame_in region entry) → Some (record { to = entry.to; message = message }) ≡ slice_get (posts_in region entries) n
unfolding posts_in post_in
found_at region entries n entry message within at says =
    ap (λ (m : Message). Some (record { to = entry.to; message = m })) says
    ∙ sym (slice_get-map (post_in region) entries n ∙ ap (option_map (post_in region)) (slice_get_read entries (length entries) n entry refl within at))

pub none_at : (region : List ℕ) (entries : List Entry) (n : ℕ) → length entries ≤ n → None ≡ slice_get (posts_in region entries) n
none_at region entries n past = sym (slice_get_past (posts_in region entries) n (omega (arith, posts_count region entries)))

-- no frames at all
pub no_posts : (region : List ℕ) (entries : List Entry) → entries ≡ [] → posts_in region entries ≡ []
unfolding posts_in
no_posts region entries none = ap (map (post_in region)) none

pub no_frames : (region : List ℕ) (entries : List Entry) → region ≡ [] → entries ≡ [] → IsRegion region entries
no_frames region entries region-is entries-is = record {
  frames = subst (All (IsIn region)) (sym entries-is) (All-nil (IsIn region));
  bytes = ap length region-is ∙ sym (ap (λ (ps : List Post). (bulk_of ps).bytes) (no_posts region entries entries-is));
  few = omega (arith, ap length entries-is);
}
