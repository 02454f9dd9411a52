-- One more frame in the region.
use Rattle.std.proofs.Common.{◌≡◌, ℕ, ◌+◌, ◌-◌, ◌<◌, ◌≤◌, List, [], ◌∷◌, ◌++◌, length, map, take, drop, slice_get, get_or, option_map, Some, None, All, refl, sym, ap, subst, ◌∙◌, arith}
use Rattle.std.proofs.lemmas.List.{length-append, length-drop, length-map, map-append, take_all, take-append-le, drop-append-le}
use Rattle.std.proofs.lemmas.Option.{slice_get-map, slice_get_read, slice_get_past}
use Rattle.std.proofs.Math.Seq.{drop-append_seam}
use Rattle.std.proofs.lemmas.List.Elements.{All-append, All-cons, All-nil, All-head, All-tail, All-weaker}
use Rattle.frame_link.specs.declared.frames.Entry.{Entry}
use Rattle.frame_link.specs.Frames.{Sent, with_frame}
use Rattle.frame_link.specs.Region.{sent_at, sent_in, IsIn, IsGrown}

bytes_at : List ℕ → Entry → List ℕ
bytes_at region entry = take (entry.start + entry.len - entry.start) (drop entry.start region)

-- a frame stays as it is when more bytes come behind it
bytes_stay : (region more : List ℕ) (entry : Entry) → entry.start + entry.len ≤ length region → bytes_at (region ++ more) entry ≡ bytes_at region entry
unfolding bytes_at
bytes_stay region more entry within =
    let size : ℕ = entry.start + entry.len - entry.start in
    ap (take size) (drop-append-le entry.start region more (omega arith)) ∙ take-append-le size (drop entry.start region) more (omega (arith, length-drop entry.start region))

-- the new bytes are the new frame
bytes_come : (region more : List ℕ) (entry : Entry) → entry.start ≡ length region → entry.len ≡ length more → bytes_at (region ++ more) entry ≡ more
unfolding bytes_at
bytes_come region more entry start len =
    let size : ℕ = entry.start + entry.len - entry.start in
    let behind : drop entry.start (region ++ more) ≡ more = ap (λ n. drop n (region ++ more)) start ∙ drop-append_seam region more in
    ap (take size) behind ∙ take_all size more (omega arith)

entry_stays : (region more : List ℕ) (entry : Entry) → IsIn region entry → IsIn (region ++ more) entry
entry_stays region more entry is = record { within = omega (arith, length-append region more, is.within); short = is.short }

sent_stays : (region more : List ℕ) (entry : Entry) → IsIn region entry → sent_at (region ++ more) entry ≡ sent_at region entry
unfolding sent_at bytes_at
sent_stays region more entry is = ap (λ (frame : List ℕ). record { to = entry.to; frame = frame }) (bytes_stay region more entry is.within)

all_stay : (region more : List ℕ) (entries : List Entry) → All (IsIn region) entries → sent_in (region ++ more) entries ≡ sent_in region entries
unfolding sent_in
all_stay region more [] are = refl
all_stay region more (entry ∷ entries) are =
    let here : sent_at (region ++ more) entry ≡ sent_at region entry = sent_stays region more entry (All-head (IsIn region) entry entries are) in
    let others : sent_in (region ++ more) entries ≡ sent_in region entries = all_stay region more entries (All-tail (IsIn region) entry entries are) in
    ap (λ (s : Sent). s ∷ sent_in (region ++ more) entries) here ∙ ap (λ (all : List Sent). sent_at region entry ∷ all) others

sent_comes : (region frame : List ℕ) (entry : Entry) → entry.start ≡ length region → entry.len ≡ length frame
    → sent_at (region ++ frame) entry ≡ record { to = entry.to; frame = frame }
unfolding sent_at bytes_at
sent_comes region frame entry start len = ap (λ (bytes : List ℕ). record { to = entry.to; frame = bytes }) (bytes_come region frame entry start len)

frames_grow : (region frame : List ℕ) (entries : List Entry) (entry : Entry) → All (IsIn region) entries → entry.start ≡ length region → entry.len ≡ length frame
    → sent_in (region ++ frame) (entries ++ entry ∷ []) ≡ with_frame (sent_in region entries) entry.to frame
unfolding sent_in
frames_grow region frame entries entry are start len =
    map-append (sent_at (region ++ frame)) entries (entry ∷ [])
    ∙ ap (λ (all : List Sent). all ++ sent_at (region ++ frame) entry ∷ []) (all_stay region frame entries are)
    ∙ ap (λ (s : Sent). sent_in region entries ++ s ∷ []) (sent_comes region frame entry start len)

pub grown : (region region' frame : List ℕ) (entries entries' : List Entry) (entry : Entry) → All (IsIn region) entries
    → entry.start ≡ length region → entry.len ≡ length frame → length frame ≤ 8192 → region' ≡ region ++ frame → entries' ≡ entries ++ entry ∷ []
    → IsGrown region region' entries entries' entry.to frame
grown region region' frame entries entries' entry are start len short region-is entries-is =
    let here : IsIn (region ++ frame) entry = record { within = omega (arith, length-append region frame); short = omega arith } in
    let at : List ℕ → List Entry → Type 0 = λ r es. IsGrown region r entries es entry.to frame in
    subst (λ (r : List ℕ). at r entries') (sym region-is) (subst (λ (es : List Entry). at (region ++ frame) es) (sym entries-is) (record {
      sound = All-append (IsIn (region ++ frame)) entries (entry ∷ [])
          (All-weaker (IsIn region) (IsIn (region ++ frame)) (entry_stays region frame) entries are)
          (All-cons (IsIn (region ++ frame)) entry [] here (All-nil (IsIn (region ++ frame))));
      frames = frames_grow region frame entries entry are start len;
    }))

pub sent_number : (region : List ℕ) (entries : List Entry) → length (sent_in region entries) ≡ length entries
unfolding sent_in
sent_number region entries = length-map entries (sent_at region)

-- ---- looking up

pub no_sent : (region : List ℕ) (entries : List Entry) → entries ≡ [] → sent_in region entries ≡ []
unfolding sent_in
no_sent region entries none = ap (map (sent_at region)) none

pub found_at : (region : List ℕ) (entries : List Entry) (n : ℕ) (entry : Entry) → n < length entries → entry ≡ get_or entries n entry
    → Some (record { to = entry.to; frame = take (entry.start + entry.len - entry.start) (drop entry.start region) }) ≡ slice_get (sent_in region entries) n
unfolding sent_in sent_at
found_at region entries n entry within at =
    sym (slice_get-map (sent_at region) entries n ∙ ap (option_map (sent_at region)) (slice_get_read entries (length entries) n entry refl within at))

pub none_at : (region : List ℕ) (entries : List Entry) (n : ℕ) → length entries ≤ n → None ≡ slice_get (sent_in region entries) n
none_at region entries n past = sym (slice_get_past (sent_in region entries) n (omega (arith, sent_number region entries)))
