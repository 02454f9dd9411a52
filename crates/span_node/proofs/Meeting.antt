-- A loop that meets a strange frame ends there.
use Rattle.std.proofs.Common.{◌≡◌, ℕ, ◌<◌, ◌⊎◌, inl, inr, List, [], ◌∷◌, ◌++◌, length, map, get_or, slice_get, refl, sym, ap, ◌∙◌, subst, arith}
use Rattle.std.specs.Prelude.{Contains, Option, Some, None, option_map, Result, Ok, Err}
use Rattle.std.specs.List.{fold}
use Rattle.std.specs.Option.{option_map_or}
use Rattle.std.proofs.lemmas.List.{append_assoc, append-nil, append_cancel_left}
use Rattle.std.proofs.lemmas.List.Sums.{fold-append, position_or_len_is}
use Rattle.std.proofs.lemmas.Option.{slice_get_past}
use Rattle.wire_msg.specs.declared.outputs.Post.{Post}
use Rattle.run_marks.specs.declared.mark.Mark.{Mark}
use Rattle.world_core.specs.declared.event.Header.{Header}
use Rattle.world_core.specs.declared.event.Event.{Event}
use Rattle.world_core.specs.declared.event.Event.TheVariants.{Deliver}
use Rattle.world_core.specs.declared.event.StepFault.{StepFault}
use Rattle.world_core.specs.declared.event.StepFault.TheVariants.{NoMessage}
use Rattle.world_core.specs.State.{Store, opening}
use Rattle.world_core.specs.Step.{Outcome, deliver_to, step}
use Rattle.world_core.specs.Run.{Run, run_of}
use Rattle.world_core.proofs.Runs.{one_more_by, run_more}
use Rattle.schedule_text.specs.declared.setting.Form.TheVariants.{Script}
use Rattle.schedule_text.specs.Schedules.{Schedule, schedule_of}
use Rattle.schedule_replay.specs.declared.fault.ReplayFault.{ReplayFault}
use Rattle.schedule_replay.specs.declared.fault.ReplayFault.TheVariants as replay
use Rattle.frame_link.specs.Frames.{Sent}
use Rattle.span_node.specs.declared.fault.LoopFault.{LoopFault}
use Rattle.span_node.specs.declared.fault.LoopFault.TheVariants.{Bad, Limit, BadEvent, WriteFault, LinkFault, Strange, NoMemory}
use Rattle.span_node.specs.Traffic.{Traffic, Carries}
use Rattle.span_node.specs.Carried.{carried, is_same, first_same}
use Rattle.span_node.specs.Rounds.{Round, with_delivery, with_round, loop_events, answers_in, answers_of, script_of, IsKnown}
use Rattle.span_node.specs.Loops.{looped, IsIn, IsOver, IsRefused, IsFull, IsUnderWay, IsStrange, LoopEnds}
use Rattle.span_node.specs.Meeting.{IsMet, IsStrangeOrFailed}
use Rattle.span_node.proofs.Carrying.{many, same_is, differs}
use Rattle.span_node.proofs.Whole.{unrefused_front, one_script, read_once}

-- ---- the delivery of a frame that wasn't sent

unsent_number : (frames : List Sent) (sent : Sent) → (Contains frames sent → ⊥) → first_same frames sent ≡ length frames
unfolding first_same
unsent_number frames sent unsent =
    position_or_len_is (is_same sent) frames (length frames) sent (omega arith)
    (λ k within. differs (is_same sent (get_or frames k sent)) (λ same. unsent (k, within, same_is sent (get_or frames k sent) same)))
    (λ over. absurd (omega (arith, over)))

delivers_none : (store : Store) (n : ℕ) → slice_get store.sent n ≡ None → step store (Deliver n) ≡ Err (NoMessage (length store.sent))
unfolding step
delivers_none store n none = by (slice_get store.sent n) none
  where
    by : (found : Option Post) → found ≡ None → option_map_or (λ post. deliver_to store post.to post.message) found (let none : Outcome = Err (NoMessage (length store.sent)) in none) ≡ Err (NoMessage (length store.sent))
    by None is = refl
    by (Some post) is = absurd (cc)

refused_with : (r : Run) (outcome : Outcome) (refused : Option StepFault) (fault : StepFault) → refused ≡ None → outcome ≡ Err fault → (one_more_by r outcome refused).refused ≡ Some fault
refused_with r (Ok happening) refused fault none is = absurd (cc)
refused_with r (Err other) None fault none is = cc
refused_with r (Err other) (Some before) fault none is = absurd (cc)

refused_strange : (header : Header) (events : List Event) (sent : Sent) → (run_of header events).refused ≡ None → (Contains (carried (run_of header events).store.sent) sent → ⊥)
    → (run_of header (with_delivery header events sent)).refused ≡ None → ⊥
unfolding with_delivery
refused_strange header events sent unrefused strange none =
    let r : Run = run_of header events in
    let n : ℕ = first_same (carried r.store.sent) sent in
    let number : n ≡ length (carried r.store.sent) = unsent_number (carried r.store.sent) sent strange in
    let count : length (carried r.store.sent) ≡ length r.store.sent = many r.store.sent in
    let fault : StepFault = NoMessage (length r.store.sent) in
    let is : (run_of header (events ++ Deliver n ∷ [])).refused ≡ Some fault =
    ap (λ (x : Run). x.refused) (run_more events (Deliver n) (opening header))
    ∙ refused_with r (step r.store (Deliver n)) r.refused fault unrefused (delivers_none r.store n (slice_get_past r.store.sent n (omega (arith, number, count)))) in
    let e : Some fault ≡ None = sym is ∙ none in
    cc

-- ---- events that come behind others

behind_frames : (header : Header) (events : List Event) (frames : List Sent) → (tail : List Event) × (fold (with_delivery header) events frames ≡ events ++ tail)
unfolding with_delivery
behind_frames header events [] = ([], sym (append-nil events))
behind_frames header events (frame ∷ frames) =
    let one : Event = Deliver (first_same (carried (run_of header events).store.sent) frame) in
    let rest : (tail : List Event) × (fold (with_delivery header) (events ++ one ∷ []) frames ≡ (events ++ one ∷ []) ++ tail) = behind_frames header (events ++ one ∷ []) frames in
    (one ∷ rest.0, rest.1 ∙ append_assoc events (one ∷ []) rest.0)

behind_rounds : (header : Header) (events : List Event) (rounds : List Round) → (tail : List Event) × (fold (with_round header) events rounds ≡ events ++ tail)
unfolding with_round
behind_rounds header events [] = ([], sym (append-nil events))
behind_rounds header events (round ∷ rounds) =
    let base : List Event = fold (with_delivery header) (events ++ round.event ∷ []) round.arrived in
    let own : (tail : List Event) × (base ≡ (events ++ round.event ∷ []) ++ tail) = behind_frames header (events ++ round.event ∷ []) round.arrived in
    let rest : (tail : List Event) × (fold (with_round header) base rounds ≡ base ++ tail) = behind_rounds header base rounds in (
      (round.event ∷ own.0) ++ rest.0,
      rest.1 ∙ ap (λ (es : List Event). es ++ rest.0) (own.1 ∙ append_assoc events (round.event ∷ []) own.0) ∙ append_assoc events (round.event ∷ own.0) rest.0,
    )

-- ---- lists of answers

never_empty : {A : Type 0} (xs : List A) (x : A) (ys : List A) → xs ++ x ∷ ys ≡ [] → ⊥
never_empty [] x ys h = absurd (cc)
never_empty (z ∷ zs) x ys h = absurd (cc)

none_left : (rounds : List Round) → answers_of rounds ≡ [] → rounds ≡ []
unfolding answers_of answers_in
none_left [] h = refl
none_left (round ∷ rounds) h =
    absurd (never_empty (map Some round.arrived) None (answers_of rounds) (sym (append_assoc (map Some round.arrived) (None ∷ []) (answers_of rounds)) ∙ h))

-- the last item is the one, or that stands before it
either_last : {A : Type 0} (xs : List A) (x : A) (tail ys : List A) (y : A) → (xs ++ x ∷ []) ++ tail ≡ ys ++ y ∷ [] → ((xs ≡ ys) × (x ≡ y)) ⊎ ((more : List A) × ((xs ++ x ∷ []) ++ more ≡ ys))
either_last [] x tail [] y h = inl (refl, cc)
either_last [] x tail (z ∷ zs) y h = inr (zs, (let e : x ≡ z = cc in ap (λ w. w ∷ zs) e))
either_last (u ∷ us) x tail [] y h = absurd (never_empty us x tail (sym (append_assoc us (x ∷ []) tail) ∙ (let e : (us ++ x ∷ []) ++ tail ≡ [] = cc in e)))
either_last {A} (u ∷ us) x tail (z ∷ zs) y h = next (let e : u ≡ z = cc in e) (either_last us x tail zs y (let e : (us ++ x ∷ []) ++ tail ≡ zs ++ y ∷ [] = cc in e))
  where
    next : u ≡ z → ((us ≡ zs) × (x ≡ y)) ⊎ ((more : List A) × ((us ++ x ∷ []) ++ more ≡ zs)) → ((u ∷ us ≡ z ∷ zs) × (x ≡ y)) ⊎ ((more : List A) × (((u ∷ us) ++ x ∷ []) ++ more ≡ z ∷ zs))
    next same (inl (is, it)) = inl (cc, it)
    next same (inr (more, is)) = inr (more, cc)

-- two rounds with the same frames, behind which the answers go on
record GoAlong (rest closes meets : List (Option Sent)) (sent : Sent) (xs ys : List Sent) : Type 0 where
  same : ys ≡ xs
  given : List (Option Sent)
  closed : given ++ None ∷ [] ≡ closes
  met : given ++ Some sent ∷ rest ≡ meets

-- the last round, in which the strange frame comes behind the others
record ComesHere (closes : List (Option Sent)) (sent : Sent) (xs ys : List Sent) : Type 0 where
  last : closes ≡ []
  behind : List Sent
  longer : ys ≡ xs ++ sent ∷ behind

abbrev Parts : List (Option Sent) → List (Option Sent) → List (Option Sent) → Sent → List Sent → List Sent → Type 0
Parts rest closes meets sent xs ys = GoAlong rest closes meets sent xs ys ⊎ ComesHere closes sent xs ys

one_frame_more : (rest closes meets : List (Option Sent)) (sent : Sent) (x y : Sent) (xs ys : List Sent) → y ≡ x → Parts rest closes meets sent xs ys → Parts rest closes meets sent (x ∷ xs) (y ∷ ys)
one_frame_more rest closes meets sent x y xs ys is (inl along) = let same = along.same in inl (record { same = cc; given = along.given; closed = along.closed; met = along.met })
one_frame_more rest closes meets sent x y xs ys is (inr here) = let longer = here.longer in inr (record { last = here.last; behind = here.behind; longer = cc })

parts : (given rest closes meets : List (Option Sent)) (sent : Sent) (xs ys : List Sent) → given ++ None ∷ [] ≡ (map Some xs ++ None ∷ []) ++ closes → given ++ Some sent ∷ rest ≡ (map Some ys ++ None ∷ []) ++ meets
    → Parts rest closes meets sent xs ys
parts [] rest closes meets sent [] [] h k = absurd (cc)
parts (g ∷ given) rest closes meets sent [] [] h k = inl (record { same = refl; given = given; closed = cc; met = cc })
parts [] rest closes meets sent [] (y ∷ ys) h k = inr (record { last = cc; behind = ys; longer = cc })
parts (g ∷ given) rest closes meets sent [] (y ∷ ys) h k = absurd (cc)
parts [] rest closes meets sent (x ∷ xs) ys h k = absurd (cc)
parts (g ∷ given) rest closes meets sent (x ∷ xs) [] h k = absurd (cc)
parts (g ∷ given) rest closes meets sent (x ∷ xs) (y ∷ ys) h k = one_frame_more rest closes meets sent x y xs ys (let e : y ≡ x = cc in e) (parts given rest closes meets sent xs ys (cc) (cc))

-- ---- the rounds

-- rounds whose answers have the frame where others' are over deliver it there
met_rounds : (header : Header) (sent : Sent) (rounds others : List Round) (given rest : List (Option Sent)) (left right events : List Event) → given ++ None ∷ [] ≡ answers_of rounds → given ++ Some sent ∷ rest ≡ answers_of others
    → script_of rounds ++ left ≡ script_of others ++ right → (tail : List Event) × (fold (with_round header) events others ≡ with_delivery header (fold (with_round header) events rounds) sent ++ tail)
unfolding answers_of answers_in script_of with_round
met_rounds header sent [] others given rest left right events closed met script = absurd (never_empty given None [] closed)
met_rounds header sent (r ∷ rounds) [] given rest left right events closed met script = absurd (never_empty given (Some sent) rest met)
met_rounds header sent (r ∷ rounds) (q ∷ others) given rest left right events closed met script =
    by (let e : q.event ≡ r.event = cc in e) (parts given rest (answers_of rounds) (answers_of others) sent r.arrived q.arrived closed met)
    (λ given closed met. met_rounds header sent rounds others given rest left right (with_round header events r) closed met (let e : script_of rounds ++ left ≡ script_of others ++ right = cc in e))
  where
    by : q.event ≡ r.event → Parts rest (answers_of rounds) (answers_of others) sent r.arrived q.arrived
        → ((given : List (Option Sent)) → given ++ None ∷ [] ≡ answers_of rounds → given ++ Some sent ∷ rest ≡ answers_of others
        → (tail : List Event) × (fold (with_round header) (with_round header events r) others ≡ with_delivery header (fold (with_round header) (with_round header events r) rounds) sent ++ tail))
        → (tail : List Event) × (fold (with_round header) (with_round header events q) others ≡ with_delivery header (fold (with_round header) (with_round header events r) rounds) sent ++ tail)
    by event (inl along) further =
        let same : (with_round header events q) ≡ (with_round header events r) = ap (λ e. fold (with_delivery header) (events ++ e ∷ []) q.arrived) event ∙ ap (fold (with_delivery header) (events ++ r.event ∷ [])) along.same in
        let rest : (tail : List Event) × (fold (with_round header) (with_round header events r) others ≡ with_delivery header (fold (with_round header) (with_round header events r) rounds) sent ++ tail) = further along.given along.closed along.met in
        (rest.0, ap (λ (es : List Event). fold (with_round header) es others) same ∙ rest.1)
    by event (inr here) further =
        let met_there : List Event = with_delivery header (with_round header events r) sent in
        let same : (with_round header events q) ≡ fold (with_delivery header) met_there here.behind =
        ap (λ e. fold (with_delivery header) (events ++ e ∷ []) q.arrived) event ∙ ap (fold (with_delivery header) (events ++ r.event ∷ [])) here.longer
        ∙ fold-append (with_delivery header) (events ++ r.event ∷ []) r.arrived (sent ∷ here.behind) in
        let own : (tail : List Event) × (fold (with_delivery header) met_there here.behind ≡ met_there ++ tail) = behind_frames header met_there here.behind in
        let rest : (tail : List Event) × (fold (with_round header) (with_round header events q) others ≡ (with_round header events q) ++ tail) = behind_rounds header (with_round header events q) others in (
          own.0 ++ rest.0,
          rest.1 ∙ ap (λ (es : List Event). es ++ rest.0) (same ∙ own.1) ∙ append_assoc met_there own.0 rest.0
              ∙ ap (λ (rs : List Round). with_delivery header (fold (with_round header) (with_round header events r) rs) sent ++ (own.0 ++ rest.0)) (sym (none_left rounds here.last)),
        )

-- ---- how the loop ends

module _ (schedule : Schedule) (from now : Traffic) (sent : Sent) (is : IsMet schedule from now sent) where
  abbrev events : List Event
  events = loop_events schedule.header is.rounds

  given_are : (frames : List Sent) (given : List (Option Sent)) → Carries from now frames given → is.given ++ Some sent ∷ is.more ≡ given
  given_are frames given carries =
      let told : now.answers ≡ Some (is.before ++ given) = carries.answers ∙ ap (option_map (λ (b : List (Option Sent)). b ++ given)) is.asked in
      let were = is.answers in
      let e : is.before ++ (is.given ++ Some sent ∷ is.more) ≡ is.before ++ given = cc in
      append_cancel_left is.before (is.given ++ Some sent ∷ is.more) given e

  delivered : (rounds : List Round) (left : List Event) (rest : List (Option Sent)) → is.given ++ Some sent ∷ rest ≡ answers_of rounds → script_of rounds ++ left ≡ schedule.events
      → (tail : List Event) × (loop_events schedule.header rounds ≡ with_delivery schedule.header events sent ++ tail)
  unfolding loop_events
  delivered rounds left rest met script = met_rounds schedule.header sent is.rounds rounds is.given rest is.left left [] is.open_round met (is.script ∙ sym script)

  no_further : (more : List Event) → (run_of schedule.header (with_delivery schedule.header events sent ++ more)).refused ≡ None → ⊥
  no_further more none = refused_strange schedule.header events sent is.unrefused is.strange (unrefused_front schedule.header (with_delivery schedule.header events sent) more none)

  not_unrefused : (rounds : List Round) (left : List Event) (rest : List (Option Sent)) → is.given ++ Some sent ∷ rest ≡ answers_of rounds → script_of rounds ++ left ≡ schedule.events
      → (looped schedule rounds).refused ≡ None → ⊥
  not_unrefused rounds left rest met script none =
      let all : (tail : List Event) × (loop_events schedule.header rounds ≡ with_delivery schedule.header events sent ++ tail) = delivered rounds left rest met script in
      no_further all.0 (sym (ap (λ (es : List Event). (run_of schedule.header es).refused) all.1) ∙ none)

  -- nor is it the last event, which delivers nothing unknown
  not_known : (rounds : List Round) (left done : List Event) (last : Event) (rest : List (Option Sent)) → is.given ++ Some sent ∷ rest ≡ answers_of rounds → script_of rounds ++ left ≡ schedule.events
      → loop_events schedule.header rounds ≡ done ++ last ∷ [] → (run_of schedule.header done).refused ≡ None → IsKnown last (length (run_of schedule.header done).store.sent) → ⊥
  unfolding with_delivery
  not_known rounds left done last rest met script ends none known =
      let all : (tail : List Event) × (loop_events schedule.header rounds ≡ with_delivery schedule.header events sent ++ tail) = delivered rounds left rest met script in
      let posts : List Post = (run_of schedule.header events).store.sent in
      let n : ℕ = first_same (carried posts) sent in
      by (either_last events (Deliver n) all.0 done last (sym all.1 ∙ ends))
    where
      by : ((events ≡ done) × (Deliver (first_same (carried (run_of schedule.header events).store.sent) sent) ≡ last))
          ⊎ ((more : List Event) × ((events ++ Deliver (first_same (carried (run_of schedule.header events).store.sent) sent) ∷ []) ++ more ≡ done)) → ⊥
      by (inl (same, one)) =
          let posts : List Post = (run_of schedule.header events).store.sent in
          let n : ℕ = first_same (carried posts) sent in
          let low : n < length posts = subst (λ (e : Event). IsKnown e (length posts)) (sym one) (subst (λ (es : List Event). IsKnown last (length (run_of schedule.header es).store.sent)) (sym same) known) in
          let number : n ≡ length (carried posts) = unsent_number (carried posts) sent is.strange in
          let count : length (carried posts) ≡ length posts = many posts in
          omega (arith, low, number, count)
      by (inr (more, front)) = no_further more (ap (λ (es : List Event). (run_of schedule.header es).refused) front ∙ none)

  met_in : (rounds : List Round) (frames : List Sent) (among : IsIn schedule rounds from now frames []) → is.given ++ Some sent ∷ (is.more ++ None ∷ []) ≡ answers_of rounds
  met_in rounds frames among =
      sym (append_assoc is.given (Some sent ∷ is.more) (None ∷ []))
      ∙ ap (λ (gs : List (Option Sent)). gs ++ None ∷ []) (given_are frames (among.given ++ []) among.carries ∙ append-nil among.given) ∙ among.open_round

  not_over : (marks : List Mark) (messages : ℕ) → IsOver schedule marks from now messages → ⊥
  not_over marks messages o =
      not_unrefused o.rounds [] is.more (given_are (carried (looped schedule o.rounds).store.sent) (answers_of o.rounds) o.carries) (append-nil (script_of o.rounds) ∙ o.script) o.unrefused

  not_under_way : (marks : List Mark) → IsUnderWay schedule marks from now → ⊥
  not_under_way marks o = not_unrefused o.rounds o.among.left (is.more ++ None ∷ []) (met_in o.rounds o.frames o.among) o.among.script o.unrefused

  not_refused : (marks : List Mark) (told : ReplayFault) → IsRefused schedule marks from now told → ⊥
  not_refused marks told o =
      not_known o.rounds o.among.left o.done o.last (is.more ++ None ∷ []) (met_in o.rounds (carried (looped schedule o.rounds).store.sent) o.among) o.among.script o.events_are o.unrefused o.known

  not_full : (marks : List Mark) (told : ReplayFault) → IsFull schedule marks from now told → ⊥
  not_full marks told o =
      not_known o.rounds o.among.left o.done o.last (is.more ++ None ∷ []) (met_in o.rounds (carried (run_of schedule.header o.done).store.sent) o.among) o.among.script o.events_are o.unrefused o.known

  same_strange : (marks : List Mark) (other : Sent) → IsStrange schedule marks from now other → other ≡ sent
  same_strange marks other o =
      by (either_last is.given (Some sent) is.more o.among.given (Some other)
      (append_assoc is.given (Some sent ∷ []) is.more ∙ given_are (carried (looped schedule o.rounds).store.sent) (o.among.given ++ Some other ∷ []) o.among.carries))
    where
      by : ((is.given ≡ o.among.given) × (Some sent ≡ Some other)) ⊎ ((more : List (Option Sent)) × ((is.given ++ Some sent ∷ []) ++ more ≡ o.among.given)) → other ≡ sent
      by (inl (same, one)) = cc
      by (inr (more, front)) =
          absurd (not_unrefused o.rounds o.among.left (more ++ None ∷ [])
          (sym (append_assoc is.given (Some sent ∷ more) (None ∷ [])) ∙ ap (λ (gs : List (Option Sent)). gs ++ None ∷ []) (sym (append_assoc is.given (Some sent ∷ []) more) ∙ front) ∙ o.among.open_round)
          o.among.script o.unrefused)

-- a strange frame is told, but for want of memory and a sink that failed
pub strange_told : (text : List ℕ) (schedule : Schedule) (old new : Option (List ℕ)) (from now : Traffic) (sent : Sent) (result : Result ℕ LoopFault) → schedule_of Script text ≡ Ok schedule
    → IsMet schedule from now sent → LoopEnds text old new from now result → IsStrangeOrFailed sent result
strange_told text schedule old new from now sent result read is ends = by result ends
  where
    by : (result : Result ℕ LoopFault) → LoopEnds text old new from now result → IsStrangeOrFailed sent result
    by (Ok messages) (other, says, marks, taken, keeps, o) =
        absurd (not_over schedule from now sent is marks messages (subst (λ (s : Schedule). IsOver s marks from now messages) (one_script text other schedule says read) o))
    by (Err (Bad line cause)) unread = absurd (read_once text schedule _ read unread.0)
    by (Err (Limit line what number)) (inl unread) = absurd (read_once text schedule _ read unread.0)
    by (Err (Limit line what number)) (inr (other, says, marks, taken, keeps, inl o)) =
        absurd (not_refused schedule from now sent is marks (replay.Limit line what number) (subst (λ (s : Schedule). IsRefused s marks from now (replay.Limit line what number)) (one_script text other schedule says read) o))
    by (Err (Limit line what number)) (inr (other, says, marks, taken, keeps, inr o)) =
        absurd (not_full schedule from now sent is marks (replay.Limit line what number) (subst (λ (s : Schedule). IsFull s marks from now (replay.Limit line what number)) (one_script text other schedule says read) o))
    by (Err (BadEvent line cause)) (other, says, marks, taken, keeps, o) =
        absurd (not_refused schedule from now sent is marks (replay.BadEvent line cause) (subst (λ (s : Schedule). IsRefused s marks from now (replay.BadEvent line cause)) (one_script text other schedule says read) o))
    by (Err WriteFault) cut = tt
    by (Err LinkFault) (other, says, marks, taken, keeps, o) =
        absurd (not_under_way schedule from now sent is marks (subst (λ (s : Schedule). IsUnderWay s marks from now) (one_script text other schedule says read) o))
    by (Err (Strange to frame)) (other, says, marks, taken, keeps, o) =
        same_strange schedule from now sent is marks (record { to = to; frame = frame }) (subst (λ (s : Schedule). IsStrange s marks from now (record { to = to; frame = frame })) (one_script text other schedule says read) o)
    by (Err NoMemory) ends = tt
