-- To whom a call's posts go, of which key they speak, and how much they are.
use Rattle.std.proofs.Common.{◌≡◌, ◌≢◌, ℕ, ◌≤◌, Bool, true, false, cond, ◌&&◌, ◌⊎◌, inl, inr, IsTrue, List, [], ◌∷◌, length, Option, Some, None, IfSome, refl, sym, ◌∙◌, subst, arith}
use Rattle.std.specs.Prelude.{max}
use Rattle.std.specs.List.{filter, range_with_len}
use Rattle.std.specs.Option.{option_map_or}
use Rattle.std.proofs.lemmas.Bool.{cases_eq}
use Rattle.std.proofs.lemmas.List.Elements.{All-weaker, filter_passes}
use Rattle.span_base.specs.declared.ids.DcId.{DcId}
use Rattle.span_base.specs.declared.dc_set.DcSet.{DcSet}
use Rattle.span_base.specs.DcSet.{has, no_centre, insert}
use Rattle.span_base.specs.Policy.{IsSoundPolicy}
use Rattle.span_base.specs.PolicyParts.{replicas_of, primary_of}
use Rattle.span_base.proofs.Sets.{has-no_centre, has-insert_other}
use Rattle.ticket_rules.specs.declared.stamp.Stamp.{Stamp}
use Rattle.wire_msg.specs.declared.tag.Tag.{Tag}
use Rattle.wire_msg.specs.declared.message.Message.TheVariants as m
use Rattle.wire_msg.specs.declared.outputs.View.{View}
use Rattle.wire_msg.specs.declared.outputs.Reply.{Reply}
use Rattle.wire_msg.specs.declared.outputs.Reply.TheVariants.{Stored}
use Rattle.wire_msg.specs.Outputs.{Step}
use Rattle.wire_msg.specs.Posts.{ArePostsOf}
use Rattle.wire_msg.proofs.Sent.{no_posts, posts_to_directory, posts_to_each, posts_within}
use Rattle.call_phase.specs.Counting.{counts, with_good, with_bad}
use Rattle.call_phase.specs.Requests.{posts_to}
use Rattle.call_phase.proofs.Sent.{posts_to-of_key}
use Rattle.relay_proxy.specs.declared.stage.Stage.{Stage}
use Rattle.relay_proxy.specs.declared.stage.Stage.TheVariants.{Getting, Putting, Ended}
use Rattle.relay_proxy.specs.Routes.{is_direct, directs_below}
use Rattle.relay_proxy.specs.State.{State}
use Rattle.relay_proxy.specs.Rule.{asked_of, push_to, pushes_below, look_up, stays, ends, moves, is_stored, all_refused, on_yes, on_gone, stored_at, refused_at}
use Rattle.relay_proxy.proofs.Primaries.{primary_among}

-- ---- the first requests

-- the one centre of a set
only_one : (replicas : DcSet) (p d : ℕ) → IsTrue (has replicas p) → (d ≡ p) ⊎ (d ≢ p) → IsTrue (has (insert no_centre p) d) → IsTrue (has replicas d)
only_one replicas p d there (inl same) asked = subst (λ (n : ℕ). IsTrue (has replicas n)) (sym same) there
only_one replicas p d there (inr other) asked =
    absurd (let none : true ≡ false = sym asked ∙ has-insert_other no_centre p d other ∙ has-no_centre d in cc)

one_among : (replicas : DcSet) (primary : Option ℕ) (d : ℕ) → IfSome primary (λ p. IsTrue (has replicas p)) → IsTrue (has (option_map_or (insert no_centre) primary no_centre) d) → IsTrue (has replicas d)
one_among replicas None d there asked = absurd (let none : true ≡ false = sym asked ∙ has-no_centre d in cc)
one_among replicas (Some p) d there asked = only_one replicas p d there (cases_eq d p) asked

-- a get asks replicas
asked_among : (view : View) (at : ℕ) (any : Bool) (d : ℕ) → IsSoundPolicy view.policy → IsTrue (has (asked_of view at any) d) → IsTrue (has (replicas_of view.policy) d)
asked_among view at true d sound asked = asked
asked_among view at false d sound asked = one_among (replicas_of view.policy) (primary_of view.policy at) d (primary_among view.policy at sound) asked

pub reads_are : (tag : Tag) (at : ℕ) (view : View) (any : Bool) → IsSoundPolicy view.policy
    → ArePostsOf view.key (replicas_of view.policy) (posts_to (asked_of view at any) (m.Read tag view.key view.epoch))
reads_are tag at view any sound =
    posts_within view.key (asked_of view at any) (replicas_of view.policy) _ (λ d. asked_among view at any d sound)
    (posts_to-of_key view.key (asked_of view at any) (m.Read tag view.key view.epoch) refl (omega arith))

first_holds : (a b : Bool) → IsTrue (a && b) → IsTrue a
first_holds true b both = refl
first_holds false b both = absurd (cc)

few_pass : (p : ℕ → Bool) (xs : List ℕ) → length (filter p xs) ≤ length xs
few_pass p [] = omega arith
few_pass p (x ∷ xs) = by (p x) (few_pass p xs)
  where
    by : (b : Bool) → length (filter p xs) ≤ length xs → length (cond b (x ∷ filter p xs) (filter p xs)) ≤ length (x ∷ xs)
    by true less = omega arith
    by false less = omega arith

-- a put goes to replicas
pub pushes_are : (tag : Tag) (at : ℕ) (view : View) (stamp : Stamp) (value : List ℕ) → length value ≤ 4096
    → ArePostsOf view.key (replicas_of view.policy) (pushes_below tag at view stamp value 16)
unfolding directs_below
pushes_are tag at view stamp value short =
    posts_to_each view.key (replicas_of view.policy) (push_to tag at view stamp value) (directs_below view.policy at 16)
    (few_pass (is_direct view.policy at) (range_with_len 0 16))
    (All-weaker (λ d. IsTrue (is_direct view.policy at d)) (λ d. IsTrue (has (replicas_of view.policy) d)) (λ d. first_holds _ _) (directs_below view.policy at 16) (filter_passes (is_direct view.policy at) (range_with_len 0 16)))
    (λ d. refl) (λ d. omega (arith, short))

-- ---- what follows them

-- a call's posts, as it takes a message
abbrev pub Asks : State → Step State → Type 0
Asks call made = ArePostsOf call.key call.phase.asked made.out.posts

silent : (call : State) → Asks call (stays call)
silent call = no_posts call.key call.phase.asked

over : (call : State) (reply : Reply) → Asks call (ends call reply)
over call reply = no_posts call.key call.phase.asked

moved : (call : State) (epoch : ℕ) → Asks call (moves call epoch)
moved call epoch = posts_to_directory call.key call.phase.asked (look_up call) refl (omega arith)

either : (call : State) (b : Bool) (x y : Step State) → Asks call x → Asks call y → Asks call (cond b x y)
either call true x y first second = first
either call false x y first second = second

stored_are : (call : State) (replica : DcId) (stamp : Stamp) → Asks call (stored_at call replica stamp)
stored_are call replica stamp = either call (is_stored call.f (with_good call.phase replica)) _ _ (over call (Stored stamp)) (silent call)

pub yes_are : (stage : Stage) (call : State) (tag : Tag) (replica : DcId) → Asks call (on_yes stage call tag replica)
yes_are Getting call tag replica = silent call
yes_are (Putting stamp) call tag replica = either call (counts call.phase tag replica) _ _ (stored_are call replica stamp) (silent call)
yes_are Ended call tag replica = silent call

refused_are : (call : State) (replica : DcId) (epoch : ℕ) → Asks call (refused_at call replica epoch)
refused_are call replica epoch = either call (all_refused (with_bad call.phase replica)) _ _ (moved call (max call.gone epoch)) (silent call)

pub gone_are : (stage : Stage) (call : State) (tag : Tag) (replica : DcId) (epoch : ℕ) → Asks call (on_gone stage call tag replica epoch)
gone_are Getting call tag replica epoch = either call (counts call.phase tag replica) _ _ (refused_are call replica epoch) (silent call)
gone_are (Putting stamp) call tag replica epoch = either call (counts call.phase tag replica) _ _ (moved call epoch) (silent call)
gone_are Ended call tag replica epoch = silent call
