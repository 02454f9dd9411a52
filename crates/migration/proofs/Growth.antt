-- Lists of messages and posts that grow, and what they have.
use Rattle.std.proofs.Common.{◌≡◌, ℕ, true, false, List, [], ◌∷◌, map}
use Rattle.std.specs.List.{All, Contains}
use Rattle.std.proofs.lemmas.List.Elements.{All-nil, All-cons, All-contains, All-weaker, Contains-append_left, Contains-append_right, Contains-push}
use Rattle.span_base.specs.declared.dc_set.DcSet.{DcSet}
use Rattle.span_base.specs.declared.policy.Policy.{Policy}
use Rattle.span_base.specs.DcSet.{has, no_centre, centres_of}
use Rattle.span_base.proofs.Sets.{has-no_centre, Contains-centres_of}
use Rattle.wire_msg.specs.declared.message.Message.{Message}
use Rattle.wire_msg.specs.declared.message.Message.TheVariants as m
use Rattle.wire_msg.specs.declared.outputs.Post.{Post}
use Rattle.call_phase.specs.Requests.{post_to, posts_to}
use Rattle.migration.specs.Runs.{IsTold}

pub newest : (message : Message) (taken : List Message) → Contains (message ∷ taken) message
newest message taken = Contains-append_left (message ∷ []) taken message (Contains-push [] message)

pub later : (message : Message) (taken : List Message) (one : Message) → Contains taken one → Contains (message ∷ taken) one
later message taken one there = Contains-append_right (message ∷ []) taken one there

pub told_later : (message : Message) (taken : List Message) (number : ℕ) (policy : Policy) → IsTold taken number policy → IsTold (message ∷ taken) number policy
told_later message taken number policy is = record {
  tag = is.tag;
  key = is.key;
  current = is.current;
  current_policy = is.current_policy;
  told = later message taken (m.Here is.tag is.key is.current is.current_policy number policy) is.told;
}

Contains-map : (f : ℕ → Post) (ds : List ℕ) (d : ℕ) → Contains ds d → Contains (map f ds) (f d)
Contains-map f ds d there = All-contains (λ e. Contains (map f ds) (f e)) ds d (mapped f ds) there
  where
    mapped : (f : ℕ → Post) (ds : List ℕ) → All (λ e. Contains (map f ds) (f e)) ds
    mapped f [] = All-nil (λ e. Contains (map f []) (f e))
    mapped f (e ∷ es) =
        All-cons (λ d. Contains (map f (e ∷ es)) (f d)) e es
        (Contains-append_left (f e ∷ []) (map f es) (f e) (Contains-push [] (f e)))
        (All-weaker (λ d. Contains (map f es) (f d)) (λ d. Contains (map f (e ∷ es)) (f d)) (λ d h. Contains-append_right (f e ∷ []) (map f es) (f d) h) es (mapped f es))

pub Contains-posts_to : (set : DcSet) (message : Message) (d : ℕ) → has set d ≡ true → Contains (posts_to set message) (post_to message d)
Contains-posts_to set message d there = Contains-map (post_to message) (centres_of set) d (Contains-centres_of set d there)

pub no_member : (d : ℕ) → has no_centre d ≡ true → ⊥
no_member d there =
    let none : has no_centre d ≡ false = has-no_centre d in
    absurd cc
