-- What the directory tells at an event answers a request of the same key, and so after every event.
use Rattle.std.proofs.Common.{◌≡◌, ℕ, Bool, refl, sym, ap, ◌∙◌, subst, ◌≤◌, true, List, [], ◌∷◌, arith, None, Contains, inr, inl, ◌⊎◌}
use Rattle.register_law.proofs.Words.{KeyId, Policy, Actor, Message, Tag, current_of, latest, can_switch, Store, policy_of, replica_at, Happening, is_strong_key, WasSent, request_key, Happened, IsNewest, OpeningsAreBacked, Ghost, noted_of, Inv, KeysAgree, SwitchAsked}
use Rattle.wire_msg.specs.declared.actor.Actor.TheVariants as to
use Rattle.wire_msg.specs.declared.message.Message.TheVariants as m
use Rattle.epoch_directory.specs.Step.{step}
use Rattle.register_law.proofs.Basics.{WasPosted, sent_cases}
use Rattle.register_law.proofs.MovesKept.{Posted, by_start, by_replica, by_directory, by_call, posted, take_own, opened_own}
use Rattle.register_law.proofs.TagsSent.{IsReplicaPost, answers_it, passes_on, IsReplicaAnswer, replica_posts, IsDirectoryPost, tells_here, tells_switched, directory_posts}
use Rattle.register_law.proofs.MovesStable.{sent_stays}
use Rattle.register_law.proofs.OpeningsCurrent.{keys_stay, quorum_is_strong}
use Rattle.register_law.proofs.Growth.{grows_by}

-- a message that only the directory sends
abbrev pub IsTold : Message → Type 0
IsTold (m.Here tag key epoch policy newest newest_policy) = Unit {0}
IsTold (m.Switched tag key done epoch) = Unit {0}
IsTold _ = ⊥

told_is_no_request : (message : Message) → IsTold message → request_key message ≡ None
told_is_no_request (m.Here tag key epoch policy newest newest_policy) is = refl
told_is_no_request (m.Switched tag key done epoch) is = refl
told_is_no_request _ is = absurd is

told_is_no_answer : (message : Message) → IsTold message → IsReplicaAnswer message → ⊥
told_is_no_answer (m.Here tag key epoch policy newest newest_policy) is answer = answer
told_is_no_answer (m.Switched tag key done epoch) is answer = answer
told_is_no_answer _ is answer = absurd is

-- the directory took this, and told the message
pub record ToldNow (s : Store) (h : Happening) (message : Message) : Type 0 where
  pub from : Message
  pub sent : WasSent s from
  pub directory_is : h.store.directory ≡ (step s.directory from).state
  pub told : IsDirectoryPost s.directory from message

pub told_now : (s : Store) (h : Happening) (whom : Actor) (message : Message) → IsTold message → Posted s h (record { to = whom; message = message }) → ToldNow s h message
told_now s h whom message is (by_start p at work st c) =
    let own = opened_own s p at work h st (record { to = whom; message = message }) c in
    absurd (let e = sym own.key_is ∙ told_is_no_request message is in cc)
told_now s h whom message is (by_replica d from sent c) = told (replica_posts (replica_at s d).state from (record { to = whom; message = message }) c)
  where
    told : IsReplicaPost from message → ToldNow s h message
    told (answers_it _ _ answer) = absurd (told_is_no_answer message is answer)
    told (passes_on tag at stamp onward none value e f) = absurd (let k = sym (told_is_no_request message is) ∙ ap request_key f in cc)
told_now s h whom message is (by_directory from sent directory_is c) = record { from = from; sent = (to.Directory, sent); directory_is = directory_is; told = directory_posts s.directory from (record { to = whom; message = message }) c }
told_now s h whom message is (by_call p from old ct c) =
    let own = take_own old from _ _ (record { to = whom; message = message }) c in
    absurd (let e = sym own.key_is ∙ told_is_no_request message is in cc)

-- a Here that is told now answers a Lookup of its key
pub record HereNow (s : Store) (tag : Tag) (at : KeyId) (epoch : ℕ) (policy : Policy) (newest : ℕ) (newest_policy : Policy) : Type 0 where
  pub asked : WasSent s (m.Lookup tag at)
  pub epoch_is : epoch ≡ current_of s.directory at
  pub policy_is : policy ≡ policy_of s at (current_of s.directory at)
  pub newest_is : newest ≡ latest s.directory
  pub newest_policy_is : newest_policy ≡ policy_of s at (latest s.directory)

pub here_now : (s : Store) (h : Happening) (tag : Tag) (at : KeyId) (epoch : ℕ) (policy : Policy) (newest : ℕ) (newest_policy : Policy) → ToldNow s h (m.Here tag at epoch policy newest newest_policy) → HereNow s tag at epoch policy newest newest_policy
here_now s h tag at epoch policy newest newest_policy t = by t.told
  where
    by : IsDirectoryPost s.directory t.from (m.Here tag at epoch policy newest newest_policy) → HereNow s tag at epoch policy newest newest_policy
    by (tells_switched other key closing opening from e) = absurd (cc)
    by (tells_here other key from e) =
        let tag_is : other ≡ tag = cc in
        let at_is : key ≡ at = cc in
        let epoch_is : epoch ≡ current_of s.directory key = cc in
        let policy_is : policy ≡ policy_of s key (current_of s.directory key) = cc in
        let newest_is : newest ≡ latest s.directory = cc in
        let newest_policy_is : newest_policy ≡ policy_of s key (latest s.directory) = cc in
        record {
          asked = subst (λ (x : KeyId). WasSent s (m.Lookup tag x)) at_is (subst (λ (x : Tag). WasSent s (m.Lookup x key)) tag_is (subst (WasSent s) from t.sent));
          epoch_is = subst (λ (x : KeyId). epoch ≡ current_of s.directory x) at_is epoch_is;
          policy_is = subst (λ (x : KeyId). policy ≡ policy_of s x (current_of s.directory x)) at_is policy_is;
          newest_is = newest_is;
          newest_policy_is = subst (λ (x : KeyId). newest_policy ≡ policy_of s x (latest s.directory)) at_is newest_policy_is;
        }

-- a Switched that is told now answers a Switch of its key
pub record SwitchedNow (s : Store) (h : Happening) (tag : Tag) (at : KeyId) (done : Bool) : Type 0 where
  pub closing : ℕ
  pub opening : ℕ
  pub asked : WasSent s (m.Switch tag at closing opening)
  pub directory_is : h.store.directory ≡ (step s.directory (m.Switch tag at closing opening)).state
  pub done_is : done ≡ can_switch s.directory at closing opening

pub switched_now : (s : Store) (h : Happening) (tag : Tag) (at : KeyId) (done : Bool) (epoch : ℕ) → ToldNow s h (m.Switched tag at done epoch) → SwitchedNow s h tag at done
switched_now s h tag at done epoch t = by t.told
  where
    by : IsDirectoryPost s.directory t.from (m.Switched tag at done epoch) → SwitchedNow s h tag at done
    by (tells_here other key from e) = absurd (cc)
    by (tells_switched other key closing opening from e) =
        let tag_is : other ≡ tag = cc in
        let at_is : key ≡ at = cc in
        let done_is : done ≡ can_switch s.directory key closing opening = cc in
        record {
          closing = closing;
          opening = opening;
          asked = subst (λ (x : KeyId). WasSent s (m.Switch tag x closing opening)) at_is (subst (λ (x : Tag). WasSent s (m.Switch x key closing opening)) tag_is (subst (WasSent s) from t.sent));
          directory_is = subst (λ (x : KeyId). h.store.directory ≡ (step s.directory (m.Switch tag x closing opening)).state) at_is (t.directory_is ∙ ap (λ (x : Message). (step s.directory x).state) from);
          done_is = subst (λ (x : KeyId). done ≡ can_switch s.directory x closing opening) at_is done_is;
        }

-- ---- what the directory tells still answers a request of the same key after every event

-- some epoch is published
pub some_published : (key : KeyId) (s : Store) (g : Ghost) → OpeningsAreBacked key s g → 1 ≤ latest s.directory
some_published key s g o = by g.opened refl o.newest
  where
    by : (opened : List ℕ) → g.opened ≡ opened → IsNewest (current_of s.directory key) opened → 1 ≤ latest s.directory
    by [] is newest = absurd newest
    by (e ∷ rest) is newest = let out = o.published e (subst (λ (x : List ℕ). Contains x e) (sym is) (0, omega arith, refl)) in let a = out.0 in let b = out.1 in omega arith

pub key_is_strong : (key : KeyId) (s : Store) (g : Ghost) → OpeningsAreBacked key s g → is_strong_key s key ≡ true
key_is_strong key s g o = quorum_is_strong (policy_of s key 1) (o.policies_quorum 1 (omega arith) (some_published key s g o))

pub keys_agree : (key : KeyId) (s : Store) (g : Ghost) (h : Happening) → Inv key s g → Happened s h → KeysAgree key h.store
keys_agree key s g h inv is = record {
  exists = let same = keys_stay s h is in let was = inv.keys.exists in omega arith;
  here_asked = λ tag at epoch policy newest newest_policy sent. here tag at epoch policy newest newest_policy (sent_cases s h (m.Here tag at epoch policy newest newest_policy) is sent);
  switched_asked = λ tag at done epoch sent. told_switch tag at done epoch (sent_cases s h (m.Switched tag at done epoch) is sent);
}
  where
    here : (tag : Tag) (at : KeyId) (epoch : ℕ) (policy : Policy) (newest : ℕ) (newest_policy : Policy) → WasSent s (m.Here tag at epoch policy newest newest_policy) ⊎ WasPosted h (m.Here tag at epoch policy newest newest_policy) → WasSent h.store (m.Lookup tag at)
    here tag at epoch policy newest newest_policy (inl sent) = sent_stays key s g h.store (noted_of key s h g) (m.Lookup tag at) (grows_by key s g h is inv) (inv.keys.here_asked tag at epoch policy newest newest_policy sent)
    here tag at epoch policy newest newest_policy (inr (whom, c)) =
        let message : Message = m.Here tag at epoch policy newest newest_policy in
        sent_stays key s g h.store (noted_of key s h g) (m.Lookup tag at) (grows_by key s g h is inv) (here_now s h tag at epoch policy newest newest_policy (told_now s h whom message tt (posted s h is (record { to = whom; message = message }) c))).asked

    told_switch : (tag : Tag) (at : KeyId) (done : Bool) (epoch : ℕ) → WasSent s (m.Switched tag at done epoch) ⊎ WasPosted h (m.Switched tag at done epoch) → SwitchAsked h.store tag at
    told_switch tag at done epoch (inl sent) =
        let a = inv.keys.switched_asked tag at done epoch sent in
        record { old = a.old; new = a.new; sent = sent_stays key s g h.store (noted_of key s h g) (m.Switch tag at a.old a.new) (grows_by key s g h is inv) a.sent }
    told_switch tag at done epoch (inr (whom, c)) =
        let message : Message = m.Switched tag at done epoch in
        let a = switched_now s h tag at done epoch (told_now s h whom message tt (posted s h is (record { to = whom; message = message }) c)) in
        record { old = a.closing; new = a.opening; sent = sent_stays key s g h.store (noted_of key s h g) (m.Switch tag at a.closing a.opening) (grows_by key s g h is inv) a.asked }
