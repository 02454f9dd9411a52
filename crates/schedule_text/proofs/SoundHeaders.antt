-- The header of a schedule opens a store.
use Rattle.std.proofs.Common.{◌≡◌, ℕ, ◌+◌, ◌<◌, ◌≤◌, ◌==◌, Bool, true, false, cond, ◌&&◌, List, [], ◌∷◌, ◌++◌, length, Option, Some, None, Result, Ok, Err, refl, subst, inl, inr, arith}
use Rattle.std.specs.Prelude.{nat_lt, nat_le, codes, not}
use Rattle.std.specs.List.{All}
use Rattle.std.proofs.lemmas.Bool.{leb-true, ltb-true}
use Rattle.std.proofs.lemmas.List.{length-append}
use Rattle.std.proofs.lemmas.List.Elements.{All-push}
use Rattle.span_base.specs.Policy.{IsSoundPolicy}
use Rattle.span_base.specs.declared.ids.DcId.{DcId}
use Rattle.span_base.specs.declared.ids.SetId.{SetId}
use Rattle.span_base.specs.declared.words.What.TheVariants as what
use Rattle.span_base.specs.declared.policy.Policy.{Policy}
use Rattle.wire_msg.specs.Sound.{is_sound_policy}
use Rattle.wire_msg.proofs.SoundTest.{decide_sound}
use Rattle.world_core.specs.declared.event.Header.{Header}
use Rattle.world_core.specs.Run.{IsHeader}
use Rattle.schedule_text.specs.declared.flaw.Flaw.{Flaw}
use Rattle.schedule_text.specs.declared.flaw.Flaw.TheVariants.{Syntax, Number, Range, Limit}
use Rattle.schedule_text.specs.declared.flaw.Flaw.TheVariants as flaw
use Rattle.schedule_text.specs.Flaws.{made, judged, within, after}
use Rattle.schedule_text.specs.Words.{words_of, is_word, one}
use Rattle.schedule_text.specs.Numbers.{spelled, number_by, number_says, count_says, one_of, centre_says}
use Rattle.schedule_text.specs.Policies.{policy_says}
use Rattle.schedule_text.specs.Headers.{blank, is_none, takes_replicas, takes_sets, takes_keys, takes_proxies, may_begin, is_begin, not_none, sound, replicas_line, set_line, key_line, proxy_line, line_by, by_words, header_line}
use Rattle.schedule_text.proofs.Read.{made_ok, judged_ok, formed_ok, after_ok, test_ok, within_ok, one_way}

-- what was read of a header so far
pub record SoFar (header : Header) : Type 0 where
  pub replicas : header.replicas ≤ 16
  pub sets : length header.sets ≤ 64
  pub keys : length header.keys ≤ 1000
  pub proxies : length header.proxies ≤ 64
  pub policies : All IsSoundPolicy header.sets
  pub key_sets : All (λ set. set.0 < length header.sets) header.keys
  pub sets_after : 0 < length header.sets → 1 ≤ header.replicas
  pub keys_after : 0 < length header.keys → 0 < length header.sets
  pub proxies_after : 0 < length header.proxies → 0 < length header.keys

pub nothing_read : SoFar blank
nothing_read = record {
  replicas = omega arith;
  sets = omega arith;
  keys = omega arith;
  proxies = omega arith;
  policies = λ k d h. absurd (omega arith);
  key_sets = λ k d h. absurd (omega arith);
  sets_after = λ h. absurd (omega arith);
  keys_after = λ h. absurd (omega arith);
  proxies_after = λ h. absurd (omega arith);
}

-- a number that was read is within its limit
number_within : (most : ℕ) (text : List ℕ) (n : ℕ) → number_says what.Replicas most text ≡ Ok n → n ≤ most
unfolding number_says
number_within most text n h = by_spelled (spelled text) h
  where
    by_spelled : (o : Option ℕ) → number_by what.Replicas most text o ≡ Ok n → n ≤ most
    by_spelled None h = absurd (no_number (length text == 0) h)
      where
        no_number : (b : Bool) → cond {A = Result ℕ Flaw} b (Err Syntax) (Err Number) ≡ Ok n → ⊥
        no_number true h = cc
        no_number false h = cc
    by_spelled (Some m) h =
        let it = test_ok (nat_le m most) (Ok m) (Limit what.Replicas m) n h in
        let below : m ≤ most = leb-true m most it.0 in
        let same : m ≡ n = cc in
        subst (λ (x : ℕ). x ≤ most) same below

replicas_keep : (header next : Header) (words : List (List ℕ)) → takes_replicas header ≡ true → replicas_line header words ≡ Ok next → SoFar header → SoFar next
unfolding replicas_line
replicas_keep header next words free h so =
    let text = formed_ok (one words) (λ text. made (λ n. record header { replicas = n }) (judged (number_says what.Replicas 16 text) not_none)) next h in
    let n = made_ok (λ (n : ℕ). record header { replicas = n }) (judged (number_says what.Replicas 16 text.0) not_none) next text.2 in
    let m = judged_ok (number_says what.Replicas 16 text.0) not_none n.0 n.1 in
    let low : m.0 ≤ 16 = number_within 16 text.0 m.0 m.1 in
    let some = some_number (m.0 == 0) refl m.2 in
    subst SoFar n.2 (record {
      replicas = subst (λ (x : ℕ). x ≤ 16) some.1 low;
      sets = so.sets;
      keys = so.keys;
      proxies = so.proxies;
      policies = so.policies;
      key_sets = so.key_sets;
      sets_after = λ more. subst (λ (x : ℕ). 1 ≤ x) some.1 some.0;
      keys_after = so.keys_after;
      proxies_after = so.proxies_after;
    })
  where
    some_number : {m n : ℕ} (b : Bool) → (m == 0) ≡ b → cond {A = Result ℕ Flaw} b (Err Number) (Ok m) ≡ Ok n → (1 ≤ m) × (m ≡ n)
    some_number true is h = absurd (cc)
    some_number false is h = (grind arith, cc)

-- a list with one item more
more : {A : Type 0} (items : List A) (item : A) → length (items ++ item ∷ []) ≡ length items + 1
more items item = length-append items (item ∷ [])

is_some : {A : Type 0} (items : List A) → not (is_none items) ≡ true → 0 < length items
is_some [] h = absurd (cc)
is_some (item ∷ items) h = omega arith

is_sound : (policy : Policy) (one : Policy) → sound policy ≡ Ok one → (policy ≡ one) × IsSoundPolicy policy
is_sound policy one h =
    let it = test_ok (is_sound_policy policy) (Ok policy) flaw.Policy one h in
    (cc, (decide_sound policy).0 it.0)

takes_one : (n : ℕ) (b : Bool) → (not (n == 0) && b) ≡ true → 1 ≤ n
takes_one n b h = by_test (n == 0) refl h
  where
    by_test : (z : Bool) → (n == 0) ≡ z → (not z && b) ≡ true → 1 ≤ n
    by_test true is h = absurd (cc)
    by_test false is h = grind arith

set_keeps : (header next : Header) (words : List (List ℕ)) → takes_sets header ≡ true → set_line header words ≡ Ok next → SoFar header → SoFar next
unfolding set_line
set_keeps header next words free h so =
    let set = λ (policy : Policy). record header { sets = header.sets ++ policy ∷ [] } in
    let part = after (within what.Sets 64 (length header.sets + 1)) (policy_says header.replicas words) in
    let made_it = made_ok set (judged part sound) next h in
    let judged_it = judged_ok part sound made_it.0 made_it.1 in
    let room = within_ok what.Sets 64 (length header.sets + 1) (after_ok (within what.Sets 64 (length header.sets + 1)) (policy_says header.replicas words) judged_it.0 judged_it.1).0 in
    let sound_it = is_sound judged_it.0 made_it.0 judged_it.2 in
    let policy = made_it.0 in
    let whole : IsSoundPolicy policy = subst IsSoundPolicy sound_it.0 sound_it.1 in
    let longer = more header.sets policy in
    subst SoFar made_it.2 (record {
      replicas = so.replicas;
      keys = so.keys;
      proxies = so.proxies;
      proxies_after = so.proxies_after;
      sets = omega (arith, longer);
      policies = All-push IsSoundPolicy header.sets policy so.policies whole;
      key_sets = λ k d within. let below = so.key_sets k d within in omega (arith, longer, below);
      sets_after = λ some. takes_one header.replicas (is_none header.keys) free;
      keys_after = λ some. omega (arith, longer);
    })

key_keeps : (header next : Header) (words : List (List ℕ)) → takes_keys header ≡ true → key_line header words ≡ Ok next → SoFar header → SoFar next
unfolding key_line
key_keeps header next words free h so =
    let key = λ (set : ℕ). record header { keys = header.keys ++ record { 0 = set } ∷ [] } in
    let room = within what.Keys 1000 (length header.keys + 1) in
    let set_of = λ (text : List ℕ). judged (count_says text) (one_of (length header.sets)) in
    let text = formed_ok (one words) (λ text. made key (after room (set_of text))) next h in
    let made_it = made_ok key (after room (set_of text.0)) next text.2 in
    let after_it = after_ok room (set_of text.0) made_it.0 made_it.1 in
    let few = within_ok what.Keys 1000 (length header.keys + 1) after_it.0 in
    let n = judged_ok (count_says text.0) (one_of (length header.sets)) made_it.0 after_it.1 in
    let test = test_ok (nat_lt n.0 (length header.sets)) (Ok n.0) Range made_it.0 n.2 in
    let below : n.0 < length header.sets = ltb-true n.0 (length header.sets) test.0 in
    let same : n.0 ≡ made_it.0 = cc in
    let here : made_it.0 < length header.sets = subst (λ (x : ℕ). x < length header.sets) same below in
    let longer = more header.keys (let it : SetId = record { 0 = made_it.0 } in it) in
    subst SoFar made_it.2 (record {
      replicas = so.replicas;
      sets = so.sets;
      proxies = so.proxies;
      policies = so.policies;
      sets_after = so.sets_after;
      keys = omega (arith, longer);
      key_sets = All-push (λ (set : SetId). set.0 < length header.sets) header.keys (record { 0 = made_it.0 }) so.key_sets here;
      keys_after = λ some. omega (arith, here);
      proxies_after = λ some. omega (arith, longer);
    })

proxy_keeps : (header next : Header) (words : List (List ℕ)) → takes_proxies header ≡ true → proxy_line header words ≡ Ok next → SoFar header → SoFar next
unfolding proxy_line
proxy_keeps header next words free h so =
    let proxy = λ (at : DcId). record header { proxies = header.proxies ++ at ∷ [] } in
    let room = within what.Proxies 64 (length header.proxies + 1) in
    let text = formed_ok (one words) (λ text. made proxy (after room (centre_says text))) next h in
    let made_it = made_ok proxy (after room (centre_says text.0)) next text.2 in
    let few = within_ok what.Proxies 64 (length header.proxies + 1) (after_ok room (centre_says text.0) made_it.0 made_it.1).0 in
    let longer = more header.proxies made_it.0 in
    subst SoFar made_it.2 (record {
      replicas = so.replicas;
      sets = so.sets;
      keys = so.keys;
      policies = so.policies;
      key_sets = so.key_sets;
      sets_after = so.sets_after;
      keys_after = so.keys_after;
      proxies = omega (arith, longer);
      proxies_after = λ some. is_some header.keys free;
    })

both_true : (a b : Bool) → (a && b) ≡ true → b ≡ true
both_true true b h = h
both_true false b h = absurd (cc)

line_keeps : (header next : Header) (word : List ℕ) (words : List (List ℕ)) → line_by header word words ≡ Ok next → SoFar header → SoFar next
unfolding line_by
line_keeps header next word words h so =
    elim (one_way (is_word word (codes "replicas") && takes_replicas header) (replicas_line header words) _ (Ok next) h) [
      | inl it ↦ replicas_keep header next words (both_true (is_word word (codes "replicas")) (takes_replicas header) it.0) it.1 so
      | inr no_replicas ↦ elim (one_way (is_word word (codes "set") && takes_sets header) (set_line header words) _ (Ok next) no_replicas.1) [
        | inl it ↦ set_keeps header next words (both_true (is_word word (codes "set")) (takes_sets header) it.0) it.1 so
        | inr no_set ↦ elim (one_way (is_word word (codes "key") && takes_keys header) (key_line header words) _ (Ok next) no_set.1) [
          | inl it ↦ key_keeps header next words (both_true (is_word word (codes "key")) (takes_keys header) it.0) it.1 so
          | inr no_key ↦
              let it = test_ok (is_word word (codes "proxy") && takes_proxies header) (proxy_line header words) Syntax next no_key.1 in
              proxy_keeps header next words (both_true (is_word word (codes "proxy")) (takes_proxies header) it.0) it.1 so
        ]
      ]
    ]

pub header_keeps : (header next : Header) (text : List ℕ) → header_line header text ≡ Ok next → SoFar header → SoFar next
unfolding header_line
header_keeps header next text h so = by_pieces (words_of text) h
  where
    by_pieces : (pieces : List (List ℕ)) → by_words header pieces ≡ Ok next → SoFar next
    by_pieces [] h = absurd (cc)
    by_pieces (word ∷ words) h = line_keeps header next word words h so

-- a header that is whole
pub header_whole : (header : Header) (text : List ℕ) → is_begin header text ≡ true → SoFar header → IsHeader header
header_whole header text begins so =
    let proxies = is_some header.proxies (both_true (is_word text (codes "begin")) (may_begin header) begins) in
    let keys = so.proxies_after proxies in
    let sets = so.keys_after keys in
    record {
      replicas = (so.sets_after sets, so.replicas);
      sets = (sets, so.sets);
      keys = (keys, so.keys);
      proxies = (proxies, so.proxies);
      policies = so.policies;
      key_sets = so.key_sets;
    }
