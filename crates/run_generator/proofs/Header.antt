-- The generator's header is one, and its table may be published in every state that comes of it.
use Rattle.std.proofs.Common.{◌≡◌, ◌<◌, true, false, [], refl, arith}
use Rattle.std.specs.Prelude.{◌≢◌}
use Rattle.std.specs.List.{AllPairs}
use Rattle.std.proofs.lemmas.List.Elements.{All-nil, All-cons, All-replicate}
use Rattle.std.proofs.lemmas.List.Kept.{AllPairs-cons}
use Rattle.span_base.specs.declared.ids.SetId.{SetId}
use Rattle.span_base.specs.declared.policy.Policy.{Policy}
use Rattle.span_base.specs.declared.policy.Policy.TheVariants.{Direct, Relay, Strong}
use Rattle.span_base.specs.Policy.{IsSoundPolicy}
use Rattle.span_base.specs.DcSet.{centres_of, centres_below}
use Rattle.wire_msg.specs.Sound.{is_sound_policy}
use Rattle.wire_msg.proofs.SoundTest.{decide_sound}
use Rattle.epoch_directory.specs.declared.table.SetPolicy.{SetPolicy}
use Rattle.epoch_directory.specs.State.{State, policy_in, set_count, is_strong, is_strong_set, HasSameMode}
use Rattle.epoch_directory.specs.Tables.{IsNextTable}
use Rattle.world_core.specs.State.{opening}
use Rattle.world_core.specs.Run.{IsHeader}
use Rattle.run_generator.specs.Header.{policy, header, table}
use Rattle.run_generator.specs.Standing.{IsReady}

is_sound : IsSoundPolicy policy
unfolding is_sound_policy centres_of centres_below
is_sound = (decide_sound policy).0 refl

pub is_header : IsHeader header
unfolding header
is_header = record {
  replicas = (omega arith, omega arith);
  sets = (omega arith, omega arith);
  keys = (omega arith, omega arith);
  proxies = (omega arith, omega arith);
  policies = All-cons IsSoundPolicy policy [] is_sound (All-nil IsSoundPolicy);
  key_sets = All-replicate (λ (set : SetId). set.0 < 1) 8 (record { 0 = 0 }) (omega arith);
}

pub opens_ready : IsReady (opening header).directory
unfolding opening header
opens_ready = record { some = omega arith; sets = omega arith; strong = refl }

no_pairs : (R : SetPolicy → SetPolicy → Type 0) → AllPairs R []
no_pairs R i j d lt within = absurd (omega (arith, within))

as_strong : (first : Policy) → is_strong first ≡ true → HasSameMode first policy
as_strong (Strong f r ms) e = tt
as_strong (Direct f r p) e = absurd (cc)
as_strong (Relay f r p h) e = absurd (cc)

pub may_publish : (state : State) → IsReady state → IsNextTable state table
may_publish state ready =
    let line : SetPolicy = record { set = record { 0 = 0 }; policy = policy } in
    let sets = ready.sets in
    record {
      exist = All-cons (λ (l : SetPolicy). l.set.0 < set_count state) line [] (omega (arith, sets)) (All-nil (λ (l : SetPolicy). l.set.0 < set_count state));
      once = AllPairs-cons (λ (l other : SetPolicy). l.set.0 ≢ other.set.0) line [] (All-nil (λ (other : SetPolicy). line.set.0 ≢ other.set.0)) (no_pairs (λ (l other : SetPolicy). l.set.0 ≢ other.set.0));
      modes = All-cons (λ (l : SetPolicy). HasSameMode (policy_in state 1 l.set.0) l.policy) line [] (as_strong (policy_in state 1 0) ready.strong) (All-nil (λ (l : SetPolicy). HasSameMode (policy_in state 1 l.set.0) l.policy));
      sound = All-cons (λ (l : SetPolicy). is_strong_set state l.set.0 ≡ false → IsSoundPolicy l.policy) line [] (λ weak. is_sound) (All-nil (λ (l : SetPolicy). is_strong_set state l.set.0 ≡ false → IsSoundPolicy l.policy));
    }
