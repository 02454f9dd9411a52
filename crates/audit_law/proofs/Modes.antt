-- Reads and writes begin on strong keys alone, so no call reads or writes a key that isn't one.
use Rattle.std.proofs.Common.{◌≡◌, inl, inr, ℕ, ◌<◌, ◌≤◌, Bool, true, false, List, [], ◌++◌, refl, sym, ap, ◌∙◌, subst, arith, nat_lt, length, map, Contains, ltb-true}
use Rattle.register_law.proofs.Words.{Call, KeyId, is_strong, latest, history_of, is_register_work, Mark, Work, CallsAgree, IsStrongKey, Store, key_set, opening, Happening, fits_mode, is_strong_key, Header, Happened, common_steps, length-map, Contains-append_cases, none_among, same_key}
use Rattle.run_marks.specs.declared.mark.Work.TheVariants as w
use Rattle.run_marks.specs.declared.mark.Mark.TheVariants as k
use Rattle.register_order.proofs.NoCalls.{untouched_calls_agree}
use Rattle.register_law.proofs.Growth.{directory_grows, policy_stays}
use Rattle.register_law.proofs.Opening.{policy_is}
use Rattle.register_law.proofs.EndsBegun.{new_begin}
use Rattle.audit_law.proofs.Asked.{IsAskedFor, BeginsRightly}

pub record ModesAreKept (header : Header) (s : Store) (marks : List Mark) : Type 0 where
  pub some : 1 ≤ latest s.directory
  pub modes : (key : KeyId) → key.0 < length s.directory.sets → is_strong_key s key ≡ true → IsStrongKey header key.0
  pub works : (call : Call) (at : KeyId) (work : Work) → Contains marks (k.Begin call at work) → IsAskedFor s at work

-- a key keeps its mode
mode_stays : (s : Store) (h : Happening) → Happened s h → 1 ≤ latest s.directory → (key : KeyId) → is_strong_key h.store key ≡ is_strong_key s key
mode_stays s h is some key = ap is_strong (policy_stays key s h is 1 (omega arith) some)

asked_stays : (s : Store) (h : Happening) → Happened s h → 1 ≤ latest s.directory → (key : KeyId) (work : Work) → IsAskedFor s key work → IsAskedFor h.store key work
asked_stays s h is some key work asked = record {
  known = subst (λ (x : List ℕ). key.0 < length x) (sym (directory_grows s h is).sets) asked.known;
  fits = subst (λ (b : Bool). fits_mode b work ≡ true) (sym (mode_stays s h is some key)) asked.fits;
}

pub modes_after : (header : Header) (s : Store) (h : Happening) (marks : List Mark) → Happened s h → BeginsRightly s h.marks → ModesAreKept header s marks → ModesAreKept header h.store (marks ++ h.marks)
modes_after header s h marks is right m =
    let grows = directory_grows s h is in
    let more : latest s.directory ≤ latest h.store.directory = grows.latest_grows in
    let some = m.some in
    record {
      some = omega arith;
      modes = λ key lt strong. m.modes key (subst (λ (x : List ℕ). key.0 < length x) grows.sets lt) (sym (mode_stays s h is m.some key) ∙ strong);
      works = λ call at work c. elim (Contains-append_cases marks h.marks (k.Begin call at work) c) as (λ _. IsAskedFor h.store at work) [
        | inl old ↦ asked_stays s h is m.some at work (m.works call at work old)
        | inr new ↦ new_begin (IsAskedFor h.store at work) s h is call at work new (λ rest marks_are _. asked_stays s h is m.some at work (subst (BeginsRightly s) marks_are right).0)
      ];
    }

pub modes_first : (header : Header) → ModesAreKept header (opening header) []
unfolding opening
modes_first header = record {
  some = omega arith;
  modes = λ key lt strong. record {
    exists = subst (λ n. key.0 < n) (length-map (map key_set header.keys) _ ∙ length-map header.keys key_set) lt;
    strong = sym (ap is_strong (policy_is header key)) ∙ strong;
  };
  works = λ call at work c. absurd (none_among (k.Begin call at work) c);
}

no_register_work : (work : Work) (b : Bool) → b ≡ false → fits_mode b work ≡ true → is_register_work work ≡ true → ⊥
no_register_work w.Read b is fits h = cc
no_register_work work b is fits h = cc

not_below : (a b : ℕ) → nat_lt a b ≡ false → a < b → ⊥
not_below a b h lt = grind (arith, common_steps)

-- where the calls of each strong key agree, those of each key do
pub all_keys_agree : (header : Header) (s : Store) (marks : List Mark) → ModesAreKept header s marks → ((key : KeyId) → IsStrongKey header key.0 → CallsAgree (history_of key.0 marks)) → (key : ℕ) → CallsAgree (history_of key marks)
all_keys_agree header s marks m strong key = by (is_strong_key s (record { 0 = key })) refl (nat_lt key (length s.directory.sets)) refl
  where
    by : (b : Bool) → is_strong_key s (record { 0 = key }) ≡ b → (c : Bool) → nat_lt key (length s.directory.sets) ≡ c → CallsAgree (history_of key marks)
    by true is true known = strong (record { 0 = key }) (m.modes (record { 0 = key }) (ltb-true key (length s.directory.sets) known) is)
    by true is false unknown = untouched_calls_agree key marks (λ call other work c same register.
        not_below key (length s.directory.sets) unknown (subst (λ (n : ℕ). n < length s.directory.sets) same (m.works call other work c).known))
    by false is c known = untouched_calls_agree key marks (λ call other work c same register.
        no_register_work work (is_strong_key s other) (ap (is_strong_key s) (same_key other (record { 0 = key }) same) ∙ is) (m.works call other work c).fits register)
