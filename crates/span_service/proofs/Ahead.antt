-- What is in front of the bytes that were read ahead is in front of all bytes that weren't used.
use Rattle.std.proofs.Common.{ℕ, ◌≡◌, ◌<◌, ◌≤◌, List, [], ◌++◌, length, drop, Option, Some, None, IfSome, refl, sym, ◌∙◌, ap, subst, arith, inl, inr, append_assoc, length-append}
use Rattle.std.specs.Prelude.{option_map}
use Rattle.std.proofs.lemmas.List.{append-nil, drop_at}
use Rattle.std.specs.Int.{w16}
use Rattle.wire_msg.specs.declared.message.Message.{Message}
use Rattle.wire_msg.specs.Frames.{big}
use Rattle.replica_journal.proofs.Rows.{head_length}
use Rattle.replica_journal.specs.Records.{body_of}
use Rattle.span_service.specs.Inputs.{ahead}
use Rattle.span_service.specs.Requests.{IsBad, IsShort, IsTorn}
use Rattle.span_service.specs.Fronts.{IsRequestAt}

bad_on : (keys : ℕ) (bytes more : List ℕ) (at : ℕ) → IsBad keys bytes at → IsBad keys (bytes ++ more) at
bad_on keys bytes more at (inl b) = inl (record {
  size = b.size;
  rest = b.rest ++ more;
  spelled = ap (λ (l : List ℕ). l ++ more) b.spelled ∙ append_assoc (big w16 b.size) b.rest more;
  short = b.short;
  wrong = b.wrong;
  place = b.place;
})
bad_on keys bytes more at (inr b) = inr (record {
  frame = b.frame;
  rest = b.rest ++ more;
  spelled = ap (λ (l : List ℕ). l ++ more) b.spelled ∙ append_assoc (big w16 (length b.frame)) (b.frame ++ b.rest) more ∙ ap (λ (l : List ℕ). big w16 (length b.frame) ++ l) (append_assoc b.frame b.rest more);
  some = b.some;
  short = b.short;
  bad = b.bad;
})

pub bad_ahead : (keys at : ℕ) (bytes : List ℕ) (coming before : Option (List ℕ)) → ahead bytes coming ≡ before → IsBad keys bytes at → IfSome before (λ all. IsBad keys all at)
bad_ahead keys at bytes coming before is bad = subst (λ (o : Option (List ℕ)). IfSome o (λ all. IsBad keys all at)) is (told coming) where
  told : (coming : Option (List ℕ)) → IfSome (ahead bytes coming) (λ all. IsBad keys all at)
  told None = tt
  told (Some more) = bad_on keys bytes more at bad

pub torn_ahead : (bytes : List ℕ) (coming before : Option (List ℕ)) → ahead bytes coming ≡ before → coming ≡ option_map (λ rest. []) coming → 0 < length bytes → IsShort bytes → IfSome before IsTorn
torn_ahead bytes coming before is ended some short = subst (λ (o : Option (List ℕ)). IfSome o IsTorn) is (subst (λ (o : Option (List ℕ)). IfSome (ahead bytes o) IsTorn) (sym ended) (told coming)) where
  told : (coming : Option (List ℕ)) → IfSome (ahead bytes (option_map (λ rest. []) coming)) IsTorn
  told None = tt
  told (Some more) = subst IsTorn (sym (append-nil bytes)) (omega arith, short)

pub request_ahead : (keys size : ℕ) (bytes : List ℕ) (message : Message) (coming before : Option (List ℕ)) → ahead bytes coming ≡ before → IsRequestAt keys bytes message size
    → before ≡ option_map (λ rest. body_of message ++ rest) (ahead (drop size bytes) coming)
request_ahead keys size bytes message coming before is at = sym is ∙ told coming where
  left : drop size bytes ≡ at.rest
  left = ap (drop size) at.spelled ∙ drop_at (body_of message) at.rest size (sym at.takes)

  told : (coming : Option (List ℕ)) → ahead bytes coming ≡ option_map (λ rest. body_of message ++ rest) (ahead (drop size bytes) coming)
  told None = refl
  told (Some more) = ap (λ (l : List ℕ). Some l) (ap (λ (l : List ℕ). l ++ more) at.spelled ∙ append_assoc (body_of message) at.rest more ∙ ap (λ (l : List ℕ). body_of message ++ (l ++ more)) (sym left))

pub request_fits : (keys size : ℕ) (bytes : List ℕ) (message : Message) → IsRequestAt keys bytes message size → size ≤ length bytes
request_fits keys size bytes message at = omega (arith, at.takes, ap length at.spelled, length-append (body_of message) at.rest)

pub short_small : (bytes : List ℕ) → IsShort bytes → length bytes ≤ 8193
short_small bytes (inl few) = omega (arith, few)
short_small bytes (inr cut) = omega (arith, ap length cut.spelled, length-append (big w16 cut.size) cut.front, head_length cut.size, cut.part, cut.short)
