-- Before the first event the log is empty, and the store is as the header opens it.
use Rattle.std.proofs.Common.{◌≡◌, ℕ, List, [], ◌∷◌, refl, zero, suc, map, slice_index_or}
use Rattle.register_law.proofs.Words.{DcId, FrontsAgree, no_proxy, opening, opening_proxy, Header, TagsTellApart, none_among}
use Rattle.run_marks.specs.declared.mark.Mark.TheVariants as k
use Rattle.register_order.proofs.NoCalls.{untouched_calls_agree}
use Rattle.register_law.proofs.Opening.{nothing_sent, none_live}
use Rattle.audit_law.specs.Live.{LogIsFormed}
use Rattle.register_law.proofs.OpeningHolds.{opening_view_keys}

none_begun : (header : Header) (at : List DcId) (p : ℕ) → 0 ≡ (slice_index_or (map (opening_proxy header) at) p no_proxy).begun
none_begun header [] p = refl
none_begun header (x ∷ xs) zero = refl
none_begun header (x ∷ xs) (suc p) = none_begun header xs p

tags_first : (header : Header) → TagsTellApart (opening header)
tags_first header = record {
  sent_numbered = λ message sent. absurd (nothing_sent header message sent);
  live_numbered = λ p handle call live. absurd (none_live header p handle call live);
  live_once = λ p a b first second live _ _. absurd (none_live header p a first live);
  view_keys = opening_view_keys header;
  phase_bound = λ p handle call message live _ _. absurd (none_live header p handle call live);
  answers_asked = λ message sent _. absurd (nothing_sent header message sent);
}

pub formed_first : (header : Header) → LogIsFormed (opening header) []
unfolding opening
formed_first header = record {
  tags = tags_first header;
  lines = tt;
  numbers = λ p. none_begun header header.proxies p;
  live = λ p handle live lives. absurd (none_live header p handle live lives);
}

pub no_fronts : FrontsAgree []
no_fronts [] rest split key = untouched_calls_agree key [] (λ call at work c same register. none_among (k.Begin call at work) c)
no_fronts (m ∷ ms) rest split key = absurd (cc)
