-- Texts that are said piece by piece.
use Rattle.std.proofs.Common.{ℕ, ◌++◌, List, [], take, drop, refl, sym, subst, ◌∙◌, ap, append_assoc}
use Rattle.std.proofs.lemmas.List.{append-nil, take-append-drop}
use Rattle.std.specs.Prelude.{◌≡◌, Option, Result, Ok, Err, OnOk, OnErr}
use Rattle.span_base.specs.Taken.{Appends, AppendsFront}
use Rattle.span_base.proofs.Appending.{Appends-append, Appends-nothing}
use Rattle.span_base.specs.declared.sink.DeviceFault.{DeviceFault}
use Rattle.sink_buffer.specs.Said.{IsSaid, IsFrontTaken, Says}

-- nothing is said at the start
pub said_nothing : (now : Option (List ℕ)) → IsSaid now now [] []
said_nothing now = record { sent = []; taken = Appends-nothing now; text_is = refl }

-- of what is said, a front is taken
pub front_from_said : (from now : Option (List ℕ)) (kept text : List ℕ) → IsSaid from now kept text → IsFrontTaken from now text
front_from_said from now kept text said = record { sent = said.sent; rest = kept; taken = said.taken; text_is = said.text_is }

-- a front of a text is one of a longer text
pub front_longer : (from now : Option (List ℕ)) (text more : List ℕ) → IsFrontTaken from now text → IsFrontTaken from now (text ++ more)
front_longer from now text more front = record {
  sent = front.sent;
  rest = front.rest ++ more;
  taken = front.taken;
  text_is = ap (λ t. t ++ more) front.text_is ∙ append_assoc front.sent front.rest more;
}

-- a piece that is kept is said
pub said_kept : (from now : Option (List ℕ)) (kept text piece : List ℕ) → IsSaid from now kept text → IsSaid from now (kept ++ piece) (text ++ piece)
said_kept from now kept text piece said = record {
  sent = said.sent;
  taken = said.taken;
  text_is = ap (λ t. t ++ piece) said.text_is ∙ append_assoc said.sent kept piece;
}

-- what was handed over, and a piece behind it
pub taken_behind : (from mid new : Option (List ℕ)) (text piece : List ℕ) → Appends from mid text → Appends mid new piece → IsSaid from new [] (text ++ piece)
taken_behind from mid new text piece before after = record {
  sent = text ++ piece;
  taken = Appends-append from mid new text piece before after;
  text_is = sym (append-nil (text ++ piece));
}

-- what was handed over, and a front of a piece behind it
pub front_behind : (from mid new : Option (List ℕ)) (text piece : List ℕ)
    → Appends from mid text → AppendsFront mid new piece → IsFrontTaken from new (text ++ piece)
front_behind from mid new text piece before front = record {
  sent = text ++ take front.0 piece;
  rest = drop front.0 piece;
  taken = Appends-append from mid new text (take front.0 piece) before front.2;
  text_is = ap (λ p. text ++ p) (sym (take-append-drop front.0 piece)) ∙ sym (append_assoc text (take front.0 piece) (drop front.0 piece));
}

-- all that was kept is handed over
pub flushed : (from now new : Option (List ℕ)) (kept text : List ℕ) → IsSaid from now kept text → Appends now new kept → Appends from new text
flushed from now new kept text said after = rw said.text_is (Appends-append from now new said.sent kept said.taken after)

-- a front of what was kept is handed over
pub flushed_front : (from now new : Option (List ℕ)) (kept text : List ℕ) → IsSaid from now kept text → AppendsFront now new kept → IsFrontTaken from new text
flushed_front from now new kept text said after =
    subst (IsFrontTaken from new) (sym said.text_is) (front_behind from now new said.sent kept said.taken after)

-- a piece goes to the sink behind all that was kept
pub says_behind : (from mid new : Option (List ℕ)) (kept text piece : List ℕ) (written : Result (Unit {0}) DeviceFault)
    → kept ≡ [] → Appends from mid text → OnOk written (Appends mid new piece) → OnErr written (AppendsFront mid new piece)
    → Says from new kept (text ++ piece) written
says_behind from mid new kept text piece (Ok done) nothing before all front =
    subst (λ k. IsSaid from new k (text ++ piece)) (sym nothing) (taken_behind from mid new text piece before all)
says_behind from mid new kept text piece (Err fault) nothing before all front = front_behind from mid new text piece before front
