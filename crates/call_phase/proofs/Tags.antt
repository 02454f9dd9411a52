-- Tags that agree in every part are one tag.
use Rattle.std.proofs.Common.{◌≡◌, ◌==◌, ◌&&◌, Bool, true, false, refl, arith}
use Rattle.std.proofs.lemmas.Bool.{eq-eqb}
use Rattle.wire_msg.specs.declared.tag.Tag.{Tag}
use Rattle.call_phase.specs.Counting.{is_same_tag}

same : (a b : Tag) (p q r s t : Bool)
    → (a.call.proxy == b.call.proxy) ≡ p → (a.call.seq == b.call.seq) ≡ q → (a.slot == b.slot) ≡ r → (a.generation == b.generation) ≡ s → (a.phase == b.phase) ≡ t
    → (p && q && r && s && t) ≡ true → a ≡ b
same a b true true true true true p q r s t h = grind (arith)
same a b false q r s t p1 q1 r1 s1 t1 h = absurd cc
same a b true false r s t p1 q1 r1 s1 t1 h = absurd cc
same a b true true false s t p1 q1 r1 s1 t1 h = absurd cc
same a b true true true false t p1 q1 r1 s1 t1 h = absurd cc
same a b true true true true false p1 q1 r1 s1 t1 h = absurd cc

pub same_tag : (a b : Tag) → is_same_tag a b ≡ true → a ≡ b
same_tag a b h =
    same a b (a.call.proxy == b.call.proxy) (a.call.seq == b.call.seq) (a.slot == b.slot) (a.generation == b.generation) (a.phase == b.phase) refl refl refl refl refl h

pub is_same_tag-refl : (a : Tag) → is_same_tag a a ≡ true
is_same_tag-refl a =
    let proxy : (a.call.proxy == a.call.proxy) ≡ true = eq-eqb _ _ refl in
    let seq : (a.call.seq == a.call.seq) ≡ true = eq-eqb _ _ refl in
    let slot : (a.slot == a.slot) ≡ true = eq-eqb _ _ refl in
    let generation : (a.generation == a.generation) ≡ true = eq-eqb _ _ refl in
    let phase : (a.phase == a.phase) ≡ true = eq-eqb _ _ refl in
    rw (proxy, seq, slot, generation, phase) refl
