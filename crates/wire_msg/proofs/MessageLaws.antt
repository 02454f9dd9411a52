-- Each frame is one message's, or has a fault.
use Rattle.std.proofs.Common.{◌≡◌, ℕ, suc, ◌-◌, ◌<◌, ◌≤◌, Bool, true, false, cond, ◌==◌, List, [], ◌∷◌, ◌++◌, length, map, Option, Some, None, Result, Ok, Err, ◌↔◌, All, refl, sym, ap, subst, ◌∙◌, inl, inr, arith}
use Rattle.std.specs.List.{AllByRecursion}
use Rattle.std.proofs.lemmas.Bool.{cases_lt, eqb-true}
use Rattle.std.proofs.lemmas.List.{append-nil, nil_from_length, get_or_past}
use Rattle.wire_msg.specs.declared.message.Message.{Message}
use Rattle.wire_msg.specs.Fields.{Field, kind_of, fields_of}
use Rattle.wire_msg.specs.Lawful.{IsInRange, IsLawful}
use Rattle.wire_msg.specs.Frames.{fields_bytes, frame_of}
use Rattle.wire_msg.specs.Faults.{Reading, ◌>>=◌, Sort, fields_at, sorts_of, kind_at, frame_at, place_in, fault_place}
use Rattle.wire_msg.specs.declared.fault.FrameFault.{FrameFault}
use Rattle.wire_msg.specs.declared.fault.FrameFault.TheVariants.{BadFrame, NoMemory}
use Rattle.wire_msg.specs.Laws.{FitsField, FitsBytes, IsFrame, Decodes, ComesBack}
use Rattle.wire_msg.proofs.Readings.{IsBytes, HoldsBy, then_read}
use Rattle.wire_msg.proofs.FieldLaws.{sort_of, TakesFields, fields_take, fields_again}
use Rattle.wire_msg.proofs.Messages.{kind_sorts, same_message, made}

-- ---- frames

record TakesFrame (frame : List ℕ) (kind : ℕ) (fields : List Field) : Type 0 where
  pub spelled : kind ∷ fields_bytes fields ≡ frame
  pub in_range : AllByRecursion IsInRange fields
  pub fits : AllByRecursion FitsField fields
  pub known : sorts_of kind ≡ Some (map sort_of fields)

abbrev FrameReads : List ℕ → Result (ℕ × List Field) ℕ → Type 0
FrameReads frame (Ok x) = TakesFrame frame x.0 x.1
FrameReads frame (Err left) = left ≤ length frame

-- the end of a frame
ended : ℕ → Reading (List Field) → Result (ℕ × List Field) ℕ
ended kind reading = reading >>= λ fields. cond (length fields.1 == 0) (Ok (kind, fields.0)) (Err (length fields.1))

frame_ends : (kind : ℕ) (bytes : List ℕ) (sorts : List Sort) → sorts_of kind ≡ Some sorts → (fields : List Field) (rest : List ℕ) → TakesFields (length bytes) sorts bytes fields rest
    → (done : Bool) → (length rest == 0) ≡ done → FrameReads (kind ∷ bytes) (cond done (Ok (kind, fields)) (Err (length rest)))
frame_ends kind bytes sorts known fields rest t false e = omega (arith, t.takes.good.within)
frame_ends kind bytes sorts known fields rest t true e =
    let none : rest ≡ [] = nil_from_length rest (eqb-true _ _ e) in
    let whole : bytes ≡ fields_bytes fields = t.takes.parts ∙ ap (λ (r : List ℕ). fields_bytes fields ++ r) none ∙ append-nil (fields_bytes fields) in
    record { spelled = ap (λ (bs : List ℕ). kind ∷ bs) (sym whole); in_range = t.in_range; fits = t.fits; known = known ∙ ap (λ ss. Some ss) (sym t.sorted) }

fields_end : (kind : ℕ) (bytes : List ℕ) (sorts : List Sort) → sorts_of kind ≡ Some sorts → (r : Reading (List Field)) → HoldsBy (length bytes) (TakesFields (length bytes) sorts bytes) r → FrameReads (kind ∷ bytes) (ended kind r)
unfolding ended
fields_end kind bytes sorts known (Ok x) h = frame_ends kind bytes sorts known x.0 x.1 h (length x.1 == 0) refl
fields_end kind bytes sorts known (Err left) h = omega arith

kind_ends : (kind : ℕ) (bytes : List ℕ) → IsBytes bytes → (known : Option (List Sort)) → sorts_of kind ≡ known → FrameReads (kind ∷ bytes) (ended kind (kind_at known bytes))
unfolding kind_at ended
kind_ends kind bytes fits None e = omega arith
kind_ends kind bytes fits (Some sorts) e = fields_end kind bytes sorts e (fields_at sorts bytes) (fields_take sorts bytes (record { fits = fits; within = omega arith })).by

frame_reads : (frame : List ℕ) → IsBytes frame → FrameReads frame (frame_at frame)
unfolding frame_at ended
frame_reads [] fits = omega arith
frame_reads (kind ∷ bytes) fits = kind_ends kind bytes (λ i. fits (suc i)) (sorts_of kind) refl

-- a fault lies within the frame
pub fault_within : (frame : List ℕ) (left : ℕ) → IsBytes frame → frame_at frame ≡ Err left → left ≤ length frame
fault_within frame left fits e = subst (FrameReads frame) e (frame_reads frame fits)

-- a message whose kind and fields are read is lawful and has the frame
pub read_is : (frame : List ℕ) (m : Message) → IsBytes frame → frame_at frame ≡ Ok (kind_of m, fields_of m) → IsLawful m × FitsBytes m × (frame_of m ≡ frame)
read_is frame m fits e =
    let t : TakesFrame frame (kind_of m) (fields_of m) = subst (FrameReads frame) e (frame_reads frame fits) in
    (t.in_range, t.fits, t.spelled)

kind_again : (m : Message) (rest : List ℕ) → IsLawful m → FitsBytes m → kind_at (sorts_of (kind_of m)) (fields_bytes (fields_of m) ++ rest) ≡ Ok (fields_of m, rest)
unfolding kind_at
kind_again m rest lawful fits = ap (λ o. kind_at o (fields_bytes (fields_of m) ++ rest)) (kind_sorts m) ∙ fields_again (fields_of m) rest lawful fits

whole_again : (m : Message) → IsLawful m → FitsBytes m → kind_at (sorts_of (kind_of m)) (fields_bytes (fields_of m)) ≡ Ok (fields_of m, [])
whole_again m lawful fits = ap (kind_at (sorts_of (kind_of m))) (sym (append-nil (fields_bytes (fields_of m)))) ∙ kind_again m [] lawful fits

-- a lawful message's frame is read
pub frame_again : (m : Message) → IsLawful m → FitsBytes m → frame_at (frame_of m) ≡ Ok (kind_of m, fields_of m)
unfolding frame_at
frame_again m lawful fits = then_read _ (whole_again m lawful fits) refl

-- a frame that isn't read is no message's
pub not_read : (frame : List ℕ) (left : ℕ) → frame_at frame ≡ Err left → ¬ IsFrame frame
not_read frame left e found =
    let read : frame_at frame ≡ Ok (kind_of found.0, fields_of found.0) = ap frame_at (sym found.3) ∙ frame_again found.0 found.1 found.2 in
    cc

pub place_is : (frame : List ℕ) (left : ℕ) → frame_at frame ≡ Err left → fault_place frame ≡ Some (length frame - left)
unfolding fault_place
place_is frame left e = ap (place_in (length frame)) e

-- ---- the laws

abbrev pair_of : List Field → List ℕ → Reading (List Field)
pair_of fields rest = Ok (fields, rest)

same_reading : (k l : ℕ) (x y : List ℕ) → k ≡ l → x ≡ y → kind_at (sorts_of k) x ≡ kind_at (sorts_of l) y
same_reading k l x y kind bytes = ap (λ n. kind_at (sorts_of n) x) kind ∙ ap (kind_at (sorts_of l)) bytes

pub told_apart : (a b : Message) → IsLawful a → IsLawful b → FitsBytes a → FitsBytes b → (rest : List ℕ) → frame_of a ++ rest ≡ frame_of b → (a ≡ b) × (rest ≡ [])
told_apart a b a-lawful b-lawful a-fits b-fits rest same =
    let kinds-same : kind_of a ≡ kind_of b = cc in
    let bytes-same : fields_bytes (fields_of a) ++ rest ≡ fields_bytes (fields_of b) = cc in
    let both : pair_of (fields_of a) rest ≡ pair_of (fields_of b) [] =
    sym (kind_again a rest a-lawful a-fits) ∙ same_reading (kind_of a) (kind_of b) (fields_bytes (fields_of a) ++ rest) (fields_bytes (fields_of b)) kinds-same bytes-same ∙ whole_again b b-lawful b-fits in
    let pairs : (fields_of a, rest) ≡ (fields_of b, []) = cc in
    (same_message a b kinds-same (ap (λ (p : List Field × List ℕ). p.0) pairs), ap (λ (p : List Field × List ℕ). p.1) pairs)

-- what decoding may answer on the frame of a message
pub comes_back : (message : Message) (result : Result Message FrameFault) → IsLawful message → FitsBytes message → Decodes (frame_of message) result → ComesBack message result
comes_back message (Ok m) lawful fits decodes = (told_apart m message decodes.0 lawful decodes.1 fits [] (append-nil (frame_of m) ∙ decodes.2)).0
comes_back message (Err (BadFrame at)) lawful fits decodes = absurd (decodes.1 (message, lawful, fits, refl))
comes_back message (Err (NoMemory e)) lawful fits decodes = tt

read_frame : (frame : List ℕ) (r : Result (ℕ × List Field) ℕ) → FrameReads frame r → place_in (length frame) r ≡ None → IsFrame frame
read_frame frame (Err left) h none = absurd cc
read_frame frame (Ok x) t none =
    let m = made x.0 x.1 t.known in
    (m.0, subst (AllByRecursion IsInRange) (sym m.2) t.in_range, subst (AllByRecursion FitsField) (sym m.2) t.fits, ap (λ (k : ℕ). k ∷ fields_bytes (fields_of m.0)) m.1 ∙ ap (λ fs. x.0 ∷ fields_bytes fs) m.2 ∙ t.spelled)

no_place : (m : Message) → IsLawful m → FitsBytes m → fault_place (frame_of m) ≡ None
unfolding fault_place
no_place m lawful fits = ap (place_in (length (frame_of m))) (frame_again m lawful fits)

pub bytes_from : (frame : List ℕ) → All (λ b. b < 256) frame → IsBytes frame
bytes_from frame all i =
    elim (cases_lt i (length frame)) [
      | inl below ↦ all i 0 below
      | inr past ↦ rw (get_or_past frame i 0 past) (omega arith)
    ]

pub places : (frame : List ℕ) → All (λ b. b < 256) frame → (fault_place frame ≡ None) ↔ IsFrame frame
unfolding fault_place
places frame all = (λ none. read_frame frame (frame_at frame) (frame_reads frame (bytes_from frame all)) none, λ found. ap fault_place (sym found.3) ∙ no_place found.0 found.1 found.2)
