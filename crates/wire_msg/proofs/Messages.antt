-- The messages of each kind and their fields.
use Rattle.std.proofs.Common.{◌≡◌, ℕ, zero, suc, Bool, List, [], ◌∷◌, map, Some, refl, sym, ap, subst, ◌∙◌, arith}
use Rattle.span_base.specs.declared.ids.KeyId.{KeyId}
use Rattle.span_base.specs.declared.ids.DcId.{DcId}
use Rattle.span_base.specs.declared.dc_set.DcSet.{DcSet}
use Rattle.span_base.specs.declared.policy.Policy.{Policy}
use Rattle.ticket_rules.specs.declared.stamp.Stamp.{Stamp}
use Rattle.wire_msg.specs.declared.tag.Tag.{Tag}
use Rattle.wire_msg.specs.declared.message.Message.{Message}
use Rattle.wire_msg.specs.declared.message.Message.TheVariants.{Read, Ask, Store, Repair, Confirm, Freeze, Seed, Push, Lookup, Switch, Have, Yes, Held, Gone, Here, Switched}
use Rattle.wire_msg.specs.Fields.{Field, a_tag, a_key, an_epoch, a_frozen_epoch, a_stamp, a_value, a_set, a_replica, a_policy, a_flag, kind_of, fields_of}
use Rattle.wire_msg.specs.Faults.{Sort, tag, key, epoch, frozen_epoch, stamp, value, set, replica, policy, flag, sorts_of}
use Rattle.wire_msg.proofs.FieldLaws.{sort_of}

pub kind_sorts : (m : Message) → sorts_of (kind_of m) ≡ Some (map sort_of (fields_of m))
kind_sorts (Read t k e) = refl
kind_sorts (Ask t k s) = refl
kind_sorts (Store t k s v) = refl
kind_sorts (Repair t k e s v) = refl
kind_sorts (Confirm t k s) = refl
kind_sorts (Freeze t k e) = refl
kind_sorts (Seed t k e s v) = refl
kind_sorts (Push t k s o v) = refl
kind_sorts (Lookup t k) = refl
kind_sorts (Switch t k c o) = refl
kind_sorts (Have t r s m v) = refl
kind_sorts (Yes t r) = refl
kind_sorts (Held t r s) = refl
kind_sorts (Gone t r e) = refl
kind_sorts (Here t k e p l q) = refl
kind_sorts (Switched t k d e) = refl

-- messages of one kind and the same fields are one
pub same_message : (a b : Message) → kind_of a ≡ kind_of b → fields_of a ≡ fields_of b → a ≡ b
same_message (Read t k e) (Read u l f) kind fields = cc
same_message (Read t k e) _ kind fields = absurd (omega arith)
same_message (Ask t k s) (Ask u l r) kind fields = cc
same_message (Ask t k s) _ kind fields = absurd (omega arith)
same_message (Store t k s v) (Store u l r w) kind fields = cc
same_message (Store t k s v) _ kind fields = absurd (omega arith)
same_message (Repair t k e s v) (Repair u l f r w) kind fields = cc
same_message (Repair t k e s v) _ kind fields = absurd (omega arith)
same_message (Confirm t k s) (Confirm u l r) kind fields = cc
same_message (Confirm t k s) _ kind fields = absurd (omega arith)
same_message (Freeze t k e) (Freeze u l f) kind fields = cc
same_message (Freeze t k e) _ kind fields = absurd (omega arith)
same_message (Seed t k e s v) (Seed u l f r w) kind fields = cc
same_message (Seed t k e s v) _ kind fields = absurd (omega arith)
same_message (Push t k s o v) (Push u l r p w) kind fields = cc
same_message (Push t k s o v) _ kind fields = absurd (omega arith)
same_message (Lookup t k) (Lookup u l) kind fields = cc
same_message (Lookup t k) _ kind fields = absurd (omega arith)
same_message (Switch t k c o) (Switch u l d p) kind fields = cc
same_message (Switch t k c o) _ kind fields = absurd (omega arith)
same_message (Have t r s m v) (Have u q x n w) kind fields = cc
same_message (Have t r s m v) _ kind fields = absurd (omega arith)
same_message (Yes t r) (Yes u q) kind fields = cc
same_message (Yes t r) _ kind fields = absurd (omega arith)
same_message (Held t r s) (Held u q x) kind fields = cc
same_message (Held t r s) _ kind fields = absurd (omega arith)
same_message (Gone t r e) (Gone u q f) kind fields = cc
same_message (Gone t r e) _ kind fields = absurd (omega arith)
same_message (Here t k e p l q) (Here u m f r n s) kind fields = cc
same_message (Here t k e p l q) _ kind fields = absurd (omega arith)
same_message (Switched t k d e) (Switched u l c f) kind fields = cc
same_message (Switched t k d e) _ kind fields = absurd (omega arith)

-- what a field of a sort holds
abbrev Holding : Sort → Type 0
Holding tag = Tag
Holding key = KeyId
Holding epoch = ℕ
Holding frozen_epoch = ℕ
Holding stamp = Stamp
Holding value = List ℕ
Holding set = DcSet
Holding replica = DcId
Holding policy = Policy
Holding flag = Bool

abbrev field_with : (sort : Sort) → Holding sort → Field
field_with tag x = a_tag x
field_with key x = a_key x
field_with epoch x = an_epoch x
field_with frozen_epoch x = a_frozen_epoch x
field_with stamp x = a_stamp x
field_with value x = a_value x
field_with set x = a_set x
field_with replica x = a_replica x
field_with policy x = a_policy x
field_with flag x = a_flag x

abbrev Row : List Sort → Type 0
Row [] = Unit {0}
Row (sort ∷ sorts) = Holding sort × Row sorts

abbrev fields_with : (sorts : List Sort) → Row sorts → List Field
fields_with [] row = []
fields_with (sort ∷ sorts) row = field_with sort row.0 ∷ fields_with sorts row.1

field_is : (field : Field) → (x : Holding (sort_of field)) × (field_with (sort_of field) x ≡ field)
field_is (a_tag x) = (x, refl)
field_is (a_key x) = (x, refl)
field_is (an_epoch x) = (x, refl)
field_is (a_frozen_epoch x) = (x, refl)
field_is (a_stamp x) = (x, refl)
field_is (a_value x) = (x, refl)
field_is (a_set x) = (x, refl)
field_is (a_replica x) = (x, refl)
field_is (a_policy x) = (x, refl)
field_is (a_flag x) = (x, refl)

row_is : (fields : List Field) → (row : Row (map sort_of fields)) × (fields_with (map sort_of fields) row ≡ fields)
row_is [] = (tt, refl)
row_is (field ∷ fields) =
    let first = field_is field in
    let others = row_is fields in
    ((first.0, others.0), ap (λ f. f ∷ fields_with (map sort_of fields) others.0) first.1 ∙ ap (λ fs. field ∷ fs) others.1)

row_of : (sorts : List Sort) (fields : List Field) → map sort_of fields ≡ sorts → (row : Row sorts) × (fields_with sorts row ≡ fields)
row_of sorts fields same = subst (λ ss. (row : Row ss) × (fields_with ss row ≡ fields)) same (row_is fields)

abbrev pub Made : ℕ → List Field → Type 0
Made kind fields = (m : Message) × (kind_of m ≡ kind) × (fields_of m ≡ fields)

some_is : {A : Type 0} (x y : A) → Some x ≡ Some y → x ≡ y
some_is x y e = cc

-- fields of the sorts of a kind are a message's
pub made : (kind : ℕ) (fields : List Field) → sorts_of kind ≡ Some (map sort_of fields) → Made kind fields
made zero fields known = absurd cc
made (suc zero) fields known = let r = row_of (tag ∷ key ∷ epoch ∷ []) fields (sym (some_is _ _ known)) in (Read r.0.0 r.0.1.0 r.0.1.1.0, refl, r.1)
made (suc (suc zero)) fields known = let r = row_of (tag ∷ key ∷ stamp ∷ []) fields (sym (some_is _ _ known)) in (Ask r.0.0 r.0.1.0 r.0.1.1.0, refl, r.1)
made (suc (suc (suc zero))) fields known = let r = row_of (tag ∷ key ∷ stamp ∷ value ∷ []) fields (sym (some_is _ _ known)) in (Store r.0.0 r.0.1.0 r.0.1.1.0 r.0.1.1.1.0, refl, r.1)
made (suc (suc (suc (suc zero)))) fields known = let r = row_of (tag ∷ key ∷ epoch ∷ stamp ∷ value ∷ []) fields (sym (some_is _ _ known)) in (Repair r.0.0 r.0.1.0 r.0.1.1.0 r.0.1.1.1.0 r.0.1.1.1.1.0, refl, r.1)
made (suc (suc (suc (suc (suc zero))))) fields known = let r = row_of (tag ∷ key ∷ stamp ∷ []) fields (sym (some_is _ _ known)) in (Confirm r.0.0 r.0.1.0 r.0.1.1.0, refl, r.1)
made (suc (suc (suc (suc (suc (suc zero)))))) fields known = let r = row_of (tag ∷ key ∷ epoch ∷ []) fields (sym (some_is _ _ known)) in (Freeze r.0.0 r.0.1.0 r.0.1.1.0, refl, r.1)
made (suc (suc (suc (suc (suc (suc (suc zero))))))) fields known = let r = row_of (tag ∷ key ∷ epoch ∷ stamp ∷ value ∷ []) fields (sym (some_is _ _ known)) in (Seed r.0.0 r.0.1.0 r.0.1.1.0 r.0.1.1.1.0 r.0.1.1.1.1.0, refl, r.1)
made (suc (suc (suc (suc (suc (suc (suc (suc zero)))))))) fields known = let r = row_of (tag ∷ key ∷ stamp ∷ set ∷ value ∷ []) fields (sym (some_is _ _ known)) in (Push r.0.0 r.0.1.0 r.0.1.1.0 r.0.1.1.1.0 r.0.1.1.1.1.0, refl, r.1)
made (suc (suc (suc (suc (suc (suc (suc (suc (suc zero))))))))) fields known = let r = row_of (tag ∷ key ∷ []) fields (sym (some_is _ _ known)) in (Lookup r.0.0 r.0.1.0, refl, r.1)
made (suc (suc (suc (suc (suc (suc (suc (suc (suc (suc zero)))))))))) fields known = let r = row_of (tag ∷ key ∷ epoch ∷ epoch ∷ []) fields (sym (some_is _ _ known)) in (Switch r.0.0 r.0.1.0 r.0.1.1.0 r.0.1.1.1.0, refl, r.1)
made (suc (suc (suc (suc (suc (suc (suc (suc (suc (suc (suc zero))))))))))) fields known = let r = row_of (tag ∷ replica ∷ stamp ∷ stamp ∷ value ∷ []) fields (sym (some_is _ _ known)) in (Have r.0.0 r.0.1.0 r.0.1.1.0 r.0.1.1.1.0 r.0.1.1.1.1.0, refl, r.1)
made (suc (suc (suc (suc (suc (suc (suc (suc (suc (suc (suc (suc zero)))))))))))) fields known = let r = row_of (tag ∷ replica ∷ []) fields (sym (some_is _ _ known)) in (Yes r.0.0 r.0.1.0, refl, r.1)
made (suc (suc (suc (suc (suc (suc (suc (suc (suc (suc (suc (suc (suc zero))))))))))))) fields known = let r = row_of (tag ∷ replica ∷ stamp ∷ []) fields (sym (some_is _ _ known)) in (Held r.0.0 r.0.1.0 r.0.1.1.0, refl, r.1)
made (suc (suc (suc (suc (suc (suc (suc (suc (suc (suc (suc (suc (suc (suc zero)))))))))))))) fields known = let r = row_of (tag ∷ replica ∷ frozen_epoch ∷ []) fields (sym (some_is _ _ known)) in (Gone r.0.0 r.0.1.0 r.0.1.1.0, refl, r.1)
made (suc (suc (suc (suc (suc (suc (suc (suc (suc (suc (suc (suc (suc (suc (suc zero))))))))))))))) fields known = let r = row_of (tag ∷ key ∷ epoch ∷ policy ∷ epoch ∷ policy ∷ []) fields (sym (some_is _ _ known)) in (Here r.0.0 r.0.1.0 r.0.1.1.0 r.0.1.1.1.0 r.0.1.1.1.1.0 r.0.1.1.1.1.1.0, refl, r.1)
made (suc (suc (suc (suc (suc (suc (suc (suc (suc (suc (suc (suc (suc (suc (suc (suc zero)))))))))))))))) fields known = let r = row_of (tag ∷ key ∷ flag ∷ epoch ∷ []) fields (sym (some_is _ _ known)) in (Switched r.0.0 r.0.1.0 r.0.1.1.0 r.0.1.1.1.0, refl, r.1)
made (suc (suc (suc (suc (suc (suc (suc (suc (suc (suc (suc (suc (suc (suc (suc (suc (suc kind))))))))))))))))) fields known = absurd cc
