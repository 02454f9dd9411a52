-- A record by its place and its kind.
use Rattle.std.proofs.Common.{◌≡◌, ℕ, List, [], ◌∷◌, None, Some, Ok, Err, refl, ap, ◌∙◌}
use Rattle.span_base.specs.declared.words.Cause.TheVariants as cause
use Rattle.world_text.specs.declared.fault.Fault.{Fault}
use Rattle.world_text.specs.declared.fault.Fault.TheVariants.{Bad}
use Rattle.world_text.specs.declared.draft.Draft.{Draft}
use Rattle.world_text.specs.Records.{Record}
use Rattle.world_text.specs.declared.kinds.Kind.{Kind}
use Rattle.world_text.specs.declared.kinds.Version.{Version}
use Rattle.world_text.specs.Spelled.{kind_of}
use Rattle.world_text.specs.Judged.{judged, judged_in, first_judged, kind_judged}

pub first_is : (d : Draft) (r : Record) → d.version ≡ None → judged d r ≡ first_judged d r
unfolding judged
first_is d r none = ap (λ v. judged_in v d r) none

pub no_kind : (d : Draft) (v : Version) (r : Record) → d.version ≡ Some v → r ≡ [] → judged d r ≡ Err (Bad cause.Kind)
unfolding judged
no_kind d v r later none = ap (λ x. judged_in x d r) later ∙ ap (judged_in (Some v) d) none

pub kind_unknown : (d : Draft) (v : Version) (r : Record) (word : List ℕ) (fields : Record) (f : Fault) → d.version ≡ Some v → r ≡ word ∷ fields → kind_of word ≡ Err f → judged d r ≡ Err f
unfolding judged
kind_unknown d v r word fields f later all h = ap (λ x. judged_in x d r) later ∙ ap (judged_in (Some v) d) all ∙ rw h refl

pub kind_is : (d : Draft) (v : Version) (r : Record) (word : List ℕ) (fields : Record) (k : Kind) → d.version ≡ Some v → r ≡ word ∷ fields → kind_of word ≡ Ok k → judged d r ≡ kind_judged v d k fields
unfolding judged
kind_is d v r word fields k later all h = ap (λ x. judged_in x d r) later ∙ ap (judged_in (Some v) d) all ∙ rw h refl
