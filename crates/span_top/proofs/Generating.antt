-- How generating a run makes the endings of `gen`.
use Rattle.std.proofs.Common.{◌≡◌, ℕ, inl, inr, List, Option, refl, subst}
use Rattle.span_base.specs.Taken.{Appends, AppendsFront}
use Rattle.run_generator.specs.declared.generated.Generated.{Generated}
use Rattle.run_generator.specs.Told.{IsGenerated}
use Rattle.span_top.specs.declared.status.Status.{Status}
use Rattle.span_top.specs.declared.status.Status.TheVariants as status
use Rattle.span_top.specs.Generated.{GenEnds, generated_text}

-- the text on the run was taken, or a front of it
pub gen_told : (calls : ℕ) (g : Generated) (text : List ℕ) (old new : Option (List ℕ)) → IsGenerated calls g → text ≡ generated_text calls g → Appends old new text → GenEnds calls old new status.Done
gen_told calls g text old new is same took = (g, is, subst (λ (t : List ℕ). Appends old new t) same took)

pub gen_unwritten : (calls : ℕ) (g : Generated) (text : List ℕ) (old new : Option (List ℕ)) → IsGenerated calls g → text ≡ generated_text calls g → AppendsFront old new text → GenEnds calls old new status.WriteFault
gen_unwritten calls g text old new is same took = (g, is, subst (λ (t : List ℕ). AppendsFront old new t) same took)

pub gen_short : (calls : ℕ) (g : Generated) (text : List ℕ) (old new : Option (List ℕ)) → IsGenerated calls g → text ≡ generated_text calls g → AppendsFront old new text → GenEnds calls old new status.NoMemory
gen_short calls g text old new is same took = inr (gen_unwritten calls g text old new is same took)

pub gen_in_want : (calls : ℕ) (old : Option (List ℕ)) → GenEnds calls old old status.NoMemory
gen_in_want calls old = inl refl

-- `gen` reads no file, and never answers that its words are of no command
pub gen_never : (calls : ℕ) (old new : Option (List ℕ)) (s : Status) → GenEnds calls old new s → (s ≡ status.Usage → ⊥) × (s ≡ status.ReadFault → ⊥) × (s ≡ status.Absent 0 → ⊥)
gen_never calls old new s ends = (
  λ same. subst (GenEnds calls old new) same ends,
  λ same. subst (GenEnds calls old new) same ends,
  λ same. subst (GenEnds calls old new) same ends,
)

pub gen_second : (calls : ℕ) (old new : Option (List ℕ)) (s : Status) → GenEnds calls old new s → s ≡ status.Absent 1 → ⊥
gen_second calls old new s ends same = subst (GenEnds calls old new) same ends

pub ruleset written = (gen_told, gen_unwritten, gen_short, gen_in_want)

pub ruleset ends = (gen_in_want, gen_never)

pub ruleset never = (gen_never, gen_second)
