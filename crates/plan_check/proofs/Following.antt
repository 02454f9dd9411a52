-- What comes next in a file that a check reads, and what then can stop it.
use Rattle.std.proofs.Common.{◌≡◌, ◌≢◌, ℕ, ◌+◌, ◌≤◌, ◌⊎◌, inl, inr, true, false, ◌==◌, ◌&&◌, if◌then◌else◌, List, [], ◌∷◌, ◌++◌, length, refl, sym, ap, subst, ◌∙◌, append_assoc, append-nil, length-append, arith}
use Rattle.std.specs.Prelude.{Option, Some, None, codes}
use Rattle.std.specs.List.{list_all}
use Rattle.std.proofs.lemmas.Bool.{and_parts, ne_eqb}
use Rattle.std.proofs.lemmas.List.Elements.{All-head, All-tail}
use Rattle.span_base.specs.Files.{Files, file_of}
use Rattle.span_base.specs.declared.words.What.{What}
use Rattle.span_base.specs.declared.words.What.TheVariants as what
use Rattle.span_base.specs.declared.words.Cause.{Cause}
use Rattle.span_base.specs.declared.words.Cause.TheVariants as cause
use Rattle.shelf_lines.specs.Lines.{IsLine, fed, Begins, BeginsFile, IsFile, IsLongLine, IsPastLimit}
use Rattle.slo_rules.proofs.ToldApart.{no_feed, OneLine, cut, cut_line, same_after}
use Rattle.workload.specs.World.{Lists}
use Rattle.plan_text.specs.Parts.{Part}
use Rattle.plan_text.specs.PlanText.{plan_text}
use Rattle.plan_text.specs.PlanLaws.{ArePartsOf}
use Rattle.plan_check.specs.declared.fault.CheckFault.{CheckFault}
use Rattle.plan_check.specs.declared.fault.CheckFault.TheVariants.{Absent, ReadFault, TooLarge, Bad, Refused, WriteFault, NoMemory}
use Rattle.plan_check.specs.Reading.{Lacks, IsTooLarge, IsCutOff}
use Rattle.plan_check.specs.Places.{Meets}

-- the file is within its limit, and no 1,048,577 bytes of it in a row are without a line feed
pub record IsWithinLimit (file : List ℕ) : Type 0 where
  pub bytes : length file ≤ 4294967295
  pub lines : (before run rest : List ℕ) → file ≡ before ++ (run ++ rest) → IsLine run → length run ≤ 1048576

-- nothing but a fault of the shelf or want of memory
abbrev pub IsOutsideFault : CheckFault → Type 0
IsOutsideFault fault = (fault ≡ ReadFault) ⊎ (fault ≡ NoMemory)

-- the named file is the plan of these parts, within the limits
pub record IsSoundFile (w : Lists) (files : Files) (name : List ℕ) (parts : List Part) : Type 0 where
  pub file : file_of name files ≡ Some (plan_text w parts)
  pub within : IsWithinLimit (plan_text w parts)
  pub sound : ArePartsOf w parts

-- a line's bytes are none but those of a line
pub line_one : (line : List ℕ) → IsLine line → OneLine line
line_one [] all = refl
line_one (c ∷ line) all =
    let other : (c == 10) ≡ false = ne_eqb c 10 (All-head (λ byte. byte ≢ 10) c line all) in
    ap (λ b. (if b then false else true) && list_all no_feed line) other ∙ line_one line (All-tail (λ byte. byte ≢ 10) c line all)

-- no line has a line feed
feed_in : (line more : List ℕ) → OneLine (line ++ 10 ∷ more) → ⊥
feed_in [] more one = let same : false ≡ true = one in cc
feed_in (c ∷ line) more one = feed_in line more (and_parts (no_feed c) (list_all no_feed (line ++ 10 ∷ more)) one).1

-- two texts that begin with a line each: the lines are equal, and what follows them
pub heads : (l m a b : List ℕ) → OneLine l → OneLine m → l ++ 10 ∷ a ≡ m ++ 10 ∷ b → (l ≡ m) × (a ≡ b)
heads l m a b one one' e =
    let lines : l ∷ cut a ≡ m ∷ cut b = sym (cut_line l a one) ∙ ap cut e ∙ cut_line m b one' in
    let same : l ≡ m = cc in
    let rest : m ++ 10 ∷ a ≡ m ++ 10 ∷ b = ap (λ t. t ++ 10 ∷ a) (sym same) ∙ e in
    (same, same_after (m ++ codes "\n") a b (append_assoc m (codes "\n") a ∙ rest ∙ sym (append_assoc m (codes "\n") b)))

-- the file goes on behind the text with no line feed, or not at all
pub record IsCut (file text : List ℕ) : Type 0 where
  pub rest : List ℕ
  pub file_is : file ≡ text ++ rest
  pub line : IsLine rest

-- the file goes on behind the text with a line that is refused so
pub record IsMet (file text : List ℕ) (RefusesLine : List ℕ → CheckFault → Type 0) (fault : CheckFault) : Type 0 where
  pub line : List ℕ
  pub rest : List ℕ
  pub file_is : file ≡ (text ++ fed line) ++ rest
  pub one : IsLine line
  pub refuses : RefusesLine line fault

pub begins_at : (files : Files) (name file text : List ℕ) → file_of name files ≡ Some file → Begins (Some files) name text → (rest : List ℕ) × (file ≡ text ++ rest)
begins_at files name file text is begins = subst (λ (o : Option (List ℕ)). BeginsFile o text) is begins

whole_at : (files : Files) (name file text : List ℕ) → file_of name files ≡ Some file → IsFile (Some files) name text → file ≡ text
whole_at files name file text is whole = let same : Some file ≡ Some text = sym is ∙ whole in cc

-- no line of the file is too long, and the file isn't
never_long : (files : Files) (name file text : List ℕ) → file_of name files ≡ Some file → IsWithinLimit file → IsLongLine (Some files) name text 1048576 4294967295 → ⊥
never_long files name file text is within long =
    let there = begins_at files name file (text ++ long.front) is long.there in
    let few : length long.front ≤ 1048576 = within.lines text long.front there.0 (there.1 ∙ append_assoc text long.front there.0) long.line in
    omega (arith, few, long.long)

never_past : (files : Files) (name file text : List ℕ) → file_of name files ≡ Some file → IsWithinLimit file → IsPastLimit (Some files) name text 1048576 4294967295 → ⊥
never_past files name file text is within past =
    let there = begins_at files name file (text ++ past.front ++ past.past ∷ []) is past.there in
    let size : length file ≡ length (text ++ past.front ++ past.past ∷ []) + length there.0 = ap length there.1 ∙ length-append (text ++ past.front ++ past.past ∷ []) there.0 in
    let front : length (text ++ past.front ++ past.past ∷ []) ≡ length (text ++ past.front) + 1 = length-append (text ++ past.front) (past.past ∷ []) in
    omega (arith, size, front, length-append text past.front, past.full, within.bytes)

large_at : (files : Files) (name file text : List ℕ) (line : ℕ) (word : What) (number : ℕ) → file_of name files ≡ Some file → IsWithinLimit file → IsTooLarge (Some files) name text line word number → ⊥
large_at files name file text line what.Line number is within large = never_long files name file text is within large.0
large_at files name file text line what.Bytes number is within large = never_past files name file text is within large.0
large_at files name file text line other number is within large = absurd large

cut_at : (files : Files) (name file text : List ℕ) (why : Cause) → file_of name files ≡ Some file → IsCutOff (Some files) name text why → IsCut file text
cut_at files name file text cause.End is off = record { rest = []; file_is = whole_at files name file text is off ∙ sym (append-nil text); line = λ k d inside. absurd (omega (arith, inside)) }
cut_at files name file text cause.Syntax is off = record { rest = off.0; file_is = whole_at files name file (text ++ off.0) is off.2; line = off.1 }
cut_at files name file text other is off = absurd off

lacks_at : (files : Files) (name file text : List ℕ) (fault : CheckFault) → file_of name files ≡ Some file → IsWithinLimit file → Lacks (Some files) name text fault → IsOutsideFault fault ⊎ IsCut file text
lacks_at files name file text Absent is within lacks = absurd (let none : Some file ≡ None = sym is ∙ lacks in cc)
lacks_at files name file text ReadFault is within lacks = inl (inl refl)
lacks_at files name file text (TooLarge line word number) is within lacks = absurd (large_at files name file text line word number is within lacks)
lacks_at files name file text (Bad line why) is within lacks = inr (cut_at files name file text why is lacks.1)
lacks_at files name file text (Refused line why) is within lacks = absurd lacks
lacks_at files name file text WriteFault is within lacks = absurd lacks
lacks_at files name file text NoMemory is within lacks = inl (inr refl)

-- what a check can meet behind a text of the file
pub meets_at : (files : Files) (name file text : List ℕ) (R : List ℕ → CheckFault → Type 0) (fault : CheckFault) → file_of name files ≡ Some file → IsWithinLimit file
    → Meets (Some files) name text R fault → IsOutsideFault fault ⊎ (IsCut file text ⊎ IsMet file text R fault)
meets_at files name file text R fault is within (inl lacks) =
    elim (lacks_at files name file text fault is within lacks) [ inl failing ↦ inl failing | inr off ↦ inr (inl off) ]
meets_at files name file text R fault is within (inr met) =
    let there = begins_at files name file (text ++ fed met.0) is met.2 in
    inr (inr (record { line = met.0; rest = there.0; file_is = there.1; one = met.1; refuses = met.3 }))

-- a file that goes on with a line isn't cut off before it
pub never_cut : (file text l more : List ℕ) → file ≡ text ++ (l ++ 10 ∷ more) → IsCut file text → ⊥
never_cut file text l more is off =
    let same : off.rest ≡ l ++ 10 ∷ more = same_after text off.rest (l ++ 10 ∷ more) (sym off.file_is ∙ is) in
    feed_in l more (subst OneLine same (line_one off.rest off.line))

-- and so the next line of the file is refused
pub next_refused : (file text l more : List ℕ) (R : List ℕ → CheckFault → Type 0) (fault : CheckFault) → file ≡ text ++ (l ++ 10 ∷ more) → OneLine l
    → IsCut file text ⊎ IsMet file text R fault → R l fault
next_refused file text l more R fault is one (inl off) = absurd (never_cut file text l more is off)
next_refused file text l more R fault is one (inr met) =
    let both : fed met.line ++ met.rest ≡ l ++ 10 ∷ more =
    same_after text (fed met.line ++ met.rest) (l ++ 10 ∷ more) (sym (append_assoc text (fed met.line) met.rest) ∙ sym met.file_is ∙ is) in
    let first = heads met.line l met.rest more (line_one met.line met.one) one (sym (append_assoc met.line (10 ∷ []) met.rest) ∙ both) in
    subst (λ (t : List ℕ). R t fault) first.0 met.refuses

-- what behind the text the file has, where it goes on
pub behind_text : (file text : List ℕ) (R : List ℕ → CheckFault → Type 0) (fault : CheckFault) → IsCut file text ⊎ IsMet file text R fault → (rest : List ℕ) × (file ≡ text ++ rest)
behind_text file text R fault (inl off) = (off.rest, off.file_is)
behind_text file text R fault (inr met) = (fed met.line ++ met.rest, met.file_is ∙ append_assoc text (fed met.line) met.rest)
