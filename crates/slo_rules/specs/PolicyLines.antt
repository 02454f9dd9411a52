-- What one line of a policy says, read from left to right. Its words are separated by single spaces.
use Rattle.std.specs.Prelude.{ℕ, zero, suc, ◌+◌, ◌-◌, Bool, true, false, ◌==◌, nat_eq, if◌then◌else◌, List, [], ◌∷◌, length, map, take, drop, codes, option_map, Option, Some, None, Result, Ok, Err}
use Rattle.std.specs.List.{position, prefix_len, starts_with}
use Rattle.std.specs.Cmp.Lexicographic.{pointwise}
use Rattle.span_base.specs.Name.{is_name_byte}
use Rattle.span_base.specs.declared.ids.DcId.{DcId}
use Rattle.span_base.specs.declared.dc_set.DcSet.{DcSet}
use Rattle.span_base.specs.DcSet.{no_centre as no_dc, insert}
use Rattle.workload.specs.World.{Lists}
use Rattle.slo_rules.specs.Rules.{lies_below}
use Rattle.slo_rules.specs.declared.policy_line.PolicyFault.{PolicyFault}
use Rattle.slo_rules.specs.declared.policy_line.PolicyFault.TheVariants.{Bad, Unknown, Order}
use Rattle.slo_rules.specs.declared.policy_line.PolicyLine.{PolicyLine}
use Rattle.slo_rules.specs.declared.policy_line.PolicyLine.TheVariants.{Replicas, Primary, Parent, Quorum}

-- what reading a text gives: what it says and the bytes behind, or how many bytes are left where it can't go on
abbrev pub Reading : Type 0 → Type 0
Reading X = Result (X × List ℕ) ℕ

-- the next is done only where this is without fault
infixl 10 ◌>>=◌
abbrev pub ◌>>=◌ : {A B E : Type 0} → Result A E → (A → Result B E) → Result B E
(Ok x) >>= f = f x
(Err fault) >>= f = Err fault

-- the bytes behind a word that has to stand here
unfoldable pub behind : List ℕ → List ℕ → Result (List ℕ) ℕ
behind [] text = Ok text
behind (c ∷ word) [] = Err 0
behind (c ∷ word) (d ∷ text) = if c == d then behind word text else Err (length text + 1)

-- how many of the first 32 bytes a name takes from the front on
abbrev pub name_len : List ℕ → ℕ
name_len text = prefix_len is_name_byte (take 32 text)

-- the centre of a name, where the world has it
abbrev pub centre_named : Lists → List ℕ → Option DcId
centre_named w name = option_map (λ dc. record { 0 = dc }) (position (pointwise nat_eq name) (map (λ c. c.name) w.centres))

-- the name of a centre at the front of a text
unfoldable pub name_at : Lists → List ℕ → Reading (Option DcId)
name_at w text =
    if name_len text == 0 then Err (length text)
    else Ok (centre_named w (take (name_len text) text), drop (name_len text) text)

-- a space and the name of a centre
unfoldable pub centre_at : Lists → List ℕ → Reading (Option DcId)
centre_at w text = do
  name ← behind (codes " ") text
  name_at w name

-- the centres so far and one more, which has to stand behind them in the world
abbrev pub with_centre : Result DcSet PolicyFault → Option DcId → Result DcSet PolicyFault
with_centre (Err fault) centre = Err fault
with_centre (Ok set) None = Err Unknown
with_centre (Ok set) (Some dc) = if lies_below dc.0 set then Ok (insert set dc.0) else Err Order

-- a list of centres ends with its line, or where a semicolon follows
abbrev pub is_over : Bool → List ℕ → Bool
is_over true text = starts_with nat_eq text (codes " ;")
is_over false text = length text == 0

-- one centre at least, each behind a space, up to the list's end; `most` is as many as can follow
unfoldable pub centres_at : Lists → Bool → ℕ → Result DcSet PolicyFault → List ℕ → Reading (Result DcSet PolicyFault)
centres_at w closed zero so_far text = Err 0
centres_at w closed (suc most) so_far text =
    centre_at w text >>= (λ centre.
    if is_over closed centre.1 then Ok (with_centre so_far centre.0, centre.1)
    else centres_at w closed most (with_centre so_far centre.0) centre.1)

-- a list of centres
abbrev pub list_at : Lists → Bool → List ℕ → Reading (Result DcSet PolicyFault)
list_at w closed text = centres_at w closed (length text) (Ok no_dc) text

-- the four forms
unfoldable pub replicas_at : Lists → List ℕ → Reading PolicyLine
replicas_at w text = do
  rest ← behind (codes "replicas") text
  list ← list_at w false rest
  Ok (Replicas list.0, list.1)

unfoldable pub primary_at : Lists → List ℕ → Reading PolicyLine
primary_at w text = do
  rest ← behind (codes "primary") text
  member ← centre_at w rest
  at ← centre_at w member.1
  Ok (Primary member.0 at.0, at.1)

unfoldable pub parent_at : Lists → List ℕ → Reading PolicyLine
parent_at w text = do
  rest ← behind (codes "parent") text
  member ← centre_at w rest
  child ← centre_at w member.1
  parent ← centre_at w child.1
  Ok (Parent member.0 child.0 parent.0, parent.1)

unfoldable pub quorum_at : Lists → List ℕ → Reading PolicyLine
quorum_at w text = do
  rest ← behind (codes "quorum") text
  member ← centre_at w rest
  reads ← behind (codes " read") member.1
  read ← list_at w true reads
  writes ← behind (codes " ; write") read.1
  write ← list_at w false writes
  Ok (Quorum member.0 read.0 write.0, write.1)

-- the form that a text begins as: each other text can't go on as `primary` either
unfoldable pub form_at : Lists → List ℕ → Reading PolicyLine
form_at w text =
    if starts_with nat_eq text (codes "r") then replicas_at w text
    else if starts_with nat_eq text (codes "q") then quorum_at w text
    else if starts_with nat_eq text (codes "pa") then parent_at w text
    else primary_at w text

-- a form that is the whole text
abbrev pub whole : PolicyLine × List ℕ → Result PolicyLine ℕ
whole form = if length form.1 == 0 then Ok form.0 else Err (length form.1)

-- what a whole text says by its form, or how many bytes are left where it can't go on
abbrev pub form_of : Lists → List ℕ → Result PolicyLine ℕ
form_of w text = form_at w text >>= whole

-- the place of a fault in a text of this length
abbrev pub placed : {X : Type 0} → ℕ → Result X ℕ → Result X PolicyFault
placed size (Ok x) = Ok x
placed size (Err left) = Err (Bad (size - left))

-- what a line says, or the first byte at which it can't go on
unfoldable pub line_says : Lists → List ℕ → Result PolicyLine PolicyFault
line_says w line = placed (length line) (form_of w line)
