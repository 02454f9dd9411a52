-- The forms of a policy's lines are read as the grammar says.
use Rattle.std.proofs.Common.{◌≡◌, ℕ, true, false, ◌==◌, List, [], ◌∷◌, ◌++◌, length, Option, Ok, Err, refl, sym, ap, subst, arith}
use Rattle.std.specs.Prelude.{Result, codes}
use Rattle.std.proofs.lemmas.List.Elements.{All-nil, All-cons}
use Rattle.span_base.specs.Name.{IsName}
use Rattle.span_base.specs.declared.ids.DcId.{DcId}
use Rattle.span_base.specs.declared.dc_set.DcSet.{DcSet}
use Rattle.workload.specs.World.{Lists}
use Rattle.slo_rules.specs.declared.policy_line.PolicyFault.{PolicyFault}
use Rattle.slo_rules.specs.declared.policy_line.PolicyLine.{PolicyLine}
use Rattle.slo_rules.specs.declared.policy_line.PolicyLine.TheVariants as line
use Rattle.slo_rules.specs.PolicyLines.{◌>>=◌, behind, centre_at, list_at, is_over, replicas_at, primary_at, parent_at, quorum_at}
use Rattle.slo_rules.proofs.NamesRead.{Stops}
use Rattle.slo_rules.proofs.Grammars.{BreaksBefore, Inhabited, Follows, Then, ReadsAs, bind_as, word_as}
use Rattle.slo_rules.proofs.NameGrammars.{Spaced, centre_as}
use Rattle.slo_rules.proofs.ListGrammars.{ListThen, Ends, list_as}

-- what was read, said otherwise
map_as : {A B : Type 0} (ra : A → List ℕ) (rb : B → List ℕ) (C : (List ℕ → Type 0) → Type 0) (T : (List ℕ → Type 0) → List ℕ → Type 0) (text : List ℕ) (reading : Result A ℕ) (g : A → B)
    → ((a : A) → rb (g a) ≡ ra a) → ReadsAs ra C T text reading → ReadsAs rb C T text (reading >>= (λ a. Ok (g a)))
map_as ra rb C T text (Ok a) g same h = λ N c. (λ n. (h N c).0 (subst N (same a) n), λ left b. (h N c).1 left (subst (λ (t : List ℕ). BreaksBefore N t left) (same a) b))
map_as ra rb C T text (Err left) g same h = h

-- a name, a list, a word with one of them behind: what can follow
one_spaced : (N : List ℕ → Type 0) → Inhabited N → Inhabited (Spaced N)
one_spaced N some = record { text = codes " a" ++ some.text; is = (codes "a" ++ some.text, refl, (codes "a", some.text, refl, refl, some.is)) }

one_list : (N : List ℕ → Type 0) → Inhabited N → Inhabited (ListThen N)
one_list N some = record { text = codes " a" ++ some.text; is = (codes "a" ∷ [], some.text, record { some = omega arith; each = All-cons IsName (codes "a") [] refl (All-nil IsName) }, refl, some.is) }

one_word : (word : List ℕ) (N : List ℕ → Type 0) → Inhabited N → Inhabited (Then word N)
one_word word N some = record { text = word ++ some.text; is = (some.text, refl, some.is) }

spaced_follows : (N : List ℕ → Type 0) → Inhabited N → Follows (Spaced N)
spaced_follows N some = record { some = one_spaced N some; stops = λ t h. subst Stops h.1 refl }

-- the end of a line
abbrev pub End : List ℕ → Type 0
End t = t ≡ []

pub end_ends : Ends false End
end_ends = record {
  follows = record { some = record { text = []; is = refl }; stops = λ t e. subst Stops (sym e) tt };
  over = λ t e. ap (λ (t : List ℕ). length t == 0) e;
}

-- the four forms and what follows
abbrev pub ReplicasThen : (List ℕ → Type 0) → List ℕ → Type 0
ReplicasThen N = Then (codes "replicas") (ListThen N)

abbrev pub PrimaryThen : (List ℕ → Type 0) → List ℕ → Type 0
PrimaryThen N = Then (codes "primary") (Spaced (Spaced N))

abbrev pub ParentThen : (List ℕ → Type 0) → List ℕ → Type 0
ParentThen N = Then (codes "parent") (Spaced (Spaced (Spaced N)))

abbrev pub WriteThen : (List ℕ → Type 0) → List ℕ → Type 0
WriteThen N = Then (codes " ; write") (ListThen N)

abbrev pub QuorumThen : (List ℕ → Type 0) → List ℕ → Type 0
QuorumThen N = Then (codes "quorum") (Spaced (Then (codes " read") (ListThen (WriteThen N))))

write_ends : (N : List ℕ → Type 0) → Inhabited N → Ends true (WriteThen N)
write_ends N some = record {
  follows = record { some = one_word (codes " ; write") (ListThen N) (one_list N some); stops = λ t h. subst Stops h.1 refl };
  over = λ t h. ap (is_over true) (sym h.1);
}

pub replicas_as : (w : Lists) (text : List ℕ) → ReadsAs (λ (r : PolicyLine × List ℕ). r.1) (Ends false) ReplicasThen text (replicas_at w text)
unfolding replicas_at
replicas_as w text =
    bind_as {A = List ℕ} {B = PolicyLine × List ℕ} (λ r. r) (λ r. r.1) Inhabited (Ends false) (Then (codes "replicas")) ListThen text (behind (codes "replicas") text) (λ rest. list_at w false rest >>= (λ list. Ok (line.Replicas list.0, list.1)))
    (λ N e. one_list N e.follows.some) (word_as (codes "replicas") text)
    (λ rest same. map_as {A = Result DcSet PolicyFault × List ℕ} {B = PolicyLine × List ℕ} (λ r. r.1) (λ r. r.1) (Ends false) ListThen rest (list_at w false rest) (λ list. (line.Replicas list.0, list.1)) (λ a. refl)
    (list_as w false (length rest) (Ok (record { bits = 0 })) rest (omega arith)))

pub primary_as : (w : Lists) (text : List ℕ) → ReadsAs (λ (r : PolicyLine × List ℕ). r.1) Follows PrimaryThen text (primary_at w text)
unfolding primary_at
primary_as w text =
    bind_as {A = List ℕ} {B = PolicyLine × List ℕ} (λ r. r) (λ r. r.1) Inhabited Follows (Then (codes "primary")) (λ N. Spaced (Spaced N)) text (behind (codes "primary") text) (λ rest. centre_at w rest >>= (λ member. centre_at w member.1 >>= (λ at. Ok (line.Primary member.0 at.0, at.1))))
    (λ N f. one_spaced (Spaced N) (one_spaced N f.some)) (word_as (codes "primary") text)
    (λ rest same. bind_as {A = Option DcId × List ℕ} {B = PolicyLine × List ℕ} (λ r. r.1) (λ r. r.1) Follows Follows Spaced Spaced rest (centre_at w rest) (λ member. centre_at w member.1 >>= (λ at. Ok (line.Primary member.0 at.0, at.1)))
    (λ N f. spaced_follows N f.some) (centre_as w rest)
    (λ member same. map_as {A = Option DcId × List ℕ} {B = PolicyLine × List ℕ} (λ r. r.1) (λ r. r.1) Follows Spaced member.1 (centre_at w member.1) (λ at. (line.Primary member.0 at.0, at.1)) (λ a. refl) (centre_as w member.1)))

pub parent_as : (w : Lists) (text : List ℕ) → ReadsAs (λ (r : PolicyLine × List ℕ). r.1) Follows ParentThen text (parent_at w text)
unfolding parent_at
parent_as w text =
    bind_as {A = List ℕ} {B = PolicyLine × List ℕ} (λ r. r) (λ r. r.1) Inhabited Follows (Then (codes "parent")) (λ N. Spaced (Spaced (Spaced N))) text (behind (codes "parent") text) (λ rest. centre_at w rest >>= (λ member. centre_at w member.1 >>= (λ child. centre_at w child.1 >>= (λ parent. Ok (line.Parent member.0 child.0 parent.0, parent.1)))))
    (λ N f. one_spaced (Spaced (Spaced N)) (one_spaced (Spaced N) (one_spaced N f.some))) (word_as (codes "parent") text)
    (λ rest same. bind_as {A = Option DcId × List ℕ} {B = PolicyLine × List ℕ} (λ r. r.1) (λ r. r.1) Follows Follows Spaced (λ N. Spaced (Spaced N)) rest (centre_at w rest) (λ member. centre_at w member.1 >>= (λ child. centre_at w child.1 >>= (λ parent. Ok (line.Parent member.0 child.0 parent.0, parent.1))))
    (λ N f. spaced_follows (Spaced N) (one_spaced N f.some)) (centre_as w rest)
    (λ member same. bind_as {A = Option DcId × List ℕ} {B = PolicyLine × List ℕ} (λ r. r.1) (λ r. r.1) Follows Follows Spaced Spaced member.1 (centre_at w member.1) (λ child. centre_at w child.1 >>= (λ parent. Ok (line.Parent member.0 child.0 parent.0, parent.1)))
    (λ N f. spaced_follows N f.some) (centre_as w member.1)
    (λ child same. map_as {A = Option DcId × List ℕ} {B = PolicyLine × List ℕ} (λ r. r.1) (λ r. r.1) Follows Spaced child.1 (centre_at w child.1) (λ parent. (line.Parent member.0 child.0 parent.0, parent.1)) (λ a. refl) (centre_as w child.1))))

pub quorum_as : (w : Lists) (text : List ℕ) → ReadsAs (λ (r : PolicyLine × List ℕ). r.1) (Ends false) QuorumThen text (quorum_at w text)
unfolding quorum_at
quorum_as w text =
    bind_as {A = List ℕ} {B = PolicyLine × List ℕ} (λ r. r) (λ r. r.1) Inhabited (Ends false) (Then (codes "quorum")) (λ N. Spaced (Then (codes " read") (ListThen (WriteThen N)))) text (behind (codes "quorum") text)
    (λ rest. centre_at w rest >>= (λ member. behind (codes " read") member.1 >>= (λ reads. list_at w true reads >>= (λ read. behind (codes " ; write") read.1 >>= (λ writes. list_at w false writes >>= (λ write. Ok (line.Quorum member.0 read.0 write.0, write.1)))))))
    (λ N e. one_spaced (Then (codes " read") (ListThen (WriteThen N))) (one_word (codes " read") (ListThen (WriteThen N)) (one_list (WriteThen N) (one_word (codes " ; write") (ListThen N) (one_list N e.follows.some)))))
    (word_as (codes "quorum") text)
    (λ rest same. bind_as {A = Option DcId × List ℕ} {B = PolicyLine × List ℕ} (λ r. r.1) (λ r. r.1) Follows (Ends false) Spaced (λ N. Then (codes " read") (ListThen (WriteThen N))) rest (centre_at w rest)
    (λ member. behind (codes " read") member.1 >>= (λ reads. list_at w true reads >>= (λ read. behind (codes " ; write") read.1 >>= (λ writes. list_at w false writes >>= (λ write. Ok (line.Quorum member.0 read.0 write.0, write.1))))))
    (λ N e. record { some = one_word (codes " read") (ListThen (WriteThen N)) (one_list (WriteThen N) (one_word (codes " ; write") (ListThen N) (one_list N e.follows.some))); stops = λ t h. subst Stops h.1 refl })
    (centre_as w rest)
    (λ member same. bind_as {A = List ℕ} {B = PolicyLine × List ℕ} (λ r. r) (λ r. r.1) Inhabited (Ends false) (Then (codes " read")) (λ N. ListThen (WriteThen N)) member.1 (behind (codes " read") member.1)
    (λ reads. list_at w true reads >>= (λ read. behind (codes " ; write") read.1 >>= (λ writes. list_at w false writes >>= (λ write. Ok (line.Quorum member.0 read.0 write.0, write.1)))))
    (λ N e. one_list (WriteThen N) (one_word (codes " ; write") (ListThen N) (one_list N e.follows.some))) (word_as (codes " read") member.1)
    (λ reads same. bind_as {A = Result DcSet PolicyFault × List ℕ} {B = PolicyLine × List ℕ} (λ r. r.1) (λ r. r.1) (Ends true) (Ends false) ListThen WriteThen reads (list_at w true reads)
    (λ read. behind (codes " ; write") read.1 >>= (λ writes. list_at w false writes >>= (λ write. Ok (line.Quorum member.0 read.0 write.0, write.1))))
    (λ N e. write_ends N e.follows.some) (list_as w true (length reads) (Ok (record { bits = 0 })) reads (omega arith))
    (λ read same. bind_as {A = List ℕ} {B = PolicyLine × List ℕ} (λ r. r) (λ r. r.1) Inhabited (Ends false) (Then (codes " ; write")) ListThen read.1 (behind (codes " ; write") read.1)
    (λ writes. list_at w false writes >>= (λ write. Ok (line.Quorum member.0 read.0 write.0, write.1)))
    (λ N e. one_list N e.follows.some) (word_as (codes " ; write") read.1)
    (λ writes same. map_as {A = Result DcSet PolicyFault × List ℕ} {B = PolicyLine × List ℕ} (λ r. r.1) (λ r. r.1) (Ends false) ListThen writes (list_at w false writes) (λ write. (line.Quorum member.0 read.0 write.0, write.1)) (λ a. refl)
    (list_as w false (length writes) (Ok (record { bits = 0 })) writes (omega arith)))))))
