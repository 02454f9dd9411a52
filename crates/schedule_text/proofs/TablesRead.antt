-- The entries of a line.
use Rattle.std.proofs.Common.{◌≡◌, ℕ, true, List, [], ◌∷◌, Option, Some, None, Result, Ok, Bor, refl, sym, ap, ◌∙◌}
use Rattle.std.specs.Prelude.{is_some}
use Rattle.epoch_directory.specs.declared.table.SetPolicy.{SetPolicy}
use Rattle.schedule_text.specs.declared.flaw.Flaw.{Flaw}
use Rattle.schedule_text.specs.declared.setting.Mode.{Mode}
use Rattle.schedule_text.specs.declared.setting.Setting.{Setting}
use Rattle.schedule_text.specs.declared.words.Words.{Words}
use Rattle.schedule_text.specs.Flaws.{judged}
use Rattle.schedule_text.specs.Words.{is_joint, words_of, entries_of, first_of, behind}
use Rattle.schedule_text.specs.Pieces.{pieces, entry, beyond}
use Rattle.schedule_text.specs.Tables.{entries_from, fitting, table_says}
use Rattle.schedule_text.proofs.Cuts.{split_is}

some_table : (setting : Setting) (pieces : List (List ℕ)) (first : List ℕ) (rest : List (List ℕ)) → pieces ≡ first ∷ rest
    → table_says setting pieces ≡ judged (entries_from setting (Ok []) (entries_of pieces)) (fitting setting.modes)
unfolding table_says
some_table setting pieces first rest are = rw are refl

pub table_is : (setting : Setting) (rest : Option (Bor (List ℕ))) → is_some rest ≡ true
    → let words : Words = record { rest = rest; joined = true } in
    judged (entries_from setting (Ok []) (entry words ∷ beyond words)) (fitting setting.modes) ≡ table_says setting (pieces 32 rest)
table_is setting None some = absurd (cc)
table_is setting (Some text) some =
    let line = words_of text.now in
    sym (some_table setting line (first_of line) (behind line) (split_is (λ c. Rattle.std.specs.Prelude.nat_eq c 32) text.now)
    ∙ ap (λ (entries : List (List (List ℕ))). judged (entries_from setting (Ok []) entries) (fitting setting.modes)) (split_is is_joint line))

-- what is said of the table of a line with entries
pub table_said : (setting : Setting) (rest : Option (Bor (List ℕ))) (table said : Result (List SetPolicy) Flaw) (modes : List Mode) → is_some rest ≡ true
    → (let words : Words = record { rest = rest; joined = true } in table ≡ entries_from setting (Ok []) (entry words ∷ beyond words))
    → modes ≡ setting.modes → said ≡ judged table (fitting modes) → said ≡ table_says setting (pieces 32 rest)
table_said setting rest table said modes some are same h =
    h ∙ ap (λ (t : Result (List SetPolicy) Flaw). judged t (fitting modes)) are
    ∙ ap (λ (ms : List Mode). let words : Words = record { rest = rest; joined = true } in judged (entries_from setting (Ok []) (entry words ∷ beyond words)) (fitting ms)) same
    ∙ table_is setting rest some
