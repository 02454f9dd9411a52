-- A name is text.
use Rattle.std.proofs.Common.{◌≡◌, ℕ, ◌<◌, true, ◌&&◌, nat_lt, nat_le, List, length, arith}
use Rattle.std.proofs.lemmas.Bool.{and_parts}
use Rattle.std.proofs.lemmas.Bool.Decides.{nat_tests}
use Rattle.std.proofs.lemmas.List.Elements.{All-weaker}
use Rattle.std.proofs.lemmas.List.Sums.{AllPass-from_list_all}
use Rattle.std.proofs.lemmas.Str.{IsUtf8-from_ascii}
use Rattle.std.proofs.lemmas.Str.Ascii.{IsAscii-from_all}
use Rattle.std.specs.List.{list_all}
use Rattle.std.specs.Str.{IsUtf8}
use Rattle.span_base.specs.Name.{is_name_byte, IsName}

name_byte_ascii : (b : ℕ) → is_name_byte b ≡ true → b < 128
name_byte_ascii b h = grind (arith, nat_tests)

pub IsUtf8-from_name : (text : List ℕ) → IsName text → IsUtf8 text
IsUtf8-from_name text h =
    let fits : list_all is_name_byte text ≡ true = (and_parts (list_all is_name_byte text) (nat_lt 0 (length text) && nat_le (length text) 32) h).0 in
    IsUtf8-from_ascii text (IsAscii-from_all text (All-weaker (λ b. is_name_byte b ≡ true) (λ b. b < 128) name_byte_ascii text (AllPass-from_list_all is_name_byte text fits)))
