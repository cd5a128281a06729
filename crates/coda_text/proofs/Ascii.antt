-- Bytes that are printed as they are, as text.
use Rattle.std.proofs.Common.{◌≡◌, ℕ, ◌<◌, true, List, [], ◌∷◌, length, arith}
use Rattle.std.specs.Prelude.{nat_le}
use Rattle.std.specs.List.{list_all}
use Rattle.std.specs.Str.{IsAscii, IsUtf8}
use Rattle.std.proofs.lemmas.Str.{IsUtf8-from_ascii}
use Rattle.std.proofs.lemmas.Str.Ascii.{IsAscii-nil, IsAscii-cons}
use Rattle.std.proofs.lemmas.Bool.Decides.{nat_tests}
use Rattle.coda_text.specs.Texts.{is_open_byte, is_open}
use Rattle.coda_text.proofs.OneWord.{and_left, and_right}

-- an open byte is ASCII
open_ascii : (b : ℕ) → is_open_byte b ≡ true → b < 128
open_ascii b h = grind (arith, nat_tests)

plain_ascii : (bytes : List ℕ) → list_all is_open_byte bytes ≡ true → IsAscii bytes
plain_ascii [] h = IsAscii-nil
plain_ascii (b ∷ bytes) h = IsAscii-cons b bytes (open_ascii b (and_left (is_open_byte b) (list_all is_open_byte bytes) h)) (plain_ascii bytes (and_right (is_open_byte b) (list_all is_open_byte bytes) h))

-- plain bytes are text
pub plain_utf8 : (bytes : List ℕ) → is_open bytes ≡ true → IsUtf8 bytes
plain_utf8 bytes h = IsUtf8-from_ascii bytes (plain_ascii bytes (and_right (nat_le 1 (length bytes)) (list_all is_open_byte bytes) h))
