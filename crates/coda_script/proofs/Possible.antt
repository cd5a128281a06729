-- The lines of a form, with their values in the ranges of its slots; and how each is spelled.
use Rattle.std.proofs.Common.{◌≡◌, ℕ, ◌+◌, ◌^◌, ◌<◌, ◌≤◌, Bool, true, false, ◌⊎◌, inl, inr, List, [], ◌∷◌, ◌++◌, length, map, Option, Some, None, refl, ap, arith}
use Rattle.std.specs.Prelude.{IfSome}
use Rattle.std.specs.Fmt.{decimal}
use Rattle.std.proofs.lemmas.Bool.{le-leb}
use Rattle.coda_fid.specs.Name.{is_name}
use Rattle.coda_fid.specs.Path.{path_text, is_path, ArePathNames}
use Rattle.coda_fid.proofs.Paths.{names_in-path_text, test_from_path}
use Rattle.coda_text.specs.Texts.{printed, quoted, value_of}
use Rattle.coda_text.specs.Printed.{AreBytes}
use Rattle.coda_text.proofs.OneWord.{printed_word}
use Rattle.coda_text.proofs.Joining.{IsOneWord, AreWords, are_words, is_bare_word, bare_word, number_again, decimal_word, decimal_begins, octal_text, octal_again, octal_word, printed_one_word, quoted_one_word, quoted_again}
use Rattle.coda_script.specs.declared.line.Line.{Line}
use Rattle.coda_script.specs.declared.line.Rights.{Rights}
use Rattle.coda_script.specs.Slots.{NumberSlot, between, octal, TextSlot, any, sized, number_in, path_in, name_in, text_in, has_room, is_word, is_server}
use Rattle.coda_script.specs.Form.{Form, ends, nothing, either, a_number, a_path, a_name, some_rights, a_text, perhaps, servers_above}
use Rattle.coda_script.specs.Spelling.{SpellServers, Spells}
use Rattle.coda_script.specs.Ranges.{IsBetween, AreServersAbove}
use Rattle.coda_script.proofs.Avoiding.{avoids, avoided}
use Rattle.coda_script.proofs.Lettered.{rights_again}

-- ---- what the slots hold

-- a number that a slot holds
abbrev pub Holds : NumberSlot → ℕ → Type 0
Holds (between low high) n = IsBetween low high n × (n < 2 ^ 64)
Holds octal n = n ≤ 4095

-- a length that a text may have
abbrev pub HasRoom : TextSlot → ℕ → Type 0
HasRoom any n = Unit {0}
HasRoom (sized low high) n = IsBetween low high n

-- the lines of a form
abbrev pub Has : Form → Line → Type 0
Has (ends kind said) line = line ≡ said
Has nothing line = ⊥
Has (either word so other) line = Has so line ⊎ Has other line
Has (a_number slot next) line = (n : ℕ) × Holds slot n × Has (next n) line
Has (a_path next) line = (p : List (List ℕ)) × ArePathNames p × AreBytes (path_text p) × Has (next p) line
Has (a_name next) line = (n : List ℕ) × (is_name n ≡ true) × AreBytes n × Has (next n) line
Has (some_rights next) line = (r : Rights) × Has (next r) line
Has (a_text slot next) line = (t : List ℕ) × HasRoom slot (length t) × AreBytes t × Has (next t) line
Has (perhaps word slot next) line = (o : Option ℕ) × IfSome o (Holds slot) × Has (next o) line
Has (servers_above all last next) line = (ss : List ℕ) × AreServersAbove last ss × Has (next ss) line

-- the words of a form are words, and none may be taken for another
abbrev pub IsClear : Form → Type 0
IsClear (ends kind said) = Unit {0}
IsClear nothing = Unit {0}
IsClear (either word so other) = (is_bare_word word ≡ true) × (avoids (is_word word) other ≡ true) × IsClear so × IsClear other
IsClear (a_number slot next) = (n : ℕ) → IsClear (next n)
IsClear (a_path next) = (p : List (List ℕ)) → IsClear (next p)
IsClear (a_name next) = (n : List ℕ) → IsClear (next n)
IsClear (some_rights next) = (r : Rights) → IsClear (next r)
IsClear (a_text slot next) = (t : List ℕ) → IsClear (next t)
IsClear (perhaps word slot next) = (is_bare_word word ≡ true) × (avoids (is_word word) (next None) ≡ true) × ((o : Option ℕ) → IsClear (next o))
IsClear (servers_above all last next) = (ss : List ℕ) → (avoids (is_server all) (next ss) ≡ true) × IsClear (next ss)

-- ---- the spelling of one value

-- how a number is written in a slot
abbrev pub number_text : NumberSlot → ℕ → List ℕ
number_text (between low high) n = decimal n
number_text octal n = octal_text n

pub number_again_in : (slot : NumberSlot) (n : ℕ) → Holds slot n → number_in slot (number_text slot n) ≡ Some n
number_again_in (between low high) n h = rw (number_again n h.1, le-leb low n h.0.0, le-leb n high h.0.1) refl
number_again_in octal n h = octal_again n h

pub number_word_in : (slot : NumberSlot) (n : ℕ) → Holds slot n → IsOneWord (number_text slot n)
number_word_in (between low high) n h = decimal_word n h.1
number_word_in octal n h = octal_word n

path_again : (p : List (List ℕ)) → ArePathNames p → AreBytes (path_text p) → path_in (printed (path_text p)) ≡ Some p
path_again p names fits =
    let value : value_of (printed (path_text p)) ≡ path_text p = (printed_word (path_text p) fits).1 in
    let test : is_path (path_text p) ≡ true = test_from_path (path_text p) (p, (names, refl)) in
    rw (value, test) (ap (λ (q : List (List ℕ)). let o : Option (List (List ℕ)) = Some q in o) (names_in-path_text p names.names))

name_again : (n : List ℕ) → is_name n ≡ true → AreBytes n → name_in (printed n) ≡ Some n
name_again n good fits =
    let value : value_of (printed n) ≡ n = (printed_word n fits).1 in
    rw (value, good) refl

room : (slot : TextSlot) (n : ℕ) → HasRoom slot n → has_room slot n ≡ true
room any n h = refl
room (sized low high) n h = rw (le-leb low n h.0, le-leb n high h.1) refl

text_again : (slot : TextSlot) (t : List ℕ) → HasRoom slot (length t) → AreBytes t → text_in slot (quoted t) ≡ Some t
text_again slot t h fits = rw (quoted_again t fits, room slot (length t) h) refl

server_begins : (all : Bool) (s : ℕ) → s < 2 ^ 64 → is_server all (decimal s) ≡ true
server_begins true s lt = refl
server_begins false s lt = decimal_begins s lt

pub servers_spelled : (all : Bool) (last : ℕ) (ss : List ℕ) → AreServersAbove last ss → SpellServers all last (map decimal ss) ss × AreWords (map decimal ss)
servers_spelled all last [] h = (tt, tt)
servers_spelled all last (s ∷ ss) h =
    let lt : s < 2 ^ 64 = omega (arith, h.0.1) in
    let rest = servers_spelled all s ss h.1 in
    ((server_begins all s lt, number_again_in (between (last + 1) 8) s (h.0, lt), rest.0), (decimal_word s lt, rest.1))

-- ---- the spelling of a line

-- words that spell the line in the form
abbrev pub Spelled : Form → Line → Type 0
Spelled f line = (ws : List (List ℕ)) × AreWords ws × Spells f ws line

-- an optional word stands there, or none
option_spelled : (word : List ℕ) (slot : NumberSlot) (next : Option ℕ → Form) (line : Line) (o : Option ℕ) → IfSome o (Holds slot) → is_bare_word word ≡ true → avoids (is_word word) (next None) ≡ true
    → Spelled (next o) line → Spelled (perhaps word slot next) line
option_spelled word slot next line None h bare apart s = (s.0, s.1, inr (avoided (next None) (is_word word) s.0 line apart s.2, s.2))
option_spelled word slot next line (Some n) h bare apart s =
    (word ∷ number_text slot n ∷ s.0, (bare_word word bare, (number_word_in slot n h, s.1)), inl (number_text slot n, s.0, refl, n, number_again_in slot n h, s.2))

-- each line of a clear form has a spelling
pub spelled : (f : Form) (line : Line) → IsClear f → Has f line → Spelled f line
spelled (ends kind said) line clear h = ([], tt, (refl, h))
spelled nothing line clear h = absurd h
spelled (either word so other) line clear (inl h) =
    let s = spelled so line clear.2 h in
    (word ∷ s.0, (bare_word word clear.0, s.1), inl (s.0, refl, s.2))
spelled (either word so other) line clear (inr h) =
    let s = spelled other line clear.3 h in
    (s.0, s.1, inr (avoided other (is_word word) s.0 line clear.1 s.2, s.2))
spelled (a_number slot next) line clear h =
    let s = spelled (next h.0) line (clear h.0) h.2 in
    (number_text slot h.0 ∷ s.0, (number_word_in slot h.0 h.1, s.1), (number_text slot h.0, s.0, refl, h.0, number_again_in slot h.0 h.1, s.2))
spelled (a_path next) line clear h =
    let s = spelled (next h.0) line (clear h.0) h.3 in
    let w = printed (path_text h.0) in
    (w ∷ s.0, (printed_one_word (path_text h.0) h.2, s.1), (w, s.0, refl, h.0, path_again h.0 h.1 h.2, s.2))
spelled (a_name next) line clear h =
    let s = spelled (next h.0) line (clear h.0) h.3 in
    let w = printed h.0 in
    (w ∷ s.0, (printed_one_word h.0 h.2, s.1), (w, s.0, refl, h.0, name_again h.0 h.1 h.2, s.2))
spelled (some_rights next) line clear h =
    let s = spelled (next h.0) line (clear h.0) h.1 in
    let t = rights_again h.0 in
    (t.0 ∷ s.0, (bare_word t.0 t.1, s.1), (t.0, s.0, refl, h.0, t.2, s.2))
spelled (a_text slot next) line clear h =
    let s = spelled (next h.0) line (clear h.0) h.3 in
    let w = quoted h.0 in
    (w ∷ s.0, (quoted_one_word h.0 h.2, s.1), (w, s.0, refl, h.0, text_again slot h.0 h.1 h.2, s.2))
spelled (perhaps word slot next) line clear h = option_spelled word slot next line h.0 h.1 clear.0 clear.1 (spelled (next h.0) line (clear.2 h.0) h.2)
spelled (servers_above all last next) line clear h =
    let s = spelled (next h.0) line (clear h.0).1 h.2 in
    let mine = servers_spelled all last h.0 h.1 in
    (map decimal h.0 ++ s.0, are_words (map decimal h.0) s.0 mine.1 s.1, (map decimal h.0, s.0, refl, h.0, mine.0, avoided (next h.0) (is_server all) s.0 line (clear h.0).0 s.2, s.2))
