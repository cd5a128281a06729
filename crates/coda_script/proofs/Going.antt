-- Forms of which each place can be completed to a line, and what may stand at each.
use Rattle.std.proofs.Common.{◌≡◌, ℕ, ◌+◌, ◌≤◌, Bool, true, false, leb, ◌⊎◌, inl, inr, List, [], ◌∷◌, ◌++◌, Option, Some, None, refl, ap, ◌∙◌, arith}
use Rattle.std.specs.Prelude.{codes, ◌&&◌, ◌||◌, not, nat_le}
use Rattle.std.proofs.lemmas.Bool.{leb-true, le-leb, cases_lt}
use Rattle.coda_engine.specs.declared.status.Kind.{Kind}
use Rattle.coda_engine.specs.declared.status.Kind.TheVariants.{Word, Number, Text, Path, Count, Mode, Actors}
use Rattle.coda_text.specs.Numbers.{number_of, begins_with_digit}
use Rattle.coda_text.specs.Texts.{is_quoted}
use Rattle.coda_script.specs.declared.line.Line.{Line}
use Rattle.coda_script.specs.declared.line.Rights.{Rights}
use Rattle.coda_script.specs.Slots.{NumberSlot, between, octal, TextSlot, any, sized, within, number_in, path_in, name_in, rights_in, text_in, has_room, no_rights}
use Rattle.coda_script.specs.Form.{Form, ends, nothing, either, a_number, a_path, a_name, some_rights, a_text, perhaps, servers_above}
use Rattle.coda_script.specs.Spelling.{SpellServers, Spells}
use Rattle.coda_script.specs.FirstColumn.{is_lettered}
use Rattle.coda_script.proofs.Avoiding.{avoids, and_left, and_right}
use Rattle.coda_script.proofs.InRanges.{if_some, and_then, within_is, path_is}
use Rattle.coda_script.proofs.Possible.{Holds, HasRoom, Has, IsClear, spelled}

-- ---- what can be completed

-- the words that are a line of the form
abbrev pub Whole : Form → List (List ℕ) → Type 0
Whole f ws = (line : Line) × Spells f ws line

-- the least number of a slot
abbrev pub least : NumberSlot → ℕ
least (between low high) = low
least octal = 0

abbrev pub holds_one : NumberSlot → Bool
holds_one (between low high) = nat_le low high && nat_le low 18446744073709551615
holds_one octal = true

-- the form has a line, as its least values show
abbrev pub lives : Form → Bool
lives (ends kind said) = true
lives nothing = false
lives (either word so other) = lives so
lives (a_number slot next) = holds_one slot && lives (next (least slot))
lives (a_path next) = lives (next [])
lives (a_name next) = lives (next (codes "a"))
lives (some_rights next) = lives (next no_rights)
lives (a_text slot next) = has_room slot 2 && lives (next (codes "a/"))
lives (perhaps word slot next) = lives (next None)
lives (servers_above all last next) = lives (next [])

pub least_held : (slot : NumberSlot) → holds_one slot ≡ true → Holds slot (least slot)
least_held (between low high) e =
    let small : low ≤ 18446744073709551615 = leb-true low 18446744073709551615 (and_right (leb low high) (leb low 18446744073709551615) e) in
    let fits : low ≤ high = leb-true low high (and_left (leb low high) (leb low 18446744073709551615) e) in
    ((omega arith, fits), omega (arith, small))
least_held octal e = omega arith

room_of : (slot : TextSlot) → has_room slot 2 ≡ true → HasRoom slot 2
room_of any e = tt
room_of (sized low high) e = (leb-true low 2 (and_left (leb low 2) (leb 2 high) e), leb-true 2 high (and_right (leb low 2) (leb 2 high) e))

has_one : (f : Form) → lives f ≡ true → (line : Line) × Has f line
has_one (ends kind said) e = (said, refl)
has_one nothing e = absurd cc
has_one (either word so other) e = let h = has_one so e in (h.0, inl h.1)
has_one (a_number slot next) e =
    let h = has_one (next (least slot)) (and_right (holds_one slot) (lives (next (least slot))) e) in
    (h.0, (least slot, least_held slot (and_left (holds_one slot) (lives (next (least slot))) e), h.1))
has_one (a_path next) e = let h = has_one (next []) e in (h.0, ([], path_is (codes "/") [] refl, (omega arith, tt), h.1))
has_one (a_name next) e = let h = has_one (next (codes "a")) e in (h.0, (codes "a", refl, (omega arith, tt), h.1))
has_one (some_rights next) e = let h = has_one (next no_rights) e in (h.0, (no_rights, h.1))
has_one (a_text slot next) e =
    let h = has_one (next (codes "a/")) (and_right (has_room slot 2) (lives (next (codes "a/"))) e) in
    (h.0, (codes "a/", room_of slot (and_left (has_room slot 2) (lives (next (codes "a/"))) e), (omega arith, (omega arith, tt)), h.1))
has_one (perhaps word slot next) e = let h = has_one (next None) e in (h.0, (None, tt, h.1))
has_one (servers_above all last next) e = let h = has_one (next []) e in (h.0, ([], tt, h.1))

-- a form that lives has a line
pub alive : (f : Form) → IsClear f → lives f ≡ true → (ws : List (List ℕ)) × Whole f ws
alive f clear e =
    let h = has_one f e in
    let s = spelled f h.0 clear h.1 in
    (s.0, (h.0, s.2))

-- ---- what is told at the head of a form

abbrev is_count : Kind → Bool
is_count Word = false
is_count Number = false
is_count Text = false
is_count Path = false
is_count Count = true
is_count Mode = false
is_count Actors = false

-- a word is one too many or stands where a part might
abbrev pub is_behind : Kind → Bool
is_behind Word = true
is_behind Number = false
is_behind Text = false
is_behind Path = false
is_behind Count = true
is_behind Mode = false
is_behind Actors = false

-- the line ends there, and a word there is one too many
abbrev pub counts : Form → Bool
counts (ends kind said) = is_count kind
counts nothing = false
counts (either word so other) = false
counts (a_number slot next) = false
counts (a_path next) = false
counts (a_name next) = false
counts (some_rights next) = false
counts (a_text slot next) = false
counts (perhaps word slot next) = false
counts (servers_above all last next) = false

-- where a word is told as no fixed word, one could stand there
abbrev pub settled : Form → Bool
settled (ends kind said) = is_count kind
settled nothing = false
settled (either word so other) = true
settled (a_number slot next) = true
settled (a_path next) = true
settled (a_name next) = true
settled (some_rights next) = true
settled (a_text slot next) = true
settled (perhaps word slot next) = true
settled (servers_above all last next) = settled (next [])

-- where a word is told as no number, one could stand there
abbrev pub full : Form → Bool
full (ends kind said) = true
full nothing = true
full (either word so other) = true
full (a_number slot next) = holds_one slot && lives (next (least slot))
full (a_path next) = true
full (a_name next) = true
full (some_rights next) = true
full (a_text slot next) = true
full (perhaps word slot next) = true
full (servers_above all last next) = nat_le (last + 1) 8 && lives (next ((last + 1) ∷ []))

-- a number or servers stand there
abbrev pub tells_number : Form → Bool
tells_number (ends kind said) = false
tells_number nothing = false
tells_number (either word so other) = false
tells_number (a_number slot next) = true
tells_number (a_path next) = false
tells_number (a_name next) = false
tells_number (some_rights next) = false
tells_number (a_text slot next) = false
tells_number (perhaps word slot next) = false
tells_number (servers_above all last next) = true

-- no word that is quoted stands there, nor one that begins with a digit
abbrev pub wordy : Form → Bool
wordy f = avoids is_quoted f && avoids begins_with_digit f

-- ---- what holds of each place of a form

-- behind a word
abbrev pub Sure : Form → Type 0
Sure f = (lives f ≡ true) × (settled f ≡ true) × (full f ≡ true)

-- behind a word that may be the last server's
abbrev pub Good : (X Z : List (List ℕ) → Type 0) → List ℕ → Form → Type 0
Good X Z w f = ((lives f ≡ true) ⊎ X (w ∷ [])) × (settled f ≡ true) × ((full f ≡ true) ⊎ Z (w ∷ [])) × (Z (w ∷ []) → tells_number f ≡ true)

-- the words up to each place begin a line of the form, but for those excepted; and a number may stand where one is wanted,
-- but behind those that are excepted
abbrev pub Goes : (X Z : List (List ℕ) → Type 0) → Form → Type 0
Goes X Z (ends kind said) = (is_behind kind ≡ true) × ((w : List ℕ) → X (w ∷ []) → ⊥)
Goes X Z nothing = (w : List ℕ) → X (w ∷ []) → ⊥
Goes X Z (either word so other) =
    (is_lettered word ≡ true) × Sure so × (Z (word ∷ []) → ⊥) × (tells_number other ≡ false) × (counts other ≡ false) × (wordy (either word so other) ≡ true)
    × Goes (λ ws. X (word ∷ ws)) (λ ws. Z (word ∷ ws)) so × Goes X Z other
Goes X Z (a_number slot next) =
    ((w : List ℕ) → number_in slot w ≡ None → X (w ∷ []) → ⊥)
    × ((w : List ℕ) (n : ℕ) → number_in slot w ≡ Some n → Good X Z w (next n) × Goes (λ ws. X (w ∷ ws)) (λ ws. Z (w ∷ ws)) (next n))
Goes X Z (a_path next) =
    ((w : List ℕ) → X (w ∷ []) → ⊥)
    × ((w : List ℕ) (p : List (List ℕ)) → path_in w ≡ Some p → Sure (next p) × (Z (w ∷ []) → ⊥) × Goes (λ ws. X (w ∷ ws)) (λ ws. Z (w ∷ ws)) (next p))
Goes X Z (a_name next) =
    ((w : List ℕ) → X (w ∷ []) → ⊥)
    × ((w n : List ℕ) → name_in w ≡ Some n → Sure (next n) × (Z (w ∷ []) → ⊥) × Goes (λ ws. X (w ∷ ws)) (λ ws. Z (w ∷ ws)) (next n))
Goes X Z (some_rights next) =
    ((w : List ℕ) → X (w ∷ []) → ⊥)
    × ((w : List ℕ) (r : Rights) → rights_in w ≡ Some r → Sure (next r) × (Z (w ∷ []) → ⊥) × Goes (λ ws. X (w ∷ ws)) (λ ws. Z (w ∷ ws)) (next r))
Goes X Z (a_text slot next) =
    (has_room slot 2 ≡ true) × ((w : List ℕ) → X (w ∷ []) → ⊥)
    × ((w t : List ℕ) → text_in slot w ≡ Some t → Sure (next t) × (Z (w ∷ []) → ⊥) × Goes (λ ws. X (w ∷ ws)) (λ ws. Z (w ∷ ws)) (next t))
Goes X Z (perhaps word slot next) =
    (is_lettered word ≡ true) × (holds_one slot ≡ true) × (Z (word ∷ []) → ⊥) × (tells_number (next None) ≡ false) × (counts (next None) ≡ false)
    × (wordy (perhaps word slot next) ≡ true) × ((w : List ℕ) → X (word ∷ w ∷ []) → ⊥)
    × ((w : List ℕ) (n : ℕ) → number_in slot w ≡ Some n → Sure (next (Some n)) × (Z (word ∷ w ∷ []) → ⊥) × Goes (λ ws. X (word ∷ w ∷ ws)) (λ ws. Z (word ∷ w ∷ ws)) (next (Some n)))
    × Goes X Z (next None)
Goes X Z (servers_above all last next) =
    (ws : List (List ℕ)) (ss : List ℕ) → SpellServers all last ws ss
    → Sure (next ss) × (tells_number (next ss) ≡ false) × ((all || not (counts (next ss))) ≡ true) × (wordy (next ss) ≡ true)
    × ((w : List ℕ) → number_of w ≡ Some 8 → Z (ws ++ w ∷ [])) × ((w : List ℕ) → X (ws ++ w ∷ []) → ⊥)
    × Goes (λ more. X (ws ++ more)) (λ more. Z (ws ++ more)) (next ss)

-- ---- servers

at_most : (s : ℕ) → s ≤ 8 → (nat_le (s + 1) 8 ≡ true) ⊎ (s ≡ 8)
at_most s le = elim (cases_lt s 8) [
  | inl lt ↦ inl (le-leb (s + 1) 8 (omega (arith, lt)))
  | inr ge ↦ inr (omega (arith, ge, le))
]

within_same : (low m s : ℕ) → within low 8 m ≡ Some s → m ≡ s
within_same low m s e = (if_some (leb low m && leb m 8) m s e).1

-- a server has another above it, or is the last
pub server_is : (low s : ℕ) (w : List ℕ) → number_in (between low 8) w ≡ Some s → (nat_le (s + 1) 8 ≡ true) ⊎ (number_of w ≡ Some 8)
server_is low s w e =
    let o = and_then (number_of w) (within low 8) s e in
    elim (at_most s (within_is low 8 o.0 s o.2).1) [
      | inl less ↦ inl less
      | inr last ↦ inr (o.1 ∙ ap (λ (n : ℕ). let r : Option ℕ = Some n in r) (within_same low o.0 s o.2 ∙ last))
    ]
