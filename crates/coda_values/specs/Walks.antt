-- Every way through a form, and the way of one value.
use Rattle.std.specs.Prelude.{◌≡◌, ℕ, Bool, true, false, List, [], length, IsTrue, Err}
use Rattle.coda_values.specs.Form.{Piece, empty, both, limited, number_piece, one, Form, gives, unknown, number, raw, tagged, such, part, Format}
use Rattle.coda_values.specs.Reading.{read}

-- whatever the form says, in whatever bytes, has the property
abbrev pub Always : {A : Type 0} → Form A → (Piece → A → Type 0) → Type 0
Always (gives x) P = P empty x
Always unknown P = Unit {0}
Always (number size) P = (n : ℕ) → IsTrue (number_piece size n).fits → P (number_piece size n) n
Always (raw n) P = (bytes : List ℕ) → length bytes ≡ n → P (record { bytes = bytes; fits = true }) bytes
Always (tagged table) P = (tag : ℕ) → Always (table tag) (λ p x. P (both (number_piece one tag) p) x)
Always (such test form) P = Always form (λ p x. IsTrue (test x) → P (limited (test x) p) x)
Always (part {B = B} form piece next) P = Always form (λ p x. p ≡ piece x) × ((x : B) → IsTrue (piece x).fits → Always (next x) (λ p y. P (both (piece x) p) y))

-- the form says the value, written so
abbrev pub Says : {A : Type 0} → Form A → Piece → A → Type 0
Says (gives x) p y = (p ≡ empty) × (x ≡ y)
Says unknown p y = ⊥
Says (number size) p n = p ≡ number_piece size n
Says (raw n) p bytes = (p ≡ record { bytes = bytes; fits = true }) × (length bytes ≡ n)
Says (tagged table) p y = (tag : ℕ) × (q : Piece) × (p ≡ both (number_piece one tag) q) × Says (table tag) q y
Says (such test form) p y = (q : Piece) × (p ≡ limited (test y) q) × Says form q y
Says (part {B = B} form piece next) p y = (x : B) × (q : Piece) × (p ≡ both (piece x) q) × (IsTrue (piece x).fits → Says form (piece x) x) × Says (next x) q y

-- a fault is placed where its field begins: what is tested takes a byte at least, and nothing is unknown but right behind
-- a tag
abbrev pub IsPlaced : {A : Type 0} → Bool → Form A → Type 0
IsPlaced behind (gives x) = Unit {0}
IsPlaced behind unknown = IsTrue behind
IsPlaced behind (number size) = Unit {0}
IsPlaced behind (raw n) = Unit {0}
IsPlaced behind (tagged table) = (tag : ℕ) → IsPlaced true (table tag)
IsPlaced behind (such test form) = IsPlaced false form × (read form [] ≡ Err 0)
IsPlaced behind (part {B = B} form piece next) = IsPlaced false form × ((x : B) → IsPlaced false (next x))

-- a format whose two sides agree: what the form says is written so, each value within its limits is said, and faults are
-- placed where their fields begin
pub record Agrees {A : Type 0} (f : Format A) : Type 0 where
  pub written : Always f.form (λ p x. p ≡ f.piece x)
  pub said : (x : A) → IsTrue (f.piece x).fits → Says f.form (f.piece x) x
  pub placed : IsPlaced false f.form
