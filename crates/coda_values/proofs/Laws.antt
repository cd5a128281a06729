-- The laws of every form: what is read was written so, and what is written is read again.
use Rattle.std.proofs.Common.{◌≡◌, ℕ, suc, ◌+◌, ◌<◌, ◌≤◌, Bool, true, false, cond, ◌&&◌, ltb, eqb, List, [], ◌∷◌, ◌++◌, length, take, drop, Result, Ok, Err, refl, sym, ap, subst, ◌∙◌, append_assoc, arith, inl, inr}
use Rattle.std.specs.Prelude.{IsTrue, nat_lt}
use Rattle.std.specs.Int.{w8, byte_len, from_be_bytes, to_be_bytes}
use Rattle.std.proofs.lemmas.Bool.{eqb-true, cases_lt, ltb-false, le-ltb, lt-ltb, ltb-true}
use Rattle.std.proofs.lemmas.List.{take_at, drop_at, take-append-drop, append-nil, nil_from_length, length-append, length-take, length-drop, get_or-drop, get_or-take, get_or_past}
use Rattle.std.proofs.lemmas.Nat.{be_bytes_2, be_bytes_4, be_bytes_8, from_be_bytes-to_be_bytes_2, from_be_bytes-to_be_bytes_4, from_be_bytes-to_be_bytes_8}
use Rattle.coda_values.specs.Form.{Piece, empty, both, limited, number_bytes, number_piece, limit_of, width_of, Size, one, two, four, eight, Form, gives, unknown, number, raw, tagged, such, part, Format}
use Rattle.coda_values.specs.Reading.{◌>>=◌, bytes_at, number_at, read}
use Rattle.coda_values.specs.Exact.{AreBytes}
use Rattle.coda_values.specs.Spelling.{HasSpelling, Spells, ended, placed, whole}
use Rattle.coda_values.specs.Walks.{Always, Says, Agrees}

-- what was read from the front of some bytes
pub record Taken {A : Type 0} (P : Piece → A → Type 0) (bytes : List ℕ) (x : A) (rest : List ℕ) : Type 0 where
  pub piece : Piece
  pub parts : bytes ≡ piece.bytes ++ rest
  pub fits : IsTrue piece.fits
  pub holds : P piece x
  pub rest_fits : AreBytes rest

AreBytes-drop : (n : ℕ) (bytes : List ℕ) → AreBytes bytes → AreBytes (drop n bytes)
AreBytes-drop n bytes h i = rw get_or-drop (h (n + i))

AreBytes-take : (n : ℕ) (bytes : List ℕ) → AreBytes bytes → AreBytes (take n bytes)
AreBytes-take n bytes h i =
    elim (cases_lt i n) [
      | inl lt ↦ rw (get_or-take n bytes i 0 lt) (h i)
      | inr le ↦ rw (get_or_past (take n bytes) i 0 (omega (arith, length-take n bytes))) (omega arith)
    ]

-- the value of a step that did not fail
pub bind_ok : {A B : Type 0} (r : Result A ℕ) (f : A → Result B ℕ) (y : B) → (r >>= f) ≡ Ok y → (x : A) × (r ≡ Ok x) × (f x ≡ Ok y)
bind_ok (Ok x) f y e = (x, refl, e)
bind_ok (Err d) f y e = absurd cc

-- a test that did not fail
pub guard_ok : {A : Type 0} (b : Bool) (d : ℕ) (x y : A) → cond b (Err d) (Ok x) ≡ Ok y → (b ≡ false) × (x ≡ y)
guard_ok true d x y e = absurd cc
guard_ok false d x y e = (refl, cc)

-- a test that was wanted
pub wanted_ok : {A : Type 0} (b : Bool) (d : ℕ) (x y : A) → cond b (Ok x) (Err d) ≡ Ok y → (b ≡ true) × (x ≡ y)
wanted_ok true d x y e = (refl, cc)
wanted_ok false d x y e = absurd cc

abbrev pub done : {A : Type 0} → A → Result A ℕ
done x = Ok x

pub ok_is : {A : Type 0} (x y : A) → done x ≡ done y → x ≡ y
ok_is x y e = cc

both_true : (a b : Bool) → a ≡ true → b ≡ true → (a && b) ≡ true
both_true a b e f = rw (e, f) refl

first_true : (a b : Bool) → (a && b) ≡ true → a ≡ true
first_true true b e = refl
first_true false b e = e

second_true : (a b : Bool) → (a && b) ≡ true → b ≡ true
second_true true b e = e
second_true false b e = absurd cc

-- ---- bytes and numbers

bytes_taken : (n : ℕ) (bytes x rest : List ℕ) → AreBytes bytes → bytes_at n bytes ≡ Ok (x, rest) → (bytes ≡ x ++ rest) × (length x ≡ n) × AreBytes x × AreBytes rest
bytes_taken n bytes x rest fits e =
    let g = guard_ok (ltb (length bytes) n) 0 (take n bytes, drop n bytes) (x, rest) e in
    let long : n ≤ length bytes = ltb-false _ _ g.0 in
    subst (λ (q : List ℕ × List ℕ). (bytes ≡ q.0 ++ q.1) × (length q.0 ≡ n) × AreBytes q.0 × AreBytes q.1) g.1
    (sym (take-append-drop n bytes), omega (arith, length-take n bytes), AreBytes-take n bytes fits, AreBytes-drop n bytes fits)

pub bytes_again : (x rest : List ℕ) → bytes_at (length x) (x ++ rest) ≡ Ok (x, rest)
bytes_again x rest =
    let long : ltb (length (x ++ rest)) (length x) ≡ false = le-ltb _ _ (omega (arith, length-append x rest)) in
    rw (long, take_at x rest (length x) refl, drop_at x rest (length x) refl) refl

-- what holds of the numbers of each size
record IsSized (size : Size) : Type 0 where
  len : (n : ℕ) → length (to_be_bytes (width_of size) n) ≡ byte_len (width_of size)
  back : (bytes : List ℕ) → length bytes ≡ byte_len (width_of size) → AreBytes bytes → to_be_bytes (width_of size) (from_be_bytes (width_of size) bytes) ≡ bytes
  again : (n : ℕ) → n < limit_of size → from_be_bytes (width_of size) (to_be_bytes (width_of size) n) ≡ n
  below : (bytes : List ℕ) → AreBytes bytes → from_be_bytes (width_of size) bytes < limit_of size

one_byte : (bytes : List ℕ) → length bytes ≡ 1 → AreBytes bytes → to_be_bytes w8 (from_be_bytes w8 bytes) ≡ bytes
one_byte [] len fits = absurd cc
one_byte (b ∷ []) len fits = ap (λ (c : ℕ). c ∷ []) (omega (arith, fits 0))
one_byte (b ∷ c ∷ bytes) len fits = absurd (omega (arith, len))

sized : (size : Size) → IsSized size
sized one = record { len = λ n. refl; back = one_byte; again = λ n lt. omega (arith, lt); below = λ bytes fits. omega (arith, fits 0) }
sized two = record { len = λ n. refl; back = λ bytes len fits. be_bytes_2 bytes _ len fits refl; again = λ n lt. from_be_bytes-to_be_bytes_2 n lt; below = λ bytes fits. omega (arith, fits 0, fits 1) }
sized four = record { len = λ n. refl; back = λ bytes len fits. be_bytes_4 bytes _ len fits refl; again = λ n lt. from_be_bytes-to_be_bytes_4 n lt; below = λ bytes fits. omega (arith, fits 0, fits 1, fits 2, fits 3) }
sized eight = record { len = λ n. refl; back = λ bytes len fits. be_bytes_8 bytes _ len fits refl; again = λ n lt. from_be_bytes-to_be_bytes_8 n lt; below = λ bytes fits. omega (arith, fits 0, fits 1, fits 2, fits 3, fits 4, fits 5, fits 6, fits 7) }

number_taken : (size : Size) (bytes : List ℕ) (n : ℕ) (rest : List ℕ) → AreBytes bytes → number_at size bytes ≡ Ok (n, rest) → (bytes ≡ number_bytes size n ++ rest) × IsTrue (nat_lt n (limit_of size)) × AreBytes rest
unfolding number_at number_bytes
number_taken size bytes n rest fits e =
    let a = bind_ok (bytes_at (byte_len (width_of size)) bytes) (λ x. Ok (from_be_bytes (width_of size) x.0, x.1)) (n, rest) e in
    let t = bytes_taken (byte_len (width_of size)) bytes a.0.0 a.0.1 fits a.1 in
    let holds = sized size in
    subst (λ (q : ℕ × List ℕ). (bytes ≡ number_bytes size q.0 ++ q.1) × IsTrue (nat_lt q.0 (limit_of size)) × AreBytes q.1) (ok_is (from_be_bytes (width_of size) a.0.0, a.0.1) (n, rest) a.2)
    (rw (holds.back a.0.0 t.1 t.2) t.0, lt-ltb _ _ (holds.below a.0.0 t.2), t.3)

number_again : (size : Size) (n : ℕ) (rest : List ℕ) → IsTrue (nat_lt n (limit_of size)) → number_at size (number_bytes size n ++ rest) ≡ Ok (n, rest)
unfolding number_at number_bytes
number_again size n rest lt =
    let holds = sized size in
    let taken : bytes_at (byte_len (width_of size)) (number_bytes size n ++ rest) ≡ Ok (to_be_bytes (width_of size) n, rest) = subst (λ (k : ℕ). bytes_at k (number_bytes size n ++ rest) ≡ Ok (to_be_bytes (width_of size) n, rest)) (holds.len n) (bytes_again (to_be_bytes (width_of size) n) rest) in
    rw (taken, holds.again n (ltb-true _ _ lt)) refl

-- ---- both ways

-- what was taken before and what is taken then
taken_behind : {A : Type 0} (P : Piece → A → Type 0) (first : Piece) (bytes between : List ℕ) (x : A) (rest : List ℕ) → bytes ≡ first.bytes ++ between → IsTrue first.fits → Taken (λ p y. P (both first p) y) between x rest → Taken P bytes x rest
taken_behind P first bytes between x rest e fits t =
    record { piece = both first t.piece; parts = e ∙ ap (λ (r : List ℕ). first.bytes ++ r) t.parts ∙ sym (append_assoc first.bytes t.piece.bytes rest); fits = both_true _ _ fits t.fits; holds = t.holds; rest_fits = t.rest_fits }

pub sound : {A : Type 0} (form : Form A) (P : Piece → A → Type 0) → Always form P → (bytes : List ℕ) (x : A) (rest : List ℕ) → AreBytes bytes → read form bytes ≡ Ok (x, rest) → Taken P bytes x rest
sound (gives y) P always bytes x rest fits e = subst (λ q. Taken P bytes q.0 q.1) (ok_is (y, bytes) (x, rest) e) (record { piece = empty; parts = refl; fits = refl; holds = always; rest_fits = fits })
sound unknown P always bytes x rest fits e = absurd cc
sound (number size) P always bytes x rest fits e =
    let t = number_taken size bytes x rest fits e in
    record { piece = number_piece size x; parts = t.0; fits = t.1; holds = always x t.1; rest_fits = t.2 }
sound (raw n) P always bytes x rest fits e =
    let t = bytes_taken n bytes x rest fits e in
    record { piece = record { bytes = x; fits = true }; parts = t.0; fits = refl; holds = always x t.1; rest_fits = t.3 }
sound (tagged table) P always bytes x rest fits e =
    let a = bind_ok (number_at one bytes) (λ t. read (table t.0) t.1) (x, rest) e in
    let t = number_taken one bytes a.0.0 a.0.1 fits a.1 in
    taken_behind P (number_piece one a.0.0) bytes a.0.1 x rest t.0 t.1 (sound (table a.0.0) (λ p y. P (both (number_piece one a.0.0) p) y) (always a.0.0) a.0.1 x rest t.2 a.2)
sound (such test form) P always bytes x rest fits e =
    let a = bind_ok (read form bytes) (λ y. cond (test y.0) (Ok y) (Err (length bytes))) (x, rest) e in
    let g = wanted_ok (test a.0.0) (length bytes) a.0 (x, rest) a.2 in
    let t = sound form (λ p y. IsTrue (test y) → P (limited (test y) p) y) always bytes a.0.0 a.0.1 fits a.1 in
    subst (λ q. Taken P bytes q.0 q.1) g.1 (record { piece = limited (test a.0.0) t.piece; parts = t.parts; fits = both_true _ _ t.fits g.0; holds = t.holds g.0; rest_fits = t.rest_fits })
sound (part form piece next) P always bytes x rest fits e =
    let a = bind_ok (read form bytes) (λ y. read (next y.0) y.1) (x, rest) e in
    let t = sound form (λ p y. p ≡ piece y) always.0 bytes a.0.0 a.0.1 fits a.1 in
    let first : IsTrue (piece a.0.0).fits = subst (λ (p : Piece). IsTrue p.fits) t.holds t.fits in
    taken_behind P (piece a.0.0) bytes a.0.1 x rest (t.parts ∙ ap (λ (p : Piece). p.bytes ++ a.0.1) t.holds) first (sound (next a.0.0) (λ p y. P (both (piece a.0.0) p) y) (always.1 a.0.0 first) a.0.1 x rest t.rest_fits a.2)

pub again : {A : Type 0} (form : Form A) (p : Piece) (x : A) (rest : List ℕ) → Says form p x → IsTrue p.fits → read form (p.bytes ++ rest) ≡ Ok (x, rest)
again (gives y) p x rest says fits = ap (λ (q : Piece). done (y, q.bytes ++ rest)) says.0 ∙ ap (λ z. done (z, rest)) says.1
again unknown p x rest says fits = absurd says
again (number size) p x rest says fits = ap (λ (q : Piece). number_at size (q.bytes ++ rest)) says ∙ number_again size x rest (subst (λ (q : Piece). IsTrue q.fits) says fits)
again (raw n) p x rest says fits = ap (λ (q : Piece). bytes_at n (q.bytes ++ rest)) says.0 ∙ subst (λ (k : ℕ). bytes_at k (x ++ rest) ≡ Ok (x, rest)) says.1 (bytes_again x rest)
again (tagged table) p x rest says fits =
    let tag = says.0 in
    let q = says.1 in
    let good : (nat_lt tag 256 && q.fits) ≡ true = subst (λ (r : Piece). IsTrue r.fits) says.2 fits in
    let behind : read (table tag) (q.bytes ++ rest) ≡ Ok (x, rest) = again (table tag) q x rest says.3 (second_true _ _ good) in
    ap (λ (r : Piece). read (tagged table) (r.bytes ++ rest)) says.2 ∙ rw (append_assoc (number_bytes one tag) q.bytes rest, number_again one tag (q.bytes ++ rest) (first_true _ _ good)) behind
again (such test form) p x rest says fits =
    let q = says.0 in
    let good : (q.fits && test x) ≡ true = subst (λ (r : Piece). IsTrue r.fits) says.1 fits in
    let holds : test x ≡ true = second_true _ _ good in
    ap (λ (r : Piece). read (such test form) (r.bytes ++ rest)) says.1 ∙ rw (again form q x rest says.2 (first_true _ _ good), holds) refl
again (part form piece next) p x rest says fits =
    let y = says.0 in
    let q = says.1 in
    let good : ((piece y).fits && q.fits) ≡ true = subst (λ (r : Piece). IsTrue r.fits) says.2 fits in
    let first = first_true _ _ good in
    ap (λ (r : Piece). read (part form piece next) (r.bytes ++ rest)) says.2 ∙ rw (append_assoc (piece y).bytes q.bytes rest, again form (piece y) y (q.bytes ++ rest) (says.3 first) first) (again (next y) q x rest says.4 (second_true _ _ good))

-- ---- the bytes as a whole

-- what is read from the front of some bytes is spelled there
pub read_is_spelled : {A : Type 0} (f : Format A) → Agrees f → (bytes : List ℕ) (x : A) (rest : List ℕ) → AreBytes bytes → read f.form bytes ≡ Ok (x, rest) → (bytes ≡ (f.piece x).bytes ++ rest) × HasSpelling f x
read_is_spelled f agrees bytes x rest fits e =
    let t = sound f.form (λ p y. p ≡ f.piece y) agrees.written bytes x rest fits e in
    (t.parts ∙ ap (λ (p : Piece). p.bytes ++ rest) t.holds, subst (λ (p : Piece). IsTrue p.fits) t.holds t.fits)

-- what is spelled at the front of some bytes is read
pub spelled_is_read : {A : Type 0} (f : Format A) → Agrees f → (x : A) (rest : List ℕ) → HasSpelling f x → read f.form ((f.piece x).bytes ++ rest) ≡ Ok (x, rest)
spelled_is_read f agrees x rest has = again f.form (f.piece x) x rest (agrees.said x has) has

placed_ok : {A : Type 0} (n : ℕ) (r : Result A ℕ) (x : A) → placed n r ≡ Ok x → r ≡ Ok x
placed_ok n (Ok y) x e = e
placed_ok n (Err d) x e = absurd cc

ended_ok : {A : Type 0} (y : A) (rest : List ℕ) (x : A) → ended y rest ≡ Ok x → (rest ≡ []) × (y ≡ x)
ended_ok y rest x e =
    let w = wanted_ok (eqb (length rest) 0) (length rest) y x e in
    (nil_from_length rest (eqb-true _ _ w.0), w.1)

-- what the bytes as a whole say is spelled by them
pub whole_is_spelled : {A : Type 0} (f : Format A) → Agrees f → (bytes : List ℕ) (x : A) → AreBytes bytes → whole f bytes ≡ Ok x → Spells f bytes x
unfolding whole
whole_is_spelled f agrees bytes x fits e =
    let a = bind_ok (read f.form bytes) (λ y. ended y.0 y.1) x (placed_ok (length bytes) _ x e) in
    let z = ended_ok a.0.0 a.0.1 x a.2 in
    let s = read_is_spelled f agrees bytes a.0.0 a.0.1 fits a.1 in
    subst (λ y. Spells f bytes y) z.1 (s.0 ∙ ap (λ (r : List ℕ). (f.piece a.0.0).bytes ++ r) z.0 ∙ append-nil (f.piece a.0.0).bytes, s.1)

-- bytes that spell a value say it
pub spelled_is_whole : {A : Type 0} (f : Format A) → Agrees f → (bytes : List ℕ) (x : A) → Spells f bytes x → whole f bytes ≡ Ok x
unfolding whole
spelled_is_whole f agrees bytes x s =
    let front : read f.form bytes ≡ Ok (x, []) = subst (λ (b : List ℕ). read f.form b ≡ Ok (x, [])) (append-nil (f.piece x).bytes ∙ sym s.0) (spelled_is_read f agrees x [] s.1) in
    rw front refl

-- no spelling begins another one
pub one_spelling : {A : Type 0} (f : Format A) → Agrees f → (a b rest : List ℕ) (x y : A) → Spells f a x → Spells f b y → a ++ rest ≡ b → (x ≡ y) × (rest ≡ [])
one_spelling f agrees a b rest x y s t e =
    let first : read f.form b ≡ Ok (x, rest) = subst (λ (c : List ℕ). read f.form c ≡ Ok (x, rest)) (ap (λ (c : List ℕ). c ++ rest) (sym s.0) ∙ e) (spelled_is_read f agrees x rest s.1) in
    let second : read f.form b ≡ Ok (y, []) = subst (λ (c : List ℕ). read f.form c ≡ Ok (y, [])) (append-nil (f.piece y).bytes ∙ sym t.0) (spelled_is_read f agrees y [] t.1) in
    let q : (x, rest) ≡ (y, []) = ok_is (x, rest) (y, []) (sym first ∙ second) in
    (ap (λ (p : _ × List ℕ). p.0) q, ap (λ (p : _ × List ℕ). p.1) q)

-- ---- where tags stand

-- a tag is one byte
pub tag_length : (bytes : List ℕ) (tag : ℕ) (rest : List ℕ) → number_at one bytes ≡ Ok (tag, rest) → length bytes ≡ suc (length rest)
unfolding number_at
tag_length bytes tag rest e =
    let a = bind_ok (bytes_at 1 bytes) (λ x. Ok (from_be_bytes w8 x.0, x.1)) (tag, rest) e in
    let g = guard_ok (ltb (length bytes) 1) 0 (take 1 bytes, drop 1 bytes) a.0 a.1 in
    let long : 1 ≤ length bytes = ltb-false _ _ g.0 in
    let behind : drop 1 bytes ≡ rest = ap (λ (p : List ℕ × List ℕ). p.1) g.1 ∙ ap (λ (p : ℕ × List ℕ). p.1) (ok_is (from_be_bytes w8 a.0.0, a.0.1) (tag, rest) a.2) in
    rw (← behind) (omega (arith, long, length-drop 1 bytes))
