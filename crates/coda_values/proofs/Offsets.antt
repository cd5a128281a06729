-- A fault before the end stays where it is, whatever follows, and nothing before it breaks the format.
use Rattle.std.proofs.Common.{◌≡◌, ℕ, suc, ◌+◌, ◌-◌, ◌<◌, ◌≤◌, Bool, true, false, cond, ltb, eqb, List, [], ◌++◌, length, take, drop, Result, Ok, Err, refl, sym, ap, ◌∙◌, append_assoc, arith, ◌⊎◌, inl, inr, subst}
use Rattle.std.specs.Prelude.{IsTrue}
use Rattle.std.specs.Int.{byte_len, from_be_bytes}
use Rattle.std.proofs.Math.Seq.{take-length, take-append-add}
use Rattle.std.proofs.lemmas.Bool.{ltb-false, ne_eqb}
use Rattle.std.proofs.lemmas.List.{length-append, take-append-drop, length-take, take_at, append-nil}
use Rattle.coda_values.specs.Form.{Size, one, width_of, Form, gives, unknown, number, raw, tagged, such, part, Format}
use Rattle.coda_values.specs.Reading.{◌>>=◌, bytes_at, number_at, read}
use Rattle.coda_values.specs.Spelling.{ended, alone, placed, whole}
use Rattle.coda_values.specs.Exact.{IsExact}
use Rattle.coda_values.specs.Walks.{IsPlaced, Agrees}
use Rattle.coda_values.proofs.PartsAgree.{no_number}
use Rattle.coda_values.proofs.Laws.{bind_ok, guard_ok, wanted_ok, ok_is, done, bytes_again, tag_length, whole_is_spelled, spelled_is_whole, one_spelling}

abbrev failed : {A : Type 0} → ℕ → Result A ℕ
failed left = Err left

err_is : {A : Type 0} (c d : ℕ) → failed {A = A} c ≡ failed d → c ≡ d
err_is c d e = cc

-- a step that failed: the first failed, or the second did
bind_err : {A B : Type 0} (r : Result A ℕ) (f : A → Result B ℕ) (d : ℕ) → (r >>= f) ≡ Err d → (r ≡ Err d) ⊎ ((x : A) × (r ≡ Ok x) × (f x ≡ Err d))
bind_err (Ok x) f d e = inr (x, refl, e)
bind_err (Err c) f d e = inl (ap (λ (k : ℕ). Err k) (err_is c d e))

-- a test that failed
wanted_err : {A : Type 0} (b : Bool) (c d : ℕ) (x : A) → cond b (Ok x) (Err c) ≡ Err d → (b ≡ false) × (c ≡ d)
wanted_err true c d x e = absurd cc
wanted_err false c d x e = (refl, cc)

ok_no_err : {A : Type 0} (x : A) (d : ℕ) → done x ≡ Err d → ⊥
ok_no_err x d e = absurd cc

-- what was read from the front of some bytes, whatever stands behind it
pub record Front {A : Type 0} (form : Form A) (bytes : List ℕ) (x : A) (rest : List ℕ) : Type 0 where
  pub front : List ℕ
  pub parts : bytes ≡ front ++ rest
  pub reads : (more : List ℕ) → read form (front ++ more) ≡ Ok (x, more)

bytes_front : (n : ℕ) (bytes x rest : List ℕ) → bytes_at n bytes ≡ Ok (x, rest) → (bytes ≡ x ++ rest) × (length x ≡ n)
bytes_front n bytes x rest e =
    let g = guard_ok (ltb (length bytes) n) 0 (take n bytes, drop n bytes) (x, rest) e in
    let long : n ≤ length bytes = ltb-false _ _ g.0 in
    subst (λ (q : List ℕ × List ℕ). (bytes ≡ q.0 ++ q.1) × (length q.0 ≡ n)) g.1 (sym (take-append-drop n bytes), omega (arith, length-take n bytes))

bytes_behind : (n : ℕ) (x more : List ℕ) → length x ≡ n → bytes_at n (x ++ more) ≡ Ok (x, more)
bytes_behind n x more len = subst (λ (k : ℕ). bytes_at k (x ++ more) ≡ Ok (x, more)) len (bytes_again x more)

number_front : (size : Size) (bytes : List ℕ) (n : ℕ) (rest : List ℕ) → number_at size bytes ≡ Ok (n, rest) → Front (number size) bytes n rest
unfolding number_at
number_front size bytes n rest e =
    let a = bind_ok (bytes_at (byte_len (width_of size)) bytes) (λ x. Ok (from_be_bytes (width_of size) x.0, x.1)) (n, rest) e in
    let t = bytes_front (byte_len (width_of size)) bytes a.0.0 a.0.1 a.1 in
    subst (λ (q : ℕ × List ℕ). Front (number size) bytes q.0 q.1) (ok_is (from_be_bytes (width_of size) a.0.0, a.0.1) (n, rest) a.2)
    (record { front = a.0.0; parts = t.0; reads = λ more. rw (bytes_behind (byte_len (width_of size)) a.0.0 more t.1) refl })

-- one form behind another
front_behind : {A B : Type 0} (first : Form B) (second : Form A) (whole : Form A) (bytes : List ℕ) (y : B) (between : List ℕ) (x : A) (rest : List ℕ)
    → ((more : List ℕ) (after : List ℕ) → read first more ≡ Ok (y, after) → read whole more ≡ read second after)
    → Front first bytes y between → Front second between x rest → Front whole bytes x rest
front_behind first second whole bytes y between x rest goes f g = record {
  front = f.front ++ g.front;
  parts = f.parts ∙ ap (λ (b : List ℕ). f.front ++ b) g.parts ∙ sym (append_assoc f.front g.front rest);
  reads = λ more. rw (append_assoc f.front g.front more) (goes (f.front ++ (g.front ++ more)) (g.front ++ more) (f.reads (g.front ++ more)) ∙ g.reads more);
}

pub read_front : {A : Type 0} (form : Form A) (bytes : List ℕ) (x : A) (rest : List ℕ) → read form bytes ≡ Ok (x, rest) → Front form bytes x rest
read_front (gives y) bytes x rest e = subst (λ q. Front (gives y) bytes q.0 q.1) (ok_is (y, bytes) (x, rest) e) (record { front = []; parts = refl; reads = λ more. refl })
read_front unknown bytes x rest e = absurd cc
read_front (number size) bytes x rest e = number_front size bytes x rest e
read_front (raw n) bytes x rest e =
    let t = bytes_front n bytes x rest e in
    record { front = x; parts = t.0; reads = λ more. bytes_behind n x more t.1 }
read_front (tagged table) bytes x rest e =
    let a = bind_ok (number_at one bytes) (λ t. read (table t.0) t.1) (x, rest) e in
    front_behind (number one) (table a.0.0) (tagged table) bytes a.0.0 a.0.1 x rest (λ more after r. rw r refl) (number_front one bytes a.0.0 a.0.1 a.1) (read_front (table a.0.0) a.0.1 x rest a.2)
read_front (such test form) bytes x rest e =
    let a = bind_ok (read form bytes) (λ y. cond (test y.0) (Ok y) (Err (length bytes))) (x, rest) e in
    let g = wanted_ok (test a.0.0) (length bytes) a.0 (x, rest) a.2 in
    let holds : test a.0.0 ≡ true = g.0 in
    let f = read_front form bytes a.0.0 a.0.1 a.1 in
    subst (λ q. Front (such test form) bytes q.0 q.1) g.1 (record { front = f.front; parts = f.parts; reads = λ more. rw (f.reads more, holds) refl })
read_front (part form piece next) bytes x rest e =
    let a = bind_ok (read form bytes) (λ y. read (next y.0) y.1) (x, rest) e in
    front_behind form (next a.0.0) (part form piece next) bytes a.0.0 a.0.1 x rest (λ more after r. rw r refl) (read_front form bytes a.0.0 a.0.1 a.1) (read_front (next a.0.0) a.0.1 x rest a.2)

-- what is read from the front is read whatever follows
pub read_longer : {A : Type 0} (form : Form A) (bytes more : List ℕ) (x : A) (rest : List ℕ) → read form bytes ≡ Ok (x, rest) → read form (bytes ++ more) ≡ Ok (x, rest ++ more)
read_longer form bytes more x rest e =
    let f = read_front form bytes x rest e in
    ap (λ (b : List ℕ). read form (b ++ more)) f.parts ∙ rw (append_assoc f.front rest more) (f.reads (rest ++ more))

number_longer : (size : Size) (bytes more : List ℕ) (n : ℕ) (rest : List ℕ) → number_at size bytes ≡ Ok (n, rest) → number_at size (bytes ++ more) ≡ Ok (n, rest ++ more)
number_longer size bytes more n rest e = read_longer (number size) bytes more n rest e

guard_err : {A : Type 0} (b : Bool) (c d : ℕ) (x : A) → cond b (Err c) (Ok x) ≡ Err d → d ≡ c
guard_err true c d x e = sym (err_is c d e)
guard_err false c d x e = absurd cc

bytes_short : (n : ℕ) (bytes : List ℕ) (d : ℕ) → bytes_at n bytes ≡ Err d → d ≡ 0
bytes_short n bytes d e = guard_err (ltb (length bytes) n) 0 d (take n bytes, drop n bytes) e

number_short : (size : Size) (bytes : List ℕ) (d : ℕ) → number_at size bytes ≡ Err d → d ≡ 0
unfolding number_at
number_short size bytes d e =
    elim (bind_err (bytes_at (byte_len (width_of size)) bytes) (λ x. Ok (from_be_bytes (width_of size) x.0, x.1)) d e) [
      | inl short ↦ bytes_short (byte_len (width_of size)) bytes d short
      | inr more ↦ absurd (ok_no_err (from_be_bytes (width_of size) more.0.0, more.0.1) d more.2)
    ]

-- and a fault before the end stays
pub fault_longer : {A : Type 0} (form : Form A) (bytes more : List ℕ) (left : ℕ) → 0 < left → read form bytes ≡ Err left → read form (bytes ++ more) ≡ Err (left + length more)
fault_longer (gives y) bytes more left some e = absurd cc
fault_longer unknown bytes more left some e =
    let is : suc (length bytes) ≡ left = err_is (suc (length bytes)) left e in
    ap (λ (k : ℕ). Err k) (omega (arith, is, length-append bytes more))
fault_longer (number size) bytes more left some e = absurd (omega (arith, some, number_short size bytes left e))
fault_longer (raw n) bytes more left some e = absurd (omega (arith, some, bytes_short n bytes left e))
fault_longer (tagged table) bytes more left some e =
    elim (bind_err (number_at one bytes) (λ t. read (table t.0) t.1) left e) [
      | inl short ↦ absurd (omega (arith, some, number_short one bytes left short))
      | inr a ↦ rw (number_longer one bytes more a.0.0 a.0.1 a.1) (fault_longer (table a.0.0) a.0.1 more left some a.2)
    ]
fault_longer (such test form) bytes more left some e =
    elim (bind_err (read form bytes) (λ y. cond (test y.0) (Ok y) (Err (length bytes))) left e) [
      | inl before ↦ rw (fault_longer form bytes more left some before) refl
      | inr a ↦
          let g = wanted_err (test a.0.0) (length bytes) left a.0 a.2 in
          let fails : test a.0.0 ≡ false = g.0 in
          rw (read_longer form bytes more a.0.0 a.0.1 a.1, fails) (ap (λ (k : ℕ). Err k) (omega (arith, g.1, length-append bytes more)))
    ]
fault_longer (part form piece next) bytes more left some e =
    elim (bind_err (read form bytes) (λ y. read (next y.0) y.1) left e) [
      | inl before ↦ rw (fault_longer form bytes more left some before) refl
      | inr a ↦ rw (read_longer form bytes more a.0.0 a.0.1 a.1) (fault_longer (next a.0.0) a.0.1 more left some a.2)
    ]

some_left : (n : ℕ) → 0 < n → eqb n 0 ≡ false
some_left n some = ne_eqb n 0 (λ e. omega (arith, some, e))

ended_err : {A : Type 0} (y : A) (rest : List ℕ) (d : ℕ) → ended y rest ≡ Err d → (eqb (length rest) 0 ≡ false) × (length rest ≡ d)
ended_err y rest d e = wanted_err (eqb (length rest) 0) (length rest) d y e

-- bytes behind a value are a fault whatever follows them
alone_longer : {A : Type 0} (f : Format A) (bytes more : List ℕ) (left : ℕ) → 0 < left → alone f bytes ≡ Err left → alone f (bytes ++ more) ≡ Err (left + length more)
alone_longer f bytes more left some e =
    elim (bind_err (read f.form bytes) (λ y. ended y.0 y.1) left e) [
      | inl before ↦ rw (fault_longer f.form bytes more left some before) refl
      | inr a ↦
          let d = ended_err a.0.0 a.0.1 left a.2 in
          let there : eqb (length (a.0.1 ++ more)) 0 ≡ false = some_left (length (a.0.1 ++ more)) (omega (arith, some, d.1, length-append a.0.1 more)) in
          rw (read_longer f.form bytes more a.0.0 a.0.1 a.1, there) (ap (λ (k : ℕ). Err k) (omega (arith, d.1, length-append a.0.1 more)))
    ]

placed_err : {A : Type 0} (n : ℕ) (r : Result A ℕ) (at : ℕ) → placed n r ≡ Err at → (left : ℕ) × (r ≡ Err left) × (n - left ≡ at)
placed_err n (Ok x) at e = absurd (ok_no_err x at e)
placed_err n (Err left) at e = (left, refl, err_is (n - left) at e)

-- a fault before the end of some bytes is that of all bytes that begin so
pub fault_stays : {A : Type 0} (f : Format A) (bytes more : List ℕ) (at : ℕ) → at < length bytes → whole f bytes ≡ Err at → whole f (bytes ++ more) ≡ Err at
unfolding whole
fault_stays f bytes more at lt e =
    let p = placed_err (length bytes) (alone f bytes) at e in
    rw (alone_longer f bytes more p.0 (omega (arith, lt, p.2)) p.1) (ap (λ (k : ℕ). Err k) (omega (arith, lt, p.2, length-append bytes more)))

-- ---- nothing before a fault breaks the format

-- where a fault is: from its place on so many bytes are left, and those before it are cut short; or it is the tag that was
-- just read
abbrev Stands : {A : Type 0} → Bool → Form A → List ℕ → ℕ → Type 0
Stands behind form bytes left = ((left ≤ length bytes) × (read form (take (length bytes - left) bytes) ≡ Err 0)) ⊎ (IsTrue behind × (left ≡ suc (length bytes)))

-- the fault stands where the form is cut short
at_the_end : {A : Type 0} (behind : Bool) (form : Form A) (bytes : List ℕ) (left : ℕ) → left ≡ 0 → read form bytes ≡ Err left → Stands behind form bytes left
at_the_end behind form bytes left none e =
    let all : length bytes - left ≡ length bytes = omega (arith, none) in
    inl (omega (arith, none), rw (all, take-length bytes) (e ∙ ap (λ (k : ℕ). Err k) none))

-- the fault stands at the front
at_the_front : {A : Type 0} (behind : Bool) (form : Form A) (bytes : List ℕ) (left : ℕ) → left ≡ length bytes → read form [] ≡ Err 0 → Stands behind form bytes left
at_the_front behind form bytes left all e =
    let none : length bytes - left ≡ 0 = omega (arith, all) in
    inl (omega (arith, all), rw none e)

-- bytes up to a place behind a front
front_taken : (front rest : List ℕ) (left : ℕ) → left ≤ length rest → take (length (front ++ rest) - left) (front ++ rest) ≡ front ++ take (length rest - left) rest
front_taken front rest left le =
    let at : length (front ++ rest) - left ≡ length front + (length rest - left) = omega (arith, le, length-append front rest) in
    rw at (take-append-add front rest (length rest - left))

-- the fault stands behind what was read before
behind_front : {A B : Type 0} (behind : Bool) (first : Form B) (second : Form A) (whole : Form A) (bytes : List ℕ) (y : B) (between : List ℕ) (left : ℕ)
    → ((more : List ℕ) (after : List ℕ) → read first more ≡ Ok (y, after) → read whole more ≡ read second after)
    → Front first bytes y between → left ≤ length between → read second (take (length between - left) between) ≡ Err 0 → Stands behind whole bytes left
behind_front behind first second whole bytes y between left goes f le e =
    inl (
      omega (arith, le, length-append f.front between, ap (λ (b : List ℕ). length b) f.parts),
      ap (λ (b : List ℕ). read whole (take (length b - left) b)) f.parts ∙ rw (front_taken f.front between left le) (goes (f.front ++ take (length between - left) between) (take (length between - left) between) (f.reads (take (length between - left) between)) ∙ e),
    )

not_false : IsTrue false → ⊥
not_false e = absurd cc

no_tag : {A : Type 0} (table : ℕ → Form A) → read (tagged table) [] ≡ Err 0
no_tag table = rw (no_number one) refl

pub fault_stands : {A : Type 0} (behind : Bool) (form : Form A) (bytes : List ℕ) (left : ℕ) → IsPlaced behind form → read form bytes ≡ Err left → Stands behind form bytes left
fault_stands behind (gives x) bytes left placed e = absurd (ok_no_err (x, bytes) left e)
fault_stands behind unknown bytes left placed e = inr (placed, sym (err_is (suc (length bytes)) left e))
fault_stands behind (number size) bytes left placed e = at_the_end behind (number size) bytes left (number_short size bytes left e) e
fault_stands behind (raw n) bytes left placed e = at_the_end behind (raw n) bytes left (bytes_short n bytes left e) e
fault_stands behind (tagged table) bytes left placed e =
    elim (bind_err (number_at one bytes) (λ t. read (table t.0) t.1) left e) [
      | inl short ↦ at_the_end behind (tagged table) bytes left (number_short one bytes left short) e
      | inr a ↦ elim (fault_stands true (table a.0.0) a.0.1 left (placed a.0.0) a.2) [
        | inl s ↦ behind_front behind (number one) (table a.0.0) (tagged table) bytes a.0.0 a.0.1 left (λ more after r. rw r refl) (number_front one bytes a.0.0 a.0.1 a.1) s.0 s.1
        | inr s ↦ at_the_front behind (tagged table) bytes left (s.1 ∙ sym (tag_length bytes a.0.0 a.0.1 a.1)) (no_tag table)
      ]
    ]
fault_stands behind (such test form) bytes left placed e =
    elim (bind_err (read form bytes) (λ y. cond (test y.0) (Ok y) (Err (length bytes))) left e) [
      | inl before ↦ elim (fault_stands false form bytes left placed.0 before) [
        | inl s ↦ inl (s.0, rw s.1 refl)
        | inr s ↦ absurd (not_false s.0)
      ]
      | inr a ↦
          let g = wanted_err (test a.0.0) (length bytes) left a.0 a.2 in
          at_the_front behind (such test form) bytes left (sym g.1) (rw placed.1 refl)
    ]
fault_stands behind (part form piece next) bytes left placed e =
    elim (bind_err (read form bytes) (λ y. read (next y.0) y.1) left e) [
      | inl before ↦ elim (fault_stands false form bytes left placed.0 before) [
        | inl s ↦ inl (s.0, rw s.1 refl)
        | inr s ↦ absurd (not_false s.0)
      ]
      | inr a ↦ elim (fault_stands false (next a.0.0) a.0.1 left (placed.1 a.0.0) a.2) [
        | inl s ↦ behind_front behind form (next a.0.0) (part form piece next) bytes a.0.0 a.0.1 left (λ more after r. rw r refl) (read_front form bytes a.0.0 a.0.1 a.1) s.0 s.1
        | inr s ↦ absurd (not_false s.0)
      ]
    ]

-- the bytes before a fault are cut short, or they are a spelling and bytes follow
front_is : (front rest bytes : List ℕ) (at : ℕ) → bytes ≡ front ++ rest → at ≡ length front → take at bytes ≡ front
front_is front rest bytes at parts len = ap (λ (b : List ℕ). take at b) parts ∙ take_at front rest at (sym len)

pub before_the_fault : {A : Type 0} (f : Format A) → Agrees f → (bytes : List ℕ) (at : ℕ) → whole f bytes ≡ Err at
    → (at ≤ length bytes) × ((whole f (take at bytes) ≡ Err at) ⊎ ((x : A) × (whole f (take at bytes) ≡ Ok x)))
unfolding whole
before_the_fault f agrees bytes at e =
    let p = placed_err (length bytes) (alone f bytes) at e in
    let le : at ≤ length bytes = omega (arith, p.2) in
    let len : length (take at bytes) ≡ at = omega (arith, le, length-take at bytes) in
    elim (bind_err (read f.form bytes) (λ y. ended y.0 y.1) p.0 p.1) [
      | inl before ↦ elim (fault_stands false f.form bytes p.0 agrees.placed before) [
        | inl s ↦ (le, inl (subst (λ (k : ℕ). placed (length (take k bytes)) (alone f (take k bytes)) ≡ Err at) p.2 (rw s.1 (ap (λ (k : ℕ). Err k) (omega (arith, p.2, length-take (length bytes - p.0) bytes))))))
        | inr s ↦ absurd (not_false s.0)
      ]
      | inr a ↦
          let d = ended_err a.0.0 a.0.1 p.0 a.2 in
          let q = read_front f.form bytes a.0.0 a.0.1 a.1 in
          let front : take at bytes ≡ q.front = front_is q.front a.0.1 bytes at q.parts (omega (arith, p.2, d.1, length-append q.front a.0.1, ap (λ (b : List ℕ). length b) q.parts)) in
          let back : read f.form (take at bytes) ≡ Ok (a.0.0, []) = rw front (subst (λ (b : List ℕ). read f.form b ≡ Ok (a.0.0, [])) (append-nil q.front) (q.reads [])) in
          (le, inr (a.0.0, rw back refl))
    ]

-- ---- every format is exact

pub agreeing_is_exact : {A : Type 0} (f : Format A) → Agrees f → IsExact f
agreeing_is_exact f agrees = record {
  found = λ bytes x are e. whole_is_spelled f agrees bytes x are e;
  only = λ bytes x s. spelled_is_whole f agrees bytes x s;
  one = λ a b x s t. s.0 ∙ sym t.0;
  apart = λ a b rest x y s t e. one_spelling f agrees a b rest x y s t e;
  stays = λ bytes more at lt e. fault_stays f bytes more at lt e;
  first = λ bytes at e. before_the_fault f agrees bytes at e;
}
