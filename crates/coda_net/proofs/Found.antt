-- Which letter is found: the one of the least number.
use Rattle.std.proofs.Common.{◌≡◌, ℕ, ◌≤◌, ◌<◌, Bool, true, false, ◌&&◌, List, [], ◌∷◌, nat_eq, Option, Some, None, refl, sym, ap, subst, ◌∙◌, arith, inl, inr}
use Rattle.std.specs.Prelude.{if◌then◌else◌, cond, ◌==◌}
use Rattle.std.specs.Cmp.Lexicographic.{pointwise, bytes_decides}
use Rattle.std.proofs.lemmas.Bool.{cases_Bool, eqb-true, eq-eqb, ne_eqb}
use Rattle.coda_net.specs.declared.letter.Letter.{Letter}
use Rattle.coda_net.specs.Pool.{Letters, letter_at, is_sent, found, AreRising}
use Rattle.coda_net.specs.Laws.{IsSent, FindsNameTheLeast}
use Rattle.coda_net.proofs.Losing.{first_true, second_true}

abbrev some : {A : Type 0} → A → Option A
some x = Some x

pub some_is : {A : Type 0} (x y : A) → some x ≡ some y → x ≡ y
some_is x y e = cc

pub some_isnt : {A : Type 0} (x : A) → some x ≡ None → ⊥
some_isnt x e = cc

-- what a test of a letter says
sent_parts : (client server : ℕ) (bytes : List ℕ) (l : Letter) → is_sent client server bytes l ≡ true → IsSent client server bytes l
sent_parts client server bytes l e =
    let behind = second_true l.to_server ((client == l.client) && ((server == l.server) && pointwise nat_eq l.bytes bytes)) e in
    let more = second_true (client == l.client) ((server == l.server) && pointwise nat_eq l.bytes bytes) behind in
    record {
      to_server = first_true l.to_server ((client == l.client) && ((server == l.server) && pointwise nat_eq l.bytes bytes)) e;
      client_is = sym (eqb-true client l.client (first_true (client == l.client) ((server == l.server) && pointwise nat_eq l.bytes bytes) behind));
      server_is = sym (eqb-true server l.server (first_true (server == l.server) (pointwise nat_eq l.bytes bytes) more));
      bytes_are = (bytes_decides l.bytes bytes).0 (second_true (server == l.server) (pointwise nat_eq l.bytes bytes) more);
    }

all_true : (a b c d : Bool) → a ≡ true → b ≡ true → c ≡ true → d ≡ true → (a && (b && (c && d))) ≡ true
all_true a b c d p q r s = rw (p, q, r, s) refl

parts_sent : (client server : ℕ) (bytes : List ℕ) (l : Letter) → IsSent client server bytes l → is_sent client server bytes l ≡ true
parts_sent client server bytes l sent =
    all_true l.to_server (client == l.client) (server == l.server) (pointwise nat_eq l.bytes bytes) sent.to_server (eq-eqb client l.client (sym sent.client_is)) (eq-eqb server l.server (sym sent.server_is)) ((bytes_decides l.bytes bytes).1 sent.bytes_are)

pub true_or_false : (b : Bool) → b ≡ true → b ≡ false → ⊥
true_or_false true e f = absurd cc
true_or_false false e f = absurd cc

-- ---- numbers of letters that rise

pub at_first : (l : ℕ × Letter) (ls : Letters) (number : ℕ) → number ≡ l.0 → letter_at (l ∷ ls) number ≡ Some l.1
at_first l ls number e = rw (eq-eqb number l.0 e) refl

pub at_later : (l : ℕ × Letter) (ls : Letters) (number : ℕ) → (number ≡ l.0 → ⊥) → letter_at (l ∷ ls) number ≡ letter_at ls number
at_later l ls number ne = rw (ne_eqb number l.0 ne) refl

pub at_above : (before : ℕ) (ls : Letters) (number : ℕ) (letter : Letter) → AreRising before ls → letter_at ls number ≡ Some letter → before < number
at_above before [] number letter rising e = absurd cc
at_above before (l ∷ ls) number letter rising e = elim (cases_Bool (nat_eq number l.0)) [
  | inl that ↦ omega (arith, rising.0, eqb-true number l.0 that)
  | inr other ↦ omega (arith, rising.0, at_above l.0 ls number letter rising.1 (subst (λ (b : Bool). cond b (Some l.1) (letter_at ls number) ≡ Some letter) other e))
]

found_first : (l : ℕ × Letter) (ls : Letters) (client server : ℕ) (bytes : List ℕ) → is_sent client server bytes l.1 ≡ true → found (l ∷ ls) client server bytes ≡ Some l.0
found_first l ls client server bytes e = ap (λ (b : Bool). if b then Some l.0 else found ls client server bytes) e

found_later : (l : ℕ × Letter) (ls : Letters) (client server : ℕ) (bytes : List ℕ) → is_sent client server bytes l.1 ≡ false → found (l ∷ ls) client server bytes ≡ found ls client server bytes
found_later l ls client server bytes e = ap (λ (b : Bool). if b then Some l.0 else found ls client server bytes) e

-- what is found is there, and above what stands before
abbrev FoundAt : ℕ → Letters → ℕ → ℕ → List ℕ → ℕ → Type 0
FoundAt before ls client server bytes number = (before < number) × ((letter : Letter) × (letter_at ls number ≡ Some letter) × IsSent client server bytes letter)

found_at : (before : ℕ) (ls : Letters) (client server : ℕ) (bytes : List ℕ) (number : ℕ) → AreRising before ls → found ls client server bytes ≡ Some number → FoundAt before ls client server bytes number
found_at before [] client server bytes number rising e = absurd cc
found_at before (l ∷ ls) client server bytes number rising e = elim (cases_Bool (is_sent client server bytes l.1)) [
  | inl sent ↦
      let that : number ≡ l.0 = some_is number l.0 (sym e ∙ found_first l ls client server bytes sent) in
      (omega (arith, rising.0, that), (l.1, at_first l ls number that, sent_parts client server bytes l.1 sent))
  | inr not_sent ↦
      let rest = found_at l.0 ls client server bytes number rising.1 (sym (found_later l ls client server bytes not_sent) ∙ e) in
      (omega (arith, rising.0, rest.0), (rest.1.0, at_later l ls number (λ same. omega (arith, same, rest.0)) ∙ rest.1.1, rest.1.2))
]

found_least : (before : ℕ) (ls : Letters) (client server : ℕ) (bytes : List ℕ) (number other : ℕ) (letter : Letter) → AreRising before ls → found ls client server bytes ≡ Some number
    → letter_at ls other ≡ Some letter → IsSent client server bytes letter → number ≤ other
found_least before [] client server bytes number other letter rising e at sent = absurd cc
found_least before (l ∷ ls) client server bytes number other letter rising e at sent = elim (cases_Bool (is_sent client server bytes l.1)) [
  | inl first ↦
      let that : number ≡ l.0 = some_is number l.0 (sym e ∙ found_first l ls client server bytes first) in
      elim (cases_Bool (nat_eq other l.0)) [
        | inl same ↦ omega (arith, that, eqb-true other l.0 same)
        | inr differs ↦ omega (arith, that, at_above l.0 ls other letter rising.1 (subst (λ (b : Bool). cond b (Some l.1) (letter_at ls other) ≡ Some letter) differs at))
      ]
  | inr not_first ↦
      let behind = sym (found_later l ls client server bytes not_first) ∙ e in
      elim (cases_Bool (nat_eq other l.0)) [
        | inl same ↦
            let is : l.1 ≡ letter = some_is l.1 letter (sym (at_first l ls other (eqb-true other l.0 same)) ∙ at) in
            absurd (true_or_false (is_sent client server bytes l.1) (parts_sent client server bytes l.1 (subst (λ (x : Letter). IsSent client server bytes x) (sym is) sent)) not_first)
        | inr differs ↦ found_least l.0 ls client server bytes number other letter rising.1 behind (subst (λ (b : Bool). cond b (Some l.1) (letter_at ls other) ≡ Some letter) differs at) sent
      ]
]

none_found : (ls : Letters) (client server : ℕ) (bytes : List ℕ) (other : ℕ) (letter : Letter) → found ls client server bytes ≡ None → letter_at ls other ≡ Some letter → IsSent client server bytes letter → ⊥
none_found [] client server bytes other letter e at sent = absurd cc
none_found (l ∷ ls) client server bytes other letter e at sent = elim (cases_Bool (is_sent client server bytes l.1)) [
  | inl first ↦ some_isnt l.0 (sym (found_first l ls client server bytes first) ∙ e)
  | inr not_first ↦ elim (cases_Bool (nat_eq other l.0)) [
    | inl same ↦
        let is : l.1 ≡ letter = some_is l.1 letter (sym (at_first l ls other (eqb-true other l.0 same)) ∙ at) in
        true_or_false (is_sent client server bytes l.1) (parts_sent client server bytes l.1 (subst (λ (x : Letter). IsSent client server bytes x) (sym is) sent)) not_first
    | inr differs ↦ none_found ls client server bytes other letter (sym (found_later l ls client server bytes not_first) ∙ e) (subst (λ (b : Bool). cond b (Some l.1) (letter_at ls other) ≡ Some letter) differs at) sent
  ]
]

pub finds_least : FindsNameTheLeast
finds_least = record {
  there = λ ls client server bytes number rising e. (found_at 0 ls client server bytes number rising e).1;
  least = λ ls client server bytes number other letter rising e at sent. found_least 0 ls client server bytes number other letter rising e at sent;
  none = none_found;
}
