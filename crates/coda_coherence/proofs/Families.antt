-- Families with one member changed, copies that some pass a test are taken out of, and histories that grow.
use Rattle.std.proofs.Common.{◌≡◌, ℕ, ◌≤◌, Bool, true, false, cond, ◌&&◌, ◌||◌, ◌==◌, List, ◌++◌, length, take}
use Rattle.std.proofs.Common.{Option, Some, None, refl, ap, arith}
use Rattle.std.specs.Option.{option_and_then}
use Rattle.std.proofs.lemmas.Bool.{and_parts, and_from, eqb-true, eq-eqb, ne_eqb}
use Rattle.std.proofs.lemmas.List.{length-append, take-append-le}
use Rattle.coda_fid.specs.Fid.{same_fid}
use Rattle.coda_fid.specs.declared.fid.Fid.{Fid}
use Rattle.coda_fid.proofs.Fids.{same_fid_is}
use Rattle.coda_coherence.specs.Cell.{Copy, put, put_pair, put_copy, unless_gone, copies_left}

pub pair_at : {A : Type 0} (P : A → Type 0) (f : ℕ → ℕ → A) (k l : ℕ) (x : A) (q r : ℕ) → (q ≡ k → r ≡ l → P x)
    → P (f q r) → P (put_pair f k l x q r)
pair_at P f k l x q r here there =
    elim ((q == k) && (r == l)) as (λ b. ((q == k) && (r == l)) ≡ b → P (cond b x (f q r))) [
      | true ↦ λ e. let p = and_parts (q == k) (r == l) e in here (eqb-true q k p.0) (eqb-true r l p.1)
      | false ↦ λ _. there
    ] refl

-- the same of two families
pub pairs_at : {A B : Type 0} (P : A → B → Type 0) (f : ℕ → ℕ → A) (g : ℕ → ℕ → B) (k l : ℕ) (x : A) (y : B) (q r : ℕ)
    → (q ≡ k → r ≡ l → P x y) → P (f q r) (g q r)
    → P (put_pair f k l x q r) (put_pair g k l y q r)
pairs_at P f g k l x y q r here there =
    elim ((q == k) && (r == l)) as (λ b. ((q == k) && (r == l)) ≡ b → P (cond b x (f q r)) (cond b y (g q r))) [
      | true ↦ λ e. let p = and_parts (q == k) (r == l) e in here (eqb-true q k p.0) (eqb-true r l p.1)
      | false ↦ λ _. there
    ] refl

pub pair_here : {A : Type 0} (f : ℕ → ℕ → A) (k l : ℕ) (x : A) → put_pair f k l x k l ≡ x
pair_here f k l x = ap (λ b. cond b x (f k l)) (and_from (k == k) (l == l) (eq-eqb k k refl) (eq-eqb l l refl))

-- two families by client and fid
pub copies_at : {A B : Type 0} (P : A → B → Type 0) (f : ℕ → Fid → A) (g : ℕ → Fid → B) (c : ℕ) (fid : Fid) (x : A) (y : B) (q : ℕ) (r : Fid) → (q ≡ c → r ≡ fid → P x y) → (((q == c) && same_fid r fid) ≡ false → P (f q r) (g q r))
    → P (put_copy f c fid x q r) (put_copy g c fid y q r)
copies_at P f g c fid x y q r here there =
    elim ((q == c) && same_fid r fid) as (λ b. ((q == c) && same_fid r fid) ≡ b → P (cond b x (f q r))
    (cond b y (g q r))) [
      | true ↦ λ e. let p = and_parts (q == c) (same_fid r fid) e in here (eqb-true q c p.0) (same_fid_is r fid p.1)
      | false ↦ there
    ] refl

pub put_here : {A : Type 0} (f : ℕ → A) (k : ℕ) (x : A) → put f k x k ≡ x
put_here f k x = ap (λ b. cond b x (f k)) (eq-eqb k k refl)

pub put_else : {A : Type 0} (f : ℕ → A) (k : ℕ) (x : A) (q : ℕ) → (q ≡ k → ⊥) → put f k x q ≡ f q
put_else f k x q apart = ap (λ b. cond b x (f q)) (ne_eqb q k apart)

-- ---- copies

left : (o : Option Copy) (gone : Copy → Bool) (copy : Copy)
    → option_and_then (λ x. unless_gone (gone x) x) o ≡ Some copy → (o ≡ Some copy) × (gone copy ≡ false)
left None gone copy h = cc
left (Some x) gone copy h =
    elim (gone x) as (λ b. gone x ≡ b → unless_gone b x ≡ Some copy → (Some x ≡ Some copy) × (gone copy ≡ false)) [
      | true ↦ λ e no. cc
      | false ↦ λ e is. (is, cc)
    ] refl h

pub kept_copy : (valid : ℕ → Fid → Option Copy) (gone : ℕ → Fid → Copy → Bool) (c : ℕ) (f : Fid) (copy : Copy)
    → copies_left valid gone c f ≡ Some copy → (valid c f ≡ Some copy) × (gone c f copy ≡ false)
kept_copy valid gone c f copy h = left (valid c f) (gone c f) copy h

-- ---- histories

pub longer : {Entry : Type 0} (p : ℕ) (h g : List Entry) → p ≤ length h → p ≤ length (h ++ g)
longer p h g le = omega (arith, length-append h g)

-- the front of a history that grows
pub same_front : {Entry A : Type 0} (see : List Entry → A) (p : ℕ) (h g : List Entry) → p ≤ length h
    → see (take p (h ++ g)) ≡ see (take p h)
same_front see p h g le = ap see (take-append-le p h g le)

-- ---- tests

pub or_left : (a b : Bool) → a ≡ true → (a || b) ≡ true
or_left a b h = ap (λ x. x || b) h

pub or_both : (a b c : Bool) → b ≡ true → c ≡ true → (a || (b && c)) ≡ true
or_both true b c p q = refl
or_both false b c p q = and_from b c p q
