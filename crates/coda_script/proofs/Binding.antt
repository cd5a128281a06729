-- Words and their bytes, and one reading after another.
use Rattle.std.proofs.Common.{◌≡◌, ℕ, Bool, true, false, cond, ◌⊎◌, inl, inr, List, [], ◌∷◌, map, Option, Some, None, Result, Ok, Err, refl, ap}
use Rattle.std.specs.Option.{option_map_or}
use Rattle.std.proofs.lemmas.Slice.Eq.{bytes_eq-Decides}
use Rattle.coda_text.specs.Words.{Split, Word}
use Rattle.coda_script.specs.Slots.{is_word}
use Rattle.coda_script.specs.Reading.{Fault, ◌>>=◌, is_next}
use Rattle.coda_script.specs.Spelling.{begins}

-- what is left of a line, by its parts
abbrev pub split : List Word → ℕ → Option ℕ → Split
split words end breaks = record { words = words; end = end; breaks = breaks }

-- the bytes of words
abbrev pub texts : List Word → List (List ℕ)
texts ws = map (λ (w : Word). w.text) ws

pub ok_is : {A : Type 0} (x y : A) → (let r : Result A Fault = Ok x in r) ≡ Ok y → x ≡ y
ok_is x y e = cc

pub some_is : {A : Type 0} (x y : A) → (let r : Option A = Some x in r) ≡ Some y → x ≡ y
some_is x y e = cc

pub bind_ok : {A B : Type 0} (r : Result A Fault) (f : A → Result B Fault) (y : B) → (r >>= f) ≡ Ok y → (x : A) × (r ≡ Ok x) × (f x ≡ Ok y)
bind_ok (Ok x) f y e = (x, refl, e)
bind_ok (Err d) f y e = absurd cc

pub chosen : {A : Type 0} (b : Bool) (x y z : A) → cond b x y ≡ z → ((b ≡ true) × (x ≡ z)) ⊎ ((b ≡ false) × (y ≡ z))
chosen true x y z e = inl (refl, e)
chosen false x y z e = inr (refl, e)

pub option_ok : {A B : Type 0} (o : Option A) (f : A → Result B Fault) (g : Fault) (y : B) → option_map_or f o (Err g) ≡ Ok y → (x : A) × (o ≡ Some x) × (f x ≡ Ok y)
option_ok (Some x) f g y e = (x, refl, e)
option_ok None f g y e = absurd cc

-- a test of the next word looks at its bytes alone
pub next_begins : (test : List ℕ → Bool) (ws : List Word) → is_next test ws ≡ begins test (texts ws)
next_begins test [] = refl
next_begins test (w ∷ ws) = refl

pub word_is : (word text : List ℕ) → is_word word text ≡ true → text ≡ word
word_is word text e = (bytes_eq-Decides text word).0 e

pub is_itself : (word : List ℕ) → is_word word word ≡ true
is_itself word = (bytes_eq-Decides word word).1 refl

-- the words of which these are the bytes, the first apart
pub texts_cons : (ws : List Word) (t : List ℕ) (ts : List (List ℕ)) → texts ws ≡ t ∷ ts → (w : Word) × (rest : List Word) × (ws ≡ w ∷ rest) × (w.text ≡ t) × (texts rest ≡ ts)
texts_cons [] t ts e = absurd cc
texts_cons (w ∷ ws) t ts e = (w, ws, refl, cc, cc)

pub behind_word : (w : Word) (a b : List Word) → a ≡ b → w ∷ a ≡ w ∷ b
behind_word w a b e = ap (λ (r : List Word). w ∷ r) e

pub texts_nil : (ws : List Word) → texts ws ≡ [] → ws ≡ []
texts_nil [] e = refl
texts_nil (w ∷ ws) e = absurd cc

-- the next word is that one
pub first_is : (word : List ℕ) (ws : List Word) → is_next (is_word word) ws ≡ true → (w : Word) × (rest : List Word) × (ws ≡ w ∷ rest) × (w.text ≡ word)
first_is word [] e = absurd cc
first_is word (w ∷ ws) e = (w, ws, refl, word_is word w.text e)
