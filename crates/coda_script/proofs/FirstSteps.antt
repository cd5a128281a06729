-- The first column that is wrong of some lines, and of what they are behind one more word.
use Rattle.std.proofs.Common.{◌≡◌, ℕ, ◌+◌, Bool, true, false, ◌⊎◌, inl, inr, List, [], ◌∷◌, ◌++◌, Option, Some, None, Result, Err, refl, sym, ap, subst, ◌∙◌}
use Rattle.std.specs.Prelude.{◌&&◌, if◌then◌else◌, is_some}
use Rattle.std.proofs.lemmas.Bool.{false≢true}
use Rattle.coda_engine.specs.declared.status.Kind.{Kind}
use Rattle.coda_engine.specs.declared.status.Kind.TheVariants as kinds
use Rattle.coda_text.specs.Numbers.{number_of, number_from, begins_with_digit}
use Rattle.coda_text.specs.Texts.{is_quoted}
use Rattle.coda_text.specs.Words.{Word}
use Rattle.coda_text.proofs.Joining.{number_again}
use Rattle.coda_script.specs.declared.line.Line.{Line}
use Rattle.coda_script.specs.Slots.{NumberSlot, between, octal, number_in}
use Rattle.coda_script.specs.Form.{Form, ends, nothing, either, a_number, a_path, a_name, some_rights, a_text, perhaps, servers_above}
use Rattle.coda_script.specs.Reading.{Fault, ◌>>=◌, slot_at, is_next, missing, read}
use Rattle.coda_script.specs.Spelling.{begins, Spells}
use Rattle.coda_script.specs.FirstWrong.{column_of}
use Rattle.coda_script.specs.FirstColumn.{BeginsOne, MayStand, NoneGoesOn, NoneStands, is_lettered, IsWanted}
use Rattle.coda_script.proofs.Avoiding.{avoids, avoided, and_left, and_right}
use Rattle.coda_script.proofs.Binding.{split, texts, some_is}
use Rattle.coda_script.proofs.Going.{Whole, least, holds_one, lives, least_held, alive, counts, settled, full, tells_number}
use Rattle.coda_script.proofs.Possible.{Holds, IsClear, number_text, number_again_in}
use Rattle.coda_script.proofs.FirstBytes.{number_begins, digit_unquoted, digit_unlettered}
use Rattle.coda_script.proofs.WrongColumns.{faulty, head_is, tail_is, none_some, cases_option, SpellsSlot, cases_is}

abbrev pub Lines : Type 1
Lines = List (List ℕ) → Type 0

-- no words
abbrev pub Nowhere : List (List ℕ) → Type 0
Nowhere ts = ⊥

-- ---- what is told of a column, and at the head of what

-- what is missing, or no word, at the line's end
abbrev pub end_kind : Option ℕ → Kind
end_kind breaks = if is_some breaks then kinds.Text else kinds.Count

-- what is told: at the head, something of the head's own
abbrev pub Told : (P Z : Lines) → (List ℕ → Kind → Type 0) → List Word → List Word → Option ℕ → Kind → Type 0
Told P Z H before [] breaks kind = kind ≡ end_kind breaks
Told P Z H [] (w ∷ ws) breaks kind = H w.text kind
Told P Z H (b ∷ bs) (w ∷ ws) breaks kind = IsWanted P Z (texts (b ∷ bs)) w.text kind

-- the words up to the next are none that are excepted
abbrev pub NotExcepted : Lines → List (List ℕ) → List Word → Type 0
NotExcepted X front [] = Unit {0}
NotExcepted X front (w ∷ ws) = X (front ++ w.text ∷ []) → ⊥

-- the column is the first that is wrong, of these lines, with those exceptions
pub record First (P X Z : Lines) (H : List ℕ → Kind → Type 0) (ws : List Word) (end : ℕ) (breaks : Option ℕ) (column : ℕ) (kind : Kind) : Type 0 where
  pub before : List Word
  pub after : List Word
  pub parts : ws ≡ before ++ after
  pub place : column ≡ column_of end after
  pub starts : (before ≡ []) ⊎ (BeginsOne P (texts before) ⊎ X (texts before))
  pub none : (after ≡ [] → breaks ≡ None) → NoneGoesOn P (texts before) after
  pub read : NotExcepted X (texts before) after
  pub told : Told P Z H before after breaks kind

-- what a word is told as at the head of a form where a fixed word is wanted
abbrev pub WordAtHead : Form → List ℕ → Type 0
WordAtHead f wrong =
    ((word : List ℕ) × (is_lettered word ≡ true) × MayStand (Whole f) [] word)
    × NoneStands (Whole f) is_quoted []
    × (begins_with_digit wrong ≡ true → NoneStands (Whole f) begins_with_digit [])
    × (tells_number f ≡ true → begins_with_digit wrong ≡ false)

-- what may be told at the head of a form
abbrev pub AtHead : Form → List ℕ → Kind → Type 0
AtHead f wrong kinds.Word = (settled f ≡ false) ⊎ WordAtHead f wrong
AtHead f wrong kinds.Number =
    (tells_number f ≡ true)
    × ((full f ≡ false) ⊎ ((word : List ℕ) × (n : ℕ) × (number_of word ≡ Some n) × MayStand (Whole f) [] word))
    × NoneStands (Whole f) is_quoted []
    × (begins_with_digit wrong ≡ false → NoneStands (Whole f) is_lettered [])
AtHead f wrong kinds.Text = IsWanted (Whole f) Nowhere [] wrong kinds.Text
AtHead f wrong kinds.Path = IsWanted (Whole f) Nowhere [] wrong kinds.Path
AtHead f wrong kinds.Count = counts f ≡ true
AtHead f wrong kinds.Mode = ⊥
AtHead f wrong kinds.Actors = ⊥

-- ---- behind one more word

may_behind : (P Q : Lines) (t : List ℕ) → ((ts : List (List ℕ)) → Q ts → P (t ∷ ts)) → (front : List (List ℕ)) (word : List ℕ) → MayStand Q front word → MayStand P (t ∷ front) word
may_behind P Q t forth front word m = (m.0, forth (front ++ word ∷ m.0) m.1)

none_stands_behind : (P Q : Lines) (test : List ℕ → Bool) (t : List ℕ) → ((ts : List (List ℕ)) → P (t ∷ ts) → Q ts) → (front : List (List ℕ)) → NoneStands Q test front → NoneStands P test (t ∷ front)
none_stands_behind P Q test t back front n = λ word is m. n word is (m.0, back (front ++ word ∷ m.0) m.1)

text_behind : (P Q Z W : Lines) (t : List ℕ) → ((ts : List (List ℕ)) → Q ts → P (t ∷ ts)) → (front : List (List ℕ)) (wrong : List ℕ) → IsWanted Q W front wrong kinds.Text → IsWanted P Z (t ∷ front) wrong kinds.Text
text_behind P Q Z W t forth front wrong i = (i.0, i.1, i.2, i.3, may_behind P Q t forth front i.0 i.4)

path_behind : (P Q Z W : Lines) (t : List ℕ) → ((ts : List (List ℕ)) → Q ts → P (t ∷ ts)) → (front : List (List ℕ)) (wrong : List ℕ) → IsWanted Q W front wrong kinds.Path → IsWanted P Z (t ∷ front) wrong kinds.Path
path_behind P Q Z W t forth front wrong (inl i) = inl (λ word e. may_behind P Q t forth front word (i word e))
path_behind P Q Z W t forth front wrong (inr i) = inr (λ word e. may_behind P Q t forth front word (i word e))

pub wanted_behind : (P Q Z W : Lines) (t : List ℕ) → ((ts : List (List ℕ)) → P (t ∷ ts) → Q ts) → ((ts : List (List ℕ)) → Q ts → P (t ∷ ts)) → ((ts : List (List ℕ)) → W ts → Z (t ∷ ts)) → ((ts : List (List ℕ)) → Z (t ∷ ts) → W ts)
    → (front : List (List ℕ)) (wrong : List ℕ) (kind : Kind) → IsWanted Q W front wrong kind → IsWanted P Z (t ∷ front) wrong kind
wanted_behind P Q Z W t back forth last unlast front wrong kinds.Count i = (forth front i.0, λ word m. i.1 word (m.0, back (front ++ word ∷ m.0) m.1), λ z. i.2 (unlast front z))
wanted_behind P Q Z W t back forth last unlast front wrong kinds.Word i =
    ((i.0.0, i.0.1, may_behind P Q t forth front i.0.0 i.0.2), none_stands_behind P Q is_quoted t back front i.1, λ d. (none_stands_behind P Q begins_with_digit t back front (i.2 d).0, λ z. (i.2 d).1 (unlast front z)))
wanted_behind P Q Z W t back forth last unlast front wrong kinds.Number (inl i, q, d) =
    (inl (i.0, i.1, i.2, may_behind P Q t forth front i.0 i.3), none_stands_behind P Q is_quoted t back front q, λ e. none_stands_behind P Q is_lettered t back front (d e))
wanted_behind P Q Z W t back forth last unlast front wrong kinds.Number (inr i, q, d) =
    (inr (last front i), none_stands_behind P Q is_quoted t back front q, λ e. none_stands_behind P Q is_lettered t back front (d e))
wanted_behind P Q Z W t back forth last unlast front wrong kinds.Path i = path_behind P Q Z W t forth front wrong i
wanted_behind P Q Z W t back forth last unlast front wrong kinds.Text i = text_behind P Q Z W t forth front wrong i
wanted_behind P Q Z W t back forth last unlast front wrong kinds.Mode i = absurd i
wanted_behind P Q Z W t back forth last unlast front wrong kinds.Actors i = absurd i

told_behind : (P Q Z W : Lines) (H K : List ℕ → Kind → Type 0) (w : Word) (breaks : Option ℕ) → ((ts : List (List ℕ)) → P (w.text ∷ ts) → Q ts) → ((ts : List (List ℕ)) → Q ts → P (w.text ∷ ts)) → ((ts : List (List ℕ)) → W ts → Z (w.text ∷ ts)) → ((ts : List (List ℕ)) → Z (w.text ∷ ts) → W ts)
    → ((wrong : List ℕ) (kind : Kind) → K wrong kind → IsWanted P Z (w.text ∷ []) wrong kind) → (before after : List Word) (kind : Kind) → Told Q W K before after breaks kind → Told P Z H (w ∷ before) after breaks kind
told_behind P Q Z W H K w breaks back forth last unlast head before [] kind t = t
told_behind P Q Z W H K w breaks back forth last unlast head [] (v ∷ vs) kind t = head v.text kind t
told_behind P Q Z W H K w breaks back forth last unlast head (b ∷ bs) (v ∷ vs) kind t = wanted_behind P Q Z W w.text back forth last unlast (texts (b ∷ bs)) v.text kind t

none_behind : (P Q : Lines) (t : List ℕ) (front : List (List ℕ)) (after : List Word) → ((ts : List (List ℕ)) → P (t ∷ ts) → Q ts) → NoneGoesOn Q front after → NoneGoesOn P (t ∷ front) after
none_behind P Q t front [] back n = λ p. n (back front p)
none_behind P Q t front (w ∷ ws) back n = λ m. n (m.0, back (front ++ w.text ∷ m.0) m.1)

starts_behind : (P Q X Y : Lines) (w : Word) → ((ts : List (List ℕ)) → Q ts → P (w.text ∷ ts)) → ((ts : List (List ℕ)) → Y ts → X (w.text ∷ ts)) → BeginsOne Q [] ⊎ X (w.text ∷ [])
    → (before : List Word) → (before ≡ []) ⊎ (BeginsOne Q (texts before) ⊎ Y (texts before)) → BeginsOne P (w.text ∷ texts before) ⊎ X (w.text ∷ texts before)
starts_behind P Q X Y w forth with head before (inr (inl s)) = inl (s.0, forth (texts before ++ s.0) s.1)
starts_behind P Q X Y w forth with head before (inr (inr x)) = inr (with (texts before) x)
starts_behind P Q X Y w forth with (inl s) [] (inl e) = inl (s.0, forth s.0 s.1)
starts_behind P Q X Y w forth with (inr x) [] (inl e) = inr x
starts_behind P Q X Y w forth with head (b ∷ bs) (inl e) = absurd cc

read_behind : (X Y : Lines) (t : List ℕ) (front : List (List ℕ)) (after : List Word) → ((ts : List (List ℕ)) → X (t ∷ ts) → Y ts) → NotExcepted Y front after → NotExcepted X (t ∷ front) after
read_behind X Y t front [] unwith n = tt
read_behind X Y t front (w ∷ ws) unwith n = λ x. n (unwith (front ++ w.text ∷ []) x)

pub behind : (P Q X Y Z W : Lines) (H K : List ℕ → Kind → Type 0) (w : Word) (ws : List Word) (end : ℕ) (breaks : Option ℕ) (column : ℕ) (kind : Kind)
    → ((ts : List (List ℕ)) → P (w.text ∷ ts) → Q ts) → ((ts : List (List ℕ)) → Q ts → P (w.text ∷ ts)) → ((ts : List (List ℕ)) → Y ts → X (w.text ∷ ts)) → ((ts : List (List ℕ)) → X (w.text ∷ ts) → Y ts)
    → ((ts : List (List ℕ)) → W ts → Z (w.text ∷ ts)) → ((ts : List (List ℕ)) → Z (w.text ∷ ts) → W ts)
    → BeginsOne Q [] ⊎ X (w.text ∷ []) → ((wrong : List ℕ) (k : Kind) → K wrong k → IsWanted P Z (w.text ∷ []) wrong k)
    → First Q Y W K ws end breaks column kind → First P X Z H (w ∷ ws) end breaks column kind
behind P Q X Y Z W H K w ws end breaks column kind back forth with unwith last unlast starts head r =
    record {
      before = w ∷ r.before;
      after = r.after;
      parts = ap (λ (x : List Word). w ∷ x) r.parts;
      place = r.place;
      starts = inr (starts_behind P Q X Y w forth with starts r.before r.starts);
      none = λ whole. none_behind P Q w.text (texts r.before) r.after back (r.none whole);
      read = read_behind X Y w.text (texts r.before) r.after unwith r.read;
      told = told_behind P Q Z W H K w breaks back forth last unlast head r.before r.after kind r.told;
    }

-- ---- where the next word isn't one of some

next_stays : (test : List ℕ → Bool) (b : Word) (bs ws : List Word) (ts : List (List ℕ)) → is_next test ((b ∷ bs) ++ ws) ≡ false → begins test (texts (b ∷ bs) ++ ts) ≡ false
next_stays test b bs ws ts e = e

pub may_stay : (P Q : Lines) → ((ts : List (List ℕ)) → Q ts → P ts) → (front : List (List ℕ)) (word : List ℕ) → MayStand Q front word → MayStand P front word
may_stay P Q forth front word m = (m.0, forth (front ++ word ∷ m.0) m.1)

pub text_stays : (P Q Z W : Lines) → ((ts : List (List ℕ)) → Q ts → P ts) → (front : List (List ℕ)) (wrong : List ℕ) → IsWanted Q W front wrong kinds.Text → IsWanted P Z front wrong kinds.Text
text_stays P Q Z W forth front wrong i = (i.0, i.1, i.2, i.3, may_stay P Q forth front i.0 i.4)

pub path_stays : (P Q Z W : Lines) → ((ts : List (List ℕ)) → Q ts → P ts) → (front : List (List ℕ)) (wrong : List ℕ) → IsWanted Q W front wrong kinds.Path → IsWanted P Z front wrong kinds.Path
path_stays P Q Z W forth front wrong (inl i) = inl (λ word e. may_stay P Q forth front word (i word e))
path_stays P Q Z W forth front wrong (inr i) = inr (λ word e. may_stay P Q forth front word (i word e))

none_stands_stay : (P Q : Lines) (test : List ℕ → Bool) (front : List (List ℕ)) → ((word : List ℕ) (more : List (List ℕ)) → P (front ++ word ∷ more) → Q (front ++ word ∷ more)) → NoneStands Q test front → NoneStands P test front
none_stands_stay P Q test front back n = λ word is m. n word is (m.0, back word m.0 m.1)

wanted_stays : (P Q Z W : Lines) → ((ts : List (List ℕ)) → Q ts → P ts) → ((ts : List (List ℕ)) → W ts → Z ts) → (front : List (List ℕ)) (wrong : List ℕ) (kind : Kind) → (Z front → W front)
    → ((word : List ℕ) (more : List (List ℕ)) → P (front ++ word ∷ more) → Q (front ++ word ∷ more)) → IsWanted Q W front wrong kind → IsWanted P Z front wrong kind
wanted_stays P Q Z W forth last front wrong kinds.Count unlast back i = (forth front i.0, λ word m. i.1 word (m.0, back word m.0 m.1), λ z. i.2 (unlast z))
wanted_stays P Q Z W forth last front wrong kinds.Word unlast back i =
    ((i.0.0, i.0.1, may_stay P Q forth front i.0.0 i.0.2), none_stands_stay P Q is_quoted front back i.1, λ d. (none_stands_stay P Q begins_with_digit front back (i.2 d).0, λ z. (i.2 d).1 (unlast z)))
wanted_stays P Q Z W forth last front wrong kinds.Number unlast back (inl i, q, d) =
    (inl (i.0, i.1, i.2, may_stay P Q forth front i.0 i.3), none_stands_stay P Q is_quoted front back q, λ e. none_stands_stay P Q is_lettered front back (d e))
wanted_stays P Q Z W forth last front wrong kinds.Number unlast back (inr i, q, d) =
    (inr (last front i), none_stands_stay P Q is_quoted front back q, λ e. none_stands_stay P Q is_lettered front back (d e))
wanted_stays P Q Z W forth last front wrong kinds.Path unlast back i = path_stays P Q Z W forth front wrong i
wanted_stays P Q Z W forth last front wrong kinds.Text unlast back i = text_stays P Q Z W forth front wrong i
wanted_stays P Q Z W forth last front wrong kinds.Mode unlast back i = absurd i
wanted_stays P Q Z W forth last front wrong kinds.Actors unlast back i = absurd i

told_stays : (P Q Z W : Lines) (H K : List ℕ → Kind → Type 0) (test : List ℕ → Bool) (breaks : Option ℕ) → ((ts : List (List ℕ)) → begins test ts ≡ false → P ts → Q ts) → ((ts : List (List ℕ)) → Q ts → P ts) → ((ts : List (List ℕ)) → W ts → Z ts) → ((ts : List (List ℕ)) → begins test ts ≡ false → Z ts → W ts)
    → ((wrong : List ℕ) → test wrong ≡ false → (kind : Kind) → K wrong kind → H wrong kind) → (before after : List Word) (kind : Kind) → is_next test (before ++ after) ≡ false → Told Q W K before after breaks kind → Told P Z H before after breaks kind
told_stays P Q Z W H K test breaks back forth last unlast head before [] kind e t = t
told_stays P Q Z W H K test breaks back forth last unlast head [] (v ∷ vs) kind e t = head v.text e kind t
told_stays P Q Z W H K test breaks back forth last unlast head (b ∷ bs) (v ∷ vs) kind e t =
    wanted_stays P Q Z W forth last (texts (b ∷ bs)) v.text kind (unlast (texts (b ∷ bs)) e) (λ word more. back (texts (b ∷ bs) ++ word ∷ more) (next_stays test b bs (v ∷ vs) (word ∷ more) e)) t

none_stays : (P Q : Lines) (test : List ℕ → Bool) → ((ts : List (List ℕ)) → begins test ts ≡ false → P ts → Q ts) → (before after : List Word) → is_next test (before ++ after) ≡ false → NoneGoesOn Q (texts before) after → NoneGoesOn P (texts before) after
none_stays P Q test back [] [] e n = λ p. n (back [] refl p)
none_stays P Q test back [] (w ∷ ws) e n = λ m. n (m.0, back (w.text ∷ m.0) e m.1)
none_stays P Q test back (b ∷ bs) [] e n = λ p. n (back (texts (b ∷ bs)) e p)
none_stays P Q test back (b ∷ bs) (w ∷ ws) e n = λ m. n (m.0, back (texts (b ∷ bs) ++ w.text ∷ m.0) e m.1)

starts_stay : (P Q X Y : Lines) → ((ts : List (List ℕ)) → Q ts → P ts) → ((ts : List (List ℕ)) → Y ts → X ts) → (before : List Word)
    → (before ≡ []) ⊎ (BeginsOne Q (texts before) ⊎ Y (texts before)) → (before ≡ []) ⊎ (BeginsOne P (texts before) ⊎ X (texts before))
starts_stay P Q X Y forth with before (inl e) = inl e
starts_stay P Q X Y forth with before (inr (inl s)) = inr (inl (s.0, forth (texts before ++ s.0) s.1))
starts_stay P Q X Y forth with before (inr (inr x)) = inr (inr (with (texts before) x))

read_stays : (X Y : Lines) (test : List ℕ → Bool) → ((ts : List (List ℕ)) → begins test ts ≡ false → X ts → Y ts) → (before after : List Word) → is_next test (before ++ after) ≡ false → NotExcepted Y (texts before) after → NotExcepted X (texts before) after
read_stays X Y test unwith before [] e n = tt
read_stays X Y test unwith [] (w ∷ ws) e n = λ x. n (unwith (w.text ∷ []) e x)
read_stays X Y test unwith (b ∷ bs) (w ∷ ws) e n = λ x. n (unwith (texts (b ∷ bs) ++ w.text ∷ []) e x)

pub stays : (P Q X Y Z W : Lines) (H K : List ℕ → Kind → Type 0) (test : List ℕ → Bool) (ws : List Word) (end : ℕ) (breaks : Option ℕ) (column : ℕ) (kind : Kind)
    → is_next test ws ≡ false → ((ts : List (List ℕ)) → begins test ts ≡ false → P ts → Q ts) → ((ts : List (List ℕ)) → Q ts → P ts) → ((ts : List (List ℕ)) → Y ts → X ts) → ((ts : List (List ℕ)) → begins test ts ≡ false → X ts → Y ts)
    → ((ts : List (List ℕ)) → W ts → Z ts) → ((ts : List (List ℕ)) → begins test ts ≡ false → Z ts → W ts)
    → ((wrong : List ℕ) → test wrong ≡ false → (k : Kind) → K wrong k → H wrong k)
    → First Q Y W K ws end breaks column kind → First P X Z H ws end breaks column kind
stays P Q X Y Z W H K test ws end breaks column kind e back forth with unwith last unlast head r =
    let e' : is_next test (r.before ++ r.after) ≡ false = ap (is_next test) (sym r.parts) ∙ e in
    record {
      before = r.before;
      after = r.after;
      parts = r.parts;
      place = r.place;
      starts = starts_stay P Q X Y forth with r.before r.starts;
      none = λ whole. none_stays P Q test back r.before r.after e' (r.none whole);
      read = read_stays X Y test unwith r.before r.after e' r.read;
      told = told_stays P Q Z W H K test breaks back forth last unlast head r.before r.after kind e' r.told;
    }

-- ---- nothing stands before it

-- the kind of a fault
pub of_kind : {A : Type 0} (d : Fault) (column : ℕ) (kind : Kind) → (let r : Result A Fault = Err d in r) ≡ Err (column, kind) → d.1 ≡ kind
of_kind d column kind e = cc

pub at_end : (P X Z : Lines) (H : List ℕ → Kind → Type 0) (end : ℕ) (breaks : Option ℕ) (column : ℕ) (kind : Kind) → end + 1 ≡ column → end_kind breaks ≡ kind → (P [] → ⊥) → First P X Z H [] end breaks column kind
at_end P X Z H end breaks column kind e k never = record { before = []; after = []; parts = refl; place = sym e; starts = inl refl; none = λ whole. never; read = tt; told = sym k }

pub at_word : (P X Z : Lines) (H : List ℕ → Kind → Type 0) (w : Word) (ws : List Word) (end : ℕ) (breaks : Option ℕ) (column : ℕ) (kind : Kind) → w.at + 1 ≡ column → H w.text kind → (MayStand P [] w.text → ⊥) → (X (w.text ∷ []) → ⊥) → First P X Z H (w ∷ ws) end breaks column kind
at_word P X Z H w ws end breaks column kind e h never free = record { before = []; after = w ∷ ws; parts = refl; place = sym e; starts = inl refl; none = λ whole. never; read = free; told = h }

-- ---- what the head of a form tells, behind a word

over : (f : Form) → counts f ≡ true → Whole f [] × ((word : List ℕ) → MayStand (Whole f) [] word → ⊥)
over (ends kind said) e = ((said, (refl, refl)), λ word m. let n = m.1.1.0 in absurd cc)
over nothing e = absurd cc
over (either word so other) e = absurd cc
over (a_number slot next) e = absurd cc
over (a_path next) e = absurd cc
over (a_name next) e = absurd cc
over (some_rights next) e = absurd cc
over (a_text slot next) e = absurd cc
over (perhaps word slot next) e = absurd cc
over (servers_above all last next) e = absurd cc

-- a number may stand there, or the last is behind it
number_or_last : (Z : Lines) (f : Form) (t : List ℕ) → (full f ≡ true) ⊎ Z (t ∷ []) → (full f ≡ false) ⊎ ((word : List ℕ) × (n : ℕ) × (number_of word ≡ Some n) × MayStand (Whole f) [] word)
    → ((word : List ℕ) × (n : ℕ) × (number_of word ≡ Some n) × MayStand (Whole f) [] word) ⊎ Z (t ∷ [])
number_or_last Z f t (inl fits) (inl un) = absurd (false≢true (sym un ∙ fits))
number_or_last Z f t (inr last) (inl un) = inr last
number_or_last Z f t fits (inr i) = inl i

number_behind : (P Z : Lines) (f : Form) (t : List ℕ) → ((ts : List (List ℕ)) → Whole f ts → P (t ∷ ts)) → ((word : List ℕ) × (n : ℕ) × (number_of word ≡ Some n) × MayStand (Whole f) [] word) ⊎ Z (t ∷ [])
    → ((word : List ℕ) × (n : ℕ) × (number_of word ≡ Some n) × MayStand P (t ∷ []) word) ⊎ Z (t ∷ [])
number_behind P Z f t forth (inl i) = inl (i.0, i.1, i.2, may_behind P (Whole f) t forth [] i.0 i.3)
number_behind P Z f t forth (inr last) = inr last

counts_no_number : (f : Form) → counts f ≡ true → tells_number f ≡ true → ⊥
counts_no_number (ends kind said) c n = absurd cc
counts_no_number nothing c n = absurd cc
counts_no_number (either word so other) c n = absurd cc
counts_no_number (a_number slot next) c n = absurd cc
counts_no_number (a_path next) c n = absurd cc
counts_no_number (a_name next) c n = absurd cc
counts_no_number (some_rights next) c n = absurd cc
counts_no_number (a_text slot next) c n = absurd cc
counts_no_number (perhaps word slot next) c n = absurd cc
counts_no_number (servers_above all last next) c n = absurd cc

pub resolved : (P Z : Lines) (f : Form) (t : List ℕ) → ((ts : List (List ℕ)) → P (t ∷ ts) → Whole f ts) → ((ts : List (List ℕ)) → Whole f ts → P (t ∷ ts)) → settled f ≡ true → (full f ≡ true) ⊎ Z (t ∷ [])
    → (Z (t ∷ []) → tells_number f ≡ true) → (wrong : List ℕ) (kind : Kind) → AtHead f wrong kind → IsWanted P Z (t ∷ []) wrong kind
resolved P Z f t back forth set fits tells wrong kinds.Word (inl un) = absurd (false≢true (sym un ∙ set))
resolved P Z f t back forth set fits tells wrong kinds.Word (inr (i, q, d, n)) =
    ((i.0, i.1, may_behind P (Whole f) t forth [] i.0 i.2), none_stands_behind P (Whole f) is_quoted t back [] q, λ e. (none_stands_behind P (Whole f) begins_with_digit t back [] (d e), λ z. false≢true (sym (n (tells z)) ∙ e)))
resolved P Z f t back forth set fits tells wrong kinds.Number (told, number, q, d) =
    (number_behind P Z f t forth (number_or_last Z f t fits number), none_stands_behind P (Whole f) is_quoted t back [] q, λ e. none_stands_behind P (Whole f) is_lettered t back [] (d e))
resolved P Z f t back forth set fits tells wrong kinds.Text i = text_behind P (Whole f) Z Nowhere t forth [] wrong i
resolved P Z f t back forth set fits tells wrong kinds.Path i = path_behind P (Whole f) Z Nowhere t forth [] wrong i
resolved P Z f t back forth set fits tells wrong kinds.Count c =
    let o = over f c in
    (forth [] o.0, λ word m. o.1 word (m.0, back (word ∷ m.0) m.1), λ z. counts_no_number f c (tells z))
resolved P Z f t back forth set fits tells wrong kinds.Mode h = absurd h
resolved P Z f t back forth set fits tells wrong kinds.Actors h = absurd h

-- ---- a word with a value

pub begun : (X : Lines) (w : List ℕ) (f : Form) → IsClear f → (lives f ≡ true) ⊎ X (w ∷ []) → BeginsOne (Whole f) [] ⊎ X (w ∷ [])
begun X w f clear (inl e) = inl (alive f clear e)
begun X w f clear (inr x) = inr x

pub slot_first : {A : Type 0} (X Z : Lines) (f : Form) (kind : Kind) (value : List ℕ → Option A) (next : A → Form) (ws : List Word) (end : ℕ) (breaks : Option ℕ) (column : ℕ) (k : Kind)
    → ((ts : List (List ℕ)) (line : Line) → Spells f ts line → SpellsSlot value next ts line) → ((ts : List (List ℕ)) (line : Line) → SpellsSlot value next ts line → Spells f ts line)
    → ((wrong : List ℕ) → AtHead f wrong kind) → ((w : List ℕ) → value w ≡ None → X (w ∷ []) → ⊥)
    → ((w : List ℕ) (x : A) → value w ≡ Some x → (BeginsOne (Whole (next x)) [] ⊎ X (w ∷ [])) × (settled (next x) ≡ true) × ((full (next x) ≡ true) ⊎ Z (w ∷ [])) × (Z (w ∷ []) → tells_number (next x) ≡ true))
    → (slot_at kind value (split ws end breaks) >>= (λ n. read (next n.0) n.1)) ≡ Err (column, k)
    → ((w : List ℕ) (x : A) → value w ≡ Some x → (rest : List Word) → read (next x) (split rest end breaks) ≡ Err (column, k) → First (Whole (next x)) (λ ts. X (w ∷ ts)) (λ ts. Z (w ∷ ts)) (AtHead (next x)) rest end breaks column k)
    → First (Whole f) X Z (AtHead f) ws end breaks column k
unfolding slot_at
slot_first X Z f kind value next [] end breaks column k same again head free good e rec =
    at_end (Whole f) X Z (AtHead f) end breaks column k (faulty (missing (split [] end breaks)) column k e) (of_kind (missing (split [] end breaks)) column k e) (λ p. let t = same [] p.0 p.1 in absurd (let n = t.2 in cc))
slot_first {A} X Z f kind value next (w ∷ ws) end breaks column k same again head free good e rec =
    elim (cases_option (value w.text)) [
      | inl none ↦
          let e' : (let r : Result Line Fault = Err (w.at + 1, kind) in r) ≡ Err (column, k) = rw none at e in
          at_word (Whole f) X Z (AtHead f) w ws end breaks column k (faulty (w.at + 1, kind) column k e') (subst (AtHead f w.text) (of_kind (w.at + 1, kind) column k e') (head w.text)) (λ m.
          let t = same (w.text ∷ m.0) m.1.0 m.1.1 in
          none_some t.3 (sym none ∙ ap value (head_is w.text t.0 m.0 t.1 t.2) ∙ t.4)) (free w.text none)
      | inr some ↦
          let x = some.0 in
          let g = good w.text x some.1 in
          let back : (ts : List (List ℕ)) → Whole f (w.text ∷ ts) → Whole (next x) ts = λ ts p.
          let t = same (w.text ∷ ts) p.0 p.1 in
          let y : t.3 ≡ x = some_is t.3 x (sym t.4 ∙ ap value (sym (head_is w.text t.0 ts t.1 t.2)) ∙ some.1) in
          (p.0, subst (λ (z : A). Spells (next z) ts p.0) y (subst (λ (us : List (List ℕ)). Spells (next t.3) us p.0) (sym (tail_is w.text t.0 ts t.1 t.2)) t.5)) in
          let forth : (ts : List (List ℕ)) → Whole (next x) ts → Whole f (w.text ∷ ts) = λ ts p. (p.0, again (w.text ∷ ts) p.0 (w.text, ts, refl, x, some.1, p.1)) in
          behind (Whole f) (Whole (next x)) X (λ ts. X (w.text ∷ ts)) Z (λ ts. Z (w.text ∷ ts)) (AtHead f) (AtHead (next x)) w ws end breaks column k back forth (λ ts y. y) (λ ts y. y) (λ ts y. y) (λ ts y. y) g.0
          (resolved (Whole f) Z (next x) w.text back forth g.1 g.2 g.3) (rec w.text x some.1 ws (rw some.1 at e))
    ]

-- ---- what the head of a form tells

pub is_given : {A : Type 0} (o : Option A) → is_some o ≡ true → (x : A) × (o ≡ Some x)
is_given (Some x) e = (x, refl)
is_given None e = absurd cc

numeral : (slot : NumberSlot) → Holds slot (least slot) → (n : ℕ) × (number_of (number_text slot (least slot)) ≡ Some n)
unfolding number_from
numeral (between low high) h = (low, number_again low h.1)
numeral octal h = (0, refl)

-- a number or a mode that is wanted
pub number_head : (slot : NumberSlot) (next : ℕ → Form) → ((n : ℕ) → IsClear (next n)) → (wrong : List ℕ) → AtHead (a_number slot next) wrong kinds.Number
number_head slot next clear wrong =
    (refl, some, λ word q m. digit_unquoted word (begun_so word m.0 m.1.0 m.1.1) q, λ d word l m. digit_unlettered word (begun_so word m.0 m.1.0 m.1.1) l)
  where
    begun_so : (word : List ℕ) (more : List (List ℕ)) (line : Line) → Spells (a_number slot next) (word ∷ more) line → begins_with_digit word ≡ true
    begun_so word more line s = number_begins slot word s.3 (ap (number_in slot) (head_is word s.0 more s.1 s.2) ∙ s.4)

    some : (full (a_number slot next) ≡ false) ⊎ ((word : List ℕ) × (n : ℕ) × (number_of word ≡ Some n) × MayStand (Whole (a_number slot next)) [] word)
    some =
        elim (cases_is (holds_one slot && lives (next (least slot)))) [
          | inr none ↦ inl none
          | inl one ↦
              let n = least slot in
              let held = least_held slot (and_left (holds_one slot) (lives (next n)) one) in
              let a = alive (next n) (clear n) (and_right (holds_one slot) (lives (next n)) one) in
              let k = numeral slot held in
              inr (number_text slot n, k.0, k.1, (a.0, (a.1.0, (number_text slot n, a.0, refl, n, number_again_in slot n held, a.1.1))))
        ]

-- no word that begins a form so may stand there
pub none_avoided : (f : Form) (test : List ℕ → Bool) → avoids test f ≡ true → NoneStands (Whole f) test []
none_avoided f test a = λ word is m. false≢true (sym (avoided f test (word ∷ m.0) m.1.0 a m.1.1) ∙ is)

-- some form's words are those of another, but where one word begins them
pub stays_head : (f g : Form) → ((ts : List (List ℕ)) → Whole g ts → Whole f ts) → ((wrong : List ℕ) → WordAtHead f wrong) → tells_number g ≡ false → counts g ≡ false
    → (wrong : List ℕ) (kind : Kind) → AtHead g wrong kind → AtHead f wrong kind
stays_head f g forth word untold uncounted wrong kinds.Word h = inr (word wrong)
stays_head f g forth word untold uncounted wrong kinds.Number h = absurd (false≢true (sym untold ∙ h.0))
stays_head f g forth word untold uncounted wrong kinds.Text i = text_stays (Whole f) (Whole g) Nowhere Nowhere forth [] wrong i
stays_head f g forth word untold uncounted wrong kinds.Path i = path_stays (Whole f) (Whole g) Nowhere Nowhere forth [] wrong i
stays_head f g forth word untold uncounted wrong kinds.Count c = absurd (false≢true (sym uncounted ∙ c))
stays_head f g forth word untold uncounted wrong kinds.Mode h = absurd h
stays_head f g forth word untold uncounted wrong kinds.Actors h = absurd h
