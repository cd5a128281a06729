-- The first wrong column of a line and what is wrong there, by what lines there are: some line begins with the words
-- before it, and none goes on as this one does.
use Rattle.std.specs.Prelude.{◌≡◌, codes, ℕ, ◌⊎◌, Bool, true, false, ◌&&◌, nat_le, List, [], ◌∷◌, ◌++◌, map, if◌then◌else◌, Option, Some, None, Err, is_some}
use Rattle.std.specs.List.{list_all}
use Rattle.coda_engine.specs.declared.status.Kind.{Kind}
use Rattle.coda_engine.specs.declared.status.Kind.TheVariants.{Word, Number, Text, Path, Count, Mode, Actors}
use Rattle.coda_text.specs.Numbers.{number_of, begins_with_digit}
use Rattle.coda_text.specs.Texts.{is_quoted}
use Rattle.coda_text.specs.Words.{Split, Word as AWord, split_of}
use Rattle.coda_script.specs.declared.line.Line.{Line}
use Rattle.coda_script.specs.FirstWrong.{column_of}
use Rattle.coda_script.specs.Lines.{line_of}
use Rattle.coda_script.specs.Slots.{between, number_in, path_in, name_in}
use Rattle.coda_script.specs.Spelling.{Spells, SpellsLine, words_of}
use Rattle.coda_script.specs.Table.{script}

-- ---- what is a line

-- the words are a line of the table
abbrev pub IsTabled : List (List ℕ) → Type 0
IsTabled ws = (line : Line) × Spells script ws line

-- the words have that property, or those behind some threads, each of which is named by `at T`
abbrev pub BehindThreads : (List (List ℕ) → Type 0) → List (List ℕ) → Type 0
BehindThreads Rest [] = Rest []
BehindThreads Rest (w ∷ []) = Rest (w ∷ [])
BehindThreads Rest (w ∷ v ∷ ws) =
    Rest (w ∷ v ∷ ws) ⊎ ((w ≡ codes "at") × (is_some (number_in (between 1 8) v) ≡ true) × BehindThreads Rest ws)

-- the words are a line, whether or not it may stand there: one of the table, behind any number of threads
abbrev pub IsFormed : List (List ℕ) → Type 0
IsFormed ws = BehindThreads IsTabled ws

-- `resolve V 8`, which no line begins with: a second server is wanted above the first, and none is above 8
abbrev pub IsAtLastServer : List (List ℕ) → Type 0
IsAtLastServer ws =
    (v : List ℕ) × (s : List ℕ) × (ws ≡ codes "resolve" ∷ v ∷ s ∷ [])
    × (is_some (number_in (between 1 4294967295) v) ≡ true) × (number_in (between 1 8) s ≡ Some 8)

-- Words as those of a `volume` or a `resolve` line up to server 8, above which there is none; whether they begin a line
-- isn't asked here.
abbrev pub EndsAtLastServer : List (List ℕ) → Type 0
EndsAtLastServer ws =
    (v : List ℕ) × (servers : List (List ℕ)) × (s : List ℕ)
    × ((ws ≡ codes "volume" ∷ v ∷ codes "on" ∷ (servers ++ s ∷ [])) ⊎ (ws ≡ codes "resolve" ∷ v ∷ (servers ++ s ∷ [])))
    × (list_all begins_with_digit servers ≡ true) × (number_of s ≡ Some 8)

-- ---- of any lines, what begins one

-- one of the lines begins with the words
abbrev pub BeginsOne : (List (List ℕ) → Type 0) → List (List ℕ) → Type 0
BeginsOne Lines ws = (more : List (List ℕ)) × Lines (ws ++ more)

-- one of the lines begins with the words and that one
abbrev pub MayStand : (List (List ℕ) → Type 0) → List (List ℕ) → List ℕ → Type 0
MayStand Lines front word = (more : List (List ℕ)) × Lines (front ++ word ∷ more)

-- no line begins with these words and the next one; where none is next, they are no line
abbrev pub NoneGoesOn : (List (List ℕ) → Type 0) → List (List ℕ) → List AWord → Type 0
NoneGoesOn Lines front [] = Lines front → ⊥
NoneGoesOn Lines front (w ∷ ws) = MayStand Lines front w.text → ⊥

-- no word that the test holds of may stand behind the words
abbrev pub NoneStands : (List (List ℕ) → Type 0) → (List ℕ → Bool) → List (List ℕ) → Type 0
NoneStands Lines test front = (word : List ℕ) → test word ≡ true → MayStand Lines front word → ⊥

-- ---- what is wrong

-- a word of lower-case letters, as each fixed word is
abbrev pub is_lettered : List ℕ → Bool
is_lettered word = list_all (λ b. nat_le 97 b && nat_le b 122) word

-- What was wanted behind the words, in place of one that is wrong there, of these lines. Words that are `Last` end at a
-- number above which there is none.
abbrev pub IsWanted : (Lines Last : List (List ℕ) → Type 0) → List (List ℕ) → List ℕ → Kind → Type 0
-- nothing: the words before it are a line, and no line begins with them and one more
IsWanted Lines Last front wrong Count =
    Lines front × ((word : List ℕ) → MayStand Lines front word → ⊥) × (Last front → ⊥)
-- a fixed word: some word of letters may stand there and no quoted one, nor one that begins with a digit as this does
IsWanted Lines Last front wrong Word =
    ((word : List ℕ) × (is_lettered word ≡ true) × MayStand Lines front word)
    × NoneStands Lines is_quoted front
    × (begins_with_digit wrong ≡ true → NoneStands Lines begins_with_digit front × (Last front → ⊥))
-- a number: some may stand there and no quoted word, nor one of letters but where this begins with a digit
IsWanted Lines Last front wrong Number =
    (((word : List ℕ) × (n : ℕ) × (number_of word ≡ Some n) × MayStand Lines front word) ⊎ Last front)
    × NoneStands Lines is_quoted front
    × (begins_with_digit wrong ≡ false → NoneStands Lines is_lettered front)
-- any path, or any name
IsWanted Lines Last front wrong Path =
    ((word : List ℕ) → is_some (path_in word) ≡ true → MayStand Lines front word)
    ⊎ ((word : List ℕ) → is_some (name_in word) ≡ true → MayStand Lines front word)
-- a text: some quoted word that is neither
IsWanted Lines Last front wrong Text =
    (word : List ℕ) × (is_quoted word ≡ true) × (path_in word ≡ None) × (name_in word ≡ None)
    × MayStand Lines front word
IsWanted Lines Last front wrong Mode = ⊥
IsWanted Lines Last front wrong Actors = ⊥

-- the kind is what is wrong behind the words: where no word is left, one is missing, or what begins there is none
abbrev pub IsToldAs : (Lines Last : List (List ℕ) → Type 0) → List (List ℕ) → List AWord → Option ℕ → Kind → Type 0
IsToldAs Lines Last front [] breaks kind = kind ≡ (if is_some breaks then Text else Count)
IsToldAs Lines Last front (w ∷ ws) breaks kind = IsWanted Lines Last front w.text kind

-- ---- the law

-- the next word isn't the 8 of `resolve V 8`, which is no wrong one
abbrev pub IsNotLastServer : List (List ℕ) → List AWord → Type 0
IsNotLastServer front [] = Unit {0}
IsNotLastServer front (w ∷ ws) = BehindThreads IsAtLastServer (front ++ w.text ∷ []) → ⊥

-- The column is that of a word, or the one behind the line, or that of what is no word. Some line begins with the words
-- before it, but for `resolve V 8`, whose 8 is read all the same. None begins with those and the word at it, and where
-- the line ends there they are no line.
pub record IsFirstColumn (split : Split) (column : ℕ) (kind : Kind) : Type 0 where
  pub before : List AWord
  pub after : List AWord
  pub parts : split.words ≡ before ++ after
  pub place : column ≡ column_of split.end after
  pub starts : BeginsOne IsFormed (map (λ w. w.text) before) ⊎ BehindThreads IsAtLastServer (map (λ w. w.text) before)
  pub none : (after ≡ [] → split.breaks ≡ None) → NoneGoesOn IsFormed (map (λ w. w.text) before) after
  pub read : IsNotLastServer (map (λ w. w.text) before) after
  pub told : IsToldAs IsFormed (BehindThreads EndsAtLastServer) (map (λ w. w.text) before) after split.breaks kind

-- The words are a line which may not stand there: behind several threads, or in a thread without being what a client
-- does.
pub record IsMisplaced (line : List ℕ) (column : ℕ) (kind : Kind) : Type 0 where
  pub place : column ≡ 1
  pub told : kind ≡ Mode
  pub whole : (split_of line).breaks ≡ None
  pub formed : IsFormed (words_of line)
  pub none : (said : Line) → SpellsLine (words_of line) said → ⊥

-- Where a line is wrong at a column, that is the first that is wrong; or it is a line and may not stand there.
abbrev pub WrongColumnsAreFirst : Type 0
WrongColumnsAreFirst =
    (line : List ℕ) (column : ℕ) (kind : Kind) → line_of line ≡ Err (column, kind)
    → IsFirstColumn (split_of line) column kind ⊎ IsMisplaced line column kind
