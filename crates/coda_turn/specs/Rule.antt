-- The rule of a turn's table: one word, one slot, one history.
use Rattle.std.specs.Prelude.{◌≡◌, ◌<◌, ◌≤◌, ◌==◌, ℕ, suc, ◌+◌, ◌*◌, ◌%◌, ◌^◌, List, [], ◌∷◌, length, Bool, true, false, cond, Option, Some, None, slice_get}
use Rattle.std.specs.List.{sum_by, count_by}
use mathlib.Core.Option.{some, none}
use mathlib.Core.List.{IsPrefix}
use lib.ListN.{get_elem?}
use Rattle.atomic_table.specs.Table.{State}
use Rattle.coda_turn.specs.declared.view.View.{View}

-- x is among these
abbrev pub Has : {A : Type 0} → List A → A → Type 0
Has xs x = (k : ℕ) × (slice_get xs k ≡ Some x)

-- how many calls of a list have the place k
abbrev pub times : {E : Type 0} → ℕ → List (ℕ × E) → ℕ
times k calls = count_by (λ c. c.0 == k) calls

-- these entries, with their places from n on
abbrev pub placed : {E : Type 0} → ℕ → List E → List (ℕ × E)
placed n [] = []
placed n (e ∷ es) = (n, e) ∷ placed (suc n) es

module _ {E : Type 0} where
  -- each call stands in the history, at its place
  abbrev pub StandInHistory : List E → List (ℕ × E) → Type 0
  StandInHistory log calls = (c : ℕ × E) → Has calls c → slice_get log c.0 ≡ Some c.1

-- the word while the history is at rest, and while a seat has taken it
abbrev pub word_of : {E : Type 0} → Bool → List E → ℕ
word_of taken log = (2 * length log) % 2 ^ 64 + cond taken 1 0

module _ {O E : Type 0} where
  -- a pass that has seen the history xs, which began with s entries, and made no call
  abbrev pub fresh : Option O → ℕ → List E → ℕ → View O E
  fresh o s xs parts = record { opening = o; start = s; seen = xs; mine = []; parts = parts; held = []; met = []; aside = []; holding = None }

  -- the first seat
  abbrev pub newcomer : O → List E → View O E
  newcomer o xs = fresh (Some o) (length xs) xs (2 ^ 32)

  -- a seat that was taken in by another
  abbrev pub nobody : View O E
  nobody = fresh None 0 [] 0

  -- another seat than j has held w
  abbrev pub Elsewhere : List (View O E) → ℕ → ℕ → Type 0
  Elsewhere views j w = (i : ℕ) × (v : View O E) × (get_elem? views i ≡ some v) × (i ≡ j → ⊥) × Has v.held w

  -- What a seat knows is so: how the turn was opened, that the history begins with what it saw and with what it keeps aside,
  -- that its entries stand there. A seat that holds the turn has the whole history, and one without parts is spent.
  pub record IsLawful (o : O) (start : ℕ) (log : List E) (taken : Bool) (holder j : ℕ) (v : View O E) : Type 0 where
    pub opening : 0 < v.parts → (v.opening ≡ Some o) × (v.start ≡ start)
    pub seen : IsPrefix v.seen log
    pub aside : IsPrefix v.aside log
    pub mine : StandInHistory log v.mine
    pub holding : (b : List E) → v.holding ≡ Some b → (b ≡ log) × (taken ≡ true) × (j ≡ holder)
    pub spent : v.parts ≡ 0 → v ≡ nobody

  -- the seat that holds
  abbrev pub Holds : List (View O E) → List E → ℕ → Type 0
  Holds views log holder = (v : View O E) × (get_elem? views holder ≡ some v) × (v.holding ≡ Some log) × Has v.held (word_of true log)

module _ {S O E : Type 0} (opening : S → O) (entries : S → List E) where
  -- a state with this opening and this history is at home, unless it was taken
  abbrev pub IsHome : Bool → O → List E → List (mathlib.Core.Option.Option (Option S)) → Type 0
  IsHome true o log homes = homes ≡ none ∷ []
  IsHome false o log homes = (state : S) × (homes ≡ some (Some state) ∷ []) × (opening state ≡ o) × (entries state ≡ log)

-- There is one history. It begins with the entries that there were at first; the word is twice its length, and one more
-- while a seat has taken the turn; the state with this history is at home unless it is taken; each seat's view is lawful;
-- each word that a seat met another has held; who has taken the turn holds it; the parts sum to 2^32; and no entry from
-- before is in a seat's own, and each later one in exactly one seat's.
pub record OneHistory {S O E : Type 0} (opening : S → O) (entries : S → List E) (begun : S) (s : State (Option S) (View O E)) : Type 0 where
  pub log : List E
  pub taken : Bool
  pub holder : ℕ
  pub begins : IsPrefix (entries begun) log
  pub words : s.words ≡ word_of taken log ∷ []
  pub home : IsHome opening entries taken (opening begun) log s.homes
  pub fits : (j : ℕ) (v : View O E) → get_elem? s.views j ≡ some v → IsLawful (opening begun) (length (entries begun)) log taken holder j v
  pub met : (j : ℕ) (v : View O E) → get_elem? s.views j ≡ some v → (w : ℕ) → Has v.met w → Elsewhere s.views j w
  pub holds : taken ≡ true → Holds s.views log holder
  pub parts : sum_by (λ (v : View O E). v.parts) s.views ≡ 2 ^ 32
  pub before : (k : ℕ) → k < length (entries begun) → sum_by (λ (v : View O E). times k v.mine) s.views ≡ 0
  pub once : (k : ℕ) → length (entries begun) ≤ k → k < length log → sum_by (λ (v : View O E). times k v.mine) s.views ≡ 1
