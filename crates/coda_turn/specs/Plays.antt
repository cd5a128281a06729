-- How views are split and joined, and what each step tells.
use Rattle.std.specs.Prelude.{◌≡◌, ◌<◌, ◌≤◌, ◌==◌, ℕ, ◌+◌, ◌-◌, ◌%◌, ◌⊎◌, List, [], ◌∷◌, ◌++◌, length, drop, Bool, true, false, cond, ◌||◌, Option, Some, None}
use mathlib.Core.List.{IsPrefix}
use Rattle.atomic_table.specs.Table.{Me, Step}
use Rattle.coda_turn.specs.declared.view.View.{View}
use Rattle.coda_turn.specs.Rule.{StandInHistory, times, placed, fresh, word_of}

-- w is one of these
abbrev pub stands : List ℕ → ℕ → Bool
stands [] w = false
stands (x ∷ xs) w = (x == w) || stands xs w

-- the words of `met` that are not among `held`
abbrev pub unmet : List ℕ → List ℕ → List ℕ
unmet [] held = []
unmet (x ∷ xs) held = cond (stands held x) (unmet xs held) (x ∷ unmet xs held)

module _ {O E : Type 0} where
  -- a seat that gave one part away
  abbrev pub kept_part : View O E → View O E
  kept_part v = record v { parts = v.parts - 1 }

  -- the seat that got it: it has seen as much, and added nothing
  abbrev pub given_part : View O E → View O E
  given_part v = fresh v.opening v.start v.seen 1

  -- two seats as one; what the other had seen is kept aside until the next look
  abbrev pub joined : View O E → View O E → View O E
  joined v w = record v { parts = v.parts + w.parts; mine = v.mine ++ w.mine; held = v.held ++ w.held; met = unmet v.met w.held; aside = w.seen }

  -- both lists that were seen begin the one that is kept, which is one of them
  abbrev pub Looked : View O E → View O E → Type 0
  Looked v w = (w ≡ record v { seen = w.seen; aside = [] }) × ((w.seen ≡ v.seen) ⊎ (w.seen ≡ v.aside)) × IsPrefix v.seen w.seen × IsPrefix v.aside w.seen

  -- what was added since the take is the seat's own
  abbrev pub after_leave : View O E → List E → List E → View O E
  after_leave v before after = record v { seen = after; mine = v.mine ++ placed (length before) (drop (length before) after); holding = None }

-- what a seat is: its view, and the slots that it holds
abbrev pub Seated : Type 0 → Type 0 → Type 0 → Type 0
Seated S O E = Me (Option S) (View O E)

module _ {S O E : Type 0} where
  -- a look tells the longer of what was seen and what is kept aside
  abbrev pub looked : Step (Option S) → Seated S O E → ℕ → Seated S O E → Type 0
  looked st m found m' = Looked m.0 m'.0 × (m'.1 ≡ m.1)

  -- another seat holds
  abbrev pub Meets : Seated S O E → ℕ → Seated S O E → Type 0
  Meets m found m' = m' ≡ (record m.0 { met = m.0.met ++ found ∷ [] }, m.1)

  -- the seat has the state, whose history begins with all that it had seen
  abbrev pub Takes : (S → O) → (S → List E) → Seated S O E → ℕ → Seated S O E → Type 0
  Takes opening entries m found m' = (state : S) × (m.0.opening ≡ Some (opening state)) × IsPrefix m.0.seen (entries state) × (found ≡ word_of false (entries state))
      × (m' ≡ (record m.0 { held = m.0.held ++ (found + 1) ∷ []; holding = Some (entries state) }, (0, Some state) ∷ []))

  -- a take has the state where the word that it found was even, and else meets another holder's word
  abbrev pub took : (S → O) → (S → List E) → Step (Option S) → Seated S O E → ℕ → Seated S O E → Type 0
  took opening entries st m found m' = (found % 2 ≡ 0 → Takes opening entries m found m') × (found % 2 ≡ 1 → Meets m found m')

  -- the state is given back, with what was added to it
  abbrev pub left : (S → List E) → Step (Option S) → Seated S O E → ℕ → Seated S O E → Type 0
  left entries st m found m' = (state : S) (before : List E) → m.1 ≡ (0, Some state) ∷ [] → m.0.holding ≡ Some before → m' ≡ (after_leave m.0 before (entries state), [])

-- the state that a turn is closed with, by a pass with all parts
pub record Closes {S O E : Type 0} (opening_of : S → O) (entries_of : S → List E) (v : View O E) (state : S) : Type 0 where
  pub opening : v.opening ≡ Some (opening_of state)
  pub seen : IsPrefix v.seen (entries_of state)
  pub begun : v.start ≤ length (entries_of state)
  pub stands : StandInHistory (entries_of state) v.mine
  pub before : (k : ℕ) → k < v.start → times k v.mine ≡ 0
  pub once : (k : ℕ) → v.start ≤ k → k < length (entries_of state) → times k v.mine ≡ 1

module _ {O E : Type 0} where
  -- the step was run on the history `log`, which begins with all that the pass had seen
  pub record Stepped {A : Type 0} (does : O → List E → E → A → Type 0) (lacks : A → Type 0) (v w : View O E) (answer : A) : Type 0 where
    pub opened : O
    pub log : List E
    pub opening : v.opening ≡ Some opened
    pub seen : IsPrefix v.seen log
    pub ran : ((e : E) × (w ≡ record v { seen = log ++ e ∷ []; mine = v.mine ++ (length log, e) ∷ []; held = v.held ++ word_of true log ∷ [] }) × does opened log e answer)
        ⊎ ((w ≡ record v { seen = log; held = v.held ++ word_of true log ∷ [] }) × lacks answer)
