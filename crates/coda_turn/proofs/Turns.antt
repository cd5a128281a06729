-- One whole call: take, out, run, in, leave.
use Rattle.std.proofs.Common.{◌≡◌, inl, inr, ⊎_elim, ℕ, ◌+◌, ◌*◌, ◌%◌, ◌^◌, ◌<◌, true, false, List, [], ◌∷◌, ◌++◌, length, drop, Option, Some, None, refl, sym, ap, ◌∙◌, subst, arith}
use Rattle.std.proofs.lemmas.List.{append-nil}
use mathlib.Core.Option.{none}
use mathlib.Core.List.{IsPrefix}
use Rattle.atomic_table.specs.Table.{Me, step, rest, Allows}
use Rattle.coda_turn.specs.declared.view.View.{View}
use Rattle.coda_turn.specs.Steps.{Ran}
use Rattle.coda_turn.specs.Rule.{placed, word_of, OneHistory}
use Rattle.coda_turn.specs.Plays.{Takes, after_leave, left, Stepped}
use Rattle.coda_turn.proofs.Views.{drop_front}
use Rattle.coda_turn.proofs.Moves.{leaves, first_of}

grown : {E A : Type 0} (does : List E → E → A → Type 0) (lacks : A → Type 0) (before after : List E) (answer : A) → Ran does lacks before after answer → (more : List E) × (after ≡ before ++ more)
grown does lacks before after answer ran =
    ⊎_elim
    (λ (t : (e : _) × (after ≡ before ++ e ∷ []) × does before e answer). (t.0 ∷ [], t.1))
    (λ (t : (after ≡ before) × lacks answer). ([], t.0 ∙ sym (append-nil before)))
    ran

module _ {S O E : Type 0} (opening_of : S → O) (entries_of : S → List E) where
  abbrev Seats : Type 0
  Seats = Me (Option S) (View O E)

  -- the seat has run its step and has put the state back
  pub record Ready (v : View O E) (found : ℕ) (before after : S) (m : Seats) : Type 0 where
    pub opening : v.opening ≡ Some (opening_of before)
    pub seen : IsPrefix v.seen (entries_of before)
    pub word : found ≡ word_of false (entries_of before)
    pub now : m ≡ (record v { held = v.held ++ (found + 1) ∷ []; holding = Some (entries_of before) }, (0, Some after) ∷ [])

  same_state : (a b : S) (l : List (ℕ × Option S)) → l ≡ (0, Some a) ∷ [] → l ≡ (0, Some b) ∷ rest l → a ≡ b
  unfolding first_of
  same_state a b l e e' =
      let p : first_of None l ≡ Some a = ap (first_of None) e in
      let q : first_of None l ≡ Some b = ap (first_of None) e' in
      cc

  pub ready : (m0 m1 m2 m3 : Seats) (found : ℕ) (before after : S) → Takes opening_of entries_of m0 found m1 → m1.1 ≡ (0, Some before) ∷ rest m1.1 → m2 ≡ (m1.0, (0, None) ∷ rest m1.1) → m3 ≡ (m2.0, (0, Some after) ∷ rest m2.1)
      → Ready m0.0 found before after m3
  ready m0 m1 m2 m3 found before after t out empty full =
      let same : t.0 ≡ before = same_state t.0 before m1.1 (ap (λ (m : Seats). m.1) t.4) out in
      let held : S → View O E = λ s. record m0.0 { held = m0.0.held ++ (found + 1) ∷ []; holding = Some (entries_of s) } in
      let second : m2 ≡ (held t.0, (0, None) ∷ []) = empty ∙ ap (λ (m : Seats). (m.0, (0, None) ∷ rest m.1)) t.4 in
      let third : m3 ≡ (held t.0, (0, Some after) ∷ []) = full ∙ ap (λ (m : Seats). (m.0, (0, Some after) ∷ rest m.1)) second in
      record {
        opening = t.1 ∙ ap (λ (s : S). Some (opening_of s)) same;
        seen = subst (λ (s : S). IsPrefix m0.0.seen (entries_of s)) same t.2;
        word = t.3 ∙ ap (λ (s : S). word_of false (entries_of s)) same;
        now = third ∙ ap (λ (s : S). (held s, (0, Some after) ∷ [])) same;
      }

  pub goes : (begun : S) (slots id : ℕ) (v : View O E) (found : ℕ) (before after : S) (m : Seats) {A : Type 0} (does : List E → E → A → Type 0) (lacks : A → Type 0) (answer : A) (size : ℕ) → 0 < v.parts → Ready v found before after m
      → opening_of after ≡ opening_of before → Ran does lacks (entries_of before) (entries_of after) answer → size ≡ length (entries_of after)
      → Allows (OneHistory opening_of entries_of begun) slots id m 0 (λ _. size * 2 % 2 ^ 64) (λ _. left entries_of (step slots 0 (size * 2 % 2 ^ 64) 0 none) m (size * 2 % 2 ^ 64))
  goes begun slots id v found before after m does lacks answer size live r opened ran sized =
      let more = grown does lacks (entries_of before) (entries_of after) answer ran in
      let new : ℕ = size * 2 % 2 ^ 64 in
      let word : new ≡ word_of false (entries_of after) = omega (arith, sized) in
      let v' : View O E = record v { held = v.held ++ (found + 1) ∷ []; holding = Some (entries_of before) } in
      subst (λ (x : Seats). Allows (OneHistory opening_of entries_of begun) slots id x 0 (λ _. new) (λ _. left entries_of (step slots 0 new 0 none) x new)) (sym r.now)
      (leaves opening_of entries_of begun slots id v' after (entries_of before) more.0 new live refl (r.opening ∙ ap Some (sym opened)) more.1 word)

  -- what the seat knows afterwards
  pub gone : (v : View O E) (found : ℕ) (before after : S) (m m' : Seats) (new : ℕ) (slots : ℕ) → Ready v found before after m → left entries_of (step slots 0 new 0 none) m new m'
      → m' ≡ (after_leave (record v { held = v.held ++ (found + 1) ∷ []; holding = Some (entries_of before) }) (entries_of before) (entries_of after), [])
  gone v found before after m m' new slots r l =
      l after (entries_of before) (ap (λ (x : Seats). x.1) r.now) (ap (λ (x : Seats). x.0.holding) r.now)
      ∙ ap (λ (x : Seats). (after_leave x.0 (entries_of before) (entries_of after), [])) r.now

  pub stepped_so : {A : Type 0} (does : O → List E → E → A → Type 0) (lacks : A → Type 0) (answer : A) (v w : View O E) (found : ℕ) (before after : S) (m : Seats) → v.holding ≡ None → Ready v found before after m
      → w ≡ after_leave (record v { held = v.held ++ (found + 1) ∷ []; holding = Some (entries_of before) }) (entries_of before) (entries_of after)
      → Ran (does (opening_of before)) lacks (entries_of before) (entries_of after) answer → Stepped does lacks v w answer
  stepped_so does lacks answer v w found before after m idle r is ran =
      let log : List E = entries_of before in
      let up : found + 1 ≡ word_of true log = omega (arith, r.word) in
      let shape : List E → List (ℕ × E) → ℕ → Option (List E) → View O E = λ xs cs x h. record v { seen = xs; mine = cs; held = v.held ++ x ∷ []; holding = h } in
      record {
        opened = opening_of before;
        log = log;
        opening = r.opening;
        seen = r.seen;
        ran = ⊎_elim
            (λ (t : (e : E) × (entries_of after ≡ log ++ e ∷ []) × does (opening_of before) log e answer).
            let added : drop (length log) (entries_of after) ≡ t.0 ∷ [] = ap (drop (length log)) t.1 ∙ drop_front log (t.0 ∷ []) in
            let calls : v.mine ++ placed (length log) (drop (length log) (entries_of after)) ≡ v.mine ++ (length log, t.0) ∷ [] = ap (λ (l : List E). v.mine ++ placed (length log) l) added in
            inl (t.0, is ∙ (λ i. shape (t.1 i) (calls i) (up i) (sym idle i)), t.2))
            (λ (t : (entries_of after ≡ log) × lacks answer).
            let added : drop (length log) (entries_of after) ≡ [] = ap (drop (length log)) (t.0 ∙ sym (append-nil log)) ∙ drop_front log [] in
            let calls : v.mine ++ placed (length log) (drop (length log) (entries_of after)) ≡ v.mine = ap (λ (l : List E). v.mine ++ placed (length log) l) added ∙ append-nil v.mine in
            inr (is ∙ (λ i. shape (t.0 i) (calls i) (up i) (sym idle i)), t.1))
            ran;
      }
