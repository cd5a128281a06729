-- Each step keeps the rule.
use Rattle.std.proofs.Common.{◌≡◌, ◌≢◌, ◌⊎◌, inl, inr, ⊎_elim, ℕ, zero, suc, ◌+◌, ◌%◌, ◌^◌, ◌<◌, ◌≤◌, Bool, true, false, true≢false, List, [], ◌∷◌, ◌++◌, length, set, drop, Option, Some, None, refl, sym, ap, ◌∙◌, subst, arith, length-append}
use Rattle.std.specs.Prelude.{slice_get}
use Rattle.std.specs.List.{sum_by}
use mathlib.Core.Option.{some, none, some-ne-none, some-injective}
use mathlib.Core.List.{IsPrefix}
use mathlib.Core.Logic.{dite}
use native.Mathlib.Decide.{ℕ_discrete}
use lib.ListN.{get_elem?}
use lib.Seq.{set-get_or}
use native.Mathlib.Decide.{dec_le}
use Rattle.std.specs.Prelude.{slice_index, bit_or}
use Rattle.atomic_table.specs.Table.{State, Me, step, keeps, takes, gives, stepped, Allows, Splits, Joins, Final, Seen, Act, Valid, carried_after}
use Rattle.atomic_table.proofs.Lists.{at_longer, set_here, set_else}
use Rattle.coda_turn.specs.declared.view.View.{View}
use Rattle.coda_turn.specs.Rule.{Has, times, placed, newcomer, nobody, Elsewhere, Holds, word_of, IsLawful, IsHome, OneHistory}
use Rattle.coda_turn.specs.Plays.{kept_part, given_part, joined, looked, Closes, took, after_leave, left}
use Rattle.coda_turn.proofs.Words.{even_at, odd_at, or_even, or_odd}
use Rattle.coda_turn.proofs.Views.{at_less, sum_set, sum_snoc, sum_zero, sum_alone, sum_rest, each_set, each_snoc, has_front, has_back, has_cases, has_one, has_nil, get_front, get_less, prefix_self, prefix_nil, prefix_trans, prefix_shorter, prefix_length, drop_front, times_append, times_none, times_placed_less, times_placed_in, stand_placed, unmet_has}

module _ {S O E : Type 0} (opening : S → O) (entries : S → List E) where
  pub begins : (state : S) (w : ℕ) → w ≡ word_of false (entries state) → OneHistory opening entries state record { words = w ∷ []; homes = some (Some state) ∷ []; views = newcomer (opening state) (entries state) ∷ [] }
  begins state w is = record {
    log = entries state;
    taken = false;
    holder = 0;
    begins = prefix_self (entries state);
    words = ap (λ (n : ℕ). n ∷ []) is;
    home = (state, refl, refl, refl);
    fits = one;
    met = none_met;
    holds = λ t. absurd (true≢false (sym t));
    parts = refl;
    before = λ k l. refl;
    once = λ k l m. absurd (omega arith);
  }
    where
      me : View O E
      me = newcomer (opening state) (entries state)

      one : (j : ℕ) (v : View O E) → get_elem? (newcomer (opening state) (entries state) ∷ []) j ≡ some v → IsLawful (opening state) (length (entries state)) (entries state) false 0 j v
      one zero v e = subst (IsLawful (opening state) (length (entries state)) (entries state) false 0 0) (some-injective _ _ e) record {
        opening = λ _. (refl, refl);
        seen = prefix_self (entries state);
        aside = prefix_nil (entries state);
        mine = λ c h. absurd (has_nil c h);
        holding = λ b h. absurd (cc);
        spent = λ h. absurd (omega arith);
      }
      one (suc j) v e = absurd (some-ne-none v (sym e))

      none_met : (j : ℕ) (v : View O E) → get_elem? (newcomer (opening state) (entries state) ∷ []) j ≡ some v → (w : ℕ) → Has v.met w → Elsewhere (newcomer (opening state) (entries state) ∷ []) j w
      none_met zero v e w h = absurd (has_nil w (subst (λ (u : View O E). Has u.met w) (sym (some-injective _ _ e)) h))
      none_met (suc j) v e w h = absurd (some-ne-none v (sym e))

some_same : {A : Type 0} (a b : A) → Some a ≡ Some b → b ≡ a
some_same a b p = cc

unfoldable pub first_of : {S : Type 0} → Option S → List (ℕ × Option S) → Option S
first_of d [] = d
first_of d (x ∷ xs) = x.1

state_same : {S : Type 0} (a b : S) → ◌≡◌ {A = List (ℕ × Option S)} ((0, Some b) ∷ []) ((0, Some a) ∷ []) → a ≡ b
unfolding first_of
state_same a b p = let q : Some b ≡ Some a = ap (first_of None) p in cc

module _ {O E : Type 0} where
  elsewhere_set : (vs : List (View O E)) (id : ℕ) (v w : View O E) → get_elem? vs id ≡ some v → ((x : ℕ) → Has v.held x → Has w.held x) → (j x : ℕ) → Elsewhere vs j x → Elsewhere (set vs id w) j x
  elsewhere_set vs id v w at more j x e = dite (ℕ_discrete e.0 id)
      (λ same. (
        id,
        w,
        set_here vs id w (at_less vs id v at),
        (λ h. e.3 (same ∙ h)),
        more x (subst (λ (u : View O E). Has u.held x) (some-injective _ _ (sym e.2 ∙ (ap (get_elem? vs) same ∙ at))) e.4),
      ))
      (λ other. (e.0, e.1, set_else vs id e.0 w other ∙ e.2, e.3, e.4))

  elsewhere_snoc : (vs : List (View O E)) (w : View O E) (j x : ℕ) → Elsewhere vs j x → Elsewhere (vs ++ w ∷ []) j x
  elsewhere_snoc vs w j x e = (e.0, e.1, at_longer vs (w ∷ []) e.0 e.1 e.2, e.3, e.4)

  holds_set : (vs : List (View O E)) (id : ℕ) (v w : View O E) → get_elem? vs id ≡ some v → w.holding ≡ v.holding → ((x : ℕ) → Has v.held x → Has w.held x) → (log : List E) (h : ℕ) → Holds vs log h → Holds (set vs id w) log h
  holds_set vs id v w at same more log h p = dite (ℕ_discrete h id)
      (λ here. let is : p.0 ≡ v = some-injective _ _ (sym p.1 ∙ (ap (get_elem? vs) here ∙ at)) in (
        w,
        ap (get_elem? (set vs id w)) here ∙ set_here vs id w (at_less vs id v at),
        same ∙ (ap (λ (u : View O E). u.holding) (sym is) ∙ p.2),
        more (word_of true log) (subst (λ (u : View O E). Has u.held (word_of true log)) is p.3),
      ))
      (λ other. (p.0, set_else vs id h w other ∙ p.1, p.2, p.3))

module _ {S O E : Type 0} (opening : S → O) (entries : S → List E) (begun : S) where
  abbrev Now : Type 0
  Now = State (Option S) (View O E)

  abbrev Rule : Now → Type 0
  Rule s = OneHistory opening entries begun s

  abbrev IsLawfulAt : List E → Bool → ℕ → ℕ → View O E → Type 0
  IsLawfulAt log taken holder j v = IsLawful (opening begun) (length (entries begun)) log taken holder j v

  abbrev parts_of : View O E → ℕ
  parts_of v = v.parts

  abbrev times_of : ℕ → View O E → ℕ
  times_of k v = times k v.mine

  -- a step that changes one view alone, and moves no call, part or held word
  quiet : (s : Now) (r : Rule s) (id : ℕ) (v w : View O E) → get_elem? s.views id ≡ some v → w.parts ≡ v.parts → w.mine ≡ v.mine → w.held ≡ v.held → w.holding ≡ v.holding
      → IsLawfulAt r.log r.taken r.holder id w → ((x : ℕ) → Has w.met x → Elsewhere s.views id x) → Rule record { words = s.words; homes = s.homes; views = set s.views id w }
  quiet s r id v w at parts mine held holding fits met =
      let more : (x : ℕ) → Has v.held x → Has w.held x = λ x h. subst (λ (l : List ℕ). Has l x) (sym held) h in record {
        log = r.log;
        taken = r.taken;
        holder = r.holder;
        begins = r.begins;
        words = r.words;
        home = r.home;
        fits = each_set (IsLawfulAt r.log r.taken r.holder) s.views id w fits (λ j u _ e. r.fits j u e);
        met = each_set (λ (j : ℕ) (u : View O E). (x : ℕ) → Has u.met x → Elsewhere (set s.views id w) j x) s.views id w
            (λ x h. elsewhere_set s.views id v w at more id x (met x h))
            (λ j u _ e x h. elsewhere_set s.views id v w at more j x (r.met j u e x h));
        holds = λ t. holds_set s.views id v w at holding more r.log r.holder (r.holds t);
        parts = omega (arith, sum_set parts_of s.views id v w at, r.parts, parts);
        before = λ k l. let old = r.before k l in let same : times k w.mine ≡ times k v.mine = ap (times k) mine in omega (arith, sum_set (times_of k) s.views id v w at, old, same);
        once = λ k l m. let old = r.once k l m in let same : times k w.mine ≡ times k v.mine = ap (times k) mine in omega (arith, sum_set (times_of k) s.views id v w at, old, same);
      }

  nobody_fits : (log : List E) (taken : Bool) (holder j : ℕ) → IsLawfulAt log taken holder j nobody
  nobody_fits log taken holder j = record {
    opening = λ l. absurd (omega arith);
    seen = prefix_nil log;
    aside = prefix_nil log;
    mine = λ c h. absurd (has_nil c h);
    holding = λ b h. absurd (cc);
    spent = λ _. refl;
  }

  pub splits : (id : ℕ) (v : View O E) → 2 ≤ v.parts → Splits Rule id v (kept_part v) (given_part v)
  splits id v two s r at =
      let l : View O E = kept_part v in
      let n : View O E = given_part v in
      let vs : List (View O E) = set s.views id l in
      let f = r.fits id v at in record {
        log = r.log;
        taken = r.taken;
        holder = r.holder;
        begins = r.begins;
        words = r.words;
        home = r.home;
        fits = each_snoc (IsLawfulAt r.log r.taken r.holder) vs n
            (λ j. record { opening = λ _. f.opening (omega arith); seen = f.seen; aside = prefix_nil r.log; mine = λ c h. absurd (has_nil c h); holding = λ b h. absurd (cc); spent = λ h. absurd (omega arith) })
            (each_set (IsLawfulAt r.log r.taken r.holder) s.views id l
            record { opening = λ _. f.opening (omega arith); seen = f.seen; aside = f.aside; mine = f.mine; holding = f.holding; spent = λ h. absurd (omega arith) }
            (λ j u _ e. r.fits j u e));
        met = λ j u e x h. elsewhere_snoc vs n j x
            (each_snoc (λ (i : ℕ) (z : View O E). (y : ℕ) → Has z.met y → Elsewhere vs i y) vs n (λ i y t. absurd (has_nil y t))
            (each_set (λ (i : ℕ) (z : View O E). (y : ℕ) → Has z.met y → Elsewhere vs i y) s.views id l
            (λ y t. elsewhere_set s.views id v l at (λ _ g. g) id y (r.met id v at y t))
            (λ i z _ p y t. elsewhere_set s.views id v l at (λ _ g. g) i y (r.met i z p y t)))
            j u e x h);
        holds = λ t. let p = holds_set s.views id v l at refl (λ _ g. g) r.log r.holder (r.holds t) in (p.0, at_longer vs (n ∷ []) r.holder p.0 p.1, p.2, p.3);
        parts = omega (arith, sum_snoc parts_of vs n, sum_set parts_of s.views id v l at, r.parts);
        before = λ k b. let old = r.before k b in omega (arith, sum_snoc (times_of k) vs n, sum_set (times_of k) s.views id v l at, old);
        once = λ k b m. let old = r.once k b m in omega (arith, sum_snoc (times_of k) vs n, sum_set (times_of k) s.views id v l at, old);
      }

  pub joins : (id : ℕ) (v : View O E) (other : ℕ) (u : View O E) → 0 < v.parts → u.holding ≡ None → Joins Rule id v other u (joined v u) nobody
  joins id v other u live idle s r at apart there =
      let b : View O E = joined v u in
      let vs : List (View O E) = set s.views id b in
      let ws : List (View O E) = set vs other nobody in
      let was : get_elem? s.views other ≡ some u = sym (set_else s.views id other b apart) ∙ there in
      let f = r.fits id v at in
      let g = r.fits other u was in
      let stays : (i : ℕ) (z : View O E) → i ≢ id → i ≢ other → get_elem? s.views i ≡ some z → get_elem? ws i ≡ some z = λ i z n m e. set_else vs other i nobody m ∙ (set_else s.views id i b n ∙ e) in
      let mid : get_elem? ws id ≡ some b = set_else vs other id nobody (λ h. apart (sym h)) ∙ set_here s.views id b (at_less s.views id v at) in
      let moved : (j x : ℕ) → j ≢ id → j ≢ other → Elsewhere s.views j x → Elsewhere ws j x = λ j x n m e. dite (ℕ_discrete e.0 id)
      (λ same. (id, b, mid, (λ h. n (sym h)), has_front v.held u.held x (subst (λ (z : View O E). Has z.held x) (some-injective _ _ (sym e.2 ∙ (ap (get_elem? s.views) same ∙ at))) e.4)))
      (λ far. dite (ℕ_discrete e.0 other)
      (λ same. (id, b, mid, (λ h. n (sym h)), has_back v.held u.held x (subst (λ (z : View O E). Has z.held x) (some-injective _ _ (sym e.2 ∙ (ap (get_elem? s.views) same ∙ was))) e.4)))
      (λ far'. (e.0, e.1, stays e.0 e.1 far far' e.2, e.3, e.4))) in
      record {
        log = r.log;
        taken = r.taken;
        holder = r.holder;
        begins = r.begins;
        words = r.words;
        home = r.home;
        fits = each_set (IsLawfulAt r.log r.taken r.holder) vs other nobody (nobody_fits r.log r.taken r.holder other)
            (λ j z m e. each_set (IsLawfulAt r.log r.taken r.holder) s.views id b
            record {
              opening = λ _. f.opening live;
              seen = f.seen;
              aside = g.seen;
              mine = λ c h. ⊎_elim (λ (t : Has v.mine c). f.mine c t) (λ (t : Has u.mine c). g.mine c t) (has_cases v.mine u.mine c h);
              holding = f.holding;
              spent = λ h. absurd (omega arith);
            }
            (λ i y _ p. r.fits i y p) j z e);
        met = each_set (λ (j : ℕ) (z : View O E). (x : ℕ) → Has z.met x → Elsewhere ws j x) vs other nobody (λ x h. absurd (has_nil x h))
            (λ j z m e. dite (ℕ_discrete j id)
            (λ same x h. let is : b ≡ z = some-injective _ _ (sym (set_here s.views id b (at_less s.views id v at)) ∙ (sym (ap (get_elem? vs) same) ∙ e)) in
            let t = unmet_has v.met u.held x (subst (λ (y : View O E). Has y.met x) (sym is) h) in
            let p = r.met id v at x t.0 in
            let far : p.0 ≢ other = λ o. t.1 (subst (λ (y : View O E). Has y.held x) (some-injective _ _ (sym p.2 ∙ (ap (get_elem? s.views) o ∙ was))) p.4) in
            (p.0, p.1, stays p.0 p.1 p.3 far p.2, (λ o. p.3 (o ∙ same)), p.4))
            (λ far x h. moved j x far m (r.met j z (sym (set_else s.views id j b far) ∙ e) x h)));
        holds = λ t. let p = r.holds t in dite (ℕ_discrete r.holder other)
            (λ same. let is : p.0 ≡ u = some-injective _ _ (sym p.1 ∙ (ap (get_elem? s.views) same ∙ was)) in absurd (let no : Some r.log ≡ None = sym p.2 ∙ (ap (λ (y : View O E). y.holding) is ∙ idle) in cc))
            (λ far. let q = holds_set s.views id v b at refl (has_front v.held u.held) r.log r.holder p in (q.0, set_else vs other r.holder nobody far ∙ q.1, q.2, q.3));
        parts = omega (arith, sum_set parts_of vs other u nobody there, sum_set parts_of s.views id v b at, r.parts);
        before = λ k l. let old = r.before k l in omega (arith, sum_set (times_of k) vs other u nobody there, sum_set (times_of k) s.views id v b at, times_append k v.mine u.mine, old);
        once = λ k l m. let old = r.once k l m in omega (arith, sum_set (times_of k) vs other u nobody there, sum_set (times_of k) s.views id v b at, times_append k v.mine u.mine, old);
      }

  abbrev Seats : Type 0
  Seats = Me (Option S) (View O E)

  pub looks : (slots id : ℕ) (m : Seats) → 0 < m.0.parts → Allows Rule slots id m 0 (λ n. n) (looked (step slots 0 0 0 none) m)
  looks slots id m live s r wide at small =
      let v : View O E = m.0 in
      let f = r.fits id v at in
      let go = λ (xs : List E) (one : (xs ≡ v.seen) ⊎ (xs ≡ v.aside)) (p : IsPrefix v.seen xs) (q : IsPrefix v.aside xs) (here : IsPrefix xs r.log).
      let w : View O E = record v { seen = xs; aside = [] } in
      let rule : Rule record { words = s.words; homes = s.homes; views = set s.views id w } = quiet s r id v w at refl refl refl refl
      record { opening = f.opening; seen = here; aside = prefix_nil r.log; mine = f.mine; holding = f.holding; spent = λ h. absurd (omega arith) } (r.met id v at) in
      subst (λ (ws : List ℕ). Rule record { words = ws; homes = s.homes; views = set s.views id w }) (sym (set-get_or s.words 0 0)) rule in
      dite (dec_le (length v.seen) (length v.aside))
      (λ le. let p = prefix_shorter v.seen v.aside r.log f.seen f.aside le in
      (record v { seen = v.aside; aside = [] }, keeps, tt, go v.aside (inr refl) p (prefix_self v.aside) f.aside, ((refl, inr refl, p, prefix_self v.aside), refl)))
      (λ gt. let p = prefix_shorter v.aside v.seen r.log f.aside f.seen (omega arith) in
      (record v { seen = v.seen; aside = [] }, keeps, tt, go v.seen (inl refl) (prefix_self v.seen) p f.seen, ((refl, inl refl, prefix_self v.seen, p), refl)))

  abbrev Taking : (slots id : ℕ) (m : Seats) → Now → Type 0
  Taking slots id m s = (w : View O E) × (a : Act (Option S)) × Valid s.homes m.1 a × Rule (stepped s 0 (bit_or (slice_index s.words 0) 1) id m.1 w a) × took opening entries (step slots 0 1 0 none) m (slice_index s.words 0) (w, carried_after m.1 a)

  word_now : (s : Now) (r : Rule s) (b : Bool) → r.taken ≡ b → slice_index s.words 0 ≡ word_of b r.log
  word_now s r b is = ap (λ (ws : List ℕ). slice_index ws 0) r.words ∙ ap (λ (c : Bool). word_of c r.log) is

  free : (slots id : ℕ) (m : Seats) → 0 < m.0.parts → m.0.holding ≡ None → m.1 ≡ [] → (s : Now) (r : Rule s) → get_elem? s.views id ≡ some m.0 → r.taken ≡ false → (state : S) × (s.homes ≡ some (Some state) ∷ []) × (opening state ≡ opening begun) × (entries state ≡ r.log) → Taking slots id m s
  free slots id m live idle bare s r at is h =
      let v : View O E = m.0 in
      let f = r.fits id v at in
      let n : ℕ = slice_index s.words 0 in
      let word : n ≡ word_of false r.log = word_now s r false is in
      let even : n % 2 ≡ 0 = ap (λ (k : ℕ). k % 2) word ∙ even_at r.log in
      let up : bit_or n 1 ≡ word_of true r.log = or_even n even ∙ omega (arith, word) in
      let w : View O E = record v { held = v.held ++ (n + 1) ∷ []; holding = Some (entries h.0) } in
      let vs : List (View O E) = set s.views id w in
      let more : (x : ℕ) → Has v.held x → Has w.held x = has_front v.held ((n + 1) ∷ []) in
      let none_holds : (j : ℕ) (u : View O E) → get_elem? s.views j ≡ some u → (b : List E) → u.holding ≡ Some b → ⊥ = λ j u e b p. true≢false (sym (((r.fits j u e).holding b p).1) ∙ is) in
      let known : opening begun ≡ opening h.0 = sym h.2 in
      let odd_word : n + 1 ≡ word_of true r.log = omega (arith, word) in (
        w,
        takes 0 (Some h.0),
        ap (λ (hs : List (mathlib.Core.Option.Option (Option S))). get_elem? hs 0) h.1,
        record {
          log = r.log;
          taken = true;
          holder = id;
          begins = r.begins;
          words = ap (λ (ws : List ℕ). set ws 0 (bit_or n 1)) r.words ∙ ap (λ (k : ℕ). k ∷ []) up;
          home = ap (λ (hs : List (mathlib.Core.Option.Option (Option S))). set hs 0 none) h.1;
          fits = each_set (IsLawfulAt r.log true id) s.views id w
              record { opening = f.opening; seen = f.seen; aside = f.aside; mine = f.mine; holding = λ b p. (some_same (entries h.0) b p ∙ h.3, refl, refl); spent = λ z. absurd (omega arith) }
              (λ j u _ e. let g = r.fits j u e in record { opening = g.opening; seen = g.seen; aside = g.aside; mine = g.mine; holding = λ b p. absurd (none_holds j u e b p); spent = g.spent });
          met = each_set (λ (j : ℕ) (u : View O E). (x : ℕ) → Has u.met x → Elsewhere vs j x) s.views id w
              (λ x p. elsewhere_set s.views id v w at more id x (r.met id v at x p))
              (λ j u _ e x p. elsewhere_set s.views id v w at more j x (r.met j u e x p));
          holds = λ _. (w, set_here s.views id w (at_less s.views id v at), ap Some h.3, has_back v.held ((n + 1) ∷ []) (word_of true r.log) (0, ap Some odd_word));
          parts = omega (arith, sum_set parts_of s.views id v w at, r.parts);
          before = λ k l. let old = r.before k l in omega (arith, sum_set (times_of k) s.views id v w at, old);
          once = λ k l l'. let old = r.once k l l' in omega (arith, sum_set (times_of k) s.views id v w at, old);
        },
        (
          λ _. (h.0, (f.opening live).0 ∙ ap Some known, subst (λ (xs : List E). IsPrefix v.seen xs) (sym h.3) f.seen, word ∙ ap (word_of false) (sym h.3), λ i. (w, (0, Some h.0) ∷ bare i)),
          λ odd. absurd (let t : 0 ≡ 1 = sym even ∙ odd in omega arith),
        ),
      )

  busy : (slots id : ℕ) (m : Seats) → 0 < m.0.parts → m.0.holding ≡ None → m.1 ≡ [] → (s : Now) (r : Rule s) → get_elem? s.views id ≡ some m.0 → r.taken ≡ true → Taking slots id m s
  busy slots id m live idle bare s r at is =
      let v : View O E = m.0 in
      let f = r.fits id v at in
      let n : ℕ = slice_index s.words 0 in
      let word : n ≡ word_of true r.log = word_now s r true is in
      let odd : n % 2 ≡ 1 = ap (λ (k : ℕ). k % 2) word ∙ odd_at r.log in
      let w : View O E = record v { met = v.met ++ n ∷ [] } in
      let p = r.holds is in
      let far : r.holder ≢ id = λ o. let u : p.0 ≡ v = some-injective _ _ (sym p.1 ∙ (ap (get_elem? s.views) o ∙ at)) in let no : Some r.log ≡ None = sym p.2 ∙ (ap (λ (y : View O E). y.holding) u ∙ idle) in cc in
      let rule : Rule record { words = s.words; homes = s.homes; views = set s.views id w } = quiet s r id v w at refl refl refl refl
      record { opening = f.opening; seen = f.seen; aside = f.aside; mine = f.mine; holding = f.holding; spent = λ h. absurd (omega arith) }
      (λ x h. ⊎_elim (λ (t : Has v.met x). r.met id v at x t) (λ (t : Has (n ∷ []) x). (r.holder, p.0, p.1, far, subst (Has p.0.held) (sym word ∙ has_one n x t) p.3)) (has_cases v.met (n ∷ []) x h)) in (
        w,
        keeps,
        tt,
        subst (λ (ws : List ℕ). Rule record { words = ws; homes = s.homes; views = set s.views id w }) (sym (ap (λ (k : ℕ). set s.words 0 k) (or_odd n odd) ∙ set-get_or s.words 0 0)) rule,
        (λ even. absurd (let t : 0 ≡ 1 = sym even ∙ odd in omega arith), λ _. refl),
      )

  take_cases : (slots id : ℕ) (m : Seats) → 0 < m.0.parts → m.0.holding ≡ None → m.1 ≡ [] → (s : Now) (r : Rule s) → get_elem? s.views id ≡ some m.0 → (b : Bool) → r.taken ≡ b → Taking slots id m s
  take_cases slots id m live idle bare s r at true is = busy slots id m live idle bare s r at is
  take_cases slots id m live idle bare s r at false is = free slots id m live idle bare s r at is (subst (λ (b : Bool). IsHome opening entries b (opening begun) r.log s.homes) is r.home)

  pub takes_it : (slots id : ℕ) (m : Seats) → 0 < m.0.parts → m.0.holding ≡ None → m.1 ≡ [] → Allows Rule slots id m 0 (λ n. bit_or n 1) (took opening entries (step slots 0 1 0 none) m)
  takes_it slots id m live idle bare s r wide at small = take_cases slots id m live idle bare s r at r.taken refl

  abbrev Leaving : (slots id : ℕ) (m : Seats) (new : ℕ) → Now → Type 0
  Leaving slots id m new s = (w : View O E) × (a : Act (Option S)) × Valid s.homes m.1 a × Rule (stepped s 0 new id m.1 w a) × left entries (step slots 0 new 0 none) m new (w, carried_after m.1 a)

  leave_now : (slots id : ℕ) (v : View O E) (state : S) (log more : List E) (new : ℕ) → 0 < v.parts → v.holding ≡ Some log → v.opening ≡ Some (opening state) → entries state ≡ log ++ more → new ≡ word_of false (entries state)
      → (s : Now) (r : Rule s) → get_elem? s.views id ≡ some v → log ≡ r.log → Leaving slots id (v, (0, Some state) ∷ []) new s
  leave_now slots id v state log more new live has known grown word s r at is =
      let f = r.fits id v at in
      let mine = f.holding log has in
      let w : View O E = after_leave v log (entries state) in
      let now : List E = entries state in
      let vs : List (View O E) = set s.views id w in
      let longer : (xs : List E) → IsPrefix xs r.log → IsPrefix xs now = λ xs p. prefix_trans xs log now (subst (λ (l : List E). IsPrefix xs l) (sym is) p) (more, sym grown) in
      let added : drop (length log) now ≡ more = ap (λ (l : List E). drop (length log) l) grown ∙ drop_front log more in
      let own : w.mine ≡ v.mine ++ placed (length log) more = ap (λ (l : List E). v.mine ++ placed (length log) l) added in
      let older : (c : ℕ × E) → slice_get r.log c.0 ≡ Some c.1 → slice_get now c.0 ≡ Some c.1 = λ c e. subst (λ (l : List E). slice_get l c.0 ≡ Some c.1) (sym grown) (get_front log more c.0 c.1 (subst (λ (l : List E). slice_get l c.0 ≡ Some c.1) (sym is) e)) in
      let out : s.homes ≡ none ∷ [] = subst (λ (b : Bool). IsHome opening entries b (opening begun) r.log s.homes) mine.1 r.home in
      let same : opening state ≡ opening begun = some_same (opening begun) (opening state) (sym ((f.opening live).0) ∙ known) in
      let size : length now ≡ length log + length more = ap length grown ∙ length-append log more in
      let size' : length log ≡ length r.log = ap length is in
      let first : length (entries begun) ≤ length r.log = prefix_length (entries begun) r.log r.begins in
      let times_are : (k : ℕ) → times k w.mine ≡ times k v.mine + times k (placed (length log) more) = λ k. ap (times k) own ∙ times_append k v.mine (placed (length log) more) in
      let none_yet : (k : ℕ) → length r.log ≤ k → sum_by (times_of k) s.views ≡ 0 = λ k far. sum_zero (times_of k) s.views
      (λ i u e. times_none k u.mine (λ c h p. let l : c.0 < length r.log = get_less r.log c.0 c.1 ((r.fits i u e).mine c h) in omega arith)) in (
        w,
        gives,
        tt,
        record {
          log = now;
          taken = false;
          holder = 0;
          begins = longer (entries begun) r.begins;
          words = ap (λ (ws : List ℕ). set ws 0 new) r.words ∙ ap (λ (k : ℕ). k ∷ []) word;
          home = (state, ap (λ (hs : List (mathlib.Core.Option.Option (Option S))). set hs 0 (some (Some state))) out, same, refl);
          fits = each_set (IsLawfulAt now false 0) s.views id w
              record {
                opening = f.opening;
                seen = prefix_self now;
                aside = longer v.aside f.aside;
                mine = λ c h. ⊎_elim (λ (t : Has v.mine c). older c (f.mine c t))
                    (λ (t : Has (placed (length log) more) c). subst (λ (l : List E). slice_get l c.0 ≡ Some c.1) (sym grown) (stand_placed log more c t))
                    (has_cases v.mine (placed (length log) more) c (subst (λ (l : List (ℕ × E)). Has l c) own h));
                holding = λ b p. absurd (cc);
                spent = λ z. absurd (omega arith);
              }
              (λ j u far e. let g = r.fits j u e in record {
                opening = g.opening;
                seen = longer u.seen g.seen;
                aside = longer u.aside g.aside;
                mine = λ c h. older c (g.mine c h);
                holding = λ b p. absurd (far ((g.holding b p).2 ∙ sym mine.2));
                spent = g.spent;
              });
          met = each_set (λ (j : ℕ) (u : View O E). (x : ℕ) → Has u.met x → Elsewhere vs j x) s.views id w
              (λ x p. elsewhere_set s.views id v w at (λ _ h. h) id x (r.met id v at x p))
              (λ j u _ e x p. elsewhere_set s.views id v w at (λ _ h. h) j x (r.met j u e x p));
          holds = λ p. absurd (true≢false (sym p));
          parts = omega (arith, sum_set parts_of s.views id v w at, r.parts);
          before = λ k l. let old = r.before k l in let here : times k (placed (length log) more) ≡ 0 = times_placed_less k (length log) more (omega arith) in omega (arith, sum_set (times_of k) s.views id v w at, times_are k, here, old);
          once = λ k l l'. dite (dec_le (length r.log) k)
              (λ far. let old = none_yet k far in let here : times k (placed (length log) more) ≡ 1 = times_placed_in k (length log) more (omega arith) (omega arith) in omega (arith, sum_set (times_of k) s.views id v w at, times_are k, here, old))
              (λ near. let old = r.once k l (omega arith) in let here : times k (placed (length log) more) ≡ 0 = times_placed_less k (length log) more (omega arith) in omega (arith, sum_set (times_of k) s.views id v w at, times_are k, here, old));
        },
        λ state' log' e e'. let a : state' ≡ state = state_same state' state e in let b : log' ≡ log = some_same log log' (sym has ∙ e') in ap (λ (x : List E × List E). (after_leave v x.0 x.1, [])) (λ i. (sym b i, ap entries (sym a) i)),
      )

  pub leaves : (slots id : ℕ) (v : View O E) (state : S) (log more : List E) (new : ℕ) → 0 < v.parts → v.holding ≡ Some log → v.opening ≡ Some (opening state) → entries state ≡ log ++ more → new ≡ word_of false (entries state)
      → Allows Rule slots id (v, (0, Some state) ∷ []) 0 (λ _. new) (λ _. left entries (step slots 0 new 0 none) (v, (0, Some state) ∷ []) new)
  leaves slots id v state log more new live has known grown word s r wide at small = leave_now slots id v state log more new live has known grown word s r at ((r.fits id v at).holding log has).0

  -- with all parts, the history is at rest, and what was added since the beginning is the pass's own
  pub ends : (id : ℕ) (v : View O E) (ws : List ℕ) (xs : List (Option S)) → v.parts ≡ 2 ^ 32 → v.holding ≡ None → Final (Seen Rule id v) ws xs → (state : S) × (get_elem? xs 0 ≡ some (Some state)) × Closes opening entries v state
  ends id v ws xs whole idle final = by_case r.taken refl
    where
      s : Now
      s = final.0

      r : Rule final.0
      r = final.1.0

      f : IsLawfulAt final.1.0.log final.1.0.taken final.1.0.holder id v
      f = final.1.0.fits id v final.1.1

      alone : (j : ℕ) (u : View O E) → id ≢ j → get_elem? final.0.views j ≡ some u → u ≡ nobody
      alone j u far e = (final.1.0.fits j u e).spent (sum_rest parts_of final.0.views id j v u final.1.1 e far (whole ∙ sym final.1.0.parts))

      busy : final.1.0.taken ≡ true → ⊥
      busy is = let p = final.1.0.holds is in dite (ℕ_discrete id final.1.0.holder)
          (λ same. let u : p.0 ≡ v = some-injective _ _ (sym p.1 ∙ (sym (ap (get_elem? final.0.views) same) ∙ final.1.1)) in let no : Some final.1.0.log ≡ None = sym p.2 ∙ (ap (λ (y : View O E). y.holding) u ∙ idle) in cc)
          (λ far. let u : p.0 ≡ nobody = alone final.1.0.holder p.0 far p.1 in let no : Some final.1.0.log ≡ None = sym p.2 ∙ ap (λ (y : View O E). y.holding) u in cc)

      times_all : (k : ℕ) → sum_by (times_of k) final.0.views ≡ times k v.mine
      times_all k = sum_alone (times_of k) final.0.views id v final.1.1 (λ j u far e. ap (times_of k) (alone j u (λ h. far (sym h)) e))

      by_case : (b : Bool) → final.1.0.taken ≡ b → (state : S) × (get_elem? xs 0 ≡ some (Some state)) × Closes opening entries v state
      by_case true is = absurd (busy is)
      by_case false is =
          let h = subst (λ (b : Bool). IsHome opening entries b (opening begun) final.1.0.log final.0.homes) is final.1.0.home in
          let live : 0 < v.parts = omega arith in
          let o = f.opening live in
          let size : length (entries h.0) ≡ length final.1.0.log = ap length h.3 in (
            h.0,
            final.4 0 (Some h.0) (ap (λ (hs : List (mathlib.Core.Option.Option (Option S))). get_elem? hs 0) h.1),
            record {
              opening = o.0 ∙ ap Some (sym h.2);
              seen = subst (λ (l : List E). IsPrefix v.seen l) (sym h.3) f.seen;
              begun = omega (arith, o.1, size, prefix_length (entries begun) final.1.0.log final.1.0.begins);
              stands = λ c p. ap (λ (l : List E). slice_get l c.0) h.3 ∙ f.mine c p;
              before = λ k l. sym (times_all k) ∙ final.1.0.before k (omega (arith, o.1));
              once = λ k l m. sym (times_all k) ∙ final.1.0.once k (omega (arith, o.1)) (omega (arith, size));
            },
          )
