-- An area is one of three, and in one way.
use Rattle.std.proofs.Common.{◌≡◌, ◌≢◌, ◌⊎◌, inl, inr, ℕ, zero, suc, ◌+◌, ◌<◌, ◌≤◌, List, [], ◌∷◌, ◌++◌, length, take, drop, refl, sym, ◌∙◌, ap, subst, arith, append_assoc, length-append, take-append-drop}
use Rattle.std.proofs.lemmas.List.{take_at, drop_at, append-nil, length-take, length-drop, get_or-drop, drop-drop}
use Rattle.std.proofs.lemmas.Bool.{cases_eq, cases_lt}
use Rattle.std.specs.Int.{Width, byte_len}
use Rattle.coda_journal.specs.Lengths.{limit, length_bytes, length_in, IsBytes}
use Rattle.coda_journal.specs.Entries.{body, blocks, Holds, RunsPast, NoGate, IsBroken}
use Rattle.coda_journal.proofs.Lengths.{Spells}

tail_same : (x y : ℕ) (xs ys : List ℕ) → x ∷ xs ≡ y ∷ ys → xs ≡ ys
tail_same x y xs ys e = cc

module _ (width : Width) (spells : Spells width) where
  -- here the entries end: no whole entry with an open gate stands first
  abbrev pub Ends : List ℕ → Type 0
  Ends rest = (p more : List ℕ) → length p < limit width → rest ≢ 1 ∷ (body width p ++ more)

  body_split : (p rest : List ℕ) → body width p ++ rest ≡ length_bytes width (length p) ++ (p ++ rest)
  body_split p rest = append_assoc (length_bytes width (length p)) p rest

  length-body : (p : List ℕ) → length (body width p) ≡ byte_len width + length p
  length-body p = length-append (length_bytes width (length p)) p ∙ ap (λ (n : ℕ). n + length p) (spells.size (length p))

  length_here : (p rest : List ℕ) → length p < limit width → length_in width (body width p ++ rest) ≡ length p
  length_here p rest lt = ap (λ (l : List ℕ). length_in width l) (body_split p rest) ∙ spells.reads (length p) (p ++ rest) lt

  length-block : (p rest : List ℕ) → length (1 ∷ (body width p ++ rest)) ≡ 1 + byte_len width + length p + length rest
  length-block p rest = omega (arith, length-append (body width p) rest, length-body p)

  shut_ends : (gate : ℕ) (rest : List ℕ) → gate ≢ 1 → Ends (gate ∷ rest)
  shut_ends gate rest shut p more lt e = shut (cc e)

  nil_ends : Ends []
  nil_ends p more lt e = cc e

  past_ends : (rest : List ℕ) → length rest < byte_len width + length_in width rest → Ends (1 ∷ rest)
  past_ends rest past p more lt e =
      let is = tail_same 1 1 _ _ e in
      omega (arith, past, ap length is, ap (λ (l : List ℕ). length_in width l) is, length_here p more lt, length-block p more)

  -- the entries and what ends them are the only ones
  pub one : (ps qs : List (List ℕ)) (x y : List ℕ) → Ends x → Ends y → blocks width ps ++ x ≡ blocks width qs ++ y → length (blocks width ps ++ x) < limit width → (ps ≡ qs) × (x ≡ y)
  one [] [] x y ex ey e lt = (refl, e)
  one [] (q ∷ qs) x y ex ey e lt =
      let is = e ∙ ap (λ (l : List ℕ). 1 ∷ l) (append_assoc (body width q) (blocks width qs) y) in
      absurd (ex q (blocks width qs ++ y) (omega (arith, lt, ap length is, length-block q (blocks width qs ++ y))) is)
  one (p ∷ ps) [] x y ex ey e lt =
      let is = sym e ∙ ap (λ (l : List ℕ). 1 ∷ l) (append_assoc (body width p) (blocks width ps) x) in
      absurd (ey p (blocks width ps ++ x) (omega (arith, lt, ap length e, ap length is, length-block p (blocks width ps ++ x))) is)
  one (p ∷ ps) (q ∷ qs) x y ex ey e lt =
      let more = blocks width ps ++ x in
      let most = blocks width qs ++ y in
      let left : 1 ∷ (body width p ++ blocks width ps) ++ x ≡ 1 ∷ (body width p ++ more) = ap (λ (l : List ℕ). 1 ∷ l) (append_assoc (body width p) (blocks width ps) x) in
      let right : 1 ∷ (body width q ++ blocks width qs) ++ y ≡ 1 ∷ (body width q ++ most) = ap (λ (l : List ℕ). 1 ∷ l) (append_assoc (body width q) (blocks width qs) y) in
      let all = sym left ∙ e ∙ right in
      let pl : length p < limit width = omega (arith, lt, ap length left, length-block p more) in
      let ql : length q < limit width = omega (arith, lt, ap length left, ap length all, length-block q most) in
      let is : body width p ++ more ≡ body width q ++ most = tail_same 1 1 _ _ all in
      let long : length p ≡ length q = sym (length_here p more pl) ∙ ap (λ (l : List ℕ). length_in width l) is ∙ length_here q most ql in
      let behind : p ++ more ≡ q ++ most =
      sym (drop_at (length_bytes width (length p)) (p ++ more) (byte_len width) (spells.size (length p)))
      ∙ ap (λ (l : List ℕ). drop (byte_len width) l) (sym (body_split p more) ∙ is ∙ body_split q most)
      ∙ drop_at (length_bytes width (length q)) (q ++ most) (byte_len width) (spells.size (length q)) in
      let same : p ≡ q = sym (take_at p more (length q) long) ∙ ap (λ (l : List ℕ). take (length q) l) behind ∙ take_at q most (length q) refl in
      let tails : more ≡ most = sym (drop_at p more (length q) long) ∙ ap (λ (l : List ℕ). drop (length q) l) behind ∙ drop_at q most (length q) refl in
      let rest = one ps qs x y ex ey tails (omega (arith, lt, ap length left, length-block p more)) in
      (ap (λ (z : List ℕ). z ∷ ps) same ∙ ap (λ (l : List (List ℕ)). q ∷ l) rest.0, rest.1)

  -- what stands before the end, and the end
  pub record Ending (area : List ℕ) : Type 0 where
    pub before : List (List ℕ)
    pub end : List ℕ
    pub is : area ≡ blocks width before ++ end
    pub ends : Ends end

  abbrev of_holds : (area : List ℕ) (ps : List (List ℕ)) → Holds width area ps → Ending area
  of_holds area ps h = record { before = ps; end = h.gate ∷ h.rest; is = h.is; ends = shut_ends h.gate h.rest h.shut }

  abbrev of_past : (area : List ℕ) (place : ℕ) → RunsPast width area place → Ending area
  of_past area place r = record { before = r.before; end = 1 ∷ r.rest; is = r.is; ends = past_ends r.rest r.past }

  abbrev of_none : (area : List ℕ) (place : ℕ) → NoGate width area place → Ending area
  of_none area place n = record { before = n.before; end = []; is = n.is ∙ sym (append-nil (blocks width n.before)); ends = nil_ends }

  same_end : (area : List ℕ) → length area < limit width → (a b : Ending area) → (a.before ≡ b.before) × (a.end ≡ b.end)
  same_end area lt a b = one a.before b.before a.end b.end a.ends b.ends (sym a.is ∙ b.is) (omega (arith, lt, ap length a.is))

  pub holds_once : (area : List ℕ) (ps qs : List (List ℕ)) → length area < limit width → Holds width area ps → Holds width area qs → ps ≡ qs
  holds_once area ps qs lt h k = (same_end area lt (of_holds area ps h) (of_holds area qs k)).0

  pub holds_unbroken : (area : List ℕ) (ps : List (List ℕ)) (place : ℕ) → length area < limit width → Holds width area ps → IsBroken width area place → ⊥
  holds_unbroken area ps place lt h (inl r) = let e : h.gate ∷ h.rest ≡ 1 ∷ r.rest = (same_end area lt (of_holds area ps h) (of_past area place r)).1 in h.shut (cc e)
  holds_unbroken area ps place lt h (inr n) = let e = (same_end area lt (of_holds area ps h) (of_none area place n)).1 in cc e

  pub broken_once : (area : List ℕ) (x y : ℕ) → length area < limit width → IsBroken width area x → IsBroken width area y → x ≡ y
  broken_once area x y lt (inl r) (inl s) = let e = (same_end area lt (of_past area x r) (of_past area y s)).0 in r.here ∙ ap (λ (l : List (List ℕ)). length (blocks width l)) e ∙ sym s.here
  broken_once area x y lt (inl r) (inr n) = let e = (same_end area lt (of_past area x r) (of_none area y n)).1 in cc e
  broken_once area x y lt (inr n) (inl r) = let e = (same_end area lt (of_none area x n) (of_past area y r)).1 in cc e
  broken_once area x y lt (inr n) (inr m) = n.here ∙ sym m.here

  -- what an area is
  abbrev pub IsRead : List ℕ → Type 0
  IsRead area = ((ps : List (List ℕ)) × Holds width area ps) ⊎ ((place : ℕ) × IsBroken width area place)

  pub split : (rest : List ℕ) → IsBytes rest → byte_len width + length_in width rest ≤ length rest
      → rest ≡ body width (take (length_in width rest) (drop (byte_len width) rest)) ++ drop (byte_len width + length_in width rest) rest
  split rest small le =
      let w = byte_len width in
      let n = length_in width rest in
      let p = take n (drop w rest) in
      let long : length p ≡ n = omega (arith, le, length-take n (drop w rest), length-drop w rest) in
      let size : length_bytes width (length p) ≡ take w rest = ap (λ (m : ℕ). length_bytes width m) long ∙ spells.writes rest (omega (arith, le)) small in
      sym (body_split p (drop (w + n) rest) ∙ ap (λ (l : List ℕ). l ++ (p ++ drop (w + n) rest)) size ∙ ap (λ (l : List ℕ). take w rest ++ (p ++ l)) (sym (drop-drop n w rest))
      ∙ ap (λ (l : List ℕ). take w rest ++ l) (take-append-drop n (drop w rest)) ∙ take-append-drop w rest)

  -- one more entry in front
  grow : (p more : List ℕ) → IsRead more → IsRead (1 ∷ (body width p ++ more))
  grow p more (inl h) = inl (
    p ∷ h.0,
    record {
      gate = h.1.gate;
      rest = h.1.rest;
      is = ap (λ (l : List ℕ). 1 ∷ (body width p ++ l)) h.1.is ∙ ap (λ (l : List ℕ). 1 ∷ l) (sym (append_assoc (body width p) (blocks width h.0) (h.1.gate ∷ h.1.rest)));
      shut = h.1.shut;
    },
  )
  grow p more (inr (place, inl r)) = inr (
    length (blocks width (p ∷ r.before)),
    inl (record {
      before = p ∷ r.before;
      rest = r.rest;
      is = ap (λ (l : List ℕ). 1 ∷ (body width p ++ l)) r.is ∙ ap (λ (l : List ℕ). 1 ∷ l) (sym (append_assoc (body width p) (blocks width r.before) (1 ∷ r.rest)));
      past = r.past;
      here = refl;
    }),
  )
  grow p more (inr (place, inr n)) = inr (
    length (1 ∷ (body width p ++ more)),
    inr (record {
      before = p ∷ n.before;
      is = ap (λ (l : List ℕ). 1 ∷ (body width p ++ l)) n.is;
      here = refl;
    }),
  )

  opened : (fuel g : ℕ) (rest : List ℕ) → g ≡ 1 → IsBytes rest → ((more : List ℕ) → length more ≤ length rest → IsBytes more → IsRead more) → IsRead (g ∷ rest)
  opened fuel g rest is small next = elim (cases_lt (length rest) (byte_len width + length_in width rest)) [
    | inr le ↦
        let w = byte_len width in
        let n = length_in width rest in
        let p = take n (drop w rest) in
        let more = drop (w + n) rest in
        subst IsRead (ap (λ (l : List ℕ). 1 ∷ l) (sym (split rest small le)) ∙ ap (λ (x : ℕ). x ∷ rest) (sym is))
        (grow p more (next more (omega (arith, length-drop (w + n) rest)) (λ i. omega (arith, small (w + n + i), get_or-drop (w + n) rest i 0))))
    | inl past ↦ inr (0, inl (record { before = []; rest = rest; is = ap (λ (x : ℕ). x ∷ rest) is; past = past; here = refl }))
  ]

  pub read : (fuel : ℕ) (area : List ℕ) → length area ≤ fuel → IsBytes area → IsRead area
  read fuel [] le small = inr (0, inr (record { before = []; is = refl; here = refl }))
  read zero (g ∷ rest) le small = absurd (omega arith)
  read (suc fuel) (g ∷ rest) le small = elim (cases_eq g 1) [
    | inl is ↦ opened fuel g rest is (λ i. small (suc i)) (λ more shorter bytes. read fuel more (omega (arith, le, shorter)) bytes)
    | inr shut ↦ inl ([], record { gate = g; rest = rest; is = refl; shut = shut })
  ]
