-- Joining the last segments alone is joining and counting all again.
use Rattle.std.proofs.Common.{◌≡◌, ℕ, zero, suc, ◌+◌, ◌-◌, ◌<◌, ◌≤◌, Bool, true, false, not, ◌&&◌, ◌||◌, List, [], ◌∷◌, ◌++◌, Option, Some, None, take, drop, length, get_or, drop-cons, refl, sym, ap, ◌∙◌, subst, append_assoc, arith}
use Rattle.std.specs.Prelude.{nat_le, nat_lt, if◌then◌else◌, max}
use Rattle.std.proofs.Math.Seq.{take-append_seam, drop-append_seam}
use Rattle.std.proofs.lemmas.List.{append-nil, take-append-drop, length-take-le, length-append}
use Rattle.std.proofs.lemmas.Bool.{false≢true}
use Rattle.std.proofs.lemmas.Bool.Decides.{nat_tests}
use Rattle.coda_fid.specs.declared.op.Record.{Record}
use Rattle.coda_cancel.specs.Cancel.{add}
use Rattle.coda_cancel.specs.Numbers.{dropped, least, AreBelow, AreUpTo, AreAbove}
use Rattle.coda_cancel.specs.Joins.{noted}
use Rattle.coda_cancel.proofs.Rising.{above_more, upto_add}
use Rattle.coda_cml.specs.declared.segment.Segment.{Segment}
use Rattle.coda_cml.specs.Segments.{single, end_of}
use Rattle.coda_cml.specs.Longest.{total}
use Rattle.coda_cml.specs.Regrouping.{is_inside, widened, widen_front, rejoined, leading, recounted}
use Rattle.coda_cml.specs.Partition.{BeginAbove, AreInTurn, EndUpTo, ArePartedBy}
use Rattle.coda_cml.specs.LastSegment.{ended_before, reaching, all_joined, regrouped_last}
use Rattle.coda_cml.specs.Steps.{segments_after}
use Rattle.coda_cml.proofs.runs.JoinedNumbers.{In, any_in}
use Rattle.coda_cml.proofs.runs.FrontFolds.{add_behind}
use Rattle.coda_cml.proofs.segments.RangesWithoutCounts.{bared}
use Rattle.coda_cml.proofs.segments.WhereJoiningEnds.{rejoined_one}
use Rattle.coda_cml.proofs.segments.GrowingRuns.{within, any_least}
use Rattle.coda_cml.proofs.segments.LogSteps.{upto_back}
use Rattle.coda_cml.proofs.segments.FrozenFronts.{leading_split}
use Rattle.coda_cml.proofs.segments.PartedRecords.{halves, end_above, parted_upto, parted_above, between_upto, ends_front}

-- ---- which segments join

pub parts_whole : (l : Option ℕ) (ss : List Segment) → ss ≡ ended_before l ss ++ reaching l ss
parts_whole None ss = sym (append-nil ss)
parts_whole (Some n) [] = refl
parts_whole (Some n) (s ∷ ss) = go (nat_lt s.last n) (parts_whole (Some n) ss)
  where
    go : (b : Bool) → ss ≡ ended_before (Some n) ss ++ reaching (Some n) ss → s ∷ ss ≡ (if b then s ∷ ended_before (Some n) ss else []) ++ (if b then reaching (Some n) ss else s ∷ ss)
    go true e = ap (λ l. s ∷ l) e
    go false e = refl

-- no segment passes the test, or each does
AllAre : Bool → (ℕ → Bool) → List Segment → Type 0
AllAre b g [] = Unit {0}
AllAre b g (s ∷ ss) = (g s.last ≡ b) × AllAre b g ss

later_last : (n : ℕ) (s : Segment) (ss : List Segment) → AreInTurn (s ∷ ss) → n ≤ s.last → (m : ℕ) → EndUpTo m ss → AllAre true (λ k. nat_le n k && nat_lt k (suc m)) ss
unfolding AllAre
later_last n s [] t l m e = tt
later_last n s (u ∷ us) t l m e =
    let a = t.1.0 in let b = t.2.0 in
    let low : n ≤ u.last = omega (arith, l, a, b) in
    let one : nat_le n u.last ≡ true = grind (arith, nat_tests) in
    let two : nat_lt u.last (suc m) ≡ true = grind (arith, nat_tests, e.0) in
    ((λ i. one i && two i), later_last n u us t.2 low m e.1)

inside : Option ℕ → ℕ → ℕ → Bool
inside l number = is_inside (noted number l)

front_outside : (l : Option ℕ) (number : ℕ) (ss : List Segment) → AllAre false (inside l number) (ended_before l ss)
unfolding AllAre inside
front_outside None number [] = tt
front_outside None number (s ∷ ss) = (refl, front_outside None number ss)
front_outside (Some n) number [] = tt
front_outside (Some n) number (s ∷ ss) = go (nat_lt s.last n) refl (front_outside (Some n) number ss)
  where
    go : (b : Bool) → nat_lt s.last n ≡ b → AllAre false (inside (Some n) number) (ended_before (Some n) ss) → AllAre false (inside (Some n) number) (if b then s ∷ ended_before (Some n) ss else [])
    go true e rest = (let no : nat_le n s.last ≡ false = grind (arith, nat_tests) in ap (λ b. (b && nat_lt s.last number) || false) no, rest)
    go false e rest = tt

or_none : (b : Bool) → b ≡ true → (b || false) ≡ true
or_none true e = refl
or_none false e = absurd (false≢true e)

back_inside : (l : Option ℕ) (last number : ℕ) (ss : List Segment) → last < number → AreInTurn ss → EndUpTo last ss → AllAre true (inside l number) (reaching l ss)
unfolding AllAre inside
back_inside None last number ss k t e = tt
back_inside (Some n) last number [] k t e = tt
back_inside (Some n) last number (s ∷ ss) k t e = go (nat_lt s.last n) refl (back_inside (Some n) last number ss k t.2 e.1)
  where
    all : (n : ℕ) (ss : List Segment) → n ≤ s.last → BeginAbove s.last ss → AreInTurn ss → EndUpTo last ss → AllAre true (inside (Some n) number) ss
    all n [] l b t e = tt
    all n (u ∷ us) l b t e =
        let a = b.0 in let c = t.0 in
        let one : nat_le n u.last ≡ true = grind (arith, nat_tests, l, a, c) in
        let two : nat_lt u.last number ≡ true = grind (arith, nat_tests, e.0, k) in
        (or_none (nat_le n u.last && nat_lt u.last number) (λ i. one i && two i), all n us l b.1 t.2 e.1)

    go : (b : Bool) → nat_lt s.last n ≡ b → AllAre true (inside (Some n) number) (reaching (Some n) ss) → AllAre true (inside (Some n) number) (if b then reaching (Some n) ss else s ∷ ss)
    go true h rest = rest
    go false h rest =
        let l : n ≤ s.last = grind (arith, nat_tests) in
        let one : nat_le n s.last ≡ true = grind (arith, nat_tests) in
        let two : nat_lt s.last number ≡ true = grind (arith, nat_tests, e.0, k) in
        (or_none (nat_le n s.last && nat_lt s.last number) (λ i. one i && two i), all n ss l t.1 t.2 e.1)

-- ---- joining them

all_widened : List Segment → Segment → Segment
all_widened [] last = last
all_widened (s ∷ ss) last = widened s (all_widened ss last)

rejoined_front : (g : ℕ → Bool) (ss rest : List Segment) → AllAre false g ss → rejoined g (ss ++ rest) ≡ ss ++ rejoined g rest
unfolding AllAre
rejoined_front g [] rest h = refl
rejoined_front g (s ∷ ss) rest h = ap (λ b. widen_front (not b) s (rejoined g (ss ++ rest))) h.0 ∙ ap (λ l. s ∷ l) (rejoined_front g ss rest h.1)

rejoined_back : (g : ℕ → Bool) (ss : List Segment) (t : Segment) → AllAre true g ss → rejoined g (ss ++ t ∷ []) ≡ all_widened ss t ∷ []
unfolding AllAre all_widened
rejoined_back g [] t h = rejoined_one g t
rejoined_back g (s ∷ ss) t h = ap (λ b. widen_front (not b) s (rejoined g (ss ++ t ∷ []))) h.0 ∙ ap (widen_front false s) (rejoined_back g ss t h.1)

same_range : (ss : List Segment) (t : Segment) → bared (all_widened ss t) ≡ bared (all_joined ss t)
unfolding all_widened
same_range [] t = refl
same_range (s ∷ ss) t = ap (λ (u : Segment). record { first = s.first; last = u.last; count = 0; newest = max s.newest u.newest }) (same_range ss t)

last_widened : (ss : List Segment) (t : Segment) → (all_widened ss t).last ≡ t.last
unfolding all_widened
last_widened [] t = refl
last_widened (s ∷ ss) t = last_widened ss t

-- ---- counting

-- the records are above the ends of the segments
AreBehind : List Record → List Segment → Type 0
AreBehind rs [] = Unit {0}
AreBehind rs (s ∷ ss) = AreAbove s.last rs × AreBehind rs ss

leading_all : (n : ℕ) (rs : List Record) → AreUpTo n rs → leading n rs ≡ length rs
leading_all n rs u = ap (leading n) (sym (append-nil rs)) ∙ leading_split n rs [] u tt

above_joined : (n : ℕ) (rs os : List Record) → AreAbove n rs → AreAbove n os → AreAbove n (rs ++ os)
above_joined n [] os a b = b
above_joined n (r ∷ rs) os a b = (a.0, above_joined n rs os a.1 b)

recounted_last : (ss : List Segment) (m : Segment) (low high : List Record) → AreInTurn ss → ArePartedBy ss low → AreBehind high ss → AreUpTo m.last high → recounted (low ++ high) (ss ++ m ∷ []) ≡ ss ++ record m { count = length high } ∷ []
unfolding AreBehind
recounted_last [] m low high t h a u =
    let e : low ++ high ≡ high = ap (λ l. l ++ high) h in
    ap (λ l. record m { count = leading m.last l } ∷ []) e ∙ ap (λ n. record m { count = n } ∷ []) (leading_all m.last high u)
recounted_last (s ∷ ss) m low high t h a u =
    let first = take s.count low in
    let rest = drop s.count low in
    let whole : low ++ high ≡ first ++ (rest ++ high) = ap (λ l. l ++ high) (sym (take-append-drop s.count low)) ∙ append_assoc first rest high in
    let long : length first ≡ s.count = length-take-le s.count low h.2 in
    let counted : leading s.last (low ++ high) ≡ length first = ap (leading s.last) whole ∙ leading_split s.last first (rest ++ high) (between_upto s.first s.last first h.3) (above_joined s.last rest high (parted_above s.last ss rest h.1 h.4) a.0) in
    let left : drop (leading s.last (low ++ high)) (low ++ high) ≡ rest ++ high = (λ i. drop (counted i) (whole i)) ∙ drop-append_seam first (rest ++ high) in
    (λ i. record s { count = (counted ∙ long) i } ∷ recounted (left i) (ss ++ m ∷ []))
    ∙ ap (λ l. s ∷ l) (recounted_last ss m rest high t.2 h.4 a.1 u)

pub parted_total : (ss : List Segment) (rs : List Record) → ArePartedBy ss rs → total ss ≡ length rs
parted_total [] rs h = sym (ap length h)
parted_total (s ∷ ss) rs h =
    let rest = parted_total ss (drop s.count rs) h.4 in
    let long : length (take s.count rs) ≡ s.count = length-take-le s.count rs h.2 in
    let whole : length rs ≡ length (take s.count rs) + length (drop s.count rs) = ap length (sym (take-append-drop s.count rs)) ∙ length-append (take s.count rs) (drop s.count rs) in
    omega (arith, rest, long, whole)

-- ---- both halves of the records

split_parts : (ss ts : List Segment) (rs : List Record) → AreInTurn (ss ++ ts) → ArePartedBy (ss ++ ts) rs → (low : List Record) × (high : List Record) × (rs ≡ low ++ high) × ArePartedBy ss low × ArePartedBy ts high
split_parts ss ts rs t h =
    let m = halves (length ss) (ss ++ ts) rs t h in
    (m.0, m.1, m.2, subst (λ l. ArePartedBy l m.0) (take-append_seam ss ts) m.3, subst (λ l. ArePartedBy l m.1) (drop-append_seam ss ts) m.4)

turn_front : (ss ts : List Segment) → AreInTurn (ss ++ ts) → AreInTurn ss
turn_front [] ts t = tt
turn_front (s ∷ ss) ts t = (t.0, begin_front s.last ss ts t.1, turn_front ss ts t.2)
  where
    begin_front : (n : ℕ) (ss ts : List Segment) → BeginAbove n (ss ++ ts) → BeginAbove n ss
    begin_front n [] ts b = tt
    begin_front n (s ∷ ss) ts b = (b.0, begin_front n ss ts b.1)

begin_behind : (s : Segment) (ss ts : List Segment) → AreInTurn ((s ∷ ss) ++ ts) → BeginAbove (end_of (s ∷ ss)) ts
begin_behind s [] ts t = t.1
begin_behind s (u ∷ us) ts t = begin_behind u us ts t.2

ends_at_last : (n : ℕ) (s : Segment) (ss : List Segment) → EndUpTo n (s ∷ ss) → end_of (s ∷ ss) ≤ n
ends_at_last n s [] e = e.0
ends_at_last n s (u ∷ us) e = ends_at_last n u us e.1

behind_end : (s : Segment) (ss : List Segment) (rs : List Record) → AreInTurn (s ∷ ss) → AreAbove (end_of (s ∷ ss)) rs → AreBehind rs (s ∷ ss)
unfolding AreBehind
behind_end s [] rs t a = (a, tt)
behind_end s (u ∷ us) rs t a = (above_more s.last (end_of (u ∷ us)) (end_above s (u ∷ us) t) rs a, behind_end u us rs t.2 a)

-- what is dropped is not in front
front_before : (n : ℕ) (ss : List Segment) (s : Segment) (rest : List Segment) → ended_before (Some n) ss ≡ s ∷ rest → end_of (s ∷ rest) < n
front_before n [] s rest e = absurd (cc)
front_before n (x ∷ ss) s rest e = go (nat_lt x.last n) refl e (front_before n ss)
  where
    go : (b : Bool) → nat_lt x.last n ≡ b → (if b then x ∷ ended_before (Some n) ss else []) ≡ s ∷ rest → ((s : Segment) (rest : List Segment) → ended_before (Some n) ss ≡ s ∷ rest → end_of (s ∷ rest) < n) → end_of (s ∷ rest) < n
    go true h e later = at (ended_before (Some n) ss) refl e
      where
        at : (l : List Segment) → ended_before (Some n) ss ≡ l → x ∷ ended_before (Some n) ss ≡ s ∷ rest → end_of (s ∷ rest) < n
        at [] k e = subst (λ (l : List Segment). end_of l < n) (ap (λ l. x ∷ l) (sym k) ∙ e) (let q : x.last < n = grind (arith, nat_tests) in q)
        at (y ∷ ys) k e = subst (λ (l : List Segment). end_of l < n) (ap (λ l. x ∷ l) (sym k) ∙ e) (later y ys k)
    go false h e later = absurd (cc)

never : (rs : List Record) (o : Record) (ss : List Segment) (s : Segment) (rest : List Segment) → ended_before (least (dropped rs o)) ss ≡ s ∷ rest → (i : ℕ) → In i (dropped rs o) → i ≤ end_of (s ∷ rest) → ⊥
never rs o ss s rest e i h l = go (least (dropped rs o)) e (sym (any_least (end_of (s ∷ rest)) (dropped rs o)) ∙ any_in (end_of (s ∷ rest)) i (dropped rs o) h l)
  where
    go : (k : Option ℕ) → ended_before k ss ≡ s ∷ rest → within k (end_of (s ∷ rest)) ≡ true → ⊥
    go None e w = false≢true w
    go (Some n) e w = let a = front_before n ss s rest e in let b : n ≤ end_of (s ∷ rest) = grind (arith, nat_tests) in omega (arith, a, b)

-- ---- the segments after an operation

module _ (last : ℕ) (ss : List Segment) (rs : List Record) (o : Record) (turn : AreInTurn ss) (ends : EndUpTo last ss) (parts : ArePartedBy ss rs) (later : last < o.number) (below : AreBelow o.number rs) where
  front : List Segment
  front = ended_before (least (dropped rs o)) ss

  back : List Segment
  back = reaching (least (dropped rs o)) ss

  -- what an operation leaves, in two parts
  record Left : Type 0 where
    low : List Record
    high : List Record
    whole : add rs o ≡ low ++ high
    low_parts : ArePartedBy front low
    behind : AreBehind high front

  left : Left
  unfolding AreBehind front back
  left = go front refl (split_parts front back rs (subst AreInTurn (parts_whole (least (dropped rs o)) ss) turn) (subst (λ l. ArePartedBy l rs) (parts_whole (least (dropped rs o)) ss) parts))
    where
      go : (f : List Segment) → front ≡ f → (low : List Record) × (high : List Record) × (rs ≡ low ++ high) × ArePartedBy front low × ArePartedBy back high → Left
      go [] e m = record { low = []; high = add rs o; whole = refl; low_parts = subst (λ l. ArePartedBy l []) (sym e) refl; behind = subst (AreBehind (add rs o)) (sym e) tt }
      go (s ∷ rest) e m =
          let t : AreInTurn ((s ∷ rest) ++ back) = subst (λ l. AreInTurn (l ++ back)) e (subst AreInTurn (parts_whole (least (dropped rs o)) ss) turn) in
          let j = end_of (s ∷ rest) in
          let low_parts : ArePartedBy (s ∷ rest) m.0 = subst (λ l. ArePartedBy l m.0) e m.3 in
          let up : AreUpTo (end_of (s ∷ rest)) m.0 = parted_upto (s ∷ rest) m.0 (turn_front (s ∷ rest) back t) low_parts in
          let above : AreAbove (end_of (s ∷ rest)) m.1 = parted_above (end_of (s ∷ rest)) back m.1 (begin_behind s rest back t) m.4 in
          let ended : end_of (s ∷ rest) ≤ last = ends_at_last last s rest (subst (EndUpTo last) e (ends_front last front back (subst (EndUpTo last) (parts_whole (least (dropped rs o)) ss) ends))) in
          let k = add_behind (end_of (s ∷ rest)) m.0 m.1 o up above (omega (arith, ended, later)) (λ i x y. never rs o ss s rest e i (subst (λ l. In i (dropped l o)) (sym m.2) x) y) in
          record {
            low = m.0;
            high = k.0;
            whole = ap (λ l. add l o) m.2 ∙ k.1;
            low_parts = m.3;
            behind = subst (AreBehind k.0) (sym e) (behind_end s rest k.0 (turn_front (s ∷ rest) back t) k.2);
          }

  front_turn : AreInTurn front
  unfolding front back
  front_turn = turn_front front back (subst AreInTurn (parts_whole (least (dropped rs o)) ss) turn)

  rest_length : length left.high ≡ length (add rs o) - total front
  rest_length =
      let a : total front ≡ length left.low = parted_total front left.low left.low_parts in
      let b : length (add rs o) ≡ length left.low + length left.high = ap length left.whole ∙ length-append left.low left.high in
      omega (arith, a, b)

  pub front_fits : total (ended_before (least (dropped rs o)) ss) ≤ length (add rs o)
  unfolding front
  front_fits =
      let a : total front ≡ length left.low = parted_total front left.low left.low_parts in
      let b : length (add rs o) ≡ length left.low + length left.high = ap length left.whole ∙ length-append left.low left.high in
      omega (arith, a, b)

  pub last_regrouped : regrouped_last ss (single [] o) (least (dropped rs o)) (length (add rs o)) ≡ segments_after ss rs o
  unfolding front back inside
  last_regrouped =
      let t : Segment = single [] o in
      let joins : rejoined (is_inside (noted o.number (least (dropped rs o)))) (ss ++ single [] o ∷ []) ≡ front ++ all_widened back (single [] o) ∷ [] =
      ap (λ l. rejoined (inside (least (dropped rs o)) o.number) (l ++ single [] o ∷ [])) (parts_whole (least (dropped rs o)) ss)
      ∙ ap (rejoined (inside (least (dropped rs o)) o.number)) (append_assoc front back (single [] o ∷ []))
      ∙ rejoined_front (inside (least (dropped rs o)) o.number) front (back ++ single [] o ∷ []) (front_outside (least (dropped rs o)) o.number ss)
      ∙ ap (λ l. front ++ l) (rejoined_back (inside (least (dropped rs o)) o.number) back (single [] o) (back_inside (least (dropped rs o)) last o.number ss later turn ends)) in
      let up : AreUpTo (all_widened back (single [] o)).last left.high =
      subst (λ n. AreUpTo n left.high) (sym (last_widened back (single [] o))) (upto_back o.number left.low left.high (subst (AreUpTo o.number) left.whole (upto_add rs o below))) in
      sym (ap (recounted (add rs o)) joins
      ∙ ap (λ l. recounted l (front ++ all_widened back (single [] o) ∷ [])) left.whole
      ∙ recounted_last front (all_widened back (single [] o)) left.low left.high front_turn left.low_parts left.behind up
      ∙ ap (λ (s : Segment). front ++ record s { count = length left.high } ∷ []) (same_range back (single [] o))
      ∙ ap (λ n. front ++ record (all_joined back (single [] o)) { count = n } ∷ []) rest_length)

-- ---- from the last segment backwards

taken_total : (ss : List Segment) (k : ℕ) (d : Segment) → k < length ss → total (take (suc k) ss) ≡ total (take k ss) + (get_or ss k d).count
taken_total [] k d l = absurd (omega (arith, l))
taken_total (s ∷ ss) zero d l = omega arith
taken_total (s ∷ ss) (suc k) d l = let h = taken_total ss k d (omega (arith, l)) in omega (arith, h)

-- one more segment is joined
pub back_step : (ss : List Segment) (k : ℕ) (d : Segment) → 0 < k → k ≤ length ss → (drop (k - 1) ss ≡ get_or ss (k - 1) d ∷ drop k ss) × (total (take k ss) ≡ total (take (k - 1) ss) + (get_or ss (k - 1) d).count)
back_step ss zero d p l = absurd (omega (arith, p))
back_step ss (suc k) d p l =
    let e : suc k - 1 ≡ k = omega arith in
    (ap (λ n. drop n ss) e ∙ drop-cons ss k d (omega (arith, l)) ∙ ap (λ n. get_or ss n d ∷ drop (suc k) ss) (sym e), taken_total ss k d (omega (arith, l)) ∙ ap (λ n. total (take n ss) + (get_or ss n d).count) (sym e))

later_than : (s : Segment) (ss : List Segment) (j : ℕ) (d : Segment) → AreInTurn (s ∷ ss) → j < length ss → s.last < (get_or ss j d).last
later_than s [] j d t l = absurd (omega (arith, l))
later_than s (u ∷ us) zero d t l = let a = t.1.0 in let b = t.2.0 in omega (arith, a, b)
later_than s (u ∷ us) (suc j) d t l = later_than s us j d (t.0, t.1.1, t.2.2) (omega (arith, l))

-- where no further segment is joined
pub back_ends : (ss : List Segment) (k n : ℕ) → AreInTurn ss → k ≤ length ss → ((j : ℕ) (d : Segment) → suc j ≡ k → (get_or ss j d).last < n) → ((j : ℕ) (d : Segment) → k ≤ j → j < length ss → n ≤ (get_or ss j d).last) →
    (take k ss ≡ ended_before (Some n) ss) × (drop k ss ≡ reaching (Some n) ss)
back_ends [] zero n t l before behind = (refl, refl)
back_ends [] (suc k) n t l before behind = absurd (omega (arith, l))
back_ends (s ∷ ss) zero n t l before behind =
    let h = behind 0 s (omega arith) (omega arith) in
    let e : nat_lt s.last n ≡ false = grind (arith, nat_tests) in
    (sym (ap (λ b. if b then s ∷ ended_before (Some n) ss else []) e), sym (ap (λ b. if b then reaching (Some n) ss else s ∷ ss) e))
back_ends (s ∷ ss) (suc k) n t l before behind =
    let rest = back_ends ss k n t.2 (omega (arith, l)) (λ j d e. before (suc j) d (ap suc e)) (λ j d a b. behind (suc j) d (omega (arith, a)) (omega (arith, b))) in
    let less : s.last < n = first k l before in
    let e : nat_lt s.last n ≡ true = grind (arith, nat_tests) in
    (ap (λ l. s ∷ l) rest.0 ∙ sym (ap (λ b. if b then s ∷ ended_before (Some n) ss else []) e), rest.1 ∙ sym (ap (λ b. if b then reaching (Some n) ss else s ∷ ss) e))
  where
    first : (k : ℕ) → suc k ≤ length (s ∷ ss) → ((j : ℕ) (d : Segment) → suc j ≡ suc k → (get_or (s ∷ ss) j d).last < n) → s.last < n
    first zero l before = before 0 s refl
    first (suc k) l before = let a = before (suc k) s refl in let b = later_than s ss k s t (omega (arith, l)) in omega (arith, a, b)
