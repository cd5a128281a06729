-- Logs of runs, step by step.
use Rattle.std.proofs.Common.{ℕ, ◌<◌, ◌≤◌, List, [], ◌∷◌, ◌++◌, refl, sym, ap, ◌∙◌, subst, append_assoc, arith}
use Rattle.coda_fid.specs.declared.op.Record.{Record}
use Rattle.coda_cancel.specs.Cancel.{add}
use Rattle.coda_cancel.specs.Numbers.{AreBelow, AreUpTo, AreAbove, IsRising}
use Rattle.coda_cancel.proofs.Rising.{rising_behind, rising_push, rising_add, upto_add, upto_push, below_upto}
use Rattle.coda_cml.specs.State.{LogState, IsLogOf}
use Rattle.coda_cml.specs.Steps.{appended_to, applied_to, segments_after}
use Rattle.coda_cml.proofs.runs.ThawedFold.{added-append}
use Rattle.coda_cml.proofs.runs.CutsAfterThaw.{above_add}
use Rattle.coda_cml.proofs.segments.GrowingRuns.{segments-after}

-- ---- numbers

upto_more : (n m : ℕ) → n ≤ m → (rs : List Record) → AreUpTo n rs → AreUpTo m rs
upto_more n m l [] h = tt
upto_more n m l (r ∷ rs) h = (omega (arith, h.0), upto_more n m l rs h.1)

pub upto_both : (n : ℕ) (rs os : List Record) → AreUpTo n rs → AreUpTo n os → AreUpTo n (rs ++ os)
upto_both n [] os a b = b
upto_both n (r ∷ rs) os a b = (a.0, upto_both n rs os a.1 b)

pub upto_front : (n : ℕ) (rs os : List Record) → AreUpTo n (rs ++ os) → AreUpTo n rs
upto_front n [] os h = tt
upto_front n (r ∷ rs) os h = (h.0, upto_front n rs os h.1)

pub upto_back : (n : ℕ) (rs os : List Record) → AreUpTo n (rs ++ os) → AreUpTo n os
upto_back n [] os h = h
upto_back n (r ∷ rs) os h = upto_back n rs os h.1

pub below_later : (l n : ℕ) → l < n → (rs : List Record) → AreUpTo l rs → AreBelow n rs
below_later l n k [] h = tt
below_later l n k (r ∷ rs) h = (omega (arith, h.0), below_later l n k rs h.1)

above_back : (m : ℕ) (rs os : List Record) → AreAbove m (rs ++ os) → AreAbove m os
above_back m [] os h = h
above_back m (r ∷ rs) os h = above_back m rs os h.1

above_add_behind : (m : ℕ) (rs os : List Record) (o : Record) → AreAbove m (rs ++ os) → m < o.number → AreAbove m (rs ++ add os o)
above_add_behind m [] os o h l = above_add m os o h l
above_add_behind m (r ∷ rs) os o h l = (h.0, above_add_behind m rs os o h.1 l)

-- the parts of a log keep rising as an operation is added to the later one
pub rising_add_behind : (rs os : List Record) (o : Record) → IsRising (rs ++ os) → AreBelow o.number (rs ++ os) → IsRising (rs ++ add os o)
rising_add_behind [] os o h l = rising_add os o h l
rising_add_behind (r ∷ rs) os o h l = (above_add_behind r.number rs os o h.0 l.0, rising_add_behind rs os o h.1 l.1)

pub upto_add_behind : (l : ℕ) (rs os : List Record) (o : Record) → AreUpTo l (rs ++ os) → l < o.number → AreUpTo o.number (rs ++ add os o)
upto_add_behind l rs os o h k =
    upto_both o.number rs (add os o) (below_upto o.number rs (below_later l o.number k rs (upto_front l rs os h))) (upto_add os o (below_later l o.number k os (upto_back l rs os h)))

-- ---- one more operation

pub appended_log : (log : LogState) (front back : List Record) (o : Record) → log.last < o.number → IsLogOf log front back → IsLogOf (appended_to log o) front (back ++ o ∷ [])
appended_log log front back o l h =
    let below : AreBelow o.number (front ++ back) = below_later log.last o.number l (front ++ back) h.reached in
    let rising : IsRising (front ++ (back ++ o ∷ [])) = subst IsRising (append_assoc front back (o ∷ [])) (rising_push (front ++ back) o h.rising below) in
    record {
      rising = rising;
      reached = subst (AreUpTo o.number) (append_assoc front back (o ∷ [])) (upto_push o.number (front ++ back) o below refl);
      thawed = h.thawed;
      sent = h.sent;
      chunk = h.chunk;
      chunk_segments = h.chunk_segments;
      records = ap (λ l. add l o) h.records ∙ sym (added-append [] back (o ∷ []));
      segments = (λ i. segments_after (h.segments i) (h.records i) o) ∙ segments-after back o (rising_behind front (back ++ o ∷ []) rising);
    }

-- ---- without the chunk

pub applied_log : (log : LogState) (front back : List Record) → IsLogOf log front back → IsLogOf (applied_to log) [] back
applied_log log front back h = record {
  rising = rising_behind front back h.rising;
  reached = upto_back log.last front back h.reached;
  thawed = λ e. refl;
  sent = λ e. refl;
  chunk = refl;
  chunk_segments = refl;
  records = h.records;
  segments = h.segments;
}
