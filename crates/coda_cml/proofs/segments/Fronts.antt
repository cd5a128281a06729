-- A chunk is a front of the run, and there is none exactly where nothing is left of the run.
use Rattle.std.proofs.Common.{◌≡◌, ℕ, zero, suc, ◌<◌, ◌==◌, Bool, true, false, not, List, [], ◌∷◌, ◌++◌, Option, Some, None, option_map, ◌≢◌, take, drop, length, refl, sym, ap, ◌∙◌, subst, arith, ◌↔◌}
use Rattle.std.specs.Prelude.{nat_le, nat_lt, if◌then◌else◌}
use Rattle.std.specs.List.{find}
use Rattle.std.proofs.lemmas.Bool.{false≢true}
use Rattle.std.proofs.lemmas.Bool.Decides.{nat_tests}
use Rattle.std.proofs.lemmas.Option.{none-some}
use Rattle.coda_fid.specs.declared.op.Record.{Record}
use Rattle.coda_cancel.specs.Cancel.{fold}
use Rattle.coda_cancel.specs.Numbers.{AreUpTo, AreAbove, IsRising}
use Rattle.coda_cml.specs.declared.segment.Segment.{Segment}
use Rattle.coda_cml.specs.declared.frozen.Frozen.{Frozen}
use Rattle.coda_cml.specs.declared.fault.FreezeFault.{FreezeFault}
use Rattle.coda_cml.specs.declared.fault.FreezeFault.TheVariants.{Nothing, Young}
use Rattle.coda_cml.specs.Segments.{is_joined, segments_of, end_of, records_upto, records_above, last_in}
use Rattle.coda_cml.specs.Chunks.{is_filled, age, too_young, chunk_length}
use Rattle.coda_cml.specs.Partition.{ArePartedBy}
use Rattle.coda_cml.specs.Fronts.{chunk_end, MayGoUpTo, ChunksCutTheRun, NothingIsAnEmptyFold}
use Rattle.coda_cml.specs.Steady.{IsSteady}
use Rattle.coda_cml.specs.State.{LogState, IsLogOf}
use Rattle.coda_cml.specs.Steps.{frozen_to}
use Rattle.coda_cml.proofs.runs.FrontFolds.{upto_front}
use Rattle.coda_cml.proofs.segments.GrowingRuns.{ends, run_ends}
use Rattle.coda_cml.proofs.segments.PartedRecords.{segments_part}
use Rattle.coda_cml.proofs.segments.FrozenFronts.{IsSplit, split_at, taken_some, last_number, last_is, end_is, last_upto, last_above, last_cut, frozen_log, may_go}

-- ---- the operations of a front

above_front : (n : ℕ) (front back : List Record) → AreUpTo n front → AreAbove n back → records_above n (front ++ back) ≡ back
above_front n [] [] a b = refl
above_front n [] (r ∷ back) a b = let t : nat_lt n r.number ≡ true = grind (arith, nat_tests, b.0) in ap (λ c. if c then r ∷ records_above n back else records_above n back) t ∙ ap (λ l. r ∷ l) (above_front n [] back a b.1)
above_front n (r ∷ front) back a b = let t : nat_lt n r.number ≡ false = grind (arith, nat_tests, a.0) in ap (λ c. if c then r ∷ records_above n (front ++ back) else records_above n (front ++ back)) t ∙ above_front n front back a.1 b

not_false : (b : Bool) → not b ≡ true → b ≡ false
not_false true h = absurd (false≢true h)
not_false false h = refl

front_of : (run : List Record) (k : ℕ) → IsRising run → 0 < k → 0 < length (segments_of run) → MayGoUpTo (end_of (take k (segments_of run))) run
front_of run zero r p q = absurd (omega (arith, p))
front_of run (suc k) r p q = go m.0 m.1 m.2
  where
    m : (front : List Record) × (back : List Record) × IsSplit (ends run) (fold run) run (suc k) front back
    m = split_at (ends run) (fold run) run (run_ends run r) (suc k)

    go : (front back : List Record) → IsSplit (ends run) (fold run) run (suc k) front back → MayGoUpTo (end_of (take (suc k) (segments_of run))) run
    go [] back d = absurd (taken_some k (segments_of run) q d.taken)
    go (o ∷ os) back d =
        let rise : IsRising ((o ∷ os) ++ back) = subst IsRising d.run_is r in
        let low : AreUpTo (last_number o os) (o ∷ os) = last_upto o os back rise in
        let high : AreAbove (last_number o os) back = last_above o os back rise in
        let front : records_upto (last_number o os) run ≡ o ∷ os = ap (records_upto (last_number o os)) d.run_is ∙ upto_front (last_number o os) (o ∷ os) back low high in
        let rest : records_above (last_number o os) run ≡ back = ap (records_above (last_number o os)) d.run_is ∙ above_front (last_number o os) (o ∷ os) back low high in
        subst (λ n. MayGoUpTo n run) (sym (ap end_of d.taken ∙ end_is (ends run) (fold run) o os)) (record {
          whole = d.run_is ∙ (λ i. sym front i ++ sym rest i);
          last = ap last_in front ∙ last_is o os;
          cut = not_false (is_joined (last_number o os) [] run) (last_cut (ends run) o os d.ended);
        })

pub chunks_cut : ChunksCutTheRun
chunks_cut now window cap run r e = let goes = may_go None now window cap (segments_of run) e in front_of run (chunk_length now window cap (segments_of run)) r goes.0 goes.1

-- the chunk of a log ends with its front
pub sent_upto : (log : LogState) (front back : List Record) → IsLogOf log front back → option_map (λ _. end_of log.chunk_segments) log.frozen ≡ last_in front
sent_upto log [] back h = ap (option_map (λ _. end_of log.chunk_segments)) (h.sent refl)
sent_upto log (o ∷ os) back h = go log.frozen refl ∙ ap Some (ap end_of h.chunk_segments ∙ end_is (ends (o ∷ os)) (fold (o ∷ os)) o os) ∙ sym (last_is o os)
  where
    go : (f : Option Frozen) → log.frozen ≡ f → option_map (λ _. end_of log.chunk_segments) f ≡ Some (end_of log.chunk_segments)
    go None e = absurd (cc (h.thawed e))
    go (Some chunk) e = refl

-- a log whose first segments were frozen has the front and the back of its run by their numbers
pub frozen_fronts : (log : LogState) (run front back : List Record) → run ≡ front ++ back → IsLogOf log front back → front ≢ [] → (records_upto (end_of log.chunk_segments) run ≡ front) × (records_above (end_of log.chunk_segments) run ≡ back)
frozen_fronts log run [] back e h n = absurd (n refl)
frozen_fronts log run (o ∷ os) back e h n =
    let at : end_of log.chunk_segments ≡ last_number o os = ap end_of h.chunk_segments ∙ end_is (ends (o ∷ os)) (fold (o ∷ os)) o os in
    let low : AreUpTo (last_number o os) (o ∷ os) = last_upto o os back h.rising in
    let high : AreAbove (last_number o os) back = last_above o os back h.rising in (
      (λ i. records_upto (at i) (e i)) ∙ upto_front (last_number o os) (o ∷ os) back low high,
      (λ i. records_above (at i) (e i)) ∙ above_front (last_number o os) (o ∷ os) back low high,
    )

-- the chunk of a log of a steady run is cut as the run is
pub cut_of_run : (log : LogState) (run : List Record) (home now window cap k : ℕ) → IsLogOf log [] run → IsSteady run → k ≡ chunk_length now window cap log.segments → 0 < k → 0 < length log.segments →
    IsLogOf (frozen_to log home k) (records_upto (chunk_end now window cap run) run) (records_above (chunk_end now window cap run) run)
cut_of_run log run home now window cap k h s counted p q =
    let f = frozen_log log run home k h s p q in
    let parts = frozen_fronts (frozen_to log home k) run f.0 f.1 f.2 f.3 (λ e. none-some _ (sym (f.3.sent e))) in
    let at : end_of (take k log.segments) ≡ chunk_end now window cap run =
    (λ i. end_of (take (counted i) log.segments)) ∙ (λ i. end_of (take (chunk_length now window cap (h.segments i)) (h.segments i))) in
    let front : f.0 ≡ records_upto (chunk_end now window cap run) run = sym parts.0 ∙ ap (λ n. records_upto n run) at in
    let back : f.1 ≡ records_above (chunk_end now window cap run) run = sym parts.1 ∙ ap (λ n. records_above n run) at in
    subst (λ (l : List Record). IsLogOf (frozen_to log home k) l (records_above (chunk_end now window cap run) run)) front (subst (λ (l : List Record). IsLogOf (frozen_to log home k) f.0 l) back f.3)

-- ---- no record

young_some : (now window : ℕ) (s : Segment) → too_young now window (Some s) ≡ Some Nothing → ⊥
young_some now window s = go (nat_le window (age now s))
  where
    go : (b : Bool) → ◌≡◌ {A = Option FreezeFault} (if b then None else Some (Young (age now s) window)) (Some Nothing) → ⊥
    go true e = none-some _ e
    go false e = cc

empty_count : (n : ℕ) → not (n == 0) ≡ false → n ≡ 0
empty_count zero e = refl
empty_count (suc n) e = let some : (suc n == 0) ≡ false = grind (arith, nat_tests) in absurd (false≢true (sym e ∙ ap not some))

no_record : (now window : ℕ) (ss : List Segment) (rs : List Record) → ArePartedBy ss rs → too_young now window (find is_filled ss) ≡ Some Nothing → rs ≡ []
no_record now window [] rs h e = h
no_record now window (s ∷ ss) rs h e = go (is_filled s) refl e (no_record now window ss rs)
  where
    go : (b : Bool) → is_filled s ≡ b → too_young now window (if b then Some s else find is_filled ss) ≡ Some Nothing → (ArePartedBy ss rs → too_young now window (find is_filled ss) ≡ Some Nothing → rs ≡ []) → rs ≡ []
    go true f e later = absurd (young_some now window s e)
    go false f e later = later (subst (λ n. ArePartedBy ss (drop n rs)) (empty_count s.count f) h.4) e

none_filled : (ss : List Segment) → ArePartedBy ss [] → find is_filled ss ≡ None
none_filled [] h = refl
none_filled (s ∷ ss) h =
    let zero_count : s.count ≡ 0 = omega (arith, h.2) in
    let f : is_filled s ≡ false = grind (arith, nat_tests) in
    ap (λ b. if b then Some s else find is_filled ss) f ∙ none_filled ss (subst (λ n. ArePartedBy ss (drop n [])) zero_count h.4)

-- where segments part records, nothing goes exactly where there is no record
pub nothing_left : (now window : ℕ) (ss : List Segment) (rs : List Record) → ArePartedBy ss rs → (too_young now window (find is_filled ss) ≡ Some Nothing) ↔ (rs ≡ [])
nothing_left now window ss rs h = (no_record now window ss rs h, λ e. ap (too_young now window) (none_filled ss (subst (ArePartedBy ss) e h)))

pub nothing_empty : NothingIsAnEmptyFold
nothing_empty now window run r = nothing_left now window (segments_of run) (fold run) (segments_part run r)
