-- A log's text shows each record below its segment.
use Rattle.std.proofs.Common.{◌≡◌, ℕ, zero, suc, ◌+◌, ◌≤◌, length, Some, subst, List, [], ◌∷◌, ◌++◌, take, drop, codes, refl, sym, ap, ◌∙◌, add-one, append_assoc}
use Rattle.std.specs.Prelude.{slice_get}
use Rattle.std.specs.List.{flat_map}
use Rattle.std.proofs.lemmas.List.{append-nil, drop_all, take-append-drop}
use Rattle.std.proofs.lemmas.Option.{same_Some, none-some}
use Rattle.coda_fid.specs.declared.op.Record.{Record}
use Rattle.coda_cancel.specs.Cancel.{fold}
use Rattle.coda_cml.specs.declared.segment.Segment.{Segment}
use Rattle.coda_cml.specs.Partition.{ArePartedBy}
use Rattle.coda_cml.specs.Segments.{segments_of}
use Rattle.coda_cml.specs.State.{IsLogOf, LogState}
use Rattle.coda_report.specs.Records.{record_line}
use Rattle.coda_report.specs.LogTexts.{log_line, log_of_runs, log_text, segment_line, segments_text, shown_segment_text, AreShownAs, ShownSegment, ShowsLog}

-- ---- how the text is put

-- the next of some
drop_suc : {X : Type 0} (xs : List X) (i : ℕ) (x : X) → slice_get xs i ≡ Some x → drop i xs ≡ x ∷ drop (suc i) xs
drop_suc [] i x is = absurd (none-some x is)
drop_suc (first ∷ xs) zero x is = ap (λ y. y ∷ xs) (same_Some first x is)
drop_suc (first ∷ xs) (suc i) x is = drop_suc xs i x is

drop_next : {X : Type 0} (xs : List X) (i : ℕ) (x : X) → slice_get xs i ≡ Some x → drop i xs ≡ x ∷ drop (i + 1) xs
drop_next xs i x is = drop_suc xs i x is ∙ ap (λ (n : ℕ). x ∷ drop n xs) (sym (add-one i))

-- one segment more, with the records below it
pub segment_step : (word start whole out first second : List ℕ) (segments : List Segment) (i : ℕ) (segment : Segment) (recs front back : List Record)
    → slice_get segments i ≡ Some segment → out ++ segments_text word (drop i segments) recs ≡ start ++ whole → first ≡ out ++ segment_line word segment
    → second ≡ first ++ flat_map record_line front → front ≡ take segment.count recs → back ≡ drop segment.count recs
    → second ++ segments_text word (drop (i + 1) segments) back ≡ start ++ whole
unfolding segments_text
segment_step word start whole out first second segments i segment recs front back is before e1 e2 e3 e4 =
    ap (λ t. t ++ segments_text word later back) (e2 ∙ ap (λ t. t ++ flat_map record_line front) e1)
    ∙ ap (λ r. ((out ++ segment_line word segment) ++ flat_map record_line r) ++ segments_text word later back) e3
    ∙ ap (λ r. ((out ++ segment_line word segment) ++ flat_map record_line (take segment.count recs)) ++ segments_text word later r) e4
    ∙ ap (λ t. t ++ segments_text word later (drop segment.count recs)) (append_assoc out (segment_line word segment) (flat_map record_line (take segment.count recs)))
    ∙ append_assoc out (segment_line word segment ++ flat_map record_line (take segment.count recs)) (segments_text word later (drop segment.count recs))
    ∙ ap (λ l. out ++ segments_text word l recs) (sym (drop_next segments i segment is))
    ∙ before
  where
    later : List Segment
    later = drop (i + 1) segments

-- what is left is parted by what is left
pub parted_step : (segments : List Segment) (i : ℕ) (segment : Segment) (recs back : List Record) → slice_get segments i ≡ Some segment → ArePartedBy (drop i segments) recs → back ≡ drop segment.count recs → ArePartedBy (drop (i + 1) segments) back
parted_step segments i segment recs back is parted e =
    subst (λ r. ArePartedBy (drop (i + 1) segments) r) (sym e) (subst (λ l. ArePartedBy l recs) (drop_next segments i segment is) parted).4

-- no segment more
pub segments_end : (word start out : List ℕ) (segments : List Segment) (i : ℕ) (recs : List Record) → length segments ≤ i → out ++ segments_text word (drop i segments) recs ≡ start → out ≡ start
unfolding segments_text
segments_end word start out segments i recs le before = sym (append-nil out) ∙ ap (λ l. out ++ segments_text word l recs) (sym (drop_all i segments le)) ∙ before

-- ---- what it shows

-- segments with the records below each
shown_of : List Segment → List Record → List ShownSegment
shown_of [] recs = []
shown_of (segment ∷ rest) recs = record { segment = segment; below = take segment.count recs } ∷ shown_of rest (drop segment.count recs)

-- these are what the text shows
shown_text : (word : List ℕ) (segments : List Segment) (recs : List Record) → segments_text word segments recs ≡ flat_map (shown_segment_text word) (shown_of segments recs)
unfolding segments_text shown_of
shown_text word [] recs = refl
shown_text word (segment ∷ rest) recs =
    ap (λ text. segment_line word segment ++ flat_map record_line (take segment.count recs) ++ text) (shown_text word rest (drop segment.count recs))

-- and they have the segments and their records
shown_parts : (segments : List Segment) (recs : List Record) → ArePartedBy segments recs → AreShownAs segments recs (shown_of segments recs)
unfolding shown_of
shown_parts [] recs parted = record { in_turn = refl; once = sym parted; below = tt }
shown_parts (segment ∷ rest) recs parted =
    let later = shown_parts rest (drop segment.count recs) parted.4 in
    record {
      in_turn = ap (λ segments. segment ∷ segments) later.in_turn;
      once = ap (λ behind. take segment.count recs ++ behind) later.once ∙ take-append-drop segment.count recs;
      below = (parted.3, later.below);
    }

-- a text of a log shows it
pub shows_log : (log : LogState) (text : List ℕ) → ArePartedBy log.chunk_segments log.chunk → ArePartedBy log.segments log.records → text ≡ log_text log → ShowsLog log text
shows_log log text frozen tail is = (
  shown_of log.chunk_segments log.chunk,
  shown_of log.segments log.records,
  shown_parts log.chunk_segments log.chunk frozen,
  shown_parts log.segments log.records tail,
  is ∙ ap (λ t. log_line log ++ t ++ segments_text (codes "open") log.segments log.records) (shown_text (codes "frozen") log.chunk_segments log.chunk)
      ∙ ap (λ t. log_line log ++ flat_map (shown_segment_text (codes "frozen")) (shown_of log.chunk_segments log.chunk) ++ t) (shown_text (codes "open") log.segments log.records),
)

-- ---- the text of the operations

pub runs_text : (log : LogState) (text : List ℕ) (front back : List Record) → IsLogOf log front back → text ≡ log_text log → text ≡ log_text (log_of_runs log.frozen front back)
runs_text log text front back of is =
    is
    ∙ ap (λ recs. log_text (record log { chunk = recs })) of.chunk
    ∙ ap (λ segments. log_text (record log { chunk = fold front; chunk_segments = segments })) of.chunk_segments
    ∙ ap (λ recs. log_text (record log { chunk = fold front; chunk_segments = segments_of front; records = recs })) of.records
    ∙ ap (λ segments. log_text (record log { chunk = fold front; chunk_segments = segments_of front; records = fold back; segments = segments })) of.segments
