-- Each step of a log keeps its segments the parts of its records.
use Rattle.std.proofs.Common.{◌≡◌, ℕ, ◌<◌, List, [], ◌∷◌, ◌++◌, take, drop, length, Bool, refl, sym, subst, append_assoc, inl, arith}
use Rattle.std.proofs.lemmas.List.{take-append-drop}
use Rattle.coda_fid.specs.declared.op.Record.{Record}
use Rattle.coda_cancel.specs.Cancel.{add, added}
use Rattle.coda_cancel.specs.Numbers.{dropped, least, IsRising}
use Rattle.coda_cancel.specs.Joins.{noted}
use Rattle.coda_cml.specs.declared.segment.Segment.{Segment}
use Rattle.coda_cml.specs.Segments.{single, end_of}
use Rattle.coda_cml.specs.Regrouping.{is_inside, rejoined, leading, recounted}
use Rattle.coda_cml.specs.Partition.{AreInTurn, EndUpTo, ArePartsOf}
use Rattle.coda_cml.specs.Steps.{segments_after}
use Rattle.coda_cml.proofs.runs.WhatIsLeft.{left_add, left_added, left_same}
use Rattle.coda_cml.proofs.segments.PartedRecords.{in_append, in_front, in_behind, parted_in, left_in, ends_both, ends_front, ends_behind, ends_more, ends_rejoined, ends_recounted, turn_rejoined, turn_recounted, turn_behind, turn_swapped, turn_push, begin_regrouped, regrouped_parts, cut_parts}

pub parts_are : (last : ℕ) (a b c d : List Segment) (r s t u : List Record) → a ≡ b → r ≡ s → c ≡ d → t ≡ u → ArePartsOf last b s d u → ArePartsOf last a r c t
parts_are last a b c d r s t u e f g h parts =
    subst (λ l. ArePartsOf last l r c t) (sym e) (subst (λ l. ArePartsOf last b l c t) (sym f) (subst (λ l. ArePartsOf last b s l t) (sym g) (subst (λ l. ArePartsOf last b s d l) (sym h) parts)))

module _ (last : ℕ) (chunk_segments : List Segment) (chunk : List Record) (segments : List Segment) (records : List Record) (old : ArePartsOf last chunk_segments chunk segments records) where
  -- one more operation
  pub append_keeps : (o : Record) → last < o.number → IsRising (add records o) → ArePartsOf o.number chunk_segments chunk (segments_after segments records o) (add records o)
  append_keeps o later rising = record {
    in_turn = turn_swapped chunk_segments pushed (segments_after segments records o) (λ m b. begin_regrouped m gone (add records o) pushed b) (turn_recounted (add records o) (rejoined gone pushed) (turn_rejoined gone pushed pushed_turn)) whole_turn;
    ended = ends_both o.number chunk_segments (segments_after segments records o) (ends_more last o.number (omega (arith, later)) chunk_segments (ends_front last chunk_segments segments old.ended))
        (ends_recounted o.number (add records o) (rejoined gone pushed) (ends_rejoined o.number gone pushed (ends_both o.number segments (single [] o ∷ []) (ends_more last o.number (omega (arith, later)) segments (ends_behind last chunk_segments segments old.ended)) (omega arith, tt))));
    chunk_parts = old.chunk_parts;
    parts = regrouped_parts gone pushed (add records o) pushed_turn rising
        (left_in pushed (add records o) (records ++ o ∷ []) (left_add records records o (left_same records))
        (in_append pushed records (o ∷ []) (in_front segments (single [] o ∷ []) records (parted_in segments records old.parts)) (in_behind segments (single [] o ∷ []) (o ∷ []) (inl (omega arith, omega arith), tt))));
  }
    where
      pushed : List Segment
      pushed = segments ++ single [] o ∷ []

      gone : ℕ → Bool
      gone = is_inside (noted o.number (least (dropped records o)))

      whole_turn : AreInTurn (chunk_segments ++ (segments ++ single [] o ∷ []))
      whole_turn = subst AreInTurn (append_assoc chunk_segments segments (single [] o ∷ [])) (turn_push last (chunk_segments ++ segments) (single [] o) old.in_turn old.ended later (omega arith))

      pushed_turn : AreInTurn (segments ++ single [] o ∷ [])
      pushed_turn = turn_behind chunk_segments (segments ++ single [] o ∷ []) whole_turn

  -- the first segments, as the chunk
  pub cut_keeps : (k : ℕ) → 0 < k → 0 < length segments → ArePartsOf last (take k segments) (take (leading (end_of (take k segments)) records) records) (drop k segments) (drop (leading (end_of (take k segments)) records) records)
  cut_keeps k p q =
      let parts = cut_parts k segments records p q (turn_behind chunk_segments segments old.in_turn) old.parts in
      let whole : segments ≡ take k segments ++ drop k segments = sym (take-append-drop k segments) in
      record {
        in_turn = subst AreInTurn whole (turn_behind chunk_segments segments old.in_turn);
        ended = subst (EndUpTo last) whole (ends_behind last chunk_segments segments old.ended);
        chunk_parts = parts.0;
        parts = parts.1;
      }

  -- the tail added to the chunk
  pub thaw_keeps : (gone : ℕ → Bool) → IsRising (added chunk records) → ArePartsOf last [] [] (recounted (added chunk records) (rejoined gone (chunk_segments ++ segments))) (added chunk records)
  thaw_keeps gone rising = record {
    in_turn = turn_recounted (added chunk records) (rejoined gone (chunk_segments ++ segments)) (turn_rejoined gone (chunk_segments ++ segments) old.in_turn);
    ended = ends_recounted last (added chunk records) (rejoined gone (chunk_segments ++ segments)) (ends_rejoined last gone (chunk_segments ++ segments) old.ended);
    chunk_parts = refl;
    parts = regrouped_parts gone (chunk_segments ++ segments) (added chunk records) old.in_turn rising
        (left_in (chunk_segments ++ segments) (added chunk records) (chunk ++ records) (left_added chunk chunk records (left_same chunk))
        (in_append (chunk_segments ++ segments) chunk records (in_front chunk_segments segments chunk (parted_in chunk_segments chunk old.chunk_parts)) (in_behind chunk_segments segments records (parted_in segments records old.parts))));
  }

  -- without the chunk
  pub apply_keeps : ArePartsOf last [] [] segments records
  apply_keeps = record {
    in_turn = turn_behind chunk_segments segments old.in_turn;
    ended = ends_behind last chunk_segments segments old.ended;
    chunk_parts = refl;
    parts = old.parts;
  }

-- no operation
pub none_keeps : (last : ℕ) → ArePartsOf last [] [] [] []
none_keeps last = record { in_turn = tt; ended = tt; chunk_parts = refl; parts = refl }
