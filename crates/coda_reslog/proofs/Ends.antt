-- The end of a list.
use Rattle.std.proofs.Common.{◌≡◌, ℕ, ◌-◌, ◌+◌, zero, suc, Some, slice_get, List, [], ◌∷◌, ◌++◌, length, take, drop, sym, ap, ◌∙◌, arith}
use Rattle.std.proofs.lemmas.List.{take-append-drop, length-drop}
use Rattle.coda_reslog.specs.declared.entry.ResEntry.{ResEntry}
use Rattle.coda_reslog.specs.Rings.{RingsKeepTheLatest}

none_dropped : (entries : List ResEntry) (count : ℕ) → count ≡ 0 → drop count entries ≡ entries
none_dropped entries count e = ap (λ n. drop n entries) e

pub rings_keep_the_latest : RingsKeepTheLatest
rings_keep_the_latest = record {
  end = λ entries. (take (length entries - 256) entries, sym (take-append-drop (length entries - 256) entries));
  all = λ entries few. none_dropped entries (length entries - 256) (omega arith);
  full = λ entries many. length-drop (length entries - 256) entries ∙ omega arith;
}

-- a front with one entry more
front_more : (entries : List ResEntry) (index : ℕ) (entry : ResEntry) → slice_get entries index ≡ Some entry → take (suc index) entries ≡ take index entries ++ entry ∷ []
front_more [] index entry e = absurd cc
front_more (first ∷ rest) zero entry e = let same : first ≡ entry = cc in λ j. same j ∷ []
front_more (first ∷ rest) (suc index) entry e = λ j. first ∷ front_more rest index entry e j

pub one_more : (entries : List ResEntry) (index : ℕ) (entry : ResEntry) → Some entry ≡ slice_get entries index → take (index + 1) entries ≡ take index entries ++ entry ∷ []
one_more entries index entry e = let next : index + 1 ≡ suc index = omega arith in ap (λ n. take n entries) next ∙ front_more entries index entry (sym e)
