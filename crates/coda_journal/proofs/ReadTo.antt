-- The steps of reading an area.
use Rattle.std.proofs.Common.{◌≡◌, ◌≢◌, inl, inr, ℕ, ◌+◌, ◌-◌, ◌<◌, ◌≤◌, List, [], ◌∷◌, ◌++◌, length, get_or, take, drop, sym, ◌∙◌, ap, arith, append_assoc, length-append}
use Rattle.std.proofs.lemmas.List.{append-nil, length-take, length-drop, drop-drop, drop_more, drop_all}
use Rattle.std.specs.Int.{Width, w32, byte_len}
use Rattle.coda_journal.specs.Lengths.{length_in, IsBytes}
use Rattle.coda_journal.specs.Entries.{body, blocks, Holds, IsBroken}
use Rattle.coda_journal.specs.Reading.{IsReadTo}
use Rattle.coda_journal.proofs.Lengths.{spells_4}
use Rattle.coda_journal.proofs.Found.{split}

-- one more entry
pub blocks-push : (width : Width) (ps : List (List ℕ)) (p rest : List ℕ) → blocks width (ps ++ p ∷ []) ++ rest ≡ blocks width ps ++ 1 ∷ (body width p ++ rest)
blocks-push width [] p rest = ap (λ (l : List ℕ). 1 ∷ (l ++ rest)) (append-nil (body width p))
blocks-push width (q ∷ ps) p rest =
    ap (λ (l : List ℕ). 1 ∷ l) (append_assoc (body width q) (blocks width (ps ++ p ∷ [])) rest ∙ ap (λ (l : List ℕ). body width q ++ l) (blocks-push width ps p rest)
    ∙ sym (append_assoc (body width q) (blocks width ps) (1 ∷ (body width p ++ rest))))

module _ (width : Width) (area : List ℕ) (used : ℕ) (ps : List (List ℕ)) (so_far : IsReadTo width area used ps) where
  pub counts : used ≡ length (blocks width ps)
  counts = omega (arith, ap length so_far.is, so_far.inside, length-append (blocks width ps) (drop used area), length-drop used area)

  pub gate_shut : used < length area → get_or area used 0 ≢ 1 → Holds width area ps
  gate_shut lt shut = record { gate = get_or area used 0; rest = drop (used + 1) area; is = so_far.is ∙ ap (λ (l : List ℕ). blocks width ps ++ l) (drop_more area used 0 lt); shut = shut }

  pub gate_past : used < length area → get_or area used 0 ≡ 1 → length (drop (used + 1) area) < byte_len width + length_in width (drop (used + 1) area) → IsBroken width area used
  gate_past lt opened past = inl (record {
    before = ps;
    rest = drop (used + 1) area;
    is = so_far.is ∙ ap (λ (l : List ℕ). blocks width ps ++ l) (drop_more area used 0 lt ∙ ap (λ (g : ℕ). g ∷ drop (used + 1) area) opened);
    past = past;
    here = counts;
  })

  pub no_gate : length area ≤ used → IsBroken width area used
  no_gate le = inr (record { before = ps; is = so_far.is ∙ ap (λ (l : List ℕ). blocks width ps ++ l) (drop_all used area le) ∙ append-nil (blocks width ps); here = omega (arith, le, so_far.inside) })

  pub next : (p : List ℕ) (w : ℕ) → used < length area → get_or area used 0 ≡ 1 → drop (used + 1) area ≡ body width p ++ drop (w + length p) (drop (used + 1) area) → w + length p ≤ length (drop (used + 1) area)
      → IsReadTo width area (used + (1 + w + length p)) (ps ++ p ∷ [])
  next p w lt opened found le =
      let rest = drop (used + 1) area in
      let more = drop (w + length p) rest in
      let there : drop (used + (1 + w + length p)) area ≡ more = ap (λ (k : ℕ). drop k area) (omega arith) ∙ sym (drop-drop (w + length p) (used + 1) area) in
      record {
        inside = omega (arith, lt, le, length-drop (used + 1) area);
        is = so_far.is ∙ ap (λ (l : List ℕ). blocks width ps ++ l) (drop_more area used 0 lt ∙ ap (λ (g : ℕ). g ∷ rest) opened ∙ ap (λ (l : List ℕ). 1 ∷ l) found)
            ∙ sym (blocks-push width ps p more) ∙ ap (λ (l : List ℕ). blocks width (ps ++ p ∷ []) ++ l) (sym there);
      }

pub found_payload : (bytes : List ℕ) (count : ℕ) → IsBytes bytes → count ≡ length_in w32 bytes → 4 + count ≤ length bytes
    → bytes ≡ body w32 (take (4 + count - 4) (drop 4 bytes)) ++ drop (4 + length (take (4 + count - 4) (drop 4 bytes))) bytes
found_payload bytes count small is le =
    let same : 4 + count - 4 ≡ length_in w32 bytes = omega (arith, is) in
    let long : length (take (4 + count - 4) (drop 4 bytes)) ≡ length_in w32 bytes = omega (arith, is, le, length-take (4 + count - 4) (drop 4 bytes), length-drop 4 bytes) in
    split w32 spells_4 bytes small (omega (arith, is, le))
    ∙ ap (λ (n : ℕ). body w32 (take n (drop 4 bytes)) ++ drop (4 + length_in w32 bytes) bytes) (sym same)
    ∙ ap (λ (n : ℕ). body w32 (take (4 + count - 4) (drop 4 bytes)) ++ drop (4 + n) bytes) (sym long)
