-- The four synced calls by which a disk is made anew.
use Rattle.std.proofs.Common.{◌≡◌, ◌⊎◌, inl, inr, ℕ, zero, suc, ◌+◌, ◌≤◌, List, [], ◌∷◌, ◌++◌, length, get_or, take, drop, refl, sym, ◌∙◌, ap, subst, arith}
use Rattle.std.proofs.lemmas.List.{append-nil, length-take, drop_all}
use Rattle.std.proofs.lemmas.Bool.{cases_eq}
use Rattle.std.specs.Prelude.{Result, Ok, IsErr}
use Rattle.coda_journal.proofs.WithSync.{off}
use Rattle.coda_disk.specs.Told.{Told, Torn, Cut, Only, LeavesOnly}
use Rattle.coda_journal.specs.Header.{IsHeader, marks, area_bytes}
use Rattle.coda_journal.specs.Image.{Reads, ReadsAs, IsUnmade, start_of}
use Rattle.coda_journal.specs.declared.header.Header.{Header}
use Rattle.coda_journal.proofs.Images.{length-marks}
use Rattle.coda_journal.proofs.Fronts.{IsFront, closes, new_front, gate_place, still_start}
use Rattle.coda_journal.specs.Open.{IsOpen}
use Rattle.coda_journal.specs.Made.{Makes}
use Rattle.coda_journal.specs.Synced.{May, WroteSynced, CutSynced}
use Rattle.coda_journal.proofs.Crash.{torn_behind, torn_gate}
use Rattle.coda_journal.proofs.Moments.{and_then, widen}

front_unmade : (n : ℕ) (image : List ℕ) → IsUnmade image → IsUnmade (take n image)
front_unmade n image (inl short) = inl (omega (arith, length-take n image))
front_unmade zero image (inr shut) = inl (omega arith)
front_unmade (suc n) [] (inr shut) = inr shut
front_unmade (suc n) (x ∷ image) (inr shut) = inr shut

cut_unmade : (n : ℕ) (old c : List ℕ) → IsUnmade old → Cut n old c → IsUnmade c
cut_unmade n old c unmade cut = subst IsUnmade cut.front (front_unmade (length c) old unmade)

module _ (header : Header) (ok : IsHeader header) (body : List ℕ) (rest_of_head : body ≡ 0 ∷ marks header) where
  abbrev pub IsEmpty : List ℕ → Type 0
  IsEmpty image = ReadsAs header [] image

  fronted : IsFront header [] (1 ∷ body)
  fronted = subst (λ (l : List ℕ). IsFront header [] (1 ∷ l)) (sym rest_of_head) (new_front header ok.smallest)

  reads_new : Reads header (1 ∷ (body ++ 0 ∷ [])) []
  reads_new = closes header [] (1 ∷ body) 0 [] fronted (omega arith)

  not_made : (image : List ℕ) → IsUnmade image → IsEmpty image
  not_made image un = inl (un, refl)

  gate_empty : (gate : ℕ) → IsEmpty (gate ∷ (body ++ 0 ∷ []))
  gate_empty gate = elim (cases_eq gate 1) [
    | inl opened ↦ inr (subst (λ (g : ℕ). Reads header (g ∷ (body ++ 0 ∷ [])) []) (sym opened) reads_new)
    | inr shut ↦ not_made (gate ∷ (body ++ 0 ∷ [])) (inr shut)
  ]

  module _ (t0 : Told) (only0 : Only t0.seen t0.may_leave) (unmade : IsUnmade t0.seen) where
    abbrev pub Q : List ℕ → Type 0
    Q c = t0.may_leave c ⊎ IsEmpty c

    pub make1 : {T E : Type 0} {r : Result T E} (t1 : Told) → CutSynced 0 t0 t1 r → LeavesOnly t0 t1 Q
    make1 t1 w = widen t0 t1 (May (Cut 0) t0.may_leave) Q wider (w.leaves (omega arith))
      where
        wider : (c : List ℕ) → May (Cut 0) t0.may_leave c → Q c
        wider c (inl old) = inl old
        wider c (inr from) = inr (not_made c (cut_unmade 0 t0.seen c unmade (subst (λ (f : List ℕ). Cut 0 f c) (only0 from.0 from.1) from.2)))

    -- a synced write, from a content that is known
    pub make_write : {T E : Type 0} {r : Result T E} (t1 t2 : Told) (at : ℕ) (bytes seen : List ℕ) → t1.seen ≡ seen → Only t1.seen t1.may_leave → IsEmpty seen → ((c : List ℕ) → Torn at (length bytes) seen c → IsEmpty c) → at ≤ length seen
        → WroteSynced at bytes t1 t2 r → LeavesOnly t0 t1 Q → LeavesOnly t0 t2 Q
    make_write t1 t2 at bytes seen is only here torn le w so_far = and_then t0 t1 t2 Q so_far (widen t1 t2 (May (Torn at (length bytes)) t1.may_leave) Q wider (w.leaves (omega (arith, le, ap length is))))
      where
        wider : (c : List ℕ) → May (Torn at (length bytes)) t1.may_leave c → Q c
        wider c (inl old) = inr (subst (IsEmpty) (sym (only c old ∙ is)) here)
        wider c (inr from) = inr (torn c (subst (λ (f : List ℕ). Torn at (length bytes) f c) (only from.0 from.1 ∙ is) from.2))

    pub torn1 : (c : List ℕ) → Torn 0 1 [] c → IsEmpty c
    torn1 c torn = not_made c (inl (omega (arith, torn.no_longer)))

    pub torn2 : (n : ℕ) (c : List ℕ) → Torn 1 n (0 ∷ []) c → IsEmpty c
    torn2 n c torn = subst (IsEmpty) (sym (torn_behind [] 0 refl 0 [] n c torn)) (not_made (0 ∷ drop 1 c) (inr (omega arith)))

    pub torn3 : (c : List ℕ) → Torn 0 1 (0 ∷ (body ++ 0 ∷ [])) c → IsEmpty c
    torn3 c torn = subst (IsEmpty) (sym (torn_gate [] 0 refl 0 (body ++ 0 ∷ []) c torn)) (gate_empty (get_or c 0 0))

    pub made : (t4 : Told) → t4.honest → t4.seen ≡ 1 ∷ (body ++ 0 ∷ []) → Only t4.seen t4.may_leave → IsOpen t4 header 64 0 (area_bytes header) []
    made t4 h is only = record {
      honest = h;
      whole = ok;
      reads = subst (λ (l : List ℕ). Reads header l []) (sym is) reads_new;
      starts = omega (arith, gate_place header [] (1 ∷ body) fronted, ap length rest_of_head, length-marks header, still_start header (1 ∷ body) fronted.made (0 ∷ []), ap (λ (l : List ℕ). start_of header l) is);
      counts = refl;
      size = refl;
      durable = only;
    }

    -- the exits, one call further each
    pub exit1 : {T E T' E' : Type 0} {r : Result T E} {r' : Result T' E'} (t1 : Told) → CutSynced 0 t0 t1 r → IsErr r' → Makes header t0 t1 r'
    exit1 {r' = r'} t1 w bad = record { honest = w.honest; leaves = make1 t1 w; done = off _ r' bad }

    module _ {T1 E1 : Type 0} {x1 : T1} (t1 : Told) (w1 : CutSynced {T = T1} {E = E1} 0 t0 t1 (Ok x1)) where
      is1 : t1.seen ≡ []
      is1 = (w1.written (omega arith)).0

      pub leaves2 : {T E : Type 0} {r : Result T E} (t2 : Told) → WroteSynced 0 (0 ∷ []) t1 t2 r → LeavesOnly t0 t2 Q
      leaves2 t2 w = make_write t1 t2 0 (0 ∷ []) [] is1 (w1.written (omega arith)).1 (not_made [] (inl (omega arith))) torn1 (omega arith) w (make1 t1 w1)

      pub exit2 : {T E T' E' : Type 0} {r : Result T E} {r' : Result T' E'} (t2 : Told) → WroteSynced 0 (0 ∷ []) t1 t2 r → IsErr r' → Makes header t0 t2 r'
      exit2 {r' = r'} t2 w bad = record { honest = w.honest; leaves = leaves2 t2 w; done = off _ r' bad }

      module _ {T2 E2 : Type 0} {x2 : T2} (t2 : Told) (w2 : WroteSynced {T = T2} {E = E2} 0 (0 ∷ []) t1 t2 (Ok x2)) where
        is2 : t2.seen ≡ 0 ∷ []
        is2 = (w2.written (omega arith)).0 ∙ ap (λ (l : List ℕ). take 0 l ++ (0 ∷ []) ++ drop 1 l) is1

        pub leaves3 : {T E : Type 0} {r : Result T E} (b : List ℕ) (t3 : Told) → WroteSynced 1 b t2 t3 r → LeavesOnly t0 t3 Q
        leaves3 b t3 w = make_write t2 t3 1 b (0 ∷ []) is2 (w2.written (omega arith)).1 (not_made (0 ∷ []) (inl (omega arith))) (torn2 (length b)) (omega arith) w (leaves2 t2 w2)

        pub exit3 : {T E T' E' : Type 0} {r : Result T E} {r' : Result T' E'} (b : List ℕ) (t3 : Told) → WroteSynced 1 b t2 t3 r → IsErr r' → Makes header t0 t3 r'
        exit3 {r' = r'} b t3 w bad = record { honest = w.honest; leaves = leaves3 b t3 w; done = off _ r' bad }

        module _ {T3 E3 : Type 0} {x3 : T3} (b : List ℕ) (same : b ≡ body ++ 0 ∷ []) (t3 : Told) (w3 : WroteSynced {T = T3} {E = E3} 1 b t2 t3 (Ok x3)) where
          in2 : 1 ≤ length t2.seen
          in2 = omega (arith, ap length is2)

          is3 : t3.seen ≡ 0 ∷ (body ++ 0 ∷ [])
          is3 = (w3.written in2).0 ∙ ap (λ (l : List ℕ). take 1 l ++ b ++ drop (1 + length b) l) is2 ∙ ap (λ (l : List ℕ). 0 ∷ (l ++ drop (1 + length l) (0 ∷ []))) same ∙ ap (λ (l : List ℕ). 0 ∷ (body ++ 0 ∷ [] ++ l)) (drop_all (1 + length (body ++ 0 ∷ [])) (0 ∷ []) (omega arith)) ∙ ap (λ (l : List ℕ). 0 ∷ l) (append-nil (body ++ 0 ∷ []))

          shut3 : IsEmpty (0 ∷ (body ++ 0 ∷ []))
          shut3 = not_made (0 ∷ (body ++ 0 ∷ [])) (inr (omega arith))

          pub leaves4 : {T E : Type 0} {r : Result T E} (t4 : Told) → WroteSynced 0 (1 ∷ []) t3 t4 r → LeavesOnly t0 t4 Q
          leaves4 t4 w = make_write t3 t4 0 (1 ∷ []) (0 ∷ (body ++ 0 ∷ [])) is3 (w3.written in2).1 shut3 torn3 (omega arith) w (leaves3 b t3 w3)

          pub exit4 : {T E T' E' : Type 0} {r : Result T E} {r' : Result T' E'} (t4 : Told) → WroteSynced 0 (1 ∷ []) t3 t4 r → IsErr r' → Makes header t0 t4 r'
          exit4 {r' = r'} t4 w bad = record { honest = w.honest; leaves = leaves4 t4 w; done = off _ r' bad }

          pub finish : {T E T' E' : Type 0} {x : T} {y : T'} (t4 : Told) → WroteSynced {T = T} {E = E} 0 (1 ∷ []) t3 t4 (Ok x) → Makes {T = T'} {E = E'} header t0 t4 (Ok y)
          finish t4 w = record {
            honest = w.honest;
            leaves = leaves4 t4 w;
            done = made t4 w.honest ((w.written (omega arith)).0 ∙ ap (λ (l : List ℕ). take 0 l ++ (1 ∷ []) ++ drop 1 l) is3) (w.written (omega arith)).1;
          }
