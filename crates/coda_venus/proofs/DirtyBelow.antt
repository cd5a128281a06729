-- What is mentioned below an object is found record by record.
use Rattle.std.proofs.Common.{◌≡◌, ◌||◌, ◌&&◌, not, cond, Bool, true, false, List, [], ◌∷◌, is_some, refl, sym, ap, ◌∙◌}
use Rattle.std.specs.List.{list_any}
use Rattle.std.specs.Ordering.{is_eq, eq_by_cmp}
use Rattle.std.specs.FinMap as map
use Rattle.coda_fid.specs.Fid.{same_fid, fid_cmp}
use Rattle.coda_fid.specs.Op.{fids_of}
use Rattle.coda_fid.specs.declared.fid.Fid.{Fid}
use Rattle.coda_fid.specs.declared.op.Record.{Record}
use Rattle.coda_fid.proofs.Fids.{exact_fids, fids_total}
use Rattle.coda_tree.proofs.Booleans.{and_true, and_both, or_true, eq_true}
use Rattle.coda_tree.proofs.Order.{at_itself}
use Rattle.coda_cancel.specs.Dropping.{mentioning}
use Rattle.coda_cancel.proofs.Keys.{fid_true, fid_same}
use Rattle.coda_cml.specs.Steady.{any_record}
use Rattle.coda_venus.specs.Held.{Held, is_below, is_held_below, reaches_below, some_below}

-- ---- tests

-- two tests that hold alike
alike : (a b : Bool) → (a ≡ true → b ≡ true) → (b ≡ true → a ≡ true) → a ≡ b
alike true b to from = sym (to refl)
alike false true to from = from refl
alike false false to from = refl

or_left : (a b : Bool) → a ≡ true → (a || b) ≡ true
or_left true b h = refl
or_left false b h = cc

or_right : (a b : Bool) → b ≡ true → (a || b) ≡ true
or_right a b h = ap (λ x. a || x) h ∙ or_true a

-- one of two, and which
abbrev Either : Bool → Bool → Type 0
Either a b = (choice : Bool) × (cond choice a b ≡ true)

which : (a b : Bool) → (a || b) ≡ true → Either a b
which true b h = (true, refl)
which false b h = (false, h)

-- ---- objects among others

itself : (f : Fid) → eq_by_cmp fid_cmp f f ≡ true
itself f = cond_is (is_eq (fid_cmp f f)) ∙ at_itself fids_total f true false
  where
    cond_is : (b : Bool) → b ≡ cond b true false
    cond_is true = refl
    cond_is false = refl

-- a test finds an object that passes it
found : (test : Fid → Bool) (fids : List Fid) (g : Fid) → list_any (λ f. same_fid f g) fids ≡ true → test g ≡ true → list_any test fids ≡ true
found test [] g among passes = cc
found test (f ∷ fids) g among passes = by (which (same_fid f g) (list_any (λ f. same_fid f g) fids) among) (λ is. found test fids g is passes)
  where
    by : Either (same_fid f g) (list_any (λ f. same_fid f g) fids) → (list_any (λ f. same_fid f g) fids ≡ true → list_any test fids ≡ true) → list_any test (f ∷ fids) ≡ true
    by (true, is) rest = or_left (test f) (list_any test fids) (ap test (fid_true f g is) ∙ passes)
    by (false, is) rest = or_right (test f) (list_any test fids) (rest is)

-- and what it finds is one of them
finds : (test : Fid → Bool) (fids : List Fid) → list_any test fids ≡ true → (g : Fid) × (list_any (λ f. same_fid f g) fids ≡ true) × (test g ≡ true)
finds test [] h = cc
finds test (f ∷ fids) h = by (which (test f) (list_any test fids) h) (λ is. finds test fids is)
  where
    by : Either (test f) (list_any test fids) → (list_any test fids ≡ true → (g : Fid) × (list_any (λ x. same_fid x g) fids ≡ true) × (test g ≡ true)) → (g : Fid) × (list_any (λ x. same_fid x g) (f ∷ fids) ≡ true) × (test g ≡ true)
    by (true, is) rest = (f, or_left (same_fid f f) (list_any (λ x. same_fid x f) fids) (fid_same f f refl), is)
    by (false, is) rest = let r = rest is in (r.0, or_right (same_fid f r.0) (list_any (λ x. same_fid x r.0) fids) r.1, r.2)

-- the same among the keys of a map
found_key : (test : Fid → Bool) (fids : List Fid) (g : Fid) → list_any (eq_by_cmp fid_cmp g) fids ≡ true → test g ≡ true → list_any test fids ≡ true
found_key test [] g among passes = cc
found_key test (f ∷ fids) g among passes = by (which (eq_by_cmp fid_cmp g f) (list_any (eq_by_cmp fid_cmp g) fids) among) (λ is. found_key test fids g is passes)
  where
    by : Either (eq_by_cmp fid_cmp g f) (list_any (eq_by_cmp fid_cmp g) fids) → (list_any (eq_by_cmp fid_cmp g) fids ≡ true → list_any test fids ≡ true) → list_any test (f ∷ fids) ≡ true
    by (true, is) rest = or_left (test f) (list_any test fids) (ap test (sym (exact_fids g f (eq_true (fid_cmp g f) is))) ∙ passes)
    by (false, is) rest = or_right (test f) (list_any test fids) (rest is)

finds_key : (test : Fid → Bool) (fids : List Fid) → list_any test fids ≡ true → (g : Fid) × (list_any (eq_by_cmp fid_cmp g) fids ≡ true) × (test g ≡ true)
finds_key test [] h = cc
finds_key test (f ∷ fids) h = by (which (test f) (list_any test fids) h) (λ is. finds_key test fids is)
  where
    by : Either (test f) (list_any test fids) → (list_any test fids ≡ true → (g : Fid) × (list_any (eq_by_cmp fid_cmp g) fids ≡ true) × (test g ≡ true)) → (g : Fid) × (list_any (eq_by_cmp fid_cmp g) (f ∷ fids) ≡ true) × (test g ≡ true)
    by (true, is) rest = (f, or_left (eq_by_cmp fid_cmp f f) (list_any (eq_by_cmp fid_cmp f) fids) (itself f), is)
    by (false, is) rest = let r = rest is in (r.0, or_right (eq_by_cmp fid_cmp r.0 f) (list_any (eq_by_cmp fid_cmp r.0) fids) r.1, r.2)

-- ---- records

module _ (h : Held) (f : Fid) where
  -- a record that mentions an object below
  reached : (recs : List Record) (g : Fid) → any_record (mentioning g) recs ≡ true → is_held_below h f g ≡ true → any_record (reaches_below h f) recs ≡ true
  reached [] g among below = cc
  reached (rec ∷ recs) g among below = by (which (mentioning g rec.op) (any_record (mentioning g) recs) among) (λ is. reached recs g is below)
    where
      by : Either (mentioning g rec.op) (any_record (mentioning g) recs) → (any_record (mentioning g) recs ≡ true → any_record (reaches_below h f) recs ≡ true) → any_record (reaches_below h f) (rec ∷ recs) ≡ true
      by (true, is) rest = or_left (reaches_below h f rec.op) (any_record (reaches_below h f) recs) (found (is_held_below h f) (fids_of rec.op) g is below)
      by (false, is) rest = or_right (reaches_below h f rec.op) (any_record (reaches_below h f) recs) (rest is)

  reaches : (recs : List Record) → any_record (reaches_below h f) recs ≡ true → (g : Fid) × (any_record (mentioning g) recs ≡ true) × (is_held_below h f g ≡ true)
  reaches [] among = cc
  reaches (rec ∷ recs) among = by (which (reaches_below h f rec.op) (any_record (reaches_below h f) recs) among) (λ is. reaches recs is)
    where
      by : Either (reaches_below h f rec.op) (any_record (reaches_below h f) recs) → (any_record (reaches_below h f) recs ≡ true → (g : Fid) × (any_record (mentioning g) recs ≡ true) × (is_held_below h f g ≡ true)) → (g : Fid) × (any_record (mentioning g) (rec ∷ recs) ≡ true) × (is_held_below h f g ≡ true)
      by (true, is) rest = let r = finds (is_held_below h f) (fids_of rec.op) is in (r.0, or_left (mentioning r.0 rec.op) (any_record (mentioning r.0) recs) r.1, r.2)
      by (false, is) rest = let r = rest is in (r.0, or_right (mentioning r.0 rec.op) (any_record (mentioning r.0) recs) r.1, r.2)

  -- of the records of a chunk and of those behind it
  pub dirty_below : (chunk recs : List Record) → (any_record (reaches_below h f) chunk || any_record (reaches_below h f) recs) ≡ some_below h (λ g. any_record (mentioning g) chunk || any_record (mentioning g) recs) f
  unfolding some_below
  dirty_below chunk recs = alike _ _ (λ e. to (which (any_record (reaches_below h f) chunk) (any_record (reaches_below h f) recs) e)) from
    where
      test : Fid → Bool
      test g = not (same_fid g f) && ((any_record (mentioning g) chunk || any_record (mentioning g) recs) && is_below h.parents g f)

      -- an object below that is mentioned passes
      passes : (g : Fid) → is_held_below h f g ≡ true → (any_record (mentioning g) chunk || any_record (mentioning g) recs) ≡ true → list_any test (map.keys h.nodes) ≡ true
      passes g below mentioned =
          let a = and_true (not (same_fid g f)) (is_some (map.get h.nodes g) && is_below h.parents g f) below in
          let b = and_true (is_some (map.get h.nodes g)) (is_below h.parents g f) a.1 in
          found_key test (map.keys h.nodes) g (sym (map.contains_key-keys h.nodes g) ∙ b.0) (and_both (not (same_fid g f)) _ a.0 (and_both (any_record (mentioning g) chunk || any_record (mentioning g) recs) (is_below h.parents g f) mentioned b.1))

      to : Either (any_record (reaches_below h f) chunk) (any_record (reaches_below h f) recs) → list_any test (map.keys h.nodes) ≡ true
      to (true, is) = let r = reaches chunk is in passes r.0 r.2 (or_left (any_record (mentioning r.0) chunk) (any_record (mentioning r.0) recs) r.1)
      to (false, is) = let r = reaches recs is in passes r.0 r.2 (or_right (any_record (mentioning r.0) chunk) (any_record (mentioning r.0) recs) r.1)

      back : (g : Fid) → is_held_below h f g ≡ true → Either (any_record (mentioning g) chunk) (any_record (mentioning g) recs) → (any_record (reaches_below h f) chunk || any_record (reaches_below h f) recs) ≡ true
      back g below (true, is) = or_left (any_record (reaches_below h f) chunk) (any_record (reaches_below h f) recs) (reached chunk g is below)
      back g below (false, is) = or_right (any_record (reaches_below h f) chunk) (any_record (reaches_below h f) recs) (reached recs g is below)

      from : list_any test (map.keys h.nodes) ≡ true → (any_record (reaches_below h f) chunk || any_record (reaches_below h f) recs) ≡ true
      from e =
          let r = finds_key test (map.keys h.nodes) e in
          let a = and_true (not (same_fid r.0 f)) ((any_record (mentioning r.0) chunk || any_record (mentioning r.0) recs) && is_below h.parents r.0 f) r.2 in
          let b = and_true (any_record (mentioning r.0) chunk || any_record (mentioning r.0) recs) (is_below h.parents r.0 f) a.1 in
          back r.0 (and_both (not (same_fid r.0 f)) _ a.0 (and_both (is_some (map.get h.nodes r.0)) (is_below h.parents r.0 f) (map.contains_key-keys h.nodes r.0 ∙ r.1) b.1)) (which (any_record (mentioning r.0) chunk) (any_record (mentioning r.0) recs) b.0)
