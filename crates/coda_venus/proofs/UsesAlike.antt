-- A cache in which objects were used is that of a client which used them.
use Rattle.std.proofs.Common.{◌≡◌, Bool, true, false, cond, not, List, [], ◌∷◌, ◌++◌, refl, sym, ap, ◌∙◌, append-nil}
use Rattle.std.specs.List.{filter}
use Rattle.coda_fid.specs.Fid.{same_fid}
use Rattle.coda_fid.specs.declared.fid.Fid.{Fid}
use Rattle.coda_cancel.proofs.Keys.{fid_true}
use Rattle.coda_tree.specs.Volume.{has}
use Rattle.std.proofs.lemmas.List.Elements.{filter-append}
use Rattle.coda_cache.specs.State.{CacheState}
use Rattle.coda_cache.specs.Steps.{used}
use Rattle.coda_cache.specs.Uses.{except, latest}
use Rattle.coda_venus.specs.Caching.{used_in}
use Rattle.coda_venus.specs.Serving.{ServingClient, using, cache_of}

-- ---- the order of use, of those that pass a test

module _ (test : Fid → Bool) (f : Fid) where
  -- all but one that passes
  but_one : (uses : List Fid) → filter test (except uses f) ≡ except (filter test uses) f
  but_one [] = refl
  but_one (g ∷ uses) = by (same_fid g f) (test g) refl refl (but_one uses)
    where
      by : (same passes : Bool) → same_fid g f ≡ same → test g ≡ passes → filter test (except uses f)
          ≡ except (filter test uses) f
          → filter test (cond (not same) (g ∷ except uses f) (except uses f))
          ≡ except (cond passes (g ∷ filter test uses) (filter test uses)) f
      by true true s p rest = rest
          ∙ sym (ap (λ b. cond (not b) (g ∷ except (filter test uses) f) (except (filter test uses) f)) s)
      by true false s p rest = rest
      by false true s p rest =
          ap (λ b. cond b (g ∷ filter test (except uses f)) (filter test (except uses f))) p ∙ ap (λ l. g ∷ l) rest
          ∙ sym (ap (λ b. cond (not b) (g ∷ except (filter test uses) f) (except (filter test uses) f)) s)
      by false false s p rest = ap (λ b. cond b (g ∷ filter test (except uses f)) (filter test (except uses f))) p
          ∙ rest

  -- all but one that doesn't
  but_none : test f ≡ false → (uses : List Fid) → filter test (except uses f) ≡ filter test uses
  but_none out [] = refl
  but_none out (g ∷ uses) = by (same_fid g f) (test g) refl refl (but_none out uses)
    where
      by : (same passes : Bool) → same_fid g f ≡ same → test g ≡ passes → filter test (except uses f) ≡ filter test uses
          → filter test (cond (not same) (g ∷ except uses f) (except uses f))
          ≡ cond passes (g ∷ filter test uses) (filter test uses)
      by true true s p rest = (let no : true ≡ false = sym p ∙ ap test (fid_true g f s) ∙ out in cc)
      by true false s p rest = rest
      by false true s p rest = ap (λ b. cond b (g ∷ filter test (except uses f)) (filter test (except uses f))) p
          ∙ ap (λ l. g ∷ l) rest
      by false false s p rest = ap (λ b. cond b (g ∷ filter test (except uses f)) (filter test (except uses f))) p
          ∙ rest

  -- the last one is noted where it passes
  last_used : (uses : List Fid) → cond (test f) (latest (filter test uses) f) (filter test uses)
      ≡ filter test (latest uses f)
  last_used uses = by (test f) refl ∙ sym (filter-append test (except uses f) (f ∷ []))
    where
      by : (passes : Bool) → test f ≡ passes
          → cond passes (latest (filter test uses) f) (filter test uses)
          ≡ filter test (except uses f) ++ filter test (f ∷ [])
      by true p = ap (λ l. l ++ f ∷ []) (sym (but_one uses))
          ∙ ap (λ b. filter test (except uses f) ++ cond b (f ∷ []) []) (sym p)
      by false p =
          sym (but_none p uses) ∙ sym (append-nil (filter test (except uses f)))
          ∙ ap (λ b. filter test (except uses f) ++ cond b (f ∷ []) []) (sym p)

-- ---- a client that serves

used_alike : (s : ServingClient) (f : Fid) → used (cache_of s) f ≡ cache_of (using s (f ∷ []))
used_alike s f =
    by (has s.client.held.nodes f) (cache_of s)
    ∙ ap (λ (l : List Fid). let c : CacheState = record (cache_of s) { recency = l } in c)
    (last_used (has s.client.held.nodes) f s.beside.uses)
  where
    by : (there : Bool) (c : CacheState)
        → cond there (record c { recency = latest c.recency f }) c
        ≡ (let k : CacheState = record c { recency = cond there (latest c.recency f) c.recency } in k)
    by true c = refl
    by false c = refl

pub uses_alike : (s : ServingClient) (fids : List Fid) → used_in (cache_of s) fids ≡ cache_of (using s fids)
uses_alike s [] = refl
uses_alike s (f ∷ fids) = ap (λ (c : CacheState). used_in c fids) (used_alike s f) ∙ uses_alike (using s (f ∷ [])) fids
