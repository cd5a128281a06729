-- What is left of maps and of the order of use when fids are taken out.
use Rattle.std.proofs.Common.{◌≡◌, ℕ, zero, suc, ◌<◌, Bool, true, false, cond, not, ◌&&◌, ◌||◌, List, [], ◌∷◌, Option, None, length, take, refl, sym, ap, ◌∙◌, inl, inr, arith}
use Rattle.std.specs.Prelude.{slice_index_or}
use Rattle.std.specs.FinMap as map
use Rattle.std.specs.FinMap.{FinMap}
use Rattle.coda_fid.specs.declared.fid.Fid.{Fid}
use Rattle.coda_fid.specs.Fid.{fid_cmp, same_fid}
use Rattle.coda_fid.proofs.Fids.{fids_total, exact_fids, same_fid_refl}
use Rattle.coda_tree.specs.Volume.{Nodes}
use Rattle.coda_tree.proofs.Order.{fid_cases, gone_here, gone_else}
use Rattle.coda_tree.proofs.Keyed.{not_same}
use Rattle.coda_walk.specs.Going.{is_listed}
use Rattle.coda_cache.specs.Uses.{except}
use Rattle.coda_cache.specs.State.{Holds}
use Rattle.coda_cache.specs.Steps.{taken_from, except_all}
use Rattle.coda_cache.specs.Keeping.{Agree}
use Rattle.coda_cache.proofs.Agreeing.{agree_out, except_here, except_else}

module _ {X : Type 0} where
  -- one fid more is taken out
  pub taken_more : (m : FinMap fid_cmp X) (fids : List Fid) (i : ℕ) (d : Fid) → i < length fids → taken_from m (take (suc i) fids) ≡ map.remove (taken_from m (take i fids)) (slice_index_or fids i d)
  taken_more m [] i d h = absurd (omega (arith, h))
  taken_more m (f ∷ fids) zero d h = refl
  taken_more m (f ∷ fids) (suc i) d h = taken_more (map.remove m f) fids i d (omega (arith, h))

  removed_at : (m : FinMap fid_cmp X) (f q : Fid) → map.get (map.remove m f) q ≡ cond (same_fid f q) None (map.get m q)
  removed_at m f q = elim (fid_cases q f) [
    | inl same ↦ ap (map.get (map.remove m f)) same ∙ gone_here fids_total m f ∙ sym (ap (λ b. cond b None (map.get m q)) (ap (same_fid f) same ∙ same_fid_refl f))
    | inr apart ↦ gone_else fids_total exact_fids m f q apart ∙ sym (ap (λ b. cond b None (map.get m q)) (not_same f q (λ same. apart (sym same))))
  ]

  none_or : (a b : Bool) (o : Option X) → cond b None (cond a None o) ≡ cond (a || b) None o
  none_or true true o = refl
  none_or true false o = refl
  none_or false b o = refl

  -- what is left at a fid
  pub taken_at : (m : FinMap fid_cmp X) (fids : List Fid) (q : Fid) → map.get (taken_from m fids) q ≡ cond (is_listed fids q) None (map.get m q)
  taken_at m [] q = refl
  taken_at m (f ∷ fids) q = taken_at (map.remove m f) fids q ∙ ap (cond (is_listed fids q) None) (removed_at m f q) ∙ none_or (same_fid f q) (is_listed fids q) (map.get m q)

-- one fid more is taken out of the order of use
pub except_more : (recency fids : List Fid) (i : ℕ) (d : Fid) → i < length fids → except_all recency (take (suc i) fids) ≡ except (except_all recency (take i fids)) (slice_index_or fids i d)
except_more recency [] i d h = absurd (omega (arith, h))
except_more recency (f ∷ fids) zero d h = refl
except_more recency (f ∷ fids) (suc i) d h = except_more (except recency f) fids i d (omega (arith, h))

pub except_at : (recency : List Fid) (f q : Fid) → is_listed (except recency f) q ≡ (not (same_fid f q) && is_listed recency q)
except_at recency f q = elim (fid_cases q f) [
  | inl same ↦ ap (is_listed (except recency f)) same ∙ except_here recency f ∙ sym (ap (λ b. not b && is_listed recency q) (ap (same_fid f) same ∙ same_fid_refl f))
  | inr apart ↦ except_else recency f q apart ∙ sym (ap (λ b. not b && is_listed recency q) (not_same f q (λ same. apart (sym same))))
]

neither : (a b c : Bool) → (not b && (not a && c)) ≡ (not (a || b) && c)
neither true true c = refl
neither true false c = refl
neither false b c = refl

-- what is left of it
pub except_all_at : (recency fids : List Fid) (q : Fid) → is_listed (except_all recency fids) q ≡ (not (is_listed fids q) && is_listed recency q)
except_all_at recency [] q = refl
except_all_at recency (f ∷ fids) q = except_all_at (except recency f) fids q ∙ ap (λ b. not (is_listed fids q) && b) (except_at recency f q) ∙ neither (same_fid f q) (is_listed fids q) (is_listed recency q)

-- the parts of a cache agree then
pub agree_taken : (nodes : Nodes) (holds : Holds) (recency fids : List Fid) → Agree nodes holds recency → Agree (taken_from nodes fids) (taken_from holds fids) (except_all recency fids)
agree_taken nodes holds recency [] a = a
agree_taken nodes holds recency (f ∷ fids) a = agree_taken (map.remove nodes f) (map.remove holds f) (except recency f) fids (agree_out nodes holds recency a f)
