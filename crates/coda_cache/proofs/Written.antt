-- What is left when each hold is written, by its fid.
use Rattle.std.proofs.Common.{◌≡◌, Bool, true, cond, List, [], ◌∷◌, Option, Some, None, option_map, is_some, refl, sym, ap, ◌∙◌, subst}
use Rattle.std.specs.Prelude as prelude
use Rattle.std.specs.Ordering.{is_eq}
use Rattle.std.specs.declared.cmp.Ordering.TheVariants.{Less, Equal, Greater}
use Rattle.std.specs.FinMap as map
use Rattle.std.specs.FinMap.{find}
use Rattle.std.specs.Map.Calls.{RetainsPairs}
use Rattle.coda_fid.specs.declared.fid.Fid.{Fid}
use Rattle.coda_fid.specs.Fid.{fid_cmp}
use Rattle.coda_fid.proofs.Fids.{fids_total, exact_fids}
use Rattle.coda_tree.specs.Slots.{keyed}
use Rattle.coda_tree.specs.Volume.{Nodes}
use Rattle.coda_tree.proofs.Keyed.{at_altered, off_altered}
use Rattle.coda_cache.proofs.Ordered.{kept_at, get_keyed}
use Rattle.coda_tree.proofs.Order.{fid_cases}
use Rattle.coda_cache.specs.declared.hold.Hold.{Hold}
use Rattle.coda_tree.specs.Slots.{altered}
use Rattle.std.specs.Prelude.{ℕ, ◌+◌, ◌<◌, ◌||◌, false, length, take, slice_index_or}
use Rattle.std.proofs.Common.{inl, inr}
use Rattle.std.proofs.lemmas.Bool.{false_from_ne_true}
use Rattle.std.proofs.lemmas.List.Folds.{list_any_more}
use Rattle.coda_fid.specs.Fid.{same_fid}
use Rattle.coda_fid.proofs.Fids.{same_fid_is, same_fid_refl}
use Rattle.coda_walk.specs.Going.{is_listed}
use Rattle.coda_cache.specs.Steps.{each, made_dirty, dirty_where}
use Rattle.coda_cache.specs.State.{Holds}
use Rattle.coda_cache.specs.Keeping.{Agree}

-- a closure that always answers `true` and writes what g gives of each key and value
pub written : {F : Type 0} (T : F → Fid → Hold → Bool → Hold → F → Type 0) (g : Fid → Hold → Hold) (f : F) → ((k : Fid) (v : Hold) (b : Bool) (w : Hold) (f' : F) → T f k v b w f' → (b ≡ true) × (w ≡ g k v) × (f' ≡ f)) →
    (es kept : List (Fid × Hold)) → RetainsPairs T f es kept → kept ≡ prelude.map (λ e. (e.0, g e.0 e.1)) es
written T g f h [] kept r = r
written T g f h (e ∷ es) kept r =
    let a = h e.0 e.1 r.0 r.1 r.2 r.4 in
    let rest = written T g f h es r.3 (subst (λ u. RetainsPairs T u es r.3) a.2 r.5) in
    r.6 ∙ ap (λ b. cond b ((e.0, r.1) ∷ r.3) r.3) a.0 ∙ (λ i. (e.0, a.1 i) ∷ rest i)

-- what is kept at a fid then
kept_written : (g : Fid → Hold → Hold) (es : List (Fid × Hold)) (q : Fid) → kept_at (prelude.map (λ e. (e.0, g e.0 e.1)) es) q ≡ option_map (g q) (kept_at es q)
kept_written g [] q = refl
kept_written g (e ∷ es) q = (elim (fid_cmp q e.0) as (λ r. fid_cmp q e.0 ≡ r → cond (is_eq r) (Some (g e.0 e.1)) (kept_at (prelude.map (λ e. (e.0, g e.0 e.1)) es) q) ≡ option_map (g q) (cond (is_eq r) (Some e.1) (kept_at es q))) [
  | Less ↦ λ h. kept_written g es q
  | Equal ↦ λ h. ap (λ k. Some (g k e.1)) (sym (exact_fids q e.0 h))
  | Greater ↦ λ h. kept_written g es q
]) refl

-- a scan finds what is kept
find_lookup : (es : List (Fid × Hold)) (q : Fid) → find fid_cmp q es ≡ kept_at es q
find_lookup [] q = refl
find_lookup (e ∷ es) q = ap (cond (is_eq (fid_cmp q e.0)) (Some e.1)) (find_lookup es q)

-- what each changed hold is
pub get_each : (g : Fid → Hold → Hold) (m : Holds) (q : Fid) → map.get (each g m) q ≡ option_map (g q) (map.get m q)
get_each g m q = get_keyed (prelude.map (λ e. (e.0, g e.0 e.1)) (map.entries m)) q ∙ kept_written g (map.entries m) q ∙ ap (option_map (g q)) (sym (find_lookup (map.entries m) q) ∙ sym (map.get-entries m q))

pub each_written : (g : Fid → Hold → Hold) (old new : List (Fid × Hold)) → new ≡ prelude.map (λ e. (e.0, g e.0 e.1)) old → keyed new ≡ each g (keyed old)
each_written g old new is = map.same_map fids_total exact_fids _ _ (λ q.
    ap (λ (l : List (Fid × Hold)). map.get (keyed l) q) is ∙ get_keyed (prelude.map (λ e. (e.0, g e.0 e.1)) old) q ∙ kept_written g old q ∙ ap (option_map (g q)) (sym (get_keyed old q)) ∙ sym (get_each g (keyed old) q))

-- the parts of a cache agree then
pub agree_each : (nodes : Nodes) (holds : Holds) (recency : List Fid) → Agree nodes holds recency → (g : Fid → Hold → Hold) → Agree nodes (each g holds) recency
agree_each nodes holds recency a g = record {
  held = λ f. ap (λ (o : Option Hold). is_some o) (get_each g holds f) ∙ there (g f) (map.get holds f) ∙ a.held f;
  used = a.used;
}
  where
    there : (change : Hold → Hold) (o : Option Hold) → is_some (option_map change o) ≡ is_some o
    there change None = refl
    there change (Some hold) = refl

-- ---- exactly these are dirty

or_true : (b : Bool) → (b || true) ≡ true
or_true true = refl
or_true false = refl

or_false : (b : Bool) → (b || false) ≡ b
or_false true = refl
or_false false = refl

-- one more is made dirty
pub dirty_more : (old now : Holds) (fids : List Fid) (i : ℕ) (d : Fid) → i < length fids →
    ((q : Fid) → map.get now q ≡ option_map (dirty_where (take i fids) q) (map.get old q)) → (q : Fid) → map.get (altered now (slice_index_or fids i d) made_dirty) q ≡ option_map (dirty_where (take (i + 1) fids) q) (map.get old q)
dirty_more old now fids i d inside so_far q =
    let f = slice_index_or fids i d in
    let more = list_any_more (λ g. same_fid g q) fids i d inside in
    elim (fid_cases q f) [
      | inl same ↦
          ap (map.get (altered now f made_dirty)) same ∙ at_altered now f made_dirty ∙ ap (option_map made_dirty) (ap (map.get now) (sym same) ∙ so_far q)
          ∙ made (map.get old q) ∙ ap (λ b. option_map (λ (hold : Hold). record hold { dirty = b }) (map.get old q)) (sym (more ∙ ap (λ b. is_listed (take i fids) q || b) (ap (λ g. same_fid g q) (sym same) ∙ same_fid_refl q) ∙ or_true (is_listed (take i fids) q)))
      | inr apart ↦
          off_altered now f made_dirty q apart ∙ so_far q
          ∙ ap (λ b. option_map (λ (hold : Hold). record hold { dirty = b }) (map.get old q)) (sym (more ∙ ap (λ b. is_listed (take i fids) q || b) (false_from_ne_true _ (λ t. apart (sym (same_fid_is f q t)))) ∙ or_false (is_listed (take i fids) q)))
    ]
  where
    made : (o : Option Hold) → option_map made_dirty (option_map (dirty_where (take i fids) q) o) ≡ option_map (λ (hold : Hold). record hold { dirty = true }) o
    made None = refl
    made (Some hold) = refl

pub dirty_all : (old now : Holds) (fids : List Fid) → ((q : Fid) → map.get now q ≡ option_map (dirty_where fids q) (map.get old q)) → now ≡ each (dirty_where fids) old
dirty_all old now fids is = map.same_map fids_total exact_fids _ _ (λ q. is q ∙ sym (get_each (dirty_where fids) old q))
