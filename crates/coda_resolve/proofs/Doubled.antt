-- Objects that are bound twice, and objects that were taken out and are bound or updated elsewhere.
use Rattle.std.proofs.Common.{◌≡◌, ◌≢◌, ◌≤◌, ◌+◌, ℕ, zero, suc, arith, Bool, true, false, cond, not, List, [], ◌∷◌, Option, Some, None, is_some, refl, sym, ap, ◌∙◌, subst, map, length, ◌&&◌, ◌||◌, ◌⊎◌, inl, inr}
use Rattle.std.specs.Prelude.{nat_le, slice_get, T}
use Rattle.std.specs.List.{list_any, filter, flat_map, zip}
use Rattle.std.specs.FinMap as finmap
use Rattle.std.specs.FinMap.Entries.{below_all, is_sorted}
use Rattle.std.specs.Ordering.{is_lt}
use Rattle.std.specs.declared.cmp.Ordering.{Ordering}
use Rattle.std.specs.declared.cmp.Ordering.TheVariants.{Less, Equal, Greater}
use Rattle.std.proofs.lemmas.Bool.{true≢false, and_parts, and_from, leb-true, le-leb, or_left, or_right}
use Rattle.std.proofs.lemmas.Cmp.{nat_list_cmp_total}
use Rattle.std.proofs.lemmas.Map.Lookups.{exact_bytes}
use Rattle.coda_fid.specs.Fid.{same_fid}
use Rattle.coda_fid.specs.Name.{name_cmp}
use Rattle.coda_fid.specs.declared.fid.Fid.{Fid}
use Rattle.coda_fid.proofs.Fids.{same_fid_is, same_fid_refl}
use Rattle.coda_tree.specs.Bindings.{Name, Bindings}
use Rattle.coda_tree.proofs.MapEntries.{get_entry}
use Rattle.coda_vv.specs.Vector.{Counts, includes}
use Rattle.coda_reslog.specs.declared.entry.ResEntry.{ResEntry}
use Rattle.coda_reslog.specs.declared.entry.Lost.{Lost}
use Rattle.coda_reslog.specs.declared.change.Held.{Held}
use Rattle.coda_resolve.specs.Copies.{Copies, bindings_of}
use Rattle.coda_resolve.specs.Missing.{has_update, missing}
use Rattle.coda_resolve.specs.Merged.{merged_bindings}
use Rattle.coda_resolve.specs.Causes.{fids_lost, all_lost, times, binds_fid, is_elsewhere, is_double, is_newer, is_updated, updated_of}
use Rattle.coda_resolve.specs.Placement.{IsIn}
use Rattle.coda_resolve.specs.Resolution.{Replicas, copies_at}
use Rattle.coda_resolve.specs.FirstCause.{IsMissing, TookOut, IsTwice, IsStillBound, IsBoundElsewhere, HasMore, IsUpdatedElsewhere}
use Rattle.coda_resolve.proofs.Leaders.{filtered}
use Rattle.coda_resolve.proofs.Logged.{any_in, in_any, in_flat, in_filter}
use Rattle.coda_resolve.proofs.Once.{two_values, entry_in, value_in}
use Rattle.coda_resolve.proofs.Reasons.{not_true, unfiltered, missing_is, is_missing_in, not_itself}
use Rattle.coda_resolve.proofs.Elsewhere.{zipped, in_zip, binds_by, by_name}
use Rattle.coda_resolve.proofs.Single.{in_flat_from}
use Rattle.coda_resolve.proofs.Walked.{value_at}

-- ---- entries

abbrev Entries : Type 0
Entries = List (Name × Fid)

above : (n : Name) (es : Entries) (e : Name × Fid) → below_all name_cmp n es ≡ true → IsIn e es → name_cmp n e.0 ≡ Less
above n [] e below s = absurd s
above n (x ∷ es) e below (inl is) = subst (λ (p : Name × Fid). name_cmp n p.0 ≡ Less) is (less (name_cmp n x.0) (and_parts (is_lt (name_cmp n x.0)) (below_all name_cmp n es) below).0)
  where
    less : (o : Ordering) → is_lt o ≡ true → o ≡ Less
    less Less e = refl
    less Equal e = absurd (true≢false (sym e))
    less Greater e = absurd (true≢false (sym e))
above n (x ∷ es) e below (inr s) = above n es e (and_parts (is_lt (name_cmp n x.0)) (below_all name_cmp n es) below).1 s

one_at : (f : Fid) (es : Entries) → 1 ≤ times f (map (λ e. e.1) es) → (e : Name × Fid) × (IsIn e es × (e.1 ≡ f))
one_at f [] le = absurd (omega (arith, le))
one_at f (x ∷ es) le = by (same_fid f x.1) refl le (one_at f es)
  where
    by : (b : Bool) → same_fid f x.1 ≡ b → 1 ≤ cond b 1 0 + times f (map (λ (e : Name × Fid). e.1) es) → (1 ≤ times f (map (λ (e : Name × Fid). e.1) es) → (e : Name × Fid) × (IsIn e es × (e.1 ≡ f))) → (e : Name × Fid) × (IsIn e (x ∷ es) × (e.1 ≡ f))
    by true is k more = (x, (inl refl, sym (same_fid_is f x.1 is)))
    by false is k more = let m = more (omega (arith, k)) in (m.0, (inr m.1.0, m.1.1))

-- two entries of other names, at the object
abbrev TwoAt : Fid → Entries → Type 0
TwoAt f es = (one : Name × Fid) × ((other : Name × Fid) × ((IsIn one es × (one.1 ≡ f)) × ((IsIn other es × (other.1 ≡ f)) × (one.0 ≢ other.0))))

two_at : (f : Fid) (es : Entries) → is_sorted name_cmp es ≡ true → 2 ≤ times f (map (λ e. e.1) es) → TwoAt f es
two_at f [] up le = absurd (omega (arith, le))
two_at f (x ∷ es) up le = by (same_fid f x.1) refl le (two_at f es (and_parts (below_all name_cmp x.0 es) (is_sorted name_cmp es) up).1)
  where
    apart : (e : Name × Fid) → IsIn e es → x.0 ≢ e.0
    apart e s is = not_itself name_cmp nat_list_cmp_total exact_bytes x.0 (ap (name_cmp x.0) is ∙ above x.0 es e (and_parts (below_all name_cmp x.0 es) (is_sorted name_cmp es) up).0 s)

    by : (b : Bool) → same_fid f x.1 ≡ b → 2 ≤ cond b 1 0 + times f (map (λ (e : Name × Fid). e.1) es) → (2 ≤ times f (map (λ (e : Name × Fid). e.1) es) → TwoAt f es) → TwoAt f (x ∷ es)
    by true is k more =
        let m = one_at f es (omega (arith, k)) in
        (x, (m.0, ((inl refl, sym (same_fid_is f x.1 is)), ((inr m.1.0, m.1.1), apart m.0 m.1.0))))
    by false is k more =
        let m = more (omega (arith, k)) in
        (m.0, (m.1.0, ((inr m.1.1.0.0, m.1.1.0.1), ((inr m.1.1.1.0.0, m.1.1.1.0.1), m.1.1.1.1))))

index_in : (es : Entries) (e : Name × Fid) → IsIn e es → (i : ℕ) × (slice_get es i ≡ Some e)
index_in [] e s = absurd s
index_in (x ∷ es) e (inl is) = (zero, ap Some is)
index_in (x ∷ es) e (inr s) = let m = index_in es e s in (suc m.0, m.1)

bound_by : (m : Bindings) (e : Name × Fid) (f : Fid) → IsIn e (finmap.entries m) → e.1 ≡ f → finmap.get m e.0 ≡ Some f
bound_by m e f s is = let at = index_in (finmap.entries m) e s in get_entry nat_list_cmp_total m at.0 e at.1 ∙ ap Some is

-- what isn't empty binds something
binds_some : (m : Bindings) → nat_le 1 (finmap.len m) ≡ true → (n : Name) × ((g : Fid) × (finmap.get m n ≡ Some g))
binds_some m e = by (finmap.entries m) refl
  where
    by : (es : Entries) → finmap.entries m ≡ es → (n : Name) × ((g : Fid) × (finmap.get m n ≡ Some g))
    by [] is =
        let le = leb-true 1 (finmap.len m) e in
        let long = finmap.len-entries m ∙ ap length is in
        absurd (omega (arith, le, long))
    by (x ∷ es) is = (x.0, (x.1, get_entry nat_list_cmp_total m 0 x (ap (λ l. slice_get l 0) is)))

some_binds : (m : Bindings) (n : Name) (g : Fid) → finmap.get m n ≡ Some g → nat_le 1 (finmap.len m) ≡ true
some_binds m n g e = by (finmap.entries m) refl (entry_in m n g e)
  where
    by : (es : Entries) → finmap.entries m ≡ es → IsIn (n, g) es → nat_le 1 (finmap.len m) ≡ true
    by [] is s = absurd s
    by (x ∷ es) is s =
        let long = finmap.len-entries m ∙ ap length is in
        le-leb 1 (finmap.len m) (omega (arith, long))

-- ---- objects that were taken out

took : (u : ResEntry) (f : Fid) → IsIn f (fids_lost u.lost) → (counts : Counts) × TookOut u f counts
took u f s = by u.lost refl s
  where
    by : (o : Option Lost) → u.lost ≡ o → IsIn f (fids_lost o) → (counts : Counts) × TookOut u f counts
    by None is s = absurd s
    by (Some lost) is (inl same) = (lost.vector.0, record { lost = lost; is = is; object = same; updates = refl })
    by (Some lost) is (inr s) = absurd s

module _ (copies : Copies) where
  lost_in : (u : ResEntry) (f : Fid) (counts : Counts) → IsMissing copies u → TookOut u f counts → list_any (same_fid f) (all_lost copies) ≡ true
  lost_in u f counts m t =
      in_any (same_fid f) (all_lost copies) f (in_flat (λ (v : ResEntry). fids_lost v.lost) (missing copies) u f (is_missing_in copies u m) (subst (λ o. IsIn f (fids_lost o)) (sym t.is) (inl t.object))) (same_fid_refl f)

module _ (views : Replicas) (d : Fid) where
  abbrev copies : Copies
  copies = copies_at views d

  abbrev twice_bound : Fid → Bool
  twice_bound f = nat_le 2 (times f (finmap.values (merged_bindings copies)))

  abbrev taken_out : Fid → Bool
  taken_out f = list_any (same_fid f) (all_lost copies)

  abbrev elsewhere : Fid → Bool
  elsewhere f = list_any (is_elsewhere f) (zip copies (copies_at views f))

  abbrev pub Doubled : Fid → Type 0
  Doubled f = IsTwice copies f ⊎ (IsStillBound copies f ⊎ IsBoundElsewhere views d f)

  elsewhere_by : (f : Fid) → IsBoundElsewhere views d f → elsewhere f ≡ true
  elsewhere_by f b =
      in_any (is_elsewhere f) (zip copies (copies_at views f)) (finmap.get b.view d, finmap.get b.view f) (in_zip d f views b.view b.replica)
      (and_from (is_some (finmap.get b.view f)) (not (binds_fid f (finmap.get b.view d))) (ap is_some b.has) (ap not (unbound (binds_fid f (finmap.get b.view d)) refl)))
    where
      unbound : (t : Bool) → binds_fid f (finmap.get b.view d) ≡ t → t ≡ false
      unbound true e = let m = by_name f (finmap.get b.view d) e in absurd (b.unbound m.0 m.1)
      unbound false e = refl

  by_elsewhere : (f : Fid) (n : Name) → finmap.get (merged_bindings copies) n ≡ Some f → elsewhere f ≡ true → IsBoundElsewhere views d f
  by_elsewhere f n bound e =
      let p = any_in (is_elsewhere f) (zip copies (copies_at views f)) e in
      let parts = and_parts (is_some p.0.1) (not (binds_fid f p.0.0)) p.1.1 in
      let v = zipped d f views p.0 p.1.0 in
      let held = is_there (finmap.get v.0 f) (ap is_some v.1.1.1 ∙ parts.0) in
      record {
        name = n;
        bound = bound;
        view = v.0;
        replica = v.1.0;
        held = held.0;
        has = held.1;
        unbound = λ k is. true≢false (sym (ap (binds_fid f) (sym v.1.1.0) ∙ binds_by f (finmap.get v.0 d) k is) ∙ not_true (binds_fid f p.0.0) parts.1);
      }
    where
      is_there : (o : Option Held) → is_some o ≡ true → (held : Held) × (o ≡ Some held)
      is_there None e = absurd (true≢false (sym e))
      is_there (Some held) e = (held, refl)

  pub doubled_in : (f : Fid) → Doubled f → IsIn f (filter (is_double copies (copies_at views)) (finmap.values (merged_bindings copies)))
  doubled_in f (inl t) =
      let le = two_values (finmap.entries (merged_bindings copies)) t.one t.other f t.apart (entry_in (merged_bindings copies) t.one f t.at_one) (entry_in (merged_bindings copies) t.other f t.at_other) in
      in_filter (is_double copies (copies_at views)) (finmap.values (merged_bindings copies)) f (value_in (merged_bindings copies) t.one f t.at_one)
      (or_left (twice_bound f) (taken_out f || elsewhere f) (le-leb 2 (times f (finmap.values (merged_bindings copies))) le))
  doubled_in f (inr (inl b)) =
      in_filter (is_double copies (copies_at views)) (finmap.values (merged_bindings copies)) f (value_in (merged_bindings copies) b.name f b.bound)
      (or_right (twice_bound f) (taken_out f || elsewhere f) (or_left (taken_out f) (elsewhere f) (lost_in copies b.update f b.counts b.missing b.took)))
  doubled_in f (inr (inr b)) =
      in_filter (is_double copies (copies_at views)) (finmap.values (merged_bindings copies)) f (value_in (merged_bindings copies) b.name f b.bound)
      (or_right (twice_bound f) (taken_out f || elsewhere f) (or_right (taken_out f) (elsewhere f) (elsewhere_by f b)))

  pub in_doubled : (f : Fid) → IsIn f (filter (is_double copies (copies_at views)) (finmap.values (merged_bindings copies))) → Doubled f
  in_doubled f s = by (twice_bound f) refl (filtered (is_double copies (copies_at views)) (finmap.values (merged_bindings copies)) f s)
    where
      up : (b : Bool) → T b → b ≡ true
      up true t = refl
      up false t = absurd t

      bound : (n : Name) × (finmap.get (merged_bindings copies) n ≡ Some f)
      bound = value_at (merged_bindings copies) f (unfiltered (is_double copies (copies_at views)) (finmap.values (merged_bindings copies)) f s)

      by_lost : (b : Bool) → taken_out f ≡ b → (b || elsewhere f) ≡ true → IsStillBound copies f ⊎ IsBoundElsewhere views d f
      by_lost true is e =
          let g = any_in (same_fid f) (all_lost copies) is in
          let same = same_fid_is f g.0 g.1.1 in
          let u = in_flat_from (λ (v : ResEntry). fids_lost v.lost) (missing copies) f (subst (λ h. IsIn h (all_lost copies)) (sym same) g.1.0) in
          let t = took u.0 f u.1.1 in
          inl (record { name = bound.0; bound = bound.1; update = u.0; missing = missing_is copies u.0 u.1.0; counts = t.0; took = t.1 })
      by_lost false is e = inr (by_elsewhere f bound.0 bound.1 e)

      by : (b : Bool) → twice_bound f ≡ b → (b || (taken_out f || elsewhere f)) ≡ true → Doubled f
      by true is e =
          let two = two_at f (finmap.entries (merged_bindings copies)) (up _ (finmap.entries_sorted (merged_bindings copies))) (leb-true 2 (times f (finmap.values (merged_bindings copies))) is) in
          inl (record {
            one = two.0.0;
            other = two.1.0.0;
            apart = two.1.1.1.1;
            at_one = bound_by (merged_bindings copies) two.0 f two.1.1.0.0 two.1.1.0.1;
            at_other = bound_by (merged_bindings copies) two.1.0 f two.1.1.1.0.0 two.1.1.1.0.1;
          })
      by false is e = inr (by_lost (taken_out f) refl e)

-- ---- objects that were taken out and updated elsewhere

newer_is : (counts : Counts) (o : Option Held) → is_newer counts o ≡ true → (held : Held) × ((o ≡ Some held) × HasMore held counts)
newer_is counts None e = absurd (true≢false (sym e))
newer_is counts (Some held) e = by (includes counts held.vector.0) refl e
  where
    by : (b : Bool) → includes counts held.vector.0 ≡ b → (not b || nat_le 1 (finmap.len (bindings_of (Some held)))) ≡ true → (h : Held) × ((Some held ≡ Some h) × HasMore h counts)
    by true is f = (held, (refl, inr (binds_some (bindings_of (Some held)) f)))
    by false is f = (held, (refl, inl is))

is_newer_by : (counts : Counts) (held : Held) → HasMore held counts → is_newer counts (Some held) ≡ true
is_newer_by counts held (inl e) = or_left (not (includes counts held.vector.0)) (nat_le 1 (finmap.len (bindings_of (Some held)))) (ap not e)
is_newer_by counts held (inr m) = or_right (not (includes counts held.vector.0)) (nat_le 1 (finmap.len (bindings_of (Some held)))) (some_binds (bindings_of (Some held)) m.0 m.1.0 m.1.1)

module _ (views : Replicas) (d : Fid) where
  abbrev pub updated : List Fid
  updated = flat_map (λ (u : ResEntry). updated_of (copies_at views d) (copies_at views) u u.lost) (missing (copies_at views d))

  abbrev Pass : ResEntry → Counts → Option Held × Option Held → Bool
  Pass u counts p = not (has_update u p.0) && is_newer counts p.1

  pub updated_in : (f : Fid) → IsUpdatedElsewhere views d f → IsIn f updated
  updated_in f e =
      in_flat (λ (u : ResEntry). updated_of (copies_at views d) (copies_at views) u u.lost) (missing (copies_at views d)) e.update f (is_missing_in (copies_at views d) e.update e.missing)
      (subst (λ o. IsIn f (updated_of (copies_at views d) (copies_at views) e.update o)) (sym e.took.is) (subst (λ b. IsIn f (cond b (e.took.lost.fid ∷ []) [])) (sym passes) (inl e.took.object)))
    where
      lost : Lost
      lost = e.took.lost

      at : (g : Fid) → g ≡ f → list_any (Pass e.update e.counts) (zip (copies_at views d) (copies_at views g)) ≡ true
      at g is =
          subst (λ h. list_any (Pass e.update e.counts) (zip (copies_at views d) (copies_at views h)) ≡ true) (sym is)
          (in_any (Pass e.update e.counts) (zip (copies_at views d) (copies_at views f)) (finmap.get e.view d, finmap.get e.view f) (in_zip d f views e.view e.replica)
          (and_from _ _ (ap not e.lacks) (ap (is_newer e.counts) e.has ∙ is_newer_by e.counts e.held e.more)))

      passes : is_updated (copies_at views d) (copies_at views e.took.lost.fid) e.update e.took.lost.vector.0 ≡ true
      passes = ap (λ c. list_any (Pass e.update c) (zip (copies_at views d) (copies_at views e.took.lost.fid))) e.took.updates ∙ at e.took.lost.fid e.took.object

  pub in_updated : (f : Fid) → IsIn f updated → IsUpdatedElsewhere views d f
  in_updated f s =
      let u = in_flat_from (λ (v : ResEntry). updated_of (copies_at views d) (copies_at views) v v.lost) (missing (copies_at views d)) f s in
      by_lost u.0 (missing_is (copies_at views d) u.0 u.1.0) u.0.lost refl u.1.1
    where
      by_lost : (u : ResEntry) → IsMissing (copies_at views d) u → (o : Option Lost) → u.lost ≡ o → IsIn f (updated_of (copies_at views d) (copies_at views) u o) → IsUpdatedElsewhere views d f
      by_lost u m None is s = absurd s
      by_lost u m (Some lost) is s = by (is_updated (copies_at views d) (copies_at views lost.fid) u lost.vector.0) refl s
        where
          by : (b : Bool) → is_updated (copies_at views d) (copies_at views lost.fid) u lost.vector.0 ≡ b → IsIn f (cond b (lost.fid ∷ []) []) → IsUpdatedElsewhere views d f
          by false e t = absurd t
          by true e (inr t) = absurd t
          by true e (inl same) =
              let p = any_in (Pass u lost.vector.0) (zip (copies_at views d) (copies_at views lost.fid)) e in
              let parts = and_parts (not (has_update u p.0.0)) (is_newer lost.vector.0 p.0.1) p.1.1 in
              let v = zipped d lost.fid views p.0 p.1.0 in
              let newer = newer_is lost.vector.0 p.0.1 parts.1 in
              record {
                update = u;
                missing = m;
                counts = lost.vector.0;
                took = record { lost = lost; is = is; object = same; updates = refl };
                view = v.0;
                replica = v.1.0;
                lacks = ap (has_update u) v.1.1.0 ∙ not_true (has_update u p.0.0) parts.0;
                held = newer.0;
                has = subst (λ g. finmap.get v.0 g ≡ Some newer.0) same (v.1.1.1 ∙ newer.1.0);
                more = newer.1.1;
              }
