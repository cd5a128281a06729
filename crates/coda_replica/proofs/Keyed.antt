-- What the entries of an ordered map keep as a finite map, and what a change of them makes of it.
use Rattle.std.proofs.Common.{◌≡◌, ℕ, cond, List, [], ◌∷◌, Option, Some, None, refl, sym, ap, ◌∙◌}
use Rattle.std.specs.Ordering.{nat_cmp, is_eq, eq_by_cmp}
use Rattle.std.specs.Cmp.{nat_cmp_total, eq_by_cmp_equiv}
use Rattle.std.specs.Map.{lookup}
use Rattle.std.specs.FinMap as map
use Rattle.std.specs.FinMap.{find, nat_cmp-IsAntisymmetric}

-- what is kept at a key
abbrev pub kept_at : {X : Type 0} → List (ℕ × X) → ℕ → Option X
kept_at entries q = lookup (λ k. is_eq (nat_cmp q k)) entries

module _ {X : Type 0} where
  find_lookup : (entries : List (ℕ × X)) (q : ℕ) → find nat_cmp q entries ≡ kept_at entries q
  find_lookup [] q = refl
  find_lookup (e ∷ entries) q = ap (cond (is_eq (nat_cmp q e.0)) (Some e.1)) (find_lookup entries q)

  -- the finite map has what is kept
  pub get_keyed : (entries : List (ℕ × X)) (q : ℕ) → map.get (map.from_entries {R = nat_cmp} entries) q ≡ kept_at entries q
  get_keyed entries q = map.get-from_entries nat_cmp_total entries q ∙ find_lookup entries q

  -- a value put
  pub keyed_put : (old new : List (ℕ × X)) (k : ℕ) (x : X) → ((q : ℕ) → kept_at new q ≡ cond (is_eq (nat_cmp k q)) (Some x) (kept_at old q))
      → map.from_entries {R = nat_cmp} new ≡ map.insert (map.from_entries old) k x
  keyed_put old new k x put = map.same_map nat_cmp_total nat_cmp-IsAntisymmetric _ _ (λ q.
      get_keyed new q ∙ put q ∙ ap (λ b. cond b (Some x) (kept_at old q)) ((eq_by_cmp_equiv nat_cmp_total).symm k q)
      ∙ ap (cond (eq_by_cmp nat_cmp q k) (Some x)) (sym (get_keyed old q)) ∙ sym (map.get-insert nat_cmp_total (map.from_entries old) k x q))

  -- a value taken out
  pub keyed_taken_out : (old new : List (ℕ × X)) (k : ℕ) → ((q : ℕ) → kept_at new q ≡ cond (is_eq (nat_cmp k q)) None (kept_at old q))
      → map.from_entries {R = nat_cmp} new ≡ map.remove (map.from_entries old) k
  keyed_taken_out old new k out = map.same_map nat_cmp_total nat_cmp-IsAntisymmetric _ _ (λ q.
      get_keyed new q ∙ out q ∙ ap (λ b. cond b None (kept_at old q)) ((eq_by_cmp_equiv nat_cmp_total).symm k q)
      ∙ ap (cond (eq_by_cmp nat_cmp q k) None) (sym (get_keyed old q)) ∙ sym (map.get-remove nat_cmp_total (map.from_entries old) k q))
