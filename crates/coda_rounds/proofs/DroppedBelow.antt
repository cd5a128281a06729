-- What drops leave of the ways up.
use Rattle.std.proofs.Common.{◌≡◌, ◌≢◌, ℕ, zero, suc, ◌-◌, ◌≤◌, Bool, true, false, cond, ◌||◌, List, [], ◌∷◌, Option}
use Rattle.std.proofs.Common.{Some, None, is_some, refl, sym, ap, ◌∙◌, subst, ⊎_elim, arith}
use Rattle.std.proofs.lemmas.Bool.{or_cases, or_parts, false≢true}
use Rattle.std.specs.Option.{option_map_or}
use Rattle.std.specs.FinMap as map
use Rattle.coda_fid.specs.Fid.{same_fid}
use Rattle.coda_fid.specs.declared.fid.Fid.{Fid}
use Rattle.coda_fid.proofs.Fids.{fids_total, exact_fids}
use Rattle.coda_tree.specs.declared.node.Node.{Node}
use Rattle.coda_tree.proofs.Order.{gone_here, gone_else}
use Rattle.coda_cancel.proofs.Keys.{fid_true, fid_false}
use Rattle.coda_walk.specs.Going.{is_listed}
use Rattle.coda_cache.specs.Parents.{below_within}
use Rattle.coda_cache.proofs.ParentsWays.{within_alike}
use Rattle.coda_record.specs.declared.entry.ClientEntry.TheVariants as entry
use Rattle.coda_venus.specs.Held.{Parents, is_below}
use Rattle.coda_venus.specs.History.{IsDirty, MayEnterAll}
use Rattle.coda_venus.specs.State.{ClientState, client_after}
use Rattle.coda_venus.specs.Rounds.{dropping}
use Rattle.coda_rounds.proofs.Replies.{left_of, left_node}

-- ---- one drop

fewer : (parents : Parents) (f : Fid) → map.len (map.remove parents f) ≤ map.len parents
fewer parents f = by (is_some (map.get parents f)) (map.len-remove fids_total parents f)
  where
    by : (b : Bool) → map.len (map.remove parents f) ≡ cond b (map.len parents - 1) (map.len parents)
        → map.len (map.remove parents f) ≤ map.len parents
    by true e = omega (arith, e)
    by false e = omega (arith, e)

module _ (parents : Parents) (gone : Fid) (bare : (f : Fid) → map.get parents f ≢ Some gone) where
  abbrev rest : Parents
  rest = map.remove parents gone

  same_steps : (n : ℕ) (f g : Fid) → f ≢ gone → below_within rest n f g ≡ below_within parents n f g
  same_steps zero f g off = refl
  same_steps (suc n) f g off =
      ap (λ o. same_fid f g || option_map_or (λ p. below_within rest n p g) o false)
      (gone_else fids_total exact_fids parents gone f off)
      ∙ ap (λ b. same_fid f g || b) (up (λ p apart. same_steps n p g apart) (map.get parents f) refl)
    where
      up : ((p : Fid) → p ≢ gone → below_within rest n p g ≡ below_within parents n p g) → (o : Option Fid)
          → map.get parents f ≡ o → option_map_or (λ p. below_within rest n p g) o false
          ≡ option_map_or (λ p. below_within parents n p g) o false
      up same None e = refl
      up same (Some p) e = same p (λ at. bare f (e ∙ ap Some at))

  same_way : (f g : Fid) → f ≢ gone → is_below rest f g ≡ is_below parents f g
  unfolding is_below
  same_way f g off =
      let few = fewer rest g in
      let less = fewer parents gone in
      within_alike rest g (map.len rest) (map.len parents) f few (omega (arith, few, less))
      ∙ same_steps (map.len parents) f g off

-- ---- all drops

pub below_left : (c : ClientState) (gone : List Fid) → MayEnterAll c (dropping gone) → (f g : Fid)
    → is_listed gone f ≡ false → is_below (left_of c gone).held.parents f g ≡ is_below c.held.parents f g
below_left c [] may f g off = refl
below_left c (x ∷ gone) may f g off =
    let k = or_parts (same_fid x f) (is_listed gone f) off in
    below_left (client_after c (entry.Dropped x)) gone may.1 f g k.1
    ∙ same_way c.held.parents x may.0.2 f g (λ same. fid_false x f k.0 (sym same))

-- what is dropped isn't mentioned
pub dropped_clean : (c : ClientState) (gone : List Fid) → MayEnterAll c (dropping gone) → (f : Fid)
    → is_listed gone f ≡ true → ¬ IsDirty c f
dropped_clean c [] may f on dirty = false≢true on
dropped_clean c (x ∷ gone) may f on dirty = ⊎_elim
    (λ (a : same_fid x f ≡ true). may.0.1 (subst (IsDirty c) (sym (fid_true x f a)) dirty))
    (λ (b : is_listed gone f ≡ true). dropped_clean (client_after c (entry.Dropped x)) gone may.1 f b dirty)
    (or_cases (same_fid x f) (is_listed gone f) on)

-- and isn't there any more
pub dropped_gone : (c : ClientState) (gone : List Fid) (f : Fid) → is_listed gone f ≡ true
    → map.get (left_of c gone).held.nodes f ≡ None
dropped_gone c [] f on = absurd (false≢true on)
dropped_gone c (x ∷ gone) f on = ⊎_elim
    (λ (a : same_fid x f ≡ true). none (map.get (left_of c (x ∷ gone)).held.nodes f) refl (fid_true x f a))
    (λ (b : is_listed gone f ≡ true). dropped_gone (client_after c (entry.Dropped x)) gone f b)
    (or_cases (same_fid x f) (is_listed gone f) on)
  where
    none : (o : Option Node) → map.get (left_of c (x ∷ gone)).held.nodes f ≡ o → x ≡ f → o ≡ None
    none None e same = refl
    none (Some node) e same =
        let was = left_node (client_after c (entry.Dropped x)) gone f node e in
        absurd (false≢true (ap is_some (sym (ap (map.get (map.remove c.held.nodes x)) (sym same)
        ∙ gone_here fids_total c.held.nodes x)) ∙ ap is_some was))

pub left_number : (c : ClientState) (gone : List Fid) → (left_of c gone).number ≡ c.number
left_number c [] = refl
left_number c (x ∷ gone) = left_number (client_after c (entry.Dropped x)) gone
