-- Ways up by the parents that a client holds, and what is kept above what was looked up.
use Rattle.std.proofs.Common.{◌≡◌, ◌≢◌, ℕ, zero, suc, true, false, ◌||◌, if◌then◌else◌, List, [], ◌∷◌, Option}
use Rattle.std.proofs.Common.{Some, None, sym, ap, ◌∙◌, subst, ⊎_elim}
use Rattle.std.proofs.lemmas.Bool.{or_left, or_right, or_cases, false≢true}
use Rattle.std.specs.Option.{option_map_or}
use Rattle.std.specs.FinMap as map
use Rattle.coda_fid.specs.Fid.{same_fid}
use Rattle.coda_fid.specs.declared.fid.Fid.{Fid}
use Rattle.coda_cancel.proofs.Keys.{fid_true, fid_other}
use Rattle.coda_walk.specs.Going.{is_listed}
use Rattle.coda_cache.specs.Laws.{IsCache}
use Rattle.coda_cache.specs.Parents.{below_within}
use Rattle.coda_cache.specs.Room.{way_of, with_ancestors}
use Rattle.coda_cache.specs.State.{CacheState, is_cached, parent_of}
use Rattle.coda_cache.specs.Ways.{way_up}
use Rattle.coda_cache.proofs.Climbs.{way_by}
use Rattle.coda_cache.proofs.Operated.{self_on_way}
use Rattle.coda_venus.specs.Held.{Parents, is_below}
use Rattle.coda_rounds.proofs.Replies.{listed_behind}

-- ---- by the parents

below_more : (parents : Parents) (n : ℕ) (f g : Fid) → below_within parents n f g ≡ true
    → below_within parents (suc n) f g ≡ true
below_more parents zero f g h = or_left (same_fid f g) _ h
below_more parents (suc n) f g h = ⊎_elim
    (λ (a : same_fid f g ≡ true). or_left (same_fid f g) _ a)
    (λ (b : option_map_or (λ p. below_within parents n p g) (map.get parents f) false ≡ true). or_right (same_fid f g) _
    (up (λ p. below_more parents n p g) (map.get parents f) b))
    (or_cases (same_fid f g) _ h)
  where
    up : ((p : Fid) → below_within parents n p g ≡ true → below_within parents (suc n) p g ≡ true) → (o : Option Fid)
        → option_map_or (λ p. below_within parents n p g) o false ≡ true
        → option_map_or (λ p. below_within parents (suc n) p g) o false ≡ true
    up more None e = e
    up more (Some p) e = more p e

below_up : (parents : Parents) (n : ℕ) (f p g : Fid) → map.get parents f ≡ Some p → f ≢ g
    → below_within parents n f g ≡ true → below_within parents n p g ≡ true
below_up parents zero f p g at off h = absurd (off (fid_true f g h))
below_up parents (suc n) f p g at off h =
    below_more parents n p g (sym (ap (λ o. option_map_or (λ x. below_within parents n x g) o false) at)
    ∙ sym (ap (λ b. b || option_map_or (λ x. below_within parents n x g) (map.get parents f) false)
    (fid_other f g off)) ∙ h)

-- the parent of what is below another object, and isn't that one, is below it
pub parent_below : (parents : Parents) (f p g : Fid) → map.get parents f ≡ Some p → f ≢ g
    → is_below parents f g ≡ true → is_below parents p g ≡ true
unfolding is_below
parent_below parents f p g at off h = below_up parents (map.len parents) f p g at off h

-- ---- what is kept

pub on_way_kept : (c : CacheState) (looked : List Fid) (x p : Fid) → is_listed looked x ≡ true → is_cached c x ≡ true
    → is_listed (way_up c x) p ≡ true → is_listed (with_ancestors c looked) p ≡ true
on_way_kept c [] x p h there on = absurd (false≢true h)
on_way_kept c (y ∷ looked) x p h there on = listed_behind p (way_of c y) (with_ancestors c looked) ∙ ⊎_elim
    (λ (a : same_fid y x ≡ true). or_left (is_listed (way_of c y) p) (is_listed (with_ancestors c looked) p)
    (subst (λ z. is_listed (way_of c z) p ≡ true) (sym (fid_true y x a))
    (ap (λ b. is_listed (if b then way_up c x else []) p) there ∙ on)))
    (λ (b : is_listed looked x ≡ true). or_right (is_listed (way_of c y) p) (is_listed (with_ancestors c looked) p)
    (on_way_kept c looked x p b there on))
    (or_cases (same_fid y x) (is_listed looked x) h)

-- the parent of what was looked up is kept
pub parent_kept : (c : CacheState) → IsCache c → (looked : List Fid) (x p : Fid) → is_listed looked x ≡ true
    → is_cached c x ≡ true → parent_of c x ≡ Some p → is_listed (with_ancestors c looked) p ≡ true
parent_kept c k looked x p h there at =
    on_way_kept c looked x p h there (ap (λ l. is_listed l p) (way_by c k x p there at)
    ∙ or_right (same_fid x p) (is_listed (way_up c p) p) (self_on_way c p (k.held p ∙ k.parents x p at)))
