-- Below an object that is no parent nothing else is held.
use Rattle.std.proofs.Common.{◌≡◌, ◌≢◌, ℕ, suc, zero, ◌||◌, ◌&&◌, not, Bool, true, false, List, [], ◌∷◌, Option, Some, None, refl, ap, ◌∙◌}
use Rattle.std.specs.Option.{option_map_or}
use Rattle.std.specs.List.{list_any}
use Rattle.std.specs.FinMap as map
use Rattle.coda_fid.specs.Fid.{same_fid}
use Rattle.coda_fid.specs.declared.fid.Fid.{Fid}
use Rattle.coda_cancel.proofs.Keys.{fid_true}
use Rattle.coda_cache.specs.Parents.{below_within}
use Rattle.coda_venus.specs.Held.{Held, Parents, is_below, some_below}

or_no : (a b : Bool) → b ≡ false → (a || b) ≡ a
or_no true b e = refl
or_no false b e = e

module _ (parents : Parents) (f : Fid) (childless : (g : Fid) → map.get parents g ≢ Some f) where
  other : (p : Fid) (b : Bool) → same_fid p f ≡ b → p ≢ f → b ≡ false
  other p true e apart = absurd (apart (fid_true p f e))
  other p false e apart = refl

  -- going up from another object doesn't meet it
  pub within : (steps : ℕ) (g : Fid) → below_within parents steps g f ≡ same_fid g f
  within zero g = refl
  within (suc steps) g = by (λ p. within steps p) (map.get parents g) refl
    where
      by : ((p : Fid) → below_within parents steps p f ≡ same_fid p f) → (parent : Option Fid) → map.get parents g ≡ parent
          → (same_fid g f || option_map_or (λ p. below_within parents steps p f) parent false) ≡ same_fid g f
      by rest None e = or_no (same_fid g f) false refl
      by rest (Some p) e = or_no (same_fid g f) (below_within parents steps p f) (rest p ∙ other p (same_fid p f) refl (λ same. childless g (e ∙ ap Some same)))

-- so nothing that is held passes a test below it
pub none_below : (held : Held) (test : Fid → Bool) (f : Fid) → ((g : Fid) → map.get held.parents g ≢ Some f) → some_below held test f ≡ false
unfolding some_below is_below
none_below held test f childless = among (map.keys held.nodes)
  where
    fails : (same t below : Bool) → below ≡ same → (not same && (t && below)) ≡ false
    fails true t below e = refl
    fails false true below e = e
    fails false false below e = refl

    among : (fids : List Fid) → list_any (λ g. not (same_fid g f) && (test g && below_within held.parents (map.len held.parents) g f)) fids ≡ false
    among [] = refl
    among (g ∷ fids) = ap (λ b. b || list_any (λ g. not (same_fid g f) && (test g && below_within held.parents (map.len held.parents) g f)) fids) (fails (same_fid g f) (test g) _ (within held.parents f childless (map.len held.parents) g)) ∙ among fids
