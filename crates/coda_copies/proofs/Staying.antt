-- What stays where an object goes with all that is held below it.
use Rattle.std.proofs.Common.{◌≡◌, ℕ, zero, suc, Bool, true, false, cond, not, ◌||◌, Option, Some, None, refl, sym, ap, ◌∙◌}
use Rattle.std.specs.FinMap as map
use Rattle.std.specs.Option.{option_map_or}
use Rattle.std.proofs.lemmas.Bool.{false≢true}
use Rattle.coda_fid.specs.Fid.{same_fid}
use Rattle.coda_fid.specs.declared.fid.Fid.{Fid}
use Rattle.coda_fid.specs.declared.op.Op.{Op}
use Rattle.coda_fid.specs.declared.op.Op.TheVariants.{Create, Mkdir, Symlink, Store, Setattr, Remove, Rmdir, Rename}
use Rattle.coda_fid.proofs.Fids.{exact_fids}
use Rattle.coda_cancel.proofs.Keys.{fid_true, fid_same}
use Rattle.coda_overlay.specs.Overlaying.{takes_out}
use Rattle.coda_venus.specs.Held.{Parents, Held, is_below, taken_out, stays, stays_by, held_without}
use Rattle.coda_cache.specs.Parents.{below_within}

-- an object is below itself
below_itself : (parents : Parents) (f : Fid) → is_below parents f f ≡ true
unfolding is_below
below_itself parents f = by (map.len parents)
  where
    by : (steps : ℕ) → below_within parents steps f f ≡ true
    by zero = fid_same f f refl
    by (suc steps) = ap (λ b. b || option_map_or (λ p. below_within parents steps p f) (map.get parents f) false) (fid_same f f refl)

-- so what stays isn't taken out
taken_goes : (parents : Parents) (gone f : Fid) → stays parents gone f ≡ true → same_fid gone f ≡ false
taken_goes parents gone f is = by (same_fid gone f) refl
  where
    by : (b : Bool) → same_fid gone f ≡ b → b ≡ false
    by true e = absurd (false≢true (sym (ap (λ x. not (is_below parents f x)) (fid_true gone f e) ∙ ap not (below_itself parents f)) ∙ is))
    by false e = refl

pub not_taken : (parents : Parents) (o : Op) (f : Fid) → stays_by parents (taken_out o) f ≡ true → takes_out f o ≡ false
not_taken parents (Create dir name fid mode owner) f is = refl
not_taken parents (Mkdir dir name fid mode owner) f is = refl
not_taken parents (Symlink dir name fid target mode owner) f is = refl
not_taken parents (Store fid pre content) f is = refl
not_taken parents (Setattr fid pre attrs) f is = refl
not_taken parents (Remove dir name fid pre) f is = taken_goes parents fid f is
not_taken parents (Rmdir dir name fid pre) f is = taken_goes parents fid f is
not_taken parents (Rename from_dir from to_dir to fid None) f is = refl
not_taken parents (Rename from_dir from to_dir to fid (Some over)) f is = taken_goes parents over.fid f is

-- the node of what stays
pub node_stays : (held : Held) (by : Parents) (gone : Option Fid) (f : Fid) → stays_by by gone f ≡ true → map.get (held_without gone by held).nodes f ≡ map.get held.nodes f
node_stays held by None f is = refl
node_stays held by (Some gone) f is = map.get-retain_keys held.nodes (stays by gone) f (λ q e. ap (stays by gone) (sym (exact_fids f q e))) ∙ ap (λ b. cond b (map.get held.nodes f) None) is
