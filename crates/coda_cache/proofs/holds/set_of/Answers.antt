use Rattle.std.proofs.Common.{◌≡◌, Bool, true, false, cond, ◌||◌, take, refl, sym, ap, ◌∙◌, add-one}
use Rattle.std.specs.Prelude.{slice_index_or}
use Rattle.coda_fid.specs.declared.fid.Fid.{Fid}
use Rattle.coda_fid.specs.Fid.{same_fid}
use Rattle.coda_walk.specs.Going.{is_listed}
use Rattle.coda_cache.proofs.Standing.{listed_next}
use Rattle.coda_cache.proofs.holds.set_of.Goals as goal

abbrev none : Fid
none = record { volume = 0; vnode = 0; uniq = 0 }

either : (s l : Bool) → cond s true l ≡ (l || s)
either true true = refl
either true false = refl
either false true = refl
either false false = refl

pub loop-fid-preserved : goal.loop-fid-preserved
loop-fid-preserved c = λ f.
    let g = slice_index_or c.args.fids.now c.loop-fid.fid-index none in
    c.in_ok-set_in.ensures f ∙ ap (cond (same_fid g f) true) (c.loop-fid.invariant f) ∙ either (same_fid g f) (is_listed (take c.loop-fid.fid-index c.args.fids.now) f)
    ∙ sym (ap (λ n. is_listed (take n c.args.fids.now) f) (add-one c.loop-fid.fid-index) ∙ listed_next c.args.fids.now c.loop-fid.fid-index none c.loop-fid-test.true f)
