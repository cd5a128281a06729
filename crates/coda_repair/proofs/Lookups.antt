-- Objects in the order of their fids.
use Rattle.std.proofs.Common.{◌≡◌, ℕ, ◌<◌, true, length, get_or, Some, sym, ap, ◌∙◌}
use Rattle.std.specs.declared.cmp.Ordering.TheVariants.{Equal}
use Rattle.std.specs.FinMap as finmap
use Rattle.std.specs.FinMap.Entries.{is_sorted}
use Rattle.std.proofs.lemmas.Cmp.{tied_itself}
use Rattle.std.proofs.lemmas.List.{get_or_default}
use Rattle.coda_fid.specs.Fid.{fid_cmp}
use Rattle.coda_fid.specs.declared.fid.Fid.{Fid}
use Rattle.coda_fid.proofs.Fids.{fids_total}
use Rattle.coda_reslog.specs.declared.change.Held.{Held}
use Rattle.coda_resolve.specs.Views.{HeldPairs, objects_in}
use Rattle.coda_resolve.proofs.Sorted.{held_there}

-- the object at a place is what is held there
pub object_at : (es : HeldPairs) (i : ℕ) (o : Fid × Held) → is_sorted fid_cmp es ≡ true → i < length es → o ≡ get_or es i o → finmap.get (objects_in es) o.0 ≡ Some o.1
object_at es i o up lt is =
    sym (held_there es o.0 i o up (record {
      in_range = lt;
      has_fid = λ d. ap (λ (p : Fid × Held). fid_cmp p.0 o.0) (get_or_default es i d o lt ∙ sym is) ∙ (eq_order o.0);
    }))
    ∙ ap (λ (p : Fid × Held). Some p.1) (sym is)
  where
    eq_order : (f : Fid) → fid_cmp f f ≡ Equal
    eq_order f = tied_itself fids_total f
