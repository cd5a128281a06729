-- What two fids have at the replicas, and what a copy binds.
use Rattle.std.proofs.Common.{◌≡◌, true, [], ◌∷◌, Option, Some, refl, sym, ap, subst, inl, inr}
use Rattle.std.specs.List.{zip}
use Rattle.std.specs.FinMap as finmap
use Rattle.coda_fid.specs.Fid.{same_fid}
use Rattle.coda_fid.specs.declared.fid.Fid.{Fid}
use Rattle.coda_fid.proofs.Fids.{same_fid_is, same_fid_refl}
use Rattle.coda_tree.specs.Bindings.{Name}
use Rattle.coda_reslog.specs.declared.change.Held.{Held}
use Rattle.coda_resolve.specs.Copies.{bindings_of}
use Rattle.coda_resolve.specs.Causes.{binds_fid}
use Rattle.coda_resolve.specs.Placement.{IsIn}
use Rattle.coda_resolve.specs.Resolution.{Objects, Replicas, copies_at}
use Rattle.coda_resolve.proofs.Logged.{any_in, in_any}
use Rattle.coda_resolve.proofs.Once.{value_in}
use Rattle.coda_resolve.proofs.Walked.{value_at}

-- ---- replicas

-- what two fids have at the replicas, side by side
pub zipped : (d f : Fid) (views : Replicas) (p : Option Held × Option Held) → IsIn p (zip (copies_at views d) (copies_at views f)) → (view : Objects) × (IsIn view views × ((finmap.get view d ≡ p.0) × (finmap.get view f ≡ p.1)))
zipped d f [] p s = absurd s
zipped d f (view ∷ views) p (inl is) = (view, (inl refl, (ap (λ (q : Option Held × Option Held). q.0) is, ap (λ (q : Option Held × Option Held). q.1) is)))
zipped d f (view ∷ views) p (inr s) = let m = zipped d f views p s in (m.0, (inr m.1.0, m.1.1))

pub in_zip : (d f : Fid) (views : Replicas) (view : Objects) → IsIn view views → IsIn (finmap.get view d, finmap.get view f) (zip (copies_at views d) (copies_at views f))
in_zip d f [] view s = absurd s
in_zip d f (v ∷ views) view (inl is) = inl (λ i. (finmap.get (is i) d, finmap.get (is i) f))
in_zip d f (v ∷ views) view (inr s) = inr (in_zip d f views view s)

-- ---- what a copy binds

pub binds_by : (f : Fid) (copy : Option Held) (n : Name) → finmap.get (bindings_of copy) n ≡ Some f → binds_fid f copy ≡ true
binds_by f copy n e = in_any (same_fid f) (finmap.values (bindings_of copy)) f (value_in (bindings_of copy) n f e) (same_fid_refl f)

pub by_name : (f : Fid) (copy : Option Held) → binds_fid f copy ≡ true → (n : Name) × (finmap.get (bindings_of copy) n ≡ Some f)
by_name f copy e =
    let g = any_in (same_fid f) (finmap.values (bindings_of copy)) e in
    value_at (bindings_of copy) f (subst (λ h. IsIn h (finmap.values (bindings_of copy))) (sym (same_fid_is f g.0 g.1.1)) g.1.0)
