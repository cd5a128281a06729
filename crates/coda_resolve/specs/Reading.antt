-- What is known of the files and links that all replicas hold, and what each replica then holds anew.
use Rattle.std.specs.Prelude.{◌≡◌, ◌++◌, ◌∷◌, [], ◌&&◌, ℕ, Bool, IsTrue, true, List, Option, get_or, set}
use Rattle.std.specs.List.{AllZip, list_any}
use Rattle.std.specs.FinMap as finmap
use Rattle.coda_fid.specs.Fid.{same_fid}
use Rattle.coda_fid.specs.declared.fid.Fid.{Fid}
use Rattle.coda_reslog.specs.declared.change.Held.{Held}
use Rattle.coda_resolve.specs.declared.part.Renewals.{Renewals}
use Rattle.coda_resolve.specs.declared.reading.Sight.{Sight}
use Rattle.coda_record.specs.declared.view.View.{View}
use Rattle.coda_resolve.specs.Changes.{is_among}
use Rattle.coda_resolve.specs.Renewals.{AreRenewed}
use Rattle.coda_resolve.specs.Resolution.{Objects, Replicas}
use Rattle.coda_resolve.specs.Survey.{IsKnown, ArePlain}
use Rattle.coda_resolve.specs.Views.{objects_of, replicas_of}

-- whether the object is among these, and known
abbrev pub is_known : List Sight → Fid → Bool
is_known sights f = list_any (λ sight. sight.known && same_fid f sight.fid) sights

-- what is known is so, and what may change of it
pub record AreKnown (replicas : Replicas) (changed : List Fid) (sights : List Sight) : Type 0 where
  pub known : (f : Fid) → is_known sights f ≡ true → IsKnown replicas changed f
  pub plain : ArePlain replicas changed

-- what each view holds anew of the objects
abbrev pub AreAllRenewed : Replicas → List View → List Fid → List Renewals → Type 0
AreAllRenewed replicas views objects renewals = AllZip (λ view own. AreRenewed replicas (objects_of view) objects own.held own.touched.items) views renewals

-- what a view with this copy holds anew, which stands at place i, has become what it holds anew with this object
pub record IsRenewedAt (replicas : Replicas) (f : Fid) (copy : Option Held) (old new : List Renewals) (i : ℕ) : Type 0 where
  pub own : Renewals
  pub changed : new ≡ set old i own
  pub renewed : (view : Objects) (objects : List Fid) (was : Renewals) → copy ≡ finmap.get view f → was ≡ get_or old i was → AreRenewed replicas view objects was.held was.touched.items → AreRenewed replicas view (objects ++ f ∷ []) own.held own.touched.items

-- one object more was read
pub record IsNextRead (views : List View) (f : Fid) (told : Bool) (old new : List Fid) (was now : List Renewals) : Type 0 where
  pub known : IsTrue told → IsKnown (replicas_of views) new f
  pub before : (g : Fid) → is_among old g ≡ true → is_among new g ≡ true
  pub plain : ArePlain (replicas_of views) old → ArePlain (replicas_of views) new
  pub renewed : AreAllRenewed (replicas_of views) views old was → AreAllRenewed (replicas_of views) views new now
