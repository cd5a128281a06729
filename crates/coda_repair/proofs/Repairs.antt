-- What is below the repaired objects, and the changes of the replicas, one after the other.
use Rattle.std.proofs.Common.{◌≡◌, ◌<◌, ℕ, zero, suc, Bool, true, false, List, [], ◌∷◌, ◌++◌, Some, length, get_or, refl, sym, ap, ◌∙◌, subst, cond, ◌||◌, ◌↔◌, inl, inr, arith}
use Rattle.std.specs.FinMap as finmap
use Rattle.std.specs.FinMap.Entries.{find}
use Rattle.std.specs.List.{AllZip, AllByRecursion}
use Rattle.std.specs.Ordering.{is_eq}
use Rattle.std.specs.BTreeSet.{BTreeSet}
use Rattle.coda_fid.specs.Fid.{fid_cmp, same_fid}
use Rattle.coda_fid.specs.declared.fid.Fid.{Fid}
use Rattle.coda_fid.proofs.Fids.{same_fid_is, same_fid_refl}
use Rattle.coda_tree.specs.Tree.{IsBelow, itself, under}
use Rattle.coda_reslog.specs.declared.change.Held.{Held}
use Rattle.coda_record.specs.declared.view.View.{View}
use Rattle.coda_resolve.specs.Resolution.{Objects, Replicas, copies_at, child_in}
use Rattle.coda_resolve.specs.Placement.{IsIn}
use Rattle.coda_resolve.specs.Changes.{is_among}
use Rattle.coda_resolve.specs.Counted.{has_fid}
use Rattle.coda_resolve.specs.Reached.{IsReached, start, onward, AreReached}
use Rattle.coda_resolve.specs.Views.{HeldPairs, objects_of, replicas_of}
use Rattle.coda_resolve.proofs.Lists.{some_none}
use Rattle.coda_repair.specs.Making.{AreSame}

-- ---- below

-- what is reached from some objects is at or below one of them
reached_below : (view : Objects) (starts : List Fid) (f : Fid) → IsReached view starts f → (g : Fid) × ((is_among starts g ≡ true) × IsBelow (child_in view) g f)
reached_below view starts f (start g e) = (g, (e, itself g refl))
reached_below view starts f (onward d n g up bound) = let k = reached_below view starts d up in (k.0, (k.1.0, under d n g bound k.1.1))

below_reached : (view : Objects) (starts : List Fid) (g f : Fid) → is_among starts g ≡ true → IsBelow (child_in view) g f → IsReached view starts f
below_reached view starts g f e (itself h is) = start h (subst (λ x. is_among starts x ≡ true) (sym is) e)
below_reached view starts g f e (under d n h bound up) = onward d n h (below_reached view starts g d e up) bound

pub below_is : (view : Objects) (starts : List Fid) (set below : BTreeSet Fid) → AreSame set starts → AreReached view starts below → (f : Fid) → (has_fid below f ≡ true) ↔ ((g : Fid) × ((has_fid set g ≡ true) × IsBelow (child_in view) g f))
below_is view starts set below same are f = (
  λ e. let k = reached_below view starts f (are.only f e) in (k.0, (sym (same k.0) ∙ k.1.0, k.1.1)),
  λ p. are.all f (below_reached view starts p.0 f (same p.0 ∙ p.1.0) p.1.1),
)

-- at or below one object
pub below_one : (view : Objects) (top : Fid) (set : BTreeSet Fid) → AreReached view (top ∷ []) set → (f : Fid) → (has_fid set f ≡ true) ↔ IsBelow (child_in view) top f
below_one view top set are f = (
  λ e. let k = reached_below view (top ∷ []) f (are.only f e) in subst (λ g. IsBelow (child_in view) g f) (only k.0 k.1.0) k.1.1,
  λ b. are.all f (below_reached view (top ∷ []) top f here b),
)
  where
    open_or : (b : Bool) → b ≡ true → (b || false) ≡ true
    open_or true e = refl
    open_or false e = e

    here : is_among (top ∷ []) top ≡ true
    here = open_or (same_fid top top) (same_fid_refl top)

    back : (b : Bool) → (b || false) ≡ true → b ≡ true
    back true e = refl
    back false e = e

    only : (g : Fid) → is_among (top ∷ []) g ≡ true → g ≡ top
    only g e = same_fid_is g top (back (same_fid g top) e)

-- ---- the views

-- what a list of objects holds of a fid has what all of them have
pub find_all : (P : Fid × Held → Type 0) (es : HeldPairs) (f : Fid) (held : Held) → AllByRecursion P es → find fid_cmp f es ≡ Some held → (g : Fid) × P (g, held)
find_all P [] f held a e = absurd (some_none held (sym e))
find_all P (x ∷ es) f held a e = by (is_eq (fid_cmp f x.0)) e (find_all P es f held a.1)
  where
    by : (b : Bool) → cond b (Some x.1) (find fid_cmp f es) ≡ Some held → (find fid_cmp f es ≡ Some held → (g : Fid) × P (g, held)) → (g : Fid) × P (g, held)
    by true is rest = (x.0, let same : x.1 ≡ held = cc in subst (λ h. P (x.0, h)) same a.0)
    by false is rest = rest is

pub in_copies : (views : Replicas) (view : Objects) (f : Fid) (held : Held) → IsIn view views → finmap.get view f ≡ Some held → IsIn (Some held) (copies_at views f)
in_copies [] view f held s e = absurd s
in_copies (v ∷ views) view f held (inl is) e = inl (ap (λ (x : Objects). finmap.get x f) is ∙ e)
in_copies (v ∷ views) view f held (inr s) e = inr (in_copies views view f held s e)

pub in_replicas : (views : List View) (i : ℕ) (d : View) → i < length views → IsIn (objects_of (get_or views i d)) (replicas_of views)
in_replicas [] i d lt = absurd (omega arith)
in_replicas (v ∷ views) zero d lt = inl refl
in_replicas (v ∷ views) (suc i) d lt = inr (in_replicas views i d (omega arith))

-- ---- one change more

pub zip_more : {A B : Type 0} (P : A → B → Type 0) (xs : List A) (ys : List B) (x : A) (y : B) → AllZip P xs ys → P x y → AllZip P (xs ++ x ∷ []) (ys ++ y ∷ [])
zip_more P [] [] x y a p = (p, tt)
zip_more P [] (z ∷ ys) x y a p = absurd a
zip_more P (z ∷ xs) [] x y a p = absurd a
zip_more P (z ∷ xs) (w ∷ ys) x y a p = (a.0, zip_more P xs ys x y a.1 p)
