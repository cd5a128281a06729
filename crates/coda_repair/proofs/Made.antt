-- The change of a replica, as it is made.
use Rattle.std.proofs.Common.{◌≡◌, ◌≤◌, ◌<◌, ℕ, ◌+◌, true, not, ◌&&◌, cond, List, [], ◌∷◌, ◌++◌, None, take, length, get_or, map, sym, ap, ◌∙◌, subst}
use Rattle.std.specs.FinMap as finmap
use Rattle.std.specs.FinMap.{is_sorted}
use Rattle.std.specs.List.{filter, AllZip}
use Rattle.std.specs.BTreeMap.{BTreeMap, get}
use Rattle.std.specs.BTreeSet.{BTreeSet}
use Rattle.std.proofs.lemmas.List.{map-append}
use Rattle.coda_fid.specs.Fid.{fid_cmp}
use Rattle.coda_fid.specs.declared.fid.Fid.{Fid}
use Rattle.coda_reslog.specs.declared.change.Held.{Held}
use Rattle.coda_reslog.specs.declared.change.Change.{Change}
use Rattle.coda_record.specs.declared.view.View.{View}
use Rattle.coda_resolve.specs.Counted.{has_fid}
use Rattle.coda_resolve.specs.Placement.{IsIn}
use Rattle.coda_resolve.specs.Reached.{AreReached}
use Rattle.coda_resolve.specs.Resolution.{Objects, Replicas, copies_at}
use Rattle.coda_resolve.specs.Views.{HeldPairs, objects_in, objects_of, replicas_of}
use Rattle.coda_repair.specs.Making.{AreSame, ArePut, put_at, spare_at, or_else}
use Rattle.coda_resolve.specs.Renewals.{changes_of}
use Rattle.coda_repair.specs.Repaired.{IsReplicaRepair}
use Rattle.coda_resolve.proofs.Sorted.{keys_in_order}
use Rattle.coda_repair.proofs.Parts.{part_is}
use Rattle.coda_repair.proofs.Repairs.{below_is, in_copies, zip_more}
use Rattle.coda_repair.proofs.Ways.{take_more}

-- the fids of a list of objects
abbrev pub fids_of : HeldPairs → List Fid
fids_of items = map (λ (o : Fid × Held). o.0) items

pub change_is : (views : Replicas) (right : Objects) (items : HeldPairs) (source : ℕ) (top : Fid) (set below : BTreeSet Fid) (fids : List Fid)
    (put spared : BTreeMap Fid Held) (change : Change)
    → 1 ≤ source → source ≤ 8 → is_sorted fid_cmp items ≡ true → AreSame set fids
    → AreReached (objects_in items) fids below
    → ArePut source (copies_at views) right fids put
    → ((f : Fid) → get fid_cmp spared f ≡ or_else (spare_at (has_fid set) (has_fid below) top (objects_in items) (fids_of items) f) (get fid_cmp put f))
    → is_sorted fid_cmp change.held ≡ true
    → ((f : Fid) → finmap.get (objects_in change.held) f ≡ get fid_cmp spared f)
    → change.gone ≡ filter (λ f. has_fid below f && not (has_fid set f)) (fids_of items)
    → IsIn (objects_in items) views
    → IsReplicaRepair (has_fid set) top source (copies_at views) right (objects_in items) change
change_is views right items source top set below fids put spared change one eight up same reached are_put are_spared sorted held_is gone_is inview =
    part_is (has_fid set) (has_fid below) top source (copies_at views) right (objects_in items) change one eight sorted
    (λ f.
    held_is f
    ∙ are_spared f
    ∙ ap (λ gs. or_else (spare_at (has_fid set) (has_fid below) top (objects_in items) gs f) (get fid_cmp put f)) (sym (keys_in_order items up))
    ∙ ap (or_else (spare_at (has_fid set) (has_fid below) top (objects_in items) (finmap.keys (objects_in items)) f)) (are_put.put f ∙ ap (λ b. cond b (put_at source (copies_at views) right f) None) (same f)))
    (gone_is ∙ ap (filter (λ f. has_fid below f && not (has_fid set f))) (sym (keys_in_order items up)))
    (below_is (objects_in items) fids set below same reached)
    (λ f was s r. are_put.wide f was (same f ∙ s) r)
    (λ f held e. in_copies views (objects_in items) f held inview e)

-- the changes of a front of the views with one view more
pub change_more : (P : Objects → Change → Type 0) (views : List View) (i : ℕ) (view : View) (items new : List (ℕ × Change)) (change : Change)
    → i < length views → view ≡ get_or views i view → new ≡ items ++ (view.server, change) ∷ []
    → (map (λ (c : ℕ × Change). c.0) items ≡ map (λ (v : View). v.server) (take i views)) × AllZip P (replicas_of (take i views)) (changes_of items)
    → P (objects_of view) change
    → (map (λ (c : ℕ × Change). c.0) new ≡ map (λ (v : View). v.server) (take (i + 1) views)) × AllZip P (replicas_of (take (i + 1) views)) (changes_of new)
change_more P views i view items new change lt is added sofar here = (
  ap (map (λ (c : ℕ × Change). c.0)) added
      ∙ map-append (λ (c : ℕ × Change). c.0) items ((view.server, change) ∷ [])
      ∙ ap (λ ss. ss ++ view.server ∷ []) sofar.0
      ∙ sym (map-append (λ (v : View). v.server) (take i views) (view ∷ []))
      ∙ ap (map (λ (v : View). v.server)) (sym front),
  subst (λ vs. AllZip P vs (changes_of new)) (sym (ap replicas_of front ∙ map-append objects_of (take i views) (view ∷ [])))
      (subst (AllZip P (replicas_of (take i views) ++ objects_of view ∷ [])) (sym (ap changes_of added ∙ map-append (λ (c : ℕ × Change). c.1) items ((view.server, change) ∷ [])))
      (zip_more P (replicas_of (take i views)) (changes_of items) (objects_of view) change sofar.1 here)),
)
  where
    front : take (i + 1) views ≡ take i views ++ view ∷ []
    front = take_more views i view lt ∙ ap (λ v. take i views ++ v ∷ []) (sym is)
