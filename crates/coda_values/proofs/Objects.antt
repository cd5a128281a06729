-- Fids and objects one after the other, as a loop writes them.
use Rattle.std.proofs.Common.{◌≡◌, ℕ, true, ◌&&◌, ◌<◌, ◌^◌, List, [], ◌∷◌, ◌++◌, Option, Some, None, length, All, refl, sym, ap, ◌∙◌}
use Rattle.std.specs.Prelude.{IsTrue}
use Rattle.std.specs.List.{flat_map, AllByRecursion}
use Rattle.std.proofs.lemmas.Bool.{ltb-true}
use Rattle.std.proofs.lemmas.List.Elements.{All-from_recursion}
use Rattle.std.proofs.lemmas.List.Concat.{flat_map-cons}
use Rattle.coda_fid.specs.declared.fid.Fid.{Fid}
use Rattle.coda_reslog.specs.declared.change.Held.{Held}
use Rattle.coda_reslog.specs.declared.change.Change.{Change}
use Rattle.coda_values.specs.Form.{four}
use Rattle.coda_values.specs.Parts.{items_piece}
use Rattle.coda_values.specs.Spelling.{HasSpelling}
use Rattle.coda_values.specs.Table.{fid}
use Rattle.coda_values.specs.Nodes.{node}
use Rattle.coda_values.specs.Held.{vector, held, fid_after, fids, object_after, objects, change}
use Rattle.coda_values.proofs.PartsAgree.{first_true, second_true}

-- how a fid is written depends on no other
pub fids_bytes : (before : Option Fid) (fs : List Fid) → (items_piece fid_after (λ f. Some f) before fs).bytes ≡ flat_map (λ f. (fid.piece f).bytes) fs
fids_bytes before [] = refl
fids_bytes before (f ∷ fs) = ap (λ (b : List ℕ). (fid.piece f).bytes ++ b) (fids_bytes (Some f) fs) ∙ sym (flat_map-cons (λ f. (fid.piece f).bytes) f fs)

-- there are fewer than 2 ^ 32 fids in a list that has a spelling
pub few_fids : (fs : List Fid) → HasSpelling fids fs → length fs < 2 ^ 32
unfolding fids
few_fids fs fits = ltb-true _ _ (first_true _ _ fits)

-- how an object is written depends on no other
pub objects_bytes : (before : Option Fid) (os : List (Fid × Held)) → (items_piece (object_after four) (λ o. Some o.0) before os).bytes ≡ flat_map (λ o. ((object_after four None).piece o).bytes) os
unfolding object_after
objects_bytes before [] = refl
objects_bytes before (o ∷ os) = ap (λ (b : List ℕ). ((object_after four before).piece o).bytes ++ b) (objects_bytes (Some o.0) os) ∙ sym (flat_map-cons (λ o. ((object_after four None).piece o).bytes) o os)

-- there are fewer than 2 ^ 32 objects in a list that has a spelling
pub few_objects : (os : List (Fid × Held)) → HasSpelling (objects four) os → length os < 2 ^ 32
unfolding objects
few_objects os fits = ltb-true _ _ (first_true _ _ fits)

object_held : (before : Option Fid) (o : Fid × Held) → HasSpelling (object_after four before) o → HasSpelling (held four) o.1
unfolding object_after
object_held before o fits = first_true _ _ (second_true _ _ fits)

all_held : (before : Option Fid) (os : List (Fid × Held)) → IsTrue (items_piece (object_after four) (λ o. Some o.0) before os).fits → AllByRecursion (λ o. HasSpelling (held four) o.1) os
all_held before [] fits = tt
all_held before (o ∷ os) fits = (object_held before o (first_true _ _ fits), all_held (Some o.0) os (second_true _ _ fits))

-- what is held of each object of a list that has a spelling has one
pub each_held : (os : List (Fid × Held)) → HasSpelling (objects four) os → All (λ o. HasSpelling (held four) o.1) os
unfolding objects
each_held os fits = All-from_recursion (λ o. HasSpelling (held four) o.1) os (all_held None os (second_true _ _ fits))

-- the node of what is held
pub held_node : (h : Held) → HasSpelling (held four) h → HasSpelling (node four) h.node
unfolding held
held_node h fits = first_true _ _ fits

-- the objects of a change, and the fids that go
pub change_objects : (c : Change) → HasSpelling (change four) c → HasSpelling (objects four) c.held
unfolding change
change_objects c fits = first_true _ _ fits

pub change_gone : (c : Change) → HasSpelling (change four) c → HasSpelling fids c.gone
unfolding change
change_gone c fits = first_true _ _ (second_true _ _ fits)
