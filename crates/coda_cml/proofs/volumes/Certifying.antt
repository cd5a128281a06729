-- Operations that are certified on some nodes are certified on others, check by check.
use Rattle.std.proofs.Common.{◌≡◌, ℕ, zero, suc, ◌≤◌, Bool, true, false, ◌&&◌, ◌||◌, ◌==◌, not, List, [], ◌∷◌, Option, Some, None, option_map, is_some, refl, sym, ap, ◌∙◌, subst, arith}
use Rattle.std.specs.Prelude.{nat_le}
use Rattle.std.specs.Option.{option_map_or}
use Rattle.std.specs.FinMap as map
use Rattle.std.proofs.lemmas.Bool.{false_from_ne_true, true≢false, false≢true, eqb-true}
use Rattle.std.proofs.lemmas.Bool.Decides.{nat_tests}
use Rattle.coda_fid.specs.Fid.{same_fid, same_sid}
use Rattle.coda_fid.specs.declared.fid.Fid.{Fid}
use Rattle.coda_fid.specs.declared.fid.Sid.{Sid}
use Rattle.coda_fid.specs.declared.op.Op.{Op}
use Rattle.coda_fid.specs.declared.op.Op.TheVariants.{Create, Mkdir, Symlink, Store, Setattr, Remove, Rmdir, Rename}
use Rattle.coda_fid.proofs.Fids.{same_fid_refl}
use Rattle.coda_tree.specs.declared.node.Node.{Node}
use Rattle.coda_tree.specs.Bindings.{Name}
use Rattle.coda_tree.specs.Tree.{IsBelow, itself, under}
use Rattle.coda_tree.specs.Volume.{Nodes, child, IsVolume, parent_of, below_within, is_below}
use Rattle.coda_tree.proofs.Below.{is_below_sound, is_below_complete}
use Rattle.coda_tree.proofs.Trees.{below_kept}
use Rattle.coda_certify.specs.declared.reason.Reason.TheVariants.{VolumeFull}
use Rattle.coda_certify.specs.Checks.{Check, IsThere, IsFidFree, IsOfVersion, IsNotAbove, checks, ◌otherwise◌, where_true, no_object_of, change_of, version_of, loop_of, full_of, reason_of, first_reason, certify}
use Rattle.coda_certify.proofs.Passed.{AllPass, all_pass, where_true_none, fid_free_from_check}
use Rattle.coda_cancel.specs.Dropping.{creates}
use Rattle.coda_cancel.proofs.Keys.{fid_true}

-- ---- a list of checks

-- where each check finds nothing there is no first reason
pub none_first : (m : Nodes) (cs : List Check) → AllPass m cs → first_reason m cs ≡ None
none_first m [] h = refl
none_first m (c ∷ cs) h = ap (λ o. o otherwise first_reason m cs) h.0 ∙ none_first m cs h.1

pub certified_checks : (m : Nodes) (op : Op) → certify m op ≡ None → AllPass m (checks op)
unfolding certify
certified_checks m op c = all_pass m (checks op) c

pub certified_from : (m : Nodes) (op : Op) → AllPass m (checks op) → certify m op ≡ None
unfolding certify
certified_from m op h = none_first m (checks op) h

-- ---- the check for loops

below_itself : (m : Nodes) (steps : ℕ) (f : Fid) → below_within m steps f f ≡ true
below_itself m zero f = same_fid_refl f
below_itself m (suc steps) f = ap (λ b. b || option_map_or (λ p. below_within m steps p f) (parent_of m f) false) (same_fid_refl f)

found_below : {root : Fid} (m : Nodes) → IsVolume root m → (g f : Fid) → IsBelow (child m) g f → is_below m f g ≡ true
unfolding is_below
found_below m v g f (itself f' same) = ap (λ x. below_within m (map.len m) f x) (sym same) ∙ below_itself m (map.len m) f
found_below m v g f (under d n f' h up) = is_below_complete m v f g (v.tree.there d n f h) (under d n f h up)

-- with fewer bindings an object stands above no more directories
pub still_not_above : {root : Fid} (v u : Nodes) → IsVolume root v → ((d : Fid) (n : Name) (f : Fid) → child u d n ≡ Some f → child v d n ≡ Some f) → (fid dir : Fid) → reason_of v (IsNotAbove fid dir) ≡ None → reason_of u (IsNotAbove fid dir) ≡ None
still_not_above v u volume fewer fid dir h =
    let apart : is_below v dir fid ≡ false = where_true_none _ _ h in
    ap loop_of (false_from_ne_true (is_below u dir fid) (λ e. true≢false (sym (found_below v volume fid dir (below_kept fewer dir (is_below_sound u dir fid e))) ∙ apart)))

-- ---- the check of versions

-- the version of the node at a fid
unfoldable pub version_at : Nodes → Fid → Option Sid
version_at m f = option_map (λ (node : Node). node.sid) (map.get m f)

same_sid_is : (a b : Sid) → same_sid a b ≡ true → a ≡ b
same_sid_is a b h = λ i. record { client = eqb-true a.client b.client (parts (a.client == b.client) (a.number == b.number) h).0 i; number = eqb-true a.number b.number (parts (a.client == b.client) (a.number == b.number) h).1 i }
  where
    parts : (x y : Bool) → (x && y) ≡ true → (x ≡ true) × (y ≡ true)
    parts true y e = (refl, e)
    parts false y e = absurd (false≢true e)

same_number : (n : ℕ) → (n == n) ≡ true
same_number n = grind (arith, nat_tests)

same_sid_refl : (a : Sid) → same_sid a a ≡ true
same_sid_refl a = ap (λ b. b && (a.number == a.number)) (same_number a.client) ∙ same_number a.number

is_from_not : (b : Bool) → not b ≡ false → b ≡ true
is_from_not true e = refl
is_from_not false e = absurd (true≢false e)

-- an object of the version asked for
pub version_from_check : (m : Nodes) (f : Fid) (pre : Sid) → reason_of m (IsThere f) ≡ None → reason_of m (IsOfVersion f pre) ≡ None → version_at m f ≡ Some pre
unfolding version_at
version_from_check m f pre there h = go (map.get m f) there h
  where
    go : (o : Option Node) → no_object_of o f ≡ None → version_of o pre ≡ None → option_map (λ (node : Node). node.sid) o ≡ Some pre
    go None there h = cc
    go (Some node) there h = ap Some (same_sid_is node.sid pre (is_from_not _ (where_true_none _ _ h)))

-- where the object at a fid is of the version asked for, if there is one, the check finds nothing
pub version_passes : (v u : Nodes) (f : Fid) (pre now : Sid) → is_some (map.get v f) ≡ is_some (map.get u f) → (version_at v f ≡ Some pre → version_at u f ≡ Some now) → reason_of v (IsOfVersion f pre) ≡ None → reason_of u (IsOfVersion f now) ≡ None
unfolding version_at
version_passes v u f pre now as_much same h = go (map.get v f) (map.get u f) as_much same h
  where
    here : (node : Node) → ◌≡◌ {A = Option Sid} (Some node.sid) (Some now) → same_sid node.sid now ≡ true
    here node e = let is : node.sid ≡ now = cc in subst (λ x. same_sid node.sid x ≡ true) is (same_sid_refl node.sid)

    go : (a b : Option Node) → is_some a ≡ is_some b → (option_map (λ (node : Node). node.sid) a ≡ Some pre → option_map (λ (node : Node). node.sid) b ≡ Some now) → version_of a pre ≡ None → version_of b now ≡ None
    go a None as_much same h = refl
    go None (Some y) as_much same h = absurd (false≢true as_much)
    go (Some x) (Some y) as_much same h =
        let old : ◌≡◌ {A = Option Sid} (Some x.sid) (Some pre) = ap Some (same_sid_is x.sid pre (is_from_not _ (where_true_none _ _ h))) in
        ap (λ b. where_true (not b) (change_of y.kind now y.sid)) (here y (same old))

-- ---- the check for room

pub still_room : (m n : ℕ) → m ≤ n → full_of n ≡ None → full_of m ≡ None
still_room m n le h = let few : nat_le 100000 n ≡ false = where_true_none _ _ h in ap (λ b. where_true b (VolumeFull m)) (fewer few)
  where
    fewer : nat_le 100000 n ≡ false → nat_le 100000 m ≡ false
    fewer few = grind (arith, nat_tests)

-- ---- what a certified creation says

-- an operation that creates an object is certified only where none stands at its fid
pub fid_was_free : (m : Nodes) (f : Fid) (op : Op) → creates f op ≡ true → certify m op ≡ None → map.get m f ≡ None
fid_was_free m f op k c = kinds op k (certified_checks m op c)
  where
    free : (fid : Fid) → same_fid fid f ≡ true → reason_of m (IsFidFree fid) ≡ None → map.get m f ≡ None
    free fid e h = ap (map.get m) (sym (fid_true fid f e)) ∙ fid_free_from_check (map.get m fid) fid h

    kinds : (op : Op) → creates f op ≡ true → AllPass m (checks op) → map.get m f ≡ None
    kinds (Create dir name fid mode owner) k p = free fid k p.1.1.1.0
    kinds (Mkdir dir name fid mode owner) k p = free fid k p.1.1.1.0
    kinds (Symlink dir name fid target mode owner) k p = free fid k p.1.1.1.0
    kinds (Store fid pre content) k p = absurd (false≢true k)
    kinds (Setattr fid pre attrs) k p = absurd (false≢true k)
    kinds (Remove dir name fid pre) k p = absurd (false≢true k)
    kinds (Rmdir dir name fid pre) k p = absurd (false≢true k)
    kinds (Rename from_dir from to_dir to fid over) k p = absurd (false≢true k)
