-- A resolution log stands exactly at each directory.
use Rattle.std.proofs.Common.{◌≡◌, ℕ, Bool, true, false, cond, List, [], ◌∷◌, Option, Some, None, is_some, option_map}
use Rattle.std.proofs.Common.{refl, sym, ap, ◌∙◌, subst, inl, inr}
use Rattle.std.specs.FinMap as finmap
use Rattle.std.specs.List.{AllByRecursion}
use Rattle.std.proofs.lemmas.Bool.{true≢false}
use Rattle.coda_fid.specs.Fid.{fid_cmp}
use Rattle.coda_fid.specs.declared.fid.Fid.{Fid}
use Rattle.coda_fid.specs.declared.fid.Sid.{Sid}
use Rattle.coda_fid.proofs.Fids.{fids_total, exact_fids}
use Rattle.coda_tree.specs.declared.node.Node.{Node}
use Rattle.coda_tree.specs.declared.node.NodeKind.{NodeKind}
use Rattle.coda_tree.specs.declared.node.NodeKind.TheVariants.{File, Link, Dir}
use Rattle.coda_tree.proofs.Order.{fid_cases, get_here, get_else}
use Rattle.coda_reslog.specs.declared.change.Held.{Held}
use Rattle.coda_resolve.specs.declared.fate.Fate.{Fate}
use Rattle.coda_resolve.specs.declared.fate.Fate.TheVariants.{Same, Marked, Gone}
use Rattle.coda_resolve.specs.Copies.{Copies, first_some}
use Rattle.coda_resolve.specs.Merged.{attributes_of}
use Rattle.coda_resolve.specs.Causes.{cause}
use Rattle.coda_resolve.specs.Settling.{dominating, fate, fate_by, fate_from, settled_copy, stand_in_by}
use Rattle.coda_resolve.specs.Settled.{is_dir}
use Rattle.coda_resolve.specs.Resolution.{copies_at, fate_at, IsTakenUp}
use Rattle.coda_resolve.specs.Placement.{IsIn}
use Rattle.coda_resolve.specs.Trees.{IsInstalled, KeepsOwn, marked_there, further}
use Rattle.coda_resolve.proofs.Twice.{is_same, picked, own_dominating, leaf_same, dir_same}
use Rattle.coda_lineage.specs.Deeds.{Deed, first_by, version_by}
use Rattle.coda_lineage.specs.Lineage.{Group, held_at, new_root, AreAmong}
use Rattle.coda_lineage.specs.Repairs.{spared, spared_by, binds_one, others_of}
use Rattle.coda_plain.specs.Objects.{Objects}
use Rattle.coda_group.specs.Groups.{HasLogIfDirectory}

-- ---- of one object

abbrev pub AreRinged : Objects → Type 0
AreRinged o = (f : Fid) → HasLogIfDirectory (finmap.get o f)

first_ringed : (server : ℕ) (node : Node) (kind : NodeKind) → node.kind ≡ kind
    → HasLogIfDirectory (Some (first_by server node kind))
first_ringed server node (File content) e = sym (ap is_dir e)
first_ringed server node (Link target) e = sym (ap is_dir e)
first_ringed server node (Dir entries) e = sym (ap is_dir e)

pub some_mapped : {A B : Type 0} (g : A → B) (o : Option A) → is_some (option_map g o) ≡ is_some o
some_mapped g None = refl
some_mapped g (Some x) = refl

-- ---- a decision

pub decided_ringed : (server : ℕ) (sid : Sid) (o : Option Node) (old : Option Held) (deed : Option Deed)
    → HasLogIfDirectory old
    → ((node : Node) (was : Held) → o ≡ Some node → old ≡ Some was → is_dir node.kind ≡ is_dir was.node.kind)
    → HasLogIfDirectory (version_by server sid o old deed)
decided_ringed server sid None old deed ringed alike = tt
decided_ringed server sid (Some node) None deed ringed alike = first_ringed server node node.kind refl
decided_ringed server sid (Some node) (Some was) None ringed alike = ringed ∙ sym (alike node was refl refl)
decided_ringed server sid (Some node) (Some was) (Some deed) ringed alike =
    some_mapped _ was.ring ∙ ringed ∙ sym (alike node was refl refl)

-- ---- a resolution

fate_ringed : (copies : Copies) (look : Fid → Copies) (held : Held) → AllByRecursion HasLogIfDirectory copies
    → fate copies look ≡ Same held → HasLogIfDirectory (Some held)
fate_ringed copies look held all e = from (first_some copies) e
  where
    by_kind : (k : NodeKind) → fate_by copies look k ≡ Same held → HasLogIfDirectory (Some held)
    by_kind (File content) e =
        picked HasLogIfDirectory (dominating copies) (own_dominating copies) copies held all
        (leaf_same copies held e).1
    by_kind (Link target) e =
        picked HasLogIfDirectory (dominating copies) (own_dominating copies) copies held all
        (leaf_same copies held e).1
    by_kind (Dir entries) e = let k = dir_same copies (cause copies look) (attributes_of copies) held e in subst (λ h. HasLogIfDirectory (Some h)) k.1.1.1 refl

    from : (lowest : Option Held) → fate_from copies look lowest ≡ Same held → HasLogIfDirectory (Some held)
    from None e = absurd (true≢false (sym (ap is_same e)))
    from (Some low) e = by_kind low.node.kind e

first_all : (copies : Copies) → AllByRecursion HasLogIfDirectory copies → HasLogIfDirectory (first_some copies)
first_all [] all = tt
first_all (None ∷ copies) all = first_all copies all.1
first_all (Some held ∷ copies) all = all.0

stand_in_ringed : (low : Held) (kind : NodeKind) → low.node.kind ≡ kind → HasLogIfDirectory (Some low)
    → HasLogIfDirectory (Some (stand_in_by low kind))
stand_in_ringed low (File content) e ringed = ringed
stand_in_ringed low (Link target) e ringed = ringed
stand_in_ringed low (Dir entries) e ringed = refl

settled_ringed : (fate : Fate) (lowest copy : Option Held)
    → ((held : Held) → fate ≡ Same held → HasLogIfDirectory (Some held)) → HasLogIfDirectory lowest
    → HasLogIfDirectory copy → HasLogIfDirectory (settled_copy fate lowest copy)
settled_ringed (Same held) lowest copy same low own = same held refl
settled_ringed (Marked why) None None same low own = tt
settled_ringed (Marked why) (Some held) None same low own = stand_in_ringed held held.node.kind refl low
settled_ringed (Marked why) lowest (Some held) same low own = own
settled_ringed Gone lowest copy same low own = own

-- ---- a repair

pub spared_ringed : (subtree : Fid → Bool) (top : Fid) (o : Option Held) → HasLogIfDirectory o
    → HasLogIfDirectory (spared subtree top o)
spared_ringed subtree top None ringed = tt
spared_ringed subtree top (Some held) ringed = go held.node.kind refl
  where
    go : (kind : NodeKind) → held.node.kind ≡ kind → HasLogIfDirectory (Some (spared_by subtree top held kind))
    go (File content) e = ringed
    go (Link target) e = ringed
    go (Dir entries) e = by (binds_one subtree top entries)
      where
        by : (b : Bool) → HasLogIfDirectory (Some (cond b (record held { node = record held.node { kind = Dir (others_of subtree top entries); marked = true } }) held))
        by true = ringed ∙ ap is_dir e
        by false = ringed

-- ---- a new volume

pub new_ringed : (root : Fid) → AreRinged (finmap.insert finmap.empty root new_root)
new_ringed root f = elim (fid_cases f root) [
  | inl same ↦ subst (λ o. HasLogIfDirectory o) (sym (ap (finmap.get (finmap.insert finmap.empty root new_root)) same ∙ get_here fids_total finmap.empty root new_root)) refl
  | inr apart ↦ subst (λ o. HasLogIfDirectory o) (sym (get_else fids_total exact_fids finmap.empty root new_root f apart ∙ finmap.get-empty fid_cmp f)) tt
]

-- ---- what a resolution leaves of a replica

all_at : (group : Group) (servers : List ℕ) (f : Fid) → ((s : ℕ) → IsIn s servers → AreRinged (group.holds s))
    → (some : List ℕ) → AreAmong some servers → AllByRecursion HasLogIfDirectory (copies_at (held_at group some) f)
all_at group servers f ringed [] among = tt
all_at group servers f ringed (s ∷ some) among =
    (ringed s (among s (inl refl)) f, all_at group servers f ringed some (λ t i. among t (inr i)))

pub installed_ringed : (root : Fid) (servers : List ℕ) (before : Group) (some : List ℕ) (view after : Objects)
    → ((s : ℕ) → IsIn s servers → AreRinged (before.holds s)) → AreAmong some servers → AreRinged view
    → IsInstalled (held_at before some) root view after → AreRinged after
installed_ringed root servers before some view after ringed among own is f = go (finmap.get after f) refl
  where
    taken : (g : Fid) → IsTakenUp (held_at before some) root g → HasLogIfDirectory (finmap.get after g)
    taken g up =
        let all = all_at before servers g ringed some among in
        subst (λ c. HasLogIfDirectory c) (sym (is.taken g up))
        (settled_ringed (fate_at (held_at before some) g) (first_some (copies_at (held_at before some) g))
        (finmap.get view g)
        (λ held e. fate_ringed (copies_at (held_at before some) g) (copies_at (held_at before some)) held all e)
        (first_all (copies_at (held_at before some) g) all) (own g))

    keeps : (g : Fid) → KeepsOwn (held_at before some) root view g → HasLogIfDirectory (finmap.get after g)
    keeps g (marked_there d why up fate) = taken g up
    keeps g (further d n h k child) = subst (λ c. HasLogIfDirectory c) (sym (is.kept d n g k child)) (own g)

    go : (o : Option Held) → finmap.get after f ≡ o → HasLogIfDirectory (finmap.get after f)
    go None e = subst (λ c. HasLogIfDirectory c) (sym e) tt
    go (Some held) e = elim (is.only f (ap is_some e)) [ inl up ↦ taken f up | inr k ↦ keeps f k ]
