-- What directories bind after operations and after fetches: objects of their own volume alone.
use Rattle.std.proofs.Common.{◌≡◌, ℕ, true, false, ◌||◌, Option, Some, None, refl, sym, ap, ◌∙◌, inl, inr, ◌⊎◌}
use Rattle.std.specs.List.{list_any}
use Rattle.std.specs.FinMap as map
use Rattle.std.proofs.lemmas.Bool.{or_left, or_right}
use Rattle.coda_fid.specs.Fid.{same_fid}
use Rattle.coda_fid.specs.Op.{over_fids}
use Rattle.coda_fid.specs.declared.fid.Fid.{Fid}
use Rattle.coda_fid.specs.declared.op.Op.{Op}
use Rattle.coda_fid.specs.declared.op.Op.TheVariants.{Create as CreateOp, Mkdir as MkdirOp, Symlink as SymlinkOp, Store as StoreOp, Setattr as SetattrOp, Remove as RemoveOp, Rmdir as RmdirOp, Rename as RenameOp}
use Rattle.coda_fid.specs.declared.op.Record.{Record}
use Rattle.coda_fid.proofs.Fids.{fids_total, exact_fids}
use Rattle.coda_tree.specs.declared.node.Node.{Node}
use Rattle.coda_tree.specs.Bindings.{Name}
use Rattle.coda_tree.specs.Volume.{Nodes, bindings, child, child_of, parent_of}
use Rattle.coda_tree.proofs.Order.{fid_cases, get_here, get_else}
use Rattle.coda_certify.specs.Replay.{applied}
use Rattle.coda_cancel.specs.Dropping.{mentioning}
use Rattle.coda_cancel.proofs.Keys.{fid_same}
use Rattle.coda_cell.specs.Held.{held_after_fetches}
use Rattle.coda_venus.specs.Held.{Held}
use Rattle.coda_cell.specs.Looking.{offered, fetch_of, looked}
use Rattle.coda_cell.specs.Kept.{AreWithin}
use Rattle.coda_cell.proofs.AfterOperations.{IsBoundBy, bound_before}
use Rattle.coda_cell.proofs.Offered.{offered_is}

-- the first of two that are named, and the second
first_named : (a b d f : Fid) → d ≡ a → f ≡ b → ((same_fid a d || (same_fid b d || false)) ≡ true) × ((same_fid a f || (same_fid b f || false)) ≡ true)
first_named a b d f first second =
    (or_left (same_fid a d) (same_fid b d || false) (fid_same a d (sym first)), or_right (same_fid a f) (same_fid b f || false) (or_left (same_fid b f) false (fid_same b f (sym second))))

-- an operation names what it binds, and where
pub bound_is_named : (op : Op) (dir : Fid) (name : Name) (kid : Fid) → IsBoundBy op dir name kid → (mentioning dir op ≡ true) × (mentioning kid op ≡ true)
bound_is_named (CreateOp d n f mode owner) dir name kid at = first_named d f dir kid at.0 at.2
bound_is_named (MkdirOp d n f mode owner) dir name kid at = first_named d f dir kid at.0 at.2
bound_is_named (SymlinkOp d n f target mode owner) dir name kid at = first_named d f dir kid at.0 at.2
bound_is_named (StoreOp f pre content) dir name kid at = absurd at
bound_is_named (SetattrOp f pre attrs) dir name kid at = absurd at
bound_is_named (RemoveOp d n f pre) dir name kid at = absurd at
bound_is_named (RmdirOp d n f pre) dir name kid at = absurd at
bound_is_named (RenameOp from_dir from to_dir to f over) dir name kid at =
    let rest : Fid → _ = λ x. list_any (λ g. same_fid g x) (over_fids over) in (
      or_right (same_fid from_dir dir) (same_fid to_dir dir || (same_fid f dir || rest dir)) (or_left (same_fid to_dir dir) (same_fid f dir || rest dir) (fid_same to_dir dir (sym at.0))),
      or_right (same_fid from_dir kid) (same_fid to_dir kid || (same_fid f kid || rest kid)) (or_right (same_fid to_dir kid) (same_fid f kid || rest kid) (or_left (same_fid f kid) (rest kid) (fid_same f kid (sym at.2)))),
    )

-- after an operation that names objects of one volume alone
pub within_operation : (m : Nodes) (volume client : ℕ) (rec : Record) → AreWithin m → ((fid : Fid) → mentioning fid rec.op ≡ true → fid.volume ≡ volume) → AreWithin (applied m client rec)
within_operation m volume client rec within named = λ dir kid name is. elim (bound_before m client rec dir name kid is) [
  | inl was ↦ within dir kid name was
  | inr anew ↦ (let are = bound_is_named rec.op dir name kid anew in named kid are.1 ∙ sym (named dir are.0))
]

-- after a fetch of a node that binds objects of its volume alone
pub within_fetch : (m : Nodes) (fid : Fid) (node : Node) → AreWithin m → ((name : Name) (kid : Fid) → map.get (bindings node.kind) name ≡ Some kid → kid.volume ≡ fid.volume) → AreWithin (map.insert m fid node)
within_fetch m fid node within inner = λ dir kid name is. elim (fid_cases dir fid) [
  | inl at ↦ inner name kid (sym (ap (λ d. child (map.insert m fid node) d name) at ∙ ap (λ o. child_of o name) (get_here fids_total m fid node)) ∙ is) ∙ ap (λ (f : Fid). f.volume) (sym at)
  | inr off ↦ within dir kid name (sym (ap (λ o. child_of o name) (get_else fids_total exact_fids m fid node dir off)) ∙ is)
]

-- after a look-up, where what is offered binds so
pub within_look : (offers : Option Nodes) → ((nodes : Nodes) → offers ≡ Some nodes → AreWithin nodes) → (h : Held) (fid : Fid) → AreWithin h.nodes → AreWithin (looked offers h fid).nodes
within_look offers from h fid within = by (map.get h.nodes fid) (offered offers fid) refl
  where
    by : (o offer : Option Node) → offered offers fid ≡ offer → AreWithin (held_after_fetches h (fetch_of o offer (parent_of h.nodes fid) fid)).nodes
    by (Some node) offer e = within
    by None None e = within
    by None (Some node) e = (
        let at = offered_is offers fid node e in
        within_fetch h.nodes fid node within (λ name kid is. from at.0 at.1 fid kid name (ap (λ o. child_of o name) at.2 ∙ is)))

-- what a directory binds after a look-up it bound before, or what is offered binds it
pub binds_look : (offers : Option Nodes) (h : Held) (fid dir kid : Fid) (name : Name) → child (looked offers h fid).nodes dir name ≡ Some kid
    → (child h.nodes dir name ≡ Some kid) ⊎ ((nodes : Nodes) × (offers ≡ Some nodes) × (child nodes dir name ≡ Some kid))
binds_look offers h fid dir kid name = by (map.get h.nodes fid) (offered offers fid) refl
  where
    by : (o offer : Option Node) → offered offers fid ≡ offer → child (held_after_fetches h (fetch_of o offer (parent_of h.nodes fid) fid)).nodes dir name ≡ Some kid
        → (child h.nodes dir name ≡ Some kid) ⊎ ((nodes : Nodes) × (offers ≡ Some nodes) × (child nodes dir name ≡ Some kid))
    by (Some node) offer e is = inl is
    by None None e is = inl is
    by None (Some node) e is = (
        let at = offered_is offers fid node e in
        elim (fid_cases dir fid) [
          | inl here ↦ inr (
            at.0,
            at.1,
            ap (λ d. child at.0 d name) here ∙ ap (λ o. child_of o name) at.2
                ∙ sym (ap (λ d. child (map.insert h.nodes fid node) d name) here ∙ ap (λ o. child_of o name) (get_here fids_total h.nodes fid node)) ∙ is,
          )
          | inr off ↦ inl (sym (ap (λ o. child_of o name) (get_else fids_total exact_fids h.nodes fid node dir off)) ∙ is)
        ])
