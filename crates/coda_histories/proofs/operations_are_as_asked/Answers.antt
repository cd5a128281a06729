use Rattle.std.proofs.Common.{◌≡◌, ℕ, if◌then◌else◌, Bool, true, false, List, Option, Some, None, Result, Ok, Err, sym, ap, ◌∙◌}
use Rattle.std.specs.FinMap as map
use Rattle.coda_fid.specs.Fid.{root_of}
use Rattle.coda_fid.specs.declared.fid.Fid.{Fid}
use Rattle.coda_fid.specs.declared.op.Attrs.{Attrs}
use Rattle.coda_fid.specs.declared.op.Op.{Op}
use Rattle.coda_fid.specs.declared.op.Record.{Record}
use Rattle.coda_tree.specs.Bindings.{Name}
use Rattle.coda_tree.specs.declared.node.Node.{Node}
use Rattle.coda_tree.specs.declared.node.NodeKind.{NodeKind}
use Rattle.coda_tree.specs.declared.node.NodeKind.TheVariants.{File, Link, Dir}
use Rattle.coda_venus.specs.Accepting.{sight_of, store_in, store_at, setattr_at, accept}
use Rattle.coda_venus.specs.Ask.{Asked, Store, Setattr, too_big, object_of}
use Rattle.coda_venus.specs.Code.{has_room, is_full}
use Rattle.coda_venus.specs.Keeping.{record_of, unless_full, operation_unless, operation, done_of}
use Rattle.coda_venus.specs.Looking.{resolve}
use Rattle.coda_venus.specs.State.{ClientState}
use Rattle.coda_venus.specs.declared.refused.Refused.{Refused}
use Rattle.coda_venus.specs.declared.refused.Refused.TheVariants.{JournalFull, LogFull}
use Rattle.coda_venus.proofs.Accepted.{found_then}
use Rattle.coda_histories.proofs.operations_are_as_asked.Goals as goal

full_is : (room full : Bool) (rec found : Record) → (let ok : Record → Result Record Refused = λ z. Ok z in (if room then (if full then Err JournalFull else ok rec) else Err LogFull) ≡ ok found) → rec ≡ found
full_is true true rec found h = absurd (cc)
full_is true false rec found h = cc
full_is false full rec found h = absurd (cc)

-- what acceptance makes of an ask becomes the next record at the time
made : (c : ClientState) (time volume : ℕ) (ask : Asked) (rec : Record) → operation c time volume ask ≡ Ok rec → (op : Op) × (accept (sight_of c volume) volume ask ≡ Ok op) × (record_of (c.volumes volume) time op ≡ rec)
made c time volume ask rec h = by (too_big ask) h
  where
    by : (o : Option ℕ) → operation_unless o c time volume ask ≡ Ok rec → (op : Op) × (accept (sight_of c volume) volume ask ≡ Ok op) × (record_of (c.volumes volume) time op ≡ rec)
    by (Some size) h = absurd (cc)
    by None h =
        let v = c.volumes volume in
        let a = found_then (accept (sight_of c volume) volume ask) (λ op. unless_full v (record_of v time op)) rec h in
        (a.0, a.1, full_is (has_room v (record_of v time a.0)) (is_full v) (record_of v time a.0) rec a.2)

stored_in : (kind : NodeKind) (node : Node) (fid : Fid) (content : List ℕ) (op : Op) → store_in kind fid node.sid content ≡ Ok op → object_of op ≡ fid
stored_in (File old) node fid content op h = by_op
  where
    by_op : object_of op ≡ fid
    by_op = cc
stored_in (Link target) node fid content op h = absurd (cc)
stored_in (Dir entries) node fid content op h = absurd (cc)

stored_at : (o : Option Node) (fid : Fid) (content : List ℕ) (op : Op) → store_at o fid content ≡ Ok op → object_of op ≡ fid
stored_at None fid content op h = absurd (cc)
stored_at (Some node) fid content op h = stored_in node.kind node fid content op h

changed_at : (o : Option Node) (fid : Fid) (attrs : Attrs) (op : Op) → setattr_at o fid attrs ≡ Ok op → object_of op ≡ fid
changed_at None fid attrs op h = absurd (cc)
changed_at (Some node) fid attrs op h = cc

stored : (c : ClientState) (time volume : ℕ) (path : List Name) (content : List ℕ) (rec : Record) → operation c time volume (Store path content) ≡ Ok rec → resolve c.held.nodes (root_of volume) path ≡ Ok (done_of rec).fid
unfolding accept
stored c time volume path content rec h =
    let m = made c time volume (Store path content) rec h in
    let a = found_then (resolve c.held.nodes (root_of volume) path) (λ fid. store_at (map.get c.held.nodes fid) fid content) m.0 m.1 in
    a.1 ∙ ap Ok (sym (stored_at (map.get c.held.nodes a.0) a.0 content m.0 a.2) ∙ ap (λ (r : Record). object_of r.op) m.2)

changed : (c : ClientState) (time volume : ℕ) (path : List Name) (attrs : Attrs) (rec : Record) → operation c time volume (Setattr path attrs) ≡ Ok rec → resolve c.held.nodes (root_of volume) path ≡ Ok (done_of rec).fid
unfolding accept
changed c time volume path attrs rec h =
    let m = made c time volume (Setattr path attrs) rec h in
    let a = found_then (resolve c.held.nodes (root_of volume) path) (λ fid. setattr_at (map.get c.held.nodes fid) fid attrs) m.0 m.1 in
    a.1 ∙ ap Ok (sym (changed_at (map.get c.held.nodes a.0) a.0 attrs m.0 a.2) ∙ ap (λ (r : Record). object_of r.op) m.2)

pub returns : goal.returns
returns c = record {
  numbered = λ s time volume ask rec h. (let m = made s time volume ask rec h in (sym (ap (λ (r : Record). r.time) m.2), sym (ap (λ (r : Record). r.number) m.2)));
  stored = stored;
  changed = changed;
}
