-- What a client holds can be spelled, once less is held, and after an operation of its own.
use Rattle.std.proofs.Common.{◌≡◌, ℕ, Bool, true, false, cond, Option, Some, None, sym, ap, ◌∙◌}
use Rattle.std.specs.FinMap as map
use Rattle.coda_fid.specs.declared.fid.Fid.{Fid}
use Rattle.coda_fid.specs.declared.op.Record.{Record}
use Rattle.coda_fid.proofs.Fids.{exact_fids}
use Rattle.coda_tree.specs.declared.node.Node.{Node}
use Rattle.coda_tree.specs.Bindings.{Name}
use Rattle.coda_tree.specs.Volume.{Nodes, child_of}
use Rattle.coda_certify.specs.Replay.{applied}
use Rattle.coda_record.specs.Parts.{u8}
use Rattle.coda_record.specs.Spelling.{HasSpelling}
use Rattle.coda_spelling.specs.Spelled.{IsSpelled, AreSpelled}
use Rattle.coda_spelling.proofs.SpelledNodes.{after_operation}
use Rattle.coda_venus.specs.Held.{Held, parents_after, taken_out, stays, held_without, held_after_operation}

-- the nodes that stay
pub retained_spelled : (m : Nodes) (passes : Fid → Bool) → AreSpelled m → AreSpelled (map.retain_keys m passes)
retained_spelled m passes are = record {
  versions = λ fid node e. are.versions fid node (was (passes fid) (map.get m fid) node (sym (at fid) ∙ e));
  bound = λ dir fid name e. are.bound dir fid name (bound_was (passes dir) (map.get m dir) name fid (sym (ap (λ o. child_of o name) (at dir)) ∙ e));
}
  where
    at : (q : Fid) → map.get (map.retain_keys m passes) q ≡ cond (passes q) (map.get m q) None
    at q = map.get-retain_keys m passes q (λ x e. ap passes (sym (exact_fids q x e)))

    was : (b : Bool) (o : Option Node) (node : Node) → cond b o None ≡ Some node → o ≡ Some node
    was true o node e = e
    was false o node e = cc

    bound_was : (b : Bool) (o : Option Node) (name : Name) (fid : Fid) → child_of (cond b o None) name ≡ Some fid → child_of o name ≡ Some fid
    bound_was true o name fid e = e
    bound_was false o name fid e = cc

pub operation_spelled : (held : Held) (client : ℕ) (rec : Record) → AreSpelled held.nodes → HasSpelling u8 client → IsSpelled rec → AreSpelled (held_after_operation held client rec).nodes
operation_spelled held client rec are number is = by (taken_out rec.op)
  where
    all : AreSpelled (applied held.nodes client rec)
    all = after_operation held.nodes client rec are number is

    by : (gone : Option Fid) → AreSpelled (held_without gone held.parents (record { nodes = applied held.nodes client rec; parents = parents_after held.parents rec.op })).nodes
    by None = all
    by (Some gone) = retained_spelled (applied held.nodes client rec) (stays held.parents gone) all
