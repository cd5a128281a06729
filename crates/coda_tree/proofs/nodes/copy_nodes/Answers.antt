use Rattle.std.proofs.Common.{List, sym, ap, ◌∙◌, rules}
use Rattle.std.specs.FinMap as map
use Rattle.std.specs.HashMap as hash
use Rattle.coda_fid.specs.Fid.{fid_cmp, same_fid}
use Rattle.coda_fid.specs.declared.fid.Fid.{Fid}
use Rattle.coda_tree.specs.declared.node.Node.{Node}
use Rattle.coda_tree.specs.Volume.{Nodes}
use Rattle.coda_tree.specs.Table.{or_else}
use Rattle.coda_tree.proofs.Keyed.{kept_at, or_none, copy_step, copied}
use Rattle.coda_tree.proofs.nodes.copy_nodes.Goals as goal

pub loop-fid-preserved : goal.loop-fid-preserved
loop-fid-preserved c =
    let fid = c.in-Some.fid.now in
    let step = copy_step (λ (q : Fid). hash.get same_fid c.args.nodes.now q) c.loop-fid.copy c.put.new.self c.loop-fid.fid-iterator c.next.new.self fid c.in-Some.node.now (search rules)
    (c.in_ok-put.ensures.ok ∙ ap (λ (node : Node). map.insert c.loop-fid.copy fid node) c.in_ok-node.ensures) c.loop-fid.invariant.distinct c.loop-fid.invariant.same in
    record { distinct = step.0; same = step.1 }

pub loop-fid-init : goal.loop-fid-init
loop-fid-init c =
    let given = c.into_iter-fid-iterator.ensures.into_iter_gives in
    record {
      distinct = search rules;
      same = λ q. ap (λ (l : List (Fid × Node)). kept_at l q) (sym given.0)
          ∙ sym (ap (or_else (kept_at c.into_iter-fid-iterator.result q)) (ap (λ (m : Nodes). map.get m q) c.new-copy.ensures ∙ map.get-empty fid_cmp q) ∙ or_none (kept_at c.into_iter-fid-iterator.result q));
    }

pub returns : goal.returns
returns c = copied c.args.nodes.now.entries c.loop-fid.copy (λ q. c.loop-fid.invariant.same q ∙ ap (λ (l : List (Fid × Node)). or_else (kept_at l q) (map.get c.loop-fid.copy q)) c.in-None.ensures.steps.0)
