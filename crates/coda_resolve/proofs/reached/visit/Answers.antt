use Rattle.std.proofs.Common.{reverse, sym, ap, ◌∙◌, ◌++◌}
use Rattle.std.specs.FinMap as finmap
use Rattle.coda_resolve.specs.Copies.{bindings_of}
use Rattle.coda_resolve.specs.Views.{objects_in, objects_of}
use Rattle.coda_resolve.proofs.Reaching.{visited_again, visited_first}
use Rattle.coda_resolve.proofs.reached.visit.Goals as goal

pub returns-then-not-branch : goal.returns-then-not-branch
returns-then-not-branch c = λ starts search. visited_again (objects_of c.args.view.now) starts c.args.seen.now c.insert.new.self c.args.fid (reverse c.args.stack.items) search c.in_ok-insert.ensures.updates (sym c.in_ok-insert.ensures.added ∙ c.if-not-branch.true)

pub returns : goal.returns
returns c = λ starts search. visited_first (objects_of c.args.view.now) starts c.args.seen.now c.insert.new.self c.args.fid (reverse c.args.stack.items) search c.in_ok-insert.ensures.updates (reverse c.in_ok-stack.stack.items) (c.in_ok-stack.ensures ∙ ap (λ copy. finmap.values (bindings_of copy) ++ reverse c.args.stack.items) (c.held_in.ensures ∙ ap (λ ps. finmap.get (objects_in ps) c.args.fid) c.objects.ensures))
