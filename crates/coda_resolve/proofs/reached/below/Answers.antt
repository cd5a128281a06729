use Rattle.std.proofs.Common.{◌∙◌, ap, ◌++◌, reverse, arith, rules}
use Rattle.std.proofs.lemmas.List.{append-nil}
use Rattle.coda_resolve.specs.Views.{objects_of}
use Rattle.coda_resolve.proofs.Reaching.{searched_none, searched_all}
use Rattle.coda_resolve.proofs.Stack.{no_items}
use Rattle.coda_resolve.proofs.reached.below.Goals as goal

pub loop-init : goal.loop-init
loop-init c = searched_none (objects_of c.args.view.now) c.args.starts.now c.new-seen.result (reverse c.in_ok-stack.stack.items) c.new-seen.ensures.empty (c.in_ok-stack.ensures ∙ ap (λ l. c.args.starts.now ++ reverse l) c.new.ensures.items ∙ append-nil c.args.starts.now)

pub returns-in_default : goal.returns-in_default
returns-in_default c = searched_all (objects_of c.args.view.now) c.args.starts.now c.loop.seen (reverse c.loop.stack.items) (ap (λ l. reverse l) (no_items c.loop.stack.items (grind (arith, rules)))) c.loop.invariant
