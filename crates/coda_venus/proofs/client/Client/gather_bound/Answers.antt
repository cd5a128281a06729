use Rattle.std.proofs.Common.{rules, ◌≡◌, Some, None, ap, ◌∙◌}
use Rattle.std.specs.FinMap as map
use Rattle.coda_tree.specs.Volume.{bindings}
use Rattle.coda_venus.specs.Reaching.{bound_by}
use Rattle.coda_venus.proofs.Reached.{gather_nothing}
use Rattle.coda_venus.proofs.client.Client.gather_bound.Goals as goal

pub returns-in-File : goal.returns-in-File
returns-in-File c =
    let there : map.get c.args.self.now.cache.nodes c.args.dir ≡ Some c.in-Some.node.now = search rules in
    gather_nothing c.args.self.now.cache.nodes c.args.met.now.keys (bound_by (map.get c.args.self.now.cache.nodes c.args.dir)) (ap bound_by there ∙ ap bindings c.in-File.is)

pub returns-in-Link : goal.returns-in-Link
returns-in-Link c =
    let there : map.get c.args.self.now.cache.nodes c.args.dir ≡ Some c.in-Some.node.now = search rules in
    gather_nothing c.args.self.now.cache.nodes c.args.met.now.keys (bound_by (map.get c.args.self.now.cache.nodes c.args.dir)) (ap bound_by there ∙ ap bindings c.in-Link.is)

pub returns-in-None : goal.returns-in-None
returns-in-None c =
    let none : map.get c.args.self.now.cache.nodes c.args.dir ≡ None = search rules in
    gather_nothing c.args.self.now.cache.nodes c.args.met.now.keys (bound_by (map.get c.args.self.now.cache.nodes c.args.dir)) (ap bound_by none)
