use Rattle.std.proofs.Common.{rules, ◌≡◌, Some, sym, ◌∙◌}
use Rattle.std.specs.FinMap as map
use Rattle.coda_venus.proofs.Served.{is_served, isnt_served, none_served}
use Rattle.coda_venus.proofs.client.Client.serve.Goals as goal

pub returns-then-may_serve : goal.returns-then-may_serve
returns-then-may_serve c =
    let there : map.get c.args.self.now.cache.nodes c.args.fid ≡ Some c.in-Some.node.now = search rules in
    sym (is_served c.args.emulating c.args.self.now c.args.fid (sym c.may_serve.ensures ∙ c.if-may_serve.true) ∙ there)

pub returns-else-may_serve : goal.returns-else-may_serve
returns-else-may_serve c =
    sym (isnt_served c.args.emulating c.args.self.now c.args.fid (sym c.may_serve.ensures ∙ c.if-may_serve.false))

pub returns-in-None : goal.returns-in-None
returns-in-None c = sym (none_served c.args.emulating c.args.self.now c.args.fid (search rules))
