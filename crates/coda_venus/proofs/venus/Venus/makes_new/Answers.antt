use Rattle.std.proofs.Common.{rules, ◌≡◌, true}
use Rattle.coda_venus.specs.Caching.{serves}
use Rattle.coda_venus.specs.Making.{makes_new}
use Rattle.coda_venus.proofs.BegunWhole.{begins_whole}
use Rattle.coda_venus.proofs.venus.Venus.makes_new.Goals as goal

pub returns-then-created_by-eq0-clause-begin : goal.returns-then-created_by-eq0-clause-begin
returns-then-created_by-eq0-clause-begin g c = λ emulating is may.
    let client = c.args.self.now.client in
    let new : makes_new client.cache.nodes c.args.op.now ≡ true = search rules in
    begins_whole client.cache.nodes (serves emulating client) c.args.op.now new may

pub returns-else-created_by-eq0-clause-begin : goal.returns-else-created_by-eq0-clause-begin
returns-else-created_by-eq0-clause-begin g c = λ emulating is may.
    let client = c.args.self.now.client in
    let new : makes_new client.cache.nodes c.args.op.now ≡ true = search (rules, is) in
    begins_whole client.cache.nodes (serves emulating client) c.args.op.now new may
