use Rattle.std.proofs.Common.{rules, ◌≡◌, true}
use Rattle.coda_tree.specs.Volume.{has}
use Rattle.coda_venus.proofs.Reached.{meets}
use Rattle.coda_venus.proofs.client.Client.meet.Goals as goal

pub returns-in_ok-insert : goal.returns-in_ok-insert
returns-in_ok-insert c =
    let held : has c.args.self.now.cache.nodes c.args.fid ≡ true = search rules in
    meets c.args.self.now.cache.nodes c.args.met.now.keys c.args.fid c.insert.new.self.keys held c.in_ok-insert.ensures.keys
