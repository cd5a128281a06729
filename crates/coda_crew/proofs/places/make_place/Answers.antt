use Rattle.std.proofs.Common.{rules, ◌≡◌, None}
use Rattle.std.specs.BTreeMap.{get}
use Rattle.std.specs.Ordering.{nat_cmp}
use Rattle.coda_crew.proofs.Counts.{counts_placed}
use Rattle.coda_crew.proofs.places.make_place.Goals as goal

pub returns-in-Ok-clause-counts : goal.returns-in-Ok-clause-counts
returns-in-Ok-clause-counts g c =
    let missing : get nat_cmp c.args.slots.now c.args.number ≡ None = search rules in
    counts_placed c.args.number c.args.slots.now c.insert.new.self missing c.in-Ok.ensures.entries c.in-Ok.ensures.updates.1
