use Rattle.std.proofs.Common.{rules, ◌≡◌, ◌∙◌, false}
use Rattle.std.specs.Ordering.{nat_cmp}
use Rattle.std.specs.BTreeMap.{get}
use Rattle.coda_disk.specs.Places.{has_disk}
use Rattle.coda_disk.proofs.Taken.{empty_disk}
use Rattle.coda_disk.proofs.places.MemBayBay.take.Goals as goal

pub returns-clause-taken : goal.returns-clause-taken
returns-clause-taken c = λ h.
    let none : has_disk (get nat_cmp c.args.self.now.places c.args.number) ≡ false = search rules in
    let d = c.in-Ok.disk in
    empty_disk (get nat_cmp c.args.self.now.places c.args.number) d.past d.synced.items d.calls.items none c.in-Ok.ensures.bytes.0 (c.in-Ok.ensures.bytes.1 ∙ c.new.ensures.items) c.in-Ok.ensures.bytes.2 h
