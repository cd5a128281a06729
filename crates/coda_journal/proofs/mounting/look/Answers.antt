use Rattle.std.proofs.Common.{ap, ◌∙◌, List, ℕ, take}
use Rattle.coda_journal.proofs.mounting.look.Goals as goal

pub returns-clause-says : goal.returns-clause-says
returns-clause-says g c = λ header same sized h.
    let kept = c.sync.ensures.kept h in
    let is = c.deref.ensures.value ∙ c.in_ok-first.ensures.bytes kept.honest ∙ ap (λ (l : List ℕ). take 64 l) kept.seen in
    c.read_heading.ensures.says header (g.D.Disk.told c.args.disk.now).seen is same sized
