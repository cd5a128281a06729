use Rattle.std.proofs.Common.{refl, sym, ap, ◌∙◌, subst}
use Rattle.std.specs.Option.{option_copied_mut, IsSome}
use Rattle.coda_crew.proofs.Counts.{counts_written}
use Rattle.coda_crew.proofs.places.take.Goals as goal

pub returns-in-Some-clause-counts : goal.returns-in-Some-clause-counts
returns-in-Some-clause-counts g c =
    let found = sym (ap option_copied_mut c.in-Some.is) ∙ c.get_mut.ensures.value in
    counts_written c.args.number c.args.slots.now (c.get_mut.follows.lender c.replace.new.dest) c.replace.new.dest (subst IsSome found refl) (c.get_mut.follows.holds c.replace.new.dest)
