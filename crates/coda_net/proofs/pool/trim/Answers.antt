use Rattle.std.proofs.Common.{sym, ap, ◌∙◌}
use Rattle.std.specs.Option.{option_copied_mut}
use Rattle.coda_net.proofs.Trimmed.{trimmed_set, none_trimmed}
use Rattle.coda_net.proofs.pool.trim.Goals as goal

pub returns-in-Some : goal.returns-in-Some
returns-in-Some c =
    let there = sym c.get_mut.ensures.value ∙ ap option_copied_mut c.in-Some.is in
    (c.get_mut.follows.holds c.cut.new.letter).0 ∙ rw c.cut.ensures (trimmed_set c.args.number c.args.most c.args.letters.now.entries _ there)

pub returns-in_default : goal.returns-in_default
returns-in_default c =
    let none = sym c.get_mut.ensures.value ∙ ap option_copied_mut c.in_default.is in
    ap (λ m. m.entries) c.get_mut.follows.holds-at-none ∙ sym (none_trimmed c.args.number c.args.most c.args.letters.now.entries none)
