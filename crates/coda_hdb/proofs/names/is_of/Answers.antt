use Rattle.std.proofs.Common.{◌∙◌, ◌&&◌, sym}
use Rattle.std.proofs.lemmas.Bool.{eq-eqb}
use Rattle.coda_hdb.specs.Database.{same_path}
use Rattle.coda_hdb.proofs.Orders.{names_as_texts}
use Rattle.coda_hdb.proofs.names.is_of.Goals as goal

pub returns-then-volume-entry : goal.returns-then-volume-entry
returns-then-volume-entry c =
    let path = c.names.result.now in
    let other = c.names-then-volume-entry.result.now in
    c.are_same.ensures ∙ names_as_texts path other c.names.ensures.path c.names-then-volume-entry.ensures.path
    ∙ (λ i. same_path (c.names.ensures.same i) (c.names-then-volume-entry.ensures.same i))
    ∙ (λ i. sym (eq-eqb c.args.volume c.args.entry.now.volume c.if-volume-entry.true) i && same_path c.args.path.now c.args.entry.now.path)
