use Rattle.std.proofs.Common.{◌≡◌, true, false, Some, None, is_some, sym, ap, ◌∙◌}
use Rattle.std.proofs.lemmas.Bool.{false≢true}
use Rattle.std.specs.Ordering.{nat_cmp}
use Rattle.std.specs.BTreeMap as tree
use Rattle.std.specs.FinMap as map
use Rattle.coda_replica.specs.State.{Lasts, put_back}
use Rattle.coda_replica.proofs.Keyed.{get_keyed, keyed_put, keyed_taken_out}
use Rattle.coda_replica.proofs.PutBack.{surely}
use Rattle.coda_replica.proofs.lasts.LastTable.put_back.Goals as goal

pub returns-in-Some : goal.returns-in-Some
returns-in-Some c =
    let entries = c.self.inside.lasts.entries in
    let updates = surely c.insert.result (tree.Updates nat_cmp c.self.inside.lasts c.insert.new.self c.args.client (Some c.in-Some.last)) (tree.get nat_cmp c.self.inside.lasts c.args.client ≡ None)
    c.insert.ensures.updates c.insert.ensures.absent
    (λ none. let missing : false ≡ true = sym (ap is_some (ap (λ (m : Lasts). map.get m c.args.client) (sym c.self.view_is) ∙ get_keyed entries c.args.client ∙ none)) ∙ c.requires in false≢true missing) in
    keyed_put entries c.insert.new.self.entries c.args.client c.in-Some.last updates.0 ∙ ap (λ (m : Lasts). map.insert m c.args.client c.in-Some.last) c.self.view_is
    ∙ ap (put_back c.args.self.now c.args.client) (sym c.in-Some.is)

pub returns-in-None : goal.returns-in-None
returns-in-None c =
    keyed_taken_out c.self.inside.lasts.entries c.remove.new.self.entries c.args.client c.remove.ensures.updates.0 ∙ ap (λ (m : Lasts). map.remove m c.args.client) c.self.view_is
    ∙ ap (put_back c.args.self.now c.args.client) (sym c.in-None.is)
