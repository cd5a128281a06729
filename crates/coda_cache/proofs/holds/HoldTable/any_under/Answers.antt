use Rattle.std.proofs.Common.{sym, ap, ◌∙◌}
use Rattle.std.specs.FinMap as map
use Rattle.coda_cache.specs.State.{Holds, parent_held}
use Rattle.coda_tree.proofs.Keyed.{get_keyed}
use Rattle.coda_cache.proofs.ParentsHeld.{one_held_under, none_held_under}
use Rattle.coda_cache.proofs.holds.HoldTable.any_under.Goals as goal

pub returns-clause-yes : goal.returns-clause-yes
returns-clause-yes c = λ yes.
    let holds = c.self.inside.holds.entries in
    let one = one_held_under holds c.args.dir c.len-count.ensures.unique (sym c.any_under.ensures ∙ yes) in
    (one.0, sym (ap (λ (m : Holds). parent_held (map.get m one.0)) c.self.view_is) ∙ ap parent_held (get_keyed holds one.0) ∙ one.1)

pub returns-clause-no : goal.returns-clause-no
returns-clause-no c = λ no f is.
    let holds = c.self.inside.holds.entries in
    none_held_under holds c.args.dir (sym c.any_under.ensures ∙ no) f (sym (ap parent_held (get_keyed holds f)) ∙ ap (λ (m : Holds). parent_held (map.get m f)) c.self.view_is ∙ is)
