use Rattle.std.proofs.Common.{◌≡◌, List, ap, ◌∙◌, subst}
use Rattle.std.specs.Prelude.{IfOk}
use Rattle.std.specs.List.{list_any}
use Rattle.std.specs.Ordering.{eq_by_cmp}
use Rattle.std.specs.FinMap as map
use Rattle.coda_fid.specs.declared.fid.Fid.{Fid}
use Rattle.coda_fid.specs.Fid.{fid_cmp}
use Rattle.coda_walk.specs.Going.{is_listed}
use Rattle.coda_cache.specs.State.{Holds}
use Rattle.coda_cache.proofs.Hashed.{keys_rise, listed_there}
use Rattle.coda_cache.proofs.holds.HoldTable.fids.Goals as goal

pub returns : goal.returns
returns c =
    let keys = c.in_ok-set.set.keys in
    let same : (q : Fid) → list_any (eq_by_cmp fid_cmp q) keys ≡ map.contains_key c.args.self.now q = λ q. c.in_ok-set.ensures q
    ∙ ap (λ (l : List Fid). is_listed l q) (c.deref.ensures.value ∙ c.in_ok-held.ensures) ∙ listed_there c.self.inside.holds.entries q ∙ ap (λ (m : Holds). map.contains_key m q) c.self.view_is in
    subst (λ (l : List Fid). IfOk c.listed.result (λ v. v.items ≡ l)) (keys_rise c.args.self.now keys c.listed.ensures.ordered same) c.listed.ensures.fids
