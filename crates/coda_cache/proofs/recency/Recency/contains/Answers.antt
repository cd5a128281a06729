use Rattle.std.proofs.Common.{sym, ap, ◌∙◌}
use Rattle.coda_fid.specs.declared.fid.Fid.{Fid}
use Rattle.coda_walk.specs.Going.{is_listed}
use Rattle.coda_cache.proofs.Uses.{same_turned, found, listed_reversed}
use Rattle.std.specs.Prelude.{List}
use Rattle.std.specs.Map.{keys_of}
use Rattle.coda_cache.proofs.recency.Recency.contains.Goals as goal

pub returns : goal.returns
returns c = c.contains.ensures ∙ found _ c.args.fid (λ g. same_turned c.args.fid g) c.self.inside.used.entries
    ∙ sym (listed_reversed (keys_of c.self.inside.used.entries) c.args.fid) ∙ ap (λ (l : List Fid). is_listed l c.args.fid) c.self.view_is
