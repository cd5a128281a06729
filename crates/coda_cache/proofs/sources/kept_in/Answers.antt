use Rattle.std.proofs.Common.{rules, ◌≡◌, ◌&&◌, ◌==◌, List, ap, ◌∙◌}
use Rattle.coda_fid.specs.declared.fid.Fid.{Fid}
use Rattle.coda_walk.specs.Going.{is_listed}
use Rattle.coda_cache.specs.Indexed.{is_kept_for}
use Rattle.coda_cache.proofs.Kept.{listed_where}
use Rattle.coda_cache.proofs.sources.kept_in.Goals as goal

pub returns-in-Ok : goal.returns-in-Ok
returns-in-Ok c = λ f.
    let there : is_listed c.in-Some.fids.now.keys f ≡ is_kept_for c.args.servers.now c.args.server f = search rules in
    ap (λ (l : List Fid). is_listed l f) c.in-Ok.ensures ∙ listed_where (λ (g : Fid). g.volume == c.args.volume) c.in-Some.fids.now.keys f ∙ ap (λ b. (f.volume == c.args.volume) && b) there
