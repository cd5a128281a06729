use Rattle.std.proofs.Common.{Some, None, is_some, sym, ap, ◌∙◌, subst}
use Rattle.std.specs.Prelude.{Option}
use Rattle.coda_tree.specs.declared.node.Node.{Node}
use Rattle.coda_tree.specs.Volume.{IsDirAt, child}
use Rattle.coda_cache.specs.State.{CacheState}
use Rattle.coda_cache.specs.Keeping.{Agree}
use Rattle.coda_cache.specs.Steps.{without}
use Rattle.coda_cache.proofs.Beginnings.{dir_put, child_put}
use Rattle.coda_cache.proofs.Walked.{put_undone}
use Rattle.coda_cache.proofs.cache.Cache.begin_creation.Goals as goal

pub put_new-requires : goal.put_new-requires
put_new-requires c = ap (λ (o : Option Node). is_some o) c.requires.fid_free

pub bind-requires-clause-there : goal.bind-requires-clause-there
bind-requires-clause-there c =
    subst (λ (s : CacheState). IsDirAt s.nodes c.args.dir) (sym c.in_ok-put_new.ensures.ok) (dir_put c.args.self.now.nodes c.args.dir c.args.fid c.args.node c.requires.dir_there c.requires.fid_free)

pub bind-requires-clause-free : goal.bind-requires-clause-free
bind-requires-clause-free c =
    ap (λ (s : CacheState). child s.nodes c.args.dir c.in_ok-name.name) c.in_ok-put_new.ensures.ok
    ∙ child_put c.args.self.now.nodes c.args.dir c.in_ok-name.name c.args.fid c.args.node c.requires.dir_there c.requires.fid_free ∙ ap (child c.args.self.now.nodes c.args.dir) c.in_ok-name.ensures ∙ c.requires.name_free

pub returns-in-Err-clause-err : goal.returns-in-Err-clause-err
returns-in-Err-clause-err c =
    c.take_out.ensures ∙ ap (λ (s : CacheState). without s c.args.fid) (c.in-Err.ensures.err ∙ c.in_ok-put_new.ensures.ok)
    ∙ put_undone c.args.self.now c.args.fid (Some c.args.dir) c.args.node None (subst (λ (s : CacheState). Agree s.nodes s.holds s.recency) c.self.view_is c.agree.ensures) (ap (λ (o : Option Node). is_some o) c.requires.fid_free)
