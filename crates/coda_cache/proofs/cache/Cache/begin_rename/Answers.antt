use Rattle.std.proofs.Common.{rules, sym, ap, subst, ◌∙◌, ◌≡◌, Option, Some, None}
use Rattle.coda_fid.specs.declared.op.Over.{Over}
use Rattle.coda_fid.specs.declared.op.Op.TheVariants.{Rename}
use Rattle.coda_tree.specs.Volume.{bound}
use Rattle.coda_certify.specs.Replay.{MayRename}
use Rattle.coda_cache.specs.State.{CacheState}
use Rattle.coda_cache.specs.Keeping.{Agree}
use Rattle.coda_cache.specs.Operating.{with_nodes, HasBegun}
use Rattle.coda_cache.specs.declared.begun.Begun.TheVariants.{Moving, Replacing}
use Rattle.coda_cache.proofs.Beginnings.{begun_ok, begun_with, begun_move, begun_replacing}
use Rattle.coda_cache.proofs.cache.Cache.begin_rename.Goals as goal

pub returns-in-None-clause-begun : goal.returns-in-None-clause-begun
returns-in-None-clause-begun c =
    let old = c.args.self.now in
    let new = c.begin_move.new.self in
    let rec = c.args.rec.now in
    let a = c.args in
    let none : a.over ≡ None = search rules in
    begun_with c.begin_move.result (Moving a.from_dir a.from.now a.to_dir a.to.now a.fid) (new ≡ with_nodes old (bound old.nodes a.to_dir a.to.now a.fid)) (HasBegun old new a.client rec) c.begin_move.ensures.begun c.begin_move.ensures.ok
    (λ same. subst (λ n. HasBegun old n a.client rec (Moving a.from_dir a.from.now a.to_dir a.to.now a.fid)) (sym same)
    (begun_move old a.client rec a.from_dir a.from.now a.to_dir a.to.now a.fid (c.requires.op ∙ ap (λ (o : Option Over). Rename a.from_dir a.from.now a.to_dir a.to.now a.fid o) none)
    (subst (λ (o : Option Over). MayRename old.nodes a.from_dir a.to_dir a.to.now o) none c.requires.may)))

pub returns-in-Some-clause-begun : goal.returns-in-Some-clause-begun
returns-in-Some-clause-begun c =
    let old = c.args.self.now in
    let rec = c.args.rec.now in
    let a = c.args in
    let over = c.in-Some.over in
    let some : a.over ≡ Some over = search rules in
    let agree = subst (λ (s : CacheState). Agree s.nodes s.holds s.recency) c.self.view_is c.agree.ensures in
    begun_ok c.begin_replacing.result (Replacing over.fid a.from_dir a.from.now a.to_dir a.to.now a.fid) (HasBegun old old a.client rec) c.begin_replacing.ensures
    (begun_replacing old a.client rec a.from_dir a.from.now a.to_dir a.to.now a.fid over agree (c.requires.op ∙ ap (λ (o : Option Over). Rename a.from_dir a.from.now a.to_dir a.to.now a.fid o) some)
    (subst (λ (o : Option Over). MayRename old.nodes a.from_dir a.to_dir a.to.now o) some c.requires.may))
