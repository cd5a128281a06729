use Rattle.std.proofs.Common.{◌≡◌, None, Option, Result, OnOk, OnErr, false, ap, ◌∙◌, subst}
use Rattle.std.specs.Prelude.{Ok, Err}
use Rattle.std.specs.declared.alloc.AllocError.{AllocError}
use Rattle.coda_fid.specs.declared.fid.Fid.{Fid}
use Rattle.coda_tree.specs.declared.node.Node.{Node}
use Rattle.coda_cache.specs.State.{CacheState, is_cached}
use Rattle.coda_cache.specs.Keeping.{Agree}
use Rattle.coda_cache.specs.Steps.{put_in, without}
use Rattle.coda_cache.specs.Walking.{undone}
use Rattle.coda_cache.proofs.Walked.{put_undone, none_undone, undone_begun}
use Rattle.coda_cache.proofs.contents.Contents.begin_blank.Goals as goal

-- the node was put, or not
taken_back : (s n : CacheState) (f : Fid) (parent : Option Fid) (node : Node) (r : Result (Unit {0}) AllocError) → Agree s.nodes s.holds s.recency → is_cached s f ≡ false → OnOk r (n ≡ put_in s f parent node None) → OnErr r (n ≡ s) → without n f ≡ s
taken_back s n f parent node (Ok u) agree free ok err = ap (λ x. without x f) ok ∙ put_undone s f parent node None agree free
taken_back s n f parent node (Err e) agree free ok err = ap (λ x. without x f) err ∙ none_undone s f agree free

pub returns-clause-undone : goal.returns-clause-undone
returns-clause-undone c =
    let agree = subst (λ (s : CacheState). Agree s.nodes s.holds s.recency) c.self.view_is c.self.invariant.agree in
    ap (undone c.put.new.self) c.in_ok-push.ensures.items
    ∙ undone_begun c.args.self.now c.put.new.self c.args.noted.now.items c.args.fid (taken_back c.args.self.now c.put.new.self c.args.fid c.args.parent c.in_ok-node.node c.put.result agree c.requires c.put.ensures.ok c.put.ensures.err)
