use Rattle.std.proofs.Common.{◌≡◌, Option, sym, ap, ◌∙◌, subst}
use Rattle.std.specs.Prelude.{IfOk}
use Rattle.std.specs.FinMap as map
use Rattle.coda_fid.specs.declared.op.Over.{Over}
use Rattle.coda_fid.proofs.Fids.{fids_total, same_fid_is}
use Rattle.coda_tree.specs.Volume.{unbound, edited_all}
use Rattle.coda_tree.proofs.Order.{gone_here}
use Rattle.coda_certify.specs.Replay.{rename_effects}
use Rattle.coda_cache.specs.State.{blocks_in}
use Rattle.coda_cache.proofs.Sized.{blocks_there, out_off, bound_same, unbound_same, still_unbound}
use Rattle.coda_cache.proofs.contents.Contents.blocks_replaced.Goals as goal

pub returns-then-eq : goal.returns-then-eq
returns-then-eq c = λ f.
    let m = c.args.self.now.nodes in
    let at = same_fid_is c.args.fid c.in-Some.over.fid (sym c.eq.ensures ∙ c.if-eq.true) in
    let left = map.remove m c.in-Some.over.fid in
    let none = ap (map.get left) at ∙ gone_here fids_total m c.in-Some.over.fid in
    sym (ap (λ (o : Option Over). blocks_in (edited_all m (rename_effects c.args.from_dir c.args.from.now c.args.to_dir c.args.to.now f o)) c.args.fid) c.in-Some.is
    ∙ ap blocks_there (still_unbound left c.args.from_dir c.args.from.now c.args.to_dir c.args.to.now f c.args.fid none))

pub returns-else-eq : goal.returns-else-eq
returns-else-eq c = λ f.
    let m = c.args.self.now.nodes in
    let left = map.remove m c.in-Some.over.fid in
    let same = bound_same (unbound left c.args.from_dir c.args.from.now) (unbound m c.args.from_dir c.args.from.now) c.args.to_dir c.args.to.now f c.args.fid
    (unbound_same left m c.args.from_dir c.args.from.now c.args.fid (out_off m c.in-Some.over.fid c.args.fid (sym c.eq.ensures ∙ c.if-eq.false))) in
    subst (λ k. IfOk c.blocks_moved.result (λ b. b ≡ k))
    (sym (ap (λ (o : Option Over). blocks_in (edited_all m (rename_effects c.args.from_dir c.args.from.now c.args.to_dir c.args.to.now f o)) c.args.fid) c.in-Some.is ∙ ap blocks_there same)) (c.blocks_moved.ensures f)
