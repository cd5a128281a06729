use Rattle.std.proofs.Common.{◌≡◌, sym, ap, ◌∙◌, subst}
use Rattle.std.specs.Prelude.{IfOk}
use Rattle.coda_fid.proofs.Fids.{same_fid_is}
use Rattle.coda_tree.specs.Volume.{bound, unbound}
use Rattle.coda_cache.specs.State.{blocks_in}
use Rattle.coda_cache.proofs.Sized.{blocks_there, bound_off, unbound_off, bound_same}
use Rattle.coda_cache.proofs.contents.Contents.blocks_moved.Goals as goal

pub returns-then-eq-2 : goal.returns-then-eq-2
returns-then-eq-2 c = λ f.
    let m = c.args.self.now.nodes in
    let from = same_fid_is c.args.fid c.args.from_dir (sym c.eq.ensures ∙ c.if-eq.true) in
    let to = same_fid_is c.args.fid c.args.to_dir (sym c.eq-then-eq.ensures ∙ c.if-eq-2.true) in
    subst (λ k. IfOk c.blocks_renamed.result (λ b. b ≡ k)) (λ i. blocks_in (bound (unbound m (from i) c.args.from.now) (to i) c.args.to.now f) c.args.fid) (c.blocks_renamed.ensures f)

pub returns-else-eq-2 : goal.returns-else-eq-2
returns-else-eq-2 c = λ f.
    let m = c.args.self.now.nodes in
    let from = same_fid_is c.args.fid c.args.from_dir (sym c.eq.ensures ∙ c.if-eq.true) in
    subst (λ k. IfOk c.blocks_without.result (λ b. b ≡ k)) ((λ i. blocks_in (unbound m (from i) c.args.from.now) c.args.fid) ∙ sym (ap blocks_there (bound_off (unbound m c.args.from_dir c.args.from.now) c.args.to_dir c.args.to.now f c.args.fid (sym c.eq-then-eq.ensures ∙ c.if-eq-2.false)))) c.blocks_without.ensures

pub returns-then-eq-3 : goal.returns-then-eq-3
returns-then-eq-3 c = λ f.
    let m = c.args.self.now.nodes in
    let to = same_fid_is c.args.fid c.args.to_dir (sym c.eq-else-eq.ensures ∙ c.if-eq-3.true) in
    subst (λ k. IfOk c.blocks_with.result (λ b. b ≡ k)) ((λ i. blocks_in (bound m (to i) c.args.to.now f) c.args.fid)
    ∙ sym (ap blocks_there (bound_same (unbound m c.args.from_dir c.args.from.now) m c.args.to_dir c.args.to.now f c.args.fid (unbound_off m c.args.from_dir c.args.from.now c.args.fid (sym c.eq.ensures ∙ c.if-eq.false))))) (c.blocks_with.ensures f)

pub returns-else-eq-3 : goal.returns-else-eq-3
returns-else-eq-3 c = λ f.
    let m = c.args.self.now.nodes in
    c.blocks-else-eq-3.ensures ∙ sym (ap blocks_there (bound_off (unbound m c.args.from_dir c.args.from.now) c.args.to_dir c.args.to.now f c.args.fid (sym c.eq-else-eq.ensures ∙ c.if-eq-3.false) ∙ unbound_off m c.args.from_dir c.args.from.now c.args.fid (sym c.eq.ensures ∙ c.if-eq.false)))
