use Rattle.std.proofs.Common.{◌≡◌, sym, ap, ◌∙◌, subst}
use Rattle.std.specs.Prelude.{IfOk}
use Rattle.coda_tree.specs.Volume.{unbound}
use Rattle.coda_cache.proofs.Sized.{blocks_there, at_fid, out_blocks, out_off, unbound_off}
use Rattle.coda_cache.proofs.contents.Contents.blocks_removed.Goals as goal

pub returns-then-eq : goal.returns-then-eq
returns-then-eq c = sym (out_blocks (unbound c.args.self.now.nodes c.args.dir c.args.name.now) c.args.old c.args.fid (sym c.eq.ensures ∙ c.if-eq.true))

pub returns-then-eq-2 : goal.returns-then-eq-2
returns-then-eq-2 c =
    let m = unbound c.args.self.now.nodes c.args.dir c.args.name.now in
    subst (λ k. IfOk c.blocks_without.result (λ b. b ≡ k)) (sym (ap blocks_there (out_off m c.args.old c.args.fid (sym c.eq.ensures ∙ c.if-eq.false)) ∙ at_fid m c.args.fid c.args.dir (sym c.eq-else-eq.ensures ∙ c.if-eq-2.true))) c.blocks_without.ensures

pub returns-else-eq-2 : goal.returns-else-eq-2
returns-else-eq-2 c =
    let m = unbound c.args.self.now.nodes c.args.dir c.args.name.now in
    c.blocks-else-eq-2.ensures ∙ sym (ap blocks_there (out_off m c.args.old c.args.fid (sym c.eq.ensures ∙ c.if-eq.false) ∙ unbound_off c.args.self.now.nodes c.args.dir c.args.name.now c.args.fid (sym c.eq-else-eq.ensures ∙ c.if-eq-2.false)))
