use Rattle.std.proofs.Common.{◌≡◌, sym, ap, ◌∙◌, subst}
use Rattle.std.specs.Prelude.{IfOk}
use Rattle.coda_tree.specs.Volume.{bound}
use Rattle.coda_cache.proofs.Sized.{blocks_there, at_fid, put_blocks, put_off, bound_off}
use Rattle.coda_cache.proofs.contents.Contents.blocks_created.Goals as goal

pub returns-then-eq : goal.returns-then-eq
returns-then-eq c = λ node one. sym (put_blocks (bound c.args.self.now.nodes c.args.dir c.args.name.now c.args.new) c.args.new node c.args.fid (sym c.eq.ensures ∙ c.if-eq.true) ∙ one)

pub returns-then-eq-2 : goal.returns-then-eq-2
returns-then-eq-2 c = λ node one.
    let m = bound c.args.self.now.nodes c.args.dir c.args.name.now c.args.new in
    subst (λ k. IfOk c.blocks_with.result (λ b. b ≡ k)) (sym (put_off m c.args.new node c.args.fid (sym c.eq.ensures ∙ c.if-eq.false) ∙ at_fid m c.args.fid c.args.dir (sym c.eq-else-eq.ensures ∙ c.if-eq-2.true))) (c.blocks_with.ensures c.args.new)

pub returns-else-eq-2 : goal.returns-else-eq-2
returns-else-eq-2 c = λ node one.
    let m = bound c.args.self.now.nodes c.args.dir c.args.name.now c.args.new in
    c.blocks-else-eq-2.ensures ∙ sym (put_off m c.args.new node c.args.fid (sym c.eq.ensures ∙ c.if-eq.false) ∙ ap blocks_there (bound_off c.args.self.now.nodes c.args.dir c.args.name.now c.args.new c.args.fid (sym c.eq-else-eq.ensures ∙ c.if-eq-2.false)))
