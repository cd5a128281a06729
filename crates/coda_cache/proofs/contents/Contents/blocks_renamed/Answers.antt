use Rattle.std.proofs.Common.{rules, ◌≡◌, ◌+◌, ◌/◌, Some, sym, ap, ◌∙◌, subst}
use Rattle.std.specs.Prelude.{IfOk}
use Rattle.std.specs.FinMap as map
use Rattle.coda_cache.proofs.Sized.{blocks_rebound}
use Rattle.coda_cache.proofs.contents.Contents.blocks_renamed.Goals as goal

pub returns-in_ok-names_renamed-in-Some : goal.returns-in_ok-names_renamed-in-Some
returns-in_ok-names_renamed-in-Some c = λ f.
    let at : map.get c.args.self.now.nodes c.args.dir ≡ Some c.in-Some.node.now = search rules in
    subst (λ k. IfOk c.dir_blocks.result (λ b. b ≡ k)) (ap (λ n. 1 + n / 32) (c.in_ok-names_renamed-in-Some.ensures f) ∙ sym (blocks_rebound c.args.self.now.nodes c.args.dir c.args.from.now c.args.to.now f c.in-Some.node.now at)) c.dir_blocks.ensures
