use Rattle.std.proofs.Common.{rules, ◌≡◌, ◌+◌, ◌/◌, Some, sym, ap, ◌∙◌, subst}
use Rattle.std.specs.Prelude.{IfOk}
use Rattle.std.specs.FinMap as map
use Rattle.coda_cache.proofs.Sized.{blocks_bound}
use Rattle.coda_cache.proofs.contents.Contents.blocks_with.Goals as goal

pub returns-in_ok-names_with-in-Some : goal.returns-in_ok-names_with-in-Some
returns-in_ok-names_with-in-Some c = λ f.
    let at : map.get c.args.self.now.nodes c.args.dir ≡ Some c.in-Some.node.now = search rules in
    subst (λ k. IfOk c.dir_blocks.result (λ b. b ≡ k)) (ap (λ n. 1 + n / 32) (c.in_ok-names_with-in-Some.ensures f) ∙ sym (blocks_bound c.args.self.now.nodes c.args.dir c.args.name.now f c.in-Some.node.now at)) c.dir_blocks.ensures
