use Rattle.std.proofs.Common.{rules, ◌≡◌, ◌+◌, ◌/◌, Some, sym, ap, ◌∙◌, subst}
use Rattle.std.specs.Prelude.{IfOk}
use Rattle.std.specs.FinMap as map
use Rattle.coda_cache.proofs.Sized.{blocks_unbound}
use Rattle.coda_cache.proofs.contents.Contents.blocks_without.Goals as goal

pub returns-in-Some : goal.returns-in-Some
returns-in-Some c =
    let at : map.get c.args.self.now.nodes c.args.dir ≡ Some c.in-Some.node.now = search rules in
    subst (λ k. IfOk c.dir_blocks.result (λ b. b ≡ k)) (ap (λ n. 1 + n / 32) c.names_without.ensures ∙ sym (blocks_unbound c.args.self.now.nodes c.args.dir c.args.name.now c.in-Some.node.now at)) c.dir_blocks.ensures
