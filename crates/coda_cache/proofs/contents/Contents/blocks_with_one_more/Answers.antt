use Rattle.std.proofs.Common.{rules, ◌≡◌, ◌+◌, ◌/◌, Option, Some, None, false, is_some, sym, ap, ◌∙◌, subst}
use Rattle.std.specs.Prelude.{IfOk}
use Rattle.std.specs.FinMap as map
use Rattle.coda_fid.specs.declared.fid.Fid.{Fid}
use Rattle.coda_tree.specs.Volume.{bindings, child_of}
use Rattle.coda_cache.proofs.Sized.{len_with, blocks_bound}
use Rattle.coda_cache.proofs.contents.Contents.blocks_with_one_more.Goals as goal

pub returns-in_ok-one_more-in-Some : goal.returns-in_ok-one_more-in-Some
returns-in_ok-one_more-in-Some c = λ name f free.
    let node = c.in-Some.node.now in
    let at : map.get c.args.self.now.nodes c.args.dir ≡ Some node = search rules in
    let none : map.get (bindings node.kind) name ≡ None = ap (λ o. child_of o name) (sym at) ∙ free in
    let more = len_with (bindings node.kind) name f false (sym (ap (λ (o : Option Fid). is_some o) none)) in
    subst (λ k. IfOk c.dir_blocks.result (λ b. b ≡ k)) (ap (λ n. 1 + n / 32) (c.in_ok-one_more-in-Some.ensures ∙ ap (λ n. n + 1) c.names.ensures ∙ sym more) ∙ sym (blocks_bound c.args.self.now.nodes c.args.dir name f node at)) c.dir_blocks.ensures
