use Rattle.std.proofs.Common.{rules, ◌≡◌, Some, sym, ap, ◌∙◌, subst}
use Rattle.std.specs.Prelude.{IfOk}
use Rattle.std.specs.FinMap as map
use Rattle.coda_tree.specs.declared.node.NodeKind.{NodeKind}
use Rattle.coda_tree.specs.Blocks.{blocks_of}
use Rattle.coda_tree.specs.Volume.{with_content}
use Rattle.coda_cache.proofs.Sized.{blocks_there, blocks_written}
use Rattle.coda_cache.proofs.contents.Contents.blocks_stored.Goals as goal

pub returns-in-File : goal.returns-in-File
returns-in-File c = λ time sid.
    let at : map.get c.args.self.now.nodes c.args.fid ≡ Some c.in-Some.node.now = search rules in
    let kind = ap (λ (k : NodeKind). blocks_of (with_content (Some c.args.content.now) k)) c.in-File.is in
    subst (λ k. IfOk c.file_blocks.result (λ b. b ≡ k)) (sym (blocks_written c.args.self.now.nodes c.args.fid c.args.content.now time sid c.in-Some.node.now at ∙ kind)) c.file_blocks.ensures

pub returns-in-Link : goal.returns-in-Link
returns-in-Link c = λ time sid.
    let at : map.get c.args.self.now.nodes c.args.fid ≡ Some c.in-Some.node.now = search rules in
    let kind = ap (λ (k : NodeKind). blocks_of (with_content (Some c.args.content.now) k)) c.in-Link.is in
    c.blocks-in-Link.ensures ∙ ap blocks_there at ∙ ap blocks_of c.in-Link.is ∙ sym (blocks_written c.args.self.now.nodes c.args.fid c.args.content.now time sid c.in-Some.node.now at ∙ kind)

pub returns-in-Dir : goal.returns-in-Dir
returns-in-Dir c = λ time sid.
    let at : map.get c.args.self.now.nodes c.args.fid ≡ Some c.in-Some.node.now = search rules in
    let kind = ap (λ (k : NodeKind). blocks_of (with_content (Some c.args.content.now) k)) c.in-Dir.is in
    c.blocks-in-Dir.ensures ∙ ap blocks_there at ∙ ap blocks_of c.in-Dir.is ∙ sym (blocks_written c.args.self.now.nodes c.args.fid c.args.content.now time sid c.in-Some.node.now at ∙ kind)
