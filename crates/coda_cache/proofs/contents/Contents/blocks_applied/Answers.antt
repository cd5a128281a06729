use Rattle.std.proofs.Common.{◌≡◌, ℕ, ◌+◌, ◌/◌, refl, sym, ap, ◌∙◌, subst}
use Rattle.std.specs.Prelude.{IfOk}
use Rattle.std.specs.FinMap as map
use Rattle.std.proofs.lemmas.Bool.{both_ways}
use Rattle.coda_fid.specs.declared.fid.Fid.{Fid}
use Rattle.coda_fid.specs.declared.op.Op.{Op}
use Rattle.coda_fid.specs.declared.op.Record.{Record}
use Rattle.coda_fid.specs.Fid.{same_fid}
use Rattle.coda_fid.specs.Name.{name_cmp}
use Rattle.coda_fid.proofs.Fids.{same_fid_is, same_fid_refl}
use Rattle.coda_tree.proofs.Changes.{off_changed}
use Rattle.coda_tree.specs.Volume.{Nodes, changed, edited_all, written, content_patch}
use Rattle.coda_certify.specs.Replay.{effects, sid_of, applied, empty_file, empty_dir, new_link}
use Rattle.coda_cache.specs.State.{blocks_in}
use Rattle.coda_cache.proofs.Sized.{blocks_there, blocks_set}
use Rattle.coda_cache.proofs.contents.Contents.blocks_applied.Goals as goal

-- the blocks of a node after an operation
abbrev blocks_by : Nodes → ℕ → Record → Fid → Op → ℕ
blocks_by m client rec q op = blocks_in (edited_all m (effects rec.time (sid_of client rec) op)) q

pub returns-in-Create : goal.returns-in-Create
unfolding applied
returns-in-Create c = λ client.
    let rec = c.args.rec.now in
    subst (λ k. IfOk c.blocks_created.result (λ b. b ≡ k)) (sym (ap (blocks_by c.args.self.now.nodes client rec c.args.fid) c.in-Create.is))
    (c.blocks_created.ensures (empty_file c.in-Create.mode c.in-Create.owner rec.time (sid_of client rec)) refl)

pub returns-in-Mkdir : goal.returns-in-Mkdir
unfolding applied
returns-in-Mkdir c = λ client.
    let rec = c.args.rec.now in
    subst (λ k. IfOk c.blocks_created-in-Mkdir.result (λ b. b ≡ k)) (sym (ap (blocks_by c.args.self.now.nodes client rec c.args.fid) c.in-Mkdir.is))
    (c.blocks_created-in-Mkdir.ensures (empty_dir c.in-Mkdir.mode c.in-Mkdir.owner rec.time (sid_of client rec)) (ap (λ n. 1 + n / 32) (map.len-empty name_cmp Fid)))

pub returns-in-Symlink : goal.returns-in-Symlink
unfolding applied
returns-in-Symlink c = λ client.
    let rec = c.args.rec.now in
    subst (λ k. IfOk c.blocks_created-in-Symlink.result (λ b. b ≡ k)) (sym (ap (blocks_by c.args.self.now.nodes client rec c.args.fid) c.in-Symlink.is))
    (c.blocks_created-in-Symlink.ensures (new_link c.in-Symlink.target c.in-Symlink.mode c.in-Symlink.owner rec.time (sid_of client rec)) refl)

pub returns-then-eq : goal.returns-then-eq
unfolding applied
returns-then-eq c = λ client.
    let rec = c.args.rec.now in
    let at = same_fid_is c.in-Store.at c.args.fid (sym c.eq.ensures ∙ c.if-eq.true) in
    subst (λ k. IfOk c.blocks_stored.result (λ b. b ≡ k))
    ((λ i. blocks_in (changed c.args.self.now.nodes (sym at i) (written (content_patch c.in-Store.content rec.time) (sid_of client rec))) c.args.fid) ∙ sym (ap (blocks_by c.args.self.now.nodes client rec c.args.fid) c.in-Store.is))
    (c.blocks_stored.ensures rec.time (sid_of client rec))

pub returns-else-eq : goal.returns-else-eq
unfolding applied
returns-else-eq c = λ client.
    let rec = c.args.rec.now in
    c.blocks-else-eq.ensures
    ∙ sym (ap (blocks_by c.args.self.now.nodes client rec c.args.fid) c.in-Store.is
    ∙ ap blocks_there (off_changed c.args.self.now.nodes c.in-Store.at (written (content_patch c.in-Store.content rec.time) (sid_of client rec)) c.args.fid
    (λ same. both_ways _ (sym c.eq.ensures ∙ c.if-eq.false) (ap (same_fid c.in-Store.at) same ∙ same_fid_refl c.in-Store.at))))

pub returns-in-Setattr : goal.returns-in-Setattr
unfolding applied
returns-in-Setattr c = λ client.
    let rec = c.args.rec.now in
    c.blocks-in-Setattr.ensures
    ∙ sym (ap (blocks_by c.args.self.now.nodes client rec c.args.fid) c.in-Setattr.is ∙ blocks_set c.args.self.now.nodes c.in-Setattr.fid c.in-Setattr.attrs (sid_of client rec) c.args.fid)

pub returns-in-Remove : goal.returns-in-Remove
unfolding applied
returns-in-Remove c = λ client.
    subst (λ k. IfOk c.blocks_removed.result (λ b. b ≡ k)) (sym (ap (blocks_by c.args.self.now.nodes client c.args.rec.now c.args.fid) c.in-Remove.is)) c.blocks_removed.ensures

pub returns-in-Rmdir : goal.returns-in-Rmdir
unfolding applied
returns-in-Rmdir c = λ client.
    subst (λ k. IfOk c.blocks_removed-in-Rmdir.result (λ b. b ≡ k)) (sym (ap (blocks_by c.args.self.now.nodes client c.args.rec.now c.args.fid) c.in-Rmdir.is)) c.blocks_removed-in-Rmdir.ensures

pub returns-in-Rename : goal.returns-in-Rename
unfolding applied
returns-in-Rename c = λ client.
    subst (λ k. IfOk c.blocks_replaced.result (λ b. b ≡ k)) (sym (ap (blocks_by c.args.self.now.nodes client c.args.rec.now c.args.fid) c.in-Rename.is)) (c.blocks_replaced.ensures c.in-Rename.fid)
