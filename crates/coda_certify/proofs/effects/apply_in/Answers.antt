use Rattle.std.proofs.Common.{subst}
use Rattle.coda_certify.proofs.Passed.{MayEdit, may_edit}
use Rattle.coda_certify.proofs.effects.apply_in.Goals as goal

pub create-requires-clause-free : goal.create-requires-clause-free
create-requires-clause-free c = subst (MayEdit c.args.draft.now.nodes) c.in-Create.is (may_edit c.args.draft.now.nodes c.args.rec.now.op c.requires)

pub create-requires-in-Mkdir-clause-free : goal.create-requires-in-Mkdir-clause-free
create-requires-in-Mkdir-clause-free c = subst (MayEdit c.args.draft.now.nodes) c.in-Mkdir.is (may_edit c.args.draft.now.nodes c.args.rec.now.op c.requires)

pub create-requires-in-Symlink-clause-free : goal.create-requires-in-Symlink-clause-free
create-requires-in-Symlink-clause-free c = subst (MayEdit c.args.draft.now.nodes) c.in-Symlink.is (may_edit c.args.draft.now.nodes c.args.rec.now.op c.requires)

pub remove-requires : goal.remove-requires
remove-requires c = subst (MayEdit c.args.draft.now.nodes) c.in-Remove.is (may_edit c.args.draft.now.nodes c.args.rec.now.op c.requires)

pub remove-requires-in-Rmdir : goal.remove-requires-in-Rmdir
remove-requires-in-Rmdir c = subst (MayEdit c.args.draft.now.nodes) c.in-Rmdir.is (may_edit c.args.draft.now.nodes c.args.rec.now.op c.requires)

pub rename-requires : goal.rename-requires
rename-requires c = subst (MayEdit c.args.draft.now.nodes) c.in-Rename.is (may_edit c.args.draft.now.nodes c.args.rec.now.op c.requires)
