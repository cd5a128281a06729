use Rattle.std.proofs.Common.{◌∙◌, ◌++◌, sym, ap}
use Rattle.std.proofs.lemmas.List.{append-nil}
use Rattle.std.specs.Map.Iter.{deref}
use Rattle.std.proofs.lemmas.Map.Iter.{rest_all}
use Rattle.coda_fid.specs.declared.fid.Fid.{Fid}
use Rattle.coda_repair.proofs.Changed.{listed_same}
use Rattle.coda_repair.proofs.reach.listed.Goals as goal

pub returns : goal.returns
returns c = listed_same c.args.set.now c.loop-fid.fids.items (sym (append-nil c.loop-fid.fids.items) ∙ ap (λ rest. c.loop-fid.fids.items ++ rest) (sym (rest_all (deref {X = Fid}) c.loop-fid.fid-iterator c.next.new.self c.next.result c.in-None.is c.next.ensures.steps)) ∙ c.loop-fid.invariant)
