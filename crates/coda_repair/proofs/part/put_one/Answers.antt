use Rattle.std.proofs.Common.{◌∙◌, ap, sym, option_copied}
use Rattle.std.specs.FinMap as finmap
use Rattle.coda_resolve.specs.Resolution.{copies_at}
use Rattle.coda_resolve.specs.Views.{objects_in, objects_of, replicas_of}
use Rattle.coda_repair.proofs.Filling.{nothing_put, one_put}
use Rattle.coda_repair.proofs.part.put_one.Goals as goal

pub returns-in_default : goal.returns-in_default
returns-in_default c = λ fids are. nothing_put c.args.from (copies_at (replicas_of c.args.views.now)) (objects_of c.args.right.now) fids c.args.held.now c.args.fid are
    (ap (λ ps. finmap.get (objects_in ps) c.args.fid) (sym c.objects.ensures) ∙ sym c.held_in.ensures ∙ ap option_copied c.in_default.is)

pub returns : goal.returns
returns c = λ fids are. one_put c.args.from (copies_at (replicas_of c.args.views.now)) (objects_of c.args.right.now) fids c.args.held.now c.args.fid are c.insert.new.self c.in-Some.was.now c.in_ok-new.new
    (ap (λ ps. finmap.get (objects_in ps) c.args.fid) (sym c.objects.ensures) ∙ sym c.held_in.ensures ∙ ap option_copied c.in-Some.is)
    c.in_ok-new.ensures.same c.in_ok-new.ensures.wide c.in_ok-insert.ensures.updates
