use Rattle.std.proofs.Common.{◌∙◌, ap}
use Rattle.std.specs.FinMap as finmap
use Rattle.coda_resolve.specs.Views.{objects_in, objects_of}
use Rattle.coda_repair.proofs.Ways.{absent_none, file_none, link_none}
use Rattle.coda_repair.proofs.lookup.child_in.Goals as goal

pub returns-in_default : goal.returns-in_default
returns-in_default c = absent_none (objects_of c.args.view.now) c.args.dir c.args.name.now c.held_in.result (c.held_in.ensures ∙ ap (λ ps. finmap.get (objects_in ps) c.args.dir) c.objects.ensures) c.in_default.is

pub returns-in-File : goal.returns-in-File
returns-in-File c = file_none (objects_of c.args.view.now) c.args.dir c.args.name.now c.held_in.result c.in-Some.held c.in-File.field-0 (c.held_in.ensures ∙ ap (λ ps. finmap.get (objects_in ps) c.args.dir) c.objects.ensures) c.in-Some.is c.in-File.is

pub returns-in-Link : goal.returns-in-Link
returns-in-Link c = link_none (objects_of c.args.view.now) c.args.dir c.args.name.now c.held_in.result c.in-Some.held c.in-Link.field-0 (c.held_in.ensures ∙ ap (λ ps. finmap.get (objects_in ps) c.args.dir) c.objects.ensures) c.in-Some.is c.in-Link.is
