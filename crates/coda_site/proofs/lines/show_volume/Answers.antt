use Rattle.std.proofs.Common.{◌≡◌, [], ◌∷◌, Some, refl, sym, ap, ◌∙◌}
use Rattle.std.specs.Prelude.{not}
use Rattle.coda_script.specs.declared.line.Line.TheVariants as line
use Rattle.coda_script.specs.declared.reply.Reply.TheVariants as reply
use Rattle.coda_cell.specs.Refusing.{refusal}
use Rattle.coda_cell.specs.Steps.{holder_named, first_missing, Says}
use Rattle.coda_cell.specs.Refused.{NoSuchActor}
use Rattle.coda_shelves.specs.Cells.{state_of}
use Rattle.coda_shelves.specs.Lines.{replica_down, DoesUp}
use Rattle.coda_site.proofs.Becomings.{named_missing, named_there, missing_becomes, down_becomes, up_becomes, says}
use Rattle.coda_site.proofs.Theres.{holder_at_place, made_elsewhere, not_made, replica_down_at}
use Rattle.coda_site.proofs.lines.show_volume.Goals.{in_default-via-in-Some+else-place-server, in_default-via-in_default}
use Rattle.coda_site.proofs.lines.show_volume.Goals as goal

pub returns-then-not-is_up-clause-does : goal.returns-then-not-is_up-clause-does
returns-then-not-is_up-clause-does g c = λ cell shows.
    let told = g.B.D.Disk.told in
    let out = g.B.Bay.out c.args._bay.now in
    let has = g.B.Bay.has c.args._bay.now in
    let site = c.args.site.now in
    let names = holder_named (state_of cell) c.args.server c.args.volume ∷ [] in
    let said = line.ShowVolume c.args.server c.args.volume in
    let placed = sym c.place.ensures ∙ c.in-Some.is in
    down_becomes told out has cell names (replica_down cell c.args.server c.args.volume) (DoesUp cell said) c.refuse.result (g.B.Bay.answered c.args._bay.now) site
    (holder_at_place told out has cell site shows c.args.server c.args.volume c.in-Some.place placed c.if-place-server.true)
    (replica_down_at told out has cell site shows c.args.server c.args.volume c.in-Some.place placed c.if-place-server.true ∙ ap not (sym c.is_up.ensures ∙ c.if-not-is_up.true))
    c.refuse.ensures shows.stands

pub returns-else-not-is_up-clause-does : goal.returns-else-not-is_up-clause-does
returns-else-not-is_up-clause-does g c = λ cell shows.
    let told = g.B.D.Disk.told in
    let out = g.B.Bay.out c.args._bay.now in
    let has = g.B.Bay.has c.args._bay.now in
    let site = c.args.site.now in
    let names = holder_named (state_of cell) c.args.server c.args.volume ∷ [] in
    let said = line.ShowVolume c.args.server c.args.volume in
    let answer = reply.ShowVolume c.args.server c.args.volume in
    let placed = sym c.place.ensures ∙ c.in-Some.is in
    let all = holder_at_place told out has cell site shows c.args.server c.args.volume c.in-Some.place placed c.if-place-server.true in
    up_becomes told out has cell names (replica_down cell c.args.server c.args.volume) (DoesUp cell said) answer (g.B.Bay.answered c.args._bay.now) site all
    (replica_down_at told out has cell site shows c.args.server c.args.volume c.in-Some.place placed c.if-place-server.true ∙ ap not (sym c.is_up.ensures ∙ c.if-not-is_up.false))
    cell (refl, says cell said answer (named_there names (Says answer) answer [] all (refl, refl))) shows.stands

pub returns-in_ok-no_such_actor-in_default-clause-does : goal.returns-in_ok-no_such_actor-in_default-clause-does
returns-in_ok-no_such_actor-in_default-clause-does g c = λ cell shows.
    let told = g.B.D.Disk.told in
    let out = g.B.Bay.out c.args._bay.now in
    let has = g.B.Bay.has c.args._bay.now in
    let site = c.args.site.now in
    let server = c.args.server in
    let volume = c.args.volume in
    let names = holder_named (state_of cell) server volume ∷ [] in
    let said = line.ShowVolume server volume in
    let answer = c.in_ok-no_such_actor-in_default.field-0 in
    let missing : first_missing names ≡ Some (NoSuchActor server) = elim c.in_default.branch [
      | in_default-via-in-Some+else-place-server w ↦ made_elsewhere told out has cell site shows server volume w.in-Some.place (sym c.place.ensures ∙ w.in-Some.is) w.if-place-server.false
      | in_default-via-in_default w ↦ not_made told out has cell site shows server volume (sym c.place.ensures ∙ w.in_default.is)
    ] in
    missing_becomes told out has cell names (replica_down cell server volume) (DoesUp cell said) answer (g.B.Bay.answered c.args._bay.now) site (NoSuchActor server) missing
    (refl, says cell said answer (named_missing names (NoSuchActor server) (Says (reply.ShowVolume server volume)) answer missing (c.in_ok-no_such_actor-in_default.ensures ∙ ap (λ n. refusal (NoSuchActor n)) c.from.ensures))) shows.stands
