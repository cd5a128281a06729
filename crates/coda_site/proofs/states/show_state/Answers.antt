use Rattle.std.proofs.Common.{◌≡◌, [], ◌∷◌, true, refl, ap, sym, ◌∙◌}
use Rattle.std.specs.Prelude.{not}
use Rattle.coda_script.specs.declared.line.Line.TheVariants as line
use Rattle.coda_script.specs.declared.reply.Reply.TheVariants as reply
use Rattle.coda_actors.specs.Clients.{client_form}
use Rattle.coda_actors.specs.Slots.{is_up}
use Rattle.coda_crew.specs.Crews.{slot_at}
use Rattle.coda_cell.specs.Steps.{on_volume, first_missing, ShowsState}
use Rattle.coda_cell.specs.Refused.{NoSuchActor}
use Rattle.coda_shelves.specs.Cells.{state_of}
use Rattle.coda_shelves.specs.Lines.{client_down, meets, DoesUp}
use Rattle.coda_site.specs.Sites.{client_at, volume_at}
use Rattle.coda_site.proofs.Becomings.{named_missing, named_there, missing_some, missing_none, missing_becomes, down_becomes, up_becomes, says}
use Rattle.coda_site.proofs.ShownStates.{state_shown}
use Rattle.coda_site.proofs.Theres.{on_volume_at, client_down_by}
use Rattle.coda_site.proofs.states.show_state.Goals as goal

pub returns-in-Some-clause-does : goal.returns-in-Some-clause-does
returns-in-Some-clause-does g c = λ cell shows.
    let told = g.B.D.Disk.told in
    let out = g.B.Bay.out c.args._bay.now in
    let has = g.B.Bay.has c.args._bay.now in
    let site = c.args.site.now in
    let names = on_volume (state_of cell) c.args.client c.args.volume in
    let said = line.ShowState c.args.client c.args.volume in
    let answer = c.in_ok-no_such_actor.field-0 in
    let missing : first_missing names ≡ _ = ap first_missing (on_volume_at told out has cell site shows c.args.client c.args.volume c.missing.ensures.disk) ∙ missing_some c.missing.result (client_at site c.args.client ∷ volume_at site c.args.volume ∷ []) c.in-Some.number c.in-Some.is c.missing.ensures.missing in
    missing_becomes told out has cell names (client_down cell c.args.client) (DoesUp cell said) answer (g.B.Bay.answered c.args._bay.now) site (NoSuchActor c.in-Some.number) missing
    (refl, says cell said answer (named_missing names (NoSuchActor c.in-Some.number) (ShowsState (meets cell said) c.args.client c.args.volume) answer missing c.in_ok-no_such_actor.ensures)) shows.stands

pub returns-then-not-is_up-clause-does : goal.returns-then-not-is_up-clause-does
returns-then-not-is_up-clause-does g c = λ cell shows.
    let told = g.B.D.Disk.told in
    let out = g.B.Bay.out c.args._bay.now in
    let has = g.B.Bay.has c.args._bay.now in
    let site = c.args.site.now in
    let names = on_volume (state_of cell) c.args.client c.args.volume in
    let said = line.ShowState c.args.client c.args.volume in
    let there = missing_none c.missing.result (client_at site c.args.client ∷ volume_at site c.args.volume ∷ []) c.in_default.is c.missing.ensures.missing in
    down_becomes told out has cell names (client_down cell c.args.client) (DoesUp cell said) c.refuse.result (g.B.Bay.answered c.args._bay.now) site
    (ap first_missing (on_volume_at told out has cell site shows c.args.client c.args.volume c.missing.ensures.disk) ∙ there)
    (client_down_by told out has cell site shows c.args.client c.from.result (volume_at site c.args.volume ∷ []) c.is_up.result c.missing.ensures.disk there c.from.ensures c.is_up.ensures ∙ ap not c.if-not-is_up.true)
    c.refuse.ensures shows.stands

pub returns-clause-does : goal.returns-clause-does
returns-clause-does g c = λ cell shows.
    let told = g.B.D.Disk.told in
    let out = g.B.Bay.out c.args._bay.now in
    let has = g.B.Bay.has c.args._bay.now in
    let site = c.args.site.now in
    let client = c.args.client in
    let volume = c.args.volume in
    let names = on_volume (state_of cell) client volume in
    let said = line.ShowState client volume in
    let answer = reply.State c.settled-state.result in
    let there = missing_none c.missing.result (client_at site client ∷ volume_at site volume ∷ []) c.in_default.is c.missing.ensures.missing in
    let all = ap first_missing (on_volume_at told out has cell site shows client volume c.missing.ensures.disk) ∙ there in
    let runs = client_down_by told out has cell site shows client c.from.result (volume_at site volume ∷ []) c.is_up.result c.missing.ensures.disk there c.from.ensures c.is_up.ensures ∙ ap not c.if-not-is_up.false in
    let up : is_up (client_form told) (slot_at site.clients client) ≡ true = ap (λ n. is_up (client_form told) (slot_at site.clients n)) (sym c.from.ensures) ∙ sym c.is_up.ensures ∙ c.if-not-is_up.false in
    let place = c.in-Some-place.place in
    let shown = state_shown told out has cell site shows client volume c.missing.ensures.disk up place (sym c.place.ensures ∙ c.in-Some-place.is) c.reach-strength.result c.reach-strength.ensures c.has_sent.result
    (λ own made. c.has_sent.ensures cell shows runs own made) c.settled-state.result c.settled-state.ensures in
    up_becomes told out has cell names (client_down cell client) (DoesUp cell said) answer (g.B.Bay.answered c.args._bay.now) site all runs
    cell (refl, says cell said answer (named_there names (ShowsState (meets cell said) client volume) answer [] all shown)) shows.stands
