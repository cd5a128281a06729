use Rattle.std.proofs.Common.{◌≡◌, [], ◌∷◌, refl, ap, ◌∙◌}
use Rattle.std.specs.Prelude.{not}
use Rattle.coda_script.specs.declared.line.Line.TheVariants as line
use Rattle.coda_script.specs.declared.reply.Reply.TheVariants.{Accepted}
use Rattle.coda_cell.specs.State.{LinkSet}
use Rattle.coda_cell.specs.Steps.{client_named, server_named, first_missing, Happens}
use Rattle.coda_cell.specs.Refused.{NoSuchActor}
use Rattle.coda_shelves.specs.Cells.{state_of, after}
use Rattle.coda_shelves.specs.Lines.{client_down, DoesUp}
use Rattle.coda_site.specs.Sites.{client_at, server_at}
use Rattle.coda_site.proofs.Becomings.{named_missing, named_there, missing_some, missing_none, missing_becomes, down_becomes, up_becomes, says, happens}
use Rattle.coda_site.proofs.Clocks.{link_set}
use Rattle.coda_site.proofs.Theres.{ends_at, client_down_by}
use Rattle.coda_site.proofs.lines.set_link.Goals as goal

pub returns-in-Some-clause-does : goal.returns-in-Some-clause-does
returns-in-Some-clause-does g c = λ cell shows.
    let told = g.B.D.Disk.told in
    let out = g.B.Bay.out c.args._bay.now in
    let has = g.B.Bay.has c.args._bay.now in
    let site = c.args.site.now in
    let names = client_named (state_of cell) c.args.client ∷ server_named (state_of cell) c.args.server ∷ [] in
    let said = line.Link c.args.client c.args.server c.args.strength in
    let reply = c.in_ok-no_such_actor.field-0 in
    let event = LinkSet c.args.client c.args.server c.args.strength in
    let missing : first_missing names ≡ _ = ap first_missing (ends_at told out has cell site shows c.args.client c.args.server c.missing_end.ensures.disk) ∙ missing_some c.missing_end.result (client_at site c.args.client ∷ server_at site c.args.server ∷ []) c.in-Some.number c.in-Some.is c.missing_end.ensures.missing in
    missing_becomes told out has cell names (client_down cell c.args.client) (DoesUp cell said) reply (g.B.Bay.answered c.args._bay.now) site (NoSuchActor c.in-Some.number) missing
    (refl, says cell said reply (named_missing names (NoSuchActor c.in-Some.number) (Happens Accepted event) reply missing c.in_ok-no_such_actor.ensures)) shows.stands

pub returns-then-not-is_up-clause-does : goal.returns-then-not-is_up-clause-does
returns-then-not-is_up-clause-does g c = λ cell shows.
    let told = g.B.D.Disk.told in
    let out = g.B.Bay.out c.args._bay.now in
    let has = g.B.Bay.has c.args._bay.now in
    let site = c.args.site.now in
    let names = client_named (state_of cell) c.args.client ∷ server_named (state_of cell) c.args.server ∷ [] in
    let said = line.Link c.args.client c.args.server c.args.strength in
    let there = missing_none c.missing_end.result (client_at site c.args.client ∷ server_at site c.args.server ∷ []) c.in_default.is c.missing_end.ensures.missing in
    down_becomes told out has cell names (client_down cell c.args.client) (DoesUp cell said) c.refuse.result (g.B.Bay.answered c.args._bay.now) site
    (ap first_missing (ends_at told out has cell site shows c.args.client c.args.server c.missing_end.ensures.disk) ∙ there)
    (client_down_by told out has cell site shows c.args.client c.from.result (server_at site c.args.server ∷ []) c.is_up.result c.missing_end.ensures.disk there c.from.ensures c.is_up.ensures ∙ ap not c.if-not-is_up.true)
    c.refuse.ensures shows.stands

pub returns-in-Ok-clause-does : goal.returns-in-Ok-clause-does
returns-in-Ok-clause-does g c = λ cell shows.
    let told = g.B.D.Disk.told in
    let out = g.B.Bay.out c.args._bay.now in
    let has = g.B.Bay.has c.args._bay.now in
    let site = c.args.site.now in
    let names = client_named (state_of cell) c.args.client ∷ server_named (state_of cell) c.args.server ∷ [] in
    let said = line.Link c.args.client c.args.server c.args.strength in
    let event = LinkSet c.args.client c.args.server c.args.strength in
    let there = missing_none c.missing_end.result (client_at site c.args.client ∷ server_at site c.args.server ∷ []) c.in_default.is c.missing_end.ensures.missing in
    let all = ap first_missing (ends_at told out has cell site shows c.args.client c.args.server c.missing_end.ensures.disk) ∙ there in
    up_becomes told out has cell names (client_down cell c.args.client) (DoesUp cell said) Accepted (g.B.Bay.answered c.args._bay.now) _ all
    (client_down_by told out has cell site shows c.args.client c.from.result (server_at site c.args.server ∷ []) c.is_up.result c.missing_end.ensures.disk there c.from.ensures c.is_up.ensures ∙ ap not c.if-not-is_up.false)
    (after cell event)
    (refl, happens cell said Accepted event tt (named_there names (Happens Accepted event) Accepted (event ∷ []) all (refl, refl)))
    (link_set told out has cell site shows.stands c.args.client c.args.server c.args.strength c.set_strength.new.net c.in-Ok.ensures.links c.in-Ok.ensures.letters c.in-Ok.ensures.posted)
