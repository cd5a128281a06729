use Rattle.std.proofs.Common.{◌≡◌, ◌+◌, ◌≤◌, ℕ, List, true, false, Some, sym, ap, subst, ◌∙◌}
use Rattle.std.proofs.lemmas.Bool.{false≢true}
use Rattle.std.specs.Prelude.{nat_lt, is_some}
use Rattle.coda_journal.specs.declared.header.Header.{Header}
use Rattle.coda_actors.specs.Clients.{client_form}
use Rattle.coda_actors.specs.Plain.{Opens as OpenDeed}
use Rattle.coda_crew.specs.Crews.{slot_at, Takes}
use Rattle.coda_crew.proofs.Lifts.{others_left}
use Rattle.coda_script.specs.declared.line.Line.TheVariants as line
use Rattle.coda_cell.specs.Refused.{AlreadyThere, CellFull}
use Rattle.coda_shelves.specs.Shelves.{client_header}
use Rattle.coda_shelves.specs.Cells.{asked}
use Rattle.coda_shelves.specs.Lines.{no_client, MakesClient, Happens}
use Rattle.coda_site.specs.Sites.{is_client_disk, is_replica_disk, IsReady}
use Rattle.coda_site.specs.Steps.{Becomes}
use Rattle.coda_site.specs.Totals.{IsCounted, IsFault, totals}
use Rattle.coda_site.specs.declared.site.Site.{Site}
use Rattle.coda_site.proofs.ClientSites.{plain_clients}
use Rattle.coda_site.proofs.Closing.{client_alone, out_over}
use Rattle.coda_site.proofs.Counting.{client_opened}
use Rattle.coda_site.proofs.MadeClients.{makes_client}
use Rattle.coda_site.proofs.Makes.{stays_becomes, unless_some, already_there, cell_full, fits_in, clients_opened, with_clients_and_areas, no_room_left, room_left, few_areas}
use Rattle.coda_site.proofs.Stages.{if_ok, said_ok}
use Rattle.coda_site.proofs.Theres.{client_made}
use Rattle.coda_site.proofs.making.make_client.Goals.{then-is_made, else-is_made}
use Rattle.coda_site.proofs.making.make_client.Goals as goal

pub returns-then-has_client-clause-does : goal.returns-then-has_client-clause-does
returns-then-has_client-clause-does g c = λ cell shows.
    let told = g.B.D.Disk.told in
    let out = g.B.Bay.out c.args.bay.now in
    let has = g.B.Bay.has c.args.bay.now in
    let n = c.args.client in
    let area = c.args.area in
    let there : is_some (asked (cell.clients n).life) ≡ true = sym (client_made told out has cell c.args.site.now shows n c.has_client.ensures.disk) ∙ sym c.has_client.ensures.there ∙ c.if-has_client.true in
    stays_becomes told out has cell (Happens cell (line.Client n c.args.blocks (Some area))) c.refuse.result (g.B.Bay.answered c.args.bay.now) c.args.site.now
    (unless_some cell (no_client cell n area) AlreadyThere (MakesClient cell n (client_header n c.args.blocks area)) c.refuse.result (already_there (is_some (asked (cell.clients n).life)) (nat_lt 512 (cell.areas + area)) there) c.refuse.ensures) shows.stands

pub returns-then-site-from-gt-MOST_AREAS-clause-does : goal.returns-then-site-from-gt-MOST_AREAS-clause-does
returns-then-site-from-gt-MOST_AREAS-clause-does g c = λ cell shows.
    let told = g.B.D.Disk.told in
    let out = g.B.Bay.out c.args.bay.now in
    let has = g.B.Bay.has c.args.bay.now in
    let n = c.args.client in
    let area = c.args.area in
    let absent : is_some (asked (cell.clients n).life) ≡ false = sym (client_made told out has cell c.args.site.now shows n c.has_client.ensures.disk) ∙ sym c.has_client.ensures.there ∙ c.if-has_client.false in
    let full : nat_lt 512 (cell.areas + area) ≡ true = no_room_left c.args.site.now.areas cell.areas area c.from.result shows.stands.areas c.from.ensures c.if-site-from-gt-MOST_AREAS.true in
    stays_becomes told out has cell (Happens cell (line.Client n c.args.blocks (Some area))) c.refuse-then-site-from-gt-MOST_AREAS.result (g.B.Bay.answered c.args.bay.now) c.args.site.now
    (unless_some cell (no_client cell n area) CellFull (MakesClient cell n (client_header n c.args.blocks area)) c.refuse-then-site-from-gt-MOST_AREAS.result
    (cell_full (is_some (asked (cell.clients n).life)) (nat_lt 512 (cell.areas + area)) absent full) c.refuse-then-site-from-gt-MOST_AREAS.ensures) shows.stands

pub returns-after-is_made-clause-ready : goal.returns-after-is_made-clause-ready
returns-after-is_made-clause-ready g c =
    let told = g.B.D.Disk.told in
    let out = g.B.Bay.out c.args.bay.now in
    let has = g.B.Bay.has c.args.bay.now in
    let out1 = g.B.Bay.out c.open.new.bay in
    let has1 = g.B.Bay.has c.open.new.bay in
    let site = c.args.site.now in
    let n = c.args.client in
    let number = c.from-number.result in
    let own : is_client_disk number ≡ true = subst (λ (m : ℕ). is_client_disk m ≡ true) (sym c.from-number.ensures) c.has_client.ensures.disk in
    let be = others_left is_replica_disk out out1 has has1 number (client_alone number own) c.in-Ok.ensures.others c.in-Ok.ensures.keeps in
    let others = out_over is_replica_disk out out1 has has1 site.replicas be c.requires.ready.replicas in
    let outs = c.in-Ok.ensures.out is_client_disk c.requires.ready.clients own in
    let owns = c.in-Ok.ensures.own c.requires.ready.clients_own in
    elim c.if-is_made.branch [
      | then-is_made w ↦ subst (IsReady told out1) (sym w.site-is) (clients_opened told out out1 site c.open.new.slots (site.areas + w.from-then-is_made.result) c.requires.ready outs owns others
          (subst (λ (a : ℕ). site.areas + a ≤ 512) (sym w.from-then-is_made.ensures) (few_areas site.areas c.args.area c.from.result c.from.ensures c.if-site-from-gt-MOST_AREAS.false)))
      | else-is_made w ↦ subst (IsReady told out1) (sym w.site-is) (clients_opened told out out1 site c.open.new.slots site.areas c.requires.ready outs owns others c.requires.ready.areas)
    ]

pub returns-after-is_made-clause-does : goal.returns-after-is_made-clause-does
returns-after-is_made-clause-does g c = λ cell shows.
    let told = g.B.D.Disk.told in
    let out = g.B.Bay.out c.args.bay.now in
    let has = g.B.Bay.has c.args.bay.now in
    let out1 = g.B.Bay.out c.open.new.bay in
    let has1 = g.B.Bay.has c.open.new.bay in
    let site = c.args.site.now in
    let n = c.args.client in
    let blocks = c.args.blocks in
    let area = c.args.area in
    let number = c.from-number.result in
    let mounting = c.in-Ok.mounting in
    let before = g.B.Bay.answered c.args.bay.now in
    let absent : is_some (asked (cell.clients n).life) ≡ false = sym (client_made told out has cell site shows n c.has_client.ensures.disk) ∙ sym c.has_client.ensures.there ∙ c.if-has_client.false in
    let room = room_left site.areas cell.areas area c.from.result shows.stands.areas c.from.ensures c.if-site-from-gt-MOST_AREAS.false in
    let fits = fits_in (is_some (asked (cell.clients n).life)) (nat_lt 512 (cell.areas + area)) absent room in
    let own : is_client_disk number ≡ true = subst (λ (m : ℕ). is_client_disk m ≡ true) (sym c.from-number.ensures) c.has_client.ensures.disk in
    let be = others_left is_replica_disk out out1 has has1 number (client_alone number own) c.in-Ok.ensures.others c.in-Ok.ensures.keeps in
    let took = c.in-Ok.ensures.step is_client_disk (plain_clients cell) shows.stands.clients own in
    let takes = subst (λ (m : ℕ). Takes (client_form told) told is_client_disk (plain_clients cell) m (OpenDeed (client_header n blocks area) mounting) out1 has1 c.open.new.slots) c.from-number.ensures
    (subst (λ (h : Header). Takes (client_form told) told is_client_disk (plain_clients cell) number (OpenDeed h mounting) out1 has1 c.open.new.slots) c.client_header-header.ensures took) in
    if_ok _ c.opened.result (λ reply e.
    let says = said_ok _ c.opened.result reply e c.opened.ensures.says in
    subst (λ (a : List (List ℕ)). Becomes told out1 has1 (Happens cell (line.Client n blocks (Some area))) reply before a c.if-is_made.site) (sym c.in-Ok.ensures.answered)
    (makes_client told out out1 has has1 cell site shows n blocks area fits c.open.new.slots be mounting reply before (slot_at c.open.new.slots number) c.if-is_made.site says takes c.in-Ok.ensures.opened
    (λ made. elim c.if-is_made.branch [
      | then-is_made w ↦ w.site-is ∙ ap (λ (a : ℕ). with_clients_and_areas site c.open.new.slots (site.areas + a)) w.from-then-is_made.ensures
      | else-is_made w ↦ absurd (false≢true (sym w.if-is_made.false ∙ c.is_made.ensures ∙ made))
    ])
    (λ unmade. elim c.if-is_made.branch [
      | then-is_made w ↦ absurd (false≢true (sym unmade ∙ sym c.is_made.ensures ∙ w.if-is_made.true))
      | else-is_made w ↦ w.site-is
    ])))

pub returns-in-Err-clause-ready : goal.returns-in-Err-clause-ready
returns-in-Err-clause-ready g c =
    let told = g.B.D.Disk.told in
    let out = g.B.Bay.out c.args.bay.now in
    let has = g.B.Bay.has c.args.bay.now in
    let out1 = g.B.Bay.out c.open.new.bay in
    let has1 = g.B.Bay.has c.open.new.bay in
    let site = c.args.site.now in
    let number = c.from-number.result in
    let own : is_client_disk number ≡ true = subst (λ (m : ℕ). is_client_disk m ≡ true) (sym c.from-number.ensures) c.has_client.ensures.disk in
    let be = others_left is_replica_disk out out1 has has1 number (client_alone number own) c.in-Err.ensures.others c.in-Err.ensures.keeps in
    clients_opened told out out1 site c.open.new.slots site.areas c.requires.ready (c.in-Err.ensures.out is_client_disk c.requires.ready.clients own) (c.in-Err.ensures.own c.requires.ready.clients_own)
    (out_over is_replica_disk out out1 has has1 site.replicas be c.requires.ready.replicas) c.requires.ready.areas

pub returns-after-is_made-clause-counts : goal.returns-after-is_made-clause-counts
returns-after-is_made-clause-counts g c =
    let told = g.B.D.Disk.told in
    let f = g.B.D.Disk.faults in
    let a = g.B.D.Disk.arms in
    let df = g.B.Bay.disk_faults c.args.bay.now in
    let da = g.B.Bay.disk_arms c.args.bay.now in
    let site = c.args.site.now in
    let df1 = g.B.Bay.disk_faults c.open.new.bay in
    let da1 = g.B.Bay.disk_arms c.open.new.bay in
    let called = c.in-Ok.ensures in
    let opened = client_opened told f a df da df1 da1 (IsFault c.opened.result) site c.from-number.result c.open.new.slots called.counts called.disk_faults called.disk_arms (record { later = called.later; cause = λ e. called.cause (c.opened.ensures.cause e); arms = called.arms }) in
    let old = totals told f a df da site in
    elim c.if-is_made.branch [
      | then-is_made w ↦ subst (λ (s : Site _). IsCounted (IsFault c.opened.result) false old (totals told f a df1 da1 s)) (sym w.site-is) opened
      | else-is_made w ↦ subst (λ (s : Site _). IsCounted (IsFault c.opened.result) false old (totals told f a df1 da1 s)) (sym w.site-is) opened
    ]
