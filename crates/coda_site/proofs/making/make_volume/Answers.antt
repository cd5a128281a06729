use Rattle.std.proofs.Common.{◌≡◌, ◌+◌, ◌≤◌, ◌<◌, ◌==◌, ◌∷◌, [], ℕ, List, true, false, cond, length, Some, sym, ap, subst, ◌∙◌}
use Rattle.std.proofs.lemmas.Bool.{false≢true}
use Rattle.std.specs.Prelude.{nat_lt, nat_le, ◌||◌, is_some}
use Rattle.coda_journal.specs.declared.header.Header.{Header}
use Rattle.coda_actors.specs.Plain.{Opens as OpenDeed}
use Rattle.coda_actors.specs.Replicas.{replica_form}
use Rattle.coda_actors.specs.Slots.{is_made}
use Rattle.coda_crew.specs.Crews.{slot_at, Takes, KeepsOtherSlots, FitsAll, OutAll, OwnAll}
use Rattle.coda_crew.proofs.Lifts.{others_left}
use Rattle.coda_script.specs.declared.line.Line.TheVariants as line
use Rattle.coda_script.specs.declared.reply.Reply.{Reply}
use Rattle.coda_cell.specs.Refused.{AlreadyThere, CellFull}
use Rattle.coda_shelves.specs.Shelves.{replica_header, disk_at}
use Rattle.coda_shelves.specs.Cells.{stand_of}
use Rattle.coda_shelves.specs.Lines.{no_volume, MakesVolume, Happens}
use Rattle.coda_site.specs.Makings.{SaysOpened}
use Rattle.coda_site.specs.Sites.{is_client_disk, is_replica_disk, place_in, IsReady}
use Rattle.coda_site.specs.Steps.{Becomes}
use Rattle.coda_site.specs.Totals.{Counts, IsCounted, IsFault, totals}
use Rattle.coda_site.specs.declared.site.Site.{Site}
use Rattle.coda_site.proofs.Closing.{replica_alone, out_over}
use Rattle.coda_site.proofs.Counting.{replica_opened, same_slots}
use Rattle.coda_site.proofs.MadeVolumes.{rows_counted, stands_there, IsNoted, IsAsBefore, place_back, makes_volume}
use Rattle.coda_site.proofs.Makes.{stays_becomes, unless_some, already_there, cell_full, fits_in, none_there, no_room_left, room_left, few_areas, many_volumes, full_of_areas, has_room, replica_number, volume_opened, volume_forgotten, forgotten_place, next_unmade}
use Rattle.coda_site.proofs.ReplicaSites.{with_replicas}
use Rattle.coda_site.proofs.Stages.{if_ok, said_ok}
use Rattle.coda_site.proofs.making.make_volume.Goals.{then-is_made, else-is_made, then-len-ge-MOST_VOLUMES-via-then-len-ge-MOST_VOLUMES, then-len-ge-MOST_VOLUMES-via-else-len-ge-MOST_VOLUMES+then-site-from-gt-MOST_AREAS}
use Rattle.coda_site.proofs.making.make_volume.Goals as goal

pub returns-then-contains_key-clause-does : goal.returns-then-contains_key-clause-does
returns-then-contains_key-clause-does g c = λ cell shows.
    let told = g.B.D.Disk.told in
    let out = g.B.Bay.out c.args.bay.now in
    let has = g.B.Bay.has c.args.bay.now in
    let site = c.args.site.now in
    let volume = c.args.volume in
    let server = c.args.server in
    let area = c.args.area in
    let there : is_some (stand_of cell volume) ≡ true = stands_there told out has cell site shows.stands volume ∙ sym c.if-contains_key.ensures in
    stays_becomes told out has cell (Happens cell (line.Volume volume (server ∷ []) (Some area))) c.refuse.result (g.B.Bay.answered c.args.bay.now) site
    (unless_some cell (no_volume cell volume area) AlreadyThere (MakesVolume cell volume (server ∷ []) area) c.refuse.result
    (already_there (is_some (stand_of cell volume)) (nat_le 64 (length cell.rows) || nat_lt 512 (cell.areas + area)) there) c.refuse.ensures) shows.stands

pub returns-then-len-ge-MOST_VOLUMES-clause-does : goal.returns-then-len-ge-MOST_VOLUMES-clause-does
returns-then-len-ge-MOST_VOLUMES-clause-does g c = λ cell shows.
    let told = g.B.D.Disk.told in
    let out = g.B.Bay.out c.args.bay.now in
    let has = g.B.Bay.has c.args.bay.now in
    let site = c.args.site.now in
    let volume = c.args.volume in
    let server = c.args.server in
    let area = c.args.area in
    let absent : is_some (stand_of cell volume) ≡ false = stands_there told out has cell site shows.stands volume ∙ sym c.if-contains_key.ensures in
    let many : length cell.rows ≡ c.len.result = rows_counted told out has cell site shows.stands ∙ sym site.servers.ok.0 ∙ sym c.len.ensures in
    let full : (nat_le 64 (length cell.rows) || nat_lt 512 (cell.areas + area)) ≡ true = elim c.then-len-ge-MOST_VOLUMES.branch [
      | then-len-ge-MOST_VOLUMES-via-then-len-ge-MOST_VOLUMES w ↦ many_volumes (length cell.rows) c.len.result (nat_lt 512 (cell.areas + area)) many w.if-len-ge-MOST_VOLUMES.true
      | then-len-ge-MOST_VOLUMES-via-else-len-ge-MOST_VOLUMES+then-site-from-gt-MOST_AREAS w ↦ full_of_areas (nat_le 64 (length cell.rows)) (nat_lt 512 (cell.areas + area)) (no_room_left site.areas cell.areas area w.from.result shows.stands.areas w.from.ensures w.if-site-from-gt-MOST_AREAS.true)
    ] in
    stays_becomes told out has cell (Happens cell (line.Volume volume (server ∷ []) (Some area))) c.refuse-then-len-ge-MOST_VOLUMES.result (g.B.Bay.answered c.args.bay.now) site
    (unless_some cell (no_volume cell volume area) CellFull (MakesVolume cell volume (server ∷ []) area) c.refuse-then-len-ge-MOST_VOLUMES.result
    (cell_full (is_some (stand_of cell volume)) (nat_le 64 (length cell.rows) || nat_lt 512 (cell.areas + area)) absent full) c.refuse-then-len-ge-MOST_VOLUMES.ensures) shows.stands

pub returns-after-is_made-clause-ready : goal.returns-after-is_made-clause-ready
returns-after-is_made-clause-ready g c =
    let told = g.B.D.Disk.told in
    let out = g.B.Bay.out c.args.bay.now in
    let has = g.B.Bay.has c.args.bay.now in
    let out1 = g.B.Bay.out c.open.new.bay in
    let has1 = g.B.Bay.has c.open.new.bay in
    let site = c.args.site.now in
    let ready = c.requires.ready in
    let volume = c.args.volume in
    let server = c.args.server in
    let number = c.disk_number-disk.result in
    let noted = c.note.new.site in
    let told_of = c.in_ok-note.ensures in
    let number_is : number ≡ disk_at (length site.servers.items) server = c.disk_number-disk.ensures ∙ ap (λ (m : ℕ). disk_at m server) (c.len-2.ensures ∙ site.servers.ok.0) in
    let clients : noted.clients ≡ site.clients = ap (λ s. s.clients) told_of.others in
    let replicas : noted.replicas ≡ site.replicas = ap (λ s. s.replicas) told_of.others in
    let areas : noted.areas ≡ site.areas = ap (λ s. s.areas) told_of.others in
    let own : is_replica_disk number ≡ true = subst (λ (m : ℕ). is_replica_disk m ≡ true) (sym number_is) (replica_number (length site.servers.items) server) in
    let be = others_left is_client_disk out out1 has has1 number (replica_alone number own) c.in-Ok.ensures.others c.in-Ok.ensures.keeps in
    let others = out_over is_client_disk out out1 has has1 site.clients be ready.clients in
    let outs = c.in-Ok.ensures.out is_replica_disk (subst (λ r. OutAll is_replica_disk out r) (sym replicas) ready.replicas) own in
    let owns = c.in-Ok.ensures.own (subst (λ r. OwnAll (replica_form told) r) (sym replicas) ready.replicas_own) in
    let kept : KeepsOtherSlots (disk_at (length site.servers.items) server) site.replicas c.open.new.slots = subst (λ r. KeepsOtherSlots (disk_at (length site.servers.items) server) r c.open.new.slots) replicas
    (subst (λ (m : ℕ). KeepsOtherSlots m noted.replicas c.open.new.slots) number_is c.in-Ok.ensures.slots) in
    let places : (k : ℕ) → place_in noted k ≡ cond (k == volume) (Some (record { server = server; disk = disk_at (length site.servers.items) server })) (place_in site k) =
    (λ k. told_of.places k ∙ ap (λ (m : ℕ). cond (k == volume) (Some (record { server = server; disk = m })) (place_in site k)) number_is) in
    elim c.if-is_made.branch [
      | then-is_made w ↦ subst (IsReady told out1) (sym w.site-is)
          (volume_opened told out out1 site ready c.open.new.slots volume server c.requires.server.0 c.requires.server.1 outs owns others kept noted told_of.servers places clients
          (subst (λ (m : ℕ). m < 64) (c.len.ensures ∙ site.servers.ok.0) c.if-len-ge-MOST_VOLUMES.false) (noted.areas + w.from-then-is_made.result)
          (subst (λ (a : ℕ). a + w.from-then-is_made.result ≤ 512) (sym areas) (subst (λ (a : ℕ). site.areas + a ≤ 512) (sym w.from-then-is_made.ensures) (few_areas site.areas c.args.area c.from.result c.from.ensures c.if-site-from-gt-MOST_AREAS.false))))
      | else-is_made w ↦ (
          let left = w.forget.new.site in
          let gone = w.forget.ensures in
          subst (IsReady told out1) (sym w.site-is)
          (volume_forgotten told out out1 site ready c.open.new.slots volume server c.requires.server.0 c.requires.server.1 outs owns others kept left
          (gone.servers site.servers.items server told_of.servers) (none_there (place_in site volume) (sym c.if-contains_key.ensures))
          (λ k. gone.places k ∙ forgotten_place (k == volume) (Some (record { server = server; disk = disk_at (length site.servers.items) server })) (place_in site k) (place_in noted k) (places k))
          (ap (λ s. s.clients) gone.others ∙ clients) (subst (λ (m : ℕ). is_made (slot_at c.open.new.slots m) ≡ false) number_is (sym c.is_made.ensures ∙ w.if-is_made.false)) (ap (λ s. s.replicas) gone.others) (subst (λ (a : ℕ). a ≤ 512) (sym (ap (λ s. s.areas) gone.others ∙ areas)) ready.areas)))
    ]

pub returns-after-is_made-clause-does : goal.returns-after-is_made-clause-does
returns-after-is_made-clause-does g c = λ cell shows.
    let told = g.B.D.Disk.told in
    let out = g.B.Bay.out c.args.bay.now in
    let has = g.B.Bay.has c.args.bay.now in
    let out1 = g.B.Bay.out c.open.new.bay in
    let has1 = g.B.Bay.has c.open.new.bay in
    let site = c.args.site.now in
    let volume = c.args.volume in
    let server = c.args.server in
    let area = c.args.area in
    let number = c.disk_number-disk.result in
    let mounting = c.in-Ok.mounting in
    let before = g.B.Bay.answered c.args.bay.now in
    let noted = c.note.new.site in
    let told_of = c.in_ok-note.ensures in
    let rows = rows_counted told out has cell site shows.stands in
    let disk : ℕ = disk_at (length cell.rows) server in
    let number_is : number ≡ disk = c.disk_number-disk.ensures ∙ ap (λ (m : ℕ). disk_at m server) (c.len-2.ensures ∙ site.servers.ok.0 ∙ sym rows) in
    let none = none_there (place_in site volume) (sym c.if-contains_key.ensures) in
    let gone : is_some (stand_of cell volume) ≡ false = stands_there told out has cell site shows.stands volume ∙ sym c.if-contains_key.ensures in
    let many : length cell.rows ≡ c.len.result = rows ∙ sym site.servers.ok.0 ∙ sym c.len.ensures in
    let room = has_room (length cell.rows) c.len.result (nat_lt 512 (cell.areas + area)) many c.if-len-ge-MOST_VOLUMES.false (room_left site.areas cell.areas area c.from.result shows.stands.areas c.from.ensures c.if-site-from-gt-MOST_AREAS.false) in
    let fits = fits_in (is_some (stand_of cell volume)) (nat_le 64 (length cell.rows) || nat_lt 512 (cell.areas + area)) gone room in
    let own : is_replica_disk number ≡ true = subst (λ (m : ℕ). is_replica_disk m ≡ true) (sym number_is) (replica_number (length cell.rows) server) in
    let be = others_left is_client_disk out out1 has has1 number (replica_alone number own) c.in-Ok.ensures.others c.in-Ok.ensures.keeps in
    let replicas : noted.replicas ≡ site.replicas = ap (λ s. s.replicas) told_of.others in
    let noted_places : (k : ℕ) → place_in noted k ≡ cond (k == volume) (Some (record { server = server; disk = number })) (place_in site k) = told_of.places in
    let is_noted : IsNoted site volume (record { server = server; disk = disk }) noted = record {
      servers = told_of.servers;
      places = λ k. told_of.places k ∙ ap (λ (m : ℕ). cond (k == volume) (Some (record { server = server; disk = m })) (place_in site k)) number_is;
      clock = ap (λ s. s.clock) told_of.others;
      areas = ap (λ s. s.areas) told_of.others;
      clients = ap (λ s. s.clients) told_of.others;
      net = ap (λ s. s.net) told_of.others;
    } in
    let plain = shows.stands.replicas.0 in
    let took = c.in-Ok.ensures.step is_replica_disk plain (subst (λ r. FitsAll (replica_form told) told is_replica_disk out has r plain) (sym replicas) shows.stands.replicas.2) own in
    let takes = subst (λ (m : ℕ). Takes (replica_form told) told is_replica_disk plain m (OpenDeed (replica_header volume (server ∷ []) area server) mounting) out1 has1 c.open.new.slots) number_is
    (subst (λ (h : Header). Takes (replica_form told) told is_replica_disk plain number (OpenDeed h mounting) out1 has1 c.open.new.slots) c.replica_header-header.ensures took) in
    if_ok _ c.opened.result (λ reply e.
    let says = said_ok (λ (said : Reply). SaysOpened mounting said) c.opened.result reply e c.opened.ensures.says in
    subst (λ (a : List (List ℕ)). Becomes told out1 has1 (Happens cell (line.Volume volume (server ∷ []) (Some area))) reply before a c.if-is_made.site) (sym c.in-Ok.ensures.answered)
    (makes_volume told out out1 has has1 cell site shows volume server area c.requires.server fits (none_there (stand_of cell volume) gone) c.open.new.slots be noted is_noted
    mounting reply before (slot_at c.open.new.slots number) c.if-is_made.site says takes c.in-Ok.ensures.opened
    (λ made. elim c.if-is_made.branch [
      | then-is_made w ↦ w.site-is ∙ ap (λ (a : ℕ). record noted { replicas = c.open.new.slots; areas = noted.areas + a }) w.from-then-is_made.ensures
      | else-is_made w ↦ absurd (false≢true (sym w.if-is_made.false ∙ c.is_made.ensures ∙ made))
    ])
    (λ unmade. elim c.if-is_made.branch [
      | then-is_made w ↦ absurd (false≢true (sym unmade ∙ sym c.is_made.ensures ∙ w.if-is_made.true))
      | else-is_made w ↦ (
          let back = w.forget.ensures in
          subst (IsAsBefore site c.open.new.slots) (sym w.site-is) (record {
            servers = back.servers site.servers.items server told_of.servers;
            places = λ k. back.places k ∙ forgotten_place (k == volume) (Some (record { server = server; disk = number })) (place_in site k) (place_in noted k) (noted_places k) ∙ place_back volume (place_in site) none k;
            clock = ap (λ s. s.clock) back.others ∙ ap (λ s. s.clock) told_of.others;
            areas = ap (λ s. s.areas) back.others ∙ ap (λ s. s.areas) told_of.others;
            clients = ap (λ s. s.clients) back.others ∙ ap (λ s. s.clients) told_of.others;
            replicas = ap (λ s. s.replicas) back.others;
            net = ap (λ s. s.net) back.others ∙ ap (λ s. s.net) told_of.others;
          }))
    ])))

pub returns-in-Err-clause-ready : goal.returns-in-Err-clause-ready
returns-in-Err-clause-ready g c =
    let told = g.B.D.Disk.told in
    let out = g.B.Bay.out c.args.bay.now in
    let has = g.B.Bay.has c.args.bay.now in
    let out1 = g.B.Bay.out c.open.new.bay in
    let has1 = g.B.Bay.has c.open.new.bay in
    let site = c.args.site.now in
    let ready = c.requires.ready in
    let volume = c.args.volume in
    let server = c.args.server in
    let number = c.disk_number-disk.result in
    let noted = c.note.new.site in
    let told_of = c.in_ok-note.ensures in
    let disk : ℕ = disk_at (length site.servers.items) server in
    let number_is : number ≡ disk = c.disk_number-disk.ensures ∙ ap (λ (m : ℕ). disk_at m server) (c.len-2.ensures ∙ site.servers.ok.0) in
    let clients : noted.clients ≡ site.clients = ap (λ s. s.clients) told_of.others in
    let replicas : noted.replicas ≡ site.replicas = ap (λ s. s.replicas) told_of.others in
    let areas : noted.areas ≡ site.areas = ap (λ s. s.areas) told_of.others in
    let own : is_replica_disk number ≡ true = subst (λ (m : ℕ). is_replica_disk m ≡ true) (sym number_is) (replica_number (length site.servers.items) server) in
    let be = others_left is_client_disk out out1 has has1 number (replica_alone number own) c.in-Err.ensures.others c.in-Err.ensures.keeps in
    let others = out_over is_client_disk out out1 has has1 site.clients be ready.clients in
    let outs = c.in-Err.ensures.out is_replica_disk (subst (λ r. OutAll is_replica_disk out r) (sym replicas) ready.replicas) own in
    let owns = c.in-Err.ensures.own (subst (λ r. OwnAll (replica_form told) r) (sym replicas) ready.replicas_own) in
    let kept : KeepsOtherSlots disk site.replicas c.open.new.slots = subst (λ r. KeepsOtherSlots disk r c.open.new.slots) replicas (subst (λ (m : ℕ). KeepsOtherSlots m noted.replicas c.open.new.slots) number_is c.in-Err.ensures.slots) in
    let places : (k : ℕ) → place_in noted k ≡ cond (k == volume) (Some (record { server = server; disk = disk })) (place_in site k) =
    (λ k. told_of.places k ∙ ap (λ (m : ℕ). cond (k == volume) (Some (record { server = server; disk = m })) (place_in site k)) number_is) in
    let left = c.forget-in-Err.new.site in
    let gone = c.forget-in-Err.ensures in
    let same : slot_at c.open.new.slots disk ≡ slot_at site.replicas disk = c.in-Err.ensures.slots_err disk ∙ ap (λ r. slot_at r disk) replicas in
    volume_forgotten told out out1 site ready c.open.new.slots volume server c.requires.server.0 c.requires.server.1 outs owns others kept left
    (gone.servers site.servers.items server told_of.servers) (none_there (place_in site volume) (sym c.if-contains_key.ensures))
    (λ k. gone.places k ∙ forgotten_place (k == volume) (Some (record { server = server; disk = disk })) (place_in site k) (place_in noted k) (places k))
    (ap (λ s. s.clients) gone.others ∙ clients) (ap is_made same ∙ next_unmade told out site ready server) (ap (λ s. s.replicas) gone.others) (subst (λ (a : ℕ). a ≤ 512) (sym (ap (λ s. s.areas) gone.others ∙ areas)) ready.areas)

pub returns-after-is_made-clause-counts : goal.returns-after-is_made-clause-counts
returns-after-is_made-clause-counts g c =
    let told = g.B.D.Disk.told in
    let f = g.B.D.Disk.faults in
    let a = g.B.D.Disk.arms in
    let df = g.B.Bay.disk_faults c.args.bay.now in
    let da = g.B.Bay.disk_arms c.args.bay.now in
    let site = c.args.site.now in
    let df1 = g.B.Bay.disk_faults c.open.new.bay in
    let da1 = g.B.Bay.disk_arms c.open.new.bay in
    let called = c.in-Ok.ensures in
    let noted = c.note.new.site in
    let of = c.in_ok-note.ensures in
    let over = replica_opened told f a df da df1 da1 (IsFault c.opened.result) noted c.disk_number-disk.result c.open.new.slots called.counts called.disk_faults called.disk_arms (record { later = called.later; cause = λ e. called.cause (c.opened.ensures.cause e); arms = called.arms }) in
    let left = with_replicas noted c.open.new.slots in
    let opened = subst (λ (x : Counts). IsCounted (IsFault c.opened.result) false x (totals told f a df1 da1 left)) (same_slots told f a df da noted site (ap (λ s. s.clients) of.others) (ap (λ s. s.replicas) of.others)) over in
    let old = totals told f a df da site in
    elim c.if-is_made.branch [
      | then-is_made w ↦ subst (λ (s : Site _). IsCounted (IsFault c.opened.result) false old (totals told f a df1 da1 s)) (sym w.site-is) opened
      | else-is_made w ↦ subst (λ (s : Site _). IsCounted (IsFault c.opened.result) false old (totals told f a df1 da1 s)) (sym w.site-is)
          (subst (λ (x : Counts). IsCounted (IsFault c.opened.result) false old x) (sym (same_slots told f a df1 da1 w.forget.new.site left (ap (λ s. s.clients) w.forget.ensures.others) (ap (λ s. s.replicas) w.forget.ensures.others))) opened)
    ]
