use Rattle.std.proofs.Common.{rules, ◌≡◌, ◌∷◌, [], ℕ, List, Ok, Some, true, subst}
use Rattle.std.proofs.lemmas.Result.{IfOk-weaker}
use Rattle.coda_script.specs.declared.line.Line.TheVariants as line
use Rattle.coda_script.specs.declared.reply.Reply.{Reply}
use Rattle.coda_cell.specs.Steps.{alone}
use Rattle.coda_shelves.specs.Shelves.{client_header}
use Rattle.coda_shelves.specs.Lines.{is_built, no_client, no_volume, Unless, MakesClient, MakesVolume, Happens}
use Rattle.coda_site.specs.Steps.{Becomes}
use Rattle.coda_site.specs.declared.fault.CellFault.{CellFault}
use Rattle.coda_site.proofs.Becomings.{becomes_as}
use Rattle.coda_site.proofs.Leading.{leads, leads_as, alone_servers}
use Rattle.coda_site.proofs.SentChunks.{windowed}
use Rattle.coda_site.proofs.cell.Cell.step.Goals as goal

pub returns-in-Client-clause-does : goal.returns-in-Client-clause-does
returns-in-Client-clause-does g c = λ plain shows.
    let old = c.args.self.now in
    let bay = c.make_client.new.bay in
    let site = c.make_client.new.site in
    let said = line.Client c.in-Client.client c.in-Client.blocks c.in-Client.area in
    let client = c.in-Client.client in
    let blocks = c.in-Client.blocks in
    let named = line.Client client blocks (Some c.unwrap_or-in-Client.result) in
    leads_as g.B.D.Disk.told (g.B.Bay.out old.bay) (g.B.Bay.out bay) (g.B.Bay.has old.bay) (g.B.Bay.has bay) plain old.site site c.args.line.now said c.make_client.result (g.B.Bay.answered old.bay) (g.B.Bay.answered bay) shows c.requires.range c.requires.built c.in-Client.is
    (IfOk-weaker c.make_client.result (λ (reply : Reply). Becomes g.B.D.Disk.told (g.B.Bay.out bay) (g.B.Bay.has bay) (Happens plain named) reply (g.B.Bay.answered old.bay) (g.B.Bay.answered bay) site)
    (λ (reply : Reply). Becomes g.B.D.Disk.told (g.B.Bay.out bay) (g.B.Bay.has bay) (Happens plain said) reply (g.B.Bay.answered old.bay) (g.B.Bay.answered bay) site)
    (λ reply. becomes_as g.B.D.Disk.told (g.B.Bay.out bay) (g.B.Bay.has bay) (Happens plain named) (Happens plain said) reply (g.B.Bay.answered old.bay) (g.B.Bay.answered bay) site
    (λ outside left made. subst (λ (area : ℕ). Unless plain (no_client plain client area) (MakesClient plain client (client_header client blocks area)) reply outside left) c.unwrap_or-in-Client.ensures made))
    (c.make_client.ensures.does plain shows))

pub returns-in-Volume-clause-does : goal.returns-in-Volume-clause-does
returns-in-Volume-clause-does g c = λ plain shows.
    let old = c.args.self.now in
    let bay = c.make_volume.new.bay in
    let site = c.make_volume.new.site in
    let said = line.Volume c.in-Volume.volume c.in-Volume.servers c.in-Volume.area in
    let volume = c.in-Volume.volume in
    let servers = c.in-Volume.servers in
    let server_is : c.alone.result ≡ alone servers = search rules in
    let servers_are : c.alone.result ∷ [] ≡ servers = alone_servers servers c.alone.result (subst (λ l. is_built l ≡ true) c.in-Volume.is c.requires.built) server_is in
    let named = line.Volume volume (c.alone.result ∷ []) (Some c.unwrap_or.result) in
    leads_as g.B.D.Disk.told (g.B.Bay.out old.bay) (g.B.Bay.out bay) (g.B.Bay.has old.bay) (g.B.Bay.has bay) plain old.site site c.args.line.now said c.make_volume.result (g.B.Bay.answered old.bay) (g.B.Bay.answered bay) shows c.requires.range c.requires.built c.in-Volume.is
    (IfOk-weaker c.make_volume.result (λ (reply : Reply). Becomes g.B.D.Disk.told (g.B.Bay.out bay) (g.B.Bay.has bay) (Happens plain named) reply (g.B.Bay.answered old.bay) (g.B.Bay.answered bay) site)
    (λ (reply : Reply). Becomes g.B.D.Disk.told (g.B.Bay.out bay) (g.B.Bay.has bay) (Happens plain said) reply (g.B.Bay.answered old.bay) (g.B.Bay.answered bay) site)
    (λ reply. becomes_as g.B.D.Disk.told (g.B.Bay.out bay) (g.B.Bay.has bay) (Happens plain named) (Happens plain said) reply (g.B.Bay.answered old.bay) (g.B.Bay.answered bay) site
    (λ outside left made. subst (λ (area : ℕ). Unless plain (no_volume plain volume area) (MakesVolume plain volume servers area) reply outside left) c.unwrap_or.ensures
    (subst (λ (l : List ℕ). Unless plain (no_volume plain volume c.unwrap_or.result) (MakesVolume plain volume l c.unwrap_or.result) reply outside left) servers_are made)))
    (c.make_volume.ensures.does plain shows))

pub returns-in-Send-clause-does : goal.returns-in-Send-clause-does
returns-in-Send-clause-does g c = λ plain shows.
    let old = c.args.self.now in
    let bay = old.bay in
    let site = c.send.new.site in
    let said = line.Send c.in-Send.client c.in-Send.volume c.in-Send.server c.in-Send.window in
    let named = line.Send c.in-Send.client c.in-Send.volume c.in-Send.server (Some c.unwrap_or-window.result) in
    leads_as g.B.D.Disk.told (g.B.Bay.out old.bay) (g.B.Bay.out bay) (g.B.Bay.has old.bay) (g.B.Bay.has bay) plain old.site site c.args.line.now said c.send.result (g.B.Bay.answered old.bay) (g.B.Bay.answered bay) shows c.requires.range c.requires.built c.in-Send.is
    (IfOk-weaker c.send.result (λ (reply : Reply). Becomes g.B.D.Disk.told (g.B.Bay.out bay) (g.B.Bay.has bay) (Happens plain named) reply (g.B.Bay.answered old.bay) (g.B.Bay.answered bay) site)
    (λ (reply : Reply). Becomes g.B.D.Disk.told (g.B.Bay.out bay) (g.B.Bay.has bay) (Happens plain said) reply (g.B.Bay.answered old.bay) (g.B.Bay.answered bay) site)
    (λ reply. becomes_as g.B.D.Disk.told (g.B.Bay.out bay) (g.B.Bay.has bay) (Happens plain named) (Happens plain said) reply (g.B.Bay.answered old.bay) (g.B.Bay.answered bay) site
    (λ outside left sent. windowed plain c.in-Send.client c.in-Send.volume c.in-Send.server c.in-Send.window reply outside left c.unwrap_or-window.result c.unwrap_or-window.ensures sent))
    (c.send.ensures.does plain shows))

pub returns-in-Link-clause-does : goal.returns-in-Link-clause-does
returns-in-Link-clause-does g c = λ plain shows.
    let old = c.args.self.now in
    let bay = old.bay in
    let site = c.set_link.new.site in
    let said = line.Link c.in-Link.client c.in-Link.server c.in-Link.strength in
    leads_as g.B.D.Disk.told (g.B.Bay.out old.bay) (g.B.Bay.out bay) (g.B.Bay.has old.bay) (g.B.Bay.has bay) plain old.site site c.args.line.now said c.set_link.result (g.B.Bay.answered old.bay) (g.B.Bay.answered bay) shows c.requires.range c.requires.built c.in-Link.is
    (c.set_link.ensures.does plain shows)

pub returns-in-Tick-clause-does : goal.returns-in-Tick-clause-does
returns-in-Tick-clause-does g c = λ plain shows.
    let old = c.args.self.now in
    let bay = old.bay in
    let site = c.tick.new.site in
    let said = line.Tick c.in-Tick.seconds in
    leads_as {Fault = CellFault} g.B.D.Disk.told (g.B.Bay.out old.bay) (g.B.Bay.out bay) (g.B.Bay.has old.bay) (g.B.Bay.has bay) plain old.site site c.args.line.now said (Ok c.tick.result) (g.B.Bay.answered old.bay) (g.B.Bay.answered bay) shows c.requires.range c.requires.built c.in-Tick.is
    (c.tick.ensures.does plain shows)

pub returns-in-Task-clause-does : goal.returns-in-Task-clause-does
returns-in-Task-clause-does g c = λ plain shows.
    let old = c.args.self.now in
    let bay = old.bay in
    let site = c.carry_out.new.site in
    let said = line.Task c.in-Task.task in
    leads_as g.B.D.Disk.told (g.B.Bay.out old.bay) (g.B.Bay.out bay) (g.B.Bay.has old.bay) (g.B.Bay.has bay) plain old.site site c.args.line.now said c.carry_out.result (g.B.Bay.answered old.bay) (g.B.Bay.answered bay) shows c.requires.range c.requires.built c.in-Task.is
    (c.carry_out.ensures.does plain shows)

pub returns-in-ShowVolume-clause-does : goal.returns-in-ShowVolume-clause-does
returns-in-ShowVolume-clause-does g c = λ plain shows.
    let old = c.args.self.now in
    let bay = old.bay in
    let site = old.site in
    let said = line.ShowVolume c.in-ShowVolume.server c.in-ShowVolume.volume in
    leads_as g.B.D.Disk.told (g.B.Bay.out old.bay) (g.B.Bay.out bay) (g.B.Bay.has old.bay) (g.B.Bay.has bay) plain old.site site c.args.line.now said c.show_volume.result (g.B.Bay.answered old.bay) (g.B.Bay.answered bay) shows c.requires.range c.requires.built c.in-ShowVolume.is
    (c.show_volume.ensures.does plain shows)

pub returns-in-ShowLog-clause-does : goal.returns-in-ShowLog-clause-does
returns-in-ShowLog-clause-does g c = λ plain shows.
    let old = c.args.self.now in
    let bay = old.bay in
    let site = old.site in
    let said = line.ShowLog c.in-ShowLog.client c.in-ShowLog.volume in
    leads_as g.B.D.Disk.told (g.B.Bay.out old.bay) (g.B.Bay.out bay) (g.B.Bay.has old.bay) (g.B.Bay.has bay) plain old.site site c.args.line.now said c.show_log.result (g.B.Bay.answered old.bay) (g.B.Bay.answered bay) shows c.requires.range c.requires.built c.in-ShowLog.is
    (c.show_log.ensures.does plain shows)

pub returns-in-ShowState-clause-does : goal.returns-in-ShowState-clause-does
returns-in-ShowState-clause-does g c = λ plain shows.
    let old = c.args.self.now in
    let bay = old.bay in
    let site = old.site in
    let said = line.ShowState c.in-ShowState.client c.in-ShowState.volume in
    leads_as g.B.D.Disk.told (g.B.Bay.out old.bay) (g.B.Bay.out bay) (g.B.Bay.has old.bay) (g.B.Bay.has bay) plain old.site site c.args.line.now said c.show_state.result (g.B.Bay.answered old.bay) (g.B.Bay.answered bay) shows c.requires.range c.requires.built c.in-ShowState.is
    (c.show_state.ensures.does plain shows)

pub returns-in-Deliver-clause-does : goal.returns-in-Deliver-clause-does
returns-in-Deliver-clause-does g c = λ plain shows.
    let old = c.args.self.now in
    let bay = old.bay in
    let site = c.deliver.new.site in
    let said = line.Deliver c.in-Deliver.message in
    leads_as g.B.D.Disk.told (g.B.Bay.out old.bay) (g.B.Bay.out bay) (g.B.Bay.has old.bay) (g.B.Bay.has bay) plain old.site site c.args.line.now said c.deliver.result (g.B.Bay.answered old.bay) (g.B.Bay.answered bay) shows c.requires.range c.requires.built c.in-Deliver.is
    (c.deliver.ensures.does plain shows)

pub returns-in-Lose-clause-does : goal.returns-in-Lose-clause-does
returns-in-Lose-clause-does g c = λ plain shows.
    let old = c.args.self.now in
    let bay = old.bay in
    let site = c.lose.new.site in
    let said = line.Lose c.in-Lose.message in
    leads_as g.B.D.Disk.told (g.B.Bay.out old.bay) (g.B.Bay.out bay) (g.B.Bay.has old.bay) (g.B.Bay.has bay) plain old.site site c.args.line.now said c.lose.result (g.B.Bay.answered old.bay) (g.B.Bay.answered bay) shows c.requires.range c.requires.built c.in-Lose.is
    (c.lose.ensures.does plain shows)

pub returns-in_default-clause-does : goal.returns-in_default-clause-does
returns-in_default-clause-does g c = λ plain shows.
    let old = c.args.self.now in
    let bay = c.fail.new.bay in
    leads g.B.D.Disk.told (g.B.Bay.out old.bay) (g.B.Bay.out bay) (g.B.Bay.has old.bay) (g.B.Bay.has bay) plain old.site c.fail.new.site c.args.line.now c.fail.result (g.B.Bay.answered old.bay) (g.B.Bay.answered bay) shows c.requires.range c.requires.built
    (c.fail.ensures.does plain shows)
