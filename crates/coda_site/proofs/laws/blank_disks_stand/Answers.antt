use Rattle.coda_site.proofs.BlankShelves.{blank_disks_stand}
use Rattle.coda_site.proofs.laws.blank_disks_stand.Goals as goal

pub returns : goal.returns
returns g c = blank_disks_stand g.B.D.Disk.told (g.B.Bay.has c.args._bay.now)
