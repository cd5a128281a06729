use Rattle.std.proofs.Common.{◌≡◌, ◌+◌, arith}
use Rattle.coda_fid.specs.declared.op.Record.{Record}
use Rattle.coda_venus.proofs.volume_log.VolumeLog.record_of.Goals as goal

pub returns-clause-record : goal.returns-clause-record
returns-clause-record c = λ few.
    let sum = c.saturating_add.ensures in
    let last = c.last.ensures in
    let number : c.saturating_add.result ≡ c.args.self.now.log.last + 1 = omega (arith, few, sum, last) in
    λ i. let r : Record = record { number = number i; time = c.args.time; op = c.args.op } in r
