use Rattle.std.proofs.Common.{◌≤◌, sym, subst}
use Rattle.coda_cancel.specs.Weights.{total_weight}
use Rattle.coda_venus.specs.History.{state_of}
use Rattle.coda_sending.proofs.Endings.{chunk_is}
use Rattle.coda_sending.proofs.Weights.{chunk_light}
use Rattle.coda_sending.proofs.freezing.chunk_for.Goals as goal

pub returns-clause-records : goal.returns-clause-records
returns-clause-records g c = λ header history up is. chunk_is g.D.Disk.told header history c.args.venus.now c.args.volume c.chunk.result.now up is c.chunk.ensures.records

pub returns-clause-light : goal.returns-clause-light
returns-clause-light g c = λ header payloads up. subst (λ recs. total_weight recs ≤ 16777216) (sym (c.chunk.ensures.records (state_of header payloads) up.state)) (chunk_light header payloads up.lawful c.args.volume)
