use Rattle.std.proofs.Common.{rules, ◌≡◌, ◌∙◌, ◌≤◌, length}
use Rattle.std.specs.Int.{w32}
use Rattle.coda_journal.specs.Entries.{framed}
use Rattle.coda_checkpoint.proofs.Truncations.{are_beside, selects, leaves1, leaves2, done, failed}
use Rattle.coda_checkpoint.proofs.store.Store.truncate.Goals as goal

pub returns-in_err-write_synced-clause-truncates : goal.returns-in_err-write_synced-clause-truncates
returns-in_err-write_synced-clause-truncates g c = λ header ps p e o.
    let told = g.D.Disk.told in
    let j = c.args.self.now.journal in
    let t0 = told j.disk in
    let b = c.as_slice-entry.result.now in
    let same : b ≡ framed w32 p = c.as_slice-entry.ensures.value ∙ e in
    let fits : length b ≤ j.area = search rules in
    let other = c.other_area-other.result in
    let areas = c.other_area-other.ensures in
    let beside = are_beside header j.start j.used j.area ps t0 o other.start other.selector areas.second areas.first in
    let t1 = told c.write_synced.new.disk in
    let w1 = c.write_synced.ensures.wrote o.honest in
    let leaves = leaves1 header j.start j.used j.area ps p b same t0 o fits other.start beside t1 w1 in
    let counts = g.met.D.Disk.counts_now c.write_synced.new.disk t0.moment in
    failed told header c.args.self.now _ ps p c.from_residual.result (search rules) o.whole w1.honest leaves
    (λ x is. counts x w1.honest leaves.later is)

pub returns-in_err-write_synced-2-clause-truncates : goal.returns-in_err-write_synced-2-clause-truncates
returns-in_err-write_synced-2-clause-truncates g c = λ header ps p e o.
    let told = g.D.Disk.told in
    let j = c.args.self.now.journal in
    let t0 = told j.disk in
    let b = c.as_slice-entry.result.now in
    let same : b ≡ framed w32 p = c.as_slice-entry.ensures.value ∙ e in
    let fits : length b ≤ j.area = search rules in
    let other = c.other_area-other.result in
    let areas = c.other_area-other.ensures in
    let beside = are_beside header j.start j.used j.area ps t0 o other.start other.selector areas.second areas.first in
    let t1 = told c.write_synced.new.disk in
    let w1 = c.in_ok-write_synced.ensures.wrote o.honest in
    let t2 = told c.write_synced-2.new.disk in
    let w2 = c.write_synced-2.ensures.wrote w1.honest in
    let leaves =
    leaves2 header j.start j.used j.area ps p b same t0 o fits other.start beside t1 w1 other.selector t2 w2 in
    let counts = g.met.D.Disk.counts_now c.write_synced-2.new.disk t0.moment in
    let result = c.from_residual-in_err-write_synced-2.result in
    failed told header c.args.self.now _ ps p result (search rules) o.whole w2.honest leaves
    (λ x is. counts x w2.honest leaves.later is)

pub returns-clause-truncates : goal.returns-clause-truncates
returns-clause-truncates g c = λ header ps p e o.
    let told = g.D.Disk.told in
    let j = c.args.self.now.journal in
    let t0 = told j.disk in
    let b = c.as_slice-entry.result.now in
    let same : b ≡ framed w32 p = c.as_slice-entry.ensures.value ∙ e in
    let fits : length b ≤ j.area = search rules in
    let other = c.other_area-other.result in
    let areas = c.other_area-other.ensures in
    let beside = are_beside header j.start j.used j.area ps t0 o other.start other.selector areas.second areas.first in
    let names = selects header j.start j.used j.area ps t0 o other.start other.selector areas.second areas.first in
    let t1 = told c.write_synced.new.disk in
    let w1 = c.in_ok-write_synced.ensures.wrote o.honest in
    let t2 = told c.write_synced-2.new.disk in
    let w2 = c.in_ok-write_synced-2.ensures.wrote w1.honest in
    let leaves =
    leaves2 header j.start j.used j.area ps p b same t0 o fits other.start beside t1 w1 other.selector t2 w2 in
    let at_rest =
    done header j.start j.used j.area ps p b same t0 o fits other.start beside t1 w1 other.selector t2 names w2 in
    record { any_moment = leaves; answers = at_rest }
