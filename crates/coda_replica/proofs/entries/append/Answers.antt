use Rattle.std.proofs.Common.{rules, arith, ap, ◌∙◌, ◌<◌, ◌+◌, ◌∷◌, [], List, ℕ, length, drop, length-append}
use Rattle.std.specs.Int.{w32}
use Rattle.coda_journal.specs.Entries.{body}
use Rattle.coda_replica.proofs.Appends.{leaves1, leaves2, done, stands}
use Rattle.coda_replica.proofs.Keeps.{append_failed}
use Rattle.coda_replica.proofs.entries.append.Goals as goal

pub returns-in_err-write_synced-clause-appends : goal.returns-in_err-write_synced-clause-appends
returns-in_err-write_synced-clause-appends g c = λ header ps p e o.
    let told = g.D.Disk.told in
    let self = c.args.journal.now in
    let t0 = told self.disk in
    let b = c.behind-behind.result.now in
    let same = c.behind-behind.ensures.rest ∙ ap (λ (l : List ℕ). drop 1 l) e in
    let room : self.used + (1 + length (body w32 p)) < self.area = omega (arith, c.requires, ap length e, length-append (body w32 p) (0 ∷ [])) in
    let t1 = told c.write_synced.new.disk in
    let w1 = c.write_synced.ensures.wrote o.honest in
    let leaves = leaves1 header self.start self.used self.area ps p t0 o room b t1 w1 in
    append_failed told header self _ ps p c.from_residual.result (search rules) leaves (stands header self.start self.used self.area ps p t0 o room t1 w1.honest leaves (λ x is. g.met.D.Disk.counts_now c.write_synced.new.disk t0.moment x w1.honest leaves.later is))

pub returns-in_err-write_synced-2-clause-appends : goal.returns-in_err-write_synced-2-clause-appends
returns-in_err-write_synced-2-clause-appends g c = λ header ps p e o.
    let told = g.D.Disk.told in
    let self = c.args.journal.now in
    let t0 = told self.disk in
    let b = c.behind-behind.result.now in
    let same = c.behind-behind.ensures.rest ∙ ap (λ (l : List ℕ). drop 1 l) e in
    let room : self.used + (1 + length (body w32 p)) < self.area = omega (arith, c.requires, ap length e, length-append (body w32 p) (0 ∷ [])) in
    let t1 = told c.write_synced.new.disk in
    let w1 = c.in_ok-write_synced.ensures.wrote o.honest in
    let t2 = told c.write_synced-2.new.disk in
    let w2 = c.write_synced-2.ensures.wrote w1.honest in
    let leaves = leaves2 header self.start self.used self.area ps p t0 o room b same t1 w1 t2 w2 in
    append_failed told header self _ ps p c.from_residual-in_err-write_synced-2.result (search rules) leaves (stands header self.start self.used self.area ps p t0 o room t2 w2.honest leaves (λ x is. g.met.D.Disk.counts_now c.write_synced-2.new.disk t0.moment x w2.honest leaves.later is))

pub returns-clause-appends : goal.returns-clause-appends
returns-clause-appends g c = λ header ps p e o.
    let told = g.D.Disk.told in
    let self = c.args.journal.now in
    let t0 = told self.disk in
    let b = c.behind-behind.result.now in
    let same = c.behind-behind.ensures.rest ∙ ap (λ (l : List ℕ). drop 1 l) e in
    let room : self.used + (1 + length (body w32 p)) < self.area = omega (arith, c.requires, ap length e, length-append (body w32 p) (0 ∷ [])) in
    let t1 = told c.write_synced.new.disk in
    let w1 = c.in_ok-write_synced.ensures.wrote o.honest in
    let t2 = told c.write_synced-2.new.disk in
    let w2 = c.in_ok-write_synced-2.ensures.wrote w1.honest in
    let leaves = leaves2 header self.start self.used self.area ps p t0 o room b same t1 w1 t2 w2 in
    record { any_moment = leaves; answers = done header self.start self.used self.area ps p t0 o room b same t1 w1 t2 w2 }
