use Rattle.std.proofs.Common.{rules, refl, ap, sym, subst, ◌∙◌, ◌≡◌, [], ◌∷◌}
use Rattle.std.specs.Prelude.{Ok, Err, Some, option_map}
use Rattle.coda_venus.specs.declared.done.Done.{Done}
use Rattle.std.specs.Result.{result_ok}
use Rattle.coda_record.specs.declared.entry.ClientEntry.TheVariants.{Op}
use Rattle.coda_venus.specs.Ask.{asked}
use Rattle.coda_venus.specs.History.{state_of}
use Rattle.coda_venus.specs.Keeping.{Due, operation, done_of, DoesKeepIn}
use Rattle.coda_venus.specs.Looking.{then_find}
use Rattle.coda_venus.proofs.Growing.{operates}
use Rattle.coda_venus.proofs.KeptLogs.{logs_kept}
use Rattle.coda_venus.proofs.Keepings.{passes, not_due}
use Rattle.coda_venus.proofs.Performed.{surely_ok}
use Rattle.coda_venus.proofs.venus.Venus.operate.Goals as goal

pub returns-in_err-rec-clause-keeps : goal.returns-in_err-rec-clause-keeps
returns-in_err-rec-clause-keeps g c = λ header history up.
    let old = c.args.self.now in
    let state = state_of header history in
    let e = c.in_err-rec.field-0.0 in
    let is : c.from_residual.result ≡ Err e = search rules in
    not_due g.D.Disk.told header old history up (λ x h left. g.met.D.Disk.only_now old.journal.disk x h left) c.args.volume e (operation state c.args.now c.args.volume (asked c.args.ask.now)) c.from_residual.result is
    (c.in_err-rec.ensures.operation state up.state (logs_kept header history up.lawful c.args.volume).few)

pub returns-in_err-keep_operation-clause-keeps : goal.returns-in_err-keep_operation-clause-keeps
returns-in_err-keep_operation-clause-keeps g c = λ header history up.
    let old = c.args.self.now in
    let state = state_of header history in
    let ask = asked c.args.ask.now in
    let rec = c.in_ok-rec.rec in
    let due = surely_ok rec (operation state c.args.now c.args.volume ask) (c.in_ok-rec.ensures.operation state up.state (logs_kept header history up.lawful c.args.volume).few) in
    let payload : Due = Ok (Op c.args.volume rec ∷ []) in
    subst (λ (d : Due). DoesKeepIn g.D.Disk.told header old history d c.keep_operation.new.self c.from_residual-in_err-keep_operation.result) (sym (ap (λ r. then_find r (λ x. Ok (Op c.args.volume x ∷ []))) due))
    (passes g.D.Disk.told header old history (Op c.args.volume rec ∷ []) c.keep_operation.new.self _ c.from_residual-in_err-keep_operation.result (search rules) (c.in_err-keep_operation.ensures.keeps header history up (operates state c.args.now c.args.volume ask rec due)))

pub returns-clause-keeps : goal.returns-clause-keeps
returns-clause-keeps g c = λ header history up.
    let old = c.args.self.now in
    let state = state_of header history in
    let ask = asked c.args.ask.now in
    let rec = c.in_ok-rec.rec in
    let due = surely_ok rec (operation state c.args.now c.args.volume ask) (c.in_ok-rec.ensures.operation state up.state (logs_kept header history up.lawful c.args.volume).few) in
    let done : Done = record { number = rec.number; fid = c.object_of.result } in
    subst (λ (d : Due). DoesKeepIn g.D.Disk.told header old history d c.keep_operation.new.self (Ok done)) (sym (ap (λ r. then_find r (λ x. Ok (Op c.args.volume x ∷ []))) due))
    (passes g.D.Disk.told header old history (Op c.args.volume rec ∷ []) c.keep_operation.new.self _ (Ok done) refl (c.in_ok-keep_operation.ensures.keeps header history up (operates state c.args.now c.args.volume ask rec due)))

pub returns-clause-done : goal.returns-clause-done
returns-clause-done g c = λ header history up.
    let state = state_of header history in
    let ask = asked c.args.ask.now in
    let rec = c.in_ok-rec.rec in
    ap (λ r. option_map done_of (result_ok r)) (surely_ok rec (operation state c.args.now c.args.volume ask) (c.in_ok-rec.ensures.operation state up.state (logs_kept header history up.lawful c.args.volume).few))
    ∙ (λ i. let done : Done = record { number = rec.number; fid = sym c.object_of.ensures i } in Some done)
