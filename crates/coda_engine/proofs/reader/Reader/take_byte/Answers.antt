use Rattle.std.proofs.Common.{rules, refl}
use Rattle.coda_engine.specs.Place.{place}
use Rattle.coda_engine.specs.declared.status.Status.TheVariants.{TooLong, Memory}
use Rattle.coda_engine.proofs.Forwarding.{byte_gathers, full_halts, leaves_same, memory_halts}
use Rattle.coda_engine.proofs.reader.Reader.take_byte.Goals as goal

pub returns-then-is_full-clause-stops : goal.returns-then-is_full-clause-stops
returns-then-is_full-clause-stops g c =
    (c.args.machine.now, full_halts g.M.Machine.gives g.M.Machine.refuses _ _ (place c.args.machine.now c.args.self.now) c.args.byte c.if-is_full.ensures, leaves_same c.args.machine.now TooLong (λ e. cc))

pub returns-then-byte-eq-NEWLINE-clause-ok : goal.returns-then-byte-eq-NEWLINE-clause-ok
returns-then-byte-eq-NEWLINE-clause-ok g c = rw c.if-byte-eq-NEWLINE.true c.end_line.ensures.ok

pub returns-then-byte-eq-NEWLINE-clause-stops : goal.returns-then-byte-eq-NEWLINE-clause-stops
returns-then-byte-eq-NEWLINE-clause-stops g c = rw c.if-byte-eq-NEWLINE.true c.end_line.ensures.stops

pub returns-then-is_err-clause-stops : goal.returns-then-is_err-clause-stops
returns-then-is_err-clause-stops g c =
    (c.args.machine.now, memory_halts g.M.Machine.gives g.M.Machine.refuses _ _ (place c.args.machine.now c.args.self.now) _, leaves_same c.args.machine.now Memory (λ e. cc))

pub returns-clause-ok : goal.returns-clause-ok
returns-clause-ok g c =
    byte_gathers _ _ (place c.args.machine.now c.args.self.now) _ c.args.byte c.if-is_full.ensures c.if-byte-eq-NEWLINE.false refl (search rules) refl refl
