use Rattle.std.proofs.Common.{ℕ, List, [], length, sym, ap, subst, ◌∙◌, take, drop, arith, inl, inr, refl}
use Rattle.std.proofs.lemmas.List.{take-append-drop, length-drop}
use Rattle.coda_engine.specs.declared.status.Status.TheVariants.{SinkFault}
use Rattle.coda_engine.proofs.Forwarding.{forwards_more, leaves_same}
use Rattle.coda_engine.proofs.reader.run_line.Goals as goal

-- what waited was sent where it had to be, and the reply came behind it
pub returns-in-Ok-add-clause-ok : goal.returns-in-Ok-add-clause-ok
returns-in-Ok-add-clause-ok g c =
    let ok = c.in-Ok.ensures.ok in
    let Did : List ℕ → Type 0 = λ text. g.M.Machine.gives c.args.machine.now c.args.line.now text ok.0 c.answer_of.new.machine in
    (c.deref.result.now, ok.0, forwards_more _ _ _ _ _ _ [] _ c.answer_of.ensures.sent c.in-Ok-add.ensures.ok, subst Did (sym c.deref.ensures.value) ok.1)

-- a front of the reply was taken, but not all
pub returns-in-Ok-clause-stops : goal.returns-in-Ok-clause-stops
returns-in-Ok-clause-stops g c =
    let e = c.in-Err.ensures.err in
    let bytes = c.deref.result.now in
    let ok = c.in-Ok.ensures.ok in
    let Did : List ℕ → Type 0 = λ text. g.M.Machine.gives c.args.machine.now c.args.line.now text ok.0 c.answer_of.new.machine in
    let forwards = forwards_more _ _ _ _ _ _ [] _ c.answer_of.ensures.sent e.2 in (
      c.answer_of.new.machine,
      inl (
        forwards.0,
        forwards.1,
        (
          take e.0 bytes,
          drop e.0 bytes,
          ok.0,
          subst Did (sym c.deref.ensures.value ∙ sym (take-append-drop e.0 bytes)) ok.1,
          λ none. omega (arith, e.1, length-drop e.0 bytes, ap length none),
          forwards.2,
        ),
        λ bay. cc,
      ),
      leaves_same c.answer_of.new.machine SinkFault (λ e. cc),
    )

-- the line was refused, and what waited may be written
pub returns-in-Err-Refused-clause-stops : goal.returns-in-Err-Refused-clause-stops
returns-in-Err-Refused-clause-stops g c =
    let stops = rw c.in-Err-Refused.field-0-is at c.in-Err-Refused.ensures.stops in
    let sent = c.answer_of.ensures.sent in
    (c.args.machine.now, inl (sent.0, sent.1, (sent.2, refl, stops.0, refl), λ bay. cc), record { same = λ memory bay. stops.1; broken = λ bay. cc })

-- what had to be written before the line still waits
pub returns-in-Err-Unwritten-clause-stops : goal.returns-in-Err-Unwritten-clause-stops
returns-in-Err-Unwritten-clause-stops g c =
    let stops = rw c.in-Err-Unwritten.field-0-is at c.in-Err-Unwritten.ensures.stops in
    (c.args.machine.now, inr (refl, refl, stops.0, c.answer_of.ensures.sent), record { same = λ memory bay. stops.1; broken = λ bay. cc })

-- there was no memory
pub returns-clause-stops : goal.returns-clause-stops
returns-clause-stops g c =
    let sent = c.answer_of.ensures.sent in
    (c.args.machine.now, inl (sent.0, sent.1, (sent.2, refl), λ bay. cc), record { same = λ memory bay. absurd (memory refl); broken = λ bay. cc })
