use Rattle.std.proofs.Common.{ℕ, List, Some, Ok, Err, sym, ap, ◌∙◌, subst}
use Rattle.coda_record.specs.Spelling.{Spells}
use Rattle.coda_wire.specs.declared.fault.WireFault.{WireFault}
use Rattle.coda_wire.specs.declared.fault.WireFault.TheVariants.{BadMessage}
use Rattle.coda_wire.specs.Outcome.{Reads}
use Rattle.coda_wire.specs.Table.{message}
use Rattle.coda_net.specs.declared.fault.NetFault.TheVariants.{LinkDown}
use Rattle.coda_letters.proofs.Calls.{delivers_refused, delivers_none, delivers_read, read_so}
use Rattle.coda_letters.proofs.delivering.deliver.Goals as goal

pub returns-in-Err-NoMessage-clause-delivers : goal.returns-in-Err-NoMessage-clause-delivers
returns-in-Err-NoMessage-clause-delivers c = λ waiting are. delivers_none waiting c.args.net.now c.args.number are c.in-Err-NoMessage.field-0-0 (c.in-Err-NoMessage.ensures.err ∙ ap Some c.in-Err-NoMessage.field-0-is)

pub returns-in-Err-LinkDown-clause-delivers : goal.returns-in-Err-LinkDown-clause-delivers
returns-in-Err-LinkDown-clause-delivers c = λ waiting are. delivers_refused waiting c.args.net.now c.args.number are LinkDown (c.in-Err-LinkDown.ensures.err ∙ ap Some c.in-Err-LinkDown.field-0-is)

pub returns-in-Ok-read-clause-delivers : goal.returns-in-Ok-read-clause-delivers
returns-in-Ok-read-clause-delivers c = λ waiting are.
    delivers_read waiting c.args.net.now c.args.number are c.in-Ok.letter.now c.in-Ok.ensures.ok c.in-Ok.ensures.up c.in-Ok-read.message
    (read_so waiting c.args.net.now c.args.number are c.in-Ok.letter.now c.in-Ok.ensures.ok c.in-Ok.ensures.up (Ok c.in-Ok-read.message)
    (λ m spelled. c.in-Ok-read.ensures.only m (subst (λ (bytes : List ℕ). Spells message bytes m) (sym c.bytes.ensures) spelled)))

pub returns-in-Err-BadMessage-clause-delivers : goal.returns-in-Err-BadMessage-clause-delivers
returns-in-Err-BadMessage-clause-delivers c = λ waiting are.
    let no = read_so waiting c.args.net.now c.args.number are c.in-Ok.letter.now c.in-Ok.ensures.ok c.in-Ok.ensures.up (Err (BadMessage c.in-Err-BadMessage.at))
    (λ m spelled. subst (λ (why : WireFault). Reads (Err why) (Ok m)) c.in-Err-BadMessage.field-0-is (c.in-Err-BadMessage.ensures.only m (subst (λ (bytes : List ℕ). Spells message bytes m) (sym c.bytes.ensures) spelled))) in
    cc
