-- The states of a client on a volume.
use Rattle.std.specs.Prelude.{Bool, true, false}
use Rattle.coda_state.specs.declared.state.State.{State}
use Rattle.coda_state.specs.declared.state.State.TheVariants.{Hoarding, Emulating, WriteDisconnected}
use Rattle.coda_state.specs.declared.state.Link.{Link}
use Rattle.coda_state.specs.declared.state.Link.TheVariants.{Strong, Weak, Down}

-- The state after a look at the link, and at whether the log has no record. A link that is down gives Emulating. From
-- there a link that is up gives WriteDisconnected; from there a strong link and a log without records give Hoarding; from
-- there a weak link or a record gives WriteDisconnected again. Else the state stays.
abbrev pub next_state : State → Link → Bool → State
next_state Hoarding Down empty = Emulating
next_state Hoarding Weak empty = WriteDisconnected
next_state Hoarding Strong true = Hoarding
next_state Hoarding Strong false = WriteDisconnected
next_state Emulating Down empty = Emulating
next_state Emulating Weak empty = WriteDisconnected
next_state Emulating Strong empty = WriteDisconnected
next_state WriteDisconnected Down empty = Emulating
next_state WriteDisconnected Weak empty = WriteDisconnected
next_state WriteDisconnected Strong true = Hoarding
next_state WriteDisconnected Strong false = WriteDisconnected

-- the state that a link and a log settle in: Emulating without a link, Hoarding with a strong one and nothing to send
abbrev pub settled_state : Link → Bool → State
settled_state Down empty = Emulating
settled_state Strong true = Hoarding
settled_state Strong false = WriteDisconnected
settled_state Weak empty = WriteDisconnected
