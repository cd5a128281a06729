-- The state of a client on a volume: what the link to the volume's server and the client's log settle in.
use Rattle.std.specs.Prelude.{Bool, ◌==◌, ◌&&◌, length}
use Rattle.coda_state.specs.States.{settled_state}
use Rattle.coda_state.specs.declared.state.Link.{Link}
use Rattle.coda_state.specs.declared.state.Link.TheVariants as link
use Rattle.coda_state.specs.declared.state.State.{State}
use Rattle.coda_state.specs.declared.state.State.TheVariants as state
use Rattle.coda_cml.specs.State.{LogState}
use Rattle.coda_script.specs.declared.line.Strength.{Strength}
use Rattle.coda_script.specs.declared.line.Strength.TheVariants.{Strong, Weak, Down}
use Rattle.coda_script.specs.declared.reply.ClientState.{ClientState}
use Rattle.coda_script.specs.declared.reply.ClientState.TheVariants.{Hoarding, Emulating, WriteDisconnected}

-- how well a client reaches a server over a link of this strength
abbrev pub link_with : Strength → Link
link_with Strong = link.Strong
link_with Weak = link.Weak
link_with Down = link.Down

-- a state, as replies show it
abbrev pub shown_state : State → ClientState
shown_state state.Hoarding = Hoarding
shown_state state.Emulating = Emulating
shown_state state.WriteDisconnected = WriteDisconnected

-- whether a log has no record, neither in the chunk that is frozen nor behind it
abbrev pub is_empty : LogState → Bool
is_empty log = (length log.chunk == 0) && (length log.records == 0)

-- the state that a link of this strength and a log settle in
abbrev pub state_over : Strength → LogState → ClientState
state_over strength log = shown_state (settled_state (link_with strength) (is_empty log))
