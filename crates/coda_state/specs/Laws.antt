-- What holds of the states of a client.
use Rattle.std.specs.Prelude.{◌≡◌, Bool}
use Rattle.coda_state.specs.declared.state.State.{State}
use Rattle.coda_state.specs.declared.state.State.TheVariants.{Hoarding, Emulating}
use Rattle.coda_state.specs.declared.state.Link.{Link}
use Rattle.coda_state.specs.declared.state.Link.TheVariants.{Down}
use Rattle.coda_state.specs.States.{next_state, settled_state}

-- two looks at one link and one log, from any state
abbrev pub twice : State → Link → Bool → State
twice state link empty = next_state (next_state state link empty) link empty

-- after two looks the state is the one that the link and the log settle in, and a further look leaves it
pub record StatesSettle : Type 0 where
  pub settled : (state : State) (link : Link) (empty : Bool) → twice state link empty ≡ settled_state link empty
  pub stays : (state : State) (link : Link) (empty : Bool) → next_state (twice state link empty) link empty ≡ twice state link empty

-- emulation begins with a link that is down, at once, and with nothing else; hoarding begins from WriteDisconnected alone
pub record StatesFollowTheirLinks : Type 0 where
  pub down : (state : State) (empty : Bool) → next_state state Down empty ≡ Emulating
  pub up : (state : State) (link : Link) (empty : Bool) → next_state state link empty ≡ Emulating → link ≡ Down
  pub hoards : (link : Link) (empty : Bool) → next_state Emulating link empty ≡ Hoarding → ⊥
