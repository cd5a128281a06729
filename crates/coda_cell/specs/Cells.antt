-- Networks, and what holds of the clients of a cell at a moment.
use Rattle.std.specs.Prelude.{◌≡◌, ℕ, ◌==◌, Option, Some, None, if◌then◌else◌}
use Rattle.coda_tree.specs.Volume.{Tree}
use Rattle.coda_state.specs.declared.state.Link.{Link}
use Rattle.coda_state.specs.declared.state.Link.TheVariants as link
use Rattle.coda_net.specs.Pool.{Pool, link_of}
use Rattle.coda_letters.specs.Sent.{Waiting, AreLetters}
use Rattle.coda_script.specs.declared.line.Strength.{Strength}
use Rattle.coda_script.specs.declared.line.Strength.TheVariants.{Strong, Weak, Down}
use Rattle.coda_cml.specs.Steady.{IsSteady}
use Rattle.coda_cell.specs.Held.{AreUnderDirs}
use Rattle.coda_cell.specs.State.{pending, ClientState, ReplicaState, CellState}

-- a link, as lines name its strength
abbrev pub strength_of : Link → Strength
strength_of link.Strong = Strong
strength_of link.Weak = Weak
strength_of link.Down = Down

-- how well a client reaches a server in a network; a link that wasn't set is down
abbrev pub linked_in : Pool → ℕ → ℕ → Strength
linked_in net client server = strength_of (link_of net client server)

-- a network has these links, what waits there says this, and so many letters were posted
pub record IsNetwork (links : ℕ → ℕ → Strength) (waiting : Waiting) (posted : ℕ) (net : Pool) : Type 0 where
  pub links_are : (client server : ℕ) → links client server ≡ linked_in net client server
  pub letters : AreLetters waiting net
  pub posted_are : posted ≡ net.posted

-- ---- what is kept of clients

-- the parent of each object that a client holds is a directory of the object's volume, and what is pending of the client is steady
pub record IsOrderly (c : ClientState) : Type 0 where
  pub under : AreUnderDirs c.held
  pub steady : (volume : ℕ) → IsSteady (pending (c.volumes volume))

abbrev pub AreOrderly : CellState → Type 0
AreOrderly s = (number : ℕ) (c : ClientState) → s.clients number ≡ Some c → IsOrderly c

-- the volume of the replica of this server, where it has one
abbrev pub volume_at : Option ReplicaState → ℕ → Option Tree
volume_at None server = None
volume_at (Some r) server = if r.server == server then Some r.tree else None
