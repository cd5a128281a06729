-- What a machine does at a line, and why it stops there.
use Rattle.std.specs.Prelude.{◌≡◌, ◌≢◌, ℕ, Bool, true, false, List, []}
use Rattle.coda_engine.specs.declared.status.Kind.{Kind}
use Rattle.coda_engine.specs.declared.machine.LineStop.{LineStop}
use Rattle.coda_engine.specs.declared.machine.LineStop.TheVariants.{Refused, Unwritten, Bay, Memory as OutOfMemory}
use Rattle.coda_engine.specs.declared.status.Status.{Status}
use Rattle.coda_engine.specs.declared.status.Status.TheVariants.{BayFault, Memory}

-- What a machine may do at a line: the state before, the line, the text of its reply, what the outside answered in that
-- line, and the state after.
abbrev pub Gives : Type 0 → Type 1
Gives M = M → List ℕ → List ℕ → List (List ℕ) → M → Type 0

-- When a machine refuses a line: the state, the line, its first wrong column, and what is wrong there.
abbrev pub Refuses : Type 0 → Type 1
Refuses M = M → List ℕ → ℕ → Kind → Type 0

-- What a line at which the outside failed leaves of a machine: the state before it, and the state after.
abbrev pub Breaks : Type 0 → Type 1
Breaks M = M → M → Type 0

-- A refusal has its cause and changes nothing. Neither does a line before which replies must be written that wait, and it is one
-- that may ask the bay. At a fault of the bay the line asked it, where no reply waited. Of want of memory nothing is said here.
abbrev pub HasReason : {M : Type 0} → Refuses M → (List ℕ → Type 0) → Breaks M → M → List ℕ → Bool → M → LineStop → Type 0
HasReason refuses asks breaks old line waits new (Refused fault) = refuses old line fault.column fault.kind × (new ≡ old)
HasReason refuses asks breaks old line waits new Unwritten = (waits ≡ true) × asks line × (new ≡ old)
HasReason refuses asks breaks old line waits new Bay = (waits ≡ false) × asks line × breaks old new
HasReason refuses asks breaks old line waits new OutOfMemory = Unit {0}

-- Why a line has no reply, where these replies to the lines before it still wait: it was refused, or had to wait for the sink, which
-- refused, and nothing changed; or the bay was at fault, behind which none waits; or there was no memory.
abbrev pub IsStopped : {M : Type 0} → Refuses M → Breaks M → List ℕ → M → M → List ℕ → LineStop → Type 0
IsStopped refuses breaks left old new line (Refused fault) = refuses old line fault.column fault.kind × (new ≡ old)
IsStopped refuses breaks left old new line Unwritten = (left ≢ []) × (new ≡ old)
IsStopped refuses breaks left old new line Bay = (left ≡ []) × breaks old new
IsStopped refuses breaks left old new line OutOfMemory = Unit {0}

-- What a run that ends with this status leaves, where the machine was so after the last line that ran: that, unless memory was
-- wanting or the bay at fault; and where the bay was, what the line at fault made of that.
pub record Leaves {M : Type 0} (breaks : Breaks M) (end new : M) (status : Status) : Type 0 where
  pub same : status ≢ Memory → status ≢ BayFault → new ≡ end
  pub broken : status ≡ BayFault → breaks end new
