-- What the outcome of a resolution promises.
use Rattle.std.specs.Prelude.{◌≡◌, ◌≢◌, ◌⊎◌, ℕ, List, []}
use Rattle.std.specs.List.{AllByRecursion}
use Rattle.coda_fid.specs.declared.fid.Fid.{Fid}
use Rattle.coda_reslog.specs.declared.change.Change.{Change}
use Rattle.coda_resolve.specs.declared.why.Mark.{Mark}
use Rattle.coda_resolve.specs.Copies.{Copies}
use Rattle.coda_resolve.specs.Settling.{Fate, Same, Marked, Gone}
use Rattle.coda_resolve.specs.Settled.{IsEverywhere, IsMarkedEverywhere}
use Rattle.coda_resolve.specs.Resolution.{Objects, Replicas, copies_at, fate_at, IsTakenUp}
use Rattle.coda_resolve.specs.Placement.{IsIn, AreTreesOfOneKind}
use Rattle.coda_resolve.specs.Changes.{AreChanges, IsOutcome, afterwards}

-- the copies are as that fate leaves them: all the same, or all marked
abbrev pub AreAsFated : Fate → Copies → Type 0
AreAsFated (Same held) copies = IsEverywhere held copies
AreAsFated (Marked why) copies = IsMarkedEverywhere copies
AreAsFated Gone copies = ⊥

-- after the changes each object that is taken up is the same node, with the same updates and log, at all replicas, or marked at all
abbrev pub ChangesLeaveEqualOrMarked : Type 0
ChangesLeaveEqualOrMarked = (views : Replicas) (root f : Fid) (changes : List Change) → AreTreesOfOneKind views root → AreChanges views root changes → IsTakenUp views root f → AreAsFated (fate_at views f) (copies_at (afterwards views changes) f)

-- whichever replicas the changes are installed at: any replicas that are as they were or as their changes leave them are trees of one kind again
abbrev pub ChangesKeepTreesOfOneKind : Type 0
ChangesKeepTreesOfOneKind = (views later : Replicas) (root : Fid) (changes : List Change) → AreTreesOfOneKind views root → AreChanges views root changes → later ≢ [] → ((view : Objects) → IsIn view later → IsIn view views ⊎ IsIn view (afterwards views changes)) → AreTreesOfOneKind later root

-- the change has nothing
pub record IsNoChange (change : Change) : Type 0 where
  pub nothing_held : change.held ≡ []
  pub nothing_gone : change.gone ≡ []

-- the outcome has no change, no mark, and touches nothing
pub record IsNoOutcome (changes : List Change) (marks : List Mark) (touched : ℕ) : Type 0 where
  pub same : AllByRecursion IsNoChange changes
  pub unmarked : marks ≡ []
  pub untouched : touched ≡ 0

-- a second resolution right after the first changes nothing
abbrev pub SecondOutcomeIsNothing : Type 0
SecondOutcomeIsNothing = (views : Replicas) (root : Fid) (changes again : List Change) (marks : List Mark) (touched : ℕ) → AreTreesOfOneKind views root → AreChanges views root changes → IsOutcome (afterwards views changes) root again marks touched → IsNoOutcome again marks touched
