-- What a client does leaves its cache in order.
use Rattle.std.specs.Prelude.{List, [], ◌∷◌}
use Rattle.coda_histories.specs.Forests.{ParentsAreDirs, KeepsKindsIn}
use Rattle.coda_venus.specs.History.{MayEnterAll}
use Rattle.coda_venus.specs.Serving.{ServingClient}
use Rattle.coda_venus.specs.Rounds.{RoundStep, entries_of_step, serving_after}
use Rattle.coda_rounds.specs.Entering.{IsInOrder, MayEnterSteps}

-- a client that serves, after steps in order
abbrev pub serving_after_all : ServingClient → List RoundStep → ServingClient
serving_after_all s [] = s
serving_after_all s (step ∷ steps) = serving_after_all (serving_after s step) steps

-- no step fetches a file or a link in place of a directory that is cached then
abbrev pub KeepKinds : ServingClient → List RoundStep → Type 0
KeepKinds s [] = Unit {0}
KeepKinds s (step ∷ steps) = KeepsKindsIn s.client (entries_of_step step) × KeepKinds (serving_after s step) steps

-- The cache of a client is in order, and each parent is a directory.
abbrev pub IsInOrderBelowDirs : ServingClient → Type 0
IsInOrderBelowDirs s = IsInOrder s × ParentsAreDirs s.client.held

-- Where a client's cache is in order, and each parent a directory, it is so behind each step whose payload may follow:
-- what an operation makes and what is fetched was used then, who goes is nobody's parent, and no way up is a cycle,
-- also behind a rename.
abbrev pub StepsLeaveOrder : Type 0
StepsLeaveOrder = (s : ServingClient) (step : RoundStep) → IsInOrderBelowDirs s → MayEnterAll s.client (entries_of_step step)
    → KeepsKindsIn s.client (entries_of_step step) → IsInOrderBelowDirs (serving_after s step)

-- And so behind any number of them.
abbrev pub AllStepsLeaveOrder : Type 0
AllStepsLeaveOrder = (s : ServingClient) (steps : List RoundStep) → IsInOrderBelowDirs s → MayEnterSteps s steps
    → KeepKinds s steps → IsInOrderBelowDirs (serving_after_all s steps)
