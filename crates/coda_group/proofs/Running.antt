-- Whatever happens in a sound cell is a run of it.
use Rattle.std.proofs.Common.{ℕ, List, [], ◌∷◌, ◌++◌, subst}
use Rattle.coda_plain.specs.Cell.{PlainCell}
use Rattle.coda_plain.specs.Moves.{Move, after, Moved}
use Rattle.coda_plain.proofs.Running.{moves_run}
use Rattle.coda_group.specs.Steps.{GroupStep, moves_of_step, after_step, GroupStepped}
use Rattle.coda_group.specs.Sound.{IsGroupSound}
use Rattle.coda_group.specs.Laws.{StepsRun}
use Rattle.coda_group.proofs.Standing.{steps_are_moves, steps_keep_group_sound, stepped_sound}
use Rattle.coda_group.proofs.Promised.{group_cells_are_promised}

moved_on : (moves more : List Move) (a b c : PlainCell) → Moved a moves b → Moved b more c → Moved a (moves ++ more) c
moved_on [] more a b c first then = subst (λ x. Moved x more c) first then
moved_on (move ∷ moves) more a b c first then = (first.0, moved_on moves more (after a move) b c first.1 then)

all_moves : List GroupStep → List Move
all_moves [] = []
all_moves (step ∷ steps) = moves_of_step step ++ all_moves steps

steps_moved : (servers : ℕ → List ℕ) (steps : List GroupStep) (old new : PlainCell) → IsGroupSound servers old
    → GroupStepped servers old steps new → Moved old (all_moves steps) new
unfolding all_moves
steps_moved servers [] old new gs run = run
steps_moved servers (step ∷ steps) old new gs run =
    moved_on (moves_of_step step) (all_moves steps) old (after_step old step) new
    (steps_are_moves servers old step run.0 gs)
    (steps_moved servers steps (after_step old step) new (steps_keep_group_sound servers old step run.0 gs) run.1)

pub steps_run : StepsRun
steps_run servers steps old new gs run =
    let sound = stepped_sound servers steps old new run gs in
    record {
      sound = sound;
      promised = λ joins. group_cells_are_promised servers new sound joins;
      run = moves_run (all_moves steps) old new gs.sound (steps_moved servers steps old new gs run);
    }
