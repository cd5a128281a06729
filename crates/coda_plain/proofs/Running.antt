-- What happens in a sound cell.
use Rattle.coda_plain.specs.Laws.{MovesRun}
use Rattle.coda_plain.proofs.Soundness.{runs_sound}
use Rattle.coda_plain.proofs.Promised.{sound_cells_are_promised}
use Rattle.coda_plain.proofs.Staying.{clients_run, replicas_run}

pub moves_run : MovesRun
moves_run moves old new sound run =
    let after_all = runs_sound moves old new sound run in
    record {
      sound = after_all;
      promised = sound_cells_are_promised new after_all;
      clients = clients_run moves old new run;
      replicas = replicas_run moves old new run;
    }
