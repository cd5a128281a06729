-- What deeds leave of a volume, by a history in a cell and by a journal.
use Rattle.std.proofs.Common.{◌≡◌, ◌+◌, ◌==◌, ℕ, true, false, cond, None, refl, ap, ◌∙◌, arith}
use Rattle.coda_certify.specs.declared.verdict.Verdict.{Verdict}
use Rattle.coda_certify.specs.declared.verdict.Verdict.TheVariants.{Applied, Conflict}
use Rattle.coda_cml.specs.State.{LogState, IsLogOf}
use Rattle.coda_cml.specs.Steady.{IsSteady}
use Rattle.coda_cml.specs.Steps.{settled}
use Rattle.coda_plain.specs.Deeds.{Deed, Operated, Froze, Settled, Gaveup, created_by}
use Rattle.coda_plain.specs.Cell.{Did}
use Rattle.coda_venus.specs.History.{MayEnter}
use Rattle.coda_venus.specs.Laws.{MayCome}
use Rattle.coda_venus.specs.State.{ClientVolume as VenusVolume, ClientState as VenusState, new_volume as new_venus_volume, volume_after as venus_volume_after, put as venus_put}
use Rattle.coda_venus.proofs.Folds.{folds}
use Rattle.coda_cell.specs.State.{put, ClientVolume, new_volume, pending, volume_after}
use Rattle.coda_cell.proofs.Drains.{log_is}
use Rattle.coda_matching.specs.Clients.{entry_of, IsOneVolume}

-- the log is that of the operations that are pending, and all that is counted is the same
pub record IsAlike (v : ClientVolume) (w : VenusVolume) : Type 0 where
  pub runs : IsLogOf w.log v.front v.back
  pub frozen : w.log.frozen ≡ v.frozen
  pub last : w.log.last ≡ v.operations
  pub chunks : w.log.chunks ≡ v.chunks
  pub creations : w.creations ≡ v.creations

-- a log is told by its runs, its chunk and its counts
pub one_volume : (v : ClientVolume) (w : VenusVolume) → IsAlike v w → IsOneVolume v w
one_volume v w a = record { log = log_is v w.log a.runs a.frozen a.last a.chunks; creations = a.creations }

pub new_alike : IsAlike new_volume new_venus_volume
new_alike = record {
  runs = record { rising = tt; reached = tt; thawed = λ e. refl; sent = λ e. refl; chunk = refl; chunk_segments = refl; records = refl; segments = refl };
  frozen = refl;
  last = refl;
  chunks = refl;
  creations = refl;
}

settled_frozen : (verdict : Verdict) (log : LogState) → (settled verdict log).frozen ≡ None
settled_frozen Applied log = refl
settled_frozen (Conflict number why) log = refl

settled_last : (verdict : Verdict) (log : LogState) → (settled verdict log).last ≡ log.last
settled_last Applied log = refl
settled_last (Conflict number why) log = refl

settled_chunks : (verdict : Verdict) (log : LogState) → (settled verdict log).chunks ≡ log.chunks
settled_chunks Applied log = refl
settled_chunks (Conflict number why) log = refl

-- one deed more on a volume whose pending operations are steady
pub deed_alike : (v : ClientVolume) (w : VenusVolume) (deed : Deed) → IsAlike v w → IsSteady (pending v) → MayCome w deed → IsAlike (volume_after v deed) (venus_volume_after w deed)
deed_alike v w (Operated rec) a steady may = record {
  runs = folds w (record { front = v.front; back = v.back }) (Operated rec) a.runs steady may;
  frozen = a.frozen;
  last = refl;
  chunks = a.chunks;
  creations = ap (λ n. n + created_by rec.op) a.creations;
}
deed_alike v w (Froze number home last) a steady may = record {
  runs = folds w (record { front = v.front; back = v.back }) (Froze number home last) a.runs steady may;
  frozen = refl;
  last = a.last;
  chunks = refl;
  creations = a.creations;
}
deed_alike v w (Settled number verdict) a steady may = record {
  runs = folds w (record { front = v.front; back = v.back }) (Settled number verdict) a.runs steady may;
  frozen = settled_frozen verdict w.log;
  last = settled_last verdict w.log ∙ a.last;
  chunks = settled_chunks verdict w.log ∙ a.chunks;
  creations = a.creations;
}
deed_alike v w Gaveup a steady may = record {
  runs = folds w (record { front = v.front; back = v.back }) Gaveup a.runs steady may;
  frozen = may;
  last = a.last;
  chunks = a.chunks;
  creations = a.creations;
}

-- what may be entered in a journal may come in a log
pub may_come : (d : VenusState) (volume : ℕ) (deed : Deed) → MayEnter d (entry_of (Did volume deed)) → MayCome (d.volumes volume) deed
may_come d volume (Operated rec) may = let next = may.next in omega (arith, next)
may_come d volume (Froze number home last) may = may
may_come d volume (Settled number verdict) may = tt
may_come d volume Gaveup may = may.0

-- all volumes, with another one at one place
pub put_alike : (f : ℕ → ClientVolume) (g : ℕ → VenusVolume) (at : ℕ) (v : ClientVolume) (w : VenusVolume) → ((volume : ℕ) → IsAlike (f volume) (g volume)) → IsAlike v w
    → (volume : ℕ) → IsAlike (put f at v volume) (venus_put g at w volume)
put_alike f g at v w others here volume = elim (volume == at) as (λ b. IsAlike (cond b v (f volume)) (cond b w (g volume))) [ true ↦ here | false ↦ others volume ]
