use Rattle.std.proofs.Common.{◌≡◌, drop}
use Rattle.coda_certify.specs.Replay.{replay}
use Rattle.coda_certify.proofs.replays.replay_in.Given as goal

abbrev pub invariant-loop-rec : goal.invariant-loop-rec
invariant-loop-rec l = record {
  number : l.draft.number ≡ l.fn.draft.number;
  start : l.draft.start ≡ l.fn.draft.start;
  rest : replay l.draft.nodes l.client (drop l.rec-index l.recs) ≡ replay l.fn.draft.nodes l.client l.recs;
}
