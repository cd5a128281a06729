use Rattle.std.proofs.Common.{◌≡◌, ◌++◌, length, reverse, string_bytes}
use Rattle.std.specs.List.{flat_map}
use Rattle.coda_report.specs.Volumes.{object_line, path_order}
use Rattle.coda_report.specs.Walking.{turns_of, Nest}
use Rattle.coda_report.proofs.Turns.{put_by}
use Rattle.coda_report.proofs.walk.put_objects.Given as goal

abbrev pub invariant-loop-frame : goal.invariant-loop-frame
invariant-loop-frame l = record {
  text : string_bytes l.out ++ put_by (turns_of l.volume.nodes l.levels l.path.items (reverse l.frames.items)) ≡ string_bytes l.fn.out ++ flat_map object_line (path_order l.fn.root l.volume.nodes);
  nest : Nest l.path.items (reverse l.frames.items);
}

abbrev pub decreases-loop-frame : goal.decreases-loop-frame
decreases-loop-frame l = length (turns_of l.volume.nodes l.levels l.path.items (reverse l.frames.items))
