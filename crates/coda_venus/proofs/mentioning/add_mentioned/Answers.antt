use Rattle.std.proofs.Common.{take, ◌||◌, List, length, sym, ap, ◌∙◌, arith}
use Rattle.coda_fid.specs.declared.fid.Fid.{Fid}
use Rattle.coda_fid.specs.declared.op.Record.{Record}
use Rattle.coda_cancel.specs.Dropping.{mentioning}
use Rattle.coda_cml.specs.Steady.{any_record}
use Rattle.coda_walk.specs.Going.{is_listed}
use Rattle.coda_venus.proofs.Mentioned.{one_added}
use Rattle.coda_venus.proofs.mentioning.add_mentioned.Goals as goal

pub loop-preserved : goal.loop-preserved
loop-preserved c =
    let fids = c.loop.fids.items in
    let left = c.take_first.new.self in
    let is = c.in-Some.ensures.some in
    let count = ap (λ (rs : List Record). length rs) is in
    let was = c.loop.invariant.1 in (
      λ f. ap (λ (l : List Fid). is_listed l f || any_record (mentioning f) left) c.in_ok-extend_from_slice.ensures.items
          ∙ one_added f fids (take c.named-count.result.1 c.named-count.result.0) c.in-Some.rec.now left (c.named-count.ensures.named f)
          ∙ ap (λ (rs : List Record). is_listed fids f || any_record (mentioning f) rs) (sym is) ∙ c.loop.invariant.0 f,
      omega (arith, count, was),
    )
