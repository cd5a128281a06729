use Rattle.std.proofs.Common.{◌++◌, get_or, take, refl, arith}
use Rattle.std.proofs.lemmas.Option.{slice_get-get_or}
use Rattle.std.specs.Prelude.{string_bytes}
use Rattle.coda_cml.specs.declared.segment.Segment.{Segment}
use Rattle.coda_report.specs.LogTexts.{segments_text}
use Rattle.coda_report.proofs.ShownLogs.{parted_step, segment_step, segments_end}
use Rattle.coda_report.proofs.logs.put_segments.Goals as goal

no_segment : Segment
no_segment = record { first = 0; last = 0; count = 0; newest = 0 }

pub loop-segment-preserved : goal.loop-segment-preserved
unfolding no_segment
loop-segment-preserved c =
    let segments = c.args.segments.now in
    let index = c.loop-segment.segment-index in
    let segment = get_or segments index no_segment in
    let here = slice_get-get_or segments index no_segment c.loop-segment-test.true in
    record {
      text = segment_step c.args.word.now (string_bytes c.args.out.now) (segments_text c.args.word.now segments c.args.records) (string_bytes c.loop-segment.out) (string_bytes c.put_segment_line.new.out) (string_bytes c.put_next_records.new.out)
          segments index segment c.loop-segment.records (take segment.count c.loop-segment.records) c.put_next_records.new.records here c.loop-segment.invariant.text c.in_ok-put_segment_line.ensures c.in_ok-put_next_records.ensures.text refl c.in_ok-put_next_records.ensures.rest;
      parted = parted_step segments index segment c.loop-segment.records c.put_next_records.new.records here c.loop-segment.invariant.parted c.in_ok-put_next_records.ensures.rest;
    }

pub returns : goal.returns
returns c = segments_end c.args.word.now (string_bytes c.args.out.now ++ segments_text c.args.word.now c.args.segments.now c.args.records) (string_bytes c.loop-segment.out) c.args.segments.now c.loop-segment.segment-index c.loop-segment.records (omega (arith, c.loop-segment-test.false)) c.loop-segment.invariant.text
