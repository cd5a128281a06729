use Rattle.std.proofs.Common.{◌≡◌, ◌≢◌, ℕ, ◌-◌, ◌<◌, ◌≤◌, sym, subst, length, take, arith, rules}
use Rattle.std.proofs.lemmas.List.{length-take-le}
use Rattle.std.specs.Io.KnownBytes.{Consumes}
use Rattle.coda_engine.specs.Place.{place}
use Rattle.coda_engine.proofs.Going.{goes_start, goes_more, goes_counted, goes_stop, goes_no_source_fault, goes_end}
use Rattle.coda_engine.proofs.running.run_pieces.Goals as goal

pub loop-reader-init : goal.loop-reader-init
loop-reader-init g c =
    let new = c.new-reader.ensures in
    (goes_start _ _ (place c.args.machine.now c.new-reader.result) new.pending new.lines new.bytes, omega arith, omega arith, omega arith, g.met.M.Machine.same c.args.machine.now, subst (g.M.Machine.ready c.args.machine.now) (sym new.lines) c.requires.ready)

pub returns-in-Ok-eq0-clause-report : goal.returns-in-Ok-eq0-clause-report
returns-in-Ok-eq0-clause-report g c =
    let bytes = c.in-Ok-eq0.ensures.bytes in
    let room = length-take-le c.room-room.result c.loop-reader.buffer c.room-room.ensures.within in
    let zero : c.in-Ok-eq0.field-0 ≡ 0 = search rules in
    let Took : ℕ → Type 0 = λ n. Consumes (g.S.Source.left c.loop-reader.source) (g.S.Source.left c.read.new.self) (take n c.read.new.buf) in
    let ends = c.finish.ensures.ends in
    let report = goes_end g.M.Machine.gives g.M.Machine.refuses c.args.machine.now ends.0 _ _ _ _ _ _ (place c.loop-reader.machine c.loop-reader.reader) _ c.loop-reader.invariant.0
    (subst Took zero bytes.0) (bytes.1 zero (omega (arith, room, c.room-room.ensures.some, c.read.auto.buf))) ends.1 in
    (report.0, ends.0, report.1, ends.2)

pub loop-reader-smaller : goal.loop-reader-smaller
loop-reader-smaller g c =
    let counted = goes_counted _ _ _ _ _ (place c.loop-reader.machine c.loop-reader.reader) (place c.feed.new.machine c.feed.new.self) _ c.loop-reader.invariant.0 c.in-Ok-feed.ensures.ok in
    let whole : c.in-Ok.count ≤ length c.read.new.buf = c.in-Ok.ensures.bound.0 in
    let some : c.in-Ok.count ≢ 0 = c.in-Ok.count-test.1 in
    let less : 16777216 - c.feed.new.self.bytes < 16777216 - c.loop-reader.reader.bytes =
    omega (arith, counted, length-take-le c.in-Ok.count c.read.new.buf whole, some, c.feed.new.self.few) in
    less

pub loop-reader-preserved : goal.loop-reader-preserved
loop-reader-preserved g c = (
  goes_more _ _ _ _ _ _ (place c.loop-reader.machine c.loop-reader.reader) (place c.feed.new.machine c.feed.new.self) _ c.loop-reader.invariant.0 c.in-Ok.ensures.bytes.0 c.in-Ok-feed.ensures.ok,
  omega (arith, c.read.ensures.cause.later),
  omega (arith, c.feed.ensures.later),
  (let before = c.loop-reader.invariant.3 in let later = c.feed.ensures.bay_later in omega (arith, before, later)),
  g.met.M.Machine.then c.args.machine.now c.loop-reader.machine c.feed.new.machine c.loop-reader.invariant.4 c.feed.ensures.follows,
  c.in-Ok-feed.ensures.ready,
)

pub returns-in-Err-feed-clause-report : goal.returns-in-Err-feed-clause-report
returns-in-Err-feed-clause-report g c =
    let whole : c.in-Ok.count ≤ length c.read.new.buf = c.in-Ok.ensures.bound.0 in
    let taken = length-take-le c.in-Ok.count c.read.new.buf whole in
    let room = length-take-le c.room-room.result c.loop-reader.buffer c.room-room.ensures.within in
    let stops = c.in-Err-feed.ensures.stops in
    let report = goes_stop g.M.Machine.gives g.M.Machine.refuses c.args.machine.now stops.0 _ _ _ _ _ _ (place c.loop-reader.machine c.loop-reader.reader) _ _ c.loop-reader.invariant.0 c.in-Ok.ensures.bytes.0 (omega (arith, taken, whole, room, c.room-room.ensures.few, c.read.auto.buf)) stops.1 in
    (report.0, stops.0, report.1, stops.2)

pub returns-in-Err-feed-clause-source_fault : goal.returns-in-Err-feed-clause-source_fault
returns-in-Err-feed-clause-source_fault g c =
    λ e. absurd (goes_no_source_fault g.M.Machine.gives g.M.Machine.refuses c.args.machine.now _ _ _ _ _ _ (place c.loop-reader.machine c.loop-reader.reader) _ _ c.loop-reader.invariant.0 c.in-Err-feed.ensures.stops.1 e)
