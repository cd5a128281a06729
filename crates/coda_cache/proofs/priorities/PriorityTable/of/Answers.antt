use Rattle.std.proofs.Common.{ℕ, take, sym, ap, ◌∙◌, add-one}
use Rattle.std.specs.Prelude.{slice_index_or, if◌then◌else◌, ◌==◌}
use Rattle.std.specs.FinMap as map
use Rattle.coda_fid.specs.declared.fid.Fid.{Fid}
use Rattle.coda_cache.specs.State.{Priorities}
use Rattle.coda_cache.specs.Steps.{given_to}
use Rattle.coda_cache.proofs.Walked.{given_more}
use Rattle.coda_cache.proofs.priorities.PriorityTable.of.Goals as goal

abbrev none : Fid × ℕ
none = (record { volume = 0; vnode = 0; uniq = 0 }, 0)

pub loop-given-preserved : goal.loop-given-preserved
loop-given-preserved c =
    let of = c.args.of.now in
    let e = slice_index_or of c.loop-given.given-index none in
    c.in_ok-give.ensures ∙ ap (λ (m : Priorities). if e.1 == 0 then m else map.insert m e.0 e.1) c.loop-given.invariant
    ∙ sym (ap (λ n. given_to map.empty (take n of)) (add-one c.loop-given.given-index) ∙ given_more map.empty of c.loop-given.given-index none c.loop-given-test.true)
