use Rattle.std.proofs.Common.{rules, ◌≡◌, ◌≤◌, ◌++◌, ◌&&◌, List, length, sym, ap, ◌∙◌, add-one, arith}
use Rattle.std.specs.List.{filter}
use Rattle.std.specs.FinMap as map
use Rattle.coda_fid.specs.declared.fid.Fid.{Fid}
use Rattle.coda_walk.specs.Going.{is_listed}
use Rattle.coda_cache.specs.State.{is_cached}
use Rattle.coda_cache.specs.Ways.{way_within}
use Rattle.coda_cache.specs.Indexed.{is_under_any, is_down}
use Rattle.coda_cache.proofs.Down.{none_of, level_more, cached_more, all_levels, whole_way}
use Rattle.coda_cache.proofs.descending.below.Goals as goal

pub returns-then-is_empty : goal.returns-then-is_empty
returns-then-is_empty c =
    let empty : length c.loop-step.level.items ≡ 0 = search rules in
    let none = none_of c.loop-step.level.items empty in
    let inside = c.loop-step-test.true in
    let all : c.len-step-end.result ≡ map.len c.args.contents.now.holds = c.len-step-end.ensures in
    let few : c.loop-step._step ≤ map.len c.args.contents.now.holds = omega (arith, inside, all) in
    λ f. c.loop-step.invariant.below f
    ∙ ap (λ b. b && is_cached c.args.contents.now f) (all_levels c.args.contents.now c.args.fid c.loop-step._step few (λ g. sym (c.loop-step.invariant.level g) ∙ ap (λ (l : List Fid). is_listed l g) none) f)

pub loop-step-preserved : goal.loop-step-preserved
loop-step-preserved c =
    let now = c.args.contents.now in
    record {
      level = λ f. level_more now c.args.fid c.loop-step._step c.loop-step.level.items c.in_ok-level.level.items c.loop-step.invariant.level (λ g. c.in_ok-level.ensures g ∙ ap (λ (l : List Fid). is_under_any now l g) c.deref-in-loop-step.ensures.value) f
          ∙ sym (ap (λ n. is_down now n c.args.fid f) (add-one c.loop-step._step));
      below = λ f. ap (λ (l : List Fid). is_listed l f) (c.in_ok-add_cached.ensures ∙ ap (λ (l : List Fid). c.loop-step.below.items ++ filter (is_cached now) l) c.deref.ensures.value)
          ∙ cached_more now c.args.fid c.loop-step._step c.loop-step.below.items c.loop-step.level.items c.loop-step.invariant.level c.loop-step.invariant.below f
          ∙ sym (ap (λ n. is_listed (way_within now n f) c.args.fid && is_cached now f) (add-one c.loop-step._step));
    }

pub returns : goal.returns
returns c =
    let past = c.loop-step-test.false in
    let within = c.loop-step.auto._step-end in
    let all : c.len-step-end.result ≡ map.len c.args.contents.now.holds = c.len-step-end.ensures in
    let whole : c.loop-step._step ≡ map.len c.args.contents.now.holds = omega (arith, past, within, all) in
    λ f. c.loop-step.invariant.below f ∙ ap (λ b. b && is_cached c.args.contents.now f) (whole_way c.args.contents.now c.args.fid c.loop-step._step whole f)
