use Rattle.std.proofs.Common.{◌≡◌, take, is_some, sym, ap, ◌∙◌, add-one, arith}
use Rattle.std.specs.Prelude.{slice_index_or, if◌then◌else◌}
use Rattle.coda_fid.specs.declared.fid.Fid.{Fid}
use Rattle.coda_cache.specs.State.{CacheState, source_of}
use Rattle.coda_cache.specs.Steps.{invalidated}
use Rattle.coda_venus.specs.Caching.{invalidated_in, valid_in}
use Rattle.coda_venus.proofs.Marked.{invalidated_more, valid_more}
use Rattle.coda_venus.proofs.marks.invalidate_all.Goals as goal

abbrev none : Fid
none = record { volume = 0; vnode = 0; uniq = 0 }

pub loop-fid-preserved : goal.loop-fid-preserved
loop-fid-preserved c =
    let i = c.loop-fid.fid-index in
    let fids = c.args.fids.now in
    let old = c.args.cache.now in
    let f = slice_index_or fids i none in
    let was = c.loop-fid.invariant in
    let one : c.invalidate_one-count.result ≡ (if is_some (source_of (invalidated_in old (take i fids)) f) then 1 else 0) = c.invalidate_one-count.ensures.count ∙ ap (λ (k : CacheState). if is_some (source_of k f) then 1 else 0) was.left in
    let more = ap (λ n. valid_in old (take n fids)) (add-one i) ∙ valid_more old fids i none c.loop-fid-test.true in
    let count = was.count in
    let few = was.few in
    let least = c.invalidate_one-count.ensures.few in
    record {
      left = c.invalidate_one-count.ensures.left ∙ ap (λ (k : CacheState). invalidated k f) was.left ∙ sym (ap (λ n. invalidated_in old (take n fids)) (add-one i) ∙ invalidated_more old fids i none c.loop-fid-test.true);
      count = omega (arith, one, more, count);
      few = omega (arith, few, least);
    }
