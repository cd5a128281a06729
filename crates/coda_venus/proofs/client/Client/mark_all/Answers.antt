use Rattle.std.proofs.Common.{take, sym, ap, ◌∙◌, add-one}
use Rattle.std.specs.Prelude.{slice_index_or}
use Rattle.std.specs.BTreeMap as tree
use Rattle.std.specs.Ordering.{nat_cmp}
use Rattle.coda_fid.specs.declared.fid.Fid.{Fid}
use Rattle.coda_cache.specs.Steps.{marked}
use Rattle.coda_venus.specs.Accepting.{is_mentioned}
use Rattle.coda_venus.specs.Caching.{log_mentions, marked_by}
use Rattle.coda_venus.specs.Code.{volume_in}
use Rattle.coda_venus.proofs.Marked.{marked_more}
use Rattle.coda_venus.proofs.client.Client.mark_all.Goals as goal

abbrev none : Fid
none = record { volume = 0; vnode = 0; uniq = 0 }

pub loop-fid-preserved : goal.loop-fid-preserved
loop-fid-preserved c =
    let i = c.loop-fid.fid-index in
    let fids = c.args.fids.now in
    let old = c.args.self.now in
    let f = slice_index_or fids i none in
    let was = c.loop-fid.invariant in
    let dirty = c.is_dirty-dirty.ensures ∙ ap (λ logs. is_mentioned (volume_in (tree.get nat_cmp logs f.volume)) f) was.logs in
    record {
      cache = c.mark.ensures ∙ (λ i. marked (was.cache i) f (dirty i))
          ∙ sym (ap (λ n. marked_by (log_mentions old) old.cache (take n fids)) (add-one i) ∙ marked_more (log_mentions old) old.cache fids i none c.loop-fid-test.true);
      number = was.number;
      logs = was.logs;
    }
