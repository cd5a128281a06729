use Rattle.std.proofs.Common.{take, cond, sym, ap, ◌∙◌, add-one}
use Rattle.std.specs.Prelude.{slice_index_or}
use Rattle.coda_fid.specs.declared.fid.Fid.{Fid}
use Rattle.coda_fid.specs.Fid.{same_fid}
use Rattle.coda_cache.specs.State.{CacheState}
use Rattle.coda_cache.specs.Steps.{without, dropped}
use Rattle.coda_cache.specs.Uses.{except}
use Rattle.coda_venus.proofs.Installed.{drops_but}
use Rattle.coda_venus.proofs.marks.drop_but.Goals as goal

abbrev none : Fid
none = record { volume = 0; vnode = 0; uniq = 0 }

pub loop-fid-preserved : goal.loop-fid-preserved
loop-fid-preserved c =
    let f = slice_index_or c.args.gone.now c.loop-fid.fid-index none in
    c.drop_unless.ensures ∙ ap (λ (k : CacheState). cond (same_fid f c.args.kept) k (without k f)) c.loop-fid.invariant
    ∙ sym (ap (λ n. dropped c.args.cache.now (except (take n c.args.gone.now) c.args.kept)) (add-one c.loop-fid.fid-index) ∙ drops_but c.args.cache.now c.args.gone.now c.args.kept c.loop-fid.fid-index none c.loop-fid-test.true)
