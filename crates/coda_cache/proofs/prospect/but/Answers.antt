use Rattle.std.proofs.Common.{◌++◌, ◌∷◌, [], cond, not, List, sym, ap, ◌∙◌, add-one, take}
use Rattle.std.specs.Prelude.{slice_index_or}
use Rattle.std.specs.List.{filter}
use Rattle.std.specs.BTreeSet as btree
use Rattle.coda_fid.specs.declared.fid.Fid.{Fid}
use Rattle.coda_fid.specs.Fid.{fid_cmp}
use Rattle.coda_cache.proofs.Foreseen.{more_left}
use Rattle.coda_cache.proofs.prospect.but.Goals as goal

abbrev nobody : Fid
nobody = record { volume = 0; vnode = 0; uniq = 0 }

pub loop-fid-preserved : goal.loop-fid-preserved
loop-fid-preserved c =
    let test = btree.contains fid_cmp c.args.set.now in
    let fid = slice_index_or c.args.fids.now c.loop-fid.fid-index nobody in
    c.in_ok-push_unless.ensures ∙ ap (λ (l : List Fid). l ++ cond (test fid) [] (fid ∷ [])) c.loop-fid.invariant
    ∙ sym (ap (λ n. filter (λ g. not (test g)) (take n c.args.fids.now)) (add-one c.loop-fid.fid-index) ∙ more_left test c.args.fids.now c.loop-fid.fid-index nobody c.loop-fid-test.true)
