-- What a map holds whose values are made others, and so the nodes of what a replica holds.
use Rattle.std.proofs.Common.{◌≡◌, Bool, true, false, cond, List, [], ◌∷◌, Some, option_map, map, refl, sym, ap, ◌∙◌}
use Rattle.std.specs.FinMap as finmap
use Rattle.std.specs.FinMap.{FinMap}
use Rattle.std.specs.FinMap.Entries.{find}
use Rattle.std.specs.Ordering.{eq_by_cmp}
use Rattle.std.specs.Cmp.{Equal-is}
use Rattle.coda_fid.specs.Fid.{fid_cmp}
use Rattle.coda_fid.specs.declared.fid.Fid.{Fid}
use Rattle.coda_fid.proofs.Fids.{exact_fids, fids_total}
use Rattle.coda_reslog.specs.declared.change.Held.{Held}
use Rattle.coda_plain.specs.Objects.{Objects, mapped, nodes_in}

module _ {X Y : Type 0} (h : Fid → X → Y) where
  find_mapped : (es : List (Fid × X)) (q : Fid) → find fid_cmp q (map {B = Fid × Y} (λ e. (e.0, h e.0 e.1)) es) ≡ option_map (h q) (find fid_cmp q es)
  find_mapped [] q = refl
  find_mapped (e ∷ es) q = go (eq_by_cmp fid_cmp q e.0) refl (find_mapped es q)
    where
      go : (b : Bool) → eq_by_cmp fid_cmp q e.0 ≡ b → find fid_cmp q (map {B = Fid × Y} (λ e. (e.0, h e.0 e.1)) es) ≡ option_map (h q) (find fid_cmp q es)
          → cond b (Some (h e.0 e.1)) (find fid_cmp q (map {B = Fid × Y} (λ e. (e.0, h e.0 e.1)) es)) ≡ option_map (h q) (cond b (Some e.1) (find fid_cmp q es))
      go true is more = ap (λ k. Some (h k e.1)) (sym (exact_fids q e.0 ((Equal-is (fid_cmp q e.0)).0 is)))
      go false is more = more

  pub get_mapped : (m : FinMap fid_cmp X) (q : Fid) → finmap.get (mapped h m) q ≡ option_map (h q) (finmap.get m q)
  unfolding mapped
  get_mapped m q = finmap.get-from_entries fids_total (map {B = Fid × Y} (λ e. (e.0, h e.0 e.1)) (finmap.entries m)) q ∙ find_mapped (finmap.entries m) q ∙ ap (option_map (h q)) (sym (finmap.get-entries m q))

pub get_nodes : (objects : Objects) (f : Fid) → finmap.get (nodes_in objects) f ≡ option_map (λ (held : Held). held.node) (finmap.get objects f)
get_nodes objects f = get_mapped (λ f (held : Held). held.node) objects f
