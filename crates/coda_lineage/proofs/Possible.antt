-- What is certified can be decided.
use Rattle.std.proofs.Common.{◌≡◌, ℕ, Bool, true, false, cond, List, [], ◌∷◌, Option, Some, None, option_map, map}
use Rattle.std.proofs.Common.{refl, sym, ap, ◌∙◌}
use Rattle.std.specs.FinMap as finmap
use Rattle.std.specs.FinMap.{FinMap}
use Rattle.std.specs.FinMap.Entries.{find}
use Rattle.std.specs.Ordering.{eq_by_cmp}
use Rattle.std.specs.Cmp.{Equal-is}
use Rattle.coda_fid.specs.Fid.{fid_cmp}
use Rattle.coda_fid.specs.declared.fid.Fid.{Fid}
use Rattle.coda_fid.specs.declared.op.Record.{Record}
use Rattle.coda_fid.proofs.Fids.{exact_fids, fids_total}
use Rattle.coda_tree.specs.declared.node.Node.{Node}
use Rattle.coda_reslog.specs.declared.change.Held.{Held}
use Rattle.coda_certify.specs.Replay.{sid_of, applied}
use Rattle.coda_resolve.specs.Resolution.{Objects}
use Rattle.coda_lineage.specs.Deeds.{deed_at, held_by_node, version_by, CertifiedRecordsAreDecided}

module _ {X Y : Type 0} (h : Fid → X → Y) where
  find_mapped : (es : List (Fid × X)) (q : Fid)
      → find fid_cmp q (map {B = Fid × Y} (λ e. (e.0, h e.0 e.1)) es) ≡ option_map (h q) (find fid_cmp q es)
  find_mapped [] q = refl
  find_mapped (e ∷ es) q = go (eq_by_cmp fid_cmp q e.0) refl (find_mapped es q)
    where
      go : (b : Bool) → eq_by_cmp fid_cmp q e.0 ≡ b
          → find fid_cmp q (map {B = Fid × Y} (λ e. (e.0, h e.0 e.1)) es) ≡ option_map (h q) (find fid_cmp q es)
          → cond b (Some (h e.0 e.1)) (find fid_cmp q (map {B = Fid × Y} (λ e. (e.0, h e.0 e.1)) es)) ≡ option_map
          (h q) (cond b (Some e.1) (find fid_cmp q es))
      go true is more = ap (λ k. Some (h k e.1)) (sym (exact_fids q e.0 ((Equal-is (fid_cmp q e.0)).0 is)))
      go false is more = more

  -- a map with each value made another by its key
  mapped : FinMap fid_cmp X → FinMap fid_cmp Y
  mapped m = finmap.from_entries (map {B = Fid × Y} (λ e. (e.0, h e.0 e.1)) (finmap.entries m))

  get_mapped : (m : FinMap fid_cmp X) (q : Fid) → finmap.get (mapped m) q ≡ option_map (h q) (finmap.get m q)
  unfolding mapped
  get_mapped m q =
      finmap.get-from_entries fids_total (map {B = Fid × Y} (λ e. (e.0, h e.0 e.1)) (finmap.entries m)) q
      ∙ find_mapped (finmap.entries m) q ∙ ap (option_map (h q)) (sym (finmap.get-entries m q))

pub certified_decided : CertifiedRecordsAreDecided
certified_decided = record {
  nodes =
      λ objects. (
        mapped (λ f (held : Held). held.node) objects,
        λ f. get_mapped (λ f (held : Held). held.node)
            objects f,
      );
  decides = λ server client rec before nodes those certified. (
    mapped (made server client rec before) (applied nodes client rec),
    record {
      nodes = nodes;
      those = those;
      certified = certified;
      left =
          λ f. get_mapped (made server client rec before) (applied nodes client rec) f ∙ version
          (finmap.get (applied nodes client rec) f) server client rec before f;
    },
  );
}
  where
    made : ℕ → ℕ → Record → Objects → Fid → Node → Held
    made server client rec before f node =
        held_by_node server (sid_of client rec) node (finmap.get before f) (deed_at before rec.op f)

    version : (o : Option Node) (server client : ℕ) (rec : Record) (before : Objects) (f : Fid) → option_map (made server client rec before f) o ≡ version_by server (sid_of client rec) o (finmap.get before f) (deed_at before rec.op f)
    version None server client rec before f = refl
    version (Some node) server client rec before f = refl
