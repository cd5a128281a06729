-- A client whose cache is that of a client which serves may serve the same, and accepts the same.
use Rattle.std.proofs.Common.{◌≡◌, ◌||◌, ℕ, Bool, true, false, cond, List, [], ◌∷◌, Option, Some, None, Ok, Err}
use Rattle.std.proofs.Common.{is_some, option_map, refl, sym, ap, ◌∙◌}
use Rattle.std.specs.Prelude as prelude
use Rattle.std.specs.FinMap as map
use Rattle.std.specs.Ordering.{eq_by_cmp}
use Rattle.coda_fid.specs.Fid.{fid_cmp}
use Rattle.coda_fid.specs.declared.fid.Fid.{Fid}
use Rattle.coda_fid.proofs.Fids.{exact_fids, fids_total}
use Rattle.coda_tree.specs.declared.node.Node.{Node}
use Rattle.coda_tree.specs.Volume.{Nodes}
use Rattle.coda_tree.proofs.Parents.{tied_fid}
use Rattle.coda_cache.specs.State.{CacheState, source_of, source_held}
use Rattle.coda_venus.specs.Accepting.{Sight, Accepted, is_mentioned, sight_of, accept}
use Rattle.coda_venus.specs.Ask.{Asked, too_big}
use Rattle.coda_venus.specs.Caching.{serves, served_nodes, served_sight}
use Rattle.coda_venus.specs.Code.{IsClient}
use Rattle.coda_venus.specs.Held.{Held}
use Rattle.coda_venus.specs.Keeping.{record_of, record_for_unless, record_for}
use Rattle.coda_venus.specs.Looking.{then_find}
use Rattle.coda_venus.specs.Rounds.{recorded, accepted}
use Rattle.coda_venus.specs.Serving.{ServingClient, may_serve, served, serving, hold_of, cache_of}
use Rattle.coda_venus.specs.declared.client.Client.{Client}
use Rattle.coda_venus.proofs.Performed.{volume_is, sight_is}
use Rattle.coda_venus.proofs.Served.{served_at}

-- ---- how a cached node is held

found_at : (s : ServingClient) (es : List (Fid × Node)) (g : Fid) → map.find fid_cmp g
    (prelude.map (λ (e : Fid × Node). (e.0, hold_of s e.0)) es) ≡ option_map (λ (n : Node). hold_of s g)
    (map.find fid_cmp g es)
found_at s [] g = refl
found_at s (e ∷ es) g =
    (elim (eq_by_cmp fid_cmp g e.0) as (λ b. eq_by_cmp fid_cmp g e.0 ≡ b → cond b (Some (hold_of s e.0))
    (map.find fid_cmp g (prelude.map (λ (e : Fid × Node). (e.0, hold_of s e.0)) es))
    ≡ option_map (λ (n : Node). hold_of s g) (cond b (Some e.1) (map.find fid_cmp g es))) [
      | true ↦ λ tied. ap (λ x. Some (hold_of s x)) (sym (tied_fid g e.0 tied))
      | false ↦ λ _. found_at s es g
    ]) refl

pub held_at : (s : ServingClient) (g : Fid)
    → map.get (cache_of s).holds g ≡ option_map (λ (n : Node). hold_of s g) (map.get s.client.held.nodes g)
held_at s g =
    map.get-from_entries fids_total
    (prelude.map (λ (e : Fid × Node). (e.0, hold_of s e.0)) (map.entries s.client.held.nodes)) g
    ∙ found_at s (map.entries s.client.held.nodes) g
    ∙ ap (λ (o : Option Node). option_map (λ (n : Node). hold_of s g) o) (sym (map.get-entries s.client.held.nodes g))

-- the server that the copy of a cached node is valid from
source_at : (s : ServingClient) (g : Fid) (n : Node) → map.get s.client.held.nodes g ≡ Some n
    → source_of (cache_of s) g ≡ s.beside.copies g
source_at s g n there =
    ap source_held (held_at s g)
    ∙ ap (λ (o : Option Node). source_held (option_map (λ (n : Node). hold_of s g) o)) there

-- ---- what may be served

module _ (s : ServingClient) (code : Client) (emulating : Bool) (is : IsClient s.client code)
    (same : code.cache ≡ cache_of s) where
  alike : (g : Fid) (n : Node) → map.get s.client.held.nodes g ≡ Some n
      → serves emulating code g ≡ may_serve emulating s g
  alike g n there =
      let logs = ap (λ v. is_mentioned v g) (volume_is (s.client.volumes g.volume) _ (is.logs g.volume)) in
      let from = ap (λ (c : CacheState). source_of c g) same ∙ source_at s g n there in
      λ i. emulating || (logs i || is_some (from i))

  nodes : code.cache.nodes ≡ s.client.held.nodes
  nodes = ap (λ (h : Held). h.nodes) (sym is.held)

  -- the same nodes
  pub nodes_alike : served_nodes emulating code ≡ served emulating s
  nodes_alike = map.same_map fids_total exact_fids _ _
      (λ g. served_at emulating code g ∙ by g (map.get s.client.held.nodes g) refl ∙ sym (kept g))
    where
      kept : (g : Fid) → map.get (served emulating s) g
          ≡ cond (may_serve emulating s g) (map.get s.client.held.nodes g) None
      kept g = map.get-retain_keys s.client.held.nodes (may_serve emulating s) g
          (λ x e. ap (may_serve emulating s) (sym (exact_fids g x e)))

      nothing : (b : Bool) (o : Option Node) → o ≡ None → cond b o None ≡ None
      nothing true o e = e
      nothing false o e = refl

      by : (g : Fid) (o : Option Node) → map.get s.client.held.nodes g ≡ o
          → cond (serves emulating code g) (map.get code.cache.nodes g) None
          ≡ cond (may_serve emulating s g) (map.get s.client.held.nodes g) None
      by g None e =
          nothing (serves emulating code g) _ (ap (λ (m : Nodes). map.get m g) nodes ∙ e)
          ∙ sym (nothing (may_serve emulating s g) _ e)
      by g (Some n) e = λ i. cond (alike g n e i) (map.get (nodes i) g) None

  -- and so the same sight of each volume
  pub sights_alike : (volume : ℕ) → served_sight emulating code volume ≡ sight_of (serving emulating s) volume
  sights_alike volume =
      let seen = sight_is s.client code volume is in
      λ i. let t : Sight = record {
        number = (seen i).number;
        held = record { nodes = nodes_alike i; parents = (seen i).held.parents };
        creations = (seen i).creations;
        is_dirty = (seen i).is_dirty;
      } in t

  -- ---- what is accepted

  -- and the same record, or refusal
  pub accepted_alike : (volume time : ℕ) (ask : Asked) → too_big ask ≡ None
      → record_for (served_sight emulating code volume) (s.client.volumes volume) time volume ask
      ≡ accepted emulating s time volume ask
  accepted_alike volume time ask small =
      ap (λ o. record_for_unless o (served_sight emulating code volume) (s.client.volumes volume) time volume ask) small
      ∙ ap (λ (t : Sight). then_find (accept t volume ask)
      (λ op. Ok (record_of (s.client.volumes volume) time op))) (sights_alike volume)
      ∙ as_recorded (accept (sight_of (serving emulating s) volume) volume ask)
    where
      as_recorded : (r : Accepted) → then_find r (λ op. Ok (record_of (s.client.volumes volume) time op))
          ≡ recorded (s.client.volumes volume) time r
      as_recorded (Err why) = refl
      as_recorded (Ok op) = refl
