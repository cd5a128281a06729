-- What a client holds stays in order by drops, and by a fetch of what a server has.
use Rattle.std.proofs.Common.{◌≡◌, ℕ, Bool, true, false, List, [], ◌∷◌, ◌++◌, Option, Some, None, is_some, refl, sym, ap, ◌∙◌, subst, inl, inr}
use Rattle.std.specs.FinMap as map
use Rattle.std.proofs.lemmas.Bool.{false_from_ne_true}
use Rattle.coda_fid.specs.Fid.{same_fid, root_of}
use Rattle.coda_fid.specs.declared.fid.Fid.{Fid}
use Rattle.coda_fid.proofs.Fids.{fids_total, exact_fids}
use Rattle.coda_tree.specs.declared.node.Node.{Node}
use Rattle.coda_tree.specs.Volume.{Nodes, child, child_of, has, IsDir, IsDirNode, IsDirAt}
use Rattle.coda_tree.proofs.Order.{fid_cases, get_here, get_else, gone_here, gone_else}
use Rattle.coda_tree.proofs.Parents.{parent_sound}
use Rattle.coda_histories.specs.Forests.{KeepsKindsIn}
use Rattle.coda_plain.specs.Cell.{PlainCell}
use Rattle.coda_plain.specs.Deeds.{IsMade}
use Rattle.coda_plain.specs.Moves.{done_on}
use Rattle.coda_record.specs.declared.entry.ClientEntry.{ClientEntry as KeptEntry}
use Rattle.coda_record.specs.declared.entry.ClientEntry.TheVariants as kept
use Rattle.coda_venus.specs.Held.{Held}
use Rattle.coda_venus.specs.History.{Payload, MayEnter, MayEnterAll}
use Rattle.coda_venus.specs.Rounds.{dropping, parent_of_fetched, parent_of_fetched_by}
use Rattle.coda_venus.specs.State.{ClientState as Client, client_after as serving_client_after, client_after_all as serving_client_after_all}
use Rattle.coda_cell.specs.Accepting.{is_mentioned}
use Rattle.coda_histories.specs.Forests.{IsForest}
use Rattle.coda_cell.specs.Held.{AreUnderDirs}
use Rattle.coda_cell.specs.Kept.{AreWithin, AreChildrenKept, IsHolding}
use Rattle.coda_cell.specs.Laws.{IsClean, MayReplace}
use Rattle.coda_cell.specs.State.{pending, ClientState, client_after}
use Rattle.coda_plain.specs.Cell.{Fetched}
use Rattle.coda_cell.proofs.Again.{caches_stay_in_order}
use Rattle.coda_cell.proofs.Fetches.{child_fetched}
use Rattle.coda_cell.proofs.Within.{within_fetch}
use Rattle.coda_rounds.specs.Places.{AreOfTheirVolumes}
use Rattle.coda_rounds.specs.Readiness.{AreWithinVolumes, IsOfOneVolume, AllOfOneVolume}
use Rattle.coda_lines.specs.Clients.{as_client}
use Rattle.coda_lines.proofs.AsClients.{without_gone}

-- ---- payloads in two parts

pub may_first : (d : Client) (first rest : Payload) → MayEnterAll d (first ++ rest) → MayEnterAll d first
may_first d [] rest may = tt
may_first d (entry ∷ first) rest may = (may.0, may_first (serving_client_after d entry) first rest may.1)

pub may_rest : (d : Client) (first rest : Payload) → MayEnterAll d (first ++ rest)
    → MayEnterAll (serving_client_after_all d first) rest
may_rest d [] rest may = may
may_rest d (entry ∷ first) rest may = may_rest (serving_client_after d entry) first rest may.1

-- what is left was there
dir_was : (m : Nodes) (gone fid : Fid) → IsDirAt (map.remove m gone) fid → IsDirAt m fid
dir_was m gone fid is = elim (fid_cases fid gone) [
  | inl same ↦ absurd (subst IsDirNode (ap (map.get (map.remove m gone)) same ∙ gone_here fids_total m gone) is)
  | inr other ↦ subst IsDirNode (gone_else fids_total exact_fids m gone fid other) is
]

-- a fetch behind drops keeps kinds that would keep them before
pub fetched_kinds : (d : Client) (gone : List Fid) (fid : Fid) (parent : Option Fid) (node : Node)
    → (IsDirAt d.held.nodes fid → IsDir node.kind)
    → KeepsKindsIn d (dropping gone ++ kept.Fetched fid parent node ∷ [])
fetched_kinds d [] fid parent node keeps = (keeps, tt)
fetched_kinds d (g ∷ gone) fid parent node keeps = (
  tt,
  fetched_kinds (serving_client_after d (kept.Dropped g)) gone fid parent node
      (λ is. keeps (dir_was d.held.nodes g fid is)),
)

pub operated_kinds : (d : Client) (gone : List Fid) (entry : KeptEntry)
    → ((x : Client) → KeepsKindsIn x (entry ∷ [])) → KeepsKindsIn d (dropping gone ++ entry ∷ [])
operated_kinds d [] entry keeps = keeps d
operated_kinds d (g ∷ gone) entry keeps =
    (tt, operated_kinds (serving_client_after d (kept.Dropped g)) gone entry keeps)

pub last_of_volume : (gone : List Fid) (entry : KeptEntry) → IsOfOneVolume entry
    → AllOfOneVolume (dropping gone ++ entry ∷ [])
last_of_volume [] entry is = (is, tt)
last_of_volume (g ∷ gone) entry is = (tt, last_of_volume gone entry is)

-- what is fetched is of the volume of its parent
module _ (held : Held) (within : AreWithin held.nodes) (own : AreWithinVolumes held) (fid : Fid) where
  pub parent_volume : (dir : Fid) → Some dir ≡ parent_of_fetched held fid → fid.volume ≡ dir.volume
  parent_volume dir is = by (map.get held.nodes fid) (same_fid fid (root_of fid.volume)) is
    where
      by : (o : Option Node) (root : Bool) → Some dir ≡ parent_of_fetched_by held fid o root → fid.volume ≡ dir.volume
      by (Some node) root is = own fid dir (sym is)
      by None true is = cc
      by None false is = (let at = parent_sound held.nodes fid dir (sym is) in within dir fid at.0 at.1)

  pub fetched_volume : (parent : Option Fid) (node : Node) → parent ≡ parent_of_fetched held fid
      → IsOfOneVolume (kept.Fetched fid parent node)
  fetched_volume None node is = tt
  fetched_volume (Some dir) node is = parent_volume dir is

-- ---- drops

module _ (cell : PlainCell) where
  clean_by : (c : ClientState) (fid : Fid) → AreOfTheirVolumes (as_client c)
      → (MayEnter (as_client c) (kept.Dropped fid)) → IsClean c fid
  clean_by c fid logs may volume = false_from_ne_true _ (λ m.
      may.1 (ap (λ w. is_mentioned (c.volumes w) fid) (logs volume fid m) ∙ m))

  pub drops_holding : (c : ClientState) (gone : List Fid) → AreOfTheirVolumes (as_client c)
      → MayEnterAll (as_client c) (dropping gone) → IsHolding cell c → IsHolding cell (without_gone c gone)
  drops_holding c [] logs may h = record {
    under = h.under;
    forest = h.forest;
    within = h.within;
    made = h.made;
    named = h.named;
    kept = h.kept;
  }
  drops_holding c (fid ∷ gone) logs may h =
      drops_holding (without_gone c (fid ∷ [])) gone logs may.1
      (caches_stay_in_order.dropped cell c fid h (clean_by c fid logs may.0) may.0.2)

  -- what is fetched is mentioned by no log where it is cached, also before the drops
  pub fetch_clean : (c : ClientState) (gone : List Fid) (fid : Fid) (parent : Option Fid) (node : Node)
      → AreOfTheirVolumes (as_client c)
      → MayEnterAll (as_client c) (dropping gone ++ kept.Fetched fid parent node ∷ []) → has c.held.nodes fid ≡ true
      → IsClean c fid
  fetch_clean c [] fid parent node logs may there volume = false_from_ne_true _ (λ m.
      may.0.0 (there, ap (λ w. is_mentioned (c.volumes w) fid) (logs volume fid m) ∙ m))
  fetch_clean c (g ∷ gone) fid parent node logs may there volume = elim (fid_cases fid g) [
    | inl same ↦ ap (is_mentioned (c.volumes volume)) same ∙ clean_by c g logs may.0 volume
    | inr other ↦
        fetch_clean (without_gone c (g ∷ [])) gone fid parent node logs may.1
        (ap is_some (gone_else fids_total exact_fids c.held.nodes g fid other) ∙ there) volume
  ]

  -- ---- a fetch

  -- what may replace what a client holds may replace what is left of it
  pub replaces_left : (c : ClientState) (gone : List Fid) (fid : Fid) (node : Node) → MayReplace cell c fid node
      → MayReplace cell (without_gone c gone) fid node
  replaces_left c [] fid node may = record { kind = may.kind; within = may.within; made = may.made }
  replaces_left c (g ∷ gone) fid node may =
      replaces_left (without_gone c (g ∷ [])) gone fid node
      (record { kind = λ is. may.kind (dir_was c.held.nodes g fid is); within = may.within; made = may.made })

  module _ (c : ClientState) (fid : Fid) (parent : Option Fid) (node : Node) (h : IsHolding cell c)
      (logs : AreOfTheirVolumes (as_client c)) (may : MayEnter (as_client c) (kept.Fetched fid parent node))
      (replaces : MayReplace cell c fid node)
      (made : IsMade fid.volume (done_on cell fid.vnode fid.volume) fid) where
    abbrev behind : ClientState
    behind = client_after c (Fetched fid parent node)

    abbrev nodes : Nodes
    nodes = map.insert c.held.nodes fid node

    -- where the client holds it already, no log mentions it
    clean : has c.held.nodes fid ≡ true → IsClean c fid
    clean there volume = false_from_ne_true _ (λ m.
        may.0 (there, ap (λ w. is_mentioned (c.volumes w) fid) (logs volume fid m) ∙ m))

    children : (o : Option Node) → map.get c.held.nodes fid ≡ o → (w : ℕ)
        → AreChildrenKept nodes (pending (c.volumes w))
    children None none w = λ dir kid makes. elim (h.kept w dir kid makes) [
      | inl left ↦ inl left
      | inr at ↦ inr (at.0, child_fetched c.held.nodes fid dir kid node at.0 none at.1)
    ]
    children (Some old) some w =
        (caches_stay_in_order.again cell c fid node h (ap is_some some) (clean (ap is_some some)) replaces).kept w

    -- behind it all is in order, where what is held is a forest below directories
    pub fetched_holding : IsForest behind.held → AreUnderDirs behind.held → IsHolding cell behind
    fetched_holding forest under = record {
      under = under;
      forest = forest;
      within = within_fetch c.held.nodes fid node h.within (λ name kid is. replaces.within name kid is);
      made = λ f is. elim (fid_cases f fid) [
        | inl same ↦ subst (λ g. IsMade g.volume (done_on cell g.vnode g.volume) g) (sym same) made
        | inr other ↦ h.made f (sym (ap is_some (get_else fids_total exact_fids c.held.nodes fid node f other)) ∙ is)
      ];
      named = λ dir kid name is. elim (fid_cases dir fid) [
        | inl same ↦
            replaces.made name kid
            (sym (ap (λ d. child nodes d name) same ∙ ap (λ o. child_of o name) (get_here fids_total c.held.nodes fid node))
            ∙ is)
        | inr other ↦
            h.named dir kid name
            (sym (ap (λ o. child_of o name) (get_else fids_total exact_fids c.held.nodes fid node dir other)) ∙ is)
      ];
      kept = λ w. children (map.get c.held.nodes fid) refl w;
    }
