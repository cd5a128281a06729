-- What a client holds stays in order where an object that no log mentions is fetched again, or dropped.
use Rattle.std.proofs.Common.{◌≡◌, ◌≢◌, true, false, Some, None, is_some, sym, ap, subst, ◌∙◌, inl, inr}
use Rattle.std.specs.FinMap as map
use Rattle.std.proofs.lemmas.Bool.{cases_Bool, false≢true}
use Rattle.std.proofs.lemmas.Option.{none-some}
use Rattle.coda_fid.specs.declared.fid.Fid.{Fid}
use Rattle.coda_fid.proofs.Fids.{fids_total, exact_fids}
use Rattle.coda_tree.specs.declared.node.Node.{Node}
use Rattle.coda_tree.specs.Bindings.{Name}
use Rattle.coda_tree.specs.Volume.{Nodes, child, child_of, has, IsDir, IsDirNode, IsDirAt}
use Rattle.coda_tree.proofs.Order.{fid_cases, get_here, get_else, gone_here, gone_else}
use Rattle.coda_cml.specs.Steady.{any_record, unbinds}
use Rattle.coda_plain.specs.Cell.{PlainCell}
use Rattle.coda_venus.specs.Held.{Parents, Held, held_after_fetch, held_after_drop}
use Rattle.coda_histories.specs.Forests.{IsForest}
use Rattle.coda_cell.specs.Held.{AreUnderDirs}
use Rattle.coda_cell.specs.Laws.{IsClean, MayReplace, CachesStayInOrder}
use Rattle.coda_cell.specs.Kept.{AreChildrenKept, IsHolding}
use Rattle.coda_cell.specs.State.{pending, ClientVolume, ClientState}
use Rattle.coda_cell.specs.Accepting.{is_mentioned}
use Rattle.coda_histories.proofs.Forests.{forest_same}
use Rattle.coda_cell.proofs.Mentioned.{log_mentions}
use Rattle.coda_cell.proofs.Within.{within_fetch}

-- what is put where something stands: all stands there that stood there
there_again : (m : Nodes) (fid : Fid) (node : Node) (f : Fid) → has m f ≡ true → has (map.insert m fid node) f ≡ true
there_again m fid node f is = elim (fid_cases f fid) [
  | inl same ↦ ap is_some (ap (map.get (map.insert m fid node)) same ∙ get_here fids_total m fid node)
  | inr other ↦ ap is_some (get_else fids_total exact_fids m fid node f other) ∙ is
]

under_again : (h : Held) (fid : Fid) (node : Node) → (IsDirAt h.nodes fid → IsDir node.kind) → AreUnderDirs h → AreUnderDirs (held_after_fetch h fid None node)
under_again h fid node kind under = λ f p is. let at = under f p is in (
  elim (fid_cases p fid) [
    | inl same ↦ subst IsDirNode (sym (ap (map.get (map.insert h.nodes fid node)) same ∙ get_here fids_total h.nodes fid node)) (kind (subst (IsDirAt h.nodes) same at.0))
    | inr other ↦ subst IsDirNode (sym (get_else fids_total exact_fids h.nodes fid node p other)) at.0
  ],
  at.1,
)

children_again : (m : Nodes) (v : ClientVolume) (fid : Fid) (node : Node) → is_mentioned v fid ≡ false → AreChildrenKept m (pending v) → AreChildrenKept (map.insert m fid node) (pending v)
children_again m v fid node clean kept = λ dir kid made. elim (kept dir kid made) [
  | inl left ↦ inl left
  | inr at ↦ elim (cases_Bool (any_record (unbinds kid) (pending v))) [
    | inl left ↦ inl left
    | inr still ↦ elim (fid_cases dir fid) [
      | inl same ↦ absurd (false≢true (sym clean ∙ ap (is_mentioned v) (sym same) ∙ log_mentions dir kid v made still))
      | inr other ↦ inr (at.0, ap (λ o. child_of o at.0) (get_else fids_total exact_fids m fid node dir other) ∙ at.1)
    ]
  ]
]

holding_again : (cell : PlainCell) (c : ClientState) (fid : Fid) (node : Node) → IsHolding cell c → has c.held.nodes fid ≡ true → IsClean c fid → MayReplace cell c fid node
    → IsHolding cell (record c { held = record c.held { nodes = map.insert c.held.nodes fid node } })
holding_again cell c fid node h there clean may = record {
  under = under_again c.held fid node may.kind h.under;
  forest = forest_same c.held (map.insert c.held.nodes fid node) (there_again c.held.nodes fid node) h.forest;
  within = within_fetch c.held.nodes fid node h.within (λ name kid is. may.within name kid is);
  made = λ f is. elim (fid_cases f fid) [
    | inl same ↦ h.made f (subst (λ g. has c.held.nodes g ≡ true) (sym same) there)
    | inr other ↦ h.made f (sym (ap is_some (get_else fids_total exact_fids c.held.nodes fid node f other)) ∙ is)
  ];
  named = λ dir kid name is. elim (fid_cases dir fid) [
    | inl same ↦ may.made name kid (sym (ap (λ d. child (map.insert c.held.nodes fid node) d name) same ∙ ap (λ o. child_of o name) (get_here fids_total c.held.nodes fid node)) ∙ is)
    | inr other ↦ h.named dir kid name (sym (ap (λ o. child_of o name) (get_else fids_total exact_fids c.held.nodes fid node dir other)) ∙ is)
  ];
  kept = λ volume. children_again c.held.nodes (c.volumes volume) fid node (clean volume) (h.kept volume);
}

-- ---- an object that is dropped

module _ (m : Nodes) (fid : Fid) where
  -- what is there still was there, and is another object
  there_was : (f : Fid) → has (map.remove m fid) f ≡ true → (f ≢ fid) × (has m f ≡ true)
  there_was f is = elim (fid_cases f fid) [
    | inl same ↦ absurd (false≢true (sym (ap is_some (ap (map.get (map.remove m fid)) same ∙ gone_here fids_total m fid)) ∙ is))
    | inr other ↦ (other, sym (ap is_some (gone_else fids_total exact_fids m fid f other)) ∙ is)
  ]

  -- what is bound still was bound
  child_was : (dir f : Fid) (name : Name) → child (map.remove m fid) dir name ≡ Some f → child m dir name ≡ Some f
  child_was dir f name is = elim (fid_cases dir fid) [
    | inl same ↦ absurd (none-some f (sym (ap (λ o. child_of o name) (ap (map.get (map.remove m fid)) same ∙ gone_here fids_total m fid)) ∙ is))
    | inr other ↦ sym (ap (λ o. child_of o name) (gone_else fids_total exact_fids m fid dir other)) ∙ is
  ]

  children_dropped : (v : ClientVolume) → is_mentioned v fid ≡ false → AreChildrenKept m (pending v) → AreChildrenKept (map.remove m fid) (pending v)
  children_dropped v clean kept = λ dir kid made. elim (kept dir kid made) [
    | inl left ↦ inl left
    | inr at ↦ elim (cases_Bool (any_record (unbinds kid) (pending v))) [
      | inl left ↦ inl left
      | inr still ↦ elim (fid_cases dir fid) [
        | inl same ↦ absurd (false≢true (sym clean ∙ ap (is_mentioned v) (sym same) ∙ log_mentions dir kid v made still))
        | inr other ↦ inr (at.0, ap (λ o. child_of o at.0) (gone_else fids_total exact_fids m fid dir other) ∙ at.1)
      ]
    ]
  ]

-- the parents that are left were parents before, of other objects
parent_was : (parents : Parents) (fid f p : Fid) → map.get (map.remove parents fid) f ≡ Some p → (f ≢ fid) × (map.get parents f ≡ Some p)
parent_was parents fid f p is = elim (fid_cases f fid) [
  | inl same ↦ absurd (none-some p (sym (ap (map.get (map.remove parents fid)) same ∙ gone_here fids_total parents fid) ∙ is))
  | inr other ↦ (other, sym (gone_else fids_total exact_fids parents fid f other) ∙ is)
]

module _ (held : Held) (fid : Fid) (alone : (f : Fid) → map.get held.parents f ≢ Some fid) where
  -- a parent isn't what was dropped
  parent_stays : (f p : Fid) → map.get held.parents f ≡ Some p → p ≢ fid
  parent_stays f p is = λ same. alone f (is ∙ ap Some same)

  under_dropped : AreUnderDirs held → AreUnderDirs (held_after_drop held fid)
  under_dropped under = λ f p is. (
      let was = (parent_was held.parents fid f p is).1 in
      let at = under f p was in
      (subst IsDirNode (sym (gone_else fids_total exact_fids held.nodes fid p (parent_stays f p was))) at.0, at.1))

  forest_dropped : IsForest held → IsForest (held_after_drop held fid)
  forest_dropped forest = record {
    kids = λ f p is. (let was = parent_was held.parents fid f p is in ap is_some (gone_else fids_total exact_fids held.nodes fid f was.0) ∙ forest.kids f p was.1);
    parents = λ f p is. (let was = (parent_was held.parents fid f p is).1 in ap is_some (gone_else fids_total exact_fids held.nodes fid p (parent_stays f p was)) ∙ forest.parents f p was);
    depth = forest.depth;
    deeper = λ f p is. forest.deeper f p (parent_was held.parents fid f p is).1;
  }

holding_dropped : (cell : PlainCell) (c : ClientState) (fid : Fid) → IsHolding cell c → IsClean c fid → ((f : Fid) → map.get c.held.parents f ≢ Some fid) → IsHolding cell (record c { held = held_after_drop c.held fid })
holding_dropped cell c fid h clean alone = record {
  under = under_dropped c.held fid alone h.under;
  forest = forest_dropped c.held fid alone h.forest;
  within = λ dir kid name is. h.within dir kid name (child_was c.held.nodes fid dir kid name is);
  made = λ f is. h.made f (there_was c.held.nodes fid f is).1;
  named = λ dir kid name is. h.named dir kid name (child_was c.held.nodes fid dir kid name is);
  kept = λ volume. children_dropped c.held.nodes fid (c.volumes volume) (clean volume) (h.kept volume);
}

pub caches_stay_in_order : CachesStayInOrder
caches_stay_in_order = record { again = holding_again; dropped = holding_dropped }
