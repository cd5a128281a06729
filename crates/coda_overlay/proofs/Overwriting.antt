-- A list that drops what an operation makes needless makes of one object what the whole list and the operation do.
use Rattle.std.proofs.Common.{◌≡◌, ℕ, Bool, true, false, cond, List, [], ◌∷◌, ◌++◌, Option, Some, None, refl, sym, ap}
use Rattle.std.proofs.Common.{◌∙◌, subst}
use Rattle.std.specs.FinMap as map
use Rattle.coda_fid.specs.Fid.{fid_cmp}
use Rattle.coda_fid.specs.Op.{carried}
use Rattle.coda_fid.specs.declared.fid.Fid.{Fid}
use Rattle.coda_fid.specs.declared.op.Op.{Op}
use Rattle.coda_fid.specs.declared.op.Record.{Record}
use Rattle.coda_fid.proofs.Fids.{fids_total}
use Rattle.coda_tree.specs.declared.node.Node.{Node}
use Rattle.coda_tree.specs.declared.node.NodeKind.{NodeKind}
use Rattle.coda_tree.specs.declared.node.NodeKind.TheVariants.{File, Link, Dir}
use Rattle.coda_tree.specs.Volume.{Nodes, child_of, IsDirNode, with_kind, edited_all}
use Rattle.coda_tree.proofs.Order.{get_here}
use Rattle.coda_certify.specs.Replay.{effects, sid_of, applied}
use Rattle.coda_cancel.specs.Handing.{Debt, nothing, owe, paid, hand, sid_or}
use Rattle.coda_cancel.specs.Dropping.{drops}
use Rattle.coda_cancel.specs.Cancel.{kept, debt, appended}
use Rattle.coda_cancel.proofs.Keys.{carries}
use Rattle.coda_cml.proofs.volumes.Overwritten.{no_version, everything, plain, child-written, veiled, veiled_over}
use Rattle.coda_cml.proofs.volumes.Overwritten.{edits_alike, look_alike}
use Rattle.coda_cml.proofs.volumes.Versions.{effects-with_pre}
use Rattle.coda_cml.proofs.volumes.Appending.{reach, dropped_covered, unseen}
use Rattle.coda_overlay.specs.Objects.{operated_at}
use Rattle.coda_overlay.specs.Overlaying.{FindsItsNames, Overlays}
use Rattle.coda_overlay.proofs.Copies.{get-applied, finds_same, finds_with_pre}

-- ---- nodes that look alike

dir_of_plain : (o : Option Node) → IsDirNode (plain o) → IsDirNode o
dir_of_plain None h = h
dir_of_plain (Some node) h = go node.kind h
  where
    go : (kind : NodeKind) → IsDirNode (plain (Some (with_kind node kind))) → IsDirNode (Some (with_kind node kind))
    go (File content) h = h
    go (Link target) h = h
    go (Dir entries) h = h

plain_of_dir : (o : Option Node) → IsDirNode o → IsDirNode (plain o)
plain_of_dir None h = h
plain_of_dir (Some node) h = go node.kind h
  where
    go : (kind : NodeKind) → IsDirNode (Some (with_kind node kind)) → IsDirNode (plain (Some (with_kind node kind)))
    go (File content) h = h
    go (Link target) h = h
    go (Dir entries) h = h

finds_plain : (f : Fid) (a b : Option Node) → plain a ≡ plain b → (op : Op) → FindsItsNames f a op → FindsItsNames f b op
finds_plain f a b e op h =
    finds_same f a b (λ n. sym (child-written everything no_version a n) ∙ ap (λ o. child_of o n) e ∙ child-written
    everything no_version b n)
    (λ d. dir_of_plain b (subst IsDirNode e (plain_of_dir a d))) op h

-- ---- one object of many

-- each of the records finds its names at q, and all leave these nodes
abbrev LedIn : Fid → ℕ → Nodes → List Record → Nodes → Type 0
LedIn q client v [] w = v ≡ w
LedIn q client v (rec ∷ recs) w = FindsItsNames q (map.get v q) rec.op × LedIn q client (applied v client rec) recs w

led_in : (q : Fid) (client : ℕ) (recs : List Record) (v : Nodes) (o left : Option Node) → map.get v q ≡ o
    → Overlays q client o recs left → (w : Nodes) × LedIn q client v recs w × (map.get w q ≡ left)
led_in q client [] v o left e h = (v, refl, e ∙ h)
led_in q client (rec ∷ recs) v o left e h =
    let next = led_in q client recs (applied v client rec) (operated_at q client rec o) left (get-applied q client rec v ∙ ap (operated_at q client rec) e) h.1 in
    (next.0, (subst (λ y. FindsItsNames q y rec.op) (sym e) h.0, next.1), next.2)

led_out : (q : Fid) (client : ℕ) (recs : List Record) (v w : Nodes) → LedIn q client v recs w
    → Overlays q client (map.get v q) recs (map.get w q)
led_out q client [] v w h = ap (λ (m : Nodes). map.get m q) h
led_out q client (rec ∷ recs) v w h = (
  h.0,
  subst (λ o. Overlays q client o recs (map.get w q)) (get-applied q client rec v)
      (led_out q client recs (applied v client rec) w h.1),
)

-- nodes with this at q
abbrev only : Fid → Option Node → Nodes
only q None = map.empty
only q (Some node) = map.insert map.empty q node

get-only : (q : Fid) (o : Option Node) → map.get (only q o) q ≡ o
get-only q None = map.get-empty fid_cmp q
get-only q (Some node) = get_here fids_total map.empty q node

module _ (q : Fid) (client : ℕ) (f : Fid) (o : Record) (k : carries f o.op ≡ true) where
  -- nodes that the operation makes alike
  abbrev Beside : Nodes → Nodes → Type 0
  Beside v u = veiled f (reach o.time o.op) no_version v ≡ veiled f (reach o.time o.op) no_version u

  finds_beside : (v u : Nodes) → Beside v u → (op : Op) → FindsItsNames q (map.get v q) op
      → FindsItsNames q (map.get u q) op
  finds_beside v u a op h =
      finds_plain q (map.get v q) (map.get u q) (look_alike f (reach o.time o.op) no_version v u a q) op h

  last : (owed : Debt) (v u : Nodes) → Beside v u → FindsItsNames q (map.get v q) o.op
      → LedIn q client u (hand owed o ∷ []) (applied v client o)
  unfolding applied
  last owed v u a c = (
    finds_with_pre q (map.get u q) (λ g p. sid_or (owed g) p) o.op (finds_beside v u a o.op c),
    ap (λ es. edited_all u es) (effects-with_pre (λ g p. sid_or (owed g) p) o.time (sid_of client o) o.op)
        ∙ (sym (unseen f o.time no_version (sid_of client o) o.op k u)
        ∙ (ap (λ y. edited_all y (effects o.time (sid_of client o) o.op)) (sym a) ∙ unseen f o.time no_version
        (sid_of client o) o.op k v)),
  )

  after_drop : (v u : Nodes) → Beside v u → (r : Record) → drops o.op r.op ≡ true → Beside (applied v client r) u
  unfolding applied
  after_drop v u a r d =
      let h = dropped_covered f o.time no_version o.op r.op k d in
      let e = h.effect r.time (sid_of client r) in
      subst (λ es. Beside (edited_all v es) u) (sym e.1)
      (veiled_over f (reach o.time o.op) no_version e.0 (sid_of client r) e.2 v ∙ a)

  after_kept : (owed : Debt) (v u : Nodes) → Beside v u → (r : Record)
      → Beside (applied v client r) (applied u client (hand owed r))
  unfolding applied
  after_kept owed v u a r =
      subst (λ es. Beside (edited_all v (effects r.time (sid_of client r) r.op)) (edited_all u es))
      (sym (effects-with_pre (λ g p. sid_or (owed g) p) r.time (sid_of client r) r.op))
      (edits_alike f (reach o.time o.op) no_version (effects r.time (sid_of client r) r.op) v u a)

  sim : (rs : List Record) (owed : Debt) (v u w : Nodes) → Beside v u → LedIn q client v rs w
      → FindsItsNames q (map.get w q) o.op
      → LedIn q client u (kept (drops o.op) owed rs ++ hand (debt (drops o.op) owed rs) o ∷ []) (applied w client o)
  sim [] owed v u w a h c =
      subst (λ x. LedIn q client u (hand owed o ∷ []) (applied x client o)) h
      (last owed v u a (subst (λ x. FindsItsNames q (map.get x q) o.op) (sym h) c))
  sim (r ∷ rs) owed v u w a h c = go (drops o.op r.op) refl
      (λ d. sim rs (owe owed (carried r.op)) (applied v client r) u w (after_drop v u a r d) h.1 c) (
        finds_with_pre q (map.get u q) (λ g p. sid_or (owed g) p) r.op (finds_beside v u a r.op h.0),
        sim rs
            (paid owed (carried r.op)) (applied v client r) (applied u client (hand owed r)) w (after_kept owed v u a r) h.1
            c,
      )
    where
      go : (b : Bool) → drops o.op r.op ≡ b →
          (drops o.op r.op ≡ true → LedIn q client u
          (kept (drops o.op) (owe owed (carried r.op)) rs ++ hand (debt (drops o.op) (owe owed (carried r.op)) rs) o
          ∷ []) (applied w client o)) →
          LedIn q client u ((hand owed r ∷ kept (drops o.op) (paid owed (carried r.op)) rs) ++ hand
          (debt (drops o.op) (paid owed (carried r.op)) rs) o ∷ []) (applied w client o) →
          LedIn q client u (cond b (kept (drops o.op) (owe owed (carried r.op)) rs)
          (hand owed r ∷ kept (drops o.op) (paid owed (carried r.op)) rs) ++ hand
          (cond b (debt (drops o.op) (owe owed (carried r.op)) rs) (debt (drops o.op) (paid owed (carried r.op)) rs))
          o ∷ []) (applied w client o)
      go true e dropped stays = dropped e
      go false e dropped stays = stays

  -- the operation stays, and what it makes needless goes
  pub appended_leads : (rs : List Record) (given now : Option Node) → Overlays q client given rs now
      → FindsItsNames q now o.op → Overlays q client given (appended rs o) (operated_at q client o now)
  appended_leads rs given now h c =
      let start = only q given in
      let at : map.get start q ≡ given = get-only q given in
      let in_nodes = led_in q client rs start given now at h in
      let led : LedIn q client start (appended rs o) (applied in_nodes.0 client o) = sim rs nothing start start in_nodes.0 refl in_nodes.1 (subst (λ y. FindsItsNames q y o.op) (sym in_nodes.2) c) in
      let out : Overlays q client (map.get start q) (appended rs o) (map.get (applied in_nodes.0 client o) q) = led_out q client (appended rs o) start (applied in_nodes.0 client o) led in
      subst (λ y. Overlays q client given (appended rs o) y)
      (get-applied q client o in_nodes.0 ∙ ap (operated_at q client o) in_nodes.2)
      (subst (λ y. Overlays q client y (appended rs o) (map.get (applied in_nodes.0 client o) q)) at out)
