-- What a client holds behind an operation, by what it held before.
use Rattle.std.proofs.Common.{◌≡◌, ◌≢◌, ℕ, true, false, cond, not, Option, Some, None, is_some}
use Rattle.std.proofs.Common.{refl, sym, ap, ◌∙◌, inl, inr, ◌⊎◌}
use Rattle.std.proofs.lemmas.Bool.{false≢true}
use Rattle.std.proofs.lemmas.Option.{none-some, same_Some}
use Rattle.std.specs.FinMap as map
use Rattle.coda_fid.specs.declared.fid.Fid.{Fid}
use Rattle.coda_fid.specs.declared.op.Op.{Op}
use Rattle.coda_fid.specs.declared.op.Op.TheVariants.{Create, Mkdir, Symlink, Store, Setattr, Remove, Rmdir, Rename}
use Rattle.coda_fid.specs.declared.op.Record.{Record}
use Rattle.coda_fid.proofs.Fids.{fids_total, exact_fids}
use Rattle.coda_tree.specs.Volume.{Nodes, has}
use Rattle.coda_tree.proofs.Order.{fid_cases, get_else}
use Rattle.coda_certify.specs.Replay.{applied}
use Rattle.coda_cache.specs.Steps.{new_node, taken_out, moved_node}
use Rattle.coda_cache.proofs.Operated.{applied_made, applied_left}
use Rattle.coda_venus.specs.Held.{Held, Parents, is_below, stays, parents_after, held_without, held_after_operation}
use Rattle.coda_venus.specs.Held.{taken_out as goes_out}
use Rattle.coda_histories.proofs.Ways.{get_left, below_itself}

pub same_out : (op : Op) → goes_out op ≡ taken_out op
same_out (Create dir name fid mode owner) = refl
same_out (Mkdir dir name fid mode owner) = refl
same_out (Symlink dir name fid target mode owner) = refl
same_out (Store fid pre content) = refl
same_out (Setattr fid pre attrs) = refl
same_out (Remove dir name fid pre) = refl
same_out (Rmdir dir name fid pre) = refl
same_out (Rename from_dir from to_dir to fid over) = refl

module _ (h : Held) (client : ℕ) (rec : Record) where
  abbrev then_held : Held
  then_held = held_after_operation h client rec

  abbrev then_nodes : Nodes
  then_nodes = applied h.nodes client rec

  abbrev then_parents : Parents
  then_parents = parents_after h.parents rec.op

  -- it isn't below what is taken out
  abbrev pub IsApart : Fid → Type 0
  IsApart q = (x : Fid) → taken_out rec.op ≡ Some x → is_below h.parents q x ≡ false

  -- ---- by what is taken out

  node_left : (o : Option Fid) (q : Fid) → has (held_without o h.parents (record { nodes = then_nodes; parents = then_parents })).nodes q ≡ true → (has then_nodes q ≡ true) × ((x : Fid) → o ≡ Some x → is_below h.parents q x ≡ false)
  node_left None q is = (is, λ x e. absurd (none-some x e))
  node_left (Some gone) q is = (elim (is_below h.parents q gone) as (λ b. is_below h.parents q gone ≡ b
      → is_some (cond (not b) (map.get then_nodes q) None) ≡ true → (has then_nodes q ≡ true) × ((x : Fid) → Some gone
      ≡ Some x → is_below h.parents q x ≡ false)) [
        | true ↦ λ t k. absurd (false≢true k)
        | false ↦ λ t k. (k, λ x e. ap (is_below h.parents q) (sym (same_Some gone x e)) ∙ t)
      ]) refl (ap is_some (sym (get_left then_nodes (stays h.parents gone) q)) ∙ is)

  both_left : (o : Option Fid) (q : Fid) → ((x : Fid) → o ≡ Some x → is_below h.parents q x ≡ false)
      → let then_is : Held = held_without o h.parents (record { nodes = then_nodes; parents = then_parents }) in (map.get then_is.nodes q ≡ map.get then_nodes q) × (map.get then_is.parents q ≡ map.get then_parents q)
  both_left None q apart = (refl, refl)
  both_left (Some gone) q apart = (
    get_left then_nodes (stays h.parents gone) q ∙ ap (λ b. cond (not b) (map.get then_nodes q) None) (apart gone refl),
    get_left then_parents (stays h.parents gone) q ∙ ap (λ b. cond (not b) (map.get then_parents q) None)
        (apart gone refl),
  )

  out_here : (q x : Fid) → is_below h.parents q x ≡ false → q ≢ x
  out_here q x apart same =
      false≢true (sym apart ∙ ap (λ y. is_below h.parents y x) same ∙ below_itself h.parents x)

  -- ---- nodes

  was_there : (o : Option (Fid × Fid)) (q : Fid) → new_node rec.op ≡ o → IsApart q → has then_nodes q ≡ true
      → (has h.nodes q ≡ true) ⊎ ((dir : Fid) × (new_node rec.op ≡ Some (dir, q)))
  was_there None q e apart is =
      inl (sym ((applied_left h.nodes client rec e).1 q (λ t out. out_here q t (apart t out))) ∙ is)
  was_there (Some made) q e apart is = elim (fid_cases q made.1) [
    | inl same ↦ inr (made.0, e ∙ ap (λ f. Some (made.0, f)) (sym same))
    | inr off ↦ inl (sym ((applied_made h.nodes client rec made.0 made.1 e).1 q off) ∙ is)
  ]

  -- what is held then was held, or is made; and isn't below what is taken out
  pub held_before : (q : Fid) → has then_held.nodes q ≡ true → IsApart q × ((has h.nodes q ≡ true) ⊎ ((dir : Fid) × (new_node rec.op ≡ Some (dir, q))))
  held_before q is =
      let left = node_left (goes_out rec.op) q is in
      let apart : IsApart q = λ x out. left.1 x (same_out rec.op ∙ out) in
      (apart, was_there (new_node rec.op) q refl apart left.0)

  then_there : (o : Option (Fid × Fid)) (q : Fid) → new_node rec.op ≡ o → IsApart q → has h.nodes q ≡ true
      → has then_nodes q ≡ true
  then_there None q e apart is =
      (applied_left h.nodes client rec e).1 q (λ t out. out_here q t (apart t out)) ∙ is
  then_there (Some made) q e apart is = elim (fid_cases q made.1) [
    | inl same ↦ ap (has then_nodes) same ∙ (applied_made h.nodes client rec made.0 made.1 e).0
    | inr off ↦ (applied_made h.nodes client rec made.0 made.1 e).1 q off ∙ is
  ]

  -- what was held is held then, unless it is below what is taken out
  pub held_behind : (q : Fid) → IsApart q → has h.nodes q ≡ true → has then_held.nodes q ≡ true
  held_behind q apart is =
      ap is_some (both_left (goes_out rec.op) q (λ x out. apart x (sym (same_out rec.op) ∙ out))).0
      ∙ then_there (new_node rec.op) q refl apart is

  -- ---- parents

  put_elsewhere : (f p q : Fid) → (q ≡ f → ⊥) → map.get (map.insert h.parents f p) q ≡ map.get h.parents q
  put_elsewhere f p q off = get_else fids_total exact_fids h.parents f p q off

  own_parent : (op : Op) (q : Fid) → ((dir f : Fid) → new_node op ≡ Some (dir, f) → q ≢ f)
      → ((f dir : Fid) → moved_node op ≡ Some (f, dir) → q ≢ f)
      → map.get (parents_after h.parents op) q ≡ map.get h.parents q
  own_parent (Create dir name fid mode owner) q made moved = put_elsewhere fid dir q (made dir fid refl)
  own_parent (Mkdir dir name fid mode owner) q made moved = put_elsewhere fid dir q (made dir fid refl)
  own_parent (Symlink dir name fid target mode owner) q made moved = put_elsewhere fid dir q (made dir fid refl)
  own_parent (Store fid pre content) q made moved = refl
  own_parent (Setattr fid pre attrs) q made moved = refl
  own_parent (Remove dir name fid pre) q made moved = refl
  own_parent (Rmdir dir name fid pre) q made moved = refl
  own_parent (Rename from_dir from to_dir to fid over) q made moved = put_elsewhere fid to_dir q (moved fid to_dir refl)

  -- what is neither made nor moved has the same parent then, unless it is below what is taken out
  pub same_parent : (q : Fid) → IsApart q → ((dir f : Fid) → new_node rec.op ≡ Some (dir, f) → q ≢ f)
      → ((f dir : Fid) → moved_node rec.op ≡ Some (f, dir) → q ≢ f)
      → map.get then_held.parents q ≡ map.get h.parents q
  same_parent q apart made moved =
      (both_left (goes_out rec.op) q (λ x out. apart x (sym (same_out rec.op) ∙ out))).1 ∙ own_parent rec.op q made moved

  -- what isn't below what is taken out has the parent that the operation gives it
  pub parents_left : (q : Fid) → IsApart q → map.get then_held.parents q ≡ map.get then_parents q
  parents_left q apart = (both_left (goes_out rec.op) q (λ x out. apart x (sym (same_out rec.op) ∙ out))).1

  kept_by : (o : Option Fid) (q p : Fid) → map.get (held_without o h.parents (record { nodes = then_nodes; parents = then_parents })).parents q ≡ Some p
      → map.get then_parents q ≡ Some p
  kept_by None q p at = at
  kept_by (Some gone) q p at = (elim (stays h.parents gone q) as (λ b. cond b (map.get then_parents q) None ≡ Some p → map.get then_parents q ≡ Some p) [
    | true ↦ λ e. e
    | false ↦ λ e. absurd (none-some p e)
  ]) (sym (get_left then_parents (stays h.parents gone) q) ∙ at)

  -- a parent that is left is what the operation gave
  pub parents_kept : (q p : Fid) → map.get then_held.parents q ≡ Some p → map.get then_parents q ≡ Some p
  parents_kept q p at = kept_by (goes_out rec.op) q p at
