-- Each object with a parent stays held.
use Rattle.std.proofs.Common.{◌≡◌, ◌≢◌, ℕ, true, false, cond, not, Option, Some, None, IsSome, is_some}
use Rattle.std.proofs.Common.{refl, sym, ap, ◌∙◌, ⊎_elim, inl, inr, ◌⊎◌}
use Rattle.std.proofs.lemmas.Option.{none-some, same_Some}
use Rattle.std.specs.FinMap as map
use Rattle.coda_fid.specs.declared.fid.Fid.{Fid}
use Rattle.coda_fid.specs.declared.op.Op.{Op}
use Rattle.coda_fid.specs.declared.op.Op.TheVariants.{Create, Mkdir, Symlink, Store, Setattr, Remove, Rmdir, Rename}
use Rattle.coda_fid.specs.declared.op.Record.{Record}
use Rattle.coda_fid.proofs.Fids.{fids_total, exact_fids}
use Rattle.coda_tree.specs.declared.node.Node.{Node}
use Rattle.coda_tree.specs.Volume.{Nodes, has}
use Rattle.coda_tree.proofs.Order.{fid_cases, get_here, get_else, gone_here, gone_else}
use Rattle.coda_certify.specs.Replay.{applied}
use Rattle.coda_cache.specs.Steps.{new_node}
use Rattle.coda_cache.proofs.Operated.{applied_made}
use Rattle.coda_venus.specs.Accepting.{Sight, sight_of}
use Rattle.coda_venus.specs.Held.{Held, Parents, is_below, stays, parents_after, held_without, held_after_operation}
use Rattle.coda_venus.specs.Held.{held_after_fetch, held_after_drop, taken_out as goes_out}
use Rattle.coda_venus.specs.History.{MayOperate}
use Rattle.coda_venus.specs.State.{ClientState}
use Rattle.coda_venus.proofs.Accepted.{Relies, accepted_relies}
use Rattle.coda_rounds.specs.Places.{AreHeld}
use Rattle.coda_rounds.proofs.HeldBehind.{IsApart, held_behind, same_out}

-- ---- operations

-- a parent that is left was there, of an object that isn't below what goes
parent_left : (h : Held) (nodes : Nodes) (later : Parents) (o : Option Fid) (f p : Fid)
    → map.get (held_without o h.parents (record { nodes = nodes; parents = later })).parents f ≡ Some p
    → ((x : Fid) → o ≡ Some x → is_below h.parents f x ≡ false) × (map.get later f ≡ Some p)
parent_left h nodes later None f p at = (λ x e. absurd (none-some x e), at)
parent_left h nodes later (Some gone) f p at = (elim (is_below h.parents f gone) as (λ b. is_below h.parents f gone ≡ b
    → cond (not b) (map.get later f) None ≡ Some p
    → ((x : Fid) → Some gone ≡ Some x → is_below h.parents f x ≡ false) × (map.get later f ≡ Some p)) [
      | true ↦ λ t k. absurd (none-some p k)
      | false ↦ λ t k. (λ x e. ap (is_below h.parents f) (sym (same_Some gone x e)) ∙ t, k)
    ]) refl (sym (map.get-retain_keys later (stays h.parents gone) f
    (λ x e. ap (stays h.parents gone) (sym (exact_fids f x e)))) ∙ at)

-- who has a parent then had one, or is made, or is moved, and so held
module _ (h : Held) (kept : AreHeld h) where
  put_kept : (it dir f p : Fid) → map.get (map.insert h.parents it dir) f ≡ Some p
      → (f ≡ it) ⊎ IsSome (map.get h.nodes f)
  put_kept it dir f p at = elim (fid_cases f it) [
    | inl same ↦ inl same
    | inr off ↦ inr (kept f p (sym (get_else fids_total exact_fids h.parents it dir f off) ∙ at))
  ]

  made_or_held : (s : Sight) (volume : ℕ) (op : Op) (f p : Fid) → s.held ≡ h → Relies s volume op
      → map.get (parents_after h.parents op) f ≡ Some p
      → ((dir : Fid) × (new_node op ≡ Some (dir, f))) ⊎ IsSome (map.get h.nodes f)
  made_or_held s volume (Create dir name it mode owner) f p e r at = elim (put_kept it dir f p at) [
    | inl same ↦ inl (dir, ap (λ x. Some (dir, x)) (sym same))
    | inr there ↦ inr there
  ]
  made_or_held s volume (Mkdir dir name it mode owner) f p e r at = elim (put_kept it dir f p at) [
    | inl same ↦ inl (dir, ap (λ x. Some (dir, x)) (sym same))
    | inr there ↦ inr there
  ]
  made_or_held s volume (Symlink dir name it target mode owner) f p e r at = elim (put_kept it dir f p at) [
    | inl same ↦ inl (dir, ap (λ x. Some (dir, x)) (sym same))
    | inr there ↦ inr there
  ]
  made_or_held s volume (Store it pre content) f p e r at = inr (kept f p at)
  made_or_held s volume (Setattr it pre attrs) f p e r at = inr (kept f p at)
  made_or_held s volume (Remove dir name it pre) f p e r at = inr (kept f p at)
  made_or_held s volume (Rmdir dir name it pre) f p e r at = inr (kept f p at)
  made_or_held s volume (Rename from_dir from to_dir to it over) f p e r at = elim (put_kept it to_dir f p at) [
    | inl same ↦ inr (ap (λ x. is_some (map.get h.nodes x)) same ∙ ap (λ (k : Held). has k.nodes it) (sym e) ∙ r.there)
    | inr there ↦ inr there
  ]

-- what makes an object takes none out
made_stays : (op : Op) (dir f : Fid) (parents : Parents) (then_is : Held) → new_node op ≡ Some (dir, f)
    → held_without (goes_out op) parents then_is ≡ then_is
made_stays (Create d name it mode owner) dir f parents then_is e = refl
made_stays (Mkdir d name it mode owner) dir f parents then_is e = refl
made_stays (Symlink d name it target mode owner) dir f parents then_is e = refl
made_stays (Store it pre content) dir f parents then_is e = absurd (none-some (dir, f) e)
made_stays (Setattr it pre attrs) dir f parents then_is e = absurd (none-some (dir, f) e)
made_stays (Remove d name it pre) dir f parents then_is e = absurd (none-some (dir, f) e)
made_stays (Rmdir d name it pre) dir f parents then_is e = absurd (none-some (dir, f) e)
made_stays (Rename from_dir from to_dir to it over) dir f parents then_is e = absurd (none-some (dir, f) e)

pub operated_kept : (c : ClientState) (volume : ℕ) (rec : Record) → MayOperate c volume rec → AreHeld c.held
    → AreHeld (held_after_operation c.held c.number rec)
operated_kept c volume rec may kept f p at =
    let nodes = applied c.held.nodes c.number rec in
    let left = parent_left c.held nodes (parents_after c.held.parents rec.op) (goes_out rec.op) f p at in
    let apart : IsApart c.held c.number rec f = λ x e. left.0 x (same_out rec.op ∙ e) in
    ⊎_elim
    (λ (made : (dir : Fid) × (new_node rec.op ≡ Some (dir, f))).
    ap (λ (k : Held). has k.nodes f) (made_stays rec.op made.0 f c.held.parents
    (record { nodes = nodes; parents = parents_after c.held.parents rec.op }) made.1)
    ∙ (applied_made c.held.nodes c.number rec made.0 f made.1).0)
    (λ (there : IsSome (map.get c.held.nodes f)). held_behind c.held c.number rec f apart there)
    (made_or_held c.held kept (sight_of c volume) volume rec.op f p refl
    (accepted_relies (sight_of c volume) volume may.ask rec.op may.accepted) left.1)

-- ---- what is fetched or dropped

pub fetched_kept : (h : Held) (fid : Fid) (parent : Option Fid) (node : Node) → AreHeld h
    → AreHeld (held_after_fetch h fid parent node)
fetched_kept h fid parent node kept f p at = elim (fid_cases f fid) [
  | inl same ↦
      ap is_some (ap (map.get (map.insert h.nodes fid node)) same ∙ get_here fids_total h.nodes fid node)
  | inr off ↦ ap is_some (get_else fids_total exact_fids h.nodes fid node f off) ∙ kept f p (was parent off at)
]
  where
    was : (parent : Option Fid) → f ≢ fid → map.get (held_after_fetch h fid parent node).parents f ≡ Some p
        → map.get h.parents f ≡ Some p
    was None off at = at
    was (Some under) off at = sym (get_else fids_total exact_fids h.parents fid under f off) ∙ at

pub dropped_kept : (h : Held) (fid : Fid) → AreHeld h → AreHeld (held_after_drop h fid)
dropped_kept h fid kept f p at = elim (fid_cases f fid) [
  | inl same ↦
      absurd (none-some p (sym (ap (map.get (map.remove h.parents fid)) same ∙ gone_here fids_total h.parents fid)
      ∙ at))
  | inr off ↦
      ap is_some (gone_else fids_total exact_fids h.nodes fid f off)
      ∙ kept f p (sym (gone_else fids_total exact_fids h.parents fid f off) ∙ at)
]
