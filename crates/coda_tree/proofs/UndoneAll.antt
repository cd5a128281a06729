-- Edits that were made one after the other are undone in the opposite order.
use Rattle.std.proofs.Common.{◌≡◌, ℕ, List, [], ◌∷◌, ◌++◌, Option, Some, None, refl, sym, ap, ◌∙◌, subst, inl, inr}
use Rattle.std.specs.FinMap as map
use Rattle.std.proofs.lemmas.Option.{none-some, same_Some}
use Rattle.coda_fid.specs.declared.fid.Fid.{Fid}
use Rattle.coda_tree.specs.declared.undo.Undo.{Undo}
use Rattle.coda_tree.specs.Volume.{Nodes}
use Rattle.coda_tree.specs.Slots.{Slots, Slotted, nodes_in, IsWhole}
use Rattle.coda_tree.specs.Keeping.{IsKeptIn}
use Rattle.coda_tree.specs.Undoing.{MayUndo, undone, emptied, Undoes, MayUndoAll, undone_all, IsEmptiedBy, purged_where, purged_after, purged_all}
use Rattle.coda_tree.specs.Drafts.{CanUndo, drafted}
use Rattle.coda_tree.specs.Drafted.{with_nodes}
use Rattle.coda_tree.proofs.SlotMap.{nodes_purged}
use Rattle.coda_tree.proofs.KeptSlots.{kept_slots_purged, empty_purged}

-- the last edit is undone first
pub undone_push : (s : Slots) (us : List Undo) (u : Undo) → undone_all s (us ++ u ∷ []) ≡ undone_all (undone s u) us
undone_push s [] u = refl
undone_push s (x ∷ us) u = ap (λ (t : Slots). undone t x) (undone_push s us u)

pub may_push : (s : Slots) (us : List Undo) (u : Undo) → MayUndo s u → MayUndoAll (undone s u) us → MayUndoAll s (us ++ u ∷ [])
may_push s [] u may all = (tt, may)
may_push s (x ∷ us) u may all = (may_push s us u may all.0, subst (λ (t : Slots). MayUndo t x) (sym (undone_push s us u)) all.1)

pub may_pop : (s : Slots) (us : List Undo) (u : Undo) → MayUndoAll s (us ++ u ∷ []) → MayUndo s u × MayUndoAll (undone s u) us
may_pop s [] u all = (all.1, tt)
may_pop s (x ∷ us) u all =
    let rest = may_pop s us u all.0 in
    (rest.0, (rest.1, subst (λ (t : Slots). MayUndo t x) (undone_push s us u) all.1))

-- the start stays where an edit is made that can be undone
pub start_push : (s t : Slots) (us : List Undo) (u : Undo) → Undoes s t u → undone_all t (us ++ u ∷ []) ≡ undone_all s us
start_push s t us u can = undone_push t us u ∙ ap (λ (x : Slots). undone_all x us) can.back

emptied_last : (f : Fid) (us : List Undo) (u : Undo) → emptied u ≡ Some f → IsEmptiedBy f (us ++ u ∷ [])
emptied_last f [] u is = inl is
emptied_last f (x ∷ us) u is = inr (emptied_last f us u is)

emptied_more : (f : Fid) (us : List Undo) (u : Undo) → IsEmptiedBy f us → IsEmptiedBy f (us ++ u ∷ [])
emptied_more f [] u by = absurd by
emptied_more f (x ∷ us) u by = elim by [ inl is ↦ inl is | inr rest ↦ inr (emptied_more f us u rest) ]

-- and so do the other facts of a draft
pub can_push : (number : ℕ) (s t : Slots) (us : List Undo) (u : Undo) → CanUndo number s us → Undoes s t u → CanUndo number t (us ++ u ∷ [])
can_push number s t us u can undoes =
    let same = start_push s t us u undoes in
    record {
      may = may_push t us u undoes.may (subst (λ (x : Slots). MayUndoAll x us) (sym undoes.back) can.may);
      kept = subst (λ (x : Slots). IsKeptIn number x) (sym same) can.kept;
      whole = subst (λ (x : Slots). IsWhole x) (sym same) can.whole;
      empties = λ f empty. elim (undoes.empties f empty) [
        | inl is ↦ emptied_last f us u is
        | inr was ↦ emptied_more f us u (can.empties f was)
      ];
    }

-- a draft after one more edit
pub can_pushed : (number number' : ℕ) (s t : Slots) (us us' : List Undo) (u : Undo) → number' ≡ number → us' ≡ us ++ u ∷ [] → CanUndo number s us → Undoes s t u → CanUndo number' t us'
can_pushed number number' s t us us' u same is can undoes = subst (λ n. CanUndo n t us') (sym same) (subst (λ (l : List Undo). CanUndo number t l) (sym is) (can_push number s t us u can undoes))

pub drafted_pushed : (b b' : Slotted) (us us' : List Undo) (u : Undo) (n : Nodes) → b'.number ≡ b.number → us' ≡ us ++ u ∷ [] → Undoes b.slots b'.slots u → nodes_in b'.slots ≡ n → drafted b' us' ≡ with_nodes (drafted b us) n
drafted_pushed b b' us us' u n same is undoes nodes =
    let start = ap (λ (l : List Undo). nodes_in (undone_all b'.slots l)) is ∙ ap (λ (s : Slots). nodes_in s) (start_push b.slots b'.slots us u undoes) in
    λ i. record { number = same i; start = start i; nodes = nodes i }

-- ---- slots taken away

pub purged_push : (s : Slots) (us : List Undo) (u : Undo) → purged_all s (us ++ u ∷ []) ≡ purged_all (purged_after s u) us
purged_push s [] u = refl
purged_push s (x ∷ us) u = ap (λ (t : Slots). purged_after t x) (purged_push s us u)

kept_where : (number : ℕ) (s : Slots) (o : Option Fid) → IsKeptIn number s → IsKeptIn number (purged_where s o)
kept_where number s None k = k
kept_where number s (Some f) k = kept_slots_purged number s k f

pub kept_purged_all : (number : ℕ) (s : Slots) (us : List Undo) → IsKeptIn number s → IsKeptIn number (purged_all s us)
kept_purged_all number s [] k = k
kept_purged_all number s (u ∷ us) k = kept_where number (purged_all s us) (emptied u) (kept_purged_all number s us k)

nodes_where : (s : Slots) (o : Option Fid) → nodes_in (purged_where s o) ≡ nodes_in s
nodes_where s None = refl
nodes_where s (Some f) = nodes_purged s f

pub nodes_purged_all : (s : Slots) (us : List Undo) → nodes_in (purged_all s us) ≡ nodes_in s
nodes_purged_all s [] = refl
nodes_purged_all s (u ∷ us) = nodes_where (purged_all s us) (emptied u) ∙ nodes_purged_all s us

empty_where : (s : Slots) (o : Option Fid) (q : Fid) → map.get (purged_where s o) q ≡ Some None → (o ≡ Some q → ⊥) × (map.get s q ≡ Some None)
empty_where s None q empty = (λ is. none-some q is, empty)
empty_where s (Some f) q empty = let was = empty_purged s f q empty in (λ is. was.0 (sym (same_Some f q is)), was.1)

-- what is empty then was so before, and no edit emptied it
empty_purged_all : (s : Slots) (us : List Undo) (q : Fid) → map.get (purged_all s us) q ≡ Some None → (IsEmptiedBy q us → ⊥) × (map.get s q ≡ Some None)
empty_purged_all s [] q empty = (λ by. by, empty)
empty_purged_all s (u ∷ us) q empty =
    let here = empty_where (purged_all s us) (emptied u) q empty in
    let rest = empty_purged_all s us q here.1 in
    (λ by. elim by [ inl is ↦ here.0 is | inr later ↦ rest.0 later ], rest.1)

-- so no slot is
pub whole_purged_all : (s : Slots) (us : List Undo) → ((f : Fid) → map.get s f ≡ Some None → IsEmptiedBy f us) → IsWhole (purged_all s us)
whole_purged_all s us by q empty = let left = empty_purged_all s us q empty in left.0 (by q left.1)
