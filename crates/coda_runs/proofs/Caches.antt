-- What clients cache.
use Rattle.std.proofs.Common.{◌≡◌, ℕ, List, [], ◌∷◌, Option, Some, None, option_map, refl, sym, ap, ◌∙◌, subst, inl, inr}
use Rattle.coda_journal.specs.declared.header.Header.{Header}
use Rattle.coda_plain.specs.Cell.{ClientEntry}
use Rattle.coda_plain.proofs.Soundness.{none_joins}
use Rattle.coda_histories.specs.Forests.{IsForest}
use Rattle.coda_cell.specs.Held.{held_after}
use Rattle.coda_cell.specs.Made.{client_of}
use Rattle.coda_cell.specs.State.{ClientState, new_client, client_after, client_after_all}
use Rattle.coda_histories.proofs.Forests.{forest_none}
use Rattle.coda_shelves.specs.Cells.{Cell, asked, state_of}
use Rattle.coda_shelves.specs.Running.{IsKept}
use Rattle.coda_runs.specs.Caches.{CachesAreForests}

-- what is held after entries doesn't depend on the size of the cache
held_alike : (entries : List ClientEntry) (c d : ClientState) → c.held ≡ d.held → c.number ≡ d.number → (client_after_all c entries).held ≡ (client_after_all d entries).held
held_alike [] c d held number = held
held_alike (entry ∷ entries) c d held number = held_alike entries (client_after c entry) (client_after d entry) (λ i. held_after (held i) (number i) entry) number

some_client : (c d : ClientState) → Some c ≡ Some d → c ≡ d
some_client c d e = cc

module _ (cell : Cell) (kept : IsKept cell) (client : ℕ) where
  abbrev history : List ClientEntry
  history = (cell.clients client).disk.history

  -- whatever the size of its cache, a client holds a forest
  held_forest : (blocks : ℕ) → IsForest (client_of client history blocks).held
  held_forest blocks = elim (kept.shelves.clients client) [
    | inl none ↦ subst (λ (h : List ClientEntry). IsForest (client_of client h blocks).held) (sym none.1) forest_none
    | inr (header, has, own) ↦ subst IsForest (held_alike history (new_client client header.cache) (new_client client blocks) refl refl) (kept.shelves.holding none_joins client header has).forest
  ]

  made : (o : Option Header) (c : ClientState) → option_map (λ (header : Header). client_of client history header.cache) o ≡ Some c → IsForest c.held
  made None c is = cc
  made (Some header) c is = subst (λ (d : ClientState). IsForest d.held) (some_client (client_of client history header.cache) c is) (held_forest header.cache)

pub caches_are_forests : CachesAreForests
caches_are_forests cell kept client c is = made cell kept client (asked (cell.clients client).life) c is
