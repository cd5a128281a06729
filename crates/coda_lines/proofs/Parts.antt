-- A client works over what it can reach in a cell that is kept, by few things that concern it alone.
use Rattle.std.proofs.Common.{◌≡◌, ℕ, true, List, Some, None, is_some, Option, option_map, refl, sym, ap, ◌∙◌, subst}
use Rattle.std.proofs.lemmas.Option.{none-some}
use Rattle.std.specs.List.{IsDistinct}
use Rattle.std.specs.FinMap as map
use Rattle.std.specs.Prelude.{IsSome}
use Rattle.coda_fid.specs.Fid.{same_fid}
use Rattle.coda_fid.specs.declared.fid.Fid.{Fid}
use Rattle.coda_tree.specs.declared.node.Node.{Node}
use Rattle.coda_walk.specs.Going.{is_listed}
use Rattle.coda_venus.specs.Serving.{ServingClient}
use Rattle.coda_venus.specs.Rounds.{Sources}
use Rattle.coda_venus.specs.State.{ClientState as Client}
use Rattle.coda_cell.specs.Made.{Copy, MadeCell, state_of}
use Rattle.coda_cell.specs.Runs.{IsKept}
use Rattle.coda_cell.specs.State.{ClientState}
use Rattle.coda_creations.specs.Kinds.{AreAsMade}
use Rattle.coda_rounds.specs.Later.{IsLater}
use Rattle.coda_rounds.specs.Places.{ArePlaced, AreOfTheirVolumes}
use Rattle.coda_rounds.specs.Readiness.{IsAtWork}
use Rattle.coda_lines.specs.Clients.{as_client, serving_client, sources_of}
use Rattle.coda_lines.specs.Working.{client_in, HaveRuns, IsUnused, IsWorking}
use Rattle.coda_lines.proofs.Sources.{given_made, made_before}

-- the server of a copy, where there is one
abbrev pub server_in : Option Copy → Option ℕ
server_in o = option_map (λ (copy : Copy). copy.server) o

-- the valid copies of a client
abbrev pub copies_in : MadeCell → ℕ → Fid → Option ℕ
copies_in cell number fid = server_in (cell.copies number fid)

-- what a client by itself needs to work, beside a cell that is kept
pub record Parts (c : ClientState) (uses : List Fid) (copies : Fid → Option ℕ) : Type 0 where
  pub used : (f : Fid) → IsSome (map.get c.held.nodes f) → is_listed uses f ≡ true
  pub once : IsDistinct same_fid uses
  pub runs : HaveRuns c
  pub placed : ArePlaced (as_client c)
  pub logs : AreOfTheirVolumes (as_client c)
  pub uncopied : (volume : ℕ) (f : Fid) → IsLater (as_client c) volume f → copies f ≡ None

pub parts_of : (sources : Sources) (s : ServingClient) (c : ClientState) (uses : List Fid) (copies : Fid → Option ℕ)
    → IsAtWork sources s → s.client ≡ as_client c → s.beside.uses ≡ uses
    → ((f : Fid) → copies f ≡ s.beside.copies f) → HaveRuns c → Parts c uses copies
parts_of sources s c uses copies w same used copied runs = record {
  used = λ f there.
      ap (λ l. is_listed l f) (sym used)
      ∙ w.order.0.orderly.used f (ap (λ x. is_some (map.get x.held.nodes f)) same ∙ there);
  once = subst (IsDistinct same_fid) used w.order.0.once;
  runs = runs;
  placed = subst ArePlaced same w.placed;
  logs = subst AreOfTheirVolumes same w.logs;
  uncopied = λ volume f later.
      copied f ∙ w.uncopied volume f (subst (λ (x : Client). IsLater x volume f) (sym same) later);
}

-- with fewer copies a client has what it needs still
pub with_fewer : (c : ClientState) (uses : List Fid) (copies now : Fid → Option ℕ) → Parts c uses copies
    → ((f : Fid) → copies f ≡ None → now f ≡ None) → Parts c uses now
with_fewer c uses copies now p fewer = record {
  used = p.used;
  once = p.once;
  runs = p.runs;
  placed = p.placed;
  logs = p.logs;
  uncopied = λ volume f later. fewer f (p.uncopied volume f later);
}

-- so it has in a cell that has none of the copies of which another had none
pub fewer_in : (cell new : MadeCell) (number : ℕ) (c : ClientState) (uses : List Fid)
    → Parts c uses (copies_in cell number) → ((f : Fid) → cell.copies number f ≡ None → new.copies number f ≡ None)
    → Parts c uses (copies_in new number)
fewer_in cell new number c uses p fewer =
    with_fewer c uses (copies_in cell number) (copies_in new number) p
    (λ f none. ap server_in (fewer f (no_copy (cell.copies number f) none)))
  where
    no_copy : (o : Option Copy) → server_in o ≡ None → o ≡ None
    no_copy None e = refl
    no_copy (Some copy) e = absurd (none-some copy.server (sym e))

-- the nodes of a client that did nothing
none_free : (o : Option Node) → (is_some o ≡ true → ⊥) → o ≡ None
none_free None no_node = refl
none_free (Some node) no_node = absurd (no_node refl)

module _ (cell : MadeCell) (kept : IsKept cell) (number blocks : ℕ) (there : cell.sizes number ≡ Some blocks) where
  pub works_by : Parts (client_in cell number blocks) (cell.uses number) (copies_in cell number)
      → IsAtWork (sources_of (state_of cell) number)
      (serving_client (state_of cell) number (client_in cell number blocks))
  works_by p =
      let h = kept.holding number blocks there in
      record {
        order = (
          record {
            orderly = record { used = p.used; cached = h.forest.kids };
            once = p.once;
            depth = h.forest.depth;
            parents = h.forest.parents;
            deeper = h.forest.deeper;
          },
          λ f q at. (h.under f q at).0,
        );
        within = λ f q at. (h.under f q at).1;
        placed = p.placed;
        logs = p.logs;
        later = λ volume. record {
          here = λ f later. none_free (map.get (client_in cell number blocks).held.nodes f)
              (λ has_it. made_before cell kept number blocks volume f there later (h.made f has_it));
          there = λ f later given e. made_before cell kept number blocks volume f there later
              (given_made cell kept number f given.0 given.1 e);
        };
        uncopied = p.uncopied;
      }

pub parts_in : (cell : MadeCell) (w : IsWorking cell) (number blocks : ℕ) → cell.sizes number ≡ Some blocks
    → Parts (client_in cell number blocks) (cell.uses number) (copies_in cell number)
parts_in cell w number blocks there =
    parts_of (sources_of (state_of cell) number)
    (serving_client (state_of cell) number (client_in cell number blocks)) (client_in cell number blocks)
    (cell.uses number) (copies_in cell number) (w.at_work number blocks there) refl refl (λ f. refl)
    (w.runs number blocks there)

-- a cell works that is kept, with clients that have what they need
pub working_by : (cell : MadeCell) → IsKept cell → AreAsMade cell.acted
    → ((client : ℕ) → cell.sizes client ≡ None → IsUnused cell client)
    → ((number blocks : ℕ) → cell.sizes number ≡ Some blocks
    → Parts (client_in cell number blocks) (cell.uses number) (copies_in cell number))
    → IsWorking cell
working_by cell kept kinds unmade parts = record {
  kept = kept;
  kinds = kinds;
  unmade = unmade;
  runs = λ number blocks there. (parts number blocks there).runs;
  at_work = λ number blocks there. works_by cell kept number blocks there (parts number blocks there);
}
