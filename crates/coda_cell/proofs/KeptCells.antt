-- Cells that are kept: the first one, what is pending there, and lines that make an actor or change no history.
use Rattle.std.proofs.Common.{◌≡◌, ◌≢◌, ℕ, ◌==◌, Bool, true, false, cond, List, [], ◌∷◌, Option, Some, None, is_some, option_map, refl, sym, ap, ◌∙◌, subst}
use Rattle.std.specs.FinMap as finite
use Rattle.std.proofs.lemmas.Bool.{eqb-true, false≢true}
use Rattle.coda_fid.specs.Fid.{fid_cmp}
use Rattle.coda_tree.specs.Volume.{child_of}
use Rattle.coda_cml.specs.Steady.{IsSteady}
use Rattle.coda_script.specs.declared.line.Strength.{Strength}
use Rattle.coda_plain.specs.Deeds.{pending_of, AreLawful}
use Rattle.coda_plain.specs.Cell.{ClientEntry, PlainCell, empty_cell}
use Rattle.coda_plain.specs.Moves.{done_on}
use Rattle.coda_plain.proofs.Soundness.{none_joins, runs_are_sound}
use Rattle.coda_plain.proofs.Promised.{sound_cells_are_promised}
use Rattle.coda_cell.specs.State.{pending, ClientState, VolumeMade, ClientMade, Ticked, LinkSet, after, unless_from, cut_by}
use Rattle.coda_script.specs.declared.line.Strength.TheVariants.{Strong, Weak, Down}
use Rattle.coda_cell.specs.Kept.{IsHolding}
use Rattle.coda_fid.specs.declared.fid.Fid.{Fid}
use Rattle.coda_cell.specs.Made.{Copy, MadeCell, nothing_made, client_of, state_of}
use Rattle.coda_cell.specs.Cells.{IsOrderly, AreOrderly}
use Rattle.coda_cell.specs.Runs.{IsKept, IsLeft, CellsAreKept}
use Rattle.coda_histories.proofs.Forests.{forest_none}
use Rattle.coda_cell.proofs.Histories.{volumes_are, pending_are}
use Rattle.coda_cell.proofs.Grown.{volume_grown, client_made}

module _ (cell : MadeCell) (kept : IsKept cell) where
  pub lawful : (client volume : ℕ) → AreLawful (done_on cell.acted client volume)
  lawful client volume = (kept.sound.agree none_joins).lawful client volume

  -- a client's log is of what is pending by its history
  pub pending_is : (client blocks volume : ℕ) → pending ((client_of client (cell.acted.clients client).history blocks).volumes volume) ≡ pending_of (done_on cell.acted client volume)
  pending_is client blocks volume =
      ap pending (volumes_are client blocks (cell.acted.clients client).history volume) ∙ pending_are (done_on cell.acted client volume) (lawful client volume)

  pub steady : (client volume : ℕ) → IsSteady (pending_of (done_on cell.acted client volume))
  steady client volume = ((sound_cells_are_promised cell.acted kept.sound none_joins).listed client volume).steady

  orderly_client : (client blocks : ℕ) → cell.sizes client ≡ Some blocks → IsOrderly (client_of client (cell.acted.clients client).history blocks)
  orderly_client client blocks there = record {
    under = (kept.holding client blocks there).under;
    steady = λ volume. subst IsSteady (sym (pending_is client blocks volume)) (steady client volume);
  }

  -- the client that is there was made, and is what its history leaves
  pub client_there : (client : ℕ) (c : ClientState) → (state_of cell).clients client ≡ Some c → (blocks : ℕ) × (cell.sizes client ≡ Some blocks) × (client_of client (cell.acted.clients client).history blocks ≡ c)
  client_there client c is = by (cell.sizes client) is
    where
      by : (o : Option ℕ) → option_map (client_of client (cell.acted.clients client).history) o ≡ Some c → (blocks : ℕ) × (o ≡ Some blocks) × (client_of client (cell.acted.clients client).history blocks ≡ c)
      by None e = cc
      by (Some blocks) e = (blocks, refl, cc)

  pub orderly : AreOrderly (state_of cell)
  orderly client c is = let there = client_there client c is in subst IsOrderly there.2 (orderly_client client there.0 there.1)

pub first_kept : IsKept nothing_made
first_kept = record {
  sound = runs_are_sound [] empty_cell refl;
  up = record { clients = λ client. refl; replicas = λ server volume. refl };
  made = record { numbered = λ client blocks e. cc; clients = λ client e. refl; replicas = λ server volume e. refl };
  holding = λ client blocks e. cc;
  letters = record { numbered = tt; pooled = tt };
}

pub cells_are_kept : CellsAreKept
cells_are_kept = record { first = first_kept; orderly = orderly }

-- a client that did nothing holds nothing
pub nothing_holding : (cell : PlainCell) (client blocks : ℕ) (history : List ClientEntry) → history ≡ [] → IsHolding cell (client_of client history blocks)
nothing_holding cell client blocks history none = subst (λ h. IsHolding cell (client_of client h blocks)) (sym none) (record {
  under = λ f p is. (let no : None ≡ Some p = sym (finite.get-empty fid_cmp f) ∙ is in cc);
  forest = forest_none;
  within = λ dir fid name is. (let no : None ≡ Some fid = ap (λ o. child_of o name) (sym (finite.get-empty fid_cmp dir)) ∙ is in cc);
  made = λ fid is. absurd (false≢true (sym (ap is_some (finite.get-empty fid_cmp fid)) ∙ is));
  named = λ dir fid name is. (let no : None ≡ Some fid = ap (λ o. child_of o name) (sym (finite.get-empty fid_cmp dir)) ∙ is in cc);
  kept = λ volume dir kid is. absurd (false≢true is);
})

pub volume_left : (cell : MadeCell) (volume server : ℕ) → IsKept cell → cell.homes volume ≡ None → IsLeft cell (VolumeMade volume server ∷ [])
volume_left cell volume server kept none = record {
  moved = refl;
  kept = record {
    sound = kept.sound;
    up = kept.up;
    made = record { numbered = kept.made.numbered; clients = kept.made.clients; replicas = elsewhere };
    holding = kept.holding;
    letters = record { numbered = kept.letters.numbered; pooled = kept.letters.pooled };
  };
  shown = volume_grown cell volume server (λ s. kept.made.replicas s volume (nowhere s));
}
  where
    nowhere : (s : ℕ) → cell.homes volume ≢ Some s
    nowhere s is = (let no : None ≡ Some s = sym none ∙ is in cc)

    elsewhere : (s v : ℕ) → cond (v == volume) (Some server) (cell.homes v) ≢ Some s → (cell.acted.replicas s v).history ≡ []
    elsewhere s v e = elim (v == volume) as (λ b. (v == volume) ≡ b → cond b (Some server) (cell.homes v) ≢ Some s → (cell.acted.replicas s v).history ≡ []) [
      | true ↦ λ same f. subst (λ w. (cell.acted.replicas s w).history ≡ []) (sym (eqb-true v volume same)) (kept.made.replicas s volume (nowhere s))
      | false ↦ λ other f. kept.made.replicas s v f
    ] refl e

pub client_left : (cell : MadeCell) (client blocks : ℕ) → IsKept cell → cell.sizes client ≡ None → client ≢ 0 → IsLeft cell (ClientMade client blocks ∷ [])
client_left cell client blocks kept none some = record {
  moved = refl;
  kept = record {
    sound = kept.sound;
    up = kept.up;
    made = record { numbered = numbered; clients = unmade; replicas = kept.made.replicas };
    holding = holding;
    letters = record { numbered = kept.letters.numbered; pooled = kept.letters.pooled };
  };
  shown = client_made cell client blocks (kept.made.clients client none);
}
  where
    numbered : (c b : ℕ) → cond (c == client) (Some blocks) (cell.sizes c) ≡ Some b → c ≢ 0
    numbered c b e = elim (c == client) as (λ x. (c == client) ≡ x → cond x (Some blocks) (cell.sizes c) ≡ Some b → c ≢ 0) [
      | true ↦ λ same f zero. some (sym (eqb-true c client same) ∙ zero)
      | false ↦ λ other f. kept.made.numbered c b f
    ] refl e

    unmade : (c : ℕ) → cond (c == client) (Some blocks) (cell.sizes c) ≡ None → (cell.acted.clients c).history ≡ []
    unmade c e = elim (c == client) as (λ x. (c == client) ≡ x → cond x (Some blocks) (cell.sizes c) ≡ None → (cell.acted.clients c).history ≡ []) [ true ↦ λ same f. cc | false ↦ λ other f. kept.made.clients c f ] refl e

    holding : (c b : ℕ) → cond (c == client) (Some blocks) (cell.sizes c) ≡ Some b → IsHolding cell.acted (client_of c (cell.acted.clients c).history b)
    holding c b e = elim (c == client) as (λ x. (c == client) ≡ x → cond x (Some blocks) (cell.sizes c) ≡ Some b → IsHolding cell.acted (client_of c (cell.acted.clients c).history b)) [
      | true ↦ λ same f. nothing_holding cell.acted c b (cell.acted.clients c).history (ap (λ n. (cell.acted.clients n).history) (eqb-true c client same) ∙ kept.made.clients client none)
      | false ↦ λ other f. kept.holding c b f
    ] refl e

pub ticked_left : (cell : MadeCell) (seconds : ℕ) → IsKept cell → IsLeft cell (Ticked seconds ∷ [])
ticked_left cell seconds kept = record {
  moved = refl;
  kept = record { sound = kept.sound; up = kept.up; made = record { numbered = kept.made.numbered; clients = kept.made.clients; replicas = kept.made.replicas }; holding = kept.holding; letters = record { numbered = kept.letters.numbered; pooled = kept.letters.pooled } };
  shown = refl;
}

-- what is seen of copies that a link takes is what the link takes of those that are seen
cut_one : (server : ℕ) (o : Option Copy) → option_map (λ (copy : Copy). copy.server) (unless_from (λ (copy : Copy). copy.server) server o) ≡ unless_from (λ n. n) server (option_map (λ (copy : Copy). copy.server) o)
cut_one server None = refl
cut_one server (Some copy) = go (copy.server == server)
  where
    go : (b : Bool) → option_map (λ (c : Copy). c.server) (cond b None (Some copy)) ≡ cond b None (Some copy.server)
    go true = refl
    go false = refl

cut_seen : (strength : Strength) (copies : ℕ → Fid → Option Copy) (client server c : ℕ) (f : Fid)
    → option_map (λ (copy : Copy). copy.server) (cut_by (λ (copy : Copy). copy.server) strength copies client server c f) ≡ cut_by (λ n. n) strength (λ d g. option_map (λ (copy : Copy). copy.server) (copies d g)) client server c f
cut_seen Strong copies client server c f = refl
cut_seen Weak copies client server c f = refl
cut_seen Down copies client server c f = go (c == client)
  where
    go : (b : Bool) → option_map (λ (copy : Copy). copy.server) (cond b (unless_from (λ (copy : Copy). copy.server) server (copies c f)) (copies c f))
        ≡ cond b (unless_from (λ n. n) server (option_map (λ (copy : Copy). copy.server) (copies c f))) (option_map (λ (copy : Copy). copy.server) (copies c f))
    go true = cut_one server (copies c f)
    go false = refl

pub linked_left : (cell : MadeCell) (client server : ℕ) (strength : Strength) → IsKept cell → IsLeft cell (LinkSet client server strength ∷ [])
linked_left cell client server strength kept = record {
  moved = refl;
  kept = record { sound = kept.sound; up = kept.up; made = record { numbered = kept.made.numbered; clients = kept.made.clients; replicas = kept.made.replicas }; holding = kept.holding; letters = record { numbered = kept.letters.numbered; pooled = kept.letters.pooled } };
  shown = λ i. record (after (state_of cell) (LinkSet client server strength)) { copies = λ c f. cut_seen strength cell.copies client server c f i };
}
