-- A client of a cell with logs in place of what is pending: what entries leave of it.
use Rattle.std.proofs.Common.{◌≡◌, ℕ, List, [], ◌∷◌, ◌++◌, append-nil, map, refl, ap, ◌∙◌, subst}
use Rattle.coda_fid.specs.declared.fid.Fid.{Fid}
use Rattle.coda_cml.specs.State.{LogState, IsLogOf}
use Rattle.coda_cml.specs.Steady.{IsSteady}
use Rattle.coda_plain.specs.Cell.{ClientEntry}
use Rattle.coda_record.specs.declared.entry.ClientEntry.TheVariants as kept
use Rattle.coda_venus.specs.History.{Payload, MayEnterAll}
use Rattle.coda_venus.specs.Rounds.{dropping}
use Rattle.coda_venus.specs.State.{ClientVolume as ServingVolume, new_client as new_serving, client_after_all as serving_after_all}
use Rattle.coda_cell.specs.Held.{held_after_drops}
use Rattle.coda_cell.specs.State.{pending, ClientVolume, ClientState, client_after, log_of, new_client}
use Rattle.coda_matching.specs.Clients.{entry_of, gone_with, payload_by}
use Rattle.coda_matching.proofs.Histories.{AreAlike, entry_alike}
use Rattle.coda_matching.proofs.Volumes.{IsAlike, one_volume, new_alike}
use Rattle.coda_lines.specs.Clients.{as_volume, as_client}
use Rattle.coda_lines.specs.Lines.{making_room}
use Rattle.coda_lines.specs.Working.{HaveRuns}

-- what is alike is the client's own
volume_is : (v : ClientVolume) (w : ServingVolume) → IsAlike v w → w ≡ as_volume v
volume_is v w a = let one = one_volume v w a in λ i. record { log = one.log i; creations = one.creations i }

runs_of : (v : ClientVolume) (w : ServingVolume) → IsAlike v w → IsLogOf (log_of v) v.front v.back
runs_of v w a = subst (λ (l : LogState). IsLogOf l v.front v.back) (one_volume v w a).log a.runs

pub new_runs : (number blocks : ℕ) → HaveRuns (new_client number blocks)
new_runs number blocks volume = runs_of _ _ new_alike

pub as_new : (number blocks : ℕ) → as_client (new_client number blocks) ≡ new_serving number blocks
as_new number blocks = refl

-- ---- an entry

module _ (c : ClientState) (entry : ClientEntry) (runs : HaveRuns c)
    (steady : (volume : ℕ) → IsSteady (pending (c.volumes volume)))
    (may : MayEnterAll (as_client c) (payload_by entry)) where
  alike_now : AreAlike c (as_client c)
  alike_now = record {
    number = refl;
    blocks = refl;
    held = refl;
    volumes = λ volume.
        record { runs = runs volume; frozen = refl; last = refl; chunks = refl; creations = refl };
  }

  behind : AreAlike (client_after c entry) (serving_after_all (as_client c) (payload_by entry))
  behind = entry_alike c (as_client c) entry alike_now steady may

  pub runs_after : HaveRuns (client_after c entry)
  runs_after volume = runs_of _ _ (behind.volumes volume)

  -- the entries that a journal has of it leave what it leaves
  pub as_after : serving_after_all (as_client c) (payload_by entry) ≡ as_client (client_after c entry)
  as_after = λ i. record {
    number = behind.number i;
    blocks = behind.blocks i;
    held = behind.held i;
    volumes = λ volume. volume_is _ _ (behind.volumes volume) i;
  }

-- ---- drops

-- a client without what was dropped
abbrev pub without_gone : ClientState → List Fid → ClientState
without_gone c gone = record c { held = held_after_drops c.held gone }

pub as_dropped : (c : ClientState) (gone : List Fid)
    → serving_after_all (as_client c) (dropping gone) ≡ as_client (without_gone c gone)
as_dropped c [] = refl
as_dropped c (fid ∷ gone) = as_dropped (without_gone c (fid ∷ [])) gone

-- an entry for which something went leaves what it leaves of a client without that
pub room_after : (c : ClientState) (gone : List Fid) (entry : ClientEntry)
    → client_after c (making_room gone entry) ≡ client_after (without_gone c gone) entry
room_after c [] entry = refl
room_after c (fid ∷ gone) entry = refl

-- and it is kept as the drops and then the entry
pub room_payload : (gone : List Fid) (entry : ClientEntry) → gone_with entry ≡ []
    → payload_by (making_room gone entry) ≡ dropping gone ++ entry_of entry ∷ []
room_payload [] entry none = ap (λ (l : Payload). l ++ entry_of entry ∷ []) none
room_payload (fid ∷ gone) entry none =
    ap (λ (l : Payload). (map kept.Dropped (fid ∷ gone) ++ l) ++ entry_of entry ∷ []) none
    ∙ ap (λ (l : Payload). l ++ entry_of entry ∷ []) (append-nil (map kept.Dropped (fid ∷ gone)))
