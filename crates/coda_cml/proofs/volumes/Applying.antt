-- A replay that applies all its records, record by record.
use Rattle.std.proofs.Common.{◌≡◌, ℕ, Option, Some, None, Ok, List, [], ◌∷◌, ◌++◌, refl, sym, ap, ◌∙◌, subst}
use Rattle.coda_fid.specs.declared.fid.Fid.{Fid}
use Rattle.coda_fid.specs.declared.op.Record.{Record}
use Rattle.coda_tree.specs.Volume.{Nodes, IsVolume}
use Rattle.coda_certify.specs.declared.reason.Reason.{Reason}
use Rattle.coda_certify.specs.Checks.{certify}
use Rattle.coda_certify.specs.Replay.{applied, unless_refused, replay}
use Rattle.coda_certify.proofs.Records.{replay-cons}
use Rattle.coda_cml.proofs.volumes.KeptVolumes.{volume_applied}

-- each record is certified, and these are the nodes that all leave
abbrev pub Applies : ℕ → Nodes → List Record → Nodes → Type 0
Applies client m [] left = m ≡ left
Applies client m (rec ∷ recs) left = (certify m rec.op ≡ None) × Applies client (applied m client rec) recs left

pub applies_from_replay : (client : ℕ) (m left : Nodes) (recs : List Record) → replay m client recs ≡ Ok left → Applies client m recs left
applies_from_replay client m left [] h = cc
applies_from_replay client m left (rec ∷ recs) h = go (certify m rec.op) h (applies_from_replay client (applied m client rec) left recs)
  where
    go : (o : Option Reason) → unless_refused o rec.number (replay (applied m client rec) client recs) ≡ Ok left → (replay (applied m client rec) client recs ≡ Ok left → Applies client (applied m client rec) recs left) → (o ≡ None) × Applies client (applied m client rec) recs left
    go None h rest = (refl, rest h)
    go (Some why) h rest = cc

pub replay_from_applies : (client : ℕ) (m left : Nodes) (recs : List Record) → Applies client m recs left → replay m client recs ≡ Ok left
replay_from_applies client m left [] a = ap Ok a
replay_from_applies client m left (rec ∷ recs) a = replay-cons m client rec recs a.0 ∙ replay_from_applies client (applied m client rec) left recs a.1

-- records after others
pub applies_joined : (client : ℕ) (m middle left : Nodes) (recs more : List Record) → Applies client m recs middle → Applies client middle more left → Applies client m (recs ++ more) left
applies_joined client m middle left [] more a b = subst (λ y. Applies client y more left) (sym a) b
applies_joined client m middle left (rec ∷ recs) more a b = (a.0, applies_joined client (applied m client rec) middle left recs more a.1 b)

-- records that are applied to a volume leave one
pub volume_left : {root : Fid} (client : ℕ) (m left : Nodes) (recs : List Record) → IsVolume root m → Applies client m recs left → IsVolume root left
volume_left {root} client m left [] v a = subst (IsVolume root) a v
volume_left client m left (rec ∷ recs) v a = volume_left client (applied m client rec) left recs (volume_applied m v client rec a.0) a.1
