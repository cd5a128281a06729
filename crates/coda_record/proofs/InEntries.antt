-- What the parts of entries and snapshots have where these have a spelling.
use Rattle.std.proofs.Common.{◌≡◌, ℕ, zero, suc, subst, true, ◌&&◌, ◌<◌, ◌^◌, List, [], ◌∷◌, ◌++◌, Option, Some, None, length, All, refl, sym, ap, ◌∙◌}
use Rattle.std.specs.Prelude.{IsTrue, slice_get}
use Rattle.std.specs.List.{flat_map, AllByRecursion}
use Rattle.std.proofs.lemmas.Bool.{ltb-true}
use Rattle.std.proofs.lemmas.List.Elements.{All-from_recursion}
use Rattle.std.proofs.lemmas.List.Concat.{flat_map-cons}
use Rattle.coda_fid.specs.declared.fid.Fid.{Fid}
use Rattle.coda_fid.specs.declared.op.Record.{Record}
use Rattle.coda_tree.specs.declared.node.Node.{Node}
use Rattle.coda_reslog.specs.declared.change.Change.{Change}
use Rattle.coda_reslog.specs.declared.change.Held.{Held}
use Rattle.coda_record.specs.declared.entry.ClientEntry.TheVariants as client_entries
use Rattle.coda_record.specs.declared.entry.ReplicaEntry.TheVariants as replica_entries
use Rattle.coda_record.specs.declared.last.Last.{Last}
use Rattle.coda_record.specs.declared.snapshot.ClientSnapshot.{ClientSnapshot}
use Rattle.coda_record.specs.declared.snapshot.VolumeLog.{VolumeLog}
use Rattle.coda_record.specs.declared.snapshot.LogSegment.{LogSegment}
use Rattle.coda_values.specs.Form.{Piece, together, four}
use Rattle.coda_values.specs.Parts.{u32, u64, where_holds, optional, items_piece, list_of}
use Rattle.coda_values.specs.Spelling.{HasSpelling}
use Rattle.coda_values.specs.Held.{change, objects}
use Rattle.coda_record.specs.Table.{count, ordinal, op, record_above, records, volume, last_above, lasts}
use Rattle.coda_record.specs.Hoard.{hoard_entry}
use Rattle.coda_record.specs.Entries.{node, segment, frozen, volume_follows, volume_log_above, volume_logs, cached_after, cached_nodes, client_snapshot, client_entry, replica_entry}
use Rattle.coda_values.proofs.PartsAgree.{first_true, second_true}
use Rattle.coda_values.proofs.RecordBytes.{record_op}

-- each of some pieces that are within their limits is within its own
pub part_fits : (place : ℕ) (p : Piece) (ps : List Piece) → slice_get ps place ≡ Some p → IsTrue (together ps).fits → IsTrue p.fits
part_fits place p [] is fits = absurd cc
part_fits zero p (q ∷ ps) is fits = let same : q ≡ p = cc in subst (λ (x : Piece). IsTrue x.fits) same (first_true q.fits (together ps).fits fits)
part_fits (suc place) p (q ∷ ps) is fits = part_fits place p ps is (second_true q.fits (together ps).fits fits)

-- the operation of an entry that has a spelling has one
pub entry_op : (v : ℕ) (r : Record) → HasSpelling (client_entry four) (client_entries.Op v r) → HasSpelling (op four) r.op
unfolding client_entry
entry_op v r fits = record_op 0 r (first_true ((record_above four 0).piece r).fits true (second_true (volume.piece v).fits (((record_above four 0).piece r).fits && true) fits))

-- ---- last decisions

-- how a last decision is written depends on no other
pub lasts_bytes : (before : ℕ) (ls : List Last) → (items_piece last_above (λ l. l.client) before ls).bytes ≡ flat_map (λ l. ((last_above 0).piece l).bytes) ls
unfolding last_above
lasts_bytes before [] = refl
lasts_bytes before (l ∷ ls) = ap (λ (b : List ℕ). ((last_above before).piece l).bytes ++ b) (lasts_bytes l.client ls) ∙ sym (flat_map-cons (λ l. ((last_above 0).piece l).bytes) l ls)

pub few_lasts : (ls : List Last) → HasSpelling lasts ls → length ls < 2 ^ 32
unfolding lasts
few_lasts ls fits = ltb-true _ _ (first_true _ _ fits)

-- ---- snapshots of clients

-- the records of a segment
pub segment_records : (s : LogSegment) → HasSpelling (segment four) s → HasSpelling (records four) s.recs
unfolding segment
segment_records s fits = part_fits 3 ((records four).piece s.recs) (ordinal.piece s.first ∷ ordinal.piece s.last ∷ u64.piece s.newest ∷ (records four).piece s.recs ∷ []) refl fits

-- the segments of a volume's log
pub log_segments : (before : ℕ) (l : VolumeLog) → HasSpelling (volume_log_above four before) l → HasSpelling (list_of (segment four)) l.segments
unfolding volume_log_above
log_segments before l fits = part_fits 5 ((list_of (segment four)).piece l.segments) ((where_holds (volume_follows before) u32).piece l.volume ∷ count.piece l.operations ∷ count.piece l.chunks ∷ u32.piece l.creations ∷ (optional frozen).piece l.frozen ∷ (list_of (segment four)).piece l.segments ∷ []) refl fits

-- how a volume's log is written depends on no other
pub logs_bytes : (before : ℕ) (ls : List VolumeLog) → (items_piece (volume_log_above four) (λ l. l.volume) before ls).bytes ≡ flat_map (λ l. ((volume_log_above four 0).piece l).bytes) ls
unfolding volume_log_above
logs_bytes before [] = refl
logs_bytes before (l ∷ ls) = ap (λ (b : List ℕ). ((volume_log_above four before).piece l).bytes ++ b) (logs_bytes l.volume ls) ∙ sym (flat_map-cons (λ l. ((volume_log_above four 0).piece l).bytes) l ls)

pub few_logs : (ls : List VolumeLog) → HasSpelling (volume_logs four) ls → length ls < 2 ^ 32
unfolding volume_logs
few_logs ls fits = ltb-true _ _ (first_true _ _ fits)

all_segments : (before : ℕ) (ls : List VolumeLog) → IsTrue (items_piece (volume_log_above four) (λ l. l.volume) before ls).fits → AllByRecursion (λ l. HasSpelling (list_of (segment four)) l.segments) ls
all_segments before [] fits = tt
all_segments before (l ∷ ls) fits = (log_segments before l (first_true _ _ fits), all_segments l.volume ls (second_true _ _ fits))

-- the segments of each log of a list that has a spelling
pub each_segments : (ls : List VolumeLog) → HasSpelling (volume_logs four) ls → All (λ l. HasSpelling (list_of (segment four)) l.segments) ls
unfolding volume_logs
each_segments ls fits = All-from_recursion (λ l. HasSpelling (list_of (segment four)) l.segments) ls (all_segments 0 ls (second_true _ _ fits))

-- how a cached object is written depends on no other
pub cached_bytes : (before : Option Fid) (os : List (Fid × Option Fid × Node)) → (items_piece (cached_after four) (λ o. Some o.0) before os).bytes ≡ flat_map (λ o. ((cached_after four None).piece o).bytes) os
unfolding cached_after
cached_bytes before [] = refl
cached_bytes before (o ∷ os) = ap (λ (b : List ℕ). ((cached_after four before).piece o).bytes ++ b) (cached_bytes (Some o.0) os) ∙ sym (flat_map-cons (λ o. ((cached_after four None).piece o).bytes) o os)

pub few_cached : (os : List (Fid × Option Fid × Node)) → HasSpelling (cached_nodes four) os → length os < 2 ^ 32
unfolding cached_nodes
few_cached os fits = ltb-true _ _ (first_true _ _ fits)

cached_node : (before : Option Fid) (o : Fid × Option Fid × Node) → HasSpelling (cached_after four before) o → HasSpelling (node four) o.2
unfolding cached_after
cached_node before o fits = first_true _ _ (second_true _ _ (second_true _ _ fits))

all_cached : (before : Option Fid) (os : List (Fid × Option Fid × Node)) → IsTrue (items_piece (cached_after four) (λ o. Some o.0) before os).fits → AllByRecursion (λ o. HasSpelling (node four) o.2) os
all_cached before [] fits = tt
all_cached before (o ∷ os) fits = (cached_node before o (first_true _ _ fits), all_cached (Some o.0) os (second_true _ _ fits))

-- the node of each cached object of a list that has a spelling
pub each_cached : (os : List (Fid × Option Fid × Node)) → HasSpelling (cached_nodes four) os → All (λ o. HasSpelling (node four) o.2) os
unfolding cached_nodes
each_cached os fits = All-from_recursion (λ o. HasSpelling (node four) o.2) os (all_cached None os (second_true _ _ fits))

-- the parts of a snapshot
pub snapshot_volumes : (s : ClientSnapshot) → HasSpelling (client_snapshot four) s → HasSpelling (volume_logs four) s.volumes
unfolding client_snapshot
snapshot_volumes s fits = first_true _ _ (second_true _ _ fits)

pub snapshot_nodes : (s : ClientSnapshot) → HasSpelling (client_snapshot four) s → HasSpelling (cached_nodes four) s.nodes
unfolding client_snapshot
snapshot_nodes s fits = first_true _ _ (second_true _ _ (second_true _ _ fits))

pub snapshot_hoard : (s : ClientSnapshot) → HasSpelling (client_snapshot four) s → HasSpelling (list_of (hoard_entry four)) s.hoard
unfolding client_snapshot
snapshot_hoard s fits = part_fits 3 ((list_of (hoard_entry four)).piece s.hoard) (count.piece s.count ∷ (volume_logs four).piece s.volumes ∷ (cached_nodes four).piece s.nodes ∷ (list_of (hoard_entry four)).piece s.hoard ∷ []) refl fits

-- ---- entries

pub entry_snapshot : (s : ClientSnapshot) → HasSpelling (client_entry four) (client_entries.Snapshot s) → HasSpelling (client_snapshot four) s
unfolding client_entry
entry_snapshot s fits = first_true _ _ fits

pub resolve_change : (c : Change) (ls : List Last) → HasSpelling (replica_entry four) (replica_entries.Resolve c ls) → HasSpelling (change four) c
unfolding replica_entry
resolve_change c ls fits = first_true _ _ fits

pub resolve_lasts : (c : Change) (ls : List Last) → HasSpelling (replica_entry four) (replica_entries.Resolve c ls) → HasSpelling lasts ls
unfolding replica_entry
resolve_lasts c ls fits = first_true _ _ (second_true _ _ fits)

pub repair_change : (c : Change) (ls : List Last) → HasSpelling (replica_entry four) (replica_entries.Repair c ls) → HasSpelling (change four) c
unfolding replica_entry
repair_change c ls fits = first_true _ _ fits

pub repair_lasts : (c : Change) (ls : List Last) → HasSpelling (replica_entry four) (replica_entries.Repair c ls) → HasSpelling lasts ls
unfolding replica_entry
repair_lasts c ls fits = first_true _ _ (second_true _ _ fits)

pub snapshot_objects : (n : ℕ) (os : List (Fid × Held)) (ls : List Last) → HasSpelling (replica_entry four) (replica_entries.Snapshot n os ls) → HasSpelling (objects four) os
unfolding replica_entry
snapshot_objects n os ls fits = first_true _ _ (second_true _ _ fits)

pub snapshot_lasts : (n : ℕ) (os : List (Fid × Held)) (ls : List Last) → HasSpelling (replica_entry four) (replica_entries.Snapshot n os ls) → HasSpelling lasts ls
unfolding replica_entry
snapshot_lasts n os ls fits = first_true _ _ (second_true _ _ (second_true _ _ fits))
