-- The two sides of the formats of what journals keep agree.
use Rattle.std.proofs.Common.{◌≡◌, ℕ, Option, Some, None, refl}
use Rattle.std.specs.Prelude.{IsTrue}
use Rattle.coda_fid.specs.declared.fid.Fid.{Fid}
use Rattle.coda_record.specs.declared.entry.ClientEntry.{ClientEntry}
use Rattle.coda_record.specs.declared.entry.ClientEntry.TheVariants as client_entries
use Rattle.coda_record.specs.declared.entry.ReplicaEntry.{ReplicaEntry}
use Rattle.coda_record.specs.declared.entry.ReplicaEntry.TheVariants as replica_entries
use Rattle.coda_values.specs.Form.{Size, four}
use Rattle.coda_values.specs.Parts.{u32, where_holds, optional}
use Rattle.coda_values.specs.Walks.{Says, Agrees}
use Rattle.coda_record.specs.Entries.{segment, frozen, volume_follows, volume_log_above, volume_logs, cached_after, cached_nodes, client_snapshot, client_entry_forms, client_entry, client_payload, replica_entry_forms, replica_entry, decide_form}
use Rattle.coda_record.specs.Hoard.{hoard_entry}
use Rattle.coda_values.proofs.PartsAgree.{no_number, where_agrees, behind_tags, tags_placed, optional_agrees, list_agrees, list_of_agrees}
use Rattle.coda_values.proofs.Tabled.{u32_agrees, u64_agrees, client_agrees, server_agrees, volume_agrees, count_agrees, ordinal_agrees, fid_agrees, fid_option_agrees, record_agrees, records_agrees, verdict_agrees}
use Rattle.coda_values.proofs.HeldAgree.{fid_after_agrees, objects_agree, change_agrees}
use Rattle.coda_record.proofs.Decided.{lasts_agree}
use Rattle.coda_record.proofs.HoardAgree.{hoard_entry_agrees, hoard_change_agrees}
pub use Rattle.coda_values.proofs.NodesAgree.{node_agrees}

-- ---- client snapshot

pub segment_agrees : (size : Size) → Agrees (segment size)
unfolding segment
segment_agrees size = record {
  written = (ordinal_agrees.written, λ a k. (ordinal_agrees.written, λ b k. (u64_agrees.written, λ t k. ((records_agrees size).written, λ rs k. refl))));
  said = λ s fits. (s.first, _, refl, ordinal_agrees.said s.first, (s.last, _, refl, ordinal_agrees.said s.last, (s.newest, _, refl, u64_agrees.said s.newest, (s.recs, _, refl, (records_agrees size).said s.recs, (refl, refl)))));
  placed = (ordinal_agrees.placed, λ a. (ordinal_agrees.placed, λ b. (u64_agrees.placed, λ t. ((records_agrees size).placed, λ rs. tt))));
}

frozen_agrees : Agrees frozen
unfolding frozen
frozen_agrees = record {
  written = (server_agrees.written, λ h k. (u32_agrees.written, λ n k. refl));
  said = λ f fits. (f.0, _, refl, server_agrees.said f.0, (f.1, _, refl, u32_agrees.said f.1, (refl, refl)));
  placed = (server_agrees.placed, λ h. (u32_agrees.placed, λ n. tt));
}

frozen_option_agrees : Agrees (optional frozen)
frozen_option_agrees = optional_agrees frozen frozen_agrees

volume_follows_agrees : (before : ℕ) → Agrees (where_holds (volume_follows before) u32)
volume_follows_agrees before = where_agrees (volume_follows before) u32 u32_agrees (no_number four)

pub volume_log_agrees : (size : Size) (before : ℕ) → Agrees (volume_log_above size before)
unfolding volume_log_above
volume_log_agrees size before =
    let segments = list_of_agrees (segment size) (segment_agrees size) in
    record {
      written = ((volume_follows_agrees before).written, λ v k. (count_agrees.written, λ o k. (count_agrees.written, λ c k. (u32_agrees.written, λ n k. (frozen_option_agrees.written, λ f k. (segments.written, λ s k. refl))))));
      said = λ l fits. (l.volume, _, refl, (volume_follows_agrees before).said l.volume, (l.operations, _, refl, count_agrees.said l.operations, (l.chunks, _, refl, count_agrees.said l.chunks, (l.creations, _, refl, u32_agrees.said l.creations, (l.frozen, _, refl, frozen_option_agrees.said l.frozen, (l.segments, _, refl, segments.said l.segments, (refl, refl)))))));
      placed = ((volume_follows_agrees before).placed, λ v. (count_agrees.placed, λ o. (count_agrees.placed, λ c. (u32_agrees.placed, λ n. (frozen_option_agrees.placed, λ f. (segments.placed, λ s. tt))))));
    }

pub volume_logs_agree : (size : Size) → Agrees (volume_logs size)
unfolding volume_logs
volume_logs_agree size = list_agrees (volume_log_above size) (λ l. l.volume) 0 (volume_log_agrees size)

pub cached_agrees : (size : Size) (before : Option Fid) → Agrees (cached_after size before)
unfolding cached_after
cached_agrees size before = record {
  written = ((fid_after_agrees before).written, λ f k. (fid_option_agrees.written, λ p k. ((node_agrees size).written, λ n k. refl)));
  said = λ o fits. (o.0, _, refl, (fid_after_agrees before).said o.0, (o.1, _, refl, fid_option_agrees.said o.1, (o.2, _, refl, (node_agrees size).said o.2, (refl, refl))));
  placed = ((fid_after_agrees before).placed, λ f. (fid_option_agrees.placed, λ p. ((node_agrees size).placed, λ n. tt)));
}

pub cached_nodes_agree : (size : Size) → Agrees (cached_nodes size)
unfolding cached_nodes
cached_nodes_agree size = list_agrees (cached_after size) (λ o. Some o.0) None (cached_agrees size)

pub client_snapshot_agrees : (size : Size) → Agrees (client_snapshot size)
unfolding client_snapshot
client_snapshot_agrees size =
    let hoard = list_of_agrees (hoard_entry size) (hoard_entry_agrees size) in
    record {
      written = (count_agrees.written, λ c k. ((volume_logs_agree size).written, λ v k. ((cached_nodes_agree size).written, λ n k. (hoard.written, λ h k. refl))));
      said = λ s fits. (s.count, _, refl, count_agrees.said s.count, (s.volumes, _, refl, (volume_logs_agree size).said s.volumes, (s.nodes, _, refl, (cached_nodes_agree size).said s.nodes, (s.hoard, _, refl, hoard.said s.hoard, (refl, refl)))));
      placed = (count_agrees.placed, λ c. ((volume_logs_agree size).placed, λ v. ((cached_nodes_agree size).placed, λ n. (hoard.placed, λ h. tt))));
    }

-- ---- entries

client_entry_said : (size : Size) (e : ClientEntry) → IsTrue ((client_entry size).piece e).fits → Says (client_entry size).form ((client_entry size).piece e) e
unfolding client_entry
client_entry_said size (client_entries.Op v r) fits = (1, _, refl, (v, _, refl, volume_agrees.said v, (r, _, refl, (record_agrees size 0).said r, (refl, refl))))
client_entry_said size (client_entries.Freeze v n h l) fits = (2, _, refl, (v, _, refl, volume_agrees.said v, (n, _, refl, ordinal_agrees.said n, (h, _, refl, server_agrees.said h, (l, _, refl, ordinal_agrees.said l, (refl, refl))))))
client_entry_said size (client_entries.Settled v n a) fits = (3, _, refl, (v, _, refl, volume_agrees.said v, (n, _, refl, ordinal_agrees.said n, (a, _, refl, verdict_agrees.said a, (refl, refl)))))
client_entry_said size (client_entries.Giveup v) fits = (4, _, refl, (v, _, refl, volume_agrees.said v, (refl, refl)))
client_entry_said size (client_entries.Fetched f o n) fits = (5, _, refl, (f, _, refl, fid_agrees.said f, (o, _, refl, fid_option_agrees.said o, (n, _, refl, (node_agrees size).said n, (refl, refl)))))
client_entry_said size (client_entries.Dropped f) fits = (6, _, refl, (f, _, refl, fid_agrees.said f, (refl, refl)))
client_entry_said size (client_entries.Hoard c) fits = (7, _, refl, (c, _, refl, (hoard_change_agrees size).said c, (refl, refl)))
client_entry_said size (client_entries.Snapshot s) fits = (8, _, refl, (s, _, refl, (client_snapshot_agrees size).said s, (refl, refl)))

pub client_entry_agrees : (size : Size) → Agrees (client_entry size)
unfolding client_entry
client_entry_agrees size = record {
  written = behind_tags (client_entry_forms size) (λ p e. p ≡ (client_entry size).piece e) (
    (volume_agrees.written, λ v k. ((record_agrees size 0).written, λ r k. refl)),
    (
      (volume_agrees.written, λ v k. (ordinal_agrees.written, λ n k. (server_agrees.written, λ h k. (ordinal_agrees.written, λ l k. refl)))),
      (
        (volume_agrees.written, λ v k. (ordinal_agrees.written, λ n k. (verdict_agrees.written, λ a k. refl))),
        (
          (volume_agrees.written, λ v k. refl),
          (
            (fid_agrees.written, λ f k. (fid_option_agrees.written, λ o k. ((node_agrees size).written, λ n k. refl))),
            (
              (fid_agrees.written, λ f k. refl),
              (
                ((hoard_change_agrees size).written, λ c k. refl),
                (
                  ((client_snapshot_agrees size).written, λ s k. refl),
                  tt,
                ),
              ),
            ),
          ),
        ),
      ),
    ),
  );
  said = client_entry_said size;
  placed = tags_placed (client_entry_forms size) (
    (volume_agrees.placed, λ v. ((record_agrees size 0).placed, λ r. tt)),
    (
      (volume_agrees.placed, λ v. (ordinal_agrees.placed, λ n. (server_agrees.placed, λ h. (ordinal_agrees.placed, λ l. tt)))),
      (
        (volume_agrees.placed, λ v. (ordinal_agrees.placed, λ n. (verdict_agrees.placed, λ a. tt))),
        (
          (volume_agrees.placed, λ v. tt),
          (
            (fid_agrees.placed, λ f. (fid_option_agrees.placed, λ o. ((node_agrees size).placed, λ n. tt))),
            (
              (fid_agrees.placed, λ f. tt),
              (
                ((hoard_change_agrees size).placed, λ c. tt),
                (
                  ((client_snapshot_agrees size).placed, λ s. tt),
                  tt,
                ),
              ),
            ),
          ),
        ),
      ),
    ),
  );
}

pub client_payload_agrees : (size : Size) → Agrees (client_payload size)
unfolding client_payload
client_payload_agrees size = list_of_agrees (client_entry size) (client_entry_agrees size)

replica_entry_said : (size : Size) (e : ReplicaEntry) → IsTrue ((replica_entry size).piece e).fits → Says (replica_entry size).form ((replica_entry size).piece e) e
unfolding replica_entry decide_form
replica_entry_said size (replica_entries.Decide c n rs v) fits = (1, _, refl, (c, _, refl, client_agrees.said c, (n, _, refl, ordinal_agrees.said n, (rs, _, refl, (records_agrees size).said rs, (v, _, refl, verdict_agrees.said v, (refl, refl))))))
replica_entry_said size (replica_entries.Resolve c ls) fits = (2, _, refl, (c, _, refl, (change_agrees size).said c, (ls, _, refl, lasts_agree.said ls, (refl, refl))))
replica_entry_said size (replica_entries.Repair c ls) fits = (3, _, refl, (c, _, refl, (change_agrees size).said c, (ls, _, refl, lasts_agree.said ls, (refl, refl))))
replica_entry_said size (replica_entries.Snapshot n os ls) fits = (4, _, refl, (n, _, refl, count_agrees.said n, (os, _, refl, (objects_agree size).said os, (ls, _, refl, lasts_agree.said ls, (refl, refl)))))

pub replica_entry_agrees : (size : Size) → Agrees (replica_entry size)
unfolding replica_entry decide_form
replica_entry_agrees size = record {
  written = behind_tags (replica_entry_forms size) (λ p e. p ≡ (replica_entry size).piece e) (
    (client_agrees.written, λ c k. (ordinal_agrees.written, λ n k. ((records_agrees size).written, λ rs k. (verdict_agrees.written, λ v k. refl)))),
    (
      ((change_agrees size).written, λ c k. (lasts_agree.written, λ ls k. refl)),
      (
        ((change_agrees size).written, λ c k. (lasts_agree.written, λ ls k. refl)),
        (
          (count_agrees.written, λ n k. ((objects_agree size).written, λ os k. (lasts_agree.written, λ ls k. refl))),
          tt,
        ),
      ),
    ),
  );
  said = replica_entry_said size;
  placed = tags_placed (replica_entry_forms size) (
    (client_agrees.placed, λ c. (ordinal_agrees.placed, λ n. ((records_agrees size).placed, λ rs. (verdict_agrees.placed, λ v. tt)))),
    (
      ((change_agrees size).placed, λ c. (lasts_agree.placed, λ ls. tt)),
      (
        ((change_agrees size).placed, λ c. (lasts_agree.placed, λ ls. tt)),
        (
          (count_agrees.placed, λ n. ((objects_agree size).placed, λ os. (lasts_agree.placed, λ ls. tt))),
          tt,
        ),
      ),
    ),
  );
}
