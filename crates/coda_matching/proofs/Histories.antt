-- What a client's history in a cell leaves, and what its journal leaves.
use Rattle.std.proofs.Common.{◌≡◌, ℕ, zero, suc, false, not, ◌||◌, List, [], ◌∷◌, ◌++◌, map as map_list, append_assoc, append-nil, Option, Some, None, refl, sym, ap, ◌∙◌, subst}
use Rattle.std.specs.FinMap as map
use Rattle.std.specs.Option.{option_map_or}
use Rattle.coda_fid.specs.Fid.{same_fid}
use Rattle.coda_fid.specs.declared.op.Record.{Record}
use Rattle.coda_tree.specs.Volume.{Nodes}
use Rattle.coda_fid.specs.declared.fid.Fid.{Fid}
use Rattle.coda_fid.specs.declared.op.Op.{Op}
use Rattle.coda_fid.specs.declared.op.Op.TheVariants.{Create, Mkdir, Symlink, Store, Setattr, Remove, Rmdir, Rename}
use Rattle.coda_certify.specs.Replay.{applied}
use Rattle.coda_cml.specs.Steady.{IsSteady}
use Rattle.coda_journal.specs.declared.header.Header.{Header}
use Rattle.coda_plain.specs.Histories.{DoFollow}
use Rattle.coda_plain.specs.Deeds.{Deed, Operated, Froze, Settled, Gaveup, MayDo, AreLawful}
use Rattle.coda_plain.specs.Cell.{ClientEntry, Fetched, Did, Dropping, deed_on, deeds_of}
use Rattle.coda_plain.proofs.Ledger.{orderly}
use Rattle.coda_plain.proofs.Lists.{left_push, follow_push}
use Rattle.coda_record.specs.declared.entry.ClientEntry.TheVariants as kept
use Rattle.coda_venus.specs.History.{Payload, state_of, MayEnter, MayEnterAll, MayFollow, IsHistory}
use Rattle.coda_venus.specs.State.{ClientState as VenusState, new_client as new_venus, client_after as venus_after, client_after_all as venus_after_all, volume_after as venus_volume_after}
use Rattle.coda_cell.specs.Held.{held_after_drops}
use Rattle.coda_venus.specs.Held.{held_after_operation, held_after_fetch, held_after_drop}
use Rattle.coda_cell.specs.State.{volume_after, pending, ClientState, client_after}
use Rattle.coda_cell.specs.Made.{client_of}
use Rattle.coda_cell.proofs.Histories.{client_push, volumes_are, volume_of, pending_are}
use Rattle.coda_matching.specs.Clients.{entry_of, gone_with, payload_by, journal_by, IsClientHistory, IsOneClient}
use Rattle.coda_matching.specs.Laws.{JournalsLeaveClients}
use Rattle.coda_matching.proofs.Volumes.{IsAlike, one_volume, new_alike, deed_alike, may_come, put_alike}

-- ---- histories

pub journal_push : (es : List ClientEntry) (e : ClientEntry) → journal_by (es ++ e ∷ []) ≡ journal_by es ++ payload_by e ∷ []
journal_push [] e = refl
journal_push (x ∷ es) e = ap (λ l. payload_by x ∷ l) (journal_push es e)

pub deeds_both : (volume : ℕ) (es more : List ClientEntry) → deeds_of volume (es ++ more) ≡ deeds_of volume es ++ deeds_of volume more
deeds_both volume [] more = refl
deeds_both volume (x ∷ es) more = ap (λ l. deed_on volume x ++ l) (deeds_both volume es more) ∙ sym (append_assoc (deed_on volume x) (deeds_of volume es) (deeds_of volume more))

-- what begins a list whose entries may follow each other
follow_front : {E : Type 0} (may : List E → E → Type 0) (past es more : List E) → DoFollow may past (es ++ more) → DoFollow may past es
follow_front may past [] more f = tt
follow_front may past (e ∷ es) more f = (f.0, follow_front may (past ++ e ∷ []) es more f.1)

pub lawful_front : (volume : ℕ) (es more : List ClientEntry) → AreLawful (deeds_of volume (es ++ more)) → AreLawful (deeds_of volume es)
lawful_front volume es more law = follow_front MayDo [] (deeds_of volume es) (deeds_of volume more) (subst AreLawful (deeds_both volume es more) law)

-- a history with one entry more, which may follow in both
pub history_push : (header : Header) (history : List ClientEntry) (entry : ClientEntry) → IsClientHistory header history → MayFollow header (journal_by history) (payload_by entry)
    → ((volume : ℕ) → AreLawful (deeds_of volume (history ++ entry ∷ []))) → IsClientHistory header (history ++ entry ∷ [])
history_push header history entry is may laws = record {
  journal = subst (IsHistory header) (sym (journal_push history entry)) (follow_push (MayFollow header) (journal_by history) (payload_by entry) is.journal may);
  deeds = laws;
}

-- ---- one entry

-- both clients hold the same, and have volumes that are alike
pub record AreAlike (c : ClientState) (d : VenusState) : Type 0 where
  pub number : d.number ≡ c.number
  pub blocks : d.blocks ≡ c.blocks
  pub held : d.held ≡ c.held
  pub volumes : (volume : ℕ) → IsAlike (c.volumes volume) (d.volumes volume)

did_alike : (c : ClientState) (d : VenusState) (volume : ℕ) (deed : Deed) → AreAlike c d → IsSteady (pending (c.volumes volume)) → MayEnter d (entry_of (Did volume deed))
    → AreAlike (client_after c (Did volume deed)) (venus_after d (entry_of (Did volume deed)))
did_alike c d volume (Operated rec) a steady may = record {
  number = a.number;
  blocks = a.blocks;
  held = λ i. held_after_operation (a.held i) (a.number i) rec;
  volumes = put_alike c.volumes d.volumes volume (volume_after (c.volumes volume) (Operated rec)) (venus_volume_after (d.volumes volume) (Operated rec)) a.volumes
      (deed_alike (c.volumes volume) (d.volumes volume) (Operated rec) (a.volumes volume) steady (may_come d volume (Operated rec) may));
}
did_alike c d volume (Froze number home last) a steady may = record {
  number = a.number;
  blocks = a.blocks;
  held = a.held;
  volumes = put_alike c.volumes d.volumes volume (volume_after (c.volumes volume) (Froze number home last)) (venus_volume_after (d.volumes volume) (Froze number home last)) a.volumes
      (deed_alike (c.volumes volume) (d.volumes volume) (Froze number home last) (a.volumes volume) steady (may_come d volume (Froze number home last) may));
}
did_alike c d volume (Settled number verdict) a steady may = record {
  number = a.number;
  blocks = a.blocks;
  held = a.held;
  volumes = put_alike c.volumes d.volumes volume (volume_after (c.volumes volume) (Settled number verdict)) (venus_volume_after (d.volumes volume) (Settled number verdict)) a.volumes
      (deed_alike (c.volumes volume) (d.volumes volume) (Settled number verdict) (a.volumes volume) steady (may_come d volume (Settled number verdict) may));
}
did_alike c d volume Gaveup a steady may = record {
  number = a.number;
  blocks = a.blocks;
  held = a.held;
  volumes = put_alike c.volumes d.volumes volume (volume_after (c.volumes volume) Gaveup) (venus_volume_after (d.volumes volume) Gaveup) a.volumes
      (deed_alike (c.volumes volume) (d.volumes volume) Gaveup (a.volumes volume) steady (may_come d volume Gaveup may));
}

-- what is dropped leaves both alike
drops_alike : (c : ClientState) (d : VenusState) (gone : List Fid) → AreAlike c d → AreAlike (record c { held = held_after_drops c.held gone }) (venus_after_all d (map_list kept.Dropped gone))
drops_alike c d [] a = record { number = a.number; blocks = a.blocks; held = a.held; volumes = a.volumes }
drops_alike c d (fid ∷ gone) a =
    drops_alike (record c { held = record { nodes = map.remove c.held.nodes fid; parents = map.remove c.held.parents fid } }) (venus_after d (kept.Dropped fid)) gone
    (record { number = a.number; blocks = a.blocks; held = λ i. held_after_drop (a.held i) fid; volumes = a.volumes })

-- entries of a payload behind others of it
after_both : (d : VenusState) (front back : Payload) → venus_after_all d (front ++ back) ≡ venus_after_all (venus_after_all d front) back
after_both d [] back = refl
after_both d (e ∷ front) back = after_both (venus_after d e) front back

may_behind : (d : VenusState) (front back : Payload) → MayEnterAll d (front ++ back) → MayEnterAll (venus_after_all d front) back
may_behind d [] back may = may
may_behind d (e ∷ front) back may = may_behind (venus_after d e) front back may.1

-- one entry more, where what is pending on each volume is steady
pub entry_alike : (c : ClientState) (d : VenusState) (entry : ClientEntry) → AreAlike c d → ((volume : ℕ) → IsSteady (pending (c.volumes volume))) → MayEnterAll d (payload_by entry)
    → AreAlike (client_after c entry) (venus_after_all d (payload_by entry))
entry_alike c d (Fetched fid parent node) a steady may = record {
  number = a.number;
  blocks = a.blocks;
  held = λ i. held_after_fetch (a.held i) fid parent node;
  volumes = a.volumes;
}
entry_alike c d (Did volume deed) a steady may = did_alike c d volume deed a (steady volume) may.0
entry_alike c d (Dropping gone entry) a steady may =
    let whole : payload_by (Dropping gone entry) ≡ map_list kept.Dropped gone ++ payload_by entry = append_assoc (map_list kept.Dropped gone) (gone_with entry) (entry_of entry ∷ []) in
    subst (AreAlike (client_after c (Dropping gone entry))) (sym (ap (venus_after_all d) whole ∙ after_both d (map_list kept.Dropped gone) (payload_by entry)))
    (entry_alike (record c { held = held_after_drops c.held gone }) (venus_after_all d (map_list kept.Dropped gone)) entry (drops_alike c d gone a) steady
    (may_behind d (map_list kept.Dropped gone) (payload_by entry) (subst (MayEnterAll d) whole may)))

-- ---- a history

-- what is pending on a volume is steady, as the history leaves it
pub steady_of : (number blocks : ℕ) (history : List ClientEntry) (volume : ℕ) → AreLawful (deeds_of volume history) → IsSteady (pending ((client_of number history blocks).volumes volume))
steady_of number blocks history volume law =
    let left : pending ((client_of number history blocks).volumes volume) ≡ pending (volume_of (deeds_of volume history)) = ap pending (volumes_are number blocks history volume) in
    subst IsSteady (sym (left ∙ pending_are (deeds_of volume history) law)) (orderly (deeds_of volume history) law).1.steady

module _ (header : Header) where
  abbrev Alike : List ClientEntry → Type 0
  Alike past = AreAlike (client_of header.number past header.cache) (state_of header (journal_by past))

  state_push : (past : List ClientEntry) (entry : ClientEntry) → state_of header (journal_by (past ++ entry ∷ [])) ≡ venus_after_all (state_of header (journal_by past)) (payload_by entry)
  state_push past entry = ap (state_of header) (journal_push past entry) ∙ left_push venus_after_all (new_venus header.number header.cache) (journal_by past) (payload_by entry)

  alike_push : (past : List ClientEntry) (entry : ClientEntry) → ((volume : ℕ) → AreLawful (deeds_of volume past)) → Alike past → MayFollow header (journal_by past) (payload_by entry) → Alike (past ++ entry ∷ [])
  alike_push past entry laws a may =
      subst (λ (c : ClientState). AreAlike c (state_of header (journal_by (past ++ entry ∷ [])))) (sym (client_push _ past entry))
      (subst (AreAlike (client_after (client_of header.number past header.cache) entry)) (sym (state_push past entry))
      (entry_alike (client_of header.number past header.cache) (state_of header (journal_by past)) entry a (λ volume. steady_of header.number header.cache past volume (laws volume)) may.0))

  alike_from : (past rest : List ClientEntry) → ((volume : ℕ) → AreLawful (deeds_of volume (past ++ rest))) → Alike past → DoFollow (MayFollow header) (journal_by past) (journal_by rest) → Alike (past ++ rest)
  alike_from past [] laws a follow = subst Alike (sym (append-nil past)) a
  alike_from past (entry ∷ rest) laws a follow =
      let whole : (past ++ entry ∷ []) ++ rest ≡ past ++ entry ∷ rest = append_assoc past (entry ∷ []) rest in
      subst Alike whole
      (alike_from (past ++ entry ∷ []) rest (λ volume. subst (λ es. AreLawful (deeds_of volume es)) (sym whole) (laws volume))
      (alike_push past entry (λ volume. lawful_front volume past (entry ∷ rest) (laws volume)) a follow.0)
      (subst (λ (past : List Payload). DoFollow (MayFollow header) past (journal_by rest)) (sym (journal_push past entry)) follow.1))

  -- what a history leaves, and what its journal leaves
  pub alike : (history : List ClientEntry) → IsClientHistory header history → Alike history
  alike history is = alike_from [] history is.deeds (record { number = refl; blocks = refl; held = refl; volumes = λ volume. new_alike }) is.journal

pub one_client : (c : ClientState) (d : VenusState) → AreAlike c d → IsOneClient c d
one_client c d a = record { number = a.number; blocks = a.blocks; held = a.held; volumes = λ volume. one_volume (c.volumes volume) (d.volumes volume) (a.volumes volume) }

pub journals_leave_clients : JournalsLeaveClients
journals_leave_clients header history is = one_client (client_of header.number history header.cache) (state_of header (journal_by history)) (alike header history is)
