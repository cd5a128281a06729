-- What histories leave of clients and replicas.
use Rattle.std.proofs.Common.{◌≡◌, ℕ, ◌+◌, ◌==◌, true, false, cond, List, [], ◌∷◌, ◌++◌, append-nil, Option, Some, None, option_map, refl, sym, ap, ◌∙◌, arith}
use Rattle.std.proofs.lemmas.Bool.{eqb-true}
use Rattle.coda_fid.specs.declared.op.Record.{Record}
use Rattle.coda_certify.specs.declared.verdict.Verdict.TheVariants.{Applied, Conflict}
use Rattle.coda_cancel.specs.Numbers.{IsRising}
use Rattle.coda_certify.specs.Verdicts.{verdict_of, nodes_left}
use Rattle.coda_cml.specs.declared.frozen.Frozen.{Frozen}
use Rattle.coda_cml.specs.Segments.{records_upto, records_above}
use Rattle.coda_tree.specs.Volume.{fresh}
use Rattle.coda_plain.specs.Histories.{left_by}
use Rattle.coda_plain.specs.Deeds.{Deed, Operated, Froze, Settled, Gaveup, operation_in, full_of, created_by, created_in, Cut, Course, course_after, course_of, pending_of, MayDo, AreLawful}
use Rattle.coda_plain.specs.Decisions.{ReplicaEntry, Decided, Resolved, with_last, no_lasts, Kept, kept_after, nodes_of, last_of, decision}
use Rattle.coda_plain.specs.Logs.{front_by, back_by, front_of, back_of, LogAfter}
use Rattle.coda_plain.specs.Cell.{ClientEntry, Fetched, Did, Dropping, deed_on, deeds_of}
use Rattle.coda_plain.proofs.Lists.{left_push, follow_push, along}
use Rattle.coda_plain.proofs.Chunking.{course_push, full_push}
use Rattle.coda_plain.proofs.Ledger.{orderly}
use Rattle.coda_plain.proofs.Logging.{logs_go_on}
use Rattle.coda_plain.proofs.Ranges.{both_parts, above_rising}
use Rattle.coda_cell.specs.State.{put, ClientVolume, new_volume, volume_after, pending, ClientState, new_client, client_after, client_after_all, ReplicaState, new_replica, replica_after, replica_after_all}
use Rattle.coda_cell.specs.Made.{client_of}

pub client_push : (c : ClientState) (entries : List ClientEntry) (entry : ClientEntry) → client_after_all c (entries ++ entry ∷ []) ≡ client_after (client_after_all c entries) entry
client_push c [] entry = refl
client_push c (first ∷ entries) entry = client_push (client_after c first) entries entry

pub replica_push : (r : ReplicaState) (entries : List ReplicaEntry) (entry : ReplicaEntry) → replica_after_all r (entries ++ entry ∷ []) ≡ replica_after (replica_after_all r entries) entry
replica_push r [] entry = refl
replica_push r (first ∷ entries) entry = replica_push (replica_after r first) entries entry

pub number_stays : (c : ClientState) (entries : List ClientEntry) → (client_after_all c entries).number ≡ c.number
number_stays c [] = refl
number_stays c (entry ∷ entries) = number_stays (client_after c entry) entries

pub server_after : (r : ReplicaState) (entry : ReplicaEntry) → (replica_after r entry).server ≡ r.server
server_after r (Decided client number span) = refl
server_after r (Resolved nodes lasts) = refl

pub server_stays : (r : ReplicaState) (entries : List ReplicaEntry) → (replica_after_all r entries).server ≡ r.server
server_stays r [] = refl
server_stays r (entry ∷ entries) = server_stays (replica_after r entry) entries ∙ server_after r entry

nodes_after : (r : ReplicaState) (kept : Kept) (entry : ReplicaEntry) → r.tree.nodes ≡ kept.nodes → (replica_after r entry).tree.nodes ≡ (kept_after kept entry).nodes
nodes_after r kept (Decided client number span) same = λ i. nodes_left (same i) (decision (same i) client span)
nodes_after r kept (Resolved nodes lasts) same = refl

nodes_after_all : (r : ReplicaState) (kept : Kept) (entries : List ReplicaEntry) → r.tree.nodes ≡ kept.nodes → (replica_after_all r entries).tree.nodes ≡ (left_by kept_after kept entries).nodes
nodes_after_all r kept [] same = same
nodes_after_all r kept (entry ∷ entries) same = nodes_after_all (replica_after r entry) (kept_after kept entry) entries (nodes_after r kept entry same)

-- the nodes of a replica are those that its history leaves
pub nodes_are : (server volume : ℕ) (entries : List ReplicaEntry) → (replica_after_all (new_replica server volume) entries).tree.nodes ≡ nodes_of volume entries
nodes_are server volume entries = nodes_after_all (new_replica server volume) (record { nodes = (fresh volume).nodes; lasts = no_lasts }) entries refl

lasts_after : (r : ReplicaState) (kept : Kept) (entry : ReplicaEntry) → r.tree.nodes ≡ kept.nodes → ((client : ℕ) → r.lasts client ≡ kept.lasts client) → (client : ℕ) → (replica_after r entry).lasts client ≡ (kept_after kept entry).lasts client
lasts_after r kept (Decided client number span) same lasts q = λ i. with_last (λ c. lasts c i) client (record { number = number; verdict = verdict_of (decision (same i) client span) }) q
lasts_after r kept (Resolved nodes lasts) same before q = refl

lasts_after_all : (r : ReplicaState) (kept : Kept) (entries : List ReplicaEntry) → r.tree.nodes ≡ kept.nodes → ((client : ℕ) → r.lasts client ≡ kept.lasts client) → (client : ℕ) → (replica_after_all r entries).lasts client ≡ (left_by kept_after kept entries).lasts client
lasts_after_all r kept [] same lasts = lasts
lasts_after_all r kept (entry ∷ entries) same lasts = lasts_after_all (replica_after r entry) (kept_after kept entry) entries (nodes_after r kept entry same) (lasts_after r kept entry same lasts)

-- what a replica keeps of the last chunk of a client is what its history leaves
pub lasts_are : (server volume : ℕ) (entries : List ReplicaEntry) (client : ℕ) → (replica_after_all (new_replica server volume) entries).lasts client ≡ last_of volume entries client
lasts_are server volume entries = lasts_after_all (new_replica server volume) (record { nodes = (fresh volume).nodes; lasts = no_lasts }) entries refl (λ client. refl)

-- what deeds leave of a volume
abbrev pub volume_of : List Deed → ClientVolume
volume_of deeds = left_by volume_after new_volume deeds

did_on : (volumes : ℕ → ClientVolume) (volume at : ℕ) (deed : Deed) → put volumes at (volume_after (volumes at) deed) volume ≡ left_by volume_after (volumes volume) (deed_on volume (Did at deed))
did_on volumes volume at deed = elim (volume == at) as (λ b. (volume == at) ≡ b → cond b (volume_after (volumes at) deed) (volumes volume) ≡ left_by volume_after (volumes volume) (cond b (deed ∷ []) [])) [
  | true ↦ λ e. ap (λ v. volume_after (volumes v) deed) (sym (eqb-true volume at e))
  | false ↦ λ e. refl
] refl

left_both : {S E : Type 0} (step : S → E → S) (s : S) (first rest : List E) → left_by step s (first ++ rest) ≡ left_by step (left_by step s first) rest
left_both step s [] rest = refl
left_both step s (e ∷ first) rest = left_both step (step s e) first rest

entered_on : (c : ClientState) (entry : ClientEntry) (volume : ℕ) → (client_after c entry).volumes volume ≡ left_by volume_after (c.volumes volume) (deed_on volume entry)
entered_on c (Fetched fid parent node) volume = refl
entered_on c (Did at deed) volume = did_on c.volumes volume at deed
entered_on c (Dropping gone entry) volume = entered_on c entry volume

volumes_after_all : (c : ClientState) (entries : List ClientEntry) (volume : ℕ) → (client_after_all c entries).volumes volume ≡ left_by volume_after (c.volumes volume) (deeds_of volume entries)
volumes_after_all c [] volume = refl
volumes_after_all c (entry ∷ entries) volume =
    volumes_after_all (client_after c entry) entries volume ∙ ap (λ v. left_by volume_after v (deeds_of volume entries)) (entered_on c entry volume)
    ∙ sym (left_both volume_after (c.volumes volume) (deed_on volume entry) (deeds_of volume entries))

-- what a client has of a volume is what its deeds there leave
pub volumes_are : (client blocks : ℕ) (entries : List ClientEntry) (volume : ℕ) → (client_of client entries blocks).volumes volume ≡ volume_of (deeds_of volume entries)
volumes_are client blocks entries volume = volumes_after_all (new_client client blocks) entries volume

-- the frozen chunk, where there is one
abbrev pub frozen_by : Course → Option Frozen
frozen_by course = option_map (λ (cut : Cut). let frozen : Frozen = record { number = course.chunks; home = cut.home } in frozen) course.cut

pub record IsOfCourse (v : ClientVolume) (deeds : List Deed) : Type 0 where
  pub frozen : v.frozen ≡ frozen_by (course_of deeds)
  pub front : v.front ≡ front_of deeds
  pub back : v.back ≡ back_of deeds
  pub operations : v.operations ≡ (course_of deeds).operations
  pub creations : v.creations ≡ created_in (full_of deeds)
  pub chunks : v.chunks ≡ (course_of deeds).chunks

created_push : (recs : List Record) (rec : Record) → created_in (recs ++ rec ∷ []) ≡ created_in recs + created_by rec.op
created_push [] rec = omega arith
created_push (first ∷ recs) rec = let e = created_push recs rec in omega (arith, e)

abbrev IsShown : List Deed → Type 0
IsShown deeds = AreLawful deeds × IsOfCourse (volume_of deeds) deeds

-- the counts behind a deed
counts : (deeds : List Deed) (deed : Deed) → IsOfCourse (volume_of deeds) deeds
    → ((volume_after (volume_of deeds) deed).operations ≡ (course_after (course_of deeds) deed).operations) × ((volume_after (volume_of deeds) deed).creations ≡ created_in (full_of deeds ++ operation_in deed))
    × ((volume_after (volume_of deeds) deed).chunks ≡ (course_after (course_of deeds) deed).chunks)
counts deeds (Operated rec) is = (refl, (let e = is.creations in let p = created_push (full_of deeds) rec in omega (arith, e, p)), is.chunks)
counts deeds (Froze number home last) is = (is.operations, is.creations ∙ ap created_in (sym (append-nil (full_of deeds))), refl)
counts deeds (Settled number verdict) is = (is.operations, is.creations ∙ ap created_in (sym (append-nil (full_of deeds))), is.chunks)
counts deeds Gaveup is = (is.operations, is.creations ∙ ap created_in (sym (append-nil (full_of deeds))), is.chunks)

-- the chunk that is frozen behind a deed
frozen_after : (deeds : List Deed) (deed : Deed) → IsOfCourse (volume_of deeds) deeds → MayDo deeds deed → (volume_after (volume_of deeds) deed).frozen ≡ frozen_by (course_after (course_of deeds) deed)
frozen_after deeds (Operated rec) is may = is.frozen
frozen_after deeds (Froze number home last) is may = refl
frozen_after deeds (Settled number verdict) is may = refl
frozen_after deeds Gaveup is may = sym (ap (option_map (λ (cut : Cut). let frozen : Frozen = record { number = (course_of deeds).chunks; home = cut.home } in frozen)) may)

-- the two runs behind a deed
runs : (deeds : List Deed) (deed : Deed) (front back : List Record) → IsOfCourse (volume_of deeds) deeds → LogAfter (front_of deeds) (back_of deeds) deed front back
    → ((volume_after (volume_of deeds) deed).front ≡ front) × ((volume_after (volume_of deeds) deed).back ≡ back)
runs deeds (Operated rec) front back is after = (is.front ∙ sym after.0, ap (λ l. l ++ rec ∷ []) is.back ∙ sym after.1)
runs deeds (Froze number home last) front back is after = (ap (records_upto last) is.back ∙ sym after.0, ap (records_above last) is.back ∙ sym after.1)
runs deeds (Settled number Applied) front back is after = (sym after.0, is.back ∙ sym after.1)
runs deeds (Settled number (Conflict refused why)) front back is after = (sym after.0, (λ i. is.front i ++ is.back i) ∙ sym after.1)
runs deeds Gaveup front back is after = (sym after.0, sym after.1)

shown_push : (deeds : List Deed) (deed : Deed) → IsShown deeds → MayDo deeds deed → IsShown (deeds ++ deed ∷ [])
shown_push deeds deed is may =
    let left : volume_of (deeds ++ deed ∷ []) ≡ volume_after (volume_of deeds) deed = left_push volume_after new_volume deeds deed in
    let course : course_of (deeds ++ deed ∷ []) ≡ course_after (course_of deeds) deed = course_push deeds deed in
    let n = counts deeds deed is.1 in
    let r = runs deeds deed (front_of (deeds ++ deed ∷ [])) (back_of (deeds ++ deed ∷ [])) is.1 (logs_go_on deeds deed is.0 may).1 in (
      follow_push MayDo deeds deed is.0 may,
      record {
        frozen = ap (λ (v : ClientVolume). v.frozen) left ∙ frozen_after deeds deed is.1 may ∙ sym (ap frozen_by course);
        front = ap (λ (v : ClientVolume). v.front) left ∙ r.0;
        back = ap (λ (v : ClientVolume). v.back) left ∙ r.1;
        operations = ap (λ (v : ClientVolume). v.operations) left ∙ n.0 ∙ sym (ap (λ (c : Course). c.operations) course);
        creations = ap (λ (v : ClientVolume). v.creations) left ∙ n.1 ∙ sym (ap created_in (full_push deeds deed));
        chunks = ap (λ (v : ClientVolume). v.chunks) left ∙ n.2 ∙ sym (ap (λ (c : Course). c.chunks) course);
      },
    )

pub shown : (deeds : List Deed) → AreLawful deeds → IsOfCourse (volume_of deeds) deeds
shown deeds law = (along MayDo IsShown shown_push deeds (tt, record { frozen = refl; front = refl; back = refl; operations = refl; creations = refl; chunks = refl }) law).1

both_runs : (cut : Option Cut) (run : List Record) → IsRising run → front_by cut run ++ back_by cut run ≡ run
both_runs None run rising = refl
both_runs (Some cut) run rising = both_parts cut.last run rising

-- the operations of the frozen chunk and those behind it are what is pending
pub runs_are : (deeds : List Deed) → AreLawful deeds → front_of deeds ++ back_of deeds ≡ pending_of deeds
runs_are deeds law = both_runs (course_of deeds).cut (pending_of deeds) (above_rising (course_of deeds).done (full_of deeds) (orderly deeds law).1.rising)

pub pending_are : (deeds : List Deed) → AreLawful deeds → pending (volume_of deeds) ≡ pending_of deeds
pending_are deeds law = let is = shown deeds law in (λ i. is.front i ++ is.back i) ∙ runs_are deeds law

cut_none : (chunks : ℕ) (o : Option Cut) → option_map (λ (cut : Cut). let frozen : Frozen = record { number = chunks; home = cut.home } in frozen) o ≡ None → o ≡ None
cut_none chunks None none = refl
cut_none chunks (Some cut) none = cc

-- no chunk is frozen where the log has none, and then all that is pending is behind
pub thawed_are : (deeds : List Deed) → AreLawful deeds → (volume_of deeds).frozen ≡ None → ((course_of deeds).cut ≡ None) × ((volume_of deeds).back ≡ pending_of deeds)
thawed_are deeds law none =
    let is = shown deeds law in
    let cut = cut_none (course_of deeds).chunks (course_of deeds).cut (sym is.frozen ∙ none) in
    (cut, is.back ∙ ap (λ c. back_by c (pending_of deeds)) cut)
