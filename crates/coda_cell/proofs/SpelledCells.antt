-- What actors did can be spelled, after whatever entries that can be.
use Rattle.std.proofs.Common.{◌≡◌, ℕ, ◌==◌, ◌&&◌, true, false, cond, List, [], ◌∷◌, ◌++◌, append-nil, Option, Some, None, refl, sym, ap, ◌∙◌, subst, inl, inr}
use Rattle.std.proofs.lemmas.Bool.{eqb-true, cases_Bool, and_parts}
use Rattle.std.specs.FinMap as map
use Rattle.coda_fid.specs.declared.op.Record.{Record}
use Rattle.coda_fid.specs.declared.fid.Fid.{Fid}
use Rattle.coda_fid.proofs.Fids.{fids_total, exact_fids}
use Rattle.coda_tree.specs.Volume.{Nodes, child_of}
use Rattle.coda_tree.proofs.Order.{fid_cases, gone_here, gone_else}
use Rattle.coda_certify.specs.declared.verdict.Verdict.TheVariants.{Applied}
use Rattle.coda_certify.specs.Replay.{applied}
use Rattle.coda_certify.specs.Verdicts.{verdict_of}
use Rattle.coda_cancel.specs.Cancel.{fold}
use Rattle.coda_cancel.specs.Numbers.{AreAbove, IsRising}
use Rattle.coda_cml.specs.Segments.{records_upto, records_above}
use Rattle.coda_record.specs.Form.{four}
use Rattle.coda_record.specs.Parts.{u8}
use Rattle.coda_record.specs.Spelling.{HasSpelling}
use Rattle.coda_record.specs.Table as table
use Rattle.coda_plain.specs.Histories.{In}
use Rattle.coda_plain.specs.Deeds.{Deed, Operated, Froze, Settled, Gaveup, operation_in, full_of, Course, course_of, pending_of, Chunk, chunk_at, chunks_of, span_in, span_of, MayDo, AreLawful}
use Rattle.coda_plain.specs.Objects.{nodes_in}
use Rattle.coda_plain.specs.Decisions.{ReplicaEntry, Decided, Resolved, Last, Kept, kept_after, kept_of, nodes_of, decision}
use Rattle.coda_plain.specs.Cell.{ClientEntry, Fetched, Did, Dropping, deeds_of, PlainCell, empty_cell}
use Rattle.coda_plain.specs.Moves.{grown as grown_actor, Append, AtClient, AtReplica, Move, Does, Fails, Posts, Loses, Crashes, Recovers, after, done_on, MayAppend, Moved}
use Rattle.coda_plain.specs.Sound.{IsSound}
use Rattle.coda_plain.proofs.AtReplicas.{kept_push, with_last_at}
use Rattle.coda_plain.proofs.Chunking.{course_push, full_push, spans_in}
use Rattle.coda_plain.proofs.Ledger.{orderly}
use Rattle.coda_plain.proofs.Lists.{in_parts, told_last, follow_push, along}
use Rattle.coda_plain.proofs.Places.{deeds_push, deeds_beside}
use Rattle.coda_plain.proofs.Ranges.{both_parts, above_rising}
use Rattle.coda_plain.proofs.Soundness.{none_joins, moves_keep_sound}
use Rattle.coda_cell.specs.Held.{held_after, held_after_drops}
use Rattle.coda_venus.specs.Held.{Held, Parents, taken_out, stays, held_without, parents_after}
use Rattle.coda_cell.specs.State.{ClientState, new_client}
use Rattle.coda_cell.specs.Made.{client_of}
use Rattle.coda_spelling.specs.Spelled.{IsSpelled, AreSpelled, AreAllSpelled}
use Rattle.coda_cell.specs.Spelled.{IsReplicaSpelled, DidSpelled}
use Rattle.coda_histories.proofs.Ways.{left_was}
use Rattle.coda_cell.proofs.Going.{bound_with}
use Rattle.coda_cell.proofs.Histories.{client_push, number_stays}
use Rattle.coda_cell.proofs.SpelledFolds.{all_spelled, sent_spelled}
use Rattle.coda_cell.proofs.SpelledDecisions.{after_decision, room_decided, verdict_spelled}
use Rattle.coda_spelling.proofs.SpelledNodes.{after_operation, after_fetch, fresh_spelled}
use Rattle.coda_spelling.proofs.SpelledVerdicts.{fresh_room}

in_chunk : (number : ℕ) (chunks : List Chunk) (rec : Record) → In rec (span_in number chunks) → (c : Chunk) × In c chunks × In rec c.span
in_chunk number [] rec i = absurd i
in_chunk number (chunk ∷ chunks) rec i = elim (chunk.number == number) as (λ b. In rec (cond b chunk.span (span_in number chunks)) → (c : Chunk) × In c (chunk ∷ chunks) × In rec c.span) [
  | true ↦ λ j. (chunk, inl refl, j)
  | false ↦ λ j. (let at = in_chunk number chunks rec j in (at.0, inr at.1, at.2))
] i

-- the span of a chunk is of operations that were accepted
pub span_all : (deeds : List Deed) (number : ℕ) → AreLawful deeds → ((rec : Record) → In rec (full_of deeds) → IsSpelled rec) → AreAllSpelled (span_of deeds number)
span_all deeds number law each = all_spelled (span_of deeds number) (λ rec i. let at = in_chunk number (chunks_of deeds) rec i in each rec (spans_in deeds law at.0 at.1 rec at.2))

above_front : (n : ℕ) (front back : List Record) → AreAbove n (front ++ back) → AreAbove n front
above_front n [] back above = tt
above_front n (rec ∷ front) back above = (above.0, above_front n front back above.1)

rising_front : (front back : List Record) → IsRising (front ++ back) → IsRising front
rising_front [] back rising = tt
rising_front (rec ∷ front) back rising = (above_front rec.number front back rising.0, rising_front front back rising.1)

-- the numbers of a chunk's operations rise
abbrev AreSpansRising : List Deed → Type 0
AreSpansRising deeds = AreLawful deeds × ((c : Chunk) → In c (chunks_of deeds) → IsRising c.span)

new_rising : (deeds : List Deed) (deed : Deed) (c : Chunk) → AreLawful deeds → In c (chunk_at deeds deed) → IsRising c.span
new_rising deeds (Operated rec) c law i = absurd i
new_rising deeds (Froze number home last) c law (inl same) =
    let rising = above_rising (course_of deeds).done (full_of deeds) (orderly deeds law).1.rising in
    subst (λ (x : Chunk). IsRising x.span) (sym same) (rising_front (records_upto last (pending_of deeds)) (records_above last (pending_of deeds)) (subst IsRising (sym (both_parts last (pending_of deeds) rising)) rising))
new_rising deeds (Froze number home last) c law (inr none) = absurd none
new_rising deeds (Settled number verdict) c law i = absurd i
new_rising deeds Gaveup c law i = absurd i

rising_push : (deeds : List Deed) (deed : Deed) → AreSpansRising deeds → MayDo deeds deed → AreSpansRising (deeds ++ deed ∷ [])
rising_push deeds deed is may = (
  follow_push MayDo deeds deed is.0 may,
  (λ c i. elim (told_last chunk_at deeds deed c i) [ inl old ↦ is.1 c old | inr new ↦ new_rising deeds deed c is.0 new ]),
)

spans_rising : (deeds : List Deed) → AreLawful deeds → (c : Chunk) → In c (chunks_of deeds) → IsRising c.span
spans_rising deeds law = (along MayDo AreSpansRising rising_push deeds (tt, λ c i. absurd i) law).1

span_rising : (number : ℕ) (chunks : List Chunk) → ((c : Chunk) → In c chunks → IsRising c.span) → IsRising (span_in number chunks)
span_rising number [] each = tt
span_rising number (chunk ∷ chunks) each = elim (chunk.number == number) as (λ b. IsRising (cond b chunk.span (span_in number chunks))) [ true ↦ each chunk (inl refl) | false ↦ span_rising number chunks (λ c i. each c (inr i)) ]

-- the records that are sent of a chunk
pub chunk_spelled : (deeds : List Deed) (number : ℕ) → AreLawful deeds → ((rec : Record) → In rec (full_of deeds) → IsSpelled rec) → HasSpelling (table.records four) (fold (span_of deeds number))
chunk_spelled deeds number law each = sent_spelled (span_of deeds number) (span_rising number (chunks_of deeds) (spans_rising deeds law)) (span_all deeds number law each)

-- what can be spelled of a deed, of the client with this number
abbrev pub IsDeedSpelled : ℕ → Deed → Type 0
IsDeedSpelled client (Operated rec) = HasSpelling u8 client × IsSpelled rec
IsDeedSpelled client (Froze number home last) = HasSpelling table.count number
IsDeedSpelled client (Settled number verdict) = Unit {0}
IsDeedSpelled client Gaveup = Unit {0}

-- operations and the count of chunks
abbrev AreDeedsSpelled : List Deed → Type 0
AreDeedsSpelled deeds = ((rec : Record) → In rec (full_of deeds) → IsSpelled rec) × HasSpelling table.count (course_of deeds).chunks

operation_spelled : (client : ℕ) (deed : Deed) (rec : Record) → IsDeedSpelled client deed → In rec (operation_in deed) → IsSpelled rec
operation_spelled client (Operated own) rec is (inl same) = subst IsSpelled (sym same) is.1
operation_spelled client (Operated own) rec is (inr none) = absurd none
operation_spelled client (Froze number home last) rec is i = absurd i
operation_spelled client (Settled number verdict) rec is i = absurd i
operation_spelled client Gaveup rec is i = absurd i

count_spelled : (client : ℕ) (deeds : List Deed) (deed : Deed) → HasSpelling table.count (course_of deeds).chunks → IsDeedSpelled client deed → HasSpelling table.count (course_of (deeds ++ deed ∷ [])).chunks
count_spelled client deeds (Operated rec) was is = subst (λ (c : Course). HasSpelling table.count c.chunks) (sym (course_push deeds (Operated rec))) was
count_spelled client deeds (Froze number home last) was is = subst (λ (c : Course). HasSpelling table.count c.chunks) (sym (course_push deeds (Froze number home last))) is
count_spelled client deeds (Settled number verdict) was is = subst (λ (c : Course). HasSpelling table.count c.chunks) (sym (course_push deeds (Settled number verdict))) was
count_spelled client deeds Gaveup was is = subst (λ (c : Course). HasSpelling table.count c.chunks) (sym (course_push deeds Gaveup)) was

deed_spelled : (client : ℕ) (deeds : List Deed) (deed : Deed) → AreDeedsSpelled deeds → IsDeedSpelled client deed → AreDeedsSpelled (deeds ++ deed ∷ [])
deed_spelled client deeds deed are is = (
  (λ rec i. elim (in_parts rec (full_of deeds) (operation_in deed) (subst (In rec) (full_push deeds deed) i)) [ inl old ↦ are.0 rec old | inr new ↦ operation_spelled client deed rec is new ]),
  count_spelled client deeds deed are.1 is,
)

abbrev pub IsEntrySpelled : ℕ → ClientEntry → Type 0
IsEntrySpelled client (Fetched fid parent node) = Unit {0}
IsEntrySpelled client (Did volume deed) = IsDeedSpelled client deed
IsEntrySpelled client (Dropping gone entry) = IsEntrySpelled client entry

entry_spelled : (client volume : ℕ) (history : List ClientEntry) (entry : ClientEntry) → AreDeedsSpelled (deeds_of volume history) → IsEntrySpelled client entry → AreDeedsSpelled (deeds_of volume (history ++ entry ∷ []))
entry_spelled client volume history (Fetched fid parent node) are is = subst AreDeedsSpelled (sym (deeds_push volume history (Fetched fid parent node) ∙ append-nil (deeds_of volume history))) are
entry_spelled client volume history (Did at deed) are is = subst AreDeedsSpelled (sym (deeds_push volume history (Did at deed)))
    (elim (volume == at) as (λ b. AreDeedsSpelled (deeds_of volume history ++ cond b (deed ∷ []) [])) [
      | true ↦ deed_spelled client (deeds_of volume history) deed are is
      | false ↦ subst AreDeedsSpelled (sym (append-nil (deeds_of volume history))) are
    ])
entry_spelled client volume history (Dropping gone entry) are is = subst AreDeedsSpelled (sym (deeds_beside gone volume entry history)) (entry_spelled client volume history entry are is)

after_going : (gone : Option Fid) (parents : Parents) (h : Held) → AreSpelled h.nodes → AreSpelled (held_without gone parents h).nodes
after_going None parents h are = are
after_going (Some gone) parents h are = record {
  versions = λ fid node e. are.versions fid node (left_was h.nodes (stays parents gone) fid node e).1;
  bound = λ dir kid name e. are.bound dir kid name (bound_with (Some gone) parents h dir kid name e);
}

-- what is held; what is fetched comes from nodes that can be spelled
held_by_deed : (h : Held) (client : ℕ) (volume : ℕ) (deed : Deed) → AreSpelled h.nodes → IsDeedSpelled client deed → AreSpelled (held_after h client (Did volume deed)).nodes
held_by_deed h client volume (Operated rec) are is =
    after_going (taken_out rec.op) h.parents (record { nodes = applied h.nodes client rec; parents = parents_after h.parents rec.op }) (after_operation h.nodes client rec are is.0 is.1)
held_by_deed h client volume (Froze number home last) are is = are
held_by_deed h client volume (Settled number verdict) are is = are
held_by_deed h client volume Gaveup are is = are

after_drop : (m : Nodes) (fid : Fid) → AreSpelled m → AreSpelled (map.remove m fid)
after_drop m fid are = record {
  versions = λ other node e. elim (fid_cases other fid) [
    | inl same ↦ (let none : None ≡ Some node = sym (ap (map.get (map.remove m fid)) same ∙ gone_here fids_total m fid) ∙ e in cc)
    | inr off ↦ are.versions other node (sym (gone_else fids_total exact_fids m fid other off) ∙ e)
  ];
  bound = λ dir kid name e. elim (fid_cases dir fid) [
    | inl same ↦ (let none : None ≡ Some kid = sym (ap (λ o. child_of o name) (ap (map.get (map.remove m fid)) same ∙ gone_here fids_total m fid)) ∙ e in cc)
    | inr off ↦ are.bound dir kid name (sym (ap (λ o. child_of o name) (gone_else fids_total exact_fids m fid dir off)) ∙ e)
  ];
}

after_drops : (h : Held) (gone : List Fid) → AreSpelled h.nodes → AreSpelled (held_after_drops h gone).nodes
after_drops h [] are = are
after_drops h (fid ∷ gone) are = after_drops (record { nodes = map.remove h.nodes fid; parents = map.remove h.parents fid }) gone (after_drop h.nodes fid are)

held_by : (cell : PlainCell) (h : Held) (client : ℕ) (entry : ClientEntry) → DidSpelled cell → MayAppend cell (AtClient client entry) → AreSpelled h.nodes → IsEntrySpelled client entry → AreSpelled (held_after h client entry).nodes
held_by cell h client (Fetched fid parent node) did may are is =
    let from = may.1 in
    after_fetch h.nodes (nodes_of from.1 (cell.replicas from.0 from.1).history) fid node are (did.replicas from.0 from.1).nodes from.3
held_by cell h client (Did volume deed) did may are is = held_by_deed h client volume deed are is
held_by cell h client (Dropping gone entry) did may are is = held_by cell (held_after_drops h gone) client entry did may (after_drops h gone are) is

-- an entry more of a client
at_client_spelled : (cell : PlainCell) (client : ℕ) (entry : ClientEntry) → DidSpelled cell → MayAppend cell (AtClient client entry) → IsEntrySpelled client entry → DidSpelled (after cell (Does (AtClient client entry)))
at_client_spelled cell client entry did may is = record { operations = λ c v. (deeds c v).0; chunks = λ c v. (deeds c v).1; held = held; replicas = did.replicas }
  where
    deeds : (c v : ℕ) → AreDeedsSpelled (done_on (after cell (Does (AtClient client entry))) c v)
    deeds c v = elim (c == client) as (λ b. AreDeedsSpelled (deeds_of v (cond b (grown_actor entry (cell.clients client)) (cell.clients c)).history)) [
      | true ↦ entry_spelled client v (cell.clients client).history entry (did.operations client v, did.chunks client v) is
      | false ↦ (did.operations c v, did.chunks c v)
    ]

    mine : (blocks : ℕ) → AreSpelled (client_of client ((cell.clients client).history ++ entry ∷ []) blocks).held.nodes
    mine blocks =
        let c = client_of client (cell.clients client).history blocks in
        subst (λ (k : ClientState). AreSpelled k.held.nodes) (sym (client_push (new_client client blocks) (cell.clients client).history entry))
        (subst (λ n. AreSpelled (held_after c.held n entry).nodes) (sym (number_stays (new_client client blocks) (cell.clients client).history)) (held_by cell c.held client entry did may (did.held client blocks) is))

    held : (c blocks : ℕ) → AreSpelled (client_of c (cond (c == client) (grown_actor entry (cell.clients client)) (cell.clients c)).history blocks).held.nodes
    held c blocks = elim (c == client) as (λ b. (c == client) ≡ b → AreSpelled (client_of c (cond b (grown_actor entry (cell.clients client)) (cell.clients c)).history blocks).held.nodes) [
      | true ↦ λ same. subst (λ n. AreSpelled (client_of n ((cell.clients client).history ++ entry ∷ []) blocks).held.nodes) (sym (eqb-true c client same)) (mine blocks)
      | false ↦ λ other. did.held c blocks
    ] refl

abbrev pub IsDecisionSpelled : ReplicaEntry → Type 0
IsDecisionSpelled (Decided client number span) = HasSpelling u8 client
IsDecisionSpelled (Resolved objects lasts) = IsReplicaSpelled (record { nodes = nodes_in objects; lasts = lasts })

-- what a replica has behind its entry
kept_by : (kept : Kept) (entry : ReplicaEntry) → IsReplicaSpelled kept → IsDecisionSpelled entry → ((client number : ℕ) (span : List Record) → entry ≡ Decided client number span → AreAllSpelled span) → IsReplicaSpelled (kept_after kept entry)
kept_by kept (Decided client number span) was is spans =
    let are = spans client number span refl in
    record {
      nodes = after_decision kept.nodes client span was.nodes is are;
      room = room_decided kept.nodes client span was.room;
      verdicts = λ c. with_last_at kept.lasts client (record { number = number; verdict = verdict_of (decision kept.nodes client span) }) c (λ (last : Last). HasSpelling table.verdict last.verdict)
          (λ same. verdict_spelled kept.nodes client span was.nodes is are was.room) (λ off. was.verdicts c);
    }
kept_by kept (Resolved nodes lasts) was is spans = is

spans_same : (c n : ℕ) (s : List Record) (client number : ℕ) (span : List Record) → Decided c n s ≡ Decided client number span → s ≡ span
spans_same c n s client number span same = cc

span_given : (cell : PlainCell) (server volume : ℕ) (entry : ReplicaEntry) → IsSound cell → DidSpelled cell → MayAppend cell (AtReplica server volume entry) → (client number : ℕ) (span : List Record) → entry ≡ Decided client number span → AreAllSpelled span
span_given cell server volume (Decided c n s) sound did may client number span same =
    let given = may.2 in
    let law = (sound.agree none_joins).lawful c volume in
    let span_is : s ≡ span = spans_same c n s client number span same in
    subst AreAllSpelled (sym given.1 ∙ span_is) (span_all (done_on cell c volume) n law (did.operations c volume))
span_given cell server volume (Resolved nodes lasts) sound did may client number span same = cc

at_replica_spelled : (cell : PlainCell) (server volume : ℕ) (entry : ReplicaEntry) → IsSound cell → DidSpelled cell → MayAppend cell (AtReplica server volume entry) → IsDecisionSpelled entry → DidSpelled (after cell (Does (AtReplica server volume entry)))
at_replica_spelled cell server volume entry sound did may is = record {
  operations = did.operations;
  chunks = did.chunks;
  held = did.held;
  replicas = λ s v. elim (cases_Bool ((s == server) && (v == volume))) [
    | inl at ↦ (let both = and_parts (s == server) (v == volume) at in
        let history = (cell.replicas server volume).history in
        subst (λ b. IsReplicaSpelled (kept_of v (cond b (grown_actor entry (cell.replicas server volume)) (cell.replicas s v)).history)) (sym at)
        (subst (λ w. IsReplicaSpelled (kept_of w (history ++ entry ∷ []))) (sym (eqb-true v volume both.1))
        (subst IsReplicaSpelled (sym (kept_push volume history entry)) (kept_by (kept_of volume history) entry (did.replicas server volume) is (span_given cell server volume entry sound did may)))))
    | inr off ↦ subst (λ b. IsReplicaSpelled (kept_of v (cond b (grown_actor entry (cell.replicas server volume)) (cell.replicas s v)).history)) (sym off) (did.replicas s v)
  ];
}

abbrev pub IsAppendSpelled : Append → Type 0
IsAppendSpelled (AtClient client entry) = IsEntrySpelled client entry
IsAppendSpelled (AtReplica server volume entry) = IsDecisionSpelled entry

append_spelled : (cell : PlainCell) (append : Append) → IsSound cell → DidSpelled cell → MayAppend cell append → IsAppendSpelled append → DidSpelled (after cell (Does append))
append_spelled cell (AtClient client entry) sound did may is = at_client_spelled cell client entry did may is
append_spelled cell (AtReplica server volume entry) sound did may is = at_replica_spelled cell server volume entry sound did may is

-- all of them are of actors that stay up
abbrev pub AreMovesSpelled : List Move → Type 0
AreMovesSpelled [] = Unit {0}
AreMovesSpelled (Does append ∷ moves) = IsAppendSpelled append × AreMovesSpelled moves
AreMovesSpelled (Posts letter ∷ moves) = AreMovesSpelled moves
AreMovesSpelled (Loses message ∷ moves) = AreMovesSpelled moves
AreMovesSpelled (Fails append ∷ moves) = ⊥
AreMovesSpelled (Crashes who ∷ moves) = ⊥
AreMovesSpelled (Recovers who joins ∷ moves) = ⊥

pub moves_spelled : (moves : List Move) (old new : PlainCell) → Moved old moves new → IsSound old → DidSpelled old → AreMovesSpelled moves → DidSpelled new
moves_spelled [] old new moved sound did are = subst DidSpelled (sym moved) did
moves_spelled (Does append ∷ moves) old new moved sound did are =
    moves_spelled moves (after old (Does append)) new moved.1 (moves_keep_sound old (Does append) moved.0 sound) (append_spelled old append sound did moved.0 are.0) are.1
moves_spelled (Posts letter ∷ moves) old new moved sound did are =
    moves_spelled moves (after old (Posts letter)) new moved.1 (moves_keep_sound old (Posts letter) moved.0 sound) (record { operations = did.operations; chunks = did.chunks; held = did.held; replicas = did.replicas }) are
moves_spelled (Loses message ∷ moves) old new moved sound did are =
    moves_spelled moves (after old (Loses message)) new moved.1 (moves_keep_sound old (Loses message) moved.0 sound) (record { operations = did.operations; chunks = did.chunks; held = did.held; replicas = did.replicas }) are
moves_spelled (Fails append ∷ moves) old new moved sound did are = absurd are
moves_spelled (Crashes who ∷ moves) old new moved sound did are = absurd are
moves_spelled (Recovers who joins ∷ moves) old new moved sound did are = absurd are

-- nobody did anything
none_held : (client blocks : ℕ) → AreSpelled (client_of client [] blocks).held.nodes
none_held client blocks = record {
  versions = λ fid node e. (let no : None ≡ Some node = sym (map.get-empty _ fid) ∙ e in cc);
  bound = λ dir fid name e. (let no : None ≡ Some fid = ap (λ o. child_of o name) (sym (map.get-empty _ dir)) ∙ e in cc);
}

applied_spelled : HasSpelling table.verdict Applied
unfolding table.verdict
applied_spelled = refl

pub nothing_spelled : DidSpelled empty_cell
nothing_spelled = record {
  operations = λ client volume rec i. absurd i;
  chunks = λ client volume. refl;
  held = none_held;
  replicas = λ server volume. record { nodes = fresh_spelled volume; room = fresh_room volume; verdicts = λ client. applied_spelled };
}
