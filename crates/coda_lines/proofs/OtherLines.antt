-- A line that calls no client: what it does goes on so that a cell that works keeps working.
use Rattle.std.proofs.Common.{◌≡◌, ℕ, ◌+◌, ◌≤◌, ◌==◌, Bool, true, false, cond, List, [], ◌∷◌, ◌++◌, append-nil, map, Option, Some, None, Result, Ok, Err, refl, sym, ap, ◌∙◌, subst, arith}
use Rattle.std.specs.Prelude.{nat_le}
use Rattle.std.proofs.lemmas.Bool.Decides.{nat_tests}
use Rattle.coda_fid.specs.declared.op.Record.{Record}
use Rattle.coda_cml.specs.Chunks.{freeze_refusal}
use Rattle.coda_cml.specs.Segments.{segments_of}
use Rattle.coda_cml.specs.Steps.{settle_refusal}
use Rattle.coda_cml.specs.declared.fault.FreezeFault.{FreezeFault}
use Rattle.coda_cml.specs.declared.fault.SettleFault.{SettleFault}
use Rattle.coda_cml.specs.declared.frozen.Frozen.{Frozen}
use Rattle.coda_letters.specs.Sent.{Sent, ChunkSent, AnswerSent, BreakSent, Waiting, client_of as sender_of, server_of, is_lossy, number_of, put_out}
use Rattle.coda_plain.specs.Deeds.{Deed}
use Rattle.coda_record.specs.declared.answer.Answer.{Answer}
use Rattle.coda_record.specs.declared.answer.Answer.TheVariants.{Applied, Conflict, Behind, Old}
use Rattle.coda_script.specs.declared.line.Strength.{Strength}
use Rattle.coda_script.specs.declared.line.Strength.TheVariants.{Strong, Weak, Down}
use Rattle.coda_script.specs.declared.reply.Reply.{Reply}
use Rattle.coda_script.specs.declared.reply.Reply.TheVariants.{Broken}
use Rattle.coda_cell.specs.Made.{MadeCell, state_of}
use Rattle.coda_cell.specs.Messages.{posting, going_by, going, sends_of, over, ruled_in, taken_in}
use Rattle.coda_cell.specs.Refused.{Refused}
use Rattle.coda_cell.specs.Refused as refused
use Rattle.coda_cell.specs.Runs.{IsKept}
use Rattle.coda_cell.specs.Sending.{Freezing, frozen_now, frozen_unless, freezing_of, freezing, Ruling, ruling_of, ruling, Taking, taken, taken_unless, taking, deeds_at, entries_at, answered_to, ruled_on, drained_of, drain}
use Rattle.coda_cell.specs.State.{ClientVolume, ClientState, ReplicaState, CellState, Event, LinkSet, Posted, Lost, Stale, log_of}
use Rattle.coda_cell.specs.Steps.{Doing, Unless, ByBoth, BySend, ByRuling, ByTaking, ShowsState, Happens, Says, valid_copies, Comes, link_down, Delivers, Loses}
use Rattle.coda_cell.proofs.KeptCells.{client_there}
use Rattle.coda_lines.specs.Working.{client_in}
use Rattle.coda_lines.proofs.Others.{AreSilent, MayFreezeSo, MaySettleSo, GoesOn}

silent_both : (first rest : List Event) → AreSilent first → AreSilent rest → AreSilent (first ++ rest)
silent_both [] rest a b = b
silent_both (event ∷ first) rest a b = (a.0, silent_both first rest a.1 b)

-- ---- chunks

ok_freezing : (x y : Freezing) → (let r : Result Freezing Refused = Ok x in r ≡ Ok y) → x ≡ y
ok_freezing x y e = cc

ok_ruling : (x y : Ruling) → (let r : Result Ruling Refused = Ok x in r ≡ Ok y) → x ≡ y
ok_ruling x y e = cc

ok_taking : (x y : Taking) → (let r : Result Taking Refused = Ok x in r ≡ Ok y) → x ≡ y
ok_taking x y e = cc

few_chunks : (n : ℕ) → nat_le 4294967295 n ≡ false → n + 1 ≤ 4294967295
few_chunks n e = grind (arith, nat_tests, e)

-- what a freezing froze may go of the log
module _ (now window server : ℕ) (v : ClientVolume) (f : Freezing) where
  froze_now : v.frozen ≡ None → (o : Option FreezeFault) → freeze_refusal None now window (segments_of v.back) ≡ o → frozen_unless o now window server v ≡ Ok f → MayFreezeSo (log_of v) f.deeds
  froze_now none (Some why) free e = cc
  froze_now none None free e = room (nat_le 4294967295 v.chunks) refl e
    where
      room : (b : Bool) → nat_le 4294967295 v.chunks ≡ b → (let r : Result Freezing Refused = cond b (Err refused.JournalFull) (Ok (frozen_now now window server v)) in r) ≡ Ok f → MayFreezeSo (log_of v) f.deeds
      room true few e = cc
      room false few e =
          subst (λ (x : Freezing). MayFreezeSo (log_of v) x.deeds) (ok_freezing (frozen_now now window server v) f e) (record {
            now = now;
            window = window;
            goes = ap (λ o. freeze_refusal o now window (segments_of v.back)) none ∙ free;
            next = refl;
            few = few_chunks v.chunks few;
            ends = refl;
          })

  froze_before : (chunk : Frozen) (b : Bool) → (let r : Result Freezing Refused = cond b (Ok (record { number = chunk.number; span = v.front; deeds = []; volume = v })) (Err (refused.Frozen chunk.number chunk.home)) in r) ≡ Ok f → MayFreezeSo (log_of v) f.deeds
  froze_before chunk false e = cc
  froze_before chunk true e =
      subst (λ (x : Freezing). MayFreezeSo (log_of v) x.deeds)
      (ok_freezing (record { number = chunk.number; span = v.front; deeds = []; volume = v }) f e) tt

  froze : freezing now window server v ≡ Ok f → MayFreezeSo (log_of v) f.deeds
  froze e = by v.frozen refl e
    where
      by : (o : Option Frozen) → v.frozen ≡ o → freezing_of o now window server v ≡ Ok f → MayFreezeSo (log_of v) f.deeds
      by None none e = froze_now none (freeze_refusal None now window (segments_of v.back)) refl e
      by (Some chunk) some e = froze_before chunk (chunk.home == server) e

ruled_silent : (server volume client number : ℕ) (span : List Record) (r : ReplicaState) (ruled : Ruling)
    → ruling client number span r ≡ Ok ruled → AreSilent (entries_at server volume ruled.entries)
ruled_silent server volume client number span r ruled e = by _ _ e
  where
    by : (next full : Bool) → ruling_of next full client number span r ≡ Ok ruled
        → AreSilent (entries_at server volume ruled.entries)
    by true true e = cc
    by true false e =
        subst (λ (x : Ruling). AreSilent (entries_at server volume x.entries)) (ok_ruling _ ruled e) (tt, tt)
    by false full e = subst (λ (x : Ruling). AreSilent (entries_at server volume x.entries)) (ok_ruling _ ruled e) tt

taken_settles : (number : ℕ) (answer : Answer) (v : ClientVolume) → MaySettleSo (taken number answer v).deeds
taken_settles number Applied v = tt
taken_settles number (Conflict record_number why) v = tt
taken_settles number (Behind decided) v = tt
taken_settles number (Old decided) v = tt

taking_settles : (number : ℕ) (answer : Answer) (v : ClientVolume) (took : Taking) → taking number answer v ≡ Ok took
    → MaySettleSo took.deeds
taking_settles number answer v took e = by (settle_refusal v.frozen number) e
  where
    by : (o : Option SettleFault) → taken_unless o number answer v ≡ Ok took → MaySettleSo took.deeds
    by (Some why) e = cc
    by None e =
        subst (λ (t : Taking). MaySettleSo t.deeds) (ok_taking (taken number answer v) took e) (taken_settles number answer v)

-- ---- letters

lost_silent : (waiting : Waiting) → AreSilent (map (λ (l : ℕ × Sent). Lost l.0) waiting)
lost_silent [] = tt
lost_silent (l ∷ waiting) = (tt, lost_silent waiting)

posting_silent : (sent : Sent) (waiting : Waiting) → AreSilent (posting sent waiting)
posting_silent sent waiting =
    silent_both (map (λ (l : ℕ × Sent). Lost l.0) (put_out sent waiting)) (Posted sent ∷ []) (lost_silent (put_out sent waiting)) (tt, tt)

going_silent : (o : Option ℕ) (sent : Sent) (s : CellState) → AreSilent (going_by o sent s).events
going_silent (Some message) sent s = tt
going_silent None sent s = posting_silent sent s.waiting

-- ---- lines

module _ (cell : MadeCell) (kept : IsKept cell) where
  pub silent_goes : (events happened : List Event) → events ≡ happened → AreSilent happened → GoesOn cell events
  silent_goes events happened same silent = record {
    number = 0;
    volume = 0;
    freezes = [];
    silent = happened;
    settles = [];
    is = same ∙ sym (append-nil happened);
    may_freeze = λ blocks there. tt;
    are_silent = silent;
    may_settle = tt;
  }

  pub none_goes : (events : List Event) → events ≡ [] → GoesOn cell events
  none_goes events none = silent_goes events [] none tt

  pub own_goes : (o : Option Refused) (own : Doing) (reply : Reply) (events : List Event)
      → (o ≡ None → own reply events → GoesOn cell events) → Unless o own reply events → GoesOn cell events
  own_goes (Some why) own reply events rest does = none_goes events does.1
  own_goes None own reply events rest does = rest refl does

  -- a client freezes, others go on, and the client settles
  module _ (number volume : ℕ) (c : ClientState) (there : (state_of cell).clients number ≡ Some c) where
    chunk_goes : (events : List Event) (freezes : List Deed) (silent : List Event) (settles : List Deed)
        → events ≡ deeds_at number volume freezes ++ (silent ++ deeds_at number volume settles)
        → MayFreezeSo (log_of (c.volumes volume)) freezes → AreSilent silent → MaySettleSo settles → GoesOn cell events
    chunk_goes events freezes silent settles is may are settle = record {
      number = number;
      volume = volume;
      freezes = freezes;
      silent = silent;
      settles = settles;
      is = is;
      may_freeze = λ blocks sized. (let made = client_there cell kept number c there in
          let sized_is : Some blocks ≡ Some made.0 = sym sized ∙ made.1 in
          let b_is : blocks ≡ made.0 = cc in
          subst (λ (x : ClientState). MayFreezeSo (log_of (x.volumes volume)) freezes) (sym (ap (client_in cell number) b_is ∙ made.2)) may);
      are_silent = are;
      may_settle = settle;
    }

    no_more : (freezes : List Deed) (silent : List Event) → deeds_at number volume freezes ++ silent ≡ deeds_at number volume freezes ++ (silent ++ [])
    no_more freezes silent = ap (λ l. deeds_at number volume freezes ++ l) (sym (append-nil silent))

    module _ (now window : ℕ) (r : ReplicaState) (f : Freezing) (went : freezing now window r.server (c.volumes volume) ≡ Ok f) where
      may_go : MayFreezeSo (log_of (c.volumes volume)) f.deeds
      may_go = froze now window r.server (c.volumes volume) f went

      answered_goes : (ruled : Ruling) → ruling number f.number f.span r ≡ Ok ruled → (o : Result Taking Refused)
          → taking f.number ruled.answer f.volume ≡ o → GoesOn cell (answered_to number volume f ruled o).events
      answered_goes ruled e (Err why) t =
          chunk_goes _ f.deeds (entries_at ruled.replica.server volume ruled.entries) []
          (no_more f.deeds (entries_at ruled.replica.server volume ruled.entries)) may_go
          (ruled_silent ruled.replica.server volume number f.number f.span r ruled e) tt
      answered_goes ruled e (Ok took) t =
          chunk_goes _ f.deeds (entries_at ruled.replica.server volume ruled.entries) took.deeds refl may_go
          (ruled_silent ruled.replica.server volume number f.number f.span r ruled e)
          (taking_settles f.number ruled.answer f.volume took t)

      ruled_goes : (o : Result Ruling Refused) → ruling number f.number f.span r ≡ o
          → GoesOn cell (ruled_on number volume f r o).events
      ruled_goes (Err why) e = chunk_goes _ f.deeds [] [] (sym (append-nil (deeds_at number volume f.deeds))) may_go tt tt
      ruled_goes (Ok ruled) e = answered_goes ruled e (taking f.number ruled.answer f.volume) refl

    drained_goes : (now window : ℕ) (r : ReplicaState) (o : Result Freezing Refused)
        → freezing now window r.server (c.volumes volume) ≡ o
        → GoesOn cell (drained_of number volume (c.volumes volume) r o).events
    drained_goes now window r (Err why) e = none_goes [] refl
    drained_goes now window r (Ok f) e = ruled_goes now window r f e (ruling number f.number f.span r) refl

    drain_goes : (strength : Strength) (now window : ℕ) (r : ReplicaState)
        → GoesOn cell (drain strength now window number volume (c.volumes volume) r).events
    drain_goes Strong now window r = drained_goes now window r (freezing now window r.server (c.volumes volume)) refl
    drain_goes Weak now window r = drained_goes now window r (freezing now window r.server (c.volumes volume)) refl
    drain_goes Down now window r = none_goes [] refl

    carried : (server window : ℕ) (f : Freezing) → freezing cell.clock window server (c.volumes volume) ≡ Ok f
        → GoesOn cell (sends_of (state_of cell) number volume server (Ok f)).events
    carried server window f e =
        let sent = ChunkSent number server volume f.number f.span in
        chunk_goes _ f.deeds (going sent (state_of cell)).events [] (no_more f.deeds (going sent (state_of cell)).events)
        (froze cell.clock window server (c.volumes volume) f e)
        (going_silent (number_of sent cell.waiting) sent (state_of cell)) tt

    sent_goes : (server window : ℕ) (o : Result Freezing Refused)
        → freezing cell.clock window server (c.volumes volume) ≡ o → (strength : Strength)
        → GoesOn cell (sends_of (state_of cell) number volume server (over strength o)).events
    sent_goes server window (Err why) e Strong = none_goes [] refl
    sent_goes server window (Err why) e Weak = none_goes [] refl
    sent_goes server window (Err why) e Down = none_goes [] refl
    sent_goes server window (Ok f) e Strong = carried server window f e
    sent_goes server window (Ok f) e Weak = carried server window f e
    sent_goes server window (Ok f) e Down = none_goes [] refl

    taken_goes : (chunk : ℕ) (answer : Answer) (o : Result Taking Refused)
        → taking chunk answer (c.volumes volume) ≡ o → GoesOn cell (taken_in number volume chunk answer o).events
    taken_goes chunk answer (Err why) e = none_goes [] refl
    taken_goes chunk answer (Ok took) e =
        chunk_goes _ [] [] took.deeds refl tt tt (taking_settles chunk answer (c.volumes volume) took e)

  ruled_in_goes : (client server volume number : ℕ) (span : List Record) (r : ReplicaState) (o : Result Ruling Refused)
      → ruling client number span r ≡ o → GoesOn cell (ruled_in (state_of cell) client server volume number o).events
  ruled_in_goes client server volume number span r (Err why) e = none_goes [] refl
  ruled_in_goes client server volume number span r (Ok ruled) e =
      silent_goes _ _ refl (silent_both (entries_at server volume ruled.entries)
      (posting (AnswerSent server client volume number ruled.answer) cell.waiting)
      (ruled_silent server volume client number span r ruled e)
      (posting_silent (AnswerSent server client volume number ruled.answer) cell.waiting))

  comes_goes : (sent : Sent) (reply : Reply) (events : List Event) → Comes (state_of cell) sent reply events
      → GoesOn cell events
  comes_goes (ChunkSent client server volume number span) reply events does =
      own_goes _ (ByRuling (state_of cell) client server volume number span) reply events (λ all did.
      subst (GoesOn cell) (sym did.happened)
      (ruled_in_goes client server volume number span did.replica (ruling client number span did.replica) refl)) does
  comes_goes (AnswerSent server client volume number answer) reply events does =
      own_goes _ (ByTaking (state_of cell) client volume number answer) reply events (λ all did.
      subst (GoesOn cell) (sym did.happened)
      (taken_goes client volume did.client did.there number answer (taking number answer (did.client.volumes volume)) refl)) does
  comes_goes (BreakSent server client volume fids) reply events does =
      own_goes _ (Happens (Broken (valid_copies (state_of cell) client fids)) (Stale client fids)) reply events
      (λ all did. silent_goes events (Stale client fids ∷ []) did.1 (tt, tt)) does

  pub delivers_goes : (message : ℕ) (o : Option Sent) (reply : Reply) (events : List Event)
      → Delivers (state_of cell) message o reply events → GoesOn cell events
  delivers_goes message None reply events does = none_goes events does.1
  delivers_goes message (Some sent) reply events does =
      own_goes (link_down (cell.links (sender_of sent) (server_of sent))) (Comes (state_of cell) sent) reply events
      (λ all did. comes_goes sent reply events did) does

  pub loses_goes : (message : ℕ) (o : Option Sent) (reply : Reply) (events : List Event) → Loses message o reply events
      → GoesOn cell events
  loses_goes message None reply events does = none_goes events does.1
  loses_goes message (Some sent) reply events does = silent_goes events _ does.1 (by (is_lossy sent))
    where
      by : (b : Bool) → AreSilent (Lost message ∷ cond b [] (LinkSet (sender_of sent) (server_of sent) Down ∷ []))
      by true = (tt, tt)
      by false = (tt, (tt, tt))

  -- a drain
  pub drains_go : (o : Option Refused) (client volume window : ℕ) (reply : Reply) (events : List Event)
      → Unless o (ByBoth (state_of cell) client volume window) reply events → GoesOn cell events
  drains_go o client volume window reply events does =
      own_goes o (ByBoth (state_of cell) client volume window) reply events (λ all did.
      subst (GoesOn cell) (sym did.happened)
      (drain_goes client volume did.client did.client_there (cell.links client did.replica.server) cell.clock window did.replica)) does

  -- a line that sends a chunk
  pub sends_go : (o : Option Refused) (client volume server window : ℕ) (reply : Reply) (events : List Event)
      → Unless o (BySend (state_of cell) client volume server window) reply events → GoesOn cell events
  sends_go o client volume server window reply events does =
      own_goes o (BySend (state_of cell) client volume server window) reply events (λ all did.
      subst (GoesOn cell) (sym did.happened)
      (sent_goes client volume did.client did.there server window
      (freezing cell.clock window server (did.client.volumes volume)) refl (cell.links client server))) does

  -- one event of no client
  pub one_goes : (o : Option Refused) (said : Reply) (event : Event) (reply : Reply) (events : List Event)
      → AreSilent (event ∷ []) → Unless o (Happens said event) reply events → GoesOn cell events
  one_goes o said event reply events silent does =
      own_goes o (Happens said event) reply events (λ all did. silent_goes events (event ∷ []) did.1 silent) does

  pub says_goes : (o : Option Refused) (said : Reply) (reply : Reply) (events : List Event)
      → Unless o (Says said) reply events → GoesOn cell events
  says_goes o said reply events does = own_goes o (Says said) reply events (λ all did. none_goes events did.1) does

  pub states_go : (o : Option Refused) (client volume : ℕ) (reply : Reply) (events : List Event)
      → Unless o (ShowsState (state_of cell) client volume) reply events → GoesOn cell events
  states_go o client volume reply events does =
      own_goes o (ShowsState (state_of cell) client volume) reply events (λ all did. none_goes events did.happened) does
