-- What other events make of a cell that works: decisions, links, time, letters, and what clients do with their chunks.
use Rattle.std.proofs.Common.{◌≡◌, ℕ, ◌==◌, ◌&&◌, Bool, true, false, cond, List, [], ◌∷◌, ◌++◌, append-nil, Option, Some, None, option_map, is_some, refl, sym, ap, ◌∙◌, subst, inl, inr}
use Rattle.std.proofs.lemmas.Bool.{eqb-true, cases_eq, false≢true}
use Rattle.std.specs.List.{list_any}
use Rattle.std.specs.FinMap as map
use Rattle.std.specs.Prelude.{IsSome}
use Rattle.coda_fid.specs.Fid.{fid_cmp, same_fid}
use Rattle.coda_fid.specs.declared.fid.Fid.{Fid}
use Rattle.coda_certify.specs.declared.verdict.Verdict.{Verdict}
use Rattle.coda_certify.specs.declared.verdict.Verdict.TheVariants.{Applied, Conflict}
use Rattle.coda_cml.specs.State.{LogState}
use Rattle.coda_cml.specs.Steady.{IsSteady}
use Rattle.coda_cml.specs.declared.frozen.Frozen.{Frozen}
use Rattle.coda_script.specs.declared.line.Strength.{Strength}
use Rattle.coda_script.specs.declared.line.Strength.TheVariants.{Strong, Weak, Down}
use Rattle.coda_plain.specs.Cell.{ClientEntry, Did, Actor}
use Rattle.coda_plain.specs.Decisions.{Decided, Resolved}
use Rattle.coda_plain.specs.Deeds.{Deed, Operated, Froze, Settled, Gaveup, Cut, course_of, MaySettle}
use Rattle.coda_plain.specs.Moves.{AtClient, AtReplica, done_on}
use Rattle.coda_venus.specs.Held.{Held}
use Rattle.coda_venus.specs.History.{MayEnterAll, MayFreeze, IsFrozen}
use Rattle.coda_venus.specs.State.{ClientState as Client, client_after_all as serving_client_after_all}
use Rattle.coda_cell.specs.Held.{held_after_deed}
use Rattle.coda_cell.specs.Made.{Copy, MadeCell, client_of, state_of, grown, grown_all}
use Rattle.coda_cell.specs.Runs.{IsKept, IsLeft}
use Rattle.coda_cell.specs.Sending.{deeds_at}
use Rattle.coda_cell.specs.State.{pending, ClientVolume, ClientState, CellState, new_client, client_after, Event, VolumeMade, ClientMade, Ticked, LinkSet, Entered, Posted, Lost, Used, Kept, Stale, at_client, after_all, log_of, cut_by, unless_from}
use Rattle.coda_cell.proofs.Histories.{client_push, frozen_by, shown, volumes_are}
use Rattle.coda_cell.proofs.KeptCells.{lawful}
use Rattle.coda_cell.proofs.Moving.{HasMore, has_more, AreLeft}
use Rattle.coda_creations.specs.Kinds.{kind_at}
use Rattle.coda_creations.proofs.KindsMade.{GoesByKinds, event_as_made}
use Rattle.coda_matching.specs.Clients.{entry_of, payload_by}
use Rattle.coda_matching.proofs.Histories.{steady_of}
use Rattle.coda_rounds.specs.Later.{IsLater}
use Rattle.coda_rounds.specs.Places.{AreInDirs, KeepsToVolume, ArePlaced, AreOfTheirVolumes}
use Rattle.coda_rounds.proofs.Later.{later_before_all}
use Rattle.coda_rounds.proofs.NewClient.{in_order}
use Rattle.coda_rounds.proofs.Places.{objects_stand_where_made}
use Rattle.coda_rounds.proofs.Volumes.{logs_keep_to_their_volumes}
use Rattle.coda_lines.specs.Clients.{as_client}
use Rattle.coda_lines.specs.Lines.{stale, mentioned_by, chunk_of, stale_by, with_stale}
use Rattle.coda_lines.specs.Working.{client_in, IsUnused, IsWorking, IsFair}
use Rattle.coda_lines.proofs.AsClients.{runs_after, as_after, new_runs}
use Rattle.coda_lines.proofs.Calls.{stale_beside}
use Rattle.coda_lines.proofs.Besides.{kept_beside, WorksOn, group_works}
use Rattle.coda_lines.proofs.Parts.{server_in, copies_in, Parts, fewer_in, parts_in, working_by}

-- ---- copies that are not valid any more

gone_none : (o : Option Copy) (b : Bool) → o ≡ None → cond b None o ≡ None
gone_none o true none = refl
gone_none o false none = none

pub stale_working : (cell : MadeCell) (number : ℕ) (fids : List Fid) → IsWorking cell
    → IsWorking (grown_all cell (stale number fids))
stale_working cell number [] w = w
stale_working cell number (fid ∷ fids) w =
    working_by (grown cell (Stale number (fid ∷ fids))) (kept_beside cell _ _ w.kept) w.kinds
    (λ client none. record {
      copies = λ f. gone_none (cell.copies client f) ((client == number) && list_any (λ g. same_fid g f) (fid ∷ fids))
          ((w.unmade client none).copies f);
      uses = (w.unmade client none).uses;
    })
    (λ n b there. fewer_in cell (grown cell (Stale number (fid ∷ fids))) n (client_in cell n b) (cell.uses n)
    (parts_in cell w n b there)
    (λ f none. gone_none (cell.copies n f) ((n == number) && list_any (λ g. same_fid g f) (fid ∷ fids)) none))

-- ---- events that enter nothing into the history of a client

-- no client gets an entry by it, and no client is made
abbrev pub IsSilent : Event → Type 0
IsSilent (VolumeMade volume server) = Unit {0}
IsSilent (ClientMade client blocks) = ⊥
IsSilent (Ticked seconds) = Unit {0}
IsSilent (LinkSet client server strength) = Unit {0}
IsSilent (Entered (AtClient client entry)) = ⊥
IsSilent (Entered (AtReplica server volume (Decided client number span))) = Unit {0}
IsSilent (Entered (AtReplica server volume (Resolved objects lasts))) = ⊥
IsSilent (Posted sent) = Unit {0}
IsSilent (Lost message) = Unit {0}
IsSilent (Used client fids) = ⊥
IsSilent (Kept client server fid) = ⊥
IsSilent (Stale client fids) = Unit {0}

abbrev pub AreSilent : List Event → Type 0
AreSilent [] = Unit {0}
AreSilent (event ∷ events) = IsSilent event × AreSilent events

-- a link takes nothing where there is nothing
cut_none : (strength : Strength) (copies : ℕ → Fid → Option Copy) (client server c : ℕ) (f : Fid) → copies c f ≡ None
    → cut_by (λ (copy : Copy). copy.server) strength copies client server c f ≡ None
cut_none Strong copies client server c f none = none
cut_none Weak copies client server c f none = none
cut_none Down copies client server c f none = by (c == client)
  where
    by : (b : Bool) → cond b (unless_from (λ (copy : Copy). copy.server) server (copies c f)) (copies c f) ≡ None
    by true = ap (unless_from (λ (copy : Copy). copy.server) server) none
    by false = none

-- a freeze or a settlement
abbrev IsOfChunks : Deed → Type 0
IsOfChunks (Operated rec) = ⊥
IsOfChunks (Froze number home last) = Unit {0}
IsOfChunks (Settled number verdict) = Unit {0}
IsOfChunks Gaveup = ⊥

of_chunks_quiet : (deed : Deed) → IsOfChunks deed → (h : Held) (n : ℕ) → held_after_deed h n deed ≡ h
of_chunks_quiet (Operated rec) is h n = absurd is
of_chunks_quiet (Froze number home last_one) is h n = refl
of_chunks_quiet (Settled number verdict) is h n = refl
of_chunks_quiet Gaveup is h n = absurd is

of_chunks_keeps : (volume : ℕ) (deed : Deed) → IsOfChunks deed → KeepsToVolume (entry_of (Did volume deed))
of_chunks_keeps volume (Operated rec) is = absurd is
of_chunks_keeps volume (Froze number home last_one) is = tt
of_chunks_keeps volume (Settled number verdict) is = tt
of_chunks_keeps volume Gaveup is = absurd is

-- a client that was just made has cached nothing
nothing_there : (client blocks : ℕ) (f : Fid) → IsSome (map.get (new_client client blocks).held.nodes f) → ⊥
nothing_there client blocks f there = false≢true (sym (ap is_some (map.get-empty fid_cmp f)) ∙ there)

not_empty : (past : List ClientEntry) (entry : ClientEntry) → past ++ entry ∷ [] ≡ [] → ⊥
not_empty [] entry e = cc
not_empty (first ∷ past) entry e = cc

module _ (cell : MadeCell) (w : IsWorking cell) where
  pub silent_working : (event : Event) → IsSilent event → IsLeft cell (event ∷ []) → IsWorking (grown cell event)
  silent_working (VolumeMade volume server) is left =
      working_by (grown cell (VolumeMade volume server)) left.kept w.kinds
      (λ client none. record { copies = (w.unmade client none).copies; uses = (w.unmade client none).uses }) (parts_in cell w)
  silent_working (Ticked seconds) is left =
      working_by (grown cell (Ticked seconds)) left.kept w.kinds
      (λ client none. record { copies = (w.unmade client none).copies; uses = (w.unmade client none).uses }) (parts_in cell w)
  silent_working (LinkSet client server strength) is left =
      working_by (grown cell (LinkSet client server strength)) left.kept w.kinds
      (λ c none. record {
        copies = λ f. cut_none strength cell.copies client server c f ((w.unmade c none).copies f);
        uses = (w.unmade c none).uses;
      })
      (λ n b there. fewer_in cell (grown cell (LinkSet client server strength)) n (client_in cell n b) (cell.uses n)
      (parts_in cell w n b there) (λ f none. cut_none strength cell.copies client server n f none))
  silent_working (Entered (AtReplica server volume (Decided client number span))) is left =
      let event : Event = Entered (AtReplica server volume (Decided client number span)) in
      working_by (grown cell event) left.kept (event_as_made cell event left.kept.sound left.moved tt w.kinds)
      (λ client none. record { copies = (w.unmade client none).copies; uses = (w.unmade client none).uses }) (parts_in cell w)
  silent_working (Posted sent) is left =
      working_by (grown cell (Posted sent)) left.kept
      (event_as_made cell (Posted sent) left.kept.sound left.moved tt w.kinds)
      (λ client none. record { copies = (w.unmade client none).copies; uses = (w.unmade client none).uses }) (parts_in cell w)
  silent_working (Lost message) is left =
      working_by (grown cell (Lost message)) left.kept
      (event_as_made cell (Lost message) left.kept.sound left.moved tt w.kinds)
      (λ client none. record { copies = (w.unmade client none).copies; uses = (w.unmade client none).uses }) (parts_in cell w)
  silent_working (Stale client fids) is left =
      working_by (grown cell (Stale client fids)) left.kept w.kinds
      (λ c none. record {
        copies = λ f. gone_none (cell.copies c f) ((c == client) && list_any (λ g. same_fid g f) fids) ((w.unmade c none).copies f);
        uses = (w.unmade c none).uses;
      })
      (λ n b there. fewer_in cell (grown cell (Stale client fids)) n (client_in cell n b) (cell.uses n)
      (parts_in cell w n b there)
      (λ f none. gone_none (cell.copies n f) ((n == client) && list_any (λ g. same_fid g f) fids) none))
  silent_working (Entered (AtReplica server volume (Resolved objects lasts))) is left = absurd is
  silent_working (Entered (AtClient client entry)) is left = absurd is
  silent_working (ClientMade client blocks) is left = absurd is
  silent_working (Used client fids) is left = absurd is
  silent_working (Kept client server fid) is left = absurd is

  -- ---- a client that is made

  module _ (client blocks : ℕ) (none : cell.sizes client ≡ None) (left : IsLeft cell (ClientMade client blocks ∷ [])) where
    abbrev made : MadeCell
    made = grown cell (ClientMade client blocks)

    unused_then : (c : ℕ) → cond (c == client) (Some blocks) (cell.sizes c) ≡ None → IsUnused made c
    unused_then c e = by (c == client) e
      where
        by : (b : Bool) → cond b (Some blocks) (cell.sizes c) ≡ None → IsUnused made c
        by true e = cc
        by false e = record { copies = (w.unmade c e).copies; uses = (w.unmade c e).uses }

    new_parts : (b : ℕ) → Parts (new_client client b) [] (copies_in cell client)
    new_parts b = record {
      used = λ f there. absurd (nothing_there client b f there);
      once = (in_order client b).once;
      runs = new_runs client b;
      placed = objects_stand_where_made.first client b;
      logs = logs_keep_to_their_volumes.first client b;
      uncopied = λ volume f later. ap server_in ((w.unmade client none).copies f);
    }

    parts_then : (c b : ℕ) → cond (c == client) (Some blocks) (cell.sizes c) ≡ Some b
        → Parts (client_in cell c b) (cell.uses c) (copies_in cell c)
    parts_then c b e = by (c == client) refl e
      where
        by : (x : Bool) → (c == client) ≡ x → cond x (Some blocks) (cell.sizes c) ≡ Some b
            → Parts (client_in cell c b) (cell.uses c) (copies_in cell c)
        by true same e =
            subst (λ n. Parts (client_in cell n b) (cell.uses n) (copies_in cell n)) (sym (eqb-true c client same))
            (subst (λ h. Parts (client_of client h b) (cell.uses client) (copies_in cell client)) (sym (w.kept.made.clients client none))
            (subst (λ uses. Parts (new_client client b) uses (copies_in cell client)) (sym (w.unmade client none).uses) (new_parts b)))
        by false other e = parts_in cell w c b e

    pub made_working : IsWorking (grown cell (ClientMade client blocks))
    made_working = working_by made left.kept w.kinds unused_then parts_then

  -- ---- what a client does with its chunks

  -- a freeze or a settlement that may be entered
  module _ (number blocks : ℕ) (there : cell.sizes number ≡ Some blocks) (volume : ℕ) (deed : Deed) (of : IsOfChunks deed) (may : MayEnterAll (as_client (client_in cell number blocks)) (payload_by (Did volume deed))) (left : IsLeft cell (at_client number (Did volume deed) ∷ [])) where
    abbrev c : ClientState
    c = client_in cell number blocks

    abbrev entry : ClientEntry
    entry = Did volume deed

    abbrev first : MadeCell
    first = grown cell (at_client number entry)

    more : HasMore cell first number (entry ∷ [])
    more = has_more cell number (entry ∷ [])

    here : client_in first number blocks ≡ client_after c entry
    here = ap (λ h. client_of number h blocks) more.here ∙ client_push (new_client number blocks) (cell.acted.clients number).history entry

    steady : (volume : ℕ) → IsSteady (pending (c.volumes volume))
    steady volume = steady_of number blocks (cell.acted.clients number).history volume (lawful cell w.kept number volume)

    as_then : serving_client_after_all (as_client c) (payload_by entry) ≡ as_client (client_after c entry)
    as_then = as_after c entry (w.runs number blocks there) steady may

    dirs : AreInDirs (as_client c).held
    dirs = (let work = w.at_work number blocks there in record { dirs = work.order.1; within = work.within })

    parts_here : Parts (client_after c entry) (cell.uses number) (copies_in cell number)
    parts_here =
        let before = parts_in cell w number blocks there in record {
          used = λ f has_it. before.used f (ap (λ (h : Held). is_some (map.get h.nodes f)) (sym (of_chunks_quiet deed of c.held c.number)) ∙ has_it);
          once = before.once;
          runs = runs_after c entry (w.runs number blocks there) steady may;
          placed = subst ArePlaced as_then
              (objects_stand_where_made.then_too (as_client c) (entry_of entry) before.placed dirs (of_chunks_keeps volume deed of) may.0);
          logs = subst AreOfTheirVolumes as_then
              (logs_keep_to_their_volumes.then_too (as_client c) (entry_of entry) before.logs (of_chunks_keeps volume deed of));
          uncopied = λ v f later. before.uncopied v f
              (later_before_all (as_client c) (payload_by entry) v f (subst (λ (x : Client). IsLater x v f) (sym as_then) later));
        }

    parts_behind : (n b : ℕ) → cell.sizes n ≡ Some b → Parts (client_in first n b) (cell.uses n) (copies_in cell n)
    parts_behind n b e = elim (cases_eq n number) [
      | inl same ↦ (
          let sized : Some blocks ≡ Some b = sym there ∙ ap cell.sizes (sym same) ∙ e in
          let b_is : blocks ≡ b = cc in
          subst (λ m. Parts (client_in first m b) (cell.uses m) (copies_in cell m)) (sym same)
          (subst (λ x. Parts (client_in first number x) (cell.uses number) (copies_in cell number)) b_is
          (subst (λ (x : ClientState). Parts x (cell.uses number) (copies_in cell number)) (sym here) parts_here)))
      | inr other ↦
          subst (λ (a : Actor ClientEntry). Parts (client_of n a.history b) (cell.uses n) (copies_in cell n)) (sym (more.others n other))
          (parts_in cell w n b e)
    ]

    goes : GoesByKinds cell (at_client number entry)
    goes other f kind is =
        let x = client_of number (cell.acted.clients number).history other in
        inl (sym (ap (λ (h : Held). kind_at h.nodes f) (of_chunks_quiet deed of x.held x.number)) ∙ is)

    pub deed_working : IsWorking (grown cell (at_client number (Did volume deed)))
    deed_working =
        working_by first left.kept (event_as_made cell (at_client number entry) left.kept.sound left.moved goes w.kinds)
        (λ client none. record { copies = (w.unmade client none).copies; uses = (w.unmade client none).uses }) parts_behind

-- ---- lines that call no client

-- what a client froze: nothing, or what may go of its log
abbrev pub MayFreezeSo : LogState → List Deed → Type 0
MayFreezeSo log [] = Unit {0}
MayFreezeSo log (Froze number home last ∷ []) = MayFreeze log number last
MayFreezeSo log deeds = ⊥

-- what it settled: nothing, or a chunk
abbrev pub MaySettleSo : List Deed → Type 0
MaySettleSo [] = Unit {0}
MaySettleSo (Settled number verdict ∷ []) = Unit {0}
MaySettleSo deeds = ⊥

-- A client froze a chunk, perhaps; then nothing was entered into a client's history; and then the client settled one,
-- perhaps.
pub record GoesOn (cell : MadeCell) (events : List Event) : Type 0 where
  pub number : ℕ
  pub volume : ℕ
  pub freezes : List Deed
  pub silent : List Event
  pub settles : List Deed
  pub is : events ≡ deeds_at number volume freezes ++ (silent ++ deeds_at number volume settles)
  pub may_freeze : (blocks : ℕ) → cell.sizes number ≡ Some blocks → MayFreezeSo (log_of ((client_in cell number blocks).volumes volume)) freezes
  pub are_silent : AreSilent silent
  pub may_settle : MaySettleSo settles

-- a client that has an entry was made
entered_made : (cell : MadeCell) (number : ℕ) (entry : ClientEntry) → IsLeft cell (at_client number entry ∷ [])
    → (blocks : ℕ) × (cell.sizes number ≡ Some blocks)
entered_made cell number entry left = by (cell.sizes number) refl
  where
    by : (o : Option ℕ) → cell.sizes number ≡ o → (blocks : ℕ) × (cell.sizes number ≡ Some blocks)
    by (Some blocks) e = (blocks, e)
    by None e =
        let none : (cell.acted.clients number).history ++ entry ∷ [] ≡ [] = sym (has_more cell number (entry ∷ [])).here ∙ left.kept.made.clients number e in
        absurd (not_empty (cell.acted.clients number).history entry none)

-- the chunk that is settled is frozen
settled_frozen : (cell : MadeCell) (kept : IsKept cell) (number blocks volume chunk : ℕ)
    → MaySettle (done_on cell.acted number volume) chunk
    → IsFrozen ((client_in cell number blocks).volumes volume).frozen chunk
settled_frozen cell kept number blocks volume chunk may =
    let deeds = done_on cell.acted number volume in
    let is : ((client_in cell number blocks).volumes volume).frozen ≡ frozen_by (course_of deeds) =
    ap (λ (v : ClientVolume). v.frozen) (volumes_are number blocks (cell.acted.clients number).history volume)
    ∙ (shown deeds (lawful cell kept number volume)).frozen in
    subst (λ o. IsFrozen o chunk) (sym is)
    (subst (λ o. IsFrozen (option_map (λ (cut : Cut). let frozen : Frozen = record { number = (course_of deeds).chunks; home = cut.home } in frozen) o) chunk) (sym may.frozen) (sym may.last))

settled_working : (cell : MadeCell) (w : IsWorking cell) (number volume chunk : ℕ) (verdict : Verdict)
    → IsLeft cell (at_client number (Did volume (Settled chunk verdict)) ∷ [])
    → IsWorking (grown cell (at_client number (Did volume (Settled chunk verdict))))
settled_working cell w number volume chunk verdict left =
    let made = entered_made cell number (Did volume (Settled chunk verdict)) left in
    deed_working cell w number made.0 made.1 volume (Settled chunk verdict) tt
    (settled_frozen cell w.kept number made.0 volume chunk left.moved.0.1.0, tt) left

-- a settlement, and what it makes stale
settle_walk : (cell : MadeCell) (w : IsWorking cell) (number volume : ℕ) (deeds : List Deed) → MaySettleSo deeds
    → AreLeft cell (deeds_at number volume deeds) → WorksOn cell (with_stale (state_of cell) (deeds_at number volume deeds))
settle_walk cell w number volume [] may left = w
settle_walk cell w number volume (Settled chunk verdict ∷ []) may left = by verdict left.0
  where
    by : (verdict : Verdict) → IsLeft cell (at_client number (Did volume (Settled chunk verdict)) ∷ [])
        → WorksOn cell (with_stale (state_of cell) (at_client number (Did volume (Settled chunk verdict)) ∷ []))
    by (Conflict record_number why) one = (one, (λ stop. settled_working cell w number volume chunk (Conflict record_number why) one), tt, settled_working cell w number volume chunk (Conflict record_number why) one)
    by Applied one =
        let event : Event = at_client number (Did volume (Settled chunk Applied)) in
        let gone = mentioned_by (chunk_of ((state_of cell).clients number) volume) in
        subst (λ besides. WorksOn cell (event ∷ besides)) (sym (append-nil (stale number gone)))
        (group_works number cell event (stale number gone) one tt (stale_beside number gone)
        (stale_working (grown cell event) number gone (settled_working cell w number volume chunk Applied one)))
settle_walk cell w number volume (Settled chunk verdict ∷ deed ∷ deeds) may left = absurd may
settle_walk cell w number volume (Operated rec ∷ deeds) may left = absurd may
settle_walk cell w number volume (Froze chunk home last_one ∷ deeds) may left = absurd may
settle_walk cell w number volume (Gaveup ∷ deeds) may left = absurd may

-- what nothing becomes stale by
silent_stale : (s : CellState) (event : Event) → IsSilent event → stale_by s event ≡ []
silent_stale s (VolumeMade volume server) is = refl
silent_stale s (Ticked seconds) is = refl
silent_stale s (LinkSet client server strength) is = refl
silent_stale s (Entered (AtReplica server volume deed)) is = refl
silent_stale s (Posted sent) is = refl
silent_stale s (Lost message) is = refl
silent_stale s (Stale client fids) is = refl
silent_stale s (Entered (AtClient client deed)) is = absurd is
silent_stale s (ClientMade client blocks) is = absurd is
silent_stale s (Used client fids) is = absurd is
silent_stale s (Kept client server fid) is = absurd is

silent_fair : (cell : MadeCell) (event : Event) → IsSilent event → IsFair cell event
silent_fair cell (VolumeMade volume server) is = tt
silent_fair cell (Ticked seconds) is = tt
silent_fair cell (LinkSet client server strength) is = tt
silent_fair cell (Entered (AtReplica server volume deed)) is = tt
silent_fair cell (Posted sent) is = tt
silent_fair cell (Lost message) is = tt
silent_fair cell (Stale client fids) is = tt
silent_fair cell (Entered (AtClient client deed)) is = absurd is
silent_fair cell (ClientMade client blocks) is = absurd is
silent_fair cell (Used client fids) is = absurd is
silent_fair cell (Kept client server fid) is = absurd is

silent_walk : (cell : MadeCell) (w : IsWorking cell) (silent : List Event) (number volume : ℕ) (settles : List Deed)
    → AreSilent silent → MaySettleSo settles → AreLeft cell (silent ++ deeds_at number volume settles)
    → WorksOn cell (with_stale (state_of cell) (silent ++ deeds_at number volume settles))
silent_walk cell w [] number volume settles are may left = settle_walk cell w number volume settles may left
silent_walk cell w (event ∷ silent) number volume settles are may left =
    let next = grown cell event in
    let rest = silent ++ deeds_at number volume settles in
    let works = silent_working cell w event are.0 left.0 in
    let walk = silent_walk next works silent number volume settles are.1 may left.1 in
    subst (λ besides. WorksOn cell (event ∷ (besides ++ with_stale (after_all (state_of cell) (event ∷ besides)) rest))) (sym (silent_stale (state_of cell) event are.0))
    (left.0, (λ stop. works), silent_fair cell event are.0, subst (λ s. WorksOn next (with_stale s rest)) left.0.shown walk)

freeze_walk : (cell : MadeCell) (w : IsWorking cell) (number volume : ℕ) (freezes : List Deed) (silent : List Event)
    (settles : List Deed)
    → ((blocks : ℕ) → cell.sizes number ≡ Some blocks → MayFreezeSo (log_of ((client_in cell number blocks).volumes volume)) freezes)
    → AreSilent silent → MaySettleSo settles
    → AreLeft cell (deeds_at number volume freezes ++ (silent ++ deeds_at number volume settles))
    → WorksOn cell (with_stale (state_of cell) (deeds_at number volume freezes ++ (silent ++ deeds_at number volume settles)))
freeze_walk cell w number volume [] silent settles may are settle left =
    silent_walk cell w silent number volume settles are settle left
freeze_walk cell w number volume (Froze chunk home last_one ∷ []) silent settles may are settle left =
    let made = entered_made cell number (Did volume (Froze chunk home last_one)) left.0 in
    let works = deed_working cell w number made.0 made.1 volume (Froze chunk home last_one) tt (may made.0 made.1, tt) left.0 in (
      left.0,
      (λ stop. works),
      tt,
      subst (λ s. WorksOn (grown cell (at_client number (Did volume (Froze chunk home last_one)))) (with_stale s (silent ++ deeds_at number volume settles)))
          left.0.shown (silent_walk _ works silent number volume settles are settle left.1),
    )
freeze_walk cell w number volume (Froze chunk home last_one ∷ deed ∷ deeds) silent settles may are settle left =
    (let made = entered_made cell number (Did volume (Froze chunk home last_one)) left.0 in absurd (may made.0 made.1))
freeze_walk cell w number volume (Operated rec ∷ deeds) silent settles may are settle left =
    (let made = entered_made cell number (Did volume (Operated rec)) left.0 in absurd (may made.0 made.1))
freeze_walk cell w number volume (Settled chunk verdict ∷ deeds) silent settles may are settle left =
    (let made = entered_made cell number (Did volume (Settled chunk verdict)) left.0 in absurd (may made.0 made.1))
freeze_walk cell w number volume (Gaveup ∷ deeds) silent settles may are settle left =
    (let made = entered_made cell number (Did volume Gaveup) left.0 in absurd (may made.0 made.1))

-- a line that goes on so, with what becomes stale by it
pub goes_on_works : (cell : MadeCell) (w : IsWorking cell) (events : List Event) → GoesOn cell events
    → AreLeft cell events → WorksOn cell (with_stale (state_of cell) events)
goes_on_works cell w events g left =
    subst (λ events. WorksOn cell (with_stale (state_of cell) events)) (sym g.is)
    (freeze_walk cell w g.number g.volume g.freezes g.silent g.settles g.may_freeze g.are_silent g.may_settle (subst (AreLeft cell) g.is left))
