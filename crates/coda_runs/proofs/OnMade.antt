-- No line does anything on a volume that isn't made.
use Rattle.std.proofs.Common.{◌≡◌, ℕ, Bool, true, false, cond, List, [], ◌∷◌, ◌++◌, append-nil, Option, Some, None, is_some, option_map, refl, sym, ap, ◌∙◌, subst, inl, inr}
use Rattle.std.proofs.lemmas.Bool.{ne_eqb}
use Rattle.coda_engine.specs.Run.{Runs}
use Rattle.coda_replica.specs.Answers.{told}
use Rattle.coda_script.specs.declared.line.Line.{Line}
use Rattle.coda_script.specs.declared.reply.Reply.{Reply}
use Rattle.coda_plain.specs.Cell.{ClientEntry, Fetched, Did, Dropping, deed_on, deeds_of, joined_to}
use Rattle.coda_plain.specs.Moves.{Append, AtClient, AtReplica}
use Rattle.coda_cell.specs.Made.{replica_of}
use Rattle.coda_cell.specs.State.{ReplicaState, CellState, Event, VolumeMade, ClientMade, Ticked, LinkSet, Entered, Posted, Lost, Used, Kept, Stale}
use Rattle.coda_cell.specs.Steps.{alone}
use Rattle.coda_cell.proofs.Moving.{deeds_both}
use Rattle.coda_actors.specs.Plain.{PlainDisk, PlainActor, Mounts}
use Rattle.coda_actors.specs.declared.slot.Mounting.{Mounting}
use Rattle.coda_shelves.specs.Shelves.{blank_shelves, client_header, entries_on}
use Rattle.coda_shelves.specs.Cells.{Cell, begun_on, Stand, stand_of, state_of, with_client, with_volume, grown, failing, failed, after, after_all}
use Rattle.coda_shelves.specs.Lines.{needs, is_down_for, meets, Acts, UnlessDown, is_others, made_on, area_of, with_row, with_made}
use Rattle.coda_shelves.proofs.Mounting.{at_put}
use Rattle.coda_shelves.proofs.Taken.{mounted_taken}
use Rattle.coda_runs.specs.Shelved.{LineGives}
use Rattle.coda_runs.specs.Volumes.{IsSameOn, DidNoMore, LinesActOnMadeVolumes, ScriptsActOnMadeVolumes}
use Rattle.coda_runs.proofs.Becoming.{Becomes, Stayed, ClientMoved, ReplicaMoved, ClientComes, VolumeComes, HasActed, becomes}
use Rattle.coda_runs.proofs.Meeting.{is_met, ActsUp}
use Rattle.coda_runs.proofs.Staying.{happens_stay}
use Rattle.coda_runs.proofs.Unlettered.{is_acting}
use Rattle.coda_runs.proofs.Whose.{IsEntryOn, IsOf, AreOf, of_front, of_next, IsThere, Holds, Stands, of_line}

-- ---- what a cell meets has the volumes that were made

met_replicas : (cell : Cell) (said : Line) → (meets cell said).replicas ≡ (state_of cell).replicas
met_replicas cell said = ap (λ (s : CellState). s.replicas) (is_met cell said).is

-- ---- what clients did elsewhere

-- an entry of a client that is no deed on the volume
deed_elsewhere : (volume : ℕ) (V : ℕ → Type 0) → (V volume → ⊥) → (entry : ClientEntry) → IsEntryOn V entry → deed_on volume entry ≡ []
deed_elsewhere volume V not (Fetched fid parent node) on = refl
deed_elsewhere volume V not (Did at deed) on = ap (λ b. cond b (deed ∷ []) []) (ne_eqb volume at (λ same. not (subst V (sym same) on)))
deed_elsewhere volume V not (Dropping gone entry) on = deed_elsewhere volume V not entry on

-- what would be found, with an entry more that is no deed on the volume
deeds_more : (volume : ℕ) (history : List ClientEntry) (entry : ClientEntry) → deed_on volume entry ≡ [] → deeds_of volume (history ++ entry ∷ []) ≡ deeds_of volume history
deeds_more volume history entry none = deeds_both volume history (entry ∷ []) ∙ ap (λ ds. deeds_of volume history ++ (ds ++ [])) none ∙ append-nil (deeds_of volume history)

grown_same : (volume : ℕ) (actor : PlainActor ClientEntry) (entry : ClientEntry) (joins : Bool) → deed_on volume entry ≡ [] → deeds_of volume (entries_on joins (grown entry actor).disk) ≡ deeds_of volume (entries_on joins actor.disk)
grown_same volume actor entry false none = deeds_more volume actor.disk.history entry none
grown_same volume actor entry true none = by actor.disk.failed
  where
    by : (o : Option ClientEntry) → deeds_of volume (joined_to (actor.disk.history ++ entry ∷ []) true o) ≡ deeds_of volume (joined_to actor.disk.history true o)
    by None = deeds_more volume actor.disk.history entry none
    by (Some last) =
        deeds_both volume (actor.disk.history ++ entry ∷ []) (last ∷ []) ∙ ap (λ ds. ds ++ deeds_of volume (last ∷ [])) (deeds_more volume actor.disk.history entry none) ∙ sym (deeds_both volume actor.disk.history (last ∷ []))

same_on : (volume : ℕ) (disk : PlainDisk ClientEntry) → IsSameOn volume disk disk
same_on volume disk joins = (joins, refl)

same_then : (volume : ℕ) (old mid new : PlainDisk ClientEntry) → IsSameOn volume mid old → IsSameOn volume new mid → IsSameOn volume new old
same_then volume old mid new first rest joins = (let b = rest joins in let a = first b.0 in (a.0, b.1 ∙ a.1))

failing_same : (volume : ℕ) (actor : PlainActor ClientEntry) (entry : ClientEntry) → deed_on volume entry ≡ [] → IsSameOn volume (failing entry actor).disk actor.disk
failing_same volume actor entry none true = (false, deeds_more volume actor.disk.history entry none)
failing_same volume actor entry none false = (false, refl)

-- what is found of a disk that was mounted was found before
mounted_same : (volume : ℕ) (header : _) (old new : PlainDisk ClientEntry) (ending : Mounting) → Mounts header old ending new → IsSameOn volume new old
mounted_same volume header old new ending m joins = let e = (mounted_taken (λ h. Unit {0}) header old new ending tt m).entries joins in (e.0, ap (deeds_of volume) e.1)

-- of every client of a cell
abbrev AreSameOn : ℕ → Cell → Cell → Type 0
AreSameOn volume new old = (client : ℕ) → IsSameOn volume (new.clients client).disk (old.clients client).disk

all_same : (volume : ℕ) (cell : Cell) → AreSameOn volume cell cell
all_same volume cell client = same_on volume (cell.clients client).disk

all_then : (volume : ℕ) (old mid new : Cell) → AreSameOn volume mid old → AreSameOn volume new mid → AreSameOn volume new old
all_then volume old mid new first rest client = same_then volume (old.clients client).disk (mid.clients client).disk (new.clients client).disk (first client) (rest client)

client_same : (volume : ℕ) (cell : Cell) (at : ℕ) (actor : PlainActor ClientEntry) → IsSameOn volume actor.disk (cell.clients at).disk → AreSameOn volume (with_client cell at actor) cell
client_same volume cell at actor same = at_put (λ c a. IsSameOn volume a.disk (cell.clients c).disk) cell.clients at actor same (all_same volume cell)

volume_same : (volume : ℕ) (cell : Cell) (o : Option Stand) (server : ℕ) (f : _) → AreSameOn volume (with_volume cell o server f) cell
volume_same volume cell None server f = all_same volume cell
volume_same volume cell (Some at) server f = all_same volume cell

-- ---- events

module _ (C : ℕ → Type 0) (R : ℕ → ℕ → Type 0) (V : ℕ → Type 0) (volume : ℕ) (not : V volume → ⊥) where
  event_same : (cell : Cell) (event : Event) → IsOf C R V event → AreSameOn volume (after cell event) cell
  event_same cell (VolumeMade v s) on = all_same volume cell
  event_same cell (ClientMade c blocks) on = all_same volume cell
  event_same cell (Ticked seconds) on = all_same volume cell
  event_same cell (LinkSet c s strength) on = all_same volume cell
  event_same cell (Entered (AtClient c entry)) on = client_same volume cell c (grown entry (cell.clients c)) (λ joins. (joins, grown_same volume (cell.clients c) entry joins (deed_elsewhere volume V not entry on.1)))
  event_same cell (Entered (AtReplica server v entry)) on = volume_same volume cell (stand_of cell v) server (grown entry)
  event_same cell (Posted sent) on = all_same volume cell
  event_same cell (Lost message) on = all_same volume cell
  event_same cell (Used c fids) on = all_same volume cell
  event_same cell (Kept c server fid) on = all_same volume cell
  event_same cell (Stale c fids) on = all_same volume cell

  events_same : (cell : Cell) (events : List Event) → AreOf C R V events → AreSameOn volume (after_all cell events) cell
  events_same cell [] on = all_same volume cell
  events_same cell (event ∷ events) on = all_then volume cell (after cell event) (after_all (after cell event) events) (event_same cell event on.0) (events_same (after cell event) events on.1)

  failed_same : (cell : Cell) (append : Append) → IsOf C R V (Entered append) → AreSameOn volume (failed cell append) cell
  failed_same cell (AtClient c entry) on = client_same volume cell c (failing entry (cell.clients c)) (failing_same volume (cell.clients c) entry (deed_elsewhere volume V not entry on.1))
  failed_same cell (AtReplica server v entry) on = volume_same volume cell (stand_of cell v) server (failing entry)

-- ---- lines

row_same : (volume : ℕ) (others : Bool) (cell : Cell) (at : ℕ) (servers : List ℕ) (area : ℕ) (row : _) → AreSameOn volume (with_row others cell at servers area row) cell
row_same volume true cell at servers area row = all_same volume cell
row_same volume false cell at servers area row = all_same volume cell

made_same : (volume : ℕ) (others : Bool) (cell : Cell) (at area : ℕ) (actor : PlainActor ClientEntry) → IsSameOn volume actor.disk (cell.clients at).disk → AreSameOn volume (with_made others cell at area actor) cell
made_same volume true cell at area actor same = all_same volume cell
made_same volume false cell at area actor same = client_same volume cell at actor same

module _ (old : Cell) (reply : Reply) (outside : List (List ℕ)) (new : Cell) (volume : ℕ) (none : stand_of old volume ≡ None) where
  abbrev NoMore : Type 0
  NoMore = AreSameOn volume new old

  as_in : (mid : Cell) → new ≡ mid → AreSameOn volume mid old → NoMore
  as_in mid is same = subst (λ (c : Cell). AreSameOn volume c old) (sym is) same

  acts_more : (said : Line) → is_acting said ≡ true → Acts old said reply new → NoMore
  acts_more said acting acts =
      let s = meets old said in
      let not : Stands s volume → ⊥ = λ e. (let no : false ≡ true = sym (ap (λ (o : Option Stand). is_some (option_map (λ (at : Stand). replica_of (λ k. (old.replicas at.row k).disk.history) volume (alone at.servers)) o)) none)
      ∙ ap (λ (f : ℕ → Option ReplicaState). is_some (f volume)) (sym (met_replicas old said)) ∙ e in cc) in
      let are = of_line s acts.own acts.events said acting acts.does in
      let events_same = events_same (IsThere s) (Holds s) (Stands s) volume not old in
      elim acts.ends [
        | inl all ↦ as_in _ all.2 (events_same acts.events are)
        | inr (inl (stop, fits, lacks, replied, is)) ↦ as_in _ is (events_same stop.done (of_front (IsThere s) (Holds s) (Stands s) stop.done (Entered stop.next ∷ stop.rest) (subst (AreOf (IsThere s) (Holds s) (Stands s)) stop.is are)))
        | inr (inr (stop, fits, replied, is)) ↦
            let split = subst (AreOf (IsThere s) (Holds s) (Stands s)) stop.is are in
            as_in _ is (all_then volume old (after_all old stop.done) (failed (after_all old stop.done) stop.next) (events_same stop.done (of_front (IsThere s) (Holds s) (Stands s) stop.done (Entered stop.next ∷ stop.rest) split))
            (failed_same (IsThere s) (Holds s) (Stands s) volume not (after_all old stop.done) stop.next (of_next (IsThere s) (Holds s) (Stands s) stop.done stop.rest (Entered stop.next) split)))
      ]

  acted_more : (said : Line) → is_acting said ≡ true → (b : Bool) → UnlessDown b old (ActsUp old said) reply outside new → NoMore
  acted_more said acting true does = as_in old does.2 (all_same volume old)
  acted_more said acting false does = acts_more said acting does.1

  becomes_more : (said : Line) → Becomes old said reply outside new → NoMore
  becomes_more said (Stayed quiet whole is) = as_in old is (all_same volume old)
  becomes_more said (ClientMoved client actor quiet whole moved is) = as_in _ is (client_same volume old client actor (elim moved.disk [
    | inl same ↦ subst (λ d. IsSameOn volume d (old.clients client).disk) (sym same) (same_on volume (old.clients client).disk)
    | inr (ending, mounts) ↦ mounted_same volume moved.header (old.clients client).disk actor.disk ending mounts
  ]))
  becomes_more said (ReplicaMoved row server actor quiet whole moved is) = as_in _ is (all_same volume old)
  becomes_more said (ClientComes client blocks area says free (ending, disk, told, mounts, answered, out, is)) =
      let header = client_header client blocks (area_of area) in
      as_in _ is (made_same volume (is_others (ending ∷ [])) old client (area_of area) (made_on false header (old.clients client) disk ending) (mounted_same volume header (old.clients client).disk disk ending mounts))
  becomes_more said (VolumeComes at servers area says free (endings, row, mounts, answered, out, is)) = as_in _ is (row_same volume (is_others endings) old at servers (area_of area) row)
  becomes_more said (HasActed acting does) = acted_more said acting (is_down_for (needs old said)) does

-- a volume that isn't made behind a line wasn't made before it
unmade : (old new : Cell) → ((volume : ℕ) (at : Stand) → stand_of old volume ≡ Some at → stand_of new volume ≡ Some at) → (volume : ℕ) → stand_of new volume ≡ None → stand_of old volume ≡ None
unmade old new stay volume none = by (stand_of old volume) refl
  where
    by : (o : Option Stand) → stand_of old volume ≡ o → o ≡ None
    by None e = refl
    by (Some at) e = (let no : None ≡ Some at = sym none ∙ stay volume at e in cc)

pub lines_act_on_made_volumes : LinesActOnMadeVolumes
lines_act_on_made_volumes old new said reply outside does client volume none =
    let was = unmade old new (happens_stay old reply outside new said does).volumes volume none in
    record { unmade = was; before = becomes_more old reply outside new volume was said (becomes old reply outside new said does) client }

-- ---- runs

gives_more : (old new : Cell) (bytes text : List ℕ) (outside : List (List ℕ)) → LineGives old bytes text outside new → (client volume : ℕ) → stand_of new volume ≡ None → DidNoMore old new client volume
gives_more old new bytes text outside (inl silent) client volume none =
    subst (λ (c : Cell). stand_of c volume ≡ None → DidNoMore old c client volume) (sym silent.3) (λ is. record { unmade = is; before = same_on volume (old.clients client).disk }) none
gives_more old new bytes text outside (inr x) client volume none = lines_act_on_made_volumes old new x.said x.reply outside x.happens client volume none

runs_more : (old new : Cell) (ls : List (List ℕ)) (report : List ℕ) (outside : List (List ℕ)) → Runs LineGives old ls report outside new → (client volume : ℕ) → stand_of new volume ≡ None → DidNoMore old new client volume
runs_more old new [] report outside run client volume none =
    subst (λ (c : Cell). stand_of c volume ≡ None → DidNoMore old c client volume) (sym run.2) (λ is. record { unmade = is; before = same_on volume (old.clients client).disk }) none
runs_more old new (l ∷ more) report outside run client volume none =
    let rest = runs_more run.0 new more run.2 run.4 run.6 client volume none in
    let first = gives_more old run.0 l run.1 run.3 run.5 client volume rest.unmade in
    record { unmade = first.unmade; before = same_then volume (old.clients client).disk (run.0.clients client).disk (new.clients client).disk first.before rest.before }

nothing_done : (joins : Bool) (client : ℕ) → entries_on joins (blank_shelves.clients client) ≡ []
nothing_done true client = refl
nothing_done false client = refl

pub scripts_act_on_made_volumes : ScriptsActOnMadeVolumes
scripts_act_on_made_volumes = record {
  runs = λ shelves cell ls report outside run client volume none. (runs_more (begun_on shelves) cell ls report outside run client volume none).before;
  first = λ cell ls report outside run joins client volume none.
      let b = (runs_more (begun_on blank_shelves) cell ls report outside run client volume none).before joins in b.1 ∙ ap (deeds_of volume) (nothing_done b.0 client);
}
