-- That a client is refused for its disk only where the disk is the cause.
use Rattle.std.proofs.Common.{◌≡◌, ℕ, ◌&&◌, not, is_some, true, false, List, Option, Some, None, refl, sym, ap, subst, ◌∙◌, inl, inr, ◌⊎◌}
use Rattle.std.proofs.lemmas.Bool.{and_parts}
use Rattle.coda_tree.specs.Volume.{Nodes}
use Rattle.coda_actors.specs.Plain.{Life, Unmade, Down, Up, PlainActor}
use Rattle.coda_plain.specs.Cell.{ClientEntry}
use Rattle.coda_plain.specs.Moves.{Append, AtClient, AtReplica}
use Rattle.coda_script.specs.declared.line.Line.TheVariants as line
use Rattle.coda_script.specs.declared.line.Strength.{Strength}
use Rattle.coda_script.specs.declared.line.Task.{Task}
use Rattle.coda_script.specs.declared.line.Task.TheVariants as task
use Rattle.coda_script.specs.declared.reply.Reply.{Reply}
use Rattle.coda_cell.specs.Refused.{Refused}
use Rattle.coda_cell.specs.Asking.{Answer}
use Rattle.coda_cell.specs.State.{ClientState, CellState, Event, Entered, after_all as after_all_in}
use Rattle.coda_cell.specs.Steps.{Unless, first_missing, on_volume, offers_of, ByClient, Does, DoesTask}
use Rattle.coda_cell.proofs.Families.{put_here}
use Rattle.coda_shelves.specs.Cells.{Cell, is_up, state_of, fallen, failing, after_all, failed}
use Rattle.coda_shelves.specs.Lines.{meets, Lacks, Stop, needs, is_down_for, client_down, refused_full, refused_fault}
use Rattle.coda_runs.specs.Causes.{named_by, IsAnswered, IsNextEntry, DiskCause, IsDown, HasNoRoom, HasFailed, RefusalsHaveCauses}
use Rattle.coda_runs.proofs.Meeting.{met, IsMet, ShowsAs, clients_as, Ends, WasDown, DidAll, LackedRoom, HadFault, line_ends}
use Rattle.coda_runs.proofs.Refused.{at_named, task_is}
use Rattle.coda_runs.proofs.Whose.{Anywhere, IsOf as IsOfThese, AreOf as AreOfThese, of_next, of_entries}

-- ---- who enters what happens

-- what happens is of this client alone
abbrev IsOf : ℕ → Event → Type 0
IsOf client = IsOfThese (λ c. c ≡ client) (λ server volume. ⊥) Anywhere

abbrev AreOf : ℕ → List Event → Type 0
AreOf client = AreOfThese (λ c. c ≡ client) (λ server volume. ⊥) Anywhere

module _ (s : CellState) (reply : Reply) (events : List Event) where
  of_asked : (client volume : ℕ) (ask : Option Nodes → ClientState → Answer) (o : Option Refused) → Unless o (ByClient s client volume ask) reply events
      → AreOf client events
  of_asked client volume ask (Some why) isnt = subst (AreOf client) (sym isnt.1) tt
  of_asked client volume ask None did =
      subst (AreOf client) (sym did.happened) (of_entries (λ c. c ≡ client) (λ server volume. ⊥) client (ask (offers_of s client volume) did.client).entries refl)

  of_named : (c v client volume : ℕ) (ask : Option Nodes → ClientState → Answer) → (let named : ℕ × ℕ = (c, v) in Some named ≡ Some (client, volume))
      → Unless (first_missing (on_volume s c v)) (ByClient s c v ask) reply events → AreOf client events
  of_named c v client volume ask named does = at_named c v client volume (λ c v. AreOf c events) named (of_asked c v ask (first_missing (on_volume s c v)) does)

  task_of : (t : Task) (client volume : ℕ) → DoesTask s t reply events → named_by t ≡ Some (client, volume) → AreOf client events
  task_of (task.Create c v path mode owner) client volume does named = of_named c v client volume _ named does
  task_of (task.Mkdir c v path mode owner) client volume does named = of_named c v client volume _ named does
  task_of (task.Symlink c v path target) client volume does named = of_named c v client volume _ named does
  task_of (task.Store c v path content) client volume does named = of_named c v client volume _ named does
  task_of (task.Setattr c v path attrs) client volume does named = of_named c v client volume _ named does
  task_of (task.Remove c v path) client volume does named = of_named c v client volume _ named does
  task_of (task.Rmdir c v path) client volume does named = of_named c v client volume _ named does
  task_of (task.Rename c v from to) client volume does named = of_named c v client volume _ named does
  task_of (task.Read c v path) client volume does named = of_named c v client volume _ named does
  task_of (task.List c v path) client volume does named = of_named c v client volume _ named does
  task_of (task.Drain c v server window) client volume does named = cc
  task_of (task.Hardlink c v from to) client volume does named = cc
  task_of (task.Refresh c v server) client volume does named = cc
  task_of (task.Giveup c v) client volume does named = cc

-- ---- a client that is down

module _ (old : Cell) where
  down_there : (c v client volume : ℕ) → (let named : ℕ × ℕ = (c, v) in Some named ≡ Some (client, volume))
      → (not (is_some (first_missing (on_volume (state_of old) c v))) && client_down old c) ≡ true → client_down old client ≡ true
  down_there c v client volume named down =
      at_named c v client volume (λ c v. client_down old c ≡ true) named
      (and_parts (not (is_some (first_missing (on_volume (state_of old) c v)))) (client_down old c) down).1

  down_for : (t : Task) (client volume : ℕ) → named_by t ≡ Some (client, volume) → is_down_for (needs old (line.Task t)) ≡ true → client_down old client ≡ true
  down_for (task.Create c v path mode owner) client volume named down = down_there c v client volume named down
  down_for (task.Mkdir c v path mode owner) client volume named down = down_there c v client volume named down
  down_for (task.Symlink c v path target) client volume named down = down_there c v client volume named down
  down_for (task.Store c v path content) client volume named down = down_there c v client volume named down
  down_for (task.Setattr c v path attrs) client volume named down = down_there c v client volume named down
  down_for (task.Remove c v path) client volume named down = down_there c v client volume named down
  down_for (task.Rmdir c v path) client volume named down = down_there c v client volume named down
  down_for (task.Rename c v from to) client volume named down = down_there c v client volume named down
  down_for (task.Read c v path) client volume named down = down_there c v client volume named down
  down_for (task.List c v path) client volume named down = down_there c v client volume named down
  down_for (task.Drain c v server window) client volume named down = cc
  down_for (task.Hardlink c v from to) client volume named down = cc
  down_for (task.Refresh c v server) client volume named down = cc
  down_for (task.Giveup c v) client volume named down = cc

-- ---- entries that aren't entered

module _ (old new mid : Cell) (t : Task) (client : ℕ) (reply : Reply) where
  -- the entry that was to be entered
  abbrev IsNextAppend : Cell → Append → Type 0
  IsNextAppend cell next =
      (own : Reply) × (events : List Event) × Does (meets old (line.Task t)) (line.Task t) own events × ((stop : Stop events) × (stop.next ≡ next) × (cell ≡ after_all old stop.done))

  next_entry : (cell : Cell) (entry : ClientEntry) → IsNextAppend cell (AtClient client entry) → IsNextEntry old cell t client entry
  next_entry cell entry n = record { own = n.0; events = n.1; does = n.2; stop = n.3.0; next = n.3.1; behind = n.3.2 }

  no_room : (next : Append) → IsOf client (Entered next) → IsNextAppend mid next → Lacks mid next → reply ≡ refused_full → new ≡ mid
      → DiskCause old new t client reply
  no_room (AtClient c entry) (by, on) n lacks is same = HasNoRoom entry is
      (next_entry new entry (subst (λ cell. IsNextAppend cell (AtClient client entry)) (sym same) (subst (λ k. IsNextAppend mid (AtClient k entry)) by n)))
      (subst (λ cell. Lacks cell (AtClient client entry)) (sym same) (subst (λ k. Lacks mid (AtClient k entry)) by lacks))
  no_room (AtReplica server volume entry) by n lacks is same = absurd by

  -- the client at which an append failed
  failed_at : (entry : ClientEntry) → new ≡ failed mid (AtClient client entry) → new.clients client ≡ failing entry (mid.clients client)
  failed_at entry e = ap (λ (cell : Cell). cell.clients client) e ∙ put_here mid.clients client (failing entry (mid.clients client))

  fallen_down : (life : Life) → is_up (fallen life) ≡ false
  fallen_down Unmade = refl
  fallen_down (Down header) = refl
  fallen_down (Up header) = refl

  has_failed : (next : Append) → IsOf client (Entered next) → IsNextAppend mid next → reply ≡ refused_fault → new ≡ failed mid next
      → DiskCause old new t client reply
  has_failed (AtClient c entry) (by, on) n is same =
      let fell = failed_at entry (subst (λ k. new ≡ failed mid (AtClient k entry)) by same) in
      HasFailed entry mid is (next_entry mid entry (subst (λ k. IsNextAppend mid (AtClient k entry)) by n))
      (ap (λ (a : PlainActor ClientEntry). a.disk.failed) fell) (ap (λ (a : PlainActor ClientEntry). is_up a.life) fell ∙ fallen_down (mid.clients client).life)
  has_failed (AtReplica server volume entry) by n is same = absurd by

-- the entry at which events stopped that are of a client
stopped_of : (client : ℕ) (events : List Event) (stop : Stop events) → AreOf client events → IsOf client (Entered stop.next)
stopped_of client events stop are = of_next (λ c. c ≡ client) (λ server volume. ⊥) Anywhere stop.done stop.rest (Entered stop.next) (subst (AreOf client) stop.is are)

-- ---- lines

module _ (old new : Cell) (t : Task) (client volume : ℕ) (named : named_by t ≡ Some (client, volume)) where
  abbrev Is : Reply → Type 0
  Is reply =
      IsAnswered t client volume (first_missing (on_volume (state_of old) client volume)) (state_of new).clients reply
      ⊎ DiskCause old new t client reply

  answered : (reply : Reply) (links : ℕ → ℕ → Strength) (events : List Event) → Does (met old links) (line.Task t) reply events
      → ShowsAs (after_all_in (met old links) events) new → Is reply
  answered reply links events does shows =
      inl (subst (λ clients. IsAnswered t client volume (first_missing (on_volume (state_of old) client volume)) clients reply) (clients_as (after_all_in (met old links) events) new shows)
      (task_is (met old links) reply events t client volume does named))

  -- what the task does where disks have room
  plainly : (at : IsMet old (line.Task t)) (own : Reply) (events : List Event) → Does (met old at.links) (line.Task t) own events
      → Does (meets old (line.Task t)) (line.Task t) own events
  plainly at own events does = subst (λ s. Does s (line.Task t) own events) (sym at.is) does

  whose : (at : IsMet old (line.Task t)) (own : Reply) (events : List Event) (stop : Stop events) → Does (met old at.links) (line.Task t) own events
      → IsOf client (Entered stop.next)
  whose at own events stop does = stopped_of client events stop (task_of (met old at.links) own events t client volume does named)

  full : (reply own : Reply) (at : IsMet old (line.Task t)) (events : List Event) (stop : Stop events) → Does (met old at.links) (line.Task t) own events
      → reply ≡ refused_full → Lacks (after_all old stop.done) stop.next → new ≡ after_all old stop.done → Is reply
  full reply own at events stop does is lacks same =
      inr (no_room old new (after_all old stop.done) t client reply stop.next (whose at own events stop does) (own, events, plainly at own events does, (stop, refl, refl)) lacks is same)

  fault : (reply own : Reply) (at : IsMet old (line.Task t)) (events : List Event) (stop : Stop events) → Does (met old at.links) (line.Task t) own events
      → reply ≡ refused_fault → new ≡ failed (after_all old stop.done) stop.next → Is reply
  fault reply own at events stop does is same =
      inr (has_failed old new (after_all old stop.done) t client reply stop.next (whose at own events stop does) (own, events, plainly at own events does, (stop, refl, refl)) is same)

  ended : (reply : Reply) → Ends old (line.Task t) reply new → Is reply
  ended reply (WasDown down is same) = inr (IsDown is (down_for old t client volume named down) same)
  ended reply (DidAll at events does shows) = answered reply at.links events does shows
  ended reply (LackedRoom at own events stop does shows is lacks same) = full reply own at events stop does is lacks same
  ended reply (HadFault at own events stop does shows is same) = fault reply own at events stop does is same

pub refusals_have_causes : RefusalsHaveCauses
refusals_have_causes cell t reply answers new client volume happens named =
    ended cell new t client volume named reply (line_ends cell (line.Task t) reply answers new refl happens)
