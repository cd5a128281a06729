-- What a client is asked is what its task says.
use Rattle.std.proofs.Common.{◌≡◌, ℕ, ◌<◌, ◌≤◌, Bool, true, false, List, [], Option, Some, None, Result, IfOk, sym, subst, arith}
use Rattle.std.specs.Prelude.{IfSome}
use Rattle.std.specs.Option.{unwrap_or}
use Rattle.std.proofs.lemmas.Result.{IfOk-weaker}
use Rattle.coda_disk.specs.Told.{Told}
use Rattle.coda_fid.specs.declared.op.Attrs.{Attrs}
use Rattle.coda_record.specs.Spelling.{HasSpelling}
use Rattle.coda_record.specs.Table as table
use Rattle.coda_script.specs.Ranges.{TaskInRange}
use Rattle.coda_script.specs.declared.line.Line.TheVariants as line
use Rattle.coda_script.specs.declared.line.Task.{Task}
use Rattle.coda_script.specs.declared.line.Task.TheVariants as task
use Rattle.coda_script.specs.declared.reply.Reply.{Reply}
use Rattle.coda_spelling.proofs.SpelledParts.{attrs_spelled}
use Rattle.coda_venus.specs.Ask.{Asked}
use Rattle.coda_cell.specs.Asking.{operate}
use Rattle.coda_cell.specs.State.{Event}
use Rattle.coda_cell.specs.Steps.{Naming, ByClient, Operates, DoesTask, on_volume}
use Rattle.coda_shelves.specs.Cells.{Cell, state_of}
use Rattle.coda_shelves.specs.Lines.{the_volume, task_needs, is_down_for, meets, Acts, UnlessDown, Happens}
use Rattle.coda_site.specs.Steps.{Becomes}
use Rattle.coda_site.specs.Tasks.{met_by, Request, Answers, Asks}
use Rattle.coda_site.specs.declared.fault.CellFault.{CellFault}
use Rattle.coda_site.specs.declared.site.Site.{Site}
use Rattle.coda_site.proofs.Becomings.{becomes_as}

-- ---- ranges

small_so : (high limit : ℕ) (o : Option ℕ) → high < limit → IfSome o (λ n. n ≤ high) → IfSome o (λ n. n < limit)
small_so high limit None below is = tt
small_so high limit (Some n) below is = omega (arith, below, is)

between_so : (high limit : ℕ) (o : Option ℕ) → high < limit → IfSome o (λ n. (0 ≤ n) × (n ≤ high)) → IfSome o (λ n. n < limit)
between_so high limit None below is = tt
between_so high limit (Some n) below is = let le = is.1 in omega (arith, below, le)

-- attributes within their ranges
pub attrs_so : (now : Task) (client volume : ℕ) (path : List (List ℕ)) (attrs : Attrs) → now ≡ task.Setattr client volume path attrs → TaskInRange now → HasSpelling table.attrs attrs
attrs_so now client volume path attrs is range =
    let r : TaskInRange (task.Setattr client volume path attrs) = subst TaskInRange is range in
    attrs_spelled attrs (small_so 4095 65536 attrs.mode (omega arith) r.3) (between_so 4294967295 4294967296 attrs.owner (omega arith) r.4) (between_so 18446744073709551615 18446744073709551616 attrs.mtime (omega arith) r.5) r.6

-- ---- tasks

module _ {D : Type 0} (told : D → Told) (out : ℕ → Bool) (has : ℕ → Told) (cell : Cell) (answered : List (List ℕ)) (site : Site D) (client volume : ℕ) where
  -- a task that asks a client
  asks_task : (t : Task) (request : Request) → is_down_for (task_needs cell t) ≡ is_down_for (the_volume cell client volume)
      → ((own : Reply) (events : List Event) → Naming (on_volume (met_by cell volume) client volume) (ByClient (met_by cell volume) client volume request) own events → DoesTask (meets cell (line.Task t)) t own events)
      → (reply : Reply) (outside : List (List ℕ)) (left : Cell) → Asks cell client volume request reply outside left → Happens cell (line.Task t) reply outside left
  asks_task t request down does reply outside left asks =
      subst (λ (b : Bool). UnlessDown b cell (λ r o n. (o ≡ []) × Acts cell (line.Task t) r n) reply outside left) (sym down) (by (is_down_for (the_volume cell client volume)) asks)
    where
      by : (b : Bool) → UnlessDown b cell (λ r o n. (o ≡ []) × Answers cell client volume request r n) reply outside left → UnlessDown b cell (λ r o n. (o ≡ []) × Acts cell (line.Task t) r n) reply outside left
      by true is = is
      by false is = (is.0, record { own = is.1.own; events = is.1.events; does = does is.1.own is.1.events is.1.does; ends = is.1.ends })

  pub asked_task : (now t : Task) (request : Request) (result : Result Reply CellFault) → now ≡ t → is_down_for (task_needs cell t) ≡ is_down_for (the_volume cell client volume)
      → ((own : Reply) (events : List Event) → Naming (on_volume (met_by cell volume) client volume) (ByClient (met_by cell volume) client volume request) own events → DoesTask (meets cell (line.Task t)) t own events)
      → IfOk result (λ reply. Becomes told out has (Asks cell client volume request) reply answered answered site) → IfOk result (λ reply. Becomes told out has (Happens cell (line.Task now)) reply answered answered site)
  asked_task now t request result is down does asks =
      subst (λ (x : Task). IfOk result (λ reply. Becomes told out has (Happens cell (line.Task x)) reply answered answered site)) (sym is)
      (IfOk-weaker result (λ reply. Becomes told out has (Asks cell client volume request) reply answered answered site) (λ reply. Becomes told out has (Happens cell (line.Task t)) reply answered answered site)
      (λ reply b. becomes_as told out has (Asks cell client volume request) (Happens cell (line.Task t)) reply answered answered site (asks_task t request down does reply) b) asks)

  -- a task that has a client perform an operation
  pub operated_task : (now t : Task) (ask given : Asked) (result : Result Reply CellFault) → now ≡ t → given ≡ ask → is_down_for (task_needs cell t) ≡ is_down_for (the_volume cell client volume)
      → ((own : Reply) (events : List Event) → Operates (met_by cell volume) client volume ask own events → DoesTask (meets cell (line.Task t)) t own events)
      → IfOk result (λ reply. Becomes told out has (Asks cell client volume (λ o c. operate o c cell.clock volume given)) reply answered answered site)
      → IfOk result (λ reply. Becomes told out has (Happens cell (line.Task now)) reply answered answered site)
  operated_task now t ask given result is same down does asks =
      asked_task now t (λ o c. operate o c cell.clock volume ask) result is down does
      (subst (λ (a : Asked). IfOk result (λ reply. Becomes told out has (Asks cell client volume (λ o c. operate o c cell.clock volume a)) reply answered answered site)) same asks)

  -- what is asked otherwise
  pub asked_same : (ask given : Asked) (result : Result Reply CellFault) → given ≡ ask → IfOk result (λ reply. Becomes told out has (Asks cell client volume (λ o c. operate o c cell.clock volume given)) reply answered answered site)
      → IfOk result (λ reply. Becomes told out has (Asks cell client volume (λ o c. operate o c cell.clock volume ask)) reply answered answered site)
  asked_same ask given result same asks = subst (λ (a : Asked). IfOk result (λ reply. Becomes told out has (Asks cell client volume (λ o c. operate o c cell.clock volume a)) reply answered answered site)) same asks

-- ---- drains

-- a drain with no window is one with a window of 600 seconds
pub drained_as : {D : Type 0} (told : D → Told) (out : ℕ → Bool) (has : ℕ → Told) (cell : Cell) (answered : List (List ℕ)) (site : Site D) (client volume server : ℕ) (window : Option ℕ) (given : ℕ) (now : Task) (result : Result Reply CellFault)
    → now ≡ task.Drain client volume server window → given ≡ unwrap_or window 600
    → IfOk result (λ reply. Becomes told out has (Happens cell (line.Task (task.Drain client volume server (Some given)))) reply answered answered site)
    → IfOk result (λ reply. Becomes told out has (Happens cell (line.Task now)) reply answered answered site)
drained_as told out has cell answered site client volume server window given now result is same drains =
    subst (λ (x : Task). IfOk result (λ reply. Becomes told out has (Happens cell (line.Task x)) reply answered answered site)) (sym is)
    (IfOk-weaker result (λ reply. Becomes told out has (Happens cell (line.Task (task.Drain client volume server (Some given)))) reply answered answered site)
    (λ reply. Becomes told out has (Happens cell (line.Task (task.Drain client volume server window))) reply answered answered site)
    (λ reply b. becomes_as told out has (Happens cell (line.Task (task.Drain client volume server (Some given)))) (Happens cell (line.Task (task.Drain client volume server window))) reply answered answered site
    (λ outside left h. one (is_down_for (task_needs cell (task.Drain client volume server window))) reply outside left h) b) drains)
  where
    one : (b : Bool) (reply : Reply) (outside : List (List ℕ)) (left : Cell) → UnlessDown b cell (λ r o n. (o ≡ []) × Acts cell (line.Task (task.Drain client volume server (Some given))) r n) reply outside left
        → UnlessDown b cell (λ r o n. (o ≡ []) × Acts cell (line.Task (task.Drain client volume server window)) r n) reply outside left
    one true reply outside left h = h
    one false reply outside left h = (
      h.0,
      record {
        own = h.1.own;
        events = h.1.events;
        does = subst (λ (w : ℕ). DoesTask (state_of cell) (task.Drain client volume server (Some w)) h.1.own h.1.events) same h.1.does;
        ends = h.1.ends;
      },
    )
