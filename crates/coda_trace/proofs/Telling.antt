-- A trace tells of a run, step by step, and of what recoveries found.
use Rattle.std.proofs.Common.{◌≡◌, ℕ, ◌==◌, ◌&&◌, cond, Bool, List, [], ◌∷◌, ◌++◌, append_assoc, append-nil, Option, Some, None, refl, sym, ap, ◌∙◌, subst}
use Rattle.std.proofs.lemmas.Bool.{eq-eqb}
use Rattle.coda_disk.specs.Told.{Told}
use Rattle.coda_actors.specs.Plain.{PlainDisk, PlainActor}
use Rattle.coda_actors.specs.declared.slot.Mounting.TheVariants.{Entries, Foreign, DiskFault, Memory}
use Rattle.coda_plain.specs.Decisions.{ReplicaEntry}
use Rattle.coda_script.specs.Ranges.{InRange}
use Rattle.coda_script.specs.declared.line.Line.{Line}
use Rattle.coda_script.specs.declared.line.Line.TheVariants as line
use Rattle.coda_script.specs.declared.reply.Reply.{Reply}
use Rattle.coda_script.specs.declared.reply.Reply.TheVariants.{Recovered}
use Rattle.coda_cell.specs.Refused.{Refused}
use Rattle.coda_cell.specs.Steps.{first_missing}
use Rattle.coda_cell.proofs.Families.{put_here}
use Rattle.coda_shelves.specs.Cells.{Cell, Stand, stand_of, with_client, with_replica}
use Rattle.coda_shelves.specs.Lines.{Becoming, Unless, Payloads, Recovers, AtReplicaOf, client_payloads, replica_payloads, the_client, the_replica, Happens}
use Rattle.coda_shelves.specs.Running.{IsKept}
use Rattle.coda_shelves.proofs.Keeping.{shelves_are_kept}
use Rattle.coda_site.specs.Shelves.{Leads}
use Rattle.coda_site.specs.Totals.{Counts}
use Rattle.coda_site.specs.declared.site.Site.{Site}
use Rattle.coda_trace.specs.Laws.{IsAmong, TracesAreRuns, AreFound, RecoveriesAreNoted}
use Rattle.coda_trace.specs.Notes.{IsTraced}
use Rattle.coda_trace.specs.Told.{IsStep, AreSteps, GoesOn}
use Rattle.coda_trace.specs.declared.event.Event.{Event}
use Rattle.coda_trace.specs.declared.event.Note.TheVariants as note

-- ---- a step more

pub steps_more : (events : List Event) (start cell left : Cell) (event : Event) (images outside : List (List ℕ)) → AreSteps start events images cell → IsStep cell event outside left
    → AreSteps start (events ++ event ∷ []) (images ++ outside) left
steps_more [] start cell left event images outside (none, same) step =
    (left, outside, [], subst (λ (c : Cell). IsStep c event outside left) same step, (refl, refl), ap (λ (i : List (List ℕ)). i ++ outside) none ∙ sym (append-nil outside))
steps_more (e ∷ events) start cell left event images outside (next, first, rest, is, steps, joined) step =
    (next, first, rest ++ outside, is, steps_more events next cell left event rest outside steps step, ap (λ (i : List (List ℕ)). i ++ outside) joined ∙ append_assoc first rest outside)

-- what becomes of a site that shows a cell, by a line that is traced
pub goes_on : {D : Type 0} (told : D → Told) (out : ℕ → Bool) (has : ℕ → Told) (start cell : Cell) (said : Line) (reply : Reply) (before behind : Counts) (old new : List Event) (images answered now : List (List ℕ)) (site : Site D)
    → InRange said → IsTraced said reply before behind old new → Leads told out has (Happens cell said) reply answered now site → AreSteps start old images cell → GoesOn told out has start new images answered now site
goes_on told out has start cell said reply before behind old new images answered now site range traced led steps = record {
  outside = led.outside;
  left = led.left;
  answered = led.answered;
  shows = led.shows;
  steps = subst (λ (l : List Event). AreSteps start l (images ++ led.outside) led.left) (sym traced.grows) (steps_more old start cell led.left traced.event images led.outside steps (record {
    reply = reply;
    range = subst InRange (sym traced.line) range;
    happens = subst (λ (l : Line). Happens cell l reply led.outside led.left) (sym traced.line) led.happens;
    noted = traced.noted;
  }));
}

-- ---- traces are runs

each : (before : List Event) (start end : Cell) (behind : List Event) (event : Event) (outside : List (List ℕ)) → AreSteps start (before ++ event ∷ behind) outside end → IsAmong start before event behind outside end
each [] start end behind event outside (next, first, rest, is, steps, joined) =
    record { old = start; new = next; first = []; own = first; rest = rest; led = (refl, refl); step = is; goes_on = steps; answered = joined }
each (e ∷ before) start end behind event outside (next, first, rest, is, steps, joined) =
    let a = each before next end behind event rest steps in
    record {
      old = a.old;
      new = a.new;
      first = first ++ a.first;
      own = a.own;
      rest = a.rest;
      led = (next, first, a.first, is, a.led, refl);
      step = a.step;
      goes_on = a.goes_on;
      answered = joined ∙ ap (λ (i : List (List ℕ)). first ++ i) a.answered ∙ sym (append_assoc first a.first (a.own ++ a.rest));
    }

kept : (events : List Event) (start end : Cell) (outside : List (List ℕ)) → IsKept start → AreSteps start events outside end → IsKept end
kept [] start end outside k (none, same) = subst IsKept (sym same) k
kept (e ∷ events) start end outside k (next, first, rest, is, steps, joined) = kept events next end rest (shelves_are_kept.lines start next e.line is.reply first k is.range is.happens) steps

pub traces_are_runs : TracesAreRuns
traces_are_runs = record { each = λ start end before behind event outside. each before start end behind event outside; kept = λ start end events outside. kept events start end outside }

-- ---- recoveries

-- a line that isn't refused does its own
unless_own : (old : Cell) (o : Option Refused) (own : Becoming) (count : ℕ) (outside : List (List ℕ)) (new : Cell) → Unless old o own (Recovered count) outside new → own (Recovered count) outside new
unless_own old (Some why) own count outside new (said, none, same) = absurd (let s = said in cc)
unless_own old None own count outside new is = is

-- the actor at a place where it was put
replica_here : (cell : Cell) (row server : ℕ) (actor : PlainActor ReplicaEntry) → (with_replica cell row server actor).replicas row server ≡ actor
replica_here cell row server actor = ap (λ b. cond (b && (server == server)) actor (cell.replicas row server)) (eq-eqb row row refl) ∙ ap (λ b. cond b actor (cell.replicas row server)) (eq-eqb server server refl)

-- so many entries as the reply to a recovery says were found on the disk
counted : {E : Type 0} (payloads : PlainDisk E → Payloads) (actor : PlainActor E) (goes : PlainActor E → Cell) (count : ℕ) (outside : List (List ℕ)) (new : Cell) → Recovers payloads actor goes (Recovered count) outside new
    → (mid : PlainActor E) × AreFound actor.disk mid.disk count × (new ≡ goes mid)
counted payloads actor goes count outside new (header, asks, (Entries found, disk, told, mounts, read, says, quiet, is)) =
    let same : count ≡ found = cc in (_, ((header, mounts.0), same ∙ mounts.1), is)
counted payloads actor goes count outside new (header, asks, (Foreign at, disk, told, mounts, read, says, quiet, is)) = absurd (let s = says in cc)
counted payloads actor goes count outside new (header, asks, (DiskFault, disk, told, mounts, read, says, quiet, is)) = absurd (let s = says in cc)
counted payloads actor goes count outside new (header, asks, (Memory, disk, told, mounts, read, says, quiet, is)) = absurd told

client_counted : (old new : Cell) (client count : ℕ) (outside : List (List ℕ)) → Recovers client_payloads (old.clients client) (with_client old client) (Recovered count) outside new → AreFound (old.clients client).disk (new.clients client).disk count
client_counted old new client count outside recovers =
    let c = counted client_payloads (old.clients client) (with_client old client) count outside new recovers in
    let there : (new.clients client).disk ≡ c.0.disk = ap (λ (cell : Cell). (cell.clients client).disk) c.2 ∙ ap (λ (a : PlainActor _). a.disk) (put_here old.clients client c.0) in
    subst (λ (d : PlainDisk _). AreFound (old.clients client).disk d count) (sym there) c.1

replica_counted : (old new : Cell) (server volume count : ℕ) (outside : List (List ℕ)) (o : Option Stand) → stand_of old volume ≡ o → AtReplicaOf old o server (Recovers replica_payloads) (Recovered count) outside new
    → (at : Stand) × (stand_of old volume ≡ Some at) × AreFound (old.replicas at.row server).disk (new.replicas at.row server).disk count
replica_counted old new server volume count outside None e recovers = absurd recovers
replica_counted old new server volume count outside (Some at) e recovers =
    let c = counted replica_payloads (old.replicas at.row server) (with_replica old at.row server) count outside new recovers in
    let there : (new.replicas at.row server).disk ≡ c.0.disk = ap (λ (cell : Cell). (cell.replicas at.row server).disk) c.2 ∙ ap (λ (a : PlainActor ReplicaEntry). a.disk) (replica_here old at.row server c.0) in
    (at, e, subst (λ (d : PlainDisk ReplicaEntry). AreFound (old.replicas at.row server).disk d count) (sym there) c.1)

-- the reply of a step that is noted as a recovery
noted_happens : (old new : Cell) (event : Event) (outside : List (List ℕ)) (said : Line) (count : ℕ) → IsStep old event outside new → event.line ≡ said → event.note ≡ note.Recovered count → Happens old said (Recovered count) outside new
noted_happens old new event outside said count step is noted =
    subst (λ (l : Line). Happens old l (Recovered count) outside new) is (subst (λ (r : Reply). Happens old event.line r outside new) ((step.noted.recovered count).0 noted) step.happens)

pub recoveries_are_noted : RecoveriesAreNoted
recoveries_are_noted = record {
  clients = λ old new event outside client count step is noted. client_counted old new client count outside
      (unless_own old (first_missing (the_client old client).named) (Recovers client_payloads (old.clients client) (with_client old client)) count outside new (noted_happens old new event outside (line.RecoverClient client) count step is noted));
  replicas = λ old new event outside server volume count step is noted. replica_counted old new server volume count outside (stand_of old volume) refl
      (unless_own old (first_missing (the_replica old server volume).named) (AtReplicaOf old (stand_of old volume) server (Recovers replica_payloads)) count outside new (noted_happens old new event outside (line.RecoverReplica server volume) count step is noted));
}
