-- A line has one outcome, where no disk fails and nothing crashes.
use Rattle.std.proofs.Common.{◌≡◌, ◌≢◌, ◌+◌, ℕ, Bool, true, false, List, [], ◌∷◌, ◌++◌, length, map, Option, Some, None, refl, sym, ap, ◌∙◌, subst, inl, inr, ◌⊎◌, arith}
use Rattle.std.specs.Option.{unwrap_or}
use Rattle.std.proofs.lemmas.Bool.{false≢true}
use Rattle.std.proofs.lemmas.List.{length-append}
use Rattle.coda_tree.specs.Volume.{Nodes}
use Rattle.coda_actors.specs.Plain.{PlainDisk, PlainActor, Joins, Mounts, recovered_as, left_after}
use Rattle.coda_actors.specs.declared.slot.Mounting.{Mounting}
use Rattle.coda_actors.specs.declared.slot.Mounting.TheVariants.{Entries, Foreign, DiskFault, Memory}
use Rattle.coda_journal.specs.declared.header.Header.{Header}
use Rattle.coda_letters.specs.Sent.{Sent, ChunkSent, AnswerSent, BreakSent, sent_at, client_of, server_of}
use Rattle.coda_plain.specs.Decisions.{ReplicaEntry}
use Rattle.coda_plain.specs.Moves.{Append}
use Rattle.coda_script.specs.declared.line.Line.{Line}
use Rattle.coda_script.specs.declared.line.Line.TheVariants as line
use Rattle.coda_script.specs.declared.line.Task.{Task}
use Rattle.coda_script.specs.declared.line.Task.TheVariants as task
use Rattle.coda_script.specs.declared.reply.Reply.{Reply}
use Rattle.coda_script.specs.declared.reply.Reply.TheVariants.{Accepted, State}
use Rattle.coda_cell.specs.Asking.{Answer, read}
use Rattle.coda_cell.specs.Refused.{Refused}
use Rattle.coda_cell.specs.Messages.{sends, chunk_comes, answer_comes}
use Rattle.coda_cell.specs.Sending.{drain}
use Rattle.coda_cell.specs.State.{ClientState, ReplicaState, CellState, Event, Entered, Ticked, at_client, put, log_of}
use Rattle.coda_cell.specs.Steps.{Doing, Unless, Naming, reply_to, offers_of, first_missing, ByClient, ByBoth, BySend, ByRuling, ByTaking, Happens as HappensOne, Says, Comes, Delivers, Loses, link_down, on_volume, on_holder, DoesTask, Does, is_alone, ShowsState}
use Rattle.coda_cell.specs.States.{state_over}
use Rattle.coda_shelves.specs.Cells.{Cell, Stand, stand_of, asked, with_client, with_replica, after, after_all}
use Rattle.coda_shelves.specs.Lines as plain
use Rattle.coda_shelves.specs.Lines.{Becoming, refused_fault, refused_full, is_built, Stop, Fits, FitsOne, Lacks, EndsBy, Acts, meets, UnlessDown, needs, is_down_for, DoesUp, Happens, Payloads, Recovers, recovery, client_payloads, replica_payloads, AtReplicaOf, opening, is_others, made_on, MountsRow, MakesVolume, MakesClient, no_volume, no_client, area_of, the_client, the_replica}
use Rattle.coda_shelves.specs.Shelves.{client_header, replica_header}
use Rattle.coda_shelves.specs.Laws.{QuietLinesHaveOneOutcome}

-- ---- what acts

-- a line of which each reply has its events comes to one reply
abbrev OneDoing : Doing → Type 0
OneDoing doing = (reply second : Reply) (events others : List Event) → doing reply events → doing second others → (reply ≡ second) × (events ≡ others)

some_once : {A : Type 0} (o : Option A) (a b : A) → o ≡ Some a → o ≡ Some b → a ≡ b
some_once {A = A} o a b x y = let z : (let some : A → Option A = λ v. Some v in some a ≡ some b) = sym x ∙ y in cc

unless_one : (o : Option Refused) (own : Doing) → OneDoing own → OneDoing (Unless o own)
unless_one (Some why) own is reply second events others a b = (a.0 ∙ sym b.0, a.1 ∙ sym b.1)
unless_one None own is reply second events others a b = is reply second events others a b

client_one : (s : CellState) (number volume : ℕ) (ask : Option Nodes → ClientState → Answer) → OneDoing (ByClient s number volume ask)
client_one s number volume ask reply second events others a b =
    let same = some_once (s.clients number) a.client b.client a.there b.there in (
      a.answered ∙ ap (λ c. reply_to (ask (offers_of s number volume) c).said) same ∙ sym b.answered,
      a.happened ∙ ap (λ c. map (at_client number) (ask (offers_of s number volume) c).entries) same ∙ sym b.happened,
    )

both_one : (s : CellState) (number volume window : ℕ) → OneDoing (ByBoth s number volume window)
both_one s number volume window reply second events others a b =
    let c = some_once (s.clients number) a.client b.client a.client_there b.client_there in
    let r = some_once (s.replicas volume) a.replica b.replica a.replica_there b.replica_there in
    let drained = λ (c : ClientState) (r : ReplicaState). drain (s.links number r.server) s.clock window number volume (c.volumes volume) r in (
      a.answered ∙ (λ i. reply_to (drained (c i) (r i)).said) ∙ sym b.answered,
      a.happened ∙ (λ i. (drained (c i) (r i)).events) ∙ sym b.happened,
    )

state_one : (s : CellState) (number volume : ℕ) → OneDoing (ShowsState s number volume)
state_one s number volume reply second events others a b =
    let c = some_once (s.clients number) a.client b.client a.client_there b.client_there in
    let r = some_once (s.replicas volume) a.replica b.replica a.replica_there b.replica_there in (
      a.answered ∙ (λ i. State (state_over (s.links number (r i).server) (log_of ((c i).volumes volume)))) ∙ sym b.answered,
      a.happened ∙ sym b.happened,
    )

send_one : (s : CellState) (number volume server window : ℕ) → OneDoing (BySend s number volume server window)
send_one s number volume server window reply second events others a b =
    let same = some_once (s.clients number) a.client b.client a.there b.there in (
      a.answered ∙ ap (λ (c : ClientState). reply_to (sends s number volume server window (c.volumes volume)).said) same ∙ sym b.answered,
      a.happened ∙ ap (λ (c : ClientState). (sends s number volume server window (c.volumes volume)).events) same ∙ sym b.happened,
    )

comes_one : (s : CellState) (sent : Sent) → OneDoing (Comes s sent)
comes_one s (ChunkSent client server volume number span) = unless_one (first_missing (on_holder s client volume server)) (ByRuling s client server volume number span) (λ reply second events others a b.
    let same = some_once (s.replicas volume) a.replica b.replica a.there b.there in (
      a.answered ∙ ap (λ (r : ReplicaState). reply_to (chunk_comes s client server volume number span r).said) same ∙ sym b.answered,
      a.happened ∙ ap (λ (r : ReplicaState). (chunk_comes s client server volume number span r).events) same ∙ sym b.happened,
    ))
comes_one s (AnswerSent server client volume number answer) = unless_one (first_missing (on_holder s client volume server)) (ByTaking s client volume number answer) (λ reply second events others a b.
    let same = some_once (s.clients client) a.client b.client a.there b.there in (
      a.answered ∙ ap (λ (c : ClientState). reply_to (answer_comes client volume number answer (c.volumes volume)).said) same ∙ sym b.answered,
      a.happened ∙ ap (λ (c : ClientState). (answer_comes client volume number answer (c.volumes volume)).events) same ∙ sym b.happened,
    ))
comes_one s (BreakSent server client volume fids) = unless_one (first_missing (on_holder s client volume server)) _ (λ reply second events others a b. (a.0 ∙ sym b.0, a.1 ∙ sym b.1))

happens_one : (said : Reply) (event : Event) → OneDoing (HappensOne said event)
happens_one said event reply second events others a b = (a.0 ∙ sym b.0, a.1 ∙ sym b.1)

says_one : (said : Reply) → OneDoing (Says said)
says_one said reply second events others a b = (a.0 ∙ sym b.0, a.1 ∙ sym b.1)

delivers_one : (s : CellState) (message : ℕ) (o : Option Sent) → OneDoing (Delivers s message o)
delivers_one s message None = λ reply second events others a b. (a.0 ∙ sym b.0, a.1 ∙ sym b.1)
delivers_one s message (Some sent) = unless_one (link_down (s.links (client_of sent) (server_of sent))) (Comes s sent) (comes_one s sent)

loses_one : (message : ℕ) (o : Option Sent) → OneDoing (Loses message o)
loses_one message None = λ reply second events others a b. (a.0 ∙ sym b.0, a.1 ∙ sym b.1)
loses_one message (Some sent) = λ reply second events others a b. (a.0 ∙ sym b.0, a.1 ∙ sym b.1)

asks_one : (s : CellState) (client volume : ℕ) (ask : Option Nodes → ClientState → Answer) → OneDoing (Naming (on_volume s client volume) (ByClient s client volume ask))
asks_one s client volume ask = unless_one (first_missing (on_volume s client volume)) (ByClient s client volume ask) (client_one s client volume ask)

task_one : (s : CellState) (t : Task) → OneDoing (DoesTask s t)
task_one s (task.Create client volume path mode owner) = asks_one s client volume _
task_one s (task.Mkdir client volume path mode owner) = asks_one s client volume _
task_one s (task.Symlink client volume path target) = asks_one s client volume _
task_one s (task.Store client volume path content) = asks_one s client volume _
task_one s (task.Setattr client volume path attrs) = asks_one s client volume _
task_one s (task.Remove client volume path) = asks_one s client volume _
task_one s (task.Rmdir client volume path) = asks_one s client volume _
task_one s (task.Rename client volume from to) = asks_one s client volume _
task_one s (task.Read client volume path) = asks_one s client volume _
task_one s (task.List client volume path) = asks_one s client volume _
task_one s (task.Drain client volume server window) = unless_one _ _ (both_one s client volume (unwrap_or window 600))
task_one s _ = λ reply second events others a b. absurd a

does_one : (s : CellState) (said : Line) → OneDoing (Does s said)
does_one s (line.Volume volume servers area) = unless_one _ _ (happens_one _ _)
does_one s (line.Client client blocks area) = unless_one _ _ (happens_one _ _)
does_one s (line.Link client server strength) = unless_one _ _ (happens_one _ _)
does_one s (line.Tick seconds) = happens_one Accepted (Ticked seconds)
does_one s (line.Task t) = task_one s t
does_one s (line.ShowVolume server volume) = unless_one _ _ (says_one _)
does_one s (line.ShowLog client volume) = unless_one _ _ (says_one _)
does_one s (line.ShowState client volume) = unless_one _ _ (state_one s client volume)
does_one s (line.Send client volume server window) = unless_one _ _ (send_one s client volume server (unwrap_or window 600))
does_one s (line.Deliver message) = delivers_one s message (sent_at message s.waiting)
does_one s (line.Lose message) = loses_one message (sent_at message s.waiting)
does_one s _ = λ reply second events others a b. absurd a

-- ---- how events end

-- where there was room for each entry, none stopped for want of it
never_stops : (old : Cell) (done : List Event) (next : Append) (rest : List Event) → Fits old (done ++ Entered next ∷ rest) → Lacks (after_all old done) next → ⊥
never_stops old [] next rest fits lacks = fits.0 lacks
never_stops old (event ∷ done) next rest fits lacks = never_stops (after old event) done next rest fits.1 lacks

-- an entry for which there is no room is the first one
same_stop : (old : Cell) (done others : List Event) (next second : Append) (rest more : List Event) → done ++ Entered next ∷ rest ≡ others ++ Entered second ∷ more
    → Fits old done → Lacks (after_all old done) next → Fits old others → Lacks (after_all old others) second → done ≡ others
same_stop old [] [] next second rest more same fits lacks also stops = refl
same_stop old [] (event ∷ others) next second rest more same fits lacks also stops =
    let first : Entered next ≡ event = cc in absurd (subst (λ e. FitsOne old e) (sym first) also.0 lacks)
same_stop old (event ∷ done) [] next second rest more same fits lacks also stops =
    let first : event ≡ Entered second = cc in absurd (subst (λ e. FitsOne old e) first fits.0 stops)
same_stop old (event ∷ done) (other ∷ others) next second rest more same fits lacks also stops =
    let first : event ≡ other = cc in
    let rest_same : done ++ Entered next ∷ rest ≡ others ++ Entered second ∷ more = cc in
    let behind : after old event ≡ after old other = ap (after old) first in
    (λ i. first i ∷ same_stop (after old other) done others next second rest more rest_same (subst (λ c. Fits c done) behind fits.1) (subst (λ c. Lacks (after_all c done) next) behind lacks) also.1 stops i)

ends_one : (old new other : Cell) (events : List Event) (own reply second : Reply) → reply ≢ refused_fault → second ≢ refused_fault → EndsBy old events own reply new → EndsBy old events own second other → (reply ≡ second) × (new ≡ other)
ends_one old new other events own reply second quiet also (inl a) (inl b) = (a.1 ∙ sym b.1, a.2 ∙ sym b.2)
ends_one old new other events own reply second quiet also (inl a) (inr (inl (stop, fits, lacks, is, same))) = absurd (never_stops old stop.done stop.next stop.rest (subst (Fits old) stop.is a.0) lacks)
ends_one old new other events own reply second quiet also (inr (inl (stop, fits, lacks, is, same))) (inl b) = absurd (never_stops old stop.done stop.next stop.rest (subst (Fits old) stop.is b.0) lacks)
ends_one old new other events own reply second quiet also (inr (inl (stop, fits, lacks, is, same))) (inr (inl (stop2, fits2, lacks2, is2, same2))) = (
  is ∙ sym is2,
  same ∙ ap (after_all old) (same_stop old stop.done stop2.done stop.next stop2.next stop.rest stop2.rest (sym stop.is ∙ stop2.is) fits lacks fits2 lacks2) ∙ sym same2,
)
ends_one old new other events own reply second quiet also (inr (inr (stop, fits, is, same))) b = absurd (quiet is)
ends_one old new other events own reply second quiet also a (inr (inr (stop, fits, is, same))) = absurd (also is)

acts_one : (old new other : Cell) (said : Line) (reply second : Reply) → reply ≢ refused_fault → second ≢ refused_fault → Acts old said reply new → Acts old said second other → (reply ≡ second) × (new ≡ other)
acts_one old new other said reply second quiet also a b =
    let one = does_one (meets old said) said a.own b.own a.events b.events a.does b.does in
    ends_one old new other b.events b.own reply second quiet also (subst (λ own. EndsBy old b.events own reply new) one.0 (subst (λ events. EndsBy old events a.own reply new) one.1 a.ends)) b.ends

-- ---- disks that are mounted

module _ {E : Type 0} where
  longer : (history : List E) (entry : E) → history ≡ history ++ entry ∷ [] → ⊥
  longer history entry e = let l : length history ≡ length history + 1 = ap length e ∙ length-append history (entry ∷ []) in omega (arith, l)

  -- with as many entries, a disk that joins what failed is one disk
  joins_one : (header : Header) (old new other : PlainDisk E) → Joins header old new → Joins header old other → length new.history ≡ length other.history → new ≡ other
  joins_one header old new other a b same = λ i. record { header = (a.given ∙ sym b.given) i; history = histories a.history b.history i; failed = (a.failed ∙ sym b.failed) i }
    where
      histories : (new.history ≡ old.history) ⊎ ((entry : E) × (old.failed ≡ Some entry) × (new.history ≡ old.history ++ entry ∷ []))
          → (other.history ≡ old.history) ⊎ ((entry : E) × (old.failed ≡ Some entry) × (other.history ≡ old.history ++ entry ∷ [])) → new.history ≡ other.history
      histories (inl x) (inl y) = x ∙ sym y
      histories (inl x) (inr (entry, is, y)) =
          let l : length old.history ≡ length old.history + 1 = ap length (sym x) ∙ same ∙ ap length y ∙ length-append old.history (entry ∷ []) in absurd (omega (arith, l))
      histories (inr (entry, is, x)) (inl y) =
          let l : length old.history + 1 ≡ length old.history = sym (length-append old.history (entry ∷ [])) ∙ ap length (sym x) ∙ same ∙ ap length y in absurd (omega (arith, l))
      histories (inr (entry, is, x)) (inr (second, also, y)) = x ∙ ap (λ e. old.history ++ e ∷ []) (some_once old.failed entry second is also) ∙ sym y

-- a mounting that is told and didn't fail
abbrev IsFine : Mounting → Type 0
IsFine (Entries count) = Unit {0}
IsFine (Foreign at) = Unit {0}
IsFine DiskFault = ⊥
IsFine Memory = ⊥

module _ {E : Type 0} (header : Header) (old new other : PlainDisk E) where
  -- a mounting that ended so leaves one disk
  mounts_one : (ending second : Mounting) → IsFine ending → ending ≡ second → Mounts header old ending new → Mounts header old second other → new ≡ other
  mounts_one (Entries count) second fine same a b = let b = subst (λ m. Mounts header old m other) (sym same) b in joins_one header old new other a.0 b.0 (sym a.1 ∙ b.1)
  mounts_one (Foreign at) second fine same a b = let b = subst (λ m. Mounts header old m other) (sym same) b in a.1 ∙ sym b.1
  mounts_one DiskFault second fine same a b = absurd fine
  mounts_one Memory second fine same a b = absurd fine

recovery_one : (ending second : Mounting) → plain.IsTold ending → plain.IsTold second → recovery ending ≢ refused_fault → recovery ending ≡ recovery second → IsFine ending × (ending ≡ second)
recovery_one (Entries count) (Entries other) told also quiet e = (tt, (let same : count ≡ other = cc in ap (λ n. Entries n) same))
recovery_one (Entries count) (Foreign at) told also quiet e = absurd (let s = e in cc)
recovery_one (Entries count) DiskFault told also quiet e = absurd (let s = e in cc)
recovery_one (Foreign at) (Entries count) told also quiet e = absurd (let s = e in cc)
recovery_one (Foreign at) (Foreign other) told also quiet e = (tt, (let same : at ≡ other = cc in ap (λ n. Foreign n) same))
recovery_one (Foreign at) DiskFault told also quiet e = absurd (let s = e in cc)
recovery_one DiskFault second told also quiet e = absurd (quiet refl)
recovery_one Memory second told also quiet e = absurd told
recovery_one ending Memory told also quiet e = absurd also

opening_one : (ending second : Mounting) → plain.IsTold ending → plain.IsTold second → opening [] false (ending ∷ []) ≢ refused_fault → opening [] false (ending ∷ []) ≡ opening [] false (second ∷ []) → IsFine ending × (ending ≡ second)
opening_one (Entries count) (Entries other) told also quiet e = (tt, (let same : count ≡ other = cc in ap (λ n. Entries n) same))
opening_one (Entries count) (Foreign at) told also quiet e = absurd (let s = e in cc)
opening_one (Entries count) DiskFault told also quiet e = absurd (let s = e in cc)
opening_one (Foreign at) (Entries count) told also quiet e = absurd (let s = e in cc)
opening_one (Foreign at) (Foreign other) told also quiet e = (tt, (let same : at ≡ other = cc in ap (λ n. Foreign n) same))
opening_one (Foreign at) DiskFault told also quiet e = absurd (let s = e in cc)
opening_one DiskFault second told also quiet e = absurd (quiet refl)
opening_one Memory second told also quiet e = absurd told
opening_one ending Memory told also quiet e = absurd also

-- ---- lines that mount disks

-- what a line does of its own has one outcome, where the reply is the same and tells of no fault
abbrev OneOutcome : Becoming → Type 0
OneOutcome own = (reply second : Reply) (outside images : List (List ℕ)) (new other : Cell) → reply ≢ refused_fault → reply ≡ second → own reply outside new → own second images other → (outside ≡ images) × (new ≡ other)

outcome_unless : (old : Cell) (o : Option Refused) (own : Becoming) → OneOutcome own → OneOutcome (plain.Unless old o own)
outcome_unless old (Some why) own is reply second outside images new other quiet same a b = (a.1 ∙ sym b.1, a.2 ∙ sym b.2)
outcome_unless old None own is reply second outside images new other quiet same a b = is reply second outside images new other quiet same a b

outcome_down : (down : Bool) (old : Cell) (own : Becoming) → OneOutcome own → OneOutcome (UnlessDown down old own)
outcome_down true old own is reply second outside images new other quiet same a b = (a.1 ∙ sym b.1, a.2 ∙ sym b.2)
outcome_down false old own is reply second outside images new other quiet same a b = is reply second outside images new other quiet same a b

recovers_one : {E : Type 0} (payloads : PlainDisk E → Payloads) (old : PlainActor E) (goes : PlainActor E → Cell) → OneOutcome (Recovers payloads old goes)
recovers_one payloads old goes reply second outside images new other quiet same (header, asks, (ending, disk, told, mounts, read, says, none, is)) (header2, asks2, (ending2, disk2, told2, mounts2, read2, says2, none2, is2)) =
    let ends = recovery_one ending ending2 told told2 (λ e. quiet (says ∙ e)) (sym says ∙ same ∙ says2) in
    let asked_one : header ≡ header2 = some_once (asked old.life) header header2 asks asks2 in
    let disks : disk ≡ disk2 = mounts_one header old.disk disk disk2 ending ending2 ends.0 ends.1 mounts (subst (λ h. Mounts h old.disk ending2 disk2) (sym asked_one) mounts2) in (
      none ∙ sym none2,
      is ∙ (λ i. goes (record { disk = disks i; life = recovered_as (asked_one i) (ends.1 i); left = left_after old.left (ends.1 i) })) ∙ sym is2,
    )

at_replica_one : (old : Cell) (o : Option Stand) (server : ℕ) → OneOutcome (AtReplicaOf old o server (Recovers replica_payloads))
at_replica_one old None server reply second outside images new other quiet same a b = absurd a
at_replica_one old (Some at) server reply second outside images new other quiet same a b = recovers_one replica_payloads (old.replicas at.row server) (with_replica old at.row server) reply second outside images new other quiet same a b

client_makes_one : (old : Cell) (client : ℕ) (header : Header) → OneOutcome (MakesClient old client header)
client_makes_one old client header reply second outside images new other quiet same (ending, disk, told, mounts, says, none, is) (ending2, disk2, told2, mounts2, says2, none2, is2) =
    let ends = opening_one ending ending2 told told2 (λ e. quiet (says ∙ e)) (sym says ∙ same ∙ says2) in
    let disks : disk ≡ disk2 = mounts_one header (old.clients client).disk disk disk2 ending ending2 ends.0 ends.1 mounts mounts2 in (
      none ∙ sym none2,
      is ∙ (λ i. plain.with_made (is_others (ends.1 i ∷ [])) old client header.area (made_on false header (old.clients client) (disks i) (ends.1 i))) ∙ sym is2,
    )

-- what becomes of a row whose one disk was mounted
abbrev row_behind : (ℕ → Header) → (ℕ → PlainActor ReplicaEntry) → ℕ → Mounting → PlainDisk ReplicaEntry → ℕ → PlainActor ReplicaEntry
row_behind header old server (Foreign at) disk = old
row_behind header old server ending disk = put old server (made_on false (header server) (old server) disk ending)

record IsRow (header : ℕ → Header) (old : ℕ → PlainActor ReplicaEntry) (server : ℕ) (endings : List Mounting) (new : ℕ → PlainActor ReplicaEntry) : Type 0 where
  ending : Mounting
  told : plain.IsTold ending
  ends : endings ≡ ending ∷ []
  disk : PlainDisk ReplicaEntry
  mounts : Mounts (header server) (old server).disk ending disk
  is : new ≡ row_behind header old server ending disk

row_is : (header : ℕ → Header) (old : ℕ → PlainActor ReplicaEntry) (server : ℕ) (endings : List Mounting) (new : ℕ → PlainActor ReplicaEntry) → MountsRow (is_others endings) header old (server ∷ []) endings new → IsRow header old server endings new
row_is header old server [] new row = absurd row
row_is header old server (Foreign at ∷ []) new row = record { ending = Foreign at; told = tt; ends = refl; disk = (old server).disk; mounts = (row.0, refl); is = row.2 }
row_is header old server (Foreign at ∷ e ∷ rest) new row = absurd (let s = row.1 in cc)
row_is header old server (Entries count ∷ []) new (told, (disk, mounts, (none, is))) = record { ending = Entries count; told = tt; ends = refl; disk = disk; mounts = mounts; is = is }
row_is header old server (Entries count ∷ e ∷ rest) new (told, (disk, mounts, (none, is))) = absurd (let s = none in cc)
row_is header old server (DiskFault ∷ []) new (told, (disk, mounts, (none, is))) = record { ending = DiskFault; told = tt; ends = refl; disk = disk; mounts = mounts; is = is }
row_is header old server (DiskFault ∷ e ∷ rest) new (told, (disk, mounts, (none, is))) = absurd (let s = none in cc)
row_is header old server (Memory ∷ rest) new row = absurd row.0

volume_makes_one : (old : Cell) (volume : ℕ) (servers : List ℕ) (area : ℕ) → is_alone servers ≡ true → OneOutcome (MakesVolume old volume servers area)
volume_makes_one old volume [] area alone reply second outside images new other quiet same a b = absurd (false≢true alone)
volume_makes_one old volume (server ∷ more ∷ servers) area alone reply second outside images new other quiet same a b = absurd (false≢true alone)
volume_makes_one old volume (server ∷ []) area alone reply second outside images new other quiet same (endings, row, mounts, says, none, is) (endings2, row2, mounts2, says2, none2, is2) =
    let header = replica_header volume (server ∷ []) area in
    let first = old.replicas (length old.rows) in
    let a = row_is header first server endings row mounts in
    let b = row_is header first server endings2 row2 mounts2 in
    let says_a = says ∙ ap (opening [] false) a.ends in
    let says_b = says2 ∙ ap (opening [] false) b.ends in
    let ends = opening_one a.ending b.ending a.told b.told (λ e. quiet (says_a ∙ e)) (sym says_a ∙ same ∙ says_b) in
    let disks : a.disk ≡ b.disk = mounts_one (header server) (first server).disk a.disk b.disk a.ending b.ending ends.0 ends.1 a.mounts b.mounts in (
      none ∙ sym none2,
      is ∙ (λ i. plain.with_row (is_others (a.ends i)) old volume (server ∷ []) area (a.is i)) ∙ (λ i. plain.with_row (is_others (ends.1 i ∷ [])) old volume (server ∷ []) area (row_behind header first server (ends.1 i) (disks i)))
          ∙ (λ i. plain.with_row (is_others (sym b.ends i)) old volume (server ∷ []) area (sym b.is i)) ∙ sym is2,
    )

-- ---- every line

-- a line that mounts disks, which are quiet
mounting_one : (old : Cell) (said : Line) → is_built said ≡ true → (own : Becoming) → OneOutcome own → OneOutcome (UnlessDown (is_down_for (needs old said)) old own)
mounting_one old said built own is = outcome_down (is_down_for (needs old said)) old own is

-- a line that acts
acting_one : (down : Bool) (old new other : Cell) (said : Line) (reply second : Reply) (outside images : List (List ℕ)) → reply ≢ refused_fault → second ≢ refused_fault
    → UnlessDown down old (λ reply outside new. (outside ≡ []) × Acts old said reply new) reply outside new → UnlessDown down old (λ reply outside new. (outside ≡ []) × Acts old said reply new) second images other
    → (reply ≡ second) × (outside ≡ images) × (new ≡ other)
acting_one true old new other said reply second outside images quiet also a b = (a.0 ∙ sym b.0, a.1 ∙ sym b.1, a.2 ∙ sym b.2)
acting_one false old new other said reply second outside images quiet also a b =
    let one = acts_one old new other said reply second quiet also a.1 b.1 in (one.0, a.0 ∙ sym b.0, one.1)

-- a line that arms a disk
arming_one : (down : Bool) (o : Option Refused) (old new other : Cell) (reply second : Reply) (outside images : List (List ℕ))
    → UnlessDown down old (plain.Unless old o (plain.Stays old Accepted)) reply outside new → UnlessDown down old (plain.Unless old o (plain.Stays old Accepted)) second images other
    → (reply ≡ second) × (outside ≡ images) × (new ≡ other)
arming_one true o old new other reply second outside images a b = (a.0 ∙ sym b.0, a.1 ∙ sym b.1, a.2 ∙ sym b.2)
arming_one false (Some why) old new other reply second outside images a b = (a.0 ∙ sym b.0, a.1 ∙ sym b.1, a.2 ∙ sym b.2)
arming_one false None old new other reply second outside images a b = (a.0 ∙ sym b.0, a.1 ∙ sym b.1, a.2 ∙ sym b.2)

pub quiet_lines_have_one_outcome : QuietLinesHaveOneOutcome
quiet_lines_have_one_outcome old new other (line.Volume volume servers area) reply second outside images built quiet a b =
    (let one = mounting_one old (line.Volume volume servers area) built _ (outcome_unless old (no_volume old volume (area_of area)) (MakesVolume old volume servers (area_of area)) (volume_makes_one old volume servers (area_of area) built)) reply second outside images new other quiet.0 quiet.1 a b in (quiet.1, one.0, one.1))
quiet_lines_have_one_outcome old new other (line.Client client blocks area) reply second outside images built quiet a b =
    (let one = mounting_one old (line.Client client blocks area) built _ (outcome_unless old (no_client old client (area_of area)) _ (client_makes_one old client (client_header client blocks (area_of area)))) reply second outside images new other quiet.0 quiet.1 a b in (quiet.1, one.0, one.1))
quiet_lines_have_one_outcome old new other (line.RecoverClient client) reply second outside images built quiet a b =
    (let one = mounting_one old (line.RecoverClient client) built _ (outcome_unless old (first_missing (the_client old client).named) _ (recovers_one client_payloads (old.clients client) (with_client old client))) reply second outside images new other quiet.0 quiet.1 a b in (quiet.1, one.0, one.1))
quiet_lines_have_one_outcome old new other (line.RecoverReplica server volume) reply second outside images built quiet a b =
    (let one = mounting_one old (line.RecoverReplica server volume) built _ (outcome_unless old (first_missing (the_replica old server volume).named) _ (at_replica_one old (stand_of old volume) server)) reply second outside images new other quiet.0 quiet.1 a b in (quiet.1, one.0, one.1))
quiet_lines_have_one_outcome old new other (line.CrashClient client choice) reply second outside images built quiet a b = absurd quiet
quiet_lines_have_one_outcome old new other (line.CrashReplica server volume choice) reply second outside images built quiet a b = absurd quiet
quiet_lines_have_one_outcome old new other (line.ArmClient client passes) reply second outside images built quiet a b =
    arming_one (is_down_for (needs old (line.ArmClient client passes))) (first_missing (the_client old client).named) old new other reply second outside images a b
quiet_lines_have_one_outcome old new other (line.ArmReplica server volume passes) reply second outside images built quiet a b =
    arming_one (is_down_for (needs old (line.ArmReplica server volume passes))) (first_missing (the_replica old server volume).named) old new other reply second outside images a b
quiet_lines_have_one_outcome old new other said reply second outside images built quiet a b = acting_one (is_down_for (needs old said)) old new other said reply second outside images quiet.0 quiet.1 a b
