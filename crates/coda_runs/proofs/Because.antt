-- That a line which is no operation, read or listing is refused only for a cause that holds.
use Rattle.std.proofs.Common.{◌≡◌, ℕ, ◌+◌, ◌<◌, ◌≤◌, ◌==◌, ◌&&◌, ◌||◌, not, nat_le, is_some, length, Bool, true, false, cond, List, [], ◌∷◌, Option, Some, None, Result, Ok, Err, refl, sym, ap, subst, ◌∙◌, inl, inr, ◌⊎◌, arith}
use Rattle.std.specs.Prelude.{nat_lt}
use Rattle.std.specs.Option.{option_map_or, unwrap_or}
use Rattle.std.proofs.lemmas.Bool.{eqb-true, eq-eqb, and_parts}
use Rattle.std.proofs.lemmas.Bool.Decides.{nat_tests}
use Rattle.coda_actors.specs.Plain.{PlainDisk, PlainActor, Down, Tries}
use Rattle.coda_actors.specs.declared.slot.Mounting.TheVariants.{Entries, Foreign, DiskFault, Memory}
use Rattle.coda_cancel.specs.Cancel.{fold}
use Rattle.coda_cml.specs.Segments.{segments_of}
use Rattle.coda_cml.proofs.segments.PartedRecords.{segments_part}
use Rattle.coda_fid.specs.declared.op.Record.{Record}
use Rattle.coda_journal.specs.declared.header.Header.{Header}
use Rattle.coda_letters.specs.Sent.{Sent, ChunkSent, AnswerSent, BreakSent, sent_at}
use Rattle.coda_plain.specs.Cell.{ClientEntry}
use Rattle.coda_plain.specs.Decisions.{ReplicaEntry}
use Rattle.coda_record.specs.declared.answer.Answer.{Answer}
use Rattle.coda_record.specs.declared.answer.Answer.TheVariants.{Applied, Conflict, Behind, Old}
use Rattle.coda_replica.specs.Answers.{is_next}
use Rattle.coda_script.specs.declared.line.Line.{Line}
use Rattle.coda_script.specs.declared.line.Line.TheVariants as line
use Rattle.coda_script.specs.declared.line.Strength.{Strength}
use Rattle.coda_script.specs.declared.line.Strength.TheVariants.{Strong, Weak, Down as LinkIsDown}
use Rattle.coda_script.specs.declared.line.Task.{Task}
use Rattle.coda_script.specs.declared.line.Task.TheVariants as task
use Rattle.coda_script.specs.declared.reply.Reply.{Reply}
use Rattle.coda_script.specs.declared.reply.Reply.TheVariants.{Accepted}
use Rattle.coda_cell.specs.Messages.{over, sends_of, ruled_in, reply_taken, taken_in}
use Rattle.coda_cell.specs.Refused.{Refused, NoSuchActor}
use Rattle.coda_cell.specs.Refusing.{refusal}
use Rattle.coda_cell.specs.Sending.{Freezing, freezing, ruling_of, Taking, taking}
use Rattle.coda_cell.specs.State.{ClientVolume, ReplicaState, Event}
use Rattle.coda_cell.specs.Steps.{Doing, Unless, Named, client_named, volume_named, server_named, holder_named, on_volume, on_holder, first_missing, no_room, link_down, reply_to, ByBoth, BySend, ByRuling, ByTaking, Comes, Delivers, Loses, Does, DoesTask}
use Rattle.coda_cell.proofs.Events.{all_there}
use Rattle.coda_cell.proofs.Families.{put_here}
use Rattle.coda_shelves.specs.Cells.{Cell, Stand, asked, stand_of, state_of, with_client, with_replica, after_all}
use Rattle.coda_shelves.specs.Lines.{Becoming, Stays, Unless as UnlessIn, UnlessDown, Needs, needs, receiver, is_cut, is_down_for, client_down, replica_down, is_built, EndsBy, Lacks, client_payloads, replica_payloads, the_client, the_replica, area_of, MakesVolume, MakesClient, Crashes, Recovers, AtReplicaOf, DoesUp, Happens, meets, refused_down}
use Rattle.coda_shelves.specs.Shelves.{client_header, replica_header}
use Rattle.coda_runs.specs.Because.{IsRefused, IsOther, all_names, names_of, names_in, HoldsNot, NeedsClient, NeedsReplica, GoesOver, Sends, Has, Because, NoClient, NoVolume, NoServer, ClientIsThere, VolumeIsThere, ClientHasNoRoom, VolumeHasNoRoom, ClientIsDown, ReplicaIsDown, LinkCarriesNothing, NoLetter, IsFrozenFor, NothingIsLeft, IsYoung, NoChunkIsLeft, ChunkIsTooHigh, LetterIsTooHigh, NoneIsFrozen, AnotherIsFrozen, JournalIsFull, AppendFailed, ClientDiskIsOthers, ReplicaDiskIsOthers, ClientDiskFailed, ReplicaDiskFailed, EveryRefusalHasItsCause}
use Rattle.coda_runs.proofs.Unlettered.{is_acting}
use Rattle.coda_runs.proofs.Reasons.{EachGone, gone_of, client_gone, volume_gone, holder_gone, server_gone, client_fell, replica_fell, Unfrozen, IsElsewhere, HasNothing, HasYoung, HasAll, MayGo, may_go, none_left, Untaken, IsThawed, IsAnother, untaken, Undrained, IsCutOff, IsUnfrozen, IsTooHigh, drain_why}

module _ (old new : Cell) (reply : Reply) (isnt : IsRefused reply) where
  abbrev Is : Line → Type 0
  Is said = Because old said reply new

  abbrev By : Line → Refused → Type 0
  By said why = reply ≡ refusal why → Is said

  -- ---- actors that aren't there

  client_by : (said : Line) (client : ℕ) → (names_in old said).client ≡ Some client → (client_named (state_of old) client).there ≡ false → By said (NoSuchActor client)
  client_by said client named gone says = NoClient client named (client_gone old client gone) says

  volume_by : (said : Line) (volume : ℕ) → (names_in old said).volume ≡ Some volume → (volume_named (state_of old) volume).there ≡ false → By said (NoSuchActor volume)
  volume_by said volume named gone says = NoVolume volume named (volume_gone old volume gone) says

  server_by : (said : Line) (server : ℕ) (o : Option ℕ) → (names_in old said).server ≡ Some server → (names_in old said).volume ≡ o → HoldsNot old server o → By said (NoSuchActor server)
  server_by said server o named on holds says = NoServer server named (subst (HoldsNot old server) (sym on) holds) says

  all_by : (said : Line) (client volume server : ℕ) → names_in old said ≡ all_names client volume server → EachGone (By said) (on_holder (state_of old) client volume server)
  all_by said client volume server is = (
    client_by said client (ap (λ n. n.client) is),
    (
      volume_by said volume (ap (λ n. n.volume) is),
      ((λ gone. server_by said server (Some volume) (ap (λ n. n.server) is) (ap (λ n. n.volume) is) (holder_gone old server volume gone)), tt),
    ),
  )

  unless_is : (said : Line) (ns : List Named) (own : Doing) (events : List Event) → EachGone (By said) ns → (first_missing ns ≡ None → own reply events → Is said) → Unless (first_missing ns) own reply events → Is said
  unless_is said ns own events gone rest does = by (first_missing ns) refl does
    where
      by : (o : Option Refused) → first_missing ns ≡ o → Unless o own reply events → Is said
      by (Some why) e d = gone_of (By said) ns why e gone d.0
      by None e d = rest e d

  unless_in : (said : Line) (ns : List Named) (own : Becoming) (outside : List (List ℕ)) → EachGone (By said) ns → (own reply outside new → Is said) → UnlessIn old (first_missing ns) own reply outside new → Is said
  unless_in said ns own outside gone rest does = by (first_missing ns) refl does
    where
      by : (o : Option Refused) → first_missing ns ≡ o → UnlessIn old o own reply outside new → Is said
      by (Some why) e d = gone_of (By said) ns why e gone d.0
      by None e d = rest d

  -- ---- logs

  unfrozen_is : (said : Line) (client volume server window : ℕ) (v : ClientVolume) (why : Refused) → Sends said client volume server window → Has old client volume v → Unfrozen old.clock window server v why → By said why
  unfrozen_is said client volume server window v why sends has (IsElsewhere chunk e off is) says = IsFrozenFor client volume server window v chunk sends has e off (says ∙ ap refusal is)
  unfrozen_is said client volume server window v why sends has (HasNothing e empty is) says = NothingIsLeft client volume server window v sends has e empty (λ rising. none_left (segments_of v.back) (fold v.back) (segments_part v.back rising) empty) (says ∙ ap refusal is)
  unfrozen_is said client volume server window v why sends has (HasYoung segment e first young is) says = IsYoung client volume server window v segment sends has e first young (says ∙ ap refusal is)
  unfrozen_is said client volume server window v why sends has (HasAll many is) says = NoChunkIsLeft client volume server window v sends has many (says ∙ ap refusal is)

  undrained_is : (said : Line) (client volume server window : ℕ) (v : ClientVolume) (why : Refused) → Sends said client volume server window → GoesOver old said client server → Has old client volume v
      → Undrained (old.links client server) old.clock window server v why → By said why
  undrained_is said client volume server window v why sends goes has (IsCutOff down is) says = LinkCarriesNothing client server goes down (says ∙ ap refusal is)
  undrained_is said client volume server window v why sends goes has (IsUnfrozen u) says = unfrozen_is said client volume server window v why sends has u says
  undrained_is said client volume server window v why sends goes has (IsTooHigh chunk e high is) says = ChunkIsTooHigh client volume server window v chunk sends has e high (says ∙ ap refusal is)

  -- the server of a replica that is named
  its_server : (server volume : ℕ) (r : ReplicaState) → (holder_named (state_of old) server volume).there ≡ true → (state_of old).replicas volume ≡ Some r → r.server ≡ server
  its_server server volume r there is = eqb-true r.server server (sym (ap (λ o. option_map_or (λ (x : ReplicaState). x.server == server) o false) is) ∙ there)

  drain_is : (client volume server : ℕ) (given : Option ℕ) (events : List Event) → (holder_named (state_of old) server volume).there ≡ true → ByBoth (state_of old) client volume (unwrap_or given 600) reply events
      → Is (line.Task (task.Drain client volume server given))
  drain_is client volume server given events there did =
      let window = unwrap_or given 600 in
      let v = did.client.volumes volume in
      let its = its_server server volume did.replica there did.replica_there in
      let w = drain_why (old.links client did.replica.server) old.clock window client volume v did.replica reply isnt did.answered in
      undrained_is (line.Task (task.Drain client volume server given)) client volume server window v w.0 (refl, refl, refl, refl) (refl, refl) (did.client, did.client_there, refl)
      (subst (λ n. Undrained (old.links client n) old.clock window n v w.0) its w.2) w.1

  send_is : (client volume server : ℕ) (given : Option ℕ) (events : List Event) → BySend (state_of old) client volume server (unwrap_or given 600) reply events → Is (line.Send client volume server given)
  send_is client volume server given events did =
      let window = unwrap_or given 600 in
      let v = did.client.volumes volume in
      by window v (did.client, did.there, refl) refl (old.links client server) refl (freezing old.clock window server v) (may_go old.clock window server v) did.answered
    where
      by : (window : ℕ) (v : ClientVolume) → Has old client volume v → unwrap_or given 600 ≡ window → (strength : Strength) → old.links client server ≡ strength → (o : Result Freezing Refused) → MayGo old.clock window server v o
          → (let said = (sends_of (state_of old) client volume server (over strength o)).said in reply ≡ reply_to said) → Is (line.Send client volume server given)
      by window v has is Strong e (Err why) may says = unfrozen_is (line.Send client volume server given) client volume server window v why (refl, refl, refl, is) has may says
      by window v has is Strong e (Ok f) may says = absurd (subst IsRefused says isnt)
      by window v has is Weak e (Err why) may says = unfrozen_is (line.Send client volume server given) client volume server window v why (refl, refl, refl, is) has may says
      by window v has is Weak e (Ok f) may says = absurd (subst IsRefused says isnt)
      by window v has is LinkIsDown e o may says = LinkCarriesNothing client server (refl, refl) e says

  -- ---- letters

  ruled_is : (message client server volume number : ℕ) (span : List Record) (r : ReplicaState) → sent_at message old.waiting ≡ Some (ChunkSent client server volume number span) → (next full : Bool) → nat_lt 4294967295 number ≡ full
      → reply ≡ reply_to (ruled_in (state_of old) client server volume number (ruling_of next full client number span r)).said → Is (line.Deliver message)
  ruled_is message client server volume number span r e true true high says = LetterIsTooHigh message client server volume number span refl e (grind (arith, nat_tests, high)) says
  ruled_is message client server volume number span r e true false high says = absurd (subst IsRefused says isnt)
  ruled_is message client server volume number span r e false full high says = absurd (subst IsRefused says isnt)

  whole_taken : (number : ℕ) (answer : Answer) → reply ≡ reply_taken number answer → ⊥
  whole_taken number Applied says = subst IsRefused says isnt
  whole_taken number (Conflict refused why) says = subst IsRefused says isnt
  whole_taken number (Behind last) says = subst IsRefused says isnt
  whole_taken number (Old last) says = subst IsRefused says isnt

  untaken_is : (message server client volume number : ℕ) (answer : Answer) (v : ClientVolume) (why : Refused) → sent_at message old.waiting ≡ Some (AnswerSent server client volume number answer) → Has old client volume v → Untaken number v why
      → By (line.Deliver message) why
  untaken_is message server client volume number answer v why e has (IsThawed none is) says = NoneIsFrozen message server client volume number answer v refl e has none (says ∙ ap refusal is)
  untaken_is message server client volume number answer v why e has (IsAnother chunk some other is) says = AnotherIsFrozen message server client volume number answer v chunk refl e has some other (says ∙ ap refusal is)

  taken_is : (message server client volume number : ℕ) (answer : Answer) (v : ClientVolume) → sent_at message old.waiting ≡ Some (AnswerSent server client volume number answer) → Has old client volume v
      → (o : Result Taking Refused) → taking number answer v ≡ o → reply ≡ reply_to (taken_in client volume number answer o).said → Is (line.Deliver message)
  taken_is message server client volume number answer v e has (Err why) is says = untaken_is message server client volume number answer v why e has (untaken number answer v why is) says
  taken_is message server client volume number answer v e has (Ok took) is says = absurd (whole_taken number answer says)

  over_is : (said : Line) (client server : ℕ) (own : Doing) (events : List Event) → GoesOver old said client server → (own reply events → Is said) → Unless (link_down (old.links client server)) own reply events → Is said
  over_is said client server own events goes rest does = by (old.links client server) refl does
    where
      by : (strength : Strength) → old.links client server ≡ strength → Unless (link_down strength) own reply events → Is said
      by Strong e d = rest d
      by Weak e d = rest d
      by LinkIsDown e d = LinkCarriesNothing client server goes e d.0

  delivered_is : (message : ℕ) (events : List Event) (o : Option Sent) → sent_at message old.waiting ≡ o → Delivers (state_of old) message o reply events → Is (line.Deliver message)
  delivered_is message events None e does = NoLetter message refl e does.0
  delivered_is message events (Some (ChunkSent client server volume number span)) e does =
      over_is (line.Deliver message) client server (Comes (state_of old) (ChunkSent client server volume number span)) events (inl (volume, number, span, e))
      (λ comes. unless_is (line.Deliver message) (on_holder (state_of old) client volume server) (ByRuling (state_of old) client server volume number span) events (all_by (line.Deliver message) client volume server (ap names_of e))
      (λ all did. ruled_is message client server volume number span did.replica e (is_next (did.replica.lasts client) number) (nat_lt 4294967295 number) refl did.answered) comes) does
  delivered_is message events (Some (AnswerSent server client volume number answer)) e does =
      over_is (line.Deliver message) client server (Comes (state_of old) (AnswerSent server client volume number answer)) events (inr (inl (volume, number, answer, e)))
      (λ comes. unless_is (line.Deliver message) (on_holder (state_of old) client volume server) (ByTaking (state_of old) client volume number answer) events (all_by (line.Deliver message) client volume server (ap names_of e))
      (λ all did. taken_is message server client volume number answer (did.client.volumes volume) e (did.client, did.there, refl) (taking number answer (did.client.volumes volume)) refl did.answered) comes) does
  delivered_is message events (Some (BreakSent server client volume fids)) e does =
      over_is (line.Deliver message) client server (Comes (state_of old) (BreakSent server client volume fids)) events (inr (inr (volume, fids, e)))
      (λ comes. unless_is (line.Deliver message) (on_holder (state_of old) client volume server) _ events (all_by (line.Deliver message) client volume server (ap names_of e))
      (λ all did. absurd (subst IsRefused did.0 isnt)) comes) does

  lost_is : (message : ℕ) (events : List Event) (o : Option Sent) → sent_at message old.waiting ≡ o → Loses message o reply events → Is (line.Lose message)
  lost_is message events None e does = NoLetter message refl e does.0
  lost_is message events (Some sent) e does = absurd (subst IsRefused does.0 isnt)

  -- ---- lines that act

  task_is : (t : Task) (events : List Event) → IsOther (line.Task t) → DoesTask (state_of old) t reply events → Is (line.Task t)
  task_is (task.Drain client volume server given) events other does =
      let said = line.Task (task.Drain client volume server given) in
      unless_is said (on_holder (state_of old) client volume server) (ByBoth (state_of old) client volume (unwrap_or given 600)) events (all_by said client volume server refl)
      (λ all did. drain_is client volume server given events (all_there (client_named (state_of old) client) (volume_named (state_of old) volume) (holder_named (state_of old) server volume) all).2 did) does
  task_is (task.Create c v path mode owner) events other does = cc
  task_is (task.Mkdir c v path mode owner) events other does = cc
  task_is (task.Symlink c v path target) events other does = cc
  task_is (task.Store c v path content) events other does = cc
  task_is (task.Setattr c v path attrs) events other does = cc
  task_is (task.Remove c v path) events other does = cc
  task_is (task.Rmdir c v path) events other does = cc
  task_is (task.Rename c v from to) events other does = cc
  task_is (task.Read c v path) events other does = cc
  task_is (task.List c v path) events other does = cc
  task_is (task.Hardlink c v from to) events other does = absurd does
  task_is (task.Refresh c v server) events other does = absurd does
  task_is (task.Giveup c v) events other does = absurd does

  holder_by : (said : Line) (server volume : ℕ) → names_in old said ≡ record { client = None; volume = Some volume; server = Some server } → EachGone (By said) (holder_named (state_of old) server volume ∷ [])
  holder_by said server volume is = ((λ gone. server_by said server (Some volume) (ap (λ n. n.server) is) (ap (λ n. n.volume) is) (holder_gone old server volume gone)), tt)

  one_by : (said : Line) (client : ℕ) → (names_in old said).client ≡ Some client → EachGone (By said) (client_named (state_of old) client ∷ [])
  one_by said client is = (client_by said client is, tt)

  acting_is : (said : Line) (events : List Event) → is_acting said ≡ true → IsOther said → Does (meets old said) said reply events → Is said
  acting_is (line.Link client server strength) events acting other does =
      let said = line.Link client server strength in
      unless_is said (client_named (state_of old) client ∷ server_named (state_of old) server ∷ []) _ events
      (client_by said client refl, ((λ gone. server_by said server None refl refl (server_gone old server gone)), tt)) (λ all did. absurd (subst IsRefused did.0 isnt)) does
  acting_is (line.Tick seconds) events acting other does = absurd (subst IsRefused does.0 isnt)
  acting_is (line.Task (task.Drain client volume server given)) events acting other does = task_is (task.Drain client volume server given) events other does
  acting_is (line.Task (task.Hardlink c v from to)) events acting other does = absurd does
  acting_is (line.Task (task.Refresh c v server)) events acting other does = absurd does
  acting_is (line.Task (task.Giveup c v)) events acting other does = absurd does
  acting_is (line.Task t) events acting other does = cc
  acting_is (line.ShowVolume server volume) events acting other does =
      unless_is (line.ShowVolume server volume) (holder_named (state_of old) server volume ∷ []) _ events (holder_by (line.ShowVolume server volume) server volume refl) (λ all did. absurd (subst IsRefused did.0 isnt)) does
  acting_is (line.ShowLog client volume) events acting other does =
      let said = line.ShowLog client volume in
      unless_is said (on_volume (state_of old) client volume) _ events (client_by said client refl, (volume_by said volume refl, tt)) (λ all did. absurd (subst IsRefused did.0 isnt)) does
  acting_is (line.ShowState client volume) events acting other does =
      let said = line.ShowState client volume in
      unless_is said (on_volume (state_of old) client volume) _ events (client_by said client refl, (volume_by said volume refl, tt)) (λ all did. absurd (subst IsRefused did.answered isnt)) does
  acting_is (line.Send client volume server given) events acting other does =
      let said = line.Send client volume server given in
      unless_is said (on_holder (state_of old) client volume server) (BySend (state_of old) client volume server (unwrap_or given 600)) events (all_by said client volume server refl)
      (λ all did. send_is client volume server given events did) does
  acting_is (line.Deliver message) events acting other does = delivered_is message events (sent_at message old.waiting) refl does
  acting_is (line.Lose message) events acting other does = lost_is message events (sent_at message old.waiting) refl does
  acting_is (line.Volume volume servers area) events acting other does = cc
  acting_is (line.Client client blocks area) events acting other does = cc
  acting_is _ events acting other does = absurd does

  ends_is : (said : Line) (own : Reply) (events : List Event) → is_acting said ≡ true → IsOther said → Does (meets old said) said own events → EndsBy old events own reply new → Is said
  ends_is said own events acting other does (inl all) = acting_is said events acting other (subst (λ r. Does (meets old said) said r events) (sym all.1) does)
  ends_is said own events acting other does (inr (inl (stop, fits, lacks, says, is))) =
      JournalIsFull stop.next (record { own = own; events = events; does = does; stop = stop; is = refl; behind = is }) (subst (λ c. Lacks c stop.next) (sym is) lacks) says
  ends_is said own events acting other does (inr (inr (stop, fits, says, is))) =
      AppendFailed (after_all old stop.done) stop.next (record { own = own; events = events; does = does; stop = stop; is = refl; behind = refl }) is says

  -- ---- actors that are down

  client_is_down : (said : Line) (client : ℕ) → NeedsClient old said client → client_down old client ≡ true → reply ≡ refused_down → Is said
  client_is_down said client needed down says = (let fell = client_fell old client down in ClientIsDown client fell.0 needed fell.1 fell.2 says)

  replica_is_down : (said : Line) (server volume : ℕ) → NeedsReplica old said server volume → replica_down old server volume ≡ true → reply ≡ refused_down → Is said
  replica_is_down said server volume needed down says = (let fell = replica_fell old server volume down in ReplicaIsDown server volume fell.0 needed fell.1 fell.2 says)

  one_down : (n : Needs) → is_down_for n ≡ true → n.down ≡ true
  one_down n down = (and_parts (not (is_some (first_missing n.named))) n.down down).1

  receiver_is_down : (message : ℕ) (o : Option Sent) → sent_at message old.waiting ≡ o → is_down_for (receiver old o) ≡ true → reply ≡ refused_down → Is (line.Deliver message)
  receiver_is_down message None e down says = cc
  receiver_is_down message (Some (ChunkSent client server volume number span)) e down says =
      replica_is_down (line.Deliver message) server volume (client, number, span, e)
      (and_parts (not (is_cut (old.links client server))) (replica_down old server volume) (one_down (receiver old (Some (ChunkSent client server volume number span))) down)).1 says
  receiver_is_down message (Some (AnswerSent server client volume number answer)) e down says =
      client_is_down (line.Deliver message) client (inl (server, volume, number, answer, e))
      (and_parts (not (is_cut (old.links client server))) (client_down old client) (one_down (receiver old (Some (AnswerSent server client volume number answer))) down)).1 says
  receiver_is_down message (Some (BreakSent server client volume fids)) e down says =
      client_is_down (line.Deliver message) client (inr (server, volume, fids, e))
      (and_parts (not (is_cut (old.links client server))) (client_down old client) (one_down (receiver old (Some (BreakSent server client volume fids))) down)).1 says

  drain_is_down : (client volume server : ℕ) (given : Option ℕ) (a b : Bool) → client_down old client ≡ a → replica_down old server volume ≡ b → (a || b) ≡ true → reply ≡ refused_down → Is (line.Task (task.Drain client volume server given))
  drain_is_down client volume server given true b fell other one says = client_is_down (line.Task (task.Drain client volume server given)) client refl fell says
  drain_is_down client volume server given false true up fell one says = replica_is_down (line.Task (task.Drain client volume server given)) server volume (refl, refl) fell says
  drain_is_down client volume server given false false up fell one says = cc

  down_is : (said : Line) → IsOther said → is_down_for (needs old said) ≡ true → reply ≡ refused_down → Is said
  down_is (line.Link client server strength) other down says = client_is_down (line.Link client server strength) client refl (one_down (needs old (line.Link client server strength)) down) says
  down_is (line.Task (task.Drain client volume server given)) other down says =
      drain_is_down client volume server given (client_down old client) (replica_down old server volume) refl refl (one_down (needs old (line.Task (task.Drain client volume server given))) down) says
  down_is (line.Task (task.Hardlink c v from to)) other down says = cc
  down_is (line.Task (task.Refresh c v server)) other down says = cc
  down_is (line.Task (task.Giveup c v)) other down says = cc
  down_is (line.Task t) other down says = cc
  down_is (line.ShowVolume server volume) other down says = replica_is_down (line.ShowVolume server volume) server volume (refl, refl) (one_down (needs old (line.ShowVolume server volume)) down) says
  down_is (line.ShowLog client volume) other down says = client_is_down (line.ShowLog client volume) client refl (one_down (needs old (line.ShowLog client volume)) down) says
  down_is (line.ShowState client volume) other down says = client_is_down (line.ShowState client volume) client refl (one_down (needs old (line.ShowState client volume)) down) says
  down_is (line.Send client volume server given) other down says = client_is_down (line.Send client volume server given) client refl (one_down (needs old (line.Send client volume server given)) down) says
  down_is (line.Deliver message) other down says = receiver_is_down message (sent_at message old.waiting) refl down says
  down_is (line.ArmClient client passes) other down says = client_is_down (line.ArmClient client passes) client refl (one_down (needs old (line.ArmClient client passes)) down) says
  down_is (line.ArmReplica server volume passes) other down says = replica_is_down (line.ArmReplica server volume passes) server volume (refl, refl) (one_down (needs old (line.ArmReplica server volume passes)) down) says
  down_is _ other down says = cc

  -- ---- lines that make actors

  abbrev client_headed : ℕ → ℕ → Option ℕ → Header
  client_headed client blocks area = client_header client blocks (area_of area)

  client_made : (client blocks : ℕ) (area : Option ℕ) (outside : List (List ℕ)) → MakesClient old client (client_headed client blocks area) reply outside new → Is (line.Client client blocks area)
  client_made client blocks area outside (Entries count, disk, told, mounts, says, out, is) = absurd (subst IsRefused says isnt)
  client_made client blocks area outside (Foreign at, disk, told, mounts, says, out, is) = ClientDiskIsOthers client at (client_headed client blocks area) (refl, refl) mounts.0 says
  client_made client blocks area outside (DiskFault, disk, told, mounts, says, out, is) =
      let actor : PlainActor ClientEntry = record { disk = disk; life = Down (client_headed client blocks area); left = None } in
      let there : new.clients client ≡ actor = ap (λ (c : Cell). c.clients client) is ∙ put_here old.clients client actor in
      ClientDiskFailed client (client_headed client blocks area) (refl, refl) (subst (λ (d : PlainDisk ClientEntry). Tries (client_headed client blocks area) (old.clients client).disk d) (sym (ap (λ (a : PlainActor ClientEntry). a.disk) there)) mounts)
      (ap (λ (a : PlainActor ClientEntry). a.life) there) says
  client_made client blocks area outside (Memory, disk, told, mounts, says, out, is) = absurd told

  volume_made : (volume server : ℕ) (area : Option ℕ) (outside : List (List ℕ)) → MakesVolume old volume (server ∷ []) (area_of area) reply outside new → Is (line.Volume volume (server ∷ []) area)
  volume_made volume server area outside ([], row, mounts, says, out, is) = absurd mounts
  volume_made volume server area outside (Foreign at ∷ endings, row, mounts, says, out, is) =
      ReplicaDiskIsOthers (length old.rows) server at (replica_header volume (server ∷ []) (area_of area) server) (refl, inl refl, refl) mounts.0 says
  volume_made volume server area outside (Entries count ∷ [], row, mounts, says, out, is) = absurd (subst IsRefused says isnt)
  volume_made volume server area outside (Entries count ∷ e ∷ endings, row, (told, (disk, m, rest)), says, out, is) = (let no = rest.0 in cc)
  volume_made volume server area outside (DiskFault ∷ [], row, (told, (disk, tries, rest)), says, out, is) =
      let header = replica_header volume (server ∷ []) (area_of area) server in
      let place = length old.rows in
      let actor : PlainActor ReplicaEntry = record { disk = disk; life = Down header; left = None } in
      let there : new.replicas place server ≡ actor = ap (λ (c : Cell). c.replicas place server) is ∙ ap (λ (f : ℕ → PlainActor ReplicaEntry). f server) (put_here old.replicas place row)
      ∙ ap (λ (f : ℕ → PlainActor ReplicaEntry). f server) rest.1 ∙ put_here (old.replicas place) server actor in
      ReplicaDiskFailed place server header (refl, inl refl, refl) (subst (λ (d : PlainDisk ReplicaEntry). Tries header (old.replicas place server).disk d) (sym (ap (λ (a : PlainActor ReplicaEntry). a.disk) there)) tries)
      (ap (λ (a : PlainActor ReplicaEntry). a.life) there) says
  volume_made volume server area outside (DiskFault ∷ e ∷ endings, row, (told, (disk, m, rest)), says, out, is) = (let no = rest.0 in cc)
  volume_made volume server area outside (Memory ∷ endings, row, mounts, says, out, is) = absurd mounts.0

  new_client : (client blocks : ℕ) (area : Option ℕ) (outside : List (List ℕ)) → (o : Option Header) → asked (old.clients client).life ≡ o → (full : Bool) → nat_lt 512 (old.areas + area_of area) ≡ full
      → UnlessIn old (no_room (is_some o) full) (MakesClient old client (client_headed client blocks area)) reply outside new → Is (line.Client client blocks area)
  new_client client blocks area outside (Some header) e full is does = ClientIsThere client blocks area header refl e does.0
  new_client client blocks area outside None e true is does = ClientHasNoRoom client blocks area refl (grind (arith, nat_tests, is)) does.0
  new_client client blocks area outside None e false is does = client_made client blocks area outside does

  no_row : (area : ℕ) (a b : Bool) → nat_le 64 (length old.rows) ≡ a → nat_lt 512 (old.areas + area) ≡ b → (a || b) ≡ true → (64 ≤ length old.rows) ⊎ (512 < old.areas + area)
  no_row area true b many big one = inl (grind (arith, nat_tests, many))
  no_row area false true few big one = inr (grind (arith, nat_tests, big))
  no_row area false false few small one = cc

  new_volume : (volume server : ℕ) (area : Option ℕ) (outside : List (List ℕ)) → (o : Option Stand) → stand_of old volume ≡ o → (full : Bool) → (nat_le 64 (length old.rows) || nat_lt 512 (old.areas + area_of area)) ≡ full
      → UnlessIn old (no_room (is_some o) full) (MakesVolume old volume (server ∷ []) (area_of area)) reply outside new → Is (line.Volume volume (server ∷ []) area)
  new_volume volume server area outside (Some at) e full is does = VolumeIsThere volume (server ∷ []) area at refl e does.0
  new_volume volume server area outside None e true is does =
      VolumeHasNoRoom volume (server ∷ []) area refl (no_row (area_of area) (nat_le 64 (length old.rows)) (nat_lt 512 (old.areas + area_of area)) refl refl is) does.0
  new_volume volume server area outside None e false is does = volume_made volume server area outside does

  -- ---- recoveries

  client_back : (client : ℕ) (outside : List (List ℕ)) → Recovers client_payloads (old.clients client) (with_client old client) reply outside new → Is (line.RecoverClient client)
  client_back client outside (header, asks, (Entries count, disk, told, mounts, from, says, out, is)) = absurd (subst IsRefused says isnt)
  client_back client outside (header, asks, (Foreign at, disk, told, mounts, from, says, out, is)) = ClientDiskIsOthers client at header (refl, asks) mounts.0 says
  client_back client outside (header, asks, (DiskFault, disk, told, mounts, from, says, out, is)) =
      let actor : PlainActor ClientEntry = record { disk = disk; life = Down header; left = (old.clients client).left } in
      let there : new.clients client ≡ actor = ap (λ (c : Cell). c.clients client) is ∙ put_here old.clients client actor in
      ClientDiskFailed client header (refl, asks) (subst (λ (d : PlainDisk ClientEntry). Tries header (old.clients client).disk d) (sym (ap (λ (a : PlainActor ClientEntry). a.disk) there)) mounts)
      (ap (λ (a : PlainActor ClientEntry). a.life) there) says
  client_back client outside (header, asks, (Memory, disk, told, mounts, from, says, out, is)) = absurd told

  place_here : (row server : ℕ) (actor : PlainActor ReplicaEntry) → (with_replica old row server actor).replicas row server ≡ actor
  place_here row server actor = λ i. cond ((eq-eqb row row refl i) && (eq-eqb server server refl i)) actor (old.replicas row server)

  replica_back : (server volume : ℕ) (outside : List (List ℕ)) (o : Option Stand) → stand_of old volume ≡ o → AtReplicaOf old o server (Recovers replica_payloads) reply outside new → Is (line.RecoverReplica server volume)
  replica_back server volume outside None e does = absurd does
  replica_back server volume outside (Some at) e (header, asks, (Entries count, disk, told, mounts, from, says, out, is)) = absurd (subst IsRefused says isnt)
  replica_back server volume outside (Some at) e (header, asks, (Foreign place, disk, told, mounts, from, says, out, is)) =
      ReplicaDiskIsOthers at.row server place header (refl, (at, e, refl), asks) mounts.0 says
  replica_back server volume outside (Some at) e (header, asks, (DiskFault, disk, told, mounts, from, says, out, is)) =
      let actor : PlainActor ReplicaEntry = record { disk = disk; life = Down header; left = (old.replicas at.row server).left } in
      let there : new.replicas at.row server ≡ actor = ap (λ (c : Cell). c.replicas at.row server) is ∙ place_here at.row server actor in
      ReplicaDiskFailed at.row server header (refl, (at, e, refl), asks) (subst (λ (d : PlainDisk ReplicaEntry). Tries header (old.replicas at.row server).disk d) (sym (ap (λ (a : PlainActor ReplicaEntry). a.disk) there)) mounts)
      (ap (λ (a : PlainActor ReplicaEntry). a.life) there) says
  replica_back server volume outside (Some at) e (header, asks, (Memory, disk, told, mounts, from, says, out, is)) = absurd told

  replica_crashes : (server volume : ℕ) (outside : List (List ℕ)) (o : Option Stand) (said : Line) → AtReplicaOf old o server (Crashes replica_payloads) reply outside new → Is said
  replica_crashes server volume outside None said does = absurd does
  replica_crashes server volume outside (Some at) said (header, asks, (image, may, says, out, is)) = absurd (subst IsRefused says isnt)

  client_crashes : (client : ℕ) (outside : List (List ℕ)) (said : Line) → Crashes client_payloads (old.clients client) (with_client old client) reply outside new → Is said
  client_crashes client outside said (header, asks, (image, may, says, out, is)) = absurd (subst IsRefused says isnt)

  -- ---- every line

  up_is : (said : Line) (outside : List (List ℕ)) → is_built said ≡ true → IsOther said → DoesUp old said reply outside new → Is said
  up_is (line.Volume volume [] area) outside built other does = cc
  up_is (line.Volume volume (server ∷ []) area) outside built other does = new_volume volume server area outside (stand_of old volume) refl (nat_le 64 (length old.rows) || nat_lt 512 (old.areas + area_of area)) refl does
  up_is (line.Volume volume (server ∷ more ∷ servers) area) outside built other does = cc
  up_is (line.Client client blocks area) outside built other does = new_client client blocks area outside (asked (old.clients client).life) refl (nat_lt 512 (old.areas + area_of area)) refl does
  up_is (line.CrashClient client choice) outside built other does =
      unless_in (line.CrashClient client choice) (the_client old client).named (Crashes client_payloads (old.clients client) (with_client old client)) outside (one_by (line.CrashClient client choice) client refl)
      (client_crashes client outside (line.CrashClient client choice)) does
  up_is (line.CrashReplica server volume choice) outside built other does =
      unless_in (line.CrashReplica server volume choice) (the_replica old server volume).named (AtReplicaOf old (stand_of old volume) server (Crashes replica_payloads)) outside
      (holder_by (line.CrashReplica server volume choice) server volume refl) (replica_crashes server volume outside (stand_of old volume) (line.CrashReplica server volume choice)) does
  up_is (line.RecoverClient client) outside built other does =
      unless_in (line.RecoverClient client) (the_client old client).named (Recovers client_payloads (old.clients client) (with_client old client)) outside (one_by (line.RecoverClient client) client refl) (client_back client outside) does
  up_is (line.RecoverReplica server volume) outside built other does =
      unless_in (line.RecoverReplica server volume) (the_replica old server volume).named (AtReplicaOf old (stand_of old volume) server (Recovers replica_payloads)) outside
      (holder_by (line.RecoverReplica server volume) server volume refl) (replica_back server volume outside (stand_of old volume) refl) does
  up_is (line.ArmClient client passes) outside built other does =
      unless_in (line.ArmClient client passes) (the_client old client).named (Stays old Accepted) outside (one_by (line.ArmClient client passes) client refl) (λ did. absurd (subst IsRefused did.0 isnt)) does
  up_is (line.ArmReplica server volume passes) outside built other does =
      unless_in (line.ArmReplica server volume passes) (the_replica old server volume).named (Stays old Accepted) outside (holder_by (line.ArmReplica server volume passes) server volume refl) (λ did. absurd (subst IsRefused did.0 isnt)) does
  up_is (line.Link client server strength) outside built other (out, acts) = ends_is (line.Link client server strength) acts.own acts.events refl other acts.does acts.ends
  up_is (line.Tick seconds) outside built other (out, acts) = ends_is (line.Tick seconds) acts.own acts.events refl other acts.does acts.ends
  up_is (line.Task t) outside built other (out, acts) = ends_is (line.Task t) acts.own acts.events refl other acts.does acts.ends
  up_is (line.ShowVolume server volume) outside built other (out, acts) = ends_is (line.ShowVolume server volume) acts.own acts.events refl other acts.does acts.ends
  up_is (line.ShowLog client volume) outside built other (out, acts) = ends_is (line.ShowLog client volume) acts.own acts.events refl other acts.does acts.ends
  up_is (line.ShowState client volume) outside built other (out, acts) = ends_is (line.ShowState client volume) acts.own acts.events refl other acts.does acts.ends
  up_is (line.Send client volume server given) outside built other (out, acts) = ends_is (line.Send client volume server given) acts.own acts.events refl other acts.does acts.ends
  up_is (line.Deliver message) outside built other (out, acts) = ends_is (line.Deliver message) acts.own acts.events refl other acts.does acts.ends
  up_is (line.Lose message) outside built other (out, acts) = ends_is (line.Lose message) acts.own acts.events refl other acts.does acts.ends
  up_is _ outside built other does = cc

  every_is : (said : Line) (outside : List (List ℕ)) → is_built said ≡ true → IsOther said → Happens old said reply outside new → Is said
  every_is said outside built other happens = by (is_down_for (needs old said)) refl happens
    where
      by : (b : Bool) → is_down_for (needs old said) ≡ b → UnlessDown b old (DoesUp old said) reply outside new → Is said
      by true down h = down_is said other down h.0
      by false up h = up_is said outside built other h

pub every_refusal_has_its_cause : EveryRefusalHasItsCause
every_refusal_has_its_cause cell said reply outside new built other happens isnt = every_is cell new reply isnt said outside built other happens
