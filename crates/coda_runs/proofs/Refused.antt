-- That a client refuses a line only for a cause that holds.
use Rattle.std.proofs.Common.{◌≡◌, ℕ, ◌+◌, ◌<◌, ◌&&◌, nat_le, Bool, true, false, cond, List, [], ◌∷◌, ◌++◌, length, map as map_list, Option, Some, None, Result, Ok, Err, refl, sym, ap, subst, ◌∙◌, inl, inr, ◌⊎◌, arith}
use Rattle.std.specs.FinMap as map
use Rattle.std.specs.Option.{unwrap_or}
use Rattle.std.specs.Prelude.{nat_lt}
use Rattle.std.proofs.lemmas.Bool.{cases_Bool}
use Rattle.std.proofs.lemmas.Bool.Decides.{nat_tests}
use Rattle.std.proofs.lemmas.Option.{none-some}
use Rattle.coda_fid.specs.Fid.{root_of}
use Rattle.coda_fid.specs.declared.fid.Fid.{Fid}
use Rattle.coda_fid.specs.declared.op.Attrs.{Attrs}
use Rattle.coda_fid.specs.declared.op.Op.{Op}
use Rattle.coda_fid.specs.declared.op.Op.TheVariants.{Create as CreateOp, Mkdir as MkdirOp, Symlink as SymlinkOp}
use Rattle.coda_fid.specs.declared.op.Record.{Record}
use Rattle.coda_tree.specs.declared.node.Node.{Node}
use Rattle.coda_tree.specs.declared.node.NodeKind.{NodeKind}
use Rattle.coda_tree.specs.declared.node.NodeKind.TheVariants.{File, Link, Dir}
use Rattle.coda_tree.specs.Bindings.{Name}
use Rattle.coda_tree.specs.Volume.{Nodes, IsDir}
use Rattle.coda_cancel.specs.Cancel.{fold}
use Rattle.coda_cancel.specs.Weights.{total_weight}
use Rattle.coda_plain.specs.Cell.{ClientEntry, Did}
use Rattle.coda_plain.specs.Deeds.{Operated}
use Rattle.coda_script.specs.declared.line.Content.{Content}
use Rattle.coda_script.specs.declared.line.Content.TheVariants.{Text, Fill}
use Rattle.coda_script.specs.declared.line.Task.{Task}
use Rattle.coda_script.specs.declared.line.Task.TheVariants as task
use Rattle.coda_script.specs.declared.reply.Reply.{Reply}
use Rattle.coda_script.specs.declared.reply.Reply.TheVariants.{Done}
use Rattle.coda_venus.specs.declared.refused.Refused.{Refused as ClientRefused}
use Rattle.coda_cell.specs.Refusing.{client_refused_as}
use Rattle.coda_cell.specs.Refused.{Refused}
use Rattle.coda_cell.specs.Refused as refused
use Rattle.coda_venus.specs.Ask.{Asked, Create, Mkdir, Symlink, Store, Setattr, Remove, Rmdir, Rename, ending, too_big, object_of}
use Rattle.coda_cell.specs.Asking.{Said, Answer, answers, look_ups, behind_fetches, next_record, has_room, is_full, answer_to, operate_unless, operate, shown_as, shown_at, show_object, read_in, list_in}
use Rattle.coda_cell.specs.Held.{Fetch}
use Rattle.coda_cell.specs.Looking.{look_along, entries_of, is_fetched}
use Rattle.coda_venus.specs.Looking.{resolve}
use Rattle.coda_cell.specs.Accepting.{sight_of}
use Rattle.coda_venus.specs.Accepting.{Accepted, accept}
use Rattle.coda_cell.specs.Refusing.{refusal}
use Rattle.coda_cell.specs.State.{ClientVolume, ClientState, client_after_all, CellState, Event, after_all, at_client}
use Rattle.coda_cell.specs.Steps.{Unless, first_missing, on_volume, offers_of, reply_to, ByClient, bytes_of, DoesTask}
use Rattle.coda_cell.proofs.Events.{after_client}
use Rattle.coda_cell.proofs.Families.{put_here}
use Rattle.coda_cell.proofs.Fetches.{client_after_fetches}
use Rattle.coda_runs.specs.Performed.{content_of}
use Rattle.coda_runs.specs.Shown.{shown_by}
use Rattle.coda_runs.specs.Causes.{OnTheWay, StandsAs, IsNoDir, CreationCause, StoreCause, RemoveCause, RmdirCause, RenameCause, IsLogFull, IsFull, LogIsFull, JournalIsFull, named_by, IsAnswered}
use Rattle.coda_runs.proofs.Causes.{way_cause, unheld_at, stands_as, creation_cause, store_cause, setattr_cause, remove_cause, rmdir_cause, rename_cause}
use Rattle.coda_runs.proofs.Performed.{leads}

-- ---- what an answer to an operation is

-- it is done; or it is refused behind look-ups, or since what it stores is too long
pub data Outcome (offers : Option Nodes) (c : ClientState) (volume : ℕ) (ask : Asked) (answer : Answer) : Type 0 where
  IsDone : (number : ℕ) (object : Fid) → answer.said ≡ Ok (Done number object) → Outcome offers c volume ask answer
  IsRefused : (why : Refused) → answer.said ≡ Err why → answer.entries ≡ entries_of (look_ups offers c.held volume ask)
      → (((refusal : ClientRefused) × (why ≡ client_refused_as refusal) × (accept (sight_of (behind_fetches c (look_ups offers c.held volume ask)) volume) volume ask ≡ Err refusal)) ⊎ IsFull (c.volumes volume) why) → Outcome offers c volume ask answer
  IsTooBig : (length : ℕ) → answer.said ≡ Err (refused.TooBig length) → answer.entries ≡ [] → too_big ask ≡ Some length → Outcome offers c volume ask answer

-- a log with no room for a record
log_full : (v : ClientVolume) (rec : Record) → has_room v rec ≡ false → IsLogFull v
log_full v rec h =
    let recs = fold v.front ++ fold (v.back ++ rec ∷ []) in
    (rec, by (nat_le (length recs) 4096) (nat_le (total_weight recs) 16777216) refl refl h)
  where
    by : (few light : Bool) → (let recs = fold v.front ++ fold (v.back ++ rec ∷ []) in nat_le (length recs) 4096 ≡ few → nat_le (total_weight recs) 16777216 ≡ light → (few && light) ≡ false → (4096 < length recs) ⊎ (16777216 < total_weight recs))
    by true true few light e = cc
    by true false few light e = inr (grind (arith, nat_tests, light))
    by false light few is e = inl (grind (arith, nat_tests, few))

module _ (offers : Option Nodes) (c : ClientState) (time volume : ℕ) (ask : Asked) where
  abbrev fetches : List Fetch
  fetches = look_ups offers c.held volume ask

  abbrev v : ClientVolume
  v = c.volumes volume

  abbrev Comes : Answer → Type 0
  Comes answer = Outcome offers c volume ask answer

  entered_comes : (op : Op) (rec : Record) (room full : Bool) → has_room v rec ≡ room → is_full v ≡ full
      → Comes (cond room (cond full (answers (entries_of fetches) (Err refused.JournalFull)) (answers (entries_of fetches ++ Did volume (Operated rec) ∷ []) (Ok (Done (v.operations + 1) (object_of op))))) (answers (entries_of fetches) (Err refused.LogFull)))
  entered_comes op rec true true room full = IsRefused refused.JournalFull refl refl (inr (JournalIsFull refl (grind (arith, nat_tests, full))))
  entered_comes op rec true false room full = IsDone (v.operations + 1) (object_of op) refl
  entered_comes op rec false b room full = IsRefused refused.LogFull refl refl (inr (LogIsFull refl (log_full v rec room)))

  answer_comes : (r : Accepted) → accept (sight_of (behind_fetches c fetches) volume) volume ask ≡ r → Comes (answer_to (entries_of fetches) v time volume r)
  answer_comes (Err why) is = IsRefused (client_refused_as why) refl refl (inl (why, refl, is))
  answer_comes (Ok op) is = (let rec = next_record v time op in entered_comes op rec (has_room v rec) (is_full v) refl refl)

  unless_comes : (o : Option ℕ) → too_big ask ≡ o → Comes (operate_unless o offers c time volume ask)
  unless_comes (Some n) is = IsTooBig n refl refl is
  unless_comes None is = answer_comes (accept (sight_of (behind_fetches c fetches) volume) volume ask) refl

  pub outcome : Comes (operate offers c time volume ask)
  unfolding operate
  outcome = unless_comes (too_big ask) refl

-- ---- a line

-- a cause that holds of the client behind the line
abbrev pub HasCause : (ClientState → Refused → Type 0) → ℕ → (ℕ → Option ClientState) → Refused → Type 0
HasCause CauseOf client clients why = (c : ClientState) × (clients client ≡ Some c) × CauseOf c why

-- what a line is answered, by the causes for which its client refuses it
abbrev pub IsAnsweredBy : (ClientState → Refused → Type 0) → ℕ → Option Refused → (ℕ → Option ClientState) → Reply → Type 0
IsAnsweredBy CauseOf client missing clients reply =
    ((why : Refused) × (missing ≡ Some why) × (reply ≡ refusal why)) ⊎ ((number : ℕ) × (object : Fid) × (reply ≡ Done number object)) ⊎ ((kind : NodeKind) × (shown_by reply ≡ Some kind))
    ⊎ ((why : Refused) × (reply ≡ refusal why) × HasCause CauseOf client clients why)

-- the client and the volume that a line names
pub at_named : (c v client volume : ℕ) (P : ℕ → ℕ → Type 0) → (let named : ℕ × ℕ = (c, v) in Some named ≡ Some (client, volume)) → P c v → P client volume
at_named c v client volume P named p =
    let both : (c, v) ≡ (client, volume) = cc in
    subst (λ (x : ℕ × ℕ). P x.0 x.1) both p

module _ (s : CellState) (reply : Reply) (events : List Event) where
  abbrev pub behind : ℕ → Option ClientState
  behind = (after_all s events).clients

  -- the client behind what it added to its history
  client_behind : (client : ℕ) (c : ClientState) (entries : List ClientEntry) → s.clients client ≡ Some c → events ≡ map_list (at_client client) entries → behind client ≡ Some (client_after_all c entries)
  client_behind client c entries there happened =
      ap (λ (q : CellState). q.clients client) (ap (after_all s) happened ∙ after_client s client c entries there) ∙ put_here s.clients client (Some (client_after_all c entries))

  operated : (client volume : ℕ) (ask : Asked) (CauseOf : ClientState → Refused → Type 0) → ((c : ClientState) (why : ClientRefused) → accept (sight_of c volume) volume ask ≡ Err why → CauseOf c (client_refused_as why)) → ((c : ClientState) (why : Refused) → IsFull (c.volumes volume) why → CauseOf c why)
      → ((c : ClientState) (length : ℕ) → too_big ask ≡ Some length → CauseOf c (refused.TooBig length)) → (o : Option Refused) → Unless o (ByClient s client volume (λ offers c. operate offers c s.clock volume ask)) reply events → IsAnsweredBy CauseOf client o behind reply
  operated client volume ask CauseOf accepts fills is_big (Some why) isnt = inl (why, refl, isnt.0)
  operated client volume ask CauseOf accepts fills is_big None did =
      let offers = offers_of s client volume in
      let c = did.client in
      let answer = operate offers c s.clock volume ask in
      let fetches = look_ups offers c.held volume ask in
      elim (outcome offers c s.clock volume ask) [
        | IsDone number object said ↦ inr (inl (number, object, did.answered ∙ ap reply_to said))
        | IsRefused why said entries cause ↦ inr (inr (inr (
          why,
          did.answered ∙ ap reply_to said,
          (
            behind_fetches c fetches,
            client_behind client c answer.entries did.there did.happened ∙ ap Some (ap (client_after_all c) entries ∙ client_after_fetches c fetches),
            elim cause [ inl isnt ↦ subst (CauseOf (behind_fetches c fetches)) (sym isnt.1) (accepts (behind_fetches c fetches) isnt.0 isnt.2) | inr full ↦ fills (behind_fetches c fetches) why full ],
          ),
        )))
        | IsTooBig length said entries big ↦ inr (inr (inr (
          refused.TooBig length,
          did.answered ∙ ap reply_to said,
          (c, client_behind client c answer.entries did.there did.happened ∙ ap Some (ap (client_after_all c) entries), is_big c length big),
        )))
      ]

  -- ---- reading and listing

  shown : (client volume : ℕ) (path : List Name) (show : Bool → NodeKind → Said) (CauseOf : ClientState → Refused → Type 0)
      → ((c : ClientState) (fetched : Bool) (fid : Fid) (node : Node) → resolve c.held.nodes (root_of volume) path ≡ Ok fid → map.get c.held.nodes fid ≡ Some node
      → ((kind : NodeKind) × (shown_by (reply_to (show fetched node.kind)) ≡ Some kind)) ⊎ ((why : Refused) × (show fetched node.kind ≡ Err why) × CauseOf c why))
      → ((c : ClientState) (why : Refused) → OnTheWay c.held.nodes (root_of volume) path why → CauseOf c why) → (o : Option Refused) → Unless o (ByClient s client volume (λ offers c. show_object show offers c.held volume path)) reply events
      → IsAnsweredBy CauseOf client o behind reply
  shown client volume path show CauseOf shows ways (Some why) isnt = inl (why, refl, isnt.0)
  shown client volume path show CauseOf shows ways None did =
      let offers = offers_of s client volume in
      let c = did.client in
      let fetches = look_along offers c.held (root_of volume) path in
      let new = behind_fetches c fetches in
      let there : behind client ≡ Some new = client_behind client c (entries_of fetches) did.there did.happened ∙ ap Some (client_after_fetches c fetches) in
      by new there fetches (resolve new.held.nodes (root_of volume) path) refl did.answered
    where
      by_node : (new : ClientState) → behind client ≡ Some new → (fetched : Bool) (fid : Fid) → resolve new.held.nodes (root_of volume) path ≡ Ok fid → (o : Option Node) → map.get new.held.nodes fid ≡ o → reply ≡ reply_to (shown_as show fetched o fid)
          → IsAnsweredBy CauseOf client None behind reply
      by_node new there fetched fid leads_to None none answered =
          inr (inr (inr (refused.Miss fid, answered, (new, there, ways new (refused.Miss fid) (unheld_at new.held.nodes (root_of volume) path fid (refused.Miss fid) (leads new.held.nodes (root_of volume) path fid leads_to) refl none)))))
      by_node new there fetched fid leads_to (Some node) is answered = elim (shows new fetched fid node leads_to is) [
        | inl kind ↦ inr (inr (inl (kind.0, ap shown_by answered ∙ kind.1)))
        | inr isnt ↦ inr (inr (inr (isnt.0, answered ∙ ap reply_to isnt.1, (new, there, isnt.2))))
      ]

      by : (new : ClientState) → behind client ≡ Some new → (fetched : List Fetch) (r : Result Fid ClientRefused) → resolve new.held.nodes (root_of volume) path ≡ r → reply ≡ reply_to (shown_at show fetched new.held.nodes r) → IsAnsweredBy CauseOf client None behind reply
      by new there fetched (Err why) leads_to answered = inr (inr (inr (client_refused_as why, answered, (new, there, ways new (client_refused_as why) (way_cause new.held.nodes (root_of volume) path why leads_to)))))
      by new there fetched (Ok fid) leads_to answered = by_node new there (is_fetched fetched fid) fid leads_to (map.get new.held.nodes fid) refl answered

  read_shows : (volume : ℕ) (path : List Name) (c : ClientState) (fetched : Bool) (fid : Fid) (node : Node) → resolve c.held.nodes (root_of volume) path ≡ Ok fid → map.get c.held.nodes fid ≡ Some node
      → ((kind : NodeKind) × (shown_by (reply_to (read_in fetched node.kind)) ≡ Some kind))
      ⊎ ((why : Refused) × (read_in fetched node.kind ≡ Err why) × (OnTheWay c.held.nodes (root_of volume) path why ⊎ ((why ≡ refused.IsDir) × StandsAs c.held.nodes volume path IsDir)))
  read_shows volume path c fetched fid node leads_to there = by node.kind refl
    where
      by : (kind : NodeKind) → node.kind ≡ kind
          → ((k : NodeKind) × (shown_by (reply_to (read_in fetched kind)) ≡ Some k))
          ⊎ ((why : Refused) × (read_in fetched kind ≡ Err why) × (OnTheWay c.held.nodes (root_of volume) path why ⊎ ((why ≡ refused.IsDir) × StandsAs c.held.nodes volume path IsDir)))
      by (File content) is = inl (File content, refl)
      by (Link target) is = inl (Link target, refl)
      by (Dir entries) is = inr (refused.IsDir, refl, inr (refl, stands_as c.held.nodes volume path IsDir fid node (Dir entries) (leads c.held.nodes (root_of volume) path fid leads_to) there is tt))

  list_shows : (volume : ℕ) (path : List Name) (c : ClientState) (fetched : Bool) (fid : Fid) (node : Node) → resolve c.held.nodes (root_of volume) path ≡ Ok fid → map.get c.held.nodes fid ≡ Some node
      → ((kind : NodeKind) × (shown_by (reply_to (list_in fetched node.kind)) ≡ Some kind))
      ⊎ ((why : Refused) × (list_in fetched node.kind ≡ Err why) × (OnTheWay c.held.nodes (root_of volume) path why ⊎ ((why ≡ refused.NotDir) × StandsAs c.held.nodes volume path IsNoDir)))
  list_shows volume path c fetched fid node leads_to there = by node.kind refl
    where
      by : (kind : NodeKind) → node.kind ≡ kind
          → ((k : NodeKind) × (shown_by (reply_to (list_in fetched kind)) ≡ Some k))
          ⊎ ((why : Refused) × (list_in fetched kind ≡ Err why) × (OnTheWay c.held.nodes (root_of volume) path why ⊎ ((why ≡ refused.NotDir) × StandsAs c.held.nodes volume path IsNoDir)))
      by (File content) is = inr (refused.NotDir, refl, inr (refl, stands_as c.held.nodes volume path IsNoDir fid node (File content) (leads c.held.nodes (root_of volume) path fid leads_to) there is (λ isnt. isnt)))
      by (Link target) is = inr (refused.NotDir, refl, inr (refl, stands_as c.held.nodes volume path IsNoDir fid node (Link target) (leads c.held.nodes (root_of volume) path fid leads_to) there is (λ isnt. isnt)))
      by (Dir entries) is = inl (Dir entries, refl)

  -- ---- each line

  abbrev pub Is : Task → ℕ → ℕ → Type 0
  Is t client volume = IsAnswered t client volume (first_missing (on_volume s client volume)) behind reply

  never_big : (length : ℕ) {A : Type 0} → (let o : Option ℕ = None in o ≡ Some length) → A
  never_big length e = cc

  created : (client volume : ℕ) (ask : Asked) (path : List Name) → too_big ask ≡ None → ((c : ClientState) (why : ClientRefused) → accept (sight_of c volume) volume ask ≡ Err why → CreationCause (sight_of c volume) volume path (client_refused_as why))
      → Unless (first_missing (on_volume s client volume)) (ByClient s client volume (λ offers c. operate offers c s.clock volume ask)) reply events
      → IsAnsweredBy (λ c why. CreationCause (sight_of c volume) volume path why ⊎ IsFull (c.volumes volume) why) client (first_missing (on_volume s client volume)) behind reply
  created client volume ask path short cause does =
      operated client volume ask (λ c why. CreationCause (sight_of c volume) volume path why ⊎ IsFull (c.volumes volume) why) (λ c why h. inl (cause c why h)) (λ c why full. inr full)
      (λ c length big. never_big length (sym short ∙ big)) (first_missing (on_volume s client volume)) does

  create_cause : (c : ClientState) (volume : ℕ) (path : List Name) (mode owner : ℕ) (why : ClientRefused) → accept (sight_of c volume) volume (Create path mode owner) ≡ Err why → CreationCause (sight_of c volume) volume path (client_refused_as why)
  unfolding accept
  create_cause c volume path mode owner why h = creation_cause (sight_of c volume) volume path (ending path) (λ dir name fid. CreateOp dir name fid mode owner) why refl h

  mkdir_cause : (c : ClientState) (volume : ℕ) (path : List Name) (mode owner : ℕ) (why : ClientRefused) → accept (sight_of c volume) volume (Mkdir path mode owner) ≡ Err why → CreationCause (sight_of c volume) volume path (client_refused_as why)
  unfolding accept
  mkdir_cause c volume path mode owner why h = creation_cause (sight_of c volume) volume path (ending path) (λ dir name fid. MkdirOp dir name fid mode owner) why refl h

  symlink_cause : (c : ClientState) (volume : ℕ) (path : List Name) (target : List ℕ) (why : ClientRefused) → accept (sight_of c volume) volume (Symlink path target) ≡ Err why → CreationCause (sight_of c volume) volume path (client_refused_as why)
  unfolding accept
  symlink_cause c volume path target why h = creation_cause (sight_of c volume) volume path (ending path) (λ dir name fid. SymlinkOp dir name fid target 511 0) why refl h

  stores_cause : (c : ClientState) (volume : ℕ) (path : List Name) (content : List ℕ) (why : ClientRefused) → accept (sight_of c volume) volume (Store path content) ≡ Err why → StoreCause (sight_of c volume) volume path (client_refused_as why)
  unfolding accept
  stores_cause c volume path content why h = store_cause (sight_of c volume) volume path why content h

  sets_cause : (c : ClientState) (volume : ℕ) (path : List Name) (attrs : Attrs) (why : ClientRefused) → accept (sight_of c volume) volume (Setattr path attrs) ≡ Err why → OnTheWay c.held.nodes (root_of volume) path (client_refused_as why)
  unfolding accept
  sets_cause c volume path attrs why h = setattr_cause (sight_of c volume) volume path why attrs h

  removes_cause : (c : ClientState) (volume : ℕ) (path : List Name) (why : ClientRefused) → accept (sight_of c volume) volume (Remove path) ≡ Err why → RemoveCause (sight_of c volume) volume path (client_refused_as why)
  unfolding accept
  removes_cause c volume path why h = remove_cause (sight_of c volume) volume path why (ending path) refl h

  rmdirs_cause : (c : ClientState) (volume : ℕ) (path : List Name) (why : ClientRefused) → accept (sight_of c volume) volume (Rmdir path) ≡ Err why → RmdirCause (sight_of c volume) volume path (client_refused_as why)
  unfolding accept
  rmdirs_cause c volume path why h = rmdir_cause (sight_of c volume) volume path why (ending path) refl h

  renames_cause : (c : ClientState) (volume : ℕ) (from to : List Name) (why : ClientRefused) → accept (sight_of c volume) volume (Rename from to) ≡ Err why → RenameCause (sight_of c volume) volume from to (client_refused_as why)
  unfolding accept
  renames_cause c volume from to why h = rename_cause (sight_of c volume) volume from to why (ending from) refl h

  -- content that is too long
  big_content : (content : List ℕ) (n : ℕ) → too_big (Store [] content) ≡ Some n → (n ≡ length content) × (1048576 < length content)
  big_content content n h = elim (cases_Bool (nat_lt 1048576 (length content))) [
    | inl long ↦
        let is : too_big (Store [] content) ≡ Some (length content) = rw long refl in
        let both : Some (length content) ≡ Some n = sym is ∙ h in
        ((let same : length content ≡ n = cc in sym same), grind (arith, nat_tests, long))
    | inr short ↦ (let is : too_big (Store [] content) ≡ None = rw short refl in absurd (none-some n (sym is ∙ h)))
  ]

  stores_so : (c : Content) → bytes_of c ≡ content_of c
  stores_so (Text text) = refl
  stores_so (Fill length byte) = refl

  pub task_is : (t : Task) (client volume : ℕ) → DoesTask s t reply events → named_by t ≡ Some (client, volume) → Is t client volume
  task_is (task.Create c v path mode owner) client volume does named =
      at_named c v client volume (Is (task.Create c v path mode owner)) named (created c v (Create path (unwrap_or mode 420) (unwrap_or owner 0)) path refl (λ cs why h. create_cause cs v path (unwrap_or mode 420) (unwrap_or owner 0) why h) does)
  task_is (task.Mkdir c v path mode owner) client volume does named =
      at_named c v client volume (Is (task.Mkdir c v path mode owner)) named (created c v (Mkdir path (unwrap_or mode 493) (unwrap_or owner 0)) path refl (λ cs why h. mkdir_cause cs v path (unwrap_or mode 493) (unwrap_or owner 0) why h) does)
  task_is (task.Symlink c v path target) client volume does named =
      at_named c v client volume (Is (task.Symlink c v path target)) named (created c v (Symlink path target) path refl (λ cs why h. symlink_cause cs v path target why h) does)
  task_is (task.Store c v path content) client volume does named =
      at_named c v client volume (Is (task.Store c v path content)) named
      (operated c v (Store path (bytes_of content))
      (λ cs why. StoreCause (sight_of cs v) v path why ⊎ IsFull (cs.volumes v) why ⊎ ((why ≡ refused.TooBig (length (content_of content))) × (1048576 < length (content_of content))))
      (λ cs why h. inl (stores_cause cs v path (bytes_of content) why h)) (λ cs why full. inr (inl full))
      (λ cs n big. (
      let is = big_content (bytes_of content) n big in
      let same = ap length (stores_so content) in
      inr (inr (ap refused.TooBig (is.0 ∙ same), subst (λ k. 1048576 < k) same is.1))
      ))
      (first_missing (on_volume s c v)) does)
  task_is (task.Setattr c v path attrs) client volume does named =
      at_named c v client volume (Is (task.Setattr c v path attrs)) named
      (operated c v (Setattr path attrs) (λ cs why. OnTheWay cs.held.nodes (root_of v) path why ⊎ IsFull (cs.volumes v) why) (λ cs why h. inl (sets_cause cs v path attrs why h)) (λ cs why full. inr full) (λ cs n big. never_big n big)
      (first_missing (on_volume s c v)) does)
  task_is (task.Remove c v path) client volume does named =
      at_named c v client volume (Is (task.Remove c v path)) named
      (operated c v (Remove path) (λ cs why. RemoveCause (sight_of cs v) v path why ⊎ IsFull (cs.volumes v) why) (λ cs why h. inl (removes_cause cs v path why h)) (λ cs why full. inr full) (λ cs n big. never_big n big) (first_missing (on_volume s c v)) does)
  task_is (task.Rmdir c v path) client volume does named =
      at_named c v client volume (Is (task.Rmdir c v path)) named
      (operated c v (Rmdir path) (λ cs why. RmdirCause (sight_of cs v) v path why ⊎ IsFull (cs.volumes v) why) (λ cs why h. inl (rmdirs_cause cs v path why h)) (λ cs why full. inr full) (λ cs n big. never_big n big) (first_missing (on_volume s c v)) does)
  task_is (task.Rename c v from to) client volume does named =
      at_named c v client volume (Is (task.Rename c v from to)) named
      (operated c v (Rename from to) (λ cs why. RenameCause (sight_of cs v) v from to why ⊎ IsFull (cs.volumes v) why) (λ cs why h. inl (renames_cause cs v from to why h)) (λ cs why full. inr full) (λ cs n big. never_big n big)
      (first_missing (on_volume s c v)) does)
  task_is (task.Read c v path) client volume does named =
      at_named c v client volume (Is (task.Read c v path)) named
      (shown c v path read_in (λ cs why. OnTheWay cs.held.nodes (root_of v) path why ⊎ ((why ≡ refused.IsDir) × StandsAs cs.held.nodes v path IsDir)) (read_shows v path) (λ cs why way. inl way) (first_missing (on_volume s c v)) does)
  task_is (task.List c v path) client volume does named =
      at_named c v client volume (Is (task.List c v path)) named
      (shown c v path list_in (λ cs why. OnTheWay cs.held.nodes (root_of v) path why ⊎ ((why ≡ refused.NotDir) × StandsAs cs.held.nodes v path IsNoDir)) (list_shows v path) (λ cs why way. inl way) (first_missing (on_volume s c v)) does)
  task_is (task.Drain c v server window) client volume does named = cc
  task_is (task.Hardlink c v from to) client volume does named = cc
  task_is (task.Refresh c v server) client volume does named = cc
  task_is (task.Giveup c v) client volume does named = cc
