-- That an operation which is answered as done was performed.
use Rattle.std.proofs.Common.{◌≡◌, ℕ, ◌+◌, Bool, true, false, cond, List, [], ◌∷◌, ◌++◌, append_assoc, map as map_list, Option, Some, None, Result, Ok, Err, refl, sym, ap, subst, ◌∙◌, inl, inr}
use Rattle.std.specs.FinMap as map
use Rattle.std.specs.Option.{option_map, unwrap_or}
use Rattle.coda_fid.specs.Fid.{root_of}
use Rattle.coda_fid.specs.declared.fid.Fid.{Fid}
use Rattle.coda_fid.specs.declared.op.Attrs.{Attrs}
use Rattle.coda_fid.specs.declared.op.Op.{Op}
use Rattle.coda_fid.specs.declared.op.Op.TheVariants.{Create as CreateOp, Mkdir as MkdirOp, Symlink as SymlinkOp, Store as StoreOp, Setattr as SetattrOp, Remove as RemoveOp, Rmdir as RmdirOp, Rename as RenameOp}
use Rattle.coda_fid.specs.declared.op.Record.{Record}
use Rattle.coda_fid.proofs.Fids.{fids_total}
use Rattle.coda_tree.specs.declared.node.Node.{Node}
use Rattle.coda_tree.specs.declared.node.NodeKind.{NodeKind}
use Rattle.coda_tree.specs.declared.node.NodeKind.TheVariants.{File, Link, Dir}
use Rattle.coda_tree.specs.Bindings.{Name}
use Rattle.coda_tree.specs.Volume.{Nodes, child, IsDir, bound, additions, edited_all}
use Rattle.coda_tree.proofs.Order.{get_here}
use Rattle.coda_certify.specs.Replay.{empty_file, empty_dir, new_link, effects, sid_of, applied}
use Rattle.coda_cml.specs.Steady.{unbinds}
use Rattle.coda_plain.specs.Cell.{ClientEntry, Did}
use Rattle.coda_plain.specs.Deeds.{Operated, created_by}
use Rattle.coda_script.specs.declared.line.Content.{Content}
use Rattle.coda_script.specs.declared.line.Content.TheVariants.{Text, Fill}
use Rattle.coda_script.specs.declared.line.Line.TheVariants as line
use Rattle.coda_script.specs.declared.line.Strength.{Strength}
use Rattle.coda_script.specs.declared.line.Strength.TheVariants.{Strong, Weak, Down}
use Rattle.coda_script.specs.declared.line.Task.{Task}
use Rattle.coda_script.specs.declared.line.Task.TheVariants as task
use Rattle.coda_script.specs.declared.reply.Reply.{Reply}
use Rattle.coda_script.specs.declared.reply.Reply.TheVariants.{Done}
use Rattle.coda_venus.specs.declared.refused.Refused.{Refused as ClientRefused}
use Rattle.coda_cell.specs.Refused.{Refused}
use Rattle.coda_cell.specs.Refused as refused
use Rattle.coda_venus.specs.Ask.{Asked, Create, Mkdir, Symlink, Store, Setattr, Remove, Rmdir, Rename, ending, too_big, object_of}
use Rattle.coda_cell.specs.Asking.{Said, Answer, answers, look_ups, behind_fetches, next_record, has_room, is_full, answer_to, operate_unless, operate, read, list, shown_at, shown_as, read_in, list_in}
use Rattle.coda_cell.specs.Held.{held_after_fetches, Fetch}
use Rattle.coda_cell.specs.Looking.{entries_of, is_fetched}
use Rattle.coda_venus.specs.Looking.{resolve}
use Rattle.coda_cell.specs.Accepting.{sight_of}
use Rattle.coda_venus.specs.Accepting.{Accepted, Sight, store_at, setattr_at, accept}
use Rattle.coda_cell.specs.Made.{client_of}
use Rattle.coda_cell.proofs.Histories.{number_stays}
use Rattle.coda_cell.specs.State.{pending, new_client, ClientVolume, ClientState, client_after_all, ReplicaState, CellState, Event, after_all, at_client}
use Rattle.coda_cell.specs.Refusing.{refusal}
use Rattle.coda_cell.specs.Sending.{Freezing, freezing, Ruling, ruling, Taking, taking, answered_to, ruled_on, drained_of, drain}
use Rattle.coda_cell.specs.Steps.{Doing, Unless, first_missing, on_volume, on_holder, offers_of, reply_to, ByClient, ByBoth, bytes_of, DoesTask, Does}
use Rattle.coda_venus.proofs.Accepted.{MayMove, Relies, found_then, accepted_relies}
use Rattle.coda_cell.proofs.AfterOperations.{newly_bound, still_bound, bound_before, IsBoundBy}
use Rattle.coda_cell.proofs.Events.{after_client}
use Rattle.coda_cell.proofs.Families.{put_here}
use Rattle.coda_cell.proofs.Fetches.{client_after_both, client_after_fetches, keeps_look_ups}
use Rattle.coda_cell.proofs.Offered.{fetched_is_offered}
use Rattle.coda_journal.specs.declared.header.Header.{Header}
use Rattle.coda_shelves.specs.Cells.{Cell, asked, state_of}
use Rattle.coda_shelves.specs.Lines.{is_cut, task_on, refused_down, refused_full, refused_fault}
use Rattle.coda_runs.specs.Performed.{CanReach, HasNoOther, Stamp, IsVersionOf, IsNew, IsStored, IsSet, IsGone, IsMoved, OthersStay, content_of, DoesAsked, IsPerformed, WasPerformed, OperationsArePerformed}
use Rattle.coda_runs.proofs.Performed.{leads, creation_made, made_new, store_at_stored, stored_so, setattr_changed, changed_so, IsNoDir, accept_removed, accept_rmdir_removed, removed_so, accept_renamed, apart_names, rename_leaves, replaced_so}
use Rattle.coda_runs.proofs.Parents.{KeepsParents, keeps_own, keeps_look_parents}
use Rattle.coda_runs.proofs.Served.{Keeps, keeps_look, has_fetched, put_off, reaches}
use Rattle.coda_runs.proofs.Unchanged.{moved_whole, others_stay}
use Rattle.coda_runs.proofs.Meeting.{met, IsMet, ShowsAs, clients_as, Ends, WasDown, DidAll, LackedRoom, HadFault, line_ends}

-- ---- what each operation leaves

applied_is : (m : Nodes) (own : ℕ) (rec : Record) (op : Op) → rec.op ≡ op → applied m own rec ≡ edited_all m (effects rec.time (sid_of own rec) op)
unfolding applied
applied_is m own rec op is = ap (λ o. edited_all m (effects rec.time (sid_of own rec) o)) is

-- a new node stands where a creation put it
put_there : (m : Nodes) (own : ℕ) (rec : Record) (op : Op) (dir : Fid) (name : Name) (fid : Fid) (node : Node) → rec.op ≡ op → edited_all m (effects rec.time (sid_of own rec) op) ≡ edited_all m (additions dir name fid node)
    → map.get (applied m own rec) fid ≡ Some node
put_there m own rec op dir name fid node is adds = ap (λ n. map.get n fid) (applied_is m own rec op is ∙ adds) ∙ get_here fids_total (bound m dir name fid) fid node

abbrev stamp : ℕ → Record → Stamp
stamp own rec = record { client = own; number = rec.number; time = rec.time }

-- an operation gives its own version
stamped : (own : ℕ) (rec : Record) → IsVersionOf (stamp own rec) (sid_of own rec)
stamped own rec = record { client_is = refl; number_is = refl }

module _ (s : Sight) (volume own : ℕ) (rec : Record) where
  abbrev m : Nodes
  m = s.held.nodes

  abbrev n : Nodes
  n = applied s.held.nodes own rec

  abbrev by_rec : Stamp
  by_rec = stamp own rec

  -- an object that the operation binds nowhere has no other name
  no_other : (fid : Fid) → ((dir : Fid) (name : Name) → IsBoundBy rec.op dir name fid → ⊥) → HasNoOther m n fid
  no_other fid never = λ dir name is. elim (bound_before m own rec dir name fid is) [ inl was ↦ was | inr by ↦ absurd (never dir name by) ]

  created : (path : List Name) (mode owner : ℕ) → accept s volume (Create path mode owner) ≡ Ok rec.op → IsNew by_rec m n volume path (File []) mode owner (object_of rec.op)
  unfolding accept
  created path mode owner h =
      let x = creation_made s volume path (ending path) (λ dir name fid. CreateOp dir name fid mode owner) rec.op refl h in
      let node = empty_file mode owner rec.time (sid_of own rec) in
      subst (IsNew by_rec m n volume path (File []) mode owner) (sym (ap object_of x.is))
      (made_new by_rec s volume own path (λ dir name fid. CreateOp dir name fid mode owner) rec node x (accepted_relies s volume (Create path mode owner) rec.op h)
      (subst (λ op. IsBoundBy op x.end.dir x.end.last x.fid) (sym x.is) (refl, refl, refl))
      (λ dir name by. (
      let at : IsBoundBy (CreateOp x.end.dir x.end.last x.fid mode owner) dir name x.fid = subst (λ op. IsBoundBy op dir name x.fid) x.is by in
      (at.0, at.1)))
      (put_there m own rec (CreateOp x.end.dir x.end.last x.fid mode owner) x.end.dir x.end.last x.fid node x.is refl) refl (stamped own rec) refl)

  made_dir : (path : List Name) (mode owner : ℕ) → accept s volume (Mkdir path mode owner) ≡ Ok rec.op → IsNew by_rec m n volume path (Dir map.empty) mode owner (object_of rec.op)
  unfolding accept
  made_dir path mode owner h =
      let x = creation_made s volume path (ending path) (λ dir name fid. MkdirOp dir name fid mode owner) rec.op refl h in
      let node = empty_dir mode owner rec.time (sid_of own rec) in
      subst (IsNew by_rec m n volume path (Dir map.empty) mode owner) (sym (ap object_of x.is))
      (made_new by_rec s volume own path (λ dir name fid. MkdirOp dir name fid mode owner) rec node x (accepted_relies s volume (Mkdir path mode owner) rec.op h)
      (subst (λ op. IsBoundBy op x.end.dir x.end.last x.fid) (sym x.is) (refl, refl, refl))
      (λ dir name by. (
      let at : IsBoundBy (MkdirOp x.end.dir x.end.last x.fid mode owner) dir name x.fid = subst (λ op. IsBoundBy op dir name x.fid) x.is by in
      (at.0, at.1)))
      (put_there m own rec (MkdirOp x.end.dir x.end.last x.fid mode owner) x.end.dir x.end.last x.fid node x.is refl) refl (stamped own rec) refl)

  linked : (path : List Name) (target : List ℕ) → accept s volume (Symlink path target) ≡ Ok rec.op → IsNew by_rec m n volume path (Link target) 511 0 (object_of rec.op)
  unfolding accept
  linked path target h =
      let x = creation_made s volume path (ending path) (λ dir name fid. SymlinkOp dir name fid target 511 0) rec.op refl h in
      let node = new_link target 511 0 rec.time (sid_of own rec) in
      subst (IsNew by_rec m n volume path (Link target) 511 0) (sym (ap object_of x.is))
      (made_new by_rec s volume own path (λ dir name fid. SymlinkOp dir name fid target 511 0) rec node x (accepted_relies s volume (Symlink path target) rec.op h)
      (subst (λ op. IsBoundBy op x.end.dir x.end.last x.fid) (sym x.is) (refl, refl, refl))
      (λ dir name by. (
      let at : IsBoundBy (SymlinkOp x.end.dir x.end.last x.fid target 511 0) dir name x.fid = subst (λ op. IsBoundBy op dir name x.fid) x.is by in
      (at.0, at.1)))
      (put_there m own rec (SymlinkOp x.end.dir x.end.last x.fid target 511 0) x.end.dir x.end.last x.fid node x.is refl) refl (stamped own rec) refl)

  stored : (path : List Name) (content : List ℕ) → accept s volume (Store path content) ≡ Ok rec.op → IsStored by_rec m n volume path content (object_of rec.op)
  unfolding accept
  stored path content h =
      let a = found_then (resolve m (root_of volume) path) (λ fid. store_at (map.get m fid) fid content) rec.op h in
      let x = store_at_stored m volume path content a.0 (map.get m a.0) rec.op (leads m (root_of volume) path a.0 a.1) refl a.2 in
      subst (IsStored by_rec m n volume path content) (sym (ap object_of x.is))
      (stored_so by_rec m volume rec.time (sid_of own rec) path content rec.op x n (applied_is m own rec (StoreOp x.fid x.node.sid content) x.is)
      (no_other x.fid (λ dir name by. subst (λ op. IsBoundBy op dir name x.fid) x.is by))
      (λ dir name was. still_bound s volume own rec dir name x.fid (accepted_relies s volume (Store path content) rec.op h) was (ap (unbinds x.fid) x.is)) refl (stamped own rec))

  attributes_set : (path : List Name) (attrs : Attrs) → accept s volume (Setattr path attrs) ≡ Ok rec.op → IsSet by_rec m n volume path attrs (object_of rec.op)
  unfolding accept
  attributes_set path attrs h =
      let a = found_then (resolve m (root_of volume) path) (λ fid. setattr_at (map.get m fid) fid attrs) rec.op h in
      let x = setattr_changed m volume path attrs a.0 (map.get m a.0) rec.op (leads m (root_of volume) path a.0 a.1) refl a.2 in
      subst (IsSet by_rec m n volume path attrs) (sym (ap object_of x.is))
      (changed_so by_rec m volume rec.time (sid_of own rec) path attrs rec.op x n (applied_is m own rec (SetattrOp x.fid x.node.sid attrs) x.is)
      (no_other x.fid (λ dir name by. subst (λ op. IsBoundBy op dir name x.fid) x.is by))
      (λ dir name was. still_bound s volume own rec dir name x.fid (accepted_relies s volume (Setattr path attrs) rec.op h) was (ap (unbinds x.fid) x.is)) (stamped own rec))

  removed : (path : List Name) → accept s volume (Remove path) ≡ Ok rec.op → IsGone m n volume path IsNoDir (object_of rec.op)
  unfolding accept
  removed path h =
      let x = accept_removed s volume path (ending path) rec.op refl h in
      let relies : Relies s volume (RemoveOp x.end.dir x.end.last x.fid x.node.sid) = subst (Relies s volume) x.is (accepted_relies s volume (Remove path) rec.op h) in
      subst (IsGone m n volume path IsNoDir) (sym (ap object_of x.is))
      (removed_so m volume path IsNoDir RemoveOp rec.op x relies.0 n (applied_is m own rec (RemoveOp x.end.dir x.end.last x.fid x.node.sid) x.is)
      (no_other x.fid (λ dir name by. subst (λ op. IsBoundBy op dir name x.fid) x.is by)))

  removed_dir : (path : List Name) → accept s volume (Rmdir path) ≡ Ok rec.op → IsGone m n volume path IsDir (object_of rec.op)
  unfolding accept
  removed_dir path h =
      let x = accept_rmdir_removed s volume path (ending path) rec.op refl h in
      let relies : Relies s volume (RmdirOp x.end.dir x.end.last x.fid x.node.sid) = subst (Relies s volume) x.is (accepted_relies s volume (Rmdir path) rec.op h) in
      subst (IsGone m n volume path IsDir) (sym (ap object_of x.is))
      (removed_so m volume path IsDir RmdirOp rec.op x relies.0 n (applied_is m own rec (RmdirOp x.end.dir x.end.last x.fid x.node.sid) x.is)
      (no_other x.fid (λ dir name by. subst (λ op. IsBoundBy op dir name x.fid) x.is by)))

  renamed : (from to : List Name) → accept s volume (Rename from to) ≡ Ok rec.op → IsMoved m n volume from to (object_of rec.op)
  unfolding accept
  renamed from to h =
      let x = accept_renamed s volume from to (ending from) rec.op refl h in
      let relies = accepted_relies s volume (Rename from to) rec.op h in
      let may : MayMove m x.old.dir x.old.last x.new.dir x.new.last x.fid x.over = subst (Relies s volume) x.is relies in
      let leaves = applied_is m own rec (RenameOp x.old.dir x.old.last x.new.dir x.new.last x.fid x.over) x.is in
      let apart = apart_names m x.old.dir x.old.last x.new.dir x.new.last x.fid x.over may in
      subst (IsMoved m n volume from to) (sym (ap object_of x.is))
      (record {
        old = x.old;
        new = x.new;
        was = may.bound;
        left = ap (λ q. child q x.old.dir x.old.last) leaves ∙ rename_leaves m x.old.dir x.old.last x.new.dir x.new.last x.fid x.over apart;
        only = λ dir name is. elim (bound_before m own rec dir name x.fid is) [
          | inl was ↦ inl was
          | inr by ↦ (
              let at : IsBoundBy (RenameOp x.old.dir x.old.last x.new.dir x.new.last x.fid x.over) dir name x.fid = subst (λ op. IsBoundBy op dir name x.fid) x.is by in
              inr (at.0, at.1))
        ];
        moved = newly_bound s volume own rec x.new.dir x.new.last x.fid relies (subst (λ op. IsBoundBy op x.new.dir x.new.last x.fid) (sym x.is) (refl, refl, refl));
        replaced = λ other is. (
            let gone = replaced_so m x.old.dir x.old.last x.new.dir x.new.last x.fid x.over may other is in
            (gone.0, ap (λ q. map.get q other) leaves ∙ gone.1)
            );
        as_it_was = λ before is. (
            let whole = moved_whole m x.old.dir x.old.last x.new.dir x.new.last x.fid x.over may before is in
            (whole.0, ap (λ q. map.get q x.fid) leaves ∙ whole.1, whole.2)
            );
      })

-- ---- an operation that is answered as done

-- the operation that an answer comes from
pub record Operation (offers : Option Nodes) (c : ClientState) (time volume : ℕ) (ask : Asked) (number : ℕ) (object : Fid) (answer : Answer) : Type 0 where
  pub op : Op
  pub accepted : accept (sight_of (behind_fetches c (look_ups offers c.held volume ask)) volume) volume ask ≡ Ok op
  pub number_is : number ≡ (c.volumes volume).operations + 1
  pub object_is : object ≡ object_of op
  pub entries_are : answer.entries ≡ entries_of (look_ups offers c.held volume ask) ++ Did volume (Operated (next_record (c.volumes volume) time op)) ∷ []

module _ (offers : Option Nodes) (c : ClientState) (time volume : ℕ) (ask : Asked) (number : ℕ) (object : Fid) where
  abbrev IsSaid : Answer → Type 0
  IsSaid a = (let r : Reply = Done number object in r) ≡ reply_to a.said

  abbrev fetches : List Fetch
  fetches = look_ups offers c.held volume ask

  abbrev Comes : Answer → Type 0
  Comes answer = Operation offers c time volume ask number object answer

  entered_is : (op : Op) → accept (sight_of (behind_fetches c fetches) volume) volume ask ≡ Ok op → (room full : Bool)
      → (let rec = next_record (c.volumes volume) time op in
      let answer = cond room (cond full (answers (entries_of fetches) (Err refused.JournalFull)) (answers (entries_of fetches ++ Did volume (Operated rec) ∷ []) (Ok (Done ((c.volumes volume).operations + 1) (object_of op)))))
      (answers (entries_of fetches) (Err refused.LogFull)) in
      IsSaid answer → Comes answer)
  entered_is op is true true said = cc
  entered_is op is true false said = record {
    op = op;
    accepted = is;
    number_is = (let same : number ≡ (c.volumes volume).operations + 1 = cc in same);
    object_is = (let same : object ≡ object_of op = cc in same);
    entries_are = refl;
  }
  entered_is op is false full said = cc

  answered_is : (r : Accepted) → accept (sight_of (behind_fetches c fetches) volume) volume ask ≡ r → IsSaid (answer_to (entries_of fetches) (c.volumes volume) time volume r) → Comes (answer_to (entries_of fetches) (c.volumes volume) time volume r)
  answered_is (Err why) is said = cc
  answered_is (Ok op) is said = entered_is op is (has_room (c.volumes volume) (next_record (c.volumes volume) time op)) (is_full (c.volumes volume)) said

  unless_is : (o : Option ℕ) → IsSaid (operate_unless o offers c time volume ask) → Comes (operate_unless o offers c time volume ask)
  unless_is (Some length) said = cc
  unless_is None said = answered_is (accept (sight_of (behind_fetches c fetches) volume) volume ask) refl said

  pub operation : IsSaid (operate offers c time volume ask) → Comes (operate offers c time volume ask)
  unfolding operate
  operation said = unless_is (too_big ask) said

-- ---- a line

-- what the line's operation does, whatever the client holds
abbrev DoesAlways : Task → ℕ → ℕ → Asked → Type 0
DoesAlways t client volume ask =
    (s : Sight) (own : ℕ) (rec : Record) → accept s volume ask ≡ Ok rec.op → DoesAsked (stamp own rec) t client volume s.held.nodes (applied s.held.nodes own rec) (object_of rec.op)

module _ (s : CellState) (Reaches : ℕ → ℕ → ℕ → Type 0) (number : ℕ) (object : Fid) where
  abbrev Was : Task → List Event → Type 0
  Was t events = WasPerformed Reaches t s.clients (after_all s events).clients s.replicas s.clock number object

  -- what an operation leaves of its client
  performed : (t : Task) (client volume : ℕ) → ((server : ℕ) → is_cut (s.links client server) ≡ false → Reaches client volume server) → (ask : Asked) (c : ClientState)
      → (let offers = offers_of s client volume in (answer : Answer) (x : Operation offers c s.clock volume ask number object answer) → DoesAlways t client volume ask
      → (let rec = next_record (c.volumes volume) s.clock x.op in
      IsPerformed (Reaches client volume) s.replicas t c (client_after_all (behind_fetches c (look_ups offers c.held volume ask)) (Did volume (Operated rec) ∷ [])) client volume s.clock number object))
  performed t client volume reach ask c answer x does =
      let offers = offers_of s client volume in
      let fetches = look_ups offers c.held volume ask in
      let rec = next_record (c.volumes volume) s.clock x.op in
      let sight = sight_of (behind_fetches c fetches) volume in
      let v = c.volumes volume in
      let kept : KeepsParents c.held (held_after_fetches c.held fetches) = keeps_look_ups (KeepsParents c.held) offers (keeps_look_parents c.held offers) c.held volume ask (keeps_own c.held) in
      record {
        before = (held_after_fetches c.held fetches).nodes;
        fetched = has_fetched s client volume (Reaches client volume) reach c.held fetches (keeps_look_ups (Keeps c.held.nodes) offers (keeps_look c.held.nodes offers) c.held volume ask (λ fid node is. is)) (fetched_is_offered offers c.held volume ask);
        after = applied sight.held.nodes c.number rec;
        done = subst (λ n. DoesAsked (record { client = c.number; number = n; time = s.clock }) t client volume sight.held.nodes (applied sight.held.nodes c.number rec) object) (sym x.number_is)
            (subst (DoesAsked (stamp c.number rec) t client volume sight.held.nodes (applied sight.held.nodes c.number rec)) (sym x.object_is) (does sight c.number rec x.accepted));
        others = subst (OthersStay sight.held.nodes (applied sight.held.nodes c.number rec)) (sym x.object_is) (others_stay sight volume c.number rec (accepted_relies sight volume ask x.op x.accepted));
        rec = rec;
        kept = ap pending (put_here c.volumes volume (record v { back = v.back ++ rec ∷ []; operations = rec.number; creations = v.creations + created_by rec.op })) ∙ sym (append_assoc v.front v.back (rec ∷ []));
        elsewhere = λ other ne. put_off c.volumes volume other (record v { back = v.back ++ rec ∷ []; operations = rec.number; creations = v.creations + created_by rec.op }) ne;
        number_is = sym x.number_is;
        time_is = refl;
        next = x.number_is;
        replays = refl;
        parents = sight.held.parents;
        own = kept.own;
        found = kept.found;
        holds = refl;
      }

  finished : (t : Task) (client volume : ℕ) (c new : ClientState) (entries : List ClientEntry) (events : List Event) → s.clients client ≡ Some c → events ≡ map_list (at_client client) entries
      → client_after_all c entries ≡ new → IsPerformed (Reaches client volume) s.replicas t c new client volume s.clock number object → Was t events
  finished t client volume c new entries events there happened entered performed = record {
    client = client;
    volume = volume;
    old = c;
    new = new;
    was = there;
    is = ap (λ (q : CellState). q.clients client) (ap (after_all s) happened ∙ after_client s client c entries there) ∙ put_here s.clients client (Some (client_after_all c entries)) ∙ ap Some entered;
    others = λ other ne. ap (λ (q : CellState). q.clients other) (ap (after_all s) happened ∙ after_client s client c entries there) ∙ put_off s.clients client other (Some (client_after_all c entries)) ne;
    performed = performed;
  }

  -- what a client is behind fetches and one more entry
  entered_behind : (c : ClientState) (fetches : List Fetch) (entry : ClientEntry) (entries : List ClientEntry) → entries ≡ entries_of fetches ++ entry ∷ [] → client_after_all c entries ≡ client_after_all (behind_fetches c fetches) (entry ∷ [])
  entered_behind c fetches entry entries are =
      ap (client_after_all c) are ∙ client_after_both c (entries_of fetches) (entry ∷ []) ∙ ap (λ b. client_after_all b (entry ∷ [])) (client_after_fetches c fetches)

  answered : (t : Task) (client volume : ℕ) → ((server : ℕ) → is_cut (s.links client server) ≡ false → Reaches client volume server) → (ask : Asked) (c : ClientState) (answer : Answer) (events : List Event) → Operation (offers_of s client volume) c s.clock volume ask number object answer → DoesAlways t client volume ask
      → s.clients client ≡ Some c → events ≡ map_list (at_client client) answer.entries → Was t events
  answered t client volume reach ask c answer events x does there happened =
      let fetches = look_ups (offers_of s client volume) c.held volume ask in
      let entry = Did volume (Operated (next_record (c.volumes volume) s.clock x.op)) in
      finished t client volume c (client_after_all (behind_fetches c fetches) (entry ∷ [])) answer.entries events there happened (entered_behind c fetches entry answer.entries x.entries_are) (performed t client volume reach ask c answer x does)

  never_refused : (why : Refused) → (let r : Reply = Done number object in r) ≡ refusal why → ⊥
  never_refused why is = cc

  operated : (t : Task) (client volume : ℕ) → ((server : ℕ) → is_cut (s.links client server) ≡ false → Reaches client volume server) → (ask : Asked) (o : Option Refused) (events : List Event) → DoesAlways t client volume ask
      → Unless o (ByClient s client volume (λ offers c. operate offers c s.clock volume ask)) (Done number object) events → Was t events
  operated t client volume reach ask (Some why) events does isnt = absurd (never_refused why isnt.0)
  operated t client volume reach ask None events does did =
      answered t client volume reach ask did.client (operate (offers_of s client volume) did.client s.clock volume ask) events (operation (offers_of s client volume) did.client s.clock volume ask number object did.answered) does did.there did.happened

  -- ---- lines that are never answered so

  abbrev IsDone : Said → Type 0
  IsDone said = (let r : Reply = Done number object in r) ≡ reply_to said

  not_read : (fetched : Bool) (kind : NodeKind) → IsDone (read_in fetched kind) → ⊥
  not_read fetched (File content) is = cc
  not_read fetched (Link target) is = cc
  not_read fetched (Dir entries) is = cc

  not_listed : (fetched : Bool) (kind : NodeKind) → IsDone (list_in fetched kind) → ⊥
  not_listed fetched (File content) is = cc
  not_listed fetched (Link target) is = cc
  not_listed fetched (Dir entries) is = cc

  not_shown : (show : Bool → NodeKind → Said) → ((fetched : Bool) (kind : NodeKind) → IsDone (show fetched kind) → ⊥) → (fetches : List Fetch) (nodes : Nodes) (r : Result Fid ClientRefused) → IsDone (shown_at show fetches nodes r) → ⊥
  not_shown show never fetches nodes (Err why) is = cc
  not_shown show never fetches nodes (Ok fid) is = by (map.get nodes fid) is
    where
      by : (o : Option Node) → IsDone (shown_as show (is_fetched fetches fid) o fid) → ⊥
      by None is = cc
      by (Some node) is = never (is_fetched fetches fid) node.kind is

  not_answered : (client volume : ℕ) (f : Freezing) (ruled : Ruling) (o : Result Taking Refused) → IsDone (answered_to client volume f ruled o).said → ⊥
  not_answered client volume f ruled (Err why) is = cc
  not_answered client volume f ruled (Ok took) is = cc

  not_ruled : (client volume : ℕ) (f : Freezing) (r : ReplicaState) (o : Result Ruling Refused) → IsDone (ruled_on client volume f r o).said → ⊥
  not_ruled client volume f r (Err why) is = cc
  not_ruled client volume f r (Ok ruled) is = not_answered client volume f ruled (taking f.number ruled.answer f.volume) is

  not_drained : (client volume : ℕ) (v : ClientVolume) (r : ReplicaState) (o : Result Freezing Refused) → IsDone (drained_of client volume v r o).said → ⊥
  not_drained client volume v r (Err why) is = cc
  not_drained client volume v r (Ok f) is = not_ruled client volume f r (ruling client f.number f.span r) is

  not_drain : (strength : Strength) (now window client volume : ℕ) (v : ClientVolume) (r : ReplicaState) → IsDone (drain strength now window client volume v r).said → ⊥
  not_drain Strong now window client volume v r is = not_drained client volume v r (freezing now window r.server v) is
  not_drain Weak now window client volume v r is = not_drained client volume v r (freezing now window r.server v) is
  not_drain Down now window client volume v r is = cc

  unless_never : (o : Option Refused) (own : Doing) (events : List Event) → (own (Done number object) events → ⊥) → Unless o own (Done number object) events → ⊥
  unless_never (Some why) own events never isnt = (let is = isnt.0 in cc)
  unless_never None own events never does = never does

  -- ---- each line

  task_was : (t : Task) (events : List Event) → ((client volume server : ℕ) → task_on t ≡ Some (client, volume) → is_cut (s.links client server) ≡ false → Reaches client volume server) → DoesTask s t (Done number object) events → Was t events
  task_was (task.Create client volume path mode owner) events reach does =
      operated (task.Create client volume path mode owner) client volume (λ server up. reach client volume server refl up) (Create path (unwrap_or mode 420) (unwrap_or owner 0)) (first_missing (on_volume s client volume)) events
      (λ sight own rec h. (refl, refl, created sight volume own rec path (unwrap_or mode 420) (unwrap_or owner 0) h)) does
  task_was (task.Mkdir client volume path mode owner) events reach does =
      operated (task.Mkdir client volume path mode owner) client volume (λ server up. reach client volume server refl up) (Mkdir path (unwrap_or mode 493) (unwrap_or owner 0)) (first_missing (on_volume s client volume)) events
      (λ sight own rec h. (refl, refl, made_dir sight volume own rec path (unwrap_or mode 493) (unwrap_or owner 0) h)) does
  task_was (task.Symlink client volume path target) events reach does =
      operated (task.Symlink client volume path target) client volume (λ server up. reach client volume server refl up) (Symlink path target) (first_missing (on_volume s client volume)) events
      (λ sight own rec h. (refl, refl, linked sight volume own rec path target h)) does
  task_was (task.Store client volume path content) events reach does =
      operated (task.Store client volume path content) client volume (λ server up. reach client volume server refl up) (Store path (bytes_of content)) (first_missing (on_volume s client volume)) events
      (λ sight own rec h. (refl, refl, subst (λ bytes. IsStored (stamp own rec) sight.held.nodes (applied sight.held.nodes own rec) volume path bytes (object_of rec.op)) (stores content) (stored sight volume own rec path (bytes_of content) h))) does
    where
      stores : (c : Content) → bytes_of c ≡ content_of c
      stores (Text text) = refl
      stores (Fill length byte) = refl
  task_was (task.Setattr client volume path attrs) events reach does =
      operated (task.Setattr client volume path attrs) client volume (λ server up. reach client volume server refl up) (Setattr path attrs) (first_missing (on_volume s client volume)) events
      (λ sight own rec h. (refl, refl, attributes_set sight volume own rec path attrs h)) does
  task_was (task.Remove client volume path) events reach does =
      operated (task.Remove client volume path) client volume (λ server up. reach client volume server refl up) (Remove path) (first_missing (on_volume s client volume)) events
      (λ sight own rec h. (refl, refl, removed sight volume own rec path h)) does
  task_was (task.Rmdir client volume path) events reach does =
      operated (task.Rmdir client volume path) client volume (λ server up. reach client volume server refl up) (Rmdir path) (first_missing (on_volume s client volume)) events
      (λ sight own rec h. (refl, refl, removed_dir sight volume own rec path h)) does
  task_was (task.Rename client volume from to) events reach does =
      operated (task.Rename client volume from to) client volume (λ server up. reach client volume server refl up) (Rename from to) (first_missing (on_volume s client volume)) events
      (λ sight own rec h. (refl, refl, renamed sight volume own rec from to h)) does
  task_was (task.Read client volume path) events reach does =
      absurd (unless_never (first_missing (on_volume s client volume)) (ByClient s client volume (λ offers c. read offers c volume path)) events (λ did. not_shown read_in not_read _ _ _ did.answered) does)
  task_was (task.List client volume path) events reach does =
      absurd (unless_never (first_missing (on_volume s client volume)) (ByClient s client volume (λ offers c. list offers c volume path)) events (λ did. not_shown list_in not_listed _ _ _ did.answered) does)
  task_was (task.Drain client volume server window) events reach does =
      absurd (unless_never (first_missing (on_holder s client volume server)) (ByBoth s client volume (unwrap_or window 600)) events
      (λ did. not_drain (s.links client did.replica.server) s.clock (unwrap_or window 600) client volume (did.client.volumes volume) did.replica did.answered) does)
  task_was (task.Hardlink client volume from to) events reach does = absurd does
  task_was (task.Refresh client volume server) events reach does = absurd does
  task_was (task.Giveup client volume) events reach does = absurd does

-- ---- a cell on disks

abbrev done : ℕ → Fid → Reply
done number object = Done number object

never_down : (number : ℕ) (object : Fid) → done number object ≡ refused_down → ⊥
never_down number object e = cc

never_full : (number : ℕ) (object : Fid) → done number object ≡ refused_full → ⊥
never_full number object e = cc

never_failed : (number : ℕ) (object : Fid) → done number object ≡ refused_fault → ⊥
never_failed number object e = cc

module _ (old new : Cell) (t : Task) (number : ℕ) (object : Fid) where
  abbrev IsLeft : Cell → Type 0
  IsLeft cell = WasPerformed (CanReach old) t (state_of old).clients (state_of cell).clients (state_of old).replicas old.clock number object

  all_done : (at : IsMet old (line.Task t)) (events : List Event) → Does (met old at.links) (line.Task t) (Done number object) events
      → ShowsAs (after_all (met old at.links) events) new → IsLeft new
  all_done at events does shows =
      subst (λ clients. WasPerformed (CanReach old) t (state_of old).clients clients (state_of old).replicas old.clock number object) (clients_as (after_all (met old at.links) events) new shows)
      (task_was (met old at.links) (CanReach old) number object t events (reaches old t at) does)

  ended : (reply : Reply) → reply ≡ Done number object → Ends old (line.Task t) reply new → IsLeft new
  ended reply done (WasDown down is same) = absurd (never_down number object (sym done ∙ is))
  ended reply done (DidAll at events does shows) = all_done at events (subst (λ r. Does (met old at.links) (line.Task t) r events) done does) shows
  ended reply done (LackedRoom at own events stop does shows is lacks same) = absurd (never_full number object (sym done ∙ is))
  ended reply done (HadFault at own events stop does shows is same) = absurd (never_failed number object (sym done ∙ is))

-- a client goes by its number
own_number : (cell : Cell) (client : ℕ) (c : ClientState) → (state_of cell).clients client ≡ Some c → c.number ≡ client
own_number cell client c e = by (asked (cell.clients client).life) e
  where
    by : (o : Option Header) → option_map (λ (header : Header). client_of client (cell.clients client).disk.history header.cache) o ≡ Some c → c.number ≡ client
    by None e = cc
    by (Some header) e =
        let same : client_of client (cell.clients client).disk.history header.cache ≡ c = cc in
        ap (λ (x : ClientState). x.number) (sym same) ∙ number_stays (new_client client header.cache) (cell.clients client).disk.history

pub operations_are_performed : OperationsArePerformed
operations_are_performed cell t number object answered new happens =
    let was = ended cell new t number object (Done number object) refl (line_ends cell (line.Task t) (Done number object) answered new refl happens) in
    (was, own_number cell was.client was.old was.was)
