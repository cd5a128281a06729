-- In which order a line is refused.
use Rattle.std.proofs.Common.{◌≡◌, ℕ, Bool, true, false, if◌then◌else◌, List, [], ◌∷◌, ◌++◌, ◌==◌, ◌||◌, ◌&&◌, not, is_some, Option, Some, None, Result, Ok, Err, refl, sym, ap, ◌∙◌, subst, ◌⊎◌, inl, inr}
use Rattle.std.specs.FinMap as map
use Rattle.std.specs.Option.{option_map_or, unwrap_or}
use Rattle.std.specs.Result.{result_err}
use Rattle.std.proofs.lemmas.Bool.{eqb-true}
use Rattle.coda_fid.specs.Fid.{same_fid, root_of}
use Rattle.coda_fid.specs.declared.fid.Fid.{Fid}
use Rattle.coda_fid.specs.declared.fid.Sid.{Sid}
use Rattle.coda_fid.specs.declared.op.Attrs.{Attrs}
use Rattle.coda_fid.specs.declared.op.Over.{Over}
use Rattle.coda_fid.specs.declared.op.Op.{Op}
use Rattle.coda_fid.specs.declared.op.Op.TheVariants.{Rename as RenameOp}
use Rattle.coda_tree.specs.declared.node.Node.{Node}
use Rattle.coda_tree.specs.declared.node.NodeKind.{NodeKind}
use Rattle.coda_tree.specs.declared.node.NodeKind.TheVariants.{File, Link, Dir}
use Rattle.coda_tree.specs.Bindings.{Name}
use Rattle.coda_tree.specs.Volume.{Nodes}
use Rattle.coda_script.specs.declared.line.Strength.TheVariants.{Down}
use Rattle.coda_script.specs.declared.line.Task.{Task}
use Rattle.coda_script.specs.declared.line.Task.TheVariants as task
use Rattle.coda_script.specs.declared.line.Line.{Line}
use Rattle.coda_script.specs.declared.line.Line.TheVariants as line
use Rattle.coda_script.specs.declared.reply.Reply.{Reply}
use Rattle.coda_venus.specs.Ask.{Asked, Create, Mkdir, Symlink, Store, Setattr, Remove, Rmdir, Rename, Ending, ending, too_big}
use Rattle.coda_venus.specs.Held.{is_below, some_below}
use Rattle.coda_cell.specs.Looking.{entries_of}
use Rattle.coda_venus.specs.Looking.{then_find, held, found, step_in, step_from, resolve}
use Rattle.coda_cell.specs.State.{ClientState, ReplicaState, CellState, Event}
use Rattle.coda_cell.specs.Accepting.{sight_of}
use Rattle.coda_venus.specs.Accepting.{Sight, Accepted, is_used_up, next_fid, unless_used, new_at, new_in, new_under, new_place, at_root, accept_creation, store_in, store_at, setattr_at, remove_in, remove_at, rmdir_of, rmdir_in, rmdir_at, held_bound, bound_in, bound_at, spot, place, is_dir_at, with_version, replaced_by, move_to, rename_to, rename_root, accept_rename, accept_remove, accept_rmdir, accept}
use Rattle.coda_cell.specs.Checks.{ask_checks, first_refusal}
use Rattle.coda_cell.proofs.Checked.{acceptance_goes_by_checks}
use Rattle.coda_cell.specs.Asking.{Said, answer_to, look_ups, behind_fetches, operate, operate_unless}
use Rattle.coda_cell.specs.Refusing.{client_refused_as, refusal}
use Rattle.coda_letters.specs.Sent.{Sent, client_of, server_of, sent_at}
use Rattle.coda_cell.specs.Messages.{over, sends_of}
use Rattle.coda_cell.specs.Steps.{Named, first_missing, on_holder, Doing, Unless, Naming, reply_to, ByBoth, BySend, Comes, link_down as no_way, Delivers, Loses, DoesTask, Does}
use Rattle.coda_cell.specs.Sending.{freezing, drain}
use Rattle.coda_cell.specs.Orders.{named_in, named_by, AreThere, RefusalsComeInOrder}
use Rattle.coda_venus.specs.declared.refused.Refused.{Refused as ClientRefused}
use Rattle.coda_venus.specs.declared.refused.Refused.TheVariants as client
use Rattle.coda_cell.specs.Refused.{Refused}
use Rattle.coda_cell.specs.Refused as refused

first_of : (front back : List Named) (n : Named) → AreThere front → n.there ≡ false → first_missing (front ++ n ∷ back) ≡ Some (refused.NoSuchActor n.number)
first_of [] back n all away = ap (λ b. if b then first_missing back else Some (refused.NoSuchActor n.number)) away
first_of (m ∷ front) back n all away = ap (λ b. if b then first_missing (front ++ n ∷ back) else Some (refused.NoSuchActor m.number)) all.0 ∙ first_of front back n all.1 away

all_there : (names : List Named) → AreThere names → first_missing names ≡ None
all_there [] all = refl
all_there (n ∷ names) all = ap (λ b. if b then first_missing names else Some (refused.NoSuchActor n.number)) all.0 ∙ all_there names all.1

none_named : (front back : List Named) (n : Named) → [] ≡ front ++ n ∷ back → ⊥
none_named [] back n e = cc
none_named (m ∷ front) back n e = cc

module _ (s : CellState) (reply : Reply) (events : List Event) (front back : List Named) (n : Named) (all : AreThere front) (away : n.there ≡ false) where
  abbrev IsRefused : Type 0
  IsRefused = (reply ≡ refusal (refused.NoSuchActor n.number)) × (events ≡ [])

  named : (names : List Named) (own : Doing) → Naming names own reply events → names ≡ front ++ n ∷ back → IsRefused
  named names own does e = subst (λ o. Unless o own reply events) (ap first_missing e ∙ first_of front back n all away) does

  task_missing : (t : Task) → DoesTask s t reply events → named_in s t ≡ front ++ n ∷ back → IsRefused
  task_missing (task.Create client volume path mode owner) does e = named _ _ does e
  task_missing (task.Mkdir client volume path mode owner) does e = named _ _ does e
  task_missing (task.Symlink client volume path target) does e = named _ _ does e
  task_missing (task.Store client volume path content) does e = named _ _ does e
  task_missing (task.Setattr client volume path attrs) does e = named _ _ does e
  task_missing (task.Remove client volume path) does e = named _ _ does e
  task_missing (task.Rmdir client volume path) does e = named _ _ does e
  task_missing (task.Rename client volume from to) does e = named _ _ does e
  task_missing (task.Read client volume path) does e = named _ _ does e
  task_missing (task.List client volume path) does e = named _ _ does e
  task_missing (task.Drain client volume server window) does e = named _ _ does e
  task_missing (task.Hardlink client volume from to) does e = absurd does
  task_missing (task.Refresh client volume server) does e = absurd does
  task_missing (task.Giveup client volume) does e = absurd does

  line_missing : (said : Line) → Does s said reply events → named_by s said ≡ front ++ n ∷ back → IsRefused
  line_missing (line.Volume volume servers area) does e = absurd (none_named front back n e)
  line_missing (line.Client client blocks area) does e = absurd (none_named front back n e)
  line_missing (line.Link client server strength) does e = named _ _ does e
  line_missing (line.Tick seconds) does e = absurd (none_named front back n e)
  line_missing (line.Task t) does e = task_missing t does e
  line_missing (line.ShowVolume server volume) does e = named _ _ does e
  line_missing (line.ShowLog client volume) does e = named _ _ does e
  line_missing (line.ShowState client volume) does e = named _ _ does e
  line_missing (line.Send client volume server window) does e = named _ _ does e
  line_missing (line.Deliver message) does e = absurd (none_named front back n e)
  line_missing (line.Lose message) does e = absurd (none_named front back n e)
  line_missing _ does e = absurd does

module _ (s : CellState) (client volume server : ℕ) (window : Option ℕ) (reply : Reply) (events : List Event) where
  link_down : Does s (line.Task (task.Drain client volume server window)) reply events → AreThere (named_in s (task.Drain client volume server window)) → s.links client server ≡ Down
      → (reply ≡ refusal refused.LinkDown) × (events ≡ [])
  link_down does all down =
      let both : ByBoth s client volume (unwrap_or window 600) reply events =
      subst (λ o. Unless o (ByBoth s client volume (unwrap_or window 600)) reply events) (all_there (named_in s (task.Drain client volume server window)) all) does in
      let holds : (both.replica.server == server) ≡ true = sym (ap (λ o. option_map_or (λ (r : ReplicaState). r.server == server) o false) both.replica_there) ∙ all.1.1.0 in
      let same : both.replica.server ≡ server = eqb-true both.replica.server server holds in
      let own : s.links client both.replica.server ≡ Down = ap (s.links client) same ∙ down in (
        both.answered ∙ (λ i. reply_to (drain (own i) s.clock (unwrap_or window 600) client volume (both.client.volumes volume) both.replica).said),
        both.happened ∙ (λ i. (drain (own i) s.clock (unwrap_or window 600) client volume (both.client.volumes volume) both.replica).events),
      )

  send_down : Does s (line.Send client volume server window) reply events → AreThere (on_holder s client volume server) → s.links client server ≡ Down → (reply ≡ refusal refused.LinkDown) × (events ≡ [])
  send_down does all down =
      let own : BySend s client volume server (unwrap_or window 600) reply events = subst (λ o. Unless o (BySend s client volume server (unwrap_or window 600)) reply events) (all_there (on_holder s client volume server) all) does in
      let frozen = freezing s.clock (unwrap_or window 600) server (own.client.volumes volume) in (
        own.answered ∙ (λ i. reply_to (sends_of s client volume server (over (down i) frozen)).said),
        own.happened ∙ (λ i. (sends_of s client volume server (over (down i) frozen)).events),
      )

module _ (s : CellState) (message : ℕ) (reply : Reply) (events : List Event) where
  letter_missed : sent_at message s.waiting ≡ None → Does s (line.Deliver message) reply events ⊎ Does s (line.Lose message) reply events → (reply ≡ refusal (refused.NoMessage message)) × (events ≡ [])
  letter_missed none (inl does) = subst (λ o. Delivers s message o reply events) none does
  letter_missed none (inr does) = subst (λ o. Loses message o reply events) none does

  letter_stopped : (sent : Sent) → sent_at message s.waiting ≡ Some sent → s.links (client_of sent) (server_of sent) ≡ Down → Does s (line.Deliver message) reply events → (reply ≡ refusal refused.LinkDown) × (events ≡ [])
  letter_stopped sent some down does = subst (λ strength. Unless (no_way strength) (Comes s sent) reply events) down (subst (λ o. Delivers s message o reply events) some does)

-- it isn't refused for a log that is full
abbrev IsElse : {A : Type 0} → Result A ClientRefused → Type 0
IsElse (Ok x) = Unit {0}
IsElse (Err client.LogFull) = ⊥
IsElse (Err why) = Unit {0}

then_else : {A B : Type 0} (r : Result A ClientRefused) (next : A → Result B ClientRefused) → IsElse r → ((x : A) → IsElse (next x)) → IsElse (then_find r next)
then_else (Ok x) next n m = m x
then_else (Err client.LogFull) next n m = n
then_else (Err client.Down) next n m = tt
then_else (Err (client.TooBig length)) next n m = tt
then_else (Err client.NotFound) next n m = tt
then_else (Err client.NotDir) next n m = tt
then_else (Err client.Exists) next n m = tt
then_else (Err client.IsDir) next n m = tt
then_else (Err client.NotFile) next n m = tt
then_else (Err client.NotEmpty) next n m = tt
then_else (Err client.Loop) next n m = tt
then_else (Err (client.Need fid)) next n m = tt
then_else (Err client.JournalFull) next n m = tt
then_else (Err client.DiskFault) next n m = tt
then_else (Err (client.Frozen number home)) next n m = tt
then_else (Err client.Nothing) next n m = tt
then_else (Err (client.Young age window)) next n m = tt
then_else (Err (client.NotFrozen number)) next n m = tt
then_else (Err (client.WrongNumber kept number)) next n m = tt
then_else (Err client.Memory) next n m = tt

held_else : (o : Option Node) (fid : Fid) → IsElse (held o fid)
held_else None fid = tt
held_else (Some node) fid = tt

found_else : (o : Option Fid) → IsElse (found o)
found_else None = tt
found_else (Some fid) = tt

kind_else : (kind : NodeKind) (name : Name) → IsElse (step_in kind name)
kind_else (File content) name = tt
kind_else (Link target) name = tt
kind_else (Dir entries) name = found_else (map.get entries name)

step_else : (o : Option Node) (at : Fid) (name : Name) → IsElse (step_from o at name)
step_else None at name = tt
step_else (Some node) at name = kind_else node.kind name

resolve_else : (m : Nodes) (at : Fid) (names : List Name) → IsElse (resolve m at names)
resolve_else m at [] = held_else (map.get m at) at
resolve_else m at (name ∷ names) = then_else (step_from (map.get m at) at name) (λ next. resolve m next names) (step_else (map.get m at) at name) (λ next. resolve_else m next names)

module _ (s : Sight) (volume : ℕ) where
  abbrev nodes : Nodes
  nodes = s.held.nodes

  used_else : (b : Bool) (fid : Fid) → IsElse (unless_used b fid)
  used_else true fid = tt
  used_else false fid = tt

  fid_else : (b : Bool) → IsElse (let r : Result Fid ClientRefused = if b then Err client.JournalFull else unless_used (is_some (map.get nodes (next_fid s volume))) (next_fid s volume) in r)
  fid_else true = tt
  fid_else false = used_else (is_some (map.get nodes (next_fid s volume))) (next_fid s volume)

  name_else : (o : Option Fid) → IsElse (new_at s volume o)
  name_else None = fid_else (is_used_up s)
  name_else (Some bound) = tt

  in_else : (kind : NodeKind) (name : Name) → IsElse (new_in s volume kind name)
  in_else (File content) name = tt
  in_else (Link target) name = tt
  in_else (Dir entries) name = name_else (map.get entries name)

  under_else : (o : Option Node) (dir : Fid) (name : Name) → IsElse (new_under s volume o dir name)
  under_else None dir name = tt
  under_else (Some node) dir name = in_else node.kind name

  root_else : (why : ClientRefused) → (let r : Accepted = Err why in IsElse r) → IsElse (at_root s volume why)
  root_else why n = then_else (held (map.get nodes (root_of volume)) (root_of volume)) (λ _. Err why) (held_else (map.get nodes (root_of volume)) (root_of volume)) (λ _. n)

  creation_else : (e : Ending) (make : Fid → Name → Fid → Op) → IsElse (accept_creation s volume e make)
  creation_else None make = root_else client.Exists tt
  creation_else (Some e) make =
      then_else (new_place s volume e) (λ p. Ok (make p.0 e.1 p.1))
      (then_else (resolve nodes (root_of volume) e.0) (λ dir. then_find (new_under s volume (map.get nodes dir) dir e.1) (λ fid. Ok (dir, fid))) (resolve_else nodes (root_of volume) e.0)
      (λ dir. then_else (new_under s volume (map.get nodes dir) dir e.1) (λ fid. Ok (dir, fid)) (under_else (map.get nodes dir) dir e.1) (λ fid. tt)))
      (λ p. tt)

  store_else : (o : Option Node) (fid : Fid) (content : List ℕ) → IsElse (store_at o fid content)
  store_else None fid content = tt
  store_else (Some node) fid content = by node.kind
    where
      by : (kind : NodeKind) → IsElse (store_in kind fid node.sid content)
      by (File old) = tt
      by (Link target) = tt
      by (Dir entries) = tt

  setattr_else : (o : Option Node) (fid : Fid) (attrs : Attrs) → IsElse (setattr_at o fid attrs)
  setattr_else None fid attrs = tt
  setattr_else (Some node) fid attrs = tt

  remove_else : (o : Option Node) (dir : Fid) (name : Name) (fid : Fid) → IsElse (remove_at o dir name fid)
  remove_else None dir name fid = tt
  remove_else (Some node) dir name fid = by node.kind
    where
      by : (kind : NodeKind) → IsElse (remove_in kind dir name fid node.sid)
      by (File content) = tt
      by (Link target) = tt
      by (Dir entries) = tt

  rmdir_of_else : (b : Bool) (dir : Fid) (name : Name) (fid : Fid) (pre : Sid) → IsElse (rmdir_of b dir name fid pre)
  rmdir_of_else true dir name fid pre = tt
  rmdir_of_else false dir name fid pre = tt

  rmdir_else : (o : Option Node) (dir : Fid) (name : Name) (fid : Fid) → IsElse (rmdir_at s o dir name fid)
  rmdir_else None dir name fid = tt
  rmdir_else (Some node) dir name fid = by node.kind
    where
      by : (kind : NodeKind) → IsElse (rmdir_in s kind dir name fid node.sid)
      by (File content) = tt
      by (Link target) = tt
      by (Dir entries) = rmdir_of_else ((map.len entries == 0) && not (some_below s.held s.is_dirty fid)) dir name fid node.sid

  spot_else : (e : List Name × Name) → IsElse (spot nodes volume e)
  spot_else e =
      then_else (resolve nodes (root_of volume) e.0) (λ dir. then_find (step_from (map.get nodes dir) dir e.1) (λ fid. then_find (held (map.get nodes fid) fid) (λ there. Ok (dir, there))))
      (resolve_else nodes (root_of volume) e.0)
      (λ dir. then_else (step_from (map.get nodes dir) dir e.1) (λ fid. then_find (held (map.get nodes fid) fid) (λ there. Ok (dir, there))) (step_else (map.get nodes dir) dir e.1)
      (λ fid. then_else (held (map.get nodes fid) fid) (λ there. Ok (dir, there)) (held_else (map.get nodes fid) fid) (λ there. tt)))

  bound_else : (o : Option Fid) → IsElse (held_bound nodes o)
  bound_else None = tt
  bound_else (Some fid) = then_else (held (map.get nodes fid) fid) (λ there. Ok (Some there)) (held_else (map.get nodes fid) fid) (λ there. tt)

  at_else : (o : Option Node) (dir : Fid) (name : Name) → IsElse (bound_at nodes o dir name)
  at_else None dir name = tt
  at_else (Some node) dir name = by node.kind
    where
      by : (kind : NodeKind) → IsElse (bound_in nodes kind name)
      by (File content) = tt
      by (Link target) = tt
      by (Dir entries) = bound_else (map.get entries name)

  place_else : (e : List Name × Name) → IsElse (place nodes volume e)
  place_else e =
      then_else (resolve nodes (root_of volume) e.0) (λ dir. then_find (bound_at nodes (map.get nodes dir) dir e.1) (λ bound. Ok (dir, bound))) (resolve_else nodes (root_of volume) e.0)
      (λ dir. then_else (bound_at nodes (map.get nodes dir) dir e.1) (λ bound. Ok (dir, bound)) (at_else (map.get nodes dir) dir e.1) (λ bound. tt))

  version_else : (o : Option Node) (old : Fid) → IsElse (with_version o old)
  version_else None old = tt
  version_else (Some node) old = tt

  over_else : (fid : Fid) (o : Option Fid) → IsElse (replaced_by nodes fid o)
  over_else fid None = tt
  over_else fid (Some old) = by (same_fid old fid || (is_dir_at (map.get nodes fid) || is_dir_at (map.get nodes old)))
    where
      by : (b : Bool) → IsElse (let r : Result (Option Over) ClientRefused = if b then Err client.Exists else with_version (map.get nodes old) old in r)
      by true = tt
      by false = version_else (map.get nodes old) old

  move_else : (from_dir : Fid) (from : Name) (fid : Fid) (to : Name) (p : Fid × Option Fid) → IsElse (move_to s.held from_dir from fid to p)
  move_else from_dir from fid to p = by (is_below s.held.parents p.0 fid)
    where
      by : (b : Bool) → IsElse (let r : Accepted = if b then Err client.Loop else then_find (replaced_by nodes fid p.1) (λ over. Ok (RenameOp from_dir from p.0 to fid over)) in r)
      by true = tt
      by false = then_else (replaced_by nodes fid p.1) (λ over. Ok (RenameOp from_dir from p.0 to fid over)) (over_else fid p.1) (λ over. tt)

  to_else : (from_dir : Fid) (from : Name) (fid : Fid) (e : Ending) → IsElse (rename_to s volume from_dir from fid e)
  to_else from_dir from fid None = root_else client.Exists tt
  to_else from_dir from fid (Some e) = then_else (place nodes volume e) (λ p. move_to s.held from_dir from fid e.1 p) (place_else e) (λ p. move_else from_dir from fid e.1 p)

  root_to_else : (e : Ending) → IsElse (rename_root s volume e)
  root_to_else None = root_else client.Loop tt
  root_to_else (Some e) = then_else (place nodes volume e) (λ p. Err client.Loop) (place_else e) (λ p. tt)

  rename_else : (e to : Ending) → IsElse (accept_rename s volume e to)
  rename_else None to = then_else (held (map.get nodes (root_of volume)) (root_of volume)) (λ _. rename_root s volume to) (held_else (map.get nodes (root_of volume)) (root_of volume)) (λ _. root_to_else to)
  rename_else (Some e) to = then_else (spot nodes volume e) (λ at. rename_to s volume at.0 e.1 at.1 to) (spot_else e) (λ at. to_else at.0 e.1 at.1 to)

  removal_else : (e : Ending) → IsElse (accept_remove s volume e)
  removal_else None = root_else client.IsDir tt
  removal_else (Some e) = then_else (spot nodes volume e) (λ at. remove_at (map.get nodes at.1) at.0 e.1 at.1) (spot_else e) (λ at. remove_else (map.get nodes at.1) at.0 e.1 at.1)

  removal_of_directory_else : (e : Ending) → IsElse (accept_rmdir s volume e)
  removal_of_directory_else None = root_else client.Loop tt
  removal_of_directory_else (Some e) = then_else (spot nodes volume e) (λ at. rmdir_at s (map.get nodes at.1) at.0 e.1 at.1) (spot_else e) (λ at. rmdir_else (map.get nodes at.1) at.0 e.1 at.1)

  accept_else : (ask : Asked) → IsElse (accept s volume ask)
  unfolding accept
  accept_else (Create path mode owner) = creation_else (ending path) _
  accept_else (Mkdir path mode owner) = creation_else (ending path) _
  accept_else (Symlink path target) = creation_else (ending path) _
  accept_else (Store path content) = then_else (resolve nodes (root_of volume) path) (λ fid. store_at (map.get nodes fid) fid content) (resolve_else nodes (root_of volume) path) (λ fid. store_else (map.get nodes fid) fid content)
  accept_else (Setattr path attrs) = then_else (resolve nodes (root_of volume) path) (λ fid. setattr_at (map.get nodes fid) fid attrs) (resolve_else nodes (root_of volume) path) (λ fid. setattr_else (map.get nodes fid) fid attrs)
  accept_else (Remove path) = removal_else (ending path)
  accept_else (Rmdir path) = removal_of_directory_else (ending path)
  accept_else (Rename from to) = rename_else (ending from) (ending to)

module _ (offers : Option Nodes) (c : ClientState) (time volume : ℕ) (ask : Asked) where
  abbrev accepted : Accepted
  accepted = accept (sight_of (behind_fetches c (look_ups offers c.held volume ask)) volume) volume ask

  too_large : (length : ℕ) → too_big ask ≡ Some length → (operate offers c time volume ask).said ≡ Err (refused.TooBig length)
  unfolding operate
  too_large length is = ap (λ o. (operate_unless o offers c time volume ask).said) is

  first_check : (why : ClientRefused) → too_big ask ≡ None → first_refusal (sight_of (behind_fetches c (look_ups offers c.held volume ask)) volume) volume (ask_checks ask) ≡ Some why → (operate offers c time volume ask).said ≡ Err (client_refused_as why)
  unfolding operate
  first_check why small first =
      ap (λ o. (operate_unless o offers c time volume ask).said) small
      ∙ by accepted (acceptance_goes_by_checks (sight_of (behind_fetches c (look_ups offers c.held volume ask)) volume) volume ask ∙ first)
    where
      some_why : (x y : ClientRefused) → Some x ≡ Some y → x ≡ y
      some_why x y e = cc

      by : (r : Accepted) → result_err r ≡ Some why → (answer_to (entries_of (look_ups offers c.held volume ask)) (c.volumes volume) time volume r).said ≡ Err (client_refused_as why)
      by (Ok op) e = cc
      by (Err other) e = ap (λ w. Err (client_refused_as w)) (some_why other why e)

  log_full : (operate offers c time volume ask).said ≡ Err refused.LogFull → (op : Op) × (accepted ≡ Ok op)
  unfolding operate
  log_full is = by (too_big ask) is
    where
      why_is : (why : ClientRefused) → (let r : Said = Err (client_refused_as why) in r) ≡ Err refused.LogFull → why ≡ client.LogFull
      why_is client.LogFull e = refl
      why_is client.Down e = cc
      why_is (client.TooBig length) e = cc
      why_is client.NotFound e = cc
      why_is client.NotDir e = cc
      why_is client.Exists e = cc
      why_is client.IsDir e = cc
      why_is client.NotFile e = cc
      why_is client.NotEmpty e = cc
      why_is client.Loop e = cc
      why_is (client.Need fid) e = cc
      why_is client.JournalFull e = cc
      why_is client.DiskFault e = cc
      why_is (client.Frozen number home) e = cc
      why_is client.Nothing e = cc
      why_is (client.Young age window) e = cc
      why_is (client.NotFrozen number) e = cc
      why_is (client.WrongNumber kept number) e = cc
      why_is client.Memory e = cc

      answers_full : (r : Accepted) → accepted ≡ r → (answer_to (entries_of (look_ups offers c.held volume ask)) (c.volumes volume) time volume r).said ≡ Err refused.LogFull → (op : Op) × (accepted ≡ Ok op)
      answers_full (Ok op) a e = (op, a)
      answers_full (Err why) a e =
          let full : accepted ≡ Err client.LogFull = a ∙ ap (λ w. Err w) (why_is why e) in
          absurd (subst IsElse full (accept_else (sight_of (behind_fetches c (look_ups offers c.held volume ask)) volume) volume ask))

      by : (o : Option ℕ) → (operate_unless o offers c time volume ask).said ≡ Err refused.LogFull → (op : Op) × (accepted ≡ Ok op)
      by (Some length) e = cc
      by None e = answers_full accepted refl e

pub refusals_come_in_order : RefusalsComeInOrder
refusals_come_in_order = record {
  missing = λ s said reply events front back n does e all away. line_missing s reply events front back n all away said does e;
  unreached = λ s client volume server window reply events does all down. link_down s client volume server window reply events does all down;
  unsent = λ s client volume server window reply events does all down. send_down s client volume server window reply events does all down;
  missed = λ s message reply events none does. letter_missed s message reply events none does;
  stopped = λ s message sent reply events some down does. letter_stopped s message reply events sent some down does;
  large = λ offers c time volume ask length is. too_large offers c time volume ask length is;
  checked = λ offers c time volume ask why small first. first_check offers c time volume ask why small first;
  full = λ offers c time volume ask is. log_full offers c time volume ask is;
}
