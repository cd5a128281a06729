-- A client misses only what it can't fetch.
use Rattle.std.proofs.Common.{◌≡◌, ℕ, Bool, true, false, cond, List, [], ◌∷◌, Option, Some, None, Result, Ok, Err, refl, sym, ap, subst, ◌∙◌, inl, inr}
use Rattle.std.specs.FinMap as map
use Rattle.std.specs.Option.{option_and_then, unwrap_or}
use Rattle.coda_fid.specs.Fid.{root_of}
use Rattle.coda_fid.specs.declared.fid.Fid.{Fid}
use Rattle.coda_tree.specs.declared.node.Node.{Node}
use Rattle.coda_tree.specs.declared.node.NodeKind.{NodeKind}
use Rattle.coda_tree.specs.declared.node.NodeKind.TheVariants.{File, Link, Dir}
use Rattle.coda_tree.specs.Bindings.{Name}
use Rattle.coda_tree.specs.Volume.{Nodes}
use Rattle.coda_script.specs.declared.line.Line.TheVariants as line
use Rattle.coda_script.specs.declared.line.Strength.{Strength}
use Rattle.coda_script.specs.declared.line.Strength.TheVariants.{Strong, Weak, Down}
use Rattle.coda_script.specs.declared.line.Task.{Task}
use Rattle.coda_script.specs.declared.line.Task.TheVariants as task
use Rattle.coda_script.specs.declared.reply.Reply.{Reply}
use Rattle.coda_script.specs.declared.reply.Reply.TheVariants.{Done}
use Rattle.coda_cell.specs.Accepting.{sight_of}
use Rattle.coda_venus.specs.Ask.{Asked, Create, Mkdir, Symlink, Store, Setattr, Remove, Rmdir, Rename}
use Rattle.coda_cell.specs.Asking.{Said, look_ups, behind_fetches, operate, shown_as, shown_at, show_object, read_in, list_in}
use Rattle.coda_cell.specs.Held.{Fetch, held_after_fetches}
use Rattle.coda_cell.specs.Looking.{offered, look_along, is_fetched}
use Rattle.coda_venus.specs.Looking.{resolve}
use Rattle.coda_venus.specs.declared.refused.Refused.{Refused as ClientRefused}
use Rattle.coda_cell.specs.Refusing.{client_refused_as}
use Rattle.coda_cell.specs.Refused.{Refused}
use Rattle.coda_cell.specs.Refused as refused
use Rattle.coda_cell.specs.Refusing.{refusal}
use Rattle.coda_cell.specs.State.{ClientVolume, ReplicaState, CellState, Event}
use Rattle.coda_cell.specs.Steps.{Named, Unless, first_missing, on_volume, reached, offers_of, reply_to, ByClient, bytes_of, Does}
use Rattle.coda_shelves.specs.Cells.{Cell, state_of}
use Rattle.coda_shelves.specs.Lines.{is_cut, links_to, refused_down, refused_full, refused_fault}
use Rattle.coda_runs.specs.Performed.{CanReach}
use Rattle.coda_runs.specs.Causes.{named_by, IsFull, LogIsFull, JournalIsFull, MissesAreUnreachable}
use Rattle.coda_runs.proofs.Causes.{way_cause, unheld_at}
use Rattle.coda_runs.proofs.Meeting.{met, IsMet, Ends, WasDown, DidAll, LackedRoom, HadFault, line_ends}
use Rattle.coda_runs.proofs.Missing.{way_so, asked_so, looks_for}
use Rattle.coda_runs.proofs.Performed.{leads}
use Rattle.coda_runs.proofs.Refused.{IsDone, IsRefused, IsTooBig, outcome, at_named}
use Rattle.coda_runs.proofs.Sought.{AreSought, looks_along}

-- ---- what is answered

is_miss_of : (fid : Fid) (why : Refused) → refusal (refused.Miss fid) ≡ refusal why → why ≡ refused.Miss fid
is_miss_of fid refused.NotFound is = cc
is_miss_of fid refused.NotDir is = cc
is_miss_of fid refused.LogFull is = cc
is_miss_of fid refused.Nothing is = cc
is_miss_of fid (refused.Young a b) is = cc
is_miss_of fid (refused.Frozen a b) is = cc
is_miss_of fid (refused.NotFrozen a) is = cc
is_miss_of fid (refused.WrongNumber a b) is = cc
is_miss_of fid refused.JournalFull is = cc
is_miss_of fid refused.Exists is = cc
is_miss_of fid refused.IsDir is = cc
is_miss_of fid refused.NotEmpty is = cc
is_miss_of fid refused.Loop is = cc
is_miss_of fid (refused.Miss a) is = cc
is_miss_of fid (refused.TooBig a) is = cc
is_miss_of fid refused.LinkDown is = cc
is_miss_of fid (refused.NoSuchActor a) is = cc
is_miss_of fid refused.AlreadyThere is = cc
is_miss_of fid refused.CellFull is = cc
is_miss_of fid refused.NotFile is = cc
is_miss_of fid (refused.NoMessage a) is = cc
is_miss_of fid (refused.BadMessage a) is = cc
is_miss_of fid refused.Memory is = cc

none_missing : (names : List Named) (fid : Fid) (why : Refused) → first_missing names ≡ Some why → why ≡ refused.Miss fid → ⊥
none_missing [] fid why is same = cc
none_missing (n ∷ names) fid why is same = by n.there (λ h. none_missing names fid why h same) is
  where
    by : (b : Bool) → (first_missing names ≡ Some why → ⊥) → cond b (first_missing names) (Some (refused.NoSuchActor n.number)) ≡ Some why → ⊥
    by true on h = on h
    by false on h = (let other : refused.NoSuchActor n.number ≡ why = cc in let no : refused.NoSuchActor n.number ≡ refused.Miss fid = other ∙ same in cc)

abbrev ShowsAll : (Bool → NodeKind → Said) → Type 0
ShowsAll show = (fid : Fid) (fetched : Bool) (kind : NodeKind) → refusal (refused.Miss fid) ≡ reply_to (show fetched kind) → ⊥

reads_all : ShowsAll read_in
reads_all fid fetched (File content) is = cc
reads_all fid fetched (Link target) is = cc
reads_all fid fetched (Dir entries) is = cc

lists_all : ShowsAll list_in
lists_all fid fetched (File content) is = cc
lists_all fid fetched (Link target) is = cc
lists_all fid fetched (Dir entries) is = cc

module _ (s : CellState) (events : List Event) (fid : Fid) where
  shown : (client volume : ℕ) (path : List Name) (show : Bool → NodeKind → Said) → ShowsAll show → (o : Option Refused) → first_missing (on_volume s client volume) ≡ o
      → Unless o (ByClient s client volume (λ offers c. show_object show offers c.held volume path)) (refusal (refused.Miss fid)) events → offered (offers_of s client volume) fid ≡ None
  shown client volume path show all (Some why) missing isnt = absurd (none_missing (on_volume s client volume) fid why missing (is_miss_of fid why isnt.0))
  shown client volume path show all None missing did =
      let offers = offers_of s client volume in
      let h = did.client.held in
      let fetches = look_along offers h (root_of volume) path in
      let m = (held_after_fetches h fetches).nodes in
      by m fetches (looks_along offers h (root_of volume) path).sought (resolve m (root_of volume) path) refl did.answered
    where
      by_node : (m : Nodes) (fetched : Bool) (at : Fid) → AreSought (offers_of s client volume) m (root_of volume) path → resolve m (root_of volume) path ≡ Ok at → (o : Option Node) → map.get m at ≡ o → refusal (refused.Miss fid) ≡ reply_to (shown_as show fetched o at)
          → offered (offers_of s client volume) fid ≡ None
      by_node m fetched at sought is None none answered =
          way_so (offers_of s client volume) m (root_of volume) path fid (refused.Miss at) sought (unheld_at m (root_of volume) path at (refused.Miss at) (leads m (root_of volume) path at is) refl none) (is_miss_of fid (refused.Miss at) answered)
      by_node m fetched at sought is (Some node) there answered = absurd (all fid fetched node.kind answered)

      by : (m : Nodes) (fetches : List Fetch) → AreSought (offers_of s client volume) m (root_of volume) path → (r : Result Fid ClientRefused) → resolve m (root_of volume) path ≡ r → refusal (refused.Miss fid) ≡ reply_to (shown_at show fetches m r) → offered (offers_of s client volume) fid ≡ None
      by m fetches sought (Err why) e is = way_so (offers_of s client volume) m (root_of volume) path fid (client_refused_as why) sought (way_cause m (root_of volume) path why e) (is_miss_of fid (client_refused_as why) is)
      by m fetches sought (Ok at) e is = by_node m (is_fetched fetches at) at sought e (map.get m at) refl is

  not_full : (v : ClientVolume) (why : Refused) → why ≡ refused.Miss fid → IsFull v why → ⊥
  not_full v why miss (LogIsFull is full) = (let no : refused.LogFull ≡ refused.Miss fid = sym is ∙ miss in cc)
  not_full v why miss (JournalIsFull is full) = (let no : refused.JournalFull ≡ refused.Miss fid = sym is ∙ miss in cc)

  operated : (client volume : ℕ) (ask : Asked) (o : Option Refused) → first_missing (on_volume s client volume) ≡ o
      → Unless o (ByClient s client volume (λ offers c. operate offers c s.clock volume ask)) (refusal (refused.Miss fid)) events → offered (offers_of s client volume) fid ≡ None
  operated client volume ask (Some why) missing isnt = absurd (none_missing (on_volume s client volume) fid why missing (is_miss_of fid why isnt.0))
  operated client volume ask None missing did =
      let offers = offers_of s client volume in
      let c = did.client in
      let sight = sight_of (behind_fetches c (look_ups offers c.held volume ask)) volume in
      elim (outcome offers c s.clock volume ask) [
        | IsDone number object said ↦ (let no : refusal (refused.Miss fid) ≡ Done number object = did.answered ∙ ap reply_to said in cc)
        | IsRefused why said entries cause ↦ (
            let miss = is_miss_of fid why (did.answered ∙ ap reply_to said) in
            elim cause [
              | inl isnt ↦ asked_so offers sight volume fid isnt.0 (sym isnt.1 ∙ miss) ask (looks_for offers c.held volume ask) isnt.2
              | inr full ↦ absurd (not_full (c.volumes volume) why miss full)
            ]
            )
        | IsTooBig length said entries big ↦ (let no : refused.TooBig length ≡ refused.Miss fid = is_miss_of fid (refused.TooBig length) (did.answered ∙ ap reply_to said) in cc)
      ]

served_by : (strengths : ℕ → Strength) (o : Option ReplicaState) (r : ReplicaState) → o ≡ Some r → is_cut (strengths r.server) ≡ false → option_and_then (λ (q : ReplicaState). reached (strengths q.server) q) o ≡ Some r.tree.nodes
served_by strengths o r is up = ap (λ (x : Option ReplicaState). option_and_then (λ (q : ReplicaState). reached (strengths q.server) q) x) is ∙ by (strengths r.server) up
  where
    by : (strength : Strength) → is_cut strength ≡ false → reached strength r ≡ Some r.tree.nodes
    by Strong e = refl
    by Weak e = refl
    by Down e = cc

up_there : (cell : Cell) (client volume server : ℕ) → CanReach cell client volume server → is_cut (links_to cell volume client server) ≡ false
up_there cell client volume server can = ap (λ b. is_cut (cond b Down (cell.links client server))) can.1 ∙ can.0

module _ (cell : Cell) (client volume : ℕ) (fid : Fid) (r : ReplicaState) (there_is : (state_of cell).replicas volume ≡ Some r) (can : CanReach cell client volume r.server) where
  -- what is offered over these links is what the server has
  isnt_there : (links : ℕ → ℕ → Strength) → links_to cell volume ≡ links → offered (offers_of (met cell links) client volume) fid ≡ None → map.get r.tree.nodes fid ≡ None
  isnt_there links is none =
      let up : is_cut (links client r.server) ≡ false = ap (λ (l : ℕ → ℕ → Strength). is_cut (l client r.server)) (sym is) ∙ up_there cell client volume r.server can in
      sym (ap (λ (x : Option Nodes). offered x fid) (served_by (links client) ((state_of cell).replicas volume) r there_is up)) ∙ none

  -- over these links the client was asked to operate on the volume, or to show an object
  abbrev DidOperate : (ℕ → ℕ → Strength) → List Event → Asked → ℕ → ℕ → Type 0
  DidOperate links events ask c v =
      (links_to cell v ≡ links) × Unless (first_missing (on_volume (met cell links) c v)) (ByClient (met cell links) c v (λ offers k. operate offers k (met cell links).clock v ask)) (refusal (refused.Miss fid)) events

  abbrev DidShow : (ℕ → ℕ → Strength) → List Event → List Name → (Bool → NodeKind → Said) → ℕ → ℕ → Type 0
  DidShow links events path show c v =
      (links_to cell v ≡ links) × Unless (first_missing (on_volume (met cell links) c v)) (ByClient (met cell links) c v (λ offers k. show_object show offers k.held v path)) (refusal (refused.Miss fid)) events

  operating : (c v : ℕ) (q : ℕ → ℕ → Strength) (events : List Event) (ask : Asked) → (let named : ℕ × ℕ = (c, v) in Some named ≡ Some (client, volume)) → DidOperate q events ask c v → map.get r.tree.nodes fid ≡ None
  operating c v links events ask named does =
      let did = at_named c v client volume (DidOperate links events ask) named does in
      isnt_there links did.0 (operated (met cell links) events fid client volume ask (first_missing (on_volume (met cell links) client volume)) refl did.1)

  showing : (c v : ℕ) (q : ℕ → ℕ → Strength) (events : List Event) (path : List Name) (show : Bool → NodeKind → Said) → ShowsAll show → (let named : ℕ × ℕ = (c, v) in Some named ≡ Some (client, volume)) → DidShow q events path show c v → map.get r.tree.nodes fid ≡ None
  showing c v links events path show all named does =
      let did = at_named c v client volume (DidShow links events path show) named does in
      isnt_there links did.0 (shown (met cell links) events fid client volume path show all (first_missing (on_volume (met cell links) client volume)) refl did.1)

  task_so : (t : Task) (q : IsMet cell (line.Task t)) (events : List Event) → Does (met cell q.links) (line.Task t) (refusal (refused.Miss fid)) events → named_by t ≡ Some (client, volume) → map.get r.tree.nodes fid ≡ None
  task_so (task.Create c v path mode owner) q events does named = operating c v q.links events (Create path (unwrap_or mode 420) (unwrap_or owner 0)) named (ap (λ (s : CellState). s.links) q.is, does)
  task_so (task.Mkdir c v path mode owner) q events does named = operating c v q.links events (Mkdir path (unwrap_or mode 493) (unwrap_or owner 0)) named (ap (λ (s : CellState). s.links) q.is, does)
  task_so (task.Symlink c v path target) q events does named = operating c v q.links events (Symlink path target) named (ap (λ (s : CellState). s.links) q.is, does)
  task_so (task.Store c v path content) q events does named = operating c v q.links events (Store path (bytes_of content)) named (ap (λ (s : CellState). s.links) q.is, does)
  task_so (task.Setattr c v path attrs) q events does named = operating c v q.links events (Setattr path attrs) named (ap (λ (s : CellState). s.links) q.is, does)
  task_so (task.Remove c v path) q events does named = operating c v q.links events (Remove path) named (ap (λ (s : CellState). s.links) q.is, does)
  task_so (task.Rmdir c v path) q events does named = operating c v q.links events (Rmdir path) named (ap (λ (s : CellState). s.links) q.is, does)
  task_so (task.Rename c v from to) q events does named = operating c v q.links events (Rename from to) named (ap (λ (s : CellState). s.links) q.is, does)
  task_so (task.Read c v path) q events does named = showing c v q.links events path read_in reads_all named (ap (λ (s : CellState). s.links) q.is, does)
  task_so (task.List c v path) q events does named = showing c v q.links events path list_in lists_all named (ap (λ (s : CellState). s.links) q.is, does)
  task_so (task.Drain c v server window) q events does named = cc
  task_so (task.Hardlink c v from to) q events does named = cc
  task_so (task.Refresh c v server) q events does named = cc
  task_so (task.Giveup c v) q events does named = cc

  ended : (t : Task) (reply : Reply) (new : Cell) → reply ≡ refusal (refused.Miss fid) → named_by t ≡ Some (client, volume) → Ends cell (line.Task t) reply new → map.get r.tree.nodes fid ≡ None
  ended t reply new miss named (WasDown down is same) = (let no : refusal (refused.Miss fid) ≡ refused_down = sym miss ∙ is in cc)
  ended t reply new miss named (LackedRoom at own events stop does shows is lacks same) = (let no : refusal (refused.Miss fid) ≡ refused_full = sym miss ∙ is in cc)
  ended t reply new miss named (HadFault at own events stop does shows is same) = (let no : refusal (refused.Miss fid) ≡ refused_fault = sym miss ∙ is in cc)
  ended t reply new miss named (DidAll at events does shows) = task_so t at events (subst (λ x. Does (met cell at.links) (line.Task t) x events) miss does) named

pub missed_objects_are_out_of_reach : MissesAreUnreachable
missed_objects_are_out_of_reach cell t client volume fid outside new named happens r there_is can =
    ended cell client volume fid r there_is can t (refusal (refused.Miss fid)) new refl named (line_ends cell (line.Task t) (refusal (refused.Miss fid)) outside new refl happens)
