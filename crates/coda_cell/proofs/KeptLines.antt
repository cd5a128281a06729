-- What each line does keeps a cell.
use Rattle.std.proofs.Common.{◌≡◌, ℕ, ◌+◌, ◌==◌, Bool, true, false, cond, List, [], ◌∷◌, ◌++◌, map, Option, Some, None, is_some, option_map, Result, Ok, Err, refl, sym, ap, ◌∙◌, subst, inl, inr, ◌⊎◌}
use Rattle.std.specs.Option.{option_and_then, option_map_or, unwrap_or}
use Rattle.std.proofs.lemmas.Bool.{eqb-true}
use Rattle.std.specs.FinMap as finite
use Rattle.coda_fid.specs.Fid.{root_of}
use Rattle.coda_fid.specs.declared.fid.Fid.{Fid}
use Rattle.coda_fid.specs.declared.op.Op.{Op}
use Rattle.coda_fid.specs.declared.op.Record.{Record}
use Rattle.coda_tree.specs.Bindings.{Name}
use Rattle.coda_tree.specs.Volume.{Nodes, has, child}
use Rattle.coda_script.specs.declared.line.Strength.{Strength}
use Rattle.coda_script.specs.declared.line.Strength.TheVariants.{Strong, Weak, Down}
use Rattle.coda_script.specs.declared.line.Task.{Task}
use Rattle.coda_script.specs.declared.line.Task.TheVariants as task
use Rattle.coda_script.specs.declared.line.Line.{Line}
use Rattle.coda_script.specs.declared.line.Line.TheVariants as line
use Rattle.coda_script.specs.declared.reply.Reply.{Reply}
use Rattle.coda_script.specs.declared.reply.Reply.TheVariants.{Done}
use Rattle.coda_plain.specs.Histories.{In}
use Rattle.coda_plain.specs.Deeds.{Operated, IsMade}
use Rattle.coda_plain.specs.Decisions.{nodes_of}
use Rattle.coda_plain.specs.Cell.{Did}
use Rattle.coda_plain.specs.Moves.{done_on}
use Rattle.coda_plain.proofs.Soundness.{none_joins}
use Rattle.coda_plain.proofs.Volumes.{volumes}
use Rattle.coda_venus.specs.Ask.{Asked, Create, Mkdir, Symlink, Store, Setattr, Remove, Rmdir, Rename, too_big, object_of}
use Rattle.coda_histories.specs.Forests.{IsForest}
use Rattle.coda_cell.specs.Held.{Fetch, AreUnderDirs, held_after_fetches}
use Rattle.coda_venus.specs.Held.{Held, held_after_fetch}
use Rattle.coda_cell.specs.Looking.{look, look_along, fetched, entries_of}
use Rattle.coda_cell.specs.State.{pending, ClientState, new_client, ReplicaState, new_replica, Event, VolumeMade, ClientMade, Ticked, LinkSet, Lost, at_client}
use Rattle.coda_cell.specs.Accepting.{sight_of}
use Rattle.coda_venus.specs.Accepting.{Accepted, accept}
use Rattle.coda_cell.specs.Asking.{Answer, answers, look_ups, behind_fetches, next_record, has_room, is_full, answer_to, operate_unless, operate, read, list}
use Rattle.coda_cell.specs.Kept.{AreWithin, AreChildrenKept, IsHolding}
use Rattle.coda_cell.specs.Made.{MadeCell, client_of, replica_of, state_of, grown, grown_all}
use Rattle.coda_letters.specs.Sent.{Sent, ChunkSent, AnswerSent, BreakSent, client_of as sender_of, server_of, is_lossy, sent_at}
use Rattle.coda_cell.specs.Messages.{sends, chunk_comes, answer_comes}
use Rattle.coda_cell.specs.Steps.{first_missing, on_volume, on_holder, client_named, volume_named, server_named, holder_named, no_volume, no_client, no_room, Doing, Unless, reached, offers_of, ByClient, ByBoth, BySend, ByRuling, ByTaking, bytes_of, Operates, DoesTask, Comes, link_down, Delivers, Loses, alone, Does}
use Rattle.coda_cell.specs.Sending.{Freezing, freezing, ruling, taking, drained_of, drained, drain}
use Rattle.coda_cell.specs.Runs.{IsKept, IsLeft, MakesNumbered, LinesKeepCells, LinesKeepFronts}
use Rattle.coda_cell.specs.Refused.{Refused}
use Rattle.coda_cell.specs.Refused as refused
use Rattle.coda_cell.proofs.Events.{are_there, all_there}
use Rattle.coda_cell.proofs.Fetches.{AreLookUps, along_looks_up, ask_looks_up, client_after_both, client_after_fetches}
use Rattle.coda_cell.proofs.Forests.{forest_look}
use Rattle.coda_cell.proofs.Histories.{nodes_are, server_stays}
use Rattle.coda_cell.proofs.KeptCells.{client_there, volume_left, client_left, ticked_left, linked_left}
use Rattle.coda_cell.proofs.KeptChildren.{kept_children_look}
use Rattle.coda_cell.proofs.KeptChunks.{gone, ruled_on_left}
use Rattle.coda_cell.proofs.KeptClients.{IsReplicated, the_client, fetches_left, operated_left}
use Rattle.coda_cell.proofs.KeptLetters.{IsWaiting, waits, lost_left, sends_left, chunk_comes_left, answer_comes_left}
use Rattle.coda_cell.proofs.Moving.{has_more, AreLeft, are_left_one, are_left_both, kept_behind, front_left, all_left}
use Rattle.coda_cell.proofs.Offered.{offered_look, held_look}
use Rattle.coda_cell.proofs.UnderDirs.{under_look}
use Rattle.coda_cell.proofs.Within.{within_look, binds_look}

reached_is : (strength : Strength) (r : ReplicaState) (nodes : Nodes) → reached strength r ≡ Some nodes → r.tree.nodes ≡ nodes
reached_is Strong r nodes e = cc
reached_is Weak r nodes e = cc
reached_is Down r nodes e = cc

-- the nodes that are offered are those of the volume's replica
pub record AreReplicated (cell : MadeCell) (volume : ℕ) (nodes : Nodes) : Type 0 where
  pub server : ℕ
  pub home : cell.homes volume ≡ Some server
  pub are : nodes_of volume (cell.acted.replicas server volume).history ≡ nodes

pub offered_are : (cell : MadeCell) (number volume : ℕ) (nodes : Nodes) → offers_of (state_of cell) number volume ≡ Some nodes → AreReplicated cell volume nodes
offered_are cell number volume nodes e = by (cell.homes volume) refl e
  where
    by : (o : Option ℕ) → cell.homes volume ≡ o → option_and_then (λ (r : ReplicaState). reached (cell.links number r.server) r) (option_map (replica_of (λ s. (cell.acted.replicas s volume).history) volume) o) ≡ Some nodes → AreReplicated cell volume nodes
    by None home is = cc
    by (Some server) home is =
        let r = replica_of (λ s. (cell.acted.replicas s volume).history) volume server in
        record { server = server; home = home; are = sym (nodes_are server volume (cell.acted.replicas server volume).history) ∙ reached_is (cell.links number r.server) r nodes is }

module _ (cell : MadeCell) (kept : IsKept cell) where
  -- objects of a replica are of its volume
  replica_within : (server volume : ℕ) → AreWithin (nodes_of volume (cell.acted.replicas server volume).history)
  replica_within server volume dir fid name bound =
      let agree = kept.sound.agree none_joins in
      let tree = (volumes volume (cell.acted.replicas server volume).history (agree.ruled server volume)).0.tree in
      (agree.held server volume fid (tree.there dir name fid bound)).0 ∙ sym (agree.held server volume dir (tree.from dir name fid bound)).0

  offered_within : (number volume : ℕ) (nodes : Nodes) → offers_of (state_of cell) number volume ≡ Some nodes → AreWithin nodes
  offered_within number volume nodes e = let r = offered_are cell number volume nodes e in subst AreWithin r.are (replica_within r.server volume)

  offered_made : (number volume : ℕ) (nodes : Nodes) (fid : Fid) → offers_of (state_of cell) number volume ≡ Some nodes → has nodes fid ≡ true → IsMade fid.volume (done_on cell.acted fid.vnode fid.volume) fid
  offered_made number volume nodes fid e is =
      let r = offered_are cell number volume nodes e in
      let made = (kept.sound.agree none_joins).held r.server volume fid (subst (λ m. has m fid ≡ true) (sym r.are) is) in
      subst (λ v. IsMade v (done_on cell.acted fid.vnode v) fid) (sym made.0) made

  offered_named : (number volume : ℕ) (nodes : Nodes) (dir kid : Fid) (name : Name) → offers_of (state_of cell) number volume ≡ Some nodes → child nodes dir name ≡ Some kid → IsMade kid.volume (done_on cell.acted kid.vnode kid.volume) kid
  offered_named number volume nodes dir kid name e bound =
      let r = offered_are cell number volume nodes e in
      let tree = (volumes volume (cell.acted.replicas r.server volume).history ((kept.sound.agree none_joins).ruled r.server volume)).0.tree in
      offered_made number volume nodes kid e (subst (λ m. has m kid ≡ true) r.are (tree.there dir name kid (subst (λ m. child m dir name ≡ Some kid) (sym r.are) bound)))

-- what fetches keep that a look-up comes to
record AreKeeping (offers : Option Nodes) (h : Held) (fetches : List Fetch) : Type 0 where
  pub under : AreWithin h.nodes → AreUnderDirs h → AreUnderDirs (held_after_fetches h fetches)
  pub forest : IsForest h → IsForest (held_after_fetches h fetches)
  pub within : ((nodes : Nodes) → offers ≡ Some nodes → AreWithin nodes) → AreWithin h.nodes → AreWithin (held_after_fetches h fetches).nodes
  pub had : (f : Fid) → has (held_after_fetches h fetches).nodes f ≡ true → (has h.nodes f ≡ true) ⊎ ((nodes : Nodes) × (offers ≡ Some nodes) × (has nodes f ≡ true))
  pub binds : (dir kid : Fid) (name : Name) → child (held_after_fetches h fetches).nodes dir name ≡ Some kid → (child h.nodes dir name ≡ Some kid) ⊎ ((nodes : Nodes) × (offers ≡ Some nodes) × (child nodes dir name ≡ Some kid))
  pub children : (run : List Record) → AreChildrenKept h.nodes run → AreChildrenKept (held_after_fetches h fetches).nodes run
  pub offered : (fetch : Fetch) → In fetch fetches → (nodes : Nodes) × (offers ≡ Some nodes) × (finite.get nodes fetch.fid ≡ Some fetch.node)

keeping : (offers : Option Nodes) (h : Held) (fid : Fid) → AreKeeping offers h (look offers h fid)
keeping offers h fid = record {
  under = under_look offers h fid;
  forest = forest_look offers h fid;
  within = λ o w. within_look offers o h fid w;
  had = λ f. held_look offers h f h fid (λ is. inl is);
  binds = λ dir kid name. binds_look offers h fid dir kid name;
  children = λ run. kept_children_look offers run h fid;
  offered = offered_look offers h fid;
}

map_both : {A B : Type 0} (f : A → B) (xs ys : List A) → map f (xs ++ ys) ≡ map f xs ++ map f ys
map_both f [] ys = refl
map_both f (x ∷ xs) ys = ap (λ l. f x ∷ l) (map_both f xs ys)

module _ (cell : MadeCell) (number blocks : ℕ) (kept : IsKept cell) (there : cell.sizes number ≡ Some blocks) (volume : ℕ) (fetch : Fetch) where
  abbrev looker : ClientState
  looker = the_client cell number blocks kept there

  abbrev can_see : Option Nodes
  can_see = offers_of (state_of cell) number volume

  -- a look-up keeps the cell
  fetch_left : look can_see looker.held fetch.fid ≡ fetch ∷ [] → IsLeft cell (at_client number (fetched fetch) ∷ [])
  fetch_left is = fetches_left cell number blocks kept there (fetch ∷ []) replicated (record {
    under = are.under holds.within holds.under;
    forest = are.forest holds.forest;
    within = are.within (offered_within cell kept number volume) holds.within;
    made = λ fid has_it. elim (are.had fid has_it) [ inl old ↦ holds.made fid old | inr new ↦ offered_made cell kept number volume new.0 fid new.1 new.2 ];
    named = λ dir kid name is. elim (are.binds dir kid name is) [ inl old ↦ holds.named dir kid name old | inr new ↦ offered_named cell kept number volume new.0 dir kid name new.1 new.2 ];
    kept = λ w. are.children (pending (looker.volumes w)) (holds.kept w);
  })
    where
      holds : IsHolding cell.acted looker
      holds = kept.holding number blocks there

      are : AreKeeping can_see looker.held (fetch ∷ [])
      are = subst (AreKeeping can_see looker.held) is (keeping can_see looker.held fetch.fid)

      replicated : (f : Fetch) → In f (fetch ∷ []) → IsReplicated cell.acted f
      replicated f i =
          let o = are.offered f i in
          let r = offered_are cell number volume o.0 o.1 in
          record { server = r.server; volume = volume; there = ap (λ m. finite.get m f.fid) r.are ∙ o.2 }

  -- what the client holds behind it
  held_behind : (client_of number ((grown cell (at_client number (fetched fetch))).acted.clients number).history blocks).held ≡ held_after_fetch looker.held fetch.fid fetch.parent fetch.node
  held_behind = ap (λ (c : ClientState). c.held)
      (ap (λ h. client_of number h blocks) (has_more cell number (fetched fetch ∷ [])).here ∙ client_after_both (new_client number blocks) (cell.acted.clients number).history (fetched fetch ∷ []))

-- look-ups keep it, each in turn
looked_left : (cell : MadeCell) (number blocks : ℕ) (kept : IsKept cell) (there : cell.sizes number ≡ Some blocks) (volume : ℕ) (fetches : List Fetch)
    → AreLookUps (offers_of (state_of cell) number volume) (the_client cell number blocks kept there).held fetches → AreLeft cell (map (at_client number) (entries_of fetches))
looked_left cell number blocks kept there volume [] are = kept
looked_left cell number blocks kept there volume (fetch ∷ fetches) are =
    let first = fetch_left cell number blocks kept there volume fetch are.0 in
    let next = grown cell (at_client number (fetched fetch)) in (
      first,
      looked_left next number blocks first.kept there volume fetches
          (subst (λ h. AreLookUps (offers_of (state_of cell) number volume) h fetches) (sym (held_behind cell number blocks kept there volume fetch)) are.1),
    )

module _ (cell : MadeCell) (number blocks : ℕ) (kept : IsKept cell) (there : cell.sizes number ≡ Some blocks) (volume : ℕ) where
  abbrev asker : ClientState
  asker = the_client cell number blocks kept there

  abbrev offers : Option Nodes
  offers = offers_of (state_of cell) number volume

  -- look-ups and an operation do
  module _ (server : ℕ) (homed : cell.homes volume ≡ Some server) (time : ℕ) (ask : Asked) where
    abbrev fetches : List Fetch
    fetches = look_ups offers asker.held volume ask

    abbrev behind : ClientState
    behind = behind_fetches asker fetches

    abbrev looked : MadeCell
    looked = grown_all cell (map (at_client number) (entries_of fetches))

    fetches_left_all : AreLeft cell (map (at_client number) (entries_of fetches))
    fetches_left_all = looked_left cell number blocks kept there volume fetches (ask_looks_up offers asker.held volume ask)

    behind_is : client_of number (looked.acted.clients number).history blocks ≡ behind
    behind_is = ap (λ h. client_of number h blocks) (has_more cell number (entries_of fetches)).here
        ∙ client_after_both (new_client number blocks) (cell.acted.clients number).history (entries_of fetches) ∙ client_after_fetches asker fetches

    operation_left : (op : Op) → accept (sight_of behind volume) volume ask ≡ Ok op → AreLeft cell (map (at_client number) (entries_of fetches ++ Did volume (Operated (next_record (asker.volumes volume) time op)) ∷ []))
    operation_left op accepted =
        let first = fetches_left_all in
        let more = has_more cell number (entries_of fetches) in
        let second = operated_left looked number blocks (kept_behind cell (map (at_client number) (entries_of fetches)) first) (ap (λ f. f number) more.sizes ∙ there) volume server (ap (λ f. f volume) more.homes ∙ homed) time ask op (ap (λ c. accept (sight_of c volume) volume ask) behind_is ∙ accepted) in
        subst (AreLeft cell) (sym (map_both (at_client number) (entries_of fetches) (Did volume (Operated (next_record (asker.volumes volume) time op)) ∷ [])))
        (are_left_both cell (map (at_client number) (entries_of fetches)) (at_client number (Did volume (Operated (next_record (asker.volumes volume) time op))) ∷ []) first
        (subst (λ (c : ClientState). AreLeft looked (at_client number (Did volume (Operated (next_record (c.volumes volume) time op))) ∷ [])) behind_is (are_left_one looked _ second)))

    entered_left : (op : Op) → accept (sight_of behind volume) volume ask ≡ Ok op → (room full : Bool)
        → (let rec = next_record (asker.volumes volume) time op in
        AreLeft cell (map (at_client number) (cond room (cond full (answers (entries_of fetches) (Err refused.JournalFull)) (answers (entries_of fetches ++ Did volume (Operated rec) ∷ []) (Ok (Done ((asker.volumes volume).operations + 1) (object_of op)))))
        (answers (entries_of fetches) (Err refused.LogFull))).entries))
    entered_left op accepted true true = fetches_left_all
    entered_left op accepted true false = operation_left op accepted
    entered_left op accepted false full = fetches_left_all

    answered_left : (r : Accepted) → accept (sight_of behind volume) volume ask ≡ r → AreLeft cell (map (at_client number) (answer_to (entries_of fetches) (asker.volumes volume) time volume r).entries)
    answered_left (Err why) is = fetches_left_all
    answered_left (Ok op) is = let rec = next_record (asker.volumes volume) time op in entered_left op is (has_room (asker.volumes volume) rec) (is_full (asker.volumes volume))

    unless_left : (o : Option ℕ) → AreLeft cell (map (at_client number) (operate_unless o offers asker time volume ask).entries)
    unless_left (Some length) = kept
    unless_left None = answered_left (accept (sight_of behind volume) volume ask) refl

    pub operate_left : AreLeft cell (map (at_client number) (operate offers asker time volume ask).entries)
    unfolding operate
    operate_left = unless_left (too_big ask)

module _ (cell : MadeCell) (number blocks : ℕ) (kept : IsKept cell) (there : cell.sizes number ≡ Some blocks) (volume server : ℕ) (homed : cell.homes volume ≡ Some server) (now window : ℕ) where
  abbrev sender : ClientState
  sender = client_of number (cell.acted.clients number).history blocks

  abbrev home : ReplicaState
  home = replica_of (λ s. (cell.acted.replicas s volume).history) volume server

  home_is : home.server ≡ server
  home_is = server_stays (new_replica server volume) (cell.acted.replicas server volume).history

  drained_left : (o : Result Freezing Refused) → freezing now window server (sender.volumes volume) ≡ o → AreLeft cell (drained_of number volume (sender.volumes volume) home o).events
  drained_left (Err why) is = kept
  drained_left (Ok f) is =
      ruled_on_left cell number blocks kept there volume server homed f (gone cell number blocks kept there volume server homed now window f is) home refl (ruling number f.number f.span home) refl

  home_left : AreLeft cell (drained now window number volume (sender.volumes volume) home).events
  home_left = drained_left (freezing now window home.server (sender.volumes volume)) (ap (λ s. freezing now window s (sender.volumes volume)) (sym home_is))

  drain_left : (strength : Strength) → AreLeft cell (drain strength now window number volume (sender.volumes volume) home).events
  drain_left Strong = home_left
  drain_left Weak = home_left
  drain_left Down = kept

module _ (cell : MadeCell) (kept : IsKept cell) where
  nothing_left : (events : List Event) → events ≡ [] → AreLeft cell events
  nothing_left events none = subst (AreLeft cell) (sym none) kept

  unless_own : (o : Option Refused) (own : Doing) (reply : Reply) (events : List Event) → (o ≡ None → own reply events → AreLeft cell events) → Unless o own reply events → AreLeft cell events
  unless_own (Some why) own reply events rest does = nothing_left events does.1
  unless_own None own reply events rest does = rest refl does

  pub replica_there : (volume : ℕ) (r : ReplicaState) → (state_of cell).replicas volume ≡ Some r → (server : ℕ) × (cell.homes volume ≡ Some server) × (replica_of (λ s. (cell.acted.replicas s volume).history) volume server ≡ r)
  replica_there volume r is = by (cell.homes volume) is
    where
      by : (o : Option ℕ) → option_map (replica_of (λ s. (cell.acted.replicas s volume).history) volume) o ≡ Some r → (server : ℕ) × (o ≡ Some server) × (replica_of (λ s. (cell.acted.replicas s volume).history) volume server ≡ r)
      by None e = cc
      by (Some server) e = (server, refl, cc)

  home_there : (volume : ℕ) → (volume_named (state_of cell) volume).there ≡ true → (server : ℕ) × (cell.homes volume ≡ Some server)
  home_there volume is = by (cell.homes volume) is
    where
      by : (o : Option ℕ) → is_some (option_map (replica_of (λ s. (cell.acted.replicas s volume).history) volume) o) ≡ true → (server : ℕ) × (o ≡ Some server)
      by None e = cc
      by (Some server) e = (server, refl)

  operates_left : (client volume : ℕ) (ask : Asked) (reply : Reply) (events : List Event) → Operates (state_of cell) client volume ask reply events → AreLeft cell events
  operates_left client volume ask reply events does =
      unless_own (first_missing (on_volume (state_of cell) client volume)) (ByClient (state_of cell) client volume (λ offers c. operate offers c cell.clock volume ask)) reply events (λ all did.
      let c = client_there cell kept client did.client did.there in
      let home = home_there volume (are_there (client_named (state_of cell) client) (volume_named (state_of cell) volume) all).1 in
      subst (AreLeft cell) (sym (did.happened ∙ ap (λ x. map (at_client client) (operate (offers_of (state_of cell) client volume) x cell.clock volume ask).entries) (sym c.2)))
      (operate_left cell client c.0 kept c.1 volume home.0 home.1 cell.clock ask)) does

  shows_left : (ask : Option Nodes → ClientState → Answer) (client volume : ℕ) (path : List Name) (reply : Reply) (events : List Event)
      → ((offers : Option Nodes) (c : ClientState) → (ask offers c).entries ≡ entries_of (look_along offers c.held (root_of volume) path))
      → Unless (first_missing (on_volume (state_of cell) client volume)) (ByClient (state_of cell) client volume ask) reply events → AreLeft cell events
  shows_left ask client volume path reply events looks does = unless_own (first_missing (on_volume (state_of cell) client volume)) (ByClient (state_of cell) client volume ask) reply events (λ all did.
      let c = client_there cell kept client did.client did.there in
      let offers = offers_of (state_of cell) client volume in
      let made = client_of client (cell.acted.clients client).history c.0 in
      subst (AreLeft cell) (sym (did.happened ∙ ap (λ x. map (at_client client) (ask offers x).entries) (sym c.2) ∙ ap (map (at_client client)) (looks offers made)))
      (looked_left cell client c.0 kept c.1 volume (look_along offers made.held (root_of volume) path) (along_looks_up offers made.held (root_of volume) path))) does

  both_left : (o : Option Refused) (client volume window : ℕ) (reply : Reply) (events : List Event) → Unless o (ByBoth (state_of cell) client volume window) reply events → AreLeft cell events
  both_left o client volume window reply events does = unless_own o (ByBoth (state_of cell) client volume window) reply events (λ all did.
      let c = client_there cell kept client did.client did.client_there in
      let r = replica_there volume did.replica did.replica_there in
      subst (AreLeft cell) (sym (did.happened ∙ (λ i. (drain (cell.links client (sym r.2 i).server) cell.clock window client volume ((sym c.2 i).volumes volume) (sym r.2 i)).events)))
      (drain_left cell client c.0 kept c.1 volume r.0 r.1 cell.clock window (cell.links client (replica_of (λ s. (cell.acted.replicas s volume).history) volume r.0).server))) does

  -- a server that holds a volume is the volume's own
  pub holder_there : (volume server : ℕ) → (holder_named (state_of cell) server volume).there ≡ true → cell.homes volume ≡ Some server
  holder_there volume server is = by (cell.homes volume) is
    where
      by : (o : Option ℕ) → option_map_or (λ (r : ReplicaState). r.server == server) (option_map (replica_of (λ s. (cell.acted.replicas s volume).history) volume) o) false ≡ true → o ≡ Some server
      by None e = cc
      by (Some home) e = ap Some (sym (server_stays (new_replica home volume) (cell.acted.replicas home volume).history) ∙ eqb-true (replica_of (λ s. (cell.acted.replicas s volume).history) volume home).server server e)

  -- and its replica is what its history leaves
  pub replica_is : (volume server : ℕ) (r : ReplicaState) → cell.homes volume ≡ Some server → (state_of cell).replicas volume ≡ Some r → replica_of (λ s. (cell.acted.replicas s volume).history) volume server ≡ r
  replica_is volume server r homed is = (let e = sym (ap (option_map (replica_of (λ s. (cell.acted.replicas s volume).history) volume)) homed) ∙ is in cc)

  pub homed : (client volume server : ℕ) → first_missing (on_holder (state_of cell) client volume server) ≡ None → cell.homes volume ≡ Some server
  homed client volume server all = holder_there volume server (all_there (client_named (state_of cell) client) (volume_named (state_of cell) volume) (holder_named (state_of cell) server volume) all).2

  send_left : (client volume server window : ℕ) (reply : Reply) (events : List Event) → Unless (first_missing (on_holder (state_of cell) client volume server)) (BySend (state_of cell) client volume server window) reply events → AreLeft cell events
  send_left client volume server window reply events does = unless_own (first_missing (on_holder (state_of cell) client volume server)) (BySend (state_of cell) client volume server window) reply events (λ all did.
      let c = client_there cell kept client did.client did.there in
      subst (AreLeft cell) (sym (did.happened ∙ ap (λ (x : ClientState). (sends (state_of cell) client volume server window (x.volumes volume)).events) (sym c.2)))
      (sends_left cell (state_of cell) client c.0 kept c.1 volume server (homed client volume server all) window)) does

  comes_left : (sent : Sent) (reply : Reply) (events : List Event) → IsWaiting cell.acted sent → Comes (state_of cell) sent reply events → AreLeft cell events
  comes_left (ChunkSent client server volume number span) reply events is does =
      unless_own (first_missing (on_holder (state_of cell) client volume server)) (ByRuling (state_of cell) client server volume number span) reply events (λ all did.
      let home = homed client volume server all in
      let same = replica_is volume server did.replica home did.there in
      subst (AreLeft cell) (sym (did.happened ∙ ap (λ x. (chunk_comes (state_of cell) client server volume number span x).events) (sym same)))
      (chunk_comes_left cell (state_of cell) kept volume server home client number span is (ruling client number span (replica_of (λ s. (cell.acted.replicas s volume).history) volume server)) refl)) does
  comes_left (AnswerSent server client volume number answer) reply events is does =
      unless_own (first_missing (on_holder (state_of cell) client volume server)) (ByTaking (state_of cell) client volume number answer) reply events (λ all did.
      let c = client_there cell kept client did.client did.there in
      subst (AreLeft cell) (sym (did.happened ∙ ap (λ (x : ClientState). (answer_comes client volume number answer (x.volumes volume)).events) (sym c.2)))
      (answer_comes_left cell client c.0 kept c.1 volume server (homed client volume server all) server number answer is (taking number answer ((client_of client (cell.acted.clients client).history c.0).volumes volume)) refl)) does
  comes_left (BreakSent server client volume fids) reply events is does = absurd is.said

  delivers_left : (message : ℕ) (o : Option Sent) (reply : Reply) (events : List Event) → sent_at message cell.waiting ≡ o → Delivers (state_of cell) message o reply events → AreLeft cell events
  delivers_left message None reply events e does = nothing_left events does.1
  delivers_left message (Some sent) reply events e does = unless_own (link_down (cell.links (sender_of sent) (server_of sent))) (Comes (state_of cell) sent) reply events
      (λ up did. comes_left sent reply events (waits cell.acted message cell.waiting sent kept.letters.pooled e) did) does

  loses_left : (message : ℕ) (o : Option Sent) (reply : Reply) (events : List Event) → Loses message o reply events → AreLeft cell events
  loses_left message None reply events does = nothing_left events does.1
  loses_left message (Some sent) reply events does = subst (AreLeft cell) (sym does.1) (by (is_lossy sent))
    where
      gone : IsLeft cell (Lost message ∷ [])
      gone = lost_left cell message kept

      by : (b : Bool) → AreLeft cell (Lost message ∷ cond b [] (LinkSet (sender_of sent) (server_of sent) Down ∷ []))
      by true = are_left_one cell (Lost message) gone
      by false = are_left_both cell (Lost message ∷ []) (LinkSet (sender_of sent) (server_of sent) Down ∷ []) (are_left_one cell (Lost message) gone)
          (are_left_one (grown cell (Lost message)) (LinkSet (sender_of sent) (server_of sent) Down) (linked_left (grown cell (Lost message)) (sender_of sent) (server_of sent) Down gone.kept))

  task_left : (t : Task) (reply : Reply) (events : List Event) → DoesTask (state_of cell) t reply events → AreLeft cell events
  task_left (task.Create client volume path mode owner) reply events does = operates_left client volume (Create path (unwrap_or mode 420) (unwrap_or owner 0)) reply events does
  task_left (task.Mkdir client volume path mode owner) reply events does = operates_left client volume (Mkdir path (unwrap_or mode 493) (unwrap_or owner 0)) reply events does
  task_left (task.Symlink client volume path target) reply events does = operates_left client volume (Symlink path target) reply events does
  task_left (task.Store client volume path content) reply events does = operates_left client volume (Store path (bytes_of content)) reply events does
  task_left (task.Setattr client volume path attrs) reply events does = operates_left client volume (Setattr path attrs) reply events does
  task_left (task.Remove client volume path) reply events does = operates_left client volume (Remove path) reply events does
  task_left (task.Rmdir client volume path) reply events does = operates_left client volume (Rmdir path) reply events does
  task_left (task.Rename client volume from to) reply events does = operates_left client volume (Rename from to) reply events does
  task_left (task.Read client volume path) reply events does = shows_left (λ offers c. read offers c volume path) client volume path reply events (λ offers c. refl) does
  task_left (task.List client volume path) reply events does = shows_left (λ offers c. list offers c volume path) client volume path reply events (λ offers c. refl) does
  task_left (task.Drain client volume server window) reply events does =
      both_left (first_missing (client_named (state_of cell) client ∷ volume_named (state_of cell) volume ∷ holder_named (state_of cell) server volume ∷ [])) client volume (unwrap_or window 600) reply events does
  task_left (task.Hardlink client volume from to) reply events does = absurd does
  task_left (task.Refresh client volume server) reply events does = absurd does
  task_left (task.Giveup client volume) reply events does = absurd does

  -- an actor that may be made isn't there
  not_there : (there full : Bool) → no_room there full ≡ None → there ≡ false
  not_there true full e = cc
  not_there false full e = refl

  no_home : (volume : ℕ) → is_some ((state_of cell).replicas volume) ≡ false → cell.homes volume ≡ None
  no_home volume is = by (cell.homes volume) is
    where
      by : (o : Option ℕ) → is_some (option_map (replica_of (λ s. (cell.acted.replicas s volume).history) volume) o) ≡ false → o ≡ None
      by None e = refl
      by (Some server) e = cc

  no_size : (client : ℕ) → is_some ((state_of cell).clients client) ≡ false → cell.sizes client ≡ None
  no_size client is = by (cell.sizes client) is
    where
      by : (o : Option ℕ) → is_some (option_map (client_of client (cell.acted.clients client).history) o) ≡ false → o ≡ None
      by None e = refl
      by (Some blocks) e = cc

  -- so do the events of a line, each in turn
  pub line_left : (said : Line) (reply : Reply) (events : List Event) → MakesNumbered said → Does (state_of cell) said reply events → AreLeft cell events
  line_left (line.Volume volume servers area) reply events numbered does = unless_own (no_volume (state_of cell) volume) _ reply events (λ free did.
      subst (AreLeft cell) (sym did.1) (are_left_one cell (VolumeMade volume (alone servers)) (volume_left cell volume (alone servers) kept (no_home volume (not_there (is_some ((state_of cell).replicas volume)) _ free))))) does
  line_left (line.Client client blocks area) reply events numbered does = unless_own (no_client (state_of cell) client) _ reply events (λ free did.
      subst (AreLeft cell) (sym did.1) (are_left_one cell (ClientMade client blocks) (client_left cell client blocks kept (no_size client (not_there (is_some ((state_of cell).clients client)) _ free)) numbered))) does
  line_left (line.Link client server strength) reply events numbered does =
      unless_own (first_missing (client_named (state_of cell) client ∷ server_named (state_of cell) server ∷ [])) _ reply events (λ all did. subst (AreLeft cell) (sym did.1) (are_left_one cell (LinkSet client server strength) (linked_left cell client server strength kept))) does
  line_left (line.Tick seconds) reply events numbered does = subst (AreLeft cell) (sym does.1) (are_left_one cell (Ticked seconds) (ticked_left cell seconds kept))
  line_left (line.Task t) reply events numbered does = task_left t reply events does
  line_left (line.ShowVolume server volume) reply events numbered does = unless_own (first_missing (holder_named (state_of cell) server volume ∷ [])) _ reply events (λ all did. nothing_left events did.1) does
  line_left (line.ShowLog client volume) reply events numbered does = unless_own (first_missing (on_volume (state_of cell) client volume)) _ reply events (λ all did. nothing_left events did.1) does
  line_left (line.ShowState client volume) reply events numbered does = unless_own (first_missing (on_volume (state_of cell) client volume)) _ reply events (λ all did. nothing_left events did.happened) does
  line_left (line.Send client volume server window) reply events numbered does = send_left client volume server (unwrap_or window 600) reply events does
  line_left (line.Deliver message) reply events numbered does = delivers_left message (sent_at message cell.waiting) reply events refl does
  line_left (line.Lose message) reply events numbered does = loses_left message (sent_at message cell.waiting) reply events does
  line_left _ reply events numbered does = absurd does

pub lines_keep_cells : LinesKeepCells
lines_keep_cells old said reply events kept numbered does = all_left old events kept (line_left old kept said reply events numbered does)

pub lines_keep_fronts : LinesKeepFronts
lines_keep_fronts old said reply done rest kept numbered does = front_left old done rest kept (line_left old kept said reply (done ++ rest) numbered does)
