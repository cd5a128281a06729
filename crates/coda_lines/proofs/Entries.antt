-- What a client enters into its history for a step of a call keeps the cell, and the client works on.
use Rattle.std.proofs.Common.{◌≡◌, ℕ, cond, List, [], ◌∷◌, ◌++◌, Option, Some, option_map, Ok, refl, sym, ap, ◌∙◌, subst, true}
use Rattle.std.proofs.lemmas.Bool.{eq-eqb, false_from_ne_true}
use Rattle.coda_fid.specs.declared.fid.Fid.{Fid}
use Rattle.coda_fid.specs.declared.op.Record.{Record}
use Rattle.coda_tree.specs.declared.node.Node.{Node}
use Rattle.coda_tree.specs.Volume.{has}
use Rattle.coda_cml.specs.Steady.{IsSteady}
use Rattle.coda_plain.specs.Cell.{ClientEntry, Fetched, Did, deed_on, deeds_of}
use Rattle.coda_plain.specs.Deeds.{Operated, full_of}
use Rattle.coda_plain.specs.Moves.{Does, AtClient, MayEnter as MayCome, Moved, done_on}
use Rattle.coda_record.specs.declared.entry.ClientEntry.{ClientEntry as KeptEntry}
use Rattle.coda_record.specs.declared.entry.ClientEntry.TheVariants as kept
use Rattle.coda_venus.specs.Accepting.{accept}
use Rattle.coda_venus.specs.History.{MayEnterAll, MayOperate}
use Rattle.coda_venus.specs.Held.{Held}
use Rattle.coda_venus.specs.Rounds.{RoundStep, Installed, Performed, Sources, dropping, serving_after, parent_of_fetched}
use Rattle.coda_venus.specs.Serving.{ServingClient}
use Rattle.coda_venus.specs.State.{ClientState as Client, client_after_all as serving_client_after_all}
use Rattle.coda_venus.proofs.Accepted.{accepted_relies}
use Rattle.coda_cell.specs.Accepting.{is_mentioned, sight_of}
use Rattle.coda_cell.specs.Asking.{next_record}
use Rattle.coda_histories.specs.Forests.{IsForest}
use Rattle.coda_cell.specs.Held.{AreUnderDirs, held_after_drops}
use Rattle.coda_cell.specs.Kept.{IsHolding}
use Rattle.coda_cell.specs.Laws.{IsClean, MayReplace}
use Rattle.coda_cell.specs.Made.{MadeCell, client_of, state_of, grown}
use Rattle.coda_cell.specs.Runs.{IsLeft}
use Rattle.coda_cell.specs.State.{pending, ClientState, at_client, client_after, new_client}
use Rattle.coda_cell.proofs.Histories.{number_stays}
use Rattle.coda_cell.proofs.KeptCells.{lawful}
use Rattle.coda_cell.proofs.KeptClients.{holding_on, entry_left, operation_may, operation_holding}
use Rattle.coda_cell.proofs.Moving.{has_more, done_here}
use Rattle.coda_cell.proofs.NamedObjects.{accepted_names}
use Rattle.coda_creations.specs.Kinds.{AreAsMade}
use Rattle.coda_creations.proofs.KindsHeld.{EntryGoesByDirs, relied_dirs, held_kind, held_same}
use Rattle.coda_creations.proofs.KindsKept.{GoesByDirs}
use Rattle.coda_creations.proofs.KindsMade.{GoesByKinds, event_as_made}
use Rattle.coda_creations.proofs.OneKind.{lines_keep}
use Rattle.coda_matching.specs.Clients.{payload_by}
use Rattle.coda_matching.proofs.Histories.{steady_of}
use Rattle.coda_rounds.specs.Readiness.{IsAtWork, MayStep}
use Rattle.coda_rounds.proofs.DroppedBelow.{dropped_clean}
use Rattle.coda_rounds.proofs.Readiness.{clients_stay_ready}
use Rattle.coda_lines.specs.Clients.{as_client, serving_client, sources_of}
use Rattle.coda_lines.specs.Lines.{making_room}
use Rattle.coda_lines.specs.Working.{client_in, HaveRuns, IsFetchedFairly, DropsWhatIsClean, IsFairEntry, IsWorking}
use Rattle.coda_lines.proofs.AsClients.{runs_after, as_after, without_gone, as_dropped, room_after, room_payload}
use Rattle.coda_lines.proofs.Holding.{may_first, may_rest, fetched_kinds, operated_kinds, last_of_volume, fetched_volume, drops_holding, replaces_left, fetched_holding, fetch_clean}
use Rattle.coda_lines.proofs.Sources.{source_is, of_history, given_made}

-- an entry of a client that is what a step enters
pub record EntersStep (cell : MadeCell) (number blocks : ℕ) (sources : Sources) (s : ServingClient) (step : RoundStep) (entry : ClientEntry) : Type 0 where
  pub client : (serving_after s step).client ≡ as_client (client_after (client_in cell number blocks) entry)
  pub runs : HaveRuns (client_after (client_in cell number blocks) entry)
  pub at_work : IsAtWork sources (serving_after s step)
  pub left : IsLeft cell (at_client number entry ∷ [])
  pub kinds : AreAsMade (grown cell (at_client number entry)).acted
  pub fair : IsFairEntry cell number entry

module _ (cell : MadeCell) (w : IsWorking cell) (number blocks : ℕ) (there : cell.sizes number ≡ Some blocks) where
  abbrev c : ClientState
  c = client_in cell number blocks

  abbrev s : ServingClient
  s = serving_client (state_of cell) number c

  abbrev sources : Sources
  sources = sources_of (state_of cell) number

  work : IsAtWork sources s
  work = w.at_work number blocks there

  steady : (volume : ℕ) → IsSteady (pending (c.volumes volume))
  steady volume = steady_of number blocks (cell.acted.clients number).history volume (lawful cell w.kept number volume)

  holds : IsHolding cell.acted c
  holds = w.kept.holding number blocks there

  -- what is left of what the client holds is in order
  left_holding : (gone : List Fid) (entry : KeptEntry) → MayEnterAll s.client (dropping gone ++ entry ∷ []) → IsHolding cell.acted (without_gone c gone)
  left_holding gone entry may =
      drops_holding cell.acted c gone work.logs (may_first s.client (dropping gone) (entry ∷ []) may) holds

  -- what may be entered may follow what is left
  entered_left : (gone : List Fid) (entry : KeptEntry) → MayEnterAll s.client (dropping gone ++ entry ∷ []) → MayEnterAll (as_client (without_gone c gone)) (entry ∷ [])
  entered_left gone entry may =
      subst (λ (d : Client). MayEnterAll d (entry ∷ [])) (as_dropped c gone)
      (may_rest s.client (dropping gone) (entry ∷ []) may)

  -- the client that is there is this one
  client_is : (x : ClientState) → (state_of cell).clients number ≡ Some x → c ≡ x
  client_is x at =
      let e : Some c ≡ Some x = sym (ap (option_map (client_of number (cell.acted.clients number).history)) there) ∙ at in
      cc

  -- what goes is mentioned by no log
  gone_clean : (gone : List Fid) (last_entry : KeptEntry) → MayEnterAll s.client (dropping gone ++ last_entry ∷ [])
      → DropsWhatIsClean cell number gone
  gone_clean gone last_entry may x f at goes =
      subst (λ (y : ClientState). IsClean y f) (client_is x at) (λ volume. false_from_ne_true _ (λ m.
      dropped_clean s.client gone (may_first s.client (dropping gone) (last_entry ∷ []) may) f goes
      (ap (λ v. is_mentioned (c.volumes v) f) (work.logs volume f m) ∙ m)))

  room_fair : (gone : List Fid) (entry : ClientEntry) → DropsWhatIsClean cell number gone → IsFairEntry cell number entry
      → IsFairEntry cell number (making_room gone entry)
  room_fair [] entry drops fair = fair
  room_fair (g ∷ gone) entry drops fair = (drops, fair)

  -- ---- a fetch

  module _ (gone : List Fid) (fid : Fid) (parent : Option Fid) (node : Node) (server : ℕ)
      (may : MayEnterAll s.client (dropping gone ++ kept.Fetched fid parent node ∷ []))
      (below : parent ≡ parent_of_fetched s.client.held fid) (given : sources fid ≡ Ok (node, server)) where
    abbrev fetch_step : RoundStep
    fetch_step = Installed gone fid parent node server

    abbrev fetch_entry : ClientEntry
    fetch_entry = making_room gone (Fetched fid parent node)

    abbrev fetched : ClientState
    fetched = client_after c fetch_entry

    fetch_payload : payload_by fetch_entry ≡ dropping gone ++ kept.Fetched fid parent node ∷ []
    fetch_payload = room_payload gone (Fetched fid parent node) refl

    fetch_may : MayEnterAll s.client (payload_by fetch_entry)
    fetch_may = subst (MayEnterAll s.client) (sym fetch_payload) may

    replaces : MayReplace cell.acted c fid node
    replaces =
        let g = source_is (state_of cell) number fid node server given in
        lines_keep.replaced cell fid node number c g.replica w.kept w.kinds
        (record { client = ap (option_map (client_of number (cell.acted.clients number).history)) there; replica = g.there })
        g.has_it

    fetch_may_step : MayStep sources s fetch_step
    fetch_may_step = record {
      may = may;
      comes = given;
      kinds = fetched_kinds s.client gone fid parent node (λ is. replaces.kind is);
      volumes = last_of_volume gone (kept.Fetched fid parent node)
          (fetched_volume c.held holds.within work.within fid parent node below);
    }

    fetch_work : IsAtWork sources (serving_after s fetch_step)
    fetch_work = clients_stay_ready.stepped sources s fetch_step work fetch_may_step

    fetch_client : (serving_after s fetch_step).client ≡ as_client fetched
    fetch_client =
        ap (serving_client_after_all s.client) (sym fetch_payload)
        ∙ as_after c fetch_entry (w.runs number blocks there) steady fetch_may

    -- what it holds is a forest below directories
    forest_below : IsForest fetched.held × AreUnderDirs fetched.held
    forest_below =
        let k = fetch_work in
        subst (λ (d : Client). IsForest d.held × AreUnderDirs d.held) fetch_client (
          record {
            kids = k.order.0.orderly.cached;
            parents = k.order.0.parents;
            depth = k.order.0.depth;
            deeper = k.order.0.deeper;
          },
          λ f p at. (k.order.1 f p at, k.within f p at),
        )

    abbrev left_then : ClientState
    left_then = without_gone c gone

    fetched_is : fetched ≡ client_after left_then (Fetched fid parent node)
    fetched_is = room_after c gone (Fetched fid parent node)

    fetch_holding : IsHolding cell.acted fetched
    fetch_holding =
        let both = subst (λ (x : ClientState). IsForest x.held × AreUnderDirs x.held) fetched_is forest_below in
        subst (IsHolding cell.acted) (sym fetched_is)
        (fetched_holding cell.acted left_then fid parent node (left_holding gone (kept.Fetched fid parent node) may) work.logs
        (entered_left gone (kept.Fetched fid parent node) may).0 (replaces_left cell.acted c gone fid node replaces)
        (given_made cell w.kept number fid node server given) both.0 both.1)

    fetch_may_come : MayCome cell.acted number fetch_entry
    fetch_may_come = by gone
      where
        plain : MayCome cell.acted number (Fetched fid parent node)
        plain =
            let h = of_history cell w.kept number fid node server given in
            (h.server, fid.volume, w.kept.up.replicas h.server fid.volume, h.there)

        by : (gone : List Fid) → MayCome cell.acted number (making_room gone (Fetched fid parent node))
        by [] = plain
        by (g ∷ more) = plain

    fetch_moved : Moved cell.acted (Does (AtClient number fetch_entry) ∷ []) (grown cell (at_client number fetch_entry)).acted
    fetch_moved = ((w.kept.up.clients number, fetch_may_come), refl)

    fetch_left : IsLeft cell (at_client number fetch_entry ∷ [])
    fetch_left =
        entry_left cell number blocks w.kept there fetch_entry fetch_may_come
        (holding_on (Does (AtClient number fetch_entry) ∷ []) cell.acted (grown cell (at_client number fetch_entry)).acted
        fetched fetch_moved fetch_holding)

    no_deed : (gone : List Fid) (volume : ℕ) → full_of (deed_on volume (making_room gone (Fetched fid parent node))) ≡ []
    no_deed [] volume = refl
    no_deed (g ∷ more) volume = refl

    fetch_fair : IsFetchedFairly cell number fid node
    fetch_fair =
        let g = source_is (state_of cell) number fid node server given in record {
          replica = g.replica;
          there = g.there;
          has_it = g.has_it;
          linked = g.linked;
          clean = λ x at has_it.
              subst (λ (y : ClientState). IsClean y fid) (client_is x at)
              (fetch_clean cell.acted c gone fid parent node work.logs may
              (subst (λ (y : ClientState). has y.held.nodes fid ≡ true) (sym (client_is x at)) has_it));
        }

    pub fetch_enters : EntersStep cell number blocks sources s fetch_step fetch_entry
    fetch_enters = record {
      client = fetch_client;
      runs = runs_after c fetch_entry (w.runs number blocks there) steady fetch_may;
      at_work = fetch_work;
      left = fetch_left;
      kinds = lines_keep.entered cell number fetch_entry (no_deed gone) fetch_left w.kinds;
      fair = room_fair gone (Fetched fid parent node) (gone_clean gone (kept.Fetched fid parent node) may) fetch_fair;
    }

  -- ---- an operation

  module _ (gone : List Fid) (volume : ℕ) (rec : Record)
      (may : MayEnterAll s.client (dropping gone ++ kept.Op volume rec ∷ [])) where
    abbrev operation_step : RoundStep
    operation_step = Performed gone volume rec

    abbrev operation_entry : ClientEntry
    operation_entry = making_room gone (Did volume (Operated rec))

    abbrev operated : ClientState
    operated = client_after c operation_entry

    abbrev left_for : ClientState
    left_for = without_gone c gone

    operation_payload : payload_by operation_entry ≡ dropping gone ++ kept.Op volume rec ∷ []
    operation_payload = room_payload gone (Did volume (Operated rec)) refl

    operation_may_all : MayEnterAll s.client (payload_by operation_entry)
    operation_may_all = subst (MayEnterAll s.client) (sym operation_payload) may

    performs : MayOperate (as_client left_for) volume rec
    performs = (entered_left gone (kept.Op volume rec) may).0

    left_in_order : IsHolding cell.acted left_for
    left_in_order = left_holding gone (kept.Op volume rec) may

    accepted : accept (sight_of left_for volume) volume performs.ask ≡ Ok rec.op
    accepted = performs.accepted

    operation_may_step : MayStep sources s operation_step
    operation_may_step = record {
      may = may;
      comes = tt;
      kinds = operated_kinds s.client gone (kept.Op volume rec) (λ x. (tt, tt));
      volumes = last_of_volume gone (kept.Op volume rec) (λ f m.
          (accepted_names (sight_of left_for volume) volume performs.ask rec.op left_in_order.within accepted f m).0);
    }

    operation_work : IsAtWork sources (serving_after s operation_step)
    operation_work = clients_stay_ready.stepped sources s operation_step work operation_may_step

    operation_client : (serving_after s operation_step).client ≡ as_client operated
    operation_client =
        ap (serving_client_after_all s.client) (sym operation_payload)
        ∙ as_after c operation_entry (w.runs number blocks there) steady operation_may_all

    -- it is the next one
    next_is : next_record (left_for.volumes volume) rec.time rec.op ≡ rec
    next_is = λ i. record { number = sym performs.next i; time = rec.time; op = rec.op }

    own_number : left_for.number ≡ number
    own_number = number_stays (new_client number blocks) (cell.acted.clients number).history

    operation_may_come : MayCome cell.acted number operation_entry
    operation_may_come = by gone
      where
        plain : MayCome cell.acted number (Did volume (Operated rec))
        plain = subst (λ (r : Record). MayCome cell.acted number (Did volume (Operated r))) next_is
            (operation_may cell number blocks w.kept there left_for own_number (λ v. refl) left_in_order volume rec.time
            performs.ask rec.op accepted)

        by : (gone : List Fid) → MayCome cell.acted number (making_room gone (Did volume (Operated rec)))
        by [] = plain
        by (g ∷ more) = plain

    abbrev next : MadeCell
    next = grown cell (at_client number operation_entry)

    operation_moved : Moved cell.acted (Does (AtClient number operation_entry) ∷ []) next.acted
    operation_moved = ((w.kept.up.clients number, operation_may_come), refl)

    deeds_now : done_on next.acted number volume ≡ done_on cell.acted number volume ++ Operated rec ∷ []
    deeds_now =
        done_here cell next number (operation_entry ∷ []) (has_more cell number (operation_entry ∷ [])) volume
        ∙ ap (λ ds. done_on cell.acted number volume ++ ds) (by gone)
      where
        by : (gone : List Fid) → deeds_of volume (making_room gone (Did volume (Operated rec)) ∷ []) ≡ Operated rec ∷ []
        by [] = ap (λ b. cond b (Operated rec ∷ []) [] ++ []) (eq-eqb volume volume refl)
        by (g ∷ more) = ap (λ b. cond b (Operated rec ∷ []) [] ++ []) (eq-eqb volume volume refl)

    operated_is : operated ≡ client_after left_for (Did volume (Operated rec))
    operated_is = room_after c gone (Did volume (Operated rec))

    operated_in_order : IsHolding next.acted operated
    operated_in_order =
        subst (IsHolding next.acted) (sym operated_is)
        (subst (λ (r : Record). IsHolding next.acted (client_after left_for (Did volume (Operated r)))) next_is
        (operation_holding cell number blocks w.kept there left_for own_number (λ v. refl) left_in_order volume rec.time
        performs.ask rec.op accepted (Does (AtClient number operation_entry) ∷ []) next.acted operation_moved
        (deeds_now ∙ ap (λ (r : Record). done_on cell.acted number volume ++ Operated r ∷ []) (sym next_is))))

    operation_left : IsLeft cell (at_client number operation_entry ∷ [])
    operation_left = entry_left cell number blocks w.kept there operation_entry operation_may_come operated_in_order

    -- it binds and unbinds in directories alone
    goes_by_dirs : (held : Held) → held ≡ c.held → EntryGoesByDirs held operation_entry
    goes_by_dirs held same = by gone dirs
      where
        dirs : GoesByDirs (held_after_drops held gone).nodes rec.op
        dirs = subst (λ (h : Held). GoesByDirs (held_after_drops h gone).nodes rec.op) (sym same)
            (relied_dirs (sight_of left_for volume) volume rec.op
            (accepted_relies (sight_of left_for volume) volume performs.ask rec.op accepted))

        by : (gone : List Fid) → GoesByDirs (held_after_drops held gone).nodes rec.op
            → EntryGoesByDirs held (making_room gone (Did volume (Operated rec)))
        by [] d = d
        by (g ∷ more) d = d

    goes : GoesByKinds cell (at_client number operation_entry)
    goes other f kind is =
        let history = (cell.acted.clients number).history in
        let x = client_of number history other in
        held_kind x.held x.number operation_entry f kind
        (goes_by_dirs x.held (held_same (new_client number other) (new_client number blocks) history refl refl)) is

    pub operation_enters : EntersStep cell number blocks sources s operation_step operation_entry
    operation_enters = record {
      client = operation_client;
      runs = runs_after c operation_entry (w.runs number blocks there) steady operation_may_all;
      at_work = operation_work;
      left = operation_left;
      kinds = event_as_made cell (at_client number operation_entry) operation_left.kept.sound operation_moved goes w.kinds;
      fair = room_fair gone (Did volume (Operated rec)) (gone_clean gone (kept.Op volume rec) may) tt;
    }
