-- A cell stays kept by what a client fetches, and by an operation that it accepts.
use Rattle.std.proofs.Common.{◌≡◌, ◌≢◌, ℕ, ◌+◌, ◌==◌, Bool, true, false, cond, List, [], ◌∷◌, ◌++◌, append_assoc, map, Option, Some, None, Ok, refl, sym, ap, ◌∙◌, subst, inl, inr, ◌⊎◌}
use Rattle.std.proofs.lemmas.Bool.{eqb-true, eq-eqb, false≢true, cases_Bool, false_from_ne_true}
use Rattle.std.specs.FinMap as finite
use Rattle.coda_fid.specs.declared.fid.Fid.{Fid}
use Rattle.coda_fid.specs.declared.op.Op.{Op}
use Rattle.coda_fid.specs.declared.op.Record.{Record}
use Rattle.coda_tree.specs.Volume.{has}
use Rattle.coda_certify.specs.Replay.{applied}
use Rattle.coda_cancel.specs.Dropping.{mentioning, creates}
use Rattle.coda_cml.specs.Steady.{any_record, makes_in, unbinds}
use Rattle.coda_plain.specs.Histories.{In}
use Rattle.coda_plain.specs.Deeds.{Deed, Operated, course_of, full_of, pending_of, IsMade, MayOperate, AreLawful}
use Rattle.coda_plain.specs.Decisions.{nodes_of}
use Rattle.coda_plain.specs.Cell.{ClientEntry, Did, deeds_of, Actor, PlainCell}
use Rattle.coda_plain.specs.Moves.{Move, AtClient, Does, done_on, IsNext, AreNamed, MayEnter, Moved}
use Rattle.coda_plain.proofs.Lists.{some_record}
use Rattle.coda_plain.proofs.Chunking.{in_above}
use Rattle.coda_plain.proofs.AtClients.{next_made}
use Rattle.coda_plain.proofs.Freshness.{next_objects_are_fresh}
use Rattle.coda_plain.proofs.Soundness.{none_joins, runs_sound}
use Rattle.coda_cml.proofs.runs.StillThere.{creates_mentions}
use Rattle.coda_cml.proofs.runs.WithoutObject.{makes_parts}
use Rattle.coda_venus.specs.Ask.{Asked}
use Rattle.coda_cell.specs.Held.{Fetch}
use Rattle.coda_venus.specs.Held.{Held, is_below, taken_out, parents_after}
use Rattle.coda_cell.specs.Looking.{fetched, entries_of}
use Rattle.coda_cell.specs.State.{put, pending, ClientVolume, volume_after, ClientState, new_client, client_after, Event, at_client}
use Rattle.coda_cell.specs.Accepting.{sight_of}
use Rattle.coda_venus.specs.Accepting.{Sight, accept, next_fid}
use Rattle.coda_cell.specs.Asking.{behind_fetches, next_record}
use Rattle.coda_cell.specs.Kept.{AreChildrenKept, IsHolding}
use Rattle.coda_cell.specs.Made.{MadeCell, client_of, grown, grown_all, moves_of}
use Rattle.coda_cell.specs.Runs.{AreUp, AreMade, IsKept, IsLeft}
use Rattle.coda_venus.proofs.Accepted.{Relies, accepted_relies}
use Rattle.coda_histories.proofs.Apart.{accepted_apart}
use Rattle.coda_cell.proofs.AfterOperations.{bound_before, has_operation}
use Rattle.coda_cell.proofs.Cleared.{made_apart}
use Rattle.coda_cell.proofs.Fetches.{client_after_both, client_after_fetches}
use Rattle.coda_histories.proofs.Forests.{IsBeside, forest_operation, beside_dirs}
use Rattle.coda_histories.specs.Forests.{ParentsAreDirs}
use Rattle.coda_cell.proofs.Going.{had_with, bound_with}
use Rattle.coda_cell.proofs.Histories.{IsOfCourse, client_push, volume_of, volumes_are, number_stays, shown}
use Rattle.coda_cell.proofs.KeptCells.{lawful, pending_is}
use Rattle.coda_cell.proofs.NamedObjects.{accepted_names, accepted_creates}
use Rattle.coda_cell.proofs.UnderDirs.{dirs_under, below_volume, under_operation}
use Rattle.coda_cell.proofs.Within.{bound_is_named, within_operation}
use Rattle.coda_cell.proofs.KeptChildren.{unbinds_mentions, takes_unbinds, kept_children_operation, kept_children_beside, kept_children_going, removes_empty}
use Rattle.coda_cell.proofs.LettersOn.{letters_on}
use Rattle.coda_cell.proofs.Moving.{HasMore, has_more, shown_more, done_here, done_same, made_stays, up_all}

-- what it holds stays in order while histories go on
pub holding_on : (moves : List Move) (old new : PlainCell) (c : ClientState) → Moved old moves new → IsHolding old c → IsHolding new c
holding_on moves old new c moved h = record {
  under = h.under;
  forest = h.forest;
  within = h.within;
  made = λ fid is. made_stays moves old new moved fid.vnode fid.volume fid (h.made fid is);
  named = λ dir fid name is. made_stays moves old new moved fid.vnode fid.volume fid (h.named dir fid name is);
  kept = h.kept;
}

-- a replica that is up has the node
pub record IsReplicated (cell : PlainCell) (fetch : Fetch) : Type 0 where
  pub server : ℕ
  pub volume : ℕ
  pub there : finite.get (nodes_of volume (cell.replicas server volume).history) fetch.fid ≡ Some fetch.node

no_deeds : (volume : ℕ) (fetches : List Fetch) → deeds_of volume (entries_of fetches) ≡ []
no_deeds volume [] = refl
no_deeds volume (fetch ∷ fetches) = no_deeds volume fetches

fetches_moved : (cell : MadeCell) (number : ℕ) (fetches : List Fetch) → AreUp cell.acted → ((fetch : Fetch) → In fetch fetches → IsReplicated cell.acted fetch)
    → Moved cell.acted (moves_of (map (at_client number) (entries_of fetches))) (grown_all cell (map (at_client number) (entries_of fetches))).acted
fetches_moved cell number [] up there = refl
fetches_moved cell number (fetch ∷ fetches) up there =
    let at = there fetch (inl refl) in
    let next = grown cell (at_client number (fetched fetch)) in (
      (up.clients number, (at.server, at.volume, up.replicas at.server at.volume, at.there)),
      fetches_moved next number fetches (up_all cell (at_client number (fetched fetch) ∷ []) up)
          (λ f i. let r = there f (inr i) in record { server = r.server; volume = r.volume; there = r.there }),
    )

module _ (cell : MadeCell) (number blocks : ℕ) (kept : IsKept cell) (there : cell.sizes number ≡ Some blocks) where
  abbrev pub the_client : ClientState
  the_client = client_of number (cell.acted.clients number).history blocks

  -- a client fetches what replicas have, and what it holds then is in order
  module _ (fetches : List Fetch) (replicated : (fetch : Fetch) → In fetch fetches → IsReplicated cell.acted fetch) (holds : IsHolding cell.acted (behind_fetches the_client fetches)) where
    abbrev entries : List ClientEntry
    entries = entries_of fetches

    abbrev events : List Event
    events = map (at_client number) entries

    abbrev new : MadeCell
    new = grown_all cell events

    more : HasMore cell new number entries
    more = has_more cell number entries

    moved : Moved cell.acted (moves_of events) new.acted
    moved = fetches_moved cell number fetches kept.up replicated

    done : (client volume : ℕ) → done_on new.acted client volume ≡ done_on cell.acted client volume
    done client volume = done_same cell new number entries more client volume (no_deeds volume fetches)

    not_this : (client : ℕ) → new.sizes client ≡ None → client ≢ number
    not_this client none same = (let no : Some blocks ≡ None = sym (ap cell.sizes same ∙ there) ∙ ap (λ f. f client) (sym more.sizes) ∙ none in cc)

    made : AreMade new
    made = record {
      numbered = λ client b e. kept.made.numbered client b (ap (λ f. f client) (sym more.sizes) ∙ e);
      clients = λ client e. ap (λ (a : Actor ClientEntry). a.history) (more.others client (not_this client e)) ∙ kept.made.clients client (ap (λ f. f client) (sym more.sizes) ∙ e);
      replicas = λ server volume e. ap (λ f. (f server volume).history) more.replicas ∙ kept.made.replicas server volume (λ is. e (ap (λ f. f volume) more.homes ∙ is));
    }

    holding : (client b : ℕ) → new.sizes client ≡ Some b → IsHolding new.acted (client_of client (new.acted.clients client).history b)
    holding client b e = elim (cases_Bool (client == number)) [
      | inl same ↦ (let at = eqb-true client number same in
          let sized : Some blocks ≡ Some b = sym there ∙ ap cell.sizes (sym at) ∙ ap (λ f. f client) (sym more.sizes) ∙ e in
          let b_is : blocks ≡ b = cc in
          subst (λ n. IsHolding new.acted (client_of n (new.acted.clients n).history b)) (sym at)
          (subst (λ x. IsHolding new.acted (client_of number (new.acted.clients number).history x)) b_is
          (subst (IsHolding new.acted) (sym (ap (λ h. client_of number h blocks) more.here ∙ client_after_both (new_client number blocks) (cell.acted.clients number).history entries ∙ client_after_fetches the_client fetches))
          (holding_on (moves_of events) cell.acted new.acted (behind_fetches the_client fetches) moved holds))))
      | inr other ↦ (let off : client ≢ number = λ same. false≢true (sym other ∙ eq-eqb client number same) in
          subst (λ (a : Actor ClientEntry). IsHolding new.acted (client_of client a.history b)) (sym (more.others client off))
          (holding_on (moves_of events) cell.acted new.acted (client_of client (cell.acted.clients client).history b) moved (kept.holding client b (ap (λ f. f client) (sym more.sizes) ∙ e))))
    ]

    pub fetches_left : IsLeft cell (map (at_client number) (entries_of fetches))
    fetches_left = record { moved = moved; kept = record { sound = runs_sound (moves_of events) cell.acted new.acted kept.sound moved; up = up_all cell events kept.up; made = made; holding = holding; letters = letters_on (moves_of events) cell new kept.sound moved kept.letters more.waiting more.pool more.posted }; shown = shown_more cell number entries }

-- an entry of a client that might come, and behind which what the client holds is in order, keeps the cell
module _ (cell : MadeCell) (number blocks : ℕ) (kept : IsKept cell) (there : cell.sizes number ≡ Some blocks) (entry : ClientEntry) (may : MayEnter cell.acted number entry)
    (holds : IsHolding (grown cell (at_client number entry)).acted (client_after (the_client cell number blocks kept there) entry)) where
  abbrev entered : MadeCell
  entered = grown cell (at_client number entry)

  one_entered : HasMore cell entered number (entry ∷ [])
  one_entered = has_more cell number (entry ∷ [])

  entry_moved : Moved cell.acted (Does (AtClient number entry) ∷ []) entered.acted
  entry_moved = ((kept.up.clients number, may), refl)

  entry_made : AreMade entered
  entry_made = record {
    numbered = kept.made.numbered;
    clients = λ c e. ap (λ (a : Actor ClientEntry). a.history) (one_entered.others c (λ same. let no : Some blocks ≡ None = sym (ap cell.sizes same ∙ there) ∙ e in cc)) ∙ kept.made.clients c e;
    replicas = kept.made.replicas;
  }

  entry_holding : (c b : ℕ) → cell.sizes c ≡ Some b → IsHolding entered.acted (client_of c (entered.acted.clients c).history b)
  entry_holding c b e = elim (cases_Bool (c == number)) [
    | inl same ↦ (let at = eqb-true c number same in
        let sized : Some blocks ≡ Some b = sym there ∙ ap cell.sizes (sym at) ∙ e in
        let b_is : blocks ≡ b = cc in
        subst (λ n. IsHolding entered.acted (client_of n (entered.acted.clients n).history b)) (sym at)
        (subst (λ x. IsHolding entered.acted (client_of number (entered.acted.clients number).history x)) b_is
        (subst (IsHolding entered.acted) (sym (ap (λ h. client_of number h blocks) one_entered.here ∙ client_push (new_client number blocks) (cell.acted.clients number).history entry)) holds)))
    | inr other ↦ (let off : c ≢ number = λ same. false≢true (sym other ∙ eq-eqb c number same) in
        subst (λ (a : Actor ClientEntry). IsHolding entered.acted (client_of c a.history b)) (sym (one_entered.others c off))
        (holding_on (Does (AtClient number entry) ∷ []) cell.acted entered.acted (client_of c (cell.acted.clients c).history b) entry_moved (kept.holding c b e)))
  ]

  pub entry_left : IsLeft cell (at_client number entry ∷ [])
  entry_left = record {
    moved = entry_moved;
    kept = record {
      sound = runs_sound (Does (AtClient number entry) ∷ []) cell.acted entered.acted kept.sound entry_moved;
      up = up_all cell (at_client number entry ∷ []) kept.up;
      made = entry_made;
      holding = entry_holding;
      letters = letters_on (Does (AtClient number entry) ∷ []) cell entered kept.sound entry_moved kept.letters refl refl refl;
    };
    shown = shown_more cell number (entry ∷ []);
  }

-- a client that did what one of the cell did, whatever it holds in order, accepts its next operation
module _ (cell : MadeCell) (number blocks : ℕ) (kept : IsKept cell) (there : cell.sizes number ≡ Some blocks) (client : ClientState) (numbered : client.number ≡ number)
    (alike : (w : ℕ) → client.volumes w ≡ (the_client cell number blocks kept there).volumes w) (holds : IsHolding cell.acted client) (volume time : ℕ) (ask : Asked) (op : Op)
    (accepted : accept (sight_of client volume) volume ask ≡ Ok op) where
  abbrev sight : Sight
  sight = sight_of client volume

  abbrev deeds : List Deed
  deeds = done_on cell.acted number volume

  abbrev pub next_operation : Record
  next_operation = next_record (client.volumes volume) time op

  abbrev operated : ClientEntry
  operated = Did volume (Operated next_operation)

  pending_by : (w : ℕ) → pending (client.volumes w) ≡ pending_of (done_on cell.acted number w)
  pending_by w = ap pending (alike w) ∙ pending_is cell kept number blocks w

  relies : Relies sight volume op
  relies = accepted_relies sight volume ask op accepted

  names : (fid : Fid) → mentioning fid op ≡ true → (fid.volume ≡ volume) × ((has client.held.nodes fid ≡ true) ⊎ ((creates fid op ≡ true) × (fid ≡ next_fid sight volume)))
  names = accepted_names sight volume ask op holds.within accepted

  law : AreLawful deeds
  law = lawful cell kept number volume

  shows : IsOfCourse (volume_of deeds) deeds
  shows = shown deeds law

  is_left : client.volumes volume ≡ volume_of deeds
  is_left = alike volume ∙ volumes_are number blocks (cell.acted.clients number).history volume

  -- what it creates is its next object
  next_named : (fid : Fid) → creates fid op ≡ true → IsNext volume deeds number op fid
  next_named fid makes =
      let is = accepted_creates sight volume ask op accepted fid makes in
      record {
        creates_it = makes;
        here = ap (λ (f : Fid). f.volume) is;
        own = ap (λ (f : Fid). f.vnode) is ∙ numbered;
        next = ap (λ (f : Fid). f.uniq) is ∙ ap (λ n. n + 1) (ap (λ (v : ClientVolume). v.creations) is_left ∙ shows.creations);
      }

  all_named : AreNamed cell.acted number volume op
  all_named = record {
    known = λ fid mentions.
        let n = names fid mentions in
        elim n.1 [
          | inl held ↦ inr (subst (λ v. IsMade v (done_on cell.acted fid.vnode v) fid) n.0 (holds.made fid held))
          | inr new ↦ inl (next_named fid new.0)
        ];
    next = next_named;
  }

  may_operate : MayOperate deeds next_operation
  may_operate = record {
    next = ap (λ n. n + 1) (ap (λ (v : ClientVolume). v.operations) is_left ∙ shows.operations);
    fresh = next_objects_are_fresh cell.acted number volume op kept.sound (kept.made.numbered number blocks there) next_named;
    empty = removes_empty sight volume op (pending_of deeds) (subst (AreChildrenKept client.held.nodes) (pending_by volume) (holds.kept volume)) relies;
  }

  -- it might come
  pub operation_may : MayEnter cell.acted number (Did volume (Operated next_operation))
  operation_may = (may_operate, all_named)

  -- what is pending of a volume mentions objects of that volume alone
  named_on : (w : ℕ) (test : Op → Bool) (fid : Fid) → ((o : Op) → test o ≡ true → mentioning fid o ≡ true) → any_record test (pending (client.volumes w)) ≡ true → fid.volume ≡ w
  named_on w test fid mentions passes =
      let rec = some_record test (pending_of (done_on cell.acted number w)) (ap (any_record test) (sym (pending_by w)) ∙ passes) in
      ((kept.sound.agree none_joins).made number w rec.0 (in_above (course_of (done_on cell.acted number w)).done rec.0 (full_of (done_on cell.acted number w)) rec.1) fid (mentions rec.0.op rec.2)).0

  -- an object that a run of another volume created isn't taken from where it is bound
  beside : (w : ℕ) → (w == volume) ≡ false → (dir kid : Fid) → any_record (makes_in dir kid) (pending (client.volumes w)) ≡ true → unbinds kid op ≡ false
  beside w off dir kid makes = false_from_ne_true (unbinds kid op) (λ takes.
      let same : w ≡ volume = sym (named_on w (makes_in dir kid) kid (λ o h. creates_mentions kid o (makes_parts dir kid o h).1) makes) ∙ (names kid (unbinds_mentions op kid takes)).0 in
      false≢true (sym off ∙ eq-eqb w volume same))

  operation_kept : (w : ℕ) → AreChildrenKept (applied client.held.nodes client.number next_operation) (pending (put client.volumes volume (volume_after (client.volumes volume) (Operated next_operation)) w))
  operation_kept w = elim (w == volume) as (λ b. (w == volume) ≡ b → AreChildrenKept (applied client.held.nodes client.number next_operation) (pending (cond b (volume_after (client.volumes volume) (Operated next_operation)) (client.volumes w)))) [
    | true ↦ λ at. subst (AreChildrenKept (applied client.held.nodes client.number next_operation)) (append_assoc (client.volumes volume).front (client.volumes volume).back (next_operation ∷ []))
        (kept_children_operation sight volume client.number next_operation (pending (client.volumes volume)) (holds.kept volume) relies)
    | false ↦ λ off. kept_children_beside sight volume client.number next_operation (pending (client.volumes w)) (holds.kept w) relies (beside w off)
  ] refl

  -- what it takes out, and what is held before that goes
  abbrev gone : Option Fid
  gone = taken_out op

  abbrev behind : Held
  behind = record { nodes = applied client.held.nodes client.number next_operation; parents = parents_after client.held.parents op }

  dirs : ParentsAreDirs client.held
  dirs = dirs_under client.held holds.under

  beside_gone : IsBeside client.held.parents op
  beside_gone = beside_dirs sight volume op relies dirs

  -- no directory goes in which something was made that is pending, and left
  made_stay : (w : ℕ) (g dir kid : Fid) → gone ≡ Some g → has behind.nodes dir ≡ true → any_record (makes_in dir kid) (pending (put client.volumes volume (volume_after (client.volumes volume) (Operated next_operation)) w)) ≡ true
      → any_record (unbinds kid) (pending (put client.volumes volume (volume_after (client.volumes volume) (Operated next_operation)) w)) ≡ false → is_below client.held.parents dir g ≡ false
  made_stay w g dir kid takes has_it = elim (w == volume) as (λ b. (w == volume) ≡ b → any_record (makes_in dir kid) (pending (cond b (volume_after (client.volumes volume) (Operated next_operation)) (client.volumes w))) ≡ true
      → any_record (unbinds kid) (pending (cond b (volume_after (client.volumes volume) (Operated next_operation)) (client.volumes w))) ≡ false → is_below client.held.parents dir g ≡ false) [
        | true ↦ λ at makes stays. (
            let whole = append_assoc (client.volumes volume).front (client.volumes volume).back (next_operation ∷ []) in
            made_apart client volume ask next_operation accepted dirs g dir kid takes has_it (ap (any_record (makes_in dir kid)) whole ∙ makes) (ap (any_record (unbinds kid)) whole ∙ stays))
        | false ↦ λ off makes stays. false_from_ne_true (is_below client.held.parents dir g) (λ below.
            let same : w ≡ volume = sym (named_on w (makes_in dir kid) dir (λ o h. (makes_parts dir kid o h).0) makes) ∙ below_volume client.held dir g holds.under below ∙ (names g (unbinds_mentions op g (takes_unbinds op g takes))).0 in
            false≢true (sym off ∙ eq-eqb w volume same))
      ] refl

  -- and behind it what the client holds is in order, whatever else happened at once
  module _ (moves : List Move) (new : PlainCell) (moved_on : Moved cell.acted moves new) (here : done_on new number volume ≡ deeds ++ Operated next_operation ∷ []) where
    made_before : (fid : Fid) → IsMade fid.volume (done_on cell.acted fid.vnode fid.volume) fid → IsMade fid.volume (done_on new fid.vnode fid.volume) fid
    made_before fid made = made_stays moves cell.acted new moved_on fid.vnode fid.volume fid made

    made_now : (fid : Fid) → creates fid op ≡ true → IsMade fid.volume (done_on new fid.vnode fid.volume) fid
    made_now fid makes =
        let n = next_named fid makes in
        subst (λ v. IsMade v (done_on new fid.vnode v) fid) (sym n.here)
        (subst (λ c. IsMade volume (done_on new c volume) fid) (sym n.own) (subst (λ ds. IsMade volume ds fid) (sym here) (next_made volume deeds number next_operation fid n)))

    pub operation_holding : IsHolding new (client_after client (Did volume (Operated next_operation)))
    operation_holding = record {
      under = under_operation sight volume client.number next_operation relies beside_gone (λ fid mentions. (names fid mentions).0) holds.forest holds.under;
      forest = forest_operation sight volume client.number next_operation relies (accepted_apart sight volume ask op accepted) beside_gone holds.forest;
      within = λ dir kid name is. within_operation client.held.nodes volume client.number next_operation holds.within (λ fid mentions. (names fid mentions).0) dir kid name (bound_with gone client.held.parents behind dir kid name is);
      made = λ fid is. elim (has_operation client.held.nodes client.number next_operation fid (had_with gone client.held.parents behind fid is)) [ inl old ↦ made_before fid (holds.made fid old) | inr new ↦ made_now fid new ];
      named = λ dir kid name is. elim (bound_before client.held.nodes client.number next_operation dir name kid (bound_with gone client.held.parents behind dir kid name is)) [
        | inl was ↦ made_before kid (holds.named dir kid name was)
        | inr anew ↦ elim (names kid (bound_is_named op dir name kid anew).1).1 [ inl held ↦ made_before kid (holds.made kid held) | inr new ↦ made_now kid new.0 ]
      ];
      kept = λ w. kept_children_going gone client.held.parents behind (pending (put client.volumes volume (volume_after (client.volumes volume) (Operated next_operation)) w)) (operation_kept w) (made_stay w);
    }

module _ (cell : MadeCell) (number blocks : ℕ) (kept : IsKept cell) (there : cell.sizes number ≡ Some blocks) (volume home : ℕ) (homed : cell.homes volume ≡ Some home) (time : ℕ) (ask : Asked) (op : Op)
    (accepted : accept (sight_of (the_client cell number blocks kept there) volume) volume ask ≡ Ok op) where
  abbrev the_record : Record
  the_record = next_record ((the_client cell number blocks kept there).volumes volume) time op

  abbrev entry : ClientEntry
  entry = Did volume (Operated the_record)

  abbrev next : MadeCell
  next = grown cell (at_client number entry)

  own_number : (the_client cell number blocks kept there).number ≡ number
  own_number = number_stays (new_client number blocks) (cell.acted.clients number).history

  may_enter : MayEnter cell.acted number entry
  may_enter = operation_may cell number blocks kept there (the_client cell number blocks kept there) own_number (λ w. refl) (kept.holding number blocks there) volume time ask op accepted

  deeds_here : done_on next.acted number volume ≡ done_on cell.acted number volume ++ Operated the_record ∷ []
  deeds_here = done_here cell next number (entry ∷ []) (has_more cell number (entry ∷ [])) volume ∙ ap (λ b. done_on cell.acted number volume ++ (cond b (Operated the_record ∷ []) [] ++ [])) (eq-eqb volume volume refl)

  -- a client accepts its next operation
  pub operated_left : IsLeft cell (at_client number (Did volume (Operated the_record)) ∷ [])
  operated_left = entry_left cell number blocks kept there entry may_enter
      (operation_holding cell number blocks kept there (the_client cell number blocks kept there) own_number (λ w. refl) (kept.holding number blocks there) volume time ask op accepted (Does (AtClient number entry) ∷ []) next.acted
      ((kept.up.clients number, may_enter), refl) deeds_here)
