-- A cell stays kept by what a client does to its chunks, and by what a replica decides.
use Rattle.std.proofs.Common.{◌≡◌, ◌≢◌, ℕ, ◌+◌, ◌==◌, ◌&&◌, true, cond, List, [], ◌∷◌, ◌++◌, Some, None, refl, sym, ap, ◌∙◌, subst, inl, inr, ◌⊎◌}
use Rattle.std.proofs.lemmas.Bool.{eqb-true, eq-eqb, false≢true, cases_Bool, and_parts}
use Rattle.coda_fid.specs.declared.op.Record.{Record}
use Rattle.coda_fid.specs.declared.fid.Fid.{Fid}
use Rattle.coda_tree.specs.Bindings.{Name}
use Rattle.coda_tree.specs.Volume.{has, child}
use Rattle.coda_plain.specs.Deeds.{Deed, pending_of, span_of, IsMade, MayDo}
use Rattle.coda_plain.specs.Decisions.{ReplicaEntry, Decided, last_of}
use Rattle.coda_plain.specs.Cell.{ClientEntry, Did, Actor}
use Rattle.coda_plain.specs.Moves.{Move, AtClient, AtReplica, Does, done_on, IsSent, IsBacked, Moved, grown as grown_actor}
use Rattle.coda_plain.proofs.Soundness.{none_joins, runs_sound}
use Rattle.coda_cell.specs.State.{pending, ClientState, new_client, client_after, Event, Entered, at_client}
use Rattle.coda_histories.specs.Forests.{IsForest}
use Rattle.coda_cell.specs.Held.{AreUnderDirs, held_after_deed}
use Rattle.coda_venus.specs.Held.{Held}
use Rattle.coda_cell.specs.Kept.{AreWithin, AreChildrenKept, IsHolding}
use Rattle.coda_cell.specs.Made.{MadeCell, client_of, grown}
use Rattle.coda_cell.specs.Runs.{AreMade, IsKept, IsLeft}
use Rattle.coda_cell.proofs.Grown.{replica_grown}
use Rattle.coda_cell.proofs.Histories.{client_push, volumes_are, pending_are}
use Rattle.coda_cell.proofs.KeptCells.{pending_is}
use Rattle.coda_cell.proofs.KeptClients.{holding_on}
use Rattle.coda_cell.proofs.LettersOn.{letters_on}
use Rattle.coda_cell.proofs.Moving.{HasMore, has_more, shown_more, done_here, done_elsewhere, done_same, up_all}

module _ (cell : MadeCell) (number blocks : ℕ) (kept : IsKept cell) (there : cell.sizes number ≡ Some blocks) (volume server : ℕ) (homed : cell.homes volume ≡ Some server) (deed : Deed)
    (may : MayDo (done_on cell.acted number volume) deed) (backed : IsBacked cell.acted number volume deed) (quiet : (h : Held) (n : ℕ) → held_after_deed h n deed ≡ h)
    (children : AreChildrenKept (client_of number (cell.acted.clients number).history blocks).held.nodes (pending_of (done_on cell.acted number volume ++ deed ∷ []))) where
  abbrev client : ClientState
  client = client_of number (cell.acted.clients number).history blocks

  abbrev deeds : List Deed
  deeds = done_on cell.acted number volume

  abbrev entry : ClientEntry
  entry = Did volume deed

  abbrev next : MadeCell
  next = grown cell (at_client number entry)

  abbrev moves : List Move
  moves = Does (AtClient number entry) ∷ []

  moved : Moved cell.acted moves next.acted
  moved = ((kept.up.clients number, (may, backed)), refl)

  one : HasMore cell next number (entry ∷ [])
  one = has_more cell number (entry ∷ [])

  pub deeds_here : done_on next.acted number volume ≡ deeds ++ deed ∷ []
  deeds_here = done_here cell next number (entry ∷ []) one volume ∙ ap (λ b. deeds ++ (cond b (deed ∷ []) [] ++ [])) (eq-eqb volume volume refl)

  -- elsewhere nothing changed
  deeds_else : (c w : ℕ) → (c ≢ number) ⊎ (w ≢ volume) → done_on next.acted c w ≡ done_on cell.acted c w
  deeds_else c w (inl other) = done_elsewhere cell next number (entry ∷ []) one c w other
  deeds_else c w (inr other) = done_same cell next number (entry ∷ []) one c w (elim (cases_Bool (w == volume)) [
    | inl same ↦ absurd (other (eqb-true w volume same))
    | inr e ↦ ap (λ b. cond b (deed ∷ []) [] ++ []) e
  ])

  by_place : (P : ℕ → ℕ → List Deed → Type 0) → P number volume (deeds ++ deed ∷ []) → ((c w : ℕ) → P c w (done_on cell.acted c w)) → (c w : ℕ) → P c w (done_on next.acted c w)
  by_place P here else c w = elim (cases_Bool (c == number)) [
    | inl same ↦ elim (cases_Bool (w == volume)) [
      | inl at ↦ subst (λ x. P x w (done_on next.acted x w)) (sym (eqb-true c number same)) (subst (λ x. P number x (done_on next.acted number x)) (sym (eqb-true w volume at)) (subst (P number volume) (sym deeds_here) here))
      | inr off ↦ subst (P c w) (sym (deeds_else c w (inr (λ at. false≢true (sym off ∙ eq-eqb w volume at))))) (else c w)
    ]
    | inr other ↦ subst (P c w) (sym (deeds_else c w (inl (λ same. false≢true (sym other ∙ eq-eqb c number same))))) (else c w)
  ]

  made : AreMade next
  made = record {
    numbered = kept.made.numbered;
    clients = λ c e. ap (λ (a : Actor ClientEntry). a.history) (one.others c (λ same. let no : Some blocks ≡ None = sym (ap cell.sizes same ∙ there) ∙ e in cc)) ∙ kept.made.clients c e;
    replicas = kept.made.replicas;
  }

  children_before : (w : ℕ) → AreChildrenKept client.held.nodes (pending_of (done_on cell.acted number w))
  children_before w = subst (AreChildrenKept client.held.nodes) (pending_is cell kept number blocks w) ((kept.holding number blocks there).kept w)

  children_left : (w : ℕ) → AreChildrenKept client.held.nodes (pending_of (done_on next.acted number w))
  children_left w = elim (cases_Bool (w == volume)) [
    | inl at ↦ subst (λ x. AreChildrenKept client.held.nodes (pending_of (done_on next.acted number x))) (sym (eqb-true w volume at)) (subst (λ ds. AreChildrenKept client.held.nodes (pending_of ds)) (sym deeds_here) children)
    | inr off ↦ subst (λ ds. AreChildrenKept client.held.nodes (pending_of ds)) (sym (deeds_else number w (inr (λ at. false≢true (sym off ∙ eq-eqb w volume at))))) (children_before w)
  ]

  abbrev left : ClientState
  left = client_of number (next.acted.clients number).history blocks

  left_is : left ≡ client_after client entry
  left_is = ap (λ h. client_of number h blocks) one.here ∙ client_push (new_client number blocks) (cell.acted.clients number).history entry

  held_left : left.held ≡ client.held
  held_left = ap (λ (c : ClientState). c.held) left_is ∙ quiet client.held client.number

  pending_left : (w : ℕ) → pending (left.volumes w) ≡ pending_of (done_on next.acted number w)
  pending_left w =
      ap pending (volumes_are number blocks (next.acted.clients number).history w) ∙ pending_are (done_on next.acted number w) (((runs_sound moves cell.acted next.acted kept.sound moved).agree none_joins).lawful number w)

  holding : IsHolding next.acted left
  holding =
      let before = holding_on moves cell.acted next.acted client moved (kept.holding number blocks there) in
      record {
        under = subst AreUnderDirs (sym held_left) before.under;
        forest = subst IsForest (sym held_left) before.forest;
        within = subst (λ (h : Held). AreWithin h.nodes) (sym held_left) before.within;
        made = subst (λ (h : Held). (fid : Fid) → has h.nodes fid ≡ true → IsMade fid.volume (done_on next.acted fid.vnode fid.volume) fid) (sym held_left) before.made;
        named = subst (λ (h : Held). (dir fid : Fid) (name : Name) → child h.nodes dir name ≡ Some fid → IsMade fid.volume (done_on next.acted fid.vnode fid.volume) fid) (sym held_left) before.named;
        kept = λ w. subst (λ (h : Held). AreChildrenKept h.nodes (pending (left.volumes w))) (sym held_left) (subst (AreChildrenKept client.held.nodes) (sym (pending_left w)) (children_left w));
      }

  all_holding : (c b : ℕ) → cell.sizes c ≡ Some b → IsHolding next.acted (client_of c (next.acted.clients c).history b)
  all_holding c b e = elim (cases_Bool (c == number)) [
    | inl same ↦ (let at = eqb-true c number same in
        let sized : Some blocks ≡ Some b = sym there ∙ ap cell.sizes (sym at) ∙ e in
        let b_is : blocks ≡ b = cc in
        subst (λ n. IsHolding next.acted (client_of n (next.acted.clients n).history b)) (sym at) (subst (λ x. IsHolding next.acted (client_of number (next.acted.clients number).history x)) b_is holding))
    | inr other ↦ (let off : c ≢ number = λ same. false≢true (sym other ∙ eq-eqb c number same) in
        subst (λ (a : Actor ClientEntry). IsHolding next.acted (client_of c a.history b)) (sym (one.others c off))
        (holding_on moves cell.acted next.acted (client_of c (cell.acted.clients c).history b) moved (kept.holding c b e)))
  ]

  pub deed_left : IsLeft cell (at_client number entry ∷ [])
  deed_left = record {
    moved = moved;
    kept = record { sound = runs_sound moves cell.acted next.acted kept.sound moved; up = up_all cell (at_client number entry ∷ []) kept.up; made = made; holding = all_holding; letters = letters_on moves cell next kept.sound moved kept.letters refl refl refl };
    shown = shown_more cell number (entry ∷ []);
  }

-- the volume's server decides the next chunk of a client, which was sent to it
module _ (cell : MadeCell) (kept : IsKept cell) (volume server : ℕ) (homed : cell.homes volume ≡ Some server) (client number : ℕ) (span : List Record) (next_is : number ≡ (last_of volume (cell.acted.replicas server volume).history client).number + 1)
    (sent : IsSent cell.acted client server volume number) (span_is : span ≡ span_of (done_on cell.acted client volume) number) where
  abbrev decided : ReplicaEntry
  decided = Decided client number span

  abbrev event : Event
  event = Entered (AtReplica server volume decided)

  abbrev after : MadeCell
  after = grown cell event

  decision_moved : Moved cell.acted (Does (AtReplica server volume decided) ∷ []) after.acted
  decision_moved = ((kept.up.replicas server volume, next_is, (sent, span_is)), refl)

  decision_made : AreMade after
  decision_made = record {
    numbered = kept.made.numbered;
    clients = kept.made.clients;
    replicas = λ s w e. elim (cases_Bool ((s == server) && (w == volume))) [
      | inl at ↦ (let both = and_parts (s == server) (w == volume) at in absurd (e (ap cell.homes (eqb-true w volume both.1) ∙ homed ∙ ap Some (sym (eqb-true s server both.0)))))
      | inr off ↦ ap (λ b. (cond b (grown_actor decided (cell.acted.replicas server volume)) (cell.acted.replicas s w)).history) off ∙ kept.made.replicas s w e
    ];
  }

  pub decision_left : IsLeft cell (Entered (AtReplica server volume (Decided client number span)) ∷ [])
  decision_left = record {
    moved = decision_moved;
    kept = record {
      sound = runs_sound (Does (AtReplica server volume decided) ∷ []) cell.acted after.acted kept.sound decision_moved;
      up = up_all cell (event ∷ []) kept.up;
      made = decision_made;
      holding = λ c b e. holding_on (Does (AtReplica server volume decided) ∷ []) cell.acted after.acted (client_of c (cell.acted.clients c).history b) decision_moved (kept.holding c b e);
      letters = letters_on (Does (AtReplica server volume decided) ∷ []) cell after kept.sound decision_moved kept.letters refl refl refl;
    };
    shown = replica_grown cell server volume decided;
  }
