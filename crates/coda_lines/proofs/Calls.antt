-- What a client's call does in a cell that works: each step leaves what it says, and the cell works on.
use Rattle.std.proofs.Common.{◌≡◌, ◌≢◌, ℕ, ◌&&◌, Bool, true, false, cond, List, [], ◌∷◌, ◌++◌, Option, Some, None, refl, sym, ap, ◌∙◌, subst, inl, inr}
use Rattle.std.proofs.lemmas.Bool.{eq-eqb, cases_eq}
use Rattle.coda_fid.specs.Fid.{same_fid}
use Rattle.coda_fid.specs.declared.fid.Fid.{Fid}
use Rattle.coda_cache.specs.Steps.{new_node}
use Rattle.coda_cache.specs.Uses.{latest}
use Rattle.coda_walk.specs.Going.{is_listed}
use Rattle.coda_plain.specs.Cell.{ClientEntry, Fetched, Did, Actor}
use Rattle.coda_plain.specs.Deeds.{Operated}
use Rattle.coda_venus.specs.Rounds.{RoundStep, Looked, Installed, Turned, Performed, Sources, copies_without, copies_with, entries_of_step, serving_after}
use Rattle.coda_venus.specs.History.{MayEnterAll}
use Rattle.coda_venus.specs.Serving.{ServingClient, used_all, used_new as uses_new}
use Rattle.coda_cell.specs.Made.{Copy, MadeCell, client_of, state_of, grown, grown_all}
use Rattle.coda_cell.specs.Runs.{IsKept}
use Rattle.coda_cell.specs.State.{ClientState, new_client, client_after, Event, Used, Kept, at_client, used_then, with_copy}
use Rattle.coda_cell.proofs.Histories.{client_push}
use Rattle.coda_cell.proofs.Families.{put_here}
use Rattle.coda_cell.proofs.Moving.{HasMore, has_more, grown_both}
use Rattle.coda_creations.specs.Kinds.{AreAsMade}
use Rattle.coda_rounds.specs.Entering.{MayEnterSteps}
use Rattle.coda_rounds.specs.Orders.{serving_after_all}
use Rattle.coda_rounds.specs.Readiness.{IsAtWork}
use Rattle.coda_rounds.proofs.Readiness.{clients_stay_ready}
use Rattle.coda_lines.specs.Clients.{as_client, serving_client, sources_of}
use Rattle.coda_lines.specs.Lines.{making_room, stale, used_new, events_of_step, events_of_steps}
use Rattle.coda_lines.specs.Working.{client_in, HaveRuns, IsUnused, IsWorking}
use Rattle.coda_lines.proofs.Besides.{kept_beside, AreBeside, beside_both, beside_left, IsBesideOf, all_beside, WorksOn, works_behind, works_both, group_works}
use Rattle.coda_lines.proofs.Entries.{EntersStep, fetch_enters, operation_enters}
use Rattle.coda_lines.proofs.Parts.{server_in, copies_in, Parts, parts_of, fewer_in, parts_in, working_by}
use Rattle.coda_lines.proofs.Steps.{IsGiven, AreGiven}

-- ---- behind an entry and what is beside it

-- a cell in which one client is as a step leaves it, but for what is beside its history, and all else is as it was
pub record IsEntered (cell first : MadeCell) (number blocks : ℕ) (sources : Sources) (s : ServingClient) : Type 0 where
  pub kept : IsKept first
  pub kinds : AreAsMade first.acted
  pub client : s.client ≡ as_client (client_in first number blocks)
  pub runs : HaveRuns (client_in first number blocks)
  pub at_work : IsAtWork sources s
  pub others : (n b : ℕ) → n ≢ number → client_in first n b ≡ client_in cell n b
  pub sizes : first.sizes ≡ cell.sizes
  pub copies : first.copies ≡ cell.copies
  pub uses : first.uses ≡ cell.uses
  pub sources_same : sources_of (state_of first) number ≡ sources_of (state_of cell) number

module _ (cell : MadeCell) (w : IsWorking cell) (number blocks : ℕ) (there : cell.sizes number ≡ Some blocks) (first : MadeCell) (sources : Sources) (s : ServingClient) (is : IsEntered cell first number blocks sources s) (besides : List Event) (are : AreBeside number besides) (uses_are : (grown_all first besides).uses number ≡ s.beside.uses) (copies_are : (f : Fid) → server_in ((grown_all first besides).copies number f) ≡ s.beside.copies f) where
  abbrev new : MadeCell
  new = grown_all first besides

  left_beside : IsBesideOf number first new
  left_beside = all_beside number first besides are

  client_same : (n b : ℕ) → client_in new n b ≡ client_in first n b
  client_same n b = ap (λ (x : MadeCell). client_in x n b) left_beside.same

  sizes_same : new.sizes ≡ cell.sizes
  sizes_same = ap (λ (x : MadeCell). x.sizes) left_beside.same ∙ is.sizes

  parts : (n b : ℕ) → new.sizes n ≡ Some b → Parts (client_in new n b) (new.uses n) (copies_in new n)
  parts n b e = elim (cases_eq n number) [
    | inl same ↦ (
        let sized : Some blocks ≡ Some b = sym there ∙ ap cell.sizes (sym same) ∙ sym (ap (λ f. f n) sizes_same) ∙ e in
        let b_is : blocks ≡ b = cc in
        subst (λ m. Parts (client_in new m b) (new.uses m) (copies_in new m)) (sym same)
        (subst (λ x. Parts (client_in new number x) (new.uses number) (copies_in new number)) b_is
        (subst (λ (c : ClientState). Parts c (new.uses number) (copies_in new number)) (sym (client_same number blocks))
        (parts_of sources s (client_in first number blocks) (new.uses number) (copies_in new number) is.at_work is.client
        (sym uses_are) copies_are is.runs))))
    | inr other ↦
        subst (λ (c : ClientState). Parts c (new.uses n) (copies_in new n)) (sym (client_same n b ∙ is.others n b other))
        (subst (λ uses. Parts (client_in cell n b) uses (copies_in new n)) (sym (left_beside.uses n other ∙ ap (λ f. f n) is.uses))
        (fewer_in cell new n (client_in cell n b) (cell.uses n) (parts_in cell w n b (sym (ap (λ f. f n) sizes_same) ∙ e))
        (λ f none. left_beside.copies n f other ∙ ap (λ x. x n f) is.copies ∙ none)))
  ]

  unmade : (client : ℕ) → new.sizes client ≡ None → IsUnused new client
  unmade client none =
      let none_then : cell.sizes client ≡ None = sym (ap (λ f. f client) sizes_same) ∙ none in
      let other : client ≢ number = λ same. let no : None ≡ Some blocks = sym none_then ∙ ap cell.sizes same ∙ there in cc in
      record {
        copies = λ f. left_beside.copies client f other ∙ ap (λ x. x client f) is.copies ∙ (w.unmade client none_then).copies f;
        uses = left_beside.uses client other ∙ ap (λ x. x client) is.uses ∙ (w.unmade client none_then).uses;
      }

  -- the cell works
  pub entered_works : IsWorking new
  entered_works =
      working_by new (subst IsKept (sym left_beside.same) (kept_beside first new.copies new.uses is.kept))
      (subst (λ (x : MadeCell). AreAsMade x.acted) (sym left_beside.same) is.kinds) unmade parts

  -- and the client is as the step leaves it
  pub entered_serving : serving_client (state_of new) number (client_in new number blocks) ≡ s
  entered_serving = λ i. record {
    client = (ap as_client (client_same number blocks) ∙ sym is.client) i;
    beside = record { copies = λ f. copies_are f i; uses = uses_are i };
  }

  pub entered_sources : sources_of (state_of new) number ≡ sources_of (state_of cell) number
  entered_sources = ap (λ (x : MadeCell). sources_of (state_of x) number) left_beside.same ∙ is.sources_same

  pub entered_sizes : new.sizes number ≡ Some blocks
  entered_sizes = ap (λ f. f number) sizes_same ∙ there

-- ---- what is beside entries

used_is : (uses fids : List Fid) → used_then uses fids ≡ used_all uses fids
used_is uses [] = refl
used_is uses (fid ∷ fids) = used_is (latest uses fid) fids

pub stale_beside : (number : ℕ) (fids : List Fid) → AreBeside number (stale number fids)
stale_beside number [] = tt
stale_beside number (fid ∷ fids) = (refl, tt)

new_beside : (number : ℕ) (o : Option (Fid × Fid)) → AreBeside number (used_new number o)
new_beside number None = tt
new_beside number (Some made) = (refl, tt)

-- copies that aren't valid any more by what went
stale_copies : (cell : MadeCell) (number : ℕ) (gone : List Fid) (f : Fid)
    → server_in ((grown_all cell (stale number gone)).copies number f)
    ≡ copies_without (λ g. server_in (cell.copies number g)) gone f
stale_copies cell number [] f = refl
stale_copies cell number (g ∷ gone) f =
    ap (λ b. server_in (cond (b && is_listed (g ∷ gone) f) None (cell.copies number f))) (eq-eqb number number refl)
    ∙ by (is_listed (g ∷ gone) f)
  where
    by : (b : Bool) → server_in (cond b None (cell.copies number f)) ≡ cond b None (server_in (cell.copies number f))
    by true = refl
    by false = refl

stale_uses : (cell : MadeCell) (number : ℕ) (gone : List Fid) → (grown_all cell (stale number gone)).uses ≡ cell.uses
stale_uses cell number [] = refl
stale_uses cell number (g ∷ gone) = refl

-- with a copy that a server gave
kept_copies : (copies : ℕ → Fid → Option Copy) (number : ℕ) (fid : Fid) (copy : Copy) (f : Fid)
    → server_in (with_copy copies number fid copy number f)
    ≡ copies_with (λ g. server_in (copies number g)) fid copy.server f
kept_copies copies number fid copy f =
    ap (λ b. server_in (cond (b && same_fid f fid) (Some copy) (copies number f))) (eq-eqb number number refl)
    ∙ by (same_fid f fid)
  where
    by : (b : Bool) → server_in (cond b (Some copy) (copies number f)) ≡ cond b (Some copy.server) (server_in (copies number f))
    by true = refl
    by false = refl

-- a fetch
module _ (first : MadeCell) (number : ℕ) (gone : List Fid) (fid : Fid) (server : ℕ) where
  abbrev rest : List Event
  rest = Kept number server fid ∷ Used number (fid ∷ []) ∷ []

  abbrev mid : MadeCell
  mid = grown_all first (stale number gone)

  both_are : grown_all first (stale number gone ++ rest) ≡ grown_all mid rest
  both_are = grown_both first (stale number gone) rest

  fetch_uses : (grown_all first (stale number gone ++ rest)).uses number ≡ latest (first.uses number) fid
  fetch_uses =
      ap (λ (x : MadeCell). x.uses number) both_are
      ∙ put_here mid.uses number (used_then (mid.uses number) (fid ∷ []))
      ∙ ap (λ u. latest (u number) fid) (stale_uses first number gone)

  fetch_copies : (f : Fid) → server_in ((grown_all first (stale number gone ++ rest)).copies number f)
      ≡ copies_with (copies_without (λ g. server_in (first.copies number g)) gone) fid server f
  fetch_copies f =
      ap (λ (x : MadeCell). server_in (x.copies number f)) both_are
      ∙ kept_copies mid.copies number fid _ f
      ∙ ap (λ x. cond (same_fid f fid) (Some server) x) (stale_copies first number gone f)

-- an operation
module _ (first : MadeCell) (number : ℕ) (gone : List Fid) where
  operation_uses : (o : Option (Fid × Fid))
      → (grown_all first (stale number gone ++ used_new number o)).uses number ≡ uses_new (first.uses number) o
  operation_uses None =
      ap (λ (x : MadeCell). x.uses number) (grown_both first (stale number gone) [])
      ∙ ap (λ u. u number) (stale_uses first number gone)
  operation_uses (Some made) =
      ap (λ (x : MadeCell). x.uses number) (grown_both first (stale number gone) (Used number (made.1 ∷ []) ∷ []))
      ∙ put_here (grown_all first (stale number gone)).uses number _
      ∙ ap (λ u. latest (u number) made.1) (stale_uses first number gone)

  operation_copies : (o : Option (Fid × Fid)) (f : Fid)
      → server_in ((grown_all first (stale number gone ++ used_new number o)).copies number f)
      ≡ copies_without (λ g. server_in (first.copies number g)) gone f
  operation_copies None f =
      ap (λ (x : MadeCell). server_in (x.copies number f)) (grown_both first (stale number gone) [])
      ∙ stale_copies first number gone f
  operation_copies (Some made) f =
      ap (λ (x : MadeCell). server_in (x.copies number f)) (grown_both first (stale number gone) (Used number (made.1 ∷ []) ∷ []))
      ∙ stale_copies first number gone f

-- ---- a step

-- a step might happen, and the cell works on; the client is as the step leaves it, and can fetch what it could
pub record StepWorks (cell : MadeCell) (number blocks : ℕ) (step : RoundStep) : Type 0 where
  pub works : WorksOn cell (events_of_step number step)
  pub serving : (let new = grown_all cell (events_of_step number step) in
      serving_client (state_of new) number (client_in new number blocks)
      ≡ serving_after (serving_client (state_of cell) number (client_in cell number blocks)) step)
  pub sources : sources_of (state_of (grown_all cell (events_of_step number step))) number ≡ sources_of (state_of cell) number
  pub sizes : (grown_all cell (events_of_step number step)).sizes number ≡ Some blocks

module _ (cell : MadeCell) (w : IsWorking cell) (number blocks : ℕ) (there : cell.sizes number ≡ Some blocks) where
  abbrev s : ServingClient
  s = serving_client (state_of cell) number (client_in cell number blocks)

  abbrev sources : Sources
  sources = sources_of (state_of cell) number

  -- what a step enters leaves the cell so
  entered : (step : RoundStep) (entry : ClientEntry) → EntersStep cell number blocks sources s step entry
      → IsEntered cell (grown cell (at_client number entry)) number blocks sources (serving_after s step)
  entered step entry e =
      let first = grown cell (at_client number entry) in
      let more : HasMore cell first number (entry ∷ []) = has_more cell number (entry ∷ []) in
      let here : client_in first number blocks ≡ client_after (client_in cell number blocks) entry =
      ap (λ h. client_of number h blocks) more.here
      ∙ client_push (new_client number blocks) (cell.acted.clients number).history entry in record {
        kept = e.left.kept;
        kinds = e.kinds;
        client = e.client ∙ ap as_client (sym here);
        runs = subst HaveRuns (sym here) e.runs;
        at_work = e.at_work;
        others = λ n b other. ap (λ (a : Actor ClientEntry). client_of n a.history b) (more.others n other);
        sizes = refl;
        copies = refl;
        uses = refl;
        sources_same = refl;
      }

  module _ (step : RoundStep) (entry : ClientEntry) (e : EntersStep cell number blocks sources s step entry)
      (besides : List Event) (are : AreBeside number besides)
      (uses_are : (grown_all (grown cell (at_client number entry)) besides).uses number ≡ (serving_after s step).beside.uses)
      (copies_are : (f : Fid) → server_in ((grown_all (grown cell (at_client number entry)) besides).copies number f) ≡ (serving_after s step).beside.copies f)
      (is : events_of_step number step ≡ at_client number entry ∷ besides) where
    abbrev first_cell : MadeCell
    first_cell = grown cell (at_client number entry)

    with_events : (let new = grown_all first_cell besides in
        WorksOn cell (at_client number entry ∷ besides)
        × (serving_client (state_of new) number (client_in new number blocks) ≡ serving_after s step)
        × (sources_of (state_of new) number ≡ sources)
        × (new.sizes number ≡ Some blocks))
    with_events =
        let i = entered step entry e in (
          group_works number cell (at_client number entry) besides e.left e.fair are
              (entered_works cell w number blocks there first_cell sources (serving_after s step) i besides are uses_are copies_are),
          entered_serving cell w number blocks there first_cell sources (serving_after s step) i besides are uses_are copies_are,
          entered_sources cell w number blocks there first_cell sources (serving_after s step) i besides are uses_are copies_are,
          entered_sizes cell w number blocks there first_cell sources (serving_after s step) i besides are uses_are copies_are,
        )

    by_entry : StepWorks cell number blocks step
    by_entry = record {
      works = subst (WorksOn cell) (sym is) with_events.0;
      serving =
          ap (λ events. serving_client (state_of (grown_all cell events)) number (client_in (grown_all cell events) number blocks)) is
          ∙ with_events.1;
      sources = ap (λ events. sources_of (state_of (grown_all cell events)) number) is ∙ with_events.2;
      sizes = ap (λ events. (grown_all cell events).sizes number) is ∙ with_events.3;
    }

  -- looking up enters nothing
  looked_entered : (fids : List Fid) → IsEntered cell cell number blocks sources (serving_after s (Looked fids))
  looked_entered fids = record {
    kept = w.kept;
    kinds = w.kinds;
    client = refl;
    runs = w.runs number blocks there;
    at_work = clients_stay_ready.stepped sources s (Looked fids) (w.at_work number blocks there)
        (record { may = tt; comes = tt; kinds = tt; volumes = tt });
    others = λ n b other. refl;
    sizes = refl;
    copies = refl;
    uses = refl;
    sources_same = refl;
  }

  looked_works : (fids : List Fid) → StepWorks cell number blocks (Looked fids)
  looked_works [] = record { works = w; serving = refl; sources = refl; sizes = there }
  looked_works (fid ∷ fids) =
      let step : RoundStep = Looked (fid ∷ fids) in
      let looks : List Event = Used number (fid ∷ fids) ∷ [] in
      let are : AreBeside number looks = (refl, tt) in
      let uses_are = put_here cell.uses number (used_then (cell.uses number) (fid ∷ fids)) ∙ used_is (cell.uses number) (fid ∷ fids) in
      let works = entered_works cell w number blocks there cell sources (serving_after s step) (looked_entered (fid ∷ fids)) looks are uses_are (λ f. refl) in
      record {
        works = group_works number cell (Used number (fid ∷ fids)) []
            (beside_left number cell (Used number (fid ∷ fids)) refl w.kept) tt tt works;
        serving = entered_serving cell w number blocks there cell sources (serving_after s step) (looked_entered (fid ∷ fids)) looks are uses_are (λ f. refl);
        sources = refl;
        sizes = there;
      }

  pub step_works : (step : RoundStep) → MayEnterAll s.client (entries_of_step step) → IsGiven sources s step
      → StepWorks cell number blocks step
  step_works (Looked fids) may given = looked_works fids
  step_works (Turned fid server) may given = record { works = w; serving = refl; sources = refl; sizes = there }
  step_works (Installed gone fid parent node server) may given =
      let step : RoundStep = Installed gone fid parent node server in
      let entry : ClientEntry = making_room gone (Fetched fid parent node) in
      let first = grown cell (at_client number entry) in
      by_entry step entry (fetch_enters cell w number blocks there gone fid parent node server may given.0 given.1)
      (stale number gone ++ Kept number server fid ∷ Used number (fid ∷ []) ∷ [])
      (beside_both number (stale number gone) (Kept number server fid ∷ Used number (fid ∷ []) ∷ []) (stale_beside number gone) (refl, (refl, tt)))
      (fetch_uses first number gone fid server) (fetch_copies first number gone fid server) refl
  step_works (Performed gone volume rec) may given =
      let step : RoundStep = Performed gone volume rec in
      let entry : ClientEntry = making_room gone (Did volume (Operated rec)) in
      let first = grown cell (at_client number entry) in
      by_entry step entry (operation_enters cell w number blocks there gone volume rec may)
      (stale number gone ++ used_new number (new_node rec.op))
      (beside_both number (stale number gone) (used_new number (new_node rec.op)) (stale_beside number gone) (new_beside number (new_node rec.op)))
      (operation_uses first number gone (new_node rec.op)) (operation_copies first number gone (new_node rec.op)) refl

-- ---- all steps

pub steps_work : (cell : MadeCell) (w : IsWorking cell) (number blocks : ℕ) → cell.sizes number ≡ Some blocks
    → (steps : List RoundStep)
    → MayEnterSteps (serving_client (state_of cell) number (client_in cell number blocks)) steps
    → AreGiven (sources_of (state_of cell) number) (serving_client (state_of cell) number (client_in cell number blocks)) steps
    → WorksOn cell (events_of_steps number steps)
steps_work cell w number blocks there [] may given = w
steps_work cell w number blocks there (step ∷ steps) may given =
    let one = step_works cell w number blocks there step may.0 given.0 in
    let new = grown_all cell (events_of_step number step) in
    works_both cell (events_of_step number step) (events_of_steps number steps) one.works
    (steps_work new (works_behind cell (events_of_step number step) one.works) number blocks one.sizes steps
    (subst (λ (x : ServingClient). MayEnterSteps x steps) (sym one.serving) may.1)
    (subst (λ (x : Sources). AreGiven x (serving_client (state_of new) number (client_in new number blocks)) steps) (sym one.sources)
    (subst (λ (x : ServingClient). AreGiven (sources_of (state_of cell) number) x steps) (sym one.serving) given.1)))

-- the client is then as the steps leave it
pub steps_leave : (cell : MadeCell) (w : IsWorking cell) (number blocks : ℕ) → cell.sizes number ≡ Some blocks
    → (steps : List RoundStep)
    → MayEnterSteps (serving_client (state_of cell) number (client_in cell number blocks)) steps
    → AreGiven (sources_of (state_of cell) number) (serving_client (state_of cell) number (client_in cell number blocks)) steps
    → (let new = grown_all cell (events_of_steps number steps) in
    (serving_client (state_of new) number (client_in new number blocks)
    ≡ serving_after_all (serving_client (state_of cell) number (client_in cell number blocks)) steps)
    × (new.sizes number ≡ Some blocks))
steps_leave cell w number blocks there [] may given = (refl, there)
steps_leave cell w number blocks there (step ∷ steps) may given =
    let one = step_works cell w number blocks there step may.0 given.0 in
    let new = grown_all cell (events_of_step number step) in
    let more = steps_leave new (works_behind cell (events_of_step number step) one.works) number blocks one.sizes steps
    (subst (λ (x : ServingClient). MayEnterSteps x steps) (sym one.serving) may.1)
    (subst (λ (x : Sources). AreGiven x (serving_client (state_of new) number (client_in new number blocks)) steps) (sym one.sources)
    (subst (λ (x : ServingClient). AreGiven (sources_of (state_of cell) number) x steps) (sym one.serving) given.1)) in
    let both = grown_both cell (events_of_step number step) (events_of_steps number steps) in (
      ap (λ (x : MadeCell). serving_client (state_of x) number (client_in x number blocks)) both ∙ more.0
          ∙ ap (λ (x : ServingClient). serving_after_all x steps) one.serving,
      ap (λ (x : MadeCell). x.sizes number) both ∙ more.1,
    )
