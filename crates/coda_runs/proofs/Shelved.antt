-- Runs over whatever stands on disks go on.
use Rattle.std.proofs.Common.{◌≡◌, ℕ, List, [], ◌∷◌, Option, Some, None, Ok, option_map, sym, ap, ◌∙◌, subst, inl, inr}
use Rattle.coda_cancel.specs.Cancel.{fold}
use Rattle.coda_engine.specs.Run.{Runs}
use Rattle.coda_journal.specs.declared.header.Header.{Header}
use Rattle.coda_plain.specs.Cell.{deeds_of}
use Rattle.coda_plain.specs.Deeds.{pending_of}
use Rattle.coda_plain.specs.Logs.{front_by}
use Rattle.coda_plain.proofs.Soundness.{none_joins}
use Rattle.coda_cell.specs.Made.{client_of}
use Rattle.coda_cell.specs.State.{ClientVolume, ClientState}
use Rattle.coda_cell.proofs.Histories.{volumes_are, shown, runs_are, thawed_are}
use Rattle.coda_script.specs.declared.line.Line.{Line}
use Rattle.coda_script.specs.Lines.{line_of}
use Rattle.coda_script.specs.Ranges.{InRange}
use Rattle.coda_script.proofs.WholeLines.{is_found, is_in_range}
use Rattle.coda_shelves.specs.Cells.{Cell, begun_on, shelves_of, asked, state_of}
use Rattle.coda_shelves.specs.FromBlank.{IsFromBlank, ArePlaced}
use Rattle.coda_shelves.specs.Laws.{Stay}
use Rattle.coda_shelves.specs.Running.{IsKept}
use Rattle.coda_shelves.specs.Shelves.{blank_shelves}
use Rattle.coda_shelves.proofs.FromBlank.{runs_from_blank}
use Rattle.coda_shelves.proofs.Keeping.{shelves_are_kept, stay_same, stay_twice}
use Rattle.coda_shelves.proofs.Placed.{lines_keep_places}
use Rattle.coda_runs.specs.Shelved.{LineGives, IsOfPending, RunsGoOn, RunsFromBlankGoOn}

-- the numbers that a line names are in their ranges
pub read_in_range : (bytes : List ℕ) (said : Line) → line_of bytes ≡ Ok (Some said) → InRange said
read_in_range bytes said spelled = is_in_range bytes (Ok (Some said)) (is_found bytes (Ok (Some said)) spelled)

pub gives_kept : (old new : Cell) (bytes text : List ℕ) (outside : List (List ℕ)) → IsKept old → LineGives old bytes text outside new → IsKept new
gives_kept old new bytes text outside kept (inl silent) = subst (λ (t : Cell). IsKept t) (sym silent.3) kept
gives_kept old new bytes text outside kept (inr r) = shelves_are_kept.lines old new r.said r.reply outside kept (read_in_range bytes r.said r.spelled) r.happens

gives_stay : (old new : Cell) (bytes text : List ℕ) (outside : List (List ℕ)) → LineGives old bytes text outside new → Stay (shelves_of old) (shelves_of new)
gives_stay old new bytes text outside (inl silent) = subst (λ (t : Cell). Stay (shelves_of old) (shelves_of t)) (sym silent.3) (stay_same (shelves_of old))
gives_stay old new bytes text outside (inr r) = shelves_are_kept.stays old new r.said r.reply outside r.happens

gives_blank : (old new : Cell) (bytes text : List ℕ) (outside : List (List ℕ)) → IsKept old → IsFromBlank old → LineGives old bytes text outside new → IsFromBlank new
gives_blank old new bytes text outside kept blank (inl silent) = subst (λ (t : Cell). IsFromBlank t) (sym silent.3) blank
gives_blank old new bytes text outside kept blank (inr r) = runs_from_blank.lines old new r.said r.reply outside kept blank (read_in_range bytes r.said r.spelled) r.built r.happens

-- and its volumes have their replicas
pub gives_placed : (old new : Cell) (bytes text : List ℕ) (outside : List (List ℕ)) → IsKept old → ArePlaced old → LineGives old bytes text outside new → ArePlaced new
gives_placed old new bytes text outside kept placed (inl silent) = subst (λ (t : Cell). ArePlaced t) (sym silent.3) placed
gives_placed old new bytes text outside kept placed (inr r) = lines_keep_places.lines old new r.said r.reply outside kept placed (read_in_range bytes r.said r.spelled) r.built r.happens

pub runs_placed : (old new : Cell) (ls : List (List ℕ)) (report : List ℕ) (outside : List (List ℕ)) → IsKept old → ArePlaced old → Runs LineGives old ls report outside new → ArePlaced new
runs_placed old new [] report outside kept placed run = subst (λ (t : Cell). ArePlaced t) (sym run.2) placed
runs_placed old new (l ∷ more) report outside kept placed run =
    runs_placed run.0 new more run.2 run.4 (gives_kept old run.0 l run.1 run.3 kept run.5) (gives_placed old run.0 l run.1 run.3 kept placed run.5) run.6

pub runs_kept : (old new : Cell) (ls : List (List ℕ)) (report : List ℕ) (outside : List (List ℕ)) → IsKept old → Runs LineGives old ls report outside new → IsKept new
runs_kept old new [] report outside kept run = subst (λ (t : Cell). IsKept t) (sym run.2) kept
runs_kept old new (l ∷ more) report outside kept run = runs_kept run.0 new more run.2 run.4 (gives_kept old run.0 l run.1 run.3 kept run.5) run.6

pub runs_stay : (old new : Cell) (ls : List (List ℕ)) (report : List ℕ) (outside : List (List ℕ)) → Runs LineGives old ls report outside new → Stay (shelves_of old) (shelves_of new)
runs_stay old new [] report outside run = subst (λ (t : Cell). Stay (shelves_of old) (shelves_of t)) (sym run.2) (stay_same (shelves_of old))
runs_stay old new (l ∷ more) report outside run =
    stay_twice (shelves_of old) (shelves_of run.0) (shelves_of new) (gives_stay old run.0 l run.1 run.3 run.5) (runs_stay run.0 new more run.2 run.4 run.6)

pub runs_blank : (old new : Cell) (ls : List (List ℕ)) (report : List ℕ) (outside : List (List ℕ)) → IsKept old → IsFromBlank old → Runs LineGives old ls report outside new → IsFromBlank new
runs_blank old new [] report outside kept blank run = subst (λ (t : Cell). IsFromBlank t) (sym run.2) blank
runs_blank old new (l ∷ more) report outside kept blank run =
    runs_blank run.0 new more run.2 run.4 (gives_kept old run.0 l run.1 run.3 kept run.5) (gives_blank old run.0 l run.1 run.3 kept blank run.5) run.6

-- ---- logs

client_is : (client : ℕ) (cell : Cell) (o : Option Header) (c : ClientState) → option_map (λ (header : Header). client_of client (cell.clients client).disk.history header.cache) o ≡ Some c
    → (header : Header) × (client_of client (cell.clients client).disk.history header.cache ≡ c)
client_is client cell None c e = cc
client_is client cell (Some header) c e = (header, cc)

pub pending_in : (cell : Cell) → IsKept cell → (client volume : ℕ) (c : ClientState) → (state_of cell).clients client ≡ Some c → IsOfPending (deeds_of volume (cell.clients client).disk.history) c volume
pending_in cell kept client volume c e =
    let there = client_is client cell (asked (cell.clients client).life) c e in
    let deeds = deeds_of volume (cell.clients client).disk.history in
    let law = (kept.shelves.agree none_joins).lawful client volume in
    let volume_is = volumes_are client there.0.cache (cell.clients client).disk.history volume in
    let is = shown deeds law in
    subst (λ x. IsOfPending deeds x volume) there.1 (record {
      chunk = ap fold (ap (λ (v : ClientVolume). v.front) volume_is ∙ is.front);
      records = ap fold (ap (λ (v : ClientVolume). v.back) volume_is ∙ is.back);
      pending = runs_are deeds law;
      thawed = λ none. ap (λ o. front_by o (pending_of deeds)) (thawed_are deeds law (sym (ap (λ (v : ClientVolume). v.frozen) volume_is) ∙ none)).0;
    })

pub runs_go_on : RunsGoOn
runs_go_on shelves end ls report outside kept run =
    let last = runs_kept (begun_on shelves) end ls report outside (shelves_are_kept.begins shelves kept) run in
    record {
      kept = last;
      promised = λ joins. shelves_are_kept.promised (shelves_of end) last.shelves joins;
      stays = runs_stay (begun_on shelves) end ls report outside run;
      logs = pending_in end last;
    }

pub runs_from_blank_go_on : RunsFromBlankGoOn
runs_from_blank_go_on end ls report outside run joins =
    let begun = shelves_are_kept.begins blank_shelves shelves_are_kept.blank in
    runs_from_blank.promised end (runs_kept (begun_on blank_shelves) end ls report outside begun run) (runs_blank (begun_on blank_shelves) end ls report outside begun runs_from_blank.first run) joins
