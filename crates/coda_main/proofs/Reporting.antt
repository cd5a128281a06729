-- What the report of a script tells of a run over whatever stands on the disks of a bay.
use Rattle.std.proofs.Common.{◌≡◌, ◌≢◌, ◌++◌, ℕ, Bool, List, [], ◌∷◌, Option, refl, sym, ap, ◌∙◌, subst, inl, inr, arith}
use Rattle.std.proofs.lemmas.List.{append_assoc, append-nil}
use Rattle.coda_disk.specs.Bays.{plus}
use Rattle.coda_disk.specs.Told.{Told}
use Rattle.coda_engine.proofs.Simulation.{Simulates, reports_shown}
use Rattle.coda_engine.specs.Machine.{Gives, Refuses, Leaves}
use Rattle.coda_engine.specs.Run.{Runs, BrokeOff, Answers, Reports, is_at_end}
use Rattle.coda_engine.specs.declared.status.Status.{Status}
use Rattle.coda_engine.specs.declared.status.Status.TheVariants.{Done, Usage, Script, SourceFault, SinkFault, TooLong, BayFault, Memory}
use Rattle.coda_script.specs.declared.line.Line.{Line}
use Rattle.coda_script.specs.declared.reply.Reply.{Reply}
use Rattle.coda_shelves.specs.Cells.{Cell, begun_on, shelves_of}
use Rattle.coda_shelves.specs.Kept.{AreKept}
use Rattle.coda_shelves.specs.Shelves.{Shelves}
use Rattle.coda_site.specs.Shelves.{Shows, AreOnDisks}
use Rattle.coda_site.specs.Totals.{Counts}
use Rattle.coda_runs.specs.Shelved.{LineGives, IsBadLine, LineRefused}
use Rattle.coda_runs.proofs.Shelved.{runs_go_on}
use Rattle.coda_main.specs.Shows.{BreaksOff, Moment, MayGoOn}
use Rattle.coda_main.specs.Reported.{ShowsAt, LineRan, TalliedCell, TalliedGives, IsReport, IsReportOfLines}
use Rattle.coda_main.specs.Tallies.{Tally, no_tally, tally_with}
use Rattle.coda_main.proofs.Reaching.{reports_ran}
use Rattle.coda_main.proofs.Showing.{Gave, cells_go_on, lines_good}
use Rattle.coda_main.proofs.Tallying.{IsTallied, tallied, tallied_left, answered_left}

-- ---- what a run answered, where each line says what it answers

module _ {M : Type 0} (images : M → List (List ℕ)) (gives : Gives M) (refuses : Refuses M) (each : (old new : M) (bytes text : List ℕ) (outside : List (List ℕ)) → gives old bytes text outside new → images new ≡ images old ++ outside) where
  runs_say : (old new : M) (ls : List (List ℕ)) (report : List ℕ) (outside : List (List ℕ)) → Runs gives old ls report outside new → images new ≡ images old ++ outside
  runs_say old new [] report outside run = ap images run.2 ∙ sym (append-nil (images old)) ∙ ap (λ o. images old ++ o) (sym run.1)
  runs_say old new (l ∷ more) report outside run =
      runs_say run.0 new more run.2 run.4 run.6 ∙ ap (λ a. a ++ run.4) (each old run.0 l run.1 run.3 run.5) ∙ append_assoc (images old) run.3 run.4 ∙ ap (λ o. images old ++ o) (sym run.8)

  broke_say : (old new : M) (all : Bool) (read front rest written : List ℕ) (outside : List (List ℕ)) → BrokeOff gives old all read front rest written outside new → images new ≡ images old ++ outside
  broke_say old new all read front rest written outside b =
      each b.state new b.line b.text b.answered b.did ∙ ap (λ a. a ++ b.answered) (runs_say old b.state b.before b.report b.answers b.runs) ∙ append_assoc (images old) b.answers b.answered ∙ ap (λ o. images old ++ o) (sym b.said)

  answers_say : (old new : M) (all : Bool) (read written : List ℕ) (outside : List (List ℕ)) (status : Status) → Answers gives refuses old new all read written outside status → images new ≡ images old ++ outside
  answers_say old new all read written outside Done a = runs_say old new _ written outside a.1.runs
  answers_say old new all read written outside Usage a = absurd a
  answers_say old new all read written outside (Script line column kind) a = runs_say old new _ written outside a.3.runs
  answers_say old new all read written outside TooLong a = runs_say old new _ written outside a.2.runs
  answers_say old new all read written outside SourceFault a = runs_say old new _ written outside a.2.runs
  answers_say old new all read written outside SinkFault a = broke_say old new all read a.0 a.1 written outside a.2
  answers_say old new all read written outside BayFault a = runs_say old new _ written outside a.3.runs
  answers_say old new all read written outside Memory a = runs_say old new _ a.2 outside a.3.runs

  pub reports_say : (old new : M) (left_old left_new held_old held_new : Option (List ℕ)) (outside : List (List ℕ)) (status : Status) → Reports gives refuses old new left_old left_new held_old held_new outside status → images new ≡ images old ++ outside
  reports_say old new left_old left_new held_old held_new outside status r = answers_say old new (is_at_end left_new) r.0 r.1 outside status r.4

-- ---- cells that are shown, with their tallies and what the bay answered

pub record Both : Type 0 where
  pub at : TalliedCell
  pub images : List (List ℕ)

abbrev pub BothGive : Gives Both
BothGive old bytes text outside new = TalliedGives old.at bytes text outside new.at × (new.images ≡ old.images ++ outside)

abbrev pub BothRefuse : Refuses Both
BothRefuse old bytes column kind = IsBadLine bytes column kind

pub alone_shown : Simulates (λ (t : TalliedCell) (b : Both). t ≡ b.at) TalliedGives LineRefused BothGive BothRefuse
alone_shown = record {
  step = λ t b b' line text outside is ran. (b'.at, subst (λ (x : TalliedCell). TalliedGives x line text outside b'.at) (sym is) ran.0, refl);
  refusal = λ t b line column kind is refuses. refuses;
}

abbrev pub CellRefuses : Refuses Cell
CellRefuses old bytes column kind = IsBadLine bytes column kind

-- the cell alone
pub untallied : Simulates (λ (c : Cell) (t : TalliedCell). c ≡ t.cell) LineGives CellRefuses TalliedGives LineRefused
untallied = record {
  step = λ c t t' line text outside is ran. (t'.cell, subst (λ (x : Cell). LineGives x line text outside t'.cell) (sym is) (go t t' line text outside ran), refl);
  refusal = λ c t line column kind is refuses. refuses;
}
  where
    go : (t t' : TalliedCell) (line text : List ℕ) (outside : List (List ℕ)) → TalliedGives t line text outside t' → LineGives t.cell line text outside t'.cell
    go t t' line text outside (inl s) = inl (s.0, s.1, s.2, ap (λ (x : TalliedCell). x.cell) s.3)
    go t t' line text outside (inr r) = inr r.0

module _ {D M : Type 0} (told : D → Told) (at : M → Moment D) (counts : M → Counts) where
  abbrev pub IsShown : Counts → Both → M → Type 0
  IsShown first b m = ShowsAt told b.at.cell b.images (at m) × IsTallied first b.at.tally (counts m)

  pub both_shown : (first : Counts) → Simulates (IsShown first) BothGive BothRefuse (Gave told at counts) (λ m line column kind. IsBadLine line column kind)
  both_shown first = record {
    step = λ b m m' line text outside shows ran. go b m m' line text outside shows ran.0;
    refusal = λ b m line column kind shows refuses. refuses;
  }
    where
      said_so : (b : Both) (m' : M) (said : Line) (reply : Reply) (said2 : Line) (reply2 : Reply) → said2 ≡ said → reply2 ≡ reply
          → IsTallied first (tally_with said reply b.at.tally) (counts m') → IsTallied first (tally_with said2 reply2 b.at.tally) (counts m')
      said_so b m' said reply said2 reply2 e f t =
          subst (λ (s : Line). IsTallied first (tally_with s reply2 b.at.tally) (counts m')) (sym e) (subst (λ (w : Reply). IsTallied first (tally_with said w b.at.tally) (counts m')) (sym f) t)

      go : (b : Both) (m m' : M) (line text : List ℕ) (outside : List (List ℕ)) → IsShown first b m → LineRan told (at m) (counts m) line text outside (at m') (counts m') → (next : Both) × BothGive b line text outside next × IsShown first next m'
      go b m m' line text outside shows (inl s) =
          (b, (inl (s.0, s.1, s.2, refl), sym (append-nil b.images) ∙ ap (λ o. b.images ++ o) (sym s.2)), (s.4 b.at.cell b.images shows.0, subst (IsTallied first b.at.tally) (sym s.3) shows.1))
      go b m m' line text outside shows (inr c) =
          let so = c.2 b.at.cell b.images shows.0 in (
            record { at = record { cell = so.next; tally = tally_with so.replies.said so.replies.reply b.at.tally }; images = b.images ++ outside },
            (inr (so.replies, refl), refl),
            (so.shows, said_so b m' c.0.said c.0.reply so.replies.said so.replies.reply so.said so.reply (tallied first c.0.said c.0.reply b.at.tally (counts m) (counts m') shows.1 c.1)),
          )

-- ---- the report

-- The machine was at old, at last after the last line that ran, and is at new.
module _ {D M : Type 0} (new old last : M) (told : D → Told) (at : M → Moment D) (counts : M → Counts) (left_old left_new held_old held_new : Option (List ℕ)) (outside : List (List ℕ)) (status : Status)
    (reports : Reports (Gave told at counts) (λ m line column kind. IsBadLine line column kind) old last left_old left_new held_old held_new outside status)
    (leaves : Leaves (λ a b. BreaksOff (at a) (counts a) (at b) (counts b)) last new status) where
  -- what holds of the last moment holds of what the run left
  at_new : (P : Moment D → Type 0) → status ≢ Memory → status ≢ BayFault → P (at last) → P (at new)
  at_new P memory bay = subst (λ m. P (at m)) (sym (leaves.same memory bay))

  -- Behind a run that wants no memory and met no fault of the bay, the site goes on.
  pub goes_on : MayGoOn told (at old) → status ≢ Memory → status ≢ BayFault → MayGoOn told (at new)
  goes_on start memory bay = at_new (MayGoOn told) memory bay (reports_shown (cells_go_on told at counts) tt old last left_old left_new held_old held_new outside status start reports).2

  -- What it tells whatever the disks hold.
  pub reported_lines : IsReportOfLines left_old left_new held_old held_new status
  reported_lines = (outside, (reports_shown (lines_good told at counts) tt old last left_old left_new held_old held_new outside status tt reports).1)

  -- What a run tells over whatever shelves that are kept, where the bay, once all is given back, stands for those that the run left, and its sums are the totals.
  pub reported : (shelves : Shelves) (has : ℕ → Told) (before after : List (List ℕ)) (faults_old faults_new arms_old arms_new : ℕ) → AreKept shelves → MayGoOn told (at old) → ShowsAt told (begun_on shelves) before (at old)
      → after ≡ (at new).answered → (MayGoOn told (at new) → (cell : Cell) → Shows told (at new).out (at new).has cell (at new).site → AreOnDisks told has (shelves_of cell))
      → (counts old).faults ≡ plus faults_old 0 → (counts old).arms ≡ plus arms_old 0 → plus faults_new 0 ≡ (counts new).faults → plus arms_new 0 ≡ (counts new).arms
      → IsReport told has before after faults_old faults_new arms_old arms_new left_old left_new held_old held_new status shelves
  reported shelves has before after faults_old faults_new arms_old arms_new kept start shows last_same closes f0 a0 f1 a1 =
      let first : TalliedCell = record { cell = begun_on shelves; tally = no_tally } in
      let entry : Both = record { at = first; images = before } in
      let sums : Counts = record { faults = faults_old; arms = arms_old } in
      let begins : IsTallied sums no_tally (counts old) = record { faults = omega (arith, f0); arms = a0 } in
      let both = reports_shown (both_shown told at counts sums) entry old last left_old left_new held_old held_new outside status (shows, begins) reports in
      let end : Both = both.0 in
      let alone = reports_shown alone_shown first entry end left_old left_new held_old held_new outside status refl both.1 in
      let shown : Reports TalliedGives LineRefused first end.at left_old left_new held_old held_new outside status = subst (λ (t : TalliedCell). Reports TalliedGives LineRefused first t left_old left_new held_old held_new outside status) alone.2 alone.1 in
      let cells = reports_shown untallied (begun_on shelves) first end.at left_old left_new held_old held_new outside status refl shown in
      let cell_run : Reports LineGives CellRefuses (begun_on shelves) end.at.cell left_old left_new held_old held_new outside status = subst (λ (c : Cell). Reports LineGives CellRefuses (begun_on shelves) c left_old left_new held_old held_new outside status) cells.2 cells.1 in
      let ran = reports_ran LineGives CellRefuses (begun_on shelves) end.at.cell left_old left_new held_old held_new outside status cell_run in
      let tallies = λ (memory : status ≢ Memory). tallied_left at counts last new status memory leaves sums end.at.tally both.2.1 in
      record {
        cell = end.at.cell;
        outside = outside;
        tally = end.at.tally;
        reports = shown;
        has_run = runs_go_on shelves end.at.cell ran.lines ran.report ran.outside kept ran.runs;
        answered = λ memory. last_same ∙ answered_left at counts last new status memory leaves end.images both.2.0.1
            ∙ reports_say (λ (b : Both). b.images) BothGive BothRefuse (λ old new bytes text outside gives. gives.1) entry end left_old left_new held_old held_new outside status both.1;
        faults = λ memory. (let f = (tallies memory).faults in omega (arith, f, f1));
        arms = λ memory. a1 ∙ (tallies memory).arms;
        on_disks = λ memory bay. closes (goes_on start memory bay) end.at.cell (at_new (λ (x : Moment D). Shows told x.out x.has end.at.cell x.site) memory bay both.2.0.0);
      }

-- A run doesn't end as wrong words do.
pub not_usage : (left_old left_new held_old held_new : Option (List ℕ)) (status : Status) → IsReportOfLines left_old left_new held_old held_new status → status ≢ Usage
not_usage left_old left_new held_old held_new status reports e = (subst (IsReportOfLines left_old left_new held_old held_new) e reports).1.4
