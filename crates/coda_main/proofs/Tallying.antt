-- What a run of a script tells of the disks of its cell.
use Rattle.std.proofs.Common.{◌≡◌, ◌≢◌, ◌≤◌, ◌+◌, inl, inr, ℕ, Bool, true, false, List, [], Ok, refl, sym, ap, ◌∙◌, subst, arith}
use Rattle.std.specs.Prelude.{Option, if◌then◌else◌}
use Rattle.coda_io.specs.Faults.{counted, Rose}
use Rattle.coda_disk.specs.Bays.{plus}
use Rattle.coda_disk.specs.Told.{Told}
use Rattle.coda_engine.proofs.Simulation.{Simulates, reports_shown}
use Rattle.coda_engine.specs.Machine.{Breaks, Leaves}
use Rattle.coda_engine.specs.Run.{Reports}
use Rattle.coda_engine.specs.declared.status.Status.{Status}
use Rattle.coda_engine.specs.declared.status.Status.TheVariants.{Done, Usage, Script, SourceFault, SinkFault, TooLong, BayFault, Memory}
use Rattle.coda_script.specs.declared.line.Line.{Line}
use Rattle.coda_script.specs.declared.refusal.Refusal.TheVariants.{DiskFault}
use Rattle.coda_script.specs.declared.reply.Reply.{Reply}
use Rattle.coda_script.specs.declared.reply.Reply.TheVariants.{Refused}
use Rattle.coda_shelves.specs.Lines.{refused_fault}
use Rattle.coda_site.specs.Totals.{Counts, IsCounted, IsFault, has_armed}
use Rattle.coda_runs.specs.Shelved.{IsBadLine, LineRefused}
use Rattle.coda_main.specs.Shows.{BreaksOff, Moment}
use Rattle.coda_main.specs.Reported.{LineRan}
use Rattle.coda_main.specs.Tallies.{tells_fault, Tally, no_tally, tally_with, TallyGives, IsReportOfDisks}
use Rattle.coda_main.proofs.Showing.{Gave}

-- the totals of a cell rose from the first ones as the tally says
pub record IsTallied (first : Counts) (tally : Tally) (now : Counts) : Type 0 where
  pub faults : plus first.faults tally.faults ≤ now.faults
  pub arms : now.arms ≡ plus first.arms tally.arms

fault_is : (reply : Reply) → tells_fault reply ≡ true → reply ≡ refused_fault
fault_is (Refused DiskFault []) e = refl
fault_is _ e = cc

faults_on : (b : Bool) (first tally old new : ℕ) → plus first tally ≤ old → old ≤ new → (b ≡ true → Rose old new) → plus first (if b then tally + 1 else tally) ≤ new
faults_on true first tally old new was later rose = let r = rose refl in omega (arith, was, r)
faults_on false first tally old new was later rose = omega (arith, was, later)

arms_on : (b : Bool) (first tally old new : ℕ) → old ≡ plus first tally → new ≡ (if b then counted old else old) → new ≡ plus first (if b then tally + 1 else tally)
arms_on true first tally old new was is = omega (arith, was, is)
arms_on false first tally old new was is = is ∙ was

-- What a line keeps at which the bay was at fault, each run keeps that wants no memory.
pub kept_left : {M : Type 0} {breaks : Breaks M} (P : M → Type 0) (last new : M) (status : Status) → status ≢ Memory → Leaves breaks last new status → (breaks last new → P last → P new) → P last → P new
kept_left P last new BayFault memory leaves keeps p = keeps (leaves.broken refl) p
kept_left P last new Memory memory leaves keeps p = absurd (memory refl)
kept_left P last new Done memory leaves keeps p = subst P (sym (leaves.same memory (λ e. cc))) p
kept_left P last new Usage memory leaves keeps p = subst P (sym (leaves.same memory (λ e. cc))) p
kept_left P last new SourceFault memory leaves keeps p = subst P (sym (leaves.same memory (λ e. cc))) p
kept_left P last new SinkFault memory leaves keeps p = subst P (sym (leaves.same memory (λ e. cc))) p
kept_left P last new TooLong memory leaves keeps p = subst P (sym (leaves.same memory (λ e. cc))) p
kept_left P last new (Script line column kind) memory leaves keeps p = subst P (sym (leaves.same memory (λ e. cc))) p

-- so the totals rise as the tally says where a run ended, and the bay answered what it had answered by then
module _ {D M : Type 0} (at : M → Moment D) (counts : M → Counts) (last new : M) (status : Status) (memory : status ≢ Memory) (leaves : Leaves (λ a b. BreaksOff (at a) (counts a) (at b) (counts b)) last new status) where
  pub tallied_left : (first : Counts) (tally : Tally) → IsTallied first tally (counts last) → IsTallied first tally (counts new)
  tallied_left first tally = kept_left (λ m. IsTallied first tally (counts m)) last new status memory leaves
      (λ broken t. record { faults = (let was = t.faults in let later = broken.faults in omega (arith, was, later)); arms = broken.arms ∙ t.arms })

  pub answered_left : (images : List (List ℕ)) → (at last).answered ≡ images → (at new).answered ≡ images
  answered_left images = kept_left (λ m. (at m).answered ≡ images) last new status memory leaves (λ broken same. broken.answered ∙ same)

pub tallied : (first : Counts) (said : Line) (reply : Reply) (tally : Tally) (old new : Counts) → IsTallied first tally old → IsCounted (IsFault (Ok reply)) (has_armed said (Ok reply)) old new → IsTallied first (tally_with said reply tally) new
tallied first said reply tally old new was c = record {
  faults = faults_on (tells_fault reply) first.faults tally.faults old.faults new.faults was.faults c.later (λ e. c.cause (ap Ok (fault_is reply e)));
  arms = arms_on (has_armed said (Ok reply)) first.arms tally.arms old.arms new.arms was.arms c.arms;
}

-- ---- what is told whatever the disks hold

module _ {D M : Type 0} (told : D → Told) (at : M → Moment D) (counts : M → Counts) where
  tallies_shown : (first : Counts) → Simulates (λ (tally : Tally) (m : M). IsTallied first tally (counts m)) TallyGives LineRefused
      (Gave told at counts) (λ m line column kind. IsBadLine line column kind)
  tallies_shown first = record {
    step = λ tally m m' line text outside shows ran. go tally m m' line text outside shows ran.0;
    refusal = λ tally m line column kind shows refuses. refuses;
  }
    where
      go : (tally : Tally) (m m' : M) (line text : List ℕ) (outside : List (List ℕ)) → IsTallied first tally (counts m) → LineRan told (at m) (counts m) line text outside (at m') (counts m') → (next : Tally) × TallyGives tally line text outside next × IsTallied first next (counts m')
      go tally m m' line text outside shows (inl silent) = (tally, inl (silent.0, silent.1, refl), subst (IsTallied first tally) (sym silent.3) shows)
      go tally m m' line text outside shows (inr c) = (tally_with c.0.said c.0.reply tally, inr (c.0, refl), tallied first c.0.said c.0.reply tally (counts m) (counts m') shows c.1)

  -- What a run tells of disks, where the sums of the bay, once all is given back, are the totals that the run left.
  pub reported_disks : (new old last : M) (left_old left_new held_old held_new : Option (List ℕ)) (outside : List (List ℕ)) (status : Status)
      → Reports (Gave told at counts) (λ m line column kind. IsBadLine line column kind) old last left_old left_new held_old held_new outside status → Leaves (λ a b. BreaksOff (at a) (counts a) (at b) (counts b)) last new status
      → (faults_old faults_new arms_old arms_new : ℕ) → (counts old).faults ≡ plus faults_old 0 → (counts old).arms ≡ plus arms_old 0 → plus faults_new 0 ≡ (counts new).faults → plus arms_new 0 ≡ (counts new).arms
      → IsReportOfDisks faults_old faults_new arms_old arms_new left_old left_new held_old held_new status
  reported_disks new old last left_old left_new held_old held_new outside status reports leaves faults_old faults_new arms_old arms_new f0 a0 f1 a1 =
      let first : Counts = record { faults = faults_old; arms = arms_old } in
      let start : IsTallied first no_tally (counts old) = record { faults = omega (arith, f0); arms = a0 } in
      let shown = reports_shown (tallies_shown first) no_tally old last left_old left_new held_old held_new outside status start reports in record {
        tally = shown.0;
        outside = outside;
        reports = shown.1;
        faults = λ memory. (let t = tallied_left at counts last new status memory leaves first shown.0 shown.2 in let f = t.faults in omega (arith, f, f1));
        arms = λ memory. a1 ∙ (tallied_left at counts last new status memory leaves first shown.0 shown.2).arms;
      }
