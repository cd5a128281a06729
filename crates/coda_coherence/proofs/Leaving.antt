-- An entry leaves a copy that it doesn't make not valid.
use Rattle.std.proofs.Common.{◌≡◌, ℕ, Bool, true, false, not, ◌&&◌, ◌==◌, refl, sym, ap, ◌∙◌}
use Rattle.std.proofs.lemmas.Bool.{eq-eqb}
use Rattle.coda_fid.specs.declared.fid.Fid.{Fid}
use Rattle.coda_certify.specs.declared.verdict.Verdict.{Verdict}
use Rattle.coda_certify.specs.declared.verdict.Verdict.TheVariants.{Applied, Conflict}
use Rattle.coda_cml.specs.State.{LogState}
use Rattle.coda_record.specs.declared.entry.ClientEntry.{ClientEntry}
use Rattle.coda_record.specs.declared.entry.ClientEntry.TheVariants.{Op, Freeze, Settled, Giveup, Fetched, Dropped, Hoard}
use Rattle.coda_record.specs.declared.entry.ClientEntry.TheVariants.{Snapshot}
use Rattle.coda_cancel.proofs.Keys.{fid_false}
use Rattle.coda_copies.specs.Copies.{SettlementLeavesCopy, LeavesCopy}
use Rattle.coda_venus.specs.Held.{taken_out, stays_by}
use Rattle.coda_venus.specs.State.{ClientState}
use Rattle.coda_coherence.specs.Cell.{settlement_invalidates, invalidates}

second : (w volume : ℕ) (b : Bool) → ((w == volume) && b) ≡ false → w ≡ volume → b ≡ false
second w volume b h e = ap (λ x. x && b) (sym (eq-eqb w volume e)) ∙ h

left_by_settlement : (verdict : Verdict) (log : LogState) (fid : Fid) → settlement_invalidates verdict log fid ≡ false
    → SettlementLeavesCopy verdict log fid
left_by_settlement Applied log fid h = h
left_by_settlement (Conflict number why) log fid h = tt

pub sparing : (c : ClientState) (entry : ClientEntry) (fid : Fid) → invalidates c entry fid ≡ false
    → LeavesCopy c entry fid
sparing c (Op volume rec) fid h = stays_so (stays_by c.held.parents (taken_out rec.op) fid) h
  where
    stays_so : (b : Bool) → not b ≡ false → b ≡ true
    stays_so true e = refl
    stays_so false e = sym e
sparing c (Freeze volume number home last) fid h = tt
sparing c (Settled volume number verdict) fid h =
    λ e. left_by_settlement verdict (c.volumes volume).log fid (second fid.volume volume _ h e)
sparing c (Giveup volume) fid h = λ e. second fid.volume volume _ h e
sparing c (Fetched at parent node) fid h = fid_false fid at h
sparing c (Dropped at) fid h = fid_false fid at h
sparing c (Hoard change) fid h = tt
sparing c (Snapshot snapshot) fid h = tt
