-- When an answer can be spelled: exactly where its numbers are in their ranges.
use Rattle.std.proofs.Common.{◌≡◌, ℕ, ◌≤◌, Bool, true, false, ◌&&◌, Option, Some, None, refl, ap, arith}
use Rattle.std.specs.Prelude.{IfSome}
use Rattle.coda_certify.specs.declared.reason.Reason.{Reason}
use Rattle.coda_certify.specs.declared.reason.Reason.TheVariants.{NoDir, Marked, NoObject, WrongKind, NameTaken, NameOther, FidUsed, Changed, AttrChanged, NotEmpty, Loop, VolumeFull}
use Rattle.coda_fid.specs.declared.fid.Fid.{Fid}
use Rattle.coda_fid.specs.declared.fid.Sid.{Sid}
use Rattle.coda_record.specs.declared.answer.Answer.{Answer}
use Rattle.coda_record.specs.declared.answer.Answer.TheVariants.{Applied, Conflict, Behind, Old}
use Rattle.coda_record.specs.Form.{eight}
use Rattle.coda_record.specs.Parts.{u8, u64}
use Rattle.coda_record.specs.Spelling.{HasSpelling}
use Rattle.coda_record.specs.Table as table
use Rattle.coda_record.proofs.PartsAgree.{first_true, second_true}
use Rattle.coda_spelling.proofs.SpelledParts.{both_true, within, is_within, sid_spelled}
use Rattle.coda_wire.specs.declared.message.Message.TheVariants.{Verdict}
use Rattle.coda_wire.specs.Table.{message}
use Rattle.coda_sending.specs.Ending.{verdict_in}
use Rattle.coda_sending.specs.Spelling.{sid_fits, reason_fits, number_fits, last_fits, answer_fits}

-- what holds of one thing holds of it and nothing else
and_all : (b : Bool) → (b && true) ≡ b
and_all true = refl
and_all false = refl

-- ---- versions

pub sid_few : (s : Sid) → sid_fits s ≡ true → s.number ≤ 4294967295
unfolding table.sid
sid_few s fits = (is_within 0 4294967295 eight s.number (first_true _ _ (second_true (u8.piece s.client).fits _ fits))).1

pub few_sid : (s : Sid) → HasSpelling u8 s.client → s.number ≤ 4294967295 → sid_fits s ≡ true
few_sid s client few = sid_spelled s client (within 0 4294967295 eight s.number (omega arith) few (omega (arith, few)))

-- ---- reasons

pub fid_fit : (f : Fid) → HasSpelling table.fid f
    → (reason_fits (NoDir f) ≡ true) × (reason_fits (Marked f) ≡ true) × (reason_fits (NoObject f) ≡ true) × (reason_fits (WrongKind f) ≡ true) × (reason_fits (NameTaken f) ≡ true) × (reason_fits (FidUsed f) ≡ true)
unfolding table.reason
fid_fit f is = (both_true _ _ is refl, both_true _ _ is refl, both_true _ _ is refl, both_true _ _ is refl, both_true _ _ is refl, both_true _ _ is refl)

pub found_fit : (found : Option Fid) → IfSome found (HasSpelling table.fid) → reason_fits (NameOther found) ≡ true
unfolding table.reason
found_fit None is = refl
found_fit (Some f) is = both_true _ _ (both_true _ _ is refl) refl

pub bare_fit : (reason_fits NotEmpty ≡ true) × (reason_fits Loop ≡ true)
unfolding table.reason
bare_fit = (refl, refl)

pub full_fits : (n : ℕ) → HasSpelling u64 n → reason_fits (VolumeFull n) ≡ true
unfolding table.reason
full_fits n is = both_true _ _ is refl

pub changed_fits : (kept found : Sid) → (reason_fits (Changed kept found) ≡ (sid_fits kept && sid_fits found)) × (reason_fits (AttrChanged kept found) ≡ (sid_fits kept && sid_fits found))
unfolding table.reason
changed_fits kept found = (ap (λ b. sid_fits kept && b) (and_all (sid_fits found)), ap (λ b. sid_fits kept && b) (and_all (sid_fits found)))

-- ---- answers

pub applied_fits : answer_fits Applied ≡ true
unfolding table.answer
applied_fits = refl

pub conflict_fits : (n : ℕ) (why : Reason) → answer_fits (Conflict n why) ≡ (number_fits n && reason_fits why)
unfolding table.answer
conflict_fits n why = ap (λ b. number_fits n && b) (and_all (reason_fits why))

pub counts_fit : (n : ℕ) → (answer_fits (Behind n) ≡ last_fits n) × (answer_fits (Old n) ≡ last_fits n)
unfolding table.answer
counts_fit n = (and_all (last_fits n), and_all (last_fits n))

-- the message that tells an answer
pub answer_message : (server client volume number : ℕ) (answer : Answer) → HasSpelling table.server server → HasSpelling table.client client → HasSpelling table.volume volume → HasSpelling table.ordinal number → HasSpelling table.answer answer
    → HasSpelling message (Verdict server client volume number answer)
unfolding message
answer_message server client volume number answer s c v n a = both_true _ _ s (both_true _ _ c (both_true _ _ v (both_true _ _ n (both_true _ _ a refl))))

-- the verdict in an answer
pub verdict_spelled : (a : Answer) → answer_fits a ≡ true → IfSome (verdict_in a) (HasSpelling table.verdict)
unfolding table.answer table.verdict
verdict_spelled Applied fits = refl
verdict_spelled (Conflict n why) fits = fits
verdict_spelled (Behind n) fits = tt
verdict_spelled (Old n) fits = tt
