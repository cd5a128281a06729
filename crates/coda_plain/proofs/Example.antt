-- A client creates a file, sends its chunk, and learns that it was applied: such a run there is.
use Rattle.std.proofs.Common.{◌≡◌, ◌⊎◌, true, false, ◌||◌, [], ◌∷◌, refl, sym, ap, ◌∙◌, inl, inr, arith}
use Rattle.std.proofs.lemmas.Bool.{cases_Bool}
use Rattle.coda_fid.specs.declared.fid.Fid.{Fid}
use Rattle.coda_fid.specs.declared.op.Op.TheVariants.{Create}
use Rattle.coda_fid.specs.declared.op.Record.{Record}
use Rattle.coda_fid.specs.Fid.{root_of, same_fid}
use Rattle.coda_cancel.proofs.Keys.{fid_true}
use Rattle.coda_certify.specs.declared.verdict.Verdict.{Verdict}
use Rattle.coda_cancel.specs.Dropping.{mentioning}
use Rattle.coda_plain.specs.Deeds.{IsMade, Operated, Froze, Settled}
use Rattle.coda_plain.specs.Decisions.{Decided, last_of}
use Rattle.coda_plain.specs.Cell.{Did, Ruled, ChunkSent, AnswerSent, PlainCell, empty_cell}
use Rattle.coda_plain.specs.Moves.{AtClient, AtReplica, Move, Does, Posts, after, IsNext, AreNamed, Moved}
use Rattle.coda_plain.specs.Laws.{SomeChunkIsSettled}

abbrev creation : Record
creation = record { number = 1; time = 0; op = Create (root_of 7) (97 ∷ []) (record { volume = 7; vnode = 1; uniq = 1 }) 420 0 }

abbrev operated : Move
operated = Does (AtClient 1 (Did 7 (Operated creation)))

abbrev froze : Move
froze = Does (AtClient 1 (Did 7 (Froze 1 1 1)))

abbrev decided : Move
decided = Does (AtReplica 1 7 (Decided 1 1 (creation ∷ [])))

abbrev answered : PlainCell
answered = after (after (after (after empty_cell operated) froze) (Posts (ChunkSent 1 1 7 1))) decided

abbrev verdict : Verdict
verdict = (last_of 7 (answered.replicas 1 7).history 1).verdict

abbrev settled : Move
settled = Does (AtClient 1 (Did 7 (Settled 1 verdict)))

abbrev final : PlainCell
final = after (after answered (Posts (AnswerSent 1 1 7 1 (Ruled verdict)))) settled

first_next : (fid : Fid) → same_fid (record { volume = 7; vnode = 1; uniq = 1 }) fid ≡ true → IsNext 7 [] 1 creation.op fid
first_next fid it =
    let is = sym (fid_true (record { volume = 7; vnode = 1; uniq = 1 }) fid it) in
    record { creates_it = it; here = ap (λ (f : Fid). f.volume) is; own = ap (λ (f : Fid). f.vnode) is; next = ap (λ (f : Fid). f.uniq) is }

known : (fid : Fid) → mentioning fid creation.op ≡ true → IsNext 7 [] 1 creation.op fid ⊎ IsMade 7 [] fid
known fid m = elim (cases_Bool (same_fid (root_of 7) fid)) [
  | inl root ↦ (let is = sym (fid_true (root_of 7) fid root) in inr (ap (λ (f : Fid). f.volume) is, inl (ap (λ (f : Fid). f.vnode) is)))
  | inr other ↦ elim (cases_Bool (same_fid (record { volume = 7; vnode = 1; uniq = 1 }) fid)) [
    | inl it ↦ inl (first_next fid it)
    | inr neither ↦ (let none : false ≡ true = sym (ap (λ b. b || false) neither) ∙ sym (ap (λ b. b || (same_fid (record { volume = 7; vnode = 1; uniq = 1 }) fid || false)) other) ∙ m in cc)
  ]
]

named : AreNamed empty_cell 1 7 creation.op
named = record { known = known; next = first_next }

pub example : Moved empty_cell (operated ∷ froze ∷ Posts (ChunkSent 1 1 7 1) ∷ decided ∷ Posts (AnswerSent 1 1 7 1 (Ruled verdict)) ∷ settled ∷ []) final
example = (
  (refl, (record { next = refl; fresh = λ fid c. refl; empty = tt }, named)),
  (
    (refl, (record { thawed = refl; next = refl; pending = omega arith; there = omega arith; ends = refl }, tt)),
    (
      record { up = refl; cut = record { home = 1; last = 1 }; frozen = refl; home = refl; last = refl },
      (
        (refl, refl, (inl (1, refl), refl)),
        (
          record { up = refl; some = omega arith; last = refl },
          (
            (refl, (record { cut = record { home = 1; last = 1 }; frozen = refl; last = refl }, (1, inl (2, refl)))),
            refl,
          ),
        ),
      ),
    ),
  ),
)

pub some_chunk_is_settled : SomeChunkIsSettled
some_chunk_is_settled = (operated ∷ froze ∷ Posts (ChunkSent 1 1 7 1) ∷ decided ∷ Posts (AnswerSent 1 1 7 1 (Ruled verdict)) ∷ settled ∷ [], final, verdict, example, refl)
