use Rattle.std.proofs.Common.{sym, subst, ap, refl, ◌∙◌, ◌≡◌, ◌==◌, ◌&&◌, Bool, true, ℕ, List}
use Rattle.std.specs.Result.{result_eq}
use Rattle.std.proofs.lemmas.Bool.{false≢true, eq-eqb}
use Rattle.coda_spelling.proofs.SpelledParts.{both_true}
use Rattle.std.specs.Prelude.{Ok, Result}
use Rattle.coda_cml.specs.Partition.{ArePartedBy}
use Rattle.coda_cml.specs.declared.segment.Segment.{Segment}
use Rattle.coda_venus.specs.Keeping.{next_chunk}
use Rattle.coda_venus.specs.Times.{time_of}
use Rattle.coda_venus.specs.declared.refused.Refused.{Refused}
use Rattle.coda_venus.proofs.Times.{found_again}
use Rattle.coda_venus.proofs.volume_log.VolumeLog.time_of.Goals as goal

found_same : (f : ℕ × ℕ → ℕ × ℕ → Bool) (g : Refused → Refused → Bool) (r : Result (ℕ × ℕ) Refused) (p : ℕ × ℕ) → r ≡ Ok p → f p p ≡ true → result_eq f g r (Ok p) ≡ true
found_same f g r p is alike = ap (λ (x : Result (ℕ × ℕ) Refused). result_eq f g x (Ok p)) is ∙ alike

pub returns-else-eq-clause-none : goal.returns-else-eq-clause-none
returns-else-eq-clause-none c = λ none may.
    let log = c.args.self.now.log in
    let parted : ArePartedBy log.segments log.records = subst (λ (ss : List Segment). ArePartedBy ss log.records) c.segments.ensures.tail c.segments.ensures.tail_parts in
    let time : c.time_of-now.result ≡ time_of c.args.last log.segments = c.time_of-now.ensures ∙ ap (time_of c.args.last) c.segments.ensures.tail in
    let same : c.next_chunk-found.result ≡ Ok (c.args.number, c.args.last) = c.next_chunk-found.ensures.next ∙ ap (λ (t : ℕ × ℕ). next_chunk log t.0 t.1) time ∙ found_again log c.args.number c.args.last parted may in
    let pair : ℕ × ℕ = (c.args.number, c.args.last) in
    let alike : (c.args.number == c.args.number && c.args.last == c.args.last) ≡ true = both_true _ _ (eq-eqb c.args.number c.args.number refl) (eq-eqb c.args.last c.args.last refl) in
    absurd (false≢true (sym c.if-eq.false ∙ c.eq.ensures ∙ found_same _ _ c.next_chunk-found.result pair same alike))
