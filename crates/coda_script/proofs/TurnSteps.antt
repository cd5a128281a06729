-- Reading the threads of a line one after the other.
use Rattle.std.proofs.Common.{◌≡◌, ℕ, ◌+◌, ◌<◌, true, false, List, [], ◌∷◌, length, Option, Result, Ok, Err, refl, ap, ◌∙◌, arith}
use Rattle.std.specs.Prelude.{codes}
use Rattle.coda_engine.specs.declared.status.Kind.TheVariants as kinds
use Rattle.coda_text.specs.Words.{Split, Word, rest_of}
use Rattle.coda_script.specs.declared.fault.LineFault.{LineFault}
use Rattle.coda_script.specs.declared.fault.LineFault.TheVariants.{Memory, BadLine}
use Rattle.coda_script.specs.declared.turns.Turns.{Turns}
use Rattle.coda_script.specs.Slots.{between, number_in, is_word}
use Rattle.coda_script.specs.Reading.{Fault, slot_at, is_next}
use Rattle.coda_script.specs.Lines.{with_thread, turns_at}
use Rattle.coda_script.specs.Outcome.{Fails}
use Rattle.coda_script.proofs.Binding.{split}
use Rattle.coda_script.proofs.ServerSteps.{opened, failed}

goes : (words : List Word) (end : ℕ) (breaks : Option ℕ) (seen : Turns) (t : ℕ) (next : Split) → is_next (is_word (codes "at")) words ≡ true
    → slot_at kinds.Number (number_in (between 1 8)) (rest_of (split words end breaks)) ≡ Ok (t, next)
    → (turns_at seen (split words end breaks) words ≡ turns_at (with_thread seen t) next next.words) × (length next.words < length words)
unfolding slot_at turns_at
goes [] end breaks seen t next d e = absurd cc
goes (w ∷ []) end breaks seen t next d e = absurd cc
goes (w ∷ v ∷ ws) end breaks seen t next d e =
    let o = opened (number_in (between 1 8) v.text) (split ws end breaks) next t (v.at + 1, kinds.Number) e in
    (rw (d, o.0, ← o.1) refl, rw (← o.1) (omega arith))

fails : (e : LineFault) (words : List Word) (end : ℕ) (breaks : Option ℕ) (seen : Turns) → is_next (is_word (codes "at")) words ≡ true
    → Fails e (slot_at kinds.Number (number_in (between 1 8)) (rest_of (split words end breaks))) → Fails e (turns_at seen (split words end breaks) words)
unfolding slot_at turns_at
fails Memory words end breaks seen d h = tt
fails (BadLine c k) [] end breaks seen d h = absurd cc
fails (BadLine c k) (w ∷ []) end breaks seen d h = rw d (ap (λ (f : Fault). let r : Result (Turns × Split) Fault = Err f in r) cc)
fails (BadLine c k) (w ∷ v ∷ ws) end breaks seen d h =
    let o = failed (number_in (between 1 8) v.text) (split ws end breaks) (v.at + 1, kinds.Number) (c, k) h in
    rw (d, o.0) (ap (λ (f : Fault). let r : Result (Turns × Split) Fault = Err f in r) o.1)

stops : (words : List Word) (end : ℕ) (breaks : Option ℕ) (seen : Turns) → is_next (is_word (codes "at")) words ≡ false → turns_at seen (split words end breaks) words ≡ Ok (seen, split words end breaks)
unfolding turns_at
stops [] end breaks seen d = refl
stops (w ∷ []) end breaks seen d = rw d refl
stops (w ∷ v ∷ ws) end breaks seen d = rw d refl

-- one more thread
pub turn_goes : (s moved next : Split) (seen : Turns) (t : ℕ) → is_next (is_word (codes "at")) s.words ≡ true → moved ≡ rest_of s → slot_at kinds.Number (number_in (between 1 8)) moved ≡ Ok (t, next)
    → (turns_at seen s s.words ≡ turns_at (with_thread seen t) next next.words) × (length next.words < length s.words)
turn_goes s moved next seen t d is e = goes s.words s.end s.breaks seen t next d (rw is at e)

-- a fault of one is that of all
pub turn_fails : (e : LineFault) (s moved : Split) (seen : Turns) (total : Result (Turns × Split) Fault) → is_next (is_word (codes "at")) s.words ≡ true → moved ≡ rest_of s
    → Fails e (slot_at kinds.Number (number_in (between 1 8)) moved) → total ≡ turns_at seen s s.words → Fails e total
turn_fails Memory s moved seen total d is h so_far = tt
turn_fails (BadLine c k) s moved seen total d is h so_far = so_far ∙ fails (BadLine c k) s.words s.end s.breaks seen d (rw is at h)

pub turns_stop : (s : Split) (seen : Turns) → is_next (is_word (codes "at")) s.words ≡ false → turns_at seen s s.words ≡ Ok (seen, s)
turns_stop s seen d = stops s.words s.end s.breaks seen d
