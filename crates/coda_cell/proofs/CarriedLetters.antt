-- That lines which send, deliver and lose letters are carried out: what their calls leave is the cell behind what happens.
use Rattle.std.proofs.Common.{◌≡◌, ℕ, zero, suc, ◌+◌, ◌<◌, ◌≤◌, Bool, true, false, cond, [], ◌∷◌, map, take, refl, sym, ap, subst, ◌∙◌, arith}
use Rattle.std.specs.Prelude.{nat_eq}
use Rattle.std.specs.Option.{unwrap_or}
use Rattle.std.specs.List.{filter}
use Rattle.std.specs.Map.{lookup}
use Rattle.std.proofs.lemmas.Bool.{ne_eqb}
use Rattle.std.proofs.lemmas.Bool.Decides.{nat_tests}
use Rattle.coda_state.specs.declared.state.Link.TheVariants as link
use Rattle.coda_net.specs.Pool.{Pool, ends_are}
use Rattle.coda_letters.specs.Sent.{Sent, is_lossy, Waiting, AreLetters, lost_by, put_out, but_oldest, without, with_sent}
use Rattle.coda_letters.specs.Calls.{IsPosted}
use Rattle.coda_cell.specs.State.{CellState, Posted, Lost, after, after_all}
use Rattle.coda_cell.specs.Messages.{posting}
use Rattle.coda_cell.specs.Cells.{strength_of, linked_in, IsNetwork}
use Rattle.coda_cell.specs.Runs.{AreNumbered}
use Rattle.coda_cell.proofs.Moving.{after_both}

same_number : (n : ℕ) → nat_eq n n ≡ true
same_number n = grind (arith, nat_tests)

-- what waits once all these are lost
abbrev lost_all : Waiting → Waiting → Waiting
lost_all [] waiting = waiting
lost_all (l ∷ going) waiting = lost_all going (without l.0 waiting)

lost_after : (going waiting : Waiting) (s : CellState) → after_all (record s { waiting = waiting }) (map (λ l. Lost l.0) going) ≡ record s { waiting = lost_all going waiting }
lost_after [] waiting s = refl
lost_after (l ∷ going) waiting s = lost_after going (without l.0 waiting) s

-- the numbers of all of them are above one
abbrev AreAbove : ℕ → Waiting → Type 0
AreAbove number [] = Unit {0}
AreAbove number (l ∷ waiting) = (number < l.0) × AreAbove number waiting

above : (number before last : ℕ) (waiting : Waiting) → number ≤ before → AreNumbered before last waiting → AreAbove number waiting
above number before last [] low numbered = tt
above number before last (l ∷ waiting) low numbered = (let first = numbered.0 in (omega (arith, low, first), above number l.0 last waiting (omega (arith, low, first)) numbered.2))

above_lossy : (number : ℕ) (waiting : Waiting) → AreAbove number waiting → AreAbove number (filter (λ l. is_lossy l.1) waiting)
above_lossy number [] are = tt
above_lossy number (l ∷ waiting) are = by (is_lossy l.1) (above_lossy number waiting are.1)
  where
    by : (b : Bool) → AreAbove number (filter (λ m. is_lossy m.1) waiting) → AreAbove number (cond b (l ∷ filter (λ m. is_lossy m.1) waiting) (filter (λ m. is_lossy m.1) waiting))
    by true rest = (are.0, rest)
    by false rest = rest

above_first : (number count : ℕ) (waiting : Waiting) → AreAbove number waiting → AreAbove number (take count waiting)
above_first number zero waiting are = tt
above_first number (suc count) [] are = tt
above_first number (suc count) (l ∷ waiting) are = (are.0, above_first number count waiting are.1)

-- a letter stays in front of those that are lost behind it
stays_in_front : (l : ℕ × Sent) (going waiting : Waiting) → AreAbove l.0 going → lost_all going (l ∷ waiting) ≡ l ∷ lost_all going waiting
stays_in_front l [] waiting are = refl
stays_in_front l (g ∷ going) waiting are =
    let low = are.0 in
    ap (λ b. lost_all going (cond b waiting (l ∷ without g.0 waiting))) (ne_eqb g.0 l.0 (λ same. omega (arith, low, same))) ∙ stays_in_front l going (without g.0 waiting) are.1

first_gone : (count : ℕ) (l : ℕ × Sent) (waiting : Waiting) → AreAbove l.0 waiting → lost_all (take count (filter (λ m. is_lossy m.1) waiting)) waiting ≡ but_oldest count waiting
    → lost_all (take (suc count) (filter (λ m. is_lossy m.1) waiting)) waiting ≡ but_oldest (suc count) waiting
    → (b : Bool) → lost_all (take (suc count) (cond b (l ∷ filter (λ m. is_lossy m.1) waiting) (filter (λ m. is_lossy m.1) waiting))) (l ∷ waiting) ≡ cond b (but_oldest count waiting) (l ∷ but_oldest (suc count) waiting)
first_gone count l waiting are fewer all true = ap (λ b. lost_all (take count (filter (λ m. is_lossy m.1) waiting)) (cond b waiting (l ∷ without l.0 waiting))) (same_number l.0) ∙ fewer
first_gone count l waiting are fewer all false =
    stays_in_front l (take (suc count) (filter (λ m. is_lossy m.1) waiting)) waiting (above_first l.0 (suc count) (filter (λ m. is_lossy m.1) waiting) (above_lossy l.0 waiting are)) ∙ ap (λ (w : Waiting). l ∷ w) all

-- what is put out is gone
gone : (count before last : ℕ) (waiting : Waiting) → AreNumbered before last waiting → lost_all (take count (filter (λ l. is_lossy l.1) waiting)) waiting ≡ but_oldest count waiting
gone zero before last waiting numbered = refl
gone (suc count) before last [] numbered = refl
gone (suc count) before last (l ∷ waiting) numbered =
    first_gone count l waiting (above l.0 l.0 last waiting (omega arith) numbered.2) (gone count l.0 last waiting numbered.2) (gone (suc count) l.0 last waiting numbered.2) (is_lossy l.1)

-- and the new letter waits behind the others
pub posting_after : (s : CellState) (sent : Sent) (before last : ℕ) → AreNumbered before last s.waiting → after_all s (posting sent s.waiting) ≡ record s { waiting = with_sent (s.posted + 1) sent s.waiting; posted = s.posted + 1 }
posting_after s sent before last numbered =
    after_both s (map (λ l. Lost l.0) (put_out sent s.waiting)) (Posted sent ∷ [])
    ∙ ap (λ t. after t (Posted sent)) (lost_after (put_out sent s.waiting) s.waiting s ∙ (λ i. record s { waiting = gone (lost_by sent s.waiting) before last s.waiting numbered i }))

-- a network whose links are as they were
pub linked_same : (old new : Pool) → new.links ≡ old.links → (client server : ℕ) → linked_in old client server ≡ linked_in new client server
linked_same old new links client server = ap (λ ls. strength_of (unwrap_or (lookup (ends_are client server) ls) link.Down)) (sym links)

pub network_posted : (s : CellState) (sent : Sent) (old new : Pool) (number : ℕ) → IsNetwork s.links s.waiting s.posted old → IsPosted s.waiting sent old number new → new.links ≡ old.links
    → IsNetwork s.links (with_sent (s.posted + 1) sent s.waiting) (s.posted + 1) new × (number ≡ s.posted + 1)
network_posted s sent old new number net posted links =
    let number_is : number ≡ s.posted + 1 = posted.next ∙ ap (λ n. n + 1) (sym net.posted_are) in (
      record {
        links_are = λ client server. net.links_are client server ∙ linked_same old new links client server;
        letters = subst (λ n. AreLetters (with_sent n sent s.waiting) new) number_is posted.left;
        posted_are = sym number_is ∙ sym posted.posted;
      },
      number_is,
    )
