-- Where a client has no chunk frozen, and learned of no other replicas, the volume's server decided its last one last.
use Rattle.std.proofs.Common.{◌≡◌, ◌≢◌, ℕ, ◌≤◌, ◌==◌, List, [], ◌∷◌, ◌++◌, Some, None, refl, sym, ap, ◌∙◌, subst, inl, inr, ◌⊎◌, arith}
use Rattle.std.proofs.lemmas.Bool.{eqb-true, eq-eqb, false≢true, cases_Bool}
use Rattle.coda_certify.specs.declared.verdict.Verdict.{Verdict}
use Rattle.coda_plain.specs.Histories.{In}
use Rattle.coda_plain.specs.Deeds.{Deed, Operated, Froze, Settled, Gaveup, course_of, Chunk, chunk_at, chunks_of, Settlement, MayDo, AreLawful}
use Rattle.coda_plain.specs.Decisions.{ReplicaEntry, Decided, Resolved, Kept, kept_after, kept_of, last_of, Decision, decision_at, decisions_of, MayDecide, AreDecisions}
use Rattle.coda_plain.specs.Moves.{done_on}
use Rattle.coda_plain.specs.Sound.{IsDecided}
use Rattle.coda_plain.proofs.AtReplicas.{kept_push, with_last_at}
use Rattle.coda_plain.proofs.Chunking.{course_push}
use Rattle.coda_plain.proofs.Fates.{fated}
use Rattle.coda_plain.proofs.Lists.{told_more, told_last, told_new, along}
use Rattle.coda_plain.proofs.Soundness.{none_joins}
use Rattle.coda_cell.specs.Made.{MadeCell}
use Rattle.coda_cell.specs.Runs.{IsKept}

-- it froze none, or the last one is among those that it froze
abbrev HasLast : List Deed → Type 0
HasLast deeds = ((course_of deeds).chunks ≡ 0) ⊎ ((c : Chunk) × In c (chunks_of deeds) × (c.number ≡ (course_of deeds).chunks))

last_stays : (deeds : List Deed) (deed : Deed) → HasLast deeds → (course_of (deeds ++ deed ∷ [])).chunks ≡ (course_of deeds).chunks → HasLast (deeds ++ deed ∷ [])
last_stays deeds deed (inl none) same = inl (same ∙ none)
last_stays deeds deed (inr l) same = inr (l.0, told_more chunk_at deeds deed l.0 l.1, l.2 ∙ sym same)

last_push : (deeds : List Deed) (deed : Deed) → HasLast deeds → MayDo deeds deed → HasLast (deeds ++ deed ∷ [])
last_push deeds (Operated rec) has may = last_stays deeds (Operated rec) has (ap (λ c. c.chunks) (course_push deeds (Operated rec)))
last_push deeds (Froze number home last) has may =
    let new : Chunk = record { number = number; home = home; span = _ } in
    inr (new, told_new chunk_at deeds (Froze number home last) new (inl refl), sym (ap (λ c. c.chunks) (course_push deeds (Froze number home last))))
last_push deeds (Settled number verdict) has may = last_stays deeds (Settled number verdict) has (ap (λ c. c.chunks) (course_push deeds (Settled number verdict)))
last_push deeds Gaveup has may = last_stays deeds Gaveup has (ap (λ c. c.chunks) (course_push deeds Gaveup))

has_last : (deeds : List Deed) → AreLawful deeds → HasLast deeds
has_last deeds law = along MayDo HasLast last_push deeds (inl refl) law

-- no decision has a number above the last one of its client
abbrev IsReached : ℕ → List ReplicaEntry → Type 0
IsReached volume es = (d : Decision) → In d (decisions_of volume es) → d.number ≤ (last_of volume es d.client).number

reached_after : (volume : ℕ) (es : List ReplicaEntry) (e : ReplicaEntry) → IsReached volume es → MayDecide volume es e
    → (d : Decision) → (In d (decisions_of volume es) ⊎ In d (decision_at volume es e)) → d.number ≤ ((kept_after (kept_of volume es) e).lasts d.client).number
reached_after volume es (Decided client number span) is may d (inl old) =
    with_last_at (last_of volume es) client _ d.client (λ last. d.number ≤ last.number)
    (λ same. let low = is d old in let at = ap (λ c. (last_of volume es c).number) same in omega (arith, low, at, may)) (λ other. is d old)
reached_after volume es (Decided client number span) is may d (inr (inl new)) =
    with_last_at (last_of volume es) client _ d.client (λ last. d.number ≤ last.number)
    (λ same. let at = ap (λ (x : Decision). x.number) new in omega (arith, at)) (λ other. absurd (other (ap (λ (x : Decision). x.client) new)))
reached_after volume es (Decided client number span) is may d (inr (inr none)) = absurd none
reached_after volume es (Resolved nodes lasts) is may d (inl old) = (let low = is d old in let more = may.1 d.client in omega (arith, low, more))
reached_after volume es (Resolved nodes lasts) is may d (inr none) = absurd none

reached_push : (volume : ℕ) (es : List ReplicaEntry) (e : ReplicaEntry) → IsReached volume es → MayDecide volume es e → IsReached volume (es ++ e ∷ [])
reached_push volume es e is may d i =
    subst (λ (k : Kept). d.number ≤ (k.lasts d.client).number) (sym (kept_push volume es e)) (reached_after volume es e is may d (told_last (decision_at volume) es e d i))

pub reached : (volume : ℕ) (es : List ReplicaEntry) → AreDecisions volume es → (d : Decision) → In d (decisions_of volume es) → d.number ≤ (last_of volume es d.client).number
reached volume es law = along (MayDecide volume) (IsReached volume) (reached_push volume) es (λ d i. absurd i) law

module _ (cell : MadeCell) (kept : IsKept cell) (client volume server : ℕ) (homed : cell.homes volume ≡ Some server) where
  -- a chunk that was decided was decided here
  decided_here : (at number : ℕ) (d : Decision) → In d (decisions_of volume (cell.acted.replicas at volume).history) → at ≡ server
  decided_here at number d i = elim (cases_Bool (at == server)) [
    | inl same ↦ eqb-true at server same
    | inr e ↦ (let elsewhere : cell.homes volume ≢ Some at = λ is. (let two : Some server ≡ Some at = sym homed ∙ is in
        let same : server ≡ at = cc in
        false≢true (sym e ∙ eq-eqb at server (sym same))) in
        absurd (subst (λ h. In d (decisions_of volume h)) (kept.made.replicas at volume elsewhere) i))
  ]

  settled_reached : (number : ℕ) (verdict : Verdict) → IsDecided (λ s v. (cell.acted.replicas s v).history) volume client number verdict → number ≤ (last_of volume (cell.acted.replicas server volume).history client).number
  settled_reached number verdict decided =
      let at = decided_here decided.server number decided.by decided.there in
      let low = reached volume (cell.acted.replicas decided.server volume).history ((kept.sound.agree none_joins).ruled decided.server volume) decided.by decided.there in
      let here : (last_of volume (cell.acted.replicas decided.server volume).history decided.by.client).number ≡ (last_of volume (cell.acted.replicas server volume).history client).number = λ i. (last_of volume (cell.acted.replicas (at i) volume).history (decided.client_is i)).number in
      let is = decided.number_is in
      omega (arith, low, here, is)

  pub last_decided : cell.acted.learned client volume ≡ [] → (course_of (done_on cell.acted client volume)).cut ≡ None → (last_of volume (cell.acted.replicas server volume).history client).number ≡ (course_of (done_on cell.acted client volume)).chunks
  last_decided own thawed =
      let agree = kept.sound.agree none_joins in
      let deeds = done_on cell.acted client volume in
      let law = agree.lawful client volume in
      let most = agree.reached server volume client in
      elim (has_last deeds law) [
        | inl none ↦ omega (arith, none, most)
        | inr l ↦ elim ((fated deeds law).fate l.0 l.1) [
          | inl way ↦ (let no : Some way.0.0 ≡ None = sym way.0.1 ∙ thawed in cc)
          | inr s ↦ (let told : Settlement = record { number = l.0.number; verdict = s.verdict } in
              let low = settled_reached l.0.number s.verdict (elim (agree.settled client volume told s.there) [ inl decided ↦ decided | inr elsewhere ↦ absurd (subst (In told) own elsewhere) ]) in
              let is = l.2 in
              omega (arith, low, is, most))
        ]
      ]
