-- What chunks leave of the last decision of a client, and that decisions follow one another.
use Rattle.std.proofs.Common.{◌≡◌, ◌≢◌, ◌<◌, ◌≤◌, ℕ, ◌+◌, false, cond, ◌==◌, ◌&&◌, nat_lt, if◌then◌else◌, List, [], ◌∷◌, ◌++◌, refl, sym, ap, ◌∙◌, subst, inl, inr, ◌⊎◌, arith}
use Rattle.std.proofs.lemmas.Bool.{eq-eqb, ne_eqb, cases_eq, lt-ltb, le-ltb, and_from, and_left, and_right}
use Rattle.coda_certify.specs.declared.verdict.Verdict.{Verdict}
use Rattle.coda_certify.specs.Verdicts.{verdict_of}
use Rattle.coda_plain.specs.Histories.{In}
use Rattle.coda_plain.specs.Decisions.{ReplicaEntry, Decided, Last, with_last, Kept, last_of, nodes_of, decision, Decision, MayDecide, AreDecisions}
use Rattle.coda_plain.proofs.AtReplicas.{kept_push, with_last_at}
use Rattle.coda_plain.proofs.Lists.{follow_push}
use Rattle.coda_plain.proofs.Once.{DoDiffer, differ}
use Rattle.coda_record.specs.declared.answer.Answer.{Answer}
use Rattle.coda_record.specs.declared.answer.Answer.TheVariants.{Behind, Old}
use Rattle.coda_replica.specs.Answers.{answer_of, answer_to, told}
use Rattle.coda_replica.specs.Comes.{Chunk, IsNext, history_after, history_of, answer_by}

-- the entry that a chunk's decision is
abbrev pub entry_of : Chunk → ReplicaEntry
entry_of chunk = Decided chunk.client chunk.number chunk.span

-- a chunk is the next one or isn't
pub cases_next : (volume : ℕ) (past : List ReplicaEntry) (chunk : Chunk) → (IsNext volume past chunk × (history_after volume past chunk ≡ past ++ entry_of chunk ∷ [])) ⊎ ((IsNext volume past chunk → ⊥) × (history_after volume past chunk ≡ past))
cases_next volume past chunk =
    let next = (last_of volume past chunk.client).number + 1 in
    elim (cases_eq chunk.number next) [
      | inl is ↦ inl (is, ap (λ b. if b then past ++ entry_of chunk ∷ [] else past) (eq-eqb chunk.number next is))
      | inr other ↦ inr (other, ap (λ b. if b then past ++ entry_of chunk ∷ [] else past) (ne_eqb chunk.number next other))
    ]

-- ---- decisions follow one another

pub lawful_after : (volume : ℕ) (past : List ReplicaEntry) (chunk : Chunk) → AreDecisions volume past → AreDecisions volume (history_after volume past chunk)
lawful_after volume past chunk law = elim (cases_next volume past chunk) [
  | inl next ↦ subst (AreDecisions volume) (sym next.1) (follow_push (MayDecide volume) past (entry_of chunk) law next.0)
  | inr stays ↦ subst (AreDecisions volume) (sym stays.1) law
]

pub lawful_all : (volume : ℕ) (past : List ReplicaEntry) (chunks : List Chunk) → AreDecisions volume past → AreDecisions volume (history_of volume past chunks)
lawful_all volume past [] law = law
lawful_all volume past (chunk ∷ chunks) law = lawful_all volume (history_after volume past chunk) chunks (lawful_after volume past chunk law)

in_middle : {A : Type 0} (middle back : List A) (x : A) → In x (middle ++ x ∷ back)
in_middle [] back x = inl refl
in_middle (m ∷ middle) back x = inr (in_middle middle back x)

-- of decisions that differ no two are of one chunk
pub two_differ : (front middle back : List Decision) (first second : Decision) → DoDiffer (front ++ first ∷ (middle ++ second ∷ back)) → first.client ≡ second.client → first.number ≢ second.number
two_differ [] middle back first second differ same = differ.0 second (in_middle middle back second) same
two_differ (d ∷ front) middle back first second differ same = two_differ front middle back first second differ.1 same

-- ---- the last decision of a client

-- once the next chunk of a client came
pub last_next : (volume : ℕ) (past : List ReplicaEntry) (chunk : Chunk) → IsNext volume past chunk
    → last_of volume (history_after volume past chunk) chunk.client ≡ record { number = chunk.number; verdict = verdict_of (decision (nodes_of volume past) chunk.client chunk.span) }
last_next volume past chunk next = elim (cases_next volume past chunk) [
  | inl is ↦
      ap (λ h. last_of volume h chunk.client) is.1 ∙ ap (λ (k : Kept). k.lasts chunk.client) (kept_push volume past (entry_of chunk))
      ∙ with_last_at (last_of volume past) chunk.client _ chunk.client (λ l. l ≡ record { number = chunk.number; verdict = verdict_of (decision (nodes_of volume past) chunk.client chunk.span) }) (λ _. refl) (λ no. absurd (no refl))
  | inr stays ↦ absurd (stays.0 next)
]

-- where a chunk came that isn't the next of this client
pub last_stays : (volume : ℕ) (past : List ReplicaEntry) (client : ℕ) (chunk : Chunk) → (chunk.client ≡ client → chunk.number ≢ (last_of volume past client).number + 1)
    → last_of volume (history_after volume past chunk) client ≡ last_of volume past client
last_stays volume past client chunk other = elim (cases_next volume past chunk) [
  | inl is ↦
      ap (λ h. last_of volume h client) is.1 ∙ ap (λ (k : Kept). k.lasts client) (kept_push volume past (entry_of chunk))
      ∙ with_last_at (last_of volume past) chunk.client _ client (λ l. l ≡ last_of volume past client)
      (λ same. absurd (other (sym same) (is.0 ∙ ap (λ c. (last_of volume past c).number + 1) (sym same)))) (λ _. refl)
  | inr stays ↦ ap (λ h. last_of volume h client) stays.1
]

pub last_stays_all : (volume : ℕ) (past : List ReplicaEntry) (client : ℕ) (chunks : List Chunk) → ((other : Chunk) → In other chunks → other.client ≡ client → other.number ≢ (last_of volume past client).number + 1)
    → last_of volume (history_of volume past chunks) client ≡ last_of volume past client
last_stays_all volume past client [] others = refl
last_stays_all volume past client (chunk ∷ chunks) others =
    let stays = last_stays volume past client chunk (others chunk (inl refl)) in
    last_stays_all volume (history_after volume past chunk) client chunks (λ other i same. subst (λ (l : Last). other.number ≢ l.number + 1) (sym stays) (others other (inr i) same)) ∙ stays

-- ---- answers

-- the answer to a chunk that isn't later than the last one
abbrev inner : Last → ℕ → Answer
inner last number = if (number == last.number) && nat_lt 0 number then answer_of last.verdict else Old last.number

not_next : (last : Last) (number : ℕ) (verdict : Verdict) → number ≢ last.number + 1 → answer_to last number verdict ≡ told last number
not_next last number verdict other = ap (λ b. if b then answer_of verdict else told last number) (ne_eqb number (last.number + 1) other)

not_later : (last : Last) (number : ℕ) → number ≤ last.number → told last number ≡ inner last number
not_later last number le = ap (λ b. if b then Behind last.number else inner last number) (le-ltb last.number number le)

pub missing_is : (last : Last) (number : ℕ) (verdict : Verdict) → last.number + 1 < number → answer_to last number verdict ≡ Behind last.number
missing_is last number verdict late =
    not_next last number verdict (λ is. omega (arith, late, is)) ∙ ap (λ b. if b then Behind last.number else inner last number) (lt-ltb last.number number (omega (arith, late)))

-- one that isn't the last, or has no number
passed_by : (last : Last) (number : ℕ) (verdict : Verdict) → number ≤ last.number → ((number == last.number) && nat_lt 0 number) ≡ false → answer_to last number verdict ≡ Old last.number
passed_by last number verdict le isnt =
    not_next last number verdict (λ is. omega (arith, le, is)) ∙ not_later last number le ∙ ap (λ b. if b then answer_of last.verdict else Old last.number) isnt

pub passed_is : (last : Last) (number : ℕ) (verdict : Verdict) → (number < last.number) ⊎ (number ≡ 0) → answer_to last number verdict ≡ Old last.number
passed_is last number verdict (inl early) = passed_by last number verdict (omega (arith, early)) (and_left _ _ (ne_eqb number last.number (λ is. omega (arith, early, is))))
passed_is last number verdict (inr none) = passed_by last number verdict (omega (arith, none)) (and_right (number == last.number) (nat_lt 0 number) (le-ltb 0 number (omega (arith, none))))

pub next_is : (last : Last) (number : ℕ) (verdict : Verdict) → number ≡ last.number + 1 → answer_to last number verdict ≡ answer_of verdict
next_is last number verdict is = ap (λ b. if b then answer_of verdict else told last number) (eq-eqb number (last.number + 1) is)

pub kept_is : (last : Last) (number : ℕ) (verdict : Verdict) → number ≡ last.number → 0 < number → answer_to last number verdict ≡ answer_of last.verdict
kept_is last number verdict is some =
    not_next last number verdict (λ e. omega (arith, is, e)) ∙ not_later last number (omega (arith, is))
    ∙ ap (λ b. if b then answer_of last.verdict else Old last.number) (and_from _ _ (eq-eqb number last.number is) (lt-ltb 0 number some))

-- ---- repeats

-- a chunk that was decided, and comes again where it is still its client's last one
pub again_is : (volume : ℕ) (past now : List ReplicaEntry) (chunk again : Chunk) → IsNext volume past chunk → again.client ≡ chunk.client → again.number ≡ chunk.number
    → last_of volume now chunk.client ≡ record { number = chunk.number; verdict = verdict_of (decision (nodes_of volume past) chunk.client chunk.span) }
    → (answer_by volume now again ≡ answer_by volume past chunk) × (history_after volume now again ≡ now)
again_is volume past now chunk again next client number is =
    let last : last_of volume now again.client ≡ record { number = chunk.number; verdict = verdict_of (decision (nodes_of volume past) chunk.client chunk.span) } = ap (last_of volume now) client ∙ is in
    let same : again.number ≡ (last_of volume now again.client).number = number ∙ sym (ap (λ (l : Last). l.number) last) in
    let some : 0 < again.number = omega (arith, number, next) in (
      kept_is (last_of volume now again.client) again.number _ same some ∙ ap (λ (l : Last). answer_of l.verdict) last ∙ sym (next_is (last_of volume past chunk.client) chunk.number _ next),
      elim (cases_next volume now again) [
        | inl decided ↦ (let no : ⊥ = omega (arith, same, decided.0) in absurd no)
        | inr stays ↦ stays.1
      ],
    )
