-- Of a sound cell the histories keep what is promised.
use Rattle.std.proofs.Common.{◌≡◌, ℕ, zero, suc, ◌+◌, ◌-◌, ◌<◌, ◌≤◌, List, [], ◌∷◌, ◌++◌, append_assoc, append-nil}
use Rattle.std.proofs.Common.{Option, map, refl, sym, ap, ◌∙◌, subst, inl, inr, ◌⊎◌, arith}
use Rattle.coda_fid.specs.Fid.{root_of}
use Rattle.coda_certify.specs.declared.verdict.Verdict.{Verdict}
use Rattle.coda_certify.specs.declared.verdict.Verdict.TheVariants.{Applied}
use Rattle.coda_resolve.specs.Placement.{AreTreesOfOneKind}
use Rattle.coda_plain.specs.Histories.{In, told, DoFollow}
use Rattle.coda_plain.specs.Deeds.{Deed, Chunk, chunks_of, span_in, settlements_of}
use Rattle.coda_plain.specs.Decisions.{ReplicaEntry, Decided, Resolved, Last, Kept, last_of, Decision, verdict_on}
use Rattle.coda_plain.specs.Decisions.{decision_at, decisions_of, MayDecide, AreDecisions}
use Rattle.coda_plain.specs.Cell.{Letter, Histories, found_in}
use Rattle.coda_plain.specs.Sound.{deeds_in, HasFrozen, IsDecided, DoAgree}
use Rattle.coda_plain.specs.Promises.{Decides}
use Rattle.coda_plain.proofs.Lists.{told_more, told_new, in_left, in_right, in_parts, along}
use Rattle.coda_plain.proofs.Elsewhere.{told_begins}
use Rattle.coda_plain.specs.Objects.{Objects}
use Rattle.std.proofs.lemmas.Bool.{cases_eq}
use Rattle.coda_plain.proofs.AtReplicas.{kept_push, with_last_at}
use Rattle.coda_plain.proofs.Chunking.{numbered}
use Rattle.coda_plain.proofs.Ledger.{orderly}
use Rattle.coda_plain.proofs.Fates.{fated}
use Rattle.coda_plain.proofs.Once.{up_to_last}
use Rattle.coda_plain.proofs.Promised.{promised}
use Rattle.coda_group.specs.Groups.{holdings, WasDecided}
use Rattle.coda_group.specs.Promises.{AreTakenOverOnce, IsDecidedAtHome, AreLastsTrue, AreKeptHere, IsNoneSkipped}
use Rattle.coda_group.specs.Promises.{views_in}
use Rattle.coda_group.specs.Laws.{GroupCellsArePromised, LettersAreTrue}
use Rattle.coda_group.proofs.Mapping.{holding}
use Rattle.coda_group.proofs.Truths.{one_verdict}
use Rattle.coda_group.proofs.Volumes.{group_volume, group_trees}

-- ---- what was taken over

module _ {E : Type 0} (may : List E → E → Type 0) where
  follow_from : (past xs : List E) (e : E) (ys : List E) → DoFollow may past (xs ++ e ∷ ys)
      → DoFollow may past xs × may (past ++ xs) e × DoFollow may ((past ++ xs) ++ e ∷ []) ys
  follow_from past [] e ys f = (
    tt,
    subst (λ p. may p e) (sym (append-nil past)) f.0,
    subst (λ p. DoFollow may (p ++ e ∷ []) ys)
        (sym (append-nil past)) f.1,
  )
  follow_from past (x ∷ xs) e ys f =
      let rest = follow_from (past ++ x ∷ []) xs e ys f.1 in (
        (f.0, rest.0),
        subst (λ p. may p e) (append_assoc past (x ∷ []) xs) rest.1,
        subst
            (λ p. DoFollow may (p ++ e ∷ []) ys) (append_assoc past (x ∷ []) xs) rest.2,
      )

  -- what follows in two parts
  follow_parts : (xs : List E) (e : E) (ys : List E) → DoFollow may [] (xs ++ e ∷ ys)
      → DoFollow may [] xs × may xs e × DoFollow may (xs ++ e ∷ []) ys
  follow_parts xs e ys f = follow_from [] xs e ys f

-- no last number falls
never_falls : (volume : ℕ) (es : List ReplicaEntry) (e : ReplicaEntry) (c : ℕ) → MayDecide volume es e
    → (last_of volume es c).number ≤ (last_of volume (es ++ e ∷ []) c).number
never_falls volume es (Decided client number span) c may =
    subst (λ (k : Kept). (last_of volume es c).number ≤ (k.lasts c).number)
    (sym (kept_push volume es (Decided client number span)))
    (with_last_at (last_of volume es) client _ c (λ last. (last_of volume es c).number ≤ last.number)
    (λ same. let at = ap (λ n. (last_of volume es n).number) same in omega (arith, at, may)) (λ other. omega arith))
never_falls volume es (Resolved objects lasts) c may =
    subst (λ (k : Kept). (last_of volume es c).number ≤ (k.lasts c).number)
    (sym (kept_push volume es (Resolved objects lasts))) (may.1 c)

decided_next : (volume : ℕ) (es : List ReplicaEntry) (e : ReplicaEntry) (d : Decision) → MayDecide volume es e
    → In d (decision_at volume es e) → (last_of volume es d.client).number < d.number
decided_next volume es (Decided client number span) d may (inl same) =
    subst (λ (x : Decision). (last_of volume es x.client).number < x.number) (sym same) (omega (arith, may))
decided_next volume es (Decided client number span) d may (inr none) = absurd none
decided_next volume es (Resolved objects lasts) d may i = absurd i

-- whatever is decided later is behind the last one
behind_last : (volume : ℕ) (past back : List ReplicaEntry) → DoFollow (MayDecide volume) past back → (d : Decision)
    → In d (told (decision_at volume) past back) → (last_of volume past d.client).number < d.number
behind_last volume past [] f d i = absurd i
behind_last volume past (e ∷ back) f d i =
    elim (in_parts d (decision_at volume past e) (told (decision_at volume) (past ++ e ∷ []) back) i) [
      | inl now ↦ decided_next volume past e d f.0 now
      | inr later ↦ (let more = behind_last volume (past ++ e ∷ []) back f.1 d later in let low = never_falls volume past e d.client f.0 in omega (arith, more, low))
    ]

taken_over_once : (h : Histories) (volume server : ℕ) → AreDecisions volume (h.replicas server volume)
    → AreTakenOverOnce h volume server
taken_over_once h volume server law = record {
  later = λ lasts before after d took i.
      let parts = follow_parts (MayDecide volume) took.front (Resolved took.objects lasts) took.back (subst (AreDecisions volume) took.splits law) in
      let more = behind_last volume (took.front ++ Resolved took.objects lasts ∷ []) took.back parts.2 d (subst (In d) took.decided_after i) in
      subst (λ (k : Kept). (k.lasts d.client).number < d.number)
      (kept_push volume took.front (Resolved took.objects lasts)) more;
  earlier = λ lasts before after d took i.
      let parts = follow_parts (MayDecide volume) took.front (Resolved took.objects lasts) took.back (subst (AreDecisions volume) took.splits law) in
      let low = up_to_last volume took.front parts.0 d (subst (In d) took.decided_before i) in
      let more = parts.1.1 d.client in
      omega (arith, low, more);
}

-- ---- decided at home

module _ (h : Histories) (pool : ℕ → Option Letter) (a : DoAgree h pool) where
  at_home : (volume client number : ℕ) (verdict : Verdict) → IsDecided h.replicas volume client number verdict
      → IsDecidedAtHome h volume client number verdict
  at_home volume client number verdict it = record {
    chunk = record { number = it.by.number; home = it.server; span = it.by.span };
    frozen =
        subst (λ c. HasFrozen h c volume it.by.number it.server it.by.span) it.client_is
        (a.frozen it.server volume it.by it.there);
    number_is = it.number_is;
    by = it.by;
    there = it.there;
    client_is = it.client_is;
    chunk_is = it.number_is;
    span_is = refl;
    verdict_is = it.verdict_is;
  }

  lasts_true : (volume : ℕ) → AreLastsTrue h volume
  lasts_true volume = record {
    home = λ server client some. at_home volume client _ _ (a.kept server volume client some);
    own = λ server client span some frozen.
        let it = a.kept server volume client some in
        let theirs = subst (λ c. HasFrozen h c volume it.by.number it.server it.by.span) it.client_is (a.frozen it.server volume it.by it.there) in
        let home : it.server ≡ server = ap (λ (c : Chunk). c.home) ((numbered (deeds_in h client volume) (a.lawful client volume)).one
        (record { number = it.by.number; home = it.server; span = it.by.span })
        (record { number = (last_of volume (h.replicas server volume) client).number; home = server; span = span })
        theirs frozen it.number_is) in
        (it.by, (subst (λ s. Decides h s volume it.by) home it.there, (it.client_is, (it.number_is, it.verdict_is))));
    alike = λ server other client some same.
        let verdicts = one_verdict h pool a volume client (last_of volume (h.replicas server volume) client).number (last_of volume (h.replicas other volume) client).number
        (last_of volume (h.replicas server volume) client).verdict
        (last_of volume (h.replicas other volume) client).verdict
        (a.kept server volume client some) (a.kept other volume client (subst (λ n. 0 < n) same some)) same in
        λ i. record { number = same i; verdict = verdicts i };
  }

-- ---- each operation

module _ (h : Histories) (pool : ℕ → Option Letter) (a : DoAgree h pool) (client volume : ℕ)
    (truths : (s : ℕ) (d : Decision) (verdict : Verdict) → Decides h s volume d → In
    (record { number = d.number; verdict = verdict }) (settlements_of (deeds_in h d.client volume)) → verdict
    ≡ verdict_on d) where
  abbrev deeds : List Deed
  deeds = deeds_in h client volume

  frozen_by : (server : ℕ) (d : Decision) → Decides h server volume d → d.client ≡ client
      → HasFrozen h client volume d.number server d.span
  frozen_by server d i same = subst (λ c. HasFrozen h c volume d.number server d.span) same (a.frozen server volume d i)

  kept_here : AreKeptHere h client volume
  kept_here =
      let n = numbered deeds (a.lawful client volume) in
      let o = orderly deeds (a.lawful client volume) in
      let f = fated deeds (a.lawful client volume) in
      record {
        listed = (promised h pool a).listed client volume;
        ended = λ number span i.
            let e = f.ends number span i in
            elim (a.settled client volume (record { number = number; verdict = Applied }) e.settled) [
              | inl by ↦ (
                  let frozen = subst (λ k. HasFrozen h client volume k by.server by.by.span) by.number_is (frozen_by by.server by.by by.there by.client_is) in
                  inl (record {
                    server = by.server;
                    by = by.by;
                    there = by.there;
                    client_is = by.client_is;
                    number_is = by.number_is;
                    span_is =
                        ap (λ (c : Chunk). c.span)
                        (n.one (record { number = number; home = by.server; span = by.by.span })
                        (record { number = number; home = e.home; span = span }) frozen e.chunk refl);
                    applied = by.verdict_is;
                  }))
              | inr told ↦ inr told
            ];
        applied = λ server d i same applied.
            let chunk : Chunk = record { number = d.number; home = server; span = d.span } in
            let frozen = frozen_by server d i same in
            elim (f.fate chunk frozen) [
              | inl way ↦ inr (record {
                cut = way.0.0;
                frozen = way.0.1;
                last = way.1;
                front =
                    sym (n.own chunk frozen) ∙ ap (λ k. span_in k (chunks_of deeds)) way.1
                    ∙ (o.1.front way.0.0 way.0.1).span;
              })
              | inr s ↦ inl (s.ends (truths server d s.verdict i (subst (λ c. In (record { number = d.number; verdict = s.verdict }) (settlements_of (deeds_in h c volume))) (sym same) s.there) ∙ applied))
            ];
      }

-- ---- none is skipped

-- a decision is that of an entry
entry_of : (volume : ℕ) (past es : List ReplicaEntry) (d : Decision) → In d (told (decision_at volume) past es) → (front : List ReplicaEntry) × ((back : List ReplicaEntry) × (es ≡ front ++ Decided d.client d.number d.span ∷ back))
entry_of volume past [] d i = absurd i
entry_of volume past (e ∷ es) d i =
    elim (in_parts d (decision_at volume past e) (told (decision_at volume) (past ++ e ∷ []) es) i) [
      | inl now ↦ ([], (es, ap (λ x. x ∷ es) (first e now)))
      | inr later ↦ (let rest = entry_of volume (past ++ e ∷ []) es d later in (e ∷ rest.0, (rest.1.0, ap (λ l. e ∷ l) rest.1.1)))
    ]
  where
    first : (e : ReplicaEntry) → In d (decision_at volume past e) → e ≡ Decided d.client d.number d.span
    first (Decided client number span) (inl same) = ap (λ (x : Decision). Decided x.client x.number x.span) (sym same)
    first (Decided client number span) (inr none) = absurd none
    first (Resolved objects lasts) i = absurd i

-- who gave a last decision: one of the replica's own, or one that it took over
abbrev IsGivenBy : ℕ → List ReplicaEntry → ℕ → ℕ → Type 0
IsGivenBy volume es client number =
    ((d : Decision) × (In d (decisions_of volume es) × ((d.client ≡ client) × (d.number ≡ number))))
    ⊎ ((objects : Objects) × ((lasts : ℕ → Last)
    × (In (Resolved objects lasts) es × ((lasts client).number ≡ number))))

abbrev AreGiven : ℕ → List ReplicaEntry → Type 0
AreGiven volume es =
    (client : ℕ) → 0 < (last_of volume es client).number → IsGivenBy volume es client
    (last_of volume es client).number

given_more : (volume : ℕ) (es : List ReplicaEntry) (e : ReplicaEntry) (client number : ℕ)
    → IsGivenBy volume es client number → IsGivenBy volume (es ++ e ∷ []) client number
given_more volume es e client number (inl (d, (i, is))) = inl (d, (told_more (decision_at volume) es e d i, is))
given_more volume es e client number (inr (objects, (lasts, (i, is)))) =
    inr (objects, (lasts, (in_left (Resolved objects lasts) es (e ∷ []) i, is)))

given_push : (volume : ℕ) (es : List ReplicaEntry) (e : ReplicaEntry) → AreGiven volume es → MayDecide volume es e
    → AreGiven volume (es ++ e ∷ [])
given_push volume es (Decided client number span) a may c =
    subst (λ (k : Kept). 0 < (k.lasts c).number → IsGivenBy volume (es ++ Decided client number span ∷ []) c
    (k.lasts c).number) (sym (kept_push volume es (Decided client number span)))
    (with_last_at (last_of volume es) client _ c
    (λ last. 0 < last.number → IsGivenBy volume (es ++ Decided client number span ∷ []) c last.number)
    (λ same some. inl (
      _,
      (
        told_new (decision_at volume) es (Decided client number span) _ (inl refl),
        (sym same, refl),
      ),
    ))
    (λ other some. given_more volume es (Decided client number span) c (last_of volume es c).number (a c some)))
given_push volume es (Resolved objects lasts) a may c =
    subst (λ (k : Kept). 0 < (k.lasts c).number → IsGivenBy volume (es ++ Resolved objects lasts ∷ []) c
    (k.lasts c).number) (sym (kept_push volume es (Resolved objects lasts)))
    (λ some. inr (
      objects,
      (lasts, (in_right (Resolved objects lasts) es (Resolved objects lasts ∷ []) (inl refl), refl)),
    ))

given : (volume : ℕ) (es : List ReplicaEntry) → AreDecisions volume es → AreGiven volume es
given volume es law = along (MayDecide volume) (AreGiven volume) (given_push volume) es (λ c some. let no : ⊥ = omega (arith, some) in absurd no) law

module _ (h : Histories) (pool : ℕ → Option Letter) (a : DoAgree h pool) (volume : ℕ)
    (taken : (s c : ℕ) (objects : Objects) (lasts : ℕ → Last) → In (Resolved objects lasts) (h.replicas s volume) → 0
    < (lasts c).number → IsDecided h.replicas volume c (lasts c).number (lasts c).verdict) where
  by_own : (s client number : ℕ) (d : Decision) → Decides h s volume d → d.client ≡ client → d.number ≡ number
      → WasDecided h volume client number
  by_own s client number d i same is =
      (verdict_on d, record { server = s; by = d; there = i; client_is = same; number_is = is; verdict_is = refl })

  -- the chunk before it was decided
  one_before : (s : ℕ) (d : Decision) (number : ℕ) → Decides h s volume d → d.number ≡ number + 1 → 0 < number
      → WasDecided h volume d.client number
  one_before s d number i next some =
      let split = entry_of volume [] (h.replicas s volume) d i in
      let entry : ReplicaEntry = Decided d.client d.number d.span in
      let parts = follow_parts (MayDecide volume) split.0 entry split.1.0 (subst (AreDecisions volume) split.1.1 (a.ruled s volume)) in
      let may : d.number ≡ (last_of volume split.0 d.client).number + 1 = parts.1 in
      let is : (last_of volume split.0 d.client).number ≡ number = omega (arith, may, next) in
      subst (λ n. WasDecided h volume d.client n) is
      (go split.0 split.1.0 entry split.1.1 (given volume split.0 parts.0 d.client (omega (arith, is, some)))
      (omega (arith, is, some)))
    where
      go : (front back : List ReplicaEntry) (entry : ReplicaEntry) → h.replicas s volume ≡ front ++ entry ∷ back
          → IsGivenBy volume front d.client (last_of volume front d.client).number
          → 0 < (last_of volume front d.client).number
          → WasDecided h volume d.client (last_of volume front d.client).number
      go front back entry splits (inl (e, (j, is))) some =
          by_own s d.client (last_of volume front d.client).number e
          (subst (λ es. In e (decisions_of volume es)) (sym splits)
          (told_begins (decision_at volume) front (entry ∷ back) e j)) is.0 is.1
      go front back entry splits (inr (objects, (lasts, (j, is)))) some =
          let by = taken s d.client objects lasts (subst (In (Resolved objects lasts)) (sym splits) (in_left (Resolved objects lasts) front (entry ∷ back) j)) (omega (arith, is, some)) in
          subst (λ n. WasDecided h volume d.client n) is ((lasts d.client).verdict, by)

  -- so all before it were
  all_before : (n s : ℕ) (d : Decision) (number : ℕ) → d.number ≤ n → Decides h s volume d → 0 < number
      → number < d.number → WasDecided h volume d.client number
  all_before zero s d number most i some less = let no : ⊥ = omega (arith, most, some, less) in absurd no
  all_before (suc n) s d number most i some less = elim (cases_eq d.number (number + 1)) [
    | inl next ↦ one_before s d number i next some
    | inr more ↦ (
        let before = one_before s d (d.number - 1) i (omega (arith, some, less)) (omega (arith, some, less)) in
        let by = before.1 in
        let is = by.number_is in
        subst (λ c. WasDecided h volume c number) by.client_is
        (all_before n by.server by.by number (omega (arith, is, most)) by.there some (omega (arith, is, less, more))))
  ]

  none_skipped : IsNoneSkipped h volume
  none_skipped s d number i some less = all_before d.number s d number (omega arith) i some less

views_map : (h : Histories) (volume : ℕ) (some : List ℕ) → map (holdings h volume) some ≡ views_in h volume some
views_map h volume [] = refl
views_map h volume (s ∷ some) = ap (λ l. holdings h volume s ∷ l) (views_map h volume some)

pub group_cells_are_promised : GroupCellsArePromised
group_cells_are_promised servers cell gs joins =
    let h = found_in cell joins in
    let a = gs.sound.agree joins in
    record {
      plain = promised h cell.pool a;
      kept =
          λ client volume. kept_here h cell.pool a client volume
          (λ s d verdict. (gs.stand joins).truths s volume d verdict);
      taken_over = λ volume server. taken_over_once h volume server (a.ruled server volume);
      lasts = lasts_true h cell.pool a;
      order =
          λ volume. none_skipped h cell.pool a volume
          (λ s c objects lasts. (gs.stand joins).taken s volume c objects lasts);
      settled = λ client volume s i. elim (a.settled client volume s i) [
        | inl decided ↦ inl (at_home h cell.pool a volume client s.number s.verdict decided)
        | inr told ↦ inr told
      ];
      replicas = λ volume. record {
        nodes = λ server. holding server volume (h.replicas server volume) (a.ruled server volume);
        volumes = λ server i. group_volume (servers volume) h volume ((gs.stand joins).groups volume) server i;
        rings = λ server f i. (((gs.stand joins).groups volume).each server i).rings f;
        trees =
            λ some among ne. subst (λ views. AreTreesOfOneKind views (root_of volume)) (views_map h volume some)
            (group_trees (servers volume) h volume ((gs.stand joins).groups volume) some among ne);
      };
    }

pub letters_are_true : LettersAreTrue
letters_are_true = record {
  chunks =
      λ servers cell joins message client server volume number gs e. (gs.sound.agree joins).sent message client server
      volume number e;
  verdicts =
      λ servers cell joins message server client volume number verdict gs e. at_home (found_in cell joins) cell.pool
      (gs.sound.agree joins) volume client number verdict
      ((gs.sound.agree joins).answered message server client volume number verdict e);
}
