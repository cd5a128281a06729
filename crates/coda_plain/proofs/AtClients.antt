-- One entry more of a client keeps the histories in agreement.
use Rattle.std.proofs.Common.{◌≡◌, ℕ, ◌+◌, ◌≤◌, true, List, [], ◌∷◌, ◌++◌, Option, refl, sym, ap, ◌∙◌, subst, inl, inr, ◌⊎◌, arith}
use Rattle.std.proofs.lemmas.Bool.{false≢true}
use Rattle.coda_fid.specs.declared.fid.Fid.{Fid}
use Rattle.coda_fid.specs.declared.op.Op.{Op}
use Rattle.coda_fid.specs.declared.op.Op.TheVariants.{Create, Mkdir, Symlink}
use Rattle.coda_cancel.specs.Dropping.{mentioning, creates}
use Rattle.coda_plain.specs.Moves.{IsNext}
use Rattle.coda_fid.specs.declared.op.Record.{Record}
use Rattle.coda_plain.specs.Histories.{In}
use Rattle.coda_plain.specs.Deeds.{Deed, Operated, Froze, Settled, Gaveup, operation_in, full_of, created_by, created_in, IsMade, AreNumberedObjects, course_of, Chunk, chunk_at, chunks_of, Settlement, settlement_at, settlements_of, MayDo, AreLawful}
use Rattle.coda_plain.specs.Decisions.{ReplicaEntry, last_of}
use Rattle.coda_plain.specs.Cell.{ClientEntry, Did, deeds_of, Letter, Histories}
use Rattle.coda_plain.specs.Sound.{deeds_in, HasFrozen, IsDecided, DoAgree}
use Rattle.coda_plain.proofs.Lists.{told_more, told_last, follow_push, in_parts}
use Rattle.coda_plain.proofs.Chunking.{chunks_more, full_push}
use Rattle.coda_plain.proofs.Numbering.{CreatesNext, objects_push}
use Rattle.coda_plain.proofs.Places.{IsGrown, at_grown, deeds_grown}

-- what is settled is decided
abbrev pub IsRuled : (ℕ → ℕ → List ReplicaEntry) → ℕ → ℕ → Deed → Type 0
IsRuled replicas volume client (Operated rec) = Unit {0}
IsRuled replicas volume client (Froze number home last) = Unit {0}
IsRuled replicas volume client (Settled number verdict) = IsDecided replicas volume client number verdict
IsRuled replicas volume client Gaveup = Unit {0}

settled_at : (replicas : ℕ → ℕ → List ReplicaEntry) (volume client : ℕ) (past : List Deed) (deed : Deed) (s : Settlement) → IsRuled replicas volume client deed → In s (settlement_at past deed) → IsDecided replicas volume client s.number s.verdict
settled_at replicas volume client past (Operated rec) s ruled i = absurd i
settled_at replicas volume client past (Froze number home last) s ruled i = absurd i
settled_at replicas volume client past (Settled number verdict) s ruled (inl e) = subst (λ (x : Settlement). IsDecided replicas volume client x.number x.verdict) (sym e) ruled
settled_at replicas volume client past (Settled number verdict) s ruled (inr none) = absurd none
settled_at replicas volume client past Gaveup s ruled i = absurd i

-- what an operation mentions is the next object, or was created; and what it creates is the next one
abbrev pub IsNamed : Histories → ℕ → ℕ → Deed → Type 0
IsNamed h volume client (Operated rec) =
    ((fid : Fid) → mentioning fid rec.op ≡ true → IsNext volume (deeds_in h client volume) client rec.op fid ⊎ IsMade volume (deeds_in h fid.vnode volume) fid)
    × ((fid : Fid) → creates fid rec.op ≡ true → IsNext volume (deeds_in h client volume) client rec.op fid)
IsNamed h volume client (Froze number home last) = Unit {0}
IsNamed h volume client (Settled number verdict) = Unit {0}
IsNamed h volume client Gaveup = Unit {0}

created_push : (recs more : List Record) → created_in recs ≤ created_in (recs ++ more)
created_push [] more = omega arith
created_push (rec ∷ recs) more = let low = created_push recs more in omega (arith, low)

created_all : (recs : List Record) (rec : Record) → created_in (recs ++ rec ∷ []) ≡ created_in recs + created_by rec.op
created_all [] rec = omega arith
created_all (x ∷ recs) rec = let e = created_all recs rec in omega (arith, e)

creates_one : (fid : Fid) (op : Op) → creates fid op ≡ true → created_by op ≡ 1
creates_one fid (Create dir name it mode owner) e = refl
creates_one fid (Mkdir dir name it mode owner) e = refl
creates_one fid (Symlink dir name it target mode owner) e = refl
creates_one fid _ e = absurd (false≢true e)

-- what was made stays made
pub made_more : (volume : ℕ) (deeds : List Deed) (deed : Deed) (fid : Fid) → IsMade volume deeds fid → IsMade volume (deeds ++ deed ∷ []) fid
made_more volume deeds deed fid (here, inl root) = (here, inl root)
made_more volume deeds deed fid (here, inr low) = (
  here,
  inr (
      let more = created_push (full_of deeds) (operation_in deed) in
      subst (λ rs. fid.uniq ≤ created_in rs) (sym (full_push deeds deed)) (omega (arith, low, more))),
)

pub next_made : (volume : ℕ) (deeds : List Deed) (client : ℕ) (rec : Record) (fid : Fid) → IsNext volume deeds client rec.op fid → IsMade volume (deeds ++ Operated rec ∷ []) fid
next_made volume deeds client rec fid n = (
  n.here,
  inr (
      let one = creates_one fid rec.op n.creates_it in
      let next = n.next in
      let all = created_all (full_of deeds) rec in
      subst (λ rs. fid.uniq ≤ created_in rs) (sym (full_push deeds (Operated rec))) (omega (arith, one, next, all))),
)

-- the last entry is the operation
the_last : (deed : Deed) (rec : Record) → In rec (operation_in deed) → deed ≡ Operated rec
the_last (Operated x) rec (inl e) = ap Operated (sym e)
the_last (Operated x) rec (inr none) = absurd none
the_last (Froze number home last) rec i = absurd i
the_last (Settled number verdict) rec i = absurd i
the_last Gaveup rec i = absurd i

module _ (h : Histories) (pool : ℕ → Option Letter) (a : DoAgree h pool) (clients : ℕ → List ClientEntry) (client at_volume : ℕ) (deed : Deed)
    (grown : (c : ℕ) → IsGrown (c ≡ client) (Did at_volume deed) (h.clients c) (clients c))
    (may : MayDo (deeds_in h client at_volume) deed) (ruled : IsRuled h.replicas at_volume client deed) (named : IsNamed h at_volume client deed) where
  abbrev New : Histories
  New = record h { clients = clients }

  at : (c v : ℕ) (P : List Deed → Type 0) → P (deeds_in h c v) → (((c ≡ client) × (v ≡ at_volume)) → P (deeds_in h c v ++ deed ∷ [])) → P (deeds_in New c v)
  at c v P old new = at_grown ((c ≡ client) × (v ≡ at_volume)) deed (deeds_in h c v) (deeds_in New c v) P (deeds_grown client v c at_volume deed (h.clients c) (clients c) (grown c)) old new

  may_at : (c v : ℕ) → (c ≡ client) × (v ≡ at_volume) → MayDo (deeds_in h c v) deed
  may_at c v here = subst (λ n. MayDo (deeds_in h n v) deed) (sym here.0) (subst (λ n. MayDo (deeds_in h client n) deed) (sym here.1) may)

  ruled_at : (c v : ℕ) → (c ≡ client) × (v ≡ at_volume) → IsRuled h.replicas v c deed
  ruled_at c v here = subst (λ n. IsRuled h.replicas v n deed) (sym here.0) (subst (λ n. IsRuled h.replicas n client deed) (sym here.1) ruled)

  still_frozen : (c v number server : ℕ) (span : List Record) → HasFrozen h c v number server span → HasFrozen New c v number server span
  still_frozen c v number server span i =
      let chunk : Chunk = record { number = number; home = server; span = span } in
      at c v (λ ds. In chunk (chunks_of ds)) i (λ here. told_more chunk_at (deeds_in h c v) deed chunk i)

  named_at : (c v : ℕ) → (c ≡ client) × (v ≡ at_volume) → IsNamed h v c deed
  named_at c v here = subst (λ n. IsNamed h v n deed) (sym here.0) (subst (λ n. IsNamed h n client deed) (sym here.1) named)

  creates_next : (c v : ℕ) (d : Deed) → IsNamed h v c d → CreatesNext v c (deeds_in h c v) d
  creates_next c v (Operated rec) names = names.1
  creates_next c v (Froze number home last) names = tt
  creates_next c v (Settled number verdict) names = tt
  creates_next c v Gaveup names = tt

  still_made : (v : ℕ) (fid : Fid) → IsMade v (deeds_in h fid.vnode v) fid → IsMade v (deeds_in New fid.vnode v) fid
  still_made v fid made = at fid.vnode v (λ ds. IsMade v ds fid) made (λ here. made_more v (deeds_in h fid.vnode v) deed fid made)

  -- the operation that came mentions what is made
  made_now : (c v : ℕ) (rec : Record) (fid : Fid) → IsNamed h v c (Operated rec) → mentioning fid rec.op ≡ true → deeds_in New c v ≡ deeds_in h c v ++ Operated rec ∷ [] → IsMade v (deeds_in New fid.vnode v) fid
  made_now c v rec fid names m is = elim (names.0 fid m) [
    | inl next ↦ subst (λ n. IsMade v (deeds_in New n v) fid) (sym next.own) (subst (λ ds. IsMade v ds fid) (sym is) (next_made v (deeds_in h c v) c rec fid next))
    | inr made ↦ still_made v fid made
  ]

  made_in : (c v : ℕ) (rec : Record) → IsGrown ((c ≡ client) × (v ≡ at_volume)) deed (deeds_in h c v) (deeds_in New c v) → In rec (full_of (deeds_in New c v)) → (fid : Fid) → mentioning fid rec.op ≡ true → IsMade v (deeds_in New fid.vnode v) fid
  made_in c v rec (inl same) i fid m = still_made v fid (a.made c v rec (subst (λ ds. In rec (full_of ds)) same i) fid m)
  made_in c v rec (inr more) i fid m =
      elim (in_parts rec (full_of (deeds_in h c v)) (operation_in deed) (subst (In rec) (ap full_of more.1 ∙ full_push (deeds_in h c v) deed) i)) [
        | inl old ↦ still_made v fid (a.made c v rec old fid m)
        | inr new ↦ (
            let is = the_last deed rec new in
            made_now c v rec fid (subst (IsNamed h v c) is (named_at c v more.0)) m (more.1 ∙ ap (λ d. deeds_in h c v ++ d ∷ []) is))
      ]

  pub agree_client : DoAgree (record h { clients = clients }) pool
  agree_client = record {
    lawful = λ c v. at c v AreLawful (a.lawful c v) (λ here. follow_push MayDo (deeds_in h c v) deed (a.lawful c v) (may_at c v here));
    ruled = a.ruled;
    numbered = λ c v. at c v (AreNumberedObjects v c) (a.numbered c v) (λ here. objects_push v c (deeds_in h c v) deed (a.numbered c v) (creates_next c v deed (named_at c v here)));
    made = λ c v rec i fid m. made_in c v rec (deeds_grown client v c at_volume deed (h.clients c) (clients c) (grown c)) i fid m;
    held = λ s v fid m. still_made v fid (a.held s v fid m);
    frozen = λ s v d i. still_frozen d.client v d.number s d.span (a.frozen s v d i);
    reached = λ s v c. at c v (λ ds. (last_of v (h.replicas s v) c).number ≤ (course_of ds).chunks) (a.reached s v c)
        (λ here. let low = a.reached s v c in let more = chunks_more (deeds_in h c v) deed (may_at c v here) in omega (arith, low, more));
    kept = a.kept;
    settled = λ c v s. at c v (λ ds. In s (settlements_of ds) → IsDecided h.replicas v c s.number s.verdict ⊎ In s (h.learned c v)) (a.settled c v s)
        (λ here i. elim (told_last settlement_at (deeds_in h c v) deed s i) [
          | inl old ↦ a.settled c v s old
          | inr new ↦ inl (settled_at h.replicas v c (deeds_in h c v) deed s (ruled_at c v here) new)
        ]);
    sent = λ m c s v number e. let old = a.sent m c s v number e in (old.0, still_frozen c v number s old.0 old.1);
    answered = a.answered;
  }

-- The same deeds agree as well.
pub agree_same : (h : Histories) (pool : ℕ → Option Letter) (clients : ℕ → List ClientEntry) → DoAgree h pool → ((c v : ℕ) → deeds_of v (clients c) ≡ deeds_of v (h.clients c)) → DoAgree (record h { clients = clients }) pool
agree_same h pool clients a same =
    let frozen : (c v number server : ℕ) (span : List Record) → HasFrozen h c v number server span → HasFrozen (record h { clients = clients }) c v number server span =
    λ c v number server span. subst (λ ds. In (record { number = number; home = server; span = span }) (chunks_of ds)) (sym (same c v)) in
    let made : (v : ℕ) (fid : Fid) → IsMade v (deeds_in h fid.vnode v) fid → IsMade v (deeds_of v (clients fid.vnode)) fid = λ v fid. subst (λ ds. IsMade v ds fid) (sym (same fid.vnode v)) in
    record {
      lawful = λ c v. subst AreLawful (sym (same c v)) (a.lawful c v);
      ruled = a.ruled;
      numbered = λ c v. subst (AreNumberedObjects v c) (sym (same c v)) (a.numbered c v);
      made = λ c v rec i fid m. made v fid (a.made c v rec (subst (λ ds. In rec (full_of ds)) (same c v) i) fid m);
      held = λ s v fid m. made v fid (a.held s v fid m);
      frozen = λ s v d i. frozen d.client v d.number s d.span (a.frozen s v d i);
      reached = λ s v c. subst (λ ds. (last_of v (h.replicas s v) c).number ≤ (course_of ds).chunks) (sym (same c v)) (a.reached s v c);
      kept = a.kept;
      settled = λ c v s i. a.settled c v s (subst (λ ds. In s (settlements_of ds)) (same c v) i);
      sent = λ m c s v number e. let old = a.sent m c s v number e in (old.0, frozen c v number s old.0 old.1);
      answered = a.answered;
    }
