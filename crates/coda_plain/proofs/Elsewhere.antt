-- Replicas whose disks stand elsewhere go and come.
use Rattle.std.proofs.Common.{◌≡◌, ◌≢◌, ℕ, ◌<◌, ◌≤◌, ◌==◌, ◌&&◌, Bool, true, false, cond, List, [], ◌∷◌, ◌++◌, append_assoc, append-nil, Option, None, refl, sym, ap, ◌∙◌, subst, inl, inr, arith}
use Rattle.std.proofs.lemmas.Bool.{eqb-true, eq-eqb, cases_Bool, and_parts, false≢true}
use Rattle.coda_fid.specs.declared.fid.Fid.{Fid}
use Rattle.coda_tree.specs.Volume.{has}
use Rattle.coda_certify.specs.declared.verdict.Verdict.{Verdict}
use Rattle.coda_plain.specs.Histories.{told, DoFollow, In}
use Rattle.coda_plain.specs.Deeds.{Deed, IsMade, course_of, Chunk, chunk_at, chunks_of, Settlement, MayDo, AreLawful}
use Rattle.coda_plain.specs.Decisions.{ReplicaEntry, Decision, decisions_of, nodes_of, last_of, AreDecisions}
use Rattle.coda_plain.specs.Cell.{ClientEntry, deed_on, deeds_of, Letter, Histories}
use Rattle.coda_plain.specs.Logs.{BeginsWith}
use Rattle.coda_plain.specs.Sound.{deeds_in, HasFrozen, IsDecided, DoAgree}
use Rattle.coda_plain.specs.Elsewhere.{IsAmong, DoesFit, with_entries, without_replicas, IsLearned, ReplicasStandElsewhere}
use Rattle.coda_plain.proofs.Lists.{told_more}
use Rattle.coda_plain.proofs.Chunking.{chunks_more}
use Rattle.coda_plain.proofs.AtClients.{made_more}
use Rattle.coda_plain.proofs.Soundness.{root_made}

-- ---- histories that grow

pub deeds_append : (volume : ℕ) (es more : List ClientEntry) → deeds_of volume (es ++ more) ≡ deeds_of volume es ++ deeds_of volume more
deeds_append volume [] more = refl
deeds_append volume (e ∷ es) more = ap (λ l. deed_on volume e ++ l) (deeds_append volume es more) ∙ sym (append_assoc (deed_on volume e) (deeds_of volume es) (deeds_of volume more))

pub told_begins : {E A : Type 0} (tells : List E → E → List A) (es more : List E) (x : A) → In x (told tells [] es) → In x (told tells [] (es ++ more))
told_begins tells es [] x i = subst (λ l. In x (told tells [] l)) (sym (append-nil es)) i
told_begins tells es (e ∷ more) x i = subst (λ l. In x (told tells [] l)) (append_assoc es (e ∷ []) more) (told_begins tells (es ++ e ∷ []) more x (told_more tells es e x i))

pub made_begins : (volume : ℕ) (deeds more : List Deed) (fid : Fid) → IsMade volume deeds fid → IsMade volume (deeds ++ more) fid
made_begins volume deeds [] fid made = subst (λ l. IsMade volume l fid) (sym (append-nil deeds)) made
made_begins volume deeds (deed ∷ more) fid made = subst (λ l. IsMade volume l fid) (append_assoc deeds (deed ∷ []) more) (made_begins volume (deeds ++ deed ∷ []) more fid (made_more volume deeds deed fid made))

follow_behind : {E : Type 0} (may : List E → E → Type 0) (past es more : List E) → DoFollow may past (es ++ more) → DoFollow may (past ++ es) more
follow_behind may past [] more f = subst (λ l. DoFollow may l more) (sym (append-nil past)) f
follow_behind may past (e ∷ es) more f = subst (λ l. DoFollow may l more) (append_assoc past (e ∷ []) es) (follow_behind may (past ++ e ∷ []) es more f.1)

chunks_from : (deeds more : List Deed) → DoFollow MayDo deeds more → (course_of deeds).chunks ≤ (course_of (deeds ++ more)).chunks
chunks_from deeds [] f = subst (λ l. (course_of deeds).chunks ≤ (course_of l).chunks) (sym (append-nil deeds)) (omega arith)
chunks_from deeds (deed ∷ more) f =
    let one = chunks_more deeds deed f.0 in
    let rest = chunks_from (deeds ++ deed ∷ []) more f.1 in
    subst (λ l. (course_of deeds).chunks ≤ (course_of l).chunks) (append_assoc deeds (deed ∷ []) more) (omega (arith, one, rest))

module _ (old new : ℕ → List ClientEntry) (begins : (client : ℕ) → BeginsWith (new client) (old client)) (lawful : (client volume : ℕ) → AreLawful (deeds_of volume (new client))) where
  -- what the client did behind
  abbrev pub behind : (client volume : ℕ) → List Deed
  behind client volume = deeds_of volume (begins client).0

  pub deeds_are : (client volume : ℕ) → deeds_of volume (new client) ≡ deeds_of volume (old client) ++ behind client volume
  deeds_are client volume = ap (deeds_of volume) (begins client).1 ∙ deeds_append volume (old client) (begins client).0

  pub chunks_grow : (client volume : ℕ) → (course_of (deeds_of volume (old client))).chunks ≤ (course_of (deeds_of volume (new client))).chunks
  chunks_grow client volume =
      let is = deeds_are client volume in
      subst (λ l. (course_of (deeds_of volume (old client))).chunks ≤ (course_of l).chunks) (sym is)
      (chunks_from (deeds_of volume (old client)) (behind client volume) (follow_behind MayDo [] (deeds_of volume (old client)) (behind client volume) (subst AreLawful is (lawful client volume))))

  pub fits_still : (server volume : ℕ) (entries : List ReplicaEntry) → DoesFit old server volume entries → DoesFit new server volume entries
  fits_still server volume entries fit = record {
    ruled = fit.ruled;
    held = λ fid m. subst (λ l. IsMade volume l fid) (sym (deeds_are fid.vnode volume)) (made_begins volume (deeds_of volume (old fid.vnode)) (behind fid.vnode volume) fid (fit.held fid m));
    frozen = λ d i.
        let chunk : Chunk = record { number = d.number; home = server; span = d.span } in
        subst (λ l. In chunk (chunks_of l)) (sym (deeds_are d.client volume)) (told_begins chunk_at (deeds_of volume (old d.client)) (behind d.client volume) chunk (fit.frozen d i));
    reached = λ client. let low = fit.reached client in let more = chunks_grow client volume in omega (arith, low, more);
    kept = fit.kept;
  }

-- ---- the only replica of a volume

module _ (h : Histories) (pool : ℕ → Option Letter) (server volume : ℕ) (a : DoAgree h pool) (only : (other : ℕ) → other ≢ server → h.replicas other volume ≡ []) where
  -- a chunk that was decided was decided here
  among : (client number : ℕ) (verdict : Verdict) → IsDecided h.replicas volume client number verdict → IsAmong (decisions_of volume (h.replicas server volume)) client number verdict
  among client number verdict decided = record {
    by = decided.by;
    there = elim (cases_Bool (decided.server == server)) [
      | inl e ↦ subst (λ s. In decided.by (decisions_of volume (h.replicas s volume))) (eqb-true decided.server server e) decided.there
      | inr e ↦ absurd (subst (λ l. In decided.by (decisions_of volume l)) (only decided.server (λ same. false≢true (sym e ∙ eq-eqb decided.server server same))) decided.there)
    ];
    client_is = decided.client_is;
    number_is = decided.number_is;
    verdict_is = decided.verdict_is;
  }

  pub only_fits : DoesFit h.clients server volume (h.replicas server volume)
  only_fits = record {
    ruled = a.ruled server volume;
    held = a.held server volume;
    frozen = a.frozen server volume;
    reached = a.reached server volume;
    kept = λ client some. among client _ _ (a.kept server volume client some);
  }

-- ---- replicas that go

module _ (h : Histories) (pool : ℕ → Option Letter) (away : ℕ → Bool) (learned : ℕ → ℕ → List Settlement) (a : DoAgree h pool) (is : IsLearned h away learned) where
  -- what holds of a replica that did nothing and of those that stay
  at_gone : (s v : ℕ) (P : List ReplicaEntry → Type 0) → P [] → (away v ≡ false → P (h.replicas s v)) → P ((without_replicas h away learned).replicas s v)
  at_gone s v P none some = elim (away v) as (λ b. away v ≡ b → P (cond b [] (h.replicas s v))) [ true ↦ λ e. none | false ↦ λ e. some e ] refl

  stay_decided : (volume client number : ℕ) (verdict : Verdict) → away volume ≡ false → IsDecided h.replicas volume client number verdict → IsDecided (without_replicas h away learned).replicas volume client number verdict
  stay_decided volume client number verdict here decided = record {
    server = decided.server;
    by = decided.by;
    there = subst (λ b. In decided.by (decisions_of volume (cond b [] (h.replicas decided.server volume)))) (sym here) decided.there;
    client_is = decided.client_is;
    number_is = decided.number_is;
    verdict_is = decided.verdict_is;
  }

  pub agree_without : DoAgree (without_replicas h away learned) (λ message. None)
  agree_without = record {
    lawful = a.lawful;
    ruled = λ s v. at_gone s v (AreDecisions v) tt (λ here. a.ruled s v);
    numbered = a.numbered;
    made = a.made;
    held = λ s v fid. at_gone s v (λ es. has (nodes_of v es) fid ≡ true → IsMade v (deeds_in h fid.vnode v) fid) (root_made v (deeds_in h fid.vnode v) fid) (λ here. a.held s v fid);
    frozen = λ s v d. at_gone s v (λ es. In d (decisions_of v es) → HasFrozen h d.client v d.number s d.span) (λ i. absurd i) (λ here. a.frozen s v d);
    reached = λ s v c. at_gone s v (λ es. (last_of v es c).number ≤ (course_of (deeds_in h c v)).chunks) (omega arith) (λ here. a.reached s v c);
    kept = λ s v c. at_gone s v (λ es. 0 < (last_of v es c).number → IsDecided (without_replicas h away learned).replicas v c (last_of v es c).number (last_of v es c).verdict)
        (λ some. let no : ⊥ = omega (arith, some) in absurd no) (λ here some. stay_decided v c _ _ here (a.kept s v c some));
    settled = λ c v s i. elim (cases_Bool (away v)) [
      | inl gone ↦ inr (is.gone c v s gone i)
      | inr here ↦ elim (a.settled c v s i) [ inl decided ↦ inl (stay_decided v c s.number s.verdict here decided) | inr told ↦ inr (is.before c v s told) ]
    ];
    sent = λ m c s v n e. cc;
    answered = λ m s c v n verdict e. cc;
  }

-- ---- one that comes

module _ (h : Histories) (pool : ℕ → Option Letter) (server volume : ℕ) (entries : List ReplicaEntry) (a : DoAgree h pool) (none : (other : ℕ) → h.replicas other volume ≡ []) (fit : DoesFit h.clients server volume entries) where
  abbrev pub Came : Histories
  Came = with_entries h server volume entries

  -- what holds of the entries at their replica and of all others holds everywhere
  at_came : (s v : ℕ) (P : ℕ → ℕ → List ReplicaEntry → Type 0) → P server volume entries → P s v (h.replicas s v) → P s v (Came.replicas s v)
  at_came s v P here there = elim ((s == server) && (v == volume)) as (λ b. ((s == server) && (v == volume)) ≡ b → P s v (cond b entries (h.replicas s v))) [
    | true ↦ λ e. let both = and_parts (s == server) (v == volume) e in
        subst (λ n. P n v entries) (sym (eqb-true s server both.0)) (subst (λ n. P server n entries) (sym (eqb-true v volume both.1)) here)
    | false ↦ λ e. there
  ] refl

  here_is : Came.replicas server volume ≡ entries
  here_is = ap (λ b. cond (b && (volume == volume)) entries (h.replicas server volume)) (eq-eqb server server refl) ∙ ap (λ b. cond (true && b) entries (h.replicas server volume)) (eq-eqb volume volume refl)

  -- a decision of another volume stands where it stood
  still_there : (s v : ℕ) (d : Decision) → In d (decisions_of v (h.replicas s v)) → In d (decisions_of v (Came.replicas s v))
  still_there s v d i = elim (cases_Bool (v == volume)) [
    | inl e ↦ absurd (subst (λ l. In d (decisions_of v l)) (ap (h.replicas s) (eqb-true v volume e) ∙ none s) i)
    | inr e ↦ subst (λ b. In d (decisions_of v (cond ((s == server) && b) entries (h.replicas s v)))) (sym e)
        (elim (s == server) as (λ b. In d (decisions_of v (cond (b && false) entries (h.replicas s v)))) [ true ↦ i | false ↦ i ])
  ]

  come_decided : (v c n : ℕ) (verdict : Verdict) → IsDecided h.replicas v c n verdict → IsDecided Came.replicas v c n verdict
  come_decided v c n verdict d = record { server = d.server; by = d.by; there = still_there d.server v d.by d.there; client_is = d.client_is; number_is = d.number_is; verdict_is = d.verdict_is }

  decided_now : (c n : ℕ) (verdict : Verdict) → IsAmong (decisions_of volume entries) c n verdict → IsDecided Came.replicas volume c n verdict
  decided_now c n verdict d = record {
    server = server;
    by = d.by;
    there = subst (λ l. In d.by (decisions_of volume l)) (sym here_is) d.there;
    client_is = d.client_is;
    number_is = d.number_is;
    verdict_is = d.verdict_is;
  }

  pub agree_with : DoAgree Came pool
  agree_with = record {
    lawful = a.lawful;
    ruled = λ s v. at_came s v (λ t w es. AreDecisions w es) fit.ruled (a.ruled s v);
    numbered = a.numbered;
    made = a.made;
    held = λ s v fid. at_came s v (λ t w es. has (nodes_of w es) fid ≡ true → IsMade w (deeds_in h fid.vnode w) fid) (fit.held fid) (a.held s v fid);
    frozen = λ s v d. at_came s v (λ t w es. In d (decisions_of w es) → HasFrozen h d.client w d.number t d.span) (fit.frozen d) (a.frozen s v d);
    reached = λ s v c. at_came s v (λ t w es. (last_of w es c).number ≤ (course_of (deeds_in h c w)).chunks) (fit.reached c) (a.reached s v c);
    kept = λ s v c. at_came s v (λ t w es. 0 < (last_of w es c).number → IsDecided Came.replicas w c (last_of w es c).number (last_of w es c).verdict)
        (λ some. decided_now c _ _ (fit.kept c some)) (λ some. come_decided v c _ _ (a.kept s v c some));
    settled = λ c v s i. elim (a.settled c v s i) [ inl decided ↦ inl (come_decided v c s.number s.verdict decided) | inr told ↦ inr told ];
    sent = a.sent;
    answered = λ m s c v n verdict e. come_decided v c n verdict (a.answered m s c v n verdict e);
  }

-- a replica that did nothing holds its root alone
nothing_fits : (clients : ℕ → List ClientEntry) (server volume : ℕ) → DoesFit clients server volume []
nothing_fits clients server volume = record {
  ruled = tt;
  held = λ fid m. root_made volume (deeds_of volume (clients fid.vnode)) fid m;
  frozen = λ d i. absurd i;
  reached = λ client. omega arith;
  kept = λ client some. (let no : ⊥ = omega (arith, some) in absurd no);
}

pub replicas_stand_elsewhere : ReplicasStandElsewhere
replicas_stand_elsewhere = record {
  nothing = nothing_fits;
  fits = λ h pool server volume a only. only_fits h pool server volume a only;
  stays = λ old new server volume entries begins lawful fit. fits_still old new begins lawful server volume entries fit;
  leaves = λ h pool away learned a is. agree_without h pool away learned a is;
  comes = λ h pool server volume entries a none fit. agree_with h pool server volume entries a none fit;
}
