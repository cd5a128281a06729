-- What a mounted journal's payloads say of the recovery.
use Rattle.std.proofs.Common.{◌≡◌, ◌≢◌, ℕ, ◌+◌, ◌-◌, ◌<◌, ◌≤◌, List, [], ◌∷◌, ◌++◌, length, Result, Ok, append-nil, append_assoc, refl, sym, ap, ◌∙◌, subst, inl, inr, ◌⊎◌, arith}
use Rattle.std.specs.Int.{w32}
use Rattle.coda_disk.specs.Told.{Told}
use Rattle.coda_journal.specs.Entries.{blocks}
use Rattle.coda_journal.specs.Header.{IsHeader, area_bytes}
use Rattle.coda_journal.specs.Image.{IsUnmade, Reads, ReadsAs, start_of}
use Rattle.coda_journal.specs.Mount.{OldOrEmpty, Mounted, NotMounted, WhyNot}
use Rattle.coda_journal.specs.declared.header.Header.{Header}
use Rattle.coda_journal.specs.declared.mounting.MountFault.{MountFault}
use Rattle.coda_journal.specs.declared.mounting.MountFault.TheVariants.{Foreign, DiskFault, Memory}
use Rattle.coda_journal.proofs.Images.{as_once}
use Rattle.coda_record.specs.Entries.{replica_entry}
use Rattle.coda_record.specs.Form.{four}
use Rattle.coda_record.specs.Spelling.{Spells}
use Rattle.coda_record.specs.declared.entry.ReplicaEntry.{ReplicaEntry}
use Rattle.coda_record.proofs.Offsets.{agreeing_is_exact}
use Rattle.coda_record.proofs.EntriesAgree.{replica_entry_agrees}
use Rattle.coda_plain.specs.Histories.{DoFollow}
use Rattle.coda_replica.specs.History.{payload_of, payloads_of, MayFollow}
use Rattle.coda_replica.specs.Standing.{ReadsAsHistory, IsReplicaDisk}
use Rattle.coda_replica.specs.Recovering.{Recovered, IsMisfit, WhyNotRecovered, NotRecovered}
use Rattle.coda_replica.specs.Entering.{Breaks}
use Rattle.coda_replica.specs.declared.replica.Replica.{Replica}
use Rattle.coda_replica.proofs.Reading.{blocks_append}

-- ---- the disk isn't mounted

pub not_mounted : (header : Header) (t0 t1 : Told) (why : MountFault) → NotMounted header t0 t1 why → ((payloads : List (List ℕ)) → t1.seen ≡ t0.seen → ReadsAs header payloads t0.seen → ReadsAs header payloads t1.seen) → NotRecovered header t0 t1 why
not_mounted header t0 t1 why n same = record { honest = n.honest; leaves = n.leaves; now = n.now; why_not = by why n.why_not }
  where
    by : (w : MountFault) → WhyNot header t0 t1 w → WhyNotRecovered header t0 t1 w
    by (Foreign at) is = inl is
    by DiskFault is = tt
    by Memory is = λ payloads reads. same payloads is.0 reads

-- ---- the disk is mounted

module _ (header : Header) (t0 t1 : Told) (start used : ℕ) (payloads : List (List ℕ)) (m : Mounted header t0 t1 start used payloads) (seen_now : t1.may_leave t1.seen) (counts_now : (c : List ℕ) → t1.may_leave c → t1.left_since t0.moment c) where
  -- what it reads as is what a crash might have left before, or it wasn't made
  pub seen_before : OldOrEmpty header t0 t1.seen
  seen_before = m.leaves.each t1.seen (counts_now t1.seen seen_now)

  pub now : ((c : List ℕ) → t1.may_leave c → t0.may_leave c) ⊎ (IsUnmade t0.seen × ((c : List ℕ) → t1.may_leave c → ReadsAs header [] c))
  now = elim seen_before [
    | inl old ↦ inl (λ c may. subst t0.may_leave (sym (m.is_open.durable c may)) old)
    | inr made ↦ inr (made.0, λ c may. subst (ReadsAs header []) (sym (m.is_open.durable c may)) made.1)
  ]

  -- it reads as the same list
  pub reads_same : (others : List (List ℕ)) → ReadsAs header others t0.seen → ReadsAs header others t1.seen
  reads_same others reads = subst (λ (ps : List (List ℕ)). ReadsAs header ps t1.seen) (as_once header t0.seen m.is_open.whole payloads others m.was reads) (inr m.is_open.reads)

  -- want of memory
  pub no_memory : NotRecovered header t0 t1 Memory
  no_memory = record { honest = m.is_open.honest; leaves = m.leaves; now = now; why_not = reads_same }

  -- where a payload breaks the history, the disk was made before
  breaks_old : (at : ℕ) → Breaks header payloads start at → t0.may_leave t1.seen
  breaks_old at b = elim seen_before [
    | inl old ↦ old
    | inr made ↦ absurd (not_empty b.past b.payload b.rest (sym b.same ∙ as_once header t1.seen m.is_open.whole payloads [] (inr m.is_open.reads) made.1))
  ]
    where
      not_empty : (past : List ReplicaEntry) (payload : List ℕ) (rest : List (List ℕ)) → payloads_of past ++ payload ∷ rest ≡ [] → ⊥
      not_empty [] payload rest e = cc
      not_empty (x ∷ past) payload rest e = cc

  -- the place of the gate on the disk
  place_on_disk : (at : ℕ) → (b : Breaks header payloads start at) → start ≤ 64 + area_bytes header → used < area_bytes header → at ≡ start_of header t1.seen + length (blocks w32 (payloads_of b.past))
  place_on_disk at b low room =
      let whole : length (blocks w32 payloads) ≡ used = sym m.is_open.counts in
      let split : length (blocks w32 payloads) ≡ length (blocks w32 (payloads_of b.past)) + length (blocks w32 (b.payload ∷ b.rest)) = ap (λ (ps : List (List ℕ)). length (blocks w32 ps)) b.same ∙ blocks_append (payloads_of b.past) (b.payload ∷ b.rest) in
      let greatest = m.is_open.whole.greatest in
      let here = b.here in
      let starts = m.is_open.starts in
      omega (arith, whole, split, greatest, here, starts, low, room)

  pub foreign : (at : ℕ) → Breaks header payloads start at → start ≤ 64 + area_bytes header → used < area_bytes header → NotRecovered header t0 t1 (Foreign at)
  foreign at b low room = record {
    honest = m.is_open.honest;
    leaves = m.leaves;
    now = now;
    why_not = inr (
      breaks_old at b,
      m.is_open.durable,
      record {
        past = b.past;
        payload = b.payload;
        rest = b.rest;
        reads = subst (Reads header t1.seen) b.same m.is_open.reads;
        lawful = b.lawful;
        misfit = b.misfit;
        here = place_on_disk at b low room;
      },
    );
  }

  -- the payloads are no history, or memory is wanted
  pub not_recovered : (why : MountFault) → ((at : ℕ) → why ≡ Foreign at → Breaks header payloads start at) → why ≢ DiskFault → start ≤ 64 + area_bytes header → used < area_bytes header → NotRecovered header t0 t1 why
  not_recovered (Foreign at) breaks fault low room = foreign at (breaks at refl) low room
  not_recovered DiskFault breaks fault low room = absurd (fault refl)
  not_recovered Memory breaks fault low room = no_memory

-- ---- a disk on which replicas with this header alone wrote

-- a payload spells one entry
one_entry : (payload : List ℕ) (a b : ReplicaEntry) → Spells (replica_entry four) payload a → Spells (replica_entry four) payload b → a ≡ b
one_entry payload a b x y =
    let exact = agreeing_is_exact (replica_entry four) (replica_entry_agrees four) in
    ok_entry a b (sym (exact.only payload a x) ∙ exact.only payload b y)
  where
    ok_entry : (u v : ReplicaEntry) → (let ok : ReplicaEntry → Result ReplicaEntry ℕ = λ z. Ok z in ok u ≡ ok v) → u ≡ v
    ok_entry u v h = cc

heads : (p q : List ℕ) (ps qs : List (List ℕ)) → p ∷ ps ≡ q ∷ qs → (p ≡ q) × (ps ≡ qs)
heads p q ps qs e = (first, rest)
  where
    first : p ≡ q
    first = cc

    rest : ps ≡ qs
    rest = cc

-- behind a front of a history its next entry fits
no_misfit : (header : Header) (before past history : List ReplicaEntry) (payload : List ℕ) (rest : List (List ℕ)) → DoFollow (MayFollow header) before history → DoFollow (MayFollow header) before past
    → payloads_of history ≡ payloads_of past ++ payload ∷ rest → IsMisfit header (before ++ past) payload → ⊥
no_misfit header before [] [] payload rest law lawful e misfit = (let no : [] ≡ payload ∷ rest = e in cc)
no_misfit header before (x ∷ past) [] payload rest law lawful e misfit = (let no : [] ≡ payload_of x ∷ (payloads_of past ++ payload ∷ rest) = e in cc)
no_misfit header before [] (h ∷ history) payload rest law lawful e misfit =
    let same = heads (payload_of h) payload (payloads_of history) rest e in
    misfit h (sym same.0, law.0.1) (subst (λ (b : List ReplicaEntry). MayFollow header b h) (sym (append-nil before)) law.0)
no_misfit header before (x ∷ past) (h ∷ history) payload rest law lawful e misfit =
    let same = heads (payload_of h) (payload_of x) (payloads_of history) (payloads_of past ++ payload ∷ rest) e in
    let is : h ≡ x = one_entry (payload_of x) h x (sym same.0, law.0.1) (refl, lawful.0.1) in
    no_misfit header (before ++ x ∷ []) past history payload rest (subst (λ (y : ReplicaEntry). DoFollow (MayFollow header) (before ++ y ∷ []) history) is law.1) lawful.1 same.1
    (subst (λ (b : List ReplicaEntry). IsMisfit header b payload) (sym (append_assoc before (x ∷ []) past)) misfit)

pub never_breaks : (header : Header) (image : List ℕ) (payloads : List (List ℕ)) (start at : ℕ) → IsHeader header → ((h : List ReplicaEntry) × ReadsAsHistory header image h) → ReadsAs header payloads image → Breaks header payloads start at → ⊥
never_breaks header image payloads start at ok found reads b =
    no_misfit header [] b.past found.0 b.payload b.rest found.1.0 b.lawful (as_once header image ok (payloads_of found.0) payloads found.1.1 reads ∙ b.same) b.misfit

pub still_ours : (header : Header) (t0 t1 : Told) (why : MountFault) → IsReplicaDisk header t0 → NotRecovered header t0 t1 why → IsReplicaDisk header t1
still_ours header t0 t1 why ours n image may = elim n.now [
  | inl kept ↦ ours image (kept image may)
  | inr made ↦ ([], (tt, made.1 image may))
]
