-- What a mounting finds.
use Rattle.std.proofs.Common.{◌≡◌, ◌≢◌, ◌⊎◌, inl, inr, ℕ, ◌+◌, List, [], length, take, drop, refl, sym, ◌∙◌, ap, subst}
use Rattle.std.specs.Int.{w32}
use Rattle.std.specs.Prelude.{Result, Ok, Err, IsErr}
use Rattle.coda_disk.specs.Told.{Told, Only, LeavesOnly}
use Rattle.coda_journal.specs.Entries.{blocks, Holds, IsBroken}
use Rattle.coda_journal.specs.Header.{IsHeader, area_bytes}
use Rattle.coda_journal.specs.Heading.{IsHeading}
use Rattle.coda_journal.specs.declared.heading.Heading.TheVariants.{Area}
use Rattle.coda_journal.specs.Image.{IsUnmade, Reads, ReadsAs, OtherHeader, BrokenArea, start_of, area_of}
use Rattle.coda_journal.specs.declared.header.Header.{Header}
use Rattle.coda_journal.proofs.Headings.{area_at}
use Rattle.coda_journal.proofs.Images.{as_not_foreign}
use Rattle.coda_journal.specs.Made.{Makes}
use Rattle.coda_journal.specs.Mount.{OldOrEmpty, Mounted, NotMounted, WhyNot, MountAnswers}
use Rattle.coda_journal.specs.Open.{IsOurs}
use Rattle.coda_journal.specs.Quiet.{Quiet}
use Rattle.coda_journal.specs.declared.pieces.Found.{Found}
use Rattle.coda_journal.specs.declared.mounting.MountFault.{MountFault}
use Rattle.coda_journal.specs.declared.mounting.MountFault.TheVariants.{Foreign, DiskFault, Memory}
use Rattle.coda_journal.proofs.Moments.{and_then, widen, both}

module _ (header : Header) (ok : IsHeader header) (t0 : Told) where
  abbrev pub P : List ℕ → Type 0
  P = OldOrEmpty header t0

  old : (c : List ℕ) → t0.may_leave c → P c
  old c now = inl now

  quiet_leaves : (t : Told) → Quiet t0 t → LeavesOnly t0 t P
  quiet_leaves t q = widen t0 t t0.may_leave P old q.leaves

  -- nothing was written, and the disk isn't foreign
  pub not_by_quiet : (t : Told) (r : Result Found MountFault) → IsErr r → ((place : ℕ) → r ≢ Err (Foreign place)) → Quiet t0 t → MountAnswers header t0 t r
  not_by_quiet t (Ok f) bad other q = cc
  not_by_quiet t (Err (Foreign at)) bad other q = absurd (other at refl)
  not_by_quiet t (Err DiskFault) bad other q = record { honest = q.honest; leaves = quiet_leaves t q; now = inl q.crash; why_not = tt }
  not_by_quiet t (Err Memory) bad other q = record { honest = q.honest; leaves = quiet_leaves t q; now = inl q.crash; why_not = (q.seen, q.crash) }

  -- the header is another one
  pub other_header : (t : Told) (at : ℕ) → Quiet t0 t → Only t.seen t.may_leave → OtherHeader header t0.seen at → MountAnswers header t0 t (Err (Foreign at))
  other_header t at q only o = record { honest = q.honest; leaves = quiet_leaves t q; now = inl q.crash; why_not = (inl o, q.seen, only) }

  module _ (t1 : Told) (q1 : Quiet t0 t1) (only1 : Only t1.seen t1.may_leave) where
    -- a disk that is made anew
    module _ (unmade : IsUnmade t0.seen) where
      pub unmade1 : IsUnmade t1.seen
      unmade1 = subst IsUnmade (sym q1.seen) unmade

      made_leaves : {T E : Type 0} {r : Result T E} (t2 : Told) → Makes header t1 t2 r → LeavesOnly t0 t2 P
      made_leaves t2 m = and_then t0 t1 t2 P (quiet_leaves t1 q1) (widen t1 t2 (λ c. t1.may_leave c ⊎ ReadsAs header [] c) P wider m.leaves)
        where
          wider : (c : List ℕ) → t1.may_leave c ⊎ ReadsAs header [] c → P c
          wider c (inl was) = inl (q1.crash c was)
          wider c (inr empty) = inr (unmade, empty)

      pub not_made : {T E : Type 0} {rm : Result T E} (t2 : Told) (r : Result Found MountFault) → r ≡ Err DiskFault → Makes header t1 t2 rm → ((c : List ℕ) → t2.may_leave c → t2.left_since t1.moment c) → MountAnswers header t0 t2 r
      not_made t2 r is m counts = subst (λ (x : Result Found MountFault). MountAnswers header t0 t2 x) (sym is)
          (record { honest = m.honest; leaves = made_leaves t2 m; now = inr (unmade, λ c now. empty c (m.leaves.each c (counts c now))); why_not = tt })
        where
          empty : (c : List ℕ) → t1.may_leave c ⊎ ReadsAs header [] c → ReadsAs header [] c
          empty c (inl was) = inl (subst IsUnmade (sym (only1 c was)) unmade1, refl)
          empty c (inr reads) = reads

      pub is_made : {T E : Type 0} {x : T} (t2 : Told) → Makes {T = T} {E = E} header t1 t2 (Ok x) → Mounted header t0 t2 64 0 []
      is_made t2 m = record { is_open = m.done; was = inl (unmade, refl); leaves = made_leaves t2 m }

    -- a disk with this header
    module _ (start : ℕ) (heading : IsHeading header t0.seen (Area start)) where
      area_is : take (area_bytes header) (drop start t1.seen) ≡ area_of header t0.seen
      area_is = ap (λ (l : List ℕ). take (area_bytes header) (drop start l)) q1.seen ∙ area_at header t0.seen start (area_bytes header) heading.2 refl

      pub has_list : (t2 : Told) → Quiet t1 t2 → (used : ℕ) (payloads : List (List ℕ)) → Holds w32 (take (area_bytes header) (drop start t1.seen)) payloads → used ≡ length (blocks w32 payloads) → Mounted header t0 t2 start used payloads
      has_list t2 q used payloads holds counts =
          let same : t2.seen ≡ t0.seen = q.seen ∙ q1.seen in
          let reads : Reads header t0.seen payloads = record { made = heading.0; same = heading.1; entries = subst (λ (l : List ℕ). Holds w32 l payloads) area_is holds } in
          record {
            is_open = record {
              honest = q.honest;
              whole = ok;
              reads = subst (λ (l : List ℕ). Reads header l payloads) (sym same) reads;
              starts = heading.2 ∙ ap (λ (l : List ℕ). start_of header l) (sym same);
              counts = counts;
              size = refl;
              durable = λ c now. only1 c (q.crash c now) ∙ sym q.seen;
            };
            was = inr reads;
            leaves = quiet_leaves t2 (both t0 t1 t2 q1 q);
          }

      pub has_none : (t2 : Told) (r : Result Found MountFault) → IsErr r → Quiet t1 t2
          → ((at : ℕ) → r ≡ Err (Foreign at) → (place : ℕ) × (at ≡ start + place) × IsBroken w32 (take (area_bytes header) (drop start t1.seen)) place) → MountAnswers header t0 t2 r
      has_none t2 (Ok f) bad q broken = cc
      has_none t2 (Err DiskFault) bad q broken = not_by_quiet t2 (Err DiskFault) refl (λ place e. cc e) (both t0 t1 t2 q1 q)
      has_none t2 (Err Memory) bad q broken = not_by_quiet t2 (Err Memory) refl (λ place e. cc e) (both t0 t1 t2 q1 q)
      has_none t2 (Err (Foreign at)) bad q broken =
          let b = broken at refl in
          let all = both t0 t1 t2 q1 q in
          let here : at ≡ start_of header t0.seen + b.0 = b.1 ∙ ap (λ (n : ℕ). n + b.0) heading.2 in
          let foreign : BrokenArea header t0.seen at = record { made = heading.0; same = heading.1; place = b.0; here = here; broken = subst (λ (l : List ℕ). IsBroken w32 l b.0) area_is b.2 } in
          record { honest = all.honest; leaves = quiet_leaves t2 all; now = inl all.crash; why_not = (inr foreign, all.seen, λ c now. only1 c (q.crash c now) ∙ sym q.seen) }

  -- a disk whose images all stand for lists
  module _ (ours : IsOurs header t0) (t : Told) (why : MountFault) (n : NotMounted header t0 t why) where
    pub still_ours : IsOurs header t
    still_ours c now = from n.now
      where
        from : ((x : List ℕ) → t.may_leave x → t0.may_leave x) ⊎ (IsUnmade t0.seen × ((x : List ℕ) → t.may_leave x → ReadsAs header [] x)) → (payloads : List (List ℕ)) × ReadsAs header payloads c
        from (inl same) = ours c (same c now)
        from (inr empty) = ([], empty.1 c now)

    pub not_foreign : t0.may_leave t0.seen → (at : ℕ) → why ≢ Foreign at
    not_foreign seen at e =
        let list = ours t0.seen seen in
        let foreign = (subst (λ (w : MountFault). WhyNot header t0 t w) e n.why_not).0 in
        as_not_foreign header t0.seen ok list.0 at list.1 foreign
