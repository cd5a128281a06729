-- Histories that agree keep what is promised.
use Rattle.std.proofs.Common.{◌≡◌, ℕ, refl, sym, ap, ◌∙◌, subst, inl, inr, ◌⊎◌}
use Rattle.std.proofs.lemmas.Bool.{cases_eq}
use Rattle.coda_fid.specs.Fid.{root_of}
use Rattle.coda_certify.specs.declared.verdict.Verdict.{Verdict}
use Rattle.coda_certify.specs.declared.verdict.Verdict.TheVariants.{Applied}
use Rattle.coda_plain.specs.Histories.{In}
use Rattle.coda_plain.specs.Deeds.{Chunk, chunks_of, span_in, settlements_of}
use Rattle.coda_plain.specs.Decisions.{Decision, verdict_on, decisions_of}
use Rattle.coda_plain.specs.Elsewhere.{DoesFit}
use Rattle.coda_plain.proofs.Chunking.{numbered}
use Rattle.coda_plain.proofs.Ledger.{orderly}
use Rattle.coda_plain.proofs.Fates.{fated}
use Rattle.coda_plain.proofs.Volumes.{volumes, sent_decides, certified_applied, refused}
use Rattle.coda_plain.proofs.Once.{DoDiffer, differ, differ_at, same_in}
use Rattle.coda_shelves.specs.Shelves.{Found}
use Rattle.coda_shelves.specs.Kept.{deeds_in, Decides, DoAgree}
use Rattle.coda_shelves.specs.Promises.{AreDecidedOnce, IsJust, IsDecidedElsewhere, AreOperationsKept, ArePromised}

module _ (f : Found) (a : DoAgree f) where
  fit_of : (row server volume : ℕ) → f.volumes row server ≡ volume → DoesFit f.clients server volume (f.replicas row server)
  fit_of row server volume is = subst (λ v. DoesFit f.clients server v (f.replicas row server)) is (a.fits row server)

  -- two chunks of one number are one
  one_chunk : (client volume : ℕ) (c d : Chunk) → In c (chunks_of (deeds_in f client volume)) → In d (chunks_of (deeds_in f client volume)) → c.number ≡ d.number → c ≡ d
  one_chunk client volume = (numbered (deeds_in f client volume) (a.lawful client volume)).one

  frozen_by : (client volume row server : ℕ) (d : Decision) → Decides f row server volume d → d.client ≡ client → In (record { number = d.number; home = server; span = d.span }) (chunks_of (deeds_in f client volume))
  frozen_by client volume row server d i same =
      subst (λ c. In (record { number = d.number; home = server; span = d.span }) (chunks_of (deeds_in f c volume))) same ((fit_of row server volume i.0).frozen d i.1)

  -- two decisions of one chunk were made by replicas on one server
  one_home : (volume row line server other : ℕ) (first second : Decision) → Decides f row server volume first → Decides f line other volume second → first.client ≡ second.client → first.number ≡ second.number → server ≡ other
  one_home volume row line server other first second i j client number =
      ap (λ (c : Chunk). c.home) (one_chunk second.client volume (record { number = first.number; home = server; span = first.span }) (record { number = second.number; home = other; span = second.span })
      (frozen_by second.client volume row server first i client) (frozen_by second.client volume line other second j refl) number)

  -- and in one row they are one
  one_decision : (volume row server other : ℕ) (first second : Decision) → Decides f row server volume first → Decides f row other volume second → first.client ≡ second.client → first.number ≡ second.number → first ≡ second
  one_decision volume row server other first second i j client number =
      let home = one_home volume row row server other first second i j client number in
      same_in (decisions_of volume (f.replicas row server)) first second (differ volume (f.replicas row server) (fit_of row server volume i.0).ruled) i.1
      (subst (λ s. Decides f row s volume second) (sym home) j).1 client number

  once : AreDecidedOnce f
  once = record {
    here = λ row server front middle back first second splits client.
        differ_at front middle back first second (subst DoDiffer splits (differ (f.volumes row server) (f.replicas row server) (a.fits row server).ruled)) client;
    there = λ volume row server other. one_home volume row row server other;
  }

  just : (row server volume : ℕ) (d : Decision) → Decides f row server volume d → IsJust f server volume d
  just row server volume d i =
      let was = (volumes volume (f.replicas row server) (fit_of row server volume i.0).ruled).1 d i.1 in
      let frozen = frozen_by d.client volume row server d i refl in
      record {
        frozen = frozen;
        span = sym ((numbered (deeds_in f d.client volume) (a.lawful d.client volume)).own (record { number = d.number; home = server; span = d.span }) frozen);
        volume_before = was;
        sent = sent_decides (root_of volume) d.before d.client d.span was;
        certified = certified_applied d;
        conflict = λ number why. refused (root_of volume) d number why was;
      }

  -- the verdict that a client learned is that of the decision in its row, or the chunk was decided in another row too
  same_verdict : (row server client volume : ℕ) (d : Decision) (verdict : Verdict) → Decides f row server volume d → d.client ≡ client → In (record { number = d.number; verdict = verdict }) (settlements_of (deeds_in f client volume))
      → (verdict ≡ verdict_on d) ⊎ IsDecidedElsewhere f row volume d
  same_verdict row server client volume d verdict i same there =
      let by = a.settled client volume (record { number = d.number; verdict = verdict }) there in
      elim (cases_eq by.row row) [
        | inl here ↦ inl (sym by.verdict_is ∙ ap verdict_on (one_decision volume row by.server server by.by d (subst (λ r. Decides f r by.server volume by.by) here by.there) i (by.client_is ∙ sym same) by.number_is))
        | inr off ↦ inr (record { other = by.row; server = by.server; by = by.by; there = by.there; client_is = by.client_is ∙ sym same; number_is = by.number_is; differs = off })
      ]

  kept : (client volume : ℕ) → AreOperationsKept f client volume
  kept client volume =
      let deeds = deeds_in f client volume in
      let o = orderly deeds (a.lawful client volume) in
      let t = fated deeds (a.lawful client volume) in
      record {
        ledger = o.1.ledger;
        rising = o.1.rising;
        steady = o.1.steady;
        numbered = a.numbered client volume;
        ended = λ number span i.
            let e = t.ends number span i in
            let by = a.settled client volume (record { number = number; verdict = Applied }) e.settled in
            let frozen : In (record { number = number; home = by.server; span = by.by.span }) (chunks_of deeds)
            = subst (λ n. In (record { number = n; home = by.server; span = by.by.span }) (chunks_of deeds)) by.number_is (frozen_by client volume by.row by.server by.by by.there by.client_is) in
            (by, ap (λ (c : Chunk). c.span) (one_chunk client volume (record { number = number; home = by.server; span = by.by.span }) (record { number = number; home = e.home; span = span }) frozen e.chunk refl));
        applied = λ row server d i same applied.
            elim (t.fate (record { number = d.number; home = server; span = d.span }) (frozen_by client volume row server d i same)) [
              | inl way ↦ inr (inl (record {
                cut = way.0.0;
                frozen = way.0.1;
                last = way.1;
                front = sym ((numbered deeds (a.lawful client volume)).own (record { number = d.number; home = server; span = d.span }) (frozen_by client volume row server d i same))
                    ∙ ap (λ n. span_in n (chunks_of deeds)) way.1 ∙ (o.1.front way.0.0 way.0.1).span;
              }))
              | inr s ↦ elim (same_verdict row server client volume d s.verdict i same s.there) [
                | inl is ↦ inl (s.ends (is ∙ applied))
                | inr elsewhere ↦ inr (inr elsewhere)
              ]
            ];
      }

  pub promised : ArePromised f
  promised = record { once = once; just = just; settled = a.settled; kept = kept }
