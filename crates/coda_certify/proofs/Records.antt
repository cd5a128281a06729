-- A replay record by record, and of lists put together.
use Rattle.std.proofs.Common.{◌≡◌, ℕ, Option, Some, None, Ok, Err, List, [], ◌∷◌, ◌++◌, refl, sym, ap, ◌∙◌}
use Rattle.coda_fid.specs.declared.op.Record.{Record}
use Rattle.coda_tree.specs.Volume.{Nodes}
use Rattle.coda_certify.specs.declared.reason.Reason.{Reason}
use Rattle.coda_certify.specs.Checks.{certify}
use Rattle.coda_certify.specs.Replay.{applied, Replayed, unless_refused, replay}
use Rattle.coda_certify.specs.declared.verdict.Verdict.TheVariants.{Applied, Conflict}
use Rattle.coda_certify.specs.Verdicts.{verdict_of}
use Rattle.coda_certify.specs.Laws.{IsFirstRefused, IsCertifiedAfter}

-- a certified record is applied first
pub replay-cons : (m : Nodes) (client : ℕ) (rec : Record) (recs : List Record) → certify m rec.op ≡ None → replay m client (rec ∷ recs) ≡ replay (applied m client rec) client recs
replay-cons m client rec recs h = ap (λ o. unless_refused o rec.number (replay (applied m client rec) client recs)) h

-- a refused record ends the replay
pub replay-cons_refused : (m : Nodes) (client : ℕ) (rec : Record) (recs : List Record) (why : Reason) → certify m rec.op ≡ Some why → replay m client (rec ∷ recs) ≡ Err (rec.number, why)
replay-cons_refused m client rec recs why h = ap (λ o. unless_refused o rec.number (replay (applied m client rec) client recs)) h

-- what further records make of a replay
abbrev pub replay_on : Replayed → ℕ → List Record → Replayed
replay_on (Ok m) client recs = replay m client recs
replay_on (Err e) client recs = Err e

replay_step : (m : Nodes) (client : ℕ) (rec : Record) (front back : List Record) (o : Option Reason) → replay (applied m client rec) client (front ++ back) ≡ replay_on (replay (applied m client rec) client front) client back → unless_refused o rec.number (replay (applied m client rec) client (front ++ back)) ≡ replay_on (unless_refused o rec.number (replay (applied m client rec) client front)) client back
replay_step m client rec front back None h = h
replay_step m client rec front back (Some why) h = refl

-- a replay of two lists is that of the first, and then that of the second
pub replay-append : (m : Nodes) (client : ℕ) (front back : List Record) → replay m client (front ++ back) ≡ replay_on (replay m client front) client back
replay-append m client [] back = refl
replay-append m client (rec ∷ front) back = replay_step m client rec front back (certify m rec.op) (replay-append (applied m client rec) client front back)

-- one more certified record is applied last
pub replay-push : (m before : Nodes) (client : ℕ) (front : List Record) (rec : Record) → replay m client front ≡ Ok before → certify before rec.op ≡ None → replay m client (front ++ rec ∷ []) ≡ Ok (applied before client rec)
replay-push m before client front rec h k = replay-append m client front (rec ∷ []) ∙ (ap (λ r. replay_on r client (rec ∷ [])) h ∙ replay-cons before client rec [] k)

-- ---- what a verdict says

pub ok_from_applied : (r : Replayed) → verdict_of r ≡ Applied → (left : Nodes) × (r ≡ Ok left)
ok_from_applied (Ok m) h = (m, refl)
ok_from_applied (Err e) h = cc

pub err_from_conflict : (r : Replayed) (number : ℕ) (why : Reason) → verdict_of r ≡ Conflict number why → r ≡ Err (number, why)
err_from_conflict (Ok m) number why h = cc
err_from_conflict (Err e) number why h =
    let p : e.0 ≡ number = cc in
    let q : e.1 ≡ why = cc in
    λ i. Err (p i, q i)

-- ---- the laws

refused_step : (m : Nodes) (client : ℕ) (rec : Record) (recs : List Record) (number : ℕ) (why : Reason) (o : Option Reason) → certify m rec.op ≡ o → unless_refused o rec.number (replay (applied m client rec) client recs) ≡ Err (number, why) → (replay (applied m client rec) client recs ≡ Err (number, why) → IsFirstRefused (applied m client rec) client recs number why) → IsFirstRefused m client (rec ∷ recs) number why
refused_step m client rec recs number why None e h rest =
    let r = rest h in
    record {
      front = rec ∷ r.front;
      refused = r.refused;
      back = r.back;
      before = r.before;
      splits = ap (λ xs. rec ∷ xs) r.splits;
      applies = replay-cons m client rec r.front e ∙ r.applies;
      refuses = r.refuses;
      numbered = r.numbered;
    }
refused_step m client rec recs number why (Some found) e h rest =
    let pair : (rec.number, found) ≡ (number, why) = cc in
    record {
      front = [];
      refused = rec;
      back = recs;
      before = m;
      splits = refl;
      applies = refl;
      refuses = e ∙ ap (λ (p : ℕ × Reason). Some p.1) pair;
      numbered = sym (ap (λ (p : ℕ × Reason). p.0) pair);
    }

pub first_refused : (m : Nodes) (client : ℕ) (recs : List Record) (number : ℕ) (why : Reason) → replay m client recs ≡ Err (number, why) → IsFirstRefused m client recs number why
first_refused m client [] number why h = cc
first_refused m client (rec ∷ recs) number why h = refused_step m client rec recs number why (certify m rec.op) refl h (first_refused (applied m client rec) client recs number why)

certified_here : (m left : Nodes) (client : ℕ) (rec : Record) (back : List Record) (o : Option Reason) → certify m rec.op ≡ o → unless_refused o rec.number (replay (applied m client rec) client back) ≡ Ok left → IsCertifiedAfter m client [] rec
certified_here m left client rec back None e h = record { before = m; applies = refl; certified = e }
certified_here m left client rec back (Some why) e h = cc

certified_later : (m left : Nodes) (client : ℕ) (x : Record) (front : List Record) (rec : Record) (rest : Replayed) (o : Option Reason) → certify m x.op ≡ o → unless_refused o x.number rest ≡ Ok left → (rest ≡ Ok left → IsCertifiedAfter (applied m client x) client front rec) → IsCertifiedAfter m client (x ∷ front) rec
certified_later m left client x front rec rest None e h next =
    let r = next h in
    record { before = r.before; applies = replay-cons m client x front e ∙ r.applies; certified = r.certified }
certified_later m left client x front rec rest (Some why) e h next = cc

pub certified_after : (m left : Nodes) (client : ℕ) (front : List Record) (rec : Record) (back : List Record) → replay m client (front ++ rec ∷ back) ≡ Ok left → IsCertifiedAfter m client front rec
certified_after m left client [] rec back h = certified_here m left client rec back (certify m rec.op) refl h
certified_after m left client (x ∷ front) rec back h = certified_later m left client x front rec (replay (applied m client x) client (front ++ rec ∷ back)) (certify m x.op) refl h (certified_after (applied m client x) left client front rec back)
