-- The orders of interests, and when two are one.
use Rattle.std.proofs.Common.{◌≡◌, ℕ, Bool, true, false, ◌&&◌, ◌==◌, refl, ap, sym, ◌∙◌}
use Rattle.std.specs.Ordering.{nat_cmp, eq_by_cmp, is_eq}
use Rattle.std.specs.declared.cmp.Ordering.TheVariants.{Equal}
use Rattle.std.specs.Cmp.{IsTotalOrder, Equal-is, tied_itself}
use Rattle.std.proofs.lemmas.Bool.{and_parts, and_from, eqb-true, eq-eqb}
use Rattle.std.proofs.lemmas.Cmp.{then_total, on_total, nat_cmp_total}
use Rattle.std.proofs.lemmas.Map.Lookups.{CmpEqualImpliesEq, exact_pairs, exact_unsigned}
use Rattle.coda_fid.specs.Fid.{fid_cmp, same_fid}
use Rattle.coda_fid.specs.declared.fid.Fid.{Fid}
use Rattle.coda_fid.proofs.Fids.{fids_total, exact_fids, same_fid_is, same_fid_refl}
use Rattle.coda_callback.specs.declared.interest.Interest.{Interest}
use Rattle.coda_callback.specs.declared.interest.Watch.{Watch}
use Rattle.coda_callback.specs.Callbacks.{interest_cmp, interest}
use Rattle.coda_callback.specs.Kept.{watch_cmp, watch_of, interest_of}

-- the order of interests is total
pub interests_total : IsTotalOrder interest_cmp
interests_total = then_total (on_total (λ (i : Interest). i.client) nat_cmp_total) (on_total (λ (i : Interest). i.fid) fids_total)

-- interests that compare equal are one
pub exact_interests : CmpEqualImpliesEq interest_cmp
exact_interests a b h = ap (λ (p : ℕ × Fid). interest p.0 p.1) (exact_pairs nat_cmp fid_cmp exact_unsigned exact_fids (a.client, a.fid) (b.client, b.fid) h)

pub watches_total : IsTotalOrder watch_cmp
watches_total = then_total (on_total (λ (w : Watch). w.fid) fids_total) (on_total (λ (w : Watch). w.client) nat_cmp_total)

exact_watches : CmpEqualImpliesEq watch_cmp
exact_watches a b h = ap (λ (p : Fid × ℕ). watch_of (interest p.1 p.0)) (exact_pairs fid_cmp nat_cmp exact_fids exact_unsigned (a.fid, a.client) (b.fid, b.client) h)

-- a test on interests is the same at equal ones
pub alike : (t : Interest → Bool) (q x : Interest) → interest_cmp q x ≡ Equal → t x ≡ t q
alike t q x h = ap t (sym (exact_interests q x h))

-- ---- tests on interests

-- whether two interests are one
abbrev pub same_interest : Interest → Interest → Bool
same_interest a b = eq_by_cmp interest_cmp a b

abbrev same_watch : Watch → Watch → Bool
same_watch a b = eq_by_cmp watch_cmp a b

pub same_interest_is : (a b : Interest) → same_interest a b ≡ true → a ≡ b
same_interest_is a b h = exact_interests a b ((Equal-is (interest_cmp a b)).0 h)

pub same_interest_refl : (a : Interest) → same_interest a a ≡ true
same_interest_refl a = ap is_eq (tied_itself interests_total a)

same_watch_is : (a b : Watch) → same_watch a b ≡ true → a ≡ b
same_watch_is a b h = exact_watches a b ((Equal-is (watch_cmp a b)).0 h)

same_watch_refl : (a : Watch) → same_watch a a ≡ true
same_watch_refl a = ap is_eq (tied_itself watches_total a)

-- two tests that hold together are one
pub agree : (b c : Bool) → (b ≡ true → c ≡ true) → (c ≡ true → b ≡ true) → b ≡ c
agree true true f g = refl
agree true false f g = sym (f refl)
agree false true f g = g refl
agree false false f g = refl

pub same_swap : (a b : Interest) → same_interest a b ≡ same_interest b a
same_swap a b = agree (same_interest a b) (same_interest b a)
    (λ e. ap (λ (x : Interest). same_interest x a) (sym (same_interest_is a b e)) ∙ same_interest_refl a)
    (λ e. ap (λ (x : Interest). same_interest x b) (sym (same_interest_is b a e)) ∙ same_interest_refl b)

pub same_either : (a b : Interest) → same_watch (watch_of a) (watch_of b) ≡ same_interest a b
same_either a b = agree (same_watch (watch_of a) (watch_of b)) (same_interest a b)
    (λ e. ap (λ (w : Watch). same_interest a (interest_of w)) (sym (same_watch_is (watch_of a) (watch_of b) e)) ∙ same_interest_refl a)
    (λ e. ap (λ (x : Interest). same_watch (watch_of a) (watch_of x)) (sym (same_interest_is a b e)) ∙ same_watch_refl (watch_of a))

-- two interests are one where the clients and the objects are
pub same_parts : (a b : Interest) → same_interest a b ≡ ((a.client == b.client) && same_fid a.fid b.fid)
same_parts a b = agree (same_interest a b) ((a.client == b.client) && same_fid a.fid b.fid)
    (λ e. let one = same_interest_is a b e in
    and_from (a.client == b.client) (same_fid a.fid b.fid) (eq-eqb a.client b.client (ap (λ (x : Interest). x.client) one))
    (ap (λ (x : Interest). same_fid a.fid x.fid) (sym one) ∙ same_fid_refl a.fid))
    (λ e. let parts = and_parts (a.client == b.client) (same_fid a.fid b.fid) e in
    let one : a ≡ b = λ i. interest (eqb-true a.client b.client parts.0 i) (same_fid_is a.fid b.fid parts.1 i) in
    ap (λ (x : Interest). same_interest a x) (sym one) ∙ same_interest_refl a)
