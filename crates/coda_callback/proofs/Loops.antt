-- Steps of the loops over interests, on who is in a set.
use Rattle.std.proofs.Common.{◌≡◌, ℕ, ◌<◌, ◌+◌, Bool, true, false, not, cond, ◌&&◌, ◌||◌, ◌==◌, List, length, take, drop, get_or, inl, inr, ◌⊎◌, Result, Ok, Err, refl, ap, sym, ◌∙◌}
use Rattle.std.specs.Result.{OnErr}
use Rattle.std.specs.BTreeSet as sorted
use Rattle.std.specs.BTreeSet.{BTreeSet}
use Rattle.std.proofs.lemmas.Bool.{and_right, or_right, eq-eqb, both_ways, eqb-true}
use Rattle.std.proofs.lemmas.List.{take-append-drop}
use Rattle.std.proofs.lemmas.List.Folds.{list_any-append, list_any_more}
use Rattle.coda_fid.specs.declared.fid.Fid.{Fid}
use Rattle.coda_callback.specs.declared.interest.Interest.{Interest}
use Rattle.coda_callback.specs.declared.interest.Watch.{Watch}
use Rattle.coda_callback.specs.Callbacks.{interest}
use Rattle.coda_callback.specs.Kept.{watch_cmp, watch_of, is_watched, is_among, IsAmong, GainsOne, LosesOne, LosesClient, Gains, GainsSome, Loses, IsSame}
use Rattle.coda_callback.proofs.Interests.{same_interest, same_interest_is, same_swap, same_either}

abbrev In : Type 0
In = Interest → Bool

-- ---- one interest

pub watch_gained : (s n : BTreeSet Watch) (i : Interest) → sorted.Updates watch_cmp s n (watch_of i) true → GainsOne (is_watched s) (is_watched n) i
watch_gained s n i updates q = updates.0 (watch_of q) ∙ ap (λ b. cond b true (is_watched s q)) (same_either i q)

pub watch_lost : (s n : BTreeSet Watch) (i : Interest) → sorted.Updates watch_cmp s n (watch_of i) false → LosesOne (is_watched s) (is_watched n) i
watch_lost s n i updates q = updates.0 (watch_of q) ∙ ap (λ b. cond b false (is_watched s q)) (same_either i q)

-- what was there, or was put into both, is in both
pub both_gained : (p w p' w' : In) (i : Interest) → IsSame w p → GainsOne p p' i → GainsOne w w' i → IsSame w' p'
both_gained p w p' w' i same gains watches q = watches q ∙ ap (cond (same_interest i q) true) (same q) ∙ sym (gains q)

pub both_lost : (p w p' w' : In) (i : Interest) → IsSame w p → LosesOne p p' i → LosesOne w w' i → IsSame w' p'
both_lost p w p' w' i same loses watches q = watches q ∙ ap (cond (same_interest i q) false) (same q) ∙ sym (loses q)

-- what is there already is put in by leaving all as it is
pub gained_none : (p p' : In) (i : Interest) → p i ≡ true → GainsOne p p' i → IsSame p' p
gained_none p p' i is gains q =
    gains q ∙ elim (same_interest i q) as (λ b. same_interest i q ≡ b → cond b true (p q) ≡ p q) [
      | true ↦ λ e. sym (ap p (sym (same_interest_is i q e)) ∙ is)
      | false ↦ λ _. refl
    ] refl

-- what was put in is taken out again
pub gained_lost : (p p' p'' : In) (i : Interest) → p i ≡ false → GainsOne p p' i → LosesOne p' p'' i → IsSame p'' p
gained_lost p p' p'' i new gains loses q =
    loses q ∙ elim (same_interest i q) as (λ b. same_interest i q ≡ b → p' q ≡ cond b true (p q) → cond b false (p' q) ≡ p q) [
      | true ↦ λ e _. sym (ap p (sym (same_interest_is i q e)) ∙ new)
      | false ↦ λ _ was. was
    ] refl (gains q)

-- ---- a client

-- one more of the client was taken out
pub client_less : (old s n : In) (client : ℕ) (i : Interest) → i.client ≡ client → LosesOne s n i
    → ((q : Interest) → (q.client == client) ≡ false → s q ≡ old q) → (q : Interest) → (q.client == client) ≡ false → n q ≡ old q
client_less old s n client i mine loses so q far =
    loses q ∙ elim (same_interest i q) as (λ b. same_interest i q ≡ b → cond b false (s q) ≡ old q) [
      | true ↦ λ e. absurd (both_ways (q.client == client) far (eq-eqb q.client client (ap (λ (x : Interest). x.client) (sym (same_interest_is i q e)) ∙ mine)))
      | false ↦ λ _. so q far
    ] refl

-- what is left was there
pub lost_was : (s n : In) (i : Interest) → LosesOne s n i → (q : Interest) → n q ≡ true → s q ≡ true
lost_was s n i loses q is =
    elim (same_interest i q) as (λ b. cond b false (s q) ≡ true → s q ≡ true) [
      | true ↦ λ h. absurd cc
      | false ↦ λ h. h
    ] (sym (loses q) ∙ is)

and_all : (b : Bool) → (b && true) ≡ b
and_all true = refl
and_all false = refl

-- none of the client is left
pub client_gone : (old n : In) (client : ℕ) → ((q : Interest) → (q.client == client) ≡ false → n q ≡ old q) → ((fid : Fid) → n (interest client fid) ≡ false) → LosesClient old n client
client_gone old n client kept gone q =
    elim (q.client == client) as (λ b. (q.client == client) ≡ b → n q ≡ (old q && not b)) [
      | true ↦ λ e. ap n (λ j. interest (eqb-true q.client client e j) q.fid) ∙ gone q.fid ∙ sym (and_right (old q) false refl)
      | false ↦ λ e. kept q e ∙ sym (and_all (old q))
    ] refl

-- ---- several

bool_lost : (b o m : Bool) → cond b false (o && not m) ≡ (o && not (m || b))
bool_lost true true true = refl
bool_lost true true false = refl
bool_lost true false m = refl
bool_lost false true true = refl
bool_lost false true false = refl
bool_lost false false m = refl

bool_gained : (b o m : Bool) → cond b true (o || m) ≡ (o || (m || b))
bool_gained true true m = refl
bool_gained true false true = refl
bool_gained true false false = refl
bool_gained false true m = refl
bool_gained false false true = refl
bool_gained false false false = refl

-- one more was taken out
pub lost_more : (old s n : In) (moved : List Interest) (at : ℕ) (k : Interest) → at < length moved → LosesOne s n (get_or moved at k) → Loses old s (take at moved) → Loses old n (take (at + 1) moved)
lost_more old s n moved at k lt loses so q =
    let x = get_or moved at k in
    loses q ∙ ap (cond (same_interest x q) false) (so q) ∙ bool_lost (same_interest x q) (old q) (is_among (take at moved) q)
    ∙ ap (λ b. old q && not (is_among (take at moved) q || b)) (same_swap x q) ∙ ap (λ b. old q && not b) (sym (list_any_more (same_interest q) moved at k lt))

-- one more was put in
pub gained_more : (old s n : In) (moved : List Interest) (at : ℕ) (k : Interest) → at < length moved → GainsOne s n (get_or moved at k) → Gains old s (take at moved) → Gains old n (take (at + 1) moved)
gained_more old s n moved at k lt gains so q =
    let x = get_or moved at k in
    gains q ∙ ap (cond (same_interest x q) true) (so q) ∙ bool_gained (same_interest x q) (old q) (is_among (take at moved) q)
    ∙ ap (λ b. old q || (is_among (take at moved) q || b)) (same_swap x q) ∙ ap (λ b. old q || b) (sym (list_any_more (same_interest q) moved at k lt))

among_front : (moved : List Interest) (at : ℕ) (q : Interest) → is_among (take at moved) q ≡ true → is_among moved q ≡ true
among_front moved at q h =
    ap (λ (l : List Interest). is_among l q) (sym (take-append-drop at moved)) ∙ list_any-append (same_interest q) (take at moved) (drop at moved) ∙ ap (λ b. b || is_among (drop at moved) q) h

or_neither : (b : Bool) → (b || false) ≡ b
or_neither true = refl
or_neither false = refl

-- some were put in before memory was wanted
pub gained_some : (old s n : In) (moved : List Interest) (at : ℕ) → IsSame n s → Gains old s (take at moved) → GainsSome old n moved
gained_some old s n moved at same so q =
    elim (is_among (take at moved) q) as (λ b. is_among (take at moved) q ≡ b → n q ≡ (old q || b) → (n q ≡ old q) ⊎ ((n q ≡ true) × IsAmong moved q)) [
      | true ↦ λ e is. inr (is ∙ or_right (old q) true refl, among_front moved at q e)
      | false ↦ λ _ is. inl (is ∙ or_neither (old q))
    ] refl (same q ∙ so q)

-- what was put in is taken out again
pub undone : (old s n : In) (moved : List Interest) → ((q : Interest) → IsAmong moved q → old q ≡ false) → GainsSome old s moved → Loses s n moved → IsSame n old
undone old s n moved fresh some loses q =
    elim (is_among moved q) as (λ b. is_among moved q ≡ b → n q ≡ old q) [
      | true ↦ λ e. loses q ∙ and_right (s q) (not (is_among moved q)) (ap not e) ∙ sym (fresh q e)
      | false ↦ λ e. loses q ∙ ap (λ b. s q && not b) e ∙ and_all (s q) ∙ elim (some q) [
        | inl same ↦ same
        | inr put ↦ absurd (both_ways (is_among moved q) e put.1)
      ]
    ] refl

-- a fact holds at an error
pub at_error : {T E : Type 0} {P : Type 0} (r : Result T E) → P → OnErr r P
at_error (Ok x) p = tt
at_error (Err e) p = p
