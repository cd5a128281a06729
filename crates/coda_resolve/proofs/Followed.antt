-- A log that follows another.
use Rattle.std.proofs.Common.{◌≡◌, ℕ, ◌+◌, Bool, true, false, cond, not, Some, slice_get, List, [], ◌∷◌, ◌++◌, take, refl, sym, ap, ◌∙◌, append_assoc, map, ◌||◌}
use Rattle.std.specs.Prelude.{◌==◌}
use Rattle.std.specs.List.{list_any, filter, fold}
use Rattle.std.specs.BTreeSet.{BTreeSet}
use Rattle.std.proofs.lemmas.Bool.{true≢false, and_parts, eqb-true}
use Rattle.std.proofs.lemmas.List.{append-nil}
use Rattle.std.proofs.lemmas.List.Elements.{filter-append}
use Rattle.coda_reslog.specs.declared.entry.ResEntry.{ResEntry}
use Rattle.coda_reslog.specs.Rings.{last_entries}
use Rattle.coda_resolve.specs.declared.stamps.Stamp.{Stamp}
use Rattle.coda_resolve.specs.Copies.{Copies, log_of}
use Rattle.coda_resolve.specs.Merged.{stands_in, followed_by, log_of_copies}
use Rattle.coda_resolve.specs.Stamps.{is_stamped, AreStamps, HasLog}
use Rattle.coda_resolve.proofs.MergedNames.{any_append}
use Rattle.coda_resolve.proofs.Collected.{one_more}
use Rattle.coda_resolve.proofs.Stamped.{none_stamped}

-- whether an update is new
abbrev pub is_new_to : List ResEntry → ResEntry → Bool
is_new_to known u = not (stands_in known u)

-- ---- one update

pub known_already : (known updates ring : List ResEntry) (u : ResEntry) → stands_in known u ≡ true → ring ≡ last_entries updates → ring ≡ last_entries (updates ++ filter (is_new_to known) (u ∷ []))
known_already known updates ring u e is = is ∙ ap last_entries (sym (ap (λ b. updates ++ cond (not b) (u ∷ []) []) e ∙ append-nil updates))

pub new_one : (known updates ring : List ResEntry) (u : ResEntry) → stands_in known u ≡ false → ring ≡ last_entries (updates ++ u ∷ []) → ring ≡ last_entries (updates ++ filter (is_new_to known) (u ∷ []))
new_one known updates ring u e is = is ∙ ap last_entries (sym (ap (λ b. updates ++ cond (not b) (u ∷ []) []) e))

-- one entry of a log more
pub one_more_new : (known updates log : List ResEntry) (index : ℕ) (u : ResEntry) → Some u ≡ slice_get log index → (updates ++ filter (is_new_to known) (take index log)) ++ filter (is_new_to known) (u ∷ []) ≡ updates ++ filter (is_new_to known) (take (index + 1) log)
one_more_new known updates log index u at =
    append_assoc updates (filter (is_new_to known) (take index log)) (filter (is_new_to known) (u ∷ []))
    ∙ ap (λ more. updates ++ more) (sym (filter-append (is_new_to known) (take index log) (u ∷ [])) ∙ ap (filter (is_new_to known)) (sym (one_more log index u at)))

-- ---- a log

any_filter : (p t : ResEntry → Bool) (xs : List ResEntry) → ((u : ResEntry) → p u ≡ true → t u ≡ true) → list_any p (filter t xs) ≡ list_any p xs
any_filter p t [] h = refl
any_filter p t (u ∷ xs) h = by (t u) refl (p u) refl (any_filter p t xs h)
  where
    by : (b : Bool) → t u ≡ b → (a : Bool) → p u ≡ a → list_any p (filter t xs) ≡ list_any p xs → list_any p (cond b (u ∷ filter t xs) (filter t xs)) ≡ (p u || list_any p xs)
    by true f a e more = ap (λ b. p u || b) more
    by false f true e more = absurd (true≢false (sym (h u e) ∙ f))
    by false f false e more = more ∙ ap (λ b. b || list_any p xs) (sym e)

-- what is stamped in both lists is stamped in the one followed by the other
pub followed_stamped : (stamps : BTreeSet Stamp) (updates log : List ResEntry) → AreStamps stamps (updates ++ log) → AreStamps stamps (followed_by updates log)
followed_stamped stamps updates log are origin seq =
    are origin seq
    ∙ any_append (is_stamped origin seq) updates log
    ∙ by (list_any (is_stamped origin seq) updates) refl
    ∙ sym (any_append (is_stamped origin seq) updates (filter (is_new_to updates) log))
  where
    fresh : list_any (is_stamped origin seq) updates ≡ false → (u : ResEntry) → is_stamped origin seq u ≡ true → is_new_to updates u ≡ true
    fresh none u e =
        let p = and_parts (u.origin == origin) (u.seq == seq) e in
        let at = eqb-true u.origin origin p.0 in
        let nr = eqb-true u.seq seq p.1 in
        (λ i. not (list_any (is_stamped (at i) (nr i)) updates)) ∙ ap not none

    by : (b : Bool) → list_any (is_stamped origin seq) updates ≡ b → (b || list_any (is_stamped origin seq) log) ≡ (list_any (is_stamped origin seq) updates || list_any (is_stamped origin seq) (filter (is_new_to updates) log))
    by true e = ap (λ b. b || list_any (is_stamped origin seq) (filter (is_new_to updates) log)) (sym e)
    by false e = sym (any_filter (is_stamped origin seq) (is_new_to updates) log (fresh e)) ∙ ap (λ b. b || list_any (is_stamped origin seq) (filter (is_new_to updates) log)) (sym e)

-- ---- the logs of copies

pub follows_nothing : (updates : List ResEntry) → followed_by updates [] ≡ updates
follows_nothing updates = append-nil updates

all_new : (log : List ResEntry) → followed_by [] log ≡ log
all_new [] = refl
all_new (u ∷ log) = λ i. u ∷ all_new log i

pub whole_log : (copies : Copies) → last_entries (fold followed_by [] (map log_of copies)) ≡ log_of_copies copies
whole_log [] = refl
whole_log (copy ∷ copies) = ap (λ log. last_entries (fold followed_by log (map log_of copies))) (all_new (log_of copy))

pub starts_empty : (stamps : BTreeSet Stamp) (ring : List ResEntry) → stamps.keys ≡ [] → ring ≡ [] → HasLog stamps ring []
starts_empty stamps ring e is = record { stamped = none_stamped stamps e; last = is }
