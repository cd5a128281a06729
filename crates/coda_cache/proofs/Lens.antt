-- How many nodes are held after an operation.
use Rattle.std.proofs.Common.{◌≡◌, ◌+◌, ◌-◌, Bool, true, false, cond, ◌||◌, List, [], ◌∷◌, Option, Some, None, is_some, length, refl, sym, ap, ◌∙◌, inl, inr, arith}
use Rattle.std.specs.Prelude as prelude
use Rattle.std.specs.Ordering.{eq_by_cmp}
use Rattle.std.specs.FinMap as map
use Rattle.std.specs.FinMap.{find}
use Rattle.std.proofs.lemmas.Bool.{both_ways}
use Rattle.coda_fid.specs.declared.fid.Fid.{Fid}
use Rattle.coda_fid.specs.Fid.{fid_cmp, same_fid}
use Rattle.coda_fid.proofs.Fids.{fids_total, exact_fids, same_fid_refl}
use Rattle.coda_tree.specs.Slots.{altered, altered_at}
use Rattle.coda_tree.proofs.Order.{fid_cases, gone_else}
use Rattle.coda_walk.specs.Going.{is_listed}
use Rattle.coda_cache.specs.declared.hold.Hold.{Hold}
use Rattle.coda_cache.specs.State.{Holds}
use Rattle.coda_cache.specs.Steps.{each, made_dirty, under, taken_from, moved_in, all_dirty}
use Rattle.coda_cache.proofs.Summed.{AreFresh}

len_altered : (holds : Holds) (f : Fid) (change : Hold → Hold) → map.len (altered holds f change) ≡ map.len holds
len_altered holds f change = (elim (map.get holds f) as (λ o. map.get holds f ≡ o → map.len (altered_at o holds f change) ≡ map.len holds) [
  | None ↦ λ _. refl
  | Some hold ↦ λ is. map.len-insert fids_total holds f (change hold) ∙ ap (λ (o : Option Hold). cond (is_some o) (map.len holds) (map.len holds + 1)) is
]) refl

pub len_dirty : (holds : Holds) (fids : List Fid) → map.len (all_dirty holds fids) ≡ map.len holds
len_dirty holds [] = refl
len_dirty holds (f ∷ fids) = len_dirty (altered holds f made_dirty) fids ∙ len_altered holds f made_dirty

pub len_moved : (holds : Holds) (moved : Option (Fid × Fid)) → map.len (moved_in moved holds) ≡ map.len holds
len_moved holds None = refl
len_moved holds (Some p) = len_altered holds p.0 (under p.1)

-- ---- all holds changed

found_in : (change : Fid → Hold → Hold) (es : List (Fid × Hold)) (q : Fid) → is_some (find fid_cmp q (prelude.map (λ e. (e.0, change e.0 e.1)) es)) ≡ is_some (find fid_cmp q es)
found_in change [] q = refl
found_in change (e ∷ es) q = elim (eq_by_cmp fid_cmp q e.0) as (λ b. is_some (cond b (Some (change e.0 e.1)) (find fid_cmp q (prelude.map (λ e. (e.0, change e.0 e.1)) es))) ≡ is_some (cond b (Some e.1) (find fid_cmp q es))) [
  | true ↦ refl
  | false ↦ found_in change es q
]

abbrev entered : List (Fid × Hold) → Holds
entered es = map.from_entries es

len_entered : (change : Fid → Hold → Hold) (es : List (Fid × Hold)) → map.len (entered (prelude.map (λ e. (e.0, change e.0 e.1)) es)) ≡ map.len (entered es)
len_entered change [] = refl
len_entered change (e ∷ es) =
    let new = entered (prelude.map (λ e. (e.0, change e.0 e.1)) es) in
    let there : is_some (map.get new e.0) ≡ is_some (map.get (entered es) e.0) =
    ap (λ (o : Option Hold). is_some o) (map.get-from_entries fids_total (prelude.map (λ e. (e.0, change e.0 e.1)) es) e.0) ∙ found_in change es e.0
    ∙ sym (ap (λ (o : Option Hold). is_some o) (map.get-from_entries fids_total es e.0)) in
    map.len-insert fids_total new e.0 (change e.0 e.1)
    ∙ (λ i. cond (there i) (len_entered change es i) (len_entered change es i + 1))
    ∙ sym (map.len-insert fids_total (entered es) e.0 e.1)

pub len_each : (change : Fid → Hold → Hold) (holds : Holds) → map.len (each change holds) ≡ map.len holds
len_each change holds = len_entered change (map.entries holds)
    ∙ ap (λ (h : Holds). map.len h) (map.same_map fids_total exact_fids (entered (map.entries holds)) holds (λ q. map.get-from_entries fids_total (map.entries holds) q ∙ sym (map.get-entries holds q)))

-- ---- holds taken out

still_held : (holds : Holds) (f : Fid) (fids : List Fid) → is_listed fids f ≡ false → ((q : Fid) → is_listed (f ∷ fids) q ≡ true → is_some (map.get holds q) ≡ true) → (q : Fid) → is_listed fids q ≡ true → is_some (map.get (map.remove holds f) q) ≡ true
still_held holds f fids free all q listed = elim (fid_cases q f) [
  | inl at ↦ absurd (both_ways _ free (ap (is_listed fids) (sym at) ∙ listed))
  | inr apart ↦ ap (λ (o : Option Hold). is_some o) (gone_else fids_total exact_fids holds f q apart) ∙ all q (later (same_fid f q) listed)
]
  where
    later : (b : Bool) → is_listed fids q ≡ true → (b || is_listed fids q) ≡ true
    later true h = refl
    later false h = h

pub len_taken : (holds : Holds) (fids : List Fid) → AreFresh fids → ((q : Fid) → is_listed fids q ≡ true → is_some (map.get holds q) ≡ true) → map.len (taken_from holds fids) ≡ map.len holds - length fids
len_taken holds [] fresh all = omega arith
len_taken holds (f ∷ fids) fresh all =
    let rest = len_taken (map.remove holds f) fids fresh.1 (still_held holds f fids fresh.0 all) in
    let one = map.len-remove fids_total holds f ∙ ap (λ b. cond b (map.len holds - 1) (map.len holds)) (all f (ap (λ b. b || is_listed fids f) (same_fid_refl f))) in
    omega (arith, rest, one)
