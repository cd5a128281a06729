-- Which copies are from a server once some of them are no longer valid.
use Rattle.std.proofs.Common.{◌≡◌, ◌==◌, ℕ, zero, suc, ◌<◌, Bool, true, false, cond, ◌||◌, ◌&&◌, List, [], ◌∷◌, Option, Some, None, option_map, length, take, refl, sym, ap, ◌∙◌, inl, inr, arith}
use Rattle.std.specs.Prelude.{slice_index_or, if◌then◌else◌}
use Rattle.std.specs.Option.{IfSome, option_map_or}
use Rattle.std.specs.FinMap as map
use Rattle.std.specs.Cmp.{unsigned_tied}
use Rattle.std.proofs.lemmas.Bool.{both_ways, eqb-true}
use Rattle.std.proofs.lemmas.Option.{none-some}
use Rattle.coda_fid.specs.declared.fid.Fid.{Fid}
use Rattle.coda_fid.specs.Fid.{same_fid}
use Rattle.coda_fid.proofs.Fids.{fids_total, exact_fids, same_fid_refl}
use Rattle.coda_tree.specs.Slots.{altered}
use Rattle.coda_tree.proofs.Order.{fid_cases}
use Rattle.coda_tree.proofs.Keyed.{not_same, at_altered, off_altered}
use Rattle.coda_walk.specs.Going.{is_listed}
use Rattle.coda_cache.specs.declared.hold.Hold.{Hold}
use Rattle.coda_cache.specs.declared.sources.Sources.{Sources}
use Rattle.coda_cache.specs.State.{Holds, source_held}
use Rattle.coda_cache.specs.Steps.{each, not_valid, valid_but_from}
use Rattle.coda_cache.specs.Indexed.{AreCovered, same_server, is_kept_for, left_by}
use Rattle.coda_cache.proofs.Written.{get_each}

-- ---- servers

pub same_server_is : (s t : ℕ) → same_server s t ≡ true → s ≡ t
same_server_is s t e = eqb-true s t (sym (unsigned_tied s t) ∙ e)

-- ---- what is covered

pub covered_less : (s : Sources) (p q : Fid → Option ℕ) → ((f : Fid) (t : ℕ) → q f ≡ Some t → p f ≡ Some t) → AreCovered s p → AreCovered s q
covered_less s p q less h = (elim s.servers as (λ o. IfSome o (λ servers. (f : Fid) (t : ℕ) → p f ≡ Some t → is_kept_for servers t f ≡ true) → IfSome o (λ servers. (f : Fid) (t : ℕ) → q f ≡ Some t → is_kept_for servers t f ≡ true)) [
  | None ↦ λ h. h
  | Some servers ↦ λ h f t e. h f t (less f t e)
]) h

pub covered_same : (s : Sources) (p q : Fid → Option ℕ) → ((f : Fid) → q f ≡ p f) → AreCovered s p → AreCovered s q
covered_same s p q same h = covered_less s p q (λ f t e. sym (same f) ∙ e) h

-- one copy less
pub covered_without : (s : Sources) (p : Fid → Option ℕ) (f : Fid) → AreCovered s p → AreCovered s (λ g. cond (same_fid f g) None (p g))
covered_without s p f h = covered_less s p _ (λ g t e. left (same_fid f g) (p g) t e) h
  where
    left : (b : Bool) (o : Option ℕ) (t : ℕ) → cond b None o ≡ Some t → o ≡ Some t
    left true o t e = absurd (none-some t e)
    left false o t e = e

-- ---- holds

-- one more is left
pub more_left_by : (volume server : ℕ) (holds : Holds) (fids : List Fid) (i : ℕ) (d : Fid) → i < length fids →
    left_by volume server holds (take (suc i) fids) ≡ altered (left_by volume server holds (take i fids)) (slice_index_or fids i d) (valid_but_from volume server (slice_index_or fids i d))
more_left_by volume server holds [] i d h = absurd (omega (arith, h))
more_left_by volume server holds (f ∷ fids) zero d h = refl
more_left_by volume server holds (f ∷ fids) (suc i) d h = more_left_by volume server (altered holds f (valid_but_from volume server f)) fids i d (omega (arith, h))

-- a hold where one is left
one_left : (volume server : ℕ) (holds : Holds) (f q : Fid) →
    map.get (altered holds f (valid_but_from volume server f)) q ≡ cond (same_fid f q) (option_map (valid_but_from volume server q) (map.get holds q)) (map.get holds q)
one_left volume server holds f q = elim (fid_cases q f) [
  | inl at ↦
      ap (map.get (altered holds f (valid_but_from volume server f))) at ∙ at_altered holds f (valid_but_from volume server f) ∙ ap (λ x. option_map (valid_but_from volume server x) (map.get holds x)) (sym at)
      ∙ sym (ap (λ b. cond b (option_map (valid_but_from volume server q) (map.get holds q)) (map.get holds q)) (ap (same_fid f) at ∙ same_fid_refl f))
  | inr apart ↦
      off_altered holds f (valid_but_from volume server f) q apart
      ∙ sym (ap (λ b. cond b (option_map (valid_but_from volume server q) (map.get holds q)) (map.get holds q)) (not_same f q (λ at. apart (sym at))))
]

left_twice : (volume server : ℕ) (q : Fid) (hold : Hold) → valid_but_from volume server q (valid_but_from volume server q hold) ≡ valid_but_from volume server q hold
left_twice volume server q hold = go ((q.volume == volume) && option_map_or (λ s. s == server) hold.from false) refl
  where
    none : (b : Bool) → (b && false) ≡ false
    none true = refl
    none false = refl

    go : (b : Bool) → ((q.volume == volume) && option_map_or (λ s. s == server) hold.from false) ≡ b →
        valid_but_from volume server q (if b then not_valid hold else hold) ≡ (if b then not_valid hold else hold)
    go true e = ap (λ b. if b then not_valid (not_valid hold) else not_valid hold) (none (q.volume == volume))
    go false e = ap (λ b. if b then not_valid hold else hold) e

-- a hold where some are left
some_left : (volume server : ℕ) (holds : Holds) (fids : List Fid) (q : Fid) →
    map.get (left_by volume server holds fids) q ≡ cond (is_listed fids q) (option_map (valid_but_from volume server q) (map.get holds q)) (map.get holds q)
some_left volume server holds [] q = refl
some_left volume server holds (f ∷ fids) q =
    some_left volume server (altered holds f (valid_but_from volume server f)) fids q
    ∙ ap (λ o. cond (is_listed fids q) (option_map (valid_but_from volume server q) o) o) (one_left volume server holds f q)
    ∙ twice (same_fid f q) (is_listed fids q) (map.get holds q)
  where
    again : (o : Option Hold) → option_map (valid_but_from volume server q) (option_map (valid_but_from volume server q) o) ≡ option_map (valid_but_from volume server q) o
    again None = refl
    again (Some hold) = ap (λ h. Some h) (left_twice volume server q hold)

    twice : (e l : Bool) (o : Option Hold) →
        cond l (option_map (valid_but_from volume server q) (cond e (option_map (valid_but_from volume server q) o) o)) (cond e (option_map (valid_but_from volume server q) o) o) ≡ cond (e || l) (option_map (valid_but_from volume server q) o) o
    twice true true o = again o
    twice true false o = refl
    twice false true o = refl
    twice false false o = refl

-- a hold of another volume, or not from the server, stays as it is
stays_valid : (volume server : ℕ) (q : Fid) (o : Option Hold) → ((q.volume == volume) ≡ true → source_held o ≡ Some server → false ≡ true) → o ≡ option_map (valid_but_from volume server q) o
stays_valid volume server q None h = refl
stays_valid volume server q (Some hold) h = ap (λ b. Some (if b then not_valid hold else hold)) (sym (other (q.volume == volume) hold.from h))
  where
    other : (b : Bool) (from : Option ℕ) → (b ≡ true → from ≡ Some server → false ≡ true) → (b && option_map_or (λ s. s == server) from false) ≡ false
    other true None h = refl
    other true (Some s) h = (elim (s == server) as (λ x. (s == server) ≡ x → x ≡ false) [
      | true ↦ λ e. absurd (both_ways _ refl (h refl (ap (λ n. Some n) (eqb-true s server e))))
      | false ↦ λ _. refl
    ]) refl
    other false from h = refl

-- none of the volume is from the server then
pub left_holds : (volume server : ℕ) (holds : Holds) (fids : List Fid) → ((f : Fid) → (f.volume == volume) ≡ true → source_held (map.get holds f) ≡ Some server → is_listed fids f ≡ true) →
    left_by volume server holds fids ≡ each (valid_but_from volume server) holds
left_holds volume server holds fids all = map.same_map fids_total exact_fids _ _ (λ q.
    some_left volume server holds fids q
    ∙ (elim (is_listed fids q) as (λ l. ((q.volume == volume) ≡ true → source_held (map.get holds q) ≡ Some server → l ≡ true) → cond l (option_map (valid_but_from volume server q) (map.get holds q)) (map.get holds q) ≡ option_map (valid_but_from volume server q) (map.get holds q)) [
      | true ↦ λ _. refl
      | false ↦ λ h. stays_valid volume server q (map.get holds q) h
    ]) (all q)
    ∙ sym (get_each (valid_but_from volume server) holds q))
