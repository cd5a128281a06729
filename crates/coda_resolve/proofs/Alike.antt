-- Copies that are all the same.
use Rattle.std.proofs.Common.{◌≡◌, ℕ, ◌+◌, ◌-◌, Bool, true, false, cond, not, [], ◌∷◌, Option, Some, None, refl, sym, ap, ◌∙◌, arith, map, ◌&&◌, ◌||◌}
use Rattle.std.specs.List.{list_any, list_all, find, flat_map, range_with_len}
use Rattle.std.proofs.lemmas.Bool.{and_left, and_right}
use Rattle.coda_vv.specs.Vector.{count}
use Rattle.coda_reslog.specs.declared.entry.ResEntry.{ResEntry}
use Rattle.coda_reslog.specs.declared.change.Held.{Held}
use Rattle.coda_resolve.specs.Copies.{Copies, vector_of, log_of}
use Rattle.coda_resolve.specs.Missing.{has_update, is_missing, missing, fewest, most, wrapped, is_logged, has_all_of, leads, leader, servers}
use Rattle.coda_resolve.proofs.Lists.{filter_none, flat_none, same_max, same_min}

-- as many copies of this
abbrev pub alike : Held → Copies → Copies
alike held copies = map (λ copy. Some held) copies

module _ (held : Held) where
  pub any_alike : (t : Option Held → Bool) (copies : Copies) → t (Some held) ≡ false → list_any t (alike held copies) ≡ false
  any_alike t [] h = refl
  any_alike t (copy ∷ copies) h = ap (λ b. b || list_any t (alike held copies)) h ∙ any_alike t copies h

  pub all_alike : (t : Option Held → Bool) (copies : Copies) → t (Some held) ≡ true → list_all t (alike held copies) ≡ true
  all_alike t [] h = refl
  all_alike t (copy ∷ copies) h = ap (λ b. b && list_all t (alike held copies)) h ∙ all_alike t copies h

  pub not_missing : (copies : Copies) (u : ResEntry) → is_missing (alike held copies) u ≡ false
  not_missing copies u = go (has_update u (Some held)) refl
    where
      go : (b : Bool) → has_update u (Some held) ≡ b → is_missing (alike held copies) u ≡ false
      go true e = and_right (list_any (has_update u) (alike held copies)) (list_any (λ copy. not (has_update u copy)) (alike held copies)) (any_alike (λ copy. not (has_update u copy)) copies (ap not e))
      go false e = and_left (list_any (has_update u) (alike held copies)) (list_any (λ copy. not (has_update u copy)) (alike held copies)) (any_alike (has_update u) copies e)

  pub none_missing : (copies : Copies) → missing (alike held copies) ≡ []
  none_missing copies = filter_none (is_missing (alike held copies)) (flat_map log_of (alike held copies)) (not_missing copies)

  fewest_alike : (origin : ℕ) (copy : Option Held) (copies : Copies) → fewest origin (alike held (copy ∷ copies)) ≡ count (vector_of (Some held)) origin
  fewest_alike origin copy [] = refl
  fewest_alike origin copy (other ∷ copies) = same_min (count (vector_of (Some held)) origin) (fewest origin (alike held (other ∷ copies))) (sym (fewest_alike origin other copies))

  most_alike : (origin : ℕ) (copy : Option Held) (copies : Copies) → most origin (alike held (copy ∷ copies)) ≡ count (vector_of (Some held)) origin
  most_alike origin copy [] = omega arith
  most_alike origin copy (other ∷ copies) = same_max (count (vector_of (Some held)) origin) (most origin (alike held (other ∷ copies))) (sym (most_alike origin other copies))

  no_gap : (origin : ℕ) (copy : Option Held) (copies : Copies) → map {B = ℕ × ℕ} (λ seq. (origin, seq)) (range_with_len (fewest origin (alike held (copy ∷ copies)) + 1) (most origin (alike held (copy ∷ copies)) - fewest origin (alike held (copy ∷ copies)))) ≡ []
  no_gap origin copy copies = ap (λ n. map {B = ℕ × ℕ} (λ seq. (origin, seq)) (range_with_len (fewest origin (alike held (copy ∷ copies)) + 1) n)) (nothing (fewest_alike origin copy copies) (most_alike origin copy copies))
    where
      nothing : fewest origin (alike held (copy ∷ copies)) ≡ count (vector_of (Some held)) origin → most origin (alike held (copy ∷ copies)) ≡ count (vector_of (Some held)) origin → most origin (alike held (copy ∷ copies)) - fewest origin (alike held (copy ∷ copies)) ≡ 0
      nothing a b = omega arith

  pub not_wrapped : (copy : Option Held) (copies : Copies) → wrapped (alike held (copy ∷ copies)) ≡ None
  not_wrapped copy copies = ap (find (λ gap. not (is_logged (alike held (copy ∷ copies)) gap))) (flat_none (λ origin. map {B = ℕ × ℕ} (λ seq. (origin, seq)) (range_with_len (fewest origin (alike held (copy ∷ copies)) + 1) (most origin (alike held (copy ∷ copies)) - fewest origin (alike held (copy ∷ copies))))) servers (λ origin. no_gap origin copy copies))

  pub has_all_alike : (kind : ResEntry → Bool) (copies : Copies) (other copy : Option Held) → has_all_of kind (alike held copies) other copy ≡ true
  has_all_alike kind copies other copy = ap (list_all (λ u. not (kind u) || (not (has_update u other) || has_update u copy))) (none_missing copies)

  pub leads_alike : (kind : ResEntry → Bool) (copies : Copies) (copy : Option Held) → leads kind (alike held copies) copy ≡ true
  leads_alike kind copies copy = all_alike (λ other. has_all_of kind (alike held copies) other copy) copies (has_all_alike kind copies (Some held) copy)

  pub leader_alike : (kind : ResEntry → Bool) (copy : Option Held) (copies : Copies) → leader kind (alike held (copy ∷ copies)) ≡ Some (Some held)
  leader_alike kind copy copies = ap (λ b. cond b (Some (Some held)) (find (leads kind (alike held (copy ∷ copies))) (alike held copies))) (leads_alike kind (copy ∷ copies) (Some held))
