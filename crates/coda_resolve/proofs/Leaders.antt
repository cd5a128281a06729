-- The copies that lead are those that have each missing update.
use Rattle.std.proofs.Common.{◌≡◌, Bool, true, false, cond, not, List, [], ◌∷◌, Option, Some, None, refl, sym, ap, ◌∙◌, ◌||◌, inl, inr, ◌↔◌}
use Rattle.std.specs.List.{list_all, list_any, filter, flat_map}
use Rattle.std.proofs.lemmas.Bool.{true≢false, and_parts, and_from}
use Rattle.coda_reslog.specs.declared.entry.ResEntry.{ResEntry}
use Rattle.coda_reslog.specs.declared.change.Held.{Held}
use Rattle.coda_resolve.specs.Copies.{Copies, log_of}
use Rattle.coda_resolve.specs.Missing.{has_update, is_missing, missing, has_all_of, leads}
use Rattle.coda_resolve.specs.Merged.{is_attr, leading}
use Rattle.coda_resolve.specs.Placement.{IsIn}
use Rattle.coda_resolve.proofs.Lists.{both_ways}
use Rattle.coda_resolve.proofs.Logged.{any_in}

module _ {X : Type 0} (t : X → Bool) where
  pub all_at : (xs : List X) (x : X) → list_all t xs ≡ true → IsIn x xs → t x ≡ true
  all_at [] x e s = absurd s
  all_at (y ∷ ys) x e (inl is) = ap t (sym is) ∙ (and_parts (t y) (list_all t ys) e).0
  all_at (y ∷ ys) x e (inr s) = all_at ys x (and_parts (t y) (list_all t ys) e).1 s

  pub all_from : (xs : List X) → ((x : X) → IsIn x xs → t x ≡ true) → list_all t xs ≡ true
  all_from [] h = refl
  all_from (y ∷ ys) h = and_from (t y) (list_all t ys) (h y (inl refl)) (all_from ys (λ x s. h x (inr s)))

  pub filtered : (xs : List X) (x : X) → IsIn x (filter t xs) → t x ≡ true
  filtered [] x s = absurd s
  filtered (y ∷ ys) x s = go (t y) refl s (filtered ys x)
    where
      go : (b : Bool) → t y ≡ b → IsIn x (cond b (y ∷ filter t ys) (filter t ys)) → (IsIn x (filter t ys) → t x ≡ true) → t x ≡ true
      go true a (inl is) more = ap t (sym is) ∙ a
      go true a (inr s) more = more s
      go false a s more = more s

pub leaders_have_all : (kind : ResEntry → Bool) (copies : Copies) (copy : Option Held) → (leads kind copies copy ≡ true) ↔ ((u : ResEntry) → IsIn u (missing copies) → kind u ≡ true → has_update u copy ≡ true)
leaders_have_all kind copies copy = (to, from)
  where
    implied : (a b c : Bool) → (not a || (not b || c)) ≡ true → a ≡ true → b ≡ true → c ≡ true
    implied true true c e x y = e
    implied true false c e x y = absurd (true≢false (sym y))
    implied false b c e x y = absurd (true≢false (sym x))

    implies : (a b c : Bool) → (a ≡ true → c ≡ true) → (not a || (not b || c)) ≡ true
    implies true true c h = h refl
    implies true false c h = refl
    implies false b c h = refl

    to : leads kind copies copy ≡ true → (u : ResEntry) → IsIn u (missing copies) → kind u ≡ true → has_update u copy ≡ true
    to e u s k =
        let is = and_parts (list_any (has_update u) copies) (list_any (λ c. not (has_update u c)) copies) (filtered (is_missing copies) (flat_map log_of copies) u s) in
        let m = any_in (has_update u) copies is.0 in
        implied (kind u) (has_update u m.0) (has_update u copy) (all_at (λ v. not (kind v) || (not (has_update v m.0) || has_update v copy)) (missing copies) u (all_at (λ other. has_all_of kind copies other copy) copies m.0 e m.1.0) s) k m.1.1

    from : ((u : ResEntry) → IsIn u (missing copies) → kind u ≡ true → has_update u copy ≡ true) → leads kind copies copy ≡ true
    from h = all_from (λ other. has_all_of kind copies other copy) copies (λ other i. all_from (λ v. not (kind v) || (not (has_update v other) || has_update v copy)) (missing copies) (λ u s. implies (kind u) (has_update u other) (has_update u copy) (h u s)))

-- it leads just where it has each missing update of the kind
pub leads_all : (kind : ResEntry → Bool) (copies : Copies) (copy : Option Held) → leads kind copies copy ≡ list_all (λ u. not (kind u) || has_update u copy) (missing copies)
leads_all kind copies copy = both_ways (leads kind copies copy) (list_all (λ u. not (kind u) || has_update u copy) (missing copies))
    (λ e. all_from (λ u. not (kind u) || has_update u copy) (missing copies) (λ u s. either (kind u) (has_update u copy) ((leaders_have_all kind copies copy).0 e u s)))
    (λ e. (leaders_have_all kind copies copy).1 (λ u s k. one_of (kind u) (has_update u copy) (all_at (λ v. not (kind v) || has_update v copy) (missing copies) u e s) k))
  where
    either : (a b : Bool) → (a ≡ true → b ≡ true) → (not a || b) ≡ true
    either true b h = h refl
    either false b h = refl

    one_of : (a b : Bool) → (not a || b) ≡ true → a ≡ true → b ≡ true
    one_of true b e k = e
    one_of false b e k = absurd (true≢false (sym k))

-- whether the copy has each of the missing changes of attributes decides whether it leads
pub leading_when : (all : Copies) (held : Held) (updates : List ResEntry) (b : Bool) → updates ≡ missing all → b ≡ list_all (λ u. not (is_attr u) || has_update u (Some held)) updates → leading all (Some held) ≡ cond b (Some held) None
leading_when all held updates b is e = ap (λ t. cond t (Some held) None) (leads_all is_attr all (Some held) ∙ ap (list_all (λ u. not (is_attr u) || has_update u (Some held))) (sym is) ∙ sym e)
