-- The last decision of a client, put over another and put back.
use Rattle.std.proofs.Common.{◌≡◌, ◌≢◌, ℕ, Option, Some, None, Result, Ok, Err, OnOk, OnErr, sym, ap, ◌∙◌, inl, inr}
use Rattle.std.specs.Ordering.{nat_cmp}
use Rattle.std.specs.Cmp.{nat_cmp_total}
use Rattle.std.specs.FinMap as map
use Rattle.std.specs.FinMap.{nat_cmp-IsAntisymmetric}
use Rattle.coda_record.specs.declared.last.Last.{Last}
use Rattle.coda_tree.proofs.Order.{cases_by, get_here, get_else, insert_removed}
use Rattle.coda_replica.specs.State.{Lasts, put_back}

-- a client's last decision is there once it was put
pub put_there : (lasts : Lasts) (client : ℕ) (a : Last) → map.get (map.insert lasts client a) client ≡ Some a
put_there lasts client a = get_here nat_cmp_total lasts client a

-- and those of others are as they were
pub put_elsewhere : (lasts : Lasts) (client : ℕ) (a : Last) (q : ℕ) → q ≢ client → map.get (map.insert lasts client a) q ≡ map.get lasts q
put_elsewhere lasts client a q other = get_else nat_cmp_total nat_cmp-IsAntisymmetric lasts client a q other

-- a last decision put over another one
pub put_over : (lasts : Lasts) (client : ℕ) (a b : Last) → map.insert (map.insert lasts client a) client b ≡ map.insert lasts client b
put_over lasts client a b = map.same_map nat_cmp_total nat_cmp-IsAntisymmetric _ _ (λ q. elim (cases_by nat_cmp_total nat_cmp-IsAntisymmetric q client) [
  | inl same ↦ ap (map.get (map.insert (map.insert lasts client a) client b)) same ∙ put_there (map.insert lasts client a) client b ∙ sym (ap (map.get (map.insert lasts client b)) same ∙ put_there lasts client b)
  | inr other ↦ put_elsewhere (map.insert lasts client a) client b q other ∙ put_elsewhere lasts client a q other ∙ sym (put_elsewhere lasts client b q other)
])

-- what was there, put back over another one
pub put_back_was : (lasts : Lasts) (client : ℕ) (a : Last) (was : Option Last) → was ≡ map.get lasts client → put_back (map.insert lasts client a) client was ≡ lasts
put_back_was lasts client a None is = insert_removed nat_cmp_total nat_cmp-IsAntisymmetric lasts client a (sym is)
put_back_was lasts client a (Some last) is = map.same_map nat_cmp_total nat_cmp-IsAntisymmetric _ _ (λ q. elim (cases_by nat_cmp_total nat_cmp-IsAntisymmetric q client) [
  | inl same ↦ ap (map.get (map.insert (map.insert lasts client a) client last)) same ∙ put_there (map.insert lasts client a) client last ∙ is ∙ sym (ap (map.get lasts) same)
  | inr other ↦ put_elsewhere (map.insert lasts client a) client last q other ∙ put_elsewhere lasts client a q other
])

-- what holds on success, where a failure can't be
pub surely : {A E : Type 0} (r : Result A E) (P Q : Type 0) → OnOk r P → OnErr r Q → (Q → ⊥) → P
surely (Ok a) P Q ok err cannot = ok
surely (Err e) P Q ok err cannot = absurd (cannot err)
