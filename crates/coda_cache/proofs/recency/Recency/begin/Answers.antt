use Rattle.std.proofs.Common.{◌≡◌, ◌<◌, false, List, ◌∷◌, length, take, OnOk, refl, sym, ap, ◌∙◌, subst, arith}
use Rattle.std.specs.Prelude.{ℕ, ◌-◌, Option, Result}
use Rattle.std.specs.Option.{option_map_or}
use Rattle.std.specs.declared.alloc.AllocError.{AllocError}
use Rattle.std.specs.Map.{remove_entry}
use Rattle.lru.specs.LruCache.{LruCache}
use Rattle.coda_fid.specs.declared.fid.Fid.{Fid}
use Rattle.coda_fid.specs.Fid.{same_fid}
use Rattle.coda_cache.specs.Uses.{latest, in_order}
use Rattle.coda_walk.specs.Going.{is_listed}
use Rattle.coda_cache.proofs.Uses.{same_turned, not_found, order_begun, take_enough}
use Rattle.coda_cache.proofs.recency.Recency.begin.Goals as goal
use Rattle.coda_cache.proofs.recency.Recency.begin.Goals.{in-Ok, in-Err}

-- a fid that is put in front of the entries, none of which is pushed out
put_first : (es after : List (Fid × Unit {0})) (cap : ℕ) (f : Fid) → cap ≡ 18446744073709551615 → length es < 9223372036854775808 → is_listed (in_order es) f ≡ false →
    after ≡ (f, tt) ∷ take (cap - 1) es → in_order after ≡ latest (in_order es) f
put_first es after cap f big few free is =
    ap in_order (is ∙ ap (λ l. (f, tt) ∷ l) (take_enough es (cap - 1) (omega (arith, big, few)))) ∙ order_begun (λ g. same_fid g f) f (λ g. refl) es free

pub returns-clause-ok : goal.returns-clause-ok
returns-clause-ok c = elim c.match-put.branch [
  | in-Ok w ↦
      let free = subst (λ (l : List Fid). is_listed l c.args.fid ≡ false) (sym c.self.view_is) c.requires in
      subst (λ (r : Result (Unit {0}) AllocError). OnOk r (in_order c.put.new.self.entries ≡ latest c.args.self.now c.args.fid)) (sym w.result-is)
      (put_first c.self.inside.used.entries c.put.new.self.entries c.self.inside.used.cap c.args.fid c.self.invariant (subst (λ (n : ℕ). n < 9223372036854775808) c.len-count.ensures.len c.len-count.ensures.fits) free
      (ap (λ (u : LruCache Fid (Unit {0})). u.entries) w.in-Ok.ensures.entries
      ∙ ap (λ (o : Option (Fid × Unit {0})). option_map_or (λ (e : Fid × Unit {0}). (e.0, tt {0}) ∷ remove_entry (λ x. same_fid c.args.fid x) c.self.inside.used.entries) o ((c.args.fid, tt {0}) ∷ take (c.self.inside.used.cap - 1) c.self.inside.used.entries))
      (not_found _ c.args.fid (λ g. same_turned c.args.fid g) c.self.inside.used.entries free))
      ∙ ap (λ (l : List Fid). latest l c.args.fid) c.self.view_is)
  | in-Err w ↦ subst (λ (r : Result (Unit {0}) AllocError). OnOk r (in_order c.put.new.self.entries ≡ latest c.args.self.now c.args.fid)) (sym w.result-is) tt
]
