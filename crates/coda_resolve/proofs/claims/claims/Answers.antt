use Rattle.std.proofs.Common.{List, [], ◌∷◌, ◌++◌, take, map, option_copied, sym, ap, ◌∙◌, subst}
use Rattle.std.proofs.lemmas.List.{map-append}
use Rattle.std.specs.List.{AllByRecursion}
use Rattle.coda_resolve.specs.Claims.{AreLacking, AreClaims, copy_of, copies_of}
use Rattle.coda_resolve.specs.Lent.{lent}
use Rattle.coda_resolve.specs.declared.claims.Claim.{Claim}
use Rattle.coda_resolve.proofs.Renewing.{front_of}
use Rattle.coda_resolve.proofs.claims.claims.Goals as goal

-- one more that a property holds of
all_more : (P : Claim → Type 0) (claims : List Claim) (claim : Claim) → AllByRecursion P claims → P claim → AllByRecursion P (claims ++ claim ∷ [])
all_more P [] claim all it = (it, tt)
all_more P (c ∷ claims) claim all it = (all.0, all_more P claims claim all.1 it)

pub loop-copy-preserved : goal.loop-copy-preserved
loop-copy-preserved c =
    let i = c.loop-copy.copy-index in
    let copies = c.args.copies.now in
    let x = c.copy-item.result in
    let claim = c.in_ok-claim.claim in
    let front = front_of copies i x c.loop-copy-test.true c.copy-item.is in
    let items = c.in_ok-push.ensures.items in
    let same = c.in_ok-claim.ensures.same in
    record {
      same = ap copies_of items ∙ map-append copy_of c.loop-copy.claims.items (claim ∷ []) ∙ (λ j. c.loop-copy.invariant.same j ++ same j ∷ []) ∙ sym (map-append option_copied (take i copies) (x ∷ [])) ∙ sym (ap (map option_copied) front);
      lacking = subst (AreClaims (lent c.args.updates.now)) (sym items) (all_more _ c.loop-copy.claims.items claim c.loop-copy.invariant.lacking (subst (λ copy. AreLacking (lent c.args.updates.now) copy claim.lacking) (sym same) c.in_ok-claim.ensures.lacking));
    }
