-- Items of which no object has two.
use Rattle.std.proofs.Common.{arith, ◌≡◌, ℕ, zero, suc, ◌<◌, false, cond, List, [], ◌∷◌, length, take, None, Some, slice_index_or, refl, ap, ◌∙◌}
use Rattle.std.specs.List.{AllByRecursion, IsDistinct}
use Rattle.coda_fid.specs.declared.fid.Fid.{Fid}
use Rattle.coda_fid.specs.Fid.{same_fid}
use Rattle.coda_walk.specs.declared.item.Item.{Item}
use Rattle.coda_walk.specs.Planning.{item_at, fids_of}

-- what holds of each fid holds of that of each item
each_at : (P : Fid → Type 0) (items : List Item) (i : ℕ) (d : Item) → i < length items → AllByRecursion P (fids_of items) → P (slice_index_or items i d).fid
each_at P [] i d less all = absurd (omega (arith, less))
each_at P (x ∷ items) zero d less all = all.0
each_at P (x ∷ items) (suc i) d less all = each_at P items i d (omega (arith, less)) all.1

-- an item's object has none before it
pub none_before : (items : List Item) (i : ℕ) (d : Item) → i < length items → IsDistinct same_fid (fids_of items) → item_at (take i items) (slice_index_or items i d).fid ≡ None
unfolding IsDistinct
none_before [] i d less once = absurd (omega (arith, less))
none_before (x ∷ items) zero d less once = refl
none_before (x ∷ items) (suc i) d less once =
    let apart : same_fid x.fid (slice_index_or items i d).fid ≡ false = each_at (λ f. same_fid x.fid f ≡ false) items i d (omega (arith, less)) once.0 in
    ap (λ b. cond b (Some x) (item_at (take i items) (slice_index_or items i d).fid)) apart ∙ none_before items i d (omega (arith, less)) once.1
