-- What the code keeps of a tail.
use Rattle.std.specs.Prelude.{◌≡◌, IfSome}
use Rattle.coda_cancel.specs.declared.tail.Tail.TheInside.{Inside}
use Rattle.coda_cancel.specs.Mentions.{IsIndexOf}
use Rattle.coda_cancel.specs.Numbers.{IsRising}
use Rattle.coda_cancel.specs.Weights.{total_weight}

-- the index, where there is one, is that of the records, and their weight is kept
pub record IsKept (tail : Inside) : Type 0 where
  pub rising : IsRising tail.shelf.records
  pub indexed : IfSome tail.index (λ index. IsIndexOf index tail.shelf.records)
  pub weighed : tail.weight ≡ total_weight tail.shelf.records
