use Rattle.std.proofs.Common.{◌≡◌, ℕ, ◌+◌, ◌<◌, get_or}
use Rattle.std.specs.declared.cmp.Ordering.TheVariants.{Less}
use Rattle.coda_fid.specs.Fid.{fid_cmp}
use Rattle.coda_fid.specs.declared.fid.Fid.{Fid}
use Rattle.coda_reslog.specs.declared.change.Held.{Held}
use Rattle.coda_resolve.proofs.view.is_in_order.Given as goal

-- each object so far is below the next
abbrev pub invariant-loop-at : goal.invariant-loop-at
invariant-loop-at l = (j : ℕ) (d : Fid × Held) → j + 1 < l.at → fid_cmp (get_or l.items j d).0 (get_or l.items (j + 1) d).0 ≡ Less
