-- All copies are equal or marked after settling.
use Rattle.std.proofs.Common.{◌≡◌, ◌≢◌, true, [], ◌∷◌, Option, Some, None, refl, sym, map, inl, inr}
use Rattle.coda_fid.specs.declared.fid.Fid.{Fid}
use Rattle.coda_tree.specs.declared.node.NodeKind.{NodeKind}
use Rattle.coda_tree.specs.declared.node.NodeKind.TheVariants.{File, Link, Dir}
use Rattle.coda_reslog.specs.declared.change.Held.{Held}
use Rattle.coda_resolve.specs.declared.why.Why.{Why}
use Rattle.coda_resolve.specs.Copies.{Copies, is_marked, first_some}
use Rattle.coda_resolve.specs.Settling.{Fate, Same, Marked, Gone, fate, fate_from, settled, settled_copy, stand_in_by}
use Rattle.coda_resolve.specs.Settled.{IsEverywhere, IsMarkedEverywhere, IsEqualOrMarked}

-- a copy that stands in is marked
stand_in_marked : (held : Held) (kind : NodeKind) → is_marked (Some (stand_in_by held kind)) ≡ true
stand_in_marked held (File content) = refl
stand_in_marked held (Link target) = refl
stand_in_marked held (Dir entries) = refl

same_everywhere : (held : Held) (lowest : Option Held) (copies : Copies) → IsEverywhere held (map (settled_copy (Same held) lowest) copies)
same_everywhere held lowest [] = tt
same_everywhere held lowest (copy ∷ copies) = (refl, same_everywhere held lowest copies)

marked_copy : (why : Why) (held : Held) (copy : Option Held) → is_marked (settled_copy (Marked why) (Some held) copy) ≡ true
marked_copy why held None = stand_in_marked held held.node.kind
marked_copy why held (Some own) = refl

pub marked_everywhere : (why : Why) (held : Held) (copies : Copies) → IsMarkedEverywhere (map (settled_copy (Marked why) (Some held)) copies)
marked_everywhere why held [] = tt
marked_everywhere why held (copy ∷ copies) = (marked_copy why held copy, marked_everywhere why held copies)

by_fate : (copies : Copies) (look : Fid → Copies) (lowest : Option Held) (result : Fate) → fate_from copies look lowest ≡ result → result ≢ Gone → IsEqualOrMarked (map (settled_copy result lowest) copies)
by_fate copies look lowest (Same held) e there = inl (held, same_everywhere held lowest copies)
by_fate copies look None (Marked why) e there = absurd (there (sym e))
by_fate copies look (Some held) (Marked why) e there = inr (marked_everywhere why held copies)
by_fate copies look lowest Gone e there = absurd (there refl)

pub equal_or_marked : (copies : Copies) (look : Fid → Copies) → fate copies look ≢ Gone → IsEqualOrMarked (settled copies look)
equal_or_marked copies look there = by_fate copies look (first_some copies) (fate copies look) refl there
