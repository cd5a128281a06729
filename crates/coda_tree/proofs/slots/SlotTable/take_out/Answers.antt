use Rattle.std.proofs.Common.{◌≡◌, ◌<◌, ◌+◌, cond, Option, is_some, sym, ap, ◌∙◌, subst, arith}
use Rattle.std.specs.FinMap as map
use Rattle.coda_tree.specs.declared.slot.Held.{Held}
use Rattle.coda_tree.specs.Slots.{Slots, keyed, nodes_in, held_in}
use Rattle.coda_tree.proofs.Keyed.{get_keyed, keyed_taken_out}
use Rattle.coda_tree.proofs.SlotMap.{len_gone, len_nodes_le, nodes_removed, some_full, recounted_is}
use Rattle.coda_tree.proofs.slots.SlotTable.take_out.Goals as goal

pub recounted-self-inside-requires-clause-was : goal.recounted-self-inside-requires-clause-was
recounted-self-inside-requires-clause-was c full =
    let s = keyed c.self.inside.slots.entries in
    let at = get_keyed c.self.inside.slots.entries c.args.fid ∙ sym c.remove-was.ensures.value in
    subst (λ n. 0 < n) (sym c.self.invariant) (some_full s c.args.fid (ap (λ (o : Option (Option Held)). is_some (held_in o)) at ∙ sym c.is_full.ensures ∙ full))

pub recounted-self-inside-requires-clause-small : goal.recounted-self-inside-requires-clause-small
recounted-self-inside-requires-clause-small c =
    let at_most = len_nodes_le c.self.inside.slots.entries in
    let is = c.self.invariant in
    let small = c.len-slots.ensures.small in
    let count = c.len-slots.ensures.len in
    omega (arith, at_most, is, small, count)

pub invariant_of-self : goal.invariant_of-self
invariant_of-self c =
    let old = c.self.inside.slots.entries in
    let new = c.remove-was.new.self.entries in
    let s = keyed old in
    let is = keyed_taken_out old new c.args.fid c.remove-was.ensures.updates.0 in
    let at = get_keyed old c.args.fid ∙ sym c.remove-was.ensures.value in
    let was : c.is_full.result ≡ is_some (held_in (map.get s c.args.fid)) = c.is_full.ensures ∙ ap (λ (o : Option (Option Held)). is_some (held_in o)) (sym at) in
    recounted_is c.recounted-self-inside.result c.self.inside.full (map.len (nodes_in (keyed new))) (map.len (nodes_in s)) (cond c.is_full.result 1 0) 0 c.recounted-self-inside.ensures c.self.invariant
    (ap (λ b. map.len (nodes_in (keyed new)) + cond b 1 0) was ∙ len_gone s (keyed new) c.args.fid (ap (λ (t : Slots). nodes_in t) is ∙ nodes_removed s c.args.fid))

pub returns : goal.returns
returns c = keyed_taken_out c.self.inside.slots.entries c.remove-was.new.self.entries c.args.fid c.remove-was.ensures.updates.0 ∙ ap (λ (s : Slots). map.remove s c.args.fid) c.self.view_is
