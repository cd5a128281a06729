use Rattle.std.proofs.Common.{◌≡◌, ◌<◌, ◌+◌, cond, Option, is_some, sym, ap, ◌∙◌, subst, arith}
use Rattle.std.specs.FinMap as map
use Rattle.coda_tree.specs.declared.slot.Held.{Held}
use Rattle.coda_tree.specs.Slots.{Slots, keyed, nodes_in, held_in}
use Rattle.coda_tree.proofs.Keyed.{get_keyed, keyed_put}
use Rattle.coda_tree.proofs.SlotMap.{len_put, len_nodes_le, some_full, on_err, recounted_is}
use Rattle.coda_tree.proofs.slots.SlotTable.put.Goals as goal

pub returns-in_err-was-clause-absent : goal.returns-in_err-was-clause-absent
returns-in_err-was-clause-absent c =
    on_err c.from_residual.result _ (ap (λ (s : Slots). map.get s c.args.fid) (sym c.self.view_is) ∙ get_keyed c.self.inside.slots.entries c.args.fid ∙ c.in_err-was.ensures.absent)

pub recounted-self-inside-requires-clause-was : goal.recounted-self-inside-requires-clause-was
recounted-self-inside-requires-clause-was c full =
    let s = keyed c.self.inside.slots.entries in
    let at = get_keyed c.self.inside.slots.entries c.args.fid ∙ sym c.in_ok-was.ensures.old in
    subst (λ n. 0 < n) (sym c.self.invariant) (some_full s c.args.fid (ap (λ (o : Option (Option Held)). is_some (held_in o)) at ∙ sym c.is_full.ensures ∙ full))

pub recounted-self-inside-requires-clause-small : goal.recounted-self-inside-requires-clause-small
recounted-self-inside-requires-clause-small c =
    let at_most = len_nodes_le c.self.inside.slots.entries in
    let is = c.self.invariant in
    let small = c.len-slots.ensures.small in
    let count = c.len-slots.ensures.len in
    omega (arith, at_most, is, small, count)

pub invariant_of-self-2 : goal.invariant_of-self-2
invariant_of-self-2 c =
    let old = c.self.inside.slots.entries in
    let new = c.insert.new.self.entries in
    let s = keyed old in
    let is = keyed_put old new c.args.fid c.args.slot c.in_ok-was.ensures.updates.0 in
    let at = get_keyed old c.args.fid ∙ sym c.in_ok-was.ensures.old in
    let was : c.is_full.result ≡ is_some (held_in (map.get s c.args.fid)) = c.is_full.ensures ∙ ap (λ (o : Option (Option Held)). is_some (held_in o)) (sym at) in
    recounted_is c.recounted-self-inside.result c.self.inside.full (map.len (nodes_in (keyed new))) (map.len (nodes_in s)) (cond c.is_full.result 1 0) (cond c.is_some-is.result 1 0) c.recounted-self-inside.ensures c.self.invariant
    (ap (λ (t : Slots). map.len (nodes_in t) + cond c.is_full.result 1 0) is ∙ ap (λ b. map.len (nodes_in (map.insert s c.args.fid c.args.slot)) + cond b 1 0) was ∙ len_put s c.args.fid c.args.slot
    ∙ ap (λ b. map.len (nodes_in s) + cond b 1 0) (sym c.is_some-is.ensures))

pub returns-clause-ok : goal.returns-clause-ok
returns-clause-ok c = keyed_put c.self.inside.slots.entries c.insert.new.self.entries c.args.fid c.args.slot c.in_ok-was.ensures.updates.0 ∙ ap (λ (s : Slots). map.insert s c.args.fid c.args.slot) c.self.view_is

pub returns-clause-was : goal.returns-clause-was
returns-clause-was c = c.in_ok-was.ensures.old ∙ sym (get_keyed c.self.inside.slots.entries c.args.fid) ∙ ap (λ (s : Slots). map.get s c.args.fid) c.self.view_is
