use Rattle.std.proofs.Common.{◌≡◌, ◌<◌, ◌+◌, cond, Option, None, is_some, sym, ap, ◌∙◌, subst, arith}
use Rattle.std.specs.FinMap as map
use Rattle.coda_tree.specs.declared.slot.Held.{Held}
use Rattle.coda_tree.specs.Slots.{Slots, keyed, nodes_in, held_in, altered, slot_with}
use Rattle.coda_tree.proofs.Keyed.{get_keyed, keyed_altered}
use Rattle.coda_tree.proofs.SlotMap.{len_gone, len_nodes_le, nodes_vacated, some_full, recounted_is}
use Rattle.coda_tree.proofs.slots.SlotTable.vacate.Goals as goal

pub recounted-self-inside-requires-clause-was : goal.recounted-self-inside-requires-clause-was
recounted-self-inside-requires-clause-was c full =
    let s = keyed c.self.inside.slots.entries in
    let at = ap (λ (o : Option (Option Held)). held_in o) (get_keyed c.self.inside.slots.entries c.args.fid) ∙ sym c.vacate-held.ensures.held in
    subst (λ n. 0 < n) (sym c.self.invariant) (some_full s c.args.fid (ap (λ (o : Option Held). is_some o) at ∙ sym c.is_some.ensures ∙ full))

pub recounted-self-inside-requires-clause-small : goal.recounted-self-inside-requires-clause-small
recounted-self-inside-requires-clause-small c =
    let at_most = len_nodes_le c.self.inside.slots.entries in
    let is = c.self.invariant in
    let small = c.len-slots.ensures.small in
    let count = c.len-slots.ensures.len in
    omega (arith, at_most, is, small, count)

pub invariant_of-self : goal.invariant_of-self
invariant_of-self c =
    let old = c.self.inside.slots.entries in
    let new = c.vacate-held.new.slots.entries in
    let s = keyed old in
    let is = keyed_altered old new c.args.fid (slot_with None) c.vacate-held.ensures.empty in
    let at = ap (λ (o : Option (Option Held)). held_in o) (get_keyed old c.args.fid) ∙ sym c.vacate-held.ensures.held in
    let was : c.is_some.result ≡ is_some (held_in (map.get s c.args.fid)) = c.is_some.ensures ∙ ap (λ (o : Option Held). is_some o) (sym at) in
    recounted_is c.recounted-self-inside.result c.self.inside.full (map.len (nodes_in (keyed new))) (map.len (nodes_in s)) (cond c.is_some.result 1 0) 0 c.recounted-self-inside.ensures c.self.invariant
    (ap (λ b. map.len (nodes_in (keyed new)) + cond b 1 0) was ∙ len_gone s (keyed new) c.args.fid (ap (λ (t : Slots). nodes_in t) is ∙ nodes_vacated s c.args.fid))

pub returns-clause-held : goal.returns-clause-held
returns-clause-held c =
    c.vacate-held.ensures.held ∙ sym (ap (λ (o : Option (Option Held)). held_in o) (get_keyed c.self.inside.slots.entries c.args.fid)) ∙ ap (λ (s : Slots). held_in (map.get s c.args.fid)) c.self.view_is

pub returns-clause-empty : goal.returns-clause-empty
returns-clause-empty c =
    keyed_altered c.self.inside.slots.entries c.vacate-held.new.slots.entries c.args.fid (slot_with None) c.vacate-held.ensures.empty ∙ ap (λ (s : Slots). altered s c.args.fid (slot_with None)) c.self.view_is
