use Rattle.std.proofs.Common.{List, Option, sym, ap, ◌∙◌, rules}
use Rattle.std.specs.FinMap as map
use Rattle.std.specs.HashMap as hash
use Rattle.coda_fid.specs.Fid.{fid_cmp, same_fid}
use Rattle.coda_fid.specs.declared.fid.Fid.{Fid}
use Rattle.coda_tree.specs.declared.slot.Held.{Held}
use Rattle.coda_tree.specs.Slots.{Slots}
use Rattle.coda_tree.specs.Table.{or_else}
use Rattle.coda_tree.proofs.Keyed.{kept_at, or_none, copy_step, copied}
use Rattle.coda_tree.proofs.slots.copy_slots.Goals as goal

pub loop-fid-preserved : goal.loop-fid-preserved
loop-fid-preserved c =
    let fid = c.in-Some.fid.now in
    let step = copy_step (λ (q : Fid). hash.get same_fid c.args.slots.now q) c.loop-fid.copy c.put.new.self c.loop-fid.fid-iterator c.next.new.self fid c.in-Some.slot.now (search rules)
    (c.in_ok-put.ensures.ok ∙ ap (λ (slot : Option Held). map.insert c.loop-fid.copy fid slot) c.in_ok-slot.ensures) c.loop-fid.invariant.distinct c.loop-fid.invariant.same in
    record { distinct = step.0; same = step.1 }

pub loop-fid-init : goal.loop-fid-init
loop-fid-init c =
    let given = c.into_iter-fid-iterator.ensures.into_iter_gives in
    record {
      distinct = search rules;
      same = λ q. ap (λ (l : List (Fid × Option Held)). kept_at l q) (sym given.0)
          ∙ sym (ap (or_else (kept_at c.into_iter-fid-iterator.result q)) (ap (λ (s : Slots). map.get s q) c.new-copy.ensures ∙ map.get-empty fid_cmp q) ∙ or_none (kept_at c.into_iter-fid-iterator.result q));
    }

pub returns : goal.returns
returns c = copied c.args.slots.now.entries c.loop-fid.copy (λ q. c.loop-fid.invariant.same q ∙ ap (λ (l : List (Fid × Option Held)). or_else (kept_at l q) (map.get c.loop-fid.copy q)) c.in-None.ensures.steps.0)
