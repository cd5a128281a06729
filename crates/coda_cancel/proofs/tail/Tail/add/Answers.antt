use Rattle.std.proofs.Common.{◌≡◌, not, false, List, Option, Some, None, Result, Ok, Err, OnOk, OnErr, IfSome, is_some, sym, ap, ◌∙◌, subst}
use Rattle.std.proofs.lemmas.Bool.{true≢false}
use Rattle.coda_fid.specs.declared.op.Record.{Record}
use Rattle.coda_cancel.specs.Cancel.{add}
use Rattle.coda_cancel.specs.Numbers.{AreBelow, IsRising}
use Rattle.coda_cancel.proofs.Rising.{rising_add}
use Rattle.coda_cancel.proofs.tail.Tail.add.Goals as goal

-- whether it was added or not, the numbers rise
still_rising : {T E : Type 0} (r : Result T E) (new rs : List Record) (o : Record) → OnOk r (new ≡ add rs o) → OnErr r (new ≡ rs) → IsRising rs → AreBelow o.number rs → IsRising new
still_rising (Ok x) new rs o ok err rising below = subst IsRising (sym ok) (rising_add rs o rising below)
still_rising (Err e) new rs o ok err rising below = subst IsRising (sym err) rising

of_none : {T : Type 0} (P : T → Type 0) (o : Option T) → is_some o ≡ false → IfSome o P
of_none P (Some x) h = absurd (true≢false h)
of_none P None h = tt

pub invariant_of-self : goal.invariant_of-self
invariant_of-self c =
    let rs = c.self.inside.shelf.records in
    let below = subst (AreBelow c.args.rec.number) (sym c.self.view_is) c.requires in
    record {
      rising = still_rising c.add_bare.result c.add_bare.new.shelf.records rs c.args.rec c.add_bare.ensures.ok c.add_bare.ensures.err c.self.invariant.rising below;
      indexed = of_none _ c.self.inside.index (c.is_none.ensures ∙ ap not c.if-is_none.true);
      weighed = c.add_bare.ensures.weighed;
    }

pub invariant_of-self-2 : goal.invariant_of-self-2
invariant_of-self-2 c =
    let rs = c.self.inside.shelf.records in
    let below = subst (AreBelow c.args.rec.number) (sym c.self.view_is) c.requires in
    record {
      rising = still_rising c.add_indexed-added.result c.add_indexed-added.new.shelf.records rs c.args.rec c.add_indexed-added.ensures.ok c.add_indexed-added.ensures.err c.self.invariant.rising below;
      indexed = c.add_indexed-added.ensures.indexed;
      weighed = c.add_indexed-added.ensures.weighed;
    }
