use Rattle.std.proofs.Common.{◌≡◌, ◌∙◌, ap, sym, subst, arith, length}
use Rattle.std.specs.Option.{IfSome}
use Rattle.coda_cancel.specs.Numbers.{IsRising}
use Rattle.coda_cancel.specs.Shelved.{Shelved, is_numbered}
use Rattle.coda_cancel.specs.declared.shelf.Slot.TheVariants.{Kept}
use Rattle.coda_cancel.proofs.Places.{IsPlaceOf, found_here, found_kept, kept_in_rises, fewer_kept}
use Rattle.coda_cancel.proofs.shelf.Shelf.at.Goals as goal

pub record-requires : goal.record-requires
record-requires c =
    let place = subst (λ l. IsPlaceOf l c.args.number c.position.result) c.deref.ensures.value c.position.ensures.place in
    found_kept c.self.inside.slots.items c.args.number c.position.result place c.index.result.now (ap (λ (s : Shelved). is_numbered c.args.number s.records) c.self.view_is ∙ c.requires) c.index.ensures

pub returns-clause-record : goal.returns-clause-record
returns-clause-record c front rec back e is =
    let place = subst (λ l. IsPlaceOf l c.args.number c.position.result) c.deref.ensures.value c.position.ensures.place in
    let here = found_here c.self.inside.slots.items c.args.number c.position.result place front rec back c.index.result.now (ap (λ (s : Shelved). s.records) c.self.view_is ∙ e) is c.index.ensures in
    let got = subst (λ o. IfSome o (λ rec. c.index.result.now ≡ Kept rec.now)) c.unwrap.ensures c.record.ensures.«record» in
    let same : Kept c.unwrap.result.now ≡ Kept rec = sym got ∙ here in
    cc

pub returns-clause-rising : goal.returns-clause-rising
returns-clause-rising c = subst (λ (s : Shelved). IsRising s.records) c.self.view_is (kept_in_rises c.self.inside.slots.items c.self.invariant.rising)

pub returns-clause-few : goal.returns-clause-few
returns-clause-few c =
    let few = fewer_kept c.self.inside.slots.items in
    let same = ap (λ (s : Shelved). length s.records) c.self.view_is in
    let small = c.self.inside.slots.small in
    omega (arith, few, same, small)
