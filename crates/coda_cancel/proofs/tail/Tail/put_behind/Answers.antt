use Rattle.std.proofs.Common.{◌≡◌, ◌++◌, sym, ap, ◌∙◌, subst, arith}
use Rattle.coda_cancel.specs.Numbers.{IsRising}
use Rattle.coda_cancel.specs.Mentions.{has, is_mentioned, Gains, IsIndexOf}
use Rattle.coda_cancel.specs.Weights.{total_weight}
use Rattle.coda_cancel.proofs.Sizes.{total-append}
use Rattle.coda_cancel.proofs.Turns.{rising_added}
use Rattle.coda_cancel.proofs.Parts.{both_indexed, rising_first}
use Rattle.coda_cancel.proofs.tail.Tail.put_behind.Goals as goal

pub of-requires-2 : goal.of-requires-2
of-requires-2 c = rising_first c.args.earlier.now.items c.args.self.now c.requires

pub add_each-self-inside-requires-clause-indexed : goal.add_each-self-inside-requires-clause-indexed
add_each-self-inside-requires-clause-indexed c =
    let later : c.into_records-later.result.items ≡ c.args.self.now = c.into_records-later.ensures.same ∙ ap (λ s. s.records) c.replace.ensures.value ∙ c.self.view_is in
    let all : c.args.earlier.now.items ++ c.args.self.now ≡ c.in_ok-shelf.shelf.records ++ c.into_records-later.result.items = λ i. sym c.in_ok-shelf.ensures.records i ++ sym later i in
    subst (IsIndexOf c.note_all.new.index) all
    (both_indexed c.in_ok-index.index c.note_all.new.index c.args.earlier.now.items c.args.self.now c.in_ok-index.ensures
    (subst (λ l. Gains (has c.in_ok-index.index) (has c.note_all.new.index) (is_mentioned l)) (c.of.ensures ∙ c.deref-2.ensures.value) c.in_ok-note_all.ensures))

pub add_each-self-inside-requires-clause-light : goal.add_each-self-inside-requires-clause-light
add_each-self-inside-requires-clause-light c =
    let later : c.into_records-later.result.items ≡ c.args.self.now = c.into_records-later.ensures.same ∙ ap (λ s. s.records) c.replace.ensures.value ∙ c.self.view_is in
    let both = total-append c.in_ok-shelf.shelf.records c.into_records-later.result.items in
    let one = ap total_weight (c.in_ok-shelf.ensures.records ∙ sym c.deref.ensures.value) in
    let two = ap total_weight later in
    omega (arith, both, one, two, c.in-Some.ensures.weight, c.in-Some.ensures.light)

pub invariant_of-self : goal.invariant_of-self
invariant_of-self c =
    let later : c.into_records-later.result.items ≡ c.args.self.now = c.into_records-later.ensures.same ∙ ap (λ s. s.records) c.replace.ensures.value ∙ c.self.view_is in
    record {
      rising = subst IsRising (sym c.add_each-self-inside.ensures.records) (rising_added c.in_ok-shelf.shelf.records c.into_records-later.result.items (subst IsRising (λ i. sym c.in_ok-shelf.ensures.records i ++ sym later i) c.requires));
      indexed = c.add_each-self-inside.ensures.indexed;
      weighed = c.add_each-self-inside.ensures.weight;
    }
