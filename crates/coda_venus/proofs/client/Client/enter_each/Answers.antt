use Rattle.std.proofs.Common.{rules, ◌≡◌, List, ◌∷◌, sym, subst, ◌∙◌}
use Rattle.std.proofs.lemmas.List.{nil_from_length}
use Rattle.std.specs.Prelude.{Err}
use Rattle.coda_record.specs.declared.entry.ClientEntry.{ClientEntry}
use Rattle.coda_venus.specs.declared.recovery.Unfit.TheVariants.{Misfit}
use Rattle.coda_venus.proofs.Taking.{Took, took_none, took_one, took_all, took_misfit}
use Rattle.coda_venus.proofs.client.Client.enter_each.Goals as goal

pub loop-entry-init : goal.loop-entry-init
loop-entry-init c = λ s is.
    let all = c.args.entries.items in
    let same : c.into_iter-entry-iterator.result.rest.items ≡ all = search rules in
    subst (λ (rest : List ClientEntry). Took s all c.args.self.now rest) (sym same) (took_none s all c.args.self.now is)

pub loop-entry-preserved : goal.loop-entry-preserved
loop-entry-preserved c = λ s is.
    let all = c.args.entries.items in
    let steps : c.loop-entry.entry-iterator.rest.items ≡ c.in-Some.entry ∷ c.next.new.self.rest.items = search rules in
    let t = subst (λ (rest : List ClientEntry). Took s all c.loop-entry.self rest) steps (c.loop-entry.invariant s is) in
    took_one s all c.loop-entry.self c.enter.new.self c.in-Some.entry c.next.new.self.rest.items t (c.in_ok-enter.ensures.ok t.state t.is) (c.in_ok-enter.ensures.leaves t.state t.is)

pub returns-in_err-enter-clause-misfit : goal.returns-in_err-enter-clause-misfit
returns-in_err-enter-clause-misfit c = λ s is unfit.
    let all = c.args.entries.items in
    let steps : c.loop-entry.entry-iterator.rest.items ≡ c.in-Some.entry ∷ c.next.new.self.rest.items = search rules in
    let t = subst (λ (rest : List ClientEntry). Took s all c.loop-entry.self rest) steps (c.loop-entry.invariant s is) in
    let misfit : c.enter.result ≡ Err Misfit = search rules in
    took_misfit s all c.loop-entry.self c.in-Some.entry c.next.new.self.rest.items t (c.enter.ensures.misfit t.state t.is misfit)

pub returns-clause-ok : goal.returns-clause-ok
returns-clause-ok c = λ s is.
    let all = c.args.entries.items in
    let rest = c.loop-entry.entry-iterator.rest in
    let none = nil_from_length rest.items (sym rest.ok.0 ∙ c.in-None.ensures.steps.0) in
    (took_all s all c.loop-entry.self (subst (λ (es : List ClientEntry). Took s all c.loop-entry.self es) none (c.loop-entry.invariant s is))).0

pub returns-clause-leaves : goal.returns-clause-leaves
returns-clause-leaves c = λ s is.
    let all = c.args.entries.items in
    let rest = c.loop-entry.entry-iterator.rest in
    let none = nil_from_length rest.items (sym rest.ok.0 ∙ c.in-None.ensures.steps.0) in
    (took_all s all c.loop-entry.self (subst (λ (es : List ClientEntry). Took s all c.loop-entry.self es) none (c.loop-entry.invariant s is))).1
