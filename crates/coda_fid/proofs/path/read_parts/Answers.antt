use Rattle.std.proofs.Common.{rules, tests, ◌≡◌, ℕ, ◌<◌, ◌==◌, List, [], ◌∷◌, ◌++◌, length, get_or, take, true, false, subst, sym, refl, ◌∙◌, ap, arith}
use Rattle.std.specs.List.{list_all}
use Rattle.std.proofs.lemmas.Bool.{true_from_ne_false, and_parts, and_from}
use Rattle.std.proofs.lemmas.List.{take_more, take_all, length_push}
use Rattle.std.proofs.lemmas.Iterator.Consumers.{YieldsList-at, YieldsList-turn, YieldsList-end}
use Rattle.std.proofs.lemmas.Iterator.Splits.{YieldsList-from_slice_split}
use Rattle.coda_fid.specs.Name.{is_name, AreNames}
use Rattle.coda_fid.specs.Path.{parts}
use Rattle.coda_fid.proofs.path.read_parts.Goals as goal

one_more : {A : Type 0} (all : List (List ℕ)) (xs : List A) (x : A) (got more : List (List ℕ)) (name part : List ℕ) → more ≡ got ++ name ∷ [] → name ≡ part → got ≡ take (length xs) all → length xs < length all → part ≡ get_or all (length xs) part → more ≡ take (length (xs ++ x ∷ [])) all
one_more all xs x got more name part e f g l h =
    let m = take_more all (length xs) part l in
    let k = ap (λ i. take i all) (length_push xs x) in
    cc

good_more : (got : List (List ℕ)) (name : List ℕ) → AreNames got → is_name name ≡ true → AreNames (got ++ name ∷ [])
good_more [] name h k = and_from (is_name name) true k refl
good_more (n ∷ ns) name h k =
    let both = and_parts (is_name n) (list_all is_name ns) h in
    and_from (is_name n) (list_all is_name (ns ++ name ∷ [])) both.0 (good_more ns name both.1 k)

pub loop-part-preserved : goal.loop-part-preserved
loop-part-preserved c =
    let t = YieldsList-turn (YieldsList-at c.into_iter-part-iterator.ensures.into_iter_gives (YieldsList-from_slice_split _ (λ b. b == 47) c.args.bytes.now c.split-part-items.ensures.rest c.split-part-items.ensures.done c.split-part-items.ensures.closure (λ x r q k. search (rules, tests)))) c.loop-part.yielded _ c.loop-part.yielded_by _ _ c.in-Some.part c.in-Some.is c.next.ensures.steps in
    let pushed : c.push.new.self.items ≡ c.loop-part.names.items ++ c.in_ok-name.name ∷ [] = search rules in
    let same : c.in_ok-name.name ≡ c.in-Some.part.now = c.in_ok-name.ensures.ok in
    let good : is_name c.in_ok-name.name ≡ true = true_from_ne_false (is_name c.in_ok-name.name) (λ e.
    let r = c.in_ok-name.ensures.bad.1 (subst (λ (n : List ℕ). is_name n ≡ false) same e) in
    let f : ⊥ = cc in
    absurd f) in (
      one_more (parts c.args.bytes.now) c.loop-part.yielded c.in-Some.part c.loop-part.names.items c.push.new.self.items c.in_ok-name.name c.in-Some.part.now pushed same c.loop-part.invariant.0 t.0 t.1,
      subst AreNames (sym pushed) (good_more c.loop-part.names.items c.in_ok-name.name c.loop-part.invariant.1 good),
    )

pub returns-clause-parts : goal.returns-clause-parts
returns-clause-parts c =
    let t = YieldsList-end (YieldsList-at c.into_iter-part-iterator.ensures.into_iter_gives (YieldsList-from_slice_split _ (λ b. b == 47) c.args.bytes.now c.split-part-items.ensures.rest c.split-part-items.ensures.done c.split-part-items.ensures.closure (λ x r q k. search (rules, tests)))) c.loop-part.yielded _ c.loop-part.yielded_by _ _ c.in-None.is c.next.ensures.steps in
    c.loop-part.invariant.0 ∙ take_all (length c.loop-part.yielded) (parts c.args.bytes.now) (omega (arith, t.1))

pub returns-clause-names : goal.returns-clause-names
returns-clause-names c =
    let t = YieldsList-end (YieldsList-at c.into_iter-part-iterator.ensures.into_iter_gives (YieldsList-from_slice_split _ (λ b. b == 47) c.args.bytes.now c.split-part-items.ensures.rest c.split-part-items.ensures.done c.split-part-items.ensures.closure (λ x r q k. search (rules, tests)))) c.loop-part.yielded _ c.loop-part.yielded_by _ _ c.in-None.is c.next.ensures.steps in
    subst AreNames (c.loop-part.invariant.0 ∙ take_all (length c.loop-part.yielded) (parts c.args.bytes.now) (omega (arith, t.1))) c.loop-part.invariant.1
