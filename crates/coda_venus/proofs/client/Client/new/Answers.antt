use Rattle.std.proofs.Common.{rules, ◌≡◌, refl, sym, ap, subst, ◌∙◌}
use Rattle.std.specs.Prelude.{None}
use Rattle.std.specs.BTreeMap as tree
use Rattle.std.specs.Ordering.{nat_cmp}
use Rattle.coda_cache.specs.State.{CacheState}
use Rattle.coda_spelling.specs.Spelled.{AreSpelled}
use Rattle.coda_venus.specs.Code.{IsLogAt, held_in}
use Rattle.coda_venus.specs.State.{new_volume}
use Rattle.coda_venus.proofs.Cached.{empty_held}
use Rattle.coda_venus.proofs.Entered.{nothing_spelled}
use Rattle.coda_venus.proofs.client.Client.new.Goals as goal

pub returns-clause-new : goal.returns-clause-new
returns-clause-new c = record {
  number = refl;
  blocks = ap (λ (k : CacheState). k.size) (sym c.in_ok-cache.ensures);
  held = sym (ap held_in c.in_ok-cache.ensures ∙ empty_held c.args.blocks);
  logs = λ volume. (let none : tree.get nat_cmp c.new-2.result volume ≡ None = search rules in subst (IsLogAt new_volume) (sym none) refl);
}

pub returns-clause-spelled : goal.returns-clause-spelled
returns-clause-spelled c = subst (λ (k : CacheState). AreSpelled k.nodes) (sym c.in_ok-cache.ensures) nothing_spelled
