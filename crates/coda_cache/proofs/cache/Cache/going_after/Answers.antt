use Rattle.std.proofs.Common.{◌≡◌, List, [], sym, ap, ◌∙◌, subst}
use Rattle.std.specs.Bool.{OnTrue}
use Rattle.coda_fid.specs.declared.fid.Fid.{Fid}
use Rattle.std.specs.Prelude.{Ok, Err, IfOk, MatchResult}
use Rattle.std.specs.Option.{IfSome}
use Rattle.coda_cache.specs.declared.fault.CacheFault.TheVariants.{CacheFull}
use Rattle.coda_cache.specs.State.{CacheState}
use Rattle.coda_cache.specs.Room.{evicted_between}
use Rattle.coda_cache.specs.Prospects.{Foresees}
use Rattle.coda_cache.proofs.cache.Cache.going_after.Goals as goal

pub returns-in-Some : goal.returns-in-Some
returns-in-Some c = λ client n is.
    subst (λ o. IfSome o (λ r. MatchResult r (λ v. evicted_between c.args.self.now n c.args.looked_up.now ≡ Ok v.items) (λ e. evicted_between c.args.self.now n c.args.looked_up.now ≡ Err (CacheFull e.0 e.1 c.args.self.now.size)))) c.in-Some.is
    (c.in_ok-gone.ensures client n is)

pub returns-in-None : goal.returns-in-None
returns-in-None c = λ client n.
    subst (λ (s : CacheState). Foresees s client c.args.rec.now n c.args.prospect.now → IfOk c.going_ahead.result (λ r. MatchResult r (λ v. evicted_between s n c.args.looked_up.now ≡ Ok v.items) (λ e. evicted_between s n c.args.looked_up.now ≡ Err (CacheFull e.0 e.1 s.size))))
    c.self.view_is (c.going_ahead.ensures client n)

pub returns-then-branch : goal.returns-then-branch
returns-then-branch c = λ client n is.
    subst (λ b. OnTrue b (evicted_between c.args.self.now n c.args.looked_up.now ≡ Ok [])) c.if-branch.true (c.in_ok-has_room_after.ensures client n c.args.looked_up.now is)
    ∙ ap (λ (l : List Fid). Ok l) (sym c.new.ensures.items)
