use Rattle.std.proofs.Common.{rules, ◌≡◌, ◌||◌, true, false, [], Some, None, sym, ap, ◌∙◌}
use Rattle.std.specs.BTreeMap as tree
use Rattle.std.specs.Ordering.{nat_cmp}
use Rattle.coda_cml.specs.Steady.{any_record}
use Rattle.coda_venus.specs.Accepting.{is_mentioned}
use Rattle.coda_venus.specs.Held.{reaches_below, some_below}
use Rattle.coda_venus.specs.Caching.{served_held}
use Rattle.coda_venus.specs.Code.{volume_in}
use Rattle.coda_venus.proofs.DirtyBelow.{dirty_below}
use Rattle.coda_venus.proofs.client.Client.is_mentioned_below.Goals as goal

pub returns-then-any_reaches : goal.returns-then-any_reaches
returns-then-any_reaches c =
    let h = served_held c.args.emulating c.args.self.now in
    let log = c.in-Some.log.now.log in
    let there : tree.get nat_cmp c.args.self.now.logs c.args.volume ≡ Some c.in-Some.log.now = search rules in
    let first : any_record (reaches_below h c.args.above) log.chunk ≡ true = search rules in
    c.if-any_reaches.true ∙ sym (ap (λ b. b || any_record (reaches_below h c.args.above) log.records) first) ∙ dirty_below h c.args.above log.chunk log.records
    ∙ sym (ap (λ o. some_below h (is_mentioned (volume_in o)) c.args.above) there)

pub returns-else-any_reaches : goal.returns-else-any_reaches
returns-else-any_reaches c =
    let h = served_held c.args.emulating c.args.self.now in
    let log = c.in-Some.log.now.log in
    let there : tree.get nat_cmp c.args.self.now.logs c.args.volume ≡ Some c.in-Some.log.now = search rules in
    let first : any_record (reaches_below h c.args.above) log.chunk ≡ false = search rules in
    let second : c.any_reaches-else-any_reaches.result ≡ any_record (reaches_below h c.args.above) log.records = search rules in
    second ∙ sym (ap (λ b. b || any_record (reaches_below h c.args.above) log.records) first) ∙ dirty_below h c.args.above log.chunk log.records
    ∙ sym (ap (λ o. some_below h (is_mentioned (volume_in o)) c.args.above) there)

pub returns-in-None : goal.returns-in-None
returns-in-None c =
    let h = served_held c.args.emulating c.args.self.now in
    let none : tree.get nat_cmp c.args.self.now.logs c.args.volume ≡ None = search rules in
    dirty_below h c.args.above [] [] ∙ sym (ap (λ o. some_below h (is_mentioned (volume_in o)) c.args.above) none)
