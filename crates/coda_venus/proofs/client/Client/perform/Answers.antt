use Rattle.std.proofs.Common.{take, ◌||◌, ◌++◌, refl, sym, ap, ◌∙◌}
use Rattle.coda_tree.specs.Volume.{Nodes}
use Rattle.coda_fid.specs.Op.{fids_of}
use Rattle.coda_walk.specs.Going.{is_listed}
use Rattle.coda_cache.specs.Steps.{taken_out, taken_from}
use Rattle.coda_venus.specs.Caching.{listed_in, above_taken}
use Rattle.coda_venus.proofs.Mentioned.{listed_joined}
use Rattle.coda_record.specs.declared.entry.ClientEntry.TheVariants.{Op}
use Rattle.coda_venus.specs.Code.{IsClient}
use Rattle.coda_venus.specs.State.{client_after}
use Rattle.coda_venus.proofs.Behind.{behind_client, behind_nodes, behind_cache}
use Rattle.coda_venus.proofs.Entered.{on_err}
use Rattle.coda_venus.proofs.client.Client.perform.Goals as goal

pub returns-in_err-enter_operation-clause-err : goal.returns-in_err-enter_operation-clause-err
returns-in_err-enter_operation-clause-err c = λ s is. on_err c.from_residual.result (IsClient s c.enter_operation.new.self) (c.in_err-enter_operation.ensures.err s is)

pub returns-clause-entered : goal.returns-clause-entered
returns-clause-entered c = λ s is.
    let entered = c.enter_operation.new.self in
    let made = c.mark_touched.new.self in
    behind_client entered made (record made { cache = c.drop_all.new.self }) (take c.named-count.result.1 c.named-count.result.0 ++ listed_in c.above_taken-above.result) c.args.gone.now c.mark_touched.ensures.rest c.mark_touched.ensures.cache refl refl c.drop_all.ensures
    (client_after s (Op c.args.volume c.args.rec)) (c.in_ok-enter_operation.ensures.entered s is)

pub returns-clause-nodes : goal.returns-clause-nodes
returns-clause-nodes c =
    let entered = c.enter_operation.new.self in
    let made = c.mark_touched.new.self in
    behind_nodes entered made (record made { cache = c.drop_all.new.self }) (take c.named-count.result.1 c.named-count.result.0 ++ listed_in c.above_taken-above.result) c.args.gone.now c.mark_touched.ensures.rest c.mark_touched.ensures.cache refl refl c.drop_all.ensures
    ∙ ap (λ (m : Nodes). taken_from m c.args.gone.now) c.in_ok-enter_operation.ensures.nodes

pub returns-clause-cache : goal.returns-clause-cache
returns-clause-cache c =
    let entered = c.enter_operation.new.self in
    let made = c.mark_touched.new.self in
    behind_cache entered made (record made { cache = c.drop_all.new.self }) (take c.named-count.result.1 c.named-count.result.0 ++ listed_in c.above_taken-above.result) c.args.gone.now c.mark_touched.ensures.rest c.mark_touched.ensures.cache refl refl c.drop_all.ensures
    c.args.self.now.cache c.args.self.now.number c.args.rec c.in_ok-enter_operation.ensures.cache (λ f. listed_joined (take c.named-count.result.1 c.named-count.result.0) (listed_in c.above_taken-above.result) f
    ∙ (λ i. c.named-count.ensures.named f i || is_listed (c.above_taken-above.ensures i) f) ∙ sym (listed_joined (fids_of c.args.rec.op) (above_taken c.args.self.now.cache (taken_out c.args.rec.op)) f))
