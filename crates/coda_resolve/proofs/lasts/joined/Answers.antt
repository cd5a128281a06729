use Rattle.std.proofs.Common.{◌∙◌, arith}
use Rattle.std.specs.List.{flat_map}
use Rattle.coda_record.specs.declared.view.View.{View}
use Rattle.coda_resolve.specs.Lasts.{latest}
use Rattle.coda_resolve.proofs.Lasting.{client_more, all_clients}
use Rattle.coda_resolve.proofs.lasts.joined.Goals as goal

pub loop-client-preserved : goal.loop-client-preserved
loop-client-preserved c = client_more (latest (flat_map (λ (view : View). view.lasts) c.args.views.now)) c.loop-client.client c.loop-client.items.items c.push_some.new.items.items c.copied.result (c.copied.ensures ∙ c.get.ensures.value ∙ c.in_ok-table.ensures c.loop-client.client) c.loop-client.invariant c.in_ok-push_some.ensures

pub returns : goal.returns
returns c = c.from_vec.ensures ∙ c.loop-client.invariant ∙ all_clients (latest (flat_map (λ (view : View). view.lasts) c.args.views.now)) c.loop-client.client (let h = c.loop-client-test.false in let g = c.loop-client.auto.client-end in omega arith)
