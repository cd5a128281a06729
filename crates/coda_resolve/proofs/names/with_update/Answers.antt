use Rattle.std.proofs.Common.{not, is_some, map, option_copied}
use Rattle.coda_fid.specs.Name.{name_cmp}
use Rattle.coda_resolve.specs.Merged.{binding, names_in}
use Rattle.coda_resolve.proofs.LeastNames.{least_of_two}
use Rattle.coda_resolve.proofs.names.with_update.Goals as goal

pub returns : goal.returns
returns c = least_of_two name_cmp (λ n. not (is_some (binding (map option_copied c.args.copies.now) n))) (option_copied c.args.least) (option_copied c.with_some_name-least.result) (option_copied c.with_some_name.result) (names_in c.args.update.now.name) (names_in c.args.update.now.other) c.with_some_name-least.ensures c.with_some_name.ensures
