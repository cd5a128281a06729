use Rattle.coda_cache.proofs.Kept as kept
use Rattle.coda_cache.proofs.KeptMore as more
use Rattle.coda_cache.proofs.law.steps_keep_caches.Goals as goal

pub returns-clause-empty : goal.returns-clause-empty
returns-clause-empty c = λ size. kept.empty_kept size

pub returns-clause-used : goal.returns-clause-used
returns-clause-used c = λ s f k. kept.used_kept s f k

pub returns-clause-invalidated : goal.returns-clause-invalidated
returns-clause-invalidated c = λ s f k. kept.invalidated_kept s f k

pub returns-clause-invalidated_from : goal.returns-clause-invalidated_from
returns-clause-invalidated_from c = λ s volume server k. kept.invalidated_from_kept s volume server k

pub returns-clause-pinned_to : goal.returns-clause-pinned_to
returns-clause-pinned_to c = λ s fids k. kept.pinned_to_kept s fids k

pub returns-clause-pinned_in : goal.returns-clause-pinned_in
returns-clause-pinned_in c = λ s volume fids k. kept.pinned_in_kept s volume fids k

pub returns-clause-marked : goal.returns-clause-marked
returns-clause-marked c = λ s f dirty k. kept.marked_kept s f dirty k

pub returns-clause-put : goal.returns-clause-put
returns-clause-put c = λ s f parent node from k may. more.put_kept s f parent node from k may

pub returns-clause-dropped : goal.returns-clause-dropped
returns-clause-dropped c = λ s fids k may. kept.dropped_kept s fids k may

pub returns-clause-removed : goal.returns-clause-removed
returns-clause-removed c = λ s f k. kept.removed_kept s f k

pub returns-clause-mutated : goal.returns-clause-mutated
returns-clause-mutated c = λ s client rec k may. more.mutated_kept s client rec k may

pub returns-clause-walked : goal.returns-clause-walked
returns-clause-walked c = λ s puts of k may. more.walked_kept s puts of k may
