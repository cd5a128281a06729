use Rattle.std.proofs.Common.{ap, ap₂, sym, ◌∙◌, ◌++◌, ◌∷◌, []}
use Rattle.coda_reslog.proofs.Ends.{one_more}
use Rattle.coda_reslog.proofs.ring.copy_entries.Goals as goal

pub loop-index-preserved : goal.loop-index-preserved
loop-index-preserved c = record {
  copied = ap (λ b. b.items) c.append.ensures
      ∙ ap₂ (λ front entry. front ++ entry ∷ []) c.loop-index.invariant.copied c.in_ok-copy.ensures
      ∙ sym (one_more c.args.entries.now.items c.loop-index.index c.in-Some.entry.now c.in-Some.ensures);
  room = ap (λ b. b.capacity) c.append.ensures ∙ c.loop-index.invariant.room;
}
