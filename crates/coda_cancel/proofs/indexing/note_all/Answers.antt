use Rattle.std.proofs.Common.{◌≡◌, Bool, true, false, ◌||◌, refl, sym, ap, ◌∙◌}
use Rattle.coda_cancel.specs.Mentions.{has, tells, is_mentioned}
use Rattle.coda_cancel.proofs.indexing.note_all.Goals as goal

or_assoc : (a b c : Bool) → ((a || b) || c) ≡ (a || (b || c))
or_assoc true b c = refl
or_assoc false b c = refl

pub loop-record-preserved : goal.loop-record-preserved
loop-record-preserved c f n =
    let rec = c.in-Some.record.now in
    let rest = c.take_first.new.self in
    ap (λ b. b || is_mentioned rest f n) (c.in_ok-put_record.ensures f n)
    ∙ or_assoc (has c.loop-record.index f n) (tells rec f n) (is_mentioned rest f n)
    ∙ ap (λ l. has c.loop-record.index f n || is_mentioned l f n) (sym c.in-Some.ensures.some) ∙ c.loop-record.invariant f n
