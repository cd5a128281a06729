use Rattle.std.proofs.Common.{◌≡◌, true, cond, ◌∷◌, ◌++◌, Some, sym, ap, ◌∙◌}
use Rattle.coda_cancel.specs.Cancel.{is_other, is_true_alone, others, is_undone}
use Rattle.coda_cancel.specs.Dropping.{creates}
use Rattle.coda_cancel.proofs.Walks.{upto, beyond, all_left, fewer_left}
use Rattle.coda_cancel.proofs.Indexed.{read_next, read_none, read_split, read_numbered}
use Rattle.coda_cancel.proofs.Undone.{others_step, others_end, alone_end, not_alone}
use Rattle.coda_cancel.proofs.undoing.is_undone.Goals as goal
use Rattle.coda_cancel.proofs.undoing.is_undone.Goals.{then-created-via-then-created, then-created-via-else-created+then-not-creates}

pub loop-number-init : goal.loop-number-init
loop-number-init c = ap (λ l. is_true_alone (others c.args.fid l)) (all_left c.args.shelf.now.records)

pub at-requires : goal.at-requires
at-requires c =
    let rs = c.args.shelf.now.records in
    read_numbered c.args.fid c.loop-number.after c.in-Some.number rs (read_next rs c.args.index.now c.args.fid c.loop-number.after c.last-last.result c.last-last.ensures.rising c.requires c.last-last.ensures.last c.in-Some.number c.in-Some.ensures.some)

pub loop-number-smaller-else-not-creates : goal.loop-number-smaller-else-not-creates
loop-number-smaller-else-not-creates c =
    let rs = c.args.shelf.now.records in
    fewer_left c.args.fid c.loop-number.after c.in-Some.number rs (read_next rs c.args.index.now c.args.fid c.loop-number.after c.last-last.result c.last-last.ensures.rising c.requires c.last-last.ensures.last c.in-Some.number c.in-Some.ensures.some)

pub loop-number-smaller : goal.loop-number-smaller
loop-number-smaller c =
    let rs = c.args.shelf.now.records in
    fewer_left c.args.fid c.loop-number.after c.in-Some.number rs (read_next rs c.args.index.now c.args.fid c.loop-number.after c.last-last.result c.last-last.ensures.rising c.requires c.last-last.ensures.last c.in-Some.number c.in-Some.ensures.some)

pub returns-then-created : goal.returns-then-created
returns-then-created c =
    let rs = c.args.shelf.now.records in
    let f = c.args.fid in
    let n = c.in-Some.number in
    let s = read_next rs c.args.index.now f c.loop-number.after c.last-last.result c.last-last.ensures.rising c.requires c.last-last.ensures.last n c.in-Some.ensures.some in
    let found = c.at.ensures.«record» (upto c.loop-number.after rs ++ s.between) s.found (beyond (Some n) rs) (read_split f c.loop-number.after n rs s) s.is in
    let rest = others f (beyond (Some n) rs) in
    let other : others f (beyond c.loop-number.after rs) ≡ creates f s.found.op ∷ rest =
    others_step f c.loop-number.after n rs s ∙ ap (λ r. cond (is_other f r.op) (creates f s.found.op ∷ rest) rest) (sym found) ∙ ap (λ b. cond b (creates f s.found.op ∷ rest) rest) (sym c.is_other.ensures ∙ c.if-is_other.true) in
    let both : is_true_alone (cond c.loop-number.created (true ∷ creates f s.found.op ∷ rest) (creates f s.found.op ∷ rest)) ≡ is_undone f rs = ap (λ l. is_true_alone (cond c.loop-number.created (true ∷ l) l)) (sym other) ∙ c.loop-number.invariant in
    elim c.then-created.branch [
      | then-created-via-then-created w ↦ sym (ap (λ b. is_true_alone (cond b (true ∷ creates f s.found.op ∷ rest) (creates f s.found.op ∷ rest))) w.if-created.true) ∙ both
      | then-created-via-else-created+then-not-creates w ↦ sym (ap (λ b. is_true_alone (cond b (true ∷ creates f s.found.op ∷ rest) (creates f s.found.op ∷ rest))) w.if-created.false ∙ not_alone (creates f s.found.op) rest (ap (λ r. creates f r.op) (sym found) ∙ sym w.creates.ensures ∙ w.if-not-creates.true)) ∙ both
    ]

pub loop-number-preserved-else-not-creates : goal.loop-number-preserved-else-not-creates
loop-number-preserved-else-not-creates c =
    let rs = c.args.shelf.now.records in
    let f = c.args.fid in
    let n = c.in-Some.number in
    let s = read_next rs c.args.index.now f c.loop-number.after c.last-last.result c.last-last.ensures.rising c.requires c.last-last.ensures.last n c.in-Some.ensures.some in
    let found = c.at.ensures.«record» (upto c.loop-number.after rs ++ s.between) s.found (beyond (Some n) rs) (read_split f c.loop-number.after n rs s) s.is in
    let rest = others f (beyond (Some n) rs) in
    let other : others f (beyond c.loop-number.after rs) ≡ true ∷ rest =
    others_step f c.loop-number.after n rs s ∙ ap (λ r. cond (is_other f r.op) (creates f r.op ∷ rest) rest) (sym found) ∙ (λ i. cond (sym c.is_other.ensures i) (sym c.creates.ensures i ∷ rest) rest) ∙ (λ i. cond (c.if-is_other.true i) (c.if-not-creates.false i ∷ rest) rest) in
    ap is_true_alone (sym other) ∙ ap (λ b. is_true_alone (cond b (true ∷ others f (beyond c.loop-number.after rs)) (others f (beyond c.loop-number.after rs)))) (sym c.if-created.false) ∙ c.loop-number.invariant

pub loop-number-preserved : goal.loop-number-preserved
loop-number-preserved c =
    let rs = c.args.shelf.now.records in
    let f = c.args.fid in
    let n = c.in-Some.number in
    let s = read_next rs c.args.index.now f c.loop-number.after c.last-last.result c.last-last.ensures.rising c.requires c.last-last.ensures.last n c.in-Some.ensures.some in
    let found = c.at.ensures.«record» (upto c.loop-number.after rs ++ s.between) s.found (beyond (Some n) rs) (read_split f c.loop-number.after n rs s) s.is in
    let rest = others f (beyond (Some n) rs) in
    let other : others f (beyond c.loop-number.after rs) ≡ rest =
    others_step f c.loop-number.after n rs s ∙ ap (λ r. cond (is_other f r.op) (creates f s.found.op ∷ rest) rest) (sym found) ∙ ap (λ b. cond b (creates f s.found.op ∷ rest) rest) (sym c.is_other.ensures ∙ c.if-is_other.false) in
    ap (λ l. is_true_alone (cond c.loop-number.created (true ∷ l) l)) (sym other) ∙ c.loop-number.invariant

pub returns : goal.returns
returns c =
    let rs = c.args.shelf.now.records in
    let none = others_end c.args.fid (beyond c.loop-number.after rs) (read_none rs c.args.index.now c.args.fid c.loop-number.after c.last-last.result c.last-last.ensures.rising c.requires c.last-last.ensures.last c.in_default.ensures.none) in
    alone_end c.loop-number.created ∙ ap (λ l. is_true_alone (cond c.loop-number.created (true ∷ l) l)) (sym none) ∙ c.loop-number.invariant
