use Rattle.std.proofs.Common.{◌∙◌, ◌∷◌, [], ◌++◌, ap, sym, append_assoc}
use Rattle.std.proofs.lemmas.Result.{on_ok_weaker}
use Rattle.coda_values.specs.Form.{together}
use Rattle.coda_values.specs.Parts.{optional}
use Rattle.coda_values.specs.Table.{server, ordinal, sid, name, fid}
use Rattle.coda_values.specs.Held.{update, update_kind, lost}
use Rattle.coda_values.proofs.ListOf.{together_split}
use Rattle.coda_values.proofs.updates.put_update.Goals as goal

pub returns : goal.returns
unfolding update
returns c =
    let u = c.args.update.now in
    let head = server.piece u.origin ∷ ordinal.piece u.seq ∷ sid.piece u.sid ∷ update_kind.piece u.kind ∷ [] in
    let rest = (optional name).piece u.name ∷ (optional name).piece u.other ∷ fid.piece u.fid ∷ (optional lost).piece u.lost ∷ [] in
    on_ok_weaker c.put_changed.result (λ e. e
    ∙ ap (λ b. b ++ (together rest).bytes) c.in_ok-put_update_head.ensures
    ∙ append_assoc c.args.out.now.items (together head).bytes (together rest).bytes
    ∙ ap (λ b. c.args.out.now.items ++ b) (sym (together_split head rest))) c.put_changed.ensures
