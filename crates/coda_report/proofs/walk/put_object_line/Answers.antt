use Rattle.std.proofs.Common.{◌≡◌, OnOk, string_bytes, subst}
use Rattle.coda_report.proofs.Parts.{put_parts}
use Rattle.coda_report.proofs.walk.put_object_line.Goals as goal

pub returns : goal.returns
returns c =
    subst (λ t. OnOk c.put_byte.result (string_bytes c.put_byte.new.out ≡ t))
    (put_parts _ _ _ _ _ _ _ _ _ _ _ c.in_ok-put_object_head.ensures c.in_ok-put_attributes.ensures c.in_ok-put_kind_content.ensures c.in_ok-put_mark.ensures)
    c.put_byte.ensures
