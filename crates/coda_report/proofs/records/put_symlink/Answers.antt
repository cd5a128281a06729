use Rattle.std.proofs.Common.{◌≡◌, OnOk, string_bytes, subst, ap}
use Rattle.coda_report.specs.Printing.{text_of_content}
use Rattle.coda_report.proofs.Parts.{symlink_parts}
use Rattle.coda_report.proofs.records.put_symlink.Goals as goal

pub returns : goal.returns
returns c = subst (λ t. OnOk c.put_content.result (string_bytes c.put_content.new.out ≡ t)) (symlink_parts _ _ _ (text_of_content c.bytes.result.now) (text_of_content c.args.target.now) _ _ c.in_ok-put_creation.ensures c.in_ok-put_byte.ensures (ap text_of_content c.bytes.ensures)) c.put_content.ensures
