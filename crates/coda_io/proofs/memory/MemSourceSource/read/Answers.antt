use Rattle.std.proofs.Common.{◌≡◌, ◌+◌, ◌-◌, min, length, ap, sym, ◌∙◌, arith, take, drop}
use Rattle.coda_io.specs.Memory.{Supply}
use Rattle.coda_io.proofs.Copying.{copied_front, copied_none}
use Rattle.coda_io.proofs.memory.MemSourceSource.read.Goals as goal

-- what was copied is the front of what was left
pub returns-clause-bytes : goal.returns-clause-bytes
returns-clause-bytes c =
    let items = c.self.inside.bytes.items in
    let buf = c.args.buf.now in
    let at = c.self.inside.at in
    let count = c.min-count.result in
    let len = c.copy_from_slice.ensures.len in
    let is : count ≡ min (length buf) (length items - at) = c.min-count.ensures ∙ ap (λ n. min (length buf) (n - at)) (c.len.ensures ∙ sym c.deref-2.ensures.len ∙ ap length c.deref-2.ensures.value) in (
      copied_front c.args.self.now.left items buf c.copy_from_slice.new.self at count (ap (λ (s : Supply). s.left) c.self.view_is) len (omega (arith, is))
          (c.copy_from_slice.ensures.after ∙ ap (λ xs. take (at + count - at) (drop at xs)) c.deref-2.ensures.value),
      copied_none items buf c.copy_from_slice.new.self at count len is,
    )
