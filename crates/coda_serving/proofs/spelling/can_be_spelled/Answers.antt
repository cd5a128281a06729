use Rattle.std.proofs.Common.{◌≡◌, ℕ, ◌<◌, ◌≤◌, Bool, true, false, not, List, [], ◌∷◌, length, refl, sym, ap, ◌∙◌, subst, arith}
use Rattle.std.specs.Cmp.{both_ways}
use Rattle.std.proofs.lemmas.Bool.{le-leb, leb-true, false_from_ne_true}
use Rattle.coda_tree.specs.declared.node.Node.{Node}
use Rattle.coda_record.specs.Entries.{held_piece}
use Rattle.coda_record.specs.Form.{four}
use Rattle.coda_serving.proofs.Spelled.{HasTypes, node_fits, number_few, held_fits, content_fits, content_few, target_fits, target_few, bindings_fit, bindings_few}
use Rattle.coda_serving.proofs.spelling.can_be_spelled.Goals as goal

pub returns-then-node-gt-GREATEST_NUMBER : goal.returns-then-node-gt-GREATEST_NUMBER
returns-then-node-gt-GREATEST_NUMBER c = sym (false_from_ne_true _ (λ fits. let few = number_few c.args.node.now fits in let more = c.if-node-gt-GREATEST_NUMBER.true in omega (arith, few, more)))

types : (n : Node) → (n.mode < 65536) × (n.owner < 4294967296) × (n.mtime < 18446744073709551616) × (n.sid.client < 256) → HasTypes n
types n r = record { mode = r.0; owner = r.1; mtime = r.2; client = r.3 }

pub returns-in-File : goal.returns-in-File
returns-in-File c =
    let n = c.args.node.now in
    let content = c.in-File.content in
    let size = c.len.ensures.count in
    both_ways _ _
    (λ low. let few = leb-true c.len.result 1048576 low in node_fits n (types n c.fields_in_range.ensures) c.if-node-gt-GREATEST_NUMBER.false (subst (λ k. (held_piece four k).fits ≡ true) (sym c.in-File.is) (content_fits content (omega (arith, few, size)))))
    (λ fits. let few = content_few content (subst (λ k. (held_piece four k).fits ≡ true) c.in-File.is (held_fits n fits)) in le-leb c.len.result 1048576 (omega (arith, few, size)))

pub returns-then-not-is_empty : goal.returns-then-not-is_empty
returns-then-not-is_empty c =
    let n = c.args.node.now in
    let target = c.in-Link.target in
    let size = c.len-then-not-is_empty.ensures.count in
    both_ways _ _
    (λ low. let few = leb-true c.len-then-not-is_empty.result 1024 low in node_fits n (types n c.fields_in_range.ensures) c.if-node-gt-GREATEST_NUMBER.false
    (subst (λ k. (held_piece four k).fits ≡ true) (sym c.in-Link.is) (target_fits target (some_bytes target (λ none. not_both c.is_empty.result c.if-not-is_empty.true (c.is_empty.ensures.1 none))) (omega (arith, few, size)))))
    (λ fits. let few = (target_few target (subst (λ k. (held_piece four k).fits ≡ true) c.in-Link.is (held_fits n fits))).1 in le-leb c.len-then-not-is_empty.result 1024 (omega (arith, few, size)))
  where
    some_bytes : (bytes : List ℕ) → (bytes ≡ [] → ⊥) → 1 ≤ length bytes
    some_bytes [] empty = absurd (empty refl)
    some_bytes (b ∷ bytes) empty = omega arith

    not_both : (b : Bool) → b ≡ false → b ≡ true → ⊥
    not_both b off on = (let both : false ≡ true = sym off ∙ on in cc)

pub returns-else-not-is_empty : goal.returns-else-not-is_empty
returns-else-not-is_empty c =
    let n = c.args.node.now in
    let none : c.in-Link.target ≡ [] = c.is_empty.ensures.0 c.if-not-is_empty.false in
    ap not c.if-not-is_empty.false
    ∙ sym (false_from_ne_true _ (λ fits. let some = (target_few c.in-Link.target (subst (λ k. (held_piece four k).fits ≡ true) c.in-Link.is (held_fits n fits))).0 in let size = ap length none in omega (arith, some, size)))

pub returns-in-Dir : goal.returns-in-Dir
returns-in-Dir c =
    let n = c.args.node.now in
    let entries = c.in-Dir.entries in
    let size = c.len-in-Dir.ensures in
    both_ways _ _
    (λ low. let few = leb-true c.len-in-Dir.result 4294967295 low in node_fits n (types n c.fields_in_range.ensures) c.if-node-gt-GREATEST_NUMBER.false
    (subst (λ k. (held_piece four k).fits ≡ true) (sym c.in-Dir.is) (bindings_fit entries c.pairs_spelled.ensures (omega (arith, few, size)))))
    (λ fits. let few = bindings_few entries (subst (λ k. (held_piece four k).fits ≡ true) c.in-Dir.is (held_fits n fits)) in le-leb c.len-in-Dir.result 4294967295 (omega (arith, few, size)))
