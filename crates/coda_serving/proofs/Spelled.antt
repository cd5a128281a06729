-- When a node can be spelled: exactly where its version is in its range, and what it holds isn't too long.
use Rattle.std.proofs.Common.{◌≡◌, ℕ, suc, ◌<◌, ◌≤◌, Bool, true, false, List, [], ◌∷◌, length, Option, Some, None, refl, sym, subst, arith}
use Rattle.std.specs.FinMap as map
use Rattle.std.specs.FinMap.Entries.{is_sorted, below_all}
use Rattle.std.proofs.lemmas.Bool.{lt-ltb, ltb-true}
use Rattle.coda_fid.specs.Name.{name_cmp}
use Rattle.coda_fid.specs.declared.fid.Fid.{Fid}
use Rattle.coda_fid.specs.declared.fid.Sid.{Sid}
use Rattle.coda_tree.specs.Bindings.{Name, Bindings}
use Rattle.coda_tree.specs.declared.node.Node.{Node}
use Rattle.coda_tree.specs.declared.node.NodeKind.{NodeKind}
use Rattle.coda_tree.specs.declared.node.NodeKind.TheVariants.{File, Link, Dir}
use Rattle.coda_tree.proofs.Booleans.{from_T}
use Rattle.coda_record.specs.Entries.{comes_after, binding_after, pairs, bindings, node, kind_of, held_piece}
use Rattle.coda_record.specs.Form.{four, eight, one, two}
use Rattle.coda_record.specs.Parts.{u8, u16, u32, u64, flag, items_piece}
use Rattle.coda_record.specs.Spelling.{HasSpelling}
use Rattle.coda_record.specs.Table as table
use Rattle.coda_record.proofs.PartsAgree.{first_true, second_true}
use Rattle.coda_spelling.proofs.SpelledParts.{both_true, below, within, is_within, sid_spelled}
use Rattle.coda_serving.specs.Spelling.{can_be_spelled, IsPairSpelled, AreSpelledTo}

-- ---- what a directory binds

binding_fits : (before : Option Name) (pair : Name × Fid) → comes_after before pair.0 ≡ true → IsPairSpelled pair → HasSpelling (binding_after before) pair
unfolding binding_after
binding_fits before pair after is = both_true _ _ (both_true _ _ is.0 after) (both_true _ _ is.1 refl)

fit_behind : (name : Name) (ps : List (Name × Fid)) → below_all name_cmp name ps ≡ true → is_sorted name_cmp ps ≡ true → AreSpelledTo (length ps) ps → (items_piece binding_after (λ (b : Name × Fid). Some b.0) (Some name) ps).fits ≡ true
fit_behind name [] later sorted all = refl
fit_behind name (p ∷ ps) later sorted all =
    both_true _ _ (binding_fits (Some name) p (first_true _ _ later) (all 0 p (omega arith) refl))
    (fit_behind p.0 ps (first_true _ _ sorted) (second_true _ _ sorted) (λ i q low at. all (suc i) q (omega (arith, low)) at))

fit : (ps : List (Name × Fid)) → is_sorted name_cmp ps ≡ true → AreSpelledTo (length ps) ps → (items_piece binding_after (λ (b : Name × Fid). Some b.0) None ps).fits ≡ true
fit [] sorted all = refl
fit (p ∷ ps) sorted all =
    both_true _ _ (binding_fits None p refl (all 0 p (omega arith) refl))
    (fit_behind p.0 ps (first_true _ _ sorted) (second_true _ _ sorted) (λ i q low at. all (suc i) q (omega (arith, low)) at))

pub bindings_fit : (bs : Bindings) → AreSpelledTo (map.len bs) (map.entries bs) → map.len bs ≤ 4294967295 → HasSpelling bindings bs
unfolding bindings pairs
bindings_fit bs all few =
    let size : length (map.entries bs) ≡ map.len bs = sym (map.len-entries bs) in
    both_true _ _ (lt-ltb (length (map.entries bs)) 4294967296 (omega (arith, size, few))) (fit (map.entries bs) (from_T _ (map.entries_sorted bs)) (subst (λ n. AreSpelledTo n (map.entries bs)) (sym size) all))

pub bindings_few : (bs : Bindings) → HasSpelling bindings bs → map.len bs ≤ 4294967295
unfolding bindings pairs
bindings_few bs fits =
    let low = ltb-true (length (map.entries bs)) 4294967296 (first_true _ _ fits) in
    let size : length (map.entries bs) ≡ map.len bs = sym (map.len-entries bs) in
    omega (arith, low, size)

-- ---- nodes

kind_fits : (k : NodeKind) → HasSpelling u8 (kind_of k)
kind_fits (File content) = refl
kind_fits (Link target) = refl
kind_fits (Dir entries) = refl

flag_fits : (b : Bool) → (flag.piece b).fits ≡ true
flag_fits true = refl
flag_fits false = refl

-- the types of a node's fields
pub record HasTypes (n : Node) : Type 0 where
  pub mode : n.mode < 65536
  pub owner : n.owner < 4294967296
  pub mtime : n.mtime < 18446744073709551616
  pub client : n.sid.client < 256

pub node_fits : (n : Node) → HasTypes n → n.sid.number ≤ 4294967295 → (held_piece four n.kind).fits ≡ true → can_be_spelled n ≡ true
unfolding node
node_fits n types few held =
    both_true _ _ (kind_fits n.kind) (both_true _ _ (flag_fits n.marked) (both_true _ _ (below two n.mode types.mode) (both_true _ _ (below four n.owner types.owner) (both_true _ _ (below eight n.mtime types.mtime)
    (both_true _ _ (sid_spelled n.sid (below one n.sid.client types.client) (within 0 4294967295 eight n.sid.number (omega arith) few (omega (arith, few)))) (both_true _ _ held refl))))))

-- the version and what is held
record IsNode (n : Node) : Type 0 where
  sid : HasSpelling table.sid n.sid
  held : (held_piece four n.kind).fits ≡ true

parts_of : (n : Node) → can_be_spelled n ≡ true → IsNode n
unfolding node
parts_of n fits =
    let kind = second_true (u8.piece (kind_of n.kind)).fits _ fits in
    let marked = second_true (flag.piece n.marked).fits _ kind in
    let mode = second_true (u16.piece n.mode).fits _ marked in
    let owner = second_true (u32.piece n.owner).fits _ mode in
    let mtime = second_true (u64.piece n.mtime).fits _ owner in
    let sid = second_true (table.sid.piece n.sid).fits _ mtime in
    record { sid = first_true (table.sid.piece n.sid).fits _ mtime; held = first_true (held_piece four n.kind).fits _ sid }

sid_few : (s : Sid) → HasSpelling table.sid s → s.number ≤ 4294967295
unfolding table.sid
sid_few s fits = (is_within 0 4294967295 eight s.number (first_true _ _ (second_true _ _ fits))).1

pub number_few : (n : Node) → can_be_spelled n ≡ true → n.sid.number ≤ 4294967295
number_few n fits = sid_few n.sid (parts_of n fits).sid

pub held_fits : (n : Node) → can_be_spelled n ≡ true → (held_piece four n.kind).fits ≡ true
held_fits n fits = (parts_of n fits).held

-- ---- contents and targets

pub content_fits : (bytes : List ℕ) → length bytes ≤ 1048576 → HasSpelling (table.content four) bytes
content_fits bytes few = both_true _ _ (within 0 1048576 four (length bytes) (omega arith) few (omega (arith, few))) refl

pub content_few : (bytes : List ℕ) → HasSpelling (table.content four) bytes → length bytes ≤ 1048576
content_few bytes fits = (is_within 0 1048576 four (length bytes) (first_true _ _ fits)).1

pub target_fits : (bytes : List ℕ) → 1 ≤ length bytes → length bytes ≤ 1024 → HasSpelling (table.target four) bytes
target_fits bytes some few = both_true _ _ (within 1 1024 four (length bytes) some few (omega (arith, few))) refl

pub target_few : (bytes : List ℕ) → HasSpelling (table.target four) bytes → (1 ≤ length bytes) × (length bytes ≤ 1024)
target_few bytes fits = is_within 1 1024 four (length bytes) (first_true _ _ fits)
