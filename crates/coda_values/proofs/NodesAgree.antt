-- The two sides of the formats of nodes agree.
use Rattle.std.proofs.Common.{◌≡◌, ℕ, Bool, true, List, [], ◌∷◌, Option, Some, None, refl}
use Rattle.std.specs.Prelude.{IsTrue}
use Rattle.std.specs.FinMap as map
use Rattle.std.specs.FinMap.Entries.{is_sorted, below_all}
use Rattle.std.specs.Ordering.{is_lt}
use Rattle.std.proofs.lemmas.Cmp.{nat_list_cmp_total}
use Rattle.coda_fid.specs.declared.fid.Fid.{Fid}
use Rattle.coda_fid.specs.Name.{is_name, name_cmp}
use Rattle.coda_tree.specs.Bindings.{Pairs}
use Rattle.coda_tree.specs.declared.node.NodeKind.{NodeKind}
use Rattle.coda_tree.specs.declared.node.NodeKind.TheVariants.{File, Link, Dir}
use Rattle.coda_tree.proofs.Booleans.{to_T, lt_less}
use Rattle.coda_values.specs.Form.{both, number_piece, Size, one, Format}
use Rattle.coda_values.specs.Parts.{u8, counted, where_holds, items_piece}
use Rattle.coda_values.specs.Spelling.{HasSpelling}
use Rattle.coda_values.specs.Walks.{Always, Says, IsPlaced, Agrees}
use Rattle.coda_values.specs.Table.{name, target, content}
use Rattle.coda_values.specs.Nodes.{comes_after, binding_after, pairs, bindings, node_form, file_form, link_form, dir_form, kind_of, held_piece, node_forms, node}
use Rattle.coda_values.proofs.PartsAgree.{first_true, second_true, no_bytes, no_number, none_such, where_agrees, behind_tags, tags_placed, list_agrees, flag_agrees, in_words_agrees}
use Rattle.coda_values.proofs.Tabled.{u16_agrees, u32_agrees, u64_agrees, name_agrees, target_agrees, content_agrees, fid_agrees, sid_agrees}

-- ---- what a directory binds

after_agrees : (before : Option (List ℕ)) → Agrees (where_holds (comes_after before) name)
after_agrees before = where_agrees (comes_after before) name name_agrees (none_such is_name (counted u8) (no_bytes u8 (no_number one)))

pub binding_agrees : (before : Option (List ℕ)) → Agrees (binding_after before)
unfolding binding_after
binding_agrees before = record {
  written = ((after_agrees before).written, λ n k. (fid_agrees.written, λ f k. refl));
  said = λ b fits. (b.0, _, refl, (after_agrees before).said b.0, (b.1, _, refl, fid_agrees.said b.1, (refl, refl)));
  placed = ((after_agrees before).placed, λ n. (fid_agrees.placed, λ f. tt));
}

pub pairs_agree : Agrees pairs
unfolding pairs
pairs_agree = list_agrees binding_after (λ b. Some b.0) None binding_agrees

name_after : (before : Option (List ℕ)) (b : List ℕ × Fid) → HasSpelling (binding_after before) b → comes_after before b.0 ≡ true
unfolding binding_after
name_after before b fits = second_true (name.piece b.0).fits (comes_after before b.0) (first_true _ _ fits)

below_more : (m : List ℕ) (n : List ℕ) (bs : Pairs) → is_lt (name_cmp m n) ≡ true → below_all name_cmp n bs ≡ true → below_all name_cmp m bs ≡ true
below_more m n [] lt h = refl
below_more m n (b ∷ bs) lt h = rw (nat_list_cmp_total.trans m n b.0 (lt_less _ lt) (lt_less _ (first_true (is_lt (name_cmp n b.0)) (below_all name_cmp n bs) h)), below_more m n bs lt (second_true (is_lt (name_cmp n b.0)) (below_all name_cmp n bs) h)) refl

-- names that each come after the one before are in order
behind_sorted : (m : List ℕ) (bs : Pairs) → IsTrue (items_piece binding_after (λ b. Some b.0) (Some m) bs).fits → (below_all name_cmp m bs ≡ true) × (is_sorted name_cmp bs ≡ true)
behind_sorted m [] fits = (refl, refl)
behind_sorted m (b ∷ bs) fits =
    let lt : is_lt (name_cmp m b.0) ≡ true = name_after (Some m) b (first_true _ _ fits) in
    let more = behind_sorted b.0 bs (second_true _ _ fits) in
    (rw (lt, below_more m b.0 bs lt more.0) refl, rw (more.0, more.1) refl)

pub pairs_sorted : (bs : Pairs) → HasSpelling pairs bs → is_sorted name_cmp bs ≡ true
unfolding pairs
pairs_sorted [] fits = refl
pairs_sorted (b ∷ bs) fits =
    let more = behind_sorted b.0 bs (second_true _ _ (second_true _ _ fits)) in
    rw (more.0, more.1) refl

pub bindings_agree : Agrees bindings
unfolding bindings
bindings_agree = in_words_agrees map.from_sorted map.entries pairs pairs_agree
    (λ bs fits. map.entries-from_sorted name_cmp bs (to_T _ (pairs_sorted bs fits)))
    (λ b. map.same_entries_map (map.from_sorted (map.entries b)) b (map.entries-from_sorted name_cmp (map.entries b) (map.entries_sorted b)))

-- ---- node

held_agrees : {A : Type 0} (size : Size) (tag : ℕ) (f : Format A) (kind : A → NodeKind) → Agrees f → ((x : A) → kind_of (kind x) ≡ tag) → ((x : A) → held_piece size (kind x) ≡ f.piece x)
    → Always (node_form f kind) (λ p n. both (number_piece one tag) p ≡ (node size).piece n)
unfolding node
held_agrees size tag f kind agrees is same =
    (flag_agrees.written, λ m k. (u16_agrees.written, λ mode k. (u32_agrees.written, λ o k. (u64_agrees.written, λ t k. (sid_agrees.written, λ s k. (agrees.written, λ x k. rw (is x, same x) refl))))))

held_placed : {A : Type 0} (f : Format A) (kind : A → NodeKind) → Agrees f → IsPlaced true (node_form f kind)
held_placed f kind agrees = (flag_agrees.placed, λ m. (u16_agrees.placed, λ mode. (u32_agrees.placed, λ o. (u64_agrees.placed, λ t. (sid_agrees.placed, λ s. (agrees.placed, λ x. tt))))))

node_said : (size : Size) (kind : NodeKind) (mode owner mtime : ℕ) (sid : _) (marked : Bool) → Says (node size).form ((node size).piece (record { kind = kind; mode = mode; owner = owner; mtime = mtime; sid = sid; marked = marked })) (record { kind = kind; mode = mode; owner = owner; mtime = mtime; sid = sid; marked = marked })
unfolding node file_form link_form dir_form
node_said size (File c) mode owner mtime s marked = (1, _, refl, (marked, _, refl, flag_agrees.said marked, (mode, _, refl, u16_agrees.said mode, (owner, _, refl, u32_agrees.said owner, (mtime, _, refl, u64_agrees.said mtime, (s, _, refl, sid_agrees.said s, (c, _, refl, (content_agrees size).said c, (refl, refl))))))))
node_said size (Link t) mode owner mtime s marked = (2, _, refl, (marked, _, refl, flag_agrees.said marked, (mode, _, refl, u16_agrees.said mode, (owner, _, refl, u32_agrees.said owner, (mtime, _, refl, u64_agrees.said mtime, (s, _, refl, sid_agrees.said s, (t, _, refl, (target_agrees size).said t, (refl, refl))))))))
node_said size (Dir b) mode owner mtime s marked = (3, _, refl, (marked, _, refl, flag_agrees.said marked, (mode, _, refl, u16_agrees.said mode, (owner, _, refl, u32_agrees.said owner, (mtime, _, refl, u64_agrees.said mtime, (s, _, refl, sid_agrees.said s, (b, _, refl, bindings_agree.said b, (refl, refl))))))))

pub node_agrees : (size : Size) → Agrees (node size)
unfolding node file_form link_form dir_form
node_agrees size = record {
  written = behind_tags (node_forms size) (λ p n. p ≡ (node size).piece n) (
    held_agrees size 1 (content size) (λ c. File c) (content_agrees size) (λ c. refl) (λ c. refl),
    (
      held_agrees size 2 (target size) (λ t. Link t) (target_agrees size) (λ t. refl) (λ t. refl),
      (
        held_agrees size 3 bindings (λ b. Dir b) bindings_agree (λ b. refl) (λ b. refl),
        tt,
      ),
    ),
  );
  said = λ n fits. node_said size n.kind n.mode n.owner n.mtime n.sid n.marked;
  placed = tags_placed (node_forms size) (
    held_placed (content size) (λ c. File c) (content_agrees size),
    (
      held_placed (target size) (λ t. Link t) (target_agrees size),
      (
        held_placed bindings (λ b. Dir b) bindings_agree,
        tt,
      ),
    ),
  );
}
