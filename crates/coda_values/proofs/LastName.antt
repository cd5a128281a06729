-- The last of some names, and what it is to bind one behind it.
use Rattle.std.proofs.Common.{suc, ◌+◌, take, Result, Ok, Err, append_assoc, ◌≡◌, ℕ, ◌-◌, Bool, true, List, [], ◌∷◌, ◌++◌, length, Option, Some, None, ◌<◌, ◌^◌, refl, sym, ap, ◌∙◌, subst, arith}
use Rattle.std.specs.Prelude.{slice_get, IsTrue}
use Rattle.std.specs.Ordering.{is_lt, ordering_reverse}
use Rattle.std.specs.FinMap as map
use Rattle.std.specs.FinMap.Entries.{is_sorted, below_all, put, find}
use Rattle.std.specs.List.{flat_map}
use Rattle.std.proofs.lemmas.Bool.{ltb-true}
use Rattle.std.proofs.lemmas.Cmp.{nat_list_cmp_total}
use Rattle.std.proofs.lemmas.Grind.{flat_map-append}
use Rattle.std.proofs.lemmas.Option.{slice_get_within, get_or_from_slice_get}
use Rattle.std.proofs.Math.Seq.{take-suc, take-length}
use Rattle.std.proofs.lemmas.List.{append-nil, length-append, nil_from_length}
use Rattle.std.proofs.lemmas.List.Concat.{flat_map-cons}
use Rattle.coda_fid.specs.declared.fid.Fid.{Fid}
use Rattle.coda_fid.specs.Name.{name_cmp}
use Rattle.coda_tree.specs.Bindings.{Bindings, Pairs}
use Rattle.std.specs.declared.cmp.Ordering.TheVariants.{Less, Greater}
use Rattle.coda_tree.proofs.Booleans.{from_T, lt_less}
use Rattle.coda_values.specs.declared.fault.Fault.{Fault}
use Rattle.coda_values.specs.declared.fault.Fault.TheVariants as faults
use Rattle.coda_values.specs.Form.{gives}
use Rattle.coda_values.specs.Reading.{read}
use Rattle.coda_values.specs.Outcome.{Gives}
use Rattle.coda_values.specs.Parts.{items, items_piece}
use Rattle.coda_values.specs.Spelling.{HasSpelling}
use Rattle.coda_values.specs.Nodes.{comes_after, last_name, pairs, bindings, binding_after}
use Rattle.coda_values.proofs.Lists.{left_to_read}
use Rattle.coda_values.proofs.PartsAgree.{first_true, second_true}

at_end : (bs : Pairs) (b : List ℕ × Fid) → slice_get (bs ++ b ∷ []) (length bs) ≡ Some b
at_end [] b = refl
at_end (c ∷ bs) b = at_end bs b

pub last_behind : (bs : Pairs) (b : List ℕ × Fid) → last_name (bs ++ b ∷ []) ≡ Some b.0
last_behind bs b =
    let at : length (bs ++ b ∷ []) - 1 ≡ length bs = omega (arith, length-append bs (b ∷ [])) in
    rw (at, at_end bs b) refl

-- how a binding is written depends on no other
bindings_bytes : (before : Option (List ℕ)) (bs : Pairs) → (items_piece binding_after (λ b. Some b.0) before bs).bytes ≡ flat_map (λ b. ((binding_after None).piece b).bytes) bs
unfolding binding_after
bindings_bytes before [] = refl
bindings_bytes before (b ∷ bs) = ap (λ (c : List ℕ). ((binding_after before).piece b).bytes ++ c) (bindings_bytes (Some b.0) bs) ∙ sym (flat_map-cons (λ b. ((binding_after None).piece b).bytes) b bs)

pub pairs_bytes : (bs : Pairs) → (items_piece binding_after (λ b. Some b.0) None bs).bytes ≡ flat_map (λ b. ((binding_after None).piece b).bytes) bs
pairs_bytes bs = bindings_bytes None bs

-- there are fewer than 2 ^ 32 bindings in what has a spelling
pub few_bindings : (b : Bindings) → HasSpelling bindings b → length (map.entries b) < 2 ^ 32
unfolding bindings pairs
few_bindings b fits = ltb-true _ _ (first_true _ _ fits)

-- a name behind the last one is behind all
pub record IsBehind (bs : Pairs) (name : List ℕ) (fid : Fid) : Type 0 where
  pub free : find name_cmp name bs ≡ None
  pub put_last : put name_cmp name fid bs ≡ bs ++ (name, fid) ∷ []

-- the last of the rest is the last of all
last_rest : (b c : List ℕ × Fid) (bs : Pairs) → last_name (b ∷ c ∷ bs) ≡ last_name (c ∷ bs)
last_rest b c bs =
    let all : length (b ∷ c ∷ bs) - 1 ≡ suc (length bs) = omega arith in
    let rest : length (c ∷ bs) - 1 ≡ length bs = omega arith in
    rw (all, rest) refl

rest_after : (b : List ℕ × Fid) (bs : Pairs) (name : List ℕ) → comes_after (last_name (b ∷ bs)) name ≡ true → comes_after (last_name bs) name ≡ true
rest_after b [] name after = refl
rest_after b (c ∷ bs) name after = subst (λ (o : Option (List ℕ)). comes_after o name ≡ true) (last_rest b c bs) after

first_less : (b : List ℕ × Fid) (bs : Pairs) (name : List ℕ) → is_sorted name_cmp (b ∷ bs) ≡ true → comes_after (last_name (b ∷ bs)) name ≡ true → name_cmp b.0 name ≡ Less
first_less b [] name sorted after = lt_less _ after
first_less b (c ∷ bs) name sorted after =
    let below = first_true (is_lt (name_cmp b.0 c.0)) (below_all name_cmp b.0 bs) (first_true (below_all name_cmp b.0 (c ∷ bs)) (is_sorted name_cmp (c ∷ bs)) sorted) in
    let rest = second_true (below_all name_cmp b.0 (c ∷ bs)) (is_sorted name_cmp (c ∷ bs)) sorted in
    nat_list_cmp_total.trans b.0 c.0 name (lt_less _ below) (first_less c bs name rest (rest_after b (c ∷ bs) name after))

pub is_behind : (bs : Pairs) (name : List ℕ) (fid : Fid) → is_sorted name_cmp bs ≡ true → comes_after (last_name bs) name ≡ true → IsBehind bs name fid
is_behind [] name fid sorted after = record { free = refl; put_last = refl }
is_behind (b ∷ bs) name fid sorted after =
    let greater : name_cmp name b.0 ≡ Greater = nat_list_cmp_total.antisymm name b.0 ∙ ap ordering_reverse (first_less b bs name sorted after) in
    let rest = is_behind bs name fid (second_true (below_all name_cmp b.0 bs) (is_sorted name_cmp bs) sorted) (rest_after b bs name after) in
    record { free = rw greater rest.free; put_last = rw greater (ap (λ xs. b ∷ xs) rest.put_last) }

-- where the last of them is found
pub last_found : (bs : Pairs) (i : ℕ) (b : List ℕ × Fid) (name : List ℕ) → i ≡ length bs - 1 → Some b ≡ slice_get bs i → comes_after (last_name bs) name ≡ is_lt (name_cmp b.0 name)
last_found bs i b name at found = rw (sym at, sym found) refl

-- a directory that binds one name more, behind its last
pub bound_last : (e : Bindings) (name : List ℕ) (fid : Fid) → comes_after (last_name (map.entries e)) name ≡ true → map.entries (map.insert e name fid) ≡ map.entries e ++ (name, fid) ∷ []
bound_last e name fid after = map.entries-insert nat_list_cmp_total e name fid ∙ (is_behind (map.entries e) name fid (from_T _ (map.entries_sorted e)) after).put_last

pub free_last : (e : Bindings) (name : List ℕ) → comes_after (last_name (map.entries e)) name ≡ true → map.get e name ≡ None
free_last e name after = map.get-entries e name ∙ (is_behind (map.entries e) name (record { volume = 0; vnode = 0; uniq = 0 }) (from_T _ (map.entries_sorted e)) after).free

-- a directory is what its bindings make
pub made_again : (e : Bindings) → map.from_sorted (map.entries e) ≡ e
made_again e = map.same_entries_map (map.from_sorted (map.entries e)) e (map.entries-from_sorted name_cmp (map.entries e) (map.entries_sorted e))

no_entries : (e : Bindings) → e ≡ map.empty → map.entries e ≡ []
no_entries e is = nil_from_length (map.entries e) (sym (map.len-entries e) ∙ ap map.len is ∙ map.len-empty name_cmp Fid)

-- nothing was read yet
pub first_turn : (e : Bindings) (count : ℕ) (bytes : List ℕ) → e ≡ map.empty
    → left_to_read binding_after (λ b. Some b.0) (last_name (map.entries e)) (map.entries e) (count - 0) bytes ≡ read (items binding_after (λ b. Some b.0) None count (λ bs. gives bs)) bytes
first_turn e count bytes is =
    let none = no_entries e is in
    let all : count - 0 ≡ count = omega arith in
    rw (none, all) refl

-- bindings that were read one after the other, as the directory that they make
pub as_bindings : (r : Result Bindings Fault) (rest bytes : List ℕ) → Gives (λ e. (map.entries e, rest)) r (read pairs.form bytes) → Gives (λ b. (b, rest)) r (read bindings.form bytes)
unfolding bindings
as_bindings (Ok e) rest bytes is = rw is (ap (λ (m : Bindings). Ok (m, rest)) (made_again e))
as_bindings (Err faults.Memory) rest bytes is = tt
as_bindings (Err (faults.Broken left)) rest bytes is = rw is refl

flat_map_one : (f : List ℕ × Fid → List ℕ) (b : List ℕ × Fid) → flat_map f (b ∷ []) ≡ f b
flat_map_one f b = flat_map-cons f b [] ∙ append-nil (f b)

-- one binding more is written
pub written_on : (f : List ℕ × Fid → List ℕ) (bs : Pairs) (i : ℕ) (b : List ℕ × Fid) (out now next : List ℕ) → Some b ≡ slice_get bs i → now ≡ out ++ flat_map f (take i bs) → next ≡ now ++ f b
    → next ≡ out ++ flat_map f (take (i + 1) bs)
written_on f bs i b out now next is so_far more =
    let within = slice_get_within bs i b (sym is) in
    let next_one : i + 1 ≡ suc i = omega arith in
    let one : take (i + 1) bs ≡ take i bs ++ b ∷ [] = ap (λ k. take k bs) next_one ∙ take-suc bs i b within ∙ ap (λ x. take i bs ++ x ∷ []) (get_or_from_slice_get bs i b b (sym is)) in
    let split : flat_map f (take (i + 1) bs) ≡ flat_map f (take i bs) ++ f b = ap (λ x. flat_map f x) one ∙ flat_map-append f (take i bs) (b ∷ []) ∙ ap (λ x. flat_map f (take i bs) ++ x) (flat_map_one f b) in
    more ∙ ap (λ x. x ++ f b) so_far ∙ append_assoc out (flat_map f (take i bs)) (f b) ∙ ap (λ x. out ++ x) (sym split)

-- all were written
pub all_taken : (bs : Pairs) (i : ℕ) → i ≡ length bs → take i bs ≡ bs
all_taken bs i is = ap (λ k. take k bs) is ∙ take-length bs
