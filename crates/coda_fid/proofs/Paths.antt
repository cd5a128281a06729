-- The text of a path and the names in it, both ways.
use Rattle.std.proofs.Common.{◌≡◌, ℕ, ◌≤◌, Bool, true, false, not, ◌&&◌, ◌==◌, nat_le, List, [], ◌∷◌, ◌++◌, length, refl, sym, ◌∙◌, ap, subst}
use Rattle.std.specs.List.{list_all, onto_first, All}
use Rattle.std.proofs.lemmas.Bool.{and_parts, and_from, not-true, eqb-true, leb-true, le-leb, both_ways}
use Rattle.std.proofs.lemmas.List.{append-nil}
use Rattle.std.proofs.lemmas.List.Elements.{All-nil, All-cons}
use Rattle.std.proofs.lemmas.List.Splits.{slice_split-cons_yes, slice_split-cons_no, slice_split_none, slice_split_at}
use Rattle.coda_fid.specs.Name.{is_name, AreNames, all_plain_bytes, is_dots_name}
use Rattle.coda_fid.specs.Path.{behind_slashes, path_text, ArePathNames, IsPath, parts, names_behind, names_in, begins_at_root, is_path}

-- the parts of a text, each behind a `/`, are the text behind a `/`
onto : (x : ℕ) (ps : List (List ℕ)) (xs : List ℕ) → behind_slashes ps ≡ 47 ∷ xs → behind_slashes (onto_first x ps) ≡ 47 ∷ (x ∷ xs)
onto x [] xs h = cc
onto x (p ∷ ps) xs h = cc

behind_more : (x : ℕ) (xs : List ℕ) (b : Bool) → (x == 47) ≡ b → behind_slashes (parts xs) ≡ 47 ∷ xs → behind_slashes (parts (x ∷ xs)) ≡ 47 ∷ (x ∷ xs)
behind_more x xs true e h =
    let k : x ≡ 47 = eqb-true x 47 e in
    ap behind_slashes (slice_split-cons_yes (λ b. b == 47) x xs e) ∙ (ap (λ r. 47 ∷ r) h ∙ ap (λ y. 47 ∷ (y ∷ xs)) (sym k))
behind_more x xs false e h = ap behind_slashes (slice_split-cons_no (λ b. b == 47) x xs e) ∙ onto x (parts xs) xs h

pub behind_slashes-parts : (bs : List ℕ) → behind_slashes (parts bs) ≡ 47 ∷ bs
behind_slashes-parts [] = refl
behind_slashes-parts (x ∷ xs) = behind_more x xs (x == 47) refl (behind_slashes-parts xs)

-- names have no `/`, so that the parts of their text are the names
no_slash : (bs : List ℕ) → all_plain_bytes bs ≡ true → All (λ x. (x == 47) ≡ false) bs
no_slash [] h = All-nil (λ x. (x == 47) ≡ false)
no_slash (b ∷ bs) h =
    let k = and_parts (not (b == 47) && not (b == 0)) (all_plain_bytes bs) h in
    All-cons (λ x. (x == 47) ≡ false) b bs (not-true (b == 47) (and_parts (not (b == 47)) (not (b == 0)) k.0).0) (no_slash bs k.1)

name_has_no_slash : (n : List ℕ) → is_name n ≡ true → All (λ x. (x == 47) ≡ false) n
name_has_no_slash n h = no_slash n (and_parts (not (length n == 0) && nat_le (length n) 255 && not (is_dots_name n)) (all_plain_bytes n) h).1

pub parts-behind : (n : List ℕ) (ns : List (List ℕ)) → AreNames (n ∷ ns) → parts (n ++ behind_slashes ns) ≡ n ∷ ns
parts-behind n [] h = ap parts (append-nil n) ∙ slice_split_none (λ b. b == 47) n (name_has_no_slash n (and_parts (is_name n) true h).0)
parts-behind n (k ∷ ks) h =
    let both = and_parts (is_name n) (list_all is_name (k ∷ ks)) h in
    slice_split_at (λ b. b == 47) n 47 (k ++ behind_slashes ks) (name_has_no_slash n both.0) refl ∙ ap (λ r. n ∷ r) (parts-behind k ks both.1)

-- the names in the text of a path are the path's
names_of_more : (n : List ℕ) (ns : List (List ℕ)) → AreNames (n ∷ ns) → names_behind (n ++ behind_slashes ns) ≡ n ∷ ns
names_of_more [] ns h = cc
names_of_more (b ∷ bs) ns h = parts-behind (b ∷ bs) ns h

pub names_in-path_text : (names : List (List ℕ)) → AreNames names → names_in (path_text names) ≡ names
names_in-path_text [] h = refl
names_in-path_text (n ∷ ns) h = names_of_more n ns h

-- the text determines the path
pub names_from_text : (a b : List (List ℕ)) → AreNames a → AreNames b → path_text a ≡ path_text b → a ≡ b
names_from_text a b p q e = sym (names_in-path_text a p) ∙ (ap names_in e ∙ names_in-path_text b q)

-- the text of the names in a text is the text
text_of_some : (names : List (List ℕ)) (x : ℕ) (xs : List ℕ) → behind_slashes names ≡ x ∷ xs → path_text names ≡ x ∷ xs
text_of_some [] x xs h = cc
text_of_some (n ∷ ns) x xs h = h

pub path_text-names_in : (bytes : List ℕ) → begins_at_root bytes ≡ true → path_text (names_in bytes) ≡ bytes
path_text-names_in [] h = cc
path_text-names_in (b ∷ []) h = ap (λ x. x ∷ []) (sym (eqb-true b 47 h))
path_text-names_in (b ∷ c ∷ rest) h =
    text_of_some (parts (c ∷ rest)) 47 (c ∷ rest) (behind_slashes-parts (c ∷ rest)) ∙ ap (λ x. x ∷ c ∷ rest) (sym (eqb-true b 47 h))

-- what the test of a text says
root_first : (names : List (List ℕ)) → begins_at_root (path_text names) ≡ true
root_first [] = refl
root_first (n ∷ ns) = refl

pub path_names_in : (bytes : List ℕ) → is_path bytes ≡ true → ArePathNames (names_in bytes)
path_names_in bytes h =
    let size = and_parts (nat_le (length bytes) 1024) (begins_at_root bytes && list_all is_name (names_in bytes)) h in
    let rest = and_parts (begins_at_root bytes) (list_all is_name (names_in bytes)) size.1 in
    let short : length bytes ≤ 1024 = leb-true (length bytes) 1024 size.0 in
    record { names = rest.1; short = subst (λ (t : List ℕ). length t ≤ 1024) (sym (path_text-names_in bytes rest.0)) short }

pub text_of_path : (bytes : List ℕ) → is_path bytes ≡ true → path_text (names_in bytes) ≡ bytes
text_of_path bytes h =
    let size = and_parts (nat_le (length bytes) 1024) (begins_at_root bytes && list_all is_name (names_in bytes)) h in
    path_text-names_in bytes (and_parts (begins_at_root bytes) (list_all is_name (names_in bytes)) size.1).0

pub path_from_test : (bytes : List ℕ) → is_path bytes ≡ true → IsPath bytes
path_from_test bytes h = (names_in bytes, (path_names_in bytes h, text_of_path bytes h))

test_of_text : (names : List (List ℕ)) → ArePathNames names → is_path (path_text names) ≡ true
test_of_text names p =
    and_from (nat_le (length (path_text names)) 1024) (begins_at_root (path_text names) && list_all is_name (names_in (path_text names))) (le-leb (length (path_text names)) 1024 p.short)
    (and_from (begins_at_root (path_text names)) (list_all is_name (names_in (path_text names))) (root_first names) (ap (list_all is_name) (names_in-path_text names p.names) ∙ p.names))

pub test_from_path : (bytes : List ℕ) → IsPath bytes → is_path bytes ≡ true
test_from_path bytes (names, (p, e)) = subst (λ (t : List ℕ). is_path t ≡ true) e (test_of_text names p)

pub no_path : (bytes : List ℕ) → is_path bytes ≡ false → ¬ IsPath bytes
no_path bytes h p = both_ways (is_path bytes) h (test_from_path bytes p)

false_unless : (b : Bool) → ¬ (b ≡ true) → b ≡ false
false_unless true n = absurd (n refl)
false_unless false n = refl

pub test_of_none : (bytes : List ℕ) → ¬ IsPath bytes → is_path bytes ≡ false
test_of_none bytes n = false_unless (is_path bytes) (λ e. n (path_from_test bytes e))
