-- The two sides of the formats of hoard databases agree.
use Rattle.std.proofs.Common.{◌≡◌, ℕ, Bool, true, List, [], ◌∷◌, refl, sym, ap, subst, ◌∙◌}
use Rattle.std.specs.Prelude.{IsTrue, ◌&&◌, nat_le}
use Rattle.std.specs.List.{list_all}
use Rattle.std.proofs.lemmas.List.{append-nil}
use Rattle.coda_fid.specs.Name.{is_name}
use Rattle.coda_fid.specs.Path.{is_path, names_in, path_text}
use Rattle.coda_fid.proofs.Paths as paths
use Rattle.coda_hdb.specs.declared.entry.Expand.{Expand}
use Rattle.coda_hdb.specs.declared.entry.Expand.TheVariants.{Alone, Children, Descendants}
use Rattle.coda_hdb.specs.declared.entry.HoardChange.{HoardChange}
use Rattle.coda_hdb.specs.declared.entry.HoardChange.TheVariants as changes
use Rattle.coda_values.specs.Form.{Piece, empty, both, limited, Size, two}
use Rattle.coda_values.specs.Parts.{number_of, between, counted}
use Rattle.coda_values.specs.Walks.{Says, Agrees}
use Rattle.coda_record.specs.Hoard.{text_of_path, path, priority, expansion, expansion_forms, hoard_entry, hoard_change, hoard_change_forms}
use Rattle.coda_values.proofs.PartsAgree.{first_true, second_true, no_number, no_bytes, none_such, where_agrees, counted_agrees, behind_tags, tags_placed, piece_is, both_empty}
use Rattle.coda_values.proofs.HeldAgree.{limited_true}
use Rattle.coda_values.proofs.Tabled.{between_agrees, volume_agrees}

text_agrees : (size : Size) → Agrees (text_of_path size)
text_agrees size = where_agrees is_path (counted (between 1 1024 (number_of size))) (counted_agrees (between 1 1024 (number_of size)) (between_agrees 1 1024 size))
    (no_bytes (between 1 1024 (number_of size)) (none_such _ (number_of size) (no_number size)))

-- the names of a path's text are names
names_of_path : (text : List ℕ) → is_path text ≡ true → list_all is_name (names_in text) ≡ true
names_of_path text is = (paths.path_names_in text is).names

path_written : (size : Size) (text : List ℕ) → IsTrue ((text_of_path size).piece text).fits → both ((text_of_path size).piece text) empty ≡ (path size).piece (names_in text)
unfolding path
path_written size text fits =
    let is : is_path text ≡ true = second_true ((counted (between 1 1024 (number_of size))).piece text).fits (is_path text) fits in
    sym (limited_true (list_all is_name (names_in text)) ((text_of_path size).piece (path_text (names_in text))) (names_of_path text is)
    ∙ ap (λ t. both ((text_of_path size).piece t) empty) (paths.text_of_path text is))

path_said : (size : Size) (names : List (List ℕ)) → IsTrue ((path size).piece names).fits → Says (path size).form ((path size).piece names) names
unfolding path
path_said size names fits =
    let good = second_true ((text_of_path size).piece (path_text names)).fits (list_all is_name names) fits in
    (path_text names, empty, limited_true (list_all is_name names) ((text_of_path size).piece (path_text names)) good, (text_agrees size).said (path_text names), (refl, paths.names_in-path_text names good))

pub path_agrees : (size : Size) → Agrees (path size)
unfolding path
path_agrees size = record {
  written = ((text_agrees size).written, λ text fits. path_written size text fits);
  said = path_said size;
  placed = ((text_agrees size).placed, λ text. tt);
}

priority_agrees : Agrees priority
priority_agrees = between_agrees 1 1000 two

expansion_said : (e : Expand) → IsTrue (expansion.piece e).fits → Says expansion.form (expansion.piece e) e
unfolding expansion
expansion_said Alone fits = (0, _, refl, (refl, refl))
expansion_said Children fits = (1, _, refl, (refl, refl))
expansion_said Descendants fits = (2, _, refl, (refl, refl))

expansion_agrees : Agrees expansion
unfolding expansion
expansion_agrees = record {
  written = behind_tags expansion_forms (λ p e. p ≡ expansion.piece e) (refl, (refl, (refl, tt)));
  said = expansion_said;
  placed = tags_placed expansion_forms (tt, (tt, (tt, tt)));
}

pub hoard_entry_agrees : (size : Size) → Agrees (hoard_entry size)
unfolding hoard_entry
hoard_entry_agrees size = record {
  written = (volume_agrees.written, λ v k. ((path_agrees size).written, λ p k. (priority_agrees.written, λ w k. (expansion_agrees.written, λ e k. refl))));
  said = λ h fits. (h.volume, _, refl, volume_agrees.said h.volume, (h.path, _, refl, (path_agrees size).said h.path, (h.priority, _, refl, priority_agrees.said h.priority, (h.expand, _, refl, expansion_agrees.said h.expand, (refl, refl)))));
  placed = (volume_agrees.placed, λ v. ((path_agrees size).placed, λ p. (priority_agrees.placed, λ w. (expansion_agrees.placed, λ e. tt))));
}

hoard_change_said : (size : Size) (c : HoardChange) → IsTrue ((hoard_change size).piece c).fits → Says (hoard_change size).form ((hoard_change size).piece c) c
unfolding hoard_change
hoard_change_said size (changes.Add e) fits = (1, _, refl, (e, _, refl, (hoard_entry_agrees size).said e, (refl, refl)))
hoard_change_said size (changes.Remove v p) fits = (2, _, refl, (v, _, refl, volume_agrees.said v, (p, _, refl, (path_agrees size).said p, (refl, refl))))
hoard_change_said size changes.Clear fits = (3, _, refl, (refl, refl))

pub hoard_change_agrees : (size : Size) → Agrees (hoard_change size)
unfolding hoard_change
hoard_change_agrees size = record {
  written = behind_tags (hoard_change_forms size) (λ p c. p ≡ (hoard_change size).piece c) (
    ((hoard_entry_agrees size).written, λ e k. refl),
    (
      (volume_agrees.written, λ v k. ((path_agrees size).written, λ p k. refl)),
      (
        refl,
        tt,
      ),
    ),
  );
  said = hoard_change_said size;
  placed = tags_placed (hoard_change_forms size) (
    ((hoard_entry_agrees size).placed, λ e. tt),
    (
      (volume_agrees.placed, λ v. ((path_agrees size).placed, λ p. tt)),
      (
        tt,
        tt,
      ),
    ),
  );
}
