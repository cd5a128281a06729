-- The two sides of the formats of what replicas hold agree.
use Rattle.std.proofs.Common.{◌≡◌, ℕ, Bool, true, ◌&&◌, List, [], ◌∷◌, length, Option, Some, None, refl, sym, ap, subst, ◌∙◌}
use Rattle.std.specs.Prelude.{IsTrue, Err, ◌==◌}
use Rattle.std.proofs.lemmas.Bool.{eqb-true}
use Rattle.std.proofs.lemmas.List.{append-nil}
use Rattle.coda_fid.specs.declared.fid.Fid.{Fid}
use Rattle.coda_vv.specs.declared.vector.Vv.{Vv}
use Rattle.coda_reslog.specs.declared.entry.ResKind.{ResKind}
use Rattle.coda_reslog.specs.declared.entry.ResKind.TheVariants.{Add, Drop, Rename, Cross, Attr}
use Rattle.coda_values.specs.Form.{Piece, empty, both, limited, Size, four, gives}
use Rattle.coda_values.specs.Parts.{where_holds, optional, items, items_piece, each}
use Rattle.coda_values.specs.Reading.{read}
use Rattle.coda_values.specs.Walks.{Says, Agrees}
use Rattle.coda_values.specs.Table.{count, name, fid}
use Rattle.coda_values.specs.Held.{vector, lost, update_kind, update_kind_forms, update, updates, held, fid_follows, fid_after, fids, object_after, objects, change}
use Rattle.coda_values.proofs.PartsAgree.{first_true, second_true, no_number, where_agrees, behind_tags, tags_placed, optional_agrees, list_agrees, list_up_to_agrees, piece_is, both_empty, items_written, items_said, items_placed}
use Rattle.coda_values.proofs.Tabled.{server_agrees, count_agrees, ordinal_agrees, name_agrees, fid_agrees, sid_agrees}
use Rattle.coda_values.proofs.NodesAgree.{node_agrees}

-- ---- vector

-- what holds may be left out
pub limited_true : (holds : Bool) (p : Piece) → holds ≡ true → limited holds p ≡ both p empty
limited_true holds p is = rw is (piece_is p.bytes _ _ _ (sym (append-nil p.bytes)) refl)

eight_said : (v : Vv) (n : ℕ) → length v.0 ≡ n → Says (items (each count) (λ c. tt) tt n (λ counts. gives (record { 0 = counts }))) (both (items_piece (each count) (λ c. tt) tt v.0) empty) v
eight_said v n is =
    subst (λ (k : ℕ). Says (items (each count) (λ c. tt) tt k (λ counts. gives (record { 0 = counts }))) (both (items_piece (each count) (λ c. tt) tt v.0) empty) v) is
    (items_said (each count) (λ c. tt) (λ before. count_agrees) tt v.0 (λ counts. gives (record { 0 = counts })) empty v (refl, refl))

pub vector_agrees : Agrees vector
unfolding vector
vector_agrees = record {
  written = items_written (each count) (λ c. tt) (λ before. count_agrees) tt 8 (λ counts. gives (record { 0 = counts })) (λ p v. p ≡ vector.piece v)
      (λ counts len. sym (limited_true (length counts == 8) (items_piece (each count) (λ c. tt) tt counts) (ap (λ (n : ℕ). n == 8) len)));
  said = λ v fits.
      let eight = second_true (items_piece (each count) (λ c. tt) tt v.0).fits (length v.0 == 8) fits in
      subst (λ (p : Piece). Says (items (each count) (λ c. tt) tt 8 (λ counts. gives (record { 0 = counts }))) p v) (sym (limited_true (length v.0 == 8) (items_piece (each count) (λ c. tt) tt v.0) eight))
      (eight_said v 8 (eqb-true (length v.0) 8 eight));
  placed = items_placed {B = Vv} (each count) (λ c. tt) (λ before. count_agrees) tt 8 (λ counts. gives (record { 0 = counts })) (λ counts. tt);
}

-- ---- updates

pub lost_agrees : Agrees lost
unfolding lost
lost_agrees = record {
  written = (fid_agrees.written, λ f k. (vector_agrees.written, λ v k. refl));
  said = λ l fits. (l.fid, _, refl, fid_agrees.said l.fid, (l.vector, _, refl, vector_agrees.said l.vector, (refl, refl)));
  placed = (fid_agrees.placed, λ f. (vector_agrees.placed, λ v. tt));
}

update_kind_said : (k : ResKind) → IsTrue (update_kind.piece k).fits → Says update_kind.form (update_kind.piece k) k
unfolding update_kind
update_kind_said Add fits = (1, _, refl, (refl, refl))
update_kind_said Drop fits = (2, _, refl, (refl, refl))
update_kind_said Rename fits = (3, _, refl, (refl, refl))
update_kind_said Cross fits = (4, _, refl, (refl, refl))
update_kind_said Attr fits = (5, _, refl, (refl, refl))

pub update_kind_agrees : Agrees update_kind
unfolding update_kind
update_kind_agrees = record {
  written = behind_tags update_kind_forms (λ p k. p ≡ update_kind.piece k) (refl, (refl, (refl, (refl, (refl, tt)))));
  said = update_kind_said;
  placed = tags_placed update_kind_forms (tt, (tt, (tt, (tt, (tt, tt)))));
}

name_option_agrees : Agrees (optional name)
name_option_agrees = optional_agrees name name_agrees

lost_option_agrees : Agrees (optional lost)
lost_option_agrees = optional_agrees lost lost_agrees

pub update_agrees : Agrees update
unfolding update
update_agrees = record {
  written = (server_agrees.written, λ o k. (ordinal_agrees.written, λ n k. (sid_agrees.written, λ s k. (update_kind_agrees.written, λ u k. (name_option_agrees.written, λ a k. (name_option_agrees.written, λ b k. (fid_agrees.written, λ f k. (lost_option_agrees.written, λ l k. refl))))))));
  said = λ u fits. (u.origin, _, refl, server_agrees.said u.origin, (u.seq, _, refl, ordinal_agrees.said u.seq, (u.sid, _, refl, sid_agrees.said u.sid, (u.kind, _, refl, update_kind_agrees.said u.kind, (u.name, _, refl, name_option_agrees.said u.name, (u.other, _, refl, name_option_agrees.said u.other, (u.fid, _, refl, fid_agrees.said u.fid, (u.lost, _, refl, lost_option_agrees.said u.lost, (refl, refl)))))))));
  placed = (server_agrees.placed, λ o. (ordinal_agrees.placed, λ n. (sid_agrees.placed, λ s. (update_kind_agrees.placed, λ u. (name_option_agrees.placed, λ a. (name_option_agrees.placed, λ b. (fid_agrees.placed, λ f. (lost_option_agrees.placed, λ l. tt))))))));
}

pub updates_agree : Agrees updates
unfolding updates
updates_agree = list_up_to_agrees 256 update update_agrees

updates_option_agrees : Agrees (optional updates)
updates_option_agrees = optional_agrees updates updates_agree

-- ---- held, change

pub held_agrees : (size : Size) → Agrees (held size)
unfolding held
held_agrees size = record {
  written = ((node_agrees size).written, λ n k. (vector_agrees.written, λ v k. (updates_option_agrees.written, λ l k. refl)));
  said = λ h fits. (h.node, _, refl, (node_agrees size).said h.node, (h.vector, _, refl, vector_agrees.said h.vector, (h.ring, _, refl, updates_option_agrees.said h.ring, (refl, refl))));
  placed = ((node_agrees size).placed, λ n. (vector_agrees.placed, λ v. (updates_option_agrees.placed, λ l. tt)));
}

no_fid : read fid.form [] ≡ Err 0
unfolding fid
no_fid = rw (no_number four) refl

pub fid_after_agrees : (before : Option Fid) → Agrees (fid_after before)
fid_after_agrees before = where_agrees (fid_follows before) fid fid_agrees no_fid

pub fids_agree : Agrees fids
unfolding fids
fids_agree = list_agrees fid_after (λ f. Some f) None fid_after_agrees

pub object_agrees : (size : Size) (before : Option Fid) → Agrees (object_after size before)
unfolding object_after
object_agrees size before = record {
  written = ((fid_after_agrees before).written, λ f k. ((held_agrees size).written, λ h k. refl));
  said = λ o fits. (o.0, _, refl, (fid_after_agrees before).said o.0, (o.1, _, refl, (held_agrees size).said o.1, (refl, refl)));
  placed = ((fid_after_agrees before).placed, λ f. ((held_agrees size).placed, λ h. tt));
}

pub objects_agree : (size : Size) → Agrees (objects size)
unfolding objects
objects_agree size = list_agrees (object_after size) (λ o. Some o.0) None (object_agrees size)

pub change_agrees : (size : Size) → Agrees (change size)
unfolding change
change_agrees size = record {
  written = ((objects_agree size).written, λ o k. (fids_agree.written, λ g k. refl));
  said = λ c fits. (c.held, _, refl, (objects_agree size).said c.held, (c.gone, _, refl, fids_agree.said c.gone, (refl, refl)));
  placed = ((objects_agree size).placed, λ o. (fids_agree.placed, λ g. tt));
}
