-- The next object of a client is mentioned by none of its operations.
use Rattle.std.proofs.Common.{◌≤◌, sym, ◌∙◌, subst, inl, inr, arith}
use Rattle.std.proofs.lemmas.Bool.{false_from_ne_true}
use Rattle.coda_cancel.specs.Dropping.{mentioning}
use Rattle.coda_cml.specs.Steady.{any_record}
use Rattle.coda_plain.specs.Deeds.{full_of, created_in, course_of, pending_of}
use Rattle.coda_plain.specs.Moves.{done_on}
use Rattle.coda_plain.specs.Laws.{NextObjectsAreFresh}
use Rattle.coda_plain.proofs.Lists.{some_record}
use Rattle.coda_plain.proofs.Chunking.{in_above}
use Rattle.coda_plain.proofs.Soundness.{none_joins}

pub next_objects_are_fresh : NextObjectsAreFresh
next_objects_are_fresh cell client volume op sound some next fid creates_it =
    let deeds = done_on cell client volume in
    let n = next fid creates_it in
    false_from_ne_true (any_record (mentioning fid) (pending_of deeds)) (λ e.
    let rec = some_record (mentioning fid) (pending_of deeds) e in
    let made = (sound.agree none_joins).made client volume rec.0 (in_above (course_of deeds).done rec.0 (full_of deeds) rec.1) fid rec.2 in
    elim made.1 [
      | inl root ↦ some (sym n.own ∙ root)
      | inr low ↦ (
          let most : fid.uniq ≤ created_in (full_of deeds) = subst (λ c. fid.uniq ≤ created_in (full_of (done_on cell c volume))) n.own low in
          let up = n.next in
          let no : ⊥ = omega (arith, most, up) in absurd no)
    ])
