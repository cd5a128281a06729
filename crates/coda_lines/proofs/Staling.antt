-- Behind the settlement of an applied chunk a client has no valid copy of what the chunk mentioned.
use Rattle.std.proofs.Common.{◌≡◌, ℕ, ◌&&◌, ◌||◌, cond, List, [], ◌∷◌, append-nil, Some, None, refl, ap, ◌∙◌}
use Rattle.std.proofs.lemmas.Bool.{eq-eqb}
use Rattle.std.proofs.lemmas.List.Folds.{list_any-append}
use Rattle.coda_fid.specs.Fid.{same_fid}
use Rattle.coda_fid.specs.Op.{fids_of}
use Rattle.coda_fid.specs.declared.fid.Fid.{Fid}
use Rattle.coda_fid.specs.declared.op.Record.{Record}
use Rattle.coda_cancel.specs.Dropping.{mentioning}
use Rattle.coda_certify.specs.declared.verdict.Verdict.TheVariants.{Applied}
use Rattle.coda_cml.specs.Steady.{any_record}
use Rattle.coda_walk.specs.Going.{is_listed}
use Rattle.coda_plain.specs.Cell.{Did}
use Rattle.coda_plain.specs.Deeds.{Settled}
use Rattle.coda_cell.specs.State.{ClientState, CellState, Event, at_client, after, after_all, log_of}
use Rattle.coda_lines.specs.Lines.{stale, mentioned_by, chunk_of}
use Rattle.coda_lines.specs.Staling.{settled_in, AppliedChunksLeaveNoCopies}

-- what records mention is listed
mentioned_is : (recs : List Record) (f : Fid) → is_listed (mentioned_by recs) f ≡ any_record (mentioning f) recs
mentioned_is [] f = refl
mentioned_is (rec ∷ recs) f =
    list_any-append (λ g. same_fid g f) (fids_of rec.op) (mentioned_by recs)
    ∙ ap (λ b. mentioning f rec.op || b) (mentioned_is recs f)

-- what of copies is left
stale_leaves : (s : CellState) (number : ℕ) (fids : List Fid) (f : Fid)
    → (after_all s (stale number fids)).copies number f ≡ cond (is_listed fids f) None (s.copies number f)
stale_leaves s number [] f = refl
stale_leaves s number (fid ∷ fids) f =
    ap (λ b. cond (b && is_listed (fid ∷ fids) f) None (s.copies number f)) (eq-eqb number number refl)

module _ (s : CellState) (number volume chunk : ℕ) (c : ClientState) (f : Fid)
    (there : s.clients number ≡ Some c) where
  abbrev records : List Record
  records = (log_of (c.volumes volume)).chunk

  abbrev event : Event
  event = at_client number (Did volume (Settled chunk Applied))

  settled_leaves : (settled_in s number volume chunk Applied).copies number f
      ≡ cond (any_record (mentioning f) records) None (s.copies number f)
  settled_leaves =
      let gone : List Fid = mentioned_by (chunk_of (s.clients number) volume) in
      let is : gone ≡ mentioned_by records = ap (λ o. mentioned_by (chunk_of o volume)) there in
      ap (λ events. (after_all (after s event) events).copies number f) (append-nil (stale number gone))
      ∙ stale_leaves (after s event) number gone f
      ∙ ap (λ b. cond b None (s.copies number f)) (ap (λ l. is_listed l f) is ∙ mentioned_is records f)

pub applied_chunks_leave_no_copies : AppliedChunksLeaveNoCopies
applied_chunks_leave_no_copies = record {
  mentioned = λ s number volume chunk c f there is.
      settled_leaves s number volume chunk c f there ∙ ap (λ b. cond b None (s.copies number f)) is;
  others = λ s number volume chunk c f there is.
      settled_leaves s number volume chunk c f there ∙ ap (λ b. cond b None (s.copies number f)) is;
  conflicts = λ s number volume chunk record_number why f. refl;
}
